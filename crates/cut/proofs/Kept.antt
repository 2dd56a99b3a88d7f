-- No byte is lost, and a segment begins at a place exactly if the place is among the starts of the delivery's segments.
use Prim.Native.Nat.{ℕ}
use mathlib.Core.Path.{◌≡◌, refl, sym, ◌∙◌, ap}
use mathlib.Core.Bool.{Bool, true, false, ◌||◌, or-true, false≢true}
use mathlib.Core.List.Memᴰ
use mathlib.Core.List.{List, [], ◌∷◌, map, Memᴰ}
use mathlib.Core.Logic.{◌⊎◌, ◌↔◌, inl, inr}
use lib.ListN.{length, drop}
use lib.Dec.{eqb, ltb}
use borrow.Author.Tests.{eq-eqb, eqb-true, ltb-true, ltb-false}
use Rattle.bytewise.specs.Bytes.{part, begins}
use Rattle.bytewise.proofs.Limits.{part_out}
use Rattle.cut.specs.declared.service.Syntax.{Syntax}
use Rattle.cut.specs.Segments.{Segment, end_of, segments_at, past_at, breaks, begins_in}
use Rattle.cut.specs.Laying.{Laid}
use Rattle.cut.specs.Admission.{UNA, nine, unbroken, admission_of, opening_of, segments}
use Rattle.cut.specs.Calls.{begins_segment}
use Rattle.cut.proofs.Places.{admitted}
use Rattle.cut.proofs.Ahead.{pasts, some-ahead, first-ahead}
use Rattle.cut.proofs.Fronting.{admitted_una}

module _ (y : Syntax) (d : List ℕ) where
  pub laid_none : (at : ℕ) → segments_at y d at ≡ [] → breaks y (drop at d) ≡ true
  laid_none at h = go (ltb (past_at y d at) (length d)) refl
    where
      go : (b : Bool) → ltb (past_at y d at) (length d) ≡ b → breaks y (drop at d) ≡ true
      go true e =
          let l = ltb-true _ _ e in
          absurd (some-ahead y d (past_at y d at) l ((pasts y d at).stops l) (sym (pasts y d at).list ∙ h))
      go false e = ap (breaks y) (sym (part_out d at (past_at y d at) (ltb-false _ _ e))) ∙ (pasts y d at).between

  laid : (at : ℕ) (ss : List Segment) → segments_at y d at ≡ ss → Laid y d at ss
  unfolding Laid
  laid at [] h = laid_none at h
  laid at (s ∷ ss) h =
      let f = first-ahead y d at s ss h in
      (f.later, f.between, f.bytes, laid (end_of s) ss (sym f.rest))

  -- an admitted delivery is line breaks, UNA if it stands there, and then segments with line breaks before and behind them
  pub record Kept : Type 0 where
    pub breaks-first : breaks y (part 0 (past_at y d 0) d) ≡ true
    pub una_next : begins UNA (unbroken y d) ≡ true → begins (nine y) (unbroken y d) ≡ true
    pub then-segments : Laid y d (opening_of y d) (segments y d)

  pub no_byte_lost : admission_of y d ≡ 0 → Kept
  unfolding admission_of
  no_byte_lost e =
      record {
        breaks-first = (pasts y d 0).between;
        una_next = admitted_una y (length d) (unbroken y d) e;
        then-segments = laid (opening_of y d) (segments y d) (sym (admitted y d e));
      }

abbrev pub starts : List Segment → List ℕ
starts ss = map (λ s. s.start) ss

begins-member : (at : ℕ) (ss : List Segment) → begins_in at ss ≡ true → Memᴰ at (starts ss)
unfolding begins_in
begins-member at [] h = absurd (false≢true h)
begins-member at (s ∷ ss) h = go (eqb at s.start) refl h (begins-member at ss)
  where
    go
        : (b : Bool) → eqb at s.start ≡ b → (b || begins_in at ss) ≡ true → (begins_in at ss ≡ true → Memᴰ at (starts ss))
        → Memᴰ at (starts (s ∷ ss))
    go true e k ih = Memᴰ.head (eqb-true at s.start e)
    go false e k ih = Memᴰ.tail (ih k)

member-begins : (at : ℕ) (ss : List Segment) → Memᴰ at (starts ss) → begins_in at ss ≡ true
unfolding begins_in
member-begins at [] h = absurd (Memᴰ.not-nil h)
member-begins at (s ∷ ss) h = go (Memᴰ.cases_cons h) (member-begins at ss)
  where
    go : (at ≡ s.start) ⊎ Memᴰ at (starts ss) → (Memᴰ at (starts ss) → begins_in at ss ≡ true) → (eqb at s.start || begins_in at ss) ≡ true
    go (inl e) ih = rw (eq-eqb _ _ e)
    go (inr m) ih = rw (ih m, or-true)

-- begins_segment says yes exactly at the starts of the delivery's segments
pub begins_iff : (y : Syntax) (d : List ℕ) (at : ℕ) → (begins_segment y d at ≡ true) ↔ Memᴰ at (starts (segments y d))
unfolding begins_segment
begins_iff y d at = (begins-member at (segments y d), member-begins at (segments y d))
