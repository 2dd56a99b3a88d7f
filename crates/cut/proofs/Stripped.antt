-- The usual reading is, places aside, the strict reading of the same bytes without those that are skipped.
use Prim.Native.Nat.{ℕ, ◌+◌, ◌≤◌}
use mathlib.Core.Path.{◌≡◌, refl, sym, ◌∙◌, ap, ap₂}
use mathlib.Core.Bool.{Bool, true, false, cond, not, ◌&&◌, and-false, true≢false}
use mathlib.Core.List.{List, [], ◌∷◌, ◌++◌, map, head-eq_of_cons-eq, tail-eq_of_cons-eq, nil≢cons}
use native.Mathlib.Nat.{add-zero}
use lib.ListN.{length, drop}
use lib.Dec.{eqb}
use borrow.Author.Tests.{eq-eqb, le-ltb}
use Rattle.cut.specs.declared.service.Syntax.{Syntax}
use Rattle.bytewise.specs.Bytes.{begins}
use Rattle.cut.specs.Base.{strictly}
use Rattle.cut.specs.Segments.{Segment, end_of, segments_from, segments_of, segments_at, joined}
use Rattle.cut.specs.Admission.{limit, UNA, nine, admits, opens, only_if, opening_of, segments}
use Rattle.cut.specs.Fronts.{moved, whole, after, glued, meet}
use Rattle.cut.proofs.Appended.{segments-append, cuts_moved}
use Rattle.cut.proofs.First.{first, cutting}
use Rattle.cut.proofs.Meeting.{after-whole}
use Rattle.cut.proofs.Ahead.{FirstAhead, first-ahead}
use Rattle.cut.specs.Characters.{valid}
use Rattle.cut.proofs.Fronting.{admission_valid}
use Rattle.cut.proofs.Places.{refused, of_segments}
use Rattle.cut.proofs.Settings.{strict_segments, strict_delivery}

-- a segment without its place
abbrev pub placeless : Segment → Segment
placeless s = record { start = 0; bytes = s.bytes; piece = s.piece }

-- one segment that may stand anywhere
record One (k : ℕ) (s : Segment) (xs : List Segment) : Type 0 where
  place : ℕ
  same : map (moved k) xs ≡ record { start = place; bytes = s.bytes; piece = s.piece } ∷ []

one-moved : (k q : ℕ) (s : Segment) (xs : List Segment) → map (moved k) xs ≡ s ∷ [] → One q s xs
one-moved k q s [] h = absurd (nil≢cons h)
one-moved k q s (x ∷ []) h =
    let e = head-eq_of_cons-eq h in
    let b : x.bytes ≡ s.bytes = ap (λ (t : Segment). t.bytes) e in
    let c : x.piece ≡ s.piece = ap (λ (t : Segment). t.piece) e in
    record { place = q + x.start; same = λ i. record { start = q + x.start; bytes = b i; piece = c i } ∷ [] }
one-moved k q s (x ∷ z ∷ zs) h = absurd (nil≢cons (sym (tail-eq_of_cons-eq h)))

piece-last
    : (b : Bool) (n : ℕ) (bs : List ℕ)
    → map placeless (meet (record { start = n; bytes = bs; piece = b } ∷ []) []) ≡ record { start = 0; bytes = bs; piece = b } ∷ []
unfolding meet glued
piece-last true n bs = refl
piece-last false n bs = refl

whole-first
    : (b : Bool) (n : ℕ) (bs : List ℕ) (ts : List Segment) → b ≡ false
    → map placeless (meet (record { start = n; bytes = bs; piece = b } ∷ []) ts) ≡ record { start = 0; bytes = bs; piece = b } ∷ map placeless ts
unfolding meet
whole-first true n bs ts h = absurd (true≢false h)
whole-first false n bs ts h = refl

closed : (s : Segment) → s.piece ≡ false → whole (s ∷ []) ≡ true
unfolding whole
closed s e = ap (λ (b : Bool). not b && true) e

module _ (y : Syntax) (d : List ℕ) (at : ℕ) (s : Segment) (ss : List Segment) (f : FirstAhead y d at s ss) where
  -- a segment's own bytes are cut into just it
  alone_cut : segments_from y s.start false s.bytes ≡ s ∷ []
  alone_cut =
      let c = cutting y d s.start false s.start (end_of s) s.piece f.exact in
      ap (segments_from y s.start false) f.bytes ∙ (first y s.start false (drop s.start d) _ _ c.list).alone
      ∙ ap (λ (bs : List ℕ). record { start = s.start; bytes = bs; piece = s.piece } ∷ []) (sym f.bytes)

  anywhere : (q : ℕ) → One q s (segments_from y 0 false s.bytes)
  anywhere q =
      one-moved s.start q s (segments_from y 0 false s.bytes)
      (sym (cuts_moved y s.start 0 false s.bytes) ∙ ap (λ (p : ℕ). segments_from y p false s.bytes) (add-zero s.start) ∙ alone_cut)

  -- before other bytes
  first_of_joined
      : (q : ℕ) (js : List ℕ)
      → segments_from y q false (s.bytes ++ js)
      ≡ meet (record { start = (anywhere q).place; bytes = s.bytes; piece = s.piece } ∷ [])
      (segments_from y (q + length s.bytes) (after y false s.bytes) js)
  first_of_joined q js =
      segments-append y q false s.bytes js
      ∙ ap (λ (us : List Segment). meet us (segments_from y (q + length s.bytes) (after y false s.bytes) js))
      (ap (λ (p : ℕ). segments_from y p false s.bytes) (sym (add-zero q)) ∙ cuts_moved y q 0 false s.bytes ∙ (anywhere q).same)

  Joined_step
      : (b : Bool) → s.piece ≡ b → (q : ℕ) → map placeless ss ≡ map placeless (segments_from y (q + length s.bytes) false (joined ss))
      → map placeless (s ∷ ss) ≡ map placeless (segments_from y q false (s.bytes ++ joined ss))
  unfolding whole joined segments_from
  Joined_step true e q ih =
      let n : ss ≡ [] = f.last e in
      rw n (sym (ap (map placeless) (first_of_joined q []) ∙ piece-last s.piece (anywhere q).place s.bytes))
  Joined_step false e q ih =
      let a : after y false s.bytes ≡ false = after-whole y s.start s.bytes (ap whole f.alone ∙ closed s e) in
      sym
      (ap (map placeless) (first_of_joined q (joined ss)) ∙ whole-first s.piece (anywhere q).place s.bytes _ e
      ∙ ap (λ (us : List Segment). placeless s ∷ us)
      (ap (λ (r : Bool). map placeless (segments_from y (q + length s.bytes) r (joined ss))) a ∙ sym ih))

-- the bytes of some segments, one after the other, are cut into just these
joined_cut
    : (y : Syntax) (d : List ℕ) (at q : ℕ) (ss : List Segment) → segments_at y d at ≡ ss → map placeless ss
    ≡ map placeless (segments_from y q false (joined ss))
unfolding joined segments_from
joined_cut y d at q [] h = refl
joined_cut y d at q (s ∷ ss) h =
    let f = first-ahead y d at s ss h in
    Joined_step y d at s ss f s.piece refl q (joined_cut y d (end_of s) (q + length s.bytes) ss (sym f.rest))

-- the usual reading of the bytes from a place on, and the strict one of what is left of them
pub usual_is_strict
    : (y : Syntax) (d : List ℕ) (at q : ℕ) → map placeless (segments_at y d at) ≡ map placeless (segments_of (strictly y) q (joined (segments_at y d at)))
usual_is_strict y d at q =
    joined_cut y d at q (segments_at y d at) refl ∙ ap (map placeless) (sym (strict_segments y q (joined (segments_at y d at))))

strictly-valid : (y : Syntax) → valid (strictly y) ≡ valid y
unfolding valid
strictly-valid y = refl

begins-itself : (xs zs : List ℕ) → begins xs (xs ++ zs) ≡ true
unfolding begins
begins-itself [] zs = refl
begins-itself (x ∷ xs) zs = rw (eq-eqb x x refl) (begins-itself xs zs)

nine-right : (y : Syntax) (xs : List ℕ) → ◌≡◌ {A = ℕ} (cond (begins UNA (nine y ++ xs) && not (begins (nine y) (nine y ++ xs))) 2 0) 0
nine-right y xs = rw (begins-itself (nine y) xs, and-false (begins UNA (nine y ++ xs)))

module _ (y : Syntax) (d : List ℕ) where
  -- the delivery's segments without the bytes that are skipped, behind UNA
  abbrev pub stripped : List ℕ
  stripped = nine y ++ joined (segments y d)

  stripped_opens : opens stripped ≡ 9
  unfolding opens begins
  stripped_opens = refl

  stripped_admitted : valid y ≡ true → length stripped ≤ limit → admits y (length stripped) stripped ≡ 0
  unfolding admits
  stripped_admitted v h = rw (le-ltb limit (length stripped) h, v) (nine-right y (joined (segments y d)))

  delivery_cut : map placeless (segments y d) ≡ map placeless (segments_from y 9 false (joined (segments y d)))
  unfolding joined segments_from
  delivery_cut =
      of_segments y d (λ (ss : List Segment). map placeless ss ≡ map placeless (segments_from y 9 false (joined ss))) refl
      (joined_cut y d (opening_of y d) 9 (segments_at y d (opening_of y d)) refl)

  strict_stripped : valid y ≡ true → length stripped ≤ limit → segments (strictly y) stripped ≡ segments_from y 9 false (joined (segments y d))
  strict_stripped v h =
      strict_delivery y stripped
      ∙ ap₂ (λ (a o : ℕ). only_if (eqb a 0) (segments_from y o false (drop o stripped))) (stripped_admitted v h) stripped_opens

  -- a whole delivery: places aside, it holds what the strict reading finds in it once the skipped bytes are taken out
  pub delivery_is_strict : length stripped ≤ limit → map placeless (segments y d) ≡ map placeless (segments (strictly y) stripped)
  delivery_is_strict h = go (valid y) refl
    where
      unusable : (e : List ℕ) (z : Syntax) → valid z ≡ false → segments z e ≡ []
      unusable e z v = refused z e (λ a. true≢false (sym (admission_valid z e a) ∙ v))

      go : (b : Bool) → valid y ≡ b → map placeless (segments y d) ≡ map placeless (segments (strictly y) stripped)
      go true v = delivery_cut ∙ sym (ap (map placeless) (strict_stripped v h))
      go false v = ap (map placeless) (unusable d y v ∙ sym (unusable stripped (strictly y) (strictly-valid y ∙ v)))
