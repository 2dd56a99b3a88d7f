-- The strict reading is document 01's to the byte, and a delivery without CR and LF is read alike by both.
use Prim.Native.Nat.{ℕ, zero, suc, ◌+◌, ◌<◌}
use mathlib.Core.Path.{◌≡◌, refl, sym, ◌∙◌, ap, ap₂}
use mathlib.Core.Bool.{Bool, true, false, not, ◌&&◌, and-false}
use mathlib.Core.List.{List, [], ◌∷◌, ◌++◌}
use native.Mathlib.Nat.{zero-add}
use native.Mathlib.Omega.{arith}
use lib.ListN.{length, drop}
use lib.Dec.{eqb}
use borrow.Author.Tests.{ne_eqb, eqb-false, not-true}
use Rattle.cut.specs.declared.service.Syntax.{Syntax}
use Rattle.bytewise.proofs.Booleans.{and_both, both-and, or_neither}
use Rattle.cut.specs.Base.{strictly}
use Rattle.cut.specs.Segments.{Segment, end_of, ends, frees, join, segments_from, is_break, trim, trimmed, segments_of, segments_at, past, joined}
use Rattle.cut.specs.Admission.{admits, opens, admission_of, opening_of, only_if, segments}
use Rattle.cut.specs.Characters.{has, valid}
use Rattle.cut.proofs.Appended.{segments-joined}
use Rattle.cut.proofs.Skips.{trim-kept, segments_are}
use Rattle.cut.proofs.Chains.{Chain, chained}

module _ (y : Syntax) where
  ends-strictly : (r : Bool) (x : ℕ) → ends (strictly y) r x ≡ ends y r x
  unfolding ends
  ends-strictly true x = refl
  ends-strictly false x = refl

  frees-strictly : (r : Bool) (x : ℕ) → frees (strictly y) r x ≡ frees y r x
  unfolding frees
  frees-strictly true x = refl
  frees-strictly false x = refl

  cuts_strictly : (p : ℕ) (r : Bool) (xs : List ℕ) → segments_from (strictly y) p r xs ≡ segments_from y p r xs
  unfolding segments_from
  cuts_strictly p r [] = refl
  cuts_strictly p r (x ∷ xs) =
      ap₂ (λ (e : Bool) (ss : List Segment). join e p x ss) (ends-strictly r x)
      (cuts_strictly (suc p) (frees (strictly y) r x) xs ∙ ap (λ (f : Bool). segments_from y (suc p) f xs) (frees-strictly r x))

  kept-strictly : (x : ℕ) → is_break (strictly y) x ≡ false
  unfolding is_break
  kept-strictly x = refl

  trim-strictly
      : (p : ℕ) (bs : List ℕ) (b : Bool) (us : List Segment) → 0 < length bs
      → trim (strictly y) p bs b us ≡ record { start = p; bytes = bs; piece = b } ∷ us
  trim-strictly p [] b us h = absurd (omega arith)
  trim-strictly p (x ∷ xs) b us h = trim-kept (strictly y) p x xs b us (kept-strictly x)

  trimmed-strictly : (p : ℕ) (ss : List Segment) (q : ℕ) → Chain p ss q → trimmed (strictly y) ss ≡ ss
  unfolding Chain trimmed
  trimmed-strictly p [] q h = refl
  trimmed-strictly p (s ∷ ss) q h =
      trim-strictly s.start s.bytes s.piece (trimmed (strictly y) ss) h.1
      ∙ ap (λ (us : List Segment). s ∷ us) (trimmed-strictly (end_of s) ss q h.3)

  -- no line break is taken off
  pub strict_segments : (p : ℕ) (xs : List ℕ) → segments_of (strictly y) p xs ≡ segments_from y p false xs
  strict_segments p xs =
      segments_are (strictly y) p xs ∙ ap (trimmed (strictly y)) (cuts_strictly p false xs) ∙ trimmed-strictly p _ (p + length xs) (chained y p false xs)

  past-strictly : (p : ℕ) (xs : List ℕ) → past (strictly y) p xs ≡ p
  unfolding past
  past-strictly p [] = refl
  past-strictly p (x ∷ xs) = rw (kept-strictly x)

  module _ (d : List ℕ) where
    opening-strictly : opening_of (strictly y) d ≡ opens d
    unfolding opening_of
    opening-strictly = rw (past-strictly 0 d) (zero-add (opens d))

    admission_strictly : admission_of (strictly y) d ≡ admits y (length d) d
    unfolding admission_of admits valid
    admission_strictly = rw (past-strictly 0 d)

    -- the delivery as document 01 cuts it
    pub strict_delivery : segments (strictly y) d ≡ only_if (eqb (admits y (length d) d) 0) (segments_from y (opens d) false (drop (opens d) d))
    unfolding segments
    strict_delivery =
        ap₂ (λ (a o : ℕ). only_if (eqb a 0) (segments_at (strictly y) d o)) admission_strictly opening-strictly
        ∙ ap (only_if (eqb (admits y (length d) d) 0)) (strict_segments (opens d) (drop (opens d) d))

  -- no byte is a line break
  unfoldable pub none : List ℕ → Bool
  none [] = true
  none (x ∷ xs) = not (is_break y x) && none xs

  pub none_without : (xs : List ℕ) → has 13 xs ≡ false → has 10 xs ≡ false → none xs ≡ true
  unfolding none has is_break
  none_without [] h k = refl
  none_without (x ∷ xs) h k =
      let c = or_neither (eqb 13 x) (has 13 xs) h in
      let l = or_neither (eqb 10 x) (has 10 xs) k in
      let a : eqb x 13 ≡ false = ne_eqb x 13 (λ e. eqb-false 13 x c.0 (sym e)) in
      let b : eqb x 10 ≡ false = ne_eqb x 10 (λ e. eqb-false 10 x l.0 (sym e)) in
      rw (a, b, and-false y.skips) (none_without xs c.1 l.1)

  none-front : (xs zs : List ℕ) → none (xs ++ zs) ≡ true → (none xs ≡ true) × (none zs ≡ true)
  unfolding none
  none-front [] zs h = (refl, h)
  none-front (x ∷ xs) zs h =
      let k = and_both (not (is_break y x)) (none (xs ++ zs)) h in
      let l = none-front xs zs k.1 in
      (both-and _ _ k.0 l.0, l.1)

  trim-none
      : (p : ℕ) (bs : List ℕ) (b : Bool) (us : List Segment) → 0 < length bs → none bs ≡ true
      → trim y p bs b us ≡ record { start = p; bytes = bs; piece = b } ∷ us
  unfolding none
  trim-none p [] b us h n = absurd (omega arith)
  trim-none p (x ∷ xs) b us h n = trim-kept y p x xs b us (not-true _ (and_both (not (is_break y x)) (none xs) n).0)

  trimmed-none : (p : ℕ) (ss : List Segment) (q : ℕ) → Chain p ss q → none (joined ss) ≡ true → trimmed y ss ≡ ss
  unfolding Chain trimmed joined
  trimmed-none p [] q h n = refl
  trimmed-none p (s ∷ ss) q h n =
      let k = none-front s.bytes (joined ss) n in
      trim-none s.start s.bytes s.piece (trimmed y ss) h.1 k.0 ∙ ap (λ (us : List Segment). s ∷ us) (trimmed-none (end_of s) ss q h.3 k.1)

  pub read_alike : (p : ℕ) (xs : List ℕ) → none xs ≡ true → segments_of y p xs ≡ segments_of (strictly y) p xs
  read_alike p xs n =
      segments_are y p xs ∙ trimmed-none p _ (p + length xs) (chained y p false xs) (ap none (segments-joined y p false xs) ∙ n) ∙ sym (strict_segments p xs)

  past-none : (p : ℕ) (xs : List ℕ) → none xs ≡ true → past y p xs ≡ p
  unfolding past none
  past-none p [] n = refl
  past-none p (x ∷ xs) n = rw (not-true (is_break y x) (and_both (not (is_break y x)) (none xs) n).0)

  none-drop : (k : ℕ) (xs : List ℕ) → none xs ≡ true → none (drop k xs) ≡ true
  unfolding none
  none-drop zero xs n = n
  none-drop (suc k) [] n = refl
  none-drop (suc k) (x ∷ xs) n = none-drop k xs (and_both (not (is_break y x)) (none xs) n).1

  module _ (d : List ℕ) (n : none d ≡ true) where
    opening-none : opening_of y d ≡ opens d
    unfolding opening_of
    opening-none = rw (past-none 0 d n) (zero-add (opens d))

    admission_none : admission_of y d ≡ admits y (length d) d
    unfolding admission_of
    admission_none = rw (past-none 0 d n)

    pub delivery_alike : segments y d ≡ segments (strictly y) d
    unfolding segments
    delivery_alike =
        ap₂ (λ (a o : ℕ). only_if (eqb a 0) (segments_at y d o)) (admission_none ∙ sym (admission_strictly d)) (opening-none ∙ sym (opening-strictly d))
        ∙ ap (only_if (eqb (admission_of (strictly y) d) 0))
        (read_alike (opening_of (strictly y) d) (drop (opening_of (strictly y) d) d) (none-drop (opening_of (strictly y) d) d n))

-- a delivery that holds no CR and no LF has the same segments in both readings
pub without_breaks : (y : Syntax) (d : List ℕ) → has 13 d ≡ false → has 10 d ≡ false → segments y d ≡ segments (strictly y) d
without_breaks y d h k = delivery_alike y d (none_without y d h k)
