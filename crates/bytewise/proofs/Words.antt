-- Laws of `begins`: a comparison of std is one, and what a test of it says.
use Prim.Native.Nat.{ℕ, zero, suc, ◌+◌, ◌≤◌, ◌<◌}
use mathlib.Core.Path.{◌≡◌, refl, sym}
use mathlib.Core.Bool.{Bool, true, false, and-false, false≢true}
use mathlib.Core.List.{List, [], ◌∷◌, ◌++◌}
use native.Mathlib.Numerals.{add-one}
use native.Mathlib.Omega.{arith}
use lib.ListN.{length, get_or, drop, drop_of_length-le}
use lib.Seq.{drop-cons}
use borrow.Author.Tests.{eq-eqb, ne_eqb, eqb-true, eqb-false}
use lib.Dec.{eqb}
use lib.Pointwise.{pointwise}
use Rattle.bytewise.specs.Bytes.{begins}
use Rattle.bytewise.proofs.Booleans.{and_both}

pub begins-short : (w d : List ℕ) → length d < length w → begins w d ≡ false
unfolding begins
begins-short [] d h = absurd (omega arith)
begins-short (w ∷ ws) [] h = refl
begins-short (w ∷ ws) (x ∷ xs) h = rw (begins-short ws xs (omega arith), and-false)

module _ (w d : List ℕ) (i : ℕ) (fits : length w ≤ length d) where
  pub begins_on : i < length w → get_or d i 0 ≡ get_or w i 0 → begins (drop i w) (drop i d) ≡ begins (drop (i + 1) w) (drop (i + 1) d)
  unfolding begins
  begins_on h e =
      let k : i < length d = omega arith in
      rw (drop-cons w i 0 h, drop-cons d i 0 k, eq-eqb _ _ e, add-one)

  pub begins-not : i < length w → (get_or d i 0 ≡ get_or w i 0 → ⊥) → begins (drop i w) (drop i d) ≡ false
  unfolding begins
  begins-not h n =
      let k : i < length d = omega arith in
      rw (drop-cons w i 0 h, drop-cons d i 0 k, ne_eqb _ _ n)

  pub begins-all : length w ≤ i → begins (drop i w) (drop i d) ≡ true
  unfolding begins
  begins-all h = rw (drop_of_length-le w h)

-- a beginning within the front is one of the whole
pub begins-front : (w front tail : List ℕ) → length w ≤ length front → begins w (front ++ tail) ≡ begins w front
unfolding begins
begins-front [] front tail h = refl
begins-front (w ∷ ws) [] tail h = absurd (omega arith)
begins-front (w ∷ ws) (x ∷ xs) tail h = rw (begins-front ws xs tail (omega arith))

pub begins_more : (w front tail : List ℕ) → begins w front ≡ true → begins w (front ++ tail) ≡ true
unfolding begins
begins_more [] front tail h = refl
begins_more (w ∷ ws) [] tail h = absurd (false≢true h)
begins_more (w ∷ ws) (x ∷ xs) tail h =
    let k = and_both (eqb x w) (begins ws xs) h in
    rw k.0 (begins_more ws xs tail k.1)

-- what begins with a word has its bytes
pub begins-at : (w d : List ℕ) (i : ℕ) → begins w d ≡ true → i < length w → get_or d i 0 ≡ get_or w i 0
unfolding begins
begins-at [] d i h k = absurd (omega arith)
begins-at (w ∷ ws) [] i h k = absurd (false≢true h)
begins-at (w ∷ ws) (x ∷ xs) zero h k = eqb-true x w (and_both (eqb x w) (begins ws xs) h).0
begins-at (w ∷ ws) (x ∷ xs) (suc i) h k = begins-at ws xs i (and_both (eqb x w) (begins ws xs) h).1 (omega arith)

pub begins-length : (w d : List ℕ) → begins w d ≡ true → length w ≤ length d
unfolding begins
begins-length [] d h = omega arith
begins-length (w ∷ ws) [] h = absurd (false≢true h)
begins-length (w ∷ ws) (x ∷ xs) h =
    let k = begins-length ws xs (and_both (eqb x w) (begins ws xs) h).1 in
    omega arith
