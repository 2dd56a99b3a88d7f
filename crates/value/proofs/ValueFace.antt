-- The face of this crate's values: the laws that the crates above cite, with the definitions of specs/.
use Prim.Native.Nat.{ℕ, suc, ◌-◌, ◌≤◌, ◌<◌}
use mathlib.Core.Bool.{true, and-false}
use mathlib.Core.Path.{◌≡◌, ap, ◌∙◌}
use mathlib.Core.List.{List, ◌++◌}
use native.Mathlib.Omega.{arith}
use lib.ListN.{length, take, length-append}
use lib.Seq.{length-take-le}
use lib.Dec.{leb, eqb}
use lib.IntN.{ℤ, pos, negsuc}
use mir.Syntax.{w64}
use mir.Val.{SFits, to_z, of_z}
use mir.Facts.{sfits_to_z, Fits-of_z}
use borrow.Author.Tests.{leb-true, eqb-true, le-leb, lt-leb}
use Rattle.cut.specs.declared.service.Syntax.{Syntax}
use Rattle.value.specs.declared.formats.Format.TheVariants.{AnUpTo, NUpTo, N}
use Rattle.std.specs.Prelude.{Some, None}
use Rattle.value.specs.Numeral.{minus, fraction, digits, is_number, decimal}
use Rattle.value.specs.Format.{fits_format}
use Rattle.value.specs.Number.{signed, number_of}
use Rattle.value.specs.Text.{text_of}
use Rattle.bytewise.proofs.Booleans.{and_both}
use Rattle.value.proofs.Texts.{digits-few}
-- the grammar of numbers both ways, and that the number of a price is exact
pub use Rattle.value.proofs.Grammar.{spelled, Spelling, Parts, Apart, number_spelled, spelled_number, number_exact}
-- digits alone without leading zeros are the decimal text of their value, so a count has one spelling
pub use Rattle.value.proofs.TextOnly.{count_spelled}
-- decimal text read back is the number it was made of
pub use Rattle.value.proofs.TextValue.{count_of_text, number_of_text}
-- a number has at least one digit; and whether n digits fit n..k and nk
pub use Rattle.value.proofs.Answers.{number_digits, count-up-to, count-exactly}

-- what fits an..k has 1 to k bytes
pub an_up_to-fits : (y : Syntax) (k : ℕ) (s : List ℕ) → fits_format y (AnUpTo k) s ≡ true → (1 ≤ length s) × (length s ≤ k)
unfolding fits_format
an_up_to-fits y k s h =
    let p = and_both (leb 1 (length s)) (leb (length s) k) h in
    (leb-true 1 (length s) p.0, leb-true (length s) k p.1)

-- what fits n..k is a number of at most k digits
pub n_up_to-fits : (y : Syntax) (k : ℕ) (s : List ℕ) → fits_format y (NUpTo k) s ≡ true → (is_number y s ≡ true) × (length (digits s) ≤ k)
unfolding fits_format
n_up_to-fits y k s h =
    let p = and_both (is_number y s) (leb (length (digits s)) k) h in
    (p.0, leb-true (length (digits s)) k p.1)

-- what fits nk is a number of exactly k digits
pub n_fits : (y : Syntax) (k : ℕ) (s : List ℕ) → fits_format y (N k) s ≡ true → (is_number y s ≡ true) × (length (digits s) ≡ k)
unfolding fits_format
n_fits y k s h =
    let p = and_both (is_number y s) (eqb (length (digits s)) k) h in
    (p.0, eqb-true (length (digits s)) k p.1)

-- a price that fits its format, n..15, has an amount
pub fits-amount
    : (y : Syntax) (k : ℕ) (s : List ℕ) → fits_format y (NUpTo k) s ≡ true → k ≤ 15
    → number_of y s ≡ Some (record { amount = signed (minus s) (decimal (digits s)); decimals = length (fraction s) })
unfolding number_of
fits-amount y k s h l =
    let p = n_up_to-fits y k s h in
    rw (p.0, le-leb (length (digits s)) 15 (omega arith))

-- more than fifteen digits have none
pub number_long : (y : Syntax) (s : List ℕ) → 15 < length (digits s) → number_of y s ≡ None
unfolding number_of
number_long y s h = rw (lt-leb (length (digits s)) 15 h, and-false)

-- no i64 has more than twenty bytes of text
pub text-fits : (z : ℤ) → SFits w64 z → length (text_of z) ≤ 20
unfolding text_of
text-fits (pos n) f = digits-few 20 19 n (omega (arith, f.sfits))
text-fits (negsuc n) f =
    let l = digits-few 20 18 (suc n) (omega (arith, f.sfits)) in
    omega arith

-- the same for a caller of `decimal_text`, who hands over the bits of z: the text begins within the row, and the row keeps its length
module _ (z : ℤ) (f : SFits w64 z) (r : ℕ) (n : r ≡ length (text_of (to_z w64 (of_z w64 z)))) where
  pub text-begins : r ≤ 20
  text-begins = rw n (text-fits _ (sfits_to_z (Fits-of_z f)))

  pub text-row
      : (row out : List ℕ) → length row ≡ 20 → out ≡ take (20 - r) row ++ text_of (to_z w64 (of_z w64 z)) → length out ≡ 20
  text-row row out l w =
      let b = text-begins in
      let t = length-take-le (20 - r) row (omega arith) in
      ap length w ∙ simp length-append (omega arith)
