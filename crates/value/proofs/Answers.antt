-- What formats, prices and counts make of the numeral that was read.
use Prim.Native.Nat.{ℕ, ◌^◌, ◌≤◌, ◌<◌}
use mathlib.Core.Bool.{Bool, true, false, cond, ◌&&◌, false≢true}
use mathlib.Core.Path.{◌≡◌, refl, sym, ap, ◌∙◌}
use mathlib.Core.List.{List, [], ◌∷◌, ◌++◌}
use native.Mathlib.Nat.{suc-mul, mul-le-mul_right, pow-le-pow_right, lt_of_lt_of_le}
use native.Mathlib.Omega.{arith}
use lib.ListN.{length, drop, length-append}
use lib.Dec.{ltb, leb, eqb, lit<}
use lib.IntN.{ℤ}
use lib.Pow.{pow-add}
use borrow.Author.Tests.{ltb-true, ltb-false, lt-leb, le-leb}
use Rattle.cut.specs.declared.service.Syntax.{Syntax}
use Rattle.value.specs.declared.numeral.Numeral.{Numeral}
use Rattle.std.specs.Prelude.{Option, Some, None}
use Rattle.value.specs.declared.prices.Amount.{Amount}
use Rattle.value.specs.declared.formats.Format.{Format}
use Rattle.value.specs.declared.formats.Format.TheVariants.{AnUpTo, An, NUpTo, N}
use Rattle.value.specs.Format.{fits_format}
use Rattle.value.specs.Numeral.{some, digits_ahead, behind_digits, unsigned, minus, whole, fraction, digits, is_number, digit_count, decimal}
use Rattle.value.specs.Number.{signed, number_of}
use Rattle.value.specs.workers.Scans.{counted_as, numeral_by, unsigned_of, numeral_of, digits_of}
use Rattle.bytewise.proofs.Booleans.{and_both}
use Rattle.value.proofs.Digitwise.{onto_is, decimal-append}
use Rattle.value.proofs.Numerals.{decimal-below}

pub numeral-is
    : (y : Syntax) (s : List ℕ)
    → numeral_of y s ≡ cond (is_number y s) (Some (counted_as (minus s) (decimal (digits s)) (length (digits s)) (length (fraction s)))) None
unfolding numeral_of unsigned_of numeral_by is_number digits whole fraction
numeral-is y s = refl

-- formats: a number has at least one digit, so no digits are those of no number
counted-by : (m : Bool) (v n k : ℕ) (b : Bool) → digits_of (cond b (Some (counted_as m v n k)) None) ≡ cond b n 0
counted-by m v n k true = refl
counted-by m v n k false = refl

pub digits_number : (y : Syntax) (s : List ℕ) → digits_of (numeral_of y s) ≡ digit_count y s
unfolding digit_count
digits_number y s =
    ap digits_of (numeral-is y s) ∙ counted-by (minus s) (decimal (digits s)) (length (digits s)) (length (fraction s)) (is_number y s)

some-length : (l : List ℕ) → some l ≡ true → 0 < length l
unfolding some
some-length [] h = absurd (false≢true h)
some-length (x ∷ xs) h = omega arith

pub number_digits : (y : Syntax) (s : List ℕ) → is_number y s ≡ true → 1 ≤ length (digits s)
unfolding is_number digits
number_digits y s h =
    let p = some-length (whole s) (and_both (some (whole s)) _ h).0 in
    simp length-append (omega arith)

judged-number : (h : ℕ → Bool) (y : Syntax) (s : List ℕ) (n : ℕ) → n ≡ digit_count y s → leb 1 n && h n ≡ is_number y s && h (length (digits s))
unfolding digit_count
judged-number h y s n e = go (is_number y s) refl
  where
    go : (b : Bool) → is_number y s ≡ b → leb 1 n && h n ≡ b && h (length (digits s))
    go true p =
        let q : n ≡ length (digits s) = e ∙ rw p in
        rw (q, le-leb 1 (length (digits s)) (number_digits y s p))
    go false p =
        let q : n ≡ 0 = e ∙ rw p in
        rw q

-- whether n digits fit
module _ (y : Syntax) (s : List ℕ) (k n : ℕ) (q : n ≡ digit_count y s) where
  pub count-up-to : leb 1 n && leb n k ≡ fits_format y (NUpTo k) s
  unfolding fits_format
  count-up-to = judged-number (λ c. leb c k) y s n q

  pub count-exactly : leb 1 n && eqb n k ≡ fits_format y (N k) s
  unfolding fits_format
  count-exactly = judged-number (λ c. eqb c k) y s n q

module _ (y : Syntax) (s : List ℕ) (f : Format) (k : ℕ) where
  pub fits-an-up-to : (n : ℕ) → f ≡ AnUpTo k → n ≡ length s → leb 1 n && leb n k ≡ fits_format y f s
  unfolding fits_format
  fits-an-up-to n p q = rw (p, q)

  pub fits-an : (n : ℕ) → f ≡ An k → n ≡ length s → eqb n k ≡ fits_format y f s
  unfolding fits_format
  fits-an n p q = rw (p, q)

  pub fits-n-up-to : (n : ℕ) → f ≡ NUpTo k → n ≡ digits_of (numeral_of y s) → leb 1 n && leb n k ≡ fits_format y f s
  fits-n-up-to n p q = rw p (count-up-to y s k n (q ∙ digits_number y s))

  pub fits-n : (n : ℕ) → f ≡ N k → n ≡ digits_of (numeral_of y s) → leb 1 n && eqb n k ≡ fits_format y f s
  fits-n n p q = rw p (count-exactly y s k n (q ∙ digits_number y s))

-- prices: the amount of a value, and the numeral's amount and decimals
abbrev pub amount_by : Bool → ℕ → Option ℕ → Option Amount
amount_by m k None = None
amount_by m k (Some v) = Some (record { amount = signed m v; decimals = k })

abbrev pub amount_in : Option Numeral → Option Amount
amount_in None = None
amount_in (Some n) = amount_by n.minus n.decimals n.value

amount-counted : (m : Bool) (v n k : ℕ) (long b : Bool) → ltb 15 n ≡ long
    → amount_in (cond b (Some (counted_as m v n k)) None) ≡ cond (b && leb n 15) (Some (record { amount = signed m v; decimals = k })) None
amount-counted m v n k true true e = rw (e, lt-leb n 15 (ltb-true 15 n e))
amount-counted m v n k false true e = rw (e, le-leb n 15 (ltb-false 15 n e))
amount-counted m v n k long false e = refl

amount-number : (y : Syntax) (s : List ℕ) → amount_in (numeral_of y s) ≡ number_of y s
unfolding number_of
amount-number y s =
    ap amount_in (numeral-is y s)
    ∙ amount-counted (minus s) (decimal (digits s)) (length (digits s)) (length (fraction s)) (ltb 15 (length (digits s))) (is_number y s) refl

module _ (y : Syntax) (s : List ℕ) where
  pub number-none : numeral_of y s ≡ None → None ≡ number_of y s
  number-none e = ap amount_in (sym e) ∙ amount-number y s

  module _ (n : Numeral) (e : numeral_of y s ≡ Some n) where
    pub number_long : n.value ≡ None → None ≡ number_of y s
    number_long h = ap (amount_by n.minus n.decimals) (sym h) ∙ ap amount_in (sym e) ∙ amount-number y s

    pub number_short : (v : ℕ) (z : ℤ) → n.value ≡ Some v → z ≡ signed n.minus v → Some (record { amount = z; decimals = n.decimals }) ≡ number_of y s
    number_short v z h p = rw p (ap (amount_by n.minus n.decimals) (sym h) ∙ ap amount_in (sym e) ∙ amount-number y s)

-- a numeral with its value has at most fifteen digits, so both numbers are small
abbrev value_in : Option Numeral → Option ℕ
value_in None = None
value_in (Some n) = n.value

abbrev decimals_in : Option Numeral → ℕ
decimals_in None = 0
decimals_in (Some n) = n.decimals

both_below : (s t : List ℕ) → decimal (digits_ahead s ++ digits_ahead t) < 10 ^ length (digits_ahead s ++ digits_ahead t)
both_below s t =
    let w = mul-le-mul_right (10 ^ length (digits_ahead t)) (decimal-below s) in
    let u = suc-mul (decimal (digits_ahead s)) (10 ^ length (digits_ahead t)) in
    let f = decimal-below t in
    rw (
      length-append (digits_ahead s) (digits_ahead t),
      pow-add 10 (length (digits_ahead s)) (length (digits_ahead t)),
      decimal-append (digits_ahead s) (digits_ahead t),
      onto_is (decimal (digits_ahead s)) (digits_ahead t) (length (digits_ahead t)) refl,
    )
    (omega arith)

small : (m : Bool) (v n k : ℕ) (long b : Bool) (x : ℕ) → v < 10 ^ n → k ≤ n → ltb 15 n ≡ long
    → value_in (cond b (Some (counted_as m v n k)) None) ≡ Some x → (x < 10 ^ 15) × (decimals_in (cond b (Some (counted_as m v n k)) None) ≤ 15)
small m v n k true true x h l e q =
    let z : ◌≡◌ {A = Option ℕ} None (Some x) = rw e at q in
    absurd (let o : ◌≡◌ {A = ℕ} 0 1 = cc in omega arith)
small m v n k false true x h l e q =
    let f : n ≤ 15 = ltb-false 15 n e in
    let w : ◌≡◌ {A = Option ℕ} (Some v) (Some x) = rw e at q in
    let z : v ≡ x = cc in
    let p = lt_of_lt_of_le h (pow-le-pow_right {n = 10} (lit< tt) f) in
    (omega arith, omega arith)
small m v n k long false x h l e q = absurd (let o : ◌≡◌ {A = ℕ} 0 1 = cc in omega arith)

digits-below : (s : List ℕ) → decimal (digits s) < 10 ^ length (digits s)
unfolding digits whole fraction
digits-below s = both_below (unsigned s) (drop 1 (behind_digits (unsigned s)))

fraction-within : (s : List ℕ) → length (fraction s) ≤ length (digits s)
unfolding digits
fraction-within s = rw (length-append (whole s) (fraction s)) (omega arith)

pub short-bounds
    : (y : Syntax) (s : List ℕ) (n : Numeral) (x : ℕ) → numeral_of y s ≡ Some n → n.value ≡ Some x → (x < 10 ^ 15) × (n.decimals ≤ 15)
short-bounds y s n x e h =
    let q = sym (numeral-is y s) ∙ e in
    let b = small (minus s) (decimal (digits s)) (length (digits s)) (length (fraction s)) (ltb 15 (length (digits s))) (is_number y s) x
    (digits-below s) (fraction-within s) refl (ap value_in q ∙ h) in
    let k = ap decimals_in q in
    omega arith
