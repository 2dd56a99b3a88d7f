-- Decimal text is right: read back, it is the number it was made of.
use Prim.Native.Nat.{ℕ, zero, suc, ◌+◌, ◌*◌, ◌/◌, ◌%◌, ◌^◌, ◌≤◌, ◌<◌}
use mathlib.Core.Bool.{Bool, true, false, false≢true}
use mathlib.Core.Path.{◌≡◌, refl, sym, ap, ◌∙◌}
use mathlib.Core.List.{List, [], ◌∷◌, ◌++◌, append-nil}
use native.Mathlib.Nat.{pow-suc}
use native.Mathlib.Omega.{arith}
use lib.ListN.{length, get_or}
use lib.Dec.{eqb}
use lib.IntN.{ℤ, pos, negsuc, nat_abs}
use borrow.Author.Tests.{eqb-true, eqb-false, le-leb}
use Rattle.cut.specs.declared.service.Syntax.{Syntax}
use Rattle.std.specs.Prelude.{Some}
use Rattle.value.specs.Numeral.{some, none, is_digit, decimal}
use Rattle.value.specs.Number.{signed, number_of}
use Rattle.value.specs.Digits.{padded, is_count, count_of}
use Rattle.value.specs.Text.{digits_in, text_of}
use Rattle.bytewise.proofs.Booleans.{and_both}
use Rattle.value.proofs.Digitwise.{decimal-nothing, onto, decimal-append}
use Rattle.value.proofs.Counting.{padded-other}
use Rattle.value.proofs.Texts.{digit_one, digit_last, digits-few}
use Rattle.value.proofs.Grammar.{sign, point, spelled, all_digits, Spelling, Apart, digits-whole, number_exact}

-- a statement on numbers of k digits, by the last digit: one digit alone, or one behind a number of fewer
by_last
    : (P : ℕ → ℕ → Type 0)
    → ((n : ℕ) → n < 1 → P 0 n)
    → ((k n : ℕ) → n / 10 ≡ 0 → P (suc k) n)
    → ((k n : ℕ) → (n / 10 ≡ 0 → ⊥) → P k (n / 10) → P (suc k) n)
    → (k n : ℕ) → n < 10 ^ k → P k n
by_last P none one more zero n h = none n h
by_last P none one more (suc k) n h = go (eqb (n / 10) 0) refl (by_last P none one more k)
  where
    go : (b : Bool) → eqb (n / 10) 0 ≡ b → ((m : ℕ) → m < 10 ^ k → P k m) → P (suc k) n
    go true e ih = one k n (eqb-true (n / 10) 0 e)
    go false e ih =
        let p : n < 10 ^ k * 10 = rw (pow-suc 10 k) at h in
        more k n (eqb-false (n / 10) 0 e) (ih (n / 10) (omega arith))

no_fraction : (y : Syntax) → Apart y []
unfolding some
no_fraction y h = absurd (false≢true h)

no_digits : (n : ℕ) → digits_in 0 n ≡ []
unfolding digits_in
no_digits n = refl

-- one digit, and its value behind v
one_value : (v x : ℕ) → onto v ((48 + x) ∷ []) ≡ v * 10 + x
unfolding onto decimal
one_value v x = omega arith

decimal-one : (x : ℕ) → decimal ((48 + x) ∷ []) ≡ x
unfolding decimal
decimal-one x = omega arith

-- the digits' value is the number
pub digits_decimal : (k n : ℕ) → n < 10 ^ k → decimal (digits_in k n) ≡ n
digits_decimal =
    by_last (λ k n. decimal (digits_in k n) ≡ n)
    (λ n h. rw (no_digits n, decimal-nothing) (omega arith))
    (λ k n h. rw (digit_one k n h, decimal-one (n % 10)) (omega arith))
    (λ k n h ih. rw (digit_last k n h, decimal-append (digits_in k (n / 10)) ((48 + n % 10) ∷ []), ih, one_value (n / 10) (n % 10)) (omega arith))

is-digit : (n : ℕ) → is_digit (48 + n % 10) ≡ true
unfolding is_digit
is-digit n =
    let a : 48 ≤ 48 + n % 10 = omega arith in
    let b : 48 + n % 10 ≤ 57 = omega arith in
    rw (le-leb 48 (48 + n % 10) a, le-leb (48 + n % 10) 57 b)

all_append : (l : List ℕ) (x : ℕ) → all_digits l ≡ true → is_digit x ≡ true → all_digits (l ++ (x ∷ [])) ≡ true
unfolding all_digits
all_append [] x h k = rw k
all_append (z ∷ zs) x h k =
    let p = and_both (is_digit z) (all_digits zs) h in
    rw p.0 (all_append zs x p.1 k)

-- they are digits
pub digits-all : (k n : ℕ) → n < 10 ^ k → all_digits (digits_in k n) ≡ true
unfolding all_digits
digits-all =
    by_last (λ k n. all_digits (digits_in k n) ≡ true)
    (λ n h. rw (no_digits n))
    (λ k n h. rw (digit_one k n h, is-digit n))
    (λ k n h ih. rw (digit_last k n h) (all_append (digits_in k (n / 10)) (48 + n % 10) ih (is-digit n)))

first-append : (l t : List ℕ) → (get_or l 0 48 ≡ 48 → ⊥) → get_or (l ++ t) 0 48 ≡ 48 → ⊥
first-append [] t h = absurd (h refl)
first-append (x ∷ xs) t h = h

-- the first of them is no zero, but for 0 itself
digits-first : (k n : ℕ) → n < 10 ^ k → (n ≡ 0 → ⊥) → get_or (digits_in k n) 0 48 ≡ 48 → ⊥
digits-first =
    by_last (λ k n. (n ≡ 0 → ⊥) → get_or (digits_in k n) 0 48 ≡ 48 → ⊥)
    (λ n h z. absurd (z (omega arith)))
    (λ k n h z. rw (digit_one k n h) (λ e. z (omega arith)))
    (λ k n h ih z. rw (digit_last k n h) (first-append (digits_in k (n / 10)) _ (ih h)))

first-other : (l : List ℕ) → (get_or l 0 48 ≡ 48 → ⊥) → (some l ≡ true) × (padded l ≡ false)
unfolding some
first-other [] h = absurd (h refl)
first-other (x ∷ xs) h = (refl, padded-other (x ∷ xs) x xs refl h)

-- there is one, and no leading zero
lean : (n : ℕ) → n < 10 ^ 20 → (some (digits_in 20 n) ≡ true) × (padded (digits_in 20 n) ≡ false)
unfolding some padded digits_in
lean zero h = (refl, refl)
lean (suc n) h = first-other (digits_in 20 (suc n)) (digits-first 20 (suc n) h (λ e. absurd (omega arith)))

-- the digits of a number, read as a count, are that number
pub count_of_text : (n : ℕ) → n < 10 ^ 15 → count_of (digits_in 20 n) ≡ Some n
unfolding count_of is_count none
count_of_text n h =
    let k : n < 10 ^ 20 = omega arith in
    let p = lean n k in
    let d = digits-whole (digits_in 20 n) (digits-all 20 n k) in
    rw (p.0, d.1, p.1, le-leb (length (digits_in 20 n)) 15 (digits-few 20 14 n h), digits_decimal 20 n k)

spelled_digits : (y : Syntax) (m : Bool) (n : ℕ) → n < 10 ^ 20 → Spelling y (sign m ++ digits_in 20 n) m (digits_in 20 n) []
unfolding spelled point all_digits
spelled_digits y m n h =
    record {
      text = ap (λ (l : List ℕ). sign m ++ l) (sym (append-nil (digits_in 20 n)));
      some-whole = (lean n h).0;
      whole-digits = digits-all 20 n h;
      fraction-digits = refl;
    }

read_back : (y : Syntax) (m : Bool) (n : ℕ) → n < 10 ^ 15 → number_of y (sign m ++ digits_in 20 n) ≡ Some (record { amount = signed m n; decimals = 0 })
read_back y m n h =
    let k : n < 10 ^ 20 = omega arith in
    let l : length (digits_in 20 n ++ []) ≤ 15 = rw (append-nil (digits_in 20 n)) (digits-few 20 14 n h) in
    number_exact y _ m (digits_in 20 n) [] (spelled_digits y m n k) (no_fraction y) l
    ∙ ap (λ (v : ℕ). Some (record { amount = signed m v; decimals = 0 })) (ap decimal (append-nil (digits_in 20 n)) ∙ digits_decimal 20 n k)

-- an amount that was printed is read as that amount, with no decimals
pub number_of_text : (y : Syntax) (z : ℤ) → nat_abs z < 10 ^ 15 → number_of y (text_of z) ≡ Some (record { amount = z; decimals = 0 })
unfolding text_of sign
number_of_text y (pos n) h = read_back y false n h
number_of_text y (negsuc n) h = read_back y true (suc n) h
