-- Laws of the digits with which bytes begin, one digit at a time, and of their value.
use Prim.Native.Nat.{ℕ, ◌+◌, ◌-◌, ◌*◌, ◌^◌, ◌≤◌}
use mathlib.Core.Bool.{true, false}
use mathlib.Core.Path.{◌≡◌, refl, sym}
use mathlib.Core.List.{List, [], ◌∷◌, ◌++◌}
use native.Mathlib.Nat.{add-mul, mul_assoc, add_assoc, pow-succ'}
use native.Mathlib.Omega.{arith}
use lib.ListN.{length, length-append}
use lib.Dec.{leb}
use lib.Pow.{pow-add}
use borrow.Author.Tests.{leb-true}
use Rattle.bytewise.proofs.Booleans.{and_both}
use Rattle.value.specs.Numeral.{is_digit, digits_ahead, behind_digits, decimal}

pub digit_range : (x : ℕ) → is_digit x ≡ true → (48 ≤ x) × (x ≤ 57)
unfolding is_digit
digit_range x h =
    let p = and_both (leb 48 x) (leb x 57) h in
    (leb-true 48 x p.0, leb-true x 57 p.1)

module _ {s t : List ℕ} {x : ℕ} (p : s ≡ x ∷ t) where
  pub ahead_more : is_digit x ≡ true → digits_ahead s ≡ x ∷ digits_ahead t
  unfolding digits_ahead
  ahead_more h = rw (p, h)

  pub behind_more : is_digit x ≡ true → behind_digits s ≡ behind_digits t
  unfolding behind_digits
  behind_more h = rw (p, h)

  pub ahead-stop : is_digit x ≡ false → digits_ahead s ≡ []
  unfolding digits_ahead
  ahead-stop h = rw (p, h)

  pub behind-stop : is_digit x ≡ false → behind_digits s ≡ x ∷ t
  unfolding behind_digits
  behind-stop h = rw (p, h)

pub ahead_none : {s : List ℕ} → s ≡ [] → digits_ahead s ≡ []
unfolding digits_ahead
ahead_none p = rw p

pub behind-none : {s : List ℕ} → s ≡ [] → behind_digits s ≡ []
unfolding behind_digits
behind-none p = rw p

pub decimal-nothing : decimal [] ≡ 0
unfolding decimal
decimal-nothing = refl

-- v's digits and then l's, as one number
unfoldable pub onto : ℕ → List ℕ → ℕ
onto v l = v * 10 ^ length l + decimal l

pub onto_none : (v : ℕ) (l : List ℕ) → l ≡ [] → onto v l ≡ v
unfolding onto decimal
onto_none v l p = rw p (omega arith)

pub onto_is : (v : ℕ) (l : List ℕ) (n : ℕ) → n ≡ length l → onto v l ≡ v * 10 ^ n + decimal l
unfolding onto
onto_is v l n k = rw k

pub onto_digit : (v x : ℕ) (l : List ℕ) → onto v (x ∷ l) ≡ onto (v * 10 + (x - 48)) l
unfolding onto decimal
onto_digit v x l =
    rw (pow-succ' 10 (length l), add-mul (v * 10) (x - 48) (10 ^ length l), mul_assoc v 10 (10 ^ length l))
    (sym (add_assoc _ _ _))

-- the value of w's digits and then f's
pub decimal-append : (w f : List ℕ) → decimal (w ++ f) ≡ onto (decimal w) f
unfolding onto decimal
decimal-append [] f = omega arith
decimal-append (x ∷ xs) f =
    rw (
      length-append xs f,
      pow-add 10 (length xs) (length f),
      decimal-append xs f,
      add-mul ((x - 48) * 10 ^ length xs) (decimal xs) (10 ^ length f),
      mul_assoc (x - 48) (10 ^ length xs) (10 ^ length f),
    )
    (sym (add_assoc _ _ _))
