-- Eight bytes as one number, so that all eight are tested at once.
use Rattle.std.specs.Prelude.{ℕ, zero, suc, ◌+◌, ◌*◌, ◌/◌, ◌%◌, ◌≡◌, Bool, true, false, cond, List, length, get_or, leb, eqb}

-- the first n of a row of digits to the base 256 as one number, the first the lowest
unfoldable pub number : ℕ → (ℕ → ℕ) → ℕ
number zero x = 0
number (suc n) x = number n (λ k. x (suc k)) * 256 + x 0

-- the bytes of d from place i on
abbrev pub on_from : List ℕ → ℕ → ℕ → ℕ
on_from d i k = get_or d (i + k) 0

-- the eight bytes of d from place i on as one number; 0, if fewer stand there
unfoldable pub eight_at : List ℕ → ℕ → ℕ
eight_at d i = cond (leb (i + 8) (length d)) (number 8 (on_from d i)) 0

-- byte k of a number of eight bytes
unfoldable pub byte_of : ℕ → ℕ → ℕ
byte_of w zero = w % 256
byte_of w (suc k) = byte_of (w / 256) k

-- a byte's high bit, set where a test holds
abbrev pub flag : Bool → ℕ
flag true = 128
flag false = 0

-- the same for each of eight bytes
unfoldable pub flags : (ℕ → Bool) → ℕ
flags t = number 8 (λ k. flag (t k))

-- m flags those of the eight bytes of w that pass the test
abbrev pub Flagged : ℕ → (ℕ → Bool) → ℕ → Type 0
Flagged w test m = m ≡ flags (λ k. test (byte_of w k))

-- the first of n bytes that is not 0, counted from 0; n, if there is none
unfoldable pub first_some : ℕ → (ℕ → ℕ) → ℕ
first_some zero x = 0
first_some (suc n) x = cond (eqb (x 0) 0) (suc (first_some n (λ k. x (suc k)))) 0

-- the first of the eight bytes of m that is not 0; 8, if there is none
unfoldable pub first_byte : ℕ → ℕ
first_byte m = first_some 8 (byte_of m)
