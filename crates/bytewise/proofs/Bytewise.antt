-- Operations on eight bytes at once work on each byte apart, so that a fact about one byte, computed for each of the 256, is one about all eight.
use Prim.Native.Nat.{ℕ, zero, suc, ◌+◌, ◌-◌, ◌*◌, ◌/◌, ◌%◌, ◌^◌, ◌≤◌, ◌<◌}
use mathlib.Core.Path.{◌≡◌, refl, sym, ap, ◌∙◌}
use mathlib.Core.Bool.{Bool, true, false, cond, ◌||◌}
use mathlib.Core.List.{List}
use native.Mathlib.Nat.{suc-add, suc-mul, add_comm, pow-suc, one-le-pow}
use native.Mathlib.Omega.{arith}
use lib.ListN.{length, get_or}
use lib.Dec.{eqb, eqb→eq, lit<}
use lib.Bits.{
  bit_and,
  bit_or,
  bit_xor,
  and_block,
  or_block,
  xor_block,
  and_lt,
  or_lt,
  xor_lt,
  and_mask,
  and_zero_r,
  and_le_l,
  and_le_r,
  xor_self,
  xor_add_and,
  shifted_half,
  shifted_even,
  block_half,
  block_odd,
}
use lib.Count.{under, count_trailing_zeros}
use borrow.Author.Tests.{le-leb, lt-leb, eq-eqb, ne_eqb, eqb-true, eqb-false}
use Rattle.bytewise.specs.Every.{every}
use Rattle.bytewise.specs.Eights.{number, on_from, eight_at, byte_of, flag, flags, Flagged, first_some, first_byte}
use Rattle.bytewise.proofs.Every.{every-at}

-- w is the number of eight bytes, x
pub record Eight (w : ℕ) (x : ℕ → ℕ) : Type 0 where
  pub worth : w ≡ number 8 x
  pub bytes : (k : ℕ) → x k < 256

-- the place j is the first of n where the test holds
pub record FirstOf (n : ℕ) (t : ℕ → Bool) (j : ℕ) : Type 0 where
  pub within : j < n
  pub passes : t j ≡ true
  pub before : (k : ℕ) → k < j → t k ≡ false

-- ---- rows of digits

module _
    (op : ℕ → ℕ → ℕ)
    (none : op 0 0 ≡ 0)
    (block : (k a b r s : ℕ) → r < 2 ^ k → s < 2 ^ k → op (a * 2 ^ k + r) (b * 2 ^ k + s) ≡ op a b * 2 ^ k + op r s)
    (bound : (k a b : ℕ) → a < 2 ^ k → b < 2 ^ k → op a b < 2 ^ k) where
  number_op
      : (n : ℕ) (x y : ℕ → ℕ) → ((k : ℕ) → x k < 256) → ((k : ℕ) → y k < 256)
      → op (number n x) (number n y) ≡ number n (λ k. op (x k) (y k))
  unfolding number
  number_op zero x y h l = none
  number_op (suc n) x y h l =
      block 8 (number n (λ k. x (suc k))) (number n (λ k. y (suc k))) (x 0) (y 0) (h 0) (l 0)
      ∙ ap (λ (m : ℕ). m * 256 + op (x 0) (y 0)) (number_op n (λ k. x (suc k)) (λ k. y (suc k)) (λ k. h (suc k)) (λ k. l (suc k)))

  eight_op : {v w : ℕ} {x y : ℕ → ℕ} → Eight v x → Eight w y → Eight (op v w) (λ k. op (x k) (y k))
  eight_op {v} {w} {x} {y} p q = record {
    worth = rw (p.worth, q.worth) (number_op 8 x y p.bytes q.bytes);
    bytes = λ k. bound 8 (x k) (y k) (p.bytes k) (q.bytes k);
  }

number-add : (n : ℕ) (x y : ℕ → ℕ) → number n x + number n y ≡ number n (λ k. x k + y k)
unfolding number
number-add zero x y = refl
number-add (suc n) x y = omega (arith, number-add n (λ k. x (suc k)) (λ k. y (suc k)))

pub number-byte : (n : ℕ) (x : ℕ → ℕ) → ((k : ℕ) → x k < 256) → (k : ℕ) → k < n → byte_of (number n x) k ≡ x k
unfolding number byte_of
number-byte zero x h k l = absurd (omega arith)
number-byte (suc n) x h zero l = omega (arith, h 0)
number-byte (suc n) x h (suc k) l =
    let z : (number n (λ k. x (suc k)) * 256 + x 0) / 256 ≡ number n (λ k. x (suc k)) = omega (arith, h 0) in
    rw z (number-byte n (λ k. x (suc k)) (λ k. h (suc k)) k (omega arith))

-- equal numbers have equal digits
number_same
    : (n : ℕ) (x y : ℕ → ℕ) → ((k : ℕ) → x k < 256) → ((k : ℕ) → y k < 256) → number n x ≡ number n y → (k : ℕ) → k < n → x k ≡ y k
number_same n x y h l e k b = sym (number-byte n x h k b) ∙ ap (λ (w : ℕ). byte_of w k) e ∙ number-byte n y l k b

-- the number of the same digits
pub number_like : (n : ℕ) (x y : ℕ → ℕ) → ((k : ℕ) → k < n → x k ≡ y k) → number n x ≡ number n y
unfolding number
number_like zero x y h = refl
number_like (suc n) x y h =
    rw (h 0 (omega arith), number_like n (λ k. x (suc k)) (λ k. y (suc k)) (λ k l. h (suc k) (omega arith)))

byte_fits : (w k : ℕ) → byte_of w k < 256
unfolding byte_of
byte_fits w zero = omega arith
byte_fits w (suc k) = byte_fits (w / 256) k

-- how many numbers have n digits
room : ℕ → ℕ
room zero = 1
room (suc n) = room n * 256

number-bytes : (n w : ℕ) → w < room n → number n (byte_of w) ≡ w
unfolding number byte_of room
number-bytes zero w h = omega arith
number-bytes (suc n) w h =
    let r = number-bytes n (w / 256) (omega arith) in
    omega arith

-- each number of 64 bits is one of eight bytes
pub eight-word : (w : ℕ) → w < 2 ^ 64 → Eight w (byte_of w)
unfolding room
eight-word w h = record { worth = sym (number-bytes 8 w h); bytes = byte_fits w }

-- ---- operations on eight bytes

pub eight-and : {v w : ℕ} {x y : ℕ → ℕ} → Eight v x → Eight w y → Eight (bit_and v w) (λ k. bit_and (x k) (y k))
eight-and = eight_op bit_and refl and_block and_lt

pub eight-or : {v w : ℕ} {x y : ℕ → ℕ} → Eight v x → Eight w y → Eight (bit_or v w) (λ k. bit_or (x k) (y k))
eight-or = eight_op bit_or refl or_block or_lt

pub eight_xor : {v w : ℕ} {x y : ℕ → ℕ} → Eight v x → Eight w y → Eight (bit_xor v w) (λ k. bit_xor (x k) (y k))
eight_xor = eight_op bit_xor refl xor_block xor_lt

-- where no sum of two bytes reaches the next one
pub eight-add : {v w : ℕ} {x y : ℕ → ℕ} → Eight v x → Eight w y → ((k : ℕ) → x k + y k < 256) → Eight (v + w) (λ k. x k + y k)
eight-add {v} {w} {x} {y} p q h = record { worth = rw (p.worth, q.worth) (number-add 8 x y); bytes = h }

-- the same byte eight times
pub eight_each : (b : ℕ) → b < 256 → Eight (0x0101_0101_0101_0101 * b) (λ k. b)
unfolding number
eight_each b h = record { worth = omega arith; bytes = λ k. h }

-- ---- the bytes of a delivery

pub eight-short : (d : List ℕ) (i : ℕ) → length d < i + 8 → eight_at d i ≡ 0
unfolding eight_at
eight-short d i h = rw (lt-leb (i + 8) (length d) h)

pub eight_long
    : (d : List ℕ) (i : ℕ) → i + 8 ≤ length d
    → get_or d i 0 + 0x100 * get_or d (i + 1) 0 + 0x1_0000 * get_or d (i + 2) 0 + 0x100_0000 * get_or d (i + 3) 0 + 0x1_0000_0000 * get_or d (i + 4) 0
    + 0x100_0000_0000 * get_or d (i + 5) 0 + 0x1_0000_0000_0000 * get_or d (i + 6) 0 + 0x100_0000_0000_0000 * get_or d (i + 7) 0
    ≡ eight_at d i
unfolding eight_at number
eight_long d i h =
    let z : i + 0 ≡ i = omega arith in
    rw (le-leb (i + 8) (length d) h, z) (omega arith)

pub eight_there : (d : List ℕ) (i : ℕ) → i + 8 ≤ length d → ((k : ℕ) → get_or d k 0 < 256) → Eight (eight_at d i) (on_from d i)
unfolding eight_at
eight_there d i h b = record { worth = rw (le-leb (i + 8) (length d) h); bytes = λ k. b (i + k) }

-- ---- flags

flag-byte : (b : Bool) → flag b < 256
flag-byte true = omega arith
flag-byte false = omega arith

flag-or : (a b : Bool) → bit_or (flag a) (flag b) ≡ flag (a || b)
flag-or true true = refl
flag-or true false = refl
flag-or false b = refl

flag-eq : (a b : Bool) → flag a ≡ flag b → a ≡ b
flag-eq true true e = refl
flag-eq true false e = absurd (omega arith)
flag-eq false true e = absurd (omega arith)
flag-eq false false e = refl

eight-flags : (t : ℕ → Bool) → Eight (flags t) (λ k. flag (t k))
unfolding flags
eight-flags t = record { worth = refl; bytes = λ k. flag-byte (t k) }

-- a byte that is computed from each of eight is the flag of a test of it
pub flags_of : {w : ℕ} {x : ℕ → ℕ} → Eight w x → (t : ℕ → Bool) → ((k : ℕ) → x k ≡ flag (t k)) → w ≡ flags t
unfolding flags
flags_of p t h = p.worth ∙ λ i. number 8 (λ k. h k i)

pub flags-or : (s t : ℕ → Bool) → bit_or (flags s) (flags t) ≡ flags (λ k. s k || t k)
flags-or s t = flags_of (eight-or (eight-flags s) (eight-flags t)) (λ k. s k || t k) (λ k. flag-or (s k) (t k))

flags-same : (s t : ℕ → Bool) → flags s ≡ flags t → (k : ℕ) → k < 8 → s k ≡ t k
unfolding flags
flags-same s t e k h =
    flag-eq (s k) (t k) (number_same 8 (λ k. flag (s k)) (λ k. flag (t k)) (λ k. flag-byte (s k)) (λ k. flag-byte (t k)) e k h)

pub flags-none : (t : ℕ → Bool) → flags t ≡ 0 → (k : ℕ) → k < 8 → t k ≡ false
unfolding flags number
flags-none t e = flags-same t (λ k. false) e

pub flags-all : (t : ℕ → Bool) → flags t ≡ 0x8080_8080_8080_8080 → (k : ℕ) → k < 8 → t k ≡ true
unfolding flags number
flags-all t e = flags-same t (λ k. true) e

-- byte k of the eight that stand in a delivery from a place on
pub byte_there : (d : List ℕ) (i k : ℕ) → i + 8 ≤ length d → ((k : ℕ) → get_or d k 0 < 256) → k < 8 → byte_of (eight_at d i) k ≡ on_from d i k
byte_there d i k h b l =
    let p = eight_there d i h b in
    ap (λ (v : ℕ). byte_of v k) p.worth ∙ number-byte 8 (on_from d i) p.bytes k l

-- a test of them
pub flagged_there
    : (d : List ℕ) (i w : ℕ) (test : ℕ → Bool) (m : ℕ) → i + 8 ≤ length d → ((k : ℕ) → get_or d k 0 < 256) → w ≡ eight_at d i → Flagged w test m
    → m ≡ flags (λ k. test (on_from d i k))
unfolding flags
flagged_there d i w test m h b e f =
    f
    ∙ number_like 8 (λ k. flag (test (byte_of w k))) (λ k. flag (test (on_from d i k)))
    (λ k l. ap (λ (x : ℕ). flag (test x)) (ap (λ (v : ℕ). byte_of v k) e ∙ byte_there d i k h b l))

-- ---- the first bytes alone

pub front_bytes : (n w : ℕ) → bit_and w (256 ^ n - 1) ≡ number n (byte_of w)
unfolding number byte_of
front_bytes zero w = and_zero_r w
front_bytes (suc n) w =
    let m : 256 ^ suc n - 1 ≡ (256 ^ n - 1) * 2 ^ 8 + 255 = rw (pow-suc 256 n) (omega (arith, one-le-pow n 256 (lit< tt))) in
    let v : w ≡ w / 256 * 2 ^ 8 + w % 256 = omega arith in
    ap (λ (x : ℕ). bit_and x (256 ^ suc n - 1)) v
    ∙ ap (bit_and (w / 256 * 2 ^ 8 + w % 256)) m
    ∙ and_block 8 (w / 256) (256 ^ n - 1) (w % 256) 255 (omega arith) (omega arith)
    ∙ omega (arith, front_bytes n (w / 256), and_mask (w % 256) 8)

pub front-byte : (n w k : ℕ) → k < n → byte_of (bit_and w (256 ^ n - 1)) k ≡ byte_of w k
front-byte n w k l = ap (λ (v : ℕ). byte_of v k) (front_bytes n w) ∙ number-byte n (byte_of w) (byte_fits w) k l

-- ---- bytes that are alike

-- what is computed from a byte's difference
alike_byte : ℕ → ℕ
alike_byte v = bit_xor (bit_and (bit_or (bit_and v 127 + 127) v) 128) 128

alike-byte : (v : ℕ) → v < 256 → alike_byte v ≡ flag (eqb v 0)
unfolding alike_byte every
alike-byte v h = eqb→eq (alike_byte v) (flag (eqb v 0)) (every-at (λ v. eqb (alike_byte v) (flag (eqb v 0))) 256 v tt h)

pub xor_none : (a b : ℕ) → eqb (bit_xor a b) 0 ≡ eqb a b
xor_none a b = go (eqb a b) refl
  where
    go : (t : Bool) → eqb a b ≡ t → eqb (bit_xor a b) 0 ≡ t
    go true e =
        let q : a ≡ b = eqb-true a b e in
        eq-eqb (bit_xor a b) 0 (rw q (xor_self b))
    go false e = ne_eqb (bit_xor a b) 0 (λ (z : bit_xor a b ≡ 0). eqb-false a b e (omega (arith, xor_add_and a b, and_le_l a b, and_le_r a b)))

pub low : Eight 0x7f7f_7f7f_7f7f_7f7f (λ k. 127)
unfolding number
low = record { worth = refl; bytes = λ k. omega arith }

pub high : Eight 0x8080_8080_8080_8080 (λ k. 128)
unfolding number
high = record { worth = refl; bytes = λ k. omega arith }

-- the differences of eight bytes from the byte b
abbrev pub apart_by : ℕ → ℕ → ℕ
apart_by w b = bit_xor w (0x0101_0101_0101_0101 * b)

pub alike_fits : (w b : ℕ) → bit_and (apart_by w b) 0x7f7f_7f7f_7f7f_7f7f + 0x7f7f_7f7f_7f7f_7f7f < 2 ^ 64
alike_fits w b = omega (arith, and_le_r (apart_by w b) 0x7f7f_7f7f_7f7f_7f7f)

pub alike_flags
    : (w b : ℕ) (x : ℕ → ℕ) → b < 256 → Eight w x
    → bit_xor (bit_and (bit_or (bit_and (apart_by w b) 0x7f7f_7f7f_7f7f_7f7f + 0x7f7f_7f7f_7f7f_7f7f) (apart_by w b)) 0x8080_8080_8080_8080)
    0x8080_8080_8080_8080
    ≡ flags (λ k. eqb (x k) b)
unfolding alike_byte
alike_flags w b x h p =
    let q = eight_xor p (eight_each b h) in
    let s = eight-add (eight-and q low) low (λ k. omega (arith, and_le_r (bit_xor (x k) b) 127)) in
    flags_of (eight_xor (eight-and (eight-or s q) high) high) (λ k. eqb (x k) b)
    (λ k. alike-byte (bit_xor (x k) b) (q.bytes k) ∙ ap flag (xor_none (x k) b))

-- ---- no byte that is alike

split-byte : (v : ℕ) → v < 256 → bit_and v 127 + bit_and v 128 ≡ v
unfolding every
split-byte v h = eqb→eq (bit_and v 127 + bit_and v 128) v (every-at (λ v. eqb (bit_and v 127 + bit_and v 128) v) 256 v tt h)

-- where no byte has its high bit, each is its low part
low_only : (r : ℕ) → r < 2 ^ 64 → bit_and r 0x8080_8080_8080_8080 ≡ 0 → bit_and r 0x7f7f_7f7f_7f7f_7f7f ≡ r
low_only r h z =
    let w = eight-word r h in
    let split : (k : ℕ) → bit_and (byte_of r k) 127 + bit_and (byte_of r k) 128 ≡ byte_of r k = λ k. split-byte (byte_of r k) (byte_fits r k) in
    let s = eight-add (eight-and w low) (eight-and w high) (λ k. omega (arith, split k, byte_fits r k)) in
    let e : bit_and r 0x7f7f_7f7f_7f7f_7f7f + bit_and r 0x8080_8080_8080_8080 ≡ r = s.worth ∙ (λ i. number 8 (λ k. split k i)) ∙ sym w.worth in
    omega arith

-- a difference of 0 less 1 has its high bit, so that where none has it after each lost 1, none of the eight is b
pub none_alike
    : (w b r : ℕ) → w < 2 ^ 64 → b < 256 → r < 2 ^ 64 → (r + 0x0101_0101_0101_0101) % 2 ^ 64 ≡ apart_by w b → bit_and r 0x8080_8080_8080_8080 ≡ 0
    → (k : ℕ) → k < 8 → byte_of w k ≡ b → ⊥
none_alike w b r h l m e z k n q =
    let p = low_only r m z in
    let s = eight-add (eight-and (eight-word r m) low) (eight_each 1 (omega arith)) (λ k. omega (arith, and_le_r (byte_of r k) 127)) in
    let d = eight_xor (eight-word w h) (eight_each b l) in
    let g : apart_by w b ≡ bit_and r 0x7f7f_7f7f_7f7f_7f7f + 0x0101_0101_0101_0101 * 1 = omega (arith, and_le_r r 0x7f7f_7f7f_7f7f_7f7f) in
    let t = number_same 8 _ _ d.bytes s.bytes (sym d.worth ∙ g ∙ s.worth) k n in
    let o : bit_xor (byte_of w k) b ≡ 0 = rw q (xor_self b) in
    omega arith

-- ---- the first flag

trailing_shift : (k m a : ℕ) → count_trailing_zeros (k + m) (a * 2 ^ k) ≡ k + count_trailing_zeros m a
unfolding count_trailing_zeros
trailing_shift zero m a =
    let z : 0 + m ≡ m = omega arith in
    let o : a * 1 ≡ a = omega arith in
    rw (z, o) (omega arith)
trailing_shift (suc k) m a = rw (suc-add k m, shifted_even a k, shifted_half a k, trailing_shift k m a) (omega arith)

-- zeros that end among the first k digits are those of these digits
trailing_front : (k j a b : ℕ) → count_trailing_zeros k b < k → count_trailing_zeros (k + j) (a * 2 ^ k + b) ≡ count_trailing_zeros k b
unfolding count_trailing_zeros
trailing_front zero j a b h = absurd (omega arith)
trailing_front (suc k) j a b h = rw (suc-add k j, block_odd a k b, block_half a k b) (go (b % 2) (trailing_front k j a (b / 2)) h)
  where
    go
        : (d : ℕ) → (count_trailing_zeros k (b / 2) < k → count_trailing_zeros (k + j) (a * 2 ^ k + b / 2) ≡ count_trailing_zeros k (b / 2))
        → under d (count_trailing_zeros k (b / 2)) < suc k
        → under d (count_trailing_zeros (k + j) (a * 2 ^ k + b / 2)) ≡ under d (count_trailing_zeros k (b / 2))
    go zero f l = ap suc (f (omega arith))
    go (suc d) f l = refl

byte_zeros : (b : ℕ) → b < 256 → (b ≡ 0 → ⊥) → count_trailing_zeros 8 b < 8
unfolding every count_trailing_zeros
byte_zeros b h n =
    let t = eqb→eq (count_trailing_zeros 8 b / 8) (cond (eqb b 0) 1 0) (every-at (λ b. eqb (count_trailing_zeros 8 b / 8) (cond (eqb b 0) 1 0)) 256 b tt h) in
    let z : count_trailing_zeros 8 b / 8 ≡ 0 = rw (ne_eqb b 0 n) at t in
    omega arith

-- eight clear bits are a byte that is 0
pub first-bits : (n m : ℕ) → count_trailing_zeros (n * 8) m / 8 ≡ first_some n (byte_of m)
unfolding first_some byte_of count_trailing_zeros
first-bits zero m = refl
first-bits (suc n) m = rw (suc-mul n 8, add_comm (n * 8) 8) (go (eqb (m % 256) 0) refl (first-bits n (m / 256)))
  where
    go
        : (b : Bool) → eqb (m % 256) 0 ≡ b → count_trailing_zeros (n * 8) (m / 256) / 8 ≡ first_some n (byte_of (m / 256))
        → count_trailing_zeros (8 + n * 8) m / 8 ≡ cond b (suc (first_some n (byte_of (m / 256)))) 0
    go true e f =
        let z = eqb-true (m % 256) 0 e in
        let w : m / 256 * 2 ^ 8 ≡ m = omega arith in
        omega (arith, ap (count_trailing_zeros (8 + n * 8)) w, trailing_shift 8 (n * 8) (m / 256))
    go false e f =
        let b = byte_zeros (m % 256) (omega arith) (eqb-false (m % 256) 0 e) in
        let w : m / 256 * 2 ^ 8 + m % 256 ≡ m = omega arith in
        omega (arith, ap (count_trailing_zeros (8 + n * 8)) w, trailing_front 8 (n * 8) (m / 256) (m % 256) b)

first_like : (n : ℕ) (x y : ℕ → ℕ) → ((k : ℕ) → k < n → x k ≡ y k) → first_some n x ≡ first_some n y
unfolding first_some
first_like zero x y h = refl
first_like (suc n) x y h = rw (h 0 (omega arith), first_like n (λ k. x (suc k)) (λ k. y (suc k)) (λ k l. h (suc k) (omega arith)))

first-later : (n : ℕ) (t : ℕ → Bool) (j : ℕ) → t 0 ≡ false → FirstOf n (λ k. t (suc k)) j → FirstOf (suc n) t (suc j)
first-later n t j e r = record { within = omega (arith, r.within); passes = r.passes; before = go }
  where
    go : (k : ℕ) → k < suc j → t k ≡ false
    go zero l = e
    go (suc k) l = r.before k (omega arith)

first-flag : (n : ℕ) (t : ℕ → Bool) → (number n (λ k. flag (t k)) ≡ 0 → ⊥) → FirstOf n t (first_some n (λ k. flag (t k)))
unfolding number first_some
first-flag zero t h = absurd (h refl)
first-flag (suc n) t h = go (t 0) refl (first-flag n (λ k. t (suc k)))
  where
    go
        : (b : Bool) → t 0 ≡ b
        → ((number n (λ k. flag (t (suc k))) ≡ 0 → ⊥) → FirstOf n (λ k. t (suc k)) (first_some n (λ k. flag (t (suc k)))))
        → FirstOf (suc n) t (cond (eqb (flag b) 0) (suc (first_some n (λ k. flag (t (suc k))))) 0)
    go true e f = record { within = omega arith; passes = e; before = λ k l. absurd (omega arith) }
    go false e f = first-later n t _ e (f (λ q. h (rw (q, e))))

pub first_of : (t : ℕ → Bool) (m j : ℕ) → m ≡ flags t → (m ≡ 0 → ⊥) → j ≡ first_byte m → FirstOf 8 t j
unfolding flags first_byte
first_of t m j e h q =
    let same : first_some 8 (byte_of (flags t)) ≡ first_some 8 (λ k. flag (t k)) =
    first_like 8 (byte_of (flags t)) (λ k. flag (t k)) (λ k l. number-byte 8 (λ k. flag (t k)) (λ k. flag-byte (t k)) k l) in
    rw (q, e, same) (first-flag 8 t (λ z. h (e ∙ z)))
