-- Marks: the usual service characters, `;` and `>` and the bytes that are not allowed, eight at once by the high bit of each byte.
use Prim.Native.Nat.{ℕ, suc, ◌+◌, ◌*◌, ◌%◌, ◌<◌}
use mathlib.Core.Path.{◌≡◌, refl, sym, ◌∙◌}
use mathlib.Core.Bool.{Bool, true, false, not, ◌||◌, true≢false}
use native.Mathlib.Omega.{arith}
use lib.Dec.{eqb, eqb→eq}
use lib.Bits.{bit_and, bit_or, bit_xor, and_le_r, xor_lt}
use Rattle.cut.specs.Base.{edifact}
use Rattle.bytewise.specs.Every.{every}
use Rattle.bytewise.specs.Eights.{number, byte_of, flag, flags, Flagged}
use Rattle.cut.specs.declared.service.Syntax.{Syntax}
use Rattle.bytewise.proofs.Every.{every-at}
use Rattle.bytewise.proofs.Bytewise.{Eight, eight-and, eight-or, eight_xor, eight-add, eight_each, low, high, flags_of}
use Rattle.element.proofs.UsualServices.{usual_are}
use Rattle.element.proofs.scan.Services.{service_tests}
use Rattle.clean.specs.Clean.{between, allowed_byte}
use Rattle.element.specs.Elements.{ending_of, stays}
use Rattle.element.specs.Services.{is_service, is_mark, usual_services}

-- ---- what a byte that is no mark is

pub text-allowed : (x : ℕ) → between 32 126 x ≡ true → allowed_byte x ≡ true
unfolding allowed_byte
text-allowed x h = rw h

usual_service : (y : Syntax) → usual_services y ≡ true → (x : ℕ) → is_service y x ≡ is_service edifact x
usual_service y u x =
    let s = usual_are y u in
    sym (service_tests y x) ∙ rw (s.0, s.1, s.2, s.3) (service_tests edifact x)

-- where the service characters are the usual ones
pub mark-not : (y : Syntax) → usual_services y ≡ true → (x : ℕ) → is_mark x ≡ false → (is_service y x ≡ false) × (allowed_byte x ≡ true)
unfolding is_mark
mark-not y u x h =
    let g = go (is_service edifact x) (eqb x 59 || eqb x 62) (allowed_byte x) h in
    (usual_service y u x ∙ g.0, g.1)
  where
    go : (a b c : Bool) → (a || b) || not c ≡ false → (a ≡ false) × (c ≡ true)
    go true b c h = absurd (true≢false h)
    go false true c h = absurd (true≢false h)
    go false false true h = (refl, refl)
    go false false false h = absurd (true≢false h)

-- ---- one byte

-- the byte l without its high bit, and the byte s
abbrev differing_in : ℕ → ℕ → ℕ
differing_in l s = bit_xor l s + 127

-- the same of the byte x and the usual service characters
abbrev ends_in : ℕ → ℕ
ends_in x = bit_and (bit_and (differing_in (bit_and x 127) 39) (differing_in (bit_and x 127) 43)) (differing_in (bit_and (bit_and x 127) 122) 58)

-- what is computed from one byte
abbrev marked_in : ℕ → ℕ
marked_in x = bit_xor (bit_and (bit_and (bit_or (bit_and (ends_in x) (bit_xor (bit_and x 127 + 1) 128)) x) (bit_and x 127 + 96)) 128) 128

mark-byte : (x : ℕ) → x < 256 → marked_in x ≡ flag (is_mark x)
unfolding is_mark is_service ending_of stays allowed_byte between every
mark-byte x h = eqb→eq (marked_in x) (flag (is_mark x)) (every-at (λ x. eqb (marked_in x) (flag (is_mark x))) 256 x tt h)

-- ---- eight bytes

-- what is computed for one service character
abbrev pub differing_by : ℕ → ℕ → ℕ
differing_by l s = bit_xor l (0x0101_0101_0101_0101 * (s % 128)) + 0x7f7f_7f7f_7f7f_7f7f

eight_differing : (l s : ℕ) (x : ℕ → ℕ) → s < 128 → Eight l x → ((k : ℕ) → x k < 128) → Eight (differing_by l s) (λ k. differing_in (x k) s)
eight_differing l s x h p n =
    let z : s % 128 ≡ s = omega arith in
    rw z (eight-add (eight_xor p (eight_each s (omega arith))) low (λ k. omega (arith, xor_lt 7 (x k) s (n k) h)))

pub mark-flags
    : (w : ℕ) (x : ℕ → ℕ) → Eight w x → (t e c : ℕ) → t ≡ differing_by (bit_and w 0x7f7f_7f7f_7f7f_7f7f) 39 → e
    ≡ differing_by (bit_and w 0x7f7f_7f7f_7f7f_7f7f) 43
    → c ≡ differing_by (bit_and (bit_and w 0x7f7f_7f7f_7f7f_7f7f) 0x7a7a_7a7a_7a7a_7a7a) 58
    → bit_xor
    (bit_and
    (bit_and
    (bit_or
    (bit_and (bit_and (bit_and t e) c) (bit_xor (bit_and w 0x7f7f_7f7f_7f7f_7f7f + 0x0101_0101_0101_0101) 0x8080_8080_8080_8080)) w)
    (bit_and w 0x7f7f_7f7f_7f7f_7f7f + 0x6060_6060_6060_6060)) 0x8080_8080_8080_8080) 0x8080_8080_8080_8080
    ≡ flags (λ k. is_mark (x k))
mark-flags w x p t e c ft fe fc =
    let q = eight-and p low in
    let f : (k : ℕ) → bit_and (x k) 127 < 128 = λ k. omega (arith, and_le_r (x k) 127) in
    let g : (k : ℕ) → bit_and (bit_and (x k) 127) 122 < 128 = λ k. omega (arith, and_le_r (bit_and (x k) 127) 122) in
    let et = eight_differing _ 39 _ (omega arith) q f in
    let ee = eight_differing _ 43 _ (omega arith) q f in
    let ec = eight_differing _ 58 _ (omega arith) (eight-and q (eight_each 122 (omega arith))) g in
    let ends = eight-and (eight-and et ee) ec in
    let text = eight-add q (eight_each 96 (omega arith)) (λ k. omega (arith, and_le_r (x k) 127)) in
    let delete = eight-add q (eight_each 1 (omega arith)) (λ k. omega (arith, and_le_r (x k) 127)) in
    rw (ft, fe, fc)
    (flags_of (eight_xor (eight-and (eight-and (eight-or (eight-and ends (eight_xor delete high)) p) text) high) high) (λ k. is_mark (x k))
    (λ k. mark-byte (x k) (p.bytes k)))

-- a byte alone: the first of eight
pub marked_alone : (x m : ℕ) → x < 256 → Flagged x is_mark m → not (eqb (m % 256) 0) ≡ is_mark x
unfolding flags number byte_of
marked_alone x m h f =
    let z : x % 256 ≡ x = omega arith in
    rw (f, z) (go (number 7 (λ k. flag (is_mark (byte_of x (suc k))))) (is_mark x))
  where
    go : (n : ℕ) (b : Bool) → not (eqb ((n * 256 + flag b) % 256) 0) ≡ b
    go n true =
        let z : (n * 256 + 128) % 256 ≡ 128 = omega arith in
        rw z
    go n false =
        let z : (n * 256 + 0) % 256 ≡ 0 = omega arith in
        rw z
