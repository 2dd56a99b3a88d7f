-- The tests of refusals 10 and 11, a byte at a time, and that of refusal 10 eight bytes at once.
use Prim.Native.Nat.{ℕ, zero, suc, ◌+◌, ◌-◌, ◌≤◌, ◌<◌, min}
use mathlib.Core.Logic.{◌⊎◌, inl, inr}
use mathlib.Core.Path.{◌≡◌, refl, sym, ◌∙◌, ap}
use mathlib.Core.Bool.{Bool, true, false, not, false≢true, ◌&&◌, and-false}
use mathlib.Core.List.{List, [], ◌∷◌}
use native.Mathlib.Nat.{add-zero}
use native.Mathlib.Omega.{arith}
use borrow.Author.Tests.{eq-eqb, ne_eqb, le-leb, lt-leb, leb-true, leb-false}
use lib.ListN.{length, get_or}
use lib.Dec.{eqb, leb, eqb→eq}
use lib.Bits.{bit_and, bit_or, bit_xor, and_le_r}
use Rattle.bytewise.specs.Bytes.{part}
use Rattle.bytewise.specs.Search.{FirstThat}
use Rattle.bytewise.specs.Every.{every}
use Rattle.bytewise.specs.Eights.{flag, flags}
use Rattle.cut.specs.declared.service.Syntax.{Syntax}
use Rattle.bytewise.proofs.Every.{every-at}
use Rattle.bytewise.proofs.Bytewise.{Eight, eight-and, eight-or, eight_xor, eight-add, eight_each, low, high, flags_of}
use Rattle.bytewise.proofs.Parts.{part_none, part-next, length_part}
use Rattle.bytewise.proofs.Limits.{limited}
use Rattle.clean.specs.Clean.{between, allowed_byte, allowed_bytes, capital, ends_tag, lettered, tagged_bytes}

module _ (x : ℕ) where
  pub byte_low : x < 32 → false ≡ allowed_byte x
  unfolding allowed_byte between
  byte_low h =
      let l : x < 160 = omega arith in
      rw (lt-leb 32 x h, lt-leb 160 x l)

  pub byte-text : 32 ≤ x → x ≤ 126 → true ≡ allowed_byte x
  unfolding allowed_byte between
  byte-text h k = rw (le-leb 32 x h, le-leb x 126 k)

  pub byte_between : 126 < x → x < 160 → false ≡ allowed_byte x
  unfolding allowed_byte between
  byte_between h k =
      let l : 32 ≤ x = omega arith in
      rw (le-leb 32 x l, lt-leb x 126 h, lt-leb 160 x k)

  pub byte_high : 160 ≤ x → x ≤ 255 → true ≡ allowed_byte x
  unfolding allowed_byte between
  byte_high h k =
      let l : 32 ≤ x = omega arith in
      let n : 126 < x = omega arith in
      rw (le-leb 32 x l, lt-leb x 126 n, le-leb 160 x h, le-leb x 255 k)

  pub capital_is : 65 ≤ x → x ≤ 90 → capital x ≡ true
  unfolding capital between
  capital_is h k = rw (le-leb 65 x h, le-leb x 90 k)

  pub capital_low : x < 65 → capital x ≡ false
  unfolding capital between
  capital_low h = rw (lt-leb 65 x h)

  pub capital_high : 90 < x → capital x ≡ false
  unfolding capital between
  capital_high h = rw (lt-leb x 90 h, and-false (leb 65 x))

-- ---- eight bytes at once

-- what is computed from one byte
forbidden_in : ℕ → ℕ
forbidden_in x = bit_xor (bit_and (bit_and (bit_and x 127 + 96) (bit_or (bit_xor (bit_and x 127 + 1) 128) x)) 128) 128

forbidden_in_byte : (x : ℕ) → x < 256 → forbidden_in x ≡ flag (not (allowed_byte x))
unfolding forbidden_in allowed_byte between every
forbidden_in_byte x h =
    eqb→eq (forbidden_in x) (flag (not (allowed_byte x))) (every-at (λ x. eqb (forbidden_in x) (flag (not (allowed_byte x)))) 256 x tt h)

pub forbidden-flags
    : (w : ℕ) (x : ℕ → ℕ) → Eight w x
    → bit_xor
    (bit_and
    (bit_and (bit_and w 0x7f7f_7f7f_7f7f_7f7f + 0x6060_6060_6060_6060)
    (bit_or (bit_xor (bit_and w 0x7f7f_7f7f_7f7f_7f7f + 0x0101_0101_0101_0101) 0x8080_8080_8080_8080) w)) 0x8080_8080_8080_8080) 0x8080_8080_8080_8080
    ≡ flags (λ k. not (allowed_byte (x k)))
unfolding forbidden_in
forbidden-flags w x p =
    let q = eight-and p low in
    let s = eight-add q (eight_each 96 (omega arith)) (λ k. omega (arith, and_le_r (x k) 127)) in
    let t = eight-add q (eight_each 1 (omega arith)) (λ k. omega (arith, and_le_r (x k) 127)) in
    flags_of (eight_xor (eight-and (eight-and s (eight-or (eight_xor t high) p)) high) high) (λ k. not (allowed_byte (x k)))
    (λ k. forbidden_in_byte (x k) (p.bytes k))

module _ (d : List ℕ) (e : ℕ) (h : e ≤ length d) where
  allowed-none : (i : ℕ) → e ≤ i → allowed_bytes (part i e d) ≡ true
  unfolding allowed_bytes
  allowed-none i h = rw (part_none d i e h)

  -- an allowed byte, which may stand behind the part
  allowed_pass : (i : ℕ) → allowed_byte (get_or d i 0) ≡ true → allowed_bytes (part i e d) ≡ allowed_bytes (part (i + 1) e d)
  unfolding allowed_bytes
  allowed_pass i t = go (leb e i) refl
    where
      go : (b : Bool) → leb e i ≡ b → allowed_bytes (part i e d) ≡ allowed_bytes (part (i + 1) e d)
      go true q =
          let l : e ≤ i = leb-true e i q in
          let k : e ≤ i + 1 = omega arith in
          rw (part_none d i e l, part_none d (i + 1) e k)
      go false q = rw (part-next d i e (leb-false e i q) h, t)

  allowed-run
      : (i n : ℕ) → ((k : ℕ) → k < n → allowed_byte (get_or d (i + k) 0) ≡ true) → allowed_bytes (part i e d) ≡ allowed_bytes (part (i + n) e d)
  allowed-run i zero t = rw (add-zero i)
  allowed-run i (suc n) t =
      let z : i + suc n ≡ i + n + 1 = omega arith in
      rw z (allowed-run i n (λ k l. t k (omega arith)) ∙ allowed_pass (i + n) (t n (omega arith)))

  -- each of them is
  pub allowed_each : (i : ℕ) → ((k : ℕ) → i ≤ k → k < e → allowed_byte (get_or d k 0) ≡ true) → allowed_bytes (part i e d) ≡ true
  allowed_each i t = allowed-run i (e - i) (λ k l. t (i + k) (omega arith) (omega arith)) ∙ allowed-none (i + (e - i)) (omega arith)

  allowed_not : (i : ℕ) → i < e → allowed_byte (get_or d i 0) ≡ false → allowed_bytes (part i e d) ≡ false
  unfolding allowed_bytes
  allowed_not i l t = rw (part-next d i e l h, t)

not-not : (b c : Bool) → not b ≡ not c → b ≡ c
not-not true true h = refl
not-not true false h = absurd (false≢true h)
not-not false true h = absurd (false≢true (sym h))
not-not false false h = refl

-- the first byte that is not allowed, or the part's end
pub allowed-by
    : (d : List ℕ) (a e m r : ℕ) → m ≡ min e (length d) → FirstThat (λ x. not (allowed_byte x)) d a (min e (length d)) r
    → leb m r ≡ allowed_bytes (part a e d)
allowed-by d a e m r lim f = go (leb m r) refl ∙ ap allowed_bytes (limited d a e m lim)
  where
    fits : m ≤ length d
    fits = omega arith

    go : (b : Bool) → leb m r ≡ b → b ≡ allowed_bytes (part a m d)
    go true q = sym (allowed_each d m fits a (λ k l n. not-not _ true (f.before k l (omega (arith, leb-true m r q, f.within)))))
    go false q =
        let l : r < m = leb-false m r q in
        let o : a ≤ r = omega (arith, f.onward) in
        let z : a + (r - a) ≡ r = omega arith in
        sym
        (allowed-run d m fits a (r - a) (λ k n. not-not _ true (f.before (a + k) (omega arith) (omega arith)))
        ∙ rw z (allowed_not d m fits r l (not-not _ false (f.passes (omega arith)))))

module _ (y : Syntax) (x : ℕ) where
  pub ends-element : x ≡ y.element → true ≡ ends_tag y x
  unfolding ends_tag
  ends-element h = rw (eq-eqb _ _ h)

  pub ends-other : (x ≡ y.element → ⊥) → eqb x y.terminator ≡ ends_tag y x
  unfolding ends_tag
  ends-other h = rw (ne_eqb _ _ h)

-- fewer bytes than letters and the byte after them
lettered-short : (y : Syntax) (n : ℕ) (s : List ℕ) → length s ≤ n → lettered y n s ≡ false
unfolding lettered
lettered-short y n [] h = refl
lettered-short y zero (x ∷ xs) h = absurd (omega arith)
lettered-short y (suc n) (x ∷ xs) h = rw (lettered-short y n xs (omega arith)) (and-false (capital x))

by_four
    : (y : Syntax) (s : List ℕ) → 4 ≤ length s
    → tagged_bytes y s ≡ (capital (get_or s 0 0) && (capital (get_or s 1 0) && (capital (get_or s 2 0) && ends_tag y (get_or s 3 0))))
unfolding tagged_bytes lettered
by_four y [] l = absurd (omega arith)
by_four y (a ∷ []) l = absurd (omega arith)
by_four y (a ∷ b ∷ []) l = absurd (omega arith)
by_four y (a ∷ b ∷ c ∷ []) l = absurd (omega arith)
by_four y (a ∷ b ∷ c ∷ x ∷ xs) l = refl

-- a segment of four bytes or more, by the first four
module _ (y : Syntax) (s : List ℕ) where
  pub untagged-short : length s < 4 → false ≡ tagged_bytes y s
  unfolding tagged_bytes
  untagged-short h = sym (lettered-short y 3 s (omega arith))

  pub tagged_four
      : 4 ≤ length s → capital (get_or s 0 0) ≡ true → capital (get_or s 1 0) ≡ true → capital (get_or s 2 0) ≡ true
      → ends_tag y (get_or s 3 0) ≡ tagged_bytes y s
  tagged_four l a b c = sym (by_four y s l ∙ rw (a, b, c))

  pub untagged_first : 4 ≤ length s → capital (get_or s 0 0) ≡ false → false ≡ tagged_bytes y s
  untagged_first l a = sym (by_four y s l ∙ rw a)

  pub untagged_second : 4 ≤ length s → capital (get_or s 1 0) ≡ false → false ≡ tagged_bytes y s
  untagged_second l b = sym (by_four y s l ∙ rw (b, and-false (capital (get_or s 0 0))))

  pub untagged_third : 4 ≤ length s → capital (get_or s 2 0) ≡ false → false ≡ tagged_bytes y s
  untagged_third l c = sym (by_four y s l ∙ rw (c, and-false (capital (get_or s 1 0)), and-false (capital (get_or s 0 0))))

module _ (y : Syntax) (d : List ℕ) (a e m : ℕ) (lim : m ≡ min e (length d)) where
  pub tag-short : m ≤ a + 3 → tagged_bytes y (part a e d) ≡ false
  unfolding tagged_bytes
  tag-short h =
      let l : m ≤ length d = omega arith in
      let n : m - a ≤ 3 = omega arith in
      rw (← limited d a e m lim) (lettered-short y 3 (part a m d) (rw (length_part d a m l) n))

  pub tag_four
      : (r : Bool) → a + 3 < m
      → r ≡ capital (get_or d a 0) && (capital (get_or d (a + 1) 0) && (capital (get_or d (a + 2) 0) && ends_tag y (get_or d (a + 3) 0)))
      → r ≡ tagged_bytes y (part a e d)
  unfolding tagged_bytes lettered
  tag_four r h t =
      let l : m ≤ length d = omega arith in
      let h0 : a < m = omega arith in
      let h1 : a + 1 < m = omega arith in
      let h2 : a + 2 < m = omega arith in
      let z1 : a + 1 + 1 ≡ a + 2 = omega arith in
      let z2 : a + 2 + 1 ≡ a + 3 = omega arith in
      rw (← limited d a e m lim, part-next d a m h0 l, part-next d (a + 1) m h1 l, z1, part-next d (a + 2) m h2 l, z2, part-next d (a + 3) m h l) t

  -- it ends before it begins; no part ends past the row
  pub untagged-none : (m < a) ⊎ (length d < m) → false ≡ tagged_bytes y (part a e d)
  untagged-none (inl h) = rw (← limited d a e m lim, part_none d a m (omega arith)) (untagged-short y [] (omega arith))
  untagged-none (inr h) = absurd (omega arith)
