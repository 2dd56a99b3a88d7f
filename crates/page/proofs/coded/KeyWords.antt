-- The number of a component without release marks, taken from the eight bytes that begin with it.
use Prim.Native.Nat.{ℕ, zero, suc, ◌+◌, ◌-◌, ◌^◌, ◌≤◌, ◌<◌}
use mathlib.Core.Bool.{Bool, true, false}
use mathlib.Core.Path.{◌≡◌, refl, sym, ap, ◌∙◌}
use mathlib.Core.List.{List, [], ◌∷◌}
use native.Mathlib.Nat.{pow-suc}
use native.Mathlib.Omega.{arith}
use lib.Bits.{bit_and, and_mask}
use lib.ListN.{length, get_or}
use borrow.Author.Tests.{le-leb, lt-leb}
use Rattle.bytewise.specs.Bytes.{part}
use Rattle.bytewise.specs.Eights.{number, on_from, eight_at}
use Rattle.cut.specs.Segments.{frees}
use Rattle.cut.specs.declared.service.Syntax.{Syntax}
use Rattle.bytewise.proofs.Bytewise.{eight_there}
use Rattle.bytewise.proofs.Parts.{part_none, part-next, length_part}
use Rattle.plain.specs.Plain.{unless_mark, plain, decoded}
use Rattle.plain.specs.Words.{packed, word_of}

-- ---- no release mark

plain_fits : (y : Syntax) (r : Bool) (s : List ℕ) → length (plain y r s) ≤ length s
unfolding plain unless_mark
plain_fits y r [] = omega arith
plain_fits y r (x ∷ xs) = go (frees y r x) (plain_fits y (frees y r x) xs)
  where
    go : (b : Bool) → length (plain y (frees y r x) xs) ≤ length xs → length (unless_mark b x (plain y (frees y r x) xs)) ≤ length (x ∷ xs)
    go true h = omega arith
    go false h = omega arith

-- bytes of which none is lost have no release mark
plain-whole : (y : Syntax) (r : Bool) (s : List ℕ) → length (plain y r s) ≡ length s → plain y r s ≡ s
unfolding plain unless_mark
plain-whole y r [] h = refl
plain-whole y r (x ∷ xs) h = go (frees y r x) h (plain_fits y (frees y r x) xs) (plain-whole y (frees y r x) xs)
  where
    go
        : (b : Bool) → length (unless_mark b x (plain y (frees y r x) xs)) ≡ length (x ∷ xs) → length (plain y (frees y r x) xs) ≤ length xs
        → (length (plain y (frees y r x) xs) ≡ length xs → plain y (frees y r x) xs ≡ xs) → unless_mark b x (plain y (frees y r x) xs) ≡ x ∷ xs
    go true e l ih = absurd (omega arith)
    go false e l ih = ap (λ (ys : List ℕ). x ∷ ys) (ih (omega arith))

-- ---- the number of n bytes

packed-part : (d : List ℕ) (n a : ℕ) → a + n ≤ length d → packed (part a (a + n) d) ≡ number n (on_from d a) + 256 ^ n
unfolding packed number
packed-part d zero a h = rw (part_none d a (a + 0) (omega arith))
packed-part d (suc n) a h =
    let e : a + suc n ≡ a + 1 + n = omega arith in
    let z : a + 0 ≡ a = omega arith in
    let p : (k : ℕ) → a + 1 + k ≡ a + suc k = λ k. omega arith in
    let t : packed (part (a + 1) (a + suc n) d) ≡ number n (λ k. on_from d a (suc k)) + 256 ^ n
    = rw e (packed-part d n (a + 1) (omega arith)) ∙ (λ i. number n (λ k. get_or d (p k i) 0) + 256 ^ n) in
    rw (part-next d a (a + suc n) (omega arith) h, t, z, pow-suc 256 n) (omega arith)

-- the lowest n of eight bytes
module _ (x : ℕ → ℕ) (h : (k : ℕ) → x k < 256) where
  lowest : (n : ℕ) → n ≤ 6 → bit_and (number 8 x) (256 ^ n - 1) ≡ number n x
  unfolding number
  lowest zero l = and_mask (number 8 x) 0 ∙ omega arith
  lowest (suc zero) l = and_mask (number 8 x) 8 ∙ omega (arith, h 0)
  lowest (suc (suc zero)) l = and_mask (number 8 x) 16 ∙ omega (arith, h 0, h 1)
  lowest (suc (suc (suc zero))) l = and_mask (number 8 x) 24 ∙ omega (arith, h 0, h 1, h 2)
  lowest (suc (suc (suc (suc zero)))) l = and_mask (number 8 x) 32 ∙ omega (arith, h 0, h 1, h 2, h 3)
  lowest (suc (suc (suc (suc (suc zero))))) l = and_mask (number 8 x) 40 ∙ omega (arith, h 0, h 1, h 2, h 3, h 4)
  lowest (suc (suc (suc (suc (suc (suc zero)))))) l = and_mask (number 8 x) 48 ∙ omega (arith, h 0, h 1, h 2, h 3, h 4, h 5)
  lowest (suc (suc (suc (suc (suc (suc (suc n))))))) l = absurd (omega arith)

-- ---- the number of n bytes, and of a component

pub front-key
    : (d : List ℕ) (a n : ℕ) → n ≤ 6 → a + 8 ≤ length d → ((k : ℕ) → get_or d k 0 < 256) → (w top : ℕ) → w ≡ eight_at d a → top ≡ 256 ^ n
    → bit_and w (top - 1) + top ≡ word_of (part a (a + n) d)
unfolding word_of
front-key d a n short there bytes w top e t =
    let p = eight_there d a there bytes in
    let l : length (part a (a + n) d) ≤ 6 = rw (length_part d a (a + n) (omega arith)) (omega arith) in
    rw (le-leb (length (part a (a + n) d)) 6 l, packed-part d n a (omega arith), t, e, p.worth)
    (ap (λ (m : ℕ). m + 256 ^ n) (lowest (on_from d a) p.bytes n short))

module _ (y : Syntax) (d : List ℕ) (a b n : ℕ) (c : n ≡ length (decoded y a b d)) where
  pub key_long : 6 < n → 0 ≡ word_of (decoded y a b d)
  unfolding word_of
  key_long h = rw (← c, lt-leb n 6 h)

  -- a component of as many bytes as it takes has no release mark
  pub unreleased : b ≤ length d → a + n ≡ b → decoded y a b d ≡ part a (a + n) d
  unfolding decoded
  unreleased h ends =
      let l : length (part a b d) ≡ b - a = length_part d a b h in
      rw ends (plain-whole y false (part a b d) (sym c ∙ omega arith))
