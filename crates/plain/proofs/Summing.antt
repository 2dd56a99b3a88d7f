-- How the number of a word is summed: what holds on the way, and what that gives at its end.
use Rattle.std.proofs.Common.{
  ◌≡◌,
  ℕ,
  suc,
  ◌+◌,
  ◌*◌,
  ◌^◌,
  ◌<◌,
  ◌≤◌,
  Bool,
  true,
  false,
  cond,
  leb,
  List,
  [],
  ◌∷◌,
  length,
  refl,
  ap,
  ◌∙◌,
  leb-true,
  leb-false,
  mul_assoc,
  mul-le-mul_left,
  pow-suc,
  mul-add,
  add-one,
  arith,
  lit<,
  le-leb,
}
use native.Mathlib.Nat.{pow-le-pow_right}
use borrow.Author.Tests.{lt-leb}
use Rattle.plain.specs.Words.{packed, word_of}

-- n bytes of a word are read, their number is sum, and the next one counts scale times
pub record Begun (n sum scale : ℕ) : Type 0 where
  pub few : n ≤ 6
  pub below : sum < scale
  pub scaled : scale ≡ 256 ^ n

-- the word that is begun so and goes on with the bytes s
unfoldable pub word_from : ℕ → ℕ → ℕ → List ℕ → ℕ
word_from n sum scale s = cond (leb (n + length s) 6) (sum + scale * packed s) 0

pub begun-none : Begun 0 0 1
begun-none = record { few = omega arith; below = omega arith; scaled = refl }

pub word-start : (s : List ℕ) → word_from 0 0 1 s ≡ word_of s
unfolding word_from word_of
word-start s =
    let l : 0 + length s ≡ length s = omega arith in
    let v : 0 + 1 * packed s ≡ packed s = omega arith in
    rw (l, v)

module _ {n sum scale : ℕ} (b : Begun n sum scale) where
  -- the next byte counts at most as much as the 1 above six bytes
  pub begun-small : scale ≤ 256 ^ 6
  begun-small = rw b.scaled (pow-le-pow_right (lit< tt) b.few)

  -- it counts just that where six are read
  begun_before : n ≤ 5 → scale ≤ 256 ^ 5
  begun_before h = rw b.scaled (pow-le-pow_right (lit< tt) h)

  pub begun-six : scale ≡ 256 ^ 6 → 6 ≤ n
  begun-six h = go (leb 6 n) refl
    where
      go : (t : Bool) → leb 6 n ≡ t → 6 ≤ n
      go true e = leb-true 6 n e
      go false e =
          let k : n ≤ 5 = omega (arith, leb-false 6 n e) in
          absurd (omega (arith, begun_before k))

  pub begun-fewer : (scale ≡ 256 ^ 6 → ⊥) → n < 6
  begun-fewer h = go (leb 6 n) refl
    where
      go : (t : Bool) → leb 6 n ≡ t → n < 6
      go true e =
          let k : n ≡ 6 = omega (arith, leb-true 6 n e, b.few) in
          absurd (h (b.scaled ∙ ap (λ (m : ℕ). 256 ^ m) k))
      go false e = leb-false 6 n e

  pub word_end : (s : List ℕ) → s ≡ [] → sum + scale ≡ word_from n sum scale s
  unfolding word_from packed
  word_end s p =
      let l : n + 0 ≤ 6 = omega (arith, b.few) in
      rw (p, le-leb (n + 0) 6 l) (omega arith)

  pub word_long : (s t : List ℕ) (x : ℕ) → s ≡ x ∷ t → 6 ≤ n → 0 ≡ word_from n sum scale s
  unfolding word_from
  word_long s t x p h =
      let k = ap length p in
      let l : 6 < n + length s = omega arith in
      rw (lt-leb (n + length s) 6 l)

  -- one byte more
  module _ (x : ℕ) (byte : x < 256) (h : n < 6) where
    -- it counts less than the next one
    begun-byte : sum + scale * x < scale * 256
    begun-byte =
        let k : x ≤ 255 = omega arith in
        let l : scale * x ≤ scale * 255 = mul-le-mul_left scale k in
        omega (arith, b.below)

    pub begun-fits : (sum + scale * x < 256 ^ 6) × (scale * 256 ≤ 256 ^ 6)
    begun-fits =
        let k : n ≤ 5 = omega arith in
        let l : scale ≤ 256 ^ 5 = begun_before k in
        (omega (arith, begun-byte), omega arith)

    pub begun_more : Begun (n + 1) (sum + scale * x) (scale * 256)
    begun_more =
        record {
          few = omega arith;
          below = begun-byte;
          scaled = rw (add-one n, pow-suc 256 n) (ap (λ (k : ℕ). k * 256) b.scaled);
        }

    pub word_more
        : (z : ℕ) (s t : List ℕ) → x ≡ z → s ≡ z ∷ t → word_from n sum scale s ≡ word_from (n + 1) (sum + scale * x) (scale * 256) t
    unfolding word_from packed
    word_more z s t e p =
        let l : n + suc (length t) ≡ n + 1 + length t = omega arith in
        let v : sum + scale * (x + 256 * packed t) ≡ sum + scale * x + scale * 256 * packed t =
        rw (mul-add scale x (256 * packed t), mul_assoc scale 256 (packed t)) (omega arith) in
        rw (p, ← e, l, v)
