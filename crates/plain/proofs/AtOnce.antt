-- A word that is read at once: the first of eight bytes, with a 1 above the last of them.
use Rattle.std.proofs.Common.{
  ◌≡◌,
  ℕ,
  zero,
  suc,
  ◌+◌,
  ◌-◌,
  ◌*◌,
  ◌%◌,
  ◌^◌,
  ◌<◌,
  ◌≤◌,
  eqb,
  List,
  length,
  get_or,
  sym,
  refl,
  ap,
  ◌∙◌,
  pow-suc,
  arith,
  lit<,
  eqb→eq,
  le-leb,
}
use Rattle.std.specs.Prelude.{Option, Some, None, IfSome}
use native.Mathlib.Nat.{one-le-pow, pow-le-pow_right}
use lib.Bits.{bit_and, and_le_r}
use Rattle.bytewise.specs.Eights.{number, on_from, eight_at, byte_of}
use Rattle.bytewise.specs.Every.{every}
use Rattle.cut.specs.declared.service.Syntax.{Syntax}
use Rattle.bytewise.proofs.Bytewise.{number_like, byte_there, front_bytes, front-byte}
use Rattle.bytewise.proofs.Every.{every-at}
use Rattle.plain.specs.workers.Fronts.{FrontWord}
use Rattle.plain.specs.Plain.{decoded}
use Rattle.plain.specs.Words.{Bytes, packed, word_of}
use Rattle.plain.proofs.Packing.{decoded-bytes}
use Rattle.plain.proofs.Decoding.{decoded-none, decoded-byte, unmarked}

-- ---- the first n of eight bytes

-- what the 1 above them counts
scale_is : (n : ℕ) → n ≤ 6 → 1 * 2 ^ (8 * n) % 2 ^ 64 ≡ 256 ^ n
unfolding every
scale_is n h =
    eqb→eq (1 * 2 ^ (8 * n) % 2 ^ 64) (256 ^ n) (every-at (λ n. eqb (1 * 2 ^ (8 * n) % 2 ^ 64) (256 ^ n)) 7 n tt (omega arith))

module _ (n : ℕ) (h : n ≤ 6) (scale : ℕ) (s : scale ≡ 1 * 2 ^ (8 * n) % 2 ^ 64) where
  pub scale_some : 1 ≤ scale
  scale_some = rw (s, scale_is n h) (one-le-pow n 256 (lit< tt))

  pub scale_fits : (w : ℕ) → bit_and w (scale - 1) + scale < 2 ^ 64
  scale_fits w =
      let k : 256 ^ n ≤ 256 ^ 6 = pow-le-pow_right (lit< tt) h in
      omega (arith, and_le_r w (scale - 1), s ∙ scale_is n h)

  pub front-worth : (w : ℕ) → bit_and w (scale - 1) + scale ≡ number n (byte_of w) + 256 ^ n
  front-worth w = rw (s ∙ scale_is n h) (ap (λ (v : ℕ). v + 256 ^ n) (front_bytes n w))

  pub front-word
      : (y : Syntax) (w : ℕ) → ((k : ℕ) → k < 8 → byte_of (bit_and w (scale - 1)) k ≡ y.release → ⊥) → FrontWord y w n (Some (bit_and w (scale - 1) + scale))
  front-word y w f =
      let q = s ∙ scale_is n h in
      let o : (k : ℕ) → k < n → byte_of (bit_and w (scale - 1)) k ≡ byte_of w k = λ k l. rw q (front-byte n w k l) in
      record {
        worth = front-worth w;
        plain = λ k l e. f k (omega arith) (o k l ∙ e);
      }

-- ---- the bytes of a part

module _ (y : Syntax) (d : List ℕ) (e : ℕ) (h : e ≤ length d) where
  -- n bytes of which none is the release character are as many decoded, and these are their number
  plain-bytes
      : (n a : ℕ) → a + n ≡ e → ((k : ℕ) → k < n → on_from d a k ≡ y.release → ⊥)
      → (length (decoded y a e d) ≡ n) × (packed (decoded y a e d) ≡ number n (on_from d a) + 256 ^ n)
  unfolding packed number
  plain-bytes zero a p u = rw (decoded-none y d a e (omega arith)) (refl, refl)
  plain-bytes (suc n) a p u =
      let z : a + 0 ≡ a = omega arith in
      let q : (k : ℕ) → on_from d (a + 1) k ≡ on_from d a (suc k) = λ k. ap (λ (i : ℕ). get_or d i 0) (omega arith) in
      let r = plain-bytes n (a + 1) (omega arith) (λ k l m. u (suc k) (omega arith) (sym (q k) ∙ m)) in
      let l : number n (on_from d (a + 1)) ≡ number n (λ k. on_from d a (suc k)) = λ i. number n (λ k. q k i) in
      rw (decoded-byte y d a e (omega arith) h (unmarked y _ (rw z at (u 0 (omega arith)))), z, pow-suc 256 n) (omega arith, omega arith)

  module _ (n a w : ℕ) (p : a + n ≡ e) (few : n ≤ 6) (there : a + 8 ≤ length d) (b : (k : ℕ) → get_or d k 0 < 256) (v : w ≡ eight_at d a) where
    pub word-plain : ((k : ℕ) → k < n → byte_of w k ≡ y.release → ⊥) → number n (byte_of w) + 256 ^ n ≡ word_of (decoded y a e d)
    unfolding word_of
    word-plain u =
        let q : (k : ℕ) → k < n → byte_of w k ≡ on_from d a k = λ k l. ap (λ (v : ℕ). byte_of v k) v ∙ byte_there d a k there b (omega arith) in
        let t = plain-bytes n a p (λ k l m. u k l (q k l ∙ m)) in
        let o : length (decoded y a e d) ≤ 6 = omega arith in
        ap (λ (v : ℕ). v + 256 ^ n) (number_like n (byte_of w) (on_from d a) q) ∙ sym (rw (le-leb (length (decoded y a e d)) 6 o) t.1)

    pub word-at-once : (r : Option ℕ) → FrontWord y w n r → IfSome r (λ v. Bytes (decoded y a e d) × (v ≡ 0 → ⊥) × (v ≡ word_of (decoded y a e d)))
    word-at-once None f = tt
    word-at-once (Some v) f =
        let q : 1 ≤ 256 ^ n = one-le-pow n 256 (lit< tt) in
        (decoded-bytes y d a e b, (λ z. omega (arith, f.worth)), f.worth ∙ word-plain f.plain)
