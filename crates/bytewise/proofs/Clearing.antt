-- The first flag of eight bytes and the next one: a number without its lowest bit loses its first flag.
use Prim.Native.Nat.{ℕ, zero, suc, ◌+◌, ◌-◌, ◌*◌, ◌≤◌, ◌<◌}
use mathlib.Core.Path.{◌≡◌, refl, sym, ap, ◌∙◌}
use mathlib.Core.Bool.{Bool, true, false, ◌&&◌}
use native.Mathlib.Omega.{arith}
use lib.Bits.{bit_and, and_self, and_block}
use lib.Dec.{eqb, ltb}
use borrow.Author.Tests.{eqb-true, eqb-false, lt-ltb, le-ltb}
use Rattle.bytewise.specs.Eights.{number, byte_of, flag, flags, first_some, first_byte}
use Rattle.bytewise.proofs.Bytewise.{FirstOf, flags-none, first_of}

some-set : (n : ℕ) → (n ≡ 0 → ⊥) → 0 < n
some-set zero h = absurd (h refl)
some-set (suc n) h = omega arith

-- s are the tests t without the first that holds
pub first-cleared
    : (n : ℕ) (t s : ℕ → Bool) (j : ℕ) → FirstOf n t j → (number n (λ k. flag (t k)) ≡ 0 → ⊥) → ((k : ℕ) → j < k → s k ≡ t k) → ((k : ℕ) → k ≤ j → s k ≡ false)
    → bit_and (number n (λ k. flag (t k))) (number n (λ k. flag (t k)) - 1) ≡ number n (λ k. flag (s k))
unfolding number
first-cleared zero t s j f h later none = absurd (omega (arith, f.within))
first-cleared (suc n) t s zero f h later none =
    let a = number n (λ k. flag (t (suc k))) in
    let z : a * 256 + 128 - 1 ≡ a * 256 + 127 = omega arith in
    rw (f.passes, none 0 (omega arith), z)
    (and_block 8 a a 128 127 (omega arith) (omega arith)
    ∙ ap (λ (m : ℕ). m * 256 + 0) (and_self a ∙ λ i. number n (λ k. flag (sym (later (suc k) (omega arith)) i))))
first-cleared (suc n) t s (suc j) f h later none =
    let a = number n (λ k. flag (t (suc k))) in
    let z = f.before 0 (omega arith) in
    let some : a ≡ 0 → ⊥ = λ q. h (rw (q, z)) in
    let below : a * 256 + 0 - 1 ≡ (a - 1) * 256 + 255 = omega (arith, some-set a some) in
    let g : FirstOf n (λ k. t (suc k)) j = record { within = omega (arith, f.within); passes = f.passes; before = λ k l. f.before (suc k) (omega arith) } in
    let tail = first-cleared n (λ k. t (suc k)) (λ k. s (suc k)) j g some (λ k l. later (suc k) (omega arith)) (λ k l. none (suc k) (omega arith)) in
    rw (z, none 0 (omega arith), below) (and_block 8 a (a - 1) 0 255 (omega arith) (omega arith) ∙ ap (λ (m : ℕ). m * 256 + 0) tail)

nothing-flagged : first_byte 0 ≡ 8
unfolding first_byte first_some byte_of
nothing-flagged = refl

-- the flags m of eight bytes, and the place j of the first
module _ (t : ℕ → Bool) (m j : ℕ) (e : m ≡ flags t) (q : j ≡ first_byte m) where
  pub first-before : (k : ℕ) → k < j → t k ≡ false
  first-before k l = go (eqb m 0) refl
    where
      go : (b : Bool) → eqb m 0 ≡ b → t k ≡ false
      go true h =
          let z : m ≡ 0 = eqb-true m 0 h in
          let o : j ≡ 8 = q ∙ ap first_byte z ∙ nothing-flagged in
          flags-none t (sym e ∙ z) k (omega arith)
      go false h = (first_of t m j e (eqb-false m 0 h) q).before k l

  some-flagged : j < 8 → m ≡ 0 → ⊥
  some-flagged l z =
      let o : j ≡ 8 = q ∙ ap first_byte z ∙ nothing-flagged in
      omega arith

  pub first-some : j < 8 → 0 < m
  first-some l = some-set m (some-flagged l)

  pub first_passes : j < 8 → t j ≡ true
  first_passes l = (first_of t m j e (some-flagged l) q).passes

  rest-flags : j < 8 → bit_and m (m - 1) ≡ flags (λ k. ltb j k && t k)
  unfolding flags
  rest-flags l =
      let some = some-flagged l in
      rw e
      (first-cleared 8 t (λ k. ltb j k && t k) j (first_of t m j e some q) (λ z. some (e ∙ z)) (λ k h. rw (lt-ltb j k h)) (λ k h. rw (le-ltb j k h)))

-- between the first flag and the next one, i, there is none
pub next-before
    : (t : ℕ → Bool) (m j i : ℕ) → m ≡ flags t → j ≡ first_byte m → j < 8 → i ≡ first_byte (bit_and m (m - 1))
    → (k : ℕ) → j < k → k < i → t k ≡ false
next-before t m j i e q l r k a b =
    let f = first-before (λ k. ltb j k && t k) (bit_and m (m - 1)) i (rest-flags t m j e q l) r k b in
    rw (lt-ltb j k a) at f
