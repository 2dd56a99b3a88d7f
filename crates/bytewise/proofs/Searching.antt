-- The search for the first byte that passes a test: what the loops carry on from word to word and from byte to byte.
use Prim.Native.Nat.{ℕ, ◌+◌, ◌-◌, ◌≤◌, ◌<◌, min}
use mathlib.Core.Path.{◌≡◌, sym, ap, subst, ◌∙◌}
use mathlib.Core.Bool.{Bool, true, false}
use mathlib.Core.List.{List}
use native.Mathlib.Decide.{dec_le}
use native.Mathlib.Omega.{arith}
use lib.ListN.{length, get_or}
use Rattle.bytewise.specs.Eights.{eight_at, on_from, flags, Flagged, first_byte}
use Rattle.bytewise.specs.Search.{FirstThat}
use Rattle.bytewise.proofs.Bytewise.{FirstOf, flags-none, flagged_there, first_of}

-- from a up to b no byte passes the test
abbrev pub NoneThat : (ℕ → Bool) → List ℕ → ℕ → ℕ → Type 0
NoneThat test d a b = (k : ℕ) → a ≤ k → k < b → test (get_or d k 0) ≡ false

module _ (test : ℕ → Bool) (d : List ℕ) (from limit i : ℕ) (h : from ≤ i) (n : NoneThat test d from i) where
  -- a byte that passes, or the end
  pub found_here : i < limit → test (get_or d i 0) ≡ true → FirstThat test d from limit i
  found_here l t = record { onward = omega arith; within = omega arith; before = n; passes = λ k. t }

  pub none_more : test (get_or d i 0) ≡ false → NoneThat test d from (i + 1)
  none_more t k a l = go (dec_le i k)
    where
      go : Dec (i ≤ k) → test (get_or d k 0) ≡ false
      go (yes b) = let z : k ≡ i = omega arith in rw z t
      go (no b) = n k a (omega arith)

  -- what is found from a later place on
  pub found_later : (r : ℕ) → FirstThat test d i limit r → FirstThat test d from limit r
  found_later r f =
      let o = f.onward in
      record { onward = omega arith; within = f.within; before = λ k a b. go k a b (dec_le i k); passes = f.passes }
    where
      go : (k : ℕ) → from ≤ k → k < r → Dec (i ≤ k) → test (get_or d k 0) ≡ false
      go k a b (yes l) = f.before k l b
      go k a b (no l) = n k a (omega arith)

  -- the flags m of the eight bytes from i on
  module _ (w m : ℕ) (fits : i + 8 ≤ length d) (small : (k : ℕ) → get_or d k 0 < 256) (e : w ≡ eight_at d i) (f : Flagged w test m) where
    there : m ≡ flags (λ k. test (on_from d i k))
    there = flagged_there d i w test m fits small e f

    within-eight : (j k : ℕ) → i ≤ k → ((o : ℕ) → o < j → test (on_from d i o) ≡ false) → k < i + j → test (get_or d k 0) ≡ false
    within-eight j k a p l =
        let z : i + (k - i) ≡ k = omega arith in
        sym (ap (λ (o : ℕ). test (get_or d o 0)) z) ∙ p (k - i) (omega arith)

    none_on : (j : ℕ) → ((o : ℕ) → o < j → test (on_from d i o) ≡ false) → NoneThat test d from (i + j)
    none_on j p k a l = go (dec_le i k)
      where
        go : Dec (i ≤ k) → test (get_or d k 0) ≡ false
        go (yes b) = within-eight j k b p l
        go (no b) = n k a (omega arith)

    pub none_passes : m ≡ 0 → NoneThat test d from (i + 8)
    none_passes z = none_on 8 (flags-none (λ k. test (on_from d i k)) (sym there ∙ z))

    module _ (j : ℕ) (some : m ≡ 0 → ⊥) (q : j ≡ first_byte m) where
      first : FirstOf 8 (λ k. test (on_from d i k)) j
      first = first_of (λ k. test (on_from d i k)) m j there some q

      pub first-within : j < 8
      first-within = first.within

      pub found_flagged : FirstThat test d from limit (min limit (i + j))
      found_flagged =
          let p = none_on j first.before in
          record {
            onward = omega arith;
            within = omega arith;
            before = λ k a b. p k a (omega arith);
            passes = λ l. let z : min limit (i + j) ≡ i + j = omega arith in rw z first.passes;
          }

-- a limit within d is the limit
pub first_before
    : (test : ℕ → Bool) (d : List ℕ) (from limit r : ℕ) → limit ≤ length d → FirstThat test d from (min limit (length d)) r → FirstThat test d from limit r
first_before test d from limit r h f =
    let z : min limit (length d) ≡ limit = omega arith in
    subst (λ (n : ℕ). FirstThat test d from n r) z f

-- none is left at the end
pub found_none : (test : ℕ → Bool) (d : List ℕ) (from limit : ℕ) → NoneThat test d from limit → FirstThat test d from limit limit
found_none test d from limit n = record { onward = omega arith; within = omega arith; before = n; passes = λ k. absurd (omega arith) }
