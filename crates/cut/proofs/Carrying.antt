-- Where a segment ends, from the place at which it begins on: byte by byte, and over the bytes that end nothing.
use Prim.Native.Nat.{ℕ, zero, suc, ◌+◌, ◌-◌, ◌≤◌, ◌<◌}
use mathlib.Core.Path.{◌≡◌, refl, sym, ◌∙◌, subst}
use mathlib.Core.Bool.{true, false, true≢false}
use mathlib.Core.List.{List, [], ◌∷◌}
use native.Mathlib.Nat.{add-zero}
use native.Mathlib.Omega.{arith}
use lib.ListN.{length, get_or, drop}
use Rattle.cut.specs.declared.service.Syntax.{Syntax}
use Rattle.cut.specs.Segments.{Segment, segments_from}
use Rattle.cut.specs.Calls.{some_cut, cut_at}
use Rattle.cut.specs.workers.Carrying.{Carries}
use Rattle.cut.specs.workers.Scanning.{open_cut, Onward}
use Rattle.cut.proofs.Cuts.{end-same, piece-same}
use Rattle.cut.proofs.First.{cutting}
use Rattle.cut.proofs.cutting.Scanning.{cut_open, open_end, open_marked, onward-none, onward-plain, onward_released, marked_release}

reopened : (a b e : ℕ) (ss : List Segment) → open_cut b b ss ≡ some_cut b e false → open_cut a b ss ≡ some_cut a e false
unfolding open_cut
reopened a b e [] h = absurd (true≢false (piece-same _ _ _ _ _ _ h))
reopened a b e (s ∷ ss) h =
    let k = end-same _ _ _ _ _ _ h in
    let q = piece-same _ _ _ _ _ _ h in
    cc

module _ (y : Syntax) (d : List ℕ) where
  onward_carries : (a b : ℕ) → Onward y d a false b → Carries y d a b
  onward_carries a b q e h =
      let k = cutting y d b false b e false h in
      let o = q.onward in
      let l : b < length d = omega (arith, k.some, k.fits) in
      cut_open y d a false (omega arith) ∙ q.seen a ∙ reopened a b e (segments_from y b false (drop b d)) (sym (cut_open y d b false l) ∙ h)

  pub carries_on : (a b c : ℕ) → Carries y d a b → Carries y d b c → Carries y d a c
  carries_on a b c f g e h = f e (g e h)

  -- over a byte that is neither the terminator nor the release character
  pub carries_plain : (a : ℕ) → a < length d → (get_or d a 0 ≡ y.terminator → ⊥) → (get_or d a 0 ≡ y.release → ⊥) → Carries y d a (a + 1)
  carries_plain a h n f = onward_carries a (a + 1) (onward-plain y d a a (onward-none y d a false refl (omega arith)) h n f)

  -- over the release character and the byte that it releases
  pub carries_released : (a : ℕ) → a + 2 ≤ length d → (get_or d a 0 ≡ y.terminator → ⊥) → get_or d a 0 ≡ y.release → Carries y d a (a + 2)
  carries_released a h n f =
      let here = marked_release y d a a (onward-none y d a false refl (omega arith)) f in
      let past = onward_released y d (a + 1) true refl (omega arith) in
      let z : a + 1 + 1 ≡ a + 2 = omega arith in
      subst (Carries y d a) z
      (onward_carries a (a + 1 + 1)
      (record { onward = omega arith; inside = omega arith; seen = λ at. open_marked y d at a a (a + 1 + 1) here (omega arith) n past }))

  carries_more
      : (n a : ℕ) → a + n ≤ length d → ((k : ℕ) → a ≤ k → k < a + n → get_or d k 0 ≡ y.terminator → ⊥)
      → ((k : ℕ) → a ≤ k → k < a + n → get_or d k 0 ≡ y.release → ⊥) → Carries y d a (a + n)
  carries_more zero a h n f = rw (add-zero a) (λ e k. k)
  carries_more (suc m) a h n f =
      let z : a + suc m ≡ a + m + 1 = omega arith in
      rw z
      (carries_on a (a + m) (a + m + 1) (carries_more m a (omega arith) (λ k i j. n k i (omega arith)) (λ k i j. f k i (omega arith)))
      (carries_plain (a + m) (omega arith) (n (a + m) (omega arith) (omega arith)) (f (a + m) (omega arith) (omega arith))))

  -- over bytes of which none is the terminator or the release character
  pub carries_run
      : (a b : ℕ) → a ≤ b → b ≤ length d → ((k : ℕ) → a ≤ k → k < b → get_or d k 0 ≡ y.terminator → ⊥)
      → ((k : ℕ) → a ≤ k → k < b → get_or d k 0 ≡ y.release → ⊥) → Carries y d a b
  carries_run a b i h n f =
      let z : a + (b - a) ≡ b = omega arith in
      subst (Carries y d a) z (carries_more (b - a) a (omega arith) (λ k i j. n k i (omega arith)) (λ k i j. f k i (omega arith)))

  -- a terminator alone
  pub ended_here : (a : ℕ) → a < length d → get_or d a 0 ≡ y.terminator → cut_at y d a ≡ some_cut a (a + 1) false
  ended_here a h t = cut_open y d a false h ∙ open_end y d a a h t
