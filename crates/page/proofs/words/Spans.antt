-- Laws of spans and of how far members reach.
use Prim.Native.Nat.{ℕ, zero, suc, ◌+◌, ◌-◌, ◌≤◌, ◌<◌}
use mathlib.Core.Bool.{Bool, true, false, ◌||◌}
use mathlib.Core.Path.{◌≡◌, refl, sym, ap, ◌∙◌}
use mathlib.Core.List.{List, [], ◌∷◌}
use native.Mathlib.Omega.{arith}
use lib.ListN.{get_or, drop}
use lib.Seq.{drop-nil}
use lib.Dec.{ltb}
use borrow.Author.Tests.{lt-ltb, le-ltb, ltb-true, ltb-false}
use Rattle.guide.specs.Page.{Row, Composite}
use Rattle.guide.specs.Choices.{pickℕ}
use Rattle.guide.specs.workers.Moods.{is_must, any_must, absent_fault}
use Rattle.page.specs.workers.Words.{span, further, reach, lacking}

module _ {A : Type 0} (l : List A) (z : A) where
  -- its members, and what is past them
  pub span-at : (n m c : ℕ) → c < m → get_or (span l z n m) c z ≡ get_or l (n + c) z
  unfolding span
  span-at n zero c h = absurd (omega arith)
  span-at n (suc m) zero h =
      let e : n + 0 ≡ n = omega arith in
      rw e
  span-at n (suc m) (suc c) h =
      let e : n + 1 + c ≡ n + suc c = omega arith in
      span-at (n + 1) m c (omega arith) ∙ rw e

  pub span-past : (n m c : ℕ) → m ≤ c → get_or (span l z n m) c z ≡ z
  unfolding span
  span-past n zero c h = refl
  span-past n (suc m) zero h = absurd (omega arith)
  span-past n (suc m) (suc c) h = span-past (n + 1) m c (omega arith)

  -- those up to a place: the first of them, or none
  module _ (n next : ℕ) where
    pub span-next : n < next → span l z n (next - n) ≡ get_or l n z ∷ span l z (n + 1) (next - (n + 1))
    unfolding span
    span-next h =
        let k : next - n ≡ suc (next - (n + 1)) = omega arith in
        rw k

    pub span_none : next ≤ n → span l z n (next - n) ≡ []
    unfolding span
    span_none h =
        let k : next - n ≡ 0 = omega arith in
        rw k

-- a member that is so stands behind the first c exactly if they reach further than c
module _ {A : Type 0} (f : A → Bool) where
  unfoldable any_of : List A → Bool
  any_of [] = false
  any_of (x ∷ xs) = f x || any_of xs

  reach-first : (b : Bool) (n : ℕ) → (b || ltb 0 n) ≡ ltb 0 (further n b)
  reach-first true zero = refl
  reach-first false zero = refl
  reach-first true (suc n) = sym (lt-ltb 0 (suc (suc n)) (omega arith))
  reach-first false (suc n) = lt-ltb 0 (suc n) (omega arith) ∙ sym (lt-ltb 0 (suc (suc n)) (omega arith))

  reach-further : (c : ℕ) (b : Bool) (n : ℕ) → ltb c n ≡ ltb (suc c) (further n b)
  reach-further c true zero = le-ltb c 0 (omega arith) ∙ sym (le-ltb (suc c) 1 (omega arith))
  reach-further c false zero = le-ltb c 0 (omega arith) ∙ sym (le-ltb (suc c) 0 (omega arith))
  reach-further c b (suc n) = go (ltb c (suc n)) refl
    where
      go : (v : Bool) → ltb c (suc n) ≡ v → v ≡ ltb (suc c) (suc (suc n))
      go true e = sym (lt-ltb (suc c) (suc (suc n)) (omega (arith, ltb-true c (suc n) e)))
      go false e = sym (le-ltb (suc c) (suc (suc n)) (omega (arith, ltb-false c (suc n) e)))

  reach-any : (l : List A) (c : ℕ) → any_of (drop c l) ≡ ltb c (reach f l)
  unfolding any_of reach
  reach-any [] c = rw (drop-nil {A = A} c) (sym (le-ltb c 0 (omega arith)))
  reach-any (x ∷ xs) zero = rw (reach-any xs 0) (reach-first (f x) (reach f xs))
  reach-any (x ∷ xs) (suc c) = reach-any xs c ∙ reach-further c (f x) (reach f xs)

must-any : (rs : List Row) → any_must rs ≡ any_of is_must rs
unfolding any_must any_of
must-any [] = refl
must-any (r ∷ rs) = rw (must-any rs)

absent_any : (ks : List Composite) → absent_fault ks ≡ pickℕ (any_of lacking ks) 17 0
unfolding absent_fault any_of lacking
absent_any [] = refl
absent_any (k ∷ ks) = rw (absent_any ks) (go (lacking k) (any_of lacking ks))
  where
    go : (a b : Bool) → pickℕ a 17 (pickℕ b 17 0) ≡ pickℕ (a || b) 17 0
    go true b = refl
    go false b = refl

pub must-reach : (rs : List Row) (c : ℕ) → any_must (drop c rs) ≡ ltb c (reach is_must rs)
must-reach rs c = must-any (drop c rs) ∙ reach-any is_must rs c

pub absent_reach : (ks : List Composite) (e : ℕ) → absent_fault (drop e ks) ≡ pickℕ (ltb e (reach lacking ks)) 17 0
absent_reach ks e = absent_any (drop e ks) ∙ ap (λ (b : Bool). pickℕ b 17 0) (reach-any lacking ks e)
