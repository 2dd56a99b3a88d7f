-- Laws of Boolean tests, of the test over all numbers below one, and of the search for the lowest number.
use Prim.Native.Nat.{ℕ, zero, suc, ◌+◌, ◌≤◌, ◌<◌}
use mathlib.Core.Path.{◌≡◌, refl, ap₂}
use mathlib.Core.Bool.{Bool, true, false, ◌&&◌, ◌||◌}
use mathlib.Core.List.{List, [], ◌∷◌, ◌++◌, map}
use native.Mathlib.Omega.{arith}
use lib.Dec.{T, eqb, ltb, eqb→eq, ltb→lt}
use borrow.Author.Tests.{eq-eqb, ne_eqb, eqb-true, eqb-false, ltb-false}
use Rattle.plain.specs.Plain.{same}
use Rattle.guide.specs.Tree.{one}
use Rattle.guide.specs.workers.Placing.{lowest}
use Rattle.guide.specs.Choices.{pickℕ, or_else}
use Rattle.guide.specs.workers.Checks.{implies}
pub use Rattle.bytewise.proofs.Every.{every-at}

pub T_true : {b : Bool} → b ≡ true → T b
T_true e = rw e tt

pub true-T : (b : Bool) → T b → b ≡ true
true-T true h = refl
true-T false h = absurd h

pub false-T : (b : Bool) → (T b → ⊥) → b ≡ false
false-T true h = absurd (h tt)
false-T false h = refl

pub and_left : (a b : Bool) → T (a && b) → T a
and_left true b h = tt
and_left false b h = h

pub and_right : (a b : Bool) → T (a && b) → T b
and_right true b h = h
and_right false b h = absurd h

pub and_both : (a b : Bool) → T a → T b → T (a && b)
and_both true b h k = k
and_both false b h k = h

pub or_left : (a b : Bool) → T a → T (a || b)
or_left true b h = tt
or_left false b h = absurd h

pub or_right : (a b : Bool) → T b → T (a || b)
or_right true b h = tt
or_right false b h = h

pub or_cases : (a b : Bool) {C : Type 0} → (T a → C) → (T b → C) → T (a || b) → C
or_cases true b f g h = f tt
or_cases false b f g h = g h

pub implied : (a b : Bool) → T (implies a b) → T a → T b
implied true b h k = h
implied false b h k = absurd k

pub eq-T : (a b : ℕ) → a ≡ b → T (eqb a b)
eq-T a b e = T_true (eq-eqb a b e)

pub same_number : (n m : ℕ) → (n < m → ⊥) → (m < n → ⊥) → n ≡ m
same_number n m a b = go (ltb n m) refl (ltb m n) refl
  where
    go : (p : Bool) → ltb n m ≡ p → (q : Bool) → ltb m n ≡ q → n ≡ m
    go true e q f = absurd (a (ltb→lt n m (T_true e)))
    go false e true f = absurd (b (ltb→lt m n (T_true f)))
    go false e false f = omega (arith, ltb-false n m e, ltb-false m n f)

pub map-append : {A B : Type 0} (f : A → B) (xs ys : List A) → map f (xs ++ ys) ≡ map f xs ++ map f ys
map-append f [] ys = refl
map-append f (x ∷ xs) ys = rw (map-append f xs ys)

-- equal rows of bytes
pub same-eq : (xs ys : List ℕ) → T (same xs ys) → xs ≡ ys
unfolding same
same-eq [] [] h = refl
same-eq [] (y ∷ ys) h = absurd h
same-eq (x ∷ xs) [] h = absurd h
same-eq (x ∷ xs) (y ∷ ys) h =
    let a = eqb→eq x y (and_left (eqb x y) (same xs ys) h) in
    let b = same-eq xs ys (and_right (eqb x y) (same xs ys) h) in
    ap₂ (λ (z : ℕ) (zs : List ℕ). z ∷ zs) a b

pub same_refl : (xs : List ℕ) → T (same xs xs)
unfolding same
same_refl [] = tt
same_refl (x ∷ xs) = and_both (eqb x x) (same xs xs) (eq-T x x refl) (same_refl xs)

-- what a search from i on finds, 0 being none
pub data Search (test : ℕ → Bool) (i k : ℕ) : ℕ → Type 0 where
  found : {n : ℕ} → i ≤ n → n < i + k → T (test n) → ((x : ℕ) → i ≤ x → x < n → T (test x) → ⊥) → Search test i k n
  nowhere : ((x : ℕ) → i ≤ x → x < i + k → T (test x) → ⊥) → Search test i k 0

search_more : (test : ℕ → Bool) (i k n : ℕ) → (T (test i) → ⊥) → Search test (suc i) k n → Search test i (suc k) n
search_more test i k n h (found l e t u) = found {n = n} (omega arith) (omega arith) t (λ x a b c. go x (eqb x i) refl a b c)
  where
    go : (x : ℕ) (b : Bool) → eqb x i ≡ b → i ≤ x → x < n → T (test x) → ⊥
    go x true e a b c = h (rw (eqb-true x i e) at c)
    go x false e a b c =
        let q = eqb-false x i e in
        u x (omega arith) b c
search_more test i k n h (nowhere u) = nowhere (λ x a b c. go x (eqb x i) refl a b c)
  where
    go : (x : ℕ) (b : Bool) → eqb x i ≡ b → i ≤ x → x < i + suc k → T (test x) → ⊥
    go x true e a b c = h (rw (eqb-true x i e) at c)
    go x false e a b c =
        let q = eqb-false x i e in
        u x (omega arith) (omega arith) c

pub searched : (test : ℕ → Bool) (i k : ℕ) → Search test i k (lowest test i k)
unfolding lowest
searched test i zero = nowhere (λ x a b c. omega arith)
searched test i (suc k) = go (test i) refl (searched test (suc i) k)
  where
    go : (b : Bool) → test i ≡ b → Search test (suc i) k (lowest test (suc i) k) → Search test i (suc k) (pickℕ b i (lowest test (suc i) k))
    go true e ih = found {n = i} (omega arith) (omega arith) (T_true e) (λ x a b c. omega arith)
    go false e ih = search_more test i k _ (λ t. rw e at t) ih

pub or_else-some : (a b : ℕ) → 0 < a → or_else a b ≡ a
or_else-some zero b h = absurd (omega arith)
or_else-some (suc a) b h = refl

pub one_same : (n m : ℕ) → n ≡ m → one (eqb n m) ≡ 1
one_same n m e = rw (eq-eqb n m e)

pub one-other : (n m : ℕ) → (n ≡ m → ⊥) → one (eqb n m) ≡ 0
one-other n m h = rw (ne_eqb n m h)
