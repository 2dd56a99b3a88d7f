-- Counts: one law for each answer of `count_of`, at the run of digits that was read.
use Prim.Native.Nat.{ℕ, ◌≤◌, ◌<◌}
use mathlib.Core.Bool.{Bool, true, false, not, ◌&&◌, cond, and-false, false≢true}
use mathlib.Core.Path.{◌≡◌, refl, sym, ap, subst, ◌∙◌}
use mathlib.Core.List.{List, [], ◌∷◌, cons≢nil}
use native.Mathlib.Nat.{zero-mul, zero-add}
use native.Mathlib.Omega.{arith}
use lib.ListN.{length}
use lib.Dec.{eqb, leb, lit<}
use borrow.Author.Tests.{lt-leb, le-leb, eq-eqb, ne_eqb}
use Rattle.value.specs.declared.numeral.Run.{Run}
use Rattle.std.specs.Prelude.{Option, Some, None, is_some}
use Rattle.value.specs.Numeral.{is_digit, some, none, digits_ahead, behind_digits, decimal}
use Rattle.value.specs.Digits.{padded, is_count, count_of}
use Rattle.value.specs.workers.Scans.{behind_by, DigitRun}
use Rattle.value.proofs.Numerals.{none-of}

-- where nothing stands behind the digits, they are the whole
alone : (x : ℕ) (xs : List ℕ) (b : Bool) → is_digit x ≡ b → behind_digits (x ∷ xs) ≡ [] → (behind_digits xs ≡ [] → digits_ahead xs ≡ xs)
    → digits_ahead (x ∷ xs) ≡ x ∷ xs
unfolding digits_ahead behind_digits
alone x xs true e h k = rw e (ap (λ (l : List ℕ). x ∷ l) (k (rw e at h)))
alone x xs false e h k = absurd (cons≢nil (rw e at h))

pub digits_alone : (s : List ℕ) → behind_digits s ≡ [] → digits_ahead s ≡ s
unfolding digits_ahead
digits_alone [] h = refl
digits_alone (x ∷ xs) h = alone x xs (is_digit x) refl h (digits_alone xs)

pub padded-not-one : (s : List ℕ) → length s ≡ 1 → padded s ≡ false
unfolding padded
padded-not-one [] h = refl
padded-not-one (x ∷ []) h = refl
padded-not-one (x ∷ z ∷ zs) h = absurd (omega arith)

pub padded-first : (s : List ℕ) (x : ℕ) (t : List ℕ) → s ≡ x ∷ t → (length s ≡ 1 → ⊥) → padded s ≡ eqb x 48
unfolding padded
padded-first s x [] p h = absurd (h (ap length p))
padded-first s x (z ∷ zs) p h = rw p

pub padded-other : (s : List ℕ) (x : ℕ) (t : List ℕ) → s ≡ x ∷ t → (x ≡ 48 → ⊥) → padded s ≡ false
unfolding padded
padded-other s x [] p h = rw p
padded-other s x (z ∷ zs) p h = rw (p, ne_eqb x 48 h)

pub no_count : (s : List ℕ) → s ≡ [] → None ≡ count_of s
unfolding count_of is_count some
no_count s p = rw p

-- the run of equal bytes
pub run-of : (l s : List ℕ) (r : Run) (t : List ℕ) → l ≡ s → DigitRun l 0 r t → DigitRun s 0 r t
run-of l s r t e q = subst (λ (x : List ℕ). DigitRun x 0 r t) e q

-- the answers; s are the decoded bytes, and the run its digits
module _ (s : List ℕ) (r : Run) (u : List ℕ) (q : DigitRun s 0 r u) where
  pub count-other : is_some r.behind ≡ true → None ≡ count_of s
  unfolding count_of is_count none
  count-other h = rw q.behind (go r.behind h)
    where
      go : (b : Option ℕ) → is_some b ≡ true
          → None ≡ cond ((some s && (none (behind_by b u) && not (padded s))) && leb (length s) 15) (Some (decimal s)) None
      go None h = absurd (false≢true h)
      go (Some x) h = rw (and-false (some s))

  module _ (h : is_some r.behind ≡ false) where
    ended : behind_digits s ≡ []
    ended = q.behind ∙ ap (λ (b : Option ℕ). behind_by b u) (none-of r.behind h)

    whole-count : r.count ≡ length s
    whole-count = q.counted ∙ ap length (digits_alone s ended)

    pub count_long : 15 < r.count → None ≡ count_of s
    unfolding count_of
    count_long k =
        let l : 15 < length s = omega (arith, whole-count) in
        rw (lt-leb (length s) 15 l, and-false)

    module _ (x : ℕ) (t : List ℕ) (p : s ≡ x ∷ t) where
      pub count-padded : (r.count ≡ 1 → ⊥) → x ≡ 48 → None ≡ count_of s
      unfolding count_of is_count
      count-padded n z = rw (padded-first s x t p (λ l. n (whole-count ∙ l)), eq-eqb x 48 z, and-false, and-false)

      is-count : r.count ≤ 15 → padded s ≡ false → Some r.value ≡ count_of s
      unfolding count_of is_count some none
      is-count k n =
          let m : some s ≡ true = ap some p in
          let l : length s ≤ 15 = omega (arith, whole-count) in
          let v : r.value ≡ decimal s =
          q.valued 0 (lit< tt) (omega arith) ∙ rw zero-mul (zero-add _) ∙ ap decimal (digits_alone s ended)
          in
          rw (v, m, ended, n, le-leb (length s) 15 l)

      pub count-one : r.count ≡ 1 → Some r.value ≡ count_of s
      count-one n = is-count (omega arith) (padded-not-one s (sym whole-count ∙ n))

      pub count-is : r.count ≤ 15 → (x ≡ 48 → ⊥) → Some r.value ≡ count_of s
      count-is k n = is-count k (padded-other s x t p n)
