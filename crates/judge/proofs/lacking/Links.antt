-- Laws of the links: a walk over the children of a node, or over some of them, from the first one by next ones, finds what a search through
-- the whole table finds, for every test that holds of these only.
use Prim.Native.Nat.{ℕ, zero, suc, ◌+◌, ◌-◌, ◌≤◌, ◌<◌}
use mathlib.Core.Path.{◌≡◌, refl, sym, ◌∙◌, ap}
use mathlib.Core.Bool.{Bool, true, false, true≢false}
use native.Mathlib.Omega.{arith}
use lib.ListN.{length, get_or-eq_default}
use lib.Dec.{eqb, ltb}
use borrow.Author.Tests.{ne_eqb, eqb-true, eqb-false, ltb-true, ltb-false}
use Rattle.guide.specs.Nodes.{Guide, Node, message, nobody, node}
use Rattle.guide.specs.workers.Placing.{lowest, first_node}
use Rattle.guide.specs.Choices.{pickℕ}
use Rattle.guide.specs.Options.{unless_0}
use Rattle.guide.proofs.Options.{some_unless_0, none_unless_0}
use Rattle.std.specs.Prelude.{Some, None}
use Rattle.judge.specs.workers.Rows.{child_of}
use Rattle.judge.specs.workers.Searches.{onward}

pub pick-none : (b : Bool) → pickℕ b 0 0 ≡ 0
pick-none true = refl
pick-none false = refl

-- the lowest number from i on that passes, if there is one: it passes, and is not below i
pub lowest_passes : (test : ℕ → Bool) (i k : ℕ) → (lowest test i k ≡ 0 → ⊥) → test (lowest test i k) ≡ true
unfolding lowest
lowest_passes test i zero h = absurd (h refl)
lowest_passes test i (suc k) h = go (test i) refl h (lowest_passes test (suc i) k)
  where
    go
        : (b : Bool) → test i ≡ b → (pickℕ b i (lowest test (suc i) k) ≡ 0 → ⊥) → ((lowest test (suc i) k ≡ 0 → ⊥) → test (lowest test (suc i) k) ≡ true)
        → test (pickℕ b i (lowest test (suc i) k)) ≡ true
    go true e n ih = e
    go false e n ih = ih n

pub lowest-from : (test : ℕ → Bool) (i k : ℕ) → (lowest test i k ≡ 0 → ⊥) → i ≤ lowest test i k
unfolding lowest
lowest-from test i zero h = absurd (h refl)
lowest-from test i (suc k) h = go (test i) h (lowest-from test (suc i) k)
  where
    go
        : (b : Bool) → (pickℕ b i (lowest test (suc i) k) ≡ 0 → ⊥) → ((lowest test (suc i) k ≡ 0 → ⊥) → suc i ≤ lowest test (suc i) k)
        → i ≤ pickℕ b i (lowest test (suc i) k)
    go true n ih = omega arith
    go false n ih =
        let l = ih n in
        omega arith

-- the lowest that passes is not above any that passes
pub lowest-least : (test : ℕ → Bool) (i k x : ℕ) → 1 ≤ i → i ≤ x → x < i + k → test x ≡ true → (lowest test i k ≡ 0 → ⊥) × (lowest test i k ≤ x)
unfolding lowest
lowest-least test i zero x a b l t = absurd (omega arith)
lowest-least test i (suc k) x a b l t = go (test i) refl (lowest-least test (suc i) k x)
  where
    go
        : (q : Bool) → test i ≡ q
        → (1 ≤ suc i → suc i ≤ x → x < suc i + k → test x ≡ true → (lowest test (suc i) k ≡ 0 → ⊥) × (lowest test (suc i) k ≤ x))
        → (pickℕ q i (lowest test (suc i) k) ≡ 0 → ⊥) × (pickℕ q i (lowest test (suc i) k) ≤ x)
    go true e ih = ((λ (z : i ≡ 0). omega arith), b)
    go false e ih =
        let n : i ≡ x → ⊥ = λ z. true≢false (sym t ∙ ap test (sym z) ∙ e) in
        ih (omega arith) (omega arith) (omega arith) t

-- a search in which nothing passes
pub lowest-none : (test : ℕ → Bool) (i k : ℕ) → ((m : ℕ) → i ≤ m → m < i + k → test m ≡ false) → lowest test i k ≡ 0
unfolding lowest
lowest-none test i zero h = refl
lowest-none test i (suc k) h = rw (h i (omega arith) (omega arith)) (lowest-none test (suc i) k (λ m a b. h m (omega arith) (omega arith)))

-- two tests that agree where is sought
pub lowest_like : (s t : ℕ → Bool) (i k : ℕ) → ((m : ℕ) → i ≤ m → m < i + k → s m ≡ t m) → lowest s i k ≡ lowest t i k
unfolding lowest
lowest_like s t i zero h = refl
lowest_like s t i (suc k) h = rw (h i (omega arith) (omega arith), lowest_like s t (suc i) k (λ m a b. h m (omega arith) (omega arith)))

-- a number that passes, where no lower one does
pub lowest-is : (test : ℕ → Bool) (i k n : ℕ) → 1 ≤ i → i ≤ n → n < i + k → test n ≡ true → ((m : ℕ) → i ≤ m → m < n → test m ≡ false) → lowest test i k ≡ n
lowest-is test i k n a b l t first =
    let q = lowest-least test i k n a b l t in
    let passes = lowest_passes test i k q.0 in
    let z : lowest test i k < n → ⊥ = λ h. true≢false (sym passes ∙ first (lowest test i k) (lowest-from test i k q.0) h) in
    omega (arith, q.1)

-- from node n on, 0 being none: how many nodes are left
unfoldable pub ahead : Guide → ℕ → ℕ
ahead g n = pickℕ (eqb n 0) 0 (length g - n)

-- the next link leaves fewer
pub ahead_less : (g : Guide) (n next : ℕ) → (n ≡ 0 → ⊥) → n < length g → ((next ≡ 0 → ⊥) → n < next) → ahead g next < ahead g n
unfolding ahead
ahead_less g n next some inside above = go (eqb next 0) refl
  where
    go : (b : Bool) → eqb next 0 ≡ b → pickℕ b 0 (length g - next) < ahead g n
    go true e = rw (ne_eqb n 0 some) (omega arith)
    go false e =
        let l = above (eqb-false next 0 e) in
        rw (ne_eqb n 0 some) (omega arith)

module _ (g : Guide) where
  -- a search for what only some pass goes on from the first of these
  onward_skip
      : (test some : ℕ → Bool) → ((m : ℕ) → some m ≡ false → test m ≡ false) → (i k : ℕ) → 1 ≤ i → k ≡ length g - i
      → onward test g (lowest some i k) ≡ lowest test i k
  unfolding onward lowest
  onward_skip test some only i zero h l = refl
  onward_skip test some only i (suc k) h l = go (some i) refl (onward_skip test some only (suc i) k (omega arith) (omega arith))
    where
      go
          : (b : Bool) → some i ≡ b → onward test g (lowest some (suc i) k) ≡ lowest test (suc i) k
          → onward test g (pickℕ b i (lowest some (suc i) k)) ≡ pickℕ (test i) i (lowest test (suc i) k)
      go true e ih =
          let m : length g - i ≡ suc k = omega arith in
          rw (ne_eqb i 0 (λ (z : i ≡ 0). omega arith), m)
      go false e ih = rw (only i e) ih

  pub first_skip : (test some : ℕ → Bool) → ((m : ℕ) → some m ≡ false → test m ≡ false) → (n : ℕ) → n ≡ first_node g some → onward test g n ≡ first_node g test
  first_skip test some only n e = ap (onward test g) e ∙ onward_skip test some only 1 (length g - 1) (omega arith) refl

  -- a child of a node of the table stands in the table: past the end is nobody's child
  pub child-inside : (p n : ℕ) → p < nobody → child_of g p n ≡ true → n < length g
  child-inside p n h e = go (ltb n (length g)) refl
    where
      go : (b : Bool) → ltb n (length g) ≡ b → n < length g
      go true q = ltb-true n (length g) q
      go false q =
          let l : length g ≤ n = ltb-false n (length g) q in
          let z : nobody ≡ p = sym (ap (λ (x : Node). x.parent) (get_or-eq_default g message l)) ∙ eqb-true _ _ e in
          absurd (omega arith)

-- a test that holds only where another does
abbrev pub Only : (ℕ → Bool) → (ℕ → Bool) → Type 0
Only some test = (m : ℕ) → some m ≡ false → test m ≡ false

-- a walk over some children of p, those that `kin` tells, stands at n: n is 0 or one of them, and from there on the answer is found
pub record Walking (g : Guide) (kin : ℕ → ℕ → Bool) (p : ℕ) (test : ℕ → Bool) (found n : ℕ) : Type 0 where
  pub known : (n ≡ 0 → ⊥) → p < nobody
  pub below : (m : ℕ) → kin p m ≡ true → child_of g p m ≡ true
  pub only : Only (kin p) test
  pub kind : (n ≡ 0 → ⊥) → kin p n ≡ true
  pub answer : onward test g n ≡ found

module _ (g : Guide) (kin : ℕ → ℕ → Bool) (p : ℕ) (test : ℕ → Bool) (n : ℕ) (below : (m : ℕ) → kin p m ≡ true → child_of g p m ≡ true)
    (only : Only (kin p) test) where
  pub walk_begins : p < nobody → n ≡ first_node g (kin p) → Walking g kin p test (first_node g test) n
  walk_begins known e =
      record {
        known = λ z. known;
        below = below;
        only = only;
        kind = λ z. rw e (lowest_passes (kin p) 1 (length g - 1) (λ q. z (e ∙ q)));
        answer = first_skip g test (kin p) only n e;
      }

module _ {g : Guide} {kin : ℕ → ℕ → Bool} {p : ℕ} {test : ℕ → Bool} {found n : ℕ} (w : Walking g kin p test found n) where
  pub walk_out : n ≡ 0 → None ≡ unless_0 found
  unfolding onward
  walk_out e = none_unless_0 found (sym (rw e) ∙ w.answer)

  module _ (some : n ≡ 0 → ⊥) where
    pub walk_inside : n < length g
    walk_inside = child-inside g p n (w.known some) (w.below n (w.kind some))

    pub walk-child : (node g n).parent ≡ p
    walk-child = eqb-true (node g n).parent p (w.below n (w.kind some))

    pub walk-found : test n ≡ true → Some n ≡ unless_0 found
    unfolding onward lowest
    walk-found t =
        let m : length g - n ≡ suc (length g - suc n) = omega (arith, walk_inside) in
        let q : onward test g n ≡ n = rw (ne_eqb n 0 some, m, t) in
        some_unless_0 n found (sym q ∙ w.answer) some

    module _ (next : ℕ) (link : next ≡ lowest (kin (node g n).parent) (suc n) (length g - suc n)) where
      sibling : next ≡ lowest (kin p) (suc n) (length g - suc n)
      sibling = link ∙ ap (λ (q : ℕ). lowest (kin q) (suc n) (length g - suc n)) walk-child

      pub walk-next : test n ≡ false → Walking g kin p test found next
      unfolding onward lowest
      walk-next t =
          let l : n < length g = walk_inside in
          let m : length g - n ≡ suc (length g - suc n) = omega arith in
          let q : onward test g n ≡ lowest test (suc n) (length g - suc n) = rw (ne_eqb n 0 some, m, t) in
          record {
            known = λ z. w.known some;
            below = w.below;
            only = w.only;
            kind = λ z. rw sibling (lowest_passes (kin p) (suc n) (length g - suc n) (λ e. z (sibling ∙ e)));
            answer =
                ap (onward test g) sibling ∙ onward_skip g test (kin p) w.only (suc n) (length g - suc n) (omega arith) (omega arith) ∙ sym q ∙ w.answer;
          }

      pub walk_less : ahead g next < ahead g n
      walk_less = ahead_less g n next some walk_inside (λ z. rw sibling (lowest-from (kin p) (suc n) (length g - suc n) (λ q. z (sibling ∙ q))))
