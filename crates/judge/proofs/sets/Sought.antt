-- Laws of a search through a set of nodes, from the lowest on: what fails is taken out.
use Prim.Native.Nat.{ℕ, ◌-◌, ◌<◌, ◌^◌}
use mathlib.Core.Path.{◌≡◌, refl, sym, ◌∙◌, ap}
use mathlib.Core.Bool.{Bool, true, false, not, ◌&&◌}
use native.Mathlib.Omega.{arith}
use lib.ListN.{length}
use lib.Dec.{eqb}
use lib.Bits.{bit_and}
use lib.Count.{count_trailing_zeros}
use borrow.Author.Tests.{eqb-true, lt-ltb}
use Rattle.guide.specs.Nodes.{Guide}
use Rattle.guide.specs.Options.{unless_0}
use Rattle.guide.specs.workers.Placing.{first_node}
use Rattle.guide.proofs.Options.{some_unless_0, none_unless_0}
use Rattle.std.specs.Prelude.{Option, Some, None}
use Rattle.judge.specs.declared.sets.NodeSet.{NodeSet}
use Rattle.judge.specs.workers.NodeSets.{TakesLowest}
use Rattle.judge.specs.workers.Sets.{member, nodes_that}
use Rattle.judge.proofs.lacking.Links.{lowest-none, lowest_like, lowest-is}
use Rattle.judge.proofs.sets.Members.{member-none, member-and, nodes_member, first_member, first-lowest, rest-member, rest_less}

-- the nodes of the set s that pass the test
abbrev pub within : ℕ → (ℕ → Bool) → ℕ → Bool
within s test n = member s n && test n

-- in the set s of nodes the answer is found
pub record Sought (g : Guide) (test : ℕ → Bool) (found s : ℕ) : Type 0 where
  pub fits : s < 2 ^ 32
  pub inside : (n : ℕ) → member s n ≡ true → (0 < n) × (n < length g)
  pub answer : first_node g (within s test) ≡ found

module _ {g : Guide} {test : ℕ → Bool} {found s : ℕ} (w : Sought g test found s) where
  pub sought_out : s ≡ 0 → None ≡ unless_0 found
  sought_out h = none_unless_0 found (sym (lowest-none (within s test) 1 (length g - 1) (λ m a b. rw (h, member-none m))) ∙ w.answer)

  -- n is the lowest of the set
  module _ (some : s ≡ 0 → ⊥) (n : ℕ) (first : n ≡ count_trailing_zeros 32 s) where
    first-in : member s n ≡ true
    first-in = rw first (first_member 32 s w.fits some)

    pub sought_inside : (0 < n) × (n < length g)
    sought_inside = w.inside n first-in

    pub sought_found : (r : Bool) → r ≡ test n → r ≡ true → Some n ≡ unless_0 found
    sought_found r asked t =
        some_unless_0 n found
        (sym
        (lowest-is (within s test) 1 (length g - 1) n (omega arith) (omega (arith, sought_inside)) (omega (arith, sought_inside)) (rw (first-in, sym asked, t))
        (λ m a l. rw (first-lowest 32 s m (omega arith))))
        ∙ w.answer)
        (omega (arith, sought_inside))

    -- of the nodes that pass another test the set has none
    pub sought_fails : (other : ℕ → Bool) (t : ℕ) → t ≡ nodes_that g other → bit_and s t ≡ 0 → other n ≡ false
    sought_fails other t told none =
        let same : member t n ≡ other n =
        rw (told, nodes_member g other n, lt-ltb n (length g) sought_inside.1, lt-ltb 0 n sought_inside.0) in
        let both : member s n && member t n ≡ false = sym (member-and s t n) ∙ ap (λ (x : ℕ). member x n) none ∙ member-none n in
        sym same ∙ (rw first-in at both)

    module _ (rest : ℕ) (out : rest ≡ bit_and s (s - 1)) where
      rest_in : (m : ℕ) → member rest m ≡ member s m && not (eqb m n)
      rest_in m = rw (out, first) (rest-member 32 s m w.fits some)

      pub sought_next : (r : Bool) → r ≡ test n → r ≡ false → Sought g test found rest
      sought_next r asked f =
          record {
            fits = omega (arith, out, rest_less s some, w.fits);
            inside = λ m h. w.inside m (left (member s m) _ (sym (rest_in m) ∙ h));
            answer = lowest_like _ _ 1 (length g - 1) (λ m a b. same m) ∙ w.answer;
          }
        where
          left : (a b : Bool) → a && b ≡ true → a ≡ true
          left true b h = refl
          left false b h = h

          go : (m : ℕ) (a b : Bool) → eqb m n ≡ b → (a && not b) && test m ≡ a && test m
          go m false b e = refl
          go m true false e = refl
          go m true true e = sym (ap test (eqb-true m n e) ∙ sym asked ∙ f)

          same : (m : ℕ) → within rest test m ≡ within s test m
          same m = rw (rest_in m) (go m (member s m) (eqb m n) refl)

  -- where all of them pass it is the lowest
  pub sought_lowest
      : (r : Option ℕ) (t : NodeSet) → TakesLowest (record { 0 = s }) r t → ((n : ℕ) → (s ≡ 0 → ⊥) → n ≡ count_trailing_zeros 32 s → test n ≡ true) → r
      ≡ unless_0 found
  sought_lowest None t k h = sought_out k.0
  sought_lowest (Some n) t k h = sought_found k.0 n k.1 true (sym (h n k.0 k.1)) refl
