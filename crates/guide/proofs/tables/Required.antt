-- What is required in an instance, and the number of a passed limit: both depend on what has come through a row's partner alone. Where limits hold, an
-- instance is complete exactly if every required node has come.
use Prim.Native.Nat.{ℕ, ◌≤◌, ◌<◌}
use mathlib.Core.Path.{◌≡◌, refl, ◌∙◌}
use mathlib.Core.Logic.{◌↔◌}
use mathlib.Core.Bool.{Bool, true, false, ◌&&◌}
use native.Mathlib.Omega.{arith}
use lib.Dec.{T, eqb, ltb, ltb→lt, lt→ltb}
use Rattle.guide.specs.Choices.{pickℕ}
use Rattle.guide.specs.Nodes.{Guide, node, paired, required, over}
use Rattle.guide.specs.Tree.{Kids, count, Limits, Complete}
use Rattle.guide.specs.workers.Checks.{Pairing}
use Rattle.guide.proofs.Basics.{same_number, and_left, and_right, and_both, or_left, or_right, or_cases}

module _ (g : Guide) (m : ℕ) where
  -- a node is required by itself
  pub must-required : (seen : ℕ → ℕ) → T (node g m).must → T (required g m seen)
  unfolding required
  must-required seen h = or_left (node g m).must (paired g m && ltb 0 (seen (node g m).partner)) h

  -- or by its partner
  pub mate_required : (seen : ℕ → ℕ) → T (paired g m) → 0 < seen (node g m).partner → T (required g m seen)
  unfolding required
  mate_required seen h l =
      or_right (node g m).must (paired g m && ltb 0 (seen (node g m).partner))
      (and_both (paired g m) (ltb 0 (seen (node g m).partner)) h (lt→ltb 0 (seen (node g m).partner) l))

  -- and in no other way
  pub required_cases
      : (seen : ℕ → ℕ) {C : Type 0} → (T (node g m).must → C) → (T (paired g m) → 0 < seen (node g m).partner → C) → T (required g m seen) → C
  unfolding required
  required_cases seen f h t =
      let mate = ltb 0 (seen (node g m).partner) in
      or_cases (node g m).must (paired g m && mate) f
      (λ x. h (and_left (paired g m) mate x) (ltb→lt 0 (seen (node g m).partner) (and_right (paired g m) mate x))) t

  -- what is required stays required, however much more comes
  pub required_more
      : (a b : ℕ → ℕ) → (T (paired g m) → a (node g m).partner ≤ b (node g m).partner) → T (required g m a) → T (required g m b)
  required_more a b l t = required_cases a (must-required b) (λ h i. mate_required b h (omega (arith, l h))) t

  -- where the partner has come as often, the number of a passed limit is the same
  pub over-same : (a b : ℕ → ℕ) → (T (paired g m) → a (node g m).partner ≡ b (node g m).partner) → over g m a ≡ over g m b
  unfolding over
  over-same a b h = go (paired g m) h
    where
      go
          : (t : Bool) → (T t → a (node g m).partner ≡ b (node g m).partner)
          → pickℕ (t && eqb (a (node g m).partner) 0) 25 15
          ≡ pickℕ (t && eqb (b (node g m).partner) 0) 25 15
      go true e = rw (e tt)
      go false e = refl

module _ {A : Type 0} (g : Guide) (p : ℕ) (f : Kids A) where
  -- every required node has come
  abbrev pub Come : Type 0
  Come = (m : ℕ) → (node g m).parent ≡ p → T (required g m (count f)) → 1 ≤ count f m

  pub complete_come : Complete g p f → Come
  complete_come c m e = required_cases g m (count f) (λ t. c.all m e t) (λ t l. omega (arith, (c.pairs m e t).0))

  module _ (pairs : Pairing g) (limits : Limits g p f) where
    pub come_complete : Come → Complete g p f
    come_complete h =
        record {
          all = λ m e t. h m e (must-required g m (count f) t);
          pairs =
              λ m e t.
              let x = pairs m t in
              let k = (node g m).partner in
              let under = x.parents ∙ e in
              let a : count f m ≤ 1 = omega (arith, limits m e, x.once) in
              let b : count f k ≤ 1 = omega (arith, limits k under, (pairs k x.both).once) in
              let to : 0 < count f k → 1 ≤ count f m = λ i. h m e (mate_required g m (count f) t i) in
              let from : 0 < count f m → 1 ≤ count f k = λ i. h k under (mate_required g k (count f) x.both (rw x.back i)) in
              (same_number (count f m) (count f k) (λ i. omega (arith, to (omega arith))) (λ i. omega (arith, from (omega arith))), a);
        }

    -- The pair rule over the tree is what placing asks for.
    pub complete_iff : Complete g p f ↔ Come
    complete_iff = (complete_come, come_complete)
