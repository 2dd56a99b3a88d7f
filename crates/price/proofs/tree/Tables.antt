-- What the computed test gives, once for every table that passes it; both editions of PRICAT pass.
use Prim.Native.Nat.{ℕ, ◌<◌}
use mathlib.Core.Path.{◌≡◌}
use mathlib.Core.Bool.{Bool, not, ◌&&◌, ◌||◌}
use lib.ListN.{length}
use lib.Dec.{T, eqb, ltb, eqb→eq, ltb→lt, T_not}
use Rattle.plain.specs.Plain.{same}
use Rattle.guide.specs.Nodes.{Guide, node}
use Rattle.guide.specs.Pricat.{pricat20d, pricat20c}
use Rattle.guide.specs.workers.Checks.{every, implies}
use Rattle.guide.specs.Sheet.{is_tag}
use Rattle.guide.proofs.Basics.{and_left, and_right, or_left, or_right, or_cases, implied, eq-T, every-at}
use Rattle.guide.proofs.tables.Tables.{in_table}
use Rattle.price.specs.Table.{lin_node, pri_node, rng_node, in_lin_by, in_lin, up_rule, lin_rule, pri_rule, comes_first, rng_rule, priced, Priced}

module _ (g : Guide) (test : T (priced g)) where
  abbrev row : ℕ → Bool
  row n = up_rule g n && (lin_rule g n && (pri_rule g n && rng_rule g n))

  abbrev above : ℕ → Bool
  above n = in_lin g (node g n).parent

  abbrev outmost : Bool
  outmost = not (lin_node g 0) && not (pri_node g 0)

  roots : T (not (in_lin g 0) && outmost)
  unfolding priced
  roots = and_left (not (in_lin g 0) && outmost) (every row (length g)) test

  rules : (n : ℕ) → 0 < (node g n).limit → T (row n)
  unfolding priced
  rules n h = every-at row (length g) n (and_right (not (in_lin g 0) && outmost) (every row (length g)) test) (in_table g n h)

  up-rule : (n : ℕ) → 0 < (node g n).limit → T (up_rule g n)
  up-rule n h = and_left (up_rule g n) (lin_rule g n && (pri_rule g n && rng_rule g n)) (rules n h)

  enters : (n : ℕ) → 0 < (node g n).limit → T (lin_node g n || above n) → T (in_lin g n)
  enters n h t =
      implied (lin_node g n || above n) (in_lin g n)
      (and_left (implies (lin_node g n || above n) (in_lin g n)) (implies (in_lin g n) (lin_node g n || above n)) (up-rule n h)) t

  stays : (n : ℕ) → 0 < (node g n).limit → T (in_lin g n) → T (lin_node g n || above n)
  stays n h t =
      implied (in_lin g n) (lin_node g n || above n)
      (and_right (implies (lin_node g n || above n) (in_lin g n)) (implies (in_lin g n) (lin_node g n || above n)) (up-rule n h)) t

  tags : (n : ℕ) → 0 < (node g n).limit → T (lin_rule g n && (pri_rule g n && rng_rule g n))
  tags n h = and_right (up_rule g n) (lin_rule g n && (pri_rule g n && rng_rule g n)) (rules n h)

  pri-rule : (n : ℕ) → 0 < (node g n).limit → T (pri_rule g n)
  pri-rule n h = and_left (pri_rule g n) (rng_rule g n) (and_right (lin_rule g n) (pri_rule g n && rng_rule g n) (tags n h))

  rng-rule
      : (n : ℕ) → 0 < (node g n).limit → T (rng_node g n)
      → T (pri_node g (node g n).parent && (eqb (node g n).limit 1 && every (comes_first g n) (length g)))
  rng-rule n h t = implied (rng_node g n) _ (and_right (pri_rule g n) (rng_rule g n) (and_right (lin_rule g n) (pri_rule g n && rng_rule g n) (tags n h))) t

  rng_more : (n : ℕ) → 0 < (node g n).limit → T (rng_node g n) → T (eqb (node g n).limit 1 && every (comes_first g n) (length g))
  rng_more n h t = and_right (pri_node g (node g n).parent) _ (rng-rule n h t)

  first
      : (n m : ℕ) → 0 < (node g n).limit → T (rng_node g n) → 0 < (node g m).limit → (node g m).parent ≡ (node g n).parent → (m ≡ n → ⊥)
      → (node g n).counter < (node g m).counter
  first n m h t k e d =
      let c = every-at (comes_first g n) (length g) m (and_right (eqb (node g n).limit 1) _ (rng_more n h t)) (in_table g m k) in
      or_cases (eqb m n) (ltb (node g n).counter (node g m).counter) (λ q. absurd (d (eqb→eq m n q))) (λ q. ltb→lt _ _ q)
      (implied (eqb (node g m).parent (node g n).parent) _ c (eq-T _ _ e))

  pub priced_gives : Priced g
  priced_gives =
      record {
        root = T_not (in_lin g 0) (and_left (not (in_lin g 0)) outmost roots);
        root_lin = T_not (lin_node g 0) (and_left (not (lin_node g 0)) (not (pri_node g 0)) (and_right (not (in_lin g 0)) outmost roots));
        root_pri = T_not (pri_node g 0) (and_right (not (lin_node g 0)) (not (pri_node g 0)) (and_right (not (in_lin g 0)) outmost roots));
        lin_in = λ n h t. enters n h (or_left (lin_node g n) (above n) t);
        below_in = λ n h t. enters n h (or_right (lin_node g n) (above n) t);
        in_above = stays;
        lin_out = λ n h t. T_not (above n) (implied (lin_node g n) (not (above n)) (and_left (lin_rule g n) (pri_rule g n && rng_rule g n) (tags n h)) t);
        pri_under = λ n h t. implied (pri_node g n) (lin_node g (node g n).parent) (pri-rule n h) t;
        rng_under = λ n h t. and_left (pri_node g (node g n).parent) _ (rng-rule n h t);
        rng_once = λ n h t. eqb→eq (node g n).limit 1 (and_left (eqb (node g n).limit 1) _ (rng_more n h t));
        rng_first = first;
      }

priced_20d : T (priced pricat20d)
unfolding pricat20d priced in_lin in_lin_by every is_tag same
priced_20d = tt

pub pricat20d-priced : Priced pricat20d
pricat20d-priced = priced_gives pricat20d priced_20d

priced_20c : T (priced pricat20c)
unfolding pricat20c priced in_lin in_lin_by every is_tag same
priced_20c = tt

pub pricat20c-priced : Priced pricat20c
pricat20c-priced = priced_gives pricat20c priced_20c
