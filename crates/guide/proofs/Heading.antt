-- What the test `foremost` of a table gives, and that both editions pass it.
use Prim.Native.Nat.{ℕ, ◌<◌}
use mathlib.Core.Bool.{not, ◌&&◌}
use native.Mathlib.Omega.{arith}
use lib.ListN.{length}
use lib.Dec.{T, eqb, ltb, eqb→eq, ltb→lt, T_not}
use Rattle.plain.specs.Plain.{same}
use Rattle.guide.specs.Nodes.{Guide, node}
use Rattle.guide.specs.Pricat.{pricat20d, pricat20c}
use Rattle.guide.specs.workers.Checks.{every, upward, Rising}
use Rattle.guide.specs.Sheet.{is_tag}
use Rattle.guide.specs.workers.Heads.{is_lin, is_pia, is_imd, is_head, foremost_by, head_at, line_at, foremost, Foremost}
use Rattle.guide.proofs.Basics.{and_left, and_right, or_cases, implied, eq-T, every-at}
use Rattle.guide.proofs.tables.Tables.{in_table, upward-at}
use Rattle.guide.proofs.tables.Framing.{tag-inside}
use Rattle.guide.proofs.Editions.{pricat20d_passes, pricat20c_passes}

module _ (g : Guide) (r : Rising g) (t : T (foremost g)) where
  each : (n : ℕ) → n < length g → T (head_at g n && line_at g n)
  unfolding foremost
  each n l = every-at (λ n. head_at g n && line_at g n) (length g) n (and_right (not (is_lin g 0)) _ t) l

  head-inside : (n : ℕ) → T (is_head g n) → n < length g
  head-inside n h = or_cases (is_pia g n) (is_imd g n) (λ q. tag-inside g _ _ n q) (λ q. tag-inside g _ _ n q) h

  head-at : (n : ℕ) → T (is_head g n) → T (is_lin g (node g n).parent && (eqb (node g n).limit 1 && every (foremost_by g n) (length g)))
  head-at n h = implied (is_head g n) _ (and_left (head_at g n) (line_at g n) (each n (head-inside n h))) h

  behind : (n : ℕ) → T (is_head g n) → T (eqb (node g n).limit 1 && every (foremost_by g n) (length g))
  behind n h = and_right (is_lin g (node g n).parent) _ (head-at n h)

  first_of : (n m : ℕ) → T (is_head g n) → 0 < (node g m).limit → T (foremost_by g n m)
  first_of n m h l = every-at (foremost_by g n) (length g) m (and_right (eqb (node g n).limit 1) _ (behind n h)) (in_table g m l)

  pub foremost-holds : Foremost g
  unfolding foremost
  foremost-holds =
      record {
        root = T_not (is_lin g 0) (and_left (not (is_lin g 0)) _ t);
        behind_line = λ n h. and_left (is_lin g (node g n).parent) _ (head-at n h);
        once = λ n h. eqb→eq _ _ (and_left (eqb (node g n).limit 1) _ (behind n h));
        childless = λ n m h e l. T_not (eqb (node g m).parent n) (and_left (not (eqb (node g m).parent n)) _ (first_of n m h l)) (eq-T _ _ e);
        before =
            λ n m h e l d c.
            or_cases (eqb m n) _ (λ q. absurd (d (eqb→eq m n q)))
            (λ q.
            or_cases (ltb (node g n).counter (node g m).counter) (is_imd g n && is_pia g m) (λ i. ltb→lt _ _ i)
            (λ i. absurd (c (and_left (is_imd g n) (is_pia g m) i) (and_right (is_imd g n) (is_pia g m) i))) q)
            (implied (eqb (node g m).parent (node g n).parent) _ (and_right (not (eqb (node g m).parent n)) _ (first_of n m h l)) (eq-T _ _ e));
        not_nested =
            λ x n a b l u.
            let i = in_table g n l in
            let test = implied (is_lin g n) _ (and_right (head_at g n) (line_at g n) (each n i)) b in
            T_not (is_lin g x) (upward-at g (λ z. not (is_lin g z)) (length g) n x u (omega (arith, r.rises n l)) test) a;
      }

pub pricat20d-foremost : Foremost pricat20d
unfolding pricat20d foremost every upward is_tag same
pricat20d-foremost = foremost-holds pricat20d pricat20d_passes.rising tt

pub pricat20c-foremost : Foremost pricat20c
unfolding pricat20c foremost every upward is_tag same
pricat20c-foremost = foremost-holds pricat20c pricat20c_passes.rising tt
