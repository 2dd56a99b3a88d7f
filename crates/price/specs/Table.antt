-- Where prices stand in a guide: the computed test of a table, and the properties that it gives (proofs/tree/Tables).
use Rattle.std.specs.Prelude.{ℕ, zero, suc, ◌<◌, ◌≡◌, Bool, false, not, ◌&&◌, ◌||◌, length, T, eqb, ltb}
use Rattle.bytewise.specs.Bytes.{bytes_of}
use Rattle.guide.specs.Nodes.{Guide, node}
use Rattle.guide.specs.workers.Checks.{every, implies}
use Rattle.guide.specs.Sheet.{is_tag}

abbrev pub lin_node : Guide → ℕ → Bool
lin_node g n = is_tag g (bytes_of "LIN") n

abbrev pub pri_node : Guide → ℕ → Bool
pri_node g n = is_tag g (bytes_of "PRI") n

abbrev pub rng_node : Guide → ℕ → Bool
rng_node g n = is_tag g (bytes_of "RNG") n

-- walking up from n, at most k steps: one of them is a LIN
unfoldable pub in_lin_by : Guide → ℕ → ℕ → Bool
in_lin_by g zero n = false
in_lin_by g (suc k) n = lin_node g n || in_lin_by g k (node g n).parent

-- n is a LIN, or below one
unfoldable pub in_lin : Guide → ℕ → Bool
in_lin g n = in_lin_by g (length g) n

-- the walk up is long enough
abbrev pub up_rule : Guide → ℕ → Bool
up_rule g n =
    implies (lin_node g n || in_lin g (node g n).parent) (in_lin g n) && implies (in_lin g n) (lin_node g n || in_lin g (node g n).parent)

-- no LIN is below a LIN
abbrev pub lin_rule : Guide → ℕ → Bool
lin_rule g n = implies (lin_node g n) (not (in_lin g (node g n).parent))

-- a PRI is a child of a LIN
abbrev pub pri_rule : Guide → ℕ → Bool
pri_rule g n = implies (pri_node g n) (lin_node g (node g n).parent)

-- every other child of n's parent comes after n
abbrev pub comes_first : Guide → ℕ → ℕ → Bool
comes_first g n m = implies (eqb (node g m).parent (node g n).parent) (eqb m n || ltb (node g n).counter (node g m).counter)

-- a RNG is a child of a PRI, comes once, and before its other children
abbrev pub rng_rule : Guide → ℕ → Bool
rng_rule g n = implies (rng_node g n) (pri_node g (node g n).parent && (eqb (node g n).limit 1 && every (comes_first g n) (length g)))

unfoldable pub priced : Guide → Bool
priced g =
    (not (in_lin g 0) && (not (lin_node g 0) && not (pri_node g 0)))
    && every (λ n. up_rule g n && (lin_rule g n && (pri_rule g n && rng_rule g n))) (length g)

-- what `priced` gives, of the nodes that take segments
pub record Priced (g : Guide) : Type 0 where
  pub root : T (in_lin g 0) → ⊥
  pub root_lin : T (lin_node g 0) → ⊥
  pub root_pri : T (pri_node g 0) → ⊥
  pub lin_in : (n : ℕ) → 0 < (node g n).limit → T (lin_node g n) → T (in_lin g n)
  pub below_in : (n : ℕ) → 0 < (node g n).limit → T (in_lin g (node g n).parent) → T (in_lin g n)
  pub in_above : (n : ℕ) → 0 < (node g n).limit → T (in_lin g n) → T (lin_node g n || in_lin g (node g n).parent)
  pub lin_out : (n : ℕ) → 0 < (node g n).limit → T (lin_node g n) → T (in_lin g (node g n).parent) → ⊥
  pub pri_under : (n : ℕ) → 0 < (node g n).limit → T (pri_node g n) → T (lin_node g (node g n).parent)
  pub rng_under : (n : ℕ) → 0 < (node g n).limit → T (rng_node g n) → T (pri_node g (node g n).parent)
  pub rng_once : (n : ℕ) → 0 < (node g n).limit → T (rng_node g n) → (node g n).limit ≡ 1
  pub rng_first :
      (n m : ℕ) → 0 < (node g n).limit → T (rng_node g n) → 0 < (node g m).limit → (node g m).parent ≡ (node g n).parent → (m ≡ n → ⊥)
      → (node g n).counter < (node g m).counter
