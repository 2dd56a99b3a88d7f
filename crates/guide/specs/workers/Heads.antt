-- PIA and IMD stand right behind their LIN, and a LIN in no other's instance: the computed test of a table for it, and the properties that it
-- gives (proofs/Heading).
use Rattle.std.specs.Prelude.{ℕ, ◌<◌, ◌≡◌, Bool, not, ◌&&◌, ◌||◌, length, T, eqb, ltb}
use Rattle.bytewise.specs.Bytes.{bytes_of}
use Rattle.guide.specs.Nodes.{Guide, node}
use Rattle.guide.specs.workers.Checks.{every, implies, upward, Under}
use Rattle.guide.specs.Sheet.{is_tag}

module _ (g : Guide) where
  abbrev pub is_lin : ℕ → Bool
  is_lin n = is_tag g (bytes_of "LIN") n

  abbrev pub is_pia : ℕ → Bool
  is_pia n = is_tag g (bytes_of "PIA") n

  abbrev pub is_imd : ℕ → Bool
  is_imd n = is_tag g (bytes_of "IMD") n

  -- n is to stand right behind a LIN
  abbrev pub is_head : ℕ → Bool
  is_head n = is_pia n || is_imd n

  -- m is no child of n, and as a child of n's parent it is n, comes after n, or is the PIA before the IMD n
  abbrev pub foremost_by : ℕ → ℕ → Bool
  foremost_by n m =
      not (eqb (node g m).parent n)
      && implies (eqb (node g m).parent (node g n).parent) (eqb m n || (ltb (node g n).counter (node g m).counter || (is_imd n && is_pia m)))

  -- a node PIA or IMD is a LIN's child, comes once, has no children, and comes before every other child
  abbrev pub head_at : ℕ → Bool
  head_at n = implies (is_head n) (is_lin (node g n).parent && (eqb (node g n).limit 1 && every (foremost_by n) (length g)))

  -- a LIN is in no other LIN's instance
  abbrev pub line_at : ℕ → Bool
  line_at n = implies (is_lin n) (upward g (λ x. not (is_lin x)) (length g) (node g n).parent)

  unfoldable pub foremost : Bool
  foremost = not (is_lin 0) && every (λ n. head_at n && line_at n) (length g)

-- what `foremost` gives. There is at most one PIA and one IMD under a parent: of two, each would have a lower counter than the other
pub record Foremost (g : Guide) : Type 0 where
  pub root : T (is_lin g 0) → ⊥
  pub behind_line : (n : ℕ) → T (is_head g n) → T (is_lin g (node g n).parent)
  pub once : (n : ℕ) → T (is_head g n) → (node g n).limit ≡ 1
  pub childless : (n m : ℕ) → T (is_head g n) → (node g m).parent ≡ n → 0 < (node g m).limit → ⊥
  pub before :
      (n m : ℕ) → T (is_head g n) → (node g m).parent ≡ (node g n).parent → 0 < (node g m).limit → (m ≡ n → ⊥) →
      (T (is_imd g n) → T (is_pia g m) → ⊥) → (node g n).counter < (node g m).counter
  pub not_nested : (x n : ℕ) → T (is_lin g x) → T (is_lin g n) → 0 < (node g n).limit → Under g x n → ⊥
