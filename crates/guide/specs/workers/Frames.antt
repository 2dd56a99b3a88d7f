-- A message stands between UNH and UNT: the computed test of a table for it, and the properties that it gives (proofs/tables/Framing).
use Rattle.std.specs.Prelude.{ℕ, ◌<◌, ◌≡◌, Bool, ◌&&◌, ◌||◌, length, T, eqb, ltb}
use Rattle.bytewise.specs.Bytes.{bytes_of}
use Rattle.guide.specs.Nodes.{Guide, node, required}
use Rattle.guide.specs.workers.Checks.{every, implies}
use Rattle.guide.specs.Sheet.{is_tag}

-- h is the only node UNH and z the only node UNT
abbrev pub only_frame : Guide → ℕ → ℕ → ℕ → Bool
only_frame g h z n = implies (is_tag g (bytes_of "UNH") n) (eqb n h) && implies (is_tag g (bytes_of "UNT") n) (eqb n z)

-- every other node at the root has a higher counter than h
abbrev pub later : Guide → ℕ → ℕ → Bool
later g h n = implies (eqb (node g n).parent 0) (eqb n h || ltb (node g h).counter (node g n).counter)

-- the node t of the tag comes once in a message, at the root
abbrev pub once : Guide → ℕ → Bool
once g t = eqb (node g t).parent 0 && (eqb (node g t).limit 1 && (node g t).must)

-- h is the node UNH, which comes once and first; z is the node UNT, which comes once
unfoldable pub framed : Guide → ℕ → ℕ → Bool
framed g h z =
    (is_tag g (bytes_of "UNH") h && is_tag g (bytes_of "UNT") z)
    && ((once g h && once g z) && every (λ n. only_frame g h z n && later g h n) (length g))

-- what `once` gives
pub record Once (g : Guide) (t : ℕ) : Type 0 where
  pub root : (node g t).parent ≡ 0
  pub limit : (node g t).limit ≡ 1
  pub wanted : (seen : ℕ → ℕ) → T (required g t seen)

-- what `framed` gives
pub record Framed (g : Guide) (h z : ℕ) : Type 0 where
  pub head : T (is_tag g (bytes_of "UNH") h)
  pub tail : T (is_tag g (bytes_of "UNT") z)
  pub one_head : (n : ℕ) → T (is_tag g (bytes_of "UNH") n) → n ≡ h
  pub one_tail : (n : ℕ) → T (is_tag g (bytes_of "UNT") n) → n ≡ z
  pub head_once : Once g h
  pub tail_once : Once g z
  pub first : (n : ℕ) → (node g n).parent ≡ 0 → 0 < (node g n).limit → (n ≡ h → ⊥) → (node g h).counter < (node g n).counter
