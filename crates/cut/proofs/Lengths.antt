-- Item 10's count: the segments of some bytes have together no more bytes than these.
use Prim.Native.Nat.{ℕ, suc, ◌+◌, ◌≤◌}
use mathlib.Core.Path.{◌≡◌}
use mathlib.Core.Bool.{Bool, true, false, cond}
use mathlib.Core.List.{List, [], ◌∷◌, ◌++◌}
use native.Mathlib.Omega.{arith}
use lib.ListN.{length}
use Rattle.cut.specs.declared.service.Syntax.{Syntax}
use Rattle.cut.specs.Segments.{Segment, end_of, segments_from, is_break, trim, trimmed, segments_of}
use Rattle.cut.proofs.Chains.{Chain, chained}

-- how many bytes segments have together
unfoldable pub total : List Segment → ℕ
total [] = 0
total (s ∷ ss) = length s.bytes + total ss

pub total_append : (ss ts : List Segment) → total (ss ++ ts) ≡ total ss + total ts
unfolding total
total_append [] ts = omega arith
total_append (s ∷ ss) ts = omega (arith, total_append ss ts)

chain_total : (p : ℕ) (ss : List Segment) (q : ℕ) → Chain p ss q → p + total ss ≡ q
unfolding Chain total
chain_total p [] q h = omega (arith, h)
chain_total p (s ∷ ss) q h = omega (arith, h.0, chain_total (end_of s) ss q h.3)

module _ (y : Syntax) where
  trim_total : (p : ℕ) (bs : List ℕ) (b : Bool) (us : List Segment) → total (trim y p bs b us) ≤ length bs + total us
  unfolding trim total
  trim_total p [] b us = omega arith
  trim_total p (x ∷ xs) b us = go (is_break y x) (trim_total (suc p) xs b us)
    where
      go
          : (c : Bool) → total (trim y (suc p) xs b us) ≤ length xs + total us
          → total (cond c (trim y (suc p) xs b us) (record { start = p; bytes = x ∷ xs; piece = b } ∷ us)) ≤ suc (length xs) + total us
      go true ih = omega (arith, ih)
      go false ih = omega arith

  trimmed_total : (ss : List Segment) → total (trimmed y ss) ≤ total ss
  unfolding trimmed total
  trimmed_total [] = omega arith
  trimmed_total (s ∷ ss) = omega (arith, trim_total s.start s.bytes s.piece (trimmed y ss), trimmed_total ss)

  pub total_within : (p : ℕ) (xs : List ℕ) → total (segments_of y p xs) ≤ length xs
  unfolding segments_of
  total_within p xs =
      omega (arith, trimmed_total (segments_from y p false xs), chain_total p (segments_from y p false xs) (p + length xs) (chained y p false xs))
