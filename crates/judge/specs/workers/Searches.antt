-- What the crate's own workers promise each other; no public call cites these.
use Rattle.std.specs.Prelude.{ℕ, suc, ◌-◌, Bool, not, ◌&&◌, ◌||◌, List, [], ◌∷◌, length, eqb, ltb}
use Rattle.guide.specs.Nodes.{Guide, node, paired}
use Rattle.guide.specs.workers.Placing.{lowest, tally}
use Rattle.guide.specs.Choices.{pickℕ}
use Rattle.judge.specs.workers.Sets.{member}

-- from node n on, 0 being none: what a search finds
unfoldable pub onward : (ℕ → Bool) → Guide → ℕ → ℕ
onward test g n = pickℕ (eqb n 0) 0 (lowest test n (length g - n))

-- whether node m must come: `required`, where it is known that m is so by itself or one of a pair
unfoldable pub wanted : Guide → List ℕ → ℕ → Bool
wanted g cs m = not (paired g m) || ltb 0 (tally cs (node g m).partner)

-- whether it has not come though it must
unfoldable pub missed : Guide → List ℕ → ℕ → Bool
missed g cs m = eqb (tally cs m) 0 && wanted g cs m

-- whether p lacks its child m when n comes: `lacking`, where that is known
unfoldable pub lacks_due : Guide → List ℕ → ℕ → ℕ → ℕ → Bool
lacks_due g cs n p m = missed g cs m && (not (eqb p (node g n).parent) || ltb (node g m).counter (node g n).counter)

-- the counts from node m on, where none of the set s has come
unfoldable pub cleared : ℕ → ℕ → List ℕ → List ℕ
cleared s m [] = []
cleared s m (c ∷ cs) = pickℕ (member s m) 0 c ∷ cleared s (suc m) cs
