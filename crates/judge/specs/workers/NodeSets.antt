-- A walk through a set of nodes, from the lowest on. No public promise cites these.
use Rattle.std.specs.Prelude.{ℕ, ◌-◌, ◌≡◌, ◌≢◌, Option, MatchOption, bit_and}
use Rattle.std.specs.Int.Count.{count_trailing_zeros}
use Rattle.std.specs.Iterator.{Count, at_most}
use Rattle.judge.specs.declared.sets.NodeSet.{NodeSet}

-- nothing is left, and nothing is given; or the lowest is taken out
abbrev pub TakesLowest : NodeSet → Option ℕ → NodeSet → Type 0
TakesLowest s r t =
    MatchOption r ((s.0 ≡ 0) × (t.0 ≡ 0)) (λ n. (s.0 ≢ 0) × (n ≡ count_trailing_zeros 32 s.0) × (t.0 ≡ bit_and s.0 (s.0 - 1)))

-- no more are left than the set's number: without one of them it is less
abbrev pub left_in : NodeSet → Count
left_in s = at_most s.0
