-- `judge::lacking::missing_for` ends: a parent has a lower number.
use Rattle.judge.proofs.lacking.+missing_for.Given as goal

abbrev pub decreases-missing_for : goal.decreases-missing_for
decreases-missing_for l = l.level
