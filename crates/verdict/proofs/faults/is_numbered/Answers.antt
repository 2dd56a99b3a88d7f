-- `verdict::faults::is_numbered` meets its contract: a count, or none.
use Prim.Native.Nat.{ℕ}
use mathlib.Core.Path.{◌≡◌, refl, ◌∙◌, ap}
use lib.Dec.{eqb}
use Rattle.std.specs.Option.{option_eq}
use Rattle.std.specs.Prelude.{Option, Some, None}
use Rattle.guide.specs.workers.Judging.{is}
use Rattle.verdict.specs.workers.Segments.{spanned}
use Rattle.verdict.proofs.faults.is_numbered.Goals as goal

-- the library's test of a count is that of the papers
counted : (n : ℕ) (k : Option ℕ) → option_eq eqb k (Some n) ≡ is n k
counted n (Some k) = refl
counted n None = refl

pub returns : goal.returns
unfolding spanned
returns c = c.eq.ensures ∙ counted c.args.n c.count_of.result ∙ ap (is c.args.n) c.count_of.ensures
