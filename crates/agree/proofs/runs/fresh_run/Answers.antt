-- `agree::runs::fresh_run` meets its contract.
use Rattle.std.proofs.Common.{sym, ◌∙◌, arith}
use Rattle.agree.proofs.runs.Running.{search_run}
use Rattle.agree.proofs.runs.fresh_run.Goals as goal

pub returns : goal.returns
returns c =
    let k = c.run_from-run.ensures in (
      search_run _ _ _ _ _ c.requires _ _ k (sym c.meets_run.ensures ∙ c.if-meets_run.false),
      omega (arith, c.if-run-eq0.false),
      k.few,
      k.fits,
    )
