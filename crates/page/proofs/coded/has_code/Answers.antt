-- `page::coded::has_code` meets its contract. The loop's invariant: what is found so far and the codes that are left decide.
use mathlib.Core.Path.{refl, sym, ◌∙◌}
use native.Mathlib.Omega.{arith}
use Rattle.page.proofs.coded.KeyCodes.{search_end, search_next}
use Rattle.page.proofs.coded.has_code.Goals as goal

pub loop-n-init : goal.loop-n-init
loop-n-init c = refl

pub loop-n-preserved : goal.loop-n-preserved
loop-n-preserved c =
    search_next c.args.key c.loop-n.n c.args.next c.loop-n.found (omega arith) _ c.code_word.ensures ∙ c.loop-n.invariant

pub returns : goal.returns
returns c = sym (search_end _ _ _ _ (omega arith)) ∙ c.loop-n.invariant
