-- `page::right::is_sized` meets its contract: each return by the kind.
use mathlib.Core.Path.{◌∙◌}
use native.Mathlib.Omega.{arith}
use Rattle.page.proofs.formed.Faults.{formed_up_to, formed_exactly}
use Rattle.page.proofs.right.Right.{formed-digits}
use Rattle.page.proofs.right.is_sized.Goals as goal

pub returns-then-kind-eq0 : goal.returns-then-kind-eq0
returns-then-kind-eq0 c =
    let p = c.requires in
    formed_up_to _ _ _ _ p.0 p.1 c.if-kind-eq0.true

pub returns-then-kind-eq1 : goal.returns-then-kind-eq1
returns-then-kind-eq1 c = formed_exactly _ _ _ _ c.requires.0 (omega arith) c.if-kind-eq0.false

pub returns : goal.returns
returns c =
    c.has_digits.ensures ∙ formed-digits _ _ _ _ c.plain_digits.ensures c.if-kind-eq0.false c.if-kind-eq1.false
