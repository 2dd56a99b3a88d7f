-- `plain::literals::literal` meets its contract: at a release mark, at any other byte, past the delivery's end, past the part's.
use Rattle.std.proofs.Common.{true, false, sym, ◌∙◌, arith}
use Rattle.plain.proofs.LiteralPlaces.{place-past, place_in}
use Rattle.plain.proofs.literals.literal.Goals as goal
use Rattle.plain.proofs.literals.literal.Goals.{else-i-e-via-then-i-e+then-i-d+else-releases, else-i-e-via-then-i-e+else-i-d, else-i-e-via-else-i-e}

pub returns-then-releases : goal.returns-then-releases
returns-then-releases c = sym (place_in _ _ _ _ true (omega arith) (sym c.releases.ensures ∙ c.if-releases.true))

pub returns : goal.returns
returns c =
    elim c.else-i-e.branch [
      | else-i-e-via-then-i-e+then-i-d+else-releases w ↦ sym (place_in _ _ _ _ false (omega arith) (sym w.releases.ensures ∙ w.if-releases.false))
      | else-i-e-via-then-i-e+else-i-d w ↦ sym (place-past _ _ _ _ (omega arith))
      | else-i-e-via-else-i-e w ↦ sym (place-past _ _ _ _ (omega arith))
    ]
