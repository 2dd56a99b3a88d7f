-- `plain::literals::Literals::of` meets its contract: what is left is the part, or nothing of one that ends before it begins.
use mathlib.Core.Path.{refl}
use Rattle.plain.specs.Plain.{literals_left}
use Rattle.plain.proofs.Reading.{left-whole}
use Rattle.plain.proofs.literals.Literals.of.Goals as goal

pub returns : goal.returns
unfolding literals_left
returns c = left-whole c.args.d.syntax c.args.d.bytes.now c.args.a c.args.e _ c.limit_of.ensures _ _ refl c.get.ensures.lookup.0 _ c.unwrap_or.ensures
