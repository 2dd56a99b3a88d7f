-- `plain::plain::literal_count` meets its contract.
use mathlib.Core.Logic.{inl}
use mathlib.Core.Path.{refl, ap}
use native.Mathlib.Omega.{arith}
use lib.ListN.{length}
use Rattle.plain.proofs.Decoding.{count-within}
use Rattle.plain.proofs.plain.literal_count.Goals as goal

pub count-requires-clause-fits : goal.count-requires-clause-fits
count-requires-clause-fits c =
    inl (omega (arith, count-within c.args.d.syntax c.args.d.bytes.now c.args.a c.args.e _ refl, ap length c.of.ensures))
