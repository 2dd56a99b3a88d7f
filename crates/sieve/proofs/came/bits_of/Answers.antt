-- `sieve::came::bits_of` meets its contract.
use Prim.Native.Nat.{◌/◌}
use Rattle.sieve.specs.workers.Came.{bits_of}
use Rattle.sieve.proofs.came.Noted.{one_bit}
use Rattle.sieve.proofs.came.bits_of.Goals as goal

pub returns : goal.returns
unfolding bits_of
returns c =
    let f = c.args.f in
    rw (one_bit (f / 262144), one_bit (f / 4096), one_bit (f / 64))
