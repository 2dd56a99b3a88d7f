-- `sieve::articles::gather` meets its contract.
use mathlib.Core.Path.{refl}
use native.Mathlib.Omega.{arith}
use Rattle.sieve.proofs.articles.Gathering.{gather_fits, gather_mark, gather_begun, gather_full}
use Rattle.sieve.proofs.articles.gather.Goals as goal

pub returns-then-mark : goal.returns-then-mark
returns-then-mark c = gather_mark _ c.requires _ _ c.if-mark.true

pub overflow_mul-v : goal.overflow_mul-v
overflow_mul-v c = record { fits = omega (arith, gather_fits _ c.requires c.args.x (omega arith)) }

pub overflow_add-v : goal.overflow_add-v
overflow_add-v c = record { fits = omega (arith, gather_fits _ c.requires c.args.x (omega arith)) }

pub returns-then-g-le281474976710656 : goal.returns-then-g-le281474976710656
returns-then-g-le281474976710656 c =
    gather_begun _ c.requires c.args.x (omega arith) _ _ c.if-mark.false refl c.if-g-le281474976710656.true _ refl

pub returns : goal.returns
returns c =
    gather_full _ c.requires c.args.x (omega arith) _ _ _ c.if-mark.false refl c.if-g-le281474976710656.false
    c.mixed_word.ensures _ refl
