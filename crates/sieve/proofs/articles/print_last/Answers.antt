-- `sieve::articles::print_last` meets its contract.
use native.Mathlib.Omega.{arith}
use Rattle.sieve.proofs.articles.Words.{print_none, word-last}
use Rattle.sieve.proofs.articles.print_last.Goals as goal

pub returns-then-end-from : goal.returns-then-end-from
returns-then-end-from c = print_none _ _ _ c.requires.1 _ _ c.if-end-from.true

pub returns : goal.returns
returns c =
    let p = c.requires in
    word-last _ _ _ p.1 _ _ _ _ _ p.0 (omega arith) c.if-end-from.false (λ k. omega (arith, c.shared_slice_known-1.given k))
    c.eight_at-w.ensures
    c.alike.ensures c.if-alike-passed-ne0.false c.mixed_word.ensures
