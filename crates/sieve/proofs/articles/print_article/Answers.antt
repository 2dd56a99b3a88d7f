-- `sieve::articles::print_article` meets its contract. The loop's invariant: the print of what is left, after that of what is passed, is the
-- whole one.
use mathlib.Core.Path.{refl, sym, ◌∙◌}
use native.Mathlib.Omega.{arith}
use Rattle.sieve.proofs.articles.Words.{word_on, whole-article}
use Rattle.sieve.proofs.articles.print_article.Goals as goal

pub returns-then-end-lt8 : goal.returns-then-end-lt8
returns-then-end-lt8 c = whole-article _ _ _ _ _ c.limit_of-end.ensures _ c.print_rest.ensures

pub loop-i-init : goal.loop-i-init
loop-i-init c = refl

pub returns-then-alike-ne0 : goal.returns-then-alike-ne0
returns-then-alike-ne0 c =
    whole-article _ _ _ _ _ c.limit_of-end.ensures _ (c.print_rest-then-alike-ne0.ensures ∙ sym c.loop-i.invariant)

pub loop-i-preserved : goal.loop-i-preserved
loop-i-preserved c =
    c.loop-i.invariant
    ∙ word_on _ _ _ (omega (arith, c.limit_of-end.ensures)) _ _ _ _ _ (omega (arith, c.loop-i-test.true))
    (λ k. omega (arith, c.shared_slice_known-1.given k))
    c.eight_at-w.ensures c.alike.ensures c.if-alike-ne0.false c.mixed_word-print.ensures

pub returns : goal.returns
returns c =
    whole-article _ _ _ _ _ c.limit_of-end.ensures _ (c.print_last.ensures ∙ sym c.loop-i.invariant)
