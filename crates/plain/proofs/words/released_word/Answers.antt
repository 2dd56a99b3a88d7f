-- `plain::words::released_word` meets its contract. The loop's invariant: the word that is begun so goes on with what the iterator has.
use Rattle.std.proofs.Common.{sym, ◌∙◌, ap, arith, ◌<◌, ◌+◌}
use Rattle.plain.specs.Plain.{literals_left}
use Rattle.plain.specs.Words.{word_of}
use Rattle.plain.proofs.Summing.{begun-none, begun-small, begun-six, begun-fewer, begun-fits, begun_more, word-start, word_end, word_long, word_more}
use Rattle.plain.proofs.words.released_word.Goals as goal

pub loop-x-init : goal.loop-x-init
loop-x-init c =
    (0, begun-none, word-start _ ∙ ap word_of (ap literals_left c.into_iter-x-iterator.ensures.into_iter_gives ∙ c.of-x-items.ensures))

pub returns-then-scale-eq-ABOVE_SIX : goal.returns-then-scale-eq-ABOVE_SIX
returns-then-scale-eq-ABOVE_SIX c =
    let i = c.loop-x.invariant in
    word_long i.1 _ _ _ c.in-Some.ensures.steps (begun-six i.1 c.if-scale-eq-ABOVE_SIX.true) ∙ i.2

pub overflow_mul-sum : goal.overflow_mul-sum
overflow_mul-sum c =
    let i = c.loop-x.invariant in
    record { fits = omega (arith, (begun-fits i.1 c.from.result (omega arith) (begun-fewer i.1 c.if-scale-eq-ABOVE_SIX.false)).0) }

pub overflow_add-sum : goal.overflow_add-sum
overflow_add-sum c =
    let i = c.loop-x.invariant in
    record { fits = omega (arith, (begun-fits i.1 c.from.result (omega arith) (begun-fewer i.1 c.if-scale-eq-ABOVE_SIX.false)).0) }

pub overflow_mul-scale : goal.overflow_mul-scale
overflow_mul-scale c =
    let i = c.loop-x.invariant in
    record { fits = omega (arith, (begun-fits i.1 c.from.result (omega arith) (begun-fewer i.1 c.if-scale-eq-ABOVE_SIX.false)).1) }

pub loop-x-preserved : goal.loop-x-preserved
loop-x-preserved c =
    let i = c.loop-x.invariant in
    let n : i.0 < 6 = begun-fewer i.1 c.if-scale-eq-ABOVE_SIX.false in
    let next = word_more i.1 c.from.result (omega arith) n _ _ _ c.from.ensures c.in-Some.ensures.steps in
    (i.0 + 1, begun_more i.1 c.from.result (omega arith) n, sym next ∙ i.2)

pub overflow_add-result : goal.overflow_add-result
overflow_add-result c = record { fits = omega (arith, begun-small c.loop-x.invariant.1) }

pub returns : goal.returns
returns c = word_end c.loop-x.invariant.1 _ c.in-None.ensures.steps.0 ∙ c.loop-x.invariant.2
