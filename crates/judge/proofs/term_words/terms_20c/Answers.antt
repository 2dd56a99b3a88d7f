-- `judge::term_words::terms_20c` meets its contract: the number of each arm is, computed, the word of its row. Assumes nothing.
use native.Mathlib.Omega.{arith}
use mathlib.Core.Path.{sym, ap}
use Rattle.guide.specs.Nodes.{paired}
use Rattle.guide.specs.workers.Placing.{lowest}
use Rattle.guide.specs.Pricat.{pricat20c}
use Rattle.judge.specs.workers.Rows.{term_word, codes_of, first_due, next_due}
use Rattle.judge.proofs.rows.Tables.{differs-past}
use Rattle.judge.proofs.term_words.terms_20c.Goals as goal

pub returns-in-0 : goal.returns-in-0
unfolding pricat20c term_word codes_of first_due next_due paired lowest
returns-in-0 c = sym (ap (term_word pricat20c) c.in-0.is)

pub returns-in-1 : goal.returns-in-1
unfolding pricat20c term_word codes_of first_due next_due paired lowest
returns-in-1 c = sym (ap (term_word pricat20c) c.in-1.is)

pub returns-in-2 : goal.returns-in-2
unfolding pricat20c term_word codes_of first_due next_due paired lowest
returns-in-2 c = sym (ap (term_word pricat20c) c.in-2.is)

pub returns-in-3 : goal.returns-in-3
unfolding pricat20c term_word codes_of first_due next_due paired lowest
returns-in-3 c = sym (ap (term_word pricat20c) c.in-3.is)

pub returns-in-4 : goal.returns-in-4
unfolding pricat20c term_word codes_of first_due next_due paired lowest
returns-in-4 c = sym (ap (term_word pricat20c) c.in-4.is)

pub returns-in-5 : goal.returns-in-5
unfolding pricat20c term_word codes_of first_due next_due paired lowest
returns-in-5 c = sym (ap (term_word pricat20c) c.in-5.is)

pub returns-in-6 : goal.returns-in-6
unfolding pricat20c term_word codes_of first_due next_due paired lowest
returns-in-6 c = sym (ap (term_word pricat20c) c.in-6.is)

pub returns-in-7 : goal.returns-in-7
unfolding pricat20c term_word codes_of first_due next_due paired lowest
returns-in-7 c = sym (ap (term_word pricat20c) c.in-7.is)

pub returns-in-8 : goal.returns-in-8
unfolding pricat20c term_word codes_of first_due next_due paired lowest
returns-in-8 c = sym (ap (term_word pricat20c) c.in-8.is)

pub returns-in-9 : goal.returns-in-9
unfolding pricat20c term_word codes_of first_due next_due paired lowest
returns-in-9 c = sym (ap (term_word pricat20c) c.in-9.is)

pub returns-in-10 : goal.returns-in-10
unfolding pricat20c term_word codes_of first_due next_due paired lowest
returns-in-10 c = sym (ap (term_word pricat20c) c.in-10.is)

pub returns-in-11 : goal.returns-in-11
unfolding pricat20c term_word codes_of first_due next_due paired lowest
returns-in-11 c = sym (ap (term_word pricat20c) c.in-11.is)

pub returns-in-12 : goal.returns-in-12
unfolding pricat20c term_word codes_of first_due next_due paired lowest
returns-in-12 c = sym (ap (term_word pricat20c) c.in-12.is)

pub returns-in-13 : goal.returns-in-13
unfolding pricat20c term_word codes_of first_due next_due paired lowest
returns-in-13 c = sym (ap (term_word pricat20c) c.in-13.is)

pub returns-in-14 : goal.returns-in-14
unfolding pricat20c term_word codes_of first_due next_due paired lowest
returns-in-14 c = sym (ap (term_word pricat20c) c.in-14.is)

pub returns-in-15 : goal.returns-in-15
unfolding pricat20c term_word codes_of first_due next_due paired lowest
returns-in-15 c = sym (ap (term_word pricat20c) c.in-15.is)

pub returns-in-16 : goal.returns-in-16
unfolding pricat20c term_word codes_of first_due next_due paired lowest
returns-in-16 c = sym (ap (term_word pricat20c) c.in-16.is)

pub returns-in-17 : goal.returns-in-17
unfolding pricat20c term_word codes_of first_due next_due paired lowest
returns-in-17 c = sym (ap (term_word pricat20c) c.in-17.is)

pub returns-in-18 : goal.returns-in-18
unfolding pricat20c term_word codes_of first_due next_due paired lowest
returns-in-18 c = sym (ap (term_word pricat20c) c.in-18.is)

pub returns-in-19 : goal.returns-in-19
unfolding pricat20c term_word codes_of first_due next_due paired lowest
returns-in-19 c = sym (ap (term_word pricat20c) c.in-19.is)

pub returns-in-20 : goal.returns-in-20
unfolding pricat20c term_word codes_of first_due next_due paired lowest
returns-in-20 c = sym (ap (term_word pricat20c) c.in-20.is)

pub returns-in-21 : goal.returns-in-21
unfolding pricat20c term_word codes_of first_due next_due paired lowest
returns-in-21 c = sym (ap (term_word pricat20c) c.in-21.is)

pub returns-in-22 : goal.returns-in-22
unfolding pricat20c term_word codes_of first_due next_due paired lowest
returns-in-22 c = sym (ap (term_word pricat20c) c.in-22.is)

pub returns-in-23 : goal.returns-in-23
unfolding pricat20c term_word codes_of first_due next_due paired lowest
returns-in-23 c = sym (ap (term_word pricat20c) c.in-23.is)

pub returns-in-24 : goal.returns-in-24
unfolding pricat20c term_word codes_of first_due next_due paired lowest
returns-in-24 c = sym (ap (term_word pricat20c) c.in-24.is)

pub returns-in-25 : goal.returns-in-25
unfolding pricat20c term_word codes_of first_due next_due paired lowest
returns-in-25 c = sym (ap (term_word pricat20c) c.in-25.is)

-- each row has an arm
pub returns-in_default : goal.returns-in_default
returns-in_default c = absurd (omega (arith, differs-past _ 26 c.in_default.in_default-own.rest, c.requires))
