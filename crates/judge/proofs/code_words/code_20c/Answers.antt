-- `judge::code_words::code_20c` meets its contract: the number of each arm is, computed, its code. Assumes nothing.
use native.Mathlib.Omega.{arith}
use mathlib.Core.Path.{sym, ap}
use Prim.Native.Nat.{ℕ}
use lib.ListN.{get_or}
use Rattle.guide.specs.Pricat.{pricat20c}
use Rattle.judge.specs.workers.Words.{packed}
use Rattle.judge.specs.workers.Rows.{codes_of}
use Rattle.judge.proofs.rows.Tables.{differs-past}
use Rattle.judge.proofs.code_words.code_20c.Goals as goal

pub returns-in-0 : goal.returns-in-0
unfolding pricat20c codes_of packed
returns-in-0 c = sym (ap (λ (j : ℕ). get_or (codes_of pricat20c) j 0) c.in-0.is)

pub returns-in-1 : goal.returns-in-1
unfolding pricat20c codes_of packed
returns-in-1 c = sym (ap (λ (j : ℕ). get_or (codes_of pricat20c) j 0) c.in-1.is)

pub returns-in-2 : goal.returns-in-2
unfolding pricat20c codes_of packed
returns-in-2 c = sym (ap (λ (j : ℕ). get_or (codes_of pricat20c) j 0) c.in-2.is)

pub returns-in-3 : goal.returns-in-3
unfolding pricat20c codes_of packed
returns-in-3 c = sym (ap (λ (j : ℕ). get_or (codes_of pricat20c) j 0) c.in-3.is)

pub returns-in-4 : goal.returns-in-4
unfolding pricat20c codes_of packed
returns-in-4 c = sym (ap (λ (j : ℕ). get_or (codes_of pricat20c) j 0) c.in-4.is)

pub returns-in-5 : goal.returns-in-5
unfolding pricat20c codes_of packed
returns-in-5 c = sym (ap (λ (j : ℕ). get_or (codes_of pricat20c) j 0) c.in-5.is)

pub returns-in-6 : goal.returns-in-6
unfolding pricat20c codes_of packed
returns-in-6 c = sym (ap (λ (j : ℕ). get_or (codes_of pricat20c) j 0) c.in-6.is)

pub returns-in-7 : goal.returns-in-7
unfolding pricat20c codes_of packed
returns-in-7 c = sym (ap (λ (j : ℕ). get_or (codes_of pricat20c) j 0) c.in-7.is)

pub returns-in-8 : goal.returns-in-8
unfolding pricat20c codes_of packed
returns-in-8 c = sym (ap (λ (j : ℕ). get_or (codes_of pricat20c) j 0) c.in-8.is)

pub returns-in-9 : goal.returns-in-9
unfolding pricat20c codes_of packed
returns-in-9 c = sym (ap (λ (j : ℕ). get_or (codes_of pricat20c) j 0) c.in-9.is)

pub returns-in-10 : goal.returns-in-10
unfolding pricat20c codes_of packed
returns-in-10 c = sym (ap (λ (j : ℕ). get_or (codes_of pricat20c) j 0) c.in-10.is)

-- each row has an arm
pub returns-in_default : goal.returns-in_default
returns-in_default c = absurd (omega (arith, differs-past _ 11 c.in_default.in_default-own.rest, c.requires))
