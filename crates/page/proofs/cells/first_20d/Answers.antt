-- `page::cells::first_20d` meets its contract: each arm is a word of the table.
use Rattle.guide.specs.Pricat.{pricat20d}
use Rattle.page.proofs.cells.Arms.{first_arm_20d, first-none}
use Rattle.page.proofs.cells.first_20d.Goals as goal

pub returns-in-0 : goal.returns-in-0
returns-in-0 c = first_arm_20d 0 _ c.in-0.is

pub returns-in-1 : goal.returns-in-1
returns-in-1 c = first_arm_20d 1 _ c.in-1.is

pub returns-in-2 : goal.returns-in-2
returns-in-2 c = first_arm_20d 2 _ c.in-2.is

pub returns-in-3 : goal.returns-in-3
returns-in-3 c = first_arm_20d 3 _ c.in-3.is

pub returns-in-4 : goal.returns-in-4
returns-in-4 c = first_arm_20d 4 _ c.in-4.is

pub returns-in-5 : goal.returns-in-5
returns-in-5 c = first_arm_20d 5 _ c.in-5.is

pub returns-in-6 : goal.returns-in-6
returns-in-6 c = first_arm_20d 6 _ c.in-6.is

pub returns-in-7 : goal.returns-in-7
returns-in-7 c = first_arm_20d 7 _ c.in-7.is

pub returns-in-8 : goal.returns-in-8
returns-in-8 c = first_arm_20d 8 _ c.in-8.is

pub returns-in-9 : goal.returns-in-9
returns-in-9 c = first_arm_20d 9 _ c.in-9.is

pub returns-in-10 : goal.returns-in-10
returns-in-10 c = first_arm_20d 10 _ c.in-10.is

pub returns-in-11 : goal.returns-in-11
returns-in-11 c = first_arm_20d 11 _ c.in-11.is

pub returns-in-12 : goal.returns-in-12
returns-in-12 c = first_arm_20d 12 _ c.in-12.is

pub returns-in-13 : goal.returns-in-13
returns-in-13 c = first_arm_20d 13 _ c.in-13.is

pub returns-in-14 : goal.returns-in-14
returns-in-14 c = first_arm_20d 14 _ c.in-14.is

pub returns-in-15 : goal.returns-in-15
returns-in-15 c = first_arm_20d 15 _ c.in-15.is

pub returns-in-16 : goal.returns-in-16
returns-in-16 c = first_arm_20d 16 _ c.in-16.is

pub returns-in-17 : goal.returns-in-17
returns-in-17 c = first_arm_20d 17 _ c.in-17.is

pub returns-in-18 : goal.returns-in-18
returns-in-18 c = first_arm_20d 18 _ c.in-18.is

pub returns-in-19 : goal.returns-in-19
returns-in-19 c = first_arm_20d 19 _ c.in-19.is

pub returns-in-20 : goal.returns-in-20
returns-in-20 c = first_arm_20d 20 _ c.in-20.is

pub returns-in-21 : goal.returns-in-21
returns-in-21 c = first_arm_20d 21 _ c.in-21.is

pub returns-in-22 : goal.returns-in-22
returns-in-22 c = first_arm_20d 22 _ c.in-22.is

pub returns-in-23 : goal.returns-in-23
returns-in-23 c = first_arm_20d 23 _ c.in-23.is

pub returns-in-24 : goal.returns-in-24
returns-in-24 c = first_arm_20d 24 _ c.in-24.is

pub returns-in-25 : goal.returns-in-25
returns-in-25 c = first_arm_20d 25 _ c.in-25.is

pub returns-in-26 : goal.returns-in-26
returns-in-26 c = first_arm_20d 26 _ c.in-26.is

pub returns-in-27 : goal.returns-in-27
returns-in-27 c = first_arm_20d 27 _ c.in-27.is

pub returns-in_default : goal.returns-in_default
unfolding pricat20d
returns-in_default c = first-none pricat20d _ c.in_default.in_default-own.rest _
