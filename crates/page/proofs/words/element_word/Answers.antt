-- `page::words::element_word` meets its contract: each arm is a cell of the table.
use mathlib.Core.Path.{refl}
use Rattle.guide.specs.Pages20d.{pages20d}
use Rattle.guide.specs.Page.{beyond}
use Rattle.page.specs.workers.Columns.{joined, all_elements}
use Rattle.page.specs.workers.Words.{span, reach, element_in}
use Rattle.page.proofs.words.Tables.{past_all}
use Rattle.page.proofs.words.Ties.{element_arm}
use Rattle.page.proofs.words.element_word.Goals as goal

pub returns-in-0 : goal.returns-in-0
returns-in-0 c = element_arm 0 _ c.in-0.is

pub returns-in-1 : goal.returns-in-1
returns-in-1 c = element_arm 1 _ c.in-1.is

pub returns-in-2 : goal.returns-in-2
returns-in-2 c = element_arm 2 _ c.in-2.is

pub returns-in-3 : goal.returns-in-3
returns-in-3 c = element_arm 3 _ c.in-3.is

pub returns-in-4 : goal.returns-in-4
returns-in-4 c = element_arm 4 _ c.in-4.is

pub returns-in-5 : goal.returns-in-5
returns-in-5 c = element_arm 5 _ c.in-5.is

pub returns-in-6 : goal.returns-in-6
returns-in-6 c = element_arm 6 _ c.in-6.is

pub returns-in-7 : goal.returns-in-7
returns-in-7 c = element_arm 7 _ c.in-7.is

pub returns-in-8 : goal.returns-in-8
returns-in-8 c = element_arm 8 _ c.in-8.is

pub returns-in-9 : goal.returns-in-9
returns-in-9 c = element_arm 9 _ c.in-9.is

pub returns-in-10 : goal.returns-in-10
returns-in-10 c = element_arm 10 _ c.in-10.is

pub returns-in-11 : goal.returns-in-11
returns-in-11 c = element_arm 11 _ c.in-11.is

pub returns-in-12 : goal.returns-in-12
returns-in-12 c = element_arm 12 _ c.in-12.is

pub returns-in-13 : goal.returns-in-13
returns-in-13 c = element_arm 13 _ c.in-13.is

pub returns-in-14 : goal.returns-in-14
returns-in-14 c = element_arm 14 _ c.in-14.is

pub returns-in-15 : goal.returns-in-15
returns-in-15 c = element_arm 15 _ c.in-15.is

pub returns-in-16 : goal.returns-in-16
returns-in-16 c = element_arm 16 _ c.in-16.is

pub returns-in-17 : goal.returns-in-17
returns-in-17 c = element_arm 17 _ c.in-17.is

pub returns-in-18 : goal.returns-in-18
returns-in-18 c = element_arm 18 _ c.in-18.is

pub returns-in-19 : goal.returns-in-19
returns-in-19 c = element_arm 19 _ c.in-19.is

pub returns-in-20 : goal.returns-in-20
returns-in-20 c = element_arm 20 _ c.in-20.is

pub returns-in-21 : goal.returns-in-21
returns-in-21 c = element_arm 21 _ c.in-21.is

pub returns-in-22 : goal.returns-in-22
returns-in-22 c = element_arm 22 _ c.in-22.is

pub returns-in-23 : goal.returns-in-23
returns-in-23 c = element_arm 23 _ c.in-23.is

pub returns-in-24 : goal.returns-in-24
returns-in-24 c = element_arm 24 _ c.in-24.is

pub returns-in-25 : goal.returns-in-25
returns-in-25 c = element_arm 25 _ c.in-25.is

pub returns-in-26 : goal.returns-in-26
returns-in-26 c = element_arm 26 _ c.in-26.is

pub returns-in-27 : goal.returns-in-27
returns-in-27 c = element_arm 27 _ c.in-27.is

pub returns-in-28 : goal.returns-in-28
returns-in-28 c = element_arm 28 _ c.in-28.is

pub returns-in-29 : goal.returns-in-29
returns-in-29 c = element_arm 29 _ c.in-29.is

pub returns-in-30 : goal.returns-in-30
returns-in-30 c = element_arm 30 _ c.in-30.is

pub returns-in-31 : goal.returns-in-31
returns-in-31 c = element_arm 31 _ c.in-31.is

pub returns-in-32 : goal.returns-in-32
returns-in-32 c = element_arm 32 _ c.in-32.is

pub returns-in-33 : goal.returns-in-33
returns-in-33 c = element_arm 33 _ c.in-33.is

pub returns-in-34 : goal.returns-in-34
returns-in-34 c = element_arm 34 _ c.in-34.is

pub returns-in-35 : goal.returns-in-35
returns-in-35 c = element_arm 35 _ c.in-35.is

pub returns-in-36 : goal.returns-in-36
returns-in-36 c = element_arm 36 _ c.in-36.is

pub returns-in-37 : goal.returns-in-37
returns-in-37 c = element_arm 37 _ c.in-37.is

pub returns-in-38 : goal.returns-in-38
returns-in-38 c = element_arm 38 _ c.in-38.is

pub returns-in-39 : goal.returns-in-39
returns-in-39 c = element_arm 39 _ c.in-39.is

pub returns-in-40 : goal.returns-in-40
returns-in-40 c = element_arm 40 _ c.in-40.is

pub returns-in-41 : goal.returns-in-41
returns-in-41 c = element_arm 41 _ c.in-41.is

pub returns-in-42 : goal.returns-in-42
returns-in-42 c = element_arm 42 _ c.in-42.is

pub returns-in-43 : goal.returns-in-43
returns-in-43 c = element_arm 43 _ c.in-43.is

pub returns-in-44 : goal.returns-in-44
returns-in-44 c = element_arm 44 _ c.in-44.is

pub returns-in-45 : goal.returns-in-45
returns-in-45 c = element_arm 45 _ c.in-45.is

pub returns-in-46 : goal.returns-in-46
returns-in-46 c = element_arm 46 _ c.in-46.is

pub returns-in-47 : goal.returns-in-47
returns-in-47 c = element_arm 47 _ c.in-47.is

pub returns-in-48 : goal.returns-in-48
returns-in-48 c = element_arm 48 _ c.in-48.is

pub returns-in-49 : goal.returns-in-49
returns-in-49 c = element_arm 49 _ c.in-49.is

pub returns-in_default : goal.returns-in_default
unfolding pages20d joined all_elements span reach element_in
returns-in_default c = rw (past_all all_elements beyond c.args.n c.in_default.in_default-own.rest) (record { element = refl; reach = refl })
