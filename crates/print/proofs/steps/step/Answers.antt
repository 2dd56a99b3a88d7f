-- `print::steps::step` meets its contract.
use native.Mathlib.Omega.{arith}
use Rattle.print.proofs.Stepping.{is-sound, stepped-short, stepped_foreign, stepped_ended, stepped_refused, stepped-between, stepped-among, stepped_within}
use Rattle.print.proofs.steps.step.Goals as goal

pub returns-then-out-lt128 : goal.returns-then-out-lt128
returns-then-out-lt128 c = stepped-short _ _ _ c.if-out-lt128.true

pub returns-then-not-is_sound : goal.returns-then-not-is_sound
returns-then-not-is_sound c = stepped_foreign _ _ _ _ c.is_sound.ensures c.if-not-is_sound.true

pub refused-requires : goal.refused-requires
refused-requires c =
    (omega arith, is-sound _ _ c.is_sound.ensures c.if-not-is_sound.false)

pub between-requires : goal.between-requires
between-requires c =
    (omega arith, is-sound _ _ c.is_sound.ensures c.if-not-is_sound.false)

pub among-requires : goal.among-requires
among-requires c =
    (omega arith, is-sound _ _ c.is_sound.ensures c.if-not-is_sound.false)

pub within-requires : goal.within-requires
within-requires c =
    (omega arith, is-sound _ _ c.is_sound.ensures c.if-not-is_sound.false)

pub returns-in-Refused : goal.returns-in-Refused
returns-in-Refused c = stepped_refused _ _ _ _ _ _ c.in-Refused.is c.refused.ensures

pub returns-in-Between : goal.returns-in-Between
returns-in-Between c = stepped-between _ _ _ _ _ c.in-Between.is c.between.ensures

pub returns-in-Prices : goal.returns-in-Prices
returns-in-Prices c = stepped-among _ _ _ _ _ _ c.in-Prices.is c.among.ensures

pub returns-in-Article : goal.returns-in-Article
returns-in-Article c = stepped_within _ _ _ _ _ _ _ c.in-Article.is c.within.ensures

pub returns-in-Ended : goal.returns-in-Ended
returns-in-Ended c = stepped_ended _ _ _ c.in-Ended.is
