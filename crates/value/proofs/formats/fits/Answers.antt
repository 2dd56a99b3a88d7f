-- `value::formats::fits` meets its contract, format by format.
use mathlib.Core.Path.{◌∙◌}
use Rattle.value.proofs.Answers.{fits-an-up-to, fits-an, fits-n-up-to, fits-n}
use Rattle.value.proofs.formats.fits.Goals as goal

pub returns-in-AnUpTo : goal.returns-in-AnUpTo
returns-in-AnUpTo c =
    c.up_to.ensures ∙ fits-an-up-to _ _ _ _ _ c.in-AnUpTo.is c.plain_length.ensures

pub returns-in-An : goal.returns-in-An
returns-in-An c = fits-an _ _ _ _ _ c.in-An.is c.plain_length-in-An.ensures

pub returns-in-NUpTo : goal.returns-in-NUpTo
returns-in-NUpTo c =
    c.up_to-in-NUpTo.ensures ∙ fits-n-up-to _ _ _ _ _ c.in-NUpTo.is c.digit_count.ensures

pub returns-in-N : goal.returns-in-N
returns-in-N c =
    c.exactly.ensures ∙ fits-n _ _ _ _ _ c.in-N.is c.digit_count-in-N.ensures
