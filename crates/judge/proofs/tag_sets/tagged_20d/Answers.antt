-- `judge::tag_sets::tagged_20d` meets its contract: the number of each arm is, computed, the set of its tag, and no node has another tag. Assumes nothing.
use mathlib.Core.Path.{sym, ap}
use Rattle.guide.specs.Pricat.{pricat20d}
use Rattle.guide.specs.declared.edition.Edition.TheVariants.{D}
use Rattle.judge.specs.workers.Words.{packed}
use Rattle.judge.specs.workers.Sets.{bits, nodes_that, tagged_of}
use Rattle.judge.proofs.tags.Tagged.{tag-other}
use Rattle.judge.proofs.tag_sets.tagged_20d.Goals as goal

pub returns-in-21515861 : goal.returns-in-21515861
unfolding pricat20d tagged_of nodes_that bits packed
returns-in-21515861 c = sym (ap (tagged_of pricat20d) c.in-21515861.is)

pub returns-in-21841730 : goal.returns-in-21841730
unfolding pricat20d tagged_of nodes_that bits packed
returns-in-21841730 c = sym (ap (tagged_of pricat20d) c.in-21841730.is)

pub returns-in-21845060 : goal.returns-in-21845060
unfolding pricat20d tagged_of nodes_that bits packed
returns-in-21845060 c = sym (ap (tagged_of pricat20d) c.in-21845060.is)

pub returns-in-21382738 : goal.returns-in-21382738
unfolding pricat20d tagged_of nodes_that bits packed
returns-in-21382738 c = sym (ap (tagged_of pricat20d) c.in-21382738.is)

pub returns-in-21250382 : goal.returns-in-21250382
unfolding pricat20d tagged_of nodes_that bits packed
returns-in-21250382 c = sym (ap (tagged_of pricat20d) c.in-21250382.is)

pub returns-in-21188428 : goal.returns-in-21188428
unfolding pricat20d tagged_of nodes_that bits packed
returns-in-21188428 c = sym (ap (tagged_of pricat20d) c.in-21188428.is)

pub returns-in-21058627 : goal.returns-in-21058627
unfolding pricat20d tagged_of nodes_that bits packed
returns-in-21058627 c = sym (ap (tagged_of pricat20d) c.in-21058627.is)

pub returns-in-21843779 : goal.returns-in-21843779
unfolding pricat20d tagged_of nodes_that bits packed
returns-in-21843779 c = sym (ap (tagged_of pricat20d) c.in-21843779.is)

pub returns-in-22566211 : goal.returns-in-22566211
unfolding pricat20d tagged_of nodes_that bits packed
returns-in-22566211 c = sym (ap (tagged_of pricat20d) c.in-22566211.is)

pub returns-in-21579600 : goal.returns-in-21579600
unfolding pricat20d tagged_of nodes_that bits packed
returns-in-21579600 c = sym (ap (tagged_of pricat20d) c.in-21579600.is)

pub returns-in-21907788 : goal.returns-in-21907788
unfolding pricat20d tagged_of nodes_that bits packed
returns-in-21907788 c = sym (ap (tagged_of pricat20d) c.in-21907788.is)

pub returns-in-21055824 : goal.returns-in-21055824
unfolding pricat20d tagged_of nodes_that bits packed
returns-in-21055824 c = sym (ap (tagged_of pricat20d) c.in-21055824.is)

pub returns-in-21253449 : goal.returns-in-21253449
unfolding pricat20d tagged_of nodes_that bits packed
returns-in-21253449 c = sym (ap (tagged_of pricat20d) c.in-21253449.is)

pub returns-in-21582416 : goal.returns-in-21582416
unfolding pricat20d tagged_of nodes_that bits packed
returns-in-21582416 c = sym (ap (tagged_of pricat20d) c.in-21582416.is)

pub returns-in-21450322 : goal.returns-in-21450322
unfolding pricat20d tagged_of nodes_that bits packed
returns-in-21450322 c = sym (ap (tagged_of pricat20d) c.in-21450322.is)

pub returns-in-22302293 : goal.returns-in-22302293
unfolding pricat20d tagged_of nodes_that bits packed
returns-in-22302293 c = sym (ap (tagged_of pricat20d) c.in-22302293.is)

pub returns-in_default : goal.returns-in_default
returns-in_default c = tag-other D _ c.in_default.in_default-own.rest
