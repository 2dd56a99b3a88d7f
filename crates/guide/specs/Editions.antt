-- What judges a message of an edition: its guide and its pages.
use Rattle.std.specs.Prelude.{ℕ}
use Rattle.guide.specs.Nodes.{Guide}
use Rattle.guide.specs.Page.{Page}
use Rattle.guide.specs.Pricat.{pricat20d, pricat20c}
use Rattle.guide.specs.Pages20d.{page_of}
use Rattle.guide.specs.Pages20c.{page_of20c}
use Rattle.guide.specs.declared.edition.Edition.{Edition}
use Rattle.guide.specs.declared.edition.Edition.TheVariants.{D, C}

abbrev pub guide_of : Edition → Guide
guide_of D = pricat20d
guide_of C = pricat20c

abbrev pub pages_of : Edition → ℕ → Page
pages_of D = page_of
pages_of C = page_of20c
