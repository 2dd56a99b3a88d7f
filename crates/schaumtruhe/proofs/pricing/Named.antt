-- What prices need of the guide named in UNH, whichever edition it is.
use Rattle.guide.specs.Editions.{guide_of, pages_of}
use Rattle.guide.specs.declared.edition.Edition.{Edition}
use Rattle.guide.specs.declared.edition.Edition.TheVariants.{D, C}
use Rattle.price.specs.Pages.{PricePages}
use Rattle.price.specs.Table.{Priced}
use Rattle.price.proofs.Face.{pricat20d-priced, pricat20c-priced, pricat20d_pages, pricat20c_pages}

pub named-priced : (e : Edition) → Priced (guide_of e)
named-priced D = pricat20d-priced
named-priced C = pricat20c-priced

pub named_pages : (e : Edition) → PricePages (guide_of e) (pages_of e)
named_pages D = pricat20d_pages
named_pages C = pricat20c_pages
