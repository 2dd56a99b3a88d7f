-- The face of this crate: the laws that the crates above cite, with the definitions of specs/.
use Prim.Native.Nat.{ℕ, ◌-◌, ◌/◌, min}
use mathlib.Core.Path.{◌≡◌, sym, ◌∙◌}
use mathlib.Core.List.{List}
use lib.ListN.{length, length-take, length-drop, length-map}
use lib.IntN.{ℤ}
use denote.Ref.{Bor}
use Rattle.cut.specs.declared.service.Syntax.{Syntax}
use Rattle.price.specs.Numbers.{Listed}
use Rattle.price.specs.Rows.{fitting}
use Rattle.price.specs.Calls.{numbers_from, filled_of, IsPart}
-- the tables that have prices where the walk looks for them; both editions do
pub use Rattle.price.proofs.tree.Tables.{priced_gives, pricat20d-priced, pricat20c-priced}
-- the prices by raw tags are those read off the tree
pub use Rattle.price.proofs.tree.Tree.{prices-tree}
-- there are as many as the tree has PRI segments
pub use Rattle.price.proofs.tree.Counted.{prices-counted}
-- what a price's segments, its article and its numbers are made of lies in the message
pub use Rattle.price.proofs.inside.Lies.{Lies, Stands, PriceLies, prices_in_lie, article_lies}
pub use Rattle.price.proofs.inside.Parted.{article-in}
pub use Rattle.price.proofs.inside.Places.{ArticleIn, absent, stands, InMessage, prices_in_message}
-- the article that is handed out is component 0 of element 3 of the price's LIN, where the row says
pub use Rattle.price.proofs.articles.Handed.{Sited, at_place, at-start, ArticleOf, handed_article}
-- a message of the same bytes further on in another delivery fills a row alike
pub use Rattle.price.proofs.moves.Moved.{later_price, numbers-moved, prices-moved, prices-later, row-later, filled-later}
pub use Rattle.price.proofs.moves.ArticleMoved.{first-article-moved}
-- a cursor's step gives the first price that is left, and from the first cursor on all of a message are left
pub use Rattle.price.proofs.Cursors.{Gives, next_gives, next-none, told_message}
-- the tables with the pages of prices; both editions have them
pub use Rattle.price.proofs.tree.Paged.{pricat20d_pages, pricat20c_pages}
-- in a proper message of any such table no article is absent, each amount is exact, and the unit is the page's or none
pub use Rattle.price.proofs.tree.Proper.{Rank, no_unit, per_year, Exact, prices_exact}
-- in a proper message of any table that has prices where the walk looks for them the position is the number that the LIN itself gives
pub use Rattle.price.proofs.tree.Numbered.{Placed, proper_placed}

-- how many prices are written: those from the k-th on, as many as fit
pub written_count
    : (y : Syntax) (start k : ℕ) (row : List ℤ) (qs : List Listed) → (filled_of y start k qs row).written ≡ min (length row / 8) (length qs - k)
unfolding filled_of fitting numbers_from
written_count y start k row qs = rw (length-take, length-map, length-drop)

-- any two answers that meet the promise of `article` are the same part
pub one-part : (s r t : Bor (List ℕ)) (a e : ℕ) → IsPart s r a e → IsPart s t a e → (r.now ≡ t.now) × (r.ref_ptr.0 ≡ t.ref_ptr.0) × (r.ref_ptr.1 ≡ t.ref_ptr.1)
one-part s r t a e p q = (p.bytes ∙ sym q.bytes, p.block ∙ sym q.block, p.offset ∙ sym q.offset)
