-- The laws of pages that the crates above cite.

-- a segment has no fault exactly if its page holds
pub use Rattle.guide.proofs.PageHolds.{holds_iff}
-- and the fault n exactly if n is the number of its first fault from left to right
pub use Rattle.guide.proofs.PageFirst.{first_iff}
-- a component has one fault at most
pub use Rattle.guide.proofs.pages.Leftmost.{one-fault}
-- what a page that holds says of a component
pub use Rattle.guide.proofs.Contents.{holds-unused, holds-must, holds-format, holds-code}
-- in PRICAT the amount of a price is n..15, and an article always stands
pub use Rattle.guide.proofs.Contents.{price-format, article-stands}
-- one pass over the components of a segment gives its first fault: the steps of the pass, from the tag on, one component further, the next element, no
-- element left; and a part without a byte
pub use Rattle.guide.proofs.SegmentPass.{segment_pass, pass_component, pass_element, pass_absent, empty_pass}
unfoldable pub use Rattle.guide.proofs.SegmentPass.{behind_fault}
-- the fault of one text on one row: not empty on a row that is not used, on one in use; whether it is asked for or not; and empty
pub use Rattle.guide.proofs.pages.Faults.{unused-filled, used-filled}
pub use Rattle.guide.proofs.pages.OnePass.{filled-fault, empty-fault}
