-- The laws of allowed bytes and of marks that the crates above cite.

-- a part holds allowed bytes only, if each of its bytes is one
pub use Rattle.clean.proofs.Laws.{allowed_each}
-- plain text is allowed
pub use Rattle.element.proofs.marks.Marks.{text-allowed}
-- a byte that is no mark is allowed and no service character where these are the usual ones; and what that tells of it
pub use Rattle.element.proofs.marks.Marks.{mark-not}
pub use Rattle.element.proofs.scan.Services.{plain-stays, plain_no_mark}
-- what a word of eight bytes tells of the bytes between two components, whatever they are tested for
pub use Rattle.element.proofs.ahead.Flags.{scan_none, scan_word, scan_flag, flag-onward, flag-first, flag-behind}
-- a byte that stays in its component ends no segment
pub use Rattle.element.proofs.ahead.Marks.{stays-inside}
-- a component goes on behind a release mark and the byte that it releases
pub use Rattle.element.proofs.ahead.Marks.{mark-both, mark-ends, mark-counts}
