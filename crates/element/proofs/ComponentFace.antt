-- The laws of a segment's components, and of bytes without release marks, that the crates above cite. They hold for any bytes and
-- places, and for any service characters unless they say which.

-- what holds of each component of a list
pub use Rattle.element.proofs.components.Each.{Each, none, more}
-- the part that `component_at` gives holds the bytes of `component`, for every element and component, missing ones too
pub use Rattle.element.proofs.components.Spans.{component_bytes}
-- that part lies in its segment, or is the empty part at the segment's start
pub use Rattle.element.proofs.components.Spans.{Within, component-within}
-- each of `components` has the bytes that `component` gives for its numbers
pub use Rattle.element.proofs.components.Numbers.{components-named}
-- and the bytes for any numbers are those of the first of `components` that has them
pub use Rattle.element.proofs.components.Lookups.{bytes-component}
unfoldable pub use Rattle.element.proofs.components.Lookups.{bytes_in}
-- each of `components` stands in the delivery where it says, within its segment
pub use Rattle.element.proofs.components.Places.{Placed, components_placed, components_from}
-- to the cursor that `Cursor::new` makes, all `components` of the segment are left
pub use Rattle.element.proofs.cursor.Opening.{rest-opening, rest_new}
-- in a segment that has a byte, all are what stands from its start on
pub use Rattle.element.proofs.cursor.Opening.{components-some}
-- what stands from a place on is the component there, and then what stands behind it, by what ends there
pub use Rattle.element.proofs.cursor.Steps.{rest-last, rest-element, rest-component}
-- what is left to a cursor is the component that its step gives, and then what is left to the next cursor
pub use Rattle.element.proofs.cursor.Visits.{Visited, visited}
-- where a step gives nothing, nothing is left
pub use Rattle.element.proofs.cursor.Visits.{nothing_left}
-- a step leaves fewer components: the measure of a loop over them
pub use Rattle.element.proofs.components.Searching.{step_less}
-- a walk of enough steps gives all `components` of the segment, in their order
pub use Rattle.element.proofs.cursor.Walks.{walk-components}
unfoldable pub use Rattle.element.proofs.cursor.Walks.{walk, given}
-- the component that `component_from` finds: where it ends, what stands there, and what comes after it; and its bytes without release marks
pub use Rattle.element.proofs.scan.Extents.{extent_ended, extent-length}
-- it ends at the first service character, where this stands in the part and is not the release character
pub use Rattle.element.proofs.scan.Extents.{extent-stop}
pub use Rattle.element.proofs.scan.Stopping.{from, Ended}
pub use Rattle.element.proofs.scan.Splits.{Last, Stop}
-- what a byte ends, by the tests on it
pub use Rattle.element.proofs.scan.Endings.{ending_segment, ending_element, at-end, at-segment, at-element, at-component, inside-element, inside-component}
-- a segment has at most one component more than it has bytes: a count of them fits
pub use Rattle.element.proofs.components.Counts.{components-count}
pub use Rattle.bytewise.proofs.Limits.{part-fits}
-- no byte is lost: the components joined again by their separators are the segment up to its terminator
pub use Rattle.element.proofs.components.Joined.{elements-joined}
unfoldable pub use Rattle.element.proofs.components.Joined.{join_by, joined, keep, until_end}
-- where the release mark is no separator, a byte releases the next one here exactly if it does so in cutting
pub use Rattle.element.proofs.components.Released.{releases-frees}
-- and then no byte of a segment is lost: its components joined again, and its terminator, are its bytes
pub use Rattle.element.proofs.components.Whole.{segment-joined}
unfoldable pub use Rattle.element.proofs.components.Whole.{last_of}
-- `same` is equality: it says true of a row and itself, and of equal rows only
pub use Rattle.plain.proofs.Sameness.{same_refl, same_true}
-- an empty part has no bytes; what each byte of a part adds to the decoded ones
pub use Rattle.plain.proofs.Decoding.{decoded-none, plain_byte, plain_released, plain-last}
