-- The definitions of rule 23 on segments worked out by hand; by computation.
use Prim.Native.String.{String}
use mathlib.Core.Path.{◌≡◌, refl}
use Rattle.cut.specs.Base.{edifact}
use Rattle.bytewise.specs.Bytes.{bytes_of, begins}
use Rattle.cut.specs.Segments.{ends, frees, join, segments_from, is_break, trim, trimmed, segments_of}
use Rattle.element.specs.Elements.{ending_of, stays, releases, before, split_from, elements}
use Rattle.plain.specs.Plain.{unless_mark, plain, same}
use Rattle.agree.specs.Agreement.{same_text, all_empty, same_components, empty_elements, same_elements, agree_but, agree_in, agree}
use Rattle.agree.specs.Positions.{agreeing_at, next_if, behind_if, heading_from, positions_from, positions_of, agrees_any, first_after, first_agreeing}
use Rattle.std.specs.Prelude.{Option, Some, None}
use Rattle.agree.specs.declared.first.Agreeing.{Agreeing}

-- what is found among some segments, with the service characters `:+.?'`
found_in : String → Option Agreeing
unfolding
    begins ends frees join segments_from is_break trim trimmed segments_of
    ending_of stays releases before split_from elements unless_mark plain same same_text all_empty same_components
    empty_elements same_elements agree_but agree_in agree next_if behind_if heading_from positions_from positions_of agrees_any first_after first_agreeing
found_in segments = first_agreeing edifact (positions_of (segments_of edifact 0 (bytes_of segments)))

-- "a missing component equals an empty one", of either position and of any of the three segments
empty-parts
    : (found_in "LIN+1++A:Z01'LIN+2++A:Z01::+'" ≡ Some (agreeing_at 2 13))
    × (found_in "LIN+1++A:Z01::+'LIN+2++A:Z01'" ≡ Some (agreeing_at 2 16))
    × (found_in "LIN+1++A'PIA+5+B'IMD++X'LIN+2++A'PIA+5+B:'IMD++X+:'" ≡ Some (agreeing_at 4 24))
unfolding found_in
empty-parts = (refl, refl, refl)

-- ... but one that stands elsewhere differs
other_places
    : (found_in "LIN+1++A'LIN+2+++A'" ≡ None)
    × (found_in "LIN+1++A'LIN+2++:A'" ≡ None)
unfolding found_in
other_places = (refl, refl)

-- "releases removed"; a released separator separates nothing
spellings
    : (found_in "LIN+1++A?+B'LIN+2++?A?+B'" ≡ Some (agreeing_at 2 12))
    × (found_in "LIN+1++A?:B'LIN+2++A:B'" ≡ None)
unfolding found_in
spellings = (refl, refl)

-- "a missing segment equals none": PIA or IMD of one position alone, and one that stands and holds nothing
missing-segments
    : (found_in "LIN+1++A'PIA+5+B'LIN+2++A'" ≡ None)
    × (found_in "LIN+1++A'LIN+2++A'IMD++X'" ≡ None)
    × (found_in "LIN+1++A'PIA'LIN+2++A'" ≡ None)
unfolding found_in
missing-segments = (refl, refl, refl)

-- "All characters are compared": articles that differ after thirteen of them
articles
    : (found_in "LIN+1++9991000000739-01'LIN+2++9991000000739-02'" ≡ None)
    × (found_in "LIN+1++9991000000739-01'LIN+2++9991000000739-01'" ≡ Some (agreeing_at 2 24))
unfolding found_in
articles = (refl, refl)

-- "the first LIN that agrees with an earlier one", by its number among all segments and its place
first-named
    : (found_in "LIN+1++A'LIN+2++B'LIN+3++B'LIN+4++A'" ≡ Some (agreeing_at 3 18))
    × (found_in "UNH+1'LIN+1++A'PRI+CAL:1'LIN+2++A'" ≡ Some (agreeing_at 4 25))
unfolding found_in
first-named = (refl, refl)
