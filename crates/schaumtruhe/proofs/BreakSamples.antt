-- Line breaks in the usual reading at the service characters `:+.?'`, by computation: before, behind and between segments.
use Prim.Native.Nat.{ℕ}
use Prim.Native.String.{String}
use mathlib.Core.Path.{◌≡◌, refl, sym, ◌∙◌, ap, subst}
use mathlib.Core.List.{List, [], ◌∷◌, ◌++◌, Memᴰ}
use lib.IntN.{pos, negsuc}
use Rattle.bytewise.specs.Bytes.{bytes_of}
use Rattle.cut.specs.Admission.{nine}
use Rattle.cut.specs.Base.{edifact}
use Rattle.cut.specs.Segments.{breaks, is_break}
use Rattle.cut.specs.Fronts.{Tail}
use Rattle.guide.specs.Answers.{accepts, refuses}
use Rattle.verdict.specs.Moves.{moved_verdict}
use Rattle.schaumtruhe.specs.Calls.{verdict_at, priced_at, row_at}
use Rattle.schaumtruhe.specs.Demand3.{FromFirst}
use Rattle.std.specs.Prelude.{Ok}
use Rattle.schaumtruhe.proofs.Demand3.{demand3_una}
use Rattle.schaumtruhe.proofs.keeping.Tails.{judged_at, filled_at, priced_second, empty, priced-second, empty-verdict, row}

-- texts with CR LF after each
abbrev lined : List String → List ℕ
lined [] = []
lined (s ∷ ss) = bytes_of s ++ (13 ∷ 10 ∷ lined ss)

-- a sheet with a price: the last segment's end is the message's, and the places count the bytes that are skipped
abbrev sheet_lines : List ℕ
sheet_lines =
    lined
    ("UNH+2+PRICAT:D:20B:UN:2.0d'"
    ∷ "BGM+Z32+A1'"
    ∷ "DTM+137:1:303'"
    ∷ "RFF+Z13:27002'"
    ∷ "NAD+MR+1::9'"
    ∷ "NAD+MS+2::9'"
    ∷ "PGI+Z01'"
    ∷ "LIN+1++A:Z09'"
    ∷ "PRI+CAL:168.06'"
    ∷ "UNT+10+2'"
    ∷ [])

lines-accepted : verdict_at edifact sheet_lines 0 ≡ accepts 10 153
unfolding judged_at
lines-accepted = refl

lines-priced
    : (priced_at edifact sheet_lines 0 0 row ≡ Ok (record { written = 1; total = 1 }))
    × (row_at edifact sheet_lines 0 0 row ≡ pos 1 ∷ pos 119 ∷ pos 1 ∷ pos 16806 ∷ pos 2 ∷ pos 0 ∷ pos 127 ∷ negsuc 0 ∷ pos 7 ∷ [])
unfolding filled_at
lines-priced = (refl, refl)

-- "24 gives the byte after that", and not the one after the line break
lines_unfinished : verdict_at edifact (lined ("UNH+1+PRICAT:D:20B:UN:2.0d'" ∷ "BGM+Z32+A1'" ∷ [])) 0 ≡ refuses 24 3 40 0
unfolding judged_at
lines_unfinished = refl

-- a place within a line break begins no message
lines-nowhere : verdict_at edifact (10 ∷ sheet_lines) 0 ≡ refuses 31 0 0 0
unfolding judged_at
lines-nowhere = refl

-- behind a released terminator it is content, which is not allowed
lines_released : verdict_at edifact (bytes_of "UNH+1+PRICAT:D:20B:UN:2.0d'BGM+Z32+A?'" ++ (10 ∷ bytes_of "'UNT+3+1'")) 0 ≡ refuses 10 2 27 0
unfolding judged_at
lines_released = refl

-- UNA with line breaks before and behind it counts as an empty front: both messages of the tail are kept
abbrev front : List ℕ
front = (10 ∷ []) ++ (nine edifact ++ (13 ∷ 10 ∷ []))

fronted : Tail edifact front priced_second
unfolding judged_at
fronted = record { admitted = refl; begins_UNH = refl }

fronted_kept : FromFirst edifact front priced_second
unfolding breaks is_break
fronted_kept = demand3_una edifact (10 ∷ []) (13 ∷ 10 ∷ []) priced_second refl refl fronted

fronted_first : verdict_at edifact (front ++ priced_second) 12 ≡ refuses 14 2 39 2
unfolding moved_verdict
fronted_first =
    (fronted_kept.kept empty (subst (Memᴰ empty) (sym priced-second) (Memᴰ.head refl))).verdict ∙ ap (moved_verdict 12) empty-verdict
