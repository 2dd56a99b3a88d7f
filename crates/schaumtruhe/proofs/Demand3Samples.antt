-- Demand 3 at the service characters `:+.?'`: fronts that meet what it asks, by computation, and what it then says in numbers.
use Prim.Native.Nat.{ℕ, ◌+◌}
use mathlib.Core.Path.{◌≡◌, refl, sym, ◌∙◌, ap, subst}
use mathlib.Core.Bool.{false}
use mathlib.Core.List.{List, [], ◌∷◌, ◌++◌, Memᴰ}
use lib.ListN.{length, drop}
use Rattle.cut.specs.Admission.{segments, nine}
use Rattle.cut.specs.Base.{edifact}
use Rattle.cut.specs.Segments.{breaks}
use Rattle.bytewise.specs.Bytes.{bytes_of}
use Rattle.messages.specs.Messages.{messages}
use Rattle.messages.specs.Fronts.{moved_message}
use Rattle.cut.specs.Fronts.{whole, Tail}
use Rattle.guide.specs.Answers.{accepts, refuses}
use Rattle.verdict.specs.Moves.{moved_verdict}
use Rattle.schaumtruhe.specs.Calls.{verdict_at, priced_at, row_at}
use Rattle.schaumtruhe.specs.Demand3.{Kept, FromFirst}
use Rattle.std.specs.Prelude.{Ok}
use Rattle.schaumtruhe.proofs.Demand3.{demand3_any, demand3_una}
use Rattle.schaumtruhe.proofs.keeping.Tails.{
  judged_at,
  refused_twice,
  incomplete,
  unfinished,
  refused-twice,
  incomplete_verdict,
  unfinished_verdict,
  priced_second,
  sheet,
  priced-second,
  sheet-verdict,
  row,
  filled,
  sheet-priced,
}

-- whatever the front: the tail's second message is accepted, and its price is the same
module _ (front : List ℕ) (t : Tail edifact front priced_second) where
  second_kept : Kept edifact (front ++ priced_second) priced_second (length front) sheet
  second_kept =
      (demand3_any edifact front priced_second t).kept sheet (subst (Memᴰ sheet) (sym (ap (drop 1) priced-second)) (Memᴰ.head refl))

  second_verdict : verdict_at edifact (front ++ priced_second) (length front + 35) ≡ accepts 10 (length front + 170)
  unfolding moved_verdict
  second_verdict = second_kept.verdict ∙ ap (moved_verdict (length front)) sheet-verdict

  second_priced : priced_at edifact (front ++ priced_second) (length front + 35) 0 row ≡ Ok (record { written = 1; total = 1 })
  second_priced = second_kept.priced 0 row ∙ sheet-priced.0

  second_row : row_at edifact (front ++ priced_second) (length front + 35) 0 row ≡ filled
  second_row = second_kept.row 0 row ∙ sheet-priced.1

-- a front that spoils the first UNH: the tail's first message is lost, and the second is the only one
glued : Tail edifact (bytes_of "X") priced_second
unfolding judged_at
glued = record { admitted = refl; begins_UNH = refl }

glued-messages : messages edifact (bytes_of "X" ++ priced_second) ≡ moved_message 1 sheet ∷ []
unfolding judged_at
glued-messages = refl

-- it does not end where a segment ends
glued_open : whole (segments edifact (bytes_of "X")) ≡ false
unfolding judged_at whole
glued_open = refl

glued-verdict : verdict_at edifact (bytes_of "X" ++ priced_second) 36 ≡ accepts 10 171
glued-verdict = second_verdict (bytes_of "X") glued

glued-row : row_at edifact (bytes_of "X" ++ priced_second) 36 0 row ≡ filled
glued-row = second_row (bytes_of "X") glued

-- a front that ends in a release mark, and so releases the U: the same
released : Tail edifact (bytes_of "UNB+UNOC:3?") priced_second
unfolding judged_at
released = record { admitted = refl; begins_UNH = refl }

released_messages : messages edifact (bytes_of "UNB+UNOC:3?" ++ priced_second) ≡ moved_message 11 sheet ∷ []
unfolding judged_at
released_messages = refl

released_verdict : verdict_at edifact (bytes_of "UNB+UNOC:3?" ++ priced_second) 46 ≡ accepts 10 181
released_verdict = second_verdict (bytes_of "UNB+UNOC:3?") released

-- UNA alone in front of document 01's input line: both messages from the first on
una : Tail edifact (nine edifact) refused_twice
unfolding judged_at
una = record { admitted = refl; begins_UNH = refl }

una_kept : FromFirst edifact (nine edifact) refused_twice
unfolding breaks
una_kept = demand3_una edifact [] [] refused_twice refl refl una

una_first : verdict_at edifact (nine edifact ++ refused_twice) 9 ≡ refuses 14 3 47 4
unfolding moved_verdict
una_first =
    (una_kept.kept incomplete (subst (Memᴰ incomplete) (sym refused-twice) (Memᴰ.head refl))).verdict ∙ ap (moved_verdict 9) incomplete_verdict

una_second : verdict_at edifact (nine edifact ++ refused_twice) 55 ≡ refuses 24 2 82 0
unfolding moved_verdict
una_second =
    (una_kept.kept unfinished (subst (Memᴰ unfinished) (sym refused-twice) (Memᴰ.tail (Memᴰ.head refl)))).verdict
    ∙ ap (moved_verdict 9) unfinished_verdict
