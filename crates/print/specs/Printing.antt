-- The printer: what it has still to print, in any state, and what a step does.
use Rattle.std.specs.Prelude.{ℕ, ◌+◌, ◌≤◌, ◌<◌, ◌≡◌, Bool, true, false, ◌&&◌, List, [], ◌∷◌, ◌++◌, leb, length, take, drop, Option, Some, None, Result, Ok, Err}
use Rattle.bytewise.specs.Bytes.{part}
use Rattle.cut.specs.declared.service.Syntax.{Syntax}
use Rattle.cut.specs.Segments.{Segment, segments_at}
use Rattle.plain.specs.Plain.{decoded}
use Rattle.messages.specs.Messages.{messages_in}
use Rattle.messages.specs.workers.Walks.{left_over}
use Rattle.price.specs.declared.cursor.Cursor.{Cursor}
use Rattle.price.specs.Cursors.{told_from}
use Rattle.schaumtruhe.specs.Calls.{accepted}
use Rattle.print.specs.declared.state.Counts.{Counts}
use Rattle.print.specs.declared.state.Rest.{Rest}
use Rattle.print.specs.declared.state.Stage.{Stage}
use Rattle.print.specs.declared.state.Stage.TheVariants.{Refused, Between, Prices, Article, Ended}
use Rattle.print.specs.declared.state.Printer.{Printer}
use Rattle.print.specs.declared.state.Chunk.{Chunk}
use Rattle.print.specs.declared.state.Unprinted.{Unprinted}
use Rattle.print.specs.declared.state.Unprinted.TheVariants.{Short, Foreign}
use Rattle.print.specs.Report.{behind, line_of, price_lines, lines_from, envelope_line}

module _ (y : Syntax) (d : List ℕ) where
  -- the last two lines, with these counts
  unfoldable pub last_lines : ℕ → ℕ → ℕ → List ℕ
  last_lines m a o = envelope_line y d ++ line_of 69 (m ∷ a ∷ o ∷ [])

  -- the lines of the messages among some segments, and the last ones, which count those before them too
  unfoldable pub lines_of : Counts → List Segment → List ℕ
  lines_of c ss =
      lines_from y (c.messages + 1) (messages_in ss)
      ++ last_lines (c.messages + length (messages_in ss)) (c.accepted + length (accepted y (messages_in ss)))
      (c.outside + length (left_over false ss))

  -- from where the counts stand
  unfoldable pub left_from : Counts → List ℕ
  left_from c = lines_of c (segments_at y d c.at)

  -- the prices of a message that ends there, from a cursor on, before that
  unfoldable pub left_among : Counts → Cursor → List ℕ
  left_among c cursor = price_lines y (told_from y (part 0 c.at d) cursor) ++ left_from c

  -- the rest of an article and of its line, before that
  unfoldable pub left_within : Counts → Cursor → Rest → List ℕ
  left_within c cursor r = (decoded y r.from r.to d ++ behind r.amount r.decimals) ++ left_among c cursor

  unfoldable pub left_in : Counts → Stage → List ℕ
  left_in c (Refused n) = line_of 88 (n ∷ [])
  left_in c Between = left_from c
  left_in c (Prices cursor) = left_among c cursor
  left_in c (Article cursor r) = left_within c cursor r
  left_in c Ended = []

-- what a printer has still to print of a delivery
unfoldable pub left_to : List ℕ → Printer → List ℕ
left_to d p = left_in p.syntax d p.counts p.stage

-- no more is counted than there are bytes before; other counts are none that a printer makes
unfoldable pub sound : Counts → Bool
sound c = leb c.messages c.at && (leb c.accepted c.at && leb c.outside c.at)

-- a buffer of this length is never too short
abbrev pub least : ℕ
least = 128

-- the first bytes of the row are a chunk of what was left, at least one; the rest of the row is unchanged
pub record Wrote (d left row row' : List ℕ) (r : Chunk) : Type 0 where
  pub chunk : left ≡ take r.length row' ++ left_to d r.next
  pub some : 0 < r.length
  pub fits : r.length ≤ length row
  pub rest : drop r.length row' ≡ drop r.length row
  pub sound : sound r.next.counts ≡ true

-- step: the row before and after; where no chunk is written, the row is as it was
unfoldable pub Stepped : List ℕ → Printer → List ℕ → List ℕ → Result (Option Chunk) Unprinted → Type 0
Stepped d p row row' (Ok (Some r)) = Wrote d (left_to d p) row row' r
Stepped d p row row' (Ok None) = (left_to d p ≡ []) × (row' ≡ row)
Stepped d p row row' (Err Short) = (length row < least) × (row' ≡ row)
Stepped d p row row' (Err Foreign) = (sound p.counts ≡ false) × (row' ≡ row)

-- the chunks of steps one after the other, each in any buffer, up to the end: their bytes joined
pub data Run (d : List ℕ) : Printer → List ℕ → Type 0 where
  ends : (p : Printer) (row row' : List ℕ) → Stepped d p row row' (Ok None) → Run d p []
  goes :
      (p : Printer) (row row' : List ℕ) (r : Chunk) (t : List ℕ) → Stepped d p row row' (Ok (Some r)) → Run d r.next t
      → Run d p (take r.length row' ++ t)
