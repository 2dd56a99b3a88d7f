-- Demand 3 over the answers of the public calls: "the longer delivery holds the same messages: same verdicts as demand 2 gives each alone, same
-- prices, places moved by the length of what stands in front".
use Rattle.std.specs.Prelude.{ℕ, suc, ◌+◌, ◌≤◌, ◌≡◌, true, ◌⊎◌, ℤ, length, take, drop}
use mathlib.Core.List.{List, [], ◌∷◌, ◌++◌, map, Memᴰ}
use Rattle.cut.specs.declared.service.Syntax.{Syntax}
use Rattle.bytewise.specs.Bytes.{part}
use Rattle.cut.specs.Admission.{admission_of, segments}
use Rattle.cut.specs.Used.{characters_of}
use Rattle.messages.specs.Messages.{Message, start_of, close_of, messages}
use Rattle.messages.specs.Calls.{some_message, next_message}
use Rattle.cut.specs.Fronts.{moved, whole, meet}
use Rattle.messages.specs.Fronts.{moved_message, begun_in}
use Rattle.element.specs.declared.components.Span.{Span}
use Rattle.verdict.specs.Moves.{moved_verdict}
use Rattle.schaumtruhe.specs.declared.reading.Reading.{Reading}
use Rattle.schaumtruhe.specs.Readings.{used_in}
use Rattle.schaumtruhe.specs.Calls.{judged, verdict_at, priced_at, row_at, article_refusal, article_at}

-- the same part k places later
abbrev pub moved_span : ℕ → Span → Span
moved_span k s = record { start = k + s.start; end = k + s.end }

-- the bytes of a part of d
abbrev pub bytes_at : Span → List ℕ → List ℕ
bytes_at s d = part s.start s.end d

-- the longer delivery d' holds the message m of d, k places later, and answers there what d answers where m begins
pub record Kept (y : Syntax) (d' d : List ℕ) (k : ℕ) (m : Message) : Type 0 where
  -- "holds the same messages .. places moved"
  pub held : Memᴰ (moved_message k m) (messages y d')
  pub next : next_message y d' (k + start_of m) ≡ some_message (k + start_of m) (k + close_of m)
  -- "same verdicts as demand 2 gives each alone"
  pub own : verdict_at y d (start_of m) ≡ judged y m
  pub verdict : verdict_at y d' (k + start_of m) ≡ moved_verdict k (verdict_at y d (start_of m))
  -- "same prices", from each number on and in each row; the places in a row count from the message's start
  pub priced : (j : ℕ) (row : List ℤ) → priced_at y d' (k + start_of m) j row ≡ priced_at y d (start_of m) j row
  pub row : (j : ℕ) (row : List ℤ) → row_at y d' (k + start_of m) j row ≡ row_at y d (start_of m) j row
  -- the articles: the same refusals, the same bytes, and the places of those that are not refused moved
  pub refusal : (j : ℕ) → article_refusal y d' (k + start_of m) j ≡ article_refusal y d (start_of m) j
  pub article : (j : ℕ) → bytes_at (article_at y d' (k + start_of m) j) d' ≡ bytes_at (article_at y d (start_of m) j) d
  pub place : (j : ℕ) → article_refusal y d (start_of m) j ≡ 0 → article_at y d' (k + start_of m) j ≡ moved_span k (article_at y d (start_of m) j)

-- "Each message stands by itself": the bytes of the message m of d are an admitted delivery with one message, and the calls answer alike
pub record Alone (y : Syntax) (d : List ℕ) (m : Message) : Type 0 where
  pub message : Message
  pub admits : admission_of y (part (start_of m) (close_of m) d) ≡ 0
  pub only : messages y (part (start_of m) (close_of m) d) ≡ message ∷ []
  pub begins : start_of message ≡ 0
  pub same : moved_message (start_of m) message ≡ m
  pub kept : Kept y d (part (start_of m) (close_of m) d) (start_of m) message
  -- of these: the verdict that demand 2 gives it alone
  pub verdict : verdict_at y d (start_of m) ≡ moved_verdict (start_of m) (verdict_at y (part (start_of m) (close_of m) d) 0)

-- the messages of the longer delivery that begin in the front or at the tail's first segment
abbrev pub earlier : Syntax → List ℕ → List ℕ → List Message
earlier y front tail =
    begun_in (meet (segments y front) (take 1 (map (moved (length front)) (segments y tail)))) (drop 1 (map (moved (length front)) (segments y tail)))

-- "From the second message that the tail holds when read alone, the longer delivery holds the same messages"
pub record FromSecond (y : Syntax) (front tail : List ℕ) : Type 0 where
  pub same : messages y (front ++ tail) ≡ earlier y front tail ++ map (moved_message (length front)) (drop 1 (messages y tail))
  pub kept : (m : Message) → Memᴰ m (drop 1 (messages y tail)) → Kept y (front ++ tail) tail (length front) m

-- "this holds from the first message too"
pub record FromFirst (y : Syntax) (front tail : List ℕ) : Type 0 where
  pub same : messages y (front ++ tail) ≡ messages y front ++ map (moved_message (length front)) (messages y tail)
  pub kept : (m : Message) → Memᴰ m (messages y tail) → Kept y (front ++ tail) tail (length front) m

-- "No damage in front can cost more than that first message"
pub record AtMostFirst (y : Syntax) (front tail : List ℕ) : Type 0 where
  pub first : Message
  pub rest : List Message
  pub holds : messages y tail ≡ first ∷ rest
  pub begins : start_of first ≡ 0
  pub kept : (m : Message) → Memᴰ m (messages y tail) → (m ≡ first) ⊎ Kept y (front ++ tail) tail (length front) m
  pub count : length (messages y tail) ≤ suc (length (messages y (front ++ tail)))

-- demand 3, whole: what it says of a front and a tail; `whole`: the front is empty, is just UNA, or ends where a segment ends
pub record Demand3 (y : Syntax) (front tail : List ℕ) : Type 0 where
  -- the front is admitted by itself
  pub front_admitted : admission_of y front ≡ 0
  -- "Each message stands by itself": those of the longer delivery
  pub each_alone : (m : Message) → Memᴰ m (messages y (front ++ tail)) → Alone y (front ++ tail) m
  pub from_second : FromSecond y front tail
  pub from_first : whole (segments y front) ≡ true → FromFirst y front tail
  pub at_most_first : AtMostFirst y front tail

-- demand 3 of deliveries as they are read: the longer one in a reading, the tail with the longer one's service characters handed in. Item 6
pub record Demand3Read (how : Reading) (front tail : List ℕ) : Type 0 where
  -- the tail has no UNA, so that the calls read it with those handed in
  pub tail_read : characters_of (used_in how (front ++ tail)) tail ≡ used_in how (front ++ tail)
  pub demand : Demand3 (used_in how (front ++ tail)) front tail
