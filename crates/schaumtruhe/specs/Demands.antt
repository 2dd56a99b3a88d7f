-- Demands 1 and 2 over a delivery and a place, in the words of document 01's table of refusals. Declarative: it cites what a message is, when
-- it is accepted and when refused by the guide named in its UNH, and nothing that searches or judges.
use Rattle.std.specs.Prelude.{ℕ, ◌≤◌, ◌<◌, ◌≡◌, true, false, length}
use mathlib.Core.List.{List, ◌++◌, Memᴰ}
use Rattle.cut.specs.declared.service.Syntax.{Syntax}
use Rattle.bytewise.specs.Bytes.{begins}
use Rattle.cut.specs.Characters.{valid}
use Rattle.cut.specs.Segments.{breaks}
use Rattle.cut.specs.Admission.{limit, UNA, nine}
use Rattle.messages.specs.Messages.{Message, start_of, close_of, messages}
use Rattle.guide.specs.Accepted.{segments_of, Accepted}
use Rattle.guide.specs.Refusal.{Refusal}
use Rattle.verdict.specs.Named.{guide_named, pages_named}
use Rattle.price.specs.Sheet.{prices_in_tree}

-- 1, "delivery longer than the limit"
abbrev pub TooLong : List ℕ → Type 0
TooLong d = limit < length d

module _ (y : Syntax) where
  -- 2, "begins `UNA`, first nine bytes not those above", item 6: not those of these characters; item 4: "UNA is looked for after those at the start"
  pub record OtherUNA (d : List ℕ) : Type 0 where
    pub skipped : List ℕ
    pub rest : List ℕ
    pub same : d ≡ skipped ++ rest
    pub all_skipped : breaks y skipped ≡ true
    pub begins_UNA : begins UNA rest ≡ true
    pub not_nine : begins (nine y) rest ≡ false

  -- "A delivery is admitted if it gets neither 1 nor 2"
  pub record Admitted (d : List ℕ) : Type 0 where
    pub short : TooLong d → ⊥
    pub usable : valid y ≡ true
    pub right : OtherUNA d → ⊥

  -- "1, 2 first, for the whole delivery, and then nothing else is read"
  pub data DeliveryRefused (d : List ℕ) : ℕ → Type 0 where
    too_long : TooLong d → DeliveryRefused d 1
    -- item 6: "one of these conditions fails, for UNA or characters handed in"
    unusable : (TooLong d → ⊥) → valid y ≡ false → DeliveryRefused d 2
    other_UNA : (TooLong d → ⊥) → OtherUNA d → DeliveryRefused d 2

  -- m is a message of the delivery and begins at the place
  pub record Begins (d : List ℕ) (at : ℕ) (m : Message) : Type 0 where
    pub member : Memᴰ m (messages y d)
    pub starts : start_of m ≡ at

  -- there is no message to be judged: 1, 2; then 31, "no message begins at the place asked"
  pub data NoMessage (d : List ℕ) (at : ℕ) : ℕ → Type 0 where
    whole_delivery : {k : ℕ} → DeliveryRefused d k → NoMessage d at k
    none_begins : Admitted d → ((m : Message) → Begins d at m → ⊥) → NoMessage d at 31

  -- the verdict asked for at a place is refused with number, segment, place and node
  pub data VerdictRefused (d : List ℕ) (at : ℕ) : ℕ → ℕ → ℕ → ℕ → Type 0 where
    no_message : {k : ℕ} → NoMessage d at k → VerdictRefused d at k 0 0 0
    of_message :
        {k i a n : ℕ} → (m : Message) → Admitted d → Begins d at m → Refusal y (guide_named y m) (pages_named y m) m k i a n → VerdictRefused d at k i a n

  -- the accepted message m begins at the place
  pub record Stands (d : List ℕ) (at : ℕ) (m : Message) : Type 0 where
    pub admitted : Admitted d
    pub begins : Begins d at m
    pub accepted : Accepted y (guide_named y m) (pages_named y m) m

  -- the verdict asked for at a place is accepted with the count of segments and the byte after the message
  pub record VerdictAccepted (d : List ℕ) (at n e : ℕ) : Type 0 where
    pub message : Message
    pub stands : Stands d at message
    pub count : n ≡ length (segments_of message)
    pub close : e ≡ close_of message

  -- prices asked for at a place are refused: 1, 2, 31; then 30, "prices or article asked of a refused message"
  pub data PricesRefused (d : List ℕ) (at : ℕ) : ℕ → Type 0 where
    no_message : {k : ℕ} → NoMessage d at k → PricesRefused d at k
    not_accepted : (m : Message) → Admitted d → Begins d at m → (Accepted y (guide_named y m) (pages_named y m) m → ⊥) → PricesRefused d at 30

  -- the article of price k is refused: 1, 2, 31, 30; then 32, "article asked for a price number the message does not have"
  pub data ArticleRefused (d : List ℕ) (at k : ℕ) : ℕ → Type 0 where
    no_prices : {n : ℕ} → PricesRefused d at n → ArticleRefused d at k n
    no_price :
        (m : Message) (s : Stands d at m) → length (prices_in_tree (guide_named y m) s.accepted.proper.sheet.tree) ≤ k → ArticleRefused d at k 32
