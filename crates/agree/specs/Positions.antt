-- The positions of a message, read off its segments, and the first that agrees with an earlier one. Document 01, 'Message rules' and refusal 23.
use Rattle.std.specs.Prelude.{ℕ, ◌+◌, Bool, false, cond, ◌||◌, List, [], ◌∷◌, ◌++◌, Option, Some, None}
use Rattle.cut.specs.declared.service.Syntax.{Syntax}
use Rattle.bytewise.specs.Bytes.{begins, bytes_of}
use Rattle.cut.specs.Segments.{Segment}
use Rattle.agree.specs.Agreement.{Heading, agree}
use Rattle.agree.specs.declared.first.Agreeing.{Agreeing}

-- the segment that comes next, if its first three bytes are the tag t
unfoldable pub next_if : List ℕ → List Segment → List (List ℕ)
next_if t [] = []
next_if t (s ∷ ss) = cond (begins t s.bytes) (s.bytes ∷ []) []

-- the segments behind that one
unfoldable pub behind_if : List ℕ → List Segment → List Segment
behind_if t [] = []
behind_if t (s ∷ ss) = cond (begins t s.bytes) ss (s ∷ ss)

-- the position whose LIN has the bytes b and stands before the segments ss: PIA comes right behind LIN, and IMD right behind these
unfoldable pub heading_from : List ℕ → List Segment → Heading
heading_from b ss = record { lin = b; pia = next_if (bytes_of "PIA") ss; imd = next_if (bytes_of "IMD") (behind_if (bytes_of "PIA") ss) }

-- a position: the number of its LIN among the message's segments, the place of that one's first byte, and what is compared
pub record Listed : Type 0 where
  pub number : ℕ
  pub place : ℕ
  pub heading : Heading

-- the positions among the segments ss, of which the first has the number n
unfoldable pub positions_from : ℕ → List Segment → List Listed
positions_from n [] = []
positions_from n (s ∷ ss) =
    cond (begins (bytes_of "LIN") s.bytes)
    (record { number = n; place = s.start; heading = heading_from s.bytes ss } ∷ positions_from (n + 1) ss)
    (positions_from (n + 1) ss)

-- the positions of a message: "Segments are counted from 1 in a message"
unfoldable pub positions_of : List Segment → List Listed
positions_of ss = positions_from 1 ss

-- a position agrees with one of these
unfoldable pub agrees_any : Syntax → Heading → List Heading → Bool
agrees_any y h [] = false
agrees_any y h (q ∷ qs) = agree y q h || agrees_any y h qs

-- the LIN that is segment i and begins at the place a
abbrev pub agreeing_at : ℕ → ℕ → Agreeing
agreeing_at i a = record { segment = i; place = a }

-- "the first LIN that agrees with an earlier one", among the positions ps, which come after the earlier ones
unfoldable pub first_after : Syntax → List Heading → List Listed → Option Agreeing
first_after y earlier [] = None
first_after y earlier (p ∷ ps) =
    cond (agrees_any y p.heading earlier) (Some (agreeing_at p.number p.place)) (first_after y (earlier ++ (p.heading ∷ [])) ps)

unfoldable pub first_agreeing : Syntax → List Listed → Option Agreeing
first_agreeing y ps = first_after y [] ps
