-- What each public call answers, for every delivery and every place.
use Rattle.std.specs.Prelude.{ℕ, Bool, true, false, cond, List, [], ◌∷◌, Option, Some, None, eqb, leb}
use Rattle.cut.specs.declared.service.Syntax.{Syntax}
use Rattle.messages.specs.declared.found.Message.{Message as Found}
use Rattle.messages.specs.Messages.{Message, start_of, close_of, messages}

-- a message found, by its first byte and the byte after its last
abbrev pub some_message : ℕ → ℕ → Option Found
some_message s e = Some (record { start = s; end = e })

-- a message as an answer: its start and end
abbrev pub as_found : Message → Option Found
as_found m = some_message (start_of m) (close_of m)

-- the one of some messages that begins at a place
unfoldable pub found_at : ℕ → List Message → Option Found
found_at at [] = None
found_at at (m ∷ ms) = cond (eqb at (start_of m)) (as_found m) (found_at at ms)

-- message_at: the message that begins at a place
unfoldable pub message_at : Syntax → List ℕ → ℕ → Option Found
message_at y d at = found_at at (messages y d)

-- message_begins: whether it is one
abbrev pub is_found : Option Found → Bool
is_found (Some m) = true
is_found None = false

-- the first of some messages that begins at a place or later
unfoldable pub found_from : ℕ → List Message → Option Found
found_from from [] = None
found_from from (m ∷ ms) = cond (leb from (start_of m)) (as_found m) (found_from from ms)

-- next_message: the first that begins at a place or later
unfoldable pub next_message : Syntax → List ℕ → ℕ → Option Found
next_message y d from = found_from from (messages y d)
