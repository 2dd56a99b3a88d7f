-- What the workers promise each other of what is kept from one segment to the next.
use Rattle.std.specs.Prelude.{ℕ, ◌+◌, ◌≡◌, Bool, true, false, cond, ◌||◌, List}
use Rattle.cut.specs.declared.service.Syntax.{Syntax}
use Rattle.bytewise.specs.Bytes.{bytes_of}
use Rattle.plain.specs.Plain.{same}
use Rattle.sieve.specs.Articles.{Noted}
use Rattle.verdict.specs.declared.kept.Kept.{Kept}
use Rattle.verdict.specs.declared.segment.Found.{Found}
use Rattle.verdict.specs.workers.Segments.{spanned, is_lin, is_unh, is_bgm}

-- what is kept before the first segment of the message that begins at a place
abbrev pub kept_first : ℕ → Kept
kept_first a = record { last = 0; positions = 0; reference = record { start = a; end = a }; intervals = false; doubt = false }

-- what is kept after k and a segment that is placed; b: whether there is a doubt then
abbrev pub kept_after : Syntax → List ℕ → Found → Kept → Bool → Kept
kept_after y d s k b =
    record {
      last = s.node;
      positions = cond (is_lin s.role) (k.positions + 1) k.positions;
      reference = cond (is_unh s.role) s.first k.reference;
      intervals = cond (is_bgm s.role) (k.intervals || same (spanned y s.first d) (bytes_of "Z04")) k.intervals;
      doubt = b;
    }

-- the table t of the articles that came has become t' by a segment with the article x that did not come before, if it is a LIN
abbrev pub NotedIf : Bool → List ℕ → List ℕ → List ℕ → Type 0
NotedIf true t t' x = Noted t t' x false
NotedIf false t t' x = t' ≡ t

-- what is known where there is no doubt after a segment; b: whether there was one before it, l: whether it is a LIN
pub record Undoubted (l b : Bool) (t t' x : List ℕ) : Type 0 where
  pub before : b ≡ false
  pub table : NotedIf l t t' x

-- ... of a segment that is placed, and k before it
abbrev pub UndoubtedBy : Syntax → List ℕ → Found → Kept → List ℕ → List ℕ → Type 0
UndoubtedBy y d s k t t' = Undoubted (is_lin s.role) k.doubt t t' (spanned y s.third d)
