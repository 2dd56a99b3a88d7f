-- What the workers of the page check promise each other; no public call cites these.
use Rattle.std.specs.Prelude.{ℕ, zero, suc, ◌+◌, ◌≡◌, List, length, drop}
use Rattle.cut.specs.declared.service.Syntax.{Syntax}
use Rattle.guide.specs.Page.{Row, Composite}
use Rattle.guide.specs.workers.Moods.{Mood, asking, idle, owing, mood_after, mood_fault, end_fault}
use Rattle.page.specs.workers.Words.{ElementWord}
use Rattle.page.specs.declared.pages.Mood.{Mood as Feeling}
use Rattle.page.specs.declared.pages.Mood.TheVariants.{Asking, Idle, Owing, Tag}

-- where the pass stands: in the tag, of which nothing is asked, or in an element, with its mood
pub data Stand : Type 0 where
  tag : Stand
  inside : Mood → Stand

-- by the code's mood
abbrev pub stand_in : Feeling → Stand
stand_in Asking = inside asking
stand_in Idle = inside idle
stand_in Owing = inside owing
stand_in Tag = tag

-- by a spot's: 0 idle, 1 asking, 2 owing, else the tag
abbrev pub stand_of : ℕ → Stand
stand_of zero = inside idle
stand_of (suc zero) = inside asking
stand_of (suc (suc zero)) = inside owing
stand_of (suc (suc (suc n))) = tag

-- the fault that is known at a component with the text t on the row r
unfoldable pub stand_fault : Syntax → Stand → Row → List ℕ → ℕ
stand_fault y tag r t = 0
stand_fault y (inside m) r t = mood_fault y m r t

-- and where the pass stands after it
unfoldable pub stand_after : Stand → Row → List ℕ → Stand
stand_after tag r t = tag
stand_after (inside m) r t = inside (mood_after m r t)

-- the fault that is known where the element ends and the rows rs are left
unfoldable pub stand_end : Stand → List Row → ℕ
stand_end tag rs = 0
stand_end (inside m) rs = end_fault m rs

-- where the pass stands after a component of n bytes on the row r
abbrev pub MoodAfter : ℕ → Stand → Row → Stand → Type 0
MoodAfter n s r s' = (t : List ℕ) → n ≡ length t → s' ≡ stand_after s r t

-- the fault that is known where the element that has the word w ends behind component c
abbrev pub EndFault : ℕ → ℕ → Stand → ℕ → Type 0
EndFault w c s fault = (k : Composite) → ElementWord w k → fault ≡ stand_end s (drop (c + 1) k.rows)
