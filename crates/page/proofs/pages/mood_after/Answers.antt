-- `page::pages::mood_after` meets its contract: each return by the mood.
use mathlib.Core.Logic.{inl, inr}
use mathlib.Core.Path.{sym, ◌∙◌}
use native.Mathlib.Omega.{arith}
use Rattle.page.proofs.pages.Moods.{asking-kept, owing-kept, tag-kept, mood-filled, mood_owing, mood_idle}
use Rattle.page.proofs.pages.mood_after.Goals as goal

pub returns-then-n-gt0 : goal.returns-then-n-gt0
returns-then-n-gt0 c = λ t l. rw c.in-Idle.is (mood-filled _ t (omega arith))

pub returns-then-is_must : goal.returns-then-is_must
returns-then-is_must c = λ t l. rw c.in-Idle.is (mood_owing _ t (omega arith) (sym c.is_must.ensures ∙ c.if-is_must.true))

pub returns-else-is_must : goal.returns-else-is_must
returns-else-is_must c = λ t l. rw c.in-Idle.is (mood_idle _ t (omega arith) (sym c.is_must.ensures ∙ c.if-is_must.false))

pub returns-in-Asking : goal.returns-in-Asking
returns-in-Asking c = λ t l. elim c.in-Asking.is [
  | inl e ↦ rw e (asking-kept _ t)
  | inr r ↦ elim r [ inl e ↦ rw e (owing-kept _ t) | inr e ↦ rw e (tag-kept _ t) ]
]
