-- `page::pages::ended` meets its contract: each return by the mood.
use mathlib.Core.Logic.{inl, inr}
use Rattle.page.proofs.pages.Moods.{ending_must, ending_may, ending_idle, ending_owing, ending_tag}
use Rattle.page.proofs.pages.ended.Goals as goal

pub returns-then-c-word : goal.returns-then-c-word
returns-then-c-word c = λ k v. rw c.in-Asking.is (ending_must _ _ k v c.if-c-word.true)

pub returns-else-c-word : goal.returns-else-c-word
returns-else-c-word c = λ k v. rw c.in-Asking.is (ending_may _ _ k v c.if-c-word.false)

pub returns-in-Idle : goal.returns-in-Idle
returns-in-Idle c = λ k v. elim c.in-Idle.is [
  | inl e ↦ rw e (ending_idle _)
  | inr r ↦ elim r [ inl e ↦ rw e (ending_owing _) | inr e ↦ rw e (ending_tag _) ]
]
