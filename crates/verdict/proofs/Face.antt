-- What the crates above cite of messages, beside specs/ and Moved.
use mathlib.Core.Path.{◌≡◌, sym, subst}
use mathlib.Core.List.Memᴰ
use mathlib.Core.List.{List, [], ◌∷◌, Memᴰ}
use mathlib.Core.Logic.{◌⊎◌, inl, inr}
use Rattle.messages.specs.Messages.{Message}
use Rattle.messages.proofs.Members.{Each}

-- what holds of each holds of a member
pub each_member : (P : Message → Type 0) (m : Message) (ms : List Message) → Each P ms → Memᴰ m ms → P m
unfolding Each
each_member P m [] h k = absurd (Memᴰ.not-nil k)
each_member P m (n ∷ ns) h k = go (Memᴰ.cases_cons k) (each_member P m ns h.1)
  where
    go : (m ≡ n) ⊎ Memᴰ m ns → (Memᴰ m ns → P m) → P m
    go (inl e) ih = subst P (sym e) h.0
    go (inr l) ih = ih l
