-- Two answers are the same only if what they say is.
use Prim.Native.Nat.{ℕ}
use mathlib.Core.Path.{◌≡◌, ap}
use mathlib.Core.Bool.{Bool}
use Rattle.std.proofs.lemmas.Option.{same_Some}
use Rattle.messages.specs.declared.found.Message.{Message as Found}
use Rattle.messages.specs.declared.head.Head.{Head}
use Rattle.messages.specs.Calls.{some_message}
use Rattle.messages.specs.Held.{some_head}

module _ (s e t f : ℕ) (h : some_message s e ≡ some_message t f) where
  pub start-same : s ≡ t
  start-same = ap (λ (m : Found). m.start) (same_Some _ _ h)

  pub end-same : e ≡ f
  end-same = ap (λ (m : Found). m.end) (same_Some _ _ h)

module _ (p : ℕ) (l : Bool) (q : ℕ) (k : Bool) (h : some_head p l ≡ some_head q k) where
  pub place-same : p ≡ q
  place-same = ap (λ (z : Head). z.place) (same_Some _ _ h)

  pub last-same : l ≡ k
  last-same = ap (λ (z : Head). z.last) (same_Some _ _ h)
