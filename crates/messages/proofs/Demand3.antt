-- Demand 3 for messages: a tail that begins UNH, in a longer delivery.
use Prim.Native.Nat.{ℕ}
use mathlib.Core.Path.{◌≡◌, refl, sym, ◌∙◌}
use mathlib.Core.Bool.{true, false, and-false, false≢true}
use mathlib.Core.List.{List, [], ◌∷◌, ◌++◌, map}
use native.Mathlib.Omega.{arith}
use lib.ListN.{length, take, drop}
use lib.Dec.{eqb, lit<}
use Rattle.bytewise.specs.Bytes.{begins}
use Rattle.bytewise.proofs.Words.{begins-at, begins-length}
use Rattle.cut.specs.declared.service.Syntax.{Syntax}
use Rattle.cut.specs.Segments.{segments_of}
use Rattle.cut.specs.Admission.{segments}
use Rattle.cut.specs.Fronts.{moved, whole, meet, UNH, Tail}
use Rattle.cut.specs.Characters.{has, service, valid}
use Rattle.cut.proofs.Fronting.{no_U, no_N, admission_valid}
use Rattle.cut.proofs.Demand3.{plain-ends, plain-frees, tail-segments, segments-any-front, segments-whole-front}
use Rattle.messages.specs.Messages.{body, messages}
use Rattle.messages.specs.Fronts.{moved_message, begun_in}
use Rattle.messages.proofs.walks.Grouping.{
  messages-moved,
  messages-append,
  begun-closed,
  body-moved,
  meet-first,
  Headed,
  headed,
  headed_body,
  headed_rest,
}

tail_headed
    : (y : Syntax) (tail : List ℕ) → has 85 (service y) ≡ false → has 78 (service y) ≡ false → begins UNH tail ≡ true → Headed (segments_of y 0 tail)
unfolding begins
tail_headed y [] u n h = absurd (false≢true h)
tail_headed y (a ∷ []) u n h = absurd (false≢true (sym (and-false (eqb a 85)) ∙ h))
tail_headed y (a ∷ b ∷ []) u n h =
    let k = begins-length UNH (a ∷ b ∷ []) h in
    absurd (omega arith)
tail_headed y (a ∷ b ∷ c ∷ xs) u n h =
    let e : a ≡ 85 = begins-at UNH (a ∷ b ∷ c ∷ xs) 0 h (lit< tt) in
    let f : b ≡ 78 = begins-at UNH (a ∷ b ∷ c ∷ xs) 1 h (lit< tt) in
    let g : c ≡ 72 = begins-at UNH (a ∷ b ∷ c ∷ xs) 2 h (lit< tt) in
    rw (e, f, g) (headed y 0 xs (plain-ends y false 85 u) (plain-frees y false 85 u) (plain-ends y false 78 n))

drop-map : {A B : Type 0} (f : A → B) (xs : List A) → drop 1 (map f xs) ≡ map f (drop 1 xs)
drop-map f [] = refl
drop-map f (x ∷ xs) = refl

module _ (y : Syntax) (front tail : List ℕ) (t : Tail y front tail) where
  usable : valid y ≡ true
  usable = admission_valid y (front ++ tail) t.admitted

  pub first_headed : Headed (segments y tail)
  first_headed = rw (tail-segments y front tail t) (tail_headed y tail (no_U y usable) (no_N y usable) t.begins_UNH)

  moved-body : body (map (moved (length front)) (segments y tail)) ≡ []
  moved-body = body-moved (length front) (segments y tail) ∙ rw (headed_body (segments y tail) first_headed)

  -- The front ends where a segment ends: the longer delivery holds the front's messages, and then the tail's from the first on, places moved.
  pub messages-whole-front
      : whole (segments y front) ≡ true → messages y (front ++ tail) ≡ messages y front ++ map (moved_message (length front)) (messages y tail)
  unfolding messages
  messages-whole-front w =
      rw (
        segments-whole-front y front tail t w,
        messages-append (segments y front) (map (moved (length front)) (segments y tail)),
        begun-closed (segments y front) _ moved-body,
        messages-moved (length front) (segments y tail),
      )

  -- Any front: from the tail's second message on the longer delivery holds the same messages, places moved. What stands before them began
  -- in the front or at the tail's first segment.
  pub messages-any-front
      : messages y (front ++ tail)
      ≡ begun_in (meet (segments y front) (take 1 (map (moved (length front)) (segments y tail)))) (drop 1 (map (moved (length front)) (segments y tail)))
      ++ map (moved_message (length front)) (drop 1 (messages y tail))
  unfolding messages
  messages-any-front =
      rw (
        segments-any-front y front tail t,
        meet-first (segments y front) (map (moved (length front)) (segments y tail)),
        messages-append,
        drop-map (moved (length front)) (segments y tail),
        messages-moved (length front) (drop 1 (segments y tail)),
        headed_rest (segments y tail) first_headed,
      )
