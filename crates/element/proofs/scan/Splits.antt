-- Where the first component of a split ends, and what stands after it.
use Prim.Native.Nat.{ℕ, zero, suc, ◌≤◌, ◌<◌}
use mathlib.Core.Path.{◌≡◌, refl, ap}
use mathlib.Core.Bool.{Bool, true, false, true≢false}
use mathlib.Core.List.{List, [], ◌∷◌}
use native.Mathlib.Omega.{arith}
use lib.ListN.{length, get_or, take, drop, length-take}
use Rattle.cut.specs.declared.service.Syntax.{Syntax}
use Rattle.element.specs.Elements.{ending_of, stays, releases, Split, before, split_from}
use Rattle.element.specs.declared.endings.Ending.{Ending}
use Rattle.element.specs.declared.endings.Ending.TheVariants as ends
use Rattle.std.specs.Prelude.{Option, Some, None}
use Rattle.element.proofs.scan.Endings.{stays-nothing}
use Rattle.element.proofs.scan.Scanning.{bytes-none}

take-before
    : (g : Option Ending) (x : ℕ) (s : Split) (xs : List ℕ) → s.bytes ≡ take (length s.bytes) xs → (before g x s).bytes
    ≡ take (length (before g x s).bytes) (x ∷ xs)
unfolding before
take-before (Some ends.Segment) x s xs h = refl
take-before (Some ends.Element) x s xs h = refl
take-before (Some ends.Component) x s xs h = refl
take-before None x s xs h = ap (λ (l : List ℕ). x ∷ l) h

-- the first component is the beginning of the bytes
pub first-take : (y : Syntax) (r : Bool) (xs : List ℕ) → (split_from y r xs).bytes ≡ take (length (split_from y r xs).bytes) xs
unfolding split_from
first-take y r [] = refl
first-take y r (x ∷ xs) = take-before (ending_of y r x) x (split_from y (releases y r x) xs) xs (first-take y (releases y r x) xs)

pub first_fits : (y : Syntax) (r : Bool) (xs : List ℕ) → length (split_from y r xs).bytes ≤ length xs
first_fits y r xs =
    let q = simp length-take at (ap length (first-take y r xs)) in
    omega arith

-- a split with nothing after its first component
pub record Last (s : Split) : Type 0 where
  pub components : s.components ≡ []
  pub elements : s.elements ≡ []

last-before : (g : Option Ending) (x : ℕ) (s : Split) (n : ℕ) → (length s.bytes ≡ n → Last s) → length (before g x s).bytes ≡ suc n → Last (before g x s)
unfolding before
last-before (Some ends.Segment) x s n ih h = absurd (omega arith)
last-before (Some ends.Element) x s n ih h = absurd (omega arith)
last-before (Some ends.Component) x s n ih h = absurd (omega arith)
last-before None x s n ih h =
    let q = ih (omega arith) in
    record { components = q.components; elements = q.elements }

-- a first component that is all of the bytes is the last one
pub last-all : (y : Syntax) (r : Bool) (xs : List ℕ) → length (split_from y r xs).bytes ≡ length xs → Last (split_from y r xs)
unfolding split_from
last-all y r [] h = record { components = refl; elements = refl }
last-all y r (x ∷ xs) h = last-before (ending_of y r x) x (split_from y (releases y r x) xs) (length xs) (last-all y (releases y r x) xs) h

-- after its first component, the split s has the byte x, which ends that component, and then the bytes zs
pub record Stop (y : Syntax) (s : Split) (x : ℕ) (zs : List ℕ) : Type 0 where
  pub ends : stays (ending_of y false x) ≡ false
  pub components : s.components ≡ (before (ending_of y false x) x (split_from y false zs)).components
  pub elements : s.elements ≡ (before (ending_of y false x) x (split_from y false zs)).elements

released_none : (y : Syntax) (r : Bool) (x : ℕ) → stays (ending_of y r x) ≡ false → releases y r x ≡ false
unfolding releases
released_none y r x f = rw f

-- the byte x ends the first component at once
stop-here : (y : Syntax) (x : ℕ) (xs : List ℕ) → stays (ending_of y false x) ≡ false → Stop y (split_from y false (x ∷ xs)) x xs
unfolding split_from
stop-here y x xs f = record { ends = f; components = rw (released_none y false x f); elements = rw (released_none y false x f) }

stop_unreleased : (y : Syntax) (r : Bool) (x : ℕ) (xs : List ℕ) → stays (ending_of y r x) ≡ false → Stop y (split_from y r (x ∷ xs)) x xs
unfolding ending_of stays
stop_unreleased y true x xs f = absurd (true≢false f)
stop_unreleased y false x xs f = stop-here y x xs f

module _ (y : Syntax) (r : Bool) (x : ℕ) (xs : List ℕ) where
  -- the byte x stands before what follows it in the same component
  stayed : stays (ending_of y r x) ≡ true → split_from y r (x ∷ xs) ≡ before None x (split_from y (releases y r x) xs)
  unfolding split_from
  stayed t = rw (stays-nothing (ending_of y r x) t)

  stop-later
      : (z : ℕ) (zs : List ℕ) → stays (ending_of y r x) ≡ true → Stop y (split_from y (releases y r x) xs) z zs → Stop y (split_from y r (x ∷ xs)) z zs
  unfolding before
  stop-later z zs t q = rw (stayed t) (record { ends = q.ends; components = q.components; elements = q.elements })

  none-length : stays (ending_of y r x) ≡ false → length (split_from y r (x ∷ xs)).bytes ≡ 0
  unfolding split_from
  none-length f = ap length (bytes-none (ending_of y r x) x (split_from y (releases y r x) xs) f)

  more_length : stays (ending_of y r x) ≡ true → length (split_from y r (x ∷ xs)).bytes ≡ suc (length (split_from y (releases y r x) xs).bytes)
  unfolding before
  more_length t = rw (stayed t)

  stop-by
      : (b : Bool) (n : ℕ) → stays (ending_of y r x) ≡ b → length (split_from y r (x ∷ xs)).bytes ≡ n → n < suc (length xs)
      → ((m : ℕ) → length (split_from y (releases y r x) xs).bytes ≡ m → m < length xs
      → Stop y (split_from y (releases y r x) xs) (get_or xs m 0) (drop (suc m) xs))
      → Stop y (split_from y r (x ∷ xs)) (get_or (x ∷ xs) n 0) (drop (suc n) (x ∷ xs))
  stop-by false zero f e h ih = stop_unreleased y r x xs f
  stop-by false (suc n) f e h ih =
      let z = none-length f in
      absurd (omega arith)
  stop-by true zero t e h ih =
      let z = more_length t in
      absurd (omega arith)
  stop-by true (suc n) t e h ih =
      let z = more_length t in
      stop-later _ _ t (ih n (omega arith) (omega arith))

pub stop-at
    : (y : Syntax) (r : Bool) (xs : List ℕ) (n : ℕ) → length (split_from y r xs).bytes ≡ n → n < length xs
    → Stop y (split_from y r xs) (get_or xs n 0) (drop (suc n) xs)
stop-at y r [] n e h = absurd (omega arith)
stop-at y r (x ∷ xs) n e h = stop-by y r x xs (stays (ending_of y r x)) n refl e h (stop-at y (releases y r x) xs)
