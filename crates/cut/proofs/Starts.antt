-- Where segments begin: the places rise, and lie within the bytes.
use Prim.Native.Nat.{ℕ, suc, ◌≤◌, ◌<◌}
use mathlib.Core.Path.{◌≡◌, refl}
use mathlib.Core.Bool.{false}
use mathlib.Core.List.{List, [], ◌∷◌, ◌++◌}
use native.Mathlib.Omega.{arith}
use borrow.Author.Tests.{ne_eqb, le-leb, lt-leb}
use Rattle.cut.specs.Segments.{Segment, begins_in}
use Rattle.cut.specs.Since.{since}

-- each begins at q or later, and after the one before it
unfoldable pub Rising : ℕ → List Segment → Type 0
Rising q [] = Unit {0}
Rising q (s ∷ ss) = (q ≤ s.start) × Rising (suc s.start) ss

-- each begins before b
unfoldable pub Below : ℕ → List Segment → Type 0
Below b [] = Unit {0}
Below b (s ∷ ss) = (s.start < b) × Below b ss

pub rising_none : (q : ℕ) → Rising q []
unfolding Rising
rising_none q = tt

pub rising_weaken : (q q' : ℕ) (ss : List Segment) → q ≤ q' → Rising q' ss → Rising q ss
unfolding Rising
rising_weaken q q' [] h k = tt
rising_weaken q q' (s ∷ ss) h k = (omega (arith, k.0), k.1)

pub below_more : (b b' : ℕ) (ss : List Segment) → b ≤ b' → Below b ss → Below b' ss
unfolding Below
below_more b b' [] h k = tt
below_more b b' (s ∷ ss) h k = (omega (arith, k.0), below_more b b' ss h k.1)

pub begins-past : (at q : ℕ) (ss : List Segment) → Rising q ss → at < q → begins_in at ss ≡ false
unfolding begins_in Rising
begins-past at q [] k h = refl
begins-past at q (s ∷ ss) k h =
    let n : at ≡ s.start → ⊥ = λ e. omega (arith, k.0) in
    rw (ne_eqb _ _ n, begins-past at (suc s.start) ss k.1 (omega (arith, k.0)))

pub begins-append : (at b : ℕ) (ss ts : List Segment) → Below b ss → b ≤ at → begins_in at (ss ++ ts) ≡ begins_in at ts
unfolding begins_in Below
begins-append at b [] ts k h = refl
begins-append at b (s ∷ ss) ts k h =
    let n : at ≡ s.start → ⊥ = λ e. omega (arith, k.0) in
    rw (ne_eqb _ _ n, begins-append at b ss ts k.1 h)

pub since-all : (q : ℕ) (ss : List Segment) → Rising q ss → since q ss ≡ ss
unfolding since Rising
since-all q [] k = refl
since-all q (s ∷ ss) k = rw (le-leb _ _ k.0, since-all q ss (rising_weaken q (suc s.start) ss (omega (arith, k.0)) k.1))

pub since_none : (q : ℕ) (ss ts : List Segment) → Below q ss → since q (ss ++ ts) ≡ since q ts
unfolding since Below
since_none q [] ts k = refl
since_none q (s ∷ ss) ts k = rw (lt-leb _ _ k.0, since_none q ss ts k.1)
