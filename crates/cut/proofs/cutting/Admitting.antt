-- The answers of admission and where segments are looked for from, each from its tests.
use Prim.Native.Nat.{ℕ, ◌+◌, ◌-◌, ◌≤◌, ◌<◌}
use mathlib.Core.Path.{◌≡◌, ◌∙◌, ap}
use mathlib.Core.Bool.{true, false}
use mathlib.Core.List.{List}
use native.Mathlib.Nat.{add-zero}
use native.Mathlib.Omega.{arith}
use lib.ListN.{length, take, drop, length-drop}
use lib.Seq.{take_all}
use borrow.Author.Tests.{lt-ltb, le-ltb}
use Rattle.cut.specs.declared.service.Syntax.{Syntax}
use Rattle.bytewise.specs.Bytes.{begins}
use Rattle.cut.specs.Segments.{past_at}
use Rattle.cut.specs.Admission.{limit, UNA, nine, admits, opens, unbroken, admission_of, opening_of}
use Rattle.cut.specs.Characters.{valid}
use Rattle.cut.specs.Used.{named, plainly, characters_of}
use Rattle.cut.proofs.Ahead.{pasts}

pub admission_long : (y : Syntax) (d : List ℕ) → limit < length d → admission_of y d ≡ 1
unfolding admission_of admits
admission_long y d h = rw (lt-ltb _ _ h)

pub admission_unusable : (y : Syntax) (d : List ℕ) → length d ≤ limit → valid y ≡ false → admission_of y d ≡ 2
unfolding admission_of admits
admission_unusable y d h v = rw (le-ltb _ _ h, v)

-- what stands behind the line breaks at the start, from a place k that is behind them
module _ (y : Syntax) (d : List ℕ) (k : ℕ) (o : k ≡ past_at y d 0) where
  pub start_fits : k ≤ length d
  start_fits = omega (arith, o, (pasts y d 0).fits (omega arith))

  abbrev rest : List ℕ
  rest = take (length d - k) (drop k d)

  pub e : rest ≡ unbroken y d
  e = take_all (length d - k) (drop k d) (omega (arith, length-drop k d)) ∙ ap (λ (n : ℕ). drop n d) o

  pub opening_una : begins UNA rest ≡ true → opening_of y d ≡ k + 9
  unfolding opening_of opens
  opening_una u = rw (← e, u, o)

  pub opening-plain : begins UNA rest ≡ false → opening_of y d ≡ k
  unfolding opening_of opens
  opening-plain u = rw (← e, u, o) (add-zero _)

  pub admission_plain : length d ≤ limit → valid y ≡ true → begins UNA rest ≡ false → admission_of y d ≡ 0
  unfolding admission_of admits
  admission_plain h v u = rw (← e, le-ltb _ _ h, v, u)

  pub admission_right : length d ≤ limit → valid y ≡ true → begins UNA rest ≡ true → begins (nine y) rest ≡ true → admission_of y d ≡ 0
  unfolding admission_of admits
  admission_right h v u n = rw (← e, le-ltb _ _ h, v, u, n)

  pub admission_wrong : length d ≤ limit → valid y ≡ true → begins UNA rest ≡ true → begins (nine y) rest ≡ false → admission_of y d ≡ 2
  unfolding admission_of admits
  admission_wrong h v u n = rw (← e, le-ltb _ _ h, v, u, n)

-- the characters, by what stands where UNA is looked for
module _ (y z : Syntax) (d : List ℕ) (k : ℕ) (p : z ≡ plainly y) (o : k ≡ past_at z d 0) where
  place : k ≡ past_at (plainly y) d 0
  place = o ∙ ap (λ (x : Syntax). past_at x d 0) p

  pub characters_una : begins UNA (take (length d - k) (drop k d)) ≡ true → characters_of y d ≡ named y (take (length d - k) (drop k d))
  unfolding characters_of
  characters_una u = rw (← e (plainly y) d k place, u)

  pub characters_handed : begins UNA (take (length d - k) (drop k d)) ≡ false → characters_of y d ≡ y
  unfolding characters_of
  characters_handed u = rw (← e (plainly y) d k place, u)
