-- Two answers are the same only if what they give is.
use Prim.Native.Nat.{ℕ}
use mathlib.Core.Path.{◌≡◌, ap}
use mathlib.Core.Bool.{Bool}
use Rattle.std.specs.Prelude.{Some}
use Rattle.cut.specs.declared.scan.Cut.{Cut}
use Rattle.cut.specs.declared.steps.Cursor.{Cursor}
use Rattle.cut.specs.Calls.{some_cut}

cut-of_some : (j k : Cut) → ◌≡◌ (Some j) (Some k) → j ≡ k
cut-of_some j k h = cc

step-of_some : (j k : Cut × Cursor) → ◌≡◌ (Some j) (Some k) → j ≡ k
step-of_some j k h = cc

-- and two steps only if their cursors are too
pub cursor-same : (j k : Cut × Cursor) → ◌≡◌ (Some j) (Some k) → j.1 ≡ k.1
cursor-same j k h = ap (λ (i : Cut × Cursor). i.1) (step-of_some j k h)

pub found-same : (j k : Cut × Cursor) → ◌≡◌ (Some j) (Some k) → j.0 ≡ k.0
found-same j k h = ap (λ (i : Cut × Cursor). i.0) (step-of_some j k h)

module _ (s e : ℕ) (p : Bool) (t f : ℕ) (q : Bool) (h : some_cut s e p ≡ some_cut t f q) where
  abbrev same : ◌≡◌ {A = Cut} (record { start = s; end = e; piece = p }) (record { start = t; end = f; piece = q })
  same = cut-of_some _ _ h

  pub start-same : s ≡ t
  start-same = ap (λ (k : Cut). k.start) same

  pub end-same : e ≡ f
  end-same = ap (λ (k : Cut). k.end) same

  pub piece-same : p ≡ q
  piece-same = ap (λ (k : Cut). k.piece) same
