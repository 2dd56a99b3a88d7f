-- The cursor: a walk by its steps goes through the delivery's segments, one by one and all of them.
use Prim.Native.Nat.{ℕ, ◌≤◌, ◌<◌, max}
use mathlib.Core.Path.{◌≡◌, refl, subst}
use mathlib.Core.Bool.{Bool, true, false, cond}
use mathlib.Core.List.{List, [], ◌∷◌}
use native.Mathlib.Omega.{arith}
use lib.ListN.{length}
use lib.Dec.{eqb}
use borrow.Author.Tests.{eq-eqb, ne_eqb}
use Rattle.std.specs.Prelude.{Option, Some, None}
use Rattle.cut.specs.declared.service.Syntax.{Syntax}
use Rattle.cut.specs.declared.scan.Cut.{Cut}
use Rattle.cut.specs.declared.steps.Cursor.{Cursor}
use Rattle.bytewise.specs.Bytes.{part}
use Rattle.cut.specs.Segments.{Segment, segments_at}
use Rattle.cut.specs.Admission.{admission_of, opening_of, only_if, segments}
use Rattle.cut.specs.Used.{characters_of}
use Rattle.cut.specs.Calls.{some_step, segment_at, stepped, opened_on, step_of}
use Rattle.cut.proofs.Ahead.{CutAhead, cut_ahead, none_ahead}

module _ (c : Cursor) (d : List ℕ) where
  pub step_refused : (admission_of c.syntax d ≡ 0 → ⊥) → step_of c d ≡ None
  unfolding step_of
  step_refused n = rw (ne_eqb _ _ n)

  pub step_cut
      : (p q : ℕ) (k a : Option Cut) → admission_of c.syntax d ≡ 0 → p ≡ opening_of c.syntax d → q ≡ max c.at p → k ≡ segment_at c.syntax d q → k ≡ a
      → step_of c d ≡ stepped c.syntax a
  unfolding step_of
  step_cut p q k a e o m l f = rw (eq-eqb _ _ e, ← o, ← m, ← l, f)

-- the segments that a cursor still has before it
unfoldable pub ahead : Cursor → List ℕ → List Segment
ahead c d =
    only_if (eqb (admission_of c.syntax d) 0)
    (segments_at c.syntax d (max c.at (opening_of c.syntax d)))

-- at first: all of the delivery's
pub ahead-opened : (y : Syntax) (d : List ℕ) → ahead (opened_on y d) d ≡ segments (characters_of y d) d
unfolding ahead segments
ahead-opened y d =
    let z = characters_of y d in
    let m : max 0 (opening_of z d) ≡ opening_of z d = omega arith in
    rw m

-- what a step that gives a segment says
pub record Stepped (c : Cursor) (d : List ℕ) (s e : ℕ) (p : Bool) (n : Cursor) : Type 0 where
  pub segment : Segment
  pub starts : segment.start ≡ s
  pub bytes : segment.bytes ≡ part s e d
  pub piece : segment.piece ≡ p
  pub later : c.at ≤ s
  pub next : n.at ≡ e
  pub some : s < e
  pub fits : e ≤ length d
  pub rest : ahead c d ≡ segment ∷ ahead n d

module _ (c : Cursor) (d : List ℕ) where
  ahead_cut
      : (s e : ℕ) (p : Bool) (a : Bool) → eqb (admission_of c.syntax d) 0 ≡ a → CutAhead c.syntax d (max c.at (opening_of c.syntax d)) s e p
      → a ≡ true → Stepped c d s e p (record { syntax = c.syntax; at = e })
  unfolding ahead
  ahead_cut s e p a f k g =
      let m : max e (opening_of c.syntax d) ≡ e = omega (arith, k.some, k.later) in
      record {
        segment = record { start = s; bytes = part s e d; piece = p };
        starts = refl;
        bytes = refl;
        piece = refl;
        later = omega (arith, k.later);
        next = refl;
        some = k.some;
        fits = k.fits;
        rest = rw (f, g, m) k.list;
      }

  abbrev Says : Option (Cut × Cursor) → Type 0
  Says (Some k) = Stepped c d k.0.start k.0.end k.0.piece k.1
  Says None = Unit {0}

  -- the step's segment is the first ahead, and the rest is ahead of the next cursor
  pub step_some : (s e : ℕ) (p : Bool) (n : Cursor) → step_of c d ≡ some_step s e p n → Stepped c d s e p n
  unfolding step_of
  step_some s e p n h = go (eqb (admission_of c.syntax d) 0) (segment_at c.syntax d (max c.at (opening_of c.syntax d))) refl refl h
    where
      go
          : (a : Bool) (k : Option Cut) → eqb (admission_of c.syntax d) 0 ≡ a → segment_at c.syntax d (max c.at (opening_of c.syntax d)) ≡ k
          → cond a (stepped c.syntax k) None ≡ some_step s e p n → Stepped c d s e p n
      go true (Some k) f g h =
          subst Says h
          (ahead_cut k.start k.end k.piece true f (cut_ahead c.syntax d (max c.at (opening_of c.syntax d)) k.start k.end k.piece g) refl)
      go true None f g h = absurd (let z : ◌≡◌ {A = ℕ} 0 1 = cc in omega arith)
      go false k f g h = absurd (let z : ◌≡◌ {A = ℕ} 0 1 = cc in omega arith)

  -- a step that gives none has none ahead
  pub step_none : step_of c d ≡ None → ahead c d ≡ []
  unfolding step_of ahead
  step_none h = go (eqb (admission_of c.syntax d) 0) (segment_at c.syntax d (max c.at (opening_of c.syntax d))) refl h
    where
      go
          : (a : Bool) (k : Option Cut) → segment_at c.syntax d (max c.at (opening_of c.syntax d)) ≡ k
          → cond a (stepped c.syntax k) None ≡ None
          → only_if a (segments_at c.syntax d (max c.at (opening_of c.syntax d))) ≡ []
      go true (Some k) g h = absurd (let z : ◌≡◌ {A = ℕ} 0 1 = cc in omega arith)
      go true None g h = none_ahead c.syntax d (max c.at (opening_of c.syntax d)) g
      go false k g h = refl
