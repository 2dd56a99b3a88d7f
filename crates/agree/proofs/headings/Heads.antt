-- The parts of a position, read off the delivery, and their comparison.
use Prim.Native.Nat.{ℕ}
use mathlib.Core.Path.{◌≡◌, refl, sym, ◌∙◌, ap}
use mathlib.Core.Bool.{Bool, true, false, true≢false}
use mathlib.Core.List.{List, [], ◌∷◌}
use native.Mathlib.Omega.{arith}
use lib.ListN.{length}
use Rattle.std.specs.Prelude.{Option, Some, None}
use Rattle.cut.specs.declared.service.Syntax.{Syntax}
use Rattle.cut.specs.declared.scan.Cut.{Cut}
use Rattle.bytewise.specs.Bytes.{part, begins}
use Rattle.cut.specs.Calls.{segment_at}
use Rattle.cut.proofs.Ahead.{CutAhead, cut_ahead, none_ahead}
use Rattle.bytewise.proofs.Words.{begins_more}
use Rattle.bytewise.proofs.Parts.{part-parts}
use Rattle.element.specs.declared.components.Span.{Span}
use Rattle.agree.specs.Positions.{next_if, behind_if, heading_from}
use Rattle.cut.specs.Segments.{segments_at, past_at}
use Rattle.agree.specs.workers.Parts.{heading_in, end_or, Optional, EntryAt}
use Rattle.agree.specs.declared.headings.Head.{Head}

-- the segment from a place on, if it has a tag
module _ (y : Syntax) (d : List ℕ) (at : ℕ) (t : List ℕ) where
  pub optional-none : segment_at y d at ≡ None → Optional y d at t None
  unfolding next_if behind_if
  optional-none h =
      let n = none_ahead y d at h in
      record { shows = rw n; behind = rw n }

  module _ (c : Cut) (h : segment_at y d at ≡ Some c) where
    found : CutAhead y d at c.start c.end c.piece
    found = cut_ahead y d at c.start c.end c.piece h

    pub optional-here : begins t (part c.start c.end d) ≡ true → Optional y d at t (Some (record { start = c.start; end = c.end }))
    unfolding next_if behind_if
    optional-here b =
        let q = found in
        record { shows = rw (q.list, b); behind = rw (q.list, b) }

    pub optional-other : begins t (part c.start c.end d) ≡ false → Optional y d at t None
    unfolding next_if behind_if
    optional-other b =
        let q = found in
        record { shows = rw (q.list, b); behind = rw (q.list, b) }

  -- a segment has no tag that the bytes from its first one on do not begin with
  pub optional_unlike : (place : ℕ) → place ≡ past_at y d at → begins t (part place (length d) d) ≡ false → Optional y d at t None
  optional_unlike place o h = go (segment_at y d at) refl
    where
      other : (c : Cut) → CutAhead y d at c.start c.end c.piece → (b : Bool) → begins t (part c.start c.end d) ≡ b → b ≡ false
      other c q true k =
          let m : begins t (part c.start (length d) d) ≡ true = rw (← part-parts d c.start c.end (length d) (omega (arith, q.some)) q.fits)
          (begins_more t (part c.start c.end d) (part c.end (length d) d) k) in
          absurd (true≢false (sym m ∙ ap (λ (i : ℕ). begins t (part i (length d) d)) (q.starts ∙ sym o) ∙ h))
      other c q false k = refl

      go : (c : Option Cut) → segment_at y d at ≡ c → Optional y d at t None
      go None k = optional-none k
      go (Some c) k = optional-other c k (other c (cut_ahead y d at c.start c.end c.piece k) (begins t (part c.start c.end d)) refl)

-- the first segment from a place on, and its position
module _ (y : Syntax) (d : List ℕ) (at : ℕ) (c : Cut) (h : segment_at y d at ≡ Some c) where
  ahead : CutAhead y d at c.start c.end c.piece
  ahead = cut_ahead y d at c.start c.end c.piece h

  pub entry_other : begins (76 ∷ 73 ∷ 78 ∷ []) (part c.start c.end d) ≡ false → EntryAt y d at (record { segment = c; position = None })
  entry_other b =
      let q = ahead in
      record { later = q.later; some = q.some; fits = q.fits; list = q.list; position = b }

  pub entry-lin
      : begins (76 ∷ 73 ∷ 78 ∷ []) (part c.start c.end d) ≡ true → (p : Head)
      → heading_in p d ≡ heading_from (part c.start c.end d) (segments_at y d c.end) → EntryAt y d at (record { segment = c; position = Some p })
  entry-lin b p k =
      let q = ahead in
      record { later = q.later; some = q.some; fits = q.fits; list = q.list; position = (b, k) }

-- the position whose LIN this is
pub head_of
    : (y : Syntax) (d : List ℕ) (lin : Span) (pia : Option Span) (behind : ℕ) (imd : Option Span) → Optional y d lin.end (80 ∷ 73 ∷ 65 ∷ []) pia
    → behind ≡ end_or lin.end pia → Optional y d behind (73 ∷ 77 ∷ 68 ∷ []) imd
    → heading_in (record { lin = lin; pia = pia; imd = imd }) d ≡ heading_from (part lin.start lin.end d) (segments_at y d lin.end)
unfolding heading_in heading_from
head_of y d lin pia behind imd p b i = rw (p.shows, i.shows, b, p.behind)
