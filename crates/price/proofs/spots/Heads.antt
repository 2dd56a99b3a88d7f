-- The segment that the walk is at.
use Prim.Native.Nat.{ℕ, ◌≤◌}
use mathlib.Core.Path.{◌≡◌, refl, sym, ap, ◌∙◌}
use mathlib.Core.Bool.{Bool}
use mathlib.Core.List.{List, [], ◌∷◌, head-eq_of_cons-eq}
use native.Mathlib.Omega.{arith}
use lib.ListN.{length}
use Rattle.cut.specs.declared.service.Syntax.{Syntax}
use Rattle.cut.specs.declared.scan.Cut.{Cut}
use Rattle.bytewise.specs.Bytes.{part}
use Rattle.cut.specs.Segments.{Segment, end_of, segments_at}
use Rattle.cut.specs.Calls.{segment_at, head_cut, some_cut}
use Rattle.cut.proofs.Ahead.{CutAhead, cut_ahead, none_ahead, found_end}
use Rattle.price.specs.declared.kinds.Kind.{Kind}
use Rattle.price.specs.declared.spots.Spot.{Spot}
use Rattle.std.specs.Prelude.{Option, Some, None}
use Rattle.price.specs.Listing.{kind_of}
use Rattle.price.specs.workers.Parts.{head_spot}

-- the segment of the kind k from s to e
abbrev pub spot : ℕ → Kind → ℕ → Spot
spot s k e = record { start = s; kind = k; end = e }

same-spot : (a b : Spot) → ◌≡◌ {A = Option Spot} (Some a) (Some b) → a ≡ b
same-spot a b h = cc

module _ (y : Syntax) (d : List ℕ) (at : ℕ) where
  pub spot-none : segment_at y d at ≡ None → None ≡ head_spot (segments_at y d at)
  unfolding head_spot
  spot-none h = rw (none_ahead y d at h)

  pub spot-here
      : (s e : ℕ) (p : Bool) (k : Kind) → CutAhead y d at s e p → k ≡ kind_of (part s e d) → Some (spot s k e) ≡ head_spot (segments_at y d at)
  unfolding head_spot
  spot-here s e p k q h =
      rw (q.list, found_end y d at s e p q, h)

  -- a segment that is cut lies in the delivery
  pub record Lies (k : Cut) : Type 0 where
    pub ordered : k.start ≤ k.end
    pub inside : k.end ≤ length d

  pub cut-lies : (k : Cut) → segment_at y d at ≡ Some k → Lies k
  cut-lies k h =
      let q = cut_ahead y d at k.start k.end k.piece h in
      record { ordered = omega (arith, q.some); inside = q.fits }

  -- from the spot back to the list
  pub record Spotted (s : Spot) : Type 0 where
    pub piece : Bool
    pub kind : s.kind ≡ kind_of (part s.start s.end d)
    pub cuts : CutAhead y d at s.start s.end piece

  pub spotted : (s : Spot) → Some s ≡ head_spot (segments_at y d at) → Spotted s
  unfolding head_spot head_cut segment_at
  spotted s h = go (segments_at y d at) refl h
    where
      go : (ss : List Segment) → segments_at y d at ≡ ss → Some s ≡ head_spot ss → Spotted s
      go [] l j = absurd (let z : ◌≡◌ {A = ℕ} 0 1 = cc in omega arith)
      go (t ∷ ts) l j =
          let m : s ≡ spot t.start (kind_of t.bytes) (end_of t) = same-spot _ _ j in
          let a : s.start ≡ t.start = ap (λ (u : Spot). u.start) m in
          let b : s.end ≡ end_of t = ap (λ (u : Spot). u.end) m in
          let f : s.kind ≡ kind_of t.bytes = ap (λ (u : Spot). u.kind) m in
          let q = cut_ahead y d at s.start s.end t.piece (ap head_cut l ∙ (λ i. some_cut (sym a i) (sym b i) t.piece)) in
          let z : t ≡ record { start = s.start; bytes = part s.start s.end d; piece = t.piece } = head-eq_of_cons-eq (sym l ∙ q.list) in
          record { piece = t.piece; kind = f ∙ ap (λ (u : Segment). kind_of u.bytes) z; cuts = q }

  pub spot-nothing : None ≡ head_spot (segments_at y d at) → segments_at y d at ≡ []
  unfolding head_spot
  spot-nothing h = go (segments_at y d at) refl h
    where
      go : (ss : List Segment) → segments_at y d at ≡ ss → None ≡ head_spot ss → segments_at y d at ≡ []
      go [] l j = l
      go (t ∷ ts) l j = absurd (let z : ◌≡◌ {A = ℕ} 0 1 = cc in omega arith)
