-- What judging keeps of segments without a fault: where placing stands, how many positions there were, and the reference in UNH.
use Prim.Native.Nat.{ℕ, ◌+◌}
use mathlib.Core.Path.{◌≡◌, refl, sym, ◌∙◌, ap}
use mathlib.Core.Bool.{Bool, true, false}
use mathlib.Core.List.{List, [], ◌∷◌, ◌++◌}
use native.Mathlib.Omega.{arith}
use lib.ListN.{length}
use Rattle.cut.specs.declared.service.Syntax.{Syntax}
use Rattle.bytewise.specs.Bytes.{bytes_of}
use Rattle.cut.specs.Segments.{Segment}
use Rattle.guide.specs.Nodes.{Guide}
use Rattle.guide.specs.Page.{Page}
use Rattle.guide.specs.Tree.{Kids, none, then, Given, one, giving, assigned, Beginning}
use Rattle.guide.specs.workers.Checks.{Passes}
use Rattle.guide.specs.Sheet.{only_if, is_tag, with_tag}
use Rattle.guide.specs.workers.Frames.{Framed}
use Rattle.guide.specs.Accepted.{seen}
use Rattle.guide.specs.workers.Judging.{Memory, fresh}
use Rattle.guide.specs.Refusal.{reference_in}
use Rattle.guide.proofs.Basics.{one_same}
use Rattle.guide.proofs.placing.Growing.{Begun}
use Rattle.guide.proofs.Fitting.{begun_of}
use Rattle.guide.proofs.judging.Enclosing.{times, Headed, begun_headed}
use Rattle.guide.proofs.judging.Faultless.{segments_in, keep, kept}
use Rattle.guide.proofs.judging.FrameRules.{same-reference, head-reference}

one-more : (b : Bool) (s : Segment) (ss : List Segment) → length (only_if b s ++ ss) ≡ one b + length ss
one-more true s ss = omega arith
one-more false s ss = omega arith

module _ (y : Syntax) (g : Guide) (pages : ℕ → Page) where
  pub kept-positions
      : (m : Memory) (xs : List (Given Segment)) → (kept y g pages m xs).positions ≡ m.positions + length (with_tag g (bytes_of "LIN") xs)
  unfolding kept with_tag
  kept-positions m [] = omega arith
  kept-positions m (x ∷ xs) =
      omega (
        arith,
        kept-positions (keep y g pages m x) xs,
        one-more (is_tag g (bytes_of "LIN") x.node) x.segment (with_tag g (bytes_of "LIN") xs),
      )

  module _ (u : ℕ) (p : Passes g u) (h : ℕ) (q : Framed g h u) where
    kept_same : (m : Memory) (xs : List (Given Segment)) → times h xs ≡ 0 → (kept y g pages m xs).reference ≡ m.reference
    unfolding kept times
    kept_same m [] e = refl
    kept_same m (x ∷ xs) e =
        let other : x.node ≡ h → ⊥ = λ i. omega (arith, one_same x.node h i) in
        kept_same (keep y g pages m x) xs (omega arith) ∙ same-reference y g u h q m.reference x other

    headed_reference : (xs : List (Given Segment)) → Headed h xs → (kept y g pages fresh xs).reference ≡ reference_in y (segments_in xs)
    unfolding kept
    headed_reference xs x =
        ap (λ (zs : List (Given Segment)). (kept y g pages fresh zs).reference) x.same
        ∙ (kept_same (keep y g pages fresh (giving h x.first)) x.rest x.alone
        ∙ (head-reference y g u h q [] x.first ∙ ap (λ (zs : List (Given Segment)). reference_in y (segments_in zs)) (sym x.same)))

    -- the reference is that of the first segment
    pub kept-reference
        : (ss : List Segment) (b : Beginning g (seen y) ss)
        → (kept y g pages fresh (assigned b.tree)).reference ≡ reference_in y (segments_in (assigned b.tree))
    unfolding kept
    kept-reference ss b = go b.tree (begun_of g (seen y) ss b)
      where
        go
            : (f : Kids Segment) → Begun g (seen y) 0 f
            → (kept y g pages fresh (assigned f)).reference ≡ reference_in y (segments_in (assigned f))
        go none o = refl
        go (then l n s k) o = headed_reference (assigned (then l n s k)) (begun_headed g (seen y) u p h q l n s k o)
