-- Where BGM has Z04: what the nodes that placing gives say of it, and what the tree says.
use Prim.Native.Nat.{ℕ}
use mathlib.Core.Path.{◌≡◌, refl, sym, ◌∙◌, ap₂}
use mathlib.Core.Bool.{Bool, true, false, ◌&&◌, ◌||◌, true≢false}
use mathlib.Core.Logic.{◌↔◌}
use mathlib.Core.List.{List, [], ◌∷◌, ◌++◌}
use Rattle.cut.specs.declared.service.Syntax.{Syntax}
use Rattle.bytewise.specs.Bytes.{bytes_of}
use Rattle.cut.specs.Segments.{Segment}
use Rattle.plain.specs.Plain.{same}
use Rattle.element.proofs.ComponentFace.{same_refl, same_true}
use Rattle.guide.specs.Nodes.{Guide, capacity}
use Rattle.guide.specs.Content.{text}
use Rattle.guide.specs.Tree.{Given, assigned, Whole}
use Rattle.guide.specs.workers.Checks.{Passes}
use Rattle.guide.specs.Sheet.{only_if, is_tag, with_tag}
use Rattle.guide.specs.Accepted.{Each, seen, Compared}
use Rattle.guide.proofs.placing.Growing.{assigned-segments}
use Rattle.guide.proofs.placing.Ending.{whole-begins}
use Rattle.guide.proofs.Fitting.{given-assigned}
use Rattle.guide.proofs.judging.Faultless.{segments_in}
use Rattle.guide.proofs.judging.FaultlessParts.{nodes_in}
use Rattle.verdict.specs.Verdicts.{nodes_of, for_intervals}

module _ (y : Syntax) (g : Guide) where
  abbrev z04 : Segment → Bool
  z04 s = same (text y s.bytes 1 0) (bytes_of "Z04")

  abbrev Other : Segment → Type 0
  Other s = text y s.bytes 1 0 ≡ bytes_of "Z04" → ⊥

  other-false : (s : Segment) → Other s → z04 s ≡ false
  other-false s h = go (z04 s) refl
    where
      go : (b : Bool) → z04 s ≡ b → b ≡ false
      go true e = absurd (h (same_true _ _ e))
      go false e = refl

  false-other : (s : Segment) → z04 s ≡ false → Other s
  false-other s h e = true≢false (sym (same_refl (bytes_of "Z04")) ∙ (rw e at h))

  -- one segment more, of which b says that it is a BGM
  more : (b : Bool) (s : Segment) (ss : List Segment) (r : Bool) → (r ≡ false → Each Other ss) → (b && z04 s) || r ≡ false → Each Other (only_if b s ++ ss)
  unfolding Each
  more true s ss r ih h = go (z04 s) refl h
    where
      go : (c : Bool) → z04 s ≡ c → c || r ≡ false → Each Other (s ∷ ss)
      go true e k = absurd (true≢false k)
      go false e k = (false-other s e, ih k)
  more false s ss r ih h = ih h

  less : (b : Bool) (s : Segment) (ss : List Segment) (r : Bool) → (Each Other ss → r ≡ false) → Each Other (only_if b s ++ ss) → (b && z04 s) || r ≡ false
  unfolding Each
  less true s ss r ih h = rw (other-false s h.0) (ih h.1)
  less false s ss r ih h = ih h

  no_intervals : (xs : List (Given Segment)) → for_intervals y g (nodes_in xs) (segments_in xs) ≡ false → Compared y (with_tag g (bytes_of "BGM") xs)
  unfolding for_intervals with_tag Each
  no_intervals [] h = tt
  no_intervals (x ∷ xs) h =
      more (is_tag g (bytes_of "BGM") x.node) x.segment (with_tag g (bytes_of "BGM") xs) (for_intervals y g (nodes_in xs) (segments_in xs)) (no_intervals xs) h

  all-compared : (xs : List (Given Segment)) → Compared y (with_tag g (bytes_of "BGM") xs) → for_intervals y g (nodes_in xs) (segments_in xs) ≡ false
  unfolding for_intervals with_tag Each
  all-compared [] h = refl
  all-compared (x ∷ xs) h =
      less (is_tag g (bytes_of "BGM") x.node) x.segment (with_tag g (bytes_of "BGM") xs) (for_intervals y g (nodes_in xs) (segments_in xs)) (all-compared xs) h

  module _ (u : ℕ) (p : Passes g u) (ss : List Segment) (w : Whole g (seen y) ss) where
    -- the nodes that placing gives are the tree's
    pub nodes_tree : nodes_of y g ss ≡ nodes_in (assigned w.tree)
    unfolding nodes_of
    nodes_tree = given-assigned g (seen y) p.rising p.pairing p.apart capacity p.room ss (whole-begins g (seen y) ss w)

    -- "Where BGM 1001 is not Z04"
    pub compared_iff : (for_intervals y g (nodes_of y g ss) ss ≡ false) ↔ Compared y (with_tag g (bytes_of "BGM") (assigned w.tree))
    compared_iff =
        let e : for_intervals y g (nodes_of y g ss) ss ≡ for_intervals y g (nodes_in (assigned w.tree)) (segments_in (assigned w.tree)) =
        ap₂ (for_intervals y g) nodes_tree (sym (assigned-segments w.tree ∙ w.same)) in
        (λ h. no_intervals (assigned w.tree) (sym e ∙ h), λ c. e ∙ all-compared (assigned w.tree) c)
