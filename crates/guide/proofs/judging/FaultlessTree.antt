-- The nodes of segments that are judged without a fault from the start are those of the tree of a beginning.
use Prim.Native.Nat.{ℕ}
use mathlib.Core.Path.{◌≡◌, refl, sym, ◌∙◌, ap₂}
use mathlib.Core.List.{List, [], ◌∷◌, map}
use native.Mathlib.Omega.{arith}
use Rattle.cut.specs.declared.service.Syntax.{Syntax}
use Rattle.cut.specs.Segments.{Segment}
use Rattle.guide.specs.Nodes.{Guide, capacity}
use Rattle.guide.specs.Page.{Page}
use Rattle.guide.specs.Tree.{Given, giving, assigned, Beginning}
use Rattle.guide.specs.workers.Placing.{start, given}
use Rattle.guide.specs.workers.Checks.{Passes}
use Rattle.guide.specs.Accepted.{seen}
use Rattle.guide.specs.workers.Judging.{fresh}
use Rattle.guide.proofs.placing.Growing.{assigned-segments}
use Rattle.guide.proofs.Fitting.{given-assigned}
use Rattle.guide.proofs.Editions.{beginning_iff}
use Rattle.guide.proofs.judging.Faultless.{segments_in, kept, Faultless}
use Rattle.guide.proofs.judging.FaultlessParts.{nodes_in, faultless_parts}

-- segments with their nodes are the same if both are
pub same-given : (xs ys : List (Given Segment)) → nodes_in xs ≡ nodes_in ys → segments_in xs ≡ segments_in ys → xs ≡ ys
same-given [] [] n s = refl
same-given [] (y ∷ ys) n s = absurd (let z : ◌≡◌ {A = ℕ} 0 1 = cc in omega arith)
same-given (x ∷ xs) [] n s = absurd (let z : ◌≡◌ {A = ℕ} 0 1 = cc in omega arith)
same-given (x ∷ xs) (y ∷ ys) n s =
    let a : x.node ≡ y.node = cc in
    let b : x.segment ≡ y.segment = cc in
    let c : nodes_in xs ≡ nodes_in ys = cc in
    let d : segments_in xs ≡ segments_in ys = cc in
    ap₂ (λ (z : Given Segment) (zs : List (Given Segment)). z ∷ zs) (ap₂ (λ (k : ℕ) (t : Segment). giving k t) a b) (same-given xs ys c d)

module _ (y : Syntax) (g : Guide) (u : ℕ) (p : Passes g u) where
  -- segments to which placing gives the nodes of xs have xs for their tree's
  pub given-tree
      : (xs : List (Given Segment)) (ss : List Segment) → segments_in xs ≡ ss → given g (map (seen y) ss) (start capacity) ≡ nodes_in xs
      → (b : Beginning g (seen y) ss) → assigned b.tree ≡ xs
  given-tree xs ss e h b =
      same-given (assigned b.tree) xs
      (sym (given-assigned g (seen y) p.rising p.pairing p.apart capacity p.room ss b) ∙ h)
      (assigned-segments b.tree ∙ (b.same ∙ sym e))

  pub faultless_tree
      : (pages : ℕ → Page) (xs : List (Given Segment)) → Faultless y g pages 0 fresh xs
      → (b : Beginning g (seen y) (segments_in xs)) × (assigned b.tree ≡ xs)
  faultless_tree pages xs f =
      let x = faultless_parts y g pages 0 fresh xs f in
      let b = (beginning_iff g u p (seen y) (segments_in xs)).0 ((kept y g pages fresh xs).state, x.ran) in
      (b, given-tree xs (segments_in xs) refl x.gave b)
