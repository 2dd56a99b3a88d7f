-- Every segment of a tree is taken by its node, and so begins with its node's tag.
use Prim.Native.Nat.{ℕ}
use mathlib.Core.Path.{◌≡◌, refl, sym, ◌∙◌, ap}
use mathlib.Core.Bool.{◌&&◌}
use mathlib.Core.List.{List, [], ◌∷◌, ◌++◌}
use lib.ListN.{length, take}
use lib.Dec.{T, eqb, ltb}
use Rattle.cut.specs.declared.service.Syntax.{Syntax}
use Rattle.bytewise.specs.Bytes.{begins}
use Rattle.cut.specs.Segments.{Segment}
use Rattle.plain.specs.Plain.{same}
use Rattle.guide.specs.Nodes.{View, Guide, node, matches, takes}
use Rattle.guide.specs.Views.{view_of}
use Rattle.guide.specs.Tree.{Kids, none, then, Given, giving, assigned, Open}
use Rattle.guide.specs.Sheet.{is_tag}
use Rattle.guide.specs.Accepted.{Each, seen}
use Rattle.guide.proofs.Basics.{and_left, and_right, same-eq}
use Rattle.guide.proofs.tables.Tables.{takes-matches}
use Rattle.guide.proofs.placing.Growing.{closed_open}

pub each_more : {A : Type 0} (P : A → Type 0) (xs zs : List A) → Each P xs → Each P zs → Each P (xs ++ zs)
unfolding Each
each_more P [] zs a b = b
each_more P (x ∷ xs) zs a b = (a.0, each_more P xs zs a.1 b)

module _ {A : Type 0} (g : Guide) (view : A → View) where
  abbrev pub Taken : Given A → Type 0
  Taken x = T (takes g x.node (view x.segment))

  -- every segment of a beginning is taken by its node
  pub assigned_taken : (p : ℕ) (f : Kids A) → Open g view p f → Each Taken (assigned f)
  unfolding Open Each
  assigned_taken p none o = tt
  assigned_taken p (then l n s k) o =
      let next = o.1 in
      each_more Taken (assigned l) (giving n s ∷ assigned k) (assigned_taken p l (closed_open g view p l o.0)) (next.takes, assigned_taken n k o.2)

  -- so it has the node's tag
  pub taken_tag : (x : Given A) → Taken x → (node g x.node).tag ≡ (view x.segment).tag
  unfolding matches
  taken_tag x t =
      let y = node g x.node in
      let v = view x.segment in
      let m = and_right (ltb 0 y.limit) _ (takes-matches g x.node v t) in
      same-eq y.tag v.tag (and_left (same y.tag v.tag) _ m)

begins-same : (t bs : List ℕ) → begins t bs ≡ same (take (length t) bs) t
unfolding begins same
begins-same [] bs = refl
begins-same (w ∷ ws) [] = refl
begins-same (w ∷ ws) (b ∷ bs) = ap (λ p. eqb b w && p) (begins-same ws bs)

-- its raw first bytes are a tag exactly if its node has that tag
pub taken_begins
    : (y : Syntax) (g : Guide) (x : Given Segment) → Taken g (seen y) x → (t : List ℕ) → length t ≡ 3
    → begins t x.segment.bytes ≡ is_tag g t x.node
unfolding is_tag view_of
taken_begins y g x k t e =
    let bs = x.segment.bytes in
    begins-same t bs ∙ ap (λ (n : ℕ). same (take n bs) t) e ∙ ap (λ (b : List ℕ). same b t) (sym (taken_tag g (seen y) x k))
