-- A segment begins with the tag of the node that placing gives it.
use Prim.Native.Nat.{ℕ, suc, ◌<◌}
use mathlib.Core.Path.{◌≡◌, refl}
use mathlib.Core.Bool.{Bool, true, false, cond}
use mathlib.Core.List.{List, [], ◌∷◌}
use native.Mathlib.Omega.{arith}
use lib.ListN.{length}
use lib.Dec.{T, eqb, ltb}
use borrow.Author.Tests.{eqb-false}
use Rattle.cut.specs.declared.service.Syntax.{Syntax}
use Rattle.bytewise.specs.Bytes.{begins}
use Rattle.cut.specs.Segments.{Segment}
use Rattle.guide.specs.Answers.{placed, refused}
use Rattle.guide.specs.workers.Checks.{Rising}
use Rattle.guide.specs.Choices.{or_else}
use Rattle.guide.specs.Editions.{guide_of}
use Rattle.guide.specs.Nodes.{View, Guide, node, takes, over}
use Rattle.guide.specs.workers.Placing.{Level, levels, seek, tally, missing, place}
use Rattle.guide.specs.Sheet.{is_tag}
use Rattle.guide.specs.Tree.{giving}
use Rattle.guide.specs.Views.{view_of}
use Rattle.guide.specs.declared.edition.Edition.{Edition}
use Rattle.guide.specs.declared.edition.Edition.TheVariants.{D, C}
use Rattle.guide.proofs.Basics.{or_else-some}
use Rattle.guide.proofs.Editions.{pricat20d_passes, pricat20c_passes}
use Rattle.guide.proofs.placing.Seeking.{Hit, hit, miss, hits}
use Rattle.guide.proofs.placing.Taken.{taken_begins}

not_placed : (k m n : ℕ) → refused k m ≡ placed n → ⊥
not_placed k m n h =
    let z : ◌≡◌ {A = ℕ} 0 1 = cc in
    omega arith

positive : (k : ℕ) → (k ≡ 0 → ⊥) → 0 < k
positive k h = omega arith

-- the answer for the node k that the search found, if it is not refused
found_placed
    : (k n o m : ℕ) (a b : Bool) → cond (eqb k 0) (refused 13 0) (cond a (cond b (placed k) (refused 14 m)) (refused o k)) ≡ placed n
    → (0 < k) × (k ≡ n)
found_placed k n o m a b h = go (eqb k 0) refl a b h
  where
    go
        : (c : Bool) → eqb k 0 ≡ c → (a b : Bool) → cond c (refused 13 0) (cond a (cond b (placed k) (refused 14 m)) (refused o k))
        ≡ placed n
        → (0 < k) × (k ≡ n)
    go true e a b h = absurd (not_placed 13 0 n h)
    go false e false b h = absurd (not_placed o k n h)
    go false e true false h = absurd (not_placed 14 m n h)
    go false e true true h = (positive k (eqb-false k 0 e), cc)

module _ (g : Guide) (r : Rising g) (v : View) where
  -- the node that the search finds takes the segment
  sought_takes : (ls : List Level) (n : ℕ) → seek g v ls ≡ n → 0 < n → T (takes g n v)
  unfolding seek
  sought_takes [] n e h = absurd (omega arith)
  sought_takes (l ∷ ls) n e h = go (sought_takes ls n) (hits g r v l.node l.reached) e
    where
      go : {k : ℕ} → (seek g v ls ≡ n → 0 < n → T (takes g n v)) → Hit g r v l.node l.reached k → or_else k (seek g v ls) ≡ n → T (takes g n v)
      go ih (hit {n = k} i t _ _) q = rw (← q, or_else-some k (seek g v ls) i) t
      go ih (miss never) q = ih q h

  placed_takes : (last : ℕ) (cs : List ℕ) (n : ℕ) → place g v last cs ≡ placed n → T (takes g n v)
  unfolding place
  placed_takes last cs n h =
      let ls = levels g (suc last) last 0 in
      let k = seek g v ls in
      let f = found_placed k n (over g k (tally cs)) (missing g cs k ls) (ltb (tally cs k) (node g k).limit) (eqb (missing g cs k ls) 0) h in
      sought_takes ls n f.1 (rw f.1 at f.0)

rises : (ed : Edition) → Rising (guide_of ed)
rises D = pricat20d_passes.rising
rises C = pricat20c_passes.rising

-- the raw first bytes of a segment are a tag exactly if its node has that tag
pub given-begins
    : (ed : Edition) (y : Syntax) (s : Segment) (last : ℕ) (cs : List ℕ) (n : ℕ) → place (guide_of ed) (view_of y s.bytes) last cs ≡ placed n → (t : List ℕ)
    → length t ≡ 3 → begins t s.bytes ≡ is_tag (guide_of ed) t n
given-begins ed y s last cs n h t e =
    taken_begins y (guide_of ed) (giving n s) (placed_takes (guide_of ed) (rises ed) (view_of y s.bytes) last cs n h) t e
