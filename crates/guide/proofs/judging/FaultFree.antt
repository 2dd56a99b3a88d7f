-- Segments are judged without a fault exactly if none of them has one.
use Prim.Native.Nat.{ℕ, suc, ◌+◌}
use mathlib.Core.Path.{◌≡◌, refl, sym, ◌∙◌, subst}
use mathlib.Core.Logic.{◌↔◌, ◌⊎◌, inl, inr}
use mathlib.Core.List.{List, [], ◌∷◌, ◌++◌}
use native.Mathlib.Omega.{arith}
use lib.ListN.{length}
use Rattle.cut.specs.declared.service.Syntax.{Syntax}
use Rattle.cut.specs.Segments.{Segment}
use Rattle.guide.specs.Nodes.{Guide}
use Rattle.guide.specs.Page.{Page}
use Rattle.guide.specs.Tree.{Given}
use Rattle.guide.specs.Answers.{placed, refused}
use Rattle.guide.specs.workers.Checks.{Passes}
use Rattle.guide.specs.workers.Frames.{Framed}
use Rattle.guide.specs.workers.Judging.{Memory, fresh, segment_answer}
use Rattle.guide.specs.Refusal.{FaultAfter, FaultFree}
use Rattle.guide.proofs.judging.Faultless.{segments_in, keep, kept, Faultless, Through, Stopped, through_or_stopped}
use Rattle.guide.proofs.judging.FaultFound.{fault-found}

-- segments with their nodes, divided where their segments are
record Divided (xs : List (Given Segment)) (before : List Segment) (s : Segment) : Type 0 where
  front : List (Given Segment)
  here : Given Segment
  rest : List (Given Segment)
  whole : xs ≡ front ++ (here ∷ rest)
  fronts : segments_in front ≡ before
  heres : here.segment ≡ s

divided_more
    : (x : Given Segment) (xs : List (Given Segment)) (t : Segment) (ts : List Segment) (s : Segment) → x.segment ≡ t → Divided xs ts s
    → Divided (x ∷ xs) (t ∷ ts) s
divided_more x xs t ts s e d =
    record {
      front = x ∷ d.front;
      here = d.here;
      rest = d.rest;
      whole = rw d.whole;
      fronts = rw (e, d.fronts);
      heres = d.heres;
    }

divide
    : (xs : List (Given Segment)) (before : List Segment) (s : Segment) (after : List Segment) → segments_in xs ≡ before ++ (s ∷ after)
    → Divided xs before s
divide [] [] s after e = absurd (let z : ◌≡◌ {A = ℕ} 0 1 = cc in omega arith)
divide [] (t ∷ ts) s after e = absurd (let z : ◌≡◌ {A = ℕ} 0 1 = cc in omega arith)
divide (x ∷ xs) [] s after e = record { front = []; here = x; rest = xs; whole = refl; fronts = refl; heres = cc }
divide (x ∷ xs) (t ∷ ts) s after e = divided_more x xs t ts s (cc) (divide xs ts s after (cc))

module _ (y : Syntax) (g : Guide) (pages : ℕ → Page) where
  -- up to a segment that has its node
  faultless_front
      : (i : ℕ) (m : Memory) (ys : List (Given Segment)) (x : Given Segment) (zs : List (Given Segment))
      → Faultless y g pages i m (ys ++ (x ∷ zs))
      → Faultless y g pages i m ys × (segment_answer y g pages (suc (length ys + i)) (kept y g pages m ys) x.segment ≡ placed x.node)
  unfolding Faultless kept
  faultless_front i m [] x zs f =
      let z : 0 + i ≡ i = omega arith in
      (tt, rw z f.0)
  faultless_front i m (w ∷ ys) x zs f =
      let z : suc (length ys) + i ≡ length ys + suc i = omega arith in
      let a = faultless_front (suc i) (keep y g pages m w) ys x zs f.1 in
      ((f.0, a.0), rw z a.1)

module _ (y : Syntax) (g : Guide) (pages : ℕ → Page) (u : ℕ) (p : Passes g u) (h : ℕ) (q : Framed g h u) (ss : List Segment) where
  through_free : Through y g pages 0 fresh ss → FaultFree y g pages ss
  through_free t before s after e k n a =
      let c = divide t.given before s after (t.same ∙ e) in
      let d = faultless_front y g pages 0 fresh c.front c.here c.rest (subst (Faultless y g pages 0 fresh) c.whole t.faultless) in
      let z : length c.front + 0 ≡ length c.front = omega arith in
      let there : segment_answer y g pages (suc (length c.front)) (kept y g pages fresh c.front) c.here.segment ≡ placed c.here.node =
      rw z at d.1 in
      let fault : FaultAfter y g pages (segments_in c.front) c.here.segment k n = rw (c.fronts, c.heres) a in
      let refusal = (fault-found y g pages u p h q c.front d.0 c.here.segment k n).1 fault in
      let w : placed c.here.node ≡ refused k n = sym there ∙ refusal in
      let v : ◌≡◌ {A = ℕ} 0 1 = cc in
      omega arith

  free_through : FaultFree y g pages ss → Through y g pages 0 fresh ss
  free_through f = go (through_or_stopped y g pages 0 fresh ss)
    where
      go : Through y g pages 0 fresh ss ⊎ Stopped y g pages 0 fresh ss → Through y g pages 0 fresh ss
      go (inl t) = t
      go (inr t) =
          let z : length t.given + 0 ≡ length t.given = omega arith in
          let fault = (fault-found y g pages u p h q t.given t.faultless t.segment t.number t.node).0 (rw z at t.why) in
          absurd (f (segments_in t.given) t.segment t.rest t.split t.number t.node fault)

  -- All segments are judged without a fault exactly if none has one.
  pub free_iff : Through y g pages 0 fresh ss ↔ FaultFree y g pages ss
  free_iff = (through_free, free_through)
