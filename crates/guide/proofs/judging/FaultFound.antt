-- After segments without a fault the next is refused exactly if it has a fault over their tree.
use Prim.Native.Nat.{ℕ, suc, ◌+◌}
use mathlib.Core.Path.{◌≡◌, refl, sym, ◌∙◌, subst}
use mathlib.Core.Logic.{◌↔◌}
use mathlib.Core.List.{List}
use native.Mathlib.Omega.{arith}
use lib.ListN.{length, length-map}
use Rattle.cut.specs.declared.service.Syntax.{Syntax}
use Rattle.bytewise.specs.Bytes.{bytes_of}
use Rattle.cut.specs.Segments.{Segment}
use Rattle.guide.specs.Nodes.{Guide, capacity}
use Rattle.guide.specs.Page.{Page}
use Rattle.guide.specs.Tree.{Given, assigned, Beginning}
use Rattle.guide.specs.Answers.{Answer, placed, refused}
use Rattle.guide.specs.Meaning.{Outcome}
use Rattle.guide.specs.workers.Checks.{Passes}
use Rattle.guide.specs.Sheet.{with_tag}
use Rattle.guide.specs.workers.Frames.{Framed}
use Rattle.guide.specs.Accepted.{seen}
use Rattle.guide.specs.workers.Judging.{fresh, segment_answer}
use Rattle.guide.specs.Refusal.{reference_in, FaultAfter, piece, byte, tag, place, content, count, line}
use Rattle.guide.proofs.placing.Refusing.{one_outcome}
use Rattle.guide.proofs.placing.Faults.{answer_means}
use Rattle.guide.proofs.judging.Answering.{sought}
use Rattle.guide.proofs.judging.Blaming as blaming
use Rattle.guide.proofs.judging.Blaming.{Blamed, blamed_iff}
use Rattle.guide.proofs.judging.Faultless.{segments_in, kept, Faultless}
use Rattle.guide.proofs.judging.FaultlessParts.{faultless_parts}
use Rattle.guide.proofs.judging.FaultlessTree.{given-tree, faultless_tree}
use Rattle.guide.proofs.judging.Keeping.{kept-positions, kept-reference}

module _
    (y : Syntax) (g : Guide) (pages : ℕ → Page) (u : ℕ) (p : Passes g u) (h : ℕ) (q : Framed g h u) (xs : List (Given Segment))
    (f : Faultless y g pages 0 fresh xs) (s : Segment) where
  -- what placing says of the segment, over any tree of those before: there is only one
  told : (b : Beginning g (seen y) (segments_in xs)) → Outcome g (seen y) b.tree s (sought y g (kept y g pages fresh xs) s)
  told b =
      answer_means g (seen y) p.rising p.pairing p.apart capacity p.room (segments_in xs) b (kept y g pages fresh xs).state s
      (faultless_parts y g pages 0 fresh xs f).ran

  sought_is
      : (b : Beginning g (seen y) (segments_in xs)) (a : Answer) → Outcome g (seen y) b.tree s a → sought y g (kept y g pages fresh xs) s ≡ a
  sought_is b a o = one_outcome g (seen y) p.rising p.pairing p.apart b.tree s b.begun _ a (told b) o

  comes
      : (b : Beginning g (seen y) (segments_in xs)) (a : Answer) → sought y g (kept y g pages fresh xs) s ≡ a → Outcome g (seen y) b.tree s a
  comes b a e = subst (Outcome g (seen y) b.tree s) e (told b)

  tree_is : (b : Beginning g (seen y) (segments_in xs)) → assigned b.tree ≡ xs
  tree_is b = given-tree y g u p xs (segments_in xs) refl (faultless_parts y g pages 0 fresh xs f).gave b

  positions_are
      : (b : Beginning g (seen y) (segments_in xs))
      → (kept y g pages fresh xs).positions ≡ length (with_tag g (bytes_of "LIN") (assigned b.tree))
  positions_are b =
      let z : 0 + length (with_tag g (bytes_of "LIN") xs) ≡ length (with_tag g (bytes_of "LIN") xs) = omega arith in
      kept-positions y g pages fresh xs ∙ (z ∙ rw (tree_is b))

  reference-is : (kept y g pages fresh xs).reference ≡ reference_in y (segments_in xs)
  reference-is =
      let b = faultless_tree y g u p pages xs f in
      rw b.1 at (kept-reference y g pages u p h q (segments_in xs) b.0)

  size : length xs ≡ length (segments_in xs)
  size = sym (length-map xs (λ (x : Given Segment). x.segment))

  blamed_fault : (k n : ℕ) → Blamed y g pages (suc (length xs)) (kept y g pages fresh xs) s k n → FaultAfter y g pages (segments_in xs) s k n
  blamed_fault k n (blaming.piece e) = piece e
  blamed_fault k n (blaming.byte e d) = byte e d
  blamed_fault k n (blaming.tag e d c) = tag e d c
  blamed_fault k n (blaming.place c e) =
      let b = (faultless_tree y g u p pages xs f).0 in
      place c b (comes b (refused k n) e)
  blamed_fault k n (blaming.content c e w) =
      let b = (faultless_tree y g u p pages xs f).0 in
      content c b (comes b (placed n) e) w
  blamed_fault k n (blaming.count c e o t w) =
      let b = (faultless_tree y g u p pages xs f).0 in
      count (record { clean = c; begins = b; comes = comes b (placed n) e; holds = o }) t
      (λ i j. w (record { counted = rw size i; referred = rw reference-is j }))
  blamed_fault k n (blaming.line c e o t w) =
      let b = (faultless_tree y g u p pages xs f).0 in
      line (record { clean = c; begins = b; comes = comes b (placed n) e; holds = o }) t (λ i. w (rw (positions_are b) i))

  fault_blamed : (k n : ℕ) → FaultAfter y g pages (segments_in xs) s k n → Blamed y g pages (suc (length xs)) (kept y g pages fresh xs) s k n
  fault_blamed k n (piece e) = blaming.piece e
  fault_blamed k n (byte e d) = blaming.byte e d
  fault_blamed k n (tag e d c) = blaming.tag e d c
  fault_blamed k n (place c b o) = blaming.place c (sought_is b (refused k n) o)
  fault_blamed k n (content c b o w) = blaming.content c (sought_is b (placed n) o) w
  fault_blamed k n (count a t w) =
      blaming.count a.clean (sought_is a.begins (placed n) a.comes) a.holds t
      (λ c. w (rw size at c.counted) (rw reference-is at c.referred))
  fault_blamed k n (line a t w) =
      blaming.line a.clean (sought_is a.begins (placed n) a.comes) a.holds t (λ i. w (rw (positions_are a.begins) at i))

  -- The next segment is refused exactly if it has a fault.
  pub fault-found
      : (k n : ℕ)
      → (segment_answer y g pages (suc (length xs)) (kept y g pages fresh xs) s ≡ refused k n) ↔ FaultAfter y g pages (segments_in xs) s k n
  fault-found k n =
      let x = blamed_iff y g pages (suc (length xs)) (kept y g pages fresh xs) s k n in
      (λ e. blamed_fault k n (x.0 e), λ a. x.1 (fault_blamed k n a))
