-- In segments between UNH and UNT the rule for UNT says: the count is theirs, and the reference is that of the first.
use Prim.Native.Nat.{ℕ, suc, ◌+◌}
use mathlib.Core.Path.{◌≡◌, sym, ap, subst}
use mathlib.Core.Logic.{◌↔◌}
use mathlib.Core.List.{List, [], ◌∷◌, ◌++◌}
use native.Mathlib.Omega.{arith}
use lib.ListN.{length, length-append}
use Rattle.cut.specs.declared.service.Syntax.{Syntax}
use Rattle.bytewise.specs.Bytes.{bytes_of}
use Rattle.cut.specs.Segments.{Segment}
use Rattle.guide.specs.Nodes.{Guide}
use Rattle.guide.specs.Content.{text}
use Rattle.guide.specs.Tree.{Given, giving}
use Rattle.guide.specs.Sheet.{is_tag}
use Rattle.guide.specs.workers.Frames.{Framed}
use Rattle.guide.proofs.Basics.{true-T, false-T, one_same}
use Rattle.guide.proofs.tables.Framing.{two_nodes}
use Rattle.guide.proofs.judging.Enclosing.{times, Enclosed}
use Rattle.guide.proofs.judging.Answering.{Closes}
use Rattle.guide.proofs.judging.FaultlessParts.{referring, Closing}

module _ (y : Syntax) (g : Guide) (u h : ℕ) (q : Framed g h u) where
  -- a segment that is not UNH leaves the reference as it is
  pub same-reference : (r : List ℕ) (x : Given Segment) → (x.node ≡ h → ⊥) → referring y g r x ≡ r
  same-reference r x d = rw (false-T (is_tag g (bytes_of "UNH") x.node) (λ t. d (q.one_head x.node t)))

  pub head-reference : (r : List ℕ) (s : Segment) → referring y g r (giving h s) ≡ text y s.bytes 1 0
  head-reference r s = rw (true-T (is_tag g (bytes_of "UNH") h) q.head)

  closing-closes
      : (i : ℕ) (r : List ℕ) (xs : List (Given Segment)) (s : Segment) → times h xs ≡ 0 → Closing y g i r (xs ++ (giving u s ∷ []))
      → Closes y g (suc (length xs + i)) r s
  unfolding Closing times
  closing-closes i r [] s a c =
      let z : 0 + i ≡ i = omega arith in
      rw z (c.0 q.tail)
  closing-closes i r (x ∷ xs) s a c =
      let z : suc (length xs) + i ≡ length xs + suc i = omega arith in
      let other : x.node ≡ h → ⊥ = λ e. omega (arith, one_same x.node h e) in
      rw z (closing-closes (suc i) r xs s (omega arith) (rw (same-reference r x other) at c.1))

  closes-closing
      : (i : ℕ) (r : List ℕ) (xs : List (Given Segment)) (s : Segment) → times h xs ≡ 0 → times u xs ≡ 0 → Closes y g (suc (length xs + i)) r s
      → Closing y g i r (xs ++ (giving u s ∷ []))
  unfolding Closing times
  closes-closing i r [] s a b c =
      let z : 0 + i ≡ i = omega arith in
      (λ t. rw z at c, tt)
  closes-closing i r (x ∷ xs) s a b c =
      let z : suc (length xs) + i ≡ length xs + suc i = omega arith in
      let other : x.node ≡ h → ⊥ = λ e. omega (arith, one_same x.node h e) in
      let inner : x.node ≡ u → ⊥ = λ e. omega (arith, one_same x.node u e) in
      (λ t. absurd (inner (q.one_tail x.node t)), rw (same-reference r x other) (closes-closing (suc i) r xs s (omega arith) (omega arith) (rw z at c)))

  module _ (xs : List (Given Segment)) (e : Enclosed h u xs) where
    size : length xs ≡ suc (length e.middle + 1)
    size = omega (arith, ap length e.same, length-append e.middle (giving u e.last ∷ []))

    pub closing_enclosed : Closing y g 0 [] xs ↔ Closes y g (length xs) (text y e.first.bytes 1 0) e.last
    unfolding Closing
    closing_enclosed = (there, back)
      where
        there : Closing y g 0 [] xs → Closes y g (length xs) (text y e.first.bytes 1 0) e.last
        there c =
            let d : Closing y g 0 [] (giving h e.first ∷ (e.middle ++ (giving u e.last ∷ []))) = subst (Closing y g 0 []) e.same c in
            rw size (closing-closes 1 (text y e.first.bytes 1 0) e.middle e.last e.no_head (rw (head-reference [] e.first) at d.1))

        back : Closes y g (length xs) (text y e.first.bytes 1 0) e.last → Closing y g 0 [] xs
        back c =
            let d = closes-closing 1 (text y e.first.bytes 1 0) e.middle e.last e.no_head e.no_tail (rw size at c) in
            subst (Closing y g 0 []) (sym e.same)
            ((λ t. absurd (two_nodes g h u q (q.one_tail h t)), rw (head-reference [] e.first) d))
