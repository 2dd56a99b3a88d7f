-- The last segment of a message that is judged without a fault has the tag of the last node.
use Prim.Native.Nat.{ℕ}
use mathlib.Core.Path.{◌≡◌, refl, sym, ◌∙◌, ap, subst}
use mathlib.Core.Logic.{◌↔◌}
use mathlib.Core.List.{List, [], ◌∷◌}
use native.Mathlib.Omega.{arith}
use lib.Dec.{T}
use Rattle.cut.specs.declared.service.Syntax.{Syntax}
use Rattle.cut.specs.Segments.{Segment}
use Rattle.messages.specs.Messages.{Message}
use Rattle.guide.specs.Nodes.{Guide, node}
use Rattle.guide.specs.Page.{Page}
use Rattle.guide.specs.Tree.{Given}
use Rattle.guide.specs.workers.Placing.{last_after}
use Rattle.guide.specs.workers.Checks.{Passes}
use Rattle.guide.specs.Sheet.{is_tag}
use Rattle.guide.specs.Accepted.{Each, seen, segments_of, last_of}
use Rattle.guide.specs.workers.Judging.{Memory, fresh}
use Rattle.guide.proofs.Basics.{same-eq, same_refl}
use Rattle.guide.proofs.placing.Taken.{Taken, assigned_taken, taken_tag}
use Rattle.guide.proofs.judging.Faultless.{segments_in, keep, kept, Through}
use Rattle.guide.proofs.judging.FaultlessTree.{faultless_tree}

-- the last of some
unfoldable final : {A : Type 0} → A → List A → A
final x [] = x
final x (z ∷ zs) = final z zs

module _ {A : Type 0} (P : A → Type 0) where
  each_final : (x : A) (xs : List A) → Each P (x ∷ xs) → P (final x xs)
  unfolding Each final
  each_final x [] a = a.0
  each_final x (z ∷ zs) a = each_final z zs a.1

module _ (y : Syntax) (g : Guide) (pages : ℕ → Page) where
  kept-last : (m : Memory) (x : Given Segment) (xs : List (Given Segment)) → (kept y g pages m (x ∷ xs)).state.last ≡ (final x xs).node
  unfolding kept final last_after
  kept-last m x [] = refl
  kept-last m x (z ∷ zs) = kept-last (keep y g pages m x) z zs

final-segment : (x : Given Segment) (xs : List (Given Segment)) → last_of x.segment (segments_in xs) ≡ (final x xs).segment
unfolding last_of final
final-segment x [] = refl
final-segment x (z ∷ zs) = final-segment z zs

module _ (y : Syntax) (g : Guide) (pages : ℕ → Page) (u : ℕ) (p : Passes g u) (m : Message) (t : Through y g pages 0 fresh (segments_of m)) where
  last-tag : (node g (kept y g pages fresh t.given).state.last).tag ≡ (seen y (last_of m.first m.rest)).tag
  last-tag = go t.given t.same taken
    where
      taken : Each (Taken g (seen y)) t.given
      taken =
          let b = faultless_tree y g u p pages t.given t.faultless in
          subst (Each (Taken g (seen y))) b.1 (assigned_taken g (seen y) 0 b.0.tree b.0.begun)

      go
          : (xs : List (Given Segment)) → segments_in xs ≡ m.first ∷ m.rest → Each (Taken g (seen y)) xs
          → (node g (kept y g pages fresh xs).state.last).tag ≡ (seen y (last_of m.first m.rest)).tag
      go [] e a = absurd (let z : ◌≡◌ {A = ℕ} 0 1 = cc in omega arith)
      go (x ∷ xs) e a =
          let first : x.segment ≡ m.first = cc in
          let rest : segments_in xs ≡ m.rest = cc in
          let last : last_of m.first m.rest ≡ (final x xs).segment = rw (sym first, sym rest) (final-segment x xs) in
          ap (λ (n : ℕ). (node g n).tag) (kept-last y g pages fresh x xs)
          ∙ (taken_tag g (seen y) (final x xs) (each_final (Taken g (seen y)) x xs a) ∙ ap (λ (s : Segment). (seen y s).tag) (sym last))

  -- The last node has a tag exactly if the last segment has it.
  pub last-tagged
      : (a : List ℕ) → T (is_tag g a (kept y g pages fresh t.given).state.last) ↔ ((seen y (last_of m.first m.rest)).tag ≡ a)
  unfolding is_tag
  last-tagged a = (λ k. sym last-tag ∙ same-eq _ a k, λ e. rw (last-tag ∙ e) (same_refl a))
