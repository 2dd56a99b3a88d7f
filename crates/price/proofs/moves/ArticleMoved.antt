-- The article of a price that stands k places later stands k places later. Demand 3: "places moved".
use Prim.Native.Nat.{ℕ, zero, suc, ◌+◌}
use mathlib.Core.Path.{◌≡◌, refl}
use mathlib.Core.Bool.{Bool, true, false, cond}
use mathlib.Core.List.{List, [], ◌∷◌, map}
use lib.ListN.{drop}
use lib.Dec.{ltb}
use Rattle.cut.specs.declared.service.Syntax.{Syntax}
use Rattle.element.specs.declared.components.Span.{Span}
use Rattle.price.specs.Numbers.{Listed, article_in}
use Rattle.price.specs.Calls.{first_article}
use Rattle.price.proofs.moves.Moved.{later_span, later_price, article-moved, before-moved}

module _ (k : ℕ) (y : Syntax) (start : ℕ) where
  pick-moved
      : (b : Bool) (s : Span)
      → cond b (later_span k s) (record { start = k + start; end = k + start }) ≡ later_span k (cond b s (record { start = start; end = start }))
  pick-moved true s = refl
  pick-moved false s = refl

  -- of the price j of some that stand k places later
  pub first-article-moved
      : (j : ℕ) (qs : List Listed) → first_article y (k + start) (drop j (map (later_price k) qs)) ≡ later_span k (first_article y start (drop j qs))
  unfolding first_article
  first-article-moved zero [] = refl
  first-article-moved zero (q ∷ qs) =
      let a = article_in y q.lin.start q.lin.bytes in
      rw (article-moved k y q.lin.start q.lin.bytes, before-moved k a.start a.end) (pick-moved (ltb a.start a.end) a)
  first-article-moved (suc j) [] = refl
  first-article-moved (suc j) (q ∷ qs) = first-article-moved j qs
