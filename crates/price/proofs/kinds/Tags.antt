-- What a test of two kinds says.
use Prim.Native.Nat.{ℕ}
use mathlib.Core.Path.{◌≡◌, refl, sym, ◌∙◌}
use mathlib.Core.Bool.{Bool, true, false, not}
use mathlib.Core.List.{List, [], ◌∷◌}
use denote.Enum.Bare.{sameb, same_true, same_false, differs_true, differs_false}
use Rattle.price.specs.contracts.kinds.Kind.{the_type}
use Rattle.price.specs.declared.kinds.Kind.{Kind}

module _ (a b : Kind) (r : Bool) where
  pub is-kind : r ≡ sameb the_type a b → r ≡ true → a ≡ b
  is-kind h k = same_true the_type tt a b (sym h ∙ k)

  pub no-kind : r ≡ sameb the_type a b → r ≡ false → ¬ (a ≡ b)
  no-kind h k = same_false the_type a b (sym h ∙ k)

  pub ne-kind : r ≡ not (sameb the_type a b) → r ≡ true → ¬ (a ≡ b)
  ne-kind h k = differs_true the_type a b (sym h ∙ k)

  pub eq-kind : r ≡ not (sameb the_type a b) → r ≡ false → a ≡ b
  eq-kind h k = differs_false the_type tt a b (sym h ∙ k)
