-- The marks of positions: a position whose print is not marked agrees with none that is.
use Prim.Native.Nat.{ℕ}
use mathlib.Core.Path.{◌≡◌, refl, sym, ap, ◌∙◌}
use mathlib.Core.Bool.{Bool, true, false, ◌||◌, true≢false}
use mathlib.Core.List.{List, [], ◌∷◌, ◌++◌}
use lib.ListN.{length}
use Rattle.cut.specs.declared.service.Syntax.{Syntax}
use Rattle.sieve.specs.workers.Marks.{marked_in, mark_in}
use Rattle.bytewise.proofs.Booleans.{and_both, both-and}
use Rattle.sieve.proofs.Marking.{mark_marks, mark-keeps}
use Rattle.agree.specs.Agreement.{Heading, agree}
use Rattle.agree.specs.Positions.{agrees_any}
use Rattle.agree.specs.workers.Runs.{print_of, all_marked}
use Rattle.agree.proofs.Printed.{agree_print}

module _ (y : Syntax) (t : List ℕ) where
  all-keeps : (f : ℕ) (hs : List Heading) → length t ≡ 8192 → all_marked y t hs ≡ true → all_marked y (mark_in t f) hs ≡ true
  unfolding all_marked
  all-keeps f [] l h = refl
  all-keeps f (q ∷ hs) l h =
      let p = and_both (marked_in t (print_of y q)) (all_marked y t hs) h in
      both-and _ _ (mark-keeps t f l (print_of y q) p.0) (all-keeps f hs l p.1)

  all_more : (hs : List Heading) (q : Heading) → all_marked y t hs ≡ true → marked_in t (print_of y q) ≡ true → all_marked y t (hs ++ (q ∷ [])) ≡ true
  unfolding all_marked
  all_more [] q h k = both-and _ _ k refl
  all_more (r ∷ hs) q h k =
      let p = and_both (marked_in t (print_of y r)) (all_marked y t hs) h in
      both-and _ _ p.0 (all_more hs q p.1 k)

  -- a position whose print is not marked agrees with none of those that are
  pub unmarked_apart : (q : Heading) (hs : List Heading) → all_marked y t hs ≡ true → marked_in t (print_of y q) ≡ false → agrees_any y q hs ≡ false
  unfolding all_marked agrees_any
  unmarked_apart q [] h k = refl
  unmarked_apart q (r ∷ hs) h k = go (agree y r q) refl (unmarked_apart q hs (and_both (marked_in t (print_of y r)) (all_marked y t hs) h).1 k)
    where
      go : (b : Bool) → agree y r q ≡ b → agrees_any y q hs ≡ false → b || agrees_any y q hs ≡ false
      go true e ih = absurd (true≢false (sym (and_both (marked_in t (print_of y r)) (all_marked y t hs) h).0 ∙ ap (marked_in t) (agree_print y r q e) ∙ k))
      go false e ih = ih

  -- the same in the words of what the workers answer
  pub unmarked
      : (q : Heading) (hs : List Heading) (f : ℕ) (m : Bool) → all_marked y t hs ≡ true → f ≡ print_of y q → m ≡ marked_in t f → m ≡ false
      → false ≡ agrees_any y q hs
  unmarked q hs f m h p k n = sym (unmarked_apart q hs h (ap (marked_in t) (sym p) ∙ sym k ∙ n))

-- one position more
pub all-marked
    : (y : Syntax) (t : List ℕ) (hs : List Heading) (q : Heading) → length t ≡ 8192 → all_marked y t hs ≡ true
    → all_marked y (mark_in t (print_of y q)) (hs ++ (q ∷ [])) ≡ true
all-marked y t hs q l h =
    all_more y (mark_in t (print_of y q)) hs q (all-keeps y t (print_of y q) hs l h) (mark_marks t (print_of y q) l)
