-- Two rows of bytes that iterators give, compared by `eq`: what it answers is `same`.
use Prim.Native.Nat.{ℕ}
use mathlib.Core.Path.{◌≡◌, refl, sym, ◌∙◌, ap, ap₂, subst}
use mathlib.Core.Bool.{Bool, true, false, true≢false}
use mathlib.Core.List.{List, [], ◌∷◌}
use native.Mathlib.Omega.{arith}
use lib.ListN.{length, get_or}
use lib.Dec.{eqb}
use borrow.Author.Tests.{eqb-true, eq-eqb}
use Rattle.std.specs.Prelude.{Option, Some, None}
use Rattle.std.specs.Iterator.{Yields, ComparesItemsByEq}
use Rattle.std.specs.Option.{MatchOption, IfSome}
use Rattle.std.specs.List.{AllZip}
use Rattle.std.proofs.lemmas.Iterator.{YieldsList}
use Rattle.std.proofs.lemmas.Iterator.Consumers.{YieldsList-turn, YieldsList-end}
use Rattle.std.proofs.lemmas.List.{map-id, get_or_default}
use Rattle.std.proofs.lemmas.List.Elements.{length_all_zip}
use Rattle.plain.specs.Plain.{same}
use Rattle.plain.proofs.Sameness.{same_refl, same_true}

same-not : (s t : List ℕ) → (s ≡ t → ⊥) → false ≡ same s t
same-not s t n = go (same s t) (same_true s t)
  where
    go : (b : Bool) → (b ≡ true → s ≡ t) → false ≡ b
    go true h = absurd (n (h refl))
    go false h = refl

zip-same : (xs ys : List ℕ) → AllZip (λ x y. eqb x y ≡ true) xs ys → xs ≡ ys
zip-same [] [] z = refl
zip-same [] (y ∷ ys) z = absurd z
zip-same (x ∷ xs) [] z = absurd z
zip-same (x ∷ xs) (y ∷ ys) z = ap₂ ◌∷◌ (eqb-true x y z.0) (zip-same xs ys z.1)

module _
    {S T : Type 0} {steps : S → Option ℕ → S → Type 0} {others : T → Option ℕ → T → Type 0} {s : S} {t : T} {ss ts : List ℕ}
    (e : YieldsList steps (λ x. x) s ss) (f : YieldsList others (λ x. x) t ts) (r : Bool)
  where
    module _ (xs ys : List ℕ) (j : S) (k it : T) (start : it ≡ t) (a : Yields steps s xs j) (b : Yields others it ys k) where
      module _ (z : AllZip (λ x y. eqb x y ≡ true) xs ys) (u : S) (v : T) where
        -- the chain of the iterator that the other became
        theirs : YieldsList others (λ x. x) it ts
        theirs = subst (λ w. YieldsList others (λ x. x) w ts) (sym start) f

        by-ends
            : (o p : Option ℕ) → steps j o u → others k p v
            → MatchOption o (MatchOption p (r ≡ true) (λ _. r ≡ false)) (λ x. (r ≡ false) × IfSome p (λ y. eqb x y ≡ false)) → r ≡ same ss ts
        by-ends None None g h l =
            let q = YieldsList-end e xs j a _ u refl g in
            let w = YieldsList-end theirs ys k b _ v refl h in
            let p : ss ≡ ts = sym q.0 ∙ map-id xs ∙ zip-same xs ys z ∙ sym (map-id ys) ∙ w.0 in
            l ∙ sym (subst (λ us. same ss us ≡ true) p (same_refl ss))
        by-ends None (Some y) g h l =
            let q = YieldsList-end e xs j a _ u refl g in
            let w = YieldsList-turn theirs ys k b _ v y refl h in
            l ∙ same-not ss ts (λ p. omega (arith, q.1, w.0, ap length p, length_all_zip (λ x y. eqb x y ≡ true) xs ys z))
        by-ends (Some x) None g h l =
            let q = YieldsList-turn e xs j a _ u x refl g in
            let w = YieldsList-end theirs ys k b _ v refl h in
            l.0 ∙ same-not ss ts (λ p. omega (arith, q.0, w.1, ap length p, length_all_zip (λ x y. eqb x y ≡ true) xs ys z))
        by-ends (Some x) (Some y) g h l =
            let q = YieldsList-turn e xs j a _ u x refl g in
            let w = YieldsList-turn theirs ys k b _ v y refl h in
            let n : length xs ≡ length ys = length_all_zip (λ x y. eqb x y ≡ true) xs ys z in
            l.0
            ∙ same-not ss ts (λ p. true≢false (sym (eq-eqb x y
            (q.1 ∙ get_or_default ss (length xs) x y q.0 ∙ ap (λ us. get_or us (length xs) y) p ∙ ap (λ i. get_or ts i y) n ∙ sym w.1)) ∙ l.1))

    pub same-compared : ComparesItemsByEq steps (λ (w it : T). it ≡ w) others s t eqb r → r ≡ same ss ts
    same-compared (it, xs, ys, o, p, u, v, q, (j, a, g), (k, b, h), z, l) = by-ends xs ys j k it q a b z u v o p g h l
