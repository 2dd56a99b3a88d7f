-- Laws of the search for a missing node: one level, and the levels outward.
use Prim.Native.Nat.{ℕ, suc, ◌<◌}
use mathlib.Core.Path.{◌≡◌, refl, sym, ◌∙◌, ap}
use mathlib.Core.Bool.{Bool, true, false, not, ◌&&◌, ◌||◌, true≢false}
use mathlib.Core.List.{List}
use lib.ListN.{length}
use lib.Dec.{eqb, ltb}
use borrow.Author.Tests.{eq-eqb, ne_eqb}
use Rattle.guide.specs.Nodes.{Guide, node, paired, required}
use Rattle.guide.specs.workers.Placing.{first_node, levels, tally, lacking, missing}
use Rattle.guide.specs.declared.edition.Edition.{Edition}
use Rattle.guide.specs.Editions.{guide_of}
use Rattle.guide.specs.Options.{unless_0}
use Rattle.guide.proofs.Options.{some_unless_0, none_unless_0, told_unless_0, untold_unless_0}
use Rattle.std.specs.Prelude.{Option, Some, None}
use Rattle.judge.specs.workers.Rows.{child_of, due_of}
use Rattle.judge.specs.workers.Searches.{wanted, missed, lacks_due}
use Rattle.judge.proofs.lacking.Links.{Only, pick-none}
use Rattle.judge.proofs.lacking.Levels.{or_else-some, levels_up, levels-root}

module _ (g : Guide) (cs : List ℕ) (m : ℕ) where
  pub missed_there : (tally cs m ≡ 0 → ⊥) → false ≡ missed g cs m
  unfolding missed
  missed_there h = rw (ne_eqb (tally cs m) 0 h)

  pub missed-wanted : tally cs m ≡ 0 → (w : Bool) → w ≡ wanted g cs m → w ≡ missed g cs m
  unfolding missed
  missed-wanted none w want = rw (eq-eqb (tally cs m) 0 none) want

module _ (g : Guide) (cs : List ℕ) (n p m : ℕ) (r : Bool) (gone : r ≡ missed g cs m) where
  pub lacks-none : r ≡ false → false ≡ lacks_due g cs n p m
  unfolding lacks_due
  lacks-none h = rw (sym gone, h)

  module _ (so : r ≡ true) (q : ℕ) (parent : q ≡ (node g n).parent) where
    pub lacks-closed : (p ≡ q → ⊥) → true ≡ lacks_due g cs n p m
    unfolding lacks_due
    lacks-closed h = rw (sym gone, so, sym parent, ne_eqb p q h)

    pub lacks-earlier : (a b : ℕ) → p ≡ q → a ≡ (node g m).counter → b ≡ (node g n).counter → ltb a b ≡ lacks_due g cs n p m
    unfolding lacks_due
    lacks-earlier a b h i j = rw (sym gone, so, sym parent, eq-eqb p q h, sym i, sym j)

pub and_left : (a b : Bool) → a && b ≡ true → a ≡ true
and_left true b h = refl
and_left false b h = h

-- of a child: whether it is required by itself (must), one of a pair, and whether the other has come
due_fails : (child must pair came rest : Bool) → child && (must || pair) ≡ false → child && ((must || (pair && came)) && rest) ≡ false
due_fails false must pair came rest h = refl
due_fails true false false came rest h = refl
due_fails true false true came rest h = absurd (true≢false h)
due_fails true true pair came rest h = absurd (true≢false h)

due-holds
    : (child must pair came none rest : Bool) → pair && must ≡ false → child && (must || pair) ≡ true
    → child && ((must || (pair && came)) && (none && rest)) ≡ (none && (not pair || came)) && rest
due-holds false must pair came none rest k h = absurd (true≢false (sym h))
due-holds true false false came none rest k h = absurd (true≢false (sym h))
due-holds true true true came none rest k h = absurd (true≢false k)
due-holds true true false came true rest k h = refl
due-holds true true false came false rest k h = refl
due-holds true false true true true rest k h = refl
due-holds true false true true false rest k h = refl
due-holds true false true false true rest k h = refl
due-holds true false true false false rest k h = refl

module _ (g : Guide) (cs : List ℕ) (n p : ℕ) where
  pub due_below : (m : ℕ) → due_of g p m ≡ true → child_of g p m ≡ true
  due_below m h = and_left (child_of g p m) ((node g m).must || paired g m) h

  pub lacks-only : Only (due_of g p) (lacking g cs n p)
  unfolding lacking required
  lacks-only m h = due_fails (child_of g p m) (node g m).must (paired g m) _ _ h

  pub lacks-due
      : (m : ℕ) (r b : Bool) → paired g m && (node g m).must ≡ false → due_of g p m ≡ true → r ≡ lacks_due g cs n p m → r ≡ b
      → lacking g cs n p m ≡ b
  unfolding lacking required lacks_due missed wanted
  lacks-due m r b k h e q =
      let came = ltb 0 (tally cs (node g m).partner) in
      let first = not (eqb p (node g n).parent) || ltb (node g m).counter (node g n).counter in
      due-holds (child_of g p m) (node g m).must (paired g m) came (eqb (tally cs m) 0) first k h ∙ sym e ∙ q

module _ (e : Edition) (cs : List ℕ) (n : ℕ) where
  -- the search from the level of p outward
  abbrev missing_from : ℕ → ℕ
  missing_from p = missing (guide_of e) cs n (levels (guide_of e) (suc p) p 0)

  -- a level by itself says whether its instance lacks a node, wherever its children have come to
  level-any : (k p c : ℕ) → missing (guide_of e) cs n (levels (guide_of e) (suc k) p c) ≡ missing (guide_of e) cs n (levels (guide_of e) (suc k) p 0)
  unfolding levels missing
  level-any k p c = refl

  module _ (p : ℕ) where
    -- the gap at the level of p
    pub gap_found : (gap : ℕ) → Some gap ≡ unless_0 (first_node (guide_of e) (lacking (guide_of e) cs n p)) → Some gap ≡ unless_0 (missing_from p)
    unfolding levels missing
    gap_found gap told =
        let t = told_unless_0 gap (first_node (guide_of e) (lacking (guide_of e) cs n p)) told in
        some_unless_0 gap (missing_from p) (sym (rw (sym t.0) (or_else-some gap _ t.1))) t.1

    -- there is none
    module _ (untold : None ≡ unless_0 (first_node (guide_of e) (lacking (guide_of e) cs n p))) where
      here : 0 ≡ first_node (guide_of e) (lacking (guide_of e) cs n p)
      here = untold_unless_0 _ untold

      pub gap_root : p ≡ 0 → None ≡ unless_0 (missing_from p)
      unfolding missing
      gap_root h = none_unless_0 (missing_from p) (sym (rw (levels-root e p 0 h, sym here) (pick-none (eqb p (node (guide_of e) n).parent))))

      module _ (q : ℕ) (parent : q ≡ (node (guide_of e) n).parent) where
        -- the level that takes n is the last
        pub gap_taking : p ≡ q → None ≡ unless_0 (missing_from p)
        unfolding levels missing
        gap_taking h = none_unless_0 (missing_from p) (sym (rw (eq-eqb p (node (guide_of e) n).parent (h ∙ parent), sym here)))

        pub gap_up
            : (p ≡ q → ⊥) → (p ≡ 0 → ⊥) → p < length (guide_of e) → (r : ℕ) (outer : Option ℕ) → r ≡ (node (guide_of e) p).parent
            → outer ≡ unless_0 (missing_from r) → outer ≡ unless_0 (missing_from p)
        unfolding missing
        gap_up h k l r outer up found =
            let other : eqb p (node (guide_of e) n).parent ≡ false = ne_eqb p _ (λ (z : p ≡ (node (guide_of e) n).parent). h (z ∙ sym parent)) in
            let s : missing_from p ≡ missing_from r =
            rw (levels_up e p 0 k l, sym here, other, up)
            (level-any (node (guide_of e) p).parent (node (guide_of e) p).parent (node (guide_of e) p).counter) in
            found ∙ ap unless_0 (sym s)
