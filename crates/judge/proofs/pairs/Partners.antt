-- Laws of the rows that come in pairs: which they are, what the code needs of them, and one law for each return.
use Prim.Native.Nat.{ℕ, ◌≤◌, ◌<◌, min}
use mathlib.Core.Path.{◌≡◌, refl, sym, ◌∙◌, ap}
use mathlib.Core.Bool.{Bool, true, false, not, ◌&&◌, ◌||◌, true≢false, cond}
use mathlib.Core.List.{List}
use native.Mathlib.Omega.{arith}
use Rattle.std.proofs.Math.Nat.{min-eq_left, min-eq_right}
use lib.ListN.{length, get_or-eq_default}
use lib.Dec.{T, eqb, ltb}
use borrow.Author.Tests.{eq-eqb, ne_eqb, eqb-true, eqb-false, lt-ltb, le-ltb, ltb-true, ltb-false}
use Rattle.guide.specs.Nodes.{Guide, Node, message, node, paired, number_of, over}
use Rattle.guide.specs.Pricat.{pricat20d, pricat20c}
use Rattle.guide.specs.workers.Placing.{tally}
use Rattle.guide.specs.workers.Checks.{every}
use Rattle.guide.proofs.Basics.{every-at}
use Rattle.guide.specs.declared.edition.Edition.{Edition}
use Rattle.guide.specs.declared.edition.Edition.TheVariants.{D, C}
use Rattle.guide.specs.Editions.{guide_of}
use Rattle.guide.specs.Options.{unless_0}
use Rattle.guide.proofs.Options.{none_unless_0, told_unless_0, untold_unless_0}
use Rattle.std.specs.Prelude.{Some, None}
use Rattle.judge.specs.workers.Searches.{wanted}
use Rattle.judge.proofs.lacking.Gaps.{and_left}

-- what is so of every row of a table, and of the message's, is so of every number: past the table's end there is a row like the message's
row_any
    : (test : ℕ → Node → Bool) (g : Guide) → T (every (λ n. test n (node g n)) (length g)) → ((n : ℕ) → test n message ≡ true) → (n : ℕ) → test n (node g n)
    ≡ true
row_any test g all none n = go (ltb n (length g)) refl
  where
    sure : (b : Bool) → T b → b ≡ true
    sure true h = refl
    sure false h = absurd h

    go : (b : Bool) → ltb n (length g) ≡ b → test n (node g n) ≡ true
    go true e = sure _ (every-at (λ k. test k (node g k)) (length g) n all (ltb-true n (length g) e))
    go false e =
        let l : length g ≤ n = ltb-false n (length g) e in
        ap (test n) (get_or-eq_default g message l) ∙ none n

-- a row has no partner, or is a or b
abbrev one_of : ℕ → ℕ → ℕ → Node → Bool
one_of a b n x = eqb n a || (eqb n b || eqb x.partner 0)

alone
    : (a b : ℕ) (g : Guide) → T (every (λ n. one_of a b n (node g n)) (length g)) → (n : ℕ) → (n ≡ a → ⊥) → (n ≡ b → ⊥) → None
    ≡ unless_0 (node g n).partner
alone a b g all n h k =
    let q : one_of a b n (node g n) ≡ true = row_any (one_of a b) g all other n in
    none_unless_0 (node g n).partner (sym (eqb-true _ 0 (sym (rw (ne_eqb n a h, ne_eqb n b k)) ∙ q)))
  where
    or-true : (x : Bool) → x || true ≡ true
    or-true true = refl
    or-true false = refl

    other : (m : ℕ) → one_of a b m message ≡ true
    other m = ap (λ (x : Bool). eqb m a || x) (or-true (eqb m b)) ∙ or-true (eqb m a)

pub alone_20d : (n : ℕ) → (n ≡ 21 → ⊥) → (n ≡ 27 → ⊥) → None ≡ unless_0 (node pricat20d n).partner
unfolding pricat20d every
alone_20d = alone 21 27 pricat20d tt

pub alone_20c : (n : ℕ) → (n ≡ 19 → ⊥) → (n ≡ 25 → ⊥) → None ≡ unless_0 (node pricat20c n).partner
unfolding pricat20c every
alone_20c = alone 19 25 pricat20c tt

-- a row of a pair is not required by itself, and there is a count for its partner
abbrev optional_pair : ℕ → Node → Bool
optional_pair n x = ltb x.partner 96 && not (ltb 0 x.partner && x.must)

pairs_tested : (e : Edition) → T (every (λ n. optional_pair n (node (guide_of e) n)) (length (guide_of e)))
unfolding pricat20d pricat20c every
pairs_tested D = tt
pairs_tested C = tt

pair_fit : (e : Edition) (n : ℕ) → optional_pair n (node (guide_of e) n) ≡ true
pair_fit e n = row_any optional_pair (guide_of e) (pairs_tested e) (λ m. refl) n

counted : (e : Edition) (n : ℕ) → (node (guide_of e) n).partner < 96
counted e n = ltb-true _ 96 (and_left _ _ (pair_fit e n))

pub pair_optional : (e : Edition) (n : ℕ) → paired (guide_of e) n && (node (guide_of e) n).must ≡ false
unfolding paired
pair_optional e n = right (ltb (node (guide_of e) n).partner 96) _ (pair_fit e n)
  where
    right : (a b : Bool) → a && not b ≡ true → b ≡ false
    right true true h = sym h
    right true false h = refl
    right false b h = absurd (true≢false (sym h))

some_above : (k : ℕ) → not (eqb k 0) ≡ ltb 0 k
some_above k = go (eqb k 0) refl
  where
    go : (b : Bool) → eqb k 0 ≡ b → not b ≡ ltb 0 k
    go true e = sym (le-ltb 0 k (omega (arith, eqb-true k 0 e)))
    go false e =
        let z = eqb-false k 0 e in
        sym (lt-ltb 0 k (omega arith))

-- row n, which has no partner
module _ (g : Guide) (n : ℕ) (none : None ≡ unless_0 (node g n).partner) where
  unpaired : paired g n ≡ false
  unfolding paired
  unpaired = le-ltb 0 (node g n).partner (omega (arith, untold_unless_0 (node g n).partner none))

  pub wanted_alone : (cs : List ℕ) → true ≡ wanted g cs n
  unfolding wanted
  wanted_alone cs = rw unpaired

  pub over_alone : (cs : List ℕ) → 15 ≡ over g n (tally cs)
  unfolding over
  over_alone cs = rw unpaired

  pub number_alone : n ≡ number_of g n
  unfolding number_of
  number_alone = rw unpaired

-- row n, whose partner is q
module _ (g : Guide) (n q : ℕ) (told : Some q ≡ unless_0 (node g n).partner) where
  other : q ≡ (node g n).partner
  other = (told_unless_0 q (node g n).partner told).0

  pairs : paired g n ≡ true
  unfolding paired
  pairs =
      let t = told_unless_0 q (node g n).partner told in
      lt-ltb 0 (node g n).partner (omega (arith, t.0, t.1))

  module _ (cs : List ℕ) where
    pub wanted_pair : not (eqb (tally cs q) 0) ≡ wanted g cs n
    unfolding wanted
    wanted_pair = rw (pairs, sym other) (some_above (tally cs q))

    pub over_second : tally cs q ≡ 0 → 25 ≡ over g n (tally cs)
    unfolding over
    over_second k = rw (pairs, sym other, eq-eqb (tally cs q) 0 k)

    pub over-third : (tally cs q ≡ 0 → ⊥) → 15 ≡ over g n (tally cs)
    unfolding over
    over-third k = rw (pairs, sym other, ne_eqb (tally cs q) 0 k)

  -- the row's number is the lower of the two
  pub number_least : min q n ≡ number_of g n
  unfolding number_of
  number_least = rw (pairs, sym other) (go (ltb q n) refl)
    where
      go : (b : Bool) → ltb q n ≡ b → min q n ≡ cond b q n
      go true e =
          let l : q ≤ n = omega (arith, ltb-true q n e) in
          min-eq_left l
      go false e = min-eq_right (ltb-false q n e)

-- ... for whose partner there is a count
pub partner-counted : (e : Edition) (n q : ℕ) → Some q ≡ unless_0 (node (guide_of e) n).partner → q < 96
partner-counted e n q told = omega (arith, counted e n, other (guide_of e) n q told)
