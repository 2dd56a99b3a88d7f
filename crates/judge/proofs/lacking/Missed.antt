-- Where none of the nodes is missed that n must come behind and that are due, nothing is missing: the sets leave no level out.
use Prim.Native.Nat.{ℕ, suc, ◌-◌, ◌<◌}
use mathlib.Core.Path.{◌≡◌, refl, sym, ◌∙◌, ap}
use mathlib.Core.Bool.{Bool, true, false, not, ◌&&◌, ◌||◌, and-false}
use mathlib.Core.List.{List, [], ◌∷◌}
use native.Mathlib.Omega.{arith}
use lib.ListN.{length}
use lib.Dec.{T, eqb, ltb}
use lib.Bits.{bit_and}
use Rattle.guide.specs.Nodes.{Guide, node, paired}
use Rattle.guide.specs.Pricat.{pricat20d, pricat20c}
use Rattle.guide.specs.workers.Placing.{first_node, Level, levels, lacking, missing}
use Rattle.guide.specs.Choices.{pickℕ}
use Rattle.guide.specs.workers.Checks.{every, implies}
use Rattle.guide.proofs.Basics.{T_true, true-T, false-T, every-at, implied, and_both, or_left, or_right}
use Rattle.guide.specs.declared.edition.Edition.{Edition}
use Rattle.guide.specs.declared.edition.Edition.TheVariants.{D, C}
use Rattle.guide.specs.Editions.{guide_of}
use Rattle.guide.specs.Options.{unless_0}
use Rattle.guide.proofs.Options.{none_unless_0, untold_unless_0}
use Rattle.std.specs.Prelude.{None}
use Rattle.judge.specs.workers.Rows.{child_of, due_of}
use Rattle.judge.specs.workers.Sets.{member, nodes_that, some_level, follows_in, due_after, inside_of, preceding_of}
use Rattle.judge.specs.workers.Searches.{missed, lacks_due}
use Rattle.judge.proofs.lacking.Links.{lowest-none, lowest-least}
use Rattle.judge.proofs.lacking.Gaps.{lacks-only, lacks-due}
use Rattle.judge.proofs.pairs.Partners.{pair_optional}
use Rattle.judge.proofs.sets.Members.{both_fit, both-inside, both_are}
use Rattle.judge.proofs.sets.Sought.{Sought, within}

-- whether m is due in one of these instances, up to the one that takes n, and n must come behind it there
abbrev behind : Guide → ℕ → ℕ → ℕ → Bool
behind g n p m = not (eqb p (node g n).parent) || ltb (node g m).counter (node g n).counter

unfoldable closing : Guide → ℕ → List Level → ℕ → Bool
closing g n [] m = false
closing g n (l ∷ ls) m = (due_of g l.node m && behind g n l.node m) || (not (eqb l.node (node g n).parent) && closing g n ls m)

abbrev due_in : Guide → ℕ → ℕ → Bool
due_in g last m = some_level (λ l. due_of g l.node m) (levels g (suc last) last 0)

abbrev preceding_in : Guide → ℕ → ℕ → Bool
preceding_in g n m = (child_of g (node g n).parent m && ltb (node g m).counter (node g n).counter) || inside_of g (node g m).parent (node g n).parent

-- the two sets have all of them, where n can come after `last`
abbrev covered_at : Guide → ℕ → ℕ → ℕ → Bool
covered_at g last n m = implies (closing g n (levels g (suc last) last 0) m) (due_in g last m && preceding_in g n m)

abbrev covered_for : Guide → ℕ → ℕ → Bool
covered_for g last n = implies (some_level (follows_in g n) (levels g (suc last) last 0)) (every (covered_at g last n) (length g))

covered_table : (e : Edition) → T (every (λ last. every (covered_for (guide_of e) last) (length (guide_of e))) (length (guide_of e)))
unfolding pricat20d pricat20c every some_level levels closing inside_of paired
covered_table D = tt
covered_table C = tt

-- nothing is missing where nothing is missed
module _ (e : Edition) (cs : List ℕ) (n : ℕ) where
  lacks-not : (p m : ℕ) → (T (due_of (guide_of e) p m && behind (guide_of e) n p m) → missed (guide_of e) cs m ≡ false) → lacking (guide_of e) cs n p m ≡ false
  unfolding lacks_due
  lacks-not p m h = go (due_of (guide_of e) p m) refl h
    where
      none : (b : Bool) → (T b → missed (guide_of e) cs m ≡ false) → missed (guide_of e) cs m && b ≡ false
      none true k = rw (k tt)
      none false k = and-false (missed (guide_of e) cs m)

      go
          : (b : Bool) → due_of (guide_of e) p m ≡ b → (T (b && behind (guide_of e) n p m) → missed (guide_of e) cs m ≡ false) → lacking (guide_of e) cs n p m
          ≡ false
      go true q k = lacks-due (guide_of e) cs n p m _ false (pair_optional e m) q refl (none (behind (guide_of e) n p m) k)
      go false q k = lacks-only (guide_of e) cs n p m q

  missing-none
      : (ls : List Level) → ((m : ℕ) → 0 < m → m < length (guide_of e) → T (closing (guide_of e) n ls m) → missed (guide_of e) cs m ≡ false)
      → missing (guide_of e) cs n ls ≡ 0
  unfolding missing closing
  missing-none [] h = refl
  missing-none (l ∷ ls) h =
      rw
      (lowest-none (lacking (guide_of e) cs n l.node) 1 (length (guide_of e) - 1)
      (λ m a b. lacks-not l.node m (λ t. h m a (omega arith) (or_left (due_of (guide_of e) l.node m && behind (guide_of e) n l.node m) _ t))))
      (go (eqb l.node (node (guide_of e) n).parent) refl (missing-none ls))
    where
      go
          : (b : Bool) → eqb l.node (node (guide_of e) n).parent ≡ b
          → (((m : ℕ) → 0 < m → m < length (guide_of e) → T (closing (guide_of e) n ls m) → missed (guide_of e) cs m ≡ false) → missing (guide_of e) cs n ls
          ≡ 0)
          → pickℕ b 0 (missing (guide_of e) cs n ls) ≡ 0
      go true q ih = refl
      go false q ih =
          ih
          (λ m a b t. h m a b (or_right (due_of (guide_of e) l.node m && behind (guide_of e) n l.node m) _
          (and_both (not (eqb l.node (node (guide_of e) n).parent)) _ (T_true (ap not q)) t)))

-- the search through the nodes that are due after `last` and that n must come behind
module _ (e : Edition) (cs : List ℕ) (n last s : ℕ) (set : s ≡ bit_and (due_after (guide_of e) last) (preceding_of (guide_of e) n)) where
  both : s ≡ bit_and (nodes_that (guide_of e) (due_in (guide_of e) last)) (nodes_that (guide_of e) (preceding_in (guide_of e) n))
  unfolding due_after preceding_of
  both = set

  pub gap_begins : Sought (guide_of e) (missed (guide_of e) cs) (first_node (guide_of e) (within s (missed (guide_of e) cs))) s
  gap_begins =
      record {
        fits = both_fit e (due_in (guide_of e) last) (preceding_in (guide_of e) n) s both;
        inside = λ m h. both-inside e (due_in (guide_of e) last) (preceding_in (guide_of e) n) s m both h;
        answer = refl;
      }

  pub gap_none
      : n < length (guide_of e) → last < length (guide_of e) → some_level (follows_in (guide_of e) n) (levels (guide_of e) (suc last) last 0) ≡ true
      → None ≡ unless_0 (first_node (guide_of e) (within s (missed (guide_of e) cs)))
      → None ≡ unless_0 (missing (guide_of e) cs n (levels (guide_of e) (suc last) last 0))
  gap_none row before follows none = none_unless_0 _ (sym (missing-none e cs n (levels (guide_of e) (suc last) last 0) covered))
    where
      all : T (every (covered_at (guide_of e) last n) (length (guide_of e)))
      all =
          implied (some_level (follows_in (guide_of e) n) (levels (guide_of e) (suc last) last 0))
          (every (covered_at (guide_of e) last n) (length (guide_of e)))
          (every-at (covered_for (guide_of e) last) (length (guide_of e)) n
          (every-at (λ x. every (covered_for (guide_of e) x) (length (guide_of e))) (length (guide_of e)) last (covered_table e) before) row)
          (T_true follows)

      covered : (m : ℕ) → 0 < m → m < length (guide_of e) → T (closing (guide_of e) n (levels (guide_of e) (suc last) last 0) m) → missed (guide_of e) cs m
          ≡ false
      covered m a b t =
          let k = implied (closing (guide_of e) n (levels (guide_of e) (suc last) last 0) m) _
          (every-at (covered_at (guide_of e) last n) (length (guide_of e)) m all b) t in
          let i : member s m ≡ true = both_are e (due_in (guide_of e) last) (preceding_in (guide_of e) n) s m both a b ∙ true-T _ k in
          false-T _
          (λ q. (lowest-least (within s (missed (guide_of e) cs)) 1 (length (guide_of e) - 1) m (omega arith) a (omega arith) (rw i (true-T _ q))).0
          (sym (untold_unless_0 _ none)))
