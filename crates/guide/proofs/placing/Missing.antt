-- The search outward for the lowest missing node finds what the tree says.
use Prim.Native.Nat.{ℕ, ◌-◌, ◌≤◌, ◌<◌}
use mathlib.Core.Path.{◌≡◌, refl, sym, ◌∙◌}
use mathlib.Core.Bool.{Bool, true, false, not, ◌&&◌, ◌||◌}
use mathlib.Core.List.{List, ◌∷◌}
use native.Mathlib.Omega.{arith}
use lib.ListN.{length}
use lib.Dec.{T, eqb, ltb, eqb→eq, ltb→lt, lt→ltb, T_not}
use borrow.Author.Tests.{eq-eqb, ne_eqb, eqb-true, eqb-false}
use Rattle.guide.specs.Nodes.{View, Guide, node, required}
use Rattle.guide.specs.Tree.{Kids, none, then, count, Limits, Complete, Due, Open}
use Rattle.guide.specs.Steps.{Claim, Possible, At, here, below, Done, Lacks, LacksBefore, Lowest, Gap, inside, itself, Short, closing, earlier}
use Rattle.guide.specs.workers.Placing.{first_node, Level, level, tally, lacking, missing}
use Rattle.guide.specs.Choices.{or_else}
use Rattle.guide.specs.workers.Checks.{Rising, Pairing}
use Rattle.guide.proofs.Basics.{and_left, and_right, and_both, or_right, or_cases, eq-T, Search, found, nowhere, searched, or_else-some}
use Rattle.guide.proofs.tables.Tables.{in_table}
use Rattle.guide.proofs.tables.Required.{required_more, come_complete}
use Rattle.guide.proofs.placing.Meeting.{And}
use Rattle.guide.proofs.placing.Standing.{spine, Counted, Counts, rise}

-- the lowest node with P, or that there is none
pub data Least (g : Guide) (P : ℕ → Type 0) : ℕ → Type 0 where
  least : {m : ℕ} → 0 < m → Lowest g P m → Least g P m
  absent : ((m : ℕ) → P m → ⊥) → Least g P 0

least_of
    : (g : Guide) → Rising g → (test : ℕ → Bool) (P : ℕ → Type 0) → ((m : ℕ) → T (test m) → P m) → ((m : ℕ) → P m → T (test m))
    → ((m : ℕ) → P m → 0 < m) → ((m : ℕ) → P m → m < length g) → (q : ℕ) → ((m : ℕ) → P m → (node g m).parent ≡ q) → Least g P (first_node g test)
least_of g r test P to from some within q under = go (searched test 1 (length g - 1))
  where
    go : {n : ℕ} → Search test 1 (length g - 1) n → Least g P n
    go (found {n = n} l e h low) =
        least l
        (record {
          holds = to n h;
          lowest =
              λ x p.
              let b : x < n → ⊥ = λ i. low x (some x p) i (from x p) in
              r.numbers n x (within n (to n h)) (within x p) (under n (to n h) ∙ sym (under x p)) (omega (arith, b));
        })
    go (nowhere never) = absent (λ m p. never m (some m p) (let w = within m p in let s = some m p in omega arith) (from m p))

module _ (g : Guide) (cs : List ℕ) (n : ℕ) where
  abbrev pub due_now : ℕ → ℕ → Bool
  due_now p m = not (eqb p (node g n).parent) || ltb (node g m).counter (node g n).counter

  pub lacking-parts : (p m : ℕ) → T (lacking g cs n p m) → ((node g m).parent ≡ p) × T (required g m (tally cs)) × (tally cs m ≡ 0) × T (due_now p m)
  unfolding lacking
  lacking-parts p m h =
      let a = and_right (eqb (node g m).parent p) _ h in
      let b = and_right (required g m (tally cs)) (eqb (tally cs m) 0 && due_now p m) a in (
        eqb→eq _ _ (and_left (eqb (node g m).parent p) _ h),
        and_left (required g m (tally cs)) (eqb (tally cs m) 0 && due_now p m) a,
        eqb→eq _ _ (and_left (eqb (tally cs m) 0) (due_now p m) b),
        and_right (eqb (tally cs m) 0) (due_now p m) b,
      )

  pub lacking_make : (p m : ℕ) → (node g m).parent ≡ p → T (required g m (tally cs)) → tally cs m ≡ 0 → T (due_now p m) → T (lacking g cs n p m)
  unfolding lacking
  lacking_make p m e q z d =
      and_both (eqb (node g m).parent p) (required g m (tally cs) && (eqb (tally cs m) 0 && due_now p m)) (eq-T _ _ e)
      (and_both (required g m (tally cs)) (eqb (tally cs m) 0 && due_now p m) q (and_both (eqb (tally cs m) 0) (due_now p m) (eq-T _ _ z) d))

  due-closed : (p m : ℕ) → (p ≡ (node g n).parent → ⊥) → T (due_now p m)
  due-closed p m d = rw (ne_eqb p (node g n).parent d) tt

  due-earlier : (p m : ℕ) → p ≡ (node g n).parent → T (due_now p m) → (node g m).counter < (node g n).counter
  due-earlier p m e d =
      ltb→lt _ _ (or_cases (not (eqb p (node g n).parent)) (ltb (node g m).counter (node g n).counter)
      (λ x. absurd (T_not (eqb p (node g n).parent) x (eq-T _ _ e))) (λ x. x) d)

module _ {A : Type 0} (g : Guide) where
  -- nothing is missing when n comes in this instance
  pub record Ready (p : ℕ) (f : Kids A) (n : ℕ) : Type 0 where
    pub due : Due g p (node g n).counter f
    pub done : Done g f

module _ {A : Type 0} (g : Guide) (view : A → View) (r : Rising g) (pairs : Pairing g) (cs : List ℕ) (n : ℕ) where
  lacks-some : (p : ℕ) (f : Kids A) (m : ℕ) → Lacks g p f m → 0 < m
  lacks-some p f m l =
      let up = r.rises m (r.taking m (count f) l.required) in
      omega arith

  lacks-inside : (p : ℕ) (f : Kids A) (m : ℕ) → Lacks g p f m → m < length g
  lacks-inside p f m l = in_table g m (r.taking m (count f) l.required)

  -- what the counts make required in an instance is what its children do
  required-from : (p : ℕ) (f : Kids A) → Counted g p f cs → (m : ℕ) → (node g m).parent ≡ p → T (required g m (tally cs)) → T (required g m (count f))
  required-from p f c m e = required_more g m (tally cs) (count f) (λ t. omega (arith, c (node g m).partner ((pairs m t).parents ∙ e)))

  required-to : (p : ℕ) (f : Kids A) → Counted g p f cs → (m : ℕ) → (node g m).parent ≡ p → T (required g m (count f)) → T (required g m (tally cs))
  required-to p f c m e = required_more g m (count f) (tally cs) (λ t. omega (arith, c (node g m).partner ((pairs m t).parents ∙ e)))

  lacks-from : (p : ℕ) (f : Kids A) → Counted g p f cs → (m : ℕ) → T (lacking g cs n p m) → Lacks g p f m
  lacks-from p f c m h =
      let parts = lacking-parts g cs n p m h in
      record { under = parts.0; required = required-from p f c m parts.0 parts.1; missing = sym (c m parts.0) ∙ parts.2 }

  -- a level that the segment closes
  closed-level : (p : ℕ) (f : Kids A) → Counted g p f cs → (p ≡ (node g n).parent → ⊥) → Least g (Lacks g p f) (first_node g (lacking g cs n p))
  closed-level p f c d =
      least_of g r (lacking g cs n p) (Lacks g p f) (lacks-from p f c)
      (λ m l.
      lacking_make g cs n p m l.under (required-to p f c m l.under l.required) (c m l.under ∙ l.missing)
      (due-closed g cs n p m d))
      (lacks-some p f) (lacks-inside p f) p (λ m l. l.under)

  -- the level that takes it
  taking-level
      : (p : ℕ) (f : Kids A) → Counted g p f cs → (node g n).parent ≡ p
      → Least g (LacksBefore g (node g n).counter p f) (first_node g (lacking g cs n p))
  taking-level p f c e =
      least_of g r (lacking g cs n p) (LacksBefore g (node g n).counter p f)
      (λ m h. record { lacks = lacks-from p f c m h; earlier = due-earlier g cs n p m (sym e) (lacking-parts g cs n p m h).3 })
      (λ m b.
      let l = b.lacks in
      lacking_make g cs n p m l.under (required-to p f c m l.under l.required) (c m l.under ∙ l.missing)
      (or_right (not (eqb p (node g n).parent)) (ltb (node g m).counter (node g n).counter) (lt→ltb _ _ b.earlier)))
      (λ m b. lacks-some p f m b.lacks) (λ m b. lacks-inside p f m b.lacks) p (λ m b. b.lacks.under)

  present : (p : ℕ) (f : Kids A) (m : ℕ) → (node g m).parent ≡ p → T (required g m (count f)) → (Lacks g p f m → ⊥) → 1 ≤ count f m
  present p f m e q h = go (eqb (count f m) 0) refl
    where
      go : (b : Bool) → eqb (count f m) 0 ≡ b → 1 ≤ count f m
      go true z = absurd (h (record { under = e; required = q; missing = eqb-true _ _ z }))
      go false z =
          let d = eqb-false (count f m) 0 z in
          omega arith

  -- what the search finds in the open instances of f when all of them are closed, before it goes on to the rest
  data Closing (p : ℕ) (f : Kids A) (rest : List Level) : ℕ → Type 0 where
    gap : {m : ℕ} → 0 < m → Gap g p f m → Closing p f rest m
    complete : Complete g p f → Done g f → Closing p f rest (missing g cs n rest)

  closing-level
      : (p c : ℕ) (f : Kids A) (rest : List Level) → Limits g p f → Counted g p f cs → (p ≡ (node g n).parent → ⊥) → Done g f
      → Closing p f rest (missing g cs n (level p c ∷ rest))
  unfolding missing
  closing-level p c f rest limits k d done = rw (ne_eqb p (node g n).parent d) (go (closed-level p f k d))
    where
      go : {m : ℕ} → Least g (Lacks g p f) m → Closing p f rest (or_else m (missing g cs n rest))
      go (least {m = m} i l) = rw (or_else-some m (missing g cs n rest) i) (gap i (itself done l))
      go (absent never) = complete (come_complete g p f pairs limits (λ m e q. present p f m e q (never m))) done

  closes
      : (p : ℕ) (f : Kids A) (rest : List Level) → Open g view p f → Limits g p f → Counts g p f cs → (node g n).parent < p
      → Closing p f rest (missing g cs n (spine g p f rest))
  unfolding Open Counts Done
  closes p none rest o limits c l = closing-level p 0 none rest limits c (λ q. omega arith) tt
  closes p (then h x t k) rest o limits c l =
      let next = o.1 in
      go (closes x k (level p (node g x).counter ∷ rest) o.2 o.3 c.1 (omega (arith, rise g view r x _ next.takes, next.under)))
    where
      go : {m : ℕ} → Closing x k (level p (node g x).counter ∷ rest) m → Closing p (then h x t k) rest m
      go (gap i e) = gap i (inside e)
      go (complete a d) = closing-level p (node g x).counter (then h x t k) rest limits c.0 (λ q. omega arith) (a, d)

  module _ (F : Claim A) (mi : Possible g F) where
    -- what the search finds, where n has a place in f
    pub data Lacked (p : ℕ) (f : Kids A) : ℕ → Type 0 where
      lacked : {m : ℕ} → 0 < m → At (And F (λ p f n. Short g p f n m)) p f n → Lacked p f m
      ready : At (And F (Ready g)) p f n → Lacked p f 0

    here-level
        : (p c : ℕ) (f : Kids A) (rest : List Level) → Counted g p f cs → F p f n → Done g f
        → Lacked p f (missing g cs n (level p c ∷ rest))
    unfolding missing
    here-level p c f rest k h done = rw (eq-eqb p (node g n).parent (sym (mi p f n h).under)) (go (taking-level p f k (mi p f n h).under))
      where
        go : {m : ℕ} → Least g (LacksBefore g (node g n).counter p f) m → Lacked p f (or_else m 0)
        go (least {m = m} i l) = rw (or_else-some m 0 i) (lacked i (here (h, earlier done l)))
        go (absent never) =
            ready (here (
              h,
              record {
                due = λ m e q i. present p f m e q (λ l. never m (record { lacks = l; earlier = i }));
                done = done;
              },
            ))

    pub lacks-at
        : (p : ℕ) (f : Kids A) (rest : List Level) → At F p f n → Open g view p f → Counts g p f cs → Lacked p f (missing g cs n (spine g p f rest))
    unfolding Open Counts Done
    lacks-at p none rest (here h) o c = here-level p 0 none rest c h tt
    lacks-at p (then l x t k) rest (here h) o c =
        let next = o.1 in
        let up : (node g n).parent < x = omega (arith, rise g view r x _ next.takes, next.under, (mi p (then l x t k) n h).under) in
        go (closes x k (level p (node g x).counter ∷ rest) o.2 o.3 c.1 up)
      where
        go : {m : ℕ} → Closing x k (level p (node g x).counter ∷ rest) m → Lacked p (then l x t k) m
        go (gap i e) = lacked i (here (h, closing e))
        go (complete a d) = here-level p (node g x).counter (then l x t k) rest c.0 h (a, d)
    lacks-at p (then l x t k) rest (below d) o c = go (lacks-at x k (level p (node g x).counter ∷ rest) d o.2 c.1)
      where
        go : {m : ℕ} → Lacked x k m → Lacked p (then l x t k) m
        go (lacked i e) = lacked i (below e)
        go (ready e) = ready (below e)
