-- The words of the states are right: each leads where the pass over the components would, by one computation over all states.
use Prim.Native.Nat.{ℕ, zero, suc, ◌+◌, ◌/◌, ◌%◌, ◌≤◌, ◌<◌}
use mathlib.Core.Bool.{Bool, true, not, cond, ◌&&◌, ◌||◌}
use mathlib.Core.Path.{◌≡◌, subst, ◌∙◌}
use lib.ListN.{get_or}
use lib.Dec.{T, eqb, ltb, leb, eqb→eq, ltb→lt, leb→le}
use borrow.Author.Tests.{eq-eqb, ne_eqb}
use mir.Facts.{and_yes}
use Rattle.bytewise.specs.Every.{every}
use Rattle.bytewise.proofs.Every.{every-at}
use Rattle.page.specs.workers.Cells.{Spot, spot, spot_of, states, cell_of, steps_of, may_end, row_of_cell}
use Rattle.page.proofs.words.Ties.{element_table, row_table}

-- the word of an element of a page, and that of a component's row
unfoldable pub word_at : ℕ → ℕ → ℕ
word_at p e = get_or element_table (p % 1024 + e) 0

unfoldable pub word_of : Spot → ℕ
word_of q = word_at q.page q.element

unfoldable pub row_word : Spot → ℕ
row_word q = get_or row_table (word_of q % 1024 + q.component) 0

-- the mood of an element before its first component, and after a component of n bytes on a row
unfoldable pub opening_of : ℕ → ℕ
opening_of w = cond (eqb (w / 1048576) 1) 1 0

unfoldable pub mood_on : ℕ → ℕ → ℕ → ℕ
mood_on zero m r = cond (eqb m 0) (cond (leb 2 (r / 65536 % 4)) 2 0) 1
mood_on (suc n) m r = 1

-- tests joined: both, b if n is not 0, b if a
unfoldable pub both : Bool → Bool → Bool
both a b = a && b

unfoldable pub if_some : ℕ → Bool → Bool
if_some n b = eqb n 0 || b

unfoldable pub if_so : Bool → Bool → Bool
if_so a b = not a || b

-- an empty component is no fault
unfoldable pub calm : ℕ → ℕ → ℕ → Bool
calm zero m r = eqb m 0 || not (leb 2 (r / 65536 % 4))
calm (suc n) m r = true

-- no must row is left behind component c
unfoldable pub last_row : ℕ → ℕ → ℕ → Bool
last_row m w c = not (eqb m 1) || leb (w / 32768 % 32) (c + 1)

-- what is kept of a component's place
unfoldable pub kept_of : ℕ → ℕ → ℕ
kept_of zero zero = 1
kept_of zero (suc c) = 0
kept_of (suc zero) c = 0
kept_of (suc (suc zero)) zero = 2
kept_of (suc (suc zero)) (suc c) = 0
kept_of (suc (suc (suc e))) c = 0

-- the spots behind a component of n bytes: the next component's, and the next element's
unfoldable pub further_of : ℕ → Spot → Spot
further_of n q = spot q.page q.element (q.component + 1) (mood_on n q.mood (row_word q))

unfoldable pub behind_of : Spot → Spot
behind_of q = spot q.page (q.element + 1) 0 (opening_of (word_at q.page (q.element + 1)))

unfoldable pub same : Spot → Spot → Bool
same a b = both (eqb a.page b.page) (both (eqb a.element b.element) (both (eqb a.component b.component) (eqb a.mood b.mood)))

-- the state n is one before the spot q
unfoldable pub leads : ℕ → Spot → Bool
leads n q = both (ltb n states) (same (spot_of n) q)

-- the row of a cell is the row r without its status, or none
unfoldable pub freed : ℕ → ℕ → Bool
freed w r =
    if_some (w / 1048576)
    (both (not (eqb (r / 65536 % 4) 0))
    (both (eqb (w / 1048576) (r / 1048576))
    (both (eqb (w / 262144 % 4) (r / 262144 % 4)) (both (eqb (w % 1024) (r % 1024)) (eqb (w / 1024 % 64) (r / 1024 % 64))))))

-- the element and the row are there, and the row's word is right
unfoldable fits_spot : ℕ → Spot → Bool
fits_spot w q =
    both (ltb q.element (q.page / 1024 % 32))
    (both (ltb q.component (word_of q / 1024 % 32))
    (both (ltb q.mood 2)
    (both (eqb (w / 65536 % 4) (kept_of q.element q.component))
    (both (freed w (row_word q)) (if_so (eqb q.component 0) (eqb q.mood (opening_of (word_of q))))))))

-- the steps behind a component of n bytes are right, and whether the segment may end there
module _ (n s : ℕ) where
  abbrev q : Spot
  q = spot_of s

  abbrev t : ℕ
  t = steps_of (cell_of s) n

  abbrev known : Bool
  known = both (not (eqb s 0)) (calm n q.mood (row_word q))

  abbrev last : Bool
  last = last_row (mood_on n q.mood (row_word q)) (word_of q) q.component

  unfoldable further_right : Bool
  further_right = if_some (t % 256) (both known (leads (t % 256) (further_of n q)))

  unfoldable behind_right : Bool
  behind_right = if_some (t / 0x100 % 256) (both known (both last (leads (t / 0x100 % 256) (behind_of q))))

  unfoldable end_right : Bool
  end_right = if_so (may_end (cell_of s) n) (both known (both last (leb (q.page / 32768) (q.element + 1))))

  unfoldable steps_right : Bool
  steps_right = both further_right (both behind_right end_right)

unfoldable right : ℕ → Bool
right s = both (if_some s (fits_spot (row_of_cell (cell_of s)) (spot_of s))) (both (steps_right 0 s) (steps_right 1 s))

all_right : T (every right states)
unfolding
    every both if_some if_so right steps_right further_right behind_right end_right fits_spot freed leads same behind_of further_of kept_of last_row calm
    mood_on
    opening_of row_word word_of word_at spot_of cell_of
all_right = tt

-- ---- what that says of one state

pub each : (a b : Bool) → T (both a b) → T a × T b
unfolding both
each a b h = and_yes a b h

pub unless : (n : ℕ) (b : Bool) → T (if_some n b) → (n ≡ 0 → ⊥) → T b
unfolding if_some
unless n b h z = subst (λ (v : Bool). T (v || b)) (ne_eqb n 0 z) h

given : (a b : Bool) → T (if_so a b) → a ≡ true → T b
unfolding if_so
given a b h e = subst (λ (v : Bool). T (not v || b)) e h

differs : (s : ℕ) → T (not (eqb s 0)) → s ≡ 0 → ⊥
differs s h e = subst (λ (v : Bool). T (not v)) (eq-eqb s 0 e) h

-- the spot of a state
pub record Fits (w : ℕ) (q : Spot) : Type 0 where
  pub element : q.element < q.page / 1024 % 32
  pub component : q.component < word_of q / 1024 % 32
  pub mood : q.mood < 2
  pub kept : w / 65536 % 4 ≡ kept_of q.element q.component
  pub row : T (freed w (row_word q))
  pub opens : q.component ≡ 0 → q.mood ≡ opening_of (word_of q)

fits : (w : ℕ) (q : Spot) → T (fits_spot w q) → Fits w q
unfolding fits_spot
fits w q h =
    let a = each _ _ h in
    let b = each _ _ a.1 in
    let c = each _ _ b.1 in
    let k = each _ _ c.1 in
    let f = each _ _ k.1 in
    record {
      element = ltb→lt q.element (q.page / 1024 % 32) a.0;
      component = ltb→lt q.component (word_of q / 1024 % 32) b.0;
      mood = ltb→lt q.mood 2 c.0;
      kept = eqb→eq (w / 65536 % 4) (kept_of q.element q.component) k.0;
      row = f.0;
      opens = λ e. eqb→eq q.mood (opening_of (word_of q)) (given _ _ f.1 (eq-eqb q.component 0 e));
    }

same_spot : (a b : Spot) → T (same a b) → a ≡ b
unfolding same
same_spot a b h =
    let p = each _ _ h in
    let e = each _ _ p.1 in
    let c = each _ _ e.1 in
    let p1 : a.page ≡ b.page = eqb→eq a.page b.page p.0 in
    let e1 : a.element ≡ b.element = eqb→eq a.element b.element e.0 in
    let c1 : a.component ≡ b.component = eqb→eq a.component b.component c.0 in
    let m1 : a.mood ≡ b.mood = eqb→eq a.mood b.mood c.1 in
    λ i. record { page = p1 i; element = e1 i; component = c1 i; mood = m1 i }

led : (n : ℕ) (q : Spot) → T (leads n q) → (n < states) × (spot_of n ≡ q)
unfolding leads
led n q h =
    let p = each _ _ h in
    (ltb→lt n states p.0, same_spot _ _ p.1)

module _ (s : ℕ) (low : s < states) where
  right-here : T (right s)
  right-here = every-at right states s all_right low

  pub cell_fits : (s ≡ 0 → ⊥) → Fits (row_of_cell (cell_of s)) (spot_of s)
  unfolding right
  cell_fits h = fits _ _ (unless s _ (each _ _ right-here).0 h)

  steps-right : (n : ℕ) → T (steps_right n s)
  unfolding right steps_right further_right behind_right end_right calm further_of mood_on
  steps-right zero = (each _ _ (each _ _ right-here).1).0
  steps-right (suc n) = (each _ _ (each _ _ right-here).1).1

  module _ (n : ℕ) where
    abbrev spot_here : Spot
    spot_here = spot_of s

    pub cell_further
        : (r : ℕ) → r ≡ steps_of (cell_of s) n % 256 → (r ≡ 0 → ⊥)
        → (s ≡ 0 → ⊥) × T (calm n spot_here.mood (row_word spot_here)) × (r < states) × (spot_of r ≡ further_of n spot_here)
    unfolding steps_right further_right
    cell_further r e z =
        let h = unless _ _ (each _ _ (steps-right n)).0 (λ k. z (e ∙ k)) in
        let k = each _ _ h in
        let g = each _ _ k.0 in
        let l = led _ _ k.1 in
        (differs s g.0, g.1, rw e l.0, rw e l.1)

    pub cell_behind
        : (r : ℕ) → r ≡ steps_of (cell_of s) n / 0x100 % 256 → (r ≡ 0 → ⊥)
        → (s ≡ 0 → ⊥) × T (calm n spot_here.mood (row_word spot_here))
        × T (last_row (mood_on n spot_here.mood (row_word spot_here)) (word_of spot_here) spot_here.component) × (r < states)
        × (spot_of r ≡ behind_of spot_here)
    unfolding steps_right behind_right
    cell_behind r e z =
        let h = unless _ _ (each _ _ (each _ _ (steps-right n)).1).0 (λ k. z (e ∙ k)) in
        let k = each _ _ h in
        let g = each _ _ k.0 in
        let f = each _ _ k.1 in
        let l = led _ _ f.1 in
        (differs s g.0, g.1, f.0, rw e l.0, rw e l.1)

    pub cell_end
        : may_end (cell_of s) n ≡ true
        → (s ≡ 0 → ⊥) × T (calm n spot_here.mood (row_word spot_here))
        × T (last_row (mood_on n spot_here.mood (row_word spot_here)) (word_of spot_here) spot_here.component)
        × (spot_here.page / 32768 ≤ spot_here.element + 1)
    unfolding steps_right end_right
    cell_end e =
        let h = given _ _ (each _ _ (each _ _ (steps-right n)).1).1 e in
        let k = each _ _ h in
        let g = each _ _ k.0 in
        let f = each _ _ k.1 in
        (differs s g.0, g.1, f.0, leb→le (spot_here.page / 32768) (spot_here.element + 1) f.1)
