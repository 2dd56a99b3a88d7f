-- The walk that ends at a segment of an accepted message names that segment's node.
use Prim.Native.Nat.{ℕ, zero, suc, ◌+◌, ◌≤◌}
use mathlib.Core.Path.{◌≡◌, refl, sym}
use mathlib.Core.Bool.{Bool, true, false, cond}
use mathlib.Core.List.{List, [], ◌∷◌, ◌++◌, map}
use native.Mathlib.Omega.{arith}
use lib.ListN.{get_or}
use borrow.Author.Tests.{eq-eqb, ne_eqb}
use Rattle.cut.specs.declared.service.Syntax.{Syntax}
use Rattle.bytewise.specs.Bytes.{bytes_of, begins}
use Rattle.cut.specs.Segments.{Segment, end_of}
use Rattle.cut.proofs.Starts.{Rising}
use Rattle.guide.specs.Accepted.{seen}
use Rattle.guide.specs.Answers.{Answer, placed, refused, accepts, refuses}
use Rattle.guide.specs.workers.Judging.{Memory, segment_answer, remember, decide, judge_from, fresh}
use Rattle.guide.specs.Nodes.{Guide, number_of}
use Rattle.guide.specs.Page.{Page}
use Rattle.guide.specs.workers.Placing.{last_after, given, place}
use Rattle.guide.specs.Views.{view_of}
use Rattle.guide.proofs.judging.Answering.{free_iff}
use Rattle.guide.proofs.judging.Verdicts.{accepts_refuses}
use Rattle.agree.specs.Agreement.{Heading}
use Rattle.agree.proofs.Distinct.{agreeing-same}
use Rattle.agree.specs.Positions.{Listed, agreeing_at, heading_from, positions_from, positions_of, agrees_any, first_after, first_agreeing}
use Rattle.std.specs.Prelude.{Some}
use Rattle.verdict.specs.workers.Until.{judge_until}
use Rattle.verdict.specs.Verdicts.{nodes_of, node_of}

-- segment j of some, counted from 0, begins at p
unfoldable StartsAt : List Segment → ℕ → ℕ → Type 0
StartsAt [] j p = ⊥
StartsAt (s ∷ ss) zero p = s.start ≡ p
StartsAt (s ∷ ss) (suc j) p = StartsAt ss j p

rising-start : (q : ℕ) (ss : List Segment) (j p : ℕ) → Rising q ss → StartsAt ss j p → q ≤ p
unfolding Rising StartsAt
rising-start q [] j p r h = absurd h
rising-start q (s ∷ ss) zero p r h = omega (arith, r.0)
rising-start q (s ∷ ss) (suc j) p r h =
    let z = rising-start (suc s.start) ss j p r.1 h in
    omega (arith, r.0)

-- a position of some segments, of which the first has the number n: its number and place are those of one of them
abbrev Listing : ℕ → List Segment → ℕ → ℕ → Type 0
Listing n ss i p = (j : ℕ) × (i ≡ n + j) × StartsAt ss j p

module _ (y : Syntax) (n : ℕ) (s : Segment) (ss : List Segment) (i p : ℕ) where
  abbrev heading : Heading
  heading = heading_from s.bytes ss

  abbrev others : List Listed
  others = positions_from (n + 1) ss

  abbrev Others : Type 0
  Others = (es : List Heading) → first_after y es others ≡ Some (agreeing_at i p) → Listing (n + 1) ss i p

  later : Listing (n + 1) ss i p → Listing n (s ∷ ss) i p
  unfolding StartsAt
  later f = (suc f.0, omega (arith, f.1), f.2)

  listed_here
      : (es : List Heading) (b : Bool)
      → cond b (Some (agreeing_at n s.start)) (first_after y (es ++ (heading ∷ [])) others) ≡ Some (agreeing_at i p) → Others → Listing n (s ∷ ss) i p
  unfolding StartsAt
  listed_here es true e ih =
      let same = agreeing-same n s.start i p e in
      (0, omega (arith, same.0), same.1)
  listed_here es false e ih = later (ih (es ++ (heading ∷ [])) e)

  listed_step
      : (es : List Heading) (b : Bool)
      → first_after y es (cond b (record { number = n; place = s.start; heading = heading } ∷ others) others) ≡ Some (agreeing_at i p)
      → Others → Listing n (s ∷ ss) i p
  unfolding first_after
  listed_step es true e ih = listed_here es (agrees_any y heading es) e ih
  listed_step es false e ih = later (ih es e)

listed_start : (y : Syntax) (ss : List Segment) (n i p : ℕ) (es : List Heading)
    → first_after y es (positions_from n ss) ≡ Some (agreeing_at i p) → Listing n ss i p
unfolding first_after positions_from
listed_start y [] n i p es h = absurd (let z : ◌≡◌ {A = ℕ} 0 1 = cc in omega arith)
listed_start y (s ∷ ss) n i p es h = listed_step y n s ss i p es (begins (bytes_of "LIN") s.bytes) h (listed_start y ss (n + 1) i p)

module _ (y : Syntax) (g : Guide) (pages : ℕ → Page) where
  -- the nodes of some segments in a state
  abbrev ahead : Memory → List Segment → List ℕ
  ahead m ss = given g (map (seen y) ss) m.state

  -- the walk over some accepted segments that ends at the one that begins at p, segment j of them
  abbrev Ends : ℕ → ℕ → ℕ → Memory → List Segment → ℕ → Type 0
  Ends p i e m ss j = judge_until y g pages p i e m ss ≡ refuses 23 (suc i + j) p (number_of g (get_or (ahead m ss) j 0))

  module _ (k a i e p : ℕ) (m : Memory) (s : Segment) (ss : List Segment) where
    abbrev here : Answer
    here = segment_answer y g pages (suc i) m s

    abbrev Rest : Type 0
    Rest = (c : ℕ) (v : Memory) (j : ℕ) → StartsAt ss j p → judge_from y g pages (suc i) c v ss ≡ accepts k a → Ends p (suc i) c v ss j

    taken : (n : ℕ) → here ≡ placed n → place g (view_of y s.bytes) m.state.last m.state.counts ≡ placed n
    taken n o = ((free_iff y g pages (suc i) m n s).0 o).taken

    ends-first : (n : ℕ) → here ≡ placed n → s.start ≡ p → Ends p i e m (s ∷ ss) 0
    unfolding judge_until given
    ends-first n o x =
        let z : suc i + 0 ≡ suc i = omega arith in
        rw (taken n o, o, x, eq-eqb p p refl, z)

    ends-later
        : (n : ℕ) → here ≡ placed n → (s.start ≡ p → ⊥) → (j : ℕ) → Ends p (suc i) (end_of s) (remember y g pages (placed n) s m) ss j
        → Ends p i e m (s ∷ ss) (suc j)
    unfolding judge_until given last_after
    ends-later n o x j w =
        let z : suc i + suc j ≡ suc (suc i) + j = omega arith in
        rw (taken n o, o, ne_eqb s.start p x, z) w

    ends_placed
        : (n : ℕ) → here ≡ placed n → judge_from y g pages (suc i) (end_of s) (remember y g pages (placed n) s m) ss ≡ accepts k a → Rest
        → (q : ℕ) → Rising q (s ∷ ss) → (j : ℕ) → StartsAt (s ∷ ss) j p → Ends p i e m (s ∷ ss) j
    unfolding Rising StartsAt
    ends_placed n o w ih q r zero x = ends-first n o x
    ends_placed n o w ih q r (suc j) x =
        let l = rising-start (suc s.start) ss j p r.1 x in
        ends-later n o (λ f. omega (arith, f)) j (ih (end_of s) (remember y g pages (placed n) s m) j x w)

    ends_step
        : (o : Answer) → here ≡ o → decide y g pages (suc i) s.start o (judge_from y g pages (suc i) (end_of s) (remember y g pages o s m) ss) ≡ accepts k a
        → Rest → (q : ℕ) → Rising q (s ∷ ss) → (j : ℕ) → StartsAt (s ∷ ss) j p → Ends p i e m (s ∷ ss) j
    ends_step (placed n) o w = ends_placed n o w
    ends_step (refused c n) o w = absurd (accepts_refuses (sym w))

  until_node
      : (ss : List Segment) (k a i p q : ℕ) → Rising q ss → (e : ℕ) (m : Memory) (j : ℕ) → StartsAt ss j p → judge_from y g pages i e m ss ≡ accepts k a
      → Ends p i e m ss j
  unfolding judge_from Rising StartsAt
  until_node [] k a i p q r e m j x v = absurd x
  until_node (s ∷ ss) k a i p q r e m j x v =
      ends_step k a i e p m s ss (segment_answer y g pages (suc i) m s) refl v (until_node ss k a (suc i) p (suc s.start) r.1) q r j x

  -- the segments of a message that is accepted but for 23: the walk up to the position that agrees with an earlier one tells 23
  pub until_agrees
      : (ss : List Segment) (k a q e i p : ℕ) → Rising q ss → judge_from y g pages 0 e fresh ss ≡ accepts k a
      → first_agreeing y (positions_of ss) ≡ Some (agreeing_at i p)
      → judge_until y g pages p 0 e fresh ss ≡ refuses 23 i p (number_of g (node_of y g ss i))
  unfolding first_agreeing positions_of node_of nodes_of
  until_agrees ss k a q e i p r v h =
      let f = listed_start y ss 1 i p [] h in
      let z : i ≡ suc f.0 = omega (arith, f.1) in
      let w : 1 + f.0 ≡ suc f.0 = omega arith in
      rw z (rw w at (until_node ss k a 0 p q r e fresh f.0 f.2 v))
