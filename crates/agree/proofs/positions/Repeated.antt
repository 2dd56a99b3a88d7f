-- The search over the listed positions finds the first LIN that agrees with an earlier one, as document 01 says it over the tree. For every
-- table that passes the tests, `foremost` among them.
use Prim.Native.Nat.{ℕ, suc}
use mathlib.Core.Path.{◌≡◌, sym, ap, ap₂, ◌∙◌}
use mathlib.Core.Logic.{◌↔◌}
use mathlib.Core.List.{List, [], ◌∷◌, ◌++◌, map, head-eq_of_cons-eq, tail-eq_of_cons-eq}
use native.Mathlib.Omega.{arith}
use lib.ListN.{length, length-map}
use lib.Dec.{T}
use Rattle.cut.specs.declared.service.Syntax.{Syntax}
use Rattle.bytewise.specs.Bytes.{bytes_of}
use Rattle.cut.specs.Segments.{Segment}
use Rattle.guide.specs.Nodes.{Guide}
use Rattle.guide.specs.Tree.{Given, giving, assigned, Whole}
use Rattle.guide.specs.workers.Checks.{Passes}
use Rattle.guide.specs.Sheet.{Position, with_tag, positions_in}
use Rattle.guide.specs.workers.Heads.{is_lin, Foremost}
use Rattle.guide.specs.Accepted.{seen, Distinct}
use Rattle.guide.specs.Refusal.{Repeated}
use Rattle.guide.proofs.Basics.{true-T, map-append}
use Rattle.guide.proofs.placing.Growing.{closed_open, assigned-segments}
use Rattle.guide.proofs.placing.Taken.{assigned_taken}
use Rattle.guide.proofs.Lines.{lines_of, with_tag-append, whole-lines}
use Rattle.agree.specs.Agreement.{heading_of}
use Rattle.agree.specs.Positions.{Listed, agreeing_at, agrees_any, positions_from, positions_of, first_after, first_agreeing}
use Rattle.std.specs.Prelude.{Some, None}
use Rattle.agree.proofs.Distinct.{headings, listed, none-distinct, distinct_none}
use Rattle.agree.proofs.Tree.{whole_headings}
use Rattle.agree.proofs.Lines.{Spot, Placed, same_line, listed_at}
use Rattle.agree.proofs.positions.First.{Divided, divided, FirstIn, find_first, first_found, any-earlier, earlier-any}

-- two splits of a list behind equally many have the same element there
same_middle
    : {A : Type 0} (xs zs us vs : List A) (x u : A) → xs ++ (x ∷ zs) ≡ us ++ (u ∷ vs) → length xs ≡ length us → x ≡ u
same_middle [] zs [] vs x u e l = head-eq_of_cons-eq e
same_middle [] zs (v ∷ us) vs x u e l = absurd (omega arith)
same_middle (z ∷ xs) zs [] vs x u e l = absurd (omega arith)
same_middle (z ∷ xs) zs (v ∷ us) vs x u e l = same_middle xs zs us vs x u (tail-eq_of_cons-eq e) (omega arith)

-- lists with the same images are equally long
same_count : {A B C : Type 0} (f : A → C) (k : B → C) (xs : List A) (zs : List B) → map f xs ≡ map k zs → length xs ≡ length zs
same_count f k xs zs e = sym (length-map xs f) ∙ ap length e ∙ length-map zs k

module _ (g : Guide) where
  lines_at
      : (front back : List (Given Segment)) (n : ℕ) (s : Segment) → T (is_lin g n)
      → with_tag g (bytes_of "LIN") (front ++ (giving n s ∷ back)) ≡ with_tag g (bytes_of "LIN") front ++ (s ∷ with_tag g (bytes_of "LIN") back)
  unfolding with_tag
  lines_at front back n s t = with_tag-append g (bytes_of "LIN") front (giving n s ∷ back) ∙ rw (true-T (is_lin g n) t)

module _ (y : Syntax) (g : Guide) (u : ℕ) (p : Passes g u) (h : Foremost g) (ss : List Segment) (w : Whole g (seen y) ss) where
  abbrev positions : List Position
  positions = positions_in g w.tree

  same_headings : headings positions ≡ listed (positions_of ss)
  same_headings = sym (whole_headings y g p.rising h ss w)

  stands
      : (before : List Listed) (q : Listed) (after : List Listed) → positions_of ss ≡ before ++ (q ∷ after)
      → Placed g 1 (assigned w.tree) (length before) q
  unfolding positions_of
  stands before q after e =
      listed_at g y q after 1 (assigned w.tree) (assigned_taken g (seen y) 0 w.tree (closed_open g (seen y) 0 w.tree w.closed)) before
      (ap (positions_from 1) (assigned-segments w.tree ∙ w.same) ∙ e)

  -- the LIN of a position is the LIN with as many in front of it
  own_line
      : (before : List Position) (q : Position) (after : List Position) → positions ≡ before ++ (q ∷ after)
      → (x : Spot g (assigned w.tree) (length before)) → x.line ≡ q.lin
  own_line before q after e x =
      same_middle (with_tag g (bytes_of "LIN") x.front) (with_tag g (bytes_of "LIN") x.back) (lines_of before) (lines_of after) x.line q.lin
      (sym (lines_at g x.front x.back x.node x.line x.lin)
      ∙ ap (with_tag g (bytes_of "LIN")) (sym x.all)
      ∙ sym (whole-lines (seen y) g p.rising h ss w)
      ∙ ap lines_of e
      ∙ map-append (λ (z : Position). z.lin) before (q ∷ after))
      (x.lines ∙ sym (length-map before (λ (z : Position). z.lin)))

  -- a position that is read off the tree, and the same one as it is listed: its LIN
  pub record Whereabouts (before : List Position) (r : Position) (q : Listed) : Type 0 where
    pub spot : Spot g (assigned w.tree) (length before)
    pub line : spot.line ≡ r.lin
    pub number : q.number ≡ suc (length spot.front)
    pub place : q.place ≡ r.lin.start

  whereabouts
      : (before : List Position) (r : Position) (after : List Position) (earlier : List Listed) (q : Listed) (later : List Listed)
      → positions ≡ before ++ (r ∷ after) → positions_of ss ≡ earlier ++ (q ∷ later) → headings before ≡ listed earlier
      → Whereabouts before r q
  whereabouts before r after earlier q later e d i =
      let n : length earlier ≡ length before = sym (same_count _ _ before earlier i) in
      let x : Placed g 1 (assigned w.tree) (length before) q = rw n at (stands earlier q later d) in
      let l = own_line before r after e x.0 in
      record { spot = x.0; line = l; number = omega (arith, x.1); place = x.2 ∙ ap (λ (z : Segment). z.start) l }

  -- the first that is found, and the position that it is
  repeated-at
      : (q : Listed) (f : FirstIn y [] (positions_of ss) q)
      → (d : Divided (λ (z : Position). heading_of z) positions (listed f.before) q.heading) → Whereabouts d.before d.item q
      → (n : ℕ) × Repeated y g w.tree q.number q.place n
  unfolding first_agreeing
  repeated-at q f d x =
      let earlier = any-earlier y d.item d.before (ap₂ (agrees_any y) d.image d.images ∙ f.agrees) in (
        x.spot.node,
        record {
          before = d.before;
          repeats = d.item;
          after = d.after;
          positions = d.all;
          distinct = none-distinct y d.before f.before d.images f.none;
          earlier = earlier.0;
          among = earlier.1;
          agrees = earlier.2;
          front = x.spot.front;
          back = x.spot.back;
          segments = rw (sym x.line) x.spot.all;
          line = x.spot.lin;
          lines = x.spot.lines;
          number = x.number;
          place = x.place;
        },
      )

  found-repeated : (i a : ℕ) → first_agreeing y (positions_of ss) ≡ Some (agreeing_at i a) → (n : ℕ) × Repeated y g w.tree i a n
  unfolding first_agreeing
  found-repeated i a e =
      let r = find_first y (positions_of ss) [] i a e in
      go r.0 r.1 r.2 r.3
    where
      go : (q : Listed) → FirstIn y [] (positions_of ss) q → i ≡ q.number → a ≡ q.place → (n : ℕ) × Repeated y g w.tree i a n
      go q f b c =
          let split = ap listed f.all ∙ map-append (λ (z : Listed). z.heading) f.before (q ∷ f.after) in
          let d =
          divided (λ (z : Position). heading_of z) positions (listed f.before) q.heading (listed f.after) (same_headings ∙ split)
          in
          rw (b, c) (repeated-at q f d (whereabouts d.before d.item d.after f.before q f.after d.all f.all d.images))

  -- what repeats an earlier one is found
  found_at
      : (i a n : ℕ) (r : Repeated y g w.tree i a n)
      → (d : Divided (λ (z : Listed). z.heading) (positions_of ss) (headings r.before) (heading_of r.repeats))
      → Whereabouts r.before r.repeats d.item → first_agreeing y (positions_of ss) ≡ Some (agreeing_at i a)
  unfolding first_agreeing
  found_at i a n r d x =
      let agrees = ap₂ (agrees_any y) d.image d.images ∙ earlier-any y r.repeats r.earlier r.before r.among r.agrees in
      let none = distinct_none y r.before d.before (sym d.images) r.distinct in
      let s = x.spot in
      let one =
      same_line g s.front s.back r.front r.back s.node n s.line r.repeats.lin (sym s.all ∙ r.segments) s.lin r.line
      (s.lines ∙ sym r.lines)
      in
      ap (first_after y []) d.all ∙ first_found y [] d.before d.item d.after none agrees
      ∙ ap₂ (λ (j b : ℕ). Some (agreeing_at j b)) (omega (arith, x.number, one.0, r.number)) (x.place ∙ sym r.place)

  repeated-found : (i a n : ℕ) → Repeated y g w.tree i a n → first_agreeing y (positions_of ss) ≡ Some (agreeing_at i a)
  repeated-found i a n r =
      let split = ap headings r.positions ∙ map-append (λ (z : Position). heading_of z) r.before (r.repeats ∷ r.after) in
      let d =
      divided (λ (z : Listed). z.heading) (positions_of ss) (headings r.before) (heading_of r.repeats) (headings r.after)
      (sym same_headings ∙ split)
      in
      found_at i a n r d (whereabouts r.before r.repeats r.after d.before d.item d.after r.positions d.all (sym d.images))

  -- 23 is found at segment i and place a exactly if the LIN there is the first that agrees with an earlier one
  pub agreeing_repeated : (i a : ℕ) → (first_agreeing y (positions_of ss) ≡ Some (agreeing_at i a)) ↔ ((n : ℕ) × Repeated y g w.tree i a n)
  agreeing_repeated i a = (found-repeated i a, λ r. repeated-found i a r.0 r.1)

  -- and it is not found exactly if no two positions agree
  pub agreeing_none : (first_agreeing y (positions_of ss) ≡ None) ↔ Distinct y positions
  agreeing_none = (none-distinct y positions (positions_of ss) same_headings, distinct_none y positions (positions_of ss) same_headings)
