-- The walk over a message's segments that fills the row, in the words of what the workers answer.
use Prim.Native.Nat.{ℕ, suc, ◌+◌, ◌-◌, ◌/◌, ◌≤◌, ◌<◌, min}
use mathlib.Core.Path.{◌≡◌, refl, sym, ◌∙◌}
use mathlib.Core.List.{List, [], ◌∷◌, map}
use native.Mathlib.Decide.{dec_le}
use native.Mathlib.Nat.{add-zero, zero-add}
use native.Mathlib.Omega.{arith}
use lib.ListN.{length, take, drop, length-take, length-drop, length-map}
use lib.Seq.{drop-nil}
use lib.IntN.{ℤ}
use borrow.Author.Tests.{le-leb, lt-leb}
use Rattle.cut.specs.declared.service.Syntax.{Syntax}
use Rattle.bytewise.specs.Bytes.{part}
use Rattle.cut.specs.Segments.{Segment, end_of, segments_at}
use Rattle.price.specs.declared.kinds.Kind.{Kind}
use Rattle.price.specs.declared.kinds.Kind.TheVariants.{Lin, Pri, Rng, Other}
use Rattle.price.specs.declared.spots.Spot.{Spot}
use Rattle.std.specs.Prelude.{Option, Some, None, IfSome}
use Rattle.price.specs.declared.spots.Held.{Held}
use Rattle.price.specs.declared.numbers.Numbers.{Numbers}
use Rattle.price.specs.Numbers.{Listed, place_of_first, numbers_of}
use Rattle.price.specs.Listing.{kind_of, rng_by, rng_next, lin_by, price_by, prices_from, no_lin, prices_of}
use Rattle.price.specs.Rows.{fitting}
use Rattle.price.specs.Calls.{numbers_from, filled_of, row_after}
use Rattle.price.specs.workers.Parts.{first_held, segment_in, head_spot, add_by, moved_by, rng_in, listed_in, put_found, Within, Holding}
use Rattle.price.proofs.spots.Heads.{Spotted, spotted, spot-nothing}
use Rattle.price.proofs.filling.Runs.{put_all, put-all}
use Rattle.price.proofs.spots.Steps.{
  Standing,
  standing-first,
  standing_on,
  standing-within,
  this,
  price,
  behind,
  step,
}

-- the RNG that stands next is all that a price's numbers say of it: its place
rng-spot : (base : ℕ) (d : List ℕ) (k : Kind) (s t : Segment) → s.start ≡ t.start → place_of_first base (rng_by k s) ≡ place_of_first base (rng_by k t)
unfolding place_of_first
rng-spot base d Rng s t h = rw h
rng-spot base d Lin s t h = refl
rng-spot base d Pri s t h = refl
rng-spot base d Other s t h = refl

rng-next : (base : ℕ) (d : List ℕ) (ss : List Segment) (next : Option Spot) → next ≡ head_spot ss → place_of_first base (rng_next ss)
    ≡ place_of_first base (rng_in d next)
unfolding head_spot rng_next rng_in
rng-next base d [] next h = rw h
rng-next base d (t ∷ ts) next h = rw h (rng-spot base d (kind_of t.bytes) t (segment_in d t.start (end_of t)) refl)

-- the numbers of the price that the walk is at
numbers-here
    : (y : Syntax) (d : List ℕ) (base : ℕ) (p : Held) (lin pri : Segment) (s e : ℕ) (ss : List Segment) (next : Option Spot) → Holding d p.lin lin
    → pri.start ≡ s → pri.bytes ≡ part s e d → next ≡ head_spot ss
    → numbers_of y base (record { position = p.number; lin = lin; price = record { pri = pri; rng = rng_next ss } })
    ≡ numbers_of y base (listed_in d p s e next)
unfolding numbers_of
numbers-here y d base p lin pri s e ss next w a b h = rw (w.starts, w.bytes, a, b, rng-next base d ss next h)

-- how many prices, and what is in the row, one segment further
count_next : (k : Kind) (q : Listed) (qs : List Listed) (seen : ℕ) → seen + length (price_by k q qs) ≡ seen + add_by k + length qs
count_next Pri q qs seen = omega arith
count_next Lin q qs seen = omega arith
count_next Rng q qs seen = omega arith
count_next Other q qs seen = omega arith

module _ (y : Syntax) (base k seen : ℕ) (row : List ℤ) (q : Listed) (qs : List Listed) where
  price-next
      : Dec (k ≤ seen)
      → put_all row (seen - k) (numbers_from y base (k - seen) (q ∷ qs))
      ≡ put_all (put_found Pri k seen (numbers_of y base q) row) (seen + 1 - k) (numbers_from y base (k - (seen + 1)) qs)
  unfolding put_all put_found numbers_from
  price-next (yes h) =
      let a : k - seen ≡ 0 = omega arith in
      let b : k - (seen + 1) ≡ 0 = omega arith in
      let c : seen + 1 - k ≡ seen - k + 1 = omega arith in
      rw (a, b, c, le-leb k seen h)
  price-next (no h) =
      let a : k - seen ≡ suc (k - (seen + 1)) = omega arith in
      let b : seen - k ≡ 0 = omega arith in
      let c : seen + 1 - k ≡ 0 = omega arith in
      let l : seen < k = omega arith in
      rw (a, b, c, lt-leb k seen l)

  fill_next
      : (kind : Kind)
      → put_all row (seen - k) (numbers_from y base (k - seen) (price_by kind q qs))
      ≡ put_all (put_found kind k seen (numbers_of y base q) row) (seen + add_by kind - k) (numbers_from y base (k - (seen + add_by kind)) qs)
  unfolding put_found
  fill_next Pri = price-next (dec_le k seen)
  fill_next Lin = rw (add-zero seen)
  fill_next Rng = rw (add-zero seen)
  fill_next Other = rw (add-zero seen)

put-none : (y : Syntax) (base : ℕ) (row : List ℤ) (n m : ℕ) → put_all row n (numbers_from y base m []) ≡ row
unfolding put_all numbers_from
put-none y base row n m = rw (drop-nil m)

-- how much of the delivery is left
unfoldable pub left_to : List ℕ → Option Spot → ℕ
left_to d None = 0
left_to d (Some s) = suc (length d - s.start)

few-next : (k : Kind) (seen at e : ℕ) → seen ≤ at → at < e → seen + add_by k ≤ e
few-next Pri seen at e h l = omega arith
few-next Lin seen at e h l = omega arith
few-next Rng seen at e h l = omega arith
few-next Other seen at e h l = omega arith

module _ (y : Syntax) (d : List ℕ) (k : ℕ) where
  -- all prices, and the numbers of those that are wanted
  abbrev all : List Listed
  all = prices_of 0 (segments_at y d 0)

  abbrev wanted : List Numbers
  wanted = numbers_from y 0 k all

  -- the walk has come to the place `at`, in the position p, and has passed `seen` prices; those that are left fill the row as all fill the first
  pub record Filling (row₀ row : List ℤ) (seen : ℕ) (p : Held) (spot : Option Spot) : Type 0 where
    pub at : ℕ
    pub lin : Segment
    pub stands : Standing d 0 at p lin
    pub here : spot ≡ head_spot (segments_at y d at)
    pub total : seen + length (prices_from p.number lin (segments_at y d at)) ≡ length all
    pub filled :
        put_all row (seen - k) (numbers_from y 0 (k - seen) (prices_from p.number lin (segments_at y d at))) ≡ put_all row₀ 0 wanted
    pub size : length row ≡ length row₀
    pub few : seen ≤ at

  pub filling_first
      : (row : List ℤ) (spot : Option Spot) → spot ≡ head_spot (segments_at y d 0) → Filling row row 0 (first_held 0) spot
  unfolding prices_of
  filling_first row spot h =
      let z : 0 - k ≡ 0 = omega arith in
      let w : k - 0 ≡ k = omega arith in
      record {
        at = 0;
        lin = no_lin 0;
        stands = standing-first d 0;
        here = h;
        total = zero-add _;
        filled = rw (z, w);
        size = refl;
        few = omega arith;
      }

  module _ (row₀ row : List ℤ) (seen : ℕ) (p : Held) (spot : Option Spot) (i : Filling row₀ row seen p spot) where
    -- no segment is left
    pub filling_out
        : (w : ℕ) → spot ≡ None → w ≡ min (seen - k) (length row / 8)
        → (record { written = w; total = seen } ≡ filled_of y 0 k all row₀) × (row ≡ row_after y 0 k all row₀)
    unfolding prices_from put_all numbers_from filled_of row_after fitting
    filling_out w h c =
        let n : segments_at y d i.at ≡ [] = spot-nothing y d i.at (sym h ∙ i.here) in
        let t : seen ≡ length all = sym (add-zero seen) ∙ rw n at i.total in
        let m : w ≡ min (length row / 8) (seen - k) = omega arith in
        let g : w ≡ length (take (length row₀ / 8) (map (numbers_of y 0) (drop k all))) =
        rw (length-take, length-map, length-drop, ← t, ← i.size) m in
        ((λ j. record { written = g j; total = t j }), sym (put-none y 0 row (seen - k) (k - seen)) ∙ rw n at i.filled ∙ put-all wanted row₀)

    module _ (s : Spot) (is : spot ≡ Some s) where
      took : Spotted y d i.at s
      took = spotted y d i.at s (sym is ∙ i.here)

      pub filling_within : Within p d
      filling_within = standing-within y d i.at s took 0 p i.lin i.stands

      pub filling_place : s.start ≤ length d
      filling_place =
          let q = took.cuts in
          omega (arith, q.some, q.fits)

      pub filling_few : (n : ℕ) → n ≡ seen + add_by s.kind → n ≤ length d
      filling_few n h =
          let q = took.cuts in
          omega (arith, h, few-next s.kind seen i.at s.end i.few (omega (arith, q.later, q.some)), q.fits)

      module _ (next : Option Spot) (then : next ≡ head_spot (segments_at y d s.end)) where
        pub filling_next : IfSome next (λ t. t.start ≤ length d)
        filling_next = go next refl
          where
            go : (x : Option Spot) → next ≡ x → IfSome x (λ t. t.start ≤ length d)
            go None f = tt
            go (Some t) f =
                let z = (spotted y d s.end t (sym f ∙ then)).cuts in
                omega (arith, z.some, z.fits)

        pub filling_less : left_to d next < left_to d spot
        unfolding left_to
        filling_less = rw is (go next refl)
          where
            go : (x : Option Spot) → next ≡ x → left_to d x < suc (length d - s.start)
            go None f = omega arith
            go (Some t) f =
                let q = took.cuts in
                let z = (spotted y d s.end t (sym f ∙ then)).cuts in
                omega (arith, q.some, q.fits, z.later)

        pub filling_on
            : (row' : List ℤ) (n : ℕ) (p' : Held) → row' ≡ put_found s.kind k seen (numbers_of y 0 (listed_in d p s.start s.end next)) row
            → length row' ≡ length row → n ≡ seen + add_by s.kind → p' ≡ moved_by s.kind p s.start s.end → Filling row₀ row' n p' next
        filling_on row' n p' a b c f =
            let q = took.cuts in
            let here = this y d i.at s took in
            let found = price y d i.at s took 0 p i.lin i.stands in
            let left = behind y d i.at s took 0 p i.lin i.stands in
            let on = step y d i.at s took 0 p i.lin i.stands in
            let g =
            numbers-here y d 0 p i.lin here s.start s.end (segments_at y d s.end) next i.stands.holds refl refl then in
            let o : row' ≡ put_found s.kind k seen (numbers_of y 0 found) row = rw g a in
            rw (c, f)
            (record {
              at = s.end;
              lin = lin_by s.kind here i.lin;
              stands = standing_on y d i.at s took 0 p i.lin i.stands;
              here = then;
              total = sym (count_next s.kind found left seen) ∙ rw on at i.total;
              filled = rw o (sym (fill_next y 0 k seen row found left s.kind) ∙ rw on at i.filled);
              size = b ∙ i.size;
              few = few-next s.kind seen i.at s.end i.few (omega (arith, q.later, q.some));
            })
