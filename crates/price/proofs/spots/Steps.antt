-- Where a walk over a message's segments stands, and one segment further.
use Prim.Native.Nat.{ℕ, ◌+◌, ◌≤◌, ◌<◌}
use native.Mathlib.Nat.{add-zero}
use mathlib.Core.Path.{◌≡◌, refl, sym, ap, ◌∙◌}
use mathlib.Core.List.{List, ◌∷◌}
use native.Mathlib.Omega.{arith}
use Rattle.cut.specs.declared.service.Syntax.{Syntax}
use Rattle.bytewise.specs.Bytes.{part}
use Rattle.cut.specs.Segments.{Segment, segments_at}
use Rattle.bytewise.proofs.Parts.{part_none}
use Rattle.price.specs.declared.kinds.Kind.{Kind}
use Rattle.price.specs.declared.kinds.Kind.TheVariants.{Lin, Pri, Rng, Other}
use Rattle.price.specs.declared.spots.Held.{Held}
use Rattle.price.specs.declared.spots.Spot.{Spot}
use Rattle.price.specs.Numbers.{Listed}
use Rattle.price.specs.Listing.{kind_of, rng_next, number_by, lin_by, price_by, prices_from, no_lin}
use Rattle.price.specs.workers.Parts.{first_held, add_by, moved_by, Within, Holding}
use Rattle.price.proofs.spots.Heads.{Spotted}

-- the prices from a segment on, by its kind
pub prices-next
    : (n : ℕ) (lin s : Segment) (ss : List Segment) (k : Kind) → kind_of s.bytes ≡ k
    → prices_from n lin (s ∷ ss)
    ≡ price_by k (record { position = n; lin = lin; price = record { pri = s; rng = rng_next ss } }) (prices_from (number_by k n) (lin_by k s lin) ss)
unfolding prices_from
prices-next n lin s ss k h = rw h

-- the walk has come to the place `at` and holds the position p, whose LIN is `lin`
pub record Standing (d : List ℕ) (start at : ℕ) (p : Held) (lin : Segment) : Type 0 where
  pub holds : Holding d p.lin lin
  pub number : p.number ≤ at
  pub from : start ≤ p.lin.start
  pub to : p.lin.start ≤ at
  pub ends : p.lin.end ≤ at

pub standing-first : (d : List ℕ) (start : ℕ) → Standing d start start (first_held start) (no_lin start)
standing-first d start =
    record {
      holds = record { starts = refl; bytes = sym (part_none d start start (omega arith)) };
      number = omega arith;
      from = omega arith;
      to = omega arith;
      ends = omega arith;
    }

-- a segment of this kind adds one price, or none
pub adds_one : (k : Kind) (m : ℕ) → k ≡ Pri → m + 1 ≡ m + add_by k
adds_one k m h = rw h

pub adds_none : (k : Kind) (m : ℕ) → ¬ (k ≡ Pri) → m ≡ m + add_by k
adds_none Pri m f = absurd (f refl)
adds_none Lin m f = sym (add-zero m)
adds_none Rng m f = sym (add-zero m)
adds_none Other m f = sym (add-zero m)

pub number-next : (k : Kind) (p : Held) (s e : ℕ) → (moved_by k p s e).number ≡ number_by k p.number
number-next Lin p s e = refl
number-next Pri p s e = refl
number-next Rng p s e = refl
number-next Other p s e = refl

standing-next
    : (d : List ℕ) (start : ℕ) (p : Held) (lin t : Segment) (at s e : ℕ) (k : Kind) → Standing d start at p lin → t.start ≡ s → t.bytes ≡ part s e d
    → at ≤ s → s < e → Standing d start e (moved_by k p s e) (lin_by k t lin)
standing-next d start p lin t at s e Lin w a b z l =
    record {
      holds = record { starts = a; bytes = b };
      number = omega (arith, w.number);
      from = omega (arith, w.from, w.to);
      to = omega arith;
      ends = omega arith;
    }
standing-next d start p lin t at s e Pri w a b z l =
    record { holds = w.holds; number = omega (arith, w.number); from = w.from; to = omega (arith, w.to); ends = omega (arith, w.ends) }
standing-next d start p lin t at s e Rng w a b z l =
    record { holds = w.holds; number = omega (arith, w.number); from = w.from; to = omega (arith, w.to); ends = omega (arith, w.ends) }
standing-next d start p lin t at s e Other w a b z l =
    record { holds = w.holds; number = omega (arith, w.number); from = w.from; to = omega (arith, w.to); ends = omega (arith, w.ends) }

module _ (y : Syntax) (d : List ℕ) (at : ℕ) (s : Spot) (q : Spotted y d at s) where
  -- the segment that stands there
  abbrev pub this : Segment
  this = record { start = s.start; bytes = part s.start s.end d; piece = q.piece }

  module _ (start : ℕ) (p : Held) (lin : Segment) (w : Standing d start at p lin) where
    pub standing_on : Standing d start s.end (moved_by s.kind p s.start s.end) (lin_by s.kind this lin)
    standing_on =
        let c = q.cuts in
        standing-next d start p lin this at s.start s.end s.kind w refl refl c.later c.some

    pub standing-within : Within p d
    standing-within =
        let c = q.cuts in
        record { number = omega (arith, w.number, c.later, c.some, c.fits); to = omega (arith, w.to, c.later, c.some, c.fits) }

    -- its price, if it gives one, and the prices behind it
    abbrev pub price : Listed
    price = record { position = p.number; lin = lin; price = record { pri = this; rng = rng_next (segments_at y d s.end) } }

    abbrev pub behind : List Listed
    behind = prices_from (moved_by s.kind p s.start s.end).number (lin_by s.kind this lin) (segments_at y d s.end)

    pub step : prices_from p.number lin (segments_at y d at) ≡ price_by s.kind price behind
    step =
        let c = q.cuts in
        ap (prices_from p.number lin) c.list ∙ prices-next p.number lin this (segments_at y d s.end) s.kind (sym q.kind)
        ∙ rw (number-next s.kind p s.start s.end)
