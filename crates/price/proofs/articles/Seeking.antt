-- The walk to the k-th price, and its article.
use Prim.Native.Nat.{ℕ, suc, ◌+◌, ◌≤◌, ◌<◌}
use mathlib.Core.Path.{◌≡◌, refl, sym, subst, ◌∙◌}
use mathlib.Core.List.{List, [], ◌∷◌}
use native.Mathlib.Nat.{add-zero}
use native.Mathlib.Omega.{arith}
use lib.ListN.{length, drop}
use lib.Seq.{drop-nil}
use Rattle.cut.specs.declared.service.Syntax.{Syntax}
use Rattle.cut.specs.Segments.{Segment, segments_at}
use Rattle.price.specs.declared.kinds.Kind.{Kind}
use Rattle.price.specs.declared.kinds.Kind.TheVariants.{Lin, Pri, Rng, Other}
use Rattle.price.specs.declared.spots.Spot.{Spot}
use Rattle.std.specs.Prelude.{Option, Some, None}
use Rattle.price.specs.declared.spots.Held.{Held}
use Rattle.price.specs.Numbers.{Listed}
use Rattle.price.specs.Listing.{lin_by, price_by, prices_from, no_lin, prices_of}
use Rattle.price.specs.workers.Parts.{first_held, head_spot, add_by, moved_by, HeldFirst, HeldAt}
use Rattle.price.proofs.spots.Heads.{Spotted, spotted, spot-nothing}
use Rattle.price.proofs.spots.Steps.{Standing, standing-first, standing_on, this, price, behind, step}

finds : (k : Kind) (left : ℕ) (q : Listed) (qs : List Listed) → k ≡ Pri → left ≡ 0 → drop left (price_by k q qs) ≡ q ∷ qs
finds k left q qs h z = rw (h, z)

-- a segment that is not the price that is looked for
passes
    : (k : Kind) (left n : ℕ) (q : Listed) (qs : List Listed) → left ≡ n + add_by k → drop left (price_by k q qs) ≡ drop n qs
passes Pri left n q qs h =
    let z : left ≡ suc n = omega arith in
    rw z
passes Lin left n q qs h = rw (h ∙ add-zero n)
passes Rng left n q qs h = rw (h ∙ add-zero n)
passes Other left n q qs h = rw (h ∙ add-zero n)

module _ (y : Syntax) (d : List ℕ) (start k : ℕ) where
  abbrev all : List Listed
  all = prices_of start (segments_at y d start)

  abbrev wanted : List Listed
  wanted = drop k all

  -- the walk has come to the place `at`, in the position p, and is to pass `left` prices more
  pub record Seeking (at left : ℕ) (p : Held) : Type 0 where
    pub lin : Segment
    pub stands : Standing d start at p lin
    pub same : drop left (prices_from p.number lin (segments_at y d at)) ≡ wanted

  pub seeking_first : Seeking start k (first_held start)
  unfolding prices_of
  seeking_first = record { lin = no_lin start; stands = standing-first d start; same = refl }

  module _ (at left : ℕ) (p : Held) (i : Seeking at left p) (spot : Option Spot) (here : spot ≡ head_spot (segments_at y d at)) where
    pub seeking_none : spot ≡ None → HeldAt start d k all (record { start = start; end = start })
    unfolding prices_from HeldFirst HeldAt
    seeking_none h =
        let n : segments_at y d at ≡ [] = spot-nothing y d at (sym h ∙ here) in
        let w : [] ≡ wanted = sym (drop-nil left) ∙ rw n at i.same in
        subst (λ (qs : List Listed). HeldFirst start d qs (record { start = start; end = start })) w refl

    module _ (s : Spot) (is : spot ≡ Some s) where
      took : Spotted y d at s
      took = spotted y d at s (sym is ∙ here)

      pub seeking_some : (at < s.end) × (s.end ≤ length d)
      seeking_some =
          let q = took.cuts in
          (omega (arith, q.later, q.some), q.fits)

      -- the price of this segment, if it gives one, and those behind it
      abbrev here-price : Listed
      here-price = price y d at s took start p i.lin i.stands

      abbrev left-prices : List Listed
      left-prices = behind y d at s took start p i.lin i.stands

      all_left : drop left (price_by s.kind here-price left-prices) ≡ wanted
      all_left = rw (step y d at s took start p i.lin i.stands) at i.same

      pub seeking_found : s.kind ≡ Pri → left ≡ 0 → HeldAt start d k all p.lin
      unfolding HeldFirst HeldAt
      seeking_found t z =
          let q = took.cuts in
          let w : here-price ∷ left-prices ≡ wanted = sym (finds s.kind left here-price left-prices t z) ∙ all_left in
          subst (λ (qs : List Listed). HeldFirst start d qs p.lin) w (i.stands.holds, omega (arith, i.stands.ends, q.later, q.some, q.fits))

      pub seeking_on : (n : ℕ) (p' : Held) → left ≡ n + add_by s.kind → p' ≡ moved_by s.kind p s.start s.end → Seeking s.end n p'
      seeking_on n p' h g =
          rw g
          (record {
            lin = lin_by s.kind (this y d at s took) i.lin;
            stands = standing_on y d at s took start p i.lin i.stands;
            same = sym (passes s.kind left n here-price left-prices h) ∙ all_left;
          })
