-- Where the prices of a message lie: within it.
use Prim.Native.Nat.{ℕ, ◌+◌, ◌-◌, ◌≤◌, ◌<◌, min, max}
use mathlib.Core.Path.{◌≡◌, refl, sym, ap, subst, ◌∙◌}
use mathlib.Core.List.{List, [], ◌∷◌}
use native.Mathlib.Omega.{arith}
use native.Mathlib.Decide.{dec_le}
use lib.ListN.{length, drop}
use Rattle.cut.specs.declared.service.Syntax.{Syntax}
use Rattle.bytewise.specs.Bytes.{part}
use Rattle.cut.specs.Segments.{Segment, end_of, segments_of, segments_at}
use Rattle.cut.proofs.Skips.{segments_of_none}
use Rattle.cut.proofs.Ahead.{first-ahead}
use Rattle.bytewise.proofs.Parts.{part_none, part-part, length_part}
use Rattle.element.specs.Components.{component_at, span_in}
use Rattle.element.proofs.ComponentFace as face
use Rattle.element.proofs.ComponentFace.{component-within}
use Rattle.bytewise.proofs.Limits.{limited, drop-part}
use Rattle.guide.specs.Accepted.{Each}
use Rattle.price.specs.declared.kinds.Kind.{Kind}
use Rattle.price.specs.declared.kinds.Kind.TheVariants.{Lin, Pri, Rng, Other}
use Rattle.price.specs.Numbers.{Listed, article_in}
use Rattle.price.specs.Listing.{kind_of, rng_by, rng_next, number_by, lin_by, price_by, prices_from, no_lin, prices_of}
use Rattle.price.specs.Calls.{prices_in}

-- a segment that stands in d between the places a and z
pub record Lies (d : List ℕ) (a z : ℕ) (s : Segment) : Type 0 where
  pub from : a ≤ s.start
  pub to : end_of s ≤ z
  pub bytes : s.bytes ≡ part s.start (end_of s) d

-- one that has bytes
pub record Stands (d : List ℕ) (a z : ℕ) (s : Segment) : Type 0 where
  pub lies : Lies d a z s
  pub some : 0 < length s.bytes

each_from : (d : List ℕ) (a b z : ℕ) (ss : List Segment) → a ≤ b → Each (Stands d b z) ss → Each (Stands d a z) ss
unfolding Each
each_from d a b z [] h e = tt
each_from d a b z (s ∷ ss) h e =
    let l = e.0.lies in
    (record { lies = record { from = omega (arith, l.from); to = l.to; bytes = l.bytes }; some = e.0.some }, each_from d a b z ss h e.1)

-- the segments from a place on
segments_lie : (y : Syntax) (d : List ℕ) (at : ℕ) (ss : List Segment) → segments_at y d at ≡ ss → Each (Stands d at (length d)) ss
unfolding Each
segments_lie y d at [] h = tt
segments_lie y d at (s ∷ ss) h =
    let f = first-ahead y d at s ss h in (
      record { lies = record { from = f.later; to = f.fits; bytes = f.bytes }; some = omega (arith, f.some) },
      each_from d at (end_of s) (length d) ss (omega (arith, f.later, f.some)) (segments_lie y d (end_of s) ss (sym f.rest)),
    )

-- a price whose segments stand in d between the places a and z
pub record PriceLies (d : List ℕ) (a z : ℕ) (q : Listed) : Type 0 where
  pub lin : Lies d a z q.lin
  pub pri : Stands d a z q.price.pri
  pub rng : Each (Stands d a z) q.price.rng

rng_lies : (d : List ℕ) (a z : ℕ) (k : Kind) (s : Segment) → Stands d a z s → Each (Stands d a z) (rng_by k s)
unfolding Each
rng_lies d a z Rng s l = (l, tt)
rng_lies d a z Lin s l = tt
rng_lies d a z Pri s l = tt
rng_lies d a z Other s l = tt

next_lies : (d : List ℕ) (a z : ℕ) (ss : List Segment) → Each (Stands d a z) ss → Each (Stands d a z) (rng_next ss)
unfolding Each rng_next
next_lies d a z [] e = tt
next_lies d a z (s ∷ ss) e = rng_lies d a z (kind_of s.bytes) s e.0

lin_lies : (d : List ℕ) (a z : ℕ) (k : Kind) (s lin : Segment) → Lies d a z s → Lies d a z lin → Lies d a z (lin_by k s lin)
lin_lies d a z Lin s lin l m = l
lin_lies d a z Pri s lin l m = m
lin_lies d a z Rng s lin l m = m
lin_lies d a z Other s lin l m = m

price_lies
    : (d : List ℕ) (a z : ℕ) (k : Kind) (q : Listed) (qs : List Listed) → PriceLies d a z q → Each (PriceLies d a z) qs
    → Each (PriceLies d a z) (price_by k q qs)
unfolding Each
price_lies d a z Pri q qs l e = (l, e)
price_lies d a z Lin q qs l e = e
price_lies d a z Rng q qs l e = e
price_lies d a z Other q qs l e = e

prices_lie
    : (d : List ℕ) (a z n : ℕ) (lin : Segment) (ss : List Segment) → Lies d a z lin → Each (Stands d a z) ss → Each (PriceLies d a z) (prices_from n lin ss)
unfolding prices_from Each
prices_lie d a z n lin [] l e = tt
prices_lie d a z n lin (s ∷ ss) l e =
    price_lies d a z (kind_of s.bytes) _ _ (record { lin = l; pri = e.0; rng = next_lies d a z ss e.1 })
    (prices_lie d a z (number_by (kind_of s.bytes) n) (lin_by (kind_of s.bytes) s lin) ss (lin_lies d a z (kind_of s.bytes) s lin e.0.lies l) e.1)

-- what stands in a front of d stands in d
lies_front : (d : List ℕ) (m a : ℕ) (s : Segment) → m ≤ length d → Lies (part 0 m d) a m s → Lies d a m s
lies_front d m a s h l =
    let k : end_of s ≤ m - 0 = omega (arith, l.to) in
    let z : 0 + s.start ≡ s.start = omega arith in
    let w : 0 + end_of s ≡ end_of s = omega arith in
    record { from = l.from; to = l.to; bytes = l.bytes ∙ rw (part-part d 0 m s.start (end_of s) k, z, w) }

each_front : (d : List ℕ) (m a : ℕ) (ss : List Segment) → m ≤ length d → Each (Stands (part 0 m d) a m) ss → Each (Stands d a m) ss
unfolding Each
each_front d m a [] h e = tt
each_front d m a (s ∷ ss) h e = (record { lies = lies_front d m a s h e.0.lies; some = e.0.some }, each_front d m a ss h e.1)

module _ (y : Syntax) (d : List ℕ) (start end : ℕ) where
  -- the place after the message's last byte
  abbrev pub close : ℕ
  close = min end (length d)

  segments-in : start ≤ close → Each (Stands d start close) (segments_of y start (part start end d))
  segments-in h =
      let l : length (part 0 close d) ≡ close = length_part d 0 close (omega arith) ∙ omega arith in
      let z : 0 + start ≡ start = omega arith in
      let p : drop start (part 0 close d) ≡ part start end d = drop-part d 0 close start (omega arith) (omega arith) ∙ rw z (limited d start end close refl) in
      each_front d close start _ (omega arith)
      (subst (λ (m : ℕ). Each (Stands (part 0 close d) start m) (segments_of y start (part start end d))) l
      (segments_lie y (part 0 close d) start _ (ap (segments_of y start) p)))

  -- the prices of a message lie in it
  pub prices_in_lie : Each (PriceLies d start close) (prices_in y d start end)
  unfolding prices_in prices_of prices_from Each
  prices_in_lie = go (dec_le start close)
    where
      go : Dec (start ≤ close) → Each (PriceLies d start close) (prices_from 0 (no_lin start) (segments_of y start (part start end d)))
      go (yes h) =
          let e : start + 0 ≤ start = omega arith in
          prices_lie d start close 0 (no_lin start) (segments_of y start (part start end d))
          (record { from = omega arith; to = omega arith; bytes = sym (part_none d start (start + 0) e) }) (segments-in h)
      go (no h) =
          let n : part start end d ≡ [] = sym (limited d start end close refl) ∙ part_none d start close (omega arith) in
          rw (n, segments_of_none y start) tt

-- the article of a price lies in its LIN
pub article_lies
    : (y : Syntax) (d : List ℕ) (a z : ℕ) (lin : Segment) → Lies d a z lin → z ≤ length d → face.Within a z (article_in y lin.start lin.bytes)
unfolding article_in component_at span_in
article_lies y d a z lin l h =
    let w = component-within y d lin.start (end_of lin) 3 0 in
    let e : component_at y d lin.start (end_of lin) 3 0 ≡ article_in y lin.start lin.bytes = rw (← l.bytes) in
    let v = subst (face.Within lin.start (max lin.start (min (end_of lin) (length d)))) e w in
    record { from = omega (arith, v.from, l.from); ordered = v.ordered; to = omega (arith, v.to, l.to) }
