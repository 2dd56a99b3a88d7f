-- The numbers of a message's prices are the same wherever it stands. Demand 3: "same prices, places moved": a price's places count from the
-- message's start.
use Prim.Native.Nat.{ℕ, zero, suc, ◌+◌, ◌-◌, ◌≤◌, ◌<◌, min}
use mathlib.Core.Path.{◌≡◌, refl, sym, ap, ap₂, ◌∙◌}
use mathlib.Core.Bool.{Bool, true, false, cond, ◌&&◌}
use mathlib.Core.List.{List, [], ◌∷◌, map}
use native.Mathlib.Decide.{dec_le}
use native.Mathlib.Nat.{add-zero}
use native.Mathlib.Omega.{arith}
use lib.ListN.{length, take, drop, length-map}
use lib.Dec.{eqb, ltb}
use lib.IntN.{ℤ}
use borrow.Author.Tests.{lt-ltb, le-ltb}
use Rattle.cut.specs.declared.service.Syntax.{Syntax}
use Rattle.bytewise.specs.Bytes.{part}
use Rattle.bytewise.proofs.Limits.{limited}
use Rattle.bytewise.proofs.Parts.{part_none}
use Rattle.cut.specs.Segments.{Segment, segments_of}
use Rattle.cut.specs.Fronts.{moved}
use Rattle.cut.proofs.Moving.{segments-moved}
use Rattle.element.specs.Elements.{elements}
use Rattle.element.specs.Components.{Component, end_of, in_element, width, in_elements, components, span_in}
use Rattle.element.specs.declared.components.Span.{Span}
use Rattle.guide.proofs.Basics.{map-append}
use Rattle.price.specs.declared.kinds.Kind.{Kind}
use Rattle.price.specs.declared.kinds.Kind.TheVariants.{Lin, Pri, Rng, Other}
use Rattle.price.specs.Numbers.{Listed, article_in, article_place, article_length, place_of_first, numbers_of}
use Rattle.price.specs.Listing.{kind_of, rng_by, rng_next, number_by, lin_by, price_by, prices_from, no_lin, prices_of}
use Rattle.price.specs.Calls.{prices_in, numbers_from, filled_of, row_after}

-- the same component, part and price k places later
abbrev later_component : ℕ → Component → Component
later_component k x = record { element = x.element; component = x.component; start = k + x.start; bytes = x.bytes }

abbrev pub later_span : ℕ → Span → Span
later_span k s = record { start = k + s.start; end = k + s.end }

abbrev pub later_price : ℕ → Listed → Listed
later_price k q =
    record { position = q.position; lin = moved k q.lin; price = record { pri = moved k q.price.pri; rng = map (moved k) q.price.rng } }

module _ (k : ℕ) where
  element-moved : (e c p : ℕ) (bs : List (List ℕ)) → in_element e c (k + p) bs ≡ map (later_component k) (in_element e c p bs)
  unfolding in_element
  element-moved e c p [] = refl
  element-moved e c p (b ∷ bs) =
      let z : k + p + length b + 1 ≡ k + (p + length b + 1) = omega arith in
      rw (z, element-moved e (c + 1) (p + length b + 1) bs)

  elements-moved : (e p : ℕ) (es : List (List (List ℕ))) → in_elements e (k + p) es ≡ map (later_component k) (in_elements e p es)
  unfolding in_elements
  elements-moved e p [] = refl
  elements-moved e p (bs ∷ es) =
      let z : k + p + width bs ≡ k + (p + width bs) = omega arith in
      rw (z, element-moved e 0 p bs, elements-moved (e + 1) (p + width bs) es)
      (sym (map-append (later_component k) (in_element e 0 p bs) (in_elements (e + 1) (p + width bs) es)))

  span-moved : (a e c : ℕ) (xs : List Component) → span_in (k + a) e c (map (later_component k) xs) ≡ later_span k (span_in a e c xs)
  unfolding span_in
  span-moved a e c [] = refl
  span-moved a e c (x ∷ xs) = go (eqb x.element e && eqb x.component c) (span-moved a e c xs)
    where
      z : k + x.start + length x.bytes ≡ k + (x.start + length x.bytes)
      z = omega arith

      go
          : (b : Bool) → span_in (k + a) e c (map (later_component k) xs) ≡ later_span k (span_in a e c xs)
          → cond b (record { start = k + x.start; end = k + x.start + length x.bytes }) (span_in (k + a) e c (map (later_component k) xs))
          ≡ later_span k (cond b (record { start = x.start; end = end_of x }) (span_in a e c xs))
      go true ih = rw z
      go false ih = ih

  pub article-moved : (y : Syntax) (p : ℕ) (b : List ℕ) → article_in y (k + p) b ≡ later_span k (article_in y p b)
  unfolding article_in components
  article-moved y p b = ap (span_in (k + p) 3 0) (elements-moved 0 p (elements y b)) ∙ span-moved p 3 0 (in_elements 0 p (elements y b))

  minus-moved : (a b : ℕ) → (k + a) - (k + b) ≡ a - b
  minus-moved a b = omega arith

  pub before-moved : (a b : ℕ) → ltb (k + a) (k + b) ≡ ltb a b
  before-moved a b = go (dec_le b a)
    where
      go : Dec (b ≤ a) → ltb (k + a) (k + b) ≡ ltb a b
      go (yes h) =
          let l : k + b ≤ k + a = omega arith in
          rw (le-ltb a b h, le-ltb (k + a) (k + b) l)
      go (no h) =
          let l : k + a < k + b = omega arith in
          let m : a < b = omega arith in
          rw (lt-ltb a b m, lt-ltb (k + a) (k + b) l)

  first-moved : (base : ℕ) (ss : List Segment) → place_of_first (k + base) (map (moved k) ss) ≡ place_of_first base ss
  unfolding place_of_first
  first-moved base [] = refl
  first-moved base (s ∷ ss) = rw (minus-moved s.start base)

  pub numbers-moved : (y : Syntax) (base : ℕ) (q : Listed) → numbers_of y (k + base) (later_price k q) ≡ numbers_of y base q
  unfolding numbers_of article_place article_length
  numbers-moved y base q =
      let a = article_in y q.lin.start q.lin.bytes in
      rw (
        article-moved y q.lin.start q.lin.bytes,
        before-moved a.start a.end,
        minus-moved a.start base,
        minus-moved a.end a.start,
        minus-moved q.price.pri.start base,
        first-moved base q.price.rng,
      )

  -- the list of prices
  rng-by-moved : (w : Kind) (s : Segment) → rng_by w (moved k s) ≡ map (moved k) (rng_by w s)
  rng-by-moved Lin s = refl
  rng-by-moved Pri s = refl
  rng-by-moved Rng s = refl
  rng-by-moved Other s = refl

  rng-moved : (ss : List Segment) → rng_next (map (moved k) ss) ≡ map (moved k) (rng_next ss)
  unfolding rng_next
  rng-moved [] = refl
  rng-moved (s ∷ ss) = rng-by-moved (kind_of s.bytes) s

  price-moved : (w : Kind) (q : Listed) (qs : List Listed) → price_by w (later_price k q) (map (later_price k) qs) ≡ map (later_price k) (price_by w q qs)
  price-moved Lin q qs = refl
  price-moved Pri q qs = refl
  price-moved Rng q qs = refl
  price-moved Other q qs = refl

  lin-moved : (w : Kind) (s lin : Segment) → lin_by w (moved k s) (moved k lin) ≡ moved k (lin_by w s lin)
  lin-moved Lin s lin = refl
  lin-moved Pri s lin = refl
  lin-moved Rng s lin = refl
  lin-moved Other s lin = refl

  from-moved : (n : ℕ) (lin : Segment) (ss : List Segment) → prices_from n (moved k lin) (map (moved k) ss) ≡ map (later_price k) (prices_from n lin ss)
  unfolding prices_from
  from-moved n lin [] = refl
  from-moved n lin (s ∷ ss) =
      let w = kind_of s.bytes in
      rw (rng-moved ss, lin-moved w s lin, from-moved (number_by w n) (lin_by w s lin) ss)
      (price-moved w (record { position = n; lin = lin; price = record { pri = s; rng = rng_next ss } }) (prices_from (number_by w n) (lin_by w s lin) ss))

  pub prices-moved : (start : ℕ) (ss : List Segment) → prices_of (k + start) (map (moved k) ss) ≡ map (later_price k) (prices_of start ss)
  unfolding prices_of
  prices-moved start ss = from-moved 0 (no_lin start) ss

map-drop : {A B : Type 0} (f : A → B) (n : ℕ) (xs : List A) → map f (drop n xs) ≡ drop n (map f xs)
map-drop f zero xs = refl
map-drop f (suc n) [] = refl
map-drop f (suc n) (x ∷ xs) = map-drop f n xs

map_same : {A B C : Type 0} (f : B → C) (g : A → B) (h : A → C) → ((a : A) → f (g a) ≡ h a) → (xs : List A) → map f (map g xs) ≡ map h xs
map_same f g h e [] = refl
map_same f g h e (x ∷ xs) = ap₂ ◌∷◌ (e x) (map_same f g h e xs)

-- the prices of bytes that stand k places later fill a row alike, from any price on, and the answer is the same
module _ (y : Syntax) (k start : ℕ) (b : List ℕ) where
  abbrev here : List Listed
  here = prices_of start (segments_of y start b)

  abbrev there : List Listed
  there = prices_of (k + start) (segments_of y (k + start) b)

  later : there ≡ map (later_price k) here
  later = rw (segments-moved y k start b) (prices-moved k start (segments_of y start b))

  numbers-later : (n : ℕ) → numbers_from y (k + start) n there ≡ numbers_from y start n here
  unfolding numbers_from
  numbers-later n =
      map-drop (numbers_of y (k + start)) n there
      ∙ ap (drop n)
      (ap (map (numbers_of y (k + start))) later
      ∙ map_same (numbers_of y (k + start)) (later_price k) (numbers_of y start) (numbers-moved k y start) here)
      ∙ sym (map-drop (numbers_of y start) n here)

  pub row-moved : (n : ℕ) (row : List ℤ) → row_after y (k + start) n there row ≡ row_after y start n here row
  unfolding row_after
  row-moved n row = rw (numbers-later n)

  pub filled-moved : (n : ℕ) (row : List ℤ) → filled_of y (k + start) n there row ≡ filled_of y start n here row
  unfolding filled_of
  filled-moved n row =
      let c : length there ≡ length here = ap length later ∙ length-map here (later_price k) in
      rw (numbers-later n, c)

-- two messages of the same bytes, one k places later in its delivery
module _ (y : Syntax) (d d' : List ℕ) (k start end : ℕ) (bytes : part (k + start) (k + end) d' ≡ part start end d) where
  pub prices-later : prices_in y d' (k + start) (k + end) ≡ map (later_price k) (prices_in y d start end)
  unfolding prices_in
  prices-later = rw bytes (later y k start (part start end d))

  -- they fill a row alike, from any price on, and the answer is the same
  pub row-later : (n : ℕ) (row : List ℤ) → row_after y (k + start) n (prices_in y d' (k + start) (k + end)) row
      ≡ row_after y start n (prices_in y d start end) row
  unfolding prices_in
  row-later n row = rw bytes (row-moved y k start (part start end d) n row)

  pub filled-later
      : (n : ℕ) (row : List ℤ) → filled_of y (k + start) n (prices_in y d' (k + start) (k + end)) row ≡ filled_of y start n (prices_in y d start end) row
  unfolding prices_in
  filled-later n row = rw bytes (filled-moved y k start (part start end d) n row)

-- a message by itself, cut out of its delivery, fills a row as it does there
module _ (y : Syntax) (d : List ℕ) (start end s e : ℕ) (ends : e ≡ min end (length d)) (starts : s ≡ min start e) where
  abbrev own : List ℕ
  own = take (e - s) (drop s d)

  own-bytes : own ≡ part start end d
  unfolding part
  own-bytes = go (dec_le start e)
    where
      go : Dec (start ≤ e) → own ≡ part start end d
      go (yes h) =
          let z : s ≡ start = omega arith in
          rw z (limited d start end e ends)
      go (no h) =
          let z : e - s ≡ 0 = omega arith in
          rw z (sym (sym (limited d start end e ends) ∙ part_none d start e (omega arith)))

  pub row-own : (n : ℕ) (row : List ℤ) → row_after y 0 n (prices_of 0 (segments_of y 0 own)) row ≡ row_after y start n (prices_in y d start end) row
  unfolding prices_in
  row-own n row = rw own-bytes (sym (rw (add-zero start) at (row-moved y start 0 (part start end d) n row)))

  pub filled-own
      : (n : ℕ) (row : List ℤ) → filled_of y 0 n (prices_of 0 (segments_of y 0 own)) row ≡ filled_of y start n (prices_in y d start end) row
  unfolding prices_in
  filled-own n row = rw own-bytes (sym (rw (add-zero start) at (filled-moved y start 0 (part start end d) n row)))
