-- The walks that make the print of a position.
use Prim.Native.Nat.{ℕ, ◌+◌, ◌<◌, ◌≤◌}
use mathlib.Core.Path.{◌≡◌, refl, ap, ◌∙◌}
use mathlib.Core.Bool.{Bool, true, false, cond, false≢true}
use mathlib.Core.List.{List, [], ◌∷◌}
use native.Mathlib.Omega.{arith}
use lib.ListN.{length, get_or, drop, drop_of_length-le}
use lib.Seq.{drop-cons}
use native.Mathlib.Numerals.{add-one}
use lib.Dec.{eqb}
use Rattle.cut.specs.declared.service.Syntax.{Syntax}
use Rattle.cut.specs.Segments.{frees}
use Rattle.element.specs.Elements.{Split, ending_of, stays, releases, before, split_from, elements}
use Rattle.element.specs.declared.endings.Ending.{Ending}
use Rattle.element.specs.declared.endings.Ending.TheVariants as ends
use Rattle.std.specs.Prelude.{Some, None}
use Rattle.plain.specs.Plain.{plain, unless_mark}
use Rattle.sieve.specs.workers.Prints.{mixed_by, mixed_unless, named_by, print_bytes, print_components, print_elements}
use Rattle.sieve.specs.workers.Prints.{print_segment, print_split, print_rest, print_behind, PrintedTo}
use Rattle.sieve.specs.declared.prints.Printed.{Printed}

-- a byte before what follows it
module _ (y : Syntax) (x e c : ℕ) where
  same_either : (b : Bool) (a : ℕ) → cond b a a ≡ a
  same_either true a = refl
  same_either false a = refl

  -- a byte of the component's own
  own-byte
      : (r m : Bool) (b : ℕ) (s : Split) (a : ℕ) → frees y r b ≡ m
      → print_split y x e c r (before None b s) a ≡ print_split y x e c m s (mixed_unless (eqb e x) m a (named_by e c) b)
  unfolding print_split before plain print_bytes mixed_unless unless_mark
  own-byte r m b s a h = rw h (go (eqb e x) m)
    where
      w : ℕ
      w = named_by e c

      after : ℕ → ℕ
      after z = print_components y e (c + 1) s.components z

      go
          : (q n : Bool)
          → print_elements y x (e + 1) s.elements (cond q a (after (print_bytes w (unless_mark n b (plain y n s.bytes)) a)))
          ≡ print_elements y x (e + 1) s.elements
          (cond q (cond q a (cond n a (mixed_by a w b))) (after (print_bytes w (plain y n s.bytes) (cond q a (cond n a (mixed_by a w b))))))
      go true n = refl
      go false true = refl
      go false false = refl

  own_step
      : (r : Bool) (b : ℕ) (bs : List ℕ) (a : ℕ) → ending_of y r b ≡ None
      → print_rest y x e c r (b ∷ bs) a ≡ print_rest y x e c (frees y r b) bs (mixed_unless (eqb e x) (frees y r b) a (named_by e c) b)
  unfolding print_rest split_from stays releases
  own_step r b bs a h = rw h (own-byte r (frees y r b) b (split_from y (frees y r b) bs) a refl)

  -- nothing is left
  pub rest-none : (r : Bool) (a : ℕ) → print_rest y x e c r [] a ≡ a
  unfolding print_rest split_from print_split plain print_bytes print_components print_elements
  rest-none r a = same_either (eqb e x) a

  -- a byte that ends something
  segment-byte : (b : ℕ) (bs : List ℕ) (a : ℕ) → ending_of y false b ≡ Some ends.Segment → print_rest y x e c false (b ∷ bs) a ≡ a
  unfolding print_rest split_from print_split before plain print_bytes print_components print_elements
  segment-byte b bs a h = rw h (same_either (eqb e x) a)

  element-byte
      : (b : ℕ) (bs : List ℕ) (a : ℕ) → ending_of y false b ≡ Some ends.Element
      → print_rest y x e c false (b ∷ bs) a ≡ print_rest y x (e + 1) 0 false bs a
  unfolding print_rest split_from print_split before stays releases plain print_bytes print_components print_elements
  element-byte b bs a h = rw (h, same_either (eqb e x) a)

  component-byte
      : (b : ℕ) (bs : List ℕ) (a : ℕ) → ending_of y false b ≡ Some ends.Component
      → print_rest y x e c false (b ∷ bs) a ≡ print_rest y x e (c + 1) false bs a
  unfolding print_rest split_from print_split before stays releases plain print_bytes print_components print_elements
  component-byte b bs a h = rw h

-- the same in the words of the workers, for the bytes from a place i on
module _ (y : Syntax) (d : List ℕ) (x e c : ℕ) where
  abbrev pub printing : ℕ → Bool → ℕ → ℕ
  printing i r a = print_rest y x e c r (drop i d) a

  module _ (i : ℕ) (h : i < length d) where
    next : drop i d ≡ get_or d i 0 ∷ drop (i + 1) d
    next = rw add-one (drop-cons d i 0 h)

    pub printing_on
        : (r m q : Bool) (w a a' : ℕ) → ending_of y r (get_or d i 0) ≡ None → m ≡ frees y r (get_or d i 0) → w ≡ named_by e c → q ≡ eqb e x
        → a' ≡ mixed_unless q m a w (get_or d i 0) → printing i r a ≡ printing (i + 1) m a'
    printing_on r m q w a a' u f n l g = rw (next, g, l, n, f) (own_step y x e c r (get_or d i 0) (drop (i + 1) d) a u)

    stop_step
        : (r : Bool) (g : Ending) (a : ℕ) → ending_of y r (get_or d i 0) ≡ Some g → printing i r a ≡ print_behind y d x e c g (i + 1) a
    unfolding print_behind ending_of
    stop_step true g a u = absurd (let z : ◌≡◌ {A = ℕ} 0 1 = cc in omega arith)
    stop_step false ends.Segment a u = rw next (segment-byte y x e c (get_or d i 0) (drop (i + 1) d) a u)
    stop_step false ends.Element a u = rw next (element-byte y x e c (get_or d i 0) (drop (i + 1) d) a u)
    stop_step false ends.Component a u = rw next (component-byte y x e c (get_or d i 0) (drop (i + 1) d) a u)

    pub printing_stops
        : (from b : ℕ) (r : Bool) (g : Ending) (a : ℕ) → from ≤ i → printing from false b ≡ printing i r a → ending_of y r (get_or d i 0) ≡ Some g
        → PrintedTo y d x e c from b (record { stop = g; place = i + 1; print = a })
    printing_stops from b r g a f s u =
        record { same = s ∙ stop_step r g a u; onward = λ n. (omega (arith, f), omega (arith, h)) }

  pub printing_through
      : (from b i : ℕ) (r : Bool) (a place : ℕ) → length d ≤ i → printing from false b ≡ printing i r a
      → PrintedTo y d x e c from b (record { stop = ends.Segment; place = place; print = a })
  unfolding print_behind
  printing_through from b i r a place l s =
      record { same = s ∙ rw (drop_of_length-le d l) (rest-none y x e c r a); onward = λ n. absurd (false≢true n) }

  -- what is left behind a component
  pub printing_behind
      : (from b : ℕ) (r : Printed) (k : Ending) → PrintedTo y d x e c from b r → r.stop ≡ k
      → printing from false b ≡ print_behind y d x e c k r.place r.print
  printing_behind from b r k p h = p.same ∙ ap (λ (j : Ending). print_behind y d x e c j r.place r.print) h

-- a whole segment
pub printing_first : (y : Syntax) (x : ℕ) (s : List ℕ) (a : ℕ) → print_rest y x 0 0 false s a ≡ print_segment y x s a
unfolding print_segment elements print_elements print_components print_rest print_split
printing_first y x [] a = rest-none y x 0 0 false a
printing_first y x (b ∷ bs) a = refl
