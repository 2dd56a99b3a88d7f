-- What is read of a component whose place was found.
use Prim.Native.Nat.{ℕ, ◌+◌, ◌<◌, ◌≤◌}
use mathlib.Core.Path.{◌≡◌, refl, sym, ◌∙◌, ap, ap₂}
use mathlib.Core.Bool.{Bool, true, false, ◌||◌}
use mathlib.Core.List.{List, [], ◌∷◌, map}
use native.Mathlib.Omega.{arith}
use lib.ListN.{length, get_or, drop}
use lib.Seq.{drop-cons}
use Rattle.std.proofs.Common.{drop_of_length-le}
use native.Mathlib.Numerals.{add-one}
use lib.Dec.{eqb}
use borrow.Author.Tests.{ne_eqb}
use Rattle.cut.specs.declared.service.Syntax.{Syntax}
use Rattle.cut.specs.Segments.{Segment}
use Rattle.element.specs.Components.{component_at}
use Rattle.element.specs.declared.components.Span.{Span}
use Rattle.element.proofs.ComponentFace.{component_bytes}
use Rattle.plain.specs.Plain.{plain, decoded, same}
use Rattle.std.specs.Prelude.{Option, Some, None}
use Rattle.std.specs.Option.{option_eq}
use Rattle.value.specs.Digits.{count_of}
use Rattle.value.specs.Numeral.{none}
use Rattle.envelope.specs.Required.{at, text}
use Rattle.envelope.specs.Envelope.{is_count_by, counts, lacks}
use Rattle.envelope.specs.workers.Rows.{text_in}

module _ (y : Syntax) (d : List ℕ) where
  module _ (start end e c : ℕ) (s : Span) (found : s ≡ component_at y d start end e c) where
    pub text-found : decoded y s.start s.end d ≡ text_in y d start end (at e c)
    unfolding decoded
    text-found = rw found (ap (plain y false) (component_bytes y d start end e c))

    none-empty : (t : List ℕ) → eqb (length t) 0 ≡ none t
    unfolding none
    none-empty [] = refl
    none-empty (x ∷ xs) = ne_eqb (length (x ∷ xs)) 0 (λ e. omega (arith, e))

    pub lacks-found : (n : ℕ) → n ≡ length (decoded y s.start s.end d) → eqb n 0 ≡ none (text_in y d start end (at e c))
    lacks-found n h = rw h (none-empty (decoded y s.start s.end d) ∙ ap none text-found)

  pub same-found
      : (a e b f : ℕ) (s t : Span) → s ≡ component_at y d a e 5 0 → t ≡ component_at y d b f 2 0
      → same (decoded y s.start s.end d) (decoded y t.start t.end d) ≡ same (text_in y d a e (at 5 0)) (text_in y d b f (at 2 0))
  same-found a e b f s t h k = ap₂ same (text-found a e 5 0 s h) (text-found b f 2 0 t k)

  module _ (b f n : ℕ) (s : Span) (found : s ≡ component_at y d b f 1 0) (c : Option ℕ) (read : c ≡ count_of (decoded y s.start s.end d)) where
    is_read : count_of (text_in y d b f (at 1 0)) ≡ c
    is_read = ap count_of (sym (text-found b f 1 0 s found)) ∙ sym read

    pub count-found : option_eq eqb c (Some n) ≡ counts (text_in y d b f (at 1 0)) n
    unfolding counts
    count-found = rw is_read (go c)
      where
        go : (k : Option ℕ) → option_eq eqb k (Some n) ≡ is_count_by k n
        go None = refl
        go (Some v) = refl

-- the required components, as the code lists them
abbrev pub required : List (ℕ × ℕ)
required = (1, 0) ∷ (1, 1) ∷ (2, 0) ∷ (3, 0) ∷ (4, 0) ∷ (4, 1) ∷ (5, 0) ∷ []

-- from one of them on
module _ (y : Syntax) (s : Segment) where
  abbrev pub lacks_from : ℕ → Bool
  lacks_from i = lacks y s (map (λ (k : ℕ × ℕ). at k.0 k.1) (drop i required))

  lacks-here
      : (i : ℕ) (d : ℕ × ℕ) → i < 7 → lacks_from i ≡ none (text y s (at (get_or required i d).0 (get_or required i d).1)) || lacks_from (i + 1)
  unfolding lacks
  lacks-here i d h =
      let n : i < length required = h in
      rw (add-one, drop-cons required i d n)

  module _ (i : ℕ) (d : ℕ × ℕ) (h : i < 7) (b : Bool) (tells : b ≡ none (text y s (at (get_or required i d).0 (get_or required i d).1))) where
    pub lacks-now : b ≡ true → lacks_from i ≡ true
    lacks-now t = lacks-here i d h ∙ rw (sym tells ∙ t)

    pub lacks-later : b ≡ false → lacks_from i ≡ lacks_from (i + 1)
    lacks-later f = lacks-here i d h ∙ rw (sym tells ∙ f)

  pub lacks-none : (i : ℕ) → 7 ≤ i → lacks_from i ≡ false
  unfolding lacks
  lacks-none i h =
      let n : length required ≤ i = h in
      rw (drop_of_length-le required n)
