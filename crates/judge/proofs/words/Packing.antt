-- Laws of words as numbers: what the readers of a tag and of a code give.
use Prim.Native.Nat.{ℕ, zero, suc, ◌+◌, ◌*◌, ◌-◌, ◌/◌, ◌%◌, ◌≤◌, ◌<◌, min}
use mathlib.Core.Path.{◌≡◌, refl, sym, ◌∙◌, ap}
use mathlib.Core.Bool.{true, false, ◌&&◌}
use mathlib.Core.List.{List, [], ◌∷◌}
use native.Mathlib.Omega.{arith}
use lib.ListN.{length, get_or, take, drop}
use lib.Seq.{take-take}
use lib.Dec.{T, eqb, leb, leb→le}
use borrow.Author.Tests.{ne_eqb}
use Rattle.bytewise.specs.Bytes.{part}
use Rattle.cut.specs.declared.service.Syntax.{Syntax}
use Rattle.bytewise.proofs.Parts.{part_none, part-next}
use Rattle.plain.specs.Plain.{plain, decoded}
use Rattle.element.specs.Components.{component_at}
use Rattle.element.specs.Elements.{ending_of, stays}
use Rattle.element.specs.Services.{is_service, Passed}
use Rattle.element.specs.declared.components.Span.{Span}
use Rattle.element.proofs.ComponentFace.{component_bytes}
use Rattle.bytewise.proofs.Limits.{limited}
use Rattle.guide.specs.Views.{view_of}
use Rattle.guide.proofs.Basics.{T_true, and_left, and_right}
use Rattle.judge.specs.workers.Words.{packed, word_of, letters, Bytes}

-- the word of the first three bytes, or of fewer where there are no more
pub word_none : (s : List ℕ) → length s ≡ 0 → 1 ≡ packed (take 3 s)
unfolding packed
word_none [] h = refl
word_none (a ∷ s) h = absurd (omega arith)

pub word_one : (s : List ℕ) → length s ≡ 1 → get_or s 0 0 + 256 ≡ packed (take 3 s)
unfolding packed
word_one [] h = absurd (omega arith)
word_one (a ∷ []) h = refl
word_one (a ∷ b ∷ s) h = absurd (omega arith)

pub word_two : (s : List ℕ) → length s ≡ 2 → get_or s 0 0 + 256 * (get_or s 1 0 + 256) ≡ packed (take 3 s)
unfolding packed
word_two [] h = absurd (omega arith)
word_two (a ∷ []) h = absurd (omega arith)
word_two (a ∷ b ∷ []) h = refl
word_two (a ∷ b ∷ c ∷ s) h = absurd (omega arith)

pub word_three : (s : List ℕ) → 3 ≤ length s → get_or s 0 0 + 256 * (get_or s 1 0 + 256 * (get_or s 2 0 + 256)) ≡ packed (take 3 s)
unfolding packed
word_three [] h = absurd (omega arith)
word_three (a ∷ []) h = absurd (omega arith)
word_three (a ∷ b ∷ []) h = absurd (omega arith)
word_three (a ∷ b ∷ c ∷ s) h = refl

-- a part is its first byte and then the rest
pack_none : (d : List ℕ) (a e : ℕ) → e ≤ a → 1 ≡ packed (part a e d)
unfolding packed
pack_none d a e h = rw (part_none d a e h)

pack_next
    : (d : List ℕ) (a e x r : ℕ) → a < e → e ≤ length d → x ≡ get_or d a 0 → r ≡ packed (part (a + 1) e d) → x + 256 * r ≡ packed (part a e d)
unfolding packed
pack_next d a e x r h l first rest = rw (first, rest, part-next d a e h l)

-- and the word of three bytes
pack_three
    : (d : List ℕ) (a e : ℕ) → e ≤ length d → e - a ≡ 3 → packed (get_or d a 0 ∷ get_or d (a + 1) 0 ∷ get_or d (a + 2) 0 ∷ []) ≡ packed (part a e d)
unfolding packed
pack_three d a e inside h =
    let two : a + 2 ≡ a + 1 + 1 = omega arith in
    pack_next d a e (get_or d a 0) _ (omega arith) inside refl
    (pack_next d (a + 1) e (get_or d (a + 1) 0) _ (omega arith) inside refl
    (pack_next d (a + 1 + 1) e (get_or d (a + 2) 0) 1 (omega arith) inside (ap (λ (i : ℕ). get_or d i 0) two) (pack_none d (a + 1 + 1 + 1) e (omega arith))))

-- the tag of the segment from a up to e, where z is that end or the delivery's
module _ (d : List ℕ) (a e z : ℕ) (limit : z ≡ min e (length d)) where
  within : part a z d ≡ part a e d
  within = limited d a e z limit

  tag_three : (r : ℕ) → 3 ≤ z - a → r ≡ packed (part a (a + 3) d) → r ≡ packed (take 3 (part a e d))
  unfolding part
  tag_three r h k =
      let n : 3 ≤ e - a = omega arith in
      let t : a + 3 - a ≡ 3 = omega arith in
      k ∙ ap packed (ap (λ (m : ℕ). take m (drop a d)) t ∙ sym (take-take 3 (e - a) (drop a d) n))

-- the component that stands at the span
module _ (y : Syntax) (d : List ℕ) (start end e c : ℕ) (span : Span) (found : span ≡ component_at y d start end e c) where
  pub key-decoded : decoded y span.start span.end d ≡ (view_of y (part start end d)).key e c
  unfolding decoded view_of
  key-decoded = rw found (ap (plain y false) (component_bytes y d start end e c))

  pub key-word : (r : ℕ) → r ≡ word_of (decoded y span.start span.end d) → r ≡ word_of ((view_of y (part start end d)).key e c)
  key-word r k = k ∙ ap word_of key-decoded

-- ---- a tag of letters

letters_three : (x y z : ℕ) → x < 256 → y < 256 → T (letters (packed (x ∷ y ∷ z ∷ []))) → (65 ≤ x) × (65 ≤ y) × (65 ≤ z)
unfolding letters packed
letters_three x y z h k t =
    let n = x + 256 * (y + 256 * (z + 256)) in
    let a : 65 ≤ n % 256 = leb→le 65 (n % 256) (and_left (leb 65 (n % 256)) _ t) in
    let u = and_right (leb 65 (n % 256)) (leb 65 (n / 256 % 256) && leb 65 (n / 65536 % 256)) t in
    let b : 65 ≤ n / 256 % 256 = leb→le 65 (n / 256 % 256) (and_left (leb 65 (n / 256 % 256)) _ u) in
    let c : 65 ≤ n / 65536 % 256 = leb→le 65 (n / 65536 % 256) (and_right (leb 65 (n / 256 % 256)) _ u) in
    (omega arith, omega arith, omega arith)

module _ (d : List ℕ) (a e z : ℕ) (limit : z ≡ min e (length d)) (inside : a + 3 ≤ z) (bytes : Bytes d)
    (told : letters (packed (take 3 (part a e d))) ≡ true) where
  letter_at : (k : ℕ) → a ≤ k → k < a + 3 → 65 ≤ get_or d k 0
  letter_at k b c = go (k - a) (omega arith)
    where
      all : (65 ≤ get_or d a 0) × (65 ≤ get_or d (a + 1) 0) × (65 ≤ get_or d (a + 2) 0)
      all =
          letters_three _ _ _ (bytes a) (bytes (a + 1))
          (T_true (ap letters (pack_three d a (a + 3) (omega arith) (omega arith) ∙ tag_three d a e z limit _ (omega arith) refl) ∙ told))

      there : (i : ℕ) → k ≡ i → 65 ≤ get_or d i 0 → 65 ≤ get_or d k 0
      there i q h = rw q h

      go : (j : ℕ) → k ≡ a + j → 65 ≤ get_or d k 0
      go zero q = there a (omega arith) all.0
      go (suc zero) q = there (a + 1) q all.1
      go (suc (suc zero)) q = there (a + 2) q all.2
      go (suc (suc (suc j))) q = absurd (omega arith)

  -- it holds none of the usual service characters
  module _ (y : Syntax) (terminator : y.terminator ≡ 39) (element : y.element ≡ 43) (component : y.component ≡ 58) (release : y.release ≡ 63) where
    letter_plain : (x : ℕ) → 65 ≤ x → is_service y x ≡ false
    unfolding is_service ending_of stays
    letter_plain x h =
        let other : (s : ℕ) → s < 65 → eqb x s ≡ false = λ s l. ne_eqb x s (λ q. omega (arith, q)) in
        rw (terminator, element, component, release, other 39 (omega arith), other 43 (omega arith), other 58 (omega arith), other 63 (omega arith))

    pub letters-passed : Passed y d a (a + 3)
    letters-passed = record { onward = omega arith; none = λ k b c. letter_plain (get_or d k 0) (letter_at k b c) }
