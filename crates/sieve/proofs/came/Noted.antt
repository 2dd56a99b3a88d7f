-- The table of articles: what is noted stays.
use Prim.Native.Nat.{ℕ, zero, suc, ◌*◌, ◌/◌, ◌%◌, ◌<◌, ◌^◌}
use mathlib.Core.Path.{◌≡◌, refl, sym, ap, ◌∙◌}
use mathlib.Core.Bool.{Bool, true}
use mathlib.Core.List.{List, [], ◌∷◌}
use native.Mathlib.Omega.{arith}
use native.Mathlib.Nat.{one-mul, mod-eq_of_lt}
use lib.ListN.{length}
use lib.Arith.{bin_ind}
use lib.Pow.{pow-lt}
use lib.Bits.{bit_or, or_comm, or_self, or_shr, or_mod}
use borrow.Author.Tests.{eq-eqb, eqb-true}
use Rattle.sieve.specs.Articles.{Noted}
use Rattle.sieve.specs.workers.Words.{article_print}
use Rattle.sieve.specs.workers.Came.{word_of, bits_of, has_bits, set_in, with_bits, other_of, came_in, note_in, may_have}
use Rattle.sieve.proofs.Tables.{all-length, all_stay, all_come}

pub word-inside : (f : ℕ) → word_of f < 256
unfolding word_of
word-inside f = omega arith

pub word-place : (r f : ℕ) → r ≡ word_of f → r * 8 < 18446744073709551616
word-place r f e = omega (arith, e, word-inside f)

-- a bit of a word is not lost
pub one_bit : (n : ℕ) → 1 * 2 ^ (n % 64) % 18446744073709551616 ≡ 2 ^ (n % 64)
one_bit n = rw (one-mul (2 ^ (n % 64))) (mod-eq_of_lt (pow-lt {i = n % 64} {j = 64} (omega arith)))

same_digits : (x y : ℕ) → x / 2 ≡ y / 2 → x % 2 ≡ y % 2 → x ≡ y
same_digits x y h k = omega (arith, h, k)

-- `or` in any order: of the lowest digits, and then of all
or_digits : (a b c : ℕ) → a < 2 → b < 2 → c < 2 → bit_or (bit_or a b) c ≡ bit_or a (bit_or b c)
or_digits zero b c h k l = refl
or_digits (suc zero) zero c h k l = refl
or_digits (suc zero) (suc zero) zero h k l = refl
or_digits (suc zero) (suc zero) (suc zero) h k l = refl
or_digits (suc zero) (suc zero) (suc (suc c)) h k l = absurd (omega (arith, l))
or_digits (suc zero) (suc (suc b)) c h k l = absurd (omega (arith, k))
or_digits (suc (suc a)) b c h k l = absurd (omega (arith, h))

bits_assoc : (a b c : ℕ) → bit_or (bit_or a b) c ≡ bit_or a (bit_or b c)
bits_assoc =
    bin_ind (λ (a : ℕ). (b c : ℕ) → bit_or (bit_or a b) c ≡ bit_or a (bit_or b c)) (λ b c. refl) (λ a ih b c. step a b c (ih (b / 2) (c / 2)))
  where
    upper : (a b c : ℕ) → bit_or (bit_or (a / 2) (b / 2)) (c / 2) ≡ bit_or (a / 2) (bit_or (b / 2) (c / 2)) → bit_or (bit_or a b) c / 2
        ≡ bit_or a (bit_or b c) / 2
    upper a b c ih =
        or_shr (bit_or a b) c 1 ∙ ap (λ (x : ℕ). bit_or x (c / 2)) (or_shr a b 1) ∙ ih ∙ ap (bit_or (a / 2)) (sym (or_shr b c 1))
        ∙ sym (or_shr a (bit_or b c) 1)

    lowest : (a b c : ℕ) → bit_or (bit_or a b) c % 2 ≡ bit_or a (bit_or b c) % 2
    lowest a b c =
        or_mod (bit_or a b) c 1 ∙ ap (λ (x : ℕ). bit_or x (c % 2)) (or_mod a b 1) ∙ or_digits (a % 2) (b % 2) (c % 2) (omega arith) (omega arith) (omega arith)
        ∙ ap (bit_or (a % 2)) (sym (or_mod b c 1)) ∙ sym (or_mod a (bit_or b c) 1)

    step
        : (a b c : ℕ) → bit_or (bit_or (a / 2) (b / 2)) (c / 2) ≡ bit_or (a / 2) (bit_or (b / 2) (c / 2)) → bit_or (bit_or a b) c ≡ bit_or a (bit_or b c)
    step a b c ih = same_digits _ _ (upper a b c ih) (lowest a b c)

-- a word has the bits that are set, and all that it had
or-has : (v m : ℕ) → has_bits (bit_or v m) m ≡ true
unfolding has_bits
or-has v m = eq-eqb _ _ (bits_assoc v m m ∙ ap (bit_or v) (or_self m))

or-keeps : (v m l : ℕ) → has_bits v l ≡ true → has_bits (bit_or v m) l ≡ true
unfolding has_bits
or-keeps v m l h =
    eq-eqb _ _ (bits_assoc v m l ∙ ap (bit_or v) (or_comm m l) ∙ sym (bits_assoc v l m) ∙ ap (λ (x : ℕ). bit_or x m) (eqb-true (bit_or v l) v h))

-- the two numbers of a print
abbrev pair : ℕ → List ℕ
pair f = f ∷ other_of f ∷ []

module _ (t : List ℕ) (f : ℕ) where
  note_length : length (note_in t f) ≡ length t
  unfolding note_in with_bits
  note_length = all-length word_of bits_of bit_or has_bits t (pair f)

  module _ (size : length t ≡ 256) where
    note_comes : came_in (note_in t f) f ≡ true
    unfolding came_in set_in note_in with_bits
    note_comes = all_come word_of bits_of bit_or has_bits 256 word-inside (λ v g. or-has v (bits_of g)) (λ v h g. or-keeps v (bits_of h) (bits_of g)) t
        (pair f) size

    note_keeps : (g : ℕ) → came_in t g ≡ true → came_in (note_in t f) g ≡ true
    unfolding came_in set_in note_in with_bits
    note_keeps g =
        all_stay word_of bits_of bit_or has_bits 256 word-inside (λ v g. or-has v (bits_of g)) (λ v h g. or-keeps v (bits_of h) (bits_of g)) t (pair f)
        (pair g) size

-- the table after the print f, and whether that may have come, where f is the print of the article x
pub noted : (t u x : List ℕ) (f : ℕ) (r : Bool) → f ≡ article_print x → r ≡ came_in t f → u ≡ note_in t f → Noted t u x r
unfolding may_have
noted t u x f r e h k =
    rw (k, e)
    (record {
      size = note_length t (article_print x);
      asked = h ∙ ap (came_in t) e;
      comes = λ l. note_comes t (article_print x) l;
      keeps = λ l z. note_keeps t (article_print x) l (article_print z);
    })
