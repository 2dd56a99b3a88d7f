-- Laws of the decoded bytes of a part, one byte at a time.
use Rattle.std.proofs.Common.{
  ◌≡◌,
  ℕ,
  zero,
  suc,
  ◌+◌,
  ◌-◌,
  ◌<◌,
  ◌≤◌,
  min,
  Bool,
  true,
  false,
  not,
  eqb,
  List,
  [],
  ◌∷◌,
  length,
  get_or,
  take,
  drop,
  sym,
  ap,
  ◌∙◌,
  arith,
  length-take,
  ne_eqb,
}
use mathlib.Core.Bool.{and-false}
use Rattle.std.proofs.lemmas.Bool.{eqb-false}
use Rattle.cut.specs.declared.service.Syntax.{Syntax}
use Rattle.bytewise.specs.Bytes.{part}
use Rattle.bytewise.specs.Search.{FirstThat}
use Rattle.cut.specs.Segments.{frees}
use Rattle.bytewise.proofs.Parts.{part_none, part-next}
use Rattle.plain.specs.Plain.{unless_mark, plain, decoded}
use Rattle.bytewise.proofs.Limits.{limited}

-- a byte that is not the release character is no release mark
pub unmarked : (y : Syntax) (x : ℕ) → (x ≡ y.release → ⊥) → frees y false x ≡ false
unfolding frees
unmarked y x n = rw (ne_eqb x y.release n) (and-false (not (eqb x y.terminator)))

-- a byte that is no release mark stands for itself, a mark makes the next one literal, and one at the end stands for nothing
module _ (y : Syntax) (x : ℕ) where
  pub plain_byte : (xs : List ℕ) → frees y false x ≡ false → plain y false (x ∷ xs) ≡ x ∷ plain y false xs
  unfolding plain unless_mark
  plain_byte xs h = rw h

  pub plain_released : (z : ℕ) (zs : List ℕ) → frees y false x ≡ true → plain y false (x ∷ z ∷ zs) ≡ z ∷ plain y false zs
  unfolding plain unless_mark frees
  plain_released z zs h = rw h

  pub plain-last : frees y false x ≡ true → plain y false (x ∷ []) ≡ []
  unfolding plain unless_mark
  plain-last h = rw h

-- r is where the first decoded byte of the part from i up to e stands; it is not before e where there is none
pub record Literal (y : Syntax) (d : List ℕ) (i e r : ℕ) : Type 0 where
  pub inside : i ≤ e → r ≤ e
  pub onward : i ≤ r
  pub found : r < e → decoded y i e d ≡ get_or d r 0 ∷ decoded y (r + 1) e d
  pub none : e ≤ r → decoded y i e d ≡ []

module _ (y : Syntax) (d : List ℕ) where
  -- a part that is empty
  pub decoded-none : (i e : ℕ) → e ≤ i → decoded y i e d ≡ []
  unfolding decoded plain
  decoded-none i e h = rw (part_none d i e h)

  pub decoded-next
      : (i e : ℕ) (b : Bool) → i < e → e ≤ length d → frees y false (get_or d i 0) ≡ b
      → decoded y i e d ≡ unless_mark b (get_or d i 0) (plain y b (part (i + 1) e d))
  unfolding decoded plain
  decoded-next i e b h k f = rw (part-next d i e h k, f)

  -- a byte that is no release mark
  pub decoded-byte
      : (i e : ℕ) → i < e → e ≤ length d → frees y false (get_or d i 0) ≡ false
      → decoded y i e d ≡ get_or d i 0 ∷ decoded y (i + 1) e d
  unfolding unless_mark decoded
  decoded-byte i e h k f = decoded-next i e false h k f

  -- a released byte is literal, and nothing is released behind it
  pub released_next
      : (i e : ℕ) → i < e → e ≤ length d → plain y true (part i e d) ≡ get_or d i 0 ∷ decoded y (i + 1) e d
  unfolding decoded plain frees unless_mark
  released_next i e h k = rw (part-next d i e h k)

  released_none : (i e : ℕ) → e ≤ i → plain y true (part i e d) ≡ []
  unfolding plain
  released_none i e h = rw (part_none d i e h)

  pub literal-none : (i e : ℕ) → e ≤ i → Literal y d i e i
  literal-none i e h =
      record { inside = λ n. n; onward = omega arith; found = λ n. absurd (omega arith); none = λ _. decoded-none i e h }

  pub literal-byte
      : (i e : ℕ) → i < e → e ≤ length d → frees y false (get_or d i 0) ≡ false → Literal y d i e i
  literal-byte i e h k f =
      record {
        inside = omega arith;
        onward = omega arith;
        found = λ _. decoded-byte i e h k f;
        none = λ n. absurd (omega arith);
      }

  pub literal-mark
      : (i e : ℕ) → i < e → e ≤ length d → frees y false (get_or d i 0) ≡ true → Literal y d i e (i + 1)
  unfolding unless_mark
  literal-mark i e h k f =
      record {
        inside = omega arith;
        onward = omega arith;
        found = λ n. decoded-next i e true h k f ∙ released_next (i + 1) e n k;
        none = λ n. decoded-next i e true h k f ∙ released_none (i + 1) e n;
      }

  -- up to the first release character each byte counts
  pub count-front
      : (n a e : ℕ) → a + n ≤ e → e ≤ length d → ((k : ℕ) → a ≤ k → k < a + n → eqb (get_or d k 0) y.release ≡ false)
      → length (decoded y a e d) ≡ n + length (decoded y (a + n) e d)
  count-front zero a e h k f = let z : a + 0 ≡ a = omega arith in rw z (omega arith)
  count-front (suc n) a e h k f =
      let z : a + suc n ≡ (a + 1) + n = omega arith in
      let u = unmarked y (get_or d a 0) (eqb-false _ _ (f a (omega arith) (omega arith))) in
      let r = count-front n (a + 1) e (omega arith) k (λ j l m. f j (omega arith) (omega arith)) in
      rw (decoded-byte a e (omega arith) k u, z) (omega (arith, r))

  -- an end past the delivery counts as the delivery's end
  pub decoded_limited : (a e r : ℕ) → r ≡ min e (length d) → decoded y a r d ≡ decoded y a e d
  unfolding decoded
  decoded_limited a e r h = rw (limited d a e r h)

-- the bytes of a part are those before its first release character and those that are decoded from there on
module _ (y : Syntax) (d : List ℕ) (a e r : ℕ) (lim : r ≡ min e (length d)) where
  pub counted-none : r ≤ a → 0 ≡ length (decoded y a e d)
  counted-none h = ap length (sym (decoded-none y d a r h) ∙ decoded_limited y d a e r lim)

  pub counted-behind
      : (i n : ℕ) → a < r → FirstThat (λ x. eqb x y.release) d a (min r (length d)) i → n ≡ length (decoded y i r d)
      → i - a + n ≡ length (decoded y a e d)
  counted-behind i n h f q =
      let within = f.within in
      let onward = f.onward in
      let z : a + (i - a) ≡ i = omega arith in
      let k = count-front y d (i - a) a r (omega arith) (omega arith) (λ j l m. f.before j l (omega arith)) in
      ap (λ (m : ℕ). i - a + m) (q ∙ ap (λ (j : ℕ). length (decoded y j r d)) (sym z)) ∙ sym k ∙ ap length (decoded_limited y d a e r lim)

-- no more bytes are left than stood there
plain_fits : (y : Syntax) (r : Bool) (xs : List ℕ) → length (plain y r xs) ≤ length xs
unfolding plain unless_mark
plain_fits y r [] = omega arith
plain_fits y r (x ∷ xs) = go (frees y r x) (plain y (frees y r x) xs) (plain_fits y (frees y r x) xs)
  where
    go : (b : Bool) (zs : List ℕ) → length zs ≤ length xs → length (unless_mark b x zs) ≤ length (x ∷ xs)
    go true zs h = omega arith
    go false zs h = omega arith

-- their number n, at most the part's length
pub count-within : (y : Syntax) (d : List ℕ) (a e n : ℕ) → n ≡ length (decoded y a e d) → n ≤ e - a
unfolding decoded part
count-within y d a e n h =
    let k : length (take (e - a) (drop a d)) ≤ e - a = simp length-take (omega arith) in
    omega (arith, plain_fits y false (take (e - a) (drop a d)))
