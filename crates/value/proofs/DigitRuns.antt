-- A number that is read as it stands: where its digits end, by one byte or by eight; and how many digits that makes, with the mark among them or not, and
-- the sign.
use Prim.Native.Nat.{ℕ, zero, suc, ◌+◌, ◌-◌, ◌≤◌, ◌<◌, min}
use mathlib.Core.Bool.{Bool, true, false, not, cond, and-false}
use mathlib.Core.Path.{◌≡◌, refl, sym, ap, ◌∙◌}
use mathlib.Core.List.{List, [], ◌∷◌, ◌++◌, append-nil}
use native.Mathlib.Nat.{add-zero}
use native.Mathlib.Decide.{dec_lt}
use native.Mathlib.Omega.{arith}
use lib.ListN.{length, get_or, length-append}
use lib.Dec.{eqb, eqb→eq}
use lib.Bits.{bit_and, bit_or, bit_xor, and_le_r}
use borrow.Author.Tests.{eq-eqb, ne_eqb, eqb-true, eqb-false, not-true, not-false}
use Rattle.bytewise.specs.Bytes.{part}
use Rattle.bytewise.specs.Every.{every}
use Rattle.bytewise.specs.Eights.{flag, flags}
use Rattle.bytewise.specs.Search.{FirstThat}
use Rattle.bytewise.proofs.Searching.{first_before}
use Rattle.std.specs.Prelude.{Some}
use Rattle.std.specs.Char.{is_ascii_digit}
use Rattle.cut.specs.declared.service.Syntax.{Syntax}
use Rattle.bytewise.proofs.Every.{every-at}
use Rattle.bytewise.proofs.Bytewise.{Eight, eight-and, eight-or, eight_xor, eight-add, eight_each, low, high, flags_of}
use Rattle.bytewise.proofs.Parts.{part_none, part-next}
use Rattle.bytewise.proofs.Limits.{limited}
use Rattle.value.specs.Numeral.{is_digit, some, none, digits_ahead, behind_digits, is_tail, digit_count}
use Rattle.value.specs.workers.Scans.{behind_sign, numeral_by, unsigned_of, digits_of}
use Rattle.value.proofs.Digitwise.{ahead_more, ahead-stop, ahead_none, behind_more, behind-stop, behind-none}
use Rattle.value.proofs.Numerals.{some-row, no_whole, whole_alone, tail_bad, tail_good, no_byte, with-minus, without_minus}
use Rattle.value.proofs.Answers.{digits_number}

-- ---- which bytes are no digit

-- what is computed from one byte
others_in : ℕ → ℕ
others_in x = bit_and (bit_or (bit_or (bit_and x 127 + 70) (bit_xor (bit_and x 127 + 80) 128)) x) 128

others-byte : (x : ℕ) → x < 256 → others_in x ≡ flag (not (is_digit x))
unfolding others_in is_digit every
others-byte x h = eqb→eq (others_in x) (flag (not (is_digit x))) (every-at (λ x. eqb (others_in x) (flag (not (is_digit x)))) 256 x tt h)

pub others-flags
    : (w : ℕ) (x : ℕ → ℕ) → Eight w x
    → bit_and
    (bit_or
    (bit_or (bit_and w 0x7f7f_7f7f_7f7f_7f7f + 0x4646_4646_4646_4646)
    (bit_xor (bit_and w 0x7f7f_7f7f_7f7f_7f7f + 0x5050_5050_5050_5050) 0x8080_8080_8080_8080)) w) 0x8080_8080_8080_8080
    ≡ flags (λ k. not (is_digit (x k)))
unfolding others_in
others-flags w x p =
    let q = eight-and p low in
    let s = eight-add q (eight_each 70 (omega arith)) (λ k. omega (arith, and_le_r (x k) 127)) in
    let t = eight-add q (eight_each 80 (omega arith)) (λ k. omega (arith, and_le_r (x k) 127)) in
    flags_of (eight-and (eight-or (eight-or s (eight_xor t high)) p) high) (λ k. not (is_digit (x k))) (λ k. others-byte (x k) (p.bytes k))

-- ---- how many digits a number has

digits-by : (m : Bool) (w f : List ℕ) → digits_of (Some (numeral_by m w f)) ≡ length (w ++ f)
unfolding numeral_by
digits-by m w f = refl

-- ---- where the digits end

-- r is the place of the first byte of d from i on that is no digit; e, if none stands before e
pub record DigitsEnd (d : List ℕ) (i e r : ℕ) : Type 0 where
  pub onward : i ≤ r
  pub digits : (k : ℕ) → i ≤ k → k < r → k < e → is_digit (get_or d k 0) ≡ true
  pub other : r < e → is_digit (get_or d r 0) ≡ false
  pub nothing : e ≤ i → r ≡ i

pub digits-end
    : (d : List ℕ) (i e r : ℕ) → i ≤ e → e ≤ length d → FirstThat (λ b. not (is_digit b)) d i (min e (length d)) r → DigitsEnd d i e r
digits-end d i e r a h f =
    let g = first_before (λ b. not (is_digit b)) d i e r h f in
    let o = g.onward in
    let w = g.within in
    record {
      onward = omega arith;
      digits = λ k m n l. not-false _ (g.before k m n);
      other = λ l. not-true _ (g.passes l);
      nothing = λ n. omega arith;
    }

-- the digits that std tells
pub ascii-digit : (x : ℕ) → is_ascii_digit x ≡ is_digit x
unfolding is_digit
ascii-digit x = refl

-- ---- how many digits that makes

module _ (d : List ℕ) (e : ℕ) (h : e ≤ length d) where
  -- n digits in a row
  digit_run
      : (n i : ℕ) → i + n ≤ e → ((k : ℕ) → i ≤ k → k < i + n → is_digit (get_or d k 0) ≡ true)
      → (length (digits_ahead (part i e d)) ≡ n + length (digits_ahead (part (i + n) e d)))
      × (behind_digits (part i e d) ≡ behind_digits (part (i + n) e d))
  digit_run zero i l t = rw (add-zero i) (omega arith, refl)
  digit_run (suc n) i l t =
      let g : is_digit (get_or d i 0) ≡ true = t i (omega arith) (omega arith) in
      let p = part-next d i e (omega arith) h in
      let r = digit_run n (i + 1) (omega arith) (λ k a b. t k (omega arith) (omega arith)) in
      let z : i + suc n ≡ i + 1 + n = omega arith in
      let a = ap length (ahead_more p g) in
      rw z (omega (arith, r.0), behind_more p g ∙ r.1)

  module _ (i r : ℕ) (q : DigitsEnd d i e r) where
    pub run_none : r ≤ i → digits_ahead (part i e d) ≡ []
    run_none l = go (dec_lt i e)
      where
        go : Dec (i < e) → digits_ahead (part i e d) ≡ []
        go (yes n) =
            let z : r ≡ i = omega (arith, q.onward) in
            let o : is_digit (get_or d i 0) ≡ false = rw z at (q.other (omega arith)) in
            ahead-stop (part-next d i e n h) o
        go (no n) = ahead_none (part_none d i e (omega arith))

    pub run-all : i ≤ e → e ≤ r → (length (digits_ahead (part i e d)) ≡ e - i) × (behind_digits (part i e d) ≡ [])
    run-all a b =
        let t = digit_run (e - i) i (omega arith) (λ k m n. q.digits k m (omega arith) (omega arith)) in
        let z = part_none d (i + (e - i)) e (omega arith) in
        (omega (arith, t.0, ap length (ahead_none z)), t.1 ∙ behind-none z)

    pub run-part : r < e → (length (digits_ahead (part i e d)) ≡ r - i) × (behind_digits (part i e d) ≡ get_or d r 0 ∷ part (r + 1) e d)
    run-part b =
        let on = q.onward in
        let t = digit_run (r - i) i (omega arith) (λ k m n. q.digits k m (omega arith) (omega arith)) in
        let z : i + (r - i) ≡ r = omega arith in
        let p = part-next d r e b h in
        let u : (length (digits_ahead (part i e d)) ≡ r - i + length (digits_ahead (part r e d))) × (behind_digits (part i e d) ≡ behind_digits (part r e d)) =
        rw z at t in
        (omega (arith, u.0, ap length (ahead-stop p (q.other b))), u.1 ∙ behind-stop p (q.other b))

-- the answers, for the bytes from i up to e behind a minus or not; p is where the digits end that begin at i
module _ (y : Syntax) (d : List ℕ) (i e p : ℕ) (h : e ≤ length d) (q : DigitsEnd d i e p) where
  pub told_none : p ≤ i → (m : Bool) → 0 ≡ digits_of (unsigned_of y m (part i e d))
  told_none l m = sym (ap digits_of (no_whole y m (part i e d) (run_none d e h i p q l)))

  pub told_whole : i ≤ e → i < p → e ≤ p → (m : Bool) → e - i ≡ digits_of (unsigned_of y m (part i e d))
  told_whole a b c m =
      let s = part i e d in
      let r = run-all d e h i p q a c in
      let u : some (digits_ahead s) ≡ true = some-row _ (λ z. let n = q.nothing (omega (arith, r.0)) in omega arith) in
      sym (ap digits_of (whole_alone y m s u r.1) ∙ digits-by m (digits_ahead s) [] ∙ ap length (append-nil (digits_ahead s)) ∙ r.0)

  module _ (l : p < e) where
    bad_tail : is_tail y (get_or d p 0 ∷ part (p + 1) e d) ≡ false → (m : Bool) → 0 ≡ digits_of (unsigned_of y m (part i e d))
    bad_tail t m = sym (ap digits_of (tail_bad y m (part i e d) _ _ (run-part d e h i p q l).1 t))

    pub told_other : (get_or d p 0 ≡ y.decimal → ⊥) → (m : Bool) → 0 ≡ digits_of (unsigned_of y m (part i e d))
    unfolding is_tail
    told_other n = bad_tail (rw (ne_eqb _ _ n))

    -- r is where the digits end that begin behind the mark
    module _ (r : ℕ) (f : DigitsEnd d (p + 1) e r) where
      pub told_mark-last : r ≤ p + 1 → (m : Bool) → 0 ≡ digits_of (unsigned_of y m (part i e d))
      unfolding is_tail some
      told_mark-last n = bad_tail (rw (run_none d e h (p + 1) r f n, and-false))

      pub told_more : r < e → (m : Bool) → 0 ≡ digits_of (unsigned_of y m (part i e d))
      unfolding is_tail none
      told_more n = bad_tail (rw ((run-part d e h (p + 1) r f n).1, and-false, and-false))

      pub told_mark
          : i < p → get_or d p 0 ≡ y.decimal → p + 1 < r → e ≤ r → (m : Bool) → e - i - 1 ≡ digits_of (unsigned_of y m (part i e d))
      unfolding is_tail none
      told_mark a x b c m =
          let s = part i e d in
          let t = part (p + 1) e d in
          let u = run-part d e h i p q l in
          let v = run-all d e h (p + 1) r f (omega arith) c in
          let w : some (digits_ahead s) ≡ true = some-row _ (λ z. omega (arith, u.0)) in
          let o : some (digits_ahead t) ≡ true = some-row _ (λ z. let n = f.nothing (omega (arith, v.0)) in omega arith) in
          let k = tail_good y m s _ _ u.1 w (rw (eq-eqb _ _ x, o, v.1)) in
          sym (ap digits_of k ∙ digits-by m (digits_ahead s) (digits_ahead t) ∙ length-append (digits_ahead s) (digits_ahead t) ∙ omega (arith, u.0, v.0))

-- ---- the sign, and an end past the delivery

-- a number begins behind its sign, and not behind the bytes
pub sign_within : (d : List ℕ) (a end from : ℕ) → a < end → from ≡ behind_sign d a → from ≤ end
unfolding behind_sign
sign_within d a end from h s = go (eqb (get_or d a 0) 45) s
  where
    go : (b : Bool) → from ≡ cond b (a + 1) a → from ≤ end
    go true z = omega arith
    go false z = omega arith

module _ (y : Syntax) (d : List ℕ) (a e end : ℕ) (limit : end ≡ min e (length d)) where
  pub no_bytes : end ≤ a → 0 ≡ digit_count y (part a e d)
  no_bytes h = ap digits_of (no_byte y _ (sym (limited d a e end limit) ∙ part_none d a end h)) ∙ digits_number y _

  module _ (h : a < end) (from : ℕ) (s : from ≡ behind_sign d a) where
    pub signed-count : (r : ℕ) → ((m : Bool) → r ≡ digits_of (unsigned_of y m (part from end d))) → r ≡ digit_count y (part a e d)
    unfolding behind_sign
    signed-count r f = go (eqb (get_or d a 0) 45) refl
      where
        bytes : part a e d ≡ get_or d a 0 ∷ part (a + 1) end d
        bytes = sym (limited d a e end limit) ∙ part-next d a end h (omega arith)

        go : (b : Bool) → eqb (get_or d a 0) 45 ≡ b → r ≡ digit_count y (part a e d)
        go true n =
            let z : from ≡ a + 1 = s ∙ rw n in
            f true
            ∙ ap digits_of (with-minus y (part a e d) _ _ bytes (unsigned_of y true (part from end d)) (eqb-true _ _ n) (rw z))
            ∙ digits_number y _
        go false n =
            let z : from ≡ a = s ∙ rw n in
            f false
            ∙ ap digits_of (without_minus y (part a e d) _ _ bytes (unsigned_of y false (part from end d)) (eqb-false _ _ n) (rw (z, limited d a e end limit)))
            ∙ digits_number y _
