-- What the runs of digits before and behind the mark make of the bytes: one law for each answer of `unsigned_numeral`, and the sign.
use Prim.Native.Nat.{ℕ, ◌+◌, ◌-◌, ◌^◌, ◌≤◌, ◌<◌}
use mathlib.Core.Bool.{Bool, true, false, ◌&&◌, and-false, true≢false, false≢true}
use mathlib.Core.Path.{◌≡◌, refl, sym, ap, ◌∙◌}
use mathlib.Core.List.{List, [], ◌∷◌, ◌++◌, append-nil}
use native.Mathlib.Nat.{zero-mul, zero-add, pow-suc, mul-le-mul_right}
use native.Mathlib.Omega.{arith}
use lib.ListN.{length, length-append}
use lib.Dec.{eqb, ltb, lit<}
use borrow.Author.Tests.{eq-eqb, ne_eqb, ltb-false}
use Rattle.cut.specs.declared.service.Syntax.{Syntax}
use Rattle.value.specs.declared.numeral.Run.{Run}
use Rattle.value.specs.declared.numeral.Numeral.{Numeral}
use Rattle.std.specs.Prelude.{Option, Some, None, is_some}
use Rattle.value.specs.Numeral.{some, none, is_digit, digits_ahead, behind_digits, minus, unsigned, is_tail, decimal}
use Rattle.value.specs.workers.Scans.{behind_by, DigitRun, counted_as, numeral_by, unsigned_of, numeral_of}
use Rattle.value.proofs.Digitwise.{digit_range, ahead_more, ahead-stop, onto, onto_is, decimal-append}

-- a row of no bytes, a row of some
pub empty-row : (l : List ℕ) → length l ≡ 0 → l ≡ []
empty-row [] h = refl
empty-row (x ∷ xs) h = absurd (omega arith)

pub some-row : (l : List ℕ) → (length l ≡ 0 → ⊥) → some l ≡ true
unfolding some
some-row [] h = absurd (h refl)
some-row (x ∷ xs) h = refl

-- only up to fifteen digits does the value matter
pub counted_same : (m : Bool) (v v' n k : ℕ) → (n ≤ 15 → v ≡ v') → counted_as m v n k ≡ counted_as m v' n k
counted_same m v v' n k h = go (ltb 15 n) refl
  where
    go : (b : Bool) → ltb 15 n ≡ b → counted_as m v n k ≡ counted_as m v' n k
    go true e = rw e
    go false e =
        let q : n ≤ 15 = ltb-false 15 n e in
        rw (h q)

-- the value of the digits ahead has no more digits than they are
below : (x : ℕ) (xs : List ℕ) (b : Bool) → is_digit x ≡ b → decimal (digits_ahead xs) < 10 ^ length (digits_ahead xs)
    → decimal (digits_ahead (x ∷ xs)) < 10 ^ length (digits_ahead (x ∷ xs))
unfolding decimal
below x xs true e h =
    let r = digit_range x e in
    let k : x - 48 ≤ 9 = omega arith in
    let l = mul-le-mul_right (10 ^ length (digits_ahead xs)) k in
    rw (ahead_more {t = xs} {x = x} refl e, pow-suc 10 (length (digits_ahead xs))) (omega arith)
below x xs false e h = rw (ahead-stop {t = xs} {x = x} refl e) (omega arith)

pub decimal-below : (s : List ℕ) → decimal (digits_ahead s) < 10 ^ length (digits_ahead s)
unfolding decimal digits_ahead
decimal-below [] = omega arith
decimal-below (x ∷ xs) = below x xs (is_digit x) refl (decimal-below xs)

pub none-of : (b : Option ℕ) → is_some b ≡ false → b ≡ None
none-of None h = refl
none-of (Some x) h = absurd (true≢false h)

module _ (y : Syntax) (m : Bool) (s : List ℕ) where
  pub no_whole : digits_ahead s ≡ [] → unsigned_of y m s ≡ None
  unfolding unsigned_of some
  no_whole p = rw p

  pub whole_alone : some (digits_ahead s) ≡ true → behind_digits s ≡ [] → unsigned_of y m s ≡ Some (numeral_by m (digits_ahead s) [])
  unfolding unsigned_of is_tail digits_ahead
  whole_alone p q = rw (p, q)

  module _ (x : ℕ) (t : List ℕ) (q : behind_digits s ≡ x ∷ t) where
    pub tail_bad : is_tail y (x ∷ t) ≡ false → unsigned_of y m s ≡ None
    unfolding unsigned_of
    tail_bad h = rw (q, h, and-false)

    pub tail_good : some (digits_ahead s) ≡ true → is_tail y (x ∷ t) ≡ true → unsigned_of y m s ≡ Some (numeral_by m (digits_ahead s) (digits_ahead t))
    unfolding unsigned_of
    tail_good p h = rw (p, q, h)

-- the answers, each from the runs that were read; s are the bytes without their sign, and u those behind the first run
module _ (y : Syntax) (m : Bool) (s u : List ℕ) (w : Run) (r : DigitRun s 0 w u) where
  pub no_digit : w.count ≡ 0 → None ≡ unsigned_of y m s
  no_digit h = sym (no_whole y m _ (empty-row _ (sym r.counted ∙ h)))

  some-whole : (w.count ≡ 0 → ⊥) → some (digits_ahead s) ≡ true
  some-whole h = some-row _ (λ k. h (r.counted ∙ k))

  -- the whole digits by themselves
  whole_value : w.count ≤ 15 → w.value ≡ decimal (digits_ahead s)
  whole_value h = r.valued 0 (lit< tt) (omega arith) ∙ rw zero-mul (zero-add _)

  pub only-whole : (w.count ≡ 0 → ⊥) → w.behind ≡ None → Some (counted_as m w.value w.count 0) ≡ unsigned_of y m s
  unfolding numeral_by
  only-whole h k =
      let n : behind_digits s ≡ [] = r.behind ∙ ap (λ (b : Option ℕ). behind_by b u) k in
      ap (λ (x : Numeral). Some x) (counted_same m _ _ w.count 0 whole_value)
      ∙ rw r.counted
      (rw (whole_alone y m s (some-whole h) n, append-nil (digits_ahead s)) refl)

  module _ (x : ℕ) (k : w.behind ≡ Some x) where
    found : behind_digits s ≡ x ∷ u
    found = r.behind ∙ ap (λ (b : Option ℕ). behind_by b u) k

    pub no_mark : (x ≡ y.decimal → ⊥) → None ≡ unsigned_of y m s
    unfolding is_tail
    no_mark n = sym (tail_bad y m _ _ _ found (rw (ne_eqb _ _ n)))

    -- the run behind the mark
    module _ (f : Run) (v : List ℕ) (q : DigitRun u w.value f v) where
      pub no_fraction : f.count ≡ 0 → None ≡ unsigned_of y m s
      unfolding is_tail some
      no_fraction h =
          sym (tail_bad y m _ _ _ found (rw (empty-row (digits_ahead u) (sym q.counted ∙ h), and-false)))

      pub more_behind : is_some f.behind ≡ true → None ≡ unsigned_of y m s
      unfolding is_tail none
      more_behind h = sym (tail_bad y m _ _ _ found (rw (q.behind) (go f.behind h)))
        where
          go : (b : Option ℕ) → is_some b ≡ true → eqb x y.decimal && (some (digits_ahead u) && none (behind_by b v)) ≡ false
          go (Some z) h = rw (and-false (some (digits_ahead u)), and-false (eqb x y.decimal))
          go None h = absurd (false≢true h)

      -- all digits, those before and those behind the mark
      all-digits : w.count + f.count ≤ 15 → f.value ≡ decimal (digits_ahead s ++ digits_ahead u)
      all-digits h =
          let z : w.value ≡ decimal (digits_ahead s) = whole_value (omega arith) in
          let b : w.value < 10 ^ w.count = rw (z, r.counted) (decimal-below _) in
          q.valued w.count b h
          ∙ sym (onto_is w.value _ f.count q.counted)
          ∙ ap (λ (n : ℕ). onto n (digits_ahead u)) z
          ∙ sym (decimal-append _ _)

      pub both_sides
          : (w.count ≡ 0 → ⊥) → x ≡ y.decimal → (f.count ≡ 0 → ⊥) → is_some f.behind ≡ false
          → Some (counted_as m f.value (w.count + f.count) f.count) ≡ unsigned_of y m s
      unfolding numeral_by is_tail none
      both_sides h g l n =
          let o : some (digits_ahead u) ≡ true = some-row _ (λ z. l (q.counted ∙ z)) in
          let e : behind_digits u ≡ [] = q.behind ∙ ap (λ (b : Option ℕ). behind_by b v) (none-of f.behind n) in
          ap (λ (a : Numeral). Some a) (counted_same m _ _ (w.count + f.count) f.count all-digits)
          ∙ rw (
            tail_good y m s _ _ found (some-whole h) (rw (eq-eqb _ _ g, o, e)),
            length-append (digits_ahead s) (digits_ahead u),
            ← r.counted,
            ← q.counted,
          )

-- the sign
module _ (y : Syntax) (s : List ℕ) where
  pub no_byte : s ≡ [] → None ≡ numeral_of y s
  unfolding numeral_of minus unsigned digits_ahead
  no_byte p = rw p (sym (no_whole y false [] refl))

  module _ (x : ℕ) (t : List ℕ) (p : s ≡ x ∷ t) where
    pub with-minus : (r : Option Numeral) → x ≡ 45 → r ≡ unsigned_of y true t → r ≡ numeral_of y s
    unfolding numeral_of minus unsigned
    with-minus r h q = q ∙ rw (p, eq-eqb x 45 h)

    pub without_minus : (r : Option Numeral) → (x ≡ 45 → ⊥) → r ≡ unsigned_of y false s → r ≡ numeral_of y s
    unfolding numeral_of minus unsigned
    without_minus r h q = q ∙ rw (p, ne_eqb x 45 h)
