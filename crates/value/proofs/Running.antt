-- How a run of digits is read: what holds on the way, and what that gives at its end.
use Prim.Native.Nat.{ℕ, ◌+◌, ◌-◌, ◌*◌, ◌^◌, ◌≤◌, ◌<◌}
use mathlib.Core.Bool.{true, false}
use mathlib.Core.Path.{◌≡◌, refl, sym, ap, ◌∙◌}
use mathlib.Core.List.{List, [], ◌∷◌}
use native.Mathlib.Nat.{le_of_lt, pow-suc, pow-le-pow_right, lt_of_lt_of_le}
use native.Mathlib.Numerals.{add-one}
use native.Mathlib.Omega.{arith}
use lib.ListN.{length}
use Rattle.std.specs.Prelude.{Option, Some, None}
use lib.Dec.{lit<}
use Rattle.value.specs.Numeral.{is_digit, digits_ahead, behind_digits}
use Rattle.value.specs.workers.Scans.{Pushed, behind_by, DigitRun}
use Rattle.value.proofs.Digitwise.{
  digit_range,
  ahead_more,
  behind_more,
  ahead-stop,
  behind-stop,
  ahead_none,
  behind-none,
  onto,
  onto_none,
  onto_is,
  onto_digit,
}

-- a number below a power of ten, with a digit behind it
pub digit_more : (v c n : ℕ) → v < 10 ^ n → c ≤ 9 → v * 10 + c < 10 ^ (n + 1)
digit_more v c n h k = rw (add-one n, pow-suc 10 n) (omega arith)

module _ (s : List ℕ) (value : ℕ) where
  -- value has n digits, and the digits of s do not make them more than fifteen
  abbrev pub Few : ℕ → Type 0
  Few n = (value < 10 ^ n) × (n + length (digits_ahead s) ≤ 15)

  -- count digits of s are passed, which make sum of value, and t is left and gives the rest
  pub record Along (t : List ℕ) (count sum : ℕ) : Type 0 where
    pub bounded : sum < 10 ^ 16
    pub room : count + length t ≤ length s
    pub ahead : count + length (digits_ahead t) ≡ length (digits_ahead s)
    pub behind : behind_digits t ≡ behind_digits s
    pub small : (n : ℕ) → Few n → sum < 10 ^ (n + count)
    pub valued : (n : ℕ) → Few n → onto sum (digits_ahead t) ≡ onto value (digits_ahead s)

  pub along_start : value < 10 ^ 16 → Along s 0 value
  along_start h =
      record {
        bounded = h;
        room = omega arith;
        ahead = omega arith;
        behind = refl;
        small = λ n f. let z : n + 0 ≡ n = omega arith in rw z f.0;
        valued = λ n f. refl;
      }

  module _ (t : List ℕ) (count sum : ℕ) (a : Along t count sum) where
    -- with few digits, nothing is lost at the next one
    grown : (n : ℕ) {x sum' : ℕ} → Few n → n + count < 15 → Pushed sum x sum' → sum' ≡ sum * 10 + (x - 48)
    grown n f k p = p.grown (lt_of_lt_of_le (a.small n f) (pow-le-pow_right (lit< tt) (le_of_lt k)))

    module _ (x : ℕ) (u : List ℕ) (l : t ≡ x ∷ u) where
      pub along_room : count + 1 + length u ≤ length s
      along_room = omega (arith, a.room, ap length l)

      pub along_more : is_digit x ≡ true → (sum' : ℕ) → Pushed sum x sum' → Along u (count + 1) sum'
      along_more g sum' p =
          let r = digit_range x g in
          let m : digits_ahead t ≡ x ∷ digits_ahead u = ahead_more l g in
          let k = ap length m in
          let few : (n : ℕ) → Few n → n + count < 15 = λ n f. omega (arith, a.ahead, f.1) in
          record {
            bounded = p.bounded;
            room = along_room;
            ahead = omega (arith, a.ahead);
            behind = sym (behind_more l g) ∙ a.behind;
            small =
                λ n f.
                let z : n + (count + 1) ≡ n + count + 1 = omega arith in
                rw (z, grown n f (few n f) p) (digit_more sum (x - 48) (n + count) (a.small n f) (omega arith));
            valued =
                λ n f.
                ap (λ (v : ℕ). onto v (digits_ahead u)) (grown n f (few n f) p)
                ∙ sym (onto_digit sum x _)
                ∙ ap (onto sum) (sym m)
                ∙ a.valued n f;
          }

    ended
        : (b : Option ℕ) (u : List ℕ) → digits_ahead t ≡ [] → behind_digits t ≡ behind_by b u → count + length u ≤ length s
        → DigitRun s value (record { count = count; value = sum; behind = b }) u
    ended b u m f g =
        let k : count ≡ length (digits_ahead s) = omega (arith, a.ahead, ap length m) in
        record {
          counted = k;
          valued = λ n h l. sym (onto_none sum _ m) ∙ a.valued n (h, omega arith) ∙ onto_is value _ count k;
          bounded = a.bounded;
          room = g;
          behind = sym a.behind ∙ f;
        }

    -- nothing is left
    pub along_end : t ≡ [] → (u : List ℕ) → u ≡ [] → DigitRun s value (record { count = count; value = sum; behind = None }) u
    along_end h u k = ended None u (ahead_none h) (behind-none h) (omega (arith, a.room, ap length k))

    -- a byte that is no digit follows
    pub along_stop
        : (x : ℕ) (u : List ℕ) → t ≡ x ∷ u → is_digit x ≡ false
        → DigitRun s value (record { count = count; value = sum; behind = Some x }) u
    along_stop x u l g = ended (Some x) u (ahead-stop l g) (behind-stop l g) (omega (arith, a.room, ap length l))
