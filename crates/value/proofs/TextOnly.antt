-- A count is spelled in one way only: digits alone, without leading zeros, are the decimal text of their value.
use Prim.Native.Nat.{ℕ, zero, suc, ◌+◌, ◌-◌, ◌*◌, ◌/◌, ◌%◌, ◌≤◌, ◌<◌}
use mathlib.Core.Bool.{Bool, true, false, not, ◌&&◌, false≢true, cond}
use mathlib.Core.Path.{◌≡◌, refl, sym, ap, ap₂, ◌∙◌}
use mathlib.Core.List.{List, [], ◌∷◌, ◌++◌}
use native.Mathlib.Nat.{mul-le-mul, pow-le-pow_right}
use native.Mathlib.Omega.{arith}
use lib.ListN.{length, get_or, take}
use lib.Seq.{take-length, take-suc, length-take-le}
use lib.Dec.{leb, lit<}
use borrow.Author.Tests.{eqb-false, leb-true, not-true}
use Rattle.std.specs.Prelude.{Some, None}
use Rattle.value.specs.Numeral.{some, none, is_digit, behind_digits, decimal}
use Rattle.value.specs.Digits.{padded, is_count, count_of}
use Rattle.value.specs.Text.{digits_in}
use Rattle.bytewise.proofs.Booleans.{and_both}
use Rattle.value.proofs.Digitwise.{digit_range, decimal-nothing, onto, decimal-append}
use Rattle.value.proofs.Texts.{digit_one, digit_last}
use Rattle.value.proofs.Grammar.{all_digits, ahead-digits, none_row}
use Rattle.value.proofs.Counting.{digits_alone}

-- the last of the digits
both-digits : (l t : List ℕ) → all_digits (l ++ t) ≡ true → (all_digits l ≡ true) × (all_digits t ≡ true)
unfolding all_digits
both-digits [] t h = (refl, h)
both-digits (x ∷ xs) t h =
    let p = and_both (is_digit x) (all_digits (xs ++ t)) h in
    let q = both-digits xs t p.1 in
    (rw p.0 q.0, q.1)

one_digit : (x : ℕ) → all_digits (x ∷ []) ≡ true → (48 ≤ x) × (x ≤ 57)
unfolding all_digits
one_digit x h = digit_range x (and_both (is_digit x) true h).0

onto_one : (v x : ℕ) → onto v (x ∷ []) ≡ v * 10 + (x - 48)
unfolding onto decimal
onto_one v x = omega arith

last_value : (l : List ℕ) (x : ℕ) → decimal (l ++ (x ∷ [])) ≡ decimal l * 10 + (x - 48)
last_value l x = decimal-append l (x ∷ []) ∙ onto_one (decimal l) x

-- digits that begin with no zero have a value
some_value : (w : ℕ) (ws : List ℕ) → all_digits (w ∷ ws) ≡ true → (w ≡ 48 → ⊥) → 0 < decimal (w ∷ ws)
unfolding all_digits decimal
some_value w ws h f =
    let r = digit_range w (and_both (is_digit w) (all_digits ws) h).0 in
    let k : 1 ≤ w - 48 = omega arith in
    let z : 0 ≤ length ws = omega arith in
    let p = pow-le-pow_right {n = 10} (lit< tt) z in
    let m = mul-le-mul k p in
    omega arith

-- the value without its last digit, and the last digit
value_parts : (v x : ℕ) → (48 ≤ x) × (x ≤ 57) → ((v * 10 + (x - 48)) / 10 ≡ v) × (48 + (v * 10 + (x - 48)) % 10 ≡ x)
value_parts v x r = (omega arith, omega arith)

-- a row with no zero in front
abbrev Leads : List ℕ → Type 0
Leads s = get_or s 0 48 ≡ 48 → ⊥

-- one digit by itself
single : (k x : ℕ) → (48 ≤ x) × (x ≤ 57) → digits_in (suc k) (decimal (x ∷ [])) ≡ x ∷ []
single k x r =
    let v : decimal (x ∷ []) ≡ x - 48 = last_value [] x ∙ rw decimal-nothing (omega arith) in
    let d : (x - 48) / 10 ≡ 0 = omega arith in
    let m : 48 + (x - 48) % 10 ≡ x = omega arith in
    ap (digits_in (suc k)) v ∙ digit_one k (x - 48) d ∙ ap (λ (b : ℕ). b ∷ []) m

-- the statement for a row, from that for its digits but the last
step : (k : ℕ) (l : List ℕ) (x : ℕ) → all_digits (l ++ (x ∷ [])) ≡ true → Leads (l ++ (x ∷ []))
    → (all_digits l ≡ true → Leads l → digits_in k (decimal l) ≡ l)
    → digits_in (suc k) (decimal (l ++ (x ∷ []))) ≡ l ++ (x ∷ [])
step k [] x h f ih = single k x (one_digit x h)
step k (w ∷ ws) x h f ih =
    let q = both-digits (w ∷ ws) (x ∷ []) h in
    let p = value_parts (decimal (w ∷ ws)) x (one_digit x q.1) in
    let v = some_value w ws q.0 f in
    ap (digits_in (suc k)) (last_value (w ∷ ws) x)
    ∙ digit_last k (decimal (w ∷ ws) * 10 + (x - 48)) (λ z. absurd (omega arith))
    ∙ ap₂ (λ (m : ℕ) (b : ℕ). digits_in k m ++ (b ∷ [])) p.0 p.1
    ∙ ap (λ (t : List ℕ). t ++ (x ∷ [])) (ih q.0 f)

-- rows of at most k digits that lead with no zero are the text of their value
abbrev Spelled : ℕ → Type 0
Spelled k = (s : List ℕ) → length s ≤ k → all_digits s ≡ true → Leads s → digits_in k (decimal s) ≡ s

none_lead : Spelled zero
none_lead [] l h f = absurd (f refl)
none_lead (z ∷ zs) l h f = absurd (omega arith)

more_lead : (k : ℕ) → Spelled k → Spelled (suc k)
more_lead k ih [] l h f = absurd (f refl)
more_lead k ih (z ∷ zs) l h f =
    let n : length zs < length (z ∷ zs) = omega arith in
    let e = sym (take-length (z ∷ zs)) ∙ take-suc (z ∷ zs) (length zs) 0 n in
    let m : length (take (length zs) (z ∷ zs)) ≤ k = rw (length-take-le (length zs) (z ∷ zs) (omega arith)) (omega arith) in
    ap (λ (t : List ℕ). digits_in (suc k) (decimal t)) e
    ∙ step k (take (length zs) (z ∷ zs)) (get_or (z ∷ zs) (length zs) 0) (ap all_digits (sym e) ∙ h)
    (λ q. f (ap (λ (t : List ℕ). get_or t 0 48) e ∙ q))
    (ih (take (length zs) (z ∷ zs)) m)
    ∙ sym e

lead_text : (k : ℕ) → Spelled k
lead_text zero = none_lead
lead_text (suc k) = more_lead k (lead_text k)

lean_text : (s : List ℕ) → some s ≡ true → all_digits s ≡ true → padded s ≡ false → length s ≤ 20 → digits_in 20 (decimal s) ≡ s
unfolding some padded
lean_text [] k h p l = absurd (false≢true k)
lean_text (x ∷ []) k h p l = single 19 x (one_digit x h)
lean_text (x ∷ z ∷ zs) k h p l = lead_text 20 (x ∷ z ∷ zs) l h (eqb-false x 48 p)

-- a count is the decimal text of its value: no two spellings have one value
pub count_spelled : (s : List ℕ) (n : ℕ) → count_of s ≡ Some n → s ≡ digits_in 20 n
unfolding count_of is_count
count_spelled s n h = go (some s && (none (behind_digits s) && not (padded s)) && leb (length s) 15) refl h
  where
    go : (b : Bool) → some s && (none (behind_digits s) && not (padded s)) && leb (length s) 15 ≡ b → cond b (Some (decimal s)) None ≡ Some n → s
        ≡ digits_in 20 n
    go true e h =
        let v : decimal s ≡ n = cc in
        let p = and_both (some s && (none (behind_digits s) && not (padded s))) (leb (length s) 15) e in
        let q = and_both (some s) (none (behind_digits s) && not (padded s)) p.0 in
        let r = and_both (none (behind_digits s)) (not (padded s)) q.1 in
        let l = leb-true (length s) 15 p.1 in
        let a : all_digits s ≡ true = ap all_digits (sym (digits_alone s (none_row _ r.0))) ∙ ahead-digits s in
        sym (lean_text s q.0 a (not-true _ r.1) (omega arith)) ∙ ap (digits_in 20) v
    go false e h =
        let z : ◌≡◌ {A = ℕ} 0 1 = cc in
        absurd (omega arith)
