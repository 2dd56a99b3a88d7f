-- How the digits of a number are written from the end of a row to its front, and the sign before them.
use Prim.Native.Nat.{ℕ, zero, suc, ◌+◌, ◌-◌, ◌*◌, ◌/◌, ◌%◌, ◌^◌, ◌≤◌, ◌<◌}
use mathlib.Core.Bool.{Bool, true, false, true≢false}
use mathlib.Core.Path.{◌≡◌, refl, sym, ap, ap₂, ◌∙◌}
use mathlib.Core.List.{List, [], ◌∷◌, ◌++◌, append-nil}
use native.Mathlib.Nat.{pow-suc}
use native.Mathlib.Omega.{arith}
use lib.ListN.{length, take, drop, set, take-append-drop, length-append, length-drop, length-set, drop_of_length-le}
use lib.Seq.{set_split, set-append_left, take-set-le, take-set-lt, take-suc-set, take-take, drop_at, length-take-le, append_snoc}
use lib.Dec.{eqb}
use lib.IntN.{ℤ, pos, negsuc, nat_abs}
use lib.Signed.{lt_z}
use mir.Syntax.{w64}
use mir.Val.{SFits, to_z, of_z}
use mir.Facts.{to_z-of_z}
use borrow.Author.Tests.{lt-ltb, le-ltb, ltb-true, eqb-true, eqb-false}
use Rattle.value.specs.Text.{digits_in, text_of}

-- the last digit of a number, and what stands before it
pub digit_one : (k n : ℕ) → n / 10 ≡ 0 → digits_in (suc k) n ≡ (48 + n % 10) ∷ []
unfolding digits_in
digit_one k n h =
    let l : n < 10 = omega arith in
    let m : n % 10 ≡ n = omega arith in
    rw (lt-ltb n 10 l, m)

pub digit_last : (k n : ℕ) → (n / 10 ≡ 0 → ⊥) → digits_in (suc k) n ≡ digits_in k (n / 10) ++ ((48 + n % 10) ∷ [])
unfolding digits_in
digit_last k n h =
    let l : 10 ≤ n = omega arith in
    rw (le-ltb n 10 l)

-- a number below 10 ^ (k + 1) has at most k + 1 digits
none_in : (n : ℕ) → length (digits_in zero n) ≡ 0
unfolding digits_in
none_in n = refl

few : (j k n : ℕ) (b : Bool) → eqb (n / 10) 0 ≡ b → n < 10 ^ suc k → ((i : ℕ) → n / 10 < 10 ^ suc i → length (digits_in j (n / 10)) ≤ suc i)
    → length (digits_in (suc j) n) ≤ suc k
few j k n true e h ih = rw (digit_one j n (eqb-true (n / 10) 0 e)) (omega arith)
few j zero n false e h ih = absurd (eqb-false (n / 10) 0 e (omega arith))
few j (suc i) n false e h ih =
    let p : n < 10 ^ suc i * 10 = rw (pow-suc 10 (suc i)) at h in
    let l = ih i (omega arith) in
    rw (digit_last j n (eqb-false (n / 10) 0 e), length-append (digits_in j (n / 10)) ((48 + n % 10) ∷ [])) (omega arith)

pub digits-few : (j k n : ℕ) → n < 10 ^ suc k → length (digits_in j n) ≤ suc k
digits-few zero k n h = omega (arith, none_in n)
digits-few (suc j) k n h = few j k n (eqb (n / 10) 0) refl h (λ i. digits-few j i (n / 10))

-- from place at on the row has the last digits of m; left is what they are still to be put before
pub record Putting (m : ℕ) (row out : List ℕ) (at left : ℕ) : Type 0 where
  pub size : length out ≡ 20
  pub room : 0 < at
  pub top : at ≤ 20
  pub small : left < 10 ^ at
  pub kept : take at out ≡ take at row
  pub made : digits_in at left ++ drop at out ≡ digits_in 20 m

pub put-start : (m : ℕ) (row : List ℕ) → length row ≡ 20 → m < 2 ^ 64 → Putting m row row 20 m
put-start m row l h =
    let k : length row ≤ 20 = omega arith in
    record {
      size = l;
      room = omega arith;
      top = omega arith;
      small = omega arith;
      kept = refl;
      made = rw (drop_of_length-le row k) (append-nil _);
    }

-- a byte stored at place k: what stands before it and from it on
stored : (k x : ℕ) (out : List ℕ) → k < length out → drop k (set out k x) ≡ x ∷ drop (suc k) out
stored k x out h =
    let l : k ≤ length out = omega arith in
    rw (set_split out k x h) (drop_at (take k out) (x ∷ drop (suc k) out) k (length-take-le k out l))

module _ (m : ℕ) (row out : List ℕ) (left : ℕ) where
  before : (k x : ℕ) → Putting m row out (suc k) left → take k (set out k x) ≡ take k row
  before k x c =
      let l : k ≤ suc k = omega arith in
      take-set-le k out k x (omega arith)
      ∙ sym (take-take k (suc k) out l)
      ∙ ap (take k) c.kept
      ∙ take-take k (suc k) row l

  pub put_more
      : (at : ℕ) → Putting m row out at left → (left / 10 ≡ 0 → ⊥)
      → Putting m row (set out (at - 1) (48 + left % 10)) (at - 1) (left / 10)
  put_more zero c h = absurd (omega (arith, c.room))
  put_more (suc zero) c h = absurd (h (omega (arith, c.small)))
  put_more (suc (suc k)) c h =
      let x = 48 + left % 10 in
      let z : suc (suc k) - 1 ≡ suc k = omega arith in
      let l : suc k < length out = omega (arith, c.size, c.top) in
      let s : left < 10 ^ suc k * 10 = rw (pow-suc 10 (suc k)) at c.small in
      rw z
      (record {
        size = length-set out (suc k) x ∙ c.size;
        room = omega arith;
        top = omega (arith, c.top);
        small = omega arith;
        kept = before (suc k) x c;
        made =
            ap (λ (t : List ℕ). digits_in (suc k) (left / 10) ++ t) (stored (suc k) x out l)
            ∙ sym (append_snoc (digits_in (suc k) (left / 10)) x (drop (suc (suc k)) out))
            ∙ ap (λ (t : List ℕ). t ++ drop (suc (suc k)) out) (sym (digit_last (suc k) left h))
            ∙ c.made;
      })

  pub put_end
      : (at : ℕ) → Putting m row out at left → left / 10 ≡ 0
      → (at - 1 + length (digits_in 20 m) ≡ 20) × (set out (at - 1) (48 + left % 10) ≡ take (at - 1) row ++ digits_in 20 m)
  put_end zero c h = absurd (omega (arith, c.room))
  put_end (suc k) c h =
      let x = 48 + left % 10 in
      let z : suc k - 1 ≡ k = omega arith in
      let l : k < length out = omega (arith, c.size, c.top) in
      let d : digits_in 20 m ≡ x ∷ drop (suc k) out = sym c.made ∙ rw (digit_one k left h) in
      let n : length (digits_in 20 m) ≡ suc (20 - suc k) = ap length d ∙ simp length-drop (omega (arith, c.size)) in
      let w : set out k x ≡ take k row ++ digits_in 20 m =
      sym (take-append-drop k (set out k x)) ∙ ap₂ ◌++◌ (before k x c) (stored k x out l ∙ sym d)
      in
      rw z (omega (arith, c.top), w)

-- the sign before the digits
text-minus : (z : ℤ) → lt_z z (pos 0) ≡ true → text_of z ≡ 45 ∷ digits_in 20 (nat_abs z)
unfolding text_of
text-minus (pos n) h = absurd (omega (arith, ltb-true n 0 h))
text-minus (negsuc n) h = refl

text-plain : (z : ℤ) → lt_z z (pos 0) ≡ false → text_of z ≡ digits_in 20 (nat_abs z)
unfolding text_of
text-plain (pos n) h = refl
text-plain (negsuc n) h = absurd (true≢false h)

nineteen : (z : ℤ) → SFits w64 z → nat_abs z < 10 ^ 19
nineteen (pos n) f = omega (arith, f.sfits)
nineteen (negsuc n) f = omega (arith, f.sfits)

-- a byte put right before what stands at the end
put-before : (k x : ℕ) (row l : List ℕ) → k < length row → set (take (suc k) row ++ l) k x ≡ take k row ++ x ∷ l
put-before k x row l h =
    let n : k < length (take (suc k) row) = rw (length-take-le (suc k) row h) (omega arith) in
    set-append_left (take (suc k) row) l k x n
    ∙ ap (λ (t : List ℕ). t ++ l) (sym (take-set-lt (suc k) row k x (omega arith)) ∙ take-suc-set row k x h)
    ∙ append_snoc (take k row) x l

module _ (z : ℤ) (f : SFits w64 z) (r m : ℕ) (p : m ≡ nat_abs (to_z w64 (of_z w64 z))) (q : r + length (digits_in 20 m) ≡ 20) where
  magnitude : m ≡ nat_abs z
  magnitude = p ∙ ap nat_abs (to_z-of_z f)

  -- a place is left for the sign
  pub room-left : 0 < r
  room-left =
      let k = digits-few 20 18 m (rw magnitude (nineteen z f)) in
      omega arith

  module _ (row out : List ℕ) (l : length row ≡ 20) (w : out ≡ take r row ++ digits_in 20 m) where
    pub minus-put
        : lt_z (to_z w64 (of_z w64 z)) (pos 0) ≡ true
        → (21 - r ≡ length (text_of z)) × (set out (r - 1) 45 ≡ take (20 - (21 - r)) row ++ text_of z)
    minus-put h =
        let t : text_of z ≡ 45 ∷ digits_in 20 m =
        text-minus z (ap (λ (i : ℤ). lt_z i (pos 0)) (sym (to_z-of_z f)) ∙ h) ∙ ap (λ (n : ℕ). 45 ∷ digits_in 20 n) (sym magnitude)
        in
        let n = room-left in
        let k : suc (r - 1) ≡ r = omega arith in
        let e : 20 - (21 - r) ≡ r - 1 = omega arith in
        let g : r - 1 < length row = omega arith in (
          omega (arith, ap length t),
          ap (λ (o : List ℕ). set o (r - 1) 45) (w ∙ ap (λ (n : ℕ). take n row ++ digits_in 20 m) (sym k))
              ∙ put-before (r - 1) 45 row (digits_in 20 m) g
              ∙ ap₂ (λ (n : ℕ) (t : List ℕ). take n row ++ t) (sym e) (sym t),
        )

    pub plain-put
        : lt_z (to_z w64 (of_z w64 z)) (pos 0) ≡ false
        → (20 - r ≡ length (text_of z)) × (out ≡ take (20 - (20 - r)) row ++ text_of z)
    plain-put h =
        let t : text_of z ≡ digits_in 20 m =
        text-plain z (ap (λ (i : ℤ). lt_z i (pos 0)) (sym (to_z-of_z f)) ∙ h) ∙ ap (digits_in 20) (sym magnitude)
        in
        let e : 20 - (20 - r) ≡ r = omega arith in
        (omega (arith, ap length t), w ∙ ap₂ (λ (n : ℕ) (t : List ℕ). take n row ++ t) (sym e) (sym t))

-- from where the digits begin, how many they are
pub digits-put
    : (m r : ℕ) (row out : List ℕ) → (r + length (digits_in 20 m) ≡ 20) × (out ≡ take r row ++ digits_in 20 m)
    → (20 - r ≡ length (digits_in 20 m)) × (out ≡ take (20 - (20 - r)) row ++ digits_in 20 m)
digits-put m r row out h =
    let e : 20 - (20 - r) ≡ r = omega (arith, h.0) in
    (omega (arith, h.0), h.1 ∙ ap (λ (n : ℕ). take n row ++ digits_in 20 m) (sym e))
