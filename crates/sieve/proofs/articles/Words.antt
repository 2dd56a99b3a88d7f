-- How the print of an article is made, eight bytes at once.
use Prim.Native.Nat.{ℕ, zero, suc, ◌+◌, ◌*◌, ◌-◌, ◌/◌, ◌^◌, ◌≤◌, ◌<◌, min}
use mathlib.Core.Path.{◌≡◌, refl, sym, ap, ◌∙◌}
use mathlib.Core.Bool.{Bool, true, false, and-false}
use mathlib.Core.List.{List, [], ◌∷◌, ◌++◌, append-nil}
use native.Mathlib.Nat.{zero-add, suc-add}
use native.Mathlib.Omega.{arith}
use lib.ListN.{length, get_or}
use lib.Dec.{eqb}
use lib.Pow.{shr-shr}
use Rattle.cut.specs.declared.service.Syntax.{Syntax}
use Rattle.bytewise.specs.Eights.{number, on_from, eight_at, flag, flags, Flagged}
use Rattle.cut.specs.Segments.{frees}
use Rattle.bytewise.proofs.Bytewise.{eight_there, flagged_there, flags-none}
use Rattle.plain.specs.Plain.{decoded}
use Rattle.plain.proofs.Decoding.{decoded-byte, decoded-none, decoded_limited}
use Rattle.sieve.specs.workers.Words.{word_mixed, gathered_by, closed_by, begun, print_from, article_print}

-- the first k of a row of bytes
unfoldable row_of : ℕ → (ℕ → ℕ) → List ℕ
row_of zero x = []
row_of (suc k) x = x 0 ∷ row_of k (λ j. x (suc j))

-- ---- the print of a word

eight_print : (a : ℕ) (x : ℕ → ℕ) (ys : List ℕ) → print_from (begun a) (row_of 8 x ++ ys) ≡ print_from (begun (word_mixed a (number 8 x))) ys
unfolding row_of print_from gathered_by number
eight_print a x ys = ap (λ (v : ℕ). print_from (begun (word_mixed a v)) ys) (omega arith)

short_print : (a k : ℕ) (x : ℕ → ℕ) → 0 < k → k < 8 → print_from (begun a) (row_of k x) ≡ word_mixed a (number k x)
unfolding row_of print_from gathered_by closed_by number
short_print a zero x h l = absurd (omega arith)
short_print a (suc zero) x h l = ap (word_mixed a) (omega arith)
short_print a (suc (suc zero)) x h l = ap (word_mixed a) (omega arith)
short_print a (suc (suc (suc zero))) x h l = ap (word_mixed a) (omega arith)
short_print a (suc (suc (suc (suc zero)))) x h l = ap (word_mixed a) (omega arith)
short_print a (suc (suc (suc (suc (suc zero))))) x h l = ap (word_mixed a) (omega arith)
short_print a (suc (suc (suc (suc (suc (suc zero)))))) x h l = ap (word_mixed a) (omega arith)
short_print a (suc (suc (suc (suc (suc (suc (suc zero))))))) x h l = ap (word_mixed a) (omega arith)
short_print a (suc (suc (suc (suc (suc (suc (suc (suc k)))))))) x h l = absurd (omega arith)

-- ---- the upper digits of a number

number_upper : (j k : ℕ) (x : ℕ → ℕ) → ((m : ℕ) → x m < 256) → number (j + k) x / 2 ^ (8 * j) ≡ number k (λ m. x (j + m))
unfolding number
number_upper zero k x b =
    let z : number (0 + k) x / 1 ≡ number (0 + k) x = omega arith in
    z ∙ ap (λ (n : ℕ). number n x) (zero-add k) ∙ λ i. number k (λ m. x (sym (zero-add m) i))
number_upper (suc j) k x b =
    let rest : ℕ = number (j + k) (λ m. x (suc m)) in
    let p : 8 * suc j ≡ 8 + 8 * j = omega arith in
    let z : (rest * 256 + x 0) / 256 ≡ rest = omega (arith, b 0) in
    ap (λ (n : ℕ). number n x / 2 ^ (8 * suc j)) (suc-add j k)
    ∙ ap (λ (e : ℕ). (rest * 256 + x 0) / 2 ^ e) p
    ∙ sym (shr-shr (rest * 256 + x 0) 8 (8 * j))
    ∙ ap (λ (n : ℕ). n / 2 ^ (8 * j)) z
    ∙ number_upper j k (λ m. x (suc m)) (λ m. b (suc m))
    ∙ λ i. number k (λ m. x (sym (suc-add j m) i))

flag_small : (b : Bool) → flag b < 256
flag_small true = omega arith
flag_small false = omega arith

number-none : (n : ℕ) (t : ℕ → Bool) → number n (λ k. flag (t k)) ≡ 0 → (k : ℕ) → k < n → t k ≡ false
unfolding number
number-none zero t h k l = absurd (omega arith)
number-none (suc n) t h zero l = go (t 0) refl (omega arith)
  where
    go : (b : Bool) → t 0 ≡ b → flag (t 0) ≡ 0 → t 0 ≡ false
    go true e f = absurd (let z : flag true ≡ 0 = ap flag (sym e) ∙ f in omega arith)
    go false e f = e
number-none (suc n) t h (suc k) l = number-none n (λ k. t (suc k)) (omega arith) k (omega arith)

-- ---- bytes of a part of which none is a release mark

module _ (y : Syntax) (d : List ℕ) (end : ℕ) (fits : end ≤ length d) where
  no_mark : (x : ℕ) → eqb x y.release ≡ false → frees y false x ≡ false
  unfolding frees
  no_mark x h = rw (h, and-false)

  decoded-row
      : (k i : ℕ) → i + k ≤ end → ((j : ℕ) → j < k → eqb (get_or d (i + j) 0) y.release ≡ false)
      → decoded y i end d ≡ row_of k (on_from d i) ++ decoded y (i + k) end d
  unfolding row_of
  decoded-row zero i h n =
      let z : i + 0 ≡ i = omega arith in
      rw z
  decoded-row (suc k) i h n =
      let z : i + 0 ≡ i = omega arith in
      let s : i + 1 + k ≡ i + suc k = omega arith in
      let on : (j : ℕ) → i + 1 + j ≡ i + suc j = λ j. omega arith in
      let first : eqb (get_or d i 0) y.release ≡ false = rw z at (n 0 (omega arith)) in
      let rest = decoded-row k (i + 1) (omega arith) (λ j l. rw (on j) (n (suc j) (omega arith))) in
      decoded-byte y d i end (omega arith) fits (no_mark (get_or d i 0) first)
      ∙ ap (λ (xs : List ℕ). get_or d i 0 ∷ xs) (rest ∙ ap (λ (m : ℕ). row_of k (on_from d (i + 1)) ++ decoded y m end d) s)
      ∙ λ q. get_or d (sym z q) 0 ∷ (row_of k (λ j. get_or d (on j q) 0) ++ decoded y (i + suc k) end d)

  pub print_none : (i a : ℕ) → end ≤ i → a ≡ print_from (begun a) (decoded y i end d)
  unfolding print_from closed_by
  print_none i a h = rw (decoded-none y d i end h)

  -- a word of which no byte is a release mark
  pub word_on
      : (i w m a p : ℕ) → i + 8 ≤ end → ((k : ℕ) → get_or d k 0 < 256) → w ≡ eight_at d i → Flagged w (λ b. eqb b y.release) m → m ≡ 0
      → p ≡ word_mixed a w → print_from (begun a) (decoded y i end d) ≡ print_from (begun p) (decoded y (i + 8) end d)
  word_on i w m a p h b e f n q =
      let there : i + 8 ≤ length d = omega arith in
      let t = flagged_there d i w (λ b. eqb b y.release) m there b e f in
      let v : w ≡ number 8 (on_from d i) = e ∙ (eight_there d i there b).worth in
      ap (print_from (begun a)) (decoded-row 8 i h (flags-none (λ k. eqb (on_from d i k) y.release) (sym t ∙ n)))
      ∙ eight_print a (on_from d i) (decoded y (i + 8) end d)
      ∙ ap (λ (z : ℕ). print_from (begun z) (decoded y (i + 8) end d)) (ap (word_mixed a) (sym v) ∙ sym q)

  -- the upper k bytes of the word from the place o on, behind j that do not count
  module _ (o j k w : ℕ) (all : j + k ≡ 8) (ends : o + 8 ≡ end) (bytes : (k : ℕ) → get_or d k 0 < 256) (is : w ≡ eight_at d o) where
    there : o + 8 ≤ length d
    there = omega arith

    on : (r : ℕ) → o + (j + r) ≡ o + j + r
    on r = omega arith

    upper_worth : w / 2 ^ (8 * j) ≡ number k (on_from d (o + j))
    upper_worth =
        ap (λ (v : ℕ). v / 2 ^ (8 * j)) (is ∙ (eight_there d o there bytes).worth)
        ∙ ap (λ (n : ℕ). number n (on_from d o) / 2 ^ (8 * j)) (sym all)
        ∙ number_upper j k (on_from d o) (λ r. bytes (o + r))
        ∙ λ q. number k (λ r. get_or d (on r q) 0)

    upper_none : (m : ℕ) → Flagged w (λ b. eqb b y.release) m → m / 2 ^ (8 * j) ≡ 0 → (r : ℕ) → r < k → eqb (get_or d (o + j + r) 0) y.release ≡ false
    unfolding flags
    upper_none m f n r l =
        let x : ℕ → ℕ = λ s. flag (eqb (on_from d o s) y.release) in
        let t : m ≡ number 8 x = flagged_there d o w (λ b. eqb b y.release) m there bytes is f in
        let z : number k (λ s. x (j + s)) ≡ 0 =
        sym (number_upper j k x (λ s. flag_small (eqb (on_from d o s) y.release))) ∙ ap (λ (n : ℕ). number n x / 2 ^ (8 * j)) all
        ∙ ap (λ (v : ℕ). v / 2 ^ (8 * j)) (sym t) ∙ n in
        rw (← on r) (number-none k (λ s. eqb (on_from d o (j + s)) y.release) z r l)

    upper_row : (m : ℕ) → Flagged w (λ b. eqb b y.release) m → m / 2 ^ (8 * j) ≡ 0 → decoded y (o + j) end d ≡ row_of k (on_from d (o + j))
    upper_row m f n =
        decoded-row k (o + j) (omega arith) (upper_none m f n)
        ∙ ap (λ (xs : List ℕ). row_of k (on_from d (o + j)) ++ xs) (decoded-none y d (o + j + k) end (omega arith))
        ∙ append-nil (row_of k (on_from d (o + j)))

    upper_print
        : (m a : ℕ) → 0 < k → k < 8 → Flagged w (λ b. eqb b y.release) m → m / 2 ^ (8 * j) ≡ 0
        → word_mixed a (w / 2 ^ (8 * j)) ≡ print_from (begun a) (decoded y (o + j) end d)
    upper_print m a h l f n =
        ap (word_mixed a) upper_worth ∙ sym (short_print a k (on_from d (o + j)) h l) ∙ ap (print_from (begun a)) (sym (upper_row m f n))

  -- the last bytes, fewer than eight: those of the word before the end that stand from the place i on
  pub word-last
      : (i w m a p : ℕ) → 8 ≤ end → end - 8 < i → i < end → ((k : ℕ) → get_or d k 0 < 256) → w ≡ eight_at d (end - 8)
      → Flagged w (λ b. eqb b y.release) m → m / 2 ^ (8 * (i - (end - 8))) ≡ 0 → p ≡ word_mixed a (w / 2 ^ (8 * (i - (end - 8))))
      → p ≡ print_from (begun a) (decoded y i end d)
  word-last i w m a p g h l b e f n q =
      let z : end - 8 + (i - (end - 8)) ≡ i = omega arith in
      q
      ∙ upper_print (end - 8) (i - (end - 8)) (end - i) w (omega arith) (omega arith) b e m a (omega arith) (omega arith) f n
      ∙ ap (λ (i : ℕ). print_from (begun a) (decoded y i end d)) z

-- an end past the delivery counts as the delivery's end
pub whole-article
    : (y : Syntax) (d : List ℕ) (a e end : ℕ) → end ≡ min e (length d) → (p : ℕ) → p ≡ print_from (begun 0) (decoded y a end d) → p
    ≡ article_print (decoded y a e d)
unfolding article_print
whole-article y d a e end h p q = q ∙ ap (print_from (begun 0)) (decoded_limited y d a e end h)
