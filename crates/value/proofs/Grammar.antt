-- The grammar of numbers, both ways: what `is_number` accepts is just "an optional `-`, digits, and optionally `.` with digits", and
-- `minus`, `whole` and `fraction` are its parts. So the number of a price is exact: it is the value of the digits that stand there.
use Prim.Native.Nat.{ℕ, ◌≤◌}
use mathlib.Core.Bool.{Bool, true, false, ◌&&◌, false≢true}
use mathlib.Core.Path.{◌≡◌, refl, sym, ap, ap₂, ◌∙◌}
use mathlib.Core.List.{List, [], ◌∷◌, ◌++◌, append-nil}
use native.Mathlib.Omega.{arith}
use lib.ListN.{length, drop}
use lib.Dec.{eqb}
use borrow.Author.Tests.{eq-eqb, ne_eqb, eqb-true, le-leb}
use Rattle.cut.specs.declared.service.Syntax.{Syntax}
use Rattle.std.specs.Prelude.{Some}
use Rattle.value.specs.Numeral.{some, none, is_digit, digits_ahead, behind_digits, minus, unsigned, whole, fraction, digits, is_tail, is_number, decimal}
use Rattle.value.specs.Number.{signed, number_of}
use Rattle.bytewise.proofs.Booleans.{and_both}
use Rattle.value.proofs.Digitwise.{digit_range, ahead_more, ahead-stop, behind_more, behind-stop}
use Rattle.value.proofs.Counting.{digits_alone}

-- the parts of a number, put together: sign, whole digits, and the mark where digits stand behind it
unfoldable pub sign : Bool → List ℕ
sign true = 45 ∷ []
sign false = []

unfoldable pub point : Syntax → List ℕ → List ℕ
point y [] = []
point y (x ∷ xs) = y.decimal ∷ x ∷ xs

unfoldable pub spelled : Syntax → Bool → List ℕ → List ℕ → List ℕ
spelled y m w f = sign m ++ (w ++ point y f)

unfoldable pub all_digits : List ℕ → Bool
all_digits [] = true
all_digits (x ∷ xs) = is_digit x && all_digits xs

-- s is the number with these parts
pub record Spelling (y : Syntax) (s : List ℕ) (m : Bool) (w f : List ℕ) : Type 0 where
  pub text : s ≡ spelled y m w f
  pub some-whole : some w ≡ true
  pub whole-digits : all_digits w ≡ true
  pub fraction-digits : all_digits f ≡ true

-- what the bytes begin with and what stands behind it make the bytes
ahead-behind : (s : List ℕ) → digits_ahead s ++ behind_digits s ≡ s
unfolding digits_ahead behind_digits
ahead-behind [] = refl
ahead-behind (x ∷ xs) = go (is_digit x) refl (ahead-behind xs)
  where
    go : (b : Bool) → is_digit x ≡ b → digits_ahead xs ++ behind_digits xs ≡ xs → digits_ahead (x ∷ xs) ++ behind_digits (x ∷ xs) ≡ x ∷ xs
    go true e h = rw e (ap (λ (l : List ℕ). x ∷ l) h)
    go false e h = rw e

pub ahead-digits : (s : List ℕ) → all_digits (digits_ahead s) ≡ true
unfolding digits_ahead all_digits
ahead-digits [] = refl
ahead-digits (x ∷ xs) = go (is_digit x) refl (ahead-digits xs)
  where
    go : (b : Bool) → is_digit x ≡ b → all_digits (digits_ahead xs) ≡ true → all_digits (digits_ahead (x ∷ xs)) ≡ true
    go true e h = rw (e, e) h
    go false e h = rw e

sign_unsigned : (s : List ℕ) → sign (minus s) ++ unsigned s ≡ s
unfolding sign minus unsigned
sign_unsigned [] = refl
sign_unsigned (x ∷ xs) = go (eqb x 45) refl
  where
    go : (b : Bool) → eqb x 45 ≡ b → sign (minus (x ∷ xs)) ++ unsigned (x ∷ xs) ≡ x ∷ xs
    go true e = rw e (ap (λ (n : ℕ). n ∷ xs) (sym (eqb-true x 45 e)))
    go false e = rw e

point_some : (y : Syntax) (l : List ℕ) → some l ≡ true → point y l ≡ y.decimal ∷ l
unfolding point some
point_some y [] h = absurd (false≢true h)
point_some y (x ∷ xs) h = refl

pub none_row : (l : List ℕ) → none l ≡ true → l ≡ []
unfolding none
none_row [] h = refl
none_row (x ∷ xs) h = absurd (false≢true h)

point_nothing : (y : Syntax) → point y (digits_ahead []) ≡ []
unfolding digits_ahead point
point_nothing y = refl

tail_point : (y : Syntax) (t : List ℕ) → is_tail y t ≡ true → t ≡ point y (digits_ahead (drop 1 t))
unfolding is_tail
tail_point y [] h = sym (point_nothing y)
tail_point y (x ∷ xs) h =
    let p = and_both (eqb x y.decimal) (some (digits_ahead xs) && none (behind_digits xs)) h in
    let q = and_both (some (digits_ahead xs)) (none (behind_digits xs)) p.1 in
    ap₂ ◌∷◌ (eqb-true x y.decimal p.0) (sym (digits_alone xs (none_row _ q.1)))
    ∙ sym (point_some y (digits_ahead xs) q.0)

-- what is accepted is a number with its parts
pub number_spelled : (y : Syntax) (s : List ℕ) → is_number y s ≡ true → Spelling y s (minus s) (whole s) (fraction s)
unfolding is_number whole fraction spelled
number_spelled y s h =
    let p = and_both (some (digits_ahead (unsigned s))) (is_tail y (behind_digits (unsigned s))) h in
    record {
      text =
          sym (sign_unsigned s)
          ∙ ap (λ (l : List ℕ). sign (minus s) ++ l)
          (sym (ahead-behind (unsigned s))
          ∙ ap (λ (l : List ℕ). digits_ahead (unsigned s) ++ l) (tail_point y (behind_digits (unsigned s)) p.1));
      some-whole = p.0;
      whole-digits = ahead-digits (unsigned s);
      fraction-digits = ahead-digits (drop 1 (behind_digits (unsigned s)));
    }

-- digits in front of t
ahead-append : (w t : List ℕ) → all_digits w ≡ true → digits_ahead (w ++ t) ≡ w ++ digits_ahead t
unfolding all_digits
ahead-append [] t h = refl
ahead-append (x ∷ xs) t h =
    let p = and_both (is_digit x) (all_digits xs) h in
    ahead_more {t = xs ++ t} {x = x} refl p.0 ∙ ap (λ (l : List ℕ). x ∷ l) (ahead-append xs t p.1)

behind-append : (w t : List ℕ) → all_digits w ≡ true → behind_digits (w ++ t) ≡ behind_digits t
unfolding all_digits
behind-append [] t h = refl
behind-append (x ∷ xs) t h =
    let p = and_both (is_digit x) (all_digits xs) h in
    behind_more {t = xs ++ t} {x = x} refl p.0 ∙ behind-append xs t p.1

no_digits : digits_ahead [] ≡ []
unfolding digits_ahead
no_digits = refl

nothing-behind : behind_digits [] ≡ []
unfolding behind_digits
nothing-behind = refl

pub digits-whole : (w : List ℕ) → all_digits w ≡ true → (digits_ahead w ≡ w) × (behind_digits w ≡ [])
digits-whole w h = (
  ap digits_ahead (sym (append-nil w)) ∙ ahead-append w [] h ∙ ap (λ (l : List ℕ). w ++ l) no_digits ∙ append-nil w,
  ap behind_digits (sym (append-nil w)) ∙ behind-append w [] h ∙ nothing-behind,
)

-- a mark that is no digit ends the whole digits; where there is no fraction, nothing has to be known of the mark
abbrev pub Apart : Syntax → List ℕ → Type 0
Apart y f = some f ≡ true → is_digit y.decimal ≡ false

stops-at_point : (y : Syntax) (f : List ℕ) → Apart y f → (digits_ahead (point y f) ≡ []) × (behind_digits (point y f) ≡ point y f)
unfolding point some
stops-at_point y [] n = (no_digits, nothing-behind)
stops-at_point y (x ∷ xs) n = (ahead-stop {t = x ∷ xs} {x = y.decimal} refl (n refl), behind-stop {t = x ∷ xs} {x = y.decimal} refl (n refl))

fraction_of_point : (y : Syntax) (f : List ℕ) → all_digits f ≡ true → (digits_ahead (drop 1 (point y f)) ≡ f) × (is_tail y (point y f) ≡ true)
unfolding point is_tail some none
fraction_of_point y [] h = (no_digits, refl)
fraction_of_point y (x ∷ xs) h =
    let d = digits-whole (x ∷ xs) h in
    (d.0, rw (eq-eqb y.decimal y.decimal refl, d.0, d.1))

-- a digit is no sign
unsigned_digit : (m : Bool) (x : ℕ) (t : List ℕ) → is_digit x ≡ true → (minus (sign m ++ (x ∷ t)) ≡ m) × (unsigned (sign m ++ (x ∷ t)) ≡ x ∷ t)
unfolding sign minus unsigned
unsigned_digit true x t h = (refl, refl)
unsigned_digit false x t h =
    let r = digit_range x h in
    let n : eqb x 45 ≡ false = ne_eqb x 45 (λ e. absurd (omega arith)) in
    (n, rw n)

unsigned-digits
    : (m : Bool) (w t : List ℕ) → some w ≡ true → all_digits w ≡ true
    → (minus (sign m ++ (w ++ t)) ≡ m) × (unsigned (sign m ++ (w ++ t)) ≡ w ++ t)
unfolding some all_digits
unsigned-digits m [] t k h = absurd (false≢true k)
unsigned-digits m (x ∷ xs) t k h = unsigned_digit m x (xs ++ t) (and_both (is_digit x) (all_digits xs) h).0

-- the parts of s are m, w and f, and s is accepted
pub record Parts (y : Syntax) (s : List ℕ) (m : Bool) (w f : List ℕ) : Type 0 where
  pub number : is_number y s ≡ true
  pub the_minus : minus s ≡ m
  pub the_whole : whole s ≡ w
  pub the_fraction : fraction s ≡ f

-- a number with its parts is accepted, and its parts are found
pub spelled_number : (y : Syntax) (s : List ℕ) (m : Bool) (w f : List ℕ) → Spelling y s m w f → Apart y f → Parts y s m w f
unfolding is_number whole fraction spelled
spelled_number y s m w f g n =
    let u = unsigned-digits m w (point y f) g.some-whole g.whole-digits in
    let v : unsigned s ≡ w ++ point y f = ap unsigned g.text ∙ u.1 in
    let p = stops-at_point y f n in
    let q = fraction_of_point y f g.fraction-digits in
    let a : digits_ahead (unsigned s) ≡ w =
    ap digits_ahead v ∙ ahead-append w (point y f) g.whole-digits ∙ ap (λ (l : List ℕ). w ++ l) p.0 ∙ append-nil w
    in
    let b : behind_digits (unsigned s) ≡ point y f =
    ap behind_digits v ∙ behind-append w (point y f) g.whole-digits ∙ p.1
    in
    record {
      number = rw (a, b, g.some-whole, q.1);
      the_minus = ap minus g.text ∙ u.0;
      the_whole = a;
      the_fraction = ap (λ (l : List ℕ). digits_ahead (drop 1 l)) b ∙ q.0;
    }

-- exactness: a number of up to fifteen digits is read as the value of just the digits that stand there, with their sign
pub number_exact
    : (y : Syntax) (s : List ℕ) (m : Bool) (w f : List ℕ) → Spelling y s m w f → Apart y f → length (w ++ f) ≤ 15
    → number_of y s ≡ Some (record { amount = signed m (decimal (w ++ f)); decimals = length f })
unfolding number_of digits
number_exact y s m w f g n l =
    let p = spelled_number y s m w f g n in
    rw (p.number, p.the_whole, p.the_fraction, p.the_minus, le-leb (length (w ++ f)) 15 l)
