-- The characters that a delivery is read with: used again they are the same, and when they cannot be used, in item 6's terms.
use Prim.Native.Nat.{ℕ, zero, suc, ◌-◌, ◌≤◌, ◌<◌}
use mathlib.Core.Path.{◌≡◌, refl, sym, ◌∙◌, ap}
use mathlib.Core.Bool.{Bool, true, false, cond, not, ◌&&◌, ◌||◌, and-false, true≢false, false≢true}
use mathlib.Core.List.{List, [], ◌∷◌}
use mathlib.Core.Logic.{◌↔◌}
use native.Mathlib.Omega.{arith}
use lib.ListN.{length, get_or, drop, take-append-drop}
use lib.Dec.{eqb, leb, lit<}
use borrow.Author.Tests.{eq-eqb, ne_eqb, eqb-true, eqb-false, leb-true, leb-false, le-ltb}
use Rattle.cut.specs.declared.service.Syntax.{Syntax}
use Rattle.bytewise.specs.Bytes.{part, begins}
use Rattle.bytewise.proofs.Words.{begins-at, begins-length}
use Rattle.cut.specs.Characters.{between, allowed_byte, may_serve, service, has, valid}
use Rattle.cut.specs.Segments.{is_break, past, past_at}
use Rattle.cut.specs.Admission.{limit, UNA, nine, admits, unbroken, admission_of}
use Rattle.cut.specs.Used.{named, plainly, una_place, characters_of}
use Rattle.cut.specs.Readable.{HasUNA, Unreadable, short_UNA, reserved, of_UNA, handed_in}
use Rattle.cut.specs.Fronts.{UNH}
use Rattle.cut.proofs.Ahead.{pasts}
use Rattle.cut.proofs.Fronting.{has-not, no_letter, U_kept, unh_una, unh_unbroken}
use Rattle.cut.proofs.Empty.{unbroken-behind}

module _ (y : Syntax) (d : List ℕ) where
  -- a delivery's own characters, handed in for it
  pub used_again : characters_of (characters_of y d) d ≡ characters_of y d
  unfolding characters_of named
  used_again = go (begins UNA (una_place y d)) refl
    where
      go
          : (b : Bool) → begins UNA (una_place y d) ≡ b → characters_of (cond b (named y (una_place y d)) y) d ≡ cond b (named y (una_place y d)) y
      go true e = rw e
      go false e = rw e

  -- handed in for a delivery that begins with a message, they are the ones used
  pub used_handed : begins UNH d ≡ true → characters_of y d ≡ y
  unfolding characters_of
  used_handed u = rw (unh_unbroken (plainly y) d u, unh_una d u)

-- CR and LF are no characters that may be used, so line breaks are told without them
module _ (y : Syntax) (v : valid y ≡ true) where
  no_CR : has 13 (service y) ≡ false
  unfolding may_serve allowed_byte between
  no_CR = no_letter y 13 v refl

  no_LF : has 10 (service y) ≡ false
  unfolding may_serve allowed_byte between
  no_LF = no_letter y 10 v refl

  break_plainly : (x : ℕ) → is_break y x ≡ is_break (plainly y) x
  unfolding is_break
  break_plainly x = go (eqb x 13) (eqb x 10) refl refl
    where
      kept : (n : ℕ) → x ≡ n → has n (service y) ≡ false → (eqb x 39 ≡ false) → (eqb x 63 ≡ false)
          → not (eqb x y.terminator || eqb x y.release) ≡ not (eqb x 39 || eqb x 63)
      kept n e h t r =
          let a : eqb x y.terminator ≡ false = ne_eqb _ _ (λ z. has-not n (service y) 4 h (lit< tt) (sym e ∙ z)) in
          let b : eqb x y.release ≡ false = ne_eqb _ _ (λ z. has-not n (service y) 3 h (lit< tt) (sym e ∙ z)) in
          rw (a, b, t, r)

      go
          : (a b : Bool) → eqb x 13 ≡ a → eqb x 10 ≡ b
          → ((y.skips && (a || b)) && not (eqb x y.terminator || eqb x y.release)) ≡ ((y.skips && (a || b)) && not (eqb x 39 || eqb x 63))
      go true b e f =
          let z : x ≡ 13 = eqb-true _ _ e in
          ap (λ (w : Bool). (y.skips && (true || b)) && w) (kept 13 z no_CR (rw z refl) (rw z refl))
      go false true e f =
          let z : x ≡ 10 = eqb-true _ _ f in
          ap (λ (w : Bool). (y.skips && (false || true)) && w) (kept 10 z no_LF (rw z refl) (rw z refl))
      go false false e f = rw (and-false y.skips)

  past-plainly : (p : ℕ) (xs : List ℕ) → past y p xs ≡ past (plainly y) p xs
  unfolding past
  past-plainly p [] = refl
  past-plainly p (x ∷ xs) = rw (break_plainly x, past-plainly (suc p) xs)

  pub unbroken-plainly : (d : List ℕ) → unbroken y d ≡ una_place y d
  unbroken-plainly d = ap (λ (k : ℕ). drop k d) (past-plainly 0 d)

begins-by : (w u : List ℕ) → length w ≤ length u → ((i : ℕ) → i < length w → get_or u i 0 ≡ get_or w i 0) → begins w u ≡ true
unfolding begins
begins-by [] u h k = refl
begins-by (a ∷ w) [] h k = absurd (omega arith)
begins-by (a ∷ w) (b ∷ u) h k = rw (eq-eqb b a (k 0 (omega arith))) (begins-by w u (omega arith) (λ i l. k (suc i) (omega arith)))

-- nine bytes that begin UNA, with a blank before the last, are those of the characters that they name
module _ (y : Syntax) (u : List ℕ) (b : begins UNA u ≡ true) (r : get_or u 7 0 ≡ 32) where
  same_byte : (i : ℕ) → i < 9 → get_or u i 0 ≡ get_or (nine (named y u)) i 0
  unfolding named
  same_byte zero h = begins-at UNA u 0 b (lit< tt)
  same_byte (suc zero) h = begins-at UNA u 1 b (lit< tt)
  same_byte (suc (suc zero)) h = begins-at UNA u 2 b (lit< tt)
  same_byte (suc (suc (suc zero))) h = refl
  same_byte (suc (suc (suc (suc zero)))) h = refl
  same_byte (suc (suc (suc (suc (suc zero))))) h = refl
  same_byte (suc (suc (suc (suc (suc (suc zero)))))) h = refl
  same_byte (suc (suc (suc (suc (suc (suc (suc zero))))))) h = r
  same_byte (suc (suc (suc (suc (suc (suc (suc (suc zero)))))))) h = refl
  same_byte (suc (suc (suc (suc (suc (suc (suc (suc (suc i))))))))) h = absurd (omega arith)

  nine-named : 9 ≤ length u → begins (nine (named y u)) u ≡ true
  nine-named l = begins-by (nine (named y u)) u l same_byte

nothing-begins : begins UNA [] ≡ true → ⊥
unfolding begins
nothing-begins e = false≢true e

module _ (y : Syntax) (d : List ℕ) where
  -- the bytes that begin UNA behind skipped ones are those where it is looked for
  place_of : (u : List ℕ) → HasUNA y d u → una_place y d ≡ u
  place_of [] h = absurd (nothing-begins h.begins_UNA)
  place_of (x ∷ xs) h =
      let z : x ≡ 85 = begins-at UNA (x ∷ xs) 0 h.begins_UNA (lit< tt) in
      ap (unbroken (plainly y)) h.same ∙ unbroken-behind (plainly y) h.skipped x xs h.all_skipped (rw z (U_kept (plainly y)))

  has_una : begins UNA (una_place y d) ≡ true → HasUNA y d (una_place y d)
  unfolding part
  has_una e =
      let z : past_at (plainly y) d 0 - 0 ≡ past_at (plainly y) d 0 = omega arith in
      record {
        skipped = part 0 (past_at (plainly y) d 0) d;
        same = rw z (sym (take-append-drop (past_at (plainly y) d 0) d));
        all_skipped = (pasts (plainly y) d 0).between;
        begins_UNA = e;
      }

  begins-here : (u : List ℕ) → HasUNA y d u → begins UNA (una_place y d) ≡ true
  begins-here u h = ap (begins UNA) (place_of u h) ∙ h.begins_UNA

  from_una : begins UNA (una_place y d) ≡ true → characters_of y d ≡ named y (una_place y d)
  unfolding characters_of
  from_una e = rw e

  from_hand : begins UNA (una_place y d) ≡ false → characters_of y d ≡ y
  unfolding characters_of
  from_hand e = rw e

module _ (d : List ℕ) (short : length d ≤ limit) where
  bad_characters : (z : Syntax) → valid z ≡ false → admission_of z d ≡ 2
  unfolding admission_of admits
  bad_characters z v = rw (le-ltb _ _ short, v)

  bad_una : (z : Syntax) → valid z ≡ true → begins UNA (una_place z d) ≡ true → begins (nine z) (una_place z d) ≡ false → admission_of z d ≡ 2
  unfolding admission_of admits
  bad_una z v b n = rw (le-ltb _ _ short, v, unbroken-plainly z v d, b, n)

  good_una : (z : Syntax) → valid z ≡ true → begins (nine z) (una_place z d) ≡ true → admission_of z d ≡ 0
  unfolding admission_of admits
  good_una z v n = rw (le-ltb _ _ short, v, unbroken-plainly z v d, n, and-false (begins UNA (una_place z d)))

  no_una : (z : Syntax) → valid z ≡ true → begins UNA (una_place z d) ≡ false → admission_of z d ≡ 0
  unfolding admission_of admits
  no_una z v n = rw (le-ltb _ _ short, v, unbroken-plainly z v d, n)

  two_zero : {A : Type 0} → ◌≡◌ {A = ℕ} 2 0 → A
  two_zero e = absurd (omega (arith, e))

  module _ (y : Syntax) where
    -- the delivery is refused with 2: why
    by_una : begins UNA (una_place y d) ≡ true → (c v : Bool) → begins (nine (named y (una_place y d))) (una_place y d) ≡ c → valid (named y (una_place y d))
        ≡ v
        → admission_of (named y (una_place y d)) d ≡ 2 → Unreadable y d
    unfolding named
    by_una b c false n v a = of_UNA (una_place y d) (has_una y d b) v
    by_una b true true n v a = two_zero (sym a ∙ good_una (named y (una_place y d)) v n)
    by_una b false true n v a = go (leb 9 (length (una_place y d))) (eqb (get_or (una_place y d) 7 0) 32) refl refl
      where
        go : (l r : Bool) → leb 9 (length (una_place y d)) ≡ l → eqb (get_or (una_place y d) 7 0) 32 ≡ r → Unreadable y d
        go false r e f = short_UNA (una_place y d) (has_una y d b) (leb-false _ _ e)
        go true false e f = reserved (una_place y d) (has_una y d b) (eqb-false _ _ f)
        go true true e f = absurd (true≢false (sym (nine-named y (una_place y d) b (eqb-true _ _ f) (leb-true _ _ e)) ∙ n))

    by_hand : begins UNA (una_place y d) ≡ false → (v : Bool) → valid y ≡ v → admission_of y d ≡ 2 → Unreadable y d
    by_hand b false v a = handed_in (λ u h. true≢false (sym (begins-here y d u h) ∙ b)) v
    by_hand b true v a = two_zero (sym a ∙ no_una y v b)

    two_why : admission_of (characters_of y d) d ≡ 2 → Unreadable y d
    two_why a = go (begins UNA (una_place y d)) refl
      where
        go : (b : Bool) → begins UNA (una_place y d) ≡ b → Unreadable y d
        go true e = by_una e _ _ refl refl (ap (λ (z : Syntax). admission_of z d) (sym (from_una y d e)) ∙ a)
        go false e = by_hand e _ refl (ap (λ (z : Syntax). admission_of z d) (sym (from_hand y d e)) ∙ a)

    una_bad
        : valid (named y (una_place y d)) ≡ true → begins UNA (una_place y d) ≡ true → (c : Bool)
        → begins (nine (named y (una_place y d))) (una_place y d) ≡ c → (begins (nine (named y (una_place y d))) (una_place y d) ≡ true → ⊥)
        → admission_of (named y (una_place y d)) d ≡ 2
    unfolding named
    una_bad v b true e n = absurd (n e)
    una_bad v b false e n = bad_una (named y (una_place y d)) v b e

    -- each of them is reason enough
    una_two : (u : List ℕ) → HasUNA y d u → (begins (nine (named y u)) u ≡ true → ⊥) → admission_of (characters_of y d) d ≡ 2
    una_two u h n =
        let b = begins-here y d u h in
        ap (λ (z : Syntax). admission_of z d) (from_una y d b) ∙ go (valid (named y (una_place y d))) refl b
      where
        not_nine : begins (nine (named y (una_place y d))) (una_place y d) ≡ true → ⊥
        not_nine e = n (ap (λ (x : List ℕ). begins (nine (named y x)) x) (sym (place_of y d u h)) ∙ e)

        go : (v : Bool) → valid (named y (una_place y d)) ≡ v → begins UNA (una_place y d) ≡ true → admission_of (named y (una_place y d)) d ≡ 2
        go false v b = bad_characters (named y (una_place y d)) v
        go true v b = una_bad v b (begins (nine (named y (una_place y d))) (una_place y d)) refl not_nine

    why_two : Unreadable y d → admission_of (characters_of y d) d ≡ 2
    why_two (short_UNA u h l) = una_two u h (λ e. let k = begins-length (nine (named y u)) u e in absurd (omega arith))
    why_two (reserved u h n) = una_two u h (λ e. n (begins-at (nine (named y u)) u 7 e (lit< tt)))
    why_two (of_UNA u h v) =
        ap (λ (z : Syntax). admission_of z d) (from_una y d (begins-here y d u h) ∙ ap (named y) (place_of y d u h)) ∙ bad_characters (named y u) v
    why_two (handed_in n v) = go (begins UNA (una_place y d)) refl
      where
        go : (b : Bool) → begins UNA (una_place y d) ≡ b → admission_of (characters_of y d) d ≡ 2
        go true e = absurd (n (una_place y d) (has_una y d e))
        go false e = ap (λ (z : Syntax). admission_of z d) (from_hand y d e) ∙ bad_characters y v

    -- 2 exactly if one of item 6's conditions fails
    pub two_iff : (admission_of (characters_of y d) d ≡ 2) ↔ Unreadable y d
    two_iff = (two_why, why_two)
