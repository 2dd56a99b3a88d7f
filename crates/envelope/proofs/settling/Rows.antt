-- Each row's test says what the row says.
use Prim.Native.Nat.{ℕ, ◌≤◌, ◌<◌, ◌^◌}
use mathlib.Core.Path.{◌≡◌, refl, sym, ◌∙◌, ap, subst}
use mathlib.Core.Bool.{Bool, true, false, not, cond, ◌&&◌, ◌||◌, true≢false, false≢true}
use mathlib.Core.List.Memᴰ
use mathlib.Core.List.{List, [], ◌∷◌, Memᴰ}
use mathlib.Core.Logic.{◌⊎◌, inl, inr}
use native.Mathlib.Omega.{arith}
use lib.ListN.{length}
use lib.IntN.{pos}
use lib.Dec.{ltb}
use borrow.Author.Tests.{eq-eqb, eqb-true, ltb-true, lt-ltb}
use Rattle.bytewise.specs.Bytes.{begins}
use Rattle.cut.specs.declared.service.Syntax.{Syntax}
use Rattle.cut.specs.Segments.{Segment}
use Rattle.cut.specs.Admission.{limit, UNA, nine, admits, admission_of, unbroken}
use Rattle.cut.specs.Characters.{valid}
use Rattle.std.specs.Prelude.{Option, Some, None}
use Rattle.value.specs.Digits.{is_count, count_of}
use Rattle.value.specs.Numeral.{some, none}
use Rattle.value.specs.Text.{text_of}
use Rattle.value.proofs.ValueFace.{count_spelled, count_of_text}
use Rattle.envelope.specs.Required.{Place, at, in_UNB, in_UNZ, text}
use Rattle.envelope.specs.Envelope.{stands, is_count_by, counts, lacks}
use Rattle.envelope.specs.Broken.{Not, piece, other_tag, Lacks}

-- 1 and 2
module _ (y : Syntax) (d : List ℕ) where
  -- 1 is a delivery that is too long, and there is no number but 1 and 2
  pub admission_one : admission_of y d ≡ 1 → limit < length d
  unfolding admission_of admits
  admission_one h = go (ltb limit (length d)) (valid y) (begins UNA (unbroken y d) && not (begins (nine y) (unbroken y d))) refl h
    where
      go : (a v u : Bool) → ltb limit (length d) ≡ a → ◌≡◌ {A = ℕ} (cond a 1 (cond v (cond u 2 0) 2)) 1 → limit < length d
      go true v u e k = ltb-true _ _ e
      go false true true e k = absurd (omega arith)
      go false true false e k = absurd (omega arith)
      go false false u e k = absurd (omega arith)

  pub too_long_one : limit < length d → admission_of y d ≡ 1
  unfolding admission_of admits
  too_long_one h = rw (lt-ltb _ _ h)

  pub admission_few : admission_of y d ≤ 2
  unfolding admission_of admits
  admission_few = go (ltb limit (length d)) (valid y) (begins UNA (unbroken y d) && not (begins (nine y) (unbroken y d)))
    where
      go : (a v u : Bool) → cond a 1 (cond v (cond u 2 0) 2) ≤ 2
      go true v u = omega arith
      go false true true = omega arith
      go false true false = omega arith
      go false false u = omega arith

-- 50 and 51
pub stands-not : (tag : List ℕ) (s : Segment) → stands tag s ≡ false → Not tag s
unfolding stands
stands-not tag s h = go s.piece (begins tag s.bytes) refl refl h
  where
    go : (p b : Bool) → s.piece ≡ p → begins tag s.bytes ≡ b → (not p && b) ≡ false → Not tag s
    go true b e k h = piece e
    go false true e k h = absurd (true≢false h)
    go false false e k h = other_tag k

pub not-stands : (tag : List ℕ) (s : Segment) → Not tag s → stands tag s ≡ true → ⊥
unfolding stands
not-stands tag s (piece e) h = true≢false (sym (rw e at h))
not-stands tag s (other_tag e) h = go s.piece (rw e at h)
  where
    go : (p : Bool) → (not p && false) ≡ true → ⊥
    go true k = false≢true k
    go false k = false≢true k

-- 53
counts-is : (c : Option ℕ) (n : ℕ) → is_count_by c n ≡ true → c ≡ Some n
counts-is (Some v) n h = ap Some (eqb-true v n h)
counts-is None n h = absurd (false≢true h)

pub counts-text : (s : List ℕ) (n : ℕ) → counts s n ≡ true → s ≡ text_of (pos n)
unfolding counts text_of
counts-text s n h = count_spelled s n (counts-is (count_of s) n h)

pub text-counts : (s : List ℕ) (n : ℕ) → n < 10 ^ 15 → s ≡ text_of (pos n) → counts s n ≡ true
unfolding counts text_of
text-counts s n h e = rw (e, count_of_text n h) (eq-eqb n n refl)

pub empty-counts : (n : ℕ) → counts [] n ≡ false
unfolding counts count_of is_count some
empty-counts n = refl

-- 55
module _ (y : Syntax) (s : Segment) where
  none-empty : (t : List ℕ) → none t ≡ true → t ≡ []
  unfolding none
  none-empty [] h = refl
  none-empty (x ∷ xs) h = absurd (false≢true h)

  empty-none : (t : List ℕ) → t ≡ [] → none t ≡ true
  unfolding none
  empty-none t h = rw h

  pub lacks-one : (ks : List Place) → lacks y s ks ≡ true → Lacks y s ks
  unfolding lacks
  lacks-one [] h = absurd (false≢true h)
  lacks-one (k ∷ ks) h = go (none (text y s k)) refl h (lacks-one ks)
    where
      go : (b : Bool) → none (text y s k) ≡ b → (b || lacks y s ks) ≡ true → (lacks y s ks ≡ true → Lacks y s ks) → Lacks y s (k ∷ ks)
      go true e h ih = record { element = k; is_required = Memᴰ.head refl; missing = none-empty (text y s k) e }
      go false e h ih =
          let w = ih h in
          record { element = w.element; is_required = Memᴰ.tail w.is_required; missing = w.missing }

  member-lacks : (k : Place) (ks : List Place) → Memᴰ k ks → text y s k ≡ [] → lacks y s ks ≡ true
  unfolding lacks
  member-lacks k [] m h = absurd (Memᴰ.not-nil m)
  member-lacks k (j ∷ js) m h = go (Memᴰ.cases_cons m) (λ l. member-lacks k js l h)
    where
      right : (b : Bool) → (b || true) ≡ true
      right true = refl
      right false = refl

      go : (k ≡ j) ⊎ Memᴰ k js → (Memᴰ k js → lacks y s js ≡ true) → (none (text y s j) || lacks y s js) ≡ true
      go (inl e) ih = rw (empty-none (text y s j) (ap (text y s) (sym e) ∙ h))
      go (inr l) ih = rw (ih l) (right (none (text y s j)))

  pub one-lacks : (ks : List Place) → Lacks y s ks → lacks y s ks ≡ true
  one-lacks ks w = member-lacks w.element ks w.is_required w.missing

-- where UNB lacks nothing, a UNZ that has the same reference and a count lacks nothing either
module _ (y : Syntax) (f l : Segment) where
  pub full-UNZ
      : text y f (at 5 0) ≡ text y l (at 2 0) → (text y l (at 1 0) ≡ [] → ⊥) → (Lacks y f in_UNB → ⊥) → Lacks y l in_UNZ → ⊥
  full-UNZ same counted full w = go (Memᴰ.cases_cons w.is_required)
    where
      reference : Memᴰ w.element (at 2 0 ∷ []) → ⊥
      reference m =
          full
          (record {
            element = at 5 0;
            is_required =
                Memᴰ.tail (Memᴰ.tail (Memᴰ.tail (Memᴰ.tail (Memᴰ.tail (Memᴰ.tail (Memᴰ.head refl))))));
            missing = same ∙ subst (λ (k : Place). text y l k ≡ []) (Memᴰ.eq_of_singleton m) w.missing;
          })

      go : (w.element ≡ at 1 0) ⊎ Memᴰ w.element (at 2 0 ∷ []) → ⊥
      go (inl e) = counted (subst (λ (k : Place). text y l k ≡ []) e w.missing)
      go (inr m) = reference m
