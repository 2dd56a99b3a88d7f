-- Laws of `first_of`: it is 0 exactly if every pair has no fault, and else the fault of the first pair that has one.
use Prim.Native.Nat.{ℕ, zero, suc, ◌<◌}
use mathlib.Core.Bool.{Bool, true, false}
use mathlib.Core.Path.{◌≡◌, refl, sym, ap, ◌∙◌}
use mathlib.Core.List.{List, [], ◌∷◌}
use native.Mathlib.Omega.{arith}
use lib.ListN.{get_or}
use lib.Dec.{ltb}
use borrow.Author.Tests.{ltb-true, ltb-false}
use Rattle.guide.specs.workers.PageFault.{first_of}
use Rattle.guide.specs.Choices.{or_else}

-- n is the first of the numbers g 0, g 1, .. that is looked for
pub record FirstAt (g : ℕ → ℕ) (n : ℕ) : Type 0 where
  pub index : ℕ
  pub here : g index ≡ n
  pub before : (j : ℕ) → j < index → g j ≡ 0

-- m tells what a scan of g 0, g 1, .. finds: nothing but 0, or the first that is not 0
pub data Scan (g : ℕ → ℕ) (m : ℕ) : Type 0 where
  quiet : m ≡ 0 → ((i : ℕ) → g i ≡ 0) → Scan g m
  loud : (n : ℕ) → m ≡ suc n → FirstAt g (suc n) → Scan g m

-- a scan with one more number in front
next : (g : ℕ → ℕ) (m k : ℕ) → g 0 ≡ k → Scan (λ i. g (suc i)) m → Scan g (or_else k m)
next g m zero e (quiet z q) = quiet z (elim [ zero ↦ e | suc i ↦ q i ])
next g m zero e (loud n z f) =
    loud n z record { index = suc f.index; here = f.here; before = elim [ zero ↦ λ h. e | suc j ↦ λ h. f.before j (omega arith) ] }
next g m (suc k) e s = loud k refl record { index = 0; here = e; before = λ j h. absurd (omega arith) }

module _ {A B : Type 0} (f : A → B → ℕ) (a : A) (b : B) (calm : f a b ≡ 0) where
  pub first_of_scan : (rs : List A) (ts : List B) → Scan (λ i. f (get_or rs i a) (get_or ts i b)) (first_of f a b rs ts)
  unfolding first_of
  first_of_scan [] [] = quiet refl (λ i. calm)
  first_of_scan [] (t ∷ ts) = next _ _ _ refl (first_of_scan [] ts)
  first_of_scan (r ∷ rs) [] = next _ _ _ refl (first_of_scan rs [])
  first_of_scan (r ∷ rs) (t ∷ ts) = next _ _ _ refl (first_of_scan rs ts)

-- there is one first
one-first : (g : ℕ → ℕ) (k n : ℕ) → FirstAt g (suc k) → FirstAt g (suc n) → suc k ≡ suc n
one-first g k n f h = go (ltb f.index h.index) (ltb h.index f.index) refl refl
  where
    go : (a b : Bool) → ltb f.index h.index ≡ a → ltb h.index f.index ≡ b → suc k ≡ suc n
    go true b p q = absurd (omega (arith, h.before f.index (ltb-true f.index h.index p)))
    go false true p q = absurd (omega (arith, f.before h.index (ltb-true h.index f.index q)))
    go false false p q =
        let e : f.index ≡ h.index = omega (arith, ltb-false f.index h.index p, ltb-false h.index f.index q) in
        sym f.here ∙ ap g e ∙ h.here

-- what a scan says, both ways
module _ {g : ℕ → ℕ} {m : ℕ} where
  pub scan_none : Scan g m → m ≡ 0 → (i : ℕ) → g i ≡ 0
  scan_none (quiet z q) e i = q i
  scan_none (loud n z f) e i = absurd (omega arith)

  pub none_scan : Scan g m → ((i : ℕ) → g i ≡ 0) → m ≡ 0
  none_scan (quiet z q) h = z
  none_scan (loud n z f) h = absurd (omega (arith, h f.index))

  pub scan_first : (n : ℕ) → Scan g m → m ≡ suc n → FirstAt g (suc n)
  scan_first n (quiet z q) e = absurd (omega arith)
  scan_first n (loud k z f) e = record { index = f.index; here = f.here ∙ sym z ∙ e; before = f.before }

  pub first_scan : (n : ℕ) → Scan g m → FirstAt g (suc n) → m ≡ suc n
  first_scan n (quiet z q) h = absurd (omega (arith, q h.index))
  first_scan n (loud k z f) h = z ∙ one-first g k n f h
