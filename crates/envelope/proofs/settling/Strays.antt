-- The segments outside that are neither the first nor the last, as a list and one by one.
use Prim.Native.Nat.{ℕ, suc, ◌≤◌}
use mathlib.Core.Path.{◌≡◌, refl, sym, ◌∙◌, ap}
use mathlib.Core.Bool.{Bool, true, false, not, ◌||◌, true≢false}
use mathlib.Core.List.Memᴰ
use mathlib.Core.List.{List, [], ◌∷◌, Memᴰ}
use mathlib.Core.Logic.{◌⊎◌, inl, inr}
use native.Mathlib.Omega.{arith}
use lib.Dec.{eqb}
use borrow.Author.Tests.{eq-eqb, ne_eqb}
use Rattle.cut.specs.declared.service.Syntax.{Syntax}
use Rattle.cut.specs.Segments.{Segment, begins_in, keep_if}
use Rattle.cut.specs.Admission.{segments}
use Rattle.cut.proofs.Starts.{Rising, rising_weaken}
use Rattle.messages.specs.Messages.{messages_in, inside, others, outside_in, outside}
use Rattle.messages.proofs.Finding.{all-rising}
use Rattle.envelope.specs.Envelope.{strays}
use Rattle.envelope.specs.Broken.{First, Last, Stray, FirstStray}
use Rattle.envelope.proofs.settling.Ends.{first_member, last-member}

-- segments whose places rise begin at different places
member-later : (q : ℕ) (s : Segment) (ss : List Segment) → Rising q ss → Memᴰ s ss → q ≤ s.start
unfolding Rising
member-later q s [] k m = absurd (Memᴰ.not-nil m)
member-later q s (t ∷ ts) k m = go (Memᴰ.cases_cons m) (member-later (suc t.start) s ts k.1)
  where
    go : (s ≡ t) ⊎ Memᴰ s ts → (Memᴰ s ts → suc t.start ≤ s.start) → q ≤ s.start
    go (inl e) ih = omega (arith, k.0, ap (λ (x : Segment). x.start) e)
    go (inr l) ih = omega (arith, k.0, ih l)

same-place : (q : ℕ) (s t : Segment) (ss : List Segment) → Rising q ss → Memᴰ s ss → Memᴰ t ss → s.start ≡ t.start → s ≡ t
unfolding Rising
same-place q s t [] k m n e = absurd (Memᴰ.not-nil m)
same-place q s t (u ∷ us) k m n e = go (Memᴰ.cases_cons m) (Memᴰ.cases_cons n) (same-place (suc u.start) s t us k.1)
  where
    go : (s ≡ u) ⊎ Memᴰ s us → (t ≡ u) ⊎ Memᴰ t us → (Memᴰ s us → Memᴰ t us → s.start ≡ t.start → s ≡ t) → s ≡ t
    go (inl a) (inl b) ih = a ∙ sym b
    go (inl a) (inr b) ih = absurd (omega (arith, e, ap (λ (x : Segment). x.start) a, member-later (suc u.start) t us k.1 b))
    go (inr a) (inl b) ih = absurd (omega (arith, e, ap (λ (x : Segment). x.start) b, member-later (suc u.start) s us k.1 a))
    go (inr a) (inr b) ih = ih a b e

module _ (is : List Segment) where
  -- those of ss that begin where none of `is` does
  pub others-in : (s : Segment) (ss : List Segment) → Memᴰ s (others is ss) → Memᴰ s ss × (begins_in s.start is ≡ false)
  unfolding others
  others-in s [] m = absurd (Memᴰ.not-nil m)
  others-in s (t ∷ ts) m = go (begins_in t.start is) refl m (others-in s ts)
    where
      go
          : (b : Bool) → begins_in t.start is ≡ b → Memᴰ s (keep_if (not b) t (others is ts))
          → (Memᴰ s (others is ts) → Memᴰ s ts × (begins_in s.start is ≡ false))
          → Memᴰ s (t ∷ ts) × (begins_in s.start is ≡ false)
      go true e n ih = (Memᴰ.tail (ih n).0, (ih n).1)
      go false e n ih = pick (Memᴰ.cases_cons n)
        where
          pick : (s ≡ t) ⊎ Memᴰ s (others is ts) → Memᴰ s (t ∷ ts) × (begins_in s.start is ≡ false)
          pick (inl h) = (Memᴰ.head h, ap (λ (x : Segment). begins_in x.start is) h ∙ e)
          pick (inr h) = (Memᴰ.tail (ih h).0, (ih h).1)

  pub in_others : (s : Segment) (ss : List Segment) → Memᴰ s ss → begins_in s.start is ≡ false → Memᴰ s (others is ss)
  unfolding others
  in_others s [] m n = absurd (Memᴰ.not-nil m)
  in_others s (t ∷ ts) m n = go (begins_in t.start is) refl (Memᴰ.cases_cons m) (λ l. in_others s ts l n)
    where
      go
          : (b : Bool) → begins_in t.start is ≡ b → (s ≡ t) ⊎ Memᴰ s ts → (Memᴰ s ts → Memᴰ s (others is ts))
          → Memᴰ s (keep_if (not b) t (others is ts))
      go true e (inl h) ih = absurd (true≢false (sym e ∙ ap (λ (x : Segment). begins_in x.start is) (sym h) ∙ n))
      go true e (inr h) ih = ih h
      go false e (inl h) ih = Memᴰ.head h
      go false e (inr h) ih = Memᴰ.tail (ih h)

  pub others-rising : (q : ℕ) (ss : List Segment) → Rising q ss → Rising q (others is ss)
  unfolding others Rising
  others-rising q [] k = tt
  others-rising q (s ∷ ss) k = go (begins_in s.start is) (others-rising (suc s.start) ss k.1)
    where
      go : (b : Bool) → Rising (suc s.start) (others is ss) → Rising q (keep_if (not b) s (others is ss))
      go true h = rising_weaken q (suc s.start) (others is ss) (omega (arith, k.0)) h
      go false h = (k.0, h)

-- the first of segments that rise begins before all others
first-least : (q : ℕ) (s t : Segment) (ss : List Segment) → Rising q (s ∷ ss) → Memᴰ t (s ∷ ss) → s.start ≤ t.start
unfolding Rising
first-least q s t ss k m = go (Memᴰ.cases_cons m)
  where
    go : (t ≡ s) ⊎ Memᴰ t ss → s.start ≤ t.start
    go (inl e) = omega (arith, ap (λ (x : Segment). x.start) e)
    go (inr l) = omega (arith, member-later (suc s.start) t ss k.1 l)

module _ (y : Syntax) (d : List ℕ) where
  outside-in : (s : Segment) → Memᴰ s (outside y d) → Memᴰ s (segments y d)
  unfolding outside outside_in
  outside-in s m = (others-in (inside (messages_in (segments y d))) s (segments y d) m).0

  outside-rising : Rising 0 (outside y d)
  unfolding outside outside_in
  outside-rising = others-rising (inside (messages_in (segments y d))) 0 (segments y d) (all-rising y d)

  module _ (f l : Segment) (a : First y d f) (b : Last y d l)
      (one-f : (g : Segment) → First y d g → g ≡ f) (one-l : (g : Segment) → Last y d g → g ≡ l) where
    pub strays-rising : Rising 0 (strays y d f l)
    strays-rising = others-rising (f ∷ l ∷ []) 0 (outside y d) outside-rising

    apart : (s : Segment) → Stray y d s → begins_in s.start (f ∷ l ∷ []) ≡ false
    unfolding begins_in
    apart s t =
        let m = outside-in s t.is_outside in
        let v : s.start ≡ f.start → ⊥ = λ e. t.not_first (rw (same-place 0 s f (segments y d) (all-rising y d) m (first_member y d f a) e) a) in
        let w : s.start ≡ l.start → ⊥ = λ e. t.not_last (rw (same-place 0 s l (segments y d) (all-rising y d) m (last-member y d l b) e) b) in
        rw (ne_eqb _ _ v, ne_eqb _ _ w)

    pub stray_in : (s : Segment) → Stray y d s → Memᴰ s (strays y d f l)
    stray_in s t = in_others (f ∷ l ∷ []) s (outside y d) t.is_outside (apart s t)

    not-at_f : (s : Segment) → begins_in s.start (f ∷ l ∷ []) ≡ false → s ≡ f → ⊥
    unfolding begins_in
    not-at_f s n e = true≢false (rw (eq-eqb s.start f.start (ap (λ (x : Segment). x.start) e)) at n)

    not-at_l : (s : Segment) → begins_in s.start (f ∷ l ∷ []) ≡ false → s ≡ l → ⊥
    unfolding begins_in
    not-at_l s n e = go (eqb s.start f.start) (rw (eq-eqb s.start l.start (ap (λ (x : Segment). x.start) e)) at n)
      where
        go : (c : Bool) → (c || true) ≡ false → ⊥
        go true h = true≢false h
        go false h = true≢false h

    pub in_stray : (s : Segment) → Memᴰ s (strays y d f l) → Stray y d s
    in_stray s m =
        let o = others-in (f ∷ l ∷ []) s (outside y d) m in
        record {
          is_outside = o.0;
          not_first = λ h. not-at_f s o.1 (one-f s h);
          not_last = λ h. not-at_l s o.1 (one-l s h);
        }

    pub first-stray : (s : Segment) (ss : List Segment) → strays y d f l ≡ s ∷ ss → FirstStray y d s.start
    first-stray s ss e =
        record {
          segment = s;
          stray = in_stray s (rw e (Memᴰ.head refl));
          earliest = λ t w. first-least 0 s t ss (rw e at strays-rising) (rw e at (stray_in t w));
          place = refl;
        }

    pub no_stray : strays y d f l ≡ [] → (p : ℕ) → FirstStray y d p → ⊥
    no_stray e p w = Memᴰ.not-nil (rw e at (stray_in w.segment w.stray))
