-- How a state's word is read.
use Prim.Native.Nat.{ℕ, zero, suc, ◌/◌, ◌%◌}
use mathlib.Core.Bool.{Bool, true, false}
use mathlib.Core.Path.{◌≡◌, refl, sym, ◌∙◌}
use mathlib.Core.Logic.{◌⊎◌, inl, inr, ⊎_elim}
use lib.Dec.{eqb}
use borrow.Author.Tests.{eq-eqb, ne_eqb, eqb-true, eqb-false}
use Rattle.cut.specs.declared.service.Syntax.{Syntax}
use Rattle.element.specs.Elements.{ending_of, stays}
use Rattle.element.specs.Services.{is_service}
use Rattle.element.specs.declared.components.Span.{Span}
use Rattle.page.specs.workers.Cells.{steps_of, may_end, next_of, keep_of}
use Rattle.page.specs.declared.places.Places.{Places}

module _ (w n : ℕ) where
  pub steps_empty : n ≡ 0 → w / 0x1_0000 ≡ steps_of w n
  steps_empty h = rw h

  pub end_empty : n ≡ 0 → eqb (w / 0x2_0000_0000 % 2) 1 ≡ may_end w n
  end_empty h = rw h

pub steps_filled : (w n : ℕ) → (n ≡ 0 → ⊥) → w ≡ steps_of w n
steps_filled w zero h = absurd (h refl)
steps_filled w (suc n) h = refl

pub end_filled : (w n : ℕ) → (n ≡ 0 → ⊥) → eqb (w / 0x1_0000_0000 % 2) 1 ≡ may_end w n
end_filled w zero h = absurd (h refl)
end_filled w (suc n) h = refl

module _ (y : Syntax) (x t : ℕ) where
  pub next-element : x ≡ y.element → t / 0x100 % 256 ≡ next_of y x t
  unfolding next_of
  next-element h = rw (eq-eqb x y.element h)

  module _ (i : x ≡ y.element → ⊥) where
    pub next-component : x ≡ y.component → t % 256 ≡ next_of y x t
    unfolding next_of
    next-component h = rw (ne_eqb x y.element i, eq-eqb x y.component h)

    pub next-none : (x ≡ y.component → ⊥) → 0 ≡ next_of y x t
    unfolding next_of
    next-none h = rw (ne_eqb x y.element i, ne_eqb x y.component h)

  -- a state comes next behind a separator only
  pub next-by
      : (s : ℕ) → s ≡ next_of y x t → (s ≡ 0 → ⊥)
      → ((x ≡ y.element) × (s ≡ t / 0x100 % 256)) ⊎ ((x ≡ y.element → ⊥) × (x ≡ y.component) × (s ≡ t % 256))
  next-by s e z = go (eqb x y.element) refl (eqb x y.component) refl
    where
      go
          : (a : Bool) → eqb x y.element ≡ a → (b : Bool) → eqb x y.component ≡ b
          → ((x ≡ y.element) × (s ≡ t / 0x100 % 256)) ⊎ ((x ≡ y.element → ⊥) × (x ≡ y.component) × (s ≡ t % 256))
      go true f b g =
          let h = eqb-true x y.element f in
          inl (h, e ∙ sym (next-element h))
      go false f true g =
          let i = eqb-false x y.element f in
          let h = eqb-true x y.component g in
          inr (i, h, e ∙ sym (next-component i h))
      go false f false g = absurd (z (e ∙ sym (next-none (eqb-false x y.element f) (eqb-false x y.component g))))

-- a byte at which the segment ends, or behind which a state comes, is a service character
module _ (y : Syntax) (x : ℕ) where
  pub service-last : x ≡ y.terminator → is_service y x ≡ true
  unfolding is_service ending_of stays
  service-last h = rw (eq-eqb x y.terminator h)

  pub service-next : (x ≡ y.terminator → ⊥) → (t s : ℕ) → s ≡ next_of y x t → (s ≡ 0 → ⊥) → is_service y x ≡ true
  unfolding is_service ending_of stays
  service-next n t s e z =
      ⊎_elim (λ v. rw (ne_eqb x y.terminator n, eq-eqb x y.element v.0))
      (λ v. rw (ne_eqb x y.terminator n, ne_eqb x y.element v.0, eq-eqb x y.component v.1)) (next-by y x t s e z)

module _ (s : Span) (p : Places) where
  pub keep-first : (k : ℕ) → k ≡ 1 → record { first = s; third = p.third } ≡ keep_of k s p
  keep-first k h = rw h

  pub keep-third : (k : ℕ) → (k ≡ 0 → ⊥) → (k ≡ 1 → ⊥) → record { first = p.first; third = s } ≡ keep_of k s p
  keep-third zero h i = absurd (h refl)
  keep-third (suc zero) h i = absurd (i refl)
  keep-third (suc (suc k)) h i = refl
