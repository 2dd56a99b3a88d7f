-- What the workers of the eight numbers answer, case by case.
use Prim.Native.Nat.{ℕ, ◌-◌, ◌^◌, ◌≤◌, ◌<◌, min, max}
use mathlib.Core.Path.{◌≡◌, refl, sym, ap, subst, ◌∙◌}
use native.Mathlib.Nat.{sub-zero}
use mathlib.Core.Bool.{Bool, true, false, cond}
use mathlib.Core.List.{List}
use lib.ListN.{length}
use lib.IntN.{ℤ, pos, negsuc}
use borrow.Author.Tests.{lt-ltb, le-ltb}
use mir.Syntax.{w64}
use mir.Val.{SFits, to_z, of_z}
use mir.Facts.{to_z_pos, to_z-of_z}
use Rattle.cut.specs.declared.service.Syntax.{Syntax}
use Rattle.bytewise.specs.Bytes.{part, bytes_of}
use Rattle.element.specs.Components.{component_at}
use Rattle.plain.specs.Plain.{decoded, plain, same}
use Rattle.value.specs.Number.{number_of}
use Rattle.element.specs.Elements.{component}
use Rattle.element.specs.declared.components.Span.{Span}
use Rattle.value.specs.declared.prices.Amount.{Amount}
use Rattle.std.specs.Prelude.{Option, Some, None}
use Rattle.element.proofs.ComponentFace as face
use Rattle.element.proofs.ComponentFace.{component_bytes, component-within}
use Rattle.price.specs.declared.kinds.Kind.{Kind}
use Rattle.price.specs.declared.kinds.Kind.TheVariants.{Lin, Pri, Rng, Other}
use Rattle.price.specs.declared.spots.Spot.{Spot}
use Rattle.price.specs.declared.spots.Held.{Held}
use Rattle.price.specs.Numbers.{article_in, article_place, article_length, price_in, amount_of, decimals_of, unit_rank, place_of_first, numbers_of}
use Rattle.price.specs.Listing.{rng_by}
use Rattle.price.specs.workers.Parts.{rng_in, listed_in}

-- an article that stands, and one that is absent
pub article-stands : (a : Span) → a.start < a.end → pos a.start ≡ article_place 0 a
unfolding article_place
article-stands a h = rw (lt-ltb _ _ h, sub-zero a.start)

pub article-absent : (a : Span) → a.end ≤ a.start → negsuc 0 ≡ article_place 0 a
unfolding article_place
article-absent a h = rw (le-ltb _ _ h)

-- a signed number comes back from its bits as it was
pub kept : (z v : ℤ) → SFits w64 z → z ≡ v → to_z w64 (of_z w64 z) ≡ v
kept z v f h = to_z-of_z f ∙ h

-- a component of the segment from start to end, decoded
module _ (y : Syntax) (d : List ℕ) (start end : ℕ) (s : Span) where
  component-text
      : (e c : ℕ) → s ≡ component_at y d start end e c → decoded y s.start s.end d ≡ plain y false (component y (part start end d) e c)
  unfolding decoded
  component-text e c h = ap (plain y false) (ap (λ (t : Span). part t.start t.end d) h ∙ component_bytes y d start end e c)

  pub price-read : (n : Option Amount) → s ≡ component_at y d start end 1 1 → n ≡ number_of y (decoded y s.start s.end d) → n ≡ price_in y (part start end d)
  unfolding price_in
  price-read n h k = k ∙ ap (number_of y) (component-text 1 1 h)

  module _ (b : Bool) (h : s ≡ component_at y d start end 1 5) (k : b ≡ same (decoded y s.start s.end d) (bytes_of "ANN")) where
    unit-by : (c : Bool) → b ≡ c → cond c (pos 1) (pos 0) ≡ unit_rank y (part start end d)
    unfolding unit_rank
    unit-by c f = ap (λ (q : Bool). cond q (pos 1) (pos 0)) (sym f ∙ k ∙ ap (λ (t : List ℕ). same t (bytes_of "ANN")) (component-text 1 5 h))

    pub unit-ann : b ≡ true → pos 1 ≡ unit_rank y (part start end d)
    unit-ann f = unit-by true f

    pub unit-other : b ≡ false → pos 0 ≡ unit_rank y (part start end d)
    unit-other f = unit-by false f

  pub component-bounds : (e c : ℕ) → s ≡ component_at y d start end e c → face.Within start (max start (min end (length d))) s
  component-bounds e c h = subst (face.Within start (max start (min end (length d)))) (sym h) (component-within y d start end e c)

-- the segment that comes next
module _ (d : List ℕ) where
  pub rng-none : negsuc 0 ≡ place_of_first 0 (rng_in d None)
  unfolding place_of_first rng_in
  rng-none = refl

  pub rng-here : (s : Spot) → s.kind ≡ Rng → pos s.start ≡ place_of_first 0 (rng_in d (Some s))
  unfolding place_of_first rng_in
  rng-here s h = rw (h, sub-zero s.start)

  pub rng-other : (s : Spot) → ¬ (s.kind ≡ Rng) → negsuc 0 ≡ place_of_first 0 (rng_in d (Some s))
  unfolding place_of_first rng_in
  rng-other s h = go s.kind h
    where
      go : (k : Kind) → ¬ (k ≡ Rng) → negsuc 0 ≡ place_of_first 0 (rng_by k (record { start = s.start; bytes = part s.start s.end d; piece = false }))
      go Lin f = refl
      go Pri f = refl
      go Rng f = absurd (f refl)
      go Other f = refl

-- the eight together
pub numbers-made
    : (y : Syntax) (d : List ℕ) (p : Held) (start end : ℕ) (next : Option Spot) (a : Span) (n : Option Amount) (place v ds u rng : ℤ)
    → p.number < 2 ^ 63 → a.end - a.start < 2 ^ 63 → start < 2 ^ 63 → a ≡ component_at y d p.lin.start p.lin.end 3 0 → n ≡ price_in y (part start end d)
    → place ≡ article_place 0 a → v ≡ amount_of n → ds ≡ decimals_of n → u ≡ unit_rank y (part start end d) → rng ≡ place_of_first 0 (rng_in d next)
    → record {
      position = to_z w64 p.number;
      article = place;
      length = to_z w64 (a.end - a.start);
      amount = v;
      decimals = ds;
      unit = u;
      pri = to_z w64 start;
      rng = rng;
    }
    ≡ numbers_of y 0 (listed_in d p start end next)
unfolding numbers_of article_in component_at article_length
numbers-made y d p start end next a n place v ds u rng f l m h k e₁ e₂ e₃ e₄ e₅ =
    λ i. record {
      position = to_z_pos w64 {n = p.number} f i;
      article = (e₁ ∙ ap (article_place 0) h) i;
      length = (to_z_pos w64 {n = a.end - a.start} l ∙ ap article_length h) i;
      amount = (e₂ ∙ ap amount_of k) i;
      decimals = (e₃ ∙ ap decimals_of k) i;
      unit = e₄ i;
      pri = (to_z_pos w64 {n = start} m ∙ ap pos (sym (sub-zero start))) i;
      rng = e₅ i;
    }
