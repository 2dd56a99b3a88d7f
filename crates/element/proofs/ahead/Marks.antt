-- A release mark and the byte behind it: the component goes on behind them as one that begins there.
use Prim.Native.Nat.{ℕ, ◌+◌, ◌-◌, ◌≤◌}
use mathlib.Core.Path.{◌≡◌, refl, sym, ap, ◌∙◌}
use mathlib.Core.Bool.{true, false, false≢true}
use mathlib.Core.List.{List, ◌∷◌}
use native.Mathlib.Omega.{arith}
use borrow.Author.Tests.{eq-eqb}
use lib.ListN.{length, get_or}
use Rattle.bytewise.specs.Bytes.{part}
use Rattle.cut.specs.Segments.{frees}
use Rattle.cut.specs.declared.service.Syntax.{Syntax}
use Rattle.bytewise.proofs.Parts.{part-next}
use Rattle.element.specs.Components.{extent_of}
use Rattle.element.specs.Elements.{ending_of, stays, releases, before, split_from, component}
use Rattle.plain.specs.Plain.{plain}
use Rattle.element.specs.Services.{Service}
use Rattle.plain.proofs.Decoding.{plain_released}
use Rattle.bytewise.proofs.Booleans.{and_both}
use Rattle.element.proofs.scan.Endings.{stays-nothing}
use Rattle.element.proofs.scan.Extents.{Reached, reached-service}
use Rattle.element.proofs.scan.Scanning.{first-component}

module _ (y : Syntax) (x : ℕ) where
  -- a byte that stays in its component ends no segment
  pub stays-inside : stays (ending_of y false x) ≡ true → x ≡ y.terminator → ⊥
  unfolding stays ending_of
  stays-inside h e = false≢true (rw (eq-eqb x y.terminator e) at h)

  module _ (f : releases y false x ≡ true) where
    pub mark-both : (stays (ending_of y false x) ≡ true) × (frees y false x ≡ true)
    unfolding releases
    mark-both = and_both _ _ f

    mark-first : (xs : List ℕ) → (split_from y false (x ∷ xs)).bytes ≡ x ∷ (split_from y true xs).bytes
    unfolding split_from before
    mark-first xs = rw (f, stays-nothing (ending_of y false x) mark-both.0)

  released_first : (xs : List ℕ) → (split_from y true (x ∷ xs)).bytes ≡ x ∷ (split_from y false xs).bytes
  unfolding split_from ending_of releases before stays frees
  released_first xs = refl

-- the first service character from the place a on is a mark, and a byte stands behind it
module _ (y : Syntax) (d : List ℕ) (a limit mark : ℕ) (fits : limit ≤ length d) (s : Service y d a limit mark) (h : mark + 2 ≤ limit)
    (f : releases y false (get_or d mark 0) ≡ true) where
  reached : Reached y d a limit limit mark
  reached = reached-service y d a limit limit (omega arith) mark s (omega arith)

  left-mark : component y (part mark limit d) 0 0 ≡ get_or d mark 0 ∷ get_or d (mark + 1) 0 ∷ component y (part (mark + 2) limit d) 0 0
  left-mark =
      let z : mark + 1 + 1 ≡ mark + 2 = omega arith in
      let p = part-next d (mark + 1) limit (omega arith) fits in
      first-component y (part mark limit d)
      ∙ ap (λ (l : List ℕ). (split_from y false l).bytes) (part-next d mark limit (omega arith) fits)
      ∙ mark-first y (get_or d mark 0) f (part (mark + 1) limit d)
      ∙ ap (λ (l : List ℕ). get_or d mark 0 ∷ (split_from y true l).bytes) (rw z at p)
      ∙ ap (λ (l : List ℕ). get_or d mark 0 ∷ l) (released_first y (get_or d (mark + 1) 0) (part (mark + 2) limit d))
      ∙ ap (λ (l : List ℕ). get_or d mark 0 ∷ get_or d (mark + 1) 0 ∷ l) (sym (first-component y (part (mark + 2) limit d)))

  pub mark-ends : (extent_of y d (mark + 2) limit).end ≡ (extent_of y d a limit).end
  unfolding extent_of
  mark-ends =
      let l = ap length left-mark in
      omega (arith, reached.ends)

  pub mark-counts : mark + 1 - a + (extent_of y d (mark + 2) limit).length ≡ (extent_of y d a limit).length
  unfolding extent_of
  mark-counts =
      let p = ap (λ (b : List ℕ). length (plain y false b)) left-mark
      ∙ ap length (plain_released y _ _ (component y (part (mark + 2) limit d) 0 0) (mark-both y _ f).1) in
      omega (arith, s.passed.onward, reached.counts)
