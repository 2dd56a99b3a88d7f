-- The same bytes some places later hold the same segments, so many places later.
use Prim.Native.Nat.{ℕ, suc, ◌+◌}
use mathlib.Core.Path.{◌≡◌, refl, sym, ◌∙◌, ap}
use mathlib.Core.Bool.{Bool, true, false, cond}
use mathlib.Core.List.{List, [], ◌∷◌, map}
use native.Mathlib.Nat.{add-suc}
use Rattle.cut.specs.declared.service.Syntax.{Syntax}
use Rattle.cut.specs.Segments.{Segment, is_break, trim, trimmed, segments_of, segments_from}
use Rattle.cut.specs.Fronts.{moved}
use Rattle.cut.proofs.Appended.{cuts_moved}

module _ (y : Syntax) (k : ℕ) where
  trim-moved : (p : ℕ) (bs : List ℕ) (b : Bool) (us : List Segment) → trim y (k + p) bs b (map (moved k) us) ≡ map (moved k) (trim y p bs b us)
  unfolding trim
  trim-moved p [] b us = refl
  trim-moved p (x ∷ xs) b us =
      go (is_break y x) (ap (λ (q : ℕ). trim y q xs b (map (moved k) us)) (sym (add-suc k p)) ∙ trim-moved (suc p) xs b us)
    where
      go
          : (c : Bool) → trim y (suc (k + p)) xs b (map (moved k) us) ≡ map (moved k) (trim y (suc p) xs b us)
          → cond c (trim y (suc (k + p)) xs b (map (moved k) us)) (record { start = k + p; bytes = x ∷ xs; piece = b } ∷ map (moved k) us)
          ≡ map (moved k) (cond c (trim y (suc p) xs b us) (record { start = p; bytes = x ∷ xs; piece = b } ∷ us))
      go true ih = ih
      go false ih = refl

  trimmed-moved : (ss : List Segment) → trimmed y (map (moved k) ss) ≡ map (moved k) (trimmed y ss)
  unfolding trimmed
  trimmed-moved [] = refl
  trimmed-moved (s ∷ ss) =
      ap (trim y (k + s.start) s.bytes s.piece) (trimmed-moved ss) ∙ trim-moved s.start s.bytes s.piece (trimmed y ss)

  pub segments-moved : (p : ℕ) (xs : List ℕ) → segments_of y (k + p) xs ≡ map (moved k) (segments_of y p xs)
  unfolding segments_of
  segments-moved p xs = ap (trimmed y) (cuts_moved y k p false xs) ∙ trimmed-moved (segments_from y p false xs)
