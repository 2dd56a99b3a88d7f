-- Where the last of the segments of some bytes ends.
use Prim.Native.Nat.{ℕ, zero, suc, ◌+◌, ◌-◌, ◌≤◌, ◌<◌}
use mathlib.Core.Path.{◌≡◌, refl, sym, ◌∙◌, ap}
use mathlib.Core.Bool.{Bool, true, false, not, ◌&&◌, true≢false}
use mathlib.Core.List.{List, [], ◌∷◌, ◌++◌, append-nil}
use native.Mathlib.Omega.{arith}
use lib.ListN.{length, get_or, drop, length-drop}
use lib.Seq.{get_or-drop}
use lib.Dec.{ltb}
use borrow.Author.Tests.{ltb-true, ltb-false}
use Rattle.cut.specs.declared.service.Syntax.{Syntax}
use Rattle.bytewise.specs.Bytes.{part}
use Rattle.bytewise.proofs.Booleans.{and_both}
use Rattle.bytewise.proofs.Parts.{length_part, part_at, part_none}
use Rattle.bytewise.proofs.Limits.{drop-part}
use Rattle.cut.specs.Segments.{Segment, end_of, is_break, segments_of, segments_at, breaks, last_end}
use Rattle.cut.specs.Fronts.{whole}
use Rattle.cut.proofs.Skips.{segments_of_none}
use Rattle.cut.proofs.Ahead.{first-ahead, last_fits}
use Rattle.cut.proofs.Kept.{laid_none}

breaks-at : (y : Syntax) (xs : List ℕ) (i : ℕ) → breaks y xs ≡ true → i < length xs → is_break y (get_or xs i 0) ≡ true
unfolding breaks
breaks-at y [] i h k = absurd (omega arith)
breaks-at y (x ∷ xs) zero h k = (and_both (is_break y x) (breaks y xs) h).0
breaks-at y (x ∷ xs) (suc i) h k = breaks-at y xs i (and_both (is_break y x) (breaks y xs) h).1 (omega arith)

module _ (y : Syntax) (d : List ℕ) where
  -- what follows some first segments
  pub rest-after : (at : ℕ) (ss ts : List Segment) → segments_at y d at ≡ ss ++ ts → segments_at y d (last_end at ss) ≡ ts
  unfolding last_end
  rest-after at [] ts h = h
  rest-after at (s ∷ ss) ts h = rest-after (end_of s) ss ts (sym (first-ahead y d at s (ss ++ ts) h).rest)

  -- a piece ends with the delivery
  pub last_open : (at : ℕ) (ss : List Segment) → segments_at y d at ≡ ss → whole ss ≡ false → last_end at ss ≡ length d
  unfolding last_end whole
  last_open at [] h w = absurd (true≢false w)
  last_open at (s ∷ ss) h w = go s.piece refl (last_open (end_of s) ss (sym (first-ahead y d at s ss h).rest))
    where
      go : (b : Bool) → s.piece ≡ b → (whole ss ≡ false → last_end (end_of s) ss ≡ length d) → last_end (end_of s) ss ≡ length d
      go true e ih =
          let f = first-ahead y d at s ss h in
          ap (last_end (end_of s)) (f.last e) ∙ f.piece_end e
      go false e ih = ih (sym (ap (λ (b : Bool). not b && whole ss) e) ∙ w)

  -- behind the last of all, up to the delivery's last byte, there are line breaks alone
  last_byte : (at : ℕ) → at < length d → is_break y (get_or d (length d - 1) 0) ≡ false → last_end at (segments_at y d at) ≡ length d
  last_byte at h k = go (ltb (last_end at (segments_at y d at)) (length d)) refl
    where
      all : segments_at y d at ≡ segments_at y d at ++ []
      all = sym (append-nil (segments_at y d at))

      go : (b : Bool) → ltb (last_end at (segments_at y d at)) (length d) ≡ b → last_end at (segments_at y d at) ≡ length d
      go true e =
          let l = ltb-true (last_end at (segments_at y d at)) (length d) e in
          let n : last_end at (segments_at y d at) + (length d - 1 - last_end at (segments_at y d at)) ≡ length d - 1 = omega arith in
          let i =
          breaks-at y (drop (last_end at (segments_at y d at)) d) (length d - 1 - last_end at (segments_at y d at))
          (laid_none y d (last_end at (segments_at y d at)) (rest-after at (segments_at y d at) [] all))
          (omega (arith, length-drop (last_end at (segments_at y d at)) d)) in
          absurd (true≢false (sym (rw (get_or-drop, n) at i) ∙ k))
      go false e =
          let f = last_fits y d at (segments_at y d at) [] (omega arith) all in
          let l = ltb-false (last_end at (segments_at y d at)) (length d) e in
          omega arith

-- the segments of the bytes up to a place end there, if no line break stands before it
module _ (y : Syntax) (d : List ℕ) (from r : ℕ) (h : from ≤ r) (k : r ≤ length d) where
  front_long : length (part 0 r d) ≡ r
  front_long = omega (arith, length_part d 0 r k)

  front_same : segments_at y (part 0 r d) from ≡ segments_of y from (part from r d)
  front_same =
      let z : 0 + from ≡ from = omega arith in
      ap (segments_of y from) (drop-part d 0 r from (omega arith) k ∙ ap (λ (a : ℕ). part a r d) z)

  front-last : from < r → get_or (part 0 r d) (length (part 0 r d) - 1) 0 ≡ get_or d (r - 1) 0
  front-last l =
      let z : 0 + (r - 1) ≡ r - 1 = omega arith in
      ap (λ (n : ℕ). get_or (part 0 r d) (n - 1) 0) front_long ∙ part_at d 0 r (r - 1) (omega arith) ∙ ap (λ (i : ℕ). get_or d i 0) z

  pub last-closed : (from < r → is_break y (get_or d (r - 1) 0) ≡ false) → last_end from (segments_of y from (part from r d)) ≡ r
  unfolding last_end
  last-closed n = go (ltb from r) refl
    where
      go : (b : Bool) → ltb from r ≡ b → last_end from (segments_of y from (part from r d)) ≡ r
      go true e =
          let l = ltb-true _ _ e in
          ap (last_end from) (sym front_same)
          ∙ last_byte y (part 0 r d) from (omega (arith, front_long)) (ap (is_break y) (front-last l) ∙ n l) ∙ front_long
      go false e =
          let l = ltb-false _ _ e in
          rw (part_none d from r l) (ap (last_end from) (segments_of_none y from) ∙ omega arith)
