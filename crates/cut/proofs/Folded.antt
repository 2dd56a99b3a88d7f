-- The segments byte by byte: one pass whose state is whether it stands where a segment may begin, and whether the next byte is released.
use Prim.Native.Nat.{ℕ, suc}
use mathlib.Core.Path.{◌≡◌, refl, sym, ◌∙◌, ap}
use mathlib.Core.Bool.{Bool, true, false, ◌&&◌, ◌||◌, false≢true}
use mathlib.Core.List.{List, [], ◌∷◌}
use Rattle.cut.specs.declared.service.Syntax.{Syntax}
use Rattle.cut.specs.Segments.{Segment, ends, frees, join, segments_from, is_break, trimmed, segments_of}
use Rattle.cut.proofs.First.{ends-frees}
use Rattle.cut.proofs.Skips.{break_ends, break_frees, trim-kept, segments_are, skip_cut}
use Rattle.cut.proofs.Meeting.{behind, behind-none}

-- a byte that is skipped, or that joins the segments behind it
abbrev join_or : Bool → Bool → ℕ → ℕ → List Segment → List Segment
join_or true e p x ss = ss
join_or false e p x ss = join e p x ss

-- b: a segment may begin here; r: the first byte is released
unfoldable pub folded : Syntax → ℕ → Bool → Bool → List ℕ → List Segment
folded y p b r [] = []
folded y p b r (x ∷ xs) =
    join_or (b && is_break y x) (ends y r x) p x (folded y (suc p) ((b && is_break y x) || ends y r x) (frees y r x) xs)

module _ (y : Syntax) (p x : ℕ) where
  join-inside : (e : Bool) (ts : List Segment) → join e p x (behind y e ts) ≡ behind y false (join e p x ts)
  unfolding join behind trimmed
  join-inside true ts = refl
  join-inside false [] = refl
  join-inside false (t ∷ ts) = refl

  join-begin : (e : Bool) (ts : List Segment) → is_break y x ≡ false → join e p x (behind y e ts) ≡ trimmed y (join e p x ts)
  unfolding join behind trimmed
  join-begin true ts n = sym (trim-kept y p x [] false (trimmed y ts) n)
  join-begin false [] n = sym (trim-kept y p x [] true [] n)
  join-begin false (t ∷ ts) n = sym (trim-kept y p x t.bytes t.piece (trimmed y ts) n)

folded_behind : (y : Syntax) (p : ℕ) (b r : Bool) (xs : List ℕ) → (b ≡ true → r ≡ false) → folded y p b r xs ≡ behind y b (segments_from y p r xs)
unfolding folded segments_from behind
folded_behind y p b r [] h = sym (behind-none y b)
folded_behind y p b r (x ∷ xs) h =
    go b r (is_break y x) (ends y r x) refl refl h
    (folded_behind y (suc p) (ends y r x) (frees y r x) xs (λ e. ends-frees y r x e)) (λ f. folded_behind y (suc p) true f xs)
  where
    go
        : (b r c e : Bool) → is_break y x ≡ c → ends y r x ≡ e → (b ≡ true → r ≡ false)
        → folded y (suc p) e (frees y r x) xs ≡ behind y e (segments_from y (suc p) (frees y r x) xs)
        → ((f : Bool) → (true ≡ true → f ≡ false) → folded y (suc p) true f xs ≡ behind y true (segments_from y (suc p) f xs))
        → join_or (b && c) e p x (folded y (suc p) ((b && c) || e) (frees y r x) xs) ≡ behind y b (join e p x (segments_from y (suc p) (frees y r x) xs))
    go false r c e i k l ih all = ap (join e p x) ih ∙ join-inside y p x e (segments_from y (suc p) (frees y r x) xs)
    go true r false e i k l ih all = ap (join e p x) ih ∙ join-begin y p x e (segments_from y (suc p) (frees y r x) xs) i
    go true r true true i k l ih all = absurd (false≢true (sym (break_ends y x i r) ∙ k))
    go true r true false i k l ih all = rw (break_frees y x i r) (all false (λ z. refl) ∙ sym (skip_cut y p x xs i))

-- the two wordings of item 4 are one
pub byte-by-byte : (y : Syntax) (p : ℕ) (xs : List ℕ) → folded y p true false xs ≡ segments_of y p xs
unfolding behind
byte-by-byte y p xs = folded_behind y p true false xs (λ e. refl) ∙ sym (segments_are y p xs)
