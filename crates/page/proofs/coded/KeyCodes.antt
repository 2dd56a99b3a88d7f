-- A component is one of a row's codes exactly if its number is that of one.
use Prim.Native.Nat.{ℕ, zero, suc, ◌+◌, ◌-◌, ◌/◌, ◌%◌, ◌≤◌, ◌<◌}
use mathlib.Core.Bool.{Bool, true, ◌||◌, or-false, or_assoc}
use mathlib.Core.Path.{◌≡◌, refl, ◌∙◌}
use mathlib.Core.List.{List, [], ◌∷◌}
use native.Mathlib.Omega.{arith}
use lib.ListN.{get_or}
use lib.Dec.{T, eqb}
use Rattle.plain.specs.Words.{Bytes, packed, word_of}
use Rattle.plain.proofs.Packing.{is_short, all_short, word_same}
use Rattle.guide.specs.Nodes.{among, chosen}
use Rattle.guide.specs.Pages20d.{pages20d}
use Rattle.guide.proofs.Basics.{and_left, and_right}
use Rattle.page.specs.workers.Columns.{joined, column, codes_of, rows20d, all_codes}
use Rattle.page.specs.workers.Keys.{key_among}
use Rattle.page.specs.workers.Words.{span, codes_in}
use Rattle.page.proofs.words.Spans.{span-next, span_none}

-- the search through the codes from n up to next, where f says whether one before them is found
module _ (key n next : ℕ) (f : Bool) where
  pub search_end : next ≤ n → f || key_among key (span all_codes [] n (next - n)) ≡ f
  unfolding key_among
  search_end h = rw (span_none all_codes [] n next h) (or-false f)

  pub search_next
      : n < next → (w : ℕ) → w ≡ packed (get_or all_codes n [])
      → (f || eqb key w) || key_among key (span all_codes [] (n + 1) (next - (n + 1))) ≡ f || key_among key (span all_codes [] n (next - n))
  unfolding key_among
  search_next h w p = rw (span-next all_codes [] n next h, p) (or_assoc f (eqb key (packed (get_or all_codes n []))) _)

short-codes : T (all_short all_codes)
unfolding pages20d joined column codes_of rows20d all_codes
short-codes = tt

short-at : (cs : List (List ℕ)) (n : ℕ) → T (all_short cs) → T (is_short (get_or cs n []))
short-at [] n h = tt
short-at (c ∷ cs) zero h = and_left (is_short c) (all_short cs) h
short-at (c ∷ cs) (suc n) h = short-at cs n (and_right (is_short c) (all_short cs) h)

module _ (t : List ℕ) (b : Bytes t) where
  key-among : (n m : ℕ) → key_among (word_of t) (span all_codes [] n m) ≡ among t (span all_codes [] n m)
  unfolding span key_among among
  key-among n zero = refl
  key-among n (suc m) = rw (word_same t (get_or all_codes n []) b (short-at all_codes n short-codes), key-among (n + 1) m)

-- on the row that has the word w
module _ (w : ℕ) (t : List ℕ) where
  pub listed-any : w / 1024 % 64 ≡ 0 → true ≡ chosen (codes_in w) t
  unfolding codes_in span chosen
  listed-any h = rw h

  pub listed-key
      : Bytes t → (w / 1024 % 64 ≡ 0 → ⊥) → (key from next : ℕ) (r : Bool) → key ≡ word_of t → from ≡ w % 1024 → next ≡ from + w / 1024 % 64 → r
      ≡ key_among key (span all_codes [] from (next - from)) → r ≡ chosen (codes_in w) t
  unfolding codes_in span chosen
  listed-key b h key from next r k f n p =
      let m : next - from ≡ w / 1024 % 64 = omega arith in
      p ∙ rw (m, k, f) (key-among t b (w % 1024) (w / 1024 % 64) ∙ go (w / 1024 % 64) h)
    where
      go : (m : ℕ) → (m ≡ 0 → ⊥) → among t (span all_codes [] (w % 1024) m) ≡ chosen (span all_codes [] (w % 1024) m) t
      go zero z = absurd (z refl)
      go (suc m) z = refl
