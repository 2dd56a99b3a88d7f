-- The fault of a text on a row, by the row's word.
use Prim.Native.Nat.{ℕ, zero, suc, ◌/◌, ◌%◌, ◌≤◌, ◌<◌}
use mathlib.Core.Bool.{Bool, true, false, not, ◌&&◌}
use mathlib.Core.Path.{◌≡◌, refl, sym, ap, ◌∙◌}
use mathlib.Core.List.{List, [], ◌∷◌}
use native.Mathlib.Omega.{arith}
use lib.ListN.{length}
use lib.Dec.{leb, eqb}
use borrow.Author.Tests.{le-leb}
use Rattle.cut.specs.declared.service.Syntax.{Syntax}
use Rattle.value.specs.Format.{fits_format}
use Rattle.value.specs.declared.formats.Format.{Format}
use Rattle.value.specs.declared.formats.Format.TheVariants.{NUpTo, N}
use Rattle.guide.specs.Page.{Row}
use Rattle.guide.specs.Nodes.{chosen}
use Rattle.guide.specs.workers.PageFault.{text_fault}
use Rattle.guide.specs.Choices.{pickℕ}
use Rattle.guide.specs.workers.Moods.{is_must}
use Rattle.guide.proofs.PageFace.{unused-filled, used-filled, empty-fault, filled-fault}
use Rattle.page.specs.workers.Words.{codes_in, format_by, format_in, row_by, row_in}

pub must-status : (w : ℕ) → leb 2 (w / 65536 % 4) ≡ is_must (row_in w)
unfolding row_in is_must
must-status w = go (w / 65536 % 4) (format_in w) (codes_in w)
  where
    go : (s : ℕ) (f : Format) (cs : List (List ℕ)) → leb 2 s ≡ is_must (row_by s f cs)
    go zero f cs = refl
    go (suc zero) f cs = refl
    go (suc (suc s)) f cs = le-leb 2 (suc (suc s)) (omega arith)

-- whether a text that is not empty has the row's format, by the format's kind and size
module _ (y : Syntax) (w : ℕ) (t : List ℕ) where
  abbrev kind : ℕ
  kind = w / 262144 % 4

  abbrev size : ℕ
  size = w / 1048576

  module _ (n : ℕ) (count : n ≡ length t) where
    pub formed_up_to : 0 < n → kind ≡ 0 → leb n size ≡ fits_format y (format_in w) t
    unfolding format_in fits_format
    formed_up_to h k =
        let l : 1 ≤ length t = omega arith in
        rw (k, count, le-leb 1 (length t) l)

    pub formed_exactly : kind < 2 → (kind ≡ 0 → ⊥) → eqb n size ≡ fits_format y (format_in w) t
    unfolding format_in fits_format
    formed_exactly l h =
        let k : kind ≡ 1 = omega arith in
        rw (k, count)

-- a format for numbers, by its kind
module _ (w : ℕ) where
  pub format-digits : w / 262144 % 4 ≡ 2 → NUpTo (w / 1048576) ≡ format_in w
  unfolding format_in
  format-digits h = rw h

  pub format-number : 2 ≤ w / 262144 % 4 → (w / 262144 % 4 ≡ 2 → ⊥) → N (w / 1048576) ≡ format_in w
  unfolding format_in
  format-number l h = go (w / 262144 % 4) l h
    where
      go : (k : ℕ) → 2 ≤ k → (k ≡ 2 → ⊥) → N (w / 1048576) ≡ format_by k (w / 1048576)
      go zero l h = absurd (omega arith)
      go (suc zero) l h = absurd (omega arith)
      go (suc (suc zero)) l h = absurd (h refl)
      go (suc (suc (suc k))) l h = refl

pub filled : (t : List ℕ) → 0 < length t → t ≡ [] → ⊥
filled t h e = absurd (omega (arith, ap length e))

module _ (y : Syntax) (w : ℕ) (t : List ℕ) (n : ℕ) (p : (n ≡ length t) × (0 < n)) where
  h : 0 < length t
  h = omega (arith, p.0, p.1)

  pub filled-unused : w / 65536 % 4 ≡ 0 → 18 ≡ text_fault y false (row_in w) t
  unfolding row_in
  filled-unused z = rw z (sym (unused-filled y false t (filled t h)))

  -- on a row in use
  module _ (z : w / 65536 % 4 ≡ 0 → ⊥) where
    filled-used : text_fault y false (row_in w) t ≡ pickℕ (not (fits_format y (format_in w) t)) 19 (pickℕ (not (chosen (codes_in w) t)) 20 0)
    unfolding row_in
    filled-used = go (w / 65536 % 4) z
      where
        go
            : (s : ℕ) → (s ≡ 0 → ⊥)
            → text_fault y false (row_by s (format_in w) (codes_in w)) t
            ≡ pickℕ (not (fits_format y (format_in w) t)) 19 (pickℕ (not (chosen (codes_in w) t)) 20 0)
        go zero z = absurd (z refl)
        go (suc zero) z = used-filled y false _ (format_in w) (codes_in w) t (filled t h)
        go (suc (suc s)) z = used-filled y false _ (format_in w) (codes_in w) t (filled t h)

    module _ (f : Bool) (e : f ≡ fits_format y (format_in w) t) where
      pub filled-format : f ≡ false → 19 ≡ text_fault y false (row_in w) t
      filled-format k = sym (filled-used ∙ rw (sym e ∙ k))

      module _ (k : f ≡ true) (v : Bool) (q : v ≡ chosen (codes_in w) t) where
        pub filled-code : v ≡ false → 20 ≡ text_fault y false (row_in w) t
        filled-code g = sym (filled-used ∙ rw (sym e ∙ k, sym q ∙ g))

        pub filled-right : v ≡ true → 0 ≡ text_fault y false (row_in w) t
        filled-right g = sym (filled-used ∙ rw (sym e ∙ k, sym q ∙ g))

-- whether it is asked for or not
pub filled-any : (y : Syntax) (r : Row) (t : List ℕ) → 0 < length t → (asked : Bool) → text_fault y false r t ≡ text_fault y asked r t
filled-any y r t h true = go t refl
  where
    go : (u : List ℕ) → t ≡ u → text_fault y false r t ≡ text_fault y true r t
    go [] e = absurd (filled t h e)
    go (x ∷ xs) e = rw e (filled-fault y r x xs)
filled-any y r t h false = refl

pub empty-text : (y : Syntax) (asked : Bool) (r : Row) (t : List ℕ) → length t ≡ 0 → pickℕ (is_must r && asked) 17 0 ≡ text_fault y asked r t
empty-text y asked r [] h = sym (empty-fault y asked r)
empty-text y asked r (x ∷ xs) h = absurd (omega arith)

-- the fault of an empty text, by its two tests
pub not-asked : (m asked : Bool) → asked ≡ false → 0 ≡ pickℕ (m && asked) 17 0
not-asked true asked h = rw h
not-asked false asked h = refl

pub asked-must : (m asked : Bool) → asked ≡ true → m ≡ true → 17 ≡ pickℕ (m && asked) 17 0
asked-must m asked h g = rw (h, g)

pub asked-may : (m asked : Bool) → m ≡ false → 0 ≡ pickℕ (m && asked) 17 0
asked-may m asked g = rw g
