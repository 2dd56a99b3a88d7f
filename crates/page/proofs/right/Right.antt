-- A component without a fault on its row: by the row's word, and by the component's bytes where no release mark is among them.
use Prim.Native.Nat.{ℕ, zero, suc, ◌+◌, ◌-◌, ◌/◌, ◌%◌, ◌≤◌, ◌<◌}
use mathlib.Core.Bool.{Bool, true, false, cond, ◌&&◌}
use mathlib.Core.Path.{◌≡◌, refl, sym, ap, ◌∙◌}
use mathlib.Core.List.{List}
use native.Mathlib.Omega.{arith}
use lib.ListN.{length}
use lib.Dec.{leb, eqb}
use borrow.Author.Tests.{eqb-true, eqb-false}
use Rattle.bytewise.specs.Bytes.{part}
use Rattle.cut.specs.declared.service.Syntax.{Syntax}
use Rattle.bytewise.proofs.Parts.{length_part}
use Rattle.plain.specs.Plain.{decoded}
use Rattle.value.specs.Numeral.{digit_count}
use Rattle.value.specs.Format.{fits_format}
use Rattle.value.specs.declared.formats.Format.{Format}
use Rattle.value.proofs.ValueFace.{number_digits, count-up-to, count-exactly, an_up_to-fits, n_up_to-fits, n_fits}
use Rattle.guide.specs.Nodes.{chosen}
use Rattle.guide.specs.workers.PageFault.{text_fault}
use Rattle.guide.proofs.PageFace.{used-filled}
use Rattle.page.specs.workers.Words.{codes_in, format_by, format_in, free_by, free_row}
use Rattle.page.proofs.coded.KeyWords.{unreleased}
use Rattle.page.proofs.formed.Faults.{format-digits, format-number}

pub nonzero : (n : ℕ) → (n ≡ 0 → ⊥) → 1 ≤ n
nonzero n h = omega arith

module _ (y : Syntax) (w : ℕ) (t : List ℕ) where
  -- whether a number has the row's format, by how many digits it has
  pub formed-digits
      : (n : ℕ) → n ≡ digit_count y t → (w / 262144 % 4 ≡ 0 → ⊥) → (w / 262144 % 4 ≡ 1 → ⊥)
      → leb 1 n && cond (eqb (w / 262144 % 4) 3) (eqb n (w / 1048576)) (leb n (w / 1048576)) ≡ fits_format y (format_in w) t
  formed-digits n q g h = go (eqb (w / 262144 % 4) 3) refl
    where
      go
          : (b : Bool) → eqb (w / 262144 % 4) 3 ≡ b
          → leb 1 n && cond b (eqb n (w / 1048576)) (leb n (w / 1048576)) ≡ fits_format y (format_in w) t
      go true e =
          let k = eqb-true (w / 262144 % 4) 3 e in
          count-exactly y t (w / 1048576) n q
          ∙ ap (λ (f : Format). fits_format y f t) (format-number w (omega arith) (λ z. absurd (omega arith)))
      go false e =
          let k = eqb-false (w / 262144 % 4) 3 e in
          count-up-to y t (w / 1048576) n q ∙ ap (λ (f : Format). fits_format y f t) (format-digits w (omega arith))

  module _ (filled : 0 < length t) (fits : fits_format y (format_in w) t ≡ true) where
    -- no text that is not empty fits a format of the size 0
    some_size : w / 1048576 ≡ 0 → ⊥
    unfolding format_in fits_format
    some_size z = go (w / 262144 % 4) (rw z at fits)
      where
        go : (k : ℕ) → fits_format y (format_by k 0) t ≡ true → ⊥
        go zero e =
            let p = an_up_to-fits y 0 t e in
            omega arith
        go (suc zero) e =
            let p = eqb-true (length t) 0 e in
            omega arith
        go (suc (suc zero)) e =
            let p = n_up_to-fits y 0 t e in
            let q = number_digits y t p.0 in
            omega arith
        go (suc (suc (suc k))) e =
            let p = n_fits y 0 t e in
            let q = number_digits y t p.0 in
            omega arith

    pub free-right : chosen (codes_in w) t ≡ true → text_fault y false (free_row w) t ≡ 0
    unfolding free_row
    free-right listed = go (w / 1048576) some_size
      where
        go : (k : ℕ) → (k ≡ 0 → ⊥) → text_fault y false (free_by k (format_in w) (codes_in w)) t ≡ 0
        go zero z = absurd (z refl)
        go (suc k) z =
            used-filled y false _ (format_in w) (codes_in w) t (λ e. let l = ap length e in omega arith) ∙ rw (fits, listed)

-- a component of as many bytes as stand there
module _ (y : Syntax) (d : List ℕ) (a b n : ℕ) (pre : (a ≤ b) × (b ≤ length d) × (0 < n)) (same : b - a ≡ n) where
  pub bytes_there : n ≡ length (part a b d)
  bytes_there = sym (length_part d a b pre.1 ∙ same)

  pub right_there
      : n ≡ length (decoded y a b d) → (w : ℕ) → fits_format y (format_in w) (part a b d) ≡ true → chosen (codes_in w) (part a (a + n) d) ≡ true
      → text_fault y false (free_row w) (decoded y a b d) ≡ 0
  right_there count w fits listed =
      let z : a + n ≡ b = omega (arith, pre.0) in
      let l : chosen (codes_in w) (part a b d) ≡ true = rw z at listed in
      let u : decoded y a b d ≡ part a b d = unreleased y d a b n count pre.1 z ∙ ap (λ (e : ℕ). part a e d) z in
      rw u (free-right y w (part a b d) (omega (arith, bytes_there, pre.2)) fits l)
