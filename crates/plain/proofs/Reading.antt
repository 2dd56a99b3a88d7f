-- What a step over literal bytes takes off what is left of a part, and that no more is left than stands there.
use Rattle.std.proofs.Common.{◌≡◌, ℕ, ◌≤◌, ◌<◌, true, false, List, [], ◌∷◌, length, ◌+◌, arith, ◌⊎◌, inl, inr, refl, ◌∙◌, sym, min}
use Rattle.std.specs.Prelude.{Option, Some, None, MatchOption, slice_range}
use Rattle.std.specs.Option.{unwrap_or}
use Rattle.std.specs.Borrow.{Bor}
use Rattle.cut.specs.declared.service.Syntax.{Syntax}
use Rattle.cut.specs.Segments.{frees}
use Rattle.bytewise.specs.Bytes.{part}
use Rattle.plain.specs.Plain.{plain, decoded}
use Rattle.plain.proofs.Decoding.{plain_byte, plain_released, plain-last, decoded-none, decoded_limited}

-- the part as `get` gives it, or nothing where it gives none
pub left-whole
    : (y : Syntax) (d : List ℕ) (a e m : ℕ) → m ≡ min e (length d) → (o : Option (Bor (List ℕ))) (none : Bor (List ℕ)) → none.now ≡ []
    → MatchOption o ((m < a) ⊎ (length d < m)) (λ s. (a ≤ m) × (m ≤ length d) × (s.now ≡ slice_range d a m) × (length s.now + a ≡ m))
    → (r : Bor (List ℕ)) → r ≡ unwrap_or o none → plain y false r.now ≡ decoded y a e d
unfolding decoded part plain
left-whole y d a e m lim None none n (inl h) r q =
    rw (q, n) (sym (decoded-none y d a m (omega arith)) ∙ decoded_limited y d a e m lim)
left-whole y d a e m lim None none n (inr h) r q = absurd (omega arith)
left-whole y d a e m lim (Some s) none n h r q = rw (q, h.2) (decoded_limited y d a e m lim)

module _ (y : Syntax) (s : List ℕ) where
  pub left-none : length s ≡ 0 → plain y false s ≡ []
  unfolding plain
  left-none h = none s h
    where
      none : (t : List ℕ) → length t ≡ 0 → plain y false t ≡ []
      none [] h = refl
      none (x ∷ xs) h = absurd (omega arith)

  module _ (x : ℕ) (behind : List ℕ) (e : s ≡ x ∷ behind) where
    pub left-byte : frees y false x ≡ false → plain y false s ≡ x ∷ plain y false behind
    left-byte h = rw e (plain_byte y x behind h)

    pub left-released : (z : ℕ) (after : List ℕ) → behind ≡ z ∷ after → frees y false x ≡ true → plain y false s ≡ z ∷ plain y false after
    left-released z after f h = rw (e, f) (plain_released y x z after h)

    pub left-mark : length behind ≡ 0 → frees y false x ≡ true → plain y false s ≡ []
    left-mark n h = rw e (last behind n)
      where
        last : (t : List ℕ) → length t ≡ 0 → plain y false (x ∷ t) ≡ []
        last [] n = plain-last y x h
        last (z ∷ zs) n = absurd (omega arith)
