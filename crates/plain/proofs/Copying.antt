-- How bytes are copied to the front of a row: what holds on the way, and what that gives at the end.
use Rattle.std.proofs.Common.{
  ◌≡◌,
  ℕ,
  suc,
  ◌+◌,
  ◌-◌,
  ◌<◌,
  ◌≤◌,
  List,
  [],
  ◌∷◌,
  ◌++◌,
  length,
  get_or,
  take,
  drop,
  set,
  sym,
  ap,
  ◌∙◌,
  add-one,
  arith,
  length-append,
  length-drop,
  drop_of_length-le,
  length-take-le,
  take_all,
  drop-cons,
  take-suc,
}
use mathlib.Core.List.{head-eq_of_cons-eq, tail-eq_of_cons-eq}
use lib.Seq.{set_at, append_snoc}
use Rattle.plain.specs.Plain.{fitting, copied}

-- n bytes of s are in front of the row, rest is what is left of s
pub record Copying (s row out : List ℕ) (n : ℕ) (rest : List ℕ) : Type 0 where
  pub room : n ≤ length row
  pub had : n ≤ length s
  pub left : drop n s ≡ rest
  pub made : out ≡ take n s ++ drop n row

module _ {s row out rest : List ℕ} {n : ℕ} (c : Copying s row out n rest) where
  pub copying_length : length out ≡ length row
  copying_length =
      let l = length-take-le n s c.had in
      ap length c.made ∙ simp (length-append, length-drop) (omega (arith, c.room))

  -- all of s is there
  pub copying_end : rest ≡ [] → (n ≡ fitting s row) × (out ≡ copied s row)
  unfolding copied
  copying_end p =
      let l : length s - n ≡ 0 = sym (length-drop n s) ∙ ap length (c.left ∙ p) in
      let m : n ≡ length s = omega (arith, c.had) in
      let r : length s ≤ length row = omega (arith, c.room) in
      let k : length s ≤ n = omega arith in
      (omega arith, c.made ∙ rw (take_all n s k, take_all (length row) s r, m))

  -- the row is full
  pub copying_full : length out ≤ n → (n ≡ fitting s row) × (out ≡ copied s row)
  unfolding copied
  copying_full h =
      let m : n ≡ length row = omega (arith, copying_length, c.room) in
      let k : length row ≤ n = omega arith in
      let l : length row ≤ length s = omega (arith, c.had) in
      (omega (arith, c.had), c.made ∙ rw (drop_of_length-le row k, drop_of_length-le row l, m))

  pub copying_more : (x : ℕ) (t : List ℕ) → rest ≡ x ∷ t → n < length out → Copying s row (set out n x) (n + 1) t
  copying_more x t p h =
      let q : drop n s ≡ x ∷ t = c.left ∙ p in
      let l : length s - n ≡ suc (length t) = sym (length-drop n s) ∙ ap length q in
      let k : n < length s = omega arith in
      let r : n < length row = omega (arith, copying_length) in
      let w : get_or s n 0 ∷ drop (suc n) s ≡ x ∷ t = sym (drop-cons s n 0 k) ∙ q in
      record {
        room = omega arith;
        had = omega arith;
        left = rw (add-one n) (tail-eq_of_cons-eq w);
        made =
            ap (λ (o : List ℕ). set o n x) c.made
            ∙ rw (
              drop-cons row n 0 r,
              set_at (take n s) (get_or row n 0) (drop (suc n) row) x n (length-take-le n s c.had),
              add-one n,
              take-suc s n 0 k,
              head-eq_of_cons-eq w,
            )
            (sym (append_snoc (take n s) x (drop (suc n) row)));
      }
