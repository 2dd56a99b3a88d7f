-- One price into the row.
use Prim.Native.Nat.{ℕ, ◌+◌, ◌-◌, ◌*◌, ◌/◌, ◌≤◌, ◌<◌}
use mathlib.Core.Path.{◌≡◌, refl, sym, ap, ◌∙◌}
use mathlib.Core.List.{List, ◌++◌, append_assoc}
use native.Mathlib.Omega.{arith}
use lib.ListN.{length, take, drop}
use lib.Seq.{drop-drop}
use borrow.Rule.Slice.PartMut.{put_mid}
use lib.IntN.{ℤ}
use borrow.Author.Tests.{lt-ltb, le-ltb, le-leb, lt-leb}
use Rattle.price.specs.declared.kinds.Kind.{Kind}
use Rattle.price.specs.declared.kinds.Kind.TheVariants.{Lin, Pri, Rng, Other}
use Rattle.price.specs.declared.numbers.Numbers.{Numbers}
use Rattle.price.specs.Rows.{eight}
use Rattle.price.specs.workers.Parts.{put_row, put_found}

-- eight numbers in the place of those that stand there
pub row_put
    : (l : List ℤ) (n : ℕ) (p : Numbers) (ns : List ℤ) → n < length l / 8 → ns ≡ eight p
    → put_mid (n * 8) (n * 8 + 8 - n * 8) l ns ≡ put_row l n p
unfolding put_row
row_put l n p ns k h =
    let z : n * 8 + 8 - n * 8 ≡ 8 = omega arith in
    rw (z, h, lt-ltb n (length l / 8) k)
    (ap (λ (r : List ℤ). take (n * 8) l ++ (eight p ++ r)) (drop-drop 8 (n * 8) l)
    ∙ sym (append_assoc (take (n * 8) l) (eight p) (drop (n * 8 + 8) l)))

-- a segment that gives no price, a price before the k-th, one that does not fit, and one that does
module _ (kind : Kind) (k seen : ℕ) (p : Numbers) (row : List ℤ) where
  pub put_other : ¬ (kind ≡ Pri) → row ≡ put_found kind k seen p row
  unfolding put_found
  put_other f = go kind f
    where
      go : (x : Kind) → ¬ (x ≡ Pri) → row ≡ put_found x k seen p row
      go Pri h = absurd (h refl)
      go Lin h = refl
      go Rng h = refl
      go Other h = refl

  module _ (t : kind ≡ Pri) where
    pub put_early : seen < k → row ≡ put_found kind k seen p row
    unfolding put_found
    put_early h = rw (t, lt-leb k seen h)

    pub put_full : k ≤ seen → length row / 8 ≤ seen - k → row ≡ put_found kind k seen p row
    unfolding put_found put_row
    put_full l h = rw (t, le-leb k seen l, le-ltb (seen - k) (length row / 8) h)

    pub put-here : (p' : Numbers) (row' : List ℤ) → k ≤ seen → row' ≡ put_row row (seen - k) p' → p' ≡ p → row' ≡ put_found kind k seen p row
    unfolding put_found
    put-here p' row' l h e = rw (t, le-leb k seen l, ← e) h
