-- What the code needs of the tables: their sizes, that each row has an arm, and that a digit of a row's word is a field of the row.
use Prim.Native.Nat.{ℕ, zero, suc, ◌≤◌, ◌<◌}
use mathlib.Core.Path.{◌≡◌, refl, sym, ◌∙◌, ap, subst}
use mathlib.Core.List.{List}
use native.Mathlib.Omega.{arith}
use lib.ListN.{length, get_or}
use lib.Dec.{lit≤}
use Rattle.guide.specs.Nodes.{Guide, nobody, node}
use Rattle.guide.specs.Pricat.{pricat20d, pricat20c}
use Rattle.guide.specs.declared.edition.Edition.{Edition}
use Rattle.guide.specs.declared.edition.Edition.TheVariants.{D, C}
use Rattle.guide.specs.Editions.{guide_of}
use Rattle.guide.specs.workers.Columns.{values}
use Rattle.guide.proofs.tables.Columns.{value}
use Rattle.judge.specs.workers.Rows.{codes_of}

-- every table has fewer rows than there are counts
pub table_fits : (e : Edition) → length (guide_of e) ≤ 96
unfolding pricat20d pricat20c
table_fits D = lit≤ tt
table_fits C = lit≤ tt

-- the message has no parent
pub root-parent : (e : Edition) → (node (guide_of e) 0).parent ≡ nobody
unfolding pricat20d pricat20c
root-parent D = refl
root-parent C = refl

-- a digit of a row's word is a field of the row, where it is so, computed, in all rows of both tables
module _ (word field : Guide → ℕ → ℕ) (digit : ℕ → ℕ) where
  abbrev Right : Guide → Type 0
  Right g = values (λ (n : ℕ). digit (word g n)) 0 (length g) ≡ values (field g) 0 (length g)

  right-at : (g : Guide) → Right g → (n : ℕ) → n < length g → digit (word g n) ≡ field g n
  right-at g q n row = sym (value (λ (m : ℕ). digit (word g m)) (length g) n row) ∙ ap (λ (xs : List ℕ). get_or xs n 0) q ∙ value (field g) (length g) n row

  pub digit_at
      : Right pricat20d → Right pricat20c → (e : Edition) (n : ℕ) → n < length (guide_of e) → (w : ℕ) → w ≡ word (guide_of e) n
      → digit w ≡ field (guide_of e) n
  digit_at p q D n row w h = ap digit h ∙ right-at pricat20d p n row
  digit_at p q C n row w h = ap digit h ∙ right-at pricat20c q n row

-- a number that is none of the first k is k or more
abbrev pub Differs : ℕ → ℕ → Type 0
Differs i zero = Unit {0}
Differs i (suc k) = Differs i k × (i ≡ k → ⊥)

pub differs-past : (i k : ℕ) → Differs i k → k ≤ i
differs-past i zero d = omega arith
differs-past i (suc k) d =
    let l = differs-past i k d.0 in
    let z : i ≡ k → ⊥ = d.1 in
    omega arith

-- a row's place in the table of its own edition
pub row_in : (e f : Edition) → e ≡ f → (n : ℕ) → n < length (guide_of e) → n < length (guide_of f)
row_in e f q n row = subst (λ (x : Edition). n < length (guide_of x)) q row

pub code_in : (e f : Edition) → e ≡ f → (j : ℕ) → j < length (codes_of (guide_of e)) → j < length (codes_of (guide_of f))
code_in e f q j inside = subst (λ (x : Edition). j < length (codes_of (guide_of x))) q inside
