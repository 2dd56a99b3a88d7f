-- Laws of the codes of all rows: where a row's own stand among them, and the search through a part.
use Prim.Native.Nat.{ℕ, zero, suc, ◌+◌, ◌-◌, ◌≤◌, ◌<◌}
use mathlib.Core.Path.{◌≡◌, sym, ap}
use mathlib.Core.Bool.{Bool, true, false, ◌&&◌}
use mathlib.Core.List.{List, [], ◌∷◌, ◌++◌, map}
use native.Mathlib.Omega.{arith}
use lib.ListN.{length, get_or, take, drop, length-append, length-map}
use lib.Seq.{take_at, drop-append-add}
use lib.Dec.{T, eqb, ltb, eqb→eq, lit≤}
use borrow.Author.Tests.{eq-eqb, ne_eqb, lt-ltb}
use Rattle.bytewise.specs.Bytes.{part}
use Rattle.bytewise.proofs.Parts.{part_none, part-next}
use Rattle.guide.specs.Nodes.{Guide, node}
use Rattle.guide.specs.workers.Checks.{every, implies}
use Rattle.guide.proofs.Basics.{T_true, every-at, implied, and_left, and_right}
use Rattle.guide.specs.Pricat.{pricat20d, pricat20c}
use Rattle.guide.specs.declared.edition.Edition.{Edition}
use Rattle.guide.specs.declared.edition.Edition.TheVariants.{D, C}
use Rattle.guide.specs.Editions.{guide_of}
use Rattle.judge.specs.workers.Words.{packed, holds}
use Rattle.judge.specs.workers.Rows.{codes_of}

pub codes_fit : (e : Edition) → length (codes_of (guide_of e)) ≤ 4096
unfolding pricat20d pricat20c codes_of
codes_fit D = lit≤ tt
codes_fit C = lit≤ tt

-- where the codes of row n begin, and how many they are
abbrev pub from : Guide → ℕ → ℕ
from g n = length (codes_of (take n g))

abbrev pub many : Guide → ℕ → ℕ
many g n = length (node g n).selector.codes

pub codes-inside : (g : Guide) (n : ℕ) → n < length g → from g n + many g n ≤ length (codes_of g)
unfolding codes_of
codes-inside [] n h = absurd (omega arith)
codes-inside (x ∷ xs) zero h = simp (length-append, length-map) (omega arith)
codes-inside (x ∷ xs) (suc n) h =
    let l = codes-inside xs n (omega arith) in
    simp length-append (omega arith)

row-codes : (g : Guide) (n : ℕ) → n < length g → take (many g n) (drop (from g n) (codes_of g)) ≡ map packed (node g n).selector.codes
unfolding codes_of
row-codes [] n h = absurd (omega arith)
row-codes (x ∷ xs) zero h = take_at (map packed x.selector.codes) (codes_of xs) (many (x ∷ xs) 0) (length-map x.selector.codes packed)
row-codes (x ∷ xs) (suc n) h =
    let a = map packed x.selector.codes in
    let l : length (a ++ codes_of (take n xs)) ≡ length a + from xs n = length-append a (codes_of (take n xs)) in
    rw (l, drop-append-add a (codes_of xs) (from xs n)) (row-codes xs n (omega arith))

module _ (g : Guide) (n key : ℕ) where
  pub search_begins
      : (j end : ℕ) → n < length g → j ≡ from g n → end ≡ j + many g n → holds key (part j end (codes_of g))
      ≡ holds key (map packed (node g n).selector.codes)
  unfolding part
  search_begins j end h a b =
      let m : end - j ≡ many g n = omega arith in
      rw (m, a) (ap (holds key) (row-codes g n h))

module _ (codes : List ℕ) (key j end : ℕ) where
  pub search_found : j < end → end ≤ length codes → get_or codes j 0 ≡ key → holds key (part j end codes) ≡ true
  unfolding holds
  search_found h l e = rw (part-next codes j end h l, eq-eqb _ _ (sym e))

  pub search_next : j < end → end ≤ length codes → (get_or codes j 0 ≡ key → ⊥) → holds key (part j end codes) ≡ holds key (part (j + 1) end codes)
  unfolding holds
  search_next h l e = rw (part-next codes j end h l, ne_eqb key _ (λ z. e (sym z)))

  pub search_out : end ≤ j → holds key (part j end codes) ≡ false
  unfolding holds
  search_out h = rw (part_none codes j end h)

-- all rows that have codes have them in component 0 of element 1
abbrev in_front : Guide → ℕ → Bool
in_front g n = implies (ltb 0 (many g n)) (eqb 1 (node g n).selector.element && eqb 0 (node g n).selector.component)

front-table : (e : Edition) → T (every (in_front (guide_of e)) (length (guide_of e)))
unfolding pricat20d pricat20c every
front-table D = tt
front-table C = tt

pub code-place
    : (e : Edition) (n : ℕ) → n < length (guide_of e) → (many (guide_of e) n ≡ 0 → ⊥)
    → (1 ≡ (node (guide_of e) n).selector.element) × (0 ≡ (node (guide_of e) n).selector.component)
code-place e n row some =
    let one = every-at (in_front (guide_of e)) (length (guide_of e)) n (front-table e) row in
    let k = implied (ltb 0 (many (guide_of e) n)) _ one (T_true (lt-ltb 0 (many (guide_of e) n) (omega (arith, some)))) in
    let first = eqb 1 (node (guide_of e) n).selector.element in
    (eqb→eq _ _ (and_left first _ k), eqb→eq _ _ (and_right first _ k))
