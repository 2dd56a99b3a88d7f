-- Laws of the counts: the children of a node are cleared one by one, and nothing else.
use Prim.Native.Nat.{ℕ, zero, suc, ◌+◌, ◌-◌, ◌^◌, ◌≤◌, ◌<◌}
use mathlib.Core.Path.{◌≡◌, refl, sym, ◌∙◌, ap}
use mathlib.Core.Bool.{Bool, true, false, not, ◌&&◌, and-true, and-false}
use mathlib.Core.List.{List, [], ◌∷◌}
use native.Mathlib.Omega.{arith}
use native.Mathlib.Nat.{add-zero}
use native.Mathlib.Numerals.{add-one}
use lib.ListN.{length, get_or, set, length-set, get_or-eq_default}
use lib.Seq.{ext_get_or, get_or-set_same, get_or-set_other}
use lib.Dec.{eqb, ltb}
use lib.Bits.{bit_and}
use lib.Count.{count_trailing_zeros}
use borrow.Author.Tests.{ne_eqb, eqb-true, eqb-false, lt-ltb, ltb-true, ltb-false}
use Rattle.guide.specs.Nodes.{Guide, nobody, node}
use Rattle.guide.specs.workers.Placing.{recount, recounted}
use Rattle.guide.specs.Choices.{pickℕ}
use Rattle.guide.specs.declared.edition.Edition.{Edition}
use Rattle.guide.specs.Editions.{guide_of}
use Rattle.guide.proofs.placing.Recounting.{recounted-tally, recounted-length}
use Rattle.judge.specs.workers.Rows.{child_of}
use Rattle.judge.specs.workers.Sets.{member, children_of}
use Rattle.judge.specs.workers.Searches.{cleared}
use Rattle.judge.proofs.rows.Tables.{table_fits, root-parent}
use Rattle.judge.proofs.lacking.Links.{pick-none, child-inside}
use Rattle.judge.proofs.sets.Members.{member-none, first_member, rest-member, rest_less, nodes_member}

-- in the set of the children of n are just these
children_are : (g : Guide) (n i : ℕ) → n < nobody → (node g 0).parent ≡ nobody → member (children_of g n) i ≡ child_of g n i
unfolding children_of
children_are g n i known root = nodes_member g (child_of g n) i ∙ go (child_of g n i) refl
  where
    some : child_of g n i ≡ true → 0 < i
    some t = above i t
      where
        above : (i : ℕ) → child_of g n i ≡ true → 0 < i
        above zero q = absurd (omega (arith, root, known, eqb-true (node g 0).parent n q))
        above (suc i) q = omega arith

    go : (b : Bool) → child_of g n i ≡ b → ltb i (length g) && (ltb 0 i && b) ≡ b
    go true t = rw (lt-ltb i (length g) (child-inside g n i known t), lt-ltb 0 i (some t))
    go false t = rw (and-false (ltb 0 i)) (and-false (ltb i (length g)))

-- the nodes s are still to be cleared in the counts cs: cleared, they give what the counts cs₀ give when all nodes s₀ are
pub record Clearing (s₀ : ℕ) (cs₀ cs : List ℕ) (s : ℕ) : Type 0 where
  pub fits : s < 2 ^ 32
  pub size : length cs ≡ length cs₀
  pub rest : (i : ℕ) → pickℕ (member s i) 0 (get_or cs i 0) ≡ pickℕ (member s₀ i) 0 (get_or cs₀ i 0)

pub clear-begins : (s : ℕ) (cs : List ℕ) → s < 2 ^ 32 → Clearing s cs cs s
clear-begins s cs h = record { fits = h; size = refl; rest = λ i. refl }

-- the counts one by one
length-cleared : (s m : ℕ) (cs : List ℕ) → length (cleared s m cs) ≡ length cs
unfolding cleared
length-cleared s m [] = refl
length-cleared s m (c ∷ cs) = ap suc (length-cleared s (suc m) cs)

cleared_at : (s m : ℕ) (cs : List ℕ) (i : ℕ) → i < length cs → get_or (cleared s m cs) i 0 ≡ pickℕ (member s (m + i)) 0 (get_or cs i 0)
unfolding cleared
cleared_at s m [] i h = absurd (omega arith)
cleared_at s m (c ∷ cs) zero h = ap (λ (j : ℕ). pickℕ (member s j) 0 c) (sym (add-zero m))
cleared_at s m (c ∷ cs) (suc i) h =
    let z : suc m + i ≡ m + suc i = omega arith in
    cleared_at s (suc m) cs i (omega arith) ∙ ap (λ (j : ℕ). pickℕ (member s j) 0 (get_or cs i 0)) z

-- a place that is cleared, in the row or past its end, is 0
set-zero : (cs : List ℕ) (m : ℕ) → get_or (set cs m 0) m 0 ≡ 0
set-zero cs m = go (ltb m (length cs)) refl
  where
    go : (b : Bool) → ltb m (length cs) ≡ b → get_or (set cs m 0) m 0 ≡ 0
    go true e = get_or-set_same cs m 0 0 (ltb-true m (length cs) e)
    go false e =
        let l : length (set cs m 0) ≤ m = rw (length-set cs m 0) (ltb-false m (length cs) e) in
        get_or-eq_default (set cs m 0) 0 l

module _ {s₀ : ℕ} {cs₀ cs : List ℕ} {s : ℕ} (w : Clearing s₀ cs₀ cs s) where
  pub clear_end : s ≡ 0 → cs ≡ cleared s₀ 0 cs₀
  clear_end h =
      ext_get_or 0 cs (cleared s₀ 0 cs₀) (w.size ∙ sym (length-cleared s₀ 0 cs₀))
      (λ i l.
      let none : member s i ≡ false = rw h (member-none i) in
      let z : 0 + i ≡ i = omega arith in
      let k : i < length cs₀ = omega (arith, w.size) in
      sym (ap (λ (b : Bool). pickℕ b 0 (get_or cs i 0)) none) ∙ w.rest i
      ∙ sym (cleared_at s₀ 0 cs₀ i k ∙ ap (λ (j : ℕ). pickℕ (member s₀ j) 0 (get_or cs₀ i 0)) z))

  -- m is the lowest of the set
  module _ (some : s ≡ 0 → ⊥) (m : ℕ) (first : m ≡ count_trailing_zeros 32 s) (out : ℕ) (less : out ≡ bit_and s (s - 1)) where
    first-in : member s m ≡ true
    first-in = rw first (first_member 32 s w.fits some)

    clear-rest : (i : ℕ) → pickℕ (member out i) 0 (get_or (set cs m 0) i 0) ≡ pickℕ (member s₀ i) 0 (get_or cs₀ i 0)
    clear-rest i = go (eqb i m) refl
      where
        rest_in : member out i ≡ member s i && not (eqb i m)
        rest_in = rw (less, first) (rest-member 32 s i w.fits some)

        go : (b : Bool) → eqb i m ≡ b → pickℕ (member out i) 0 (get_or (set cs m 0) i 0) ≡ pickℕ (member s₀ i) 0 (get_or cs₀ i 0)
        go true e =
            let q : i ≡ m = eqb-true i m e in
            let z : pickℕ (member s₀ m) 0 (get_or cs₀ m 0) ≡ 0 = sym (w.rest m) ∙ rw first-in in
            rw (q, set-zero cs m, z) (pick-none (member out m))
        go false e = rw (get_or-set_other cs m i 0 0 (eqb-false i m e), rest_in, e, and-true (member s i)) (w.rest i)

    pub clear_next : Clearing s₀ cs₀ (set cs m 0) out
    clear_next = record { fits = omega (arith, less, rest_less s some, w.fits); size = length-set cs m 0 ∙ w.size; rest = clear-rest }

-- an instance of n begins: one more of n, and none of its children
module _ (e : Edition) (n : ℕ) (cs : List ℕ) (s : ℕ) (row : n < length (guide_of e)) (lower : (node (guide_of e) n).parent < n)
    (set-of : s ≡ children_of (guide_of e) n) where
  are : (i : ℕ) → member s i ≡ child_of (guide_of e) n i
  are i = ap (λ (x : ℕ). member x i) set-of ∙ children_are (guide_of e) n i (omega (arith, table_fits e)) (root-parent e)

  entered_at
      : (i : ℕ) → i < length cs
      → pickℕ (child_of (guide_of e) n i) 0 (get_or (set cs n (get_or cs n 0 + 1)) i 0) ≡ recount (guide_of e) n i (get_or cs i 0)
  entered_at i l = go (eqb i n) refl
    where
      go
          : (b : Bool) → eqb i n ≡ b
          → pickℕ (child_of (guide_of e) n i) 0 (get_or (set cs n (get_or cs n 0 + 1)) i 0)
          ≡ pickℕ b (suc (get_or cs i 0)) (pickℕ (child_of (guide_of e) n i) 0 (get_or cs i 0))
      go true q =
          let k : i ≡ n = eqb-true i n q in
          let inside : n < length cs = omega arith in
          let t : child_of (guide_of e) n n ≡ false = ne_eqb (node (guide_of e) n).parent n (λ (z : (node (guide_of e) n).parent ≡ n). omega arith) in
          rw (k, get_or-set_same cs n (get_or cs n 0 + 1) 0 inside, t) (add-one (get_or cs n 0))
      go false q = rw (get_or-set_other cs n i (get_or cs n 0 + 1) 0 (eqb-false i n q))

  pub entered : (out : List ℕ) → out ≡ cleared s 0 (set cs n (get_or cs n 0 + 1)) → out ≡ recounted (guide_of e) n cs
  entered out h =
      let after = set cs n (get_or cs n 0 + 1) in
      let size : length after ≡ length cs = length-set cs n (get_or cs n 0 + 1) in
      h
      ∙ ext_get_or 0 (cleared s 0 after) (recounted (guide_of e) n cs) (length-cleared s 0 after ∙ size ∙ sym (recounted-length (guide_of e) n cs))
      (λ i l.
      let k : i < length after = omega (arith, length-cleared s 0 after) in
      let j : i < length cs = omega arith in
      let z : 0 + i ≡ i = omega arith in
      cleared_at s 0 after i k ∙ ap (λ (b : Bool). pickℕ b 0 (get_or after i 0)) (ap (member s) z ∙ are i) ∙ entered_at i j
      ∙ sym (recounted-tally (guide_of e) n i cs j))
