-- Laws of a node's tag: past the table's end there is none, equal numbers are equal tags, and each is letters.
use Prim.Native.Nat.{ℕ, zero, suc, ◌-◌, ◌≤◌, ◌<◌}
use mathlib.Core.Path.{◌≡◌, refl, sym, ◌∙◌, ap, ap₂, subst}
use mathlib.Core.Bool.{Bool, true, false, true≢false}
use mathlib.Core.List.{List, [], ◌∷◌}
use native.Mathlib.Omega.{arith}
use lib.ListN.{length, take, get_or-eq_default}
use lib.Seq.{take_all}
use lib.Dec.{T, eqb, eqb→eq}
use lib.Bits.{bit_and, and_le_r}
use borrow.Author.Tests.{ne_eqb}
use Rattle.plain.specs.Plain.{same}
use Rattle.guide.specs.Nodes.{message, node}
use Rattle.guide.specs.Pricat.{pricat20d, pricat20c}
use Rattle.guide.specs.Sheet.{is_tag}
use Rattle.guide.specs.workers.Checks.{every}
use Rattle.guide.proofs.Basics.{every-at, true-T, or_cases}
use Rattle.guide.specs.declared.edition.Edition.{Edition}
use Rattle.guide.specs.declared.edition.Edition.TheVariants.{D, C}
use Rattle.guide.specs.Editions.{guide_of}
use Rattle.judge.specs.workers.Words.{packed, holds, letters, Bytes}
use Rattle.judge.specs.workers.Sets.{tagged_of}
use Rattle.judge.proofs.sets.Members.{nodes_none}
use Rattle.judge.proofs.rows.Sound.{sound-at}
use Rattle.plain.proofs.Packing.{packed-same}

-- the message has no tag
root-bare : (e : Edition) → (node (guide_of e) 0).tag ≡ []
unfolding pricat20d pricat20c
root-bare D = refl
root-bare C = refl

none-bytes : Bytes []
none-bytes i = omega arith

tag-bytes : (e : Edition) (n : ℕ) → n < length (guide_of e) → Bytes (node (guide_of e) n).tag
tag-bytes e zero h = rw (root-bare e) none-bytes
tag-bytes e (suc n) h = (sound-at e (suc n) (omega arith) h).tag

module _ (e : Edition) (n : ℕ) (tag : List ℕ) (three : length tag ≡ 3) where
  pub tag-past : length (guide_of e) ≤ n → false ≡ is_tag (guide_of e) tag n
  unfolding is_tag same
  tag-past h = rw (get_or-eq_default (guide_of e) message h) (go tag three)
    where
      go : (t : List ℕ) → length t ≡ 3 → false ≡ same [] t
      go [] k = absurd (omega arith)
      go (x ∷ xs) k = refl

  pub tag_same
      : n < length (guide_of e) → Bytes tag → (t w : ℕ) → t ≡ packed (node (guide_of e) n).tag → w ≡ packed (take 3 tag)
      → eqb t w ≡ is_tag (guide_of e) tag n
  unfolding is_tag
  tag_same h k t w p q =
      let all : take 3 tag ≡ tag = take_all 3 tag (omega arith) in
      ap₂ eqb p (q ∙ ap packed all) ∙ packed-same _ _ (tag-bytes e n h) k

-- the tags of all nodes, as numbers
abbrev tags : List ℕ
tags =
    0x1544e55
    ∷ 0x1474e52
    ∷ 0x1495250
    ∷ 0x1444d49
    ∷ 0x1414950
    ∷ 0x14e494c
    ∷ 0x1494750
    ∷ 0x1585543
    ∷ 0x14d4f43
    ∷ 0x1415443
    ∷ 0x1434f4c
    ∷ 0x144414e
    ∷ 0x1464652
    ∷ 0x14d5444
    ∷ 0x14d4742
    ∷ 0x1484e55
    ∷ []

-- a number that is none of some, the first of them last
abbrev NoneOf : ℕ → List ℕ → Type 0
NoneOf t [] = Unit {0}
NoneOf t (x ∷ xs) = NoneOf t xs × (t ≡ x → ⊥)

none-holds : (t : ℕ) (xs : List ℕ) → NoneOf t xs → T (holds t xs) → ⊥
unfolding holds
none-holds t [] d h = h
none-holds t (y ∷ ys) d h = or_cases (eqb t y) (holds t ys) (λ q. d.1 (eqb→eq t y q)) (λ q. none-holds t ys d.0 q) h

-- a test that the tags of all nodes pass, computed, and the number t does not: no node has this tag
module _ (e : Edition) (test : ℕ → Bool) (all : T (every (λ k. test (packed (node (guide_of e) (suc k)).tag)) (length (guide_of e) - 1))) (t : ℕ) where
  tag_failing : (T (test t) → ⊥) → tagged_of (guide_of e) t ≡ 0
  unfolding tagged_of
  tag_failing fails = nodes_none (guide_of e) _ go
    where
      go : (n : ℕ) → 0 < n → n < length (guide_of e) → eqb (packed (node (guide_of e) n).tag) t ≡ false
      go zero h l = absurd (omega arith)
      go (suc n) h l =
          ne_eqb _ t
          (λ z.
          fails
          (subst (λ (x : ℕ). T (test x)) z
          (every-at (λ k. test (packed (node (guide_of e) (suc k)).tag)) (length (guide_of e) - 1) n all (omega arith))))

tags_told : (e : Edition) → T (every (λ k. holds (packed (node (guide_of e) (suc k)).tag) tags) (length (guide_of e) - 1))
unfolding pricat20d pricat20c every holds packed
tags_told D = tt
tags_told C = tt

-- no node has a tag that is none of these
pub tag-other : (e : Edition) (t : ℕ) → NoneOf t tags → 0 ≡ tagged_of (guide_of e) t
tag-other e t d = sym (tag_failing e (λ x. holds x tags) (tags_told e) t (none-holds t tags d))

letters_told : (e : Edition) → T (every (λ k. letters (packed (node (guide_of e) (suc k)).tag)) (length (guide_of e) - 1))
unfolding pricat20d pricat20c every letters packed
letters_told D = tt
letters_told C = tt

-- a tag that some nodes have is letters
pub tag-letters : (e : Edition) (f s t w : ℕ) → s ≡ tagged_of (guide_of e) t → t ≡ w → (bit_and f s ≡ 0 → ⊥) → letters w ≡ true
tag-letters e f s t w p q some = rw (sym q) (go (letters t) refl)
  where
    go : (b : Bool) → letters t ≡ b → b ≡ true
    go true h = refl
    go false h =
        let z = p ∙ tag_failing e letters (letters_told e) t (λ k. true≢false (sym (true-T _ k) ∙ h)) in
        absurd (some (omega (arith, and_le_r f s, z)))
