-- Laws of the open levels: both searches over the list of levels, as walks from a node to its parent.
use Prim.Native.Nat.{ℕ, zero, suc, ◌-◌, ◌≤◌, ◌<◌}
use mathlib.Core.Path.{◌≡◌, refl, ap}
use mathlib.Core.Bool.{Bool, true, false, and-false, cond}
use mathlib.Core.List.{List, [], ◌∷◌}
use native.Mathlib.Omega.{arith}
use lib.ListN.{length, get_or-eq_default}
use lib.Dec.{eqb, ltb}
use borrow.Author.Tests.{eq-eqb, ne_eqb, eqb-false, ltb-true, ltb-false}
use Rattle.guide.specs.Nodes.{View, message, node, matches}
use Rattle.guide.specs.workers.Placing.{Level, level, levels, fits_in, seek}
use Rattle.guide.specs.Choices.{or_else}
use Rattle.guide.specs.declared.edition.Edition.{Edition}
use Rattle.guide.specs.Editions.{guide_of}
use Rattle.judge.specs.workers.Rows.{child_of}
use Rattle.judge.specs.workers.Sets.{some_level}
use Rattle.judge.proofs.rows.Sound.{sound-at}
use Rattle.judge.proofs.rows.Tables.{table_fits}
use Rattle.judge.proofs.lacking.Links.{lowest-none}

pub or_else-some : (a b : ℕ) → (a ≡ 0 → ⊥) → or_else a b ≡ a
or_else-some zero b h = absurd (h refl)
or_else-some (suc a) b h = refl

module _ (e : Edition) where
  pub parent_lower : (p : ℕ) → (p ≡ 0 → ⊥) → p < length (guide_of e) → (node (guide_of e) p).parent < p
  parent_lower p h l = (sound-at e p (omega arith) l).lower

  -- the levels from a node of the table end at the message, however many are asked for
  levels_end : (k j p c : ℕ) → p ≤ k → p ≤ j → p < length (guide_of e) → levels (guide_of e) (suc k) p c ≡ levels (guide_of e) (suc j) p c
  unfolding levels
  levels_end zero j p c a b l =
      let z : p ≡ 0 = omega arith in
      rw (eq-eqb p 0 z)
  levels_end (suc k) j p c a b l = go (eqb p 0) refl j b (levels_end k)
    where
      go
          : (t : Bool) → eqb p 0 ≡ t → (j : ℕ) → p ≤ j
          → ((i q c : ℕ) → q ≤ k → q ≤ i → q < length (guide_of e) → levels (guide_of e) (suc k) q c ≡ levels (guide_of e) (suc i) q c)
          → ◌≡◌ {A = List Level}
          (record { node = p; reached = c } ∷ cond t [] (levels (guide_of e) (suc k) (node (guide_of e) p).parent (node (guide_of e) p).counter))
          (record { node = p; reached = c } ∷ cond t [] (levels (guide_of e) j (node (guide_of e) p).parent (node (guide_of e) p).counter))
      go true q j b ih = refl
      go false q zero b ih = absurd (eqb-false p 0 q (omega arith))
      go false q (suc i) b ih =
          let r = parent_lower p (eqb-false p 0 q) l in
          ap (λ (ls : List Level). record { node = p; reached = c } ∷ ls)
          (ih i (node (guide_of e) p).parent (node (guide_of e) p).counter (omega arith) (omega arith) (omega arith))

  -- the levels from p outward: p, and then those from its parent
  pub levels_up
      : (p c : ℕ) → (p ≡ 0 → ⊥) → p < length (guide_of e)
      → levels (guide_of e) (suc p) p c
      ≡ record { node = p; reached = c } ∷ levels (guide_of e) (suc (node (guide_of e) p).parent) (node (guide_of e) p).parent (node (guide_of e) p).counter
  unfolding levels
  levels_up zero c h l = absurd (h refl)
  levels_up (suc p) c h l =
      let r = parent_lower (suc p) h l in
      rw (ne_eqb (suc p) 0 h)
      (ap (λ (ls : List Level). record { node = suc p; reached = c } ∷ ls)
      (levels_end p (node (guide_of e) (suc p)).parent (node (guide_of e) (suc p)).parent (node (guide_of e) (suc p)).counter (omega arith) (omega arith)
      (omega arith)))

  -- the message is the last
  pub levels-root : (p c : ℕ) → p ≡ 0 → levels (guide_of e) (suc p) p c ≡ record { node = p; reached = c } ∷ []
  unfolding levels
  levels-root p c h = rw (eq-eqb p 0 h)

module _ (e : Edition) (v : View) where
  -- no node is a child of one that the table does not have
  fits-nowhere : (p c m : ℕ) → length (guide_of e) ≤ p → 1 ≤ m → fits_in (guide_of e) v p c m ≡ false
  unfolding fits_in matches
  fits-nowhere p c m h l = go (ltb m (length (guide_of e))) refl
    where
      go : (b : Bool) → ltb m (length (guide_of e)) ≡ b → fits_in (guide_of e) v p c m ≡ false
      go true q =
          let k = ltb-true m (length (guide_of e)) q in
          let r = (sound-at e m l k).lower in
          rw (ne_eqb (node (guide_of e) m).parent p (λ (z : (node (guide_of e) m).parent ≡ p). omega arith))
      go false q =
          let k : length (guide_of e) ≤ m = ltb-false m (length (guide_of e)) q in
          rw (get_or-eq_default (guide_of e) message k) (simp (and-false))

  seek-nowhere : (k p c : ℕ) → length (guide_of e) ≤ p → seek (guide_of e) v (levels (guide_of e) k p c) ≡ 0
  unfolding seek levels
  seek-nowhere zero p c h = refl
  seek-nowhere (suc k) p c h =
      rw (lowest-none (fits_in (guide_of e) v p c) 1 (length (guide_of e) - 1) (λ m l k. fits-nowhere p c m h l))
      (go (eqb p 0) (seek-nowhere k (node (guide_of e) p).parent (node (guide_of e) p).counter outside))
    where
      outside : length (guide_of e) ≤ (node (guide_of e) p).parent
      outside = rw (get_or-eq_default (guide_of e) message h) (omega (arith, table_fits e))

      go
          : (b : Bool) → seek (guide_of e) v (levels (guide_of e) k (node (guide_of e) p).parent (node (guide_of e) p).counter) ≡ 0
          → seek (guide_of e) v (cond b [] (levels (guide_of e) k (node (guide_of e) p).parent (node (guide_of e) p).counter)) ≡ 0
      go true ih = refl
      go false ih = ih

  pub seek-outside : (last : ℕ) → length (guide_of e) ≤ last → seek (guide_of e) v (levels (guide_of e) (suc last) last 0) ≡ 0
  seek-outside last h = seek-nowhere (suc last) last 0 h

-- past the table's end there is no open instance that a node could come in
module _ (e : Edition) (test : Level → Bool) (n : ℕ) (only : (l : Level) → child_of (guide_of e) l.node n ≡ false → test l ≡ false) (some : 0 < n)
    (row : n < length (guide_of e)) where
  pub level-nowhere : (k p c : ℕ) → length (guide_of e) ≤ p → some_level test (levels (guide_of e) k p c) ≡ false
  unfolding levels some_level
  level-nowhere zero p c h = refl
  level-nowhere (suc k) p c h =
      rw (only (level p c) stranger) (go (eqb p 0) (level-nowhere k (node (guide_of e) p).parent (node (guide_of e) p).counter outside))
    where
      stranger : child_of (guide_of e) p n ≡ false
      stranger = ne_eqb (node (guide_of e) n).parent p (λ (z : (node (guide_of e) n).parent ≡ p). omega (arith, (sound-at e n some row).lower))

      outside : length (guide_of e) ≤ (node (guide_of e) p).parent
      outside = rw (get_or-eq_default (guide_of e) message h) (omega (arith, table_fits e))

      go
          : (b : Bool) → some_level test (levels (guide_of e) k (node (guide_of e) p).parent (node (guide_of e) p).counter) ≡ false
          → some_level test (cond b [] (levels (guide_of e) k (node (guide_of e) p).parent (node (guide_of e) p).counter)) ≡ false
      go true ih = refl
      go false ih = ih
