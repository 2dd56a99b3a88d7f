-- What the code needs of every row of a table: one computed test, and what it gives.
use Prim.Native.Nat.{ℕ, zero, suc, ◌-◌, ◌<◌}
use mathlib.Core.Bool.{Bool, ◌&&◌}
use native.Mathlib.Omega.{arith}
use lib.ListN.{length}
use lib.Dec.{T, ltb, ltb→lt}
use Rattle.guide.specs.Nodes.{Guide, node}
use Rattle.guide.specs.Pricat.{pricat20d, pricat20c}
use Rattle.guide.specs.workers.Checks.{every}
use Rattle.guide.proofs.Basics.{every-at, and_left, and_right}
use Rattle.guide.specs.declared.edition.Edition.{Edition}
use Rattle.guide.specs.declared.edition.Edition.TheVariants.{D, C}
use Rattle.guide.specs.Editions.{guide_of}
use Rattle.plain.proofs.Packing.{bytes_only, all_short, bytes-only}
use Rattle.judge.specs.workers.Words.{Bytes}

-- a row takes segments, its parent has a lower number, and its tag and codes are bytes, a code six at most
abbrev sound_row : Guide → ℕ → Bool
sound_row g n = ltb 0 (node g n).limit && (ltb (node g n).parent n && (bytes_only (node g n).tag && all_short (node g n).selector.codes))

unfoldable sound : Guide → Bool
sound g = every (λ k. sound_row g (suc k)) (length g - 1)

sound-table : (e : Edition) → T (sound (guide_of e))
unfolding pricat20d pricat20c sound every
sound-table D = tt
sound-table C = tt

pub record Sound (g : Guide) (n : ℕ) : Type 0 where
  pub limited : 0 < (node g n).limit
  pub lower : (node g n).parent < n
  pub tag : Bytes (node g n).tag
  pub codes : T (all_short (node g n).selector.codes)

row-sound : (g : Guide) (n : ℕ) → T (sound_row g n) → Sound g n
row-sound g n h =
    let a = ltb 0 (node g n).limit in
    let b = ltb (node g n).parent n in
    let c = bytes_only (node g n).tag in
    let d = all_short (node g n).selector.codes in
    let t = and_right a (b && (c && d)) h in
    let u = and_right b (c && d) t in
    record {
      limited = ltb→lt _ _ (and_left a (b && (c && d)) h);
      lower = ltb→lt _ _ (and_left b (c && d) t);
      tag = bytes-only (node g n).tag (and_left c d u);
      codes = and_right c d u;
    }

pub sound-at : (e : Edition) (n : ℕ) → 0 < n → n < length (guide_of e) → Sound (guide_of e) n
unfolding sound
sound-at e zero h l = absurd (omega arith)
sound-at e (suc n) h l = row-sound (guide_of e) (suc n) (every-at (λ k. sound_row (guide_of e) (suc k)) (length (guide_of e) - 1) n (sound-table e)
    (omega arith))
