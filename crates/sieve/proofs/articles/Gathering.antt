-- How the print of an article is made, a byte at a time.
use Prim.Native.Nat.{ℕ, ◌+◌, ◌*◌, ◌/◌, ◌%◌, ◌^◌, ◌≤◌, ◌<◌}
use mathlib.Core.Path.{◌≡◌, refl, ◌∙◌}
use mathlib.Core.Bool.{Bool, true, false, cond}
use mathlib.Core.List.{List}
use native.Mathlib.Nat.{mul-le-mul_left}
use native.Mathlib.Omega.{arith}
use lib.ListN.{length, get_or}
use borrow.Author.Tests.{le-leb, lt-leb}
use Rattle.cut.specs.declared.service.Syntax.{Syntax}
use Rattle.bytewise.specs.Bytes.{part}
use Rattle.cut.specs.Segments.{frees}
use Rattle.bytewise.proofs.Parts.{part-next, part_none}
use Rattle.plain.specs.Plain.{plain, unless_mark}
use Rattle.sieve.specs.workers.Words.{word_mixed, gathered_by, closed_by, print_from, gathered_unless, Gathering}
use Rattle.sieve.specs.declared.articles.Gathered.{Gathered}

-- the upper half of a product, and that of a word
halves_fit : (t v : ℕ) → t < 2 ^ 64 → v < 2 ^ 64 → t / 4294967296 + v / 4294967296 < 2 ^ 64
halves_fit t v h k = omega arith

pub mix_fits : (s v : ℕ) → v < 2 ^ 64 → s % 4294967296 * 2654435769 / 4294967296 + v / 4294967296 < 2 ^ 64
mix_fits s v h =
    let k : s % 4294967296 * 2654435769 < 2 ^ 64 = omega arith in
    halves_fit (s % 4294967296 * 2654435769) v k h

module _ (g : Gathered) (s : Gathering g) (x : ℕ) (byte : x < 256) where
  -- what is gathered with the next byte counts less than the one behind it
  pub gather_fits : g.number + g.scale * x < g.scale * 256
  gather_fits =
      let k : x ≤ 255 = omega arith in
      let l : g.scale * x ≤ g.scale * 255 = mul-le-mul_left g.scale k in
      omega (arith, s.below)

  pub gather_begun
      : (m : Bool) (v : ℕ) → m ≡ false → v ≡ g.number + g.scale * x → g.scale ≤ 281474976710656 → (r : Gathered)
      → r ≡ record { print = g.print; number = v; scale = g.scale * 256 } → (r ≡ gathered_unless m g x) × Gathering r
  unfolding gathered_unless gathered_by
  gather_begun m v n e h r q = (
    q ∙ rw (n, e, le-leb g.scale 281474976710656 h),
    rw q (record { below = omega (arith, gather_fits); small = omega arith }),
  )

  pub gather_full
      : (m : Bool) (v w : ℕ) → m ≡ false → v ≡ g.number + g.scale * x → 281474976710656 < g.scale → w ≡ word_mixed g.print v → (r : Gathered)
      → r ≡ record { print = w; number = 0; scale = 1 } → (r ≡ gathered_unless m g x) × Gathering r
  unfolding gathered_unless gathered_by
  gather_full m v w n e h k r q = (
    q ∙ rw (n, k, e, lt-leb g.scale 281474976710656 h),
    rw q (record { below = omega arith; small = omega arith }),
  )

pub gather_mark : (g : Gathered) → Gathering g → (m : Bool) (x : ℕ) → m ≡ true → (g ≡ gathered_unless m g x) × Gathering g
unfolding gathered_unless
gather_mark g s m x h = (rw h, s)

-- the bytes from the place i up to the place end; r says that the first of them is released
module _ (y : Syntax) (d : List ℕ) (end : ℕ) where
  abbrev pub gathering : ℕ → Bool → Gathered → ℕ
  gathering i r g = print_from g (plain y r (part i end d))

  pub gathering_on
      : (i : ℕ) (r m : Bool) (g h : Gathered) → i < end → end ≤ length d → m ≡ frees y r (get_or d i 0) → h ≡ gathered_unless m g (get_or d i 0)
      → gathering i r g ≡ gathering (i + 1) m h
  unfolding plain unless_mark print_from gathered_unless
  gathering_on i r m g h l k f q = rw (part-next d i end l k, q, f) (go (frees y r (get_or d i 0)) (plain y (frees y r (get_or d i 0)) (part (i + 1) end d)))
    where
      go : (b : Bool) (xs : List ℕ) → print_from g (unless_mark b (get_or d i 0) xs) ≡ print_from (cond b g (gathered_by g (get_or d i 0))) xs
      go true xs = refl
      go false xs = refl

  pub gathering_out : (i : ℕ) (r : Bool) (g : Gathered) (p : ℕ) → end ≤ i → p ≡ closed_by g → p ≡ gathering i r g
  unfolding plain print_from
  gathering_out i r g p h q = rw (part_none d i end h) q
