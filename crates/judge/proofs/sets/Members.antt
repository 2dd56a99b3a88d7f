-- Laws of sets as the bits of a number: which numbers are in one, the lowest of them, and the set without it.
use Prim.Native.Nat.{ℕ, zero, suc, ◌+◌, ◌-◌, ◌*◌, ◌/◌, ◌%◌, ◌^◌, ◌≤◌, ◌<◌}
use mathlib.Core.Path.{◌≡◌, refl, sym, ◌∙◌}
use mathlib.Core.Bool.{Bool, true, false, not, ◌&&◌, true≢false, and-false}
use native.Mathlib.Nat.{pow-suc, le_trans}
use native.Mathlib.Omega.{arith}
use lib.ListN.{length}
use lib.Dec.{lit≤, eqb, ltb, ltb→lt, leb-suc-suc, eqb-suc-suc, eqb-suc-zero}
use lib.Pow.{pow_mono}
use lib.Bits.{bit_and, and_shr, and_mod, and_le_l, and_le_r}
use lib.Count.{count_trailing_zeros, under}
use borrow.Author.Tests.{lt-ltb, le-ltb}
use Rattle.guide.specs.Nodes.{Guide}
use Rattle.guide.specs.Pricat.{pricat20d, pricat20c}
use Rattle.guide.proofs.Basics.{T_true, and_left, and_right}
use Rattle.guide.specs.declared.edition.Edition.{Edition}
use Rattle.guide.specs.declared.edition.Edition.TheVariants.{D, C}
use Rattle.guide.specs.Editions.{guide_of}
use Rattle.judge.specs.workers.Sets.{bit, bits, member, nodes_that}

pub member-none : (n : ℕ) → member 0 n ≡ false
unfolding member
member-none zero = refl
member-none (suc n) = member-none n

-- bit n of a set that is told by a test is the test at n
pub member-bits : (k : ℕ) (test : ℕ → Bool) (n : ℕ) → member (bits k test) n ≡ ltb n k && test n
unfolding member bits
member-bits zero test n = rw (le-ltb n 0 (omega arith)) (member-none n)
member-bits (suc k) test zero = rw (lt-ltb 0 (suc k) (omega arith)) (go (test 0))
  where
    go : (b : Bool) → eqb ((bits k (λ n. test (suc n)) * 2 + bit b) % 2) 1 ≡ b
    go true =
        let z : (bits k (λ n. test (suc n)) * 2 + 1) % 2 ≡ 1 = omega arith in
        rw z
    go false =
        let z : (bits k (λ n. test (suc n)) * 2 + 0) % 2 ≡ 0 = omega arith in
        rw z
member-bits (suc k) test (suc n) =
    rw (half (bits k (λ m. test (suc m))) (test 0), leb-suc-suc (suc n) k) (member-bits k (λ m. test (suc m)) n)
  where
    half : (a : ℕ) (b : Bool) → (a * 2 + bit b) / 2 ≡ a
    half a true = omega arith
    half a false = omega arith

pub bits_fit : (k : ℕ) (test : ℕ → Bool) → bits k test < 2 ^ k
unfolding bits
bits_fit zero test = omega arith
bits_fit (suc k) test = rw (pow-suc 2 k) (go (test 0) (bits_fit k (λ n. test (suc n))))
  where
    go : (b : Bool) → bits k (λ n. test (suc n)) < 2 ^ k → bits k (λ n. test (suc n)) * 2 + bit b < 2 ^ k * 2
    go true h = omega arith
    go false h = omega arith

-- a test that nothing passes tells the empty set
pub bits_none : (k : ℕ) (test : ℕ → Bool) → ((n : ℕ) → n < k → test n ≡ false) → bits k test ≡ 0
unfolding bits
bits_none zero test h = refl
bits_none (suc k) test h = rw (h 0 (omega arith), bits_none k (λ n. test (suc n)) (λ n l. h (suc n) (omega arith)))

-- what is in both
pub member-and : (a b n : ℕ) → member (bit_and a b) n ≡ member a n && member b n
unfolding member
member-and a b zero = rw (and_mod a b 1) (go (a % 2) (b % 2) (omega arith) (omega arith))
  where
    go : (x y : ℕ) → x < 2 → y < 2 → eqb (bit_and x y) 1 ≡ eqb x 1 && eqb y 1
    go zero y h l = refl
    go (suc zero) zero h l = refl
    go (suc zero) (suc zero) h l = refl
    go (suc zero) (suc (suc y)) h l = absurd (omega arith)
    go (suc (suc x)) y h l = absurd (omega arith)
member-and a b (suc n) = rw (and_shr a b 1) (member-and (a / 2) (b / 2) n)

-- the lowest number of a set that is not empty is in it, and no lower one is
pub first_member : (k s : ℕ) → s < 2 ^ k → (s ≡ 0 → ⊥) → member s (count_trailing_zeros k s) ≡ true
unfolding member count_trailing_zeros
first_member zero s h some = absurd (some (omega arith))
first_member (suc k) s h some = go (s % 2) refl (first_member k (s / 2))
  where
    go
        : (b : ℕ) → s % 2 ≡ b → (s / 2 < 2 ^ k → (s / 2 ≡ 0 → ⊥) → member (s / 2) (count_trailing_zeros k (s / 2)) ≡ true)
        → member s (under b (count_trailing_zeros k (s / 2))) ≡ true
    go zero e ih = ih (omega (arith, pow-suc 2 k)) (λ (z : s / 2 ≡ 0). some (omega arith))
    go (suc b) e ih =
        let o : s % 2 ≡ 1 = omega arith in
        rw o

pub first-lowest : (k s n : ℕ) → n < count_trailing_zeros k s → member s n ≡ false
unfolding member count_trailing_zeros
first-lowest zero s n h = absurd (omega arith)
first-lowest (suc k) s n h = go (s % 2) refl n h (first-lowest k (s / 2))
  where
    go
        : (b : ℕ) → s % 2 ≡ b → (n : ℕ) → n < under b (count_trailing_zeros k (s / 2))
        → ((m : ℕ) → m < count_trailing_zeros k (s / 2) → member (s / 2) m ≡ false) → member s n ≡ false
    go zero e zero l ih = rw e
    go zero e (suc n) l ih = ih n (omega arith)
    go (suc b) e n l ih = absurd (omega arith)

-- one less has of the set all but the lowest
less_member : (k s n : ℕ) → s < 2 ^ k → (s ≡ 0 → ⊥) → member s n ≡ true → member (s - 1) n ≡ not (eqb n (count_trailing_zeros k s))
unfolding member count_trailing_zeros
less_member zero s n h some t = absurd (some (omega arith))
less_member (suc k) s n h some t = go (s % 2) refl n t (less_member k (s / 2))
  where
    go
        : (b : ℕ) → s % 2 ≡ b → (n : ℕ) → member s n ≡ true
        → ((m : ℕ) → s / 2 < 2 ^ k → (s / 2 ≡ 0 → ⊥) → member (s / 2) m ≡ true → member (s / 2 - 1) m ≡ not (eqb m (count_trailing_zeros k (s / 2))))
        → member (s - 1) n ≡ not (eqb n (under b (count_trailing_zeros k (s / 2))))
    go zero e zero t ih = absurd (true≢false (sym t ∙ rw e))
    go zero e (suc n) t ih =
        let z : (s - 1) / 2 ≡ s / 2 - 1 = omega arith in
        rw (z, eqb-suc-suc n (count_trailing_zeros k (s / 2))) (ih n (omega (arith, pow-suc 2 k)) (λ (q : s / 2 ≡ 0). some (omega arith)) t)
    go (suc b) e zero t ih =
        let z : (s - 1) % 2 ≡ 0 = omega arith in
        rw z
    go (suc b) e (suc n) t ih =
        let z : (s - 1) / 2 ≡ s / 2 = omega arith in
        rw (z, eqb-suc-zero n) t

-- a set without its lowest number
pub rest-member : (k s n : ℕ) → s < 2 ^ k → (s ≡ 0 → ⊥) → member (bit_and s (s - 1)) n ≡ member s n && not (eqb n (count_trailing_zeros k s))
rest-member k s n h some = member-and s (s - 1) n ∙ go (member s n) refl
  where
    go : (b : Bool) → member s n ≡ b → b && member (s - 1) n ≡ b && not (eqb n (count_trailing_zeros k s))
    go true e = less_member k s n h some e
    go false e = refl

pub rest_less : (s : ℕ) → (s ≡ 0 → ⊥) → bit_and s (s - 1) < s
rest_less s some = omega (arith, and_le_r s (s - 1), some)

-- a set of nodes of a guide
pub nodes_member : (g : Guide) (test : ℕ → Bool) (n : ℕ) → member (nodes_that g test) n ≡ ltb n (length g) && (ltb 0 n && test n)
unfolding nodes_that
nodes_member g test n = member-bits (length g) (λ m. ltb 0 m && test m) n

pub nodes_none : (g : Guide) (test : ℕ → Bool) → ((n : ℕ) → 0 < n → n < length g → test n ≡ false) → nodes_that g test ≡ 0
unfolding nodes_that
nodes_none g test h = bits_none (length g) (λ n. ltb 0 n && test n) go
  where
    go : (n : ℕ) → n < length g → ltb 0 n && test n ≡ false
    go zero l = refl
    go (suc n) l = rw (h (suc n) (omega arith) l) (and-false (ltb 0 (suc n)))

-- a table has fewer rows than a set has bits
table-small : (e : Edition) → length (guide_of e) ≤ 32
unfolding pricat20d pricat20c
table-small D = lit≤ tt
table-small C = lit≤ tt

pub nodes_fit : (e : Edition) (test : ℕ → Bool) → nodes_that (guide_of e) test < 4294967296
unfolding nodes_that
nodes_fit e test = le_trans (bits_fit (length (guide_of e)) (λ n. ltb 0 n && test n)) (pow_mono (table-small e))

module _ (e : Edition) (s t : ℕ → Bool) where
  -- two sets as one word
  pub lower_half : (w : ℕ) → w ≡ nodes_that (guide_of e) s + 4294967296 * nodes_that (guide_of e) t → w % 4294967296 ≡ nodes_that (guide_of e) s
  lower_half w h = omega (arith, h, nodes_fit e s)

  pub upper_half : (w : ℕ) → w ≡ nodes_that (guide_of e) s + 4294967296 * nodes_that (guide_of e) t → w / 4294967296 ≡ nodes_that (guide_of e) t
  upper_half w h = omega (arith, h, nodes_fit e s)

  -- the nodes that are in both
  pub both_fit : (w : ℕ) → w ≡ bit_and (nodes_that (guide_of e) s) (nodes_that (guide_of e) t) → w < 2 ^ 32
  both_fit w h = omega (arith, h, and_le_l (nodes_that (guide_of e) s) (nodes_that (guide_of e) t), nodes_fit e s)

  both-member
      : (w n : ℕ) → w ≡ bit_and (nodes_that (guide_of e) s) (nodes_that (guide_of e) t)
      → member w n ≡ (ltb n (length (guide_of e)) && (ltb 0 n && s n)) && (ltb n (length (guide_of e)) && (ltb 0 n && t n))
  both-member w n h = rw (h, member-and _ _ n, nodes_member (guide_of e) s n, nodes_member (guide_of e) t n)

  pub both-inside
      : (w n : ℕ) → w ≡ bit_and (nodes_that (guide_of e) s) (nodes_that (guide_of e) t) → member w n ≡ true → (0 < n) × (n < length (guide_of e))
  both-inside w n h m =
      let t = and_left (ltb n (length (guide_of e)) && (ltb 0 n && s n)) _ (T_true (sym (both-member w n h) ∙ m)) in (
        ltb→lt 0 n (and_left (ltb 0 n) _ (and_right (ltb n (length (guide_of e))) _ t)),
        ltb→lt n _ (and_left (ltb n (length (guide_of e))) _ t),
      )

  pub both_are
      : (w n : ℕ) → w ≡ bit_and (nodes_that (guide_of e) s) (nodes_that (guide_of e) t) → 0 < n → n < length (guide_of e) → member w n ≡ s n && t n
  both_are w n h a b = rw (both-member w n h, lt-ltb n (length (guide_of e)) b, lt-ltb 0 n a)
