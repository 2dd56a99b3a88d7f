-- The bytes between two components that pass a test, such as service characters, flagged word by word.
use Prim.Native.Nat.{ℕ, zero, suc, ◌+◌, ◌-◌, ◌≤◌, ◌<◌}
use mathlib.Core.Path.{◌≡◌, refl, sym, ◌∙◌}
use mathlib.Core.Bool.{Bool, true, false}
use mathlib.Core.List.{List}
use native.Mathlib.Omega.{arith}
use lib.Bits.{bit_and}
use lib.ListN.{length, get_or}
use lib.Dec.{leb}
use borrow.Author.Tests.{le-leb, lt-leb, leb-true, leb-false}
use Rattle.bytewise.specs.Eights.{number, on_from, flag, flags}
use Rattle.bytewise.proofs.Bytewise.{FirstOf, flags-none}
use Rattle.bytewise.proofs.Clearing.{first-cleared}
use Rattle.element.specs.workers.Scans.{waiting, Tested, Foremost, Scanned, Sought, fresh}
use Rattle.element.specs.declared.ahead.Scan.{Scan}
use Rattle.bytewise.proofs.Booleans.{and_both}

-- ---- flags

none-set : (n : ℕ) (t : ℕ → Bool) → ((k : ℕ) → k < n → t k ≡ false) → number n (λ k. flag (t k)) ≡ 0
unfolding number
none-set zero t h = refl
none-set (suc n) t h = rw (h 0 (omega arith), none-set n (λ k. t (suc k)) (λ k l. h (suc k) (omega arith)))

-- the flags of the same bytes
same_flags : (s t : ℕ → Bool) → ((k : ℕ) → s k ≡ t k) → flags s ≡ flags t
unfolding flags
same_flags s t h = λ i. number 8 (λ k. flag (h k i))

-- ---- the bytes of a segment

-- a byte of the word before n, by its place
waits : (t : ℕ → Bool) (d : List ℕ) (a n k i : ℕ) → n + k ≡ i + 8 → a ≤ i → waiting t d a n k ≡ t (get_or d i 0)
unfolding waiting
waits t d a n k i e h =
    let z : n + k - 8 ≡ i = omega arith in
    rw (z, le-leb (a + 8) (n + k) (omega arith))

-- a byte that stands before the place a does not wait
waits_not : (t : ℕ → Bool) (d : List ℕ) (a n k : ℕ) → n + k < a + 8 → waiting t d a n k ≡ false
unfolding waiting
waits_not t d a n k h = rw (lt-leb (a + 8) (n + k) h)

module _ (t : ℕ → Bool) (d : List ℕ) (bound a : ℕ) where
  -- nothing is tested behind the place a
  pub scan_none : a ≤ bound → Tested t d bound a a 0
  unfolding flags
  scan_none h = record {
    ahead = omega arith;
    within = h;
    passed = λ k l m. absurd (omega arith);
    flagged = sym (none-set 8 (waiting t d a a) (λ k l. waits_not t d a a k (omega arith)));
  }

  module _ (n m : ℕ) (s : Tested t d bound a n m) where
    -- no byte up to n is flagged: the next word
    pub scan_word : m ≡ 0 → n + 8 ≤ bound → (w : ℕ) → w ≡ flags (λ k. t (on_from d n k)) → Tested t d bound a (n + 8) w
    scan_word z h w f = record { ahead = omega (arith, s.ahead); within = h; passed = none; flagged = f ∙ same_flags _ _ there }
      where
        none : (k : ℕ) → a ≤ k → k + 8 < n + 8 → t (get_or d k 0) ≡ false
        none k l b = go (leb n (k + 8)) refl
          where
            go : (b : Bool) → leb n (k + 8) ≡ b → t (get_or d k 0) ≡ false
            go true g =
                let o = leb-true n (k + 8) g in
                sym (waits t d a n (k + 8 - n) k (omega arith) l) ∙ flags-none (waiting t d a n) (sym s.flagged ∙ z) (k + 8 - n) (omega arith)
            go false g = s.passed k l (leb-false n (k + 8) g)

        there : (k : ℕ) → t (on_from d n k) ≡ waiting t d a (n + 8) k
        there k = sym (waits t d a (n + 8) k (n + k) (omega arith) (omega (arith, s.ahead)))

    -- the first flag of the word that ends before n
    module _ (j : ℕ) (f : FirstOf 8 (waiting t d a n) j) where
      pub scan_flag : a + 8 ≤ n + j
      unfolding waiting
      scan_flag = leb-true (a + 8) (n + j) (and_both _ _ f.passes).0

      module _ (h : m ≡ 0 → ⊥) (end : ℕ) (e : end ≡ n + j - 8) where
        placed : n + j ≡ end + 8
        placed = omega (arith, scan_flag)

        scan_first : Foremost t d a end
        scan_first = record { onward = omega (arith, scan_flag); none = none; here = sym (waits t d a n j end placed (omega (arith, scan_flag))) ∙ f.passes }
          where
            none : (k : ℕ) → a ≤ k → k < end → t (get_or d k 0) ≡ false
            none k l b = go (leb n (k + 8)) refl
              where
                go : (b : Bool) → leb n (k + 8) ≡ b → t (get_or d k 0) ≡ false
                go true g =
                    let o = leb-true n (k + 8) g in
                    let p = placed in
                    sym (waits t d a n (k + 8 - n) k (omega arith) l) ∙ f.before (k + 8 - n) (omega arith)
                go false g = s.passed k l (leb-false n (k + 8) g)

        scan_on : Tested t d bound (end + 1) n (bit_and m (m - 1))
        unfolding flags
        scan_on =
            let p = placed in
            record {
              ahead = omega (arith, f.within);
              within = s.within;
              passed = λ k l b. absurd (omega arith);
              flagged = rw s.flagged (first-cleared 8 (waiting t d a n) (waiting t d (end + 1) n) j f (λ z. h (s.flagged ∙ z)) later none);
            }
          where
            later : (k : ℕ) → j < k → waiting t d (end + 1) n k ≡ waiting t d a n k
            later k l =
                let p = placed in
                let q = scan_flag in
                let z : n + k ≡ (n + k - 8) + 8 = omega arith in
                waits t d (end + 1) n k (n + k - 8) z (omega arith) ∙ sym (waits t d a n k (n + k - 8) z (omega arith))

            none : (k : ℕ) → k ≤ j → waiting t d (end + 1) n k ≡ false
            none k l = waits_not t d (end + 1) n k (omega (arith, placed))

      -- the place behind it
      module _ (h : m ≡ 0 → ⊥) (at : ℕ) (e : at ≡ n + j - 7) where
        pub flag-onward : a < at
        flag-onward = omega (arith, scan_flag)

        pub flag-first : Foremost t d a (at - 1)
        flag-first =
            let q = scan_flag in
            scan_first h (at - 1) (omega arith)

        pub flag-behind : Tested t d bound at n (bit_and m (m - 1))
        flag-behind =
            let q = scan_flag in
            let z : at - 1 + 1 ≡ at = omega arith in
            rw z at (scan_on h (at - 1) (omega arith))

-- a fresh scan, where its place is in the row
pub scan_begins : (t : ℕ → Bool) (d : List ℕ) (a : ℕ) (s : Scan) → a ≤ length d → s ≡ fresh a → Scanned t d s
scan_begins t d a s h e = rw e (scan_none t d (length d) a h)

-- the scan behind the first flag of the word that ends before n
pub sought_flag
    : (t : ℕ → Bool) (d : List ℕ) (a n m : ℕ) → Tested t d (length d) a n m → (m ≡ 0 → ⊥) → (j : ℕ) → FirstOf 8 (waiting t d a n) j → (at : ℕ) → at ≡ n + j - 7
    → Sought t d a (record { at = at; next = n; left = bit_and m (m - 1) })
sought_flag t d a n m s h j f at e =
    record {
      onward = flag-onward t d _ a n m s j f h at e;
      first = flag-first t d _ a n m s j f h at e;
      scanned = flag-behind t d _ a n m s j f h at e;
    }
