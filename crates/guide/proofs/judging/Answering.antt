-- A segment has no fault exactly if it is clean, has a node, is as its page wants it, and keeps the rules of its node.
use Prim.Native.Nat.{ℕ, zero, suc}
use mathlib.Core.Path.{◌≡◌, refl, sym, ◌∙◌, ap}
use mathlib.Core.Bool.{Bool, true, false, not, ◌&&◌, true≢false}
use mathlib.Core.Logic.{◌↔◌}
use mathlib.Core.List.{List}
use native.Mathlib.Omega.{arith}
use lib.Dec.{T}
use borrow.Author.Tests.{eq-eqb, eqb-true}
use Rattle.cut.specs.declared.service.Syntax.{Syntax}
use Rattle.bytewise.specs.Bytes.{bytes_of}
use Rattle.cut.specs.Segments.{Segment}
use Rattle.clean.specs.Clean.{allowed_bytes, tagged_bytes}
use Rattle.plain.specs.Plain.{same}
use Rattle.value.specs.Digits.{count_of}
use Rattle.std.specs.Prelude.{Option, Some, None}
use Rattle.guide.specs.Choices.{pickℕ, or_else}
use Rattle.guide.specs.Nodes.{Guide, node}
use Rattle.guide.specs.Page.{Page}
use Rattle.guide.specs.Content.{text, Holds}
use Rattle.guide.specs.workers.PageFault.{page_fault}
use Rattle.guide.specs.workers.Placing.{place}
use Rattle.guide.specs.Answers.{Answer, placed, refused}
use Rattle.guide.specs.Sheet.{is_tag}
use Rattle.guide.specs.Accepted.{Clean, seen}
use Rattle.guide.specs.workers.Judging.{
  Memory,
  is,
  bytes_fault,
  end_fault,
  line_fault,
  rule_fault,
  content_fault,
  unless_fault,
  then_content,
  then_place,
  segment_answer,
}
use Rattle.guide.proofs.Basics.{T_true, true-T, and_left, and_right, same-eq, same_refl}
use Rattle.guide.proofs.PageHolds.{holds_iff}

-- a count is n exactly if the test says so
pub is-count : (n : ℕ) (c : Option ℕ) → is n c ≡ true → c ≡ Some n
is-count n (Some k) e = ap Some (eqb-true k n e)
is-count n None e = absurd (true≢false (sym e))

pub count-is : (n : ℕ) (c : Option ℕ) → c ≡ Some n → is n c ≡ true
count-is n c e = rw e (eq-eqb n n refl)

picked_zero : (b : Bool) (k : ℕ) → pickℕ b 0 (suc k) ≡ 0 → b ≡ true
picked_zero true k e = refl
picked_zero false k e = absurd (omega arith)

-- the first of two numbers is none exactly if both are
neither : (a b : ℕ) → or_else a b ≡ 0 → (a ≡ 0) × (b ≡ 0)
neither zero b e = (refl, e)
neither (suc a) b e = absurd (omega arith)

-- a node has one tag only
pub one_tag : (g : Guide) (n : ℕ) (a b : List ℕ) → (a ≡ b → ⊥) → T (is_tag g a n) → T (is_tag g b n) → ⊥
unfolding is_tag
one_tag g n a b d h k = d (sym (same-eq (node g n).tag a h) ∙ same-eq (node g n).tag b k)

pub not-both : (g : Guide) (n : ℕ) → T (is_tag g (bytes_of "UNT") n) → T (is_tag g (bytes_of "LIN") n) → ⊥
not-both g n =
    one_tag g n (bytes_of "UNT") (bytes_of "LIN") (λ e.
    let z : ◌≡◌ {A = ℕ} 85 76 = cc in
    omega arith)

module _ (y : Syntax) (g : Guide) where
  -- what placing says of a segment
  abbrev pub sought : Memory → Segment → Answer
  sought m s = place g (seen y s) m.state.last m.state.counts

  -- the segment i, which is an UNT, has this count and this reference
  pub record Closes (i : ℕ) (r : List ℕ) (s : Segment) : Type 0 where
    pub counted : count_of (text y s.bytes 1 0) ≡ Some i
    pub referred : text y s.bytes 2 0 ≡ r

  -- the rules for segment i with node n, after k positions, where r is the reference
  pub record Ruled (i k : ℕ) (r : List ℕ) (n : ℕ) (s : Segment) : Type 0 where
    pub closes : T (is_tag g (bytes_of "UNT") n) → Closes i r s
    pub numbers : T (is_tag g (bytes_of "LIN") n) → count_of (text y s.bytes 1 0) ≡ Some (suc k)

module _ (y : Syntax) (g : Guide) (pages : ℕ → Page) where
  -- segment i has no fault, and node n
  pub record Free (i : ℕ) (m : Memory) (n : ℕ) (s : Segment) : Type 0 where
    pub clean : Clean y s
    pub taken : sought y g m s ≡ placed n
    pub holds : Holds y (pages n) s.bytes
    pub ruled : Ruled y g i m.positions m.reference n s

  pub clean_free : (s : Segment) → Clean y s → bytes_fault y s ≡ 0
  unfolding bytes_fault
  clean_free s c = rw (c.terminated, c.allowed, c.tagged)

  pub free-clean : (s : Segment) → bytes_fault y s ≡ 0 → Clean y s
  unfolding bytes_fault
  free-clean s h = go s.piece refl (allowed_bytes s.bytes) refl (tagged_bytes y s.bytes) refl h
    where
      go
          : (a : Bool) → s.piece ≡ a → (b : Bool) → allowed_bytes s.bytes ≡ b → (c : Bool) → tagged_bytes y s.bytes ≡ c
          → pickℕ a 12 (pickℕ (not b) 10 (pickℕ (not c) 11 0)) ≡ 0 → Clean y s
      go false p true q true r e = record { terminated = p; allowed = q; tagged = r }
      go true p b q c r e = absurd (omega arith)
      go false p false q c r e = absurd (omega arith)
      go false p true q false r e = absurd (omega arith)

  pub free-closes : (i : ℕ) (r : List ℕ) (s : Segment) → end_fault y g pages i r s ≡ 0 → Closes y g i r s
  unfolding end_fault
  free-closes i r s h =
      let a = is i (count_of (text y s.bytes 1 0)) in
      let b = same (text y s.bytes 2 0) r in
      let t = T_true (picked_zero (a && b) 20 h) in
      record { counted = is-count i _ (true-T a (and_left a b t)); referred = same-eq _ r (and_right a b t) }

  pub closes-free : (i : ℕ) (r : List ℕ) (s : Segment) → Closes y g i r s → end_fault y g pages i r s ≡ 0
  unfolding end_fault
  closes-free i r s c = rw (count-is i _ c.counted, c.referred, true-T (same r r) (same_refl r))

  pub free-line : (n : ℕ) (s : Segment) → line_fault y g pages n s ≡ 0 → count_of (text y s.bytes 1 0) ≡ Some n
  unfolding line_fault
  free-line n s h = is-count n _ (picked_zero _ 21 h)

  pub line-free : (n : ℕ) (s : Segment) → count_of (text y s.bytes 1 0) ≡ Some n → line_fault y g pages n s ≡ 0
  unfolding line_fault
  line-free n s e = rw (count-is n _ e)

  free_ruled
      : (i : ℕ) (m : Memory) (n : ℕ) (s : Segment) → rule_fault y g pages i m n s ≡ 0 → Ruled y g i m.positions m.reference n s
  unfolding rule_fault
  free_ruled i m n s h = go (is_tag g (bytes_of "UNT") n) refl (is_tag g (bytes_of "LIN") n) refl h
    where
      go
          : (a : Bool) → is_tag g (bytes_of "UNT") n ≡ a → (b : Bool) → is_tag g (bytes_of "LIN") n ≡ b
          → pickℕ a (end_fault y g pages i m.reference s) (pickℕ b (line_fault y g pages (suc m.positions) s) 0) ≡ 0
          → Ruled y g i m.positions m.reference n s
      go true e b f q = record { closes = λ t. free-closes i m.reference s q; numbers = λ t. absurd (not-both g n (T_true e) t) }
      go false e true f q = record { closes = λ t. absurd (rw e at t); numbers = λ t. free-line (suc m.positions) s q }
      go false e false f q = record { closes = λ t. absurd (rw e at t); numbers = λ t. absurd (rw f at t) }

  ruled_free
      : (i : ℕ) (m : Memory) (n : ℕ) (s : Segment) → Ruled y g i m.positions m.reference n s → rule_fault y g pages i m n s ≡ 0
  unfolding rule_fault
  ruled_free i m n s r = go (is_tag g (bytes_of "UNT") n) refl (is_tag g (bytes_of "LIN") n) refl
    where
      go
          : (a : Bool) → is_tag g (bytes_of "UNT") n ≡ a → (b : Bool) → is_tag g (bytes_of "LIN") n ≡ b
          → pickℕ a (end_fault y g pages i m.reference s) (pickℕ b (line_fault y g pages (suc m.positions) s) 0) ≡ 0
      go true e b f = closes-free i m.reference s (r.closes (T_true e))
      go false e true f = line-free (suc m.positions) s (r.numbers (T_true f))
      go false e false f = refl

  answer-free : (i : ℕ) (m : Memory) (n : ℕ) (s : Segment) → segment_answer y g pages i m s ≡ placed n → Free i m n s
  unfolding segment_answer content_fault
  answer-free i m n s h = first (bytes_fault y s) refl h
    where
      third
          : (k : ℕ) → sought y g m s ≡ placed k → Clean y s → (c : ℕ) → content_fault y g pages i m k s ≡ c → unless_fault y g pages c k ≡ placed n
          → Free i m n s
      third k e c zero f q =
          let z : k ≡ n = cc in
          let parts = neither (page_fault y (pages k) s.bytes) (rule_fault y g pages i m k s) f in
          rw (sym z)
          record {
            clean = c;
            taken = e;
            holds = (holds_iff y (pages k) s.bytes).0 parts.0;
            ruled = free_ruled i m k s parts.1;
          }
      third k e c (suc d) f q = absurd (let z : ◌≡◌ {A = ℕ} 0 1 = cc in omega arith)

      second : (a : Answer) → sought y g m s ≡ a → Clean y s → then_content y g pages i m s a ≡ placed n → Free i m n s
      second (placed k) e c q = third k e c (content_fault y g pages i m k s) refl q
      second (refused k j) e c q = absurd (let z : ◌≡◌ {A = ℕ} 0 1 = cc in omega arith)

      first : (k : ℕ) → bytes_fault y s ≡ k → then_place y g pages k (then_content y g pages i m s (sought y g m s)) ≡ placed n → Free i m n s
      first zero e q = second (sought y g m s) refl (free-clean s e) q
      first (suc k) e q = absurd (let z : ◌≡◌ {A = ℕ} 0 1 = cc in omega arith)

  free-answer : (i : ℕ) (m : Memory) (n : ℕ) (s : Segment) → Free i m n s → segment_answer y g pages i m s ≡ placed n
  unfolding segment_answer content_fault
  free-answer i m n s f =
      rw (clean_free s f.clean, f.taken, (holds_iff y (pages n) s.bytes).1 f.holds, ruled_free i m n s f.ruled)

  pub free_iff : (i : ℕ) (m : Memory) (n : ℕ) (s : Segment) → (segment_answer y g pages i m s ≡ placed n) ↔ Free i m n s
  free_iff i m n s = (answer-free i m n s, free-answer i m n s)
