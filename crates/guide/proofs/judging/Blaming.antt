-- A segment is refused exactly if one of its faults comes first: of its bytes, its place, its content, or the rule of its node.
use Prim.Native.Nat.{ℕ, zero, suc}
use mathlib.Core.Path.{◌≡◌, refl, sym, ◌∙◌}
use mathlib.Core.Bool.{Bool, true, false, not, ◌&&◌}
use mathlib.Core.Logic.{◌↔◌}
use mathlib.Core.List.{List}
use native.Mathlib.Omega.{arith}
use lib.Dec.{T}
use Rattle.cut.specs.declared.service.Syntax.{Syntax}
use Rattle.bytewise.specs.Bytes.{bytes_of}
use Rattle.cut.specs.Segments.{Segment}
use Rattle.clean.specs.Clean.{allowed_bytes, tagged_bytes}
use Rattle.plain.specs.Plain.{same}
use Rattle.value.specs.Digits.{count_of}
use Rattle.std.specs.Prelude.{Some}
use Rattle.guide.specs.Choices.{pickℕ, or_else}
use Rattle.guide.specs.Nodes.{Guide}
use Rattle.guide.specs.Page.{Page}
use Rattle.guide.specs.Content.{text, Holds}
use Rattle.guide.specs.FirstFault.{First, Fault, not-used, missing, wrong-format, wrong-code}
use Rattle.guide.specs.workers.PageFault.{page_fault}
use Rattle.guide.specs.Answers.{Answer, placed, refused}
use Rattle.guide.specs.Sheet.{is_tag}
use Rattle.guide.specs.Accepted.{Clean}
use Rattle.guide.specs.workers.Judging.{
  Memory,
  is,
  bytes_fault,
  end_fault,
  line_fault,
  rule_fault,
  content_fault,
  unless_fault,
  then_content,
  then_place,
  segment_answer,
}
use Rattle.guide.proofs.Basics.{T_true, true-T, false-T}
use Rattle.guide.proofs.PageHolds.{holds_iff}
use Rattle.guide.proofs.PageFirst.{first_iff}
use Rattle.guide.proofs.judging.Answering.{sought, not-both, Closes, clean_free, free-clean, free-closes, closes-free, free-line, line-free}

or-number : (b : Bool) (k : ℕ) → (pickℕ b 0 k ≡ 0 → ⊥) → pickℕ b 0 k ≡ k
or-number true k w = absurd (w refl)
or-number false k w = refl

-- the number of a fault of a component is not 0
first-number : (y : Syntax) (page : Page) (t : List ℕ) (k : ℕ) → First y page t k → k ≡ 0 → ⊥
first-number y page t k f z = go f.here
  where
    go : Fault y page t k f.element f.component → ⊥
    go (not-used e x) = omega arith
    go (missing e x) = omega arith
    go (wrong-format e x) = omega arith
    go (wrong-code e x) = omega arith

module _ (y : Syntax) (g : Guide) (pages : ℕ → Page) (i : ℕ) (m : Memory) (s : Segment) where
  -- segment i has this fault first, and this node is named
  pub data Blamed : ℕ → ℕ → Type 0 where
    piece : s.piece ≡ true → Blamed 12 0
    byte : s.piece ≡ false → allowed_bytes s.bytes ≡ false → Blamed 10 0
    tag : s.piece ≡ false → allowed_bytes s.bytes ≡ true → tagged_bytes y s.bytes ≡ false → Blamed 11 0
    place : {k n : ℕ} → Clean y s → sought y g m s ≡ refused k n → Blamed k n
    content : {k n : ℕ} → Clean y s → sought y g m s ≡ placed n → First y (pages n) s.bytes k → Blamed k n
    count :
        {n : ℕ} → Clean y s → sought y g m s ≡ placed n → Holds y (pages n) s.bytes → T (is_tag g (bytes_of "UNT") n) →
        (Closes y g i m.reference s → ⊥) → Blamed 21 n
    line :
        {n : ℕ} → Clean y s → sought y g m s ≡ placed n → Holds y (pages n) s.bytes → T (is_tag g (bytes_of "LIN") n) →
        (count_of (text y s.bytes 1 0) ≡ Some (suc m.positions) → ⊥) → Blamed 22 n

  bytes_blamed : (c : ℕ) → bytes_fault y s ≡ suc c → Blamed (suc c) 0
  unfolding bytes_fault
  bytes_blamed c h = go s.piece refl (allowed_bytes s.bytes) refl (tagged_bytes y s.bytes) refl h
    where
      go
          : (a : Bool) → s.piece ≡ a → (b : Bool) → allowed_bytes s.bytes ≡ b → (d : Bool) → tagged_bytes y s.bytes ≡ d
          → pickℕ a 12 (pickℕ (not b) 10 (pickℕ (not d) 11 0)) ≡ suc c → Blamed (suc c) 0
      go true p b q d r e = rw (sym e) (piece p)
      go false p false q d r e = rw (sym e) (byte p q)
      go false p true q false r e = rw (sym e) (tag p q r)
      go false p true q true r e = absurd (omega arith)

  end-fault : (Closes y g i m.reference s → ⊥) → end_fault y g pages i m.reference s ≡ 21
  unfolding end_fault
  end-fault w =
      or-number (is i (count_of (text y s.bytes 1 0)) && same (text y s.bytes 2 0) m.reference) 21
      (λ z. w (free-closes y g pages i m.reference s z))

  line-fault : (count_of (text y s.bytes 1 0) ≡ Some (suc m.positions) → ⊥) → line_fault y g pages (suc m.positions) s ≡ 22
  unfolding line_fault
  line-fault w = or-number (is (suc m.positions) (count_of (text y s.bytes 1 0))) 22 (λ z. w (free-line y g pages (suc m.positions) s z))

  rule_blamed
      : (n c : ℕ) → Clean y s → sought y g m s ≡ placed n → Holds y (pages n) s.bytes → rule_fault y g pages i m n s ≡ suc c → Blamed (suc c) n
  unfolding rule_fault
  rule_blamed n c k e h f = go (is_tag g (bytes_of "UNT") n) refl (is_tag g (bytes_of "LIN") n) refl f
    where
      go
          : (a : Bool) → is_tag g (bytes_of "UNT") n ≡ a → (b : Bool) → is_tag g (bytes_of "LIN") n ≡ b
          → pickℕ a (end_fault y g pages i m.reference s) (pickℕ b (line_fault y g pages (suc m.positions) s) 0) ≡ suc c → Blamed (suc c) n
      go true a b d q =
          let w : Closes y g i m.reference s → ⊥ = λ x. omega (arith, closes-free y g pages i m.reference s x) in
          let z : suc c ≡ 21 = sym q ∙ end-fault w in
          rw z (count k e h (T_true a) w)
      go false a true d q =
          let w : count_of (text y s.bytes 1 0) ≡ Some (suc m.positions) → ⊥ = λ x. omega (arith, line-free y g pages (suc m.positions) s x) in
          let z : suc c ≡ 22 = sym q ∙ line-fault w in
          rw z (line k e h (T_true d) w)
      go false a false d q = absurd (omega arith)

  content_blamed : (n c : ℕ) → Clean y s → sought y g m s ≡ placed n → content_fault y g pages i m n s ≡ suc c → Blamed (suc c) n
  unfolding content_fault
  content_blamed n c k e f = go (page_fault y (pages n) s.bytes) refl f
    where
      go : (a : ℕ) → page_fault y (pages n) s.bytes ≡ a → or_else a (rule_fault y g pages i m n s) ≡ suc c → Blamed (suc c) n
      go zero p q = rule_blamed n c k e ((holds_iff y (pages n) s.bytes).0 p) q
      go (suc a) p q = content k e ((first_iff y (pages n) s.bytes (suc c) (λ z. omega arith)).0 (p ∙ q))

  answer_blamed : (k n : ℕ) → segment_answer y g pages i m s ≡ refused k n → Blamed k n
  unfolding segment_answer
  answer_blamed k n h = first (bytes_fault y s) refl h
    where
      third
          : (j : ℕ) → sought y g m s ≡ placed j → Clean y s → (c : ℕ) → content_fault y g pages i m j s ≡ c
          → unless_fault y g pages c j ≡ refused k n → Blamed k n
      third j e c zero f q = absurd (let z : ◌≡◌ {A = ℕ} 0 1 = cc in omega arith)
      third j e c (suc d) f q =
          let a : k ≡ suc d = cc in
          let b : n ≡ j = cc in
          rw (a, b) (content_blamed j d c e f)

      second : (a : Answer) → sought y g m s ≡ a → Clean y s → then_content y g pages i m s a ≡ refused k n → Blamed k n
      second (placed j) e c q = third j e c (content_fault y g pages i m j s) refl q
      second (refused d j) e c q = place c (e ∙ q)

      first : (c : ℕ) → bytes_fault y s ≡ c → then_place y g pages c (then_content y g pages i m s (sought y g m s)) ≡ refused k n → Blamed k n
      first zero e q = second (sought y g m s) refl (free-clean y g pages s e) q
      first (suc d) e q =
          let a : k ≡ suc d = cc in
          let b : n ≡ 0 = cc in
          rw (a, b) (bytes_blamed d e)

  -- the answer for a segment that has its node, by the fault of its content
  content-answer
      : (n c : ℕ) → Clean y s → sought y g m s ≡ placed n → content_fault y g pages i m n s ≡ c → (c ≡ 0 → ⊥)
      → segment_answer y g pages i m s ≡ refused c n
  unfolding segment_answer
  content-answer n zero k e f w = absurd (w refl)
  content-answer n (suc c) k e f w = rw (clean_free y g pages s k, e, f)

  -- the fault of a segment against its page comes before 21 and 22
  page-content : (n c : ℕ) → page_fault y (pages n) s.bytes ≡ c → (c ≡ 0 → ⊥) → content_fault y g pages i m n s ≡ c
  unfolding content_fault
  page-content n zero e w = absurd (w refl)
  page-content n (suc c) e w = rw e

  end_content
      : (n : ℕ) → Holds y (pages n) s.bytes → T (is_tag g (bytes_of "UNT") n) → (Closes y g i m.reference s → ⊥)
      → content_fault y g pages i m n s ≡ 21
  unfolding content_fault rule_fault
  end_content n h t w = rw ((holds_iff y (pages n) s.bytes).1 h, true-T (is_tag g (bytes_of "UNT") n) t, end-fault w)

  line-content
      : (n : ℕ) → Holds y (pages n) s.bytes → T (is_tag g (bytes_of "LIN") n)
      → (count_of (text y s.bytes 1 0) ≡ Some (suc m.positions) → ⊥) → content_fault y g pages i m n s ≡ 22
  unfolding content_fault rule_fault
  line-content n h t w =
      rw (
        (holds_iff y (pages n) s.bytes).1 h,
        false-T (is_tag g (bytes_of "UNT") n) (λ x. not-both g n x t),
        true-T (is_tag g (bytes_of "LIN") n) t,
        line-fault w,
      )

  blamed_answer : (k n : ℕ) → Blamed k n → segment_answer y g pages i m s ≡ refused k n
  unfolding segment_answer bytes_fault
  blamed_answer k n (piece p) = rw p
  blamed_answer k n (byte p q) = rw (p, q)
  blamed_answer k n (tag p q r) = rw (p, q, r)
  blamed_answer k n (place c e) = rw (clean_free y g pages s c, e)
  blamed_answer k n (content c e f) =
      let w = first-number y (pages n) s.bytes k f in
      content-answer n k c e (page-content n k ((first_iff y (pages n) s.bytes k w).1 f) w) w
  blamed_answer k n (count c e h t w) = content-answer n 21 c e (end_content n h t w) (λ z. omega arith)
  blamed_answer k n (line c e h t w) = content-answer n 22 c e (line-content n h t w) (λ z. omega arith)

  pub blamed_iff : (k n : ℕ) → (segment_answer y g pages i m s ≡ refused k n) ↔ Blamed k n
  blamed_iff k n = (answer_blamed k n, blamed_answer k n)
