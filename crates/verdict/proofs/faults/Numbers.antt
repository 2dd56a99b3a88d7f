-- The faults of one segment, one law for each answer of the workers.
use Prim.Native.Nat.{ℕ, suc, ◌+◌}
use mathlib.Core.Path.{◌≡◌, ◌∙◌}
use mathlib.Core.Bool.{Bool, true, false}
use mathlib.Core.List.{List}
use native.Mathlib.Omega.{arith}
use Rattle.cut.specs.declared.service.Syntax.{Syntax}
use Rattle.bytewise.specs.Bytes.{part}
use Rattle.cut.specs.Segments.{Segment}
use Rattle.value.specs.Digits.{count_of}
use Rattle.plain.specs.Plain.{same}
use Rattle.guide.specs.Content.{text}
use Rattle.guide.specs.workers.Judging.{Memory, is, end_fault, line_fault, rule_fault, content_fault}
use Rattle.guide.specs.workers.PageFault.{page_fault}
use Rattle.guide.specs.Editions.{guide_of, pages_of}
use Rattle.guide.specs.declared.edition.Edition.{Edition}
use Rattle.page.specs.Reading.{segment_in}
use Rattle.verdict.specs.declared.roles.Role.{Role}
use Rattle.verdict.specs.declared.roles.Role.TheVariants.{Lin, Unt}
use Rattle.verdict.specs.workers.Segments.{role_of, is_lin, is_unt, rule_by}
use Rattle.verdict.proofs.roles.RoleTags.{role_rule}

-- the first one behind the tag
pub numbered : (n : ℕ) (t own : List ℕ) (c : Bool) → c ≡ is n (count_of t) → t ≡ own → c ≡ is n (count_of own)
numbered n t own c h e = rw (← e) h

-- 21
module _ (ed : Edition) (y : Syntax) (i : ℕ) (r : List ℕ) (s : Segment) (c : Bool) (counts : c ≡ is i (count_of (text y s.bytes 1 0))) where
  abbrev end : ℕ
  end = end_fault y (guide_of ed) (pages_of ed) i r s

  pub count-fault : c ≡ false → 21 ≡ end
  unfolding end_fault
  count-fault h = rw (← counts, h)

  module _ (right : c ≡ true) (t : List ℕ) (own : t ≡ text y s.bytes 2 0) (b : Bool) (refers : b ≡ same t r) where
    pub reference-fault : b ≡ false → 21 ≡ end
    unfolding end_fault
    reference-fault h = rw (← counts, right, ← own, ← refers, h)

    pub no_end_fault : b ≡ true → 0 ≡ end
    unfolding end_fault
    no_end_fault h = rw (← counts, right, ← own, ← refers, h)

-- 21 or 22, by the role
module _ (ed : Edition) (y : Syntax) (i : ℕ) (m : Memory) (role : Role) (s : Segment) where
  pub rule_end : role ≡ Unt → (r : ℕ) → r ≡ end_fault y (guide_of ed) (pages_of ed) i m.reference s → r ≡ rule_by ed y i m role s
  unfolding rule_by
  rule_end h r e = rw h e

  module _ (lin : role ≡ Lin) (c : Bool) (counts : c ≡ is (m.positions + 1) (count_of (text y s.bytes 1 0))) where
    counted : c ≡ is (suc m.positions) (count_of (text y s.bytes 1 0))
    counted =
        let z : suc m.positions ≡ m.positions + 1 = omega arith in
        rw z counts

    pub rule_line : c ≡ false → 22 ≡ rule_by ed y i m role s
    unfolding rule_by line_fault
    rule_line h = rw (lin, ← counted, h)

    pub no_line-fault : c ≡ true → 0 ≡ rule_by ed y i m role s
    unfolding rule_by line_fault
    no_line-fault h = rw (lin, ← counted, h)

  pub no_rule : is_unt role ≡ false → is_lin role ≡ false → 0 ≡ rule_by ed y i m role s
  unfolding rule_by
  no_rule u l = rw (u, l)

-- 21 or 22 of a segment whose components have no fault; that it is no piece says nothing here
pub content_rule
    : (ed : Edition) (y : Syntax) (i : ℕ) (m : Memory) (n a e : ℕ) (p : Bool) (d : List ℕ) → page_fault y (pages_of ed n) (part a e d) ≡ 0
    → (role : Role) → role ≡ role_of ed n → (r : ℕ) → r ≡ rule_by ed y i m role (segment_in a e false d)
    → r ≡ content_fault y (guide_of ed) (pages_of ed) i m n (segment_in a e p d)
unfolding content_fault rule_fault end_fault line_fault
content_rule ed y i m n a e p d none role o r h = rw none (h ∙ rw o (role_rule ed n y i m (segment_in a e false d)))
