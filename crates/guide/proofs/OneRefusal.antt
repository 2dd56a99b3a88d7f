-- A message has one refusal at most: two of them have equal number, segment, place and node. For every table that passes the tests, with any pages; and for
-- both editions of PRICAT.
use Prim.Native.Nat.{ℕ}
use mathlib.Core.Path.{◌≡◌, refl, sym, ◌∙◌, ap, subst}
use lib.ListN.{length}
use Rattle.cut.specs.declared.service.Syntax.{Syntax}
use Rattle.cut.specs.Segments.{Segment}
use Rattle.messages.specs.Messages.{Message, close_of}
use Rattle.guide.specs.Nodes.{Guide, number_of}
use Rattle.guide.specs.Page.{Page}
use Rattle.guide.specs.Tree.{Kids}
use Rattle.guide.specs.Editions.{guide_of, pages_of}
use Rattle.guide.specs.Pricat.{pricat20d, pricat20c}
use Rattle.guide.specs.Pages20d.{page_of}
use Rattle.guide.specs.Pages20c.{page_of20c}
use Rattle.guide.specs.declared.edition.Edition.{Edition}
use Rattle.guide.specs.declared.edition.Edition.TheVariants.{D, C}
use Rattle.guide.specs.Answers.{refuses}
use Rattle.guide.specs.Accepted.{seen, segments_of}
use Rattle.guide.specs.Refusal.{Refused, Repeated, Repeats, Refusal, for_fault, for_agreement}
use Rattle.guide.specs.workers.Checks.{Passes}
use Rattle.guide.specs.workers.Frames.{Framed}
use Rattle.guide.proofs.Editions.{one-whole, pricat20d_passes, pricat20c_passes}
use Rattle.guide.proofs.tables.Framing.{pricat20d-framed, pricat20c-framed}
use Rattle.guide.proofs.judging.Verdicts.{accepts_refuses}
use Rattle.guide.proofs.judging.Repeating.{repeated-one}
use Rattle.guide.proofs.JudgedProper.{accepts_iff}
use Rattle.guide.proofs.JudgedRefused.{refuses_iff}

-- number, segment, place and node are equal
abbrev pub Same : ℕ → ℕ → ℕ → ℕ → ℕ → ℕ → ℕ → ℕ → Type 0
Same k i a n k' i' a' n' = (k ≡ k') × (i ≡ i') × (a ≡ a') × (n ≡ n')

same_parts : (k i a n k' i' a' n' : ℕ) → refuses k i a n ≡ refuses k' i' a' n' → Same k i a n k' i' a' n'
same_parts k i a n k' i' a' n' e = (cc, cc, cc, cc)

module _ (y : Syntax) (g : Guide) (pages : ℕ → Page) (u : ℕ) (p : Passes g u) (h : ℕ) (q : Framed g h u) (m : Message) where
  -- a message with a fault has no agreeing positions to be refused for: "23 comes only when all else holds"
  not-both : (k i a n j b x : ℕ) → Refused y g pages m k i a n → Repeats y g pages m j b x → ⊥
  not-both k i a n j b x r s =
      accepts_refuses
      (sym ((accepts_iff y g pages u p h q m (length (segments_of m)) (close_of m)).1 (s.proper, refl, refl))
      ∙ (refuses_iff y g pages u p h q m k i a n).1 r)

  repeats-one : (i a n j b x : ℕ) → Repeats y g pages m i a n → Repeats y g pages m j b x → (i ≡ j) × (a ≡ b) × (n ≡ x)
  repeats-one i a n j b x r s =
      repeated-one y g r.proper.sheet.tree i a n j b x r.repeated
      (subst (λ (t : Kids Segment). Repeated y g t j b x) (one-whole g u p (seen y) (segments_of m) s.proper.sheet r.proper.sheet) s.repeated)

  -- Two refusals of one message say the same.
  pub one-refusal : (k i a n k' i' a' n' : ℕ) → Refusal y g pages m k i a n → Refusal y g pages m k' i' a' n' → Same k i a n k' i' a' n'
  one-refusal k i a n k' i' a' n' (for_fault r) (for_fault s) =
      same_parts k i a n k' i' a' n' (sym ((refuses_iff y g pages u p h q m k i a n).1 r) ∙ (refuses_iff y g pages u p h q m k' i' a' n').1 s)
  one-refusal k i a n k' i' a' n' (for_fault r) (for_agreement {n = x} s) = absurd (not-both k i a n i' a' x r s)
  one-refusal k i a n k' i' a' n' (for_agreement {n = x} r) (for_fault s) = absurd (not-both k' i' a' n' i a x s r)
  one-refusal k i a n k' i' a' n' (for_agreement {n = x} r) (for_agreement {n = z} s) =
      let same = repeats-one i a x i' a' z r s in
      (refl, same.0, same.1, ap (number_of g) same.2)

-- ... by the guide of each edition
pub one-refusal_of
    : (ed : Edition) (y : Syntax) (m : Message) (k i a n k' i' a' n' : ℕ) → Refusal y (guide_of ed) (pages_of ed) m k i a n
    → Refusal y (guide_of ed) (pages_of ed) m k' i' a' n' → Same k i a n k' i' a' n'
one-refusal_of D y m = one-refusal y pricat20d page_of 26 pricat20d_passes 1 pricat20d-framed m
one-refusal_of C y m = one-refusal y pricat20c page_of20c 24 pricat20c_passes 1 pricat20c-framed m
