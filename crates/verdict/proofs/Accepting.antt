-- Demand 2 for a message: it is accepted exactly if it is `Accepted`, with the count of its segments and the byte after it. For every table
-- that passes the tests, with any pages.
use Prim.Native.Nat.{ℕ}
use mathlib.Core.Path.{◌≡◌, refl, sym, ◌∙◌}
use mathlib.Core.Bool.{Bool, true, false, true≢false, cond}
use mathlib.Core.Logic.{◌↔◌}
use mathlib.Core.List.{List}
use lib.ListN.{length}
use Rattle.cut.specs.declared.service.Syntax.{Syntax}
use Rattle.cut.specs.Segments.{Segment}
use Rattle.messages.specs.Messages.{Message, close_of}
use Rattle.guide.specs.Nodes.{Guide}
use Rattle.guide.specs.Pricat.{pricat20d, pricat20c}
use Rattle.guide.specs.Page.{Page}
use Rattle.guide.specs.Editions.{guide_of, pages_of}
use Rattle.guide.specs.Pages20c.{page_of20c}
use Rattle.guide.specs.Pages20d.{page_of}
use Rattle.guide.specs.declared.edition.Edition.{Edition}
use Rattle.guide.specs.declared.edition.Edition.TheVariants.{D, C}
use Rattle.guide.specs.workers.Checks.{Passes}
use Rattle.guide.specs.workers.Frames.{Framed}
use Rattle.guide.specs.workers.Heads.{Foremost}
use Rattle.guide.specs.Accepted.{segments_of, Proper, Accepted}
use Rattle.guide.specs.Answers.{Verdict, accepts, refuses}
use Rattle.guide.specs.workers.Judging.{judged}
use Rattle.guide.proofs.Editions.{pricat20d_passes, pricat20c_passes}
use Rattle.guide.proofs.tables.Framing.{pricat20d-framed, pricat20c-framed}
use Rattle.guide.proofs.Heading.{pricat20d-foremost, pricat20c-foremost}
use Rattle.guide.proofs.judging.Verdicts.{accepts_refuses}
use Rattle.guide.proofs.JudgedProper.{accepts_iff}
use Rattle.agree.specs.declared.first.Agreeing.{Agreeing}
use Rattle.std.specs.Prelude.{Option, Some, None}
use Rattle.agree.proofs.Refusal.{searched, accepted_iff}
use Rattle.verdict.specs.Named.{edition_of, guide_named, pages_named}
use Rattle.verdict.specs.Verdicts.{named_of, nodes_of, for_intervals, unless_agreeing, settled, verdict_from, verdict_of}
use Rattle.verdict.proofs.Intervals.{compared_iff}

module _
    (y : Syntax) (g : Guide) (pages : ℕ → Page) (u : ℕ) (p : Passes g u) (h : ℕ) (q : Framed g h u) (f : Foremost g) (m : Message)
  where
    abbrev ss : List Segment
    ss = segments_of m

    -- whether BGM has Z04
    abbrev free : Bool
    free = for_intervals y g (nodes_of y g ss) ss

    -- it is accepted with the count of its segments and the byte after it
    abbrev Stands : ℕ → ℕ → Type 0
    Stands n e = Accepted y g pages m × (n ≡ length ss) × (e ≡ close_of m)

    -- the verdict of the message, from the verdict without rule 23
    abbrev settles : Verdict → Verdict
    settles v = settled y g ss v

    pub is-settled : verdict_of y g pages m ≡ settles (judged y g pages m)
    unfolding verdict_of verdict_from judged
    is-settled = refl

    -- where the rule applies
    settled-compared
        : (v : Proper y g pages m) → free ≡ false → (a : Option Agreeing) → searched y m ≡ a → (n e k o : ℕ)
        → unless_agreeing y g ss a (accepts n e) ≡ accepts k o → (Accepted y g pages m) × (n ≡ k) × (e ≡ o)
    unfolding unless_agreeing
    settled-compared v b (Some x) s n e k o w = absurd (accepts_refuses (sym w))
    settled-compared v b None s n e k o w = ((accepted_iff y g u p f pages m v).1 (λ r. s), cc, cc)

    settled-accepted
        : (v : Verdict) → judged y g pages m ≡ v → (k o : ℕ) → settles v ≡ accepts k o → Stands k o
    unfolding settled
    settled-accepted (refuses n i a x) j k o w = absurd (accepts_refuses (sym w))
    settled-accepted (accepts n e) j k o w = go free refl w
      where
        v : Proper y g pages m × (n ≡ length ss) × (e ≡ close_of m)
        v = (accepts_iff y g pages u p h q m n e).0 j

        go
            : (b : Bool) → free ≡ b → cond b (accepts n e) (unless_agreeing y g ss (searched y m) (accepts n e)) ≡ accepts k o
            → Stands k o
        go true b x =
            let c = compared_iff y g u p ss v.0.sheet in
            let a = (accepted_iff y g u p f pages m v.0).1 (λ r. absurd (true≢false (sym b ∙ c.1 r))) in
            let s : n ≡ k = cc in
            let t : e ≡ o = cc in
            (a, sym s ∙ v.1, sym t ∙ v.2)
        go false b x =
            let a = settled-compared v.0 b (searched y m) refl n e k o x in
            (a.0, sym a.1 ∙ v.1, sym a.2 ∙ v.2)

    accepted-settled : (n e : ℕ) → Stands n e → settles (judged y g pages m) ≡ accepts n e
    unfolding settled unless_agreeing
    accepted-settled n e x =
        let j = (accepts_iff y g pages u p h q m n e).1 (x.0.proper, x.1, x.2) in
        rw j (go free refl)
      where
        go : (b : Bool) → free ≡ b → cond b (accepts n e) (unless_agreeing y g ss (searched y m) (accepts n e)) ≡ accepts n e
        go true b = refl
        go false b =
            let c = (compared_iff y g u p ss x.0.proper.sheet).0 b in
            rw ((accepted_iff y g u p f pages m x.0.proper).0 x.0 c)

    -- A message is accepted exactly if document 01 says so.
    pub verdict_accepts : (n e : ℕ) → (verdict_of y g pages m ≡ accepts n e) ↔ (Accepted y g pages m × (n ≡ length (segments_of m)) × (e ≡ close_of m))
    verdict_accepts n e = (
      λ w. settled-accepted (judged y g pages m) refl n e (sym is-settled ∙ w),
      λ x. is-settled ∙ accepted-settled n e x,
    )

-- ... for each edition with its pages
accepted-by
    : (ed : Edition) (y : Syntax) (m : Message) (n e : ℕ)
    → (verdict_of y (guide_of ed) (pages_of ed) m ≡ accepts n e) ↔ (Accepted y (guide_of ed) (pages_of ed) m × (n ≡ length (segments_of m)) × (e ≡ close_of m))
accepted-by D y m n e = verdict_accepts y pricat20d page_of 26 pricat20d_passes 1 pricat20d-framed pricat20d-foremost m n e
accepted-by C y m n e = verdict_accepts y pricat20c page_of20c 24 pricat20c_passes 1 pricat20c-framed pricat20c-foremost m n e

-- ... for the guide named in UNH
pub accepted-named
    : (y : Syntax) (m : Message) (n e : ℕ)
    → (named_of y m ≡ accepts n e) ↔ (Accepted y (guide_named y m) (pages_named y m) m × (n ≡ length (segments_of m)) × (e ≡ close_of m))
unfolding named_of
accepted-named y m n e = accepted-by (edition_of y (segments_of m)) y m n e
