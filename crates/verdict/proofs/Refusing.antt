-- Demand 1 for a message: it is refused with number, segment, place and node exactly if document 01 says so. For every table that passes
-- the tests, with any pages.
use Prim.Native.Nat.{ℕ}
use mathlib.Core.Path.{◌≡◌, refl, sym, ◌∙◌, ap}
use mathlib.Core.Bool.{Bool, true, false, cond}
use mathlib.Core.Logic.{◌↔◌}
use mathlib.Core.List.{List, ◌∷◌}
use lib.ListN.{length, get_or}
use Rattle.cut.specs.declared.service.Syntax.{Syntax}
use Rattle.cut.specs.Segments.{Segment}
use Rattle.messages.specs.Messages.{Message, close_of}
use Rattle.guide.specs.Nodes.{Guide, number_of}
use Rattle.guide.specs.Pricat.{pricat20d, pricat20c}
use Rattle.guide.specs.Page.{Page}
use Rattle.guide.specs.Editions.{guide_of, pages_of}
use Rattle.guide.specs.Pages20c.{page_of20c}
use Rattle.guide.specs.Pages20d.{page_of}
use Rattle.guide.specs.declared.edition.Edition.{Edition}
use Rattle.guide.specs.declared.edition.Edition.TheVariants.{D, C}
use Rattle.guide.specs.workers.Checks.{Passes}
use Rattle.guide.specs.workers.Frames.{Framed}
use Rattle.guide.specs.workers.Heads.{Foremost}
use Rattle.guide.specs.Accepted.{segments_of, Proper}
use Rattle.guide.specs.Refusal.{Repeats, Refusal, for_fault, for_agreement}
use Rattle.guide.specs.Answers.{Verdict, accepts, refuses}
use Rattle.guide.specs.workers.Judging.{judged}
use Rattle.guide.proofs.Editions.{pricat20d_passes, pricat20c_passes}
use Rattle.guide.proofs.tables.Framing.{pricat20d-framed, pricat20c-framed}
use Rattle.guide.proofs.Heading.{pricat20d-foremost, pricat20c-foremost}
use Rattle.guide.proofs.judging.Verdicts.{accepts_refuses}
use Rattle.guide.proofs.JudgedProper.{accepts_iff}
use Rattle.guide.proofs.JudgedRefused.{refuses_iff}
use Rattle.agree.specs.declared.first.Agreeing.{Agreeing}
use Rattle.std.specs.Prelude.{Option, Some, None}
use Rattle.agree.proofs.Refusal.{searched, repeats_iff, repeats-found, repeated-node}
use Rattle.verdict.specs.Named.{edition_of, guide_named, pages_named}
use Rattle.verdict.specs.Verdicts.{named_of, nodes_of, node_of, for_intervals, unless_agreeing, settled, verdict_of}
use Rattle.verdict.proofs.Intervals.{nodes_tree, compared_iff}
use Rattle.verdict.proofs.Accepting.{is-settled}

module _
    (y : Syntax) (g : Guide) (pages : ℕ → Page) (u : ℕ) (p : Passes g u) (h : ℕ) (q : Framed g h u) (f : Foremost g) (m : Message)
  where
    abbrev ss : List Segment
    ss = segments_of m

    -- whether BGM has Z04
    abbrev free : Bool
    free = for_intervals y g (nodes_of y g ss) ss

    abbrev RefusedWith : ℕ → ℕ → ℕ → ℕ → Type 0
    RefusedWith k i a n = Refusal y g pages m k i a n

    -- the row of the table of which 23 names the node
    node-named : (i a n : ℕ) → Repeats y g pages m i a n → node_of y g ss i ≡ n
    unfolding node_of
    node-named i a n r =
        let j = length r.repeated.front in
        ap (λ (x : ℕ). get_or (0 ∷ nodes_of y g ss) x 0) r.repeated.number
        ∙ ap (λ (ns : List ℕ). get_or ns j 0) (nodes_tree y g u p ss r.proper.sheet)
        ∙ repeated-node y g r.proper.sheet.tree i a n r.repeated j r.repeated.number

    same-refusal : (k i a n k' i' a' n' : ℕ) → refuses k i a n ≡ refuses k' i' a' n' → RefusedWith k i a n → RefusedWith k' i' a' n'
    same-refusal k i a n k' i' a' n' e r =
        let b : k' ≡ k = cc in
        let c : i' ≡ i = cc in
        let d : a' ≡ a = cc in
        let o : n' ≡ n = cc in
        rw (b, c, d, o) r

    -- all else holds, and the rule applies
    agreement_refused
        : (v : Proper y g pages m) → free ≡ false → (x : Option Agreeing) → searched y m ≡ x → (s e k i a n : ℕ)
        → unless_agreeing y g ss x (accepts s e) ≡ refuses k i a n → RefusedWith k i a n
    unfolding unless_agreeing
    agreement_refused v b None j s e k i a n w = absurd (accepts_refuses w)
    agreement_refused v b (Some x) j s e k i a n w =
        let c = (compared_iff y g u p ss v.sheet).0 b in
        let i' = x.segment in
        let a' = x.place in
        let r = (repeats_iff y g u p f pages m v c i' a').0 j in
        let o : refuses 23 i' a' (number_of g r.0) ≡ refuses k i a n =
        ap (λ (x : ℕ). refuses 23 i' a' (number_of g x)) (sym (node-named i' a' r.0 r.1)) ∙ w in
        same-refusal 23 i' a' (number_of g r.0) k i a n o (for_agreement r.1)

    settled_refused : (v : Verdict) → judged y g pages m ≡ v → (k i a n : ℕ) → settled y g ss v ≡ refuses k i a n → RefusedWith k i a n
    unfolding settled
    settled_refused (refuses k' i' a' n') j k i a n w = for_fault ((refuses_iff y g pages u p h q m k i a n).0 (j ∙ w))
    settled_refused (accepts s e) j k i a n w = go free refl w
      where
        go
            : (b : Bool) → free ≡ b → cond b (accepts s e) (unless_agreeing y g ss (searched y m) (accepts s e)) ≡ refuses k i a n
            → RefusedWith k i a n
        go true b x = absurd (accepts_refuses x)
        go false b x = agreement_refused ((accepts_iff y g pages u p h q m s e).0 j).0 b (searched y m) refl s e k i a n x

    refusal-settled : (k i a n : ℕ) → RefusedWith k i a n → settled y g ss (judged y g pages m) ≡ refuses k i a n
    unfolding settled unless_agreeing
    refusal-settled k i a n (for_fault r) = rw ((refuses_iff y g pages u p h q m k i a n).1 r)
    refusal-settled k i a n (for_agreement {n = x} r) =
        let j = (accepts_iff y g pages u p h q m (length ss) (close_of m)).1 (r.proper, refl, refl) in
        let b = (compared_iff y g u p ss r.proper.sheet).1 r.compared in
        let found = repeats-found y g u p f pages m i a x r in
        rw (j, b, found, node-named i a x r)

    -- A message is refused with number, segment, place and node exactly if document 01 says so.
    pub verdict_refuses : (k i a n : ℕ) → (verdict_of y g pages m ≡ refuses k i a n) ↔ Refusal y g pages m k i a n
    verdict_refuses k i a n = (
      λ w. settled_refused (judged y g pages m) refl k i a n (sym (is-settled y g pages u p h q f m) ∙ w),
      λ r. is-settled y g pages u p h q f m ∙ refusal-settled k i a n r,
    )

-- ... for each edition with its pages
refused_by
    : (ed : Edition) (y : Syntax) (m : Message) (k i a n : ℕ)
    → (verdict_of y (guide_of ed) (pages_of ed) m ≡ refuses k i a n) ↔ Refusal y (guide_of ed) (pages_of ed) m k i a n
refused_by D y m k i a n = verdict_refuses y pricat20d page_of 26 pricat20d_passes 1 pricat20d-framed pricat20d-foremost m k i a n
refused_by C y m k i a n = verdict_refuses y pricat20c page_of20c 24 pricat20c_passes 1 pricat20c-framed pricat20c-foremost m k i a n

-- ... for the guide named in UNH
pub refused_named
    : (y : Syntax) (m : Message) (k i a n : ℕ) → (named_of y m ≡ refuses k i a n) ↔ Refusal y (guide_named y m) (pages_named y m) m k i a n
unfolding named_of
refused_named y m k i a n = refused_by (edition_of y (segments_of m)) y m k i a n
