-- Demand 1 for a message, agreeing positions aside: it is refused with number, segment, place and node exactly if document 01 says so of its
-- first segment with a fault, or of its end. For every table that passes the tests, with any pages.
use Prim.Native.Nat.{ℕ, suc, ◌+◌}
use mathlib.Core.Path.{◌≡◌, refl, sym, ◌∙◌, ap}
use mathlib.Core.Bool.{Bool, true, false, cond}
use mathlib.Core.Logic.{◌↔◌, ◌⊎◌, inl, inr}
use mathlib.Core.List.{List, ◌∷◌, ◌++◌}
use native.Mathlib.Omega.{arith}
use lib.ListN.{length, length-map}
use Rattle.cut.specs.declared.service.Syntax.{Syntax}
use Rattle.bytewise.specs.Bytes.{bytes_of}
use Rattle.cut.specs.Segments.{Segment}
use Rattle.messages.specs.Messages.{Message, close_of}
use Rattle.guide.specs.Nodes.{Guide, number_of}
use Rattle.guide.specs.Pricat.{pricat20d, pricat20c}
use Rattle.guide.specs.Page.{Page}
use Rattle.guide.specs.Pages20d.{page_of}
use Rattle.guide.specs.Pages20c.{page_of20c}
use Rattle.guide.specs.Tree.{Given}
use Rattle.guide.specs.workers.Checks.{Passes}
use Rattle.guide.specs.Sheet.{is_tag}
use Rattle.guide.specs.workers.Frames.{Framed}
use Rattle.guide.specs.Accepted.{segments_of}
use Rattle.guide.specs.Answers.{accepts, refuses}
use Rattle.guide.specs.workers.Judging.{fresh, judged}
use Rattle.guide.specs.Refusal.{FaultAfter, Refused, at_segment, at_end}
use Rattle.guide.proofs.Basics.{false-T}
use Rattle.guide.proofs.Editions.{pricat20d_passes, pricat20c_passes}
use Rattle.guide.proofs.tables.Framing.{pricat20d-framed, pricat20c-framed}
use Rattle.guide.proofs.judging.Faultless.{segments_in, kept, Through, Stopped, through_or_stopped}
use Rattle.guide.proofs.judging.Verdicts.{through_judged, stopped_judged, accepts_refuses}
use Rattle.guide.proofs.judging.FaultFound.{fault-found}
use Rattle.guide.proofs.judging.FaultFree.{free_iff}
use Rattle.guide.proofs.judging.LastTag.{last-tagged}

module _ (y : Syntax) (g : Guide) (pages : ℕ → Page) (u : ℕ) (p : Passes g u) (h : ℕ) (q : Framed g h u) (m : Message) where
  size : (xs : List (Given Segment)) → length xs ≡ length (segments_in xs)
  size xs = sym (length-map xs (λ (x : Given Segment). x.segment))

  ended_refused
      : (t : Through y g pages 0 fresh (segments_of m)) → is_tag g (bytes_of "UNT") (kept y g pages fresh t.given).state.last ≡ false
      → Refused y g pages m 24 (suc (length (segments_of m))) (close_of m) 0
  ended_refused t e =
      at_end ((free_iff y g pages u p h q (segments_of m)).0 t) (λ z. rw e at ((last-tagged y g pages u p m t (bytes_of "UNT")).1 z))

  stopped_refused
      : (t : Stopped y g pages 0 fresh (segments_of m))
      → Refused y g pages m t.number (suc (length t.given)) t.segment.start (number_of g t.node)
  stopped_refused t =
      let z : length t.given + 0 ≡ length t.given = omega arith in
      let front : Through y g pages 0 fresh (segments_in t.given) = record { given = t.given; same = refl; faultless = t.faultless } in
      let fault = (fault-found y g pages u p h q t.given t.faultless t.segment t.number t.node).0 (rw z at t.why) in
      rw (size t.given)
      (at_segment (segments_in t.given) t.segment t.rest t.split ((free_iff y g pages u p h q (segments_in t.given)).0 front) fault)

  refuses_refused : (k i a n : ℕ) → judged y g pages m ≡ refuses k i a n → Refused y g pages m k i a n
  refuses_refused k i a n v = go (through_or_stopped y g pages 0 fresh (segments_of m))
    where
      same
          : (k' i' a' n' : ℕ) → refuses k' i' a' n' ≡ refuses k i a n → Refused y g pages m k' i' a' n' → Refused y g pages m k i a n
      same k' i' a' n' e r =
          let c : k ≡ k' = cc in
          let d : i ≡ i' = cc in
          let f : a ≡ a' = cc in
          let b : n ≡ n' = cc in
          rw (c, d, f, b) r

      ended
          : (t : Through y g pages 0 fresh (segments_of m)) (b : Bool) → is_tag g (bytes_of "UNT") (kept y g pages fresh t.given).state.last ≡ b
          → cond b (accepts (length (segments_of m)) (close_of m)) (refuses 24 (suc (length (segments_of m))) (close_of m) 0) ≡ refuses k i a n
          → Refused y g pages m k i a n
      ended t true e w = absurd (accepts_refuses w)
      ended t false e w = same 24 (suc (length (segments_of m))) (close_of m) 0 w (ended_refused t e)

      go : Through y g pages 0 fresh (segments_of m) ⊎ Stopped y g pages 0 fresh (segments_of m) → Refused y g pages m k i a n
      go (inl t) = ended t (is_tag g (bytes_of "UNT") (kept y g pages fresh t.given).state.last) refl (sym (through_judged y g pages m t) ∙ v)
      go (inr t) =
          same t.number (suc (length t.given)) t.segment.start (number_of g t.node) (sym (stopped_judged y g pages m t) ∙ v)
          (stopped_refused t)

  refused_refuses : (k i a n : ℕ) → Refused y g pages m k i a n → judged y g pages m ≡ refuses k i a n
  refused_refuses k i a n (at_segment {n = x} before s after e free fault) =
      let t = (free_iff y g pages u p h q before).1 free in
      let z : length t.given ≡ length t.given + 0 = omega arith in
      let found : FaultAfter y g pages (segments_in t.given) s k x = rw t.same fault in
      let stopped : Stopped y g pages 0 fresh (segments_of m) =
      record {
        given = t.given;
        segment = s;
        rest = after;
        split = e ∙ ap (λ (us : List Segment). us ++ (s ∷ after)) (sym t.same);
        faultless = t.faultless;
        number = k;
        node = x;
        why = rw (sym z) ((fault-found y g pages u p h q t.given t.faultless s k x).1 found);
      }
      in
      let length-is : length t.given ≡ length before = size t.given ∙ ap length t.same in
      stopped_judged y g pages m stopped ∙ ap (λ (j : ℕ). refuses k (suc j) s.start (number_of g x)) length-is
  refused_refuses k i a n (at_end free w) =
      let t = (free_iff y g pages u p h q (segments_of m)).1 free in
      let UNT = is_tag g (bytes_of "UNT") (kept y g pages fresh t.given).state.last in
      let no : UNT ≡ false = false-T UNT (λ x. w ((last-tagged y g pages u p m t (bytes_of "UNT")).0 x)) in
      through_judged y g pages m t ∙ rw no

  -- A message is refused exactly if document 01 says so.
  pub refuses_iff : (k i a n : ℕ) → (judged y g pages m ≡ refuses k i a n) ↔ Refused y g pages m k i a n
  refuses_iff k i a n = (refuses_refused k i a n, refused_refuses k i a n)

-- ... for PRICAT 2.0d with its pages
pub refuses_20d
    : (y : Syntax) (m : Message) (k i a n : ℕ)
    → (judged y pricat20d page_of m ≡ refuses k i a n) ↔ Refused y pricat20d page_of m k i a n
refuses_20d y m k i a n = refuses_iff y pricat20d page_of 26 pricat20d_passes 1 pricat20d-framed m k i a n

-- ... and for 2.0c
pub refuses_20c
    : (y : Syntax) (m : Message) (k i a n : ℕ)
    → (judged y pricat20c page_of20c m ≡ refuses k i a n) ↔ Refused y pricat20c page_of20c m k i a n
refuses_20c y m k i a n = refuses_iff y pricat20c page_of20c 24 pricat20c_passes 1 pricat20c-framed m k i a n
