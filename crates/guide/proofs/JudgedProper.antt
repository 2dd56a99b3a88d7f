-- Demand 2, agreeing positions aside: a message is accepted exactly if it is proper, with the count of its segments and the byte after it.
-- For every table that passes the tests, with any pages.
use Prim.Native.Nat.{ℕ, suc}
use mathlib.Core.Path.{◌≡◌, refl, sym, ◌∙◌}
use mathlib.Core.Bool.{Bool, true, false, cond}
use mathlib.Core.Logic.{◌↔◌, ◌⊎◌, inl, inr}
use lib.ListN.{length}
use Rattle.cut.specs.declared.service.Syntax.{Syntax}
use Rattle.bytewise.specs.Bytes.{bytes_of}
use Rattle.messages.specs.Messages.{Message, close_of}
use Rattle.guide.specs.Nodes.{Guide}
use Rattle.guide.specs.Pricat.{pricat20d, pricat20c}
use Rattle.guide.specs.Page.{Page}
use Rattle.guide.specs.Pages20d.{page_of}
use Rattle.guide.specs.Pages20c.{page_of20c}
use Rattle.guide.specs.workers.Checks.{Passes}
use Rattle.guide.specs.Sheet.{is_tag}
use Rattle.guide.specs.workers.Frames.{Framed}
use Rattle.guide.specs.Accepted.{segments_of, Proper}
use Rattle.guide.specs.Answers.{accepts, refuses}
use Rattle.guide.specs.workers.Judging.{fresh, judged}
use Rattle.guide.proofs.Basics.{T_true, true-T}
use Rattle.guide.proofs.Editions.{pricat20d_passes, pricat20c_passes}
use Rattle.guide.proofs.tables.Framing.{pricat20d-framed, pricat20c-framed}
use Rattle.guide.proofs.judging.Faultless.{kept, Through, Stopped, through_or_stopped}
use Rattle.guide.proofs.judging.Verdicts.{through_judged, stopped_judged, accepts_refuses}
use Rattle.guide.proofs.judging.ProperThrough.{proper_through, through_proper}

module _ (y : Syntax) (g : Guide) (pages : ℕ → Page) (u : ℕ) (p : Passes g u) (h : ℕ) (q : Framed g h u) (m : Message) where
  accepts_proper : (n e : ℕ) → judged y g pages m ≡ accepts n e → Proper y g pages m × (n ≡ length (segments_of m)) × (e ≡ close_of m)
  accepts_proper n e v = go (through_or_stopped y g pages 0 fresh (segments_of m))
    where
      ended
          : (t : Through y g pages 0 fresh (segments_of m)) (b : Bool) → is_tag g (bytes_of "UNT") (kept y g pages fresh t.given).state.last ≡ b
          → cond b (accepts (length (segments_of m)) (close_of m)) (refuses 24 (suc (length (segments_of m))) (close_of m) 0) ≡ accepts n e
          → Proper y g pages m × (n ≡ length (segments_of m)) × (e ≡ close_of m)
      ended t true k w = (through_proper y g pages u p h q m t (T_true k), cc, cc)
      ended t false k w = absurd (accepts_refuses (sym w))

      go
          : Through y g pages 0 fresh (segments_of m) ⊎ Stopped y g pages 0 fresh (segments_of m)
          → Proper y g pages m × (n ≡ length (segments_of m)) × (e ≡ close_of m)
      go (inl t) = ended t (is_tag g (bytes_of "UNT") (kept y g pages fresh t.given).state.last) refl (sym (through_judged y g pages m t) ∙ v)
      go (inr t) = absurd (accepts_refuses (sym v ∙ stopped_judged y g pages m t))

  proper_accepts : (n e : ℕ) → Proper y g pages m × (n ≡ length (segments_of m)) × (e ≡ close_of m) → judged y g pages m ≡ accepts n e
  proper_accepts n e x =
      let t = proper_through y g pages u p h q m x.0 in
      let end : is_tag g (bytes_of "UNT") (kept y g pages fresh t.0.given).state.last ≡ true = rw t.1 (true-T _ q.tail) in
      through_judged y g pages m t.0 ∙ rw (end, x.1, x.2)

  -- A message is accepted exactly if it is proper.
  pub accepts_iff
      : (n e : ℕ) → (judged y g pages m ≡ accepts n e) ↔ (Proper y g pages m × (n ≡ length (segments_of m)) × (e ≡ close_of m))
  accepts_iff n e = (accepts_proper n e, proper_accepts n e)

-- ... for PRICAT 2.0d with its pages
pub accepts_20d
    : (y : Syntax) (m : Message) (n e : ℕ)
    → (judged y pricat20d page_of m ≡ accepts n e) ↔ (Proper y pricat20d page_of m × (n ≡ length (segments_of m)) × (e ≡ close_of m))
accepts_20d y m n e = accepts_iff y pricat20d page_of 26 pricat20d_passes 1 pricat20d-framed m n e

-- ... and for 2.0c
pub accepts_20c
    : (y : Syntax) (m : Message) (n e : ℕ)
    → (judged y pricat20c page_of20c m ≡ accepts n e) ↔ (Proper y pricat20c page_of20c m × (n ≡ length (segments_of m)) × (e ≡ close_of m))
accepts_20c y m n e = accepts_iff y pricat20c page_of20c 24 pricat20c_passes 1 pricat20c-framed m n e
