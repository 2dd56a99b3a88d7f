-- The answer of each return, from what the walk and the tests say.
use Prim.Native.Nat.{ℕ, zero, suc}
use mathlib.Core.Path.{◌≡◌, refl, sym, ◌∙◌, ap}
use mathlib.Core.Bool.{Bool, true, false, not, cond, true≢false}
use mathlib.Core.List.{List, [], ◌∷◌}
use lib.ListN.{length}
use borrow.Author.Tests.{not-true}
use Rattle.bytewise.specs.Bytes.{begins}
use Rattle.bytewise.proofs.Booleans.{and_both}
use Rattle.cut.specs.declared.service.Syntax.{Syntax}
use Rattle.std.specs.Prelude.{None, Result, Ok, Err, ⊤}
use Rattle.std.specs.Result.{IsErrAnd}
use Rattle.cut.specs.declared.admit.Inadmissible.{Inadmissible}
use Rattle.envelope.specs.declared.judging.Incomplete.{Incomplete}
use Rattle.envelope.specs.declared.judging.Reason.TheVariants.{Delivery}
use Rattle.cut.specs.Segments.{Segment, segments_at}
use Rattle.cut.specs.Admission.{admission_of, number_of, opening_of, segments}
use Rattle.cut.specs.Calls.{some_cut, segment_at}
use Rattle.cut.proofs.Refusing.{number-some}
use Rattle.cut.proofs.Ahead.{cut_ahead, none_ahead}
use Rattle.cut.proofs.Places.{admitted}
use Rattle.element.proofs.ComponentFace.{same_true}
use Rattle.messages.specs.Messages.{messages}
use Rattle.plain.specs.Plain.{same}
use Rattle.envelope.specs.declared.walking.Walk.{Walk}
use Rattle.envelope.specs.Required.{UNB, UNZ, at, in_UNB, in_UNZ, text}
use Rattle.envelope.specs.Envelope.{Enveloped, Complete, Refused, enveloped, stands, counts, or_stray, unless_refused, lacks, paired, strays}
use Rattle.envelope.specs.Envelope.{closed_by, opened_by, envelope_of}
use Rattle.envelope.specs.workers.Walk.{segment_in, last_in, Walked}
use Rattle.envelope.specs.workers.Rows.{whole_in, or_place, first_row, rows_of, Opened}
use Rattle.envelope.proofs.settling.Rows.{empty-counts, lacks-one, one-lacks, full-UNZ}
use Rattle.envelope.proofs.walks.Found.{messages-found, some-stray, no_stray}

-- a segment that is whole and begins with a tag
stands-both : (tag : List ℕ) (s : Segment) → stands tag s ≡ true → (s.piece ≡ false) × (begins tag s.bytes ≡ true)
unfolding stands
stands-both tag s h =
    let b = and_both (not s.piece) (begins tag s.bytes) h in
    (not-true s.piece b.0, b.1)

whole-stands : (tag : List ℕ) (s : Segment) → s.piece ≡ false → begins tag s.bytes ≡ true → stands tag s ≡ true
unfolding stands
whole-stands tag s p t = rw (p, t)

module _ (y : Syntax) (d : List ℕ) where
  -- 1 and 2
  pub is_refused : (e : Inadmissible) → number_of e ≡ admission_of y d → Refused (number_of e) 0 ≡ envelope_of y d
  unfolding envelope_of
  is_refused e h = rw (← h) (go (number_of e) (number-some e))
    where
      go : (k : ℕ) → (k ≡ 0 → ⊥) → Refused k 0 ≡ unless_refused k (opened_by y d (segments y d))
      go zero n = absurd (n refl)
      go (suc k) n = refl

  -- what `?` makes of such a refusal
  pub is-carried
      : (e : Inadmissible) → number_of e ≡ admission_of y d → (r : Result ⊤ Incomplete)
      → IsErrAnd r (λ (i : Incomplete). i ≡ record { reason = Delivery e; place = 0 }) → enveloped r ≡ envelope_of y d
  is-carried e h (Ok u) k = absurd k
  is-carried e h (Err i) k = rw k (is_refused e h)

  module _ (admits : admission_of y d ≡ 0) (p : ℕ) (opens : p ≡ opening_of y d) where
    all : segments y d ≡ segments_at y d p
    all = admitted y d admits ∙ ap (segments_at y d) (sym opens)

    -- 50
    pub is-empty : segment_at y d p ≡ None → Refused 50 (length d) ≡ envelope_of y d
    unfolding envelope_of opened_by
    is-empty h = rw (admits, all, none_ahead y d p h)

    module _ (s e : ℕ) (b : Bool) (h : segment_at y d p ≡ some_cut s e b) where
      pub is-not-UNB : stands UNB (segment_in d s e b) ≡ false → Refused 50 s ≡ envelope_of y d
      unfolding envelope_of opened_by
      is-not-UNB n = rw (admits, all, (cut_ahead y d p s e b h).list, n)

      pub is-UNB : stands UNB (segment_in d s e b) ≡ true → Opened y d s e
      is-UNB t =
          let q = cut_ahead y d p s e b h in
          let z = stands-both UNB (segment_in d s e b) t in
          record {
            admitted = admits;
            some = q.some;
            fits = q.fits;
            first = all ∙ q.list ∙ ap (λ (c : Bool). segment_in d s e c ∷ segments_at y d e) z.0;
            tag = z.1;
          }

  module _ (start end : ℕ) (o : Opened y d start end) (w : Walk) (k : Walked y d start end w) where
    abbrev f : Segment
    f = whole_in d start end

    abbrev l : Segment
    l = last_in d w

    by_last : closed_by y d f l ≡ envelope_of y d
    unfolding envelope_of opened_by
    by_last = rw (o.admitted, o.first, whole-stands UNB f refl o.tag, k.last)

    -- 51
    pub is-not-UNZ : stands UNZ l ≡ false → Refused 51 w.last.start ≡ envelope_of y d
    unfolding closed_by
    is-not-UNZ n = rw n at by_last

    -- 52 to 55
    abbrev agrees : Bool
    agrees = same (text y f (at 5 0)) (text y l (at 2 0))

    abbrev counted : Bool
    counted = counts (text y l (at 1 0)) (length (messages y d))

    not-empty : counted ≡ true → text y l (at 1 0) ≡ [] → ⊥
    not-empty c e = true≢false (sym c ∙ ap (λ (t : List ℕ). counts t (length (messages y d))) e ∙ empty-counts (length (messages y d)))

    -- where UNB lacks nothing, UNZ does not either
    full : agrees ≡ true → counted ≡ true → lacks y f in_UNB ≡ false → (b : Bool) → lacks y l in_UNZ ≡ b → b ≡ false
    full a c n true e =
        absurd
        (full-UNZ y f l (same_true (text y f (at 5 0)) (text y l (at 2 0)) a) (not-empty c)
        (λ h. true≢false (sym (one-lacks y f in_UNB h) ∙ n)) (lacks-one y l in_UNZ e))
    full a c n false e = refl

    abbrev required : Bool → Bool → Enveloped
    required b c = cond b (Refused 55 start) (cond c (Refused 55 w.last.start) Complete)

    rows_55
        : agrees ≡ true → counted ≡ true → (b : Bool) → lacks y f in_UNB ≡ b → cond b (Refused 55 start) Complete ≡ required b (lacks y l in_UNZ)
    rows_55 a c true e = refl
    rows_55 a c false e = rw (full a c e (lacks y l in_UNZ) refl)

    rows_54
        : agrees ≡ true → counted ≡ true → (ss : List Segment) → strays y d f l ≡ ss
        → or_place w.stray (cond (lacks y f in_UNB) (Refused 55 start) Complete)
        ≡ or_stray ss (required (lacks y f in_UNB) (lacks y l in_UNZ))
    rows_54 a c [] e = rw (no_stray y d start end o w k e) (rows_55 a c (lacks y f in_UNB) refl)
    rows_54 a c (s ∷ ss) e = rw (some-stray y d start end o w k s ss e)

    rows
        : (b c : Bool) → agrees ≡ b → counted ≡ c
        → first_row b c w.stray (lacks y f in_UNB) start w.last.start
        ≡ cond (not b) (Refused 52 w.last.start)
        (cond (not c) (Refused 53 w.last.start) (or_stray (strays y d f l) (required (lacks y f in_UNB) (lacks y l in_UNZ))))
    rows false c a e = refl
    rows true false a e = refl
    rows true true a e = rows_54 a e (strays y d f l) refl

    pub is-matched : stands UNZ l ≡ true → rows_of y d start end w ≡ envelope_of y d
    unfolding closed_by paired
    is-matched t =
        rw (messages-found y d start end o w k) (rows agrees counted refl refl) ∙ (rw t at by_last)
