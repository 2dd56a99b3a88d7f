-- The answer row by row: where it is a refusal, its row is broken and none before it; where it is complete, none is.
use Prim.Native.Nat.{ℕ, zero, suc, ◌<◌, ◌≤◌}
use mathlib.Core.Path.{◌≡◌, refl, sym, ◌∙◌, ap, subst}
use mathlib.Core.Bool.{Bool, true, false, not, cond, true≢false}
use mathlib.Core.List.{List, [], ◌∷◌, nil≢cons}
use mathlib.Core.Logic.{◌⊎◌, inl, inr}
use native.Mathlib.Omega.{arith}
use lib.ListN.{length}
use lib.Dec.{eqb}
use borrow.Author.Tests.{eqb-true, eqb-false}
use Rattle.cut.specs.declared.service.Syntax.{Syntax}
use Rattle.cut.specs.Segments.{Segment}
use Rattle.cut.specs.Admission.{admission_of, segments}
use Rattle.messages.specs.Messages.{messages}
use Rattle.plain.specs.Plain.{same}
use Rattle.element.proofs.ComponentFace.{same_refl, same_true}
use Rattle.envelope.specs.Required.{UNB, UNZ, at, in_UNB, in_UNZ, text}
use Rattle.envelope.specs.Envelope.{
  Enveloped,
  Complete,
  Refused,
  stands,
  last_of,
  counts,
  or_stray,
  unless_refused,
  lacks,
  paired,
  strays,
  closed_by,
  opened_by,
  envelope_of,
}
use Rattle.envelope.specs.Broken.{Not, Lacks, Broken, FirstBroken}
use Rattle.envelope.specs.Broken.{too_long, unreadable, no_UNB, no_UNZ, other_reference, other_count, stray, missing}
use Rattle.envelope.specs.Broken.{none_first, not_UNB, none_last, not_UNZ, of_UNB, of_UNZ}
use Rattle.envelope.proofs.settling.Ends.{is_first, one-first, is_last, one_last}
use Rattle.envelope.proofs.settling.Rows.{admission_one, too_long_one, admission_few}
use Rattle.envelope.proofs.settling.Rows.{stands-not, not-stands, counts-text, text-counts, lacks-one, one-lacks}
use Rattle.envelope.proofs.settling.Few.{few}
use Rattle.envelope.proofs.settling.Strays.{first-stray, no_stray}

-- 1, 2, and 50 to 55
abbrev pub Numbered : ℕ → Type 0
Numbered n = (n ≡ 1) ⊎ ((n ≡ 2) ⊎ ((50 ≤ n) × (n ≤ 55)))

module _ (y : Syntax) (d : List ℕ) where
  -- what an answer says
  abbrev pub Says : Enveloped → Type 0
  Says Complete = (n p : ℕ) → Broken y d n p → ⊥
  Says (Refused n p) = FirstBroken y d n p

  -- which numbers there are
  pub numbered : (n p : ℕ) → Broken y d n p → Numbered n
  numbered n p (too_long w) = inl refl
  numbered n p (unreadable w) = inr (inl refl)
  numbered n p (no_UNB w) = inr (inr (omega arith, omega arith))
  numbered n p (no_UNZ w) = inr (inr (omega arith, omega arith))
  numbered n p (other_reference w) = inr (inr (omega arith, omega arith))
  numbered n p (other_count w) = inr (inr (omega arith, omega arith))
  numbered n p (stray w) = inr (inr (omega arith, omega arith))
  numbered n p (missing w) = inr (inr (omega arith, omega arith))

  -- no row of a smaller number is broken
  abbrev Before : ℕ → Type 0
  Before n = (m q : ℕ) → m < n → Broken y d m q → ⊥

  before_1 : Before 1
  before_1 m q h w = go (numbered m q w)
    where
      go : Numbered m → ⊥
      go (inl e) = omega arith
      go (inr (inl e)) = omega arith
      go (inr (inr e)) = omega (arith, e.0)

  more : (n : ℕ) → Before n → ((p : ℕ) → Broken y d n p → ⊥) → Before (suc n)
  more n b c m q h w = go (eqb m n) refl
    where
      go : (t : Bool) → eqb m n ≡ t → ⊥
      go true e = c q (subst (λ (k : ℕ). Broken y d k q) (eqb-true m n e) w)
      go false e =
          let k = eqb-false m n e in
          b m q (omega arith) w

  before_50 : Before 3 → Before 50
  before_50 b m q h w = go (numbered m q w)
    where
      go : Numbered m → ⊥
      go (inl e) = b m q (omega arith) w
      go (inr (inl e)) = b m q (omega arith) w
      go (inr (inr e)) = omega (arith, e.0)

  complete : Before 56 → Says Complete
  complete b n p w = b n p (go (numbered n p w)) w
    where
      go : Numbered n → n < 56
      go (inl e) = omega arith
      go (inr (inl e)) = omega arith
      go (inr (inr e)) = omega (arith, e.1)

  -- an admitted delivery
  module _ (a : admission_of y d ≡ 0) where
    not_1 : (p : ℕ) → Broken y d 1 p → ⊥
    not_1 p (too_long w) = omega (arith, a, too_long_one y d w)

    not_2 : (p : ℕ) → Broken y d 2 p → ⊥
    not_2 p (unreadable w) = omega (arith, a, w)

    admitted : Before 50
    admitted = before_50 (more 2 (more 1 before_1 not_1) not_2)

    none_there : segments y d ≡ [] → Says (Refused 50 (length d))
    none_there e = record { broken = no_UNB (none_first e); none_before = admitted }

    module _ (f : Segment) (ss : List Segment) (e : segments y d ≡ f ∷ ss) where
      abbrev l : Segment
      l = last_of f ss

      abbrev required : Enveloped
      required = cond (lacks y f in_UNB) (Refused 55 f.start) (cond (lacks y l in_UNZ) (Refused 55 l.start) Complete)

      abbrev right-count : Bool
      right-count = counts (text y l (at 1 0)) (length (messages y d))

      not_opened : stands UNB f ≡ false → Says (Refused 50 f.start)
      not_opened n = record { broken = no_UNB (not_UNB f (is_first y d f ss e) (stands-not UNB f n)); none_before = admitted }

      -- the first segment is UNB
      module _ (opens : stands UNB f ≡ true) where
        not_50 : (p : ℕ) → Broken y d 50 p → ⊥
        not_50 p (no_UNB (none_first n)) = nil≢cons (sym n ∙ e)
        not_50 p (no_UNB (not_UNB g h w)) = not-stands UNB f (subst (Not UNB) (one-first y d f ss e g h) w) opens

        opened : Before 51
        opened = more 50 admitted not_50

        not-closed : stands UNZ l ≡ false → Says (Refused 51 l.start)
        not-closed n = record { broken = no_UNZ (not_UNZ l (is_last y d f ss e) (stands-not UNZ l n)); none_before = opened }

        -- and the last is UNZ
        module _ (closes : stands UNZ l ≡ true) where
          not_51 : (p : ℕ) → Broken y d 51 p → ⊥
          not_51 p (no_UNZ (none_last n)) = nil≢cons (sym n ∙ e)
          not_51 p (no_UNZ (not_UNZ g h w)) = not-stands UNZ l (subst (Not UNZ) (one_last y d f ss e g h) w) closes

          closed : Before 52
          closed = more 51 opened not_51

          abbrev unb_reference : List ℕ
          unb_reference = text y f (at 5 0)

          abbrev unz_reference : List ℕ
          unz_reference = text y l (at 2 0)

          differs : same unb_reference unz_reference ≡ false → Says (Refused 52 l.start)
          differs n =
              record {
                broken =
                    other_reference
                    (record {
                      first = f;
                      last = l;
                      is_first = is_first y d f ss e;
                      is_last = is_last y d f ss e;
                      differs = λ h. true≢false (sym (rw h (same_refl unz_reference)) ∙ n);
                      place = refl;
                    });
                none_before = closed;
              }

          module _ (agrees : same unb_reference unz_reference ≡ true) where
            not_52 : (p : ℕ) → Broken y d 52 p → ⊥
            not_52 p (other_reference w) =
                w.differs
                (ap (λ (x : Segment). text y x (at 5 0)) (one-first y d f ss e w.first w.is_first)
                ∙ same_true unb_reference unz_reference agrees
                ∙ sym (ap (λ (x : Segment). text y x (at 2 0)) (one_last y d f ss e w.last w.is_last)))

            paired_so_far : Before 53
            paired_so_far = more 52 closed not_52

            abbrev n : ℕ
            n = length (messages y d)

            miscounts : counts (text y l (at 1 0)) n ≡ false → Says (Refused 53 l.start)
            miscounts c =
                record {
                  broken =
                      other_count
                      (record {
                        last = l;
                        is_last = is_last y d f ss e;
                        differs = λ h. true≢false (sym (text-counts (text y l (at 1 0)) n (few y d) h) ∙ c);
                        place = refl;
                      });
                  none_before = paired_so_far;
                }

            module _ (right : counts (text y l (at 1 0)) n ≡ true) where
              not_53 : (p : ℕ) → Broken y d 53 p → ⊥
              not_53 p (other_count w) =
                  w.differs
                  (ap (λ (x : Segment). text y x (at 1 0)) (one_last y d f ss e w.last w.is_last) ∙ counts-text (text y l (at 1 0)) n right)

              counted : Before 54
              counted = more 53 paired_so_far not_53

              strayed : (s : Segment) (us : List Segment) → strays y d f l ≡ s ∷ us → Says (Refused 54 s.start)
              strayed s us h =
                  record {
                    broken =
                        stray
                        (first-stray y d f l (is_first y d f ss e) (is_last y d f ss e) (one-first y d f ss e) (one_last y d f ss e) s us h);
                    none_before = counted;
                  }

              module _ (alone : strays y d f l ≡ []) where
                not_54 : (p : ℕ) → Broken y d 54 p → ⊥
                not_54 p (stray w) =
                    no_stray y d f l (is_first y d f ss e) (is_last y d f ss e) (one-first y d f ss e) (one_last y d f ss e) alone p w

                surrounded : Before 55
                surrounded = more 54 counted not_54

                lacks-UNB : lacks y f in_UNB ≡ true → Says (Refused 55 f.start)
                lacks-UNB h = record { broken = missing (of_UNB f (is_first y d f ss e) (lacks-one y f in_UNB h)); none_before = surrounded }

                module _ (full : lacks y f in_UNB ≡ false) where
                  has-UNB : Lacks y f in_UNB → ⊥
                  has-UNB w = true≢false (sym (one-lacks y f in_UNB w) ∙ full)

                  lacks-UNZ : lacks y l in_UNZ ≡ true → Says (Refused 55 l.start)
                  lacks-UNZ h =
                      record {
                        broken = missing (of_UNZ f l (is_first y d f ss e) has-UNB (is_last y d f ss e) (lacks-one y l in_UNZ h));
                        none_before = surrounded;
                      }

                  module _ (filled : lacks y l in_UNZ ≡ false) where
                    not_55 : (p : ℕ) → Broken y d 55 p → ⊥
                    not_55 p (missing (of_UNB g h w)) = has-UNB (subst (λ (x : Segment). Lacks y x in_UNB) (one-first y d f ss e g h) w)
                    not_55 p (missing (of_UNZ g k h v i w)) =
                        true≢false (sym (one-lacks y l in_UNZ (subst (λ (x : Segment). Lacks y x in_UNZ) (one_last y d f ss e k i) w)) ∙ filled)

                    all_right : Says Complete
                    all_right = complete (more 55 surrounded not_55)

                rows_55
                    : (b c : Bool) → lacks y f in_UNB ≡ b → lacks y l in_UNZ ≡ c
                    → Says (cond b (Refused 55 f.start) (cond c (Refused 55 l.start) Complete))
                rows_55 true c h k = lacks-UNB h
                rows_55 false true h k = lacks-UNZ h k
                rows_55 false false h k = all_right h k

              rows_54 : (us : List Segment) → strays y d f l ≡ us → Says (or_stray us required)
              rows_54 [] h = rows_55 h (lacks y f in_UNB) (lacks y l in_UNZ) refl refl
              rows_54 (s ∷ us) h = strayed s us h

            rows_53 : (b : Bool) → counts (text y l (at 1 0)) n ≡ b → Says (cond (not b) (Refused 53 l.start) (or_stray (strays y d f l) required))
            rows_53 true h = rows_54 h (strays y d f l) refl
            rows_53 false h = miscounts h

          rows_52
              : (b : Bool) → same unb_reference unz_reference ≡ b
              → Says (cond (not b) (Refused 52 l.start) (cond (not right-count) (Refused 53 l.start) (or_stray (strays y d f l) required)))
          rows_52 true h = rows_53 h (counts (text y l (at 1 0)) (length (messages y d))) refl
          rows_52 false h = differs h

        rows_51 : (b : Bool) → stands UNZ l ≡ b → Says (cond b (paired y f l (length (messages y d)) (strays y d f l)) (Refused 51 l.start))
        unfolding paired
        rows_51 true h = rows_52 h (same (text y f (at 5 0)) (text y l (at 2 0))) refl
        rows_51 false h = not-closed h

      rows_50 : (b : Bool) → stands UNB f ≡ b → Says (cond b (closed_by y d f l) (Refused 50 f.start))
      unfolding closed_by
      rows_50 true h = rows_51 h (stands UNZ l) refl
      rows_50 false h = not_opened h

    by-segments : (ss : List Segment) → segments y d ≡ ss → Says (opened_by y d ss)
    unfolding opened_by
    by-segments [] e = none_there e
    by-segments (f ∷ ss) e = rows_50 f ss e (stands UNB f) refl

  by_admission : (a : ℕ) → admission_of y d ≡ a → Says (unless_refused a (opened_by y d (segments y d)))
  by_admission zero e = by-segments e (segments y d) refl
  by_admission (suc zero) e = record { broken = too_long (admission_one y d e); none_before = before_1 }
  by_admission (suc (suc zero)) e =
      record { broken = unreadable e; none_before = more 1 before_1 (λ p w. absurd (not-one p w)) }
    where
      not-one : (p : ℕ) → Broken y d 1 p → ⊥
      not-one p (too_long w) = omega (arith, e, too_long_one y d w)
  by_admission (suc (suc (suc k))) e = absurd (omega (arith, e, admission_few y d))

  pub settled : Says (envelope_of y d)
  unfolding envelope_of
  settled = by_admission (admission_of y d) refl
