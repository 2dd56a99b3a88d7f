-- Item 8: the answer is the first broken row in the item's order, and complete where none is. There is one number and one place.
use Prim.Native.Nat.{ℕ, ◌<◌}
use mathlib.Core.Path.{◌≡◌, refl, sym, ◌∙◌, ap, subst}
use mathlib.Core.Bool.{Bool, true, false, true≢false}
use mathlib.Core.List.{List, []}
use mathlib.Core.Logic.{◌⊎◌, ◌↔◌, inl, inr}
use native.Mathlib.Omega.{arith}
use lib.Dec.{ltb}
use lib.IntN.{pos}
use borrow.Author.Tests.{ltb-true, ltb-false}
use lib.ListN.{length}
use Rattle.cut.specs.declared.service.Syntax.{Syntax}
use Rattle.cut.specs.Segments.{Segment}
use Rattle.messages.specs.Messages.{messages}
use Rattle.value.specs.Text.{text_of}
use Rattle.envelope.specs.Required.{in_UNB}
use Rattle.envelope.specs.Envelope.{Enveloped, Complete, Refused, envelope_of}
use Rattle.envelope.specs.Broken.{First, Lacks, Broken, FirstBroken}
use Rattle.envelope.specs.Broken.{too_long, unreadable, no_UNB, no_UNZ, other_reference, other_count, stray, missing}
use Rattle.envelope.specs.Broken.{none_first, not_UNB, none_last, not_UNZ, of_UNB, of_UNZ}
use Rattle.envelope.proofs.settling.Ends.{no_first, no_last, first-first, last-last}
use Rattle.envelope.proofs.settling.Rows.{text-counts, empty-counts, full-UNZ}
use Rattle.envelope.proofs.settling.Few.{few}
use Rattle.envelope.proofs.settling.Settled.{Numbered, Says, numbered, settled}

abbrev start : Segment → ℕ
start s = s.start

module _ (y : Syntax) (d : List ℕ) where
  -- each row has one place
  pub one-place : (n p q : ℕ) → Broken y d n p → Broken y d n q → p ≡ q
  one-place n p q (too_long v) (too_long w) = refl
  one-place n p q (unreadable v) (unreadable w) = refl
  one-place n p q (no_UNB (none_first v)) (no_UNB (none_first w)) = refl
  one-place n p q (no_UNB (none_first v)) (no_UNB (not_UNB g i w)) = absurd (no_first y d v g i)
  one-place n p q (no_UNB (not_UNB f h v)) (no_UNB (none_first w)) = absurd (no_first y d w f h)
  one-place n p q (no_UNB (not_UNB f h v)) (no_UNB (not_UNB g i w)) = ap start (first-first y d f g h i)
  one-place n p q (no_UNZ (none_last v)) (no_UNZ (none_last w)) = refl
  one-place n p q (no_UNZ (none_last v)) (no_UNZ (not_UNZ k i w)) = absurd (no_last y d v k i)
  one-place n p q (no_UNZ (not_UNZ l h v)) (no_UNZ (none_last w)) = absurd (no_last y d w l h)
  one-place n p q (no_UNZ (not_UNZ l h v)) (no_UNZ (not_UNZ k i w)) = ap start (last-last y d l k h i)
  one-place n p q (other_reference v) (other_reference w) =
      v.place ∙ ap start (last-last y d v.last w.last v.is_last w.is_last) ∙ sym w.place
  one-place n p q (other_count v) (other_count w) =
      v.place ∙ ap start (last-last y d v.last w.last v.is_last w.is_last) ∙ sym w.place
  one-place n p q (stray v) (stray w) =
      omega (arith, v.place, w.place, v.earliest w.segment w.stray, w.earliest v.segment v.stray)
  one-place n p q (missing (of_UNB f h v)) (missing (of_UNB g i w)) = ap start (first-first y d f g h i)
  one-place n p q (missing (of_UNB f h v)) (missing (of_UNZ g l i full j w)) =
      absurd (full (subst (λ (x : Segment). Lacks y x in_UNB) (first-first y d f g h i) v))
  one-place n p q (missing (of_UNZ f l h full j v)) (missing (of_UNB g i w)) =
      absurd (full (subst (λ (x : Segment). Lacks y x in_UNB) (first-first y d g f i h) w))
  one-place n p q (missing (of_UNZ f l h a j v)) (missing (of_UNZ g k i b m w)) = ap start (last-last y d l k j m)

  -- uniqueness: one number and one place come first
  pub one-refusal : (n p m q : ℕ) → FirstBroken y d n p → FirstBroken y d m q → (n ≡ m) × (p ≡ q)
  one-refusal n p m q v w = (same, one-place m p q (subst (λ (k : ℕ). Broken y d k p) same v.broken) w.broken)
    where
      least : (a b : Bool) → ltb n m ≡ a → ltb m n ≡ b → n ≡ m
      least true b h k = absurd (w.none_before n p (ltb-true n m h) v.broken)
      least false true h k = absurd (v.none_before m q (ltb-true m n k) w.broken)
      least false false h k = omega (arith, ltb-false n m h, ltb-false m n k)

      same : n ≡ m
      same = least (ltb n m) (ltb m n) refl refl

  -- refused with a number and a place: that row is broken, and none before it
  pub envelope_refuses : (n p : ℕ) → (envelope_of y d ≡ Refused n p) ↔ FirstBroken y d n p
  envelope_refuses n p = (λ h. subst (Says y d) h (settled y d), λ w. go w (envelope_of y d) (settled y d))
    where
      go : FirstBroken y d n p → (r : Enveloped) → Says y d r → r ≡ Refused n p
      go w Complete s = absurd (s n p w.broken)
      go w (Refused m q) s =
          let e = one-refusal m q n p s w in
          rw (e.0, e.1)

  -- complete: no row is broken
  pub envelope_complete : (envelope_of y d ≡ Complete) ↔ ((n p : ℕ) → Broken y d n p → ⊥)
  envelope_complete = (λ h. subst (Says y d) h (settled y d), λ w. go w (envelope_of y d) (settled y d))
    where
      go : ((n p : ℕ) → Broken y d n p → ⊥) → (r : Enveloped) → Says y d r → r ≡ Complete
      go w Complete s = refl
      go w (Refused m q) s = absurd (w m q s.broken)

  -- refused, with one of the item's numbers
  pub record Refusal : Type 0 where
    pub number : ℕ
    pub place : ℕ
    pub answer : envelope_of y d ≡ Refused number place
    pub is-listed : Numbered number
    pub only : (m q : ℕ) → envelope_of y d ≡ Refused m q → (m ≡ number) × (q ≡ place)

  -- totality: complete, or refused with exactly one number of 1, 2 and 50 to 55
  pub answered : (envelope_of y d ≡ Complete) ⊎ Refusal
  answered = go (envelope_of y d) refl (settled y d)
    where
      go : (r : Enveloped) → envelope_of y d ≡ r → Says y d r → (envelope_of y d ≡ Complete) ⊎ Refusal
      go Complete e s = inl e
      go (Refused n p) e s =
          inr
          (record {
            number = n;
            place = p;
            answer = e;
            is-listed = numbered y d n p s.broken;
            only = λ m q h. one-refusal m q n p ((envelope_refuses m q).0 h) s;
          })

  -- 55 stands at UNB: a UNZ without its count gets 53, and one without its reference gets 52 unless UNB lacks it too
  pub missing-at-UNB : (p : ℕ) → envelope_of y d ≡ Refused 55 p → (f : Segment) → First y d f → p ≡ f.start
  missing-at-UNB p h f i = go p ((envelope_refuses 55 p).0 h).broken ((envelope_refuses 55 p).0 h).none_before
    where
      go : (q : ℕ) → Broken y d 55 q → ((m r : ℕ) → m < 55 → Broken y d m r → ⊥) → q ≡ f.start
      go q (missing (of_UNB g j w)) before = ap start (first-first y d g f j i)
      go q (missing (of_UNZ g l j full k w)) before =
          absurd
          (before 52 l.start (omega arith)
          (other_reference
          (record {
            first = g;
            last = l;
            is_first = j;
            is_last = k;
            differs =
                λ same. before 53 l.start (omega arith)
                (other_count
                (record {
                  last = l;
                  is_last = k;
                  differs = λ count. full-UNZ y g l same (λ e. no_digits (sym e ∙ count)) full w;
                  place = refl;
                }));
            place = refl;
          })))
        where
          no_digits : [] ≡ text_of (pos (length (messages y d))) → ⊥
          no_digits e = true≢false (sym (text-counts [] (length (messages y d)) (few y d) e) ∙ empty-counts (length (messages y d)))
