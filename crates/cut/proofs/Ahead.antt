-- The first segment from a place on, and what follows it: how callers of the cutting layer see its list.
use Prim.Native.Nat.{ℕ, zero, suc, ◌+◌, ◌≤◌, ◌<◌}
use mathlib.Core.Path.{◌≡◌, refl, sym, ◌∙◌, ap, subst, subst₂}
use mathlib.Core.Bool.{Bool, true, false}
use mathlib.Core.List.{List, [], ◌∷◌, ◌++◌, head-eq_of_cons-eq, tail-eq_of_cons-eq, nil≢cons}
use native.Mathlib.Nat.{le_refl}
use native.Mathlib.Numerals.{add-one}
use native.Mathlib.Omega.{arith}
use lib.ListN.{length, get_or, drop, drop_of_length-le}
use lib.Seq.{drop-cons}
use lib.Dec.{ltb}
use borrow.Author.Tests.{ltb-true, ltb-false}
use Rattle.cut.specs.declared.service.Syntax.{Syntax}
use Rattle.cut.specs.declared.scan.Cut.{Cut}
use Rattle.std.specs.Prelude.{Option, Some, None}
use Rattle.bytewise.specs.Bytes.{part}
use Rattle.bytewise.proofs.Parts.{length_part, part_none, part-next, part-parts}
use Rattle.bytewise.proofs.Booleans.{both-and}
use Rattle.cut.specs.Segments.{
  Segment,
  end_of,
  segments_from,
  is_break,
  trim,
  trimmed,
  segments_of,
  segments_at,
  past,
  past_at,
  breaks,
  last_end,
}
use Rattle.cut.specs.Calls.{some_cut, head_cut, cut_from, cut_at, segment_at}
use Rattle.cut.specs.Fronts.{whole}
use Rattle.cut.proofs.First.{Cutting, cutting, nothing, first, some-segment}
use Rattle.cut.proofs.Skips.{trim-kept, segments_are, segments_of_none, skip_one, skip_breaks}
use Rattle.cut.proofs.Meeting.{segments-whole}

module _ (y : Syntax) (d : List ℕ) where
  -- past the delivery's end there is none
  pub none-past : (at : ℕ) → length d ≤ at → segments_at y d at ≡ []
  none-past at h = ap (segments_of y at) (drop_of_length-le d h) ∙ segments_of_none y at

  module _ (at : ℕ) where
    -- the place behind the line breaks, byte by byte
    pub past_end : length d ≤ at → past_at y d at ≡ at
    unfolding past
    past_end h = rw (drop_of_length-le d h)

    pub past-here : at < length d → is_break y (get_or d at 0) ≡ false → past_at y d at ≡ at
    unfolding past
    past-here h k = rw (drop-cons d at 0 h, k)

    pub past_on : at < length d → is_break y (get_or d at 0) ≡ true → past_at y d at ≡ past_at y d (at + 1)
    unfolding past
    past_on h k = rw (add-one, drop-cons d at 0 h, k)

    pub skip_at : at < length d → is_break y (get_or d at 0) ≡ true → segments_at y d at ≡ segments_at y d (at + 1)
    skip_at h k = rw (add-one, drop-cons d at 0 h) (skip_one y at (get_or d at 0) (drop (suc at) d) k)

  -- from at up to s there are line breaks alone, and none stands at s
  pub record Past (at s : ℕ) : Type 0 where
    pub onward : at ≤ s
    pub list : segments_at y d at ≡ segments_at y d s
    pub stops : s < length d → is_break y (get_or d s 0) ≡ false
    pub fits : at ≤ length d → s ≤ length d
    pub between : breaks y (part at s d) ≡ true

  past-stays : (at : ℕ) → (at < length d → is_break y (get_or d at 0) ≡ false) → Past at at
  unfolding breaks
  past-stays at h =
      record { onward = le_refl at; list = refl; stops = h; fits = λ l. l; between = rw (part_none d at at (le_refl at)) }

  past_more : (at s : ℕ) → at < length d → is_break y (get_or d at 0) ≡ true → Past (at + 1) s → Past at s
  unfolding breaks
  past_more at s h k p =
      let o = p.onward in
      let f = p.fits (omega arith) in
      record {
        onward = omega arith;
        list = skip_at at h k ∙ p.list;
        stops = p.stops;
        fits = λ l. f;
        between = rw (part-next d at s (omega arith) f) (both-and _ _ k p.between);
      }

  pasts_by : (n at : ℕ) → length d ≤ at + n → Past at (past_at y d at)
  pasts_by zero at h = subst (Past at) (sym (past_end at (omega arith))) (past-stays at (λ l. absurd (omega arith)))
  pasts_by (suc n) at h =
      go (ltb at (length d)) (is_break y (get_or d at 0)) refl refl (pasts_by n (at + 1) (omega arith))
    where
      go : (l b : Bool) → ltb at (length d) ≡ l → is_break y (get_or d at 0) ≡ b → Past (at + 1) (past_at y d (at + 1)) → Past at (past_at y d at)
      go false b e f ih =
          let k = ltb-false at (length d) e in
          subst (Past at) (sym (past_end at k)) (past-stays at (λ l. absurd (omega arith)))
      go true false e f ih = subst (Past at) (sym (past-here at (ltb-true _ _ e) f)) (past-stays at (λ l. f))
      go true true e f ih = subst (Past at) (sym (past_on at (ltb-true _ _ e) f)) (past_more at _ (ltb-true _ _ e) f ih)

  pub pasts : (at : ℕ) → Past at (past_at y d at)
  pasts at = pasts_by (length d) at (omega arith)

  -- what is cut at a place where no line break stands loses nothing
  kept-part
      : (t e : ℕ) (p : Bool) (us : List Segment) → t < e → e ≤ length d → is_break y (get_or d t 0) ≡ false
      → trim y t (part t e d) p us ≡ record { start = t; bytes = part t e d; piece = p } ∷ us
  kept-part t e p us h k n = rw (part-next d t e h k) (trim-kept y t (get_or d t 0) (part (t + 1) e d) p us n)

  -- the first segment from `at` on stands from s to e
  pub record CutAhead (at s e : ℕ) (p : Bool) : Type 0 where
    pub starts : s ≡ past_at y d at
    pub later : at ≤ s
    pub some : s < e
    pub fits : e ≤ length d
    pub list : segments_at y d at ≡ record { start = s; bytes = part s e d; piece = p } ∷ segments_at y d e
    pub exact : Cutting y d s false s e p

  module _ (at : ℕ) where
    abbrev behind-breaks : ℕ
    behind-breaks = past_at y d at

    Cut_list
        : (e : ℕ) (p : Bool) → behind-breaks < e → e ≤ length d
        → segments_from y behind-breaks false (drop behind-breaks d)
        ≡ record { start = behind-breaks; bytes = part behind-breaks e d; piece = p } ∷ segments_from y e false (drop e d)
        → segments_at y d at ≡ record { start = behind-breaks; bytes = part behind-breaks e d; piece = p } ∷ segments_at y d e
    unfolding trimmed
    Cut_list e p h k l =
        (pasts at).list ∙ segments_are y behind-breaks (drop behind-breaks d) ∙ ap (trimmed y) l
        ∙ kept-part behind-breaks e p (trimmed y (segments_from y e false (drop e d))) h k ((pasts at).stops (omega arith))
        ∙ ap (λ (us : List Segment). record { start = behind-breaks; bytes = part behind-breaks e d; piece = p } ∷ us) (sym (segments_are y e (drop e d)))

    ahead_past : (e : ℕ) (p : Bool) → Cutting y d behind-breaks false behind-breaks e p → CutAhead at behind-breaks e p
    ahead_past e p c =
        record {
          starts = refl;
          later = (pasts at).onward;
          some = c.some;
          fits = c.fits;
          list = Cut_list e p c.some c.fits c.list;
          exact = c;
        }

    ahead_cut : (s e : ℕ) (p : Bool) → cut_at y d behind-breaks ≡ some_cut s e p → CutAhead at s e p
    ahead_cut s e p h =
        let z : s ≡ behind-breaks = (cutting y d behind-breaks false s e p h).starts in
        subst (λ (t : ℕ). CutAhead at t e p) (sym z)
        (ahead_past e p (cutting y d behind-breaks false behind-breaks e p (h ∙ ap (λ (t : ℕ). some_cut t e p) z)))

    none_cut : cut_at y d behind-breaks ≡ None → segments_at y d at ≡ []
    unfolding trimmed
    none_cut h = (pasts at).list ∙ segments_are y behind-breaks (drop behind-breaks d) ∙ ap (trimmed y) (nothing y d behind-breaks false h)

    -- segment_at's answer is what is cut behind the line breaks
    pub segment-past : segment_at y d at ≡ cut_at y d behind-breaks
    unfolding segment_at head_cut
    segment-past = go (cut_at y d behind-breaks) refl
      where
        go : (c : Option Cut) → cut_at y d behind-breaks ≡ c → segment_at y d at ≡ cut_at y d behind-breaks
        go None h = rw (none_cut h) (sym h)
        go (Some k) h =
            let q = ahead_cut k.start k.end k.piece h in
            let n : k.start + length (part k.start k.end d) ≡ k.end = omega (arith, length_part d k.start k.end q.fits, q.some) in
            rw (q.list, n) (sym h)

    pub cut_ahead : (s e : ℕ) (p : Bool) → segment_at y d at ≡ some_cut s e p → CutAhead at s e p
    cut_ahead s e p h = ahead_cut s e p (sym segment-past ∙ h)

    pub none_ahead : segment_at y d at ≡ None → segments_at y d at ≡ []
    none_ahead h = none_cut (sym segment-past ∙ h)

  -- where a byte stands that is no line break, there is a segment
  pub some-ahead : (at : ℕ) → at < length d → is_break y (get_or d at 0) ≡ false → segments_at y d at ≡ [] → ⊥
  some-ahead at h k l = go (segment_at y d at) refl
    where
      go : (c : Option Cut) → segment_at y d at ≡ c → ⊥
      go None e =
          some-segment y at false (get_or d at 0) (drop (suc at) d)
          (rw (drop-cons d at 0 h) at (nothing y d at false (sym (segment-past at ∙ ap (cut_at y d) (past-here at h k)) ∙ e)))
      go (Some k) f = nil≢cons (sym l ∙ (cut_ahead at k.start k.end k.piece f).list)

  -- nothing is cut at the delivery's end alone
  nothing_left : (e : ℕ) → e ≤ length d → segments_from y e false (drop e d) ≡ [] → e ≡ length d
  nothing_left e h l = go (ltb e (length d)) refl
    where
      go : (b : Bool) → ltb e (length d) ≡ b → e ≡ length d
      go true k = absurd (some-segment y e false (get_or d e 0) (drop (suc e) d) (rw (drop-cons d e 0 (ltb-true _ _ k)) at l))
      go false k =
          let n = ltb-false e (length d) k in
          omega arith

  -- s is the first segment from `at` on, and ss are those after it
  pub record FirstAhead (at : ℕ) (s : Segment) (ss : List Segment) : Type 0 where
    pub starts : s.start ≡ past_at y d at
    pub later : at ≤ s.start
    pub between : breaks y (part at s.start d) ≡ true
    pub some : s.start < end_of s
    pub fits : end_of s ≤ length d
    pub bytes : s.bytes ≡ part s.start (end_of s) d
    pub here : segments_at y d s.start ≡ s ∷ ss
    pub rest : ss ≡ segments_at y d (end_of s)
    pub last : s.piece ≡ true → ss ≡ []
    pub piece_end : s.piece ≡ true → end_of s ≡ length d
    pub alone : segments_of y s.start s.bytes ≡ s ∷ []
    pub exact : cut_at y d s.start ≡ some_cut s.start (end_of s) s.piece

  module _ (at s e : ℕ) (p : Bool) (q : CutAhead at s e p) where
    abbrev found : Segment
    found = record { start = s; bytes = part s e d; piece = p }

    pub found_end : s + length (part s e d) ≡ e
    found_end = omega (arith, length_part d s e q.fits, q.some)

    found-kept : is_break y (get_or d s 0) ≡ false
    found-kept = ap (λ (t : ℕ). is_break y (get_or d t 0)) q.starts ∙ (pasts at).stops (omega (arith, q.starts, q.some, q.fits))

    pub first_cut : FirstAhead at found (segments_at y d e)
    unfolding trimmed head_cut cut_from
    first_cut =
        let f = first y s false (drop s d) found (segments_from y e false (drop e d)) q.exact.list in
        record {
          starts = q.starts;
          later = q.later;
          between = ap (λ (t : ℕ). breaks y (part at t d)) q.starts ∙ (pasts at).between;
          some = omega (arith, found_end, q.some);
          fits = omega (arith, found_end, q.fits);
          bytes = ap (λ (n : ℕ). part s n d) (sym found_end);
          here = ap (segments_at y d) q.starts ∙ sym (pasts at).list ∙ q.list;
          rest = ap (segments_at y d) (sym found_end);
          last = λ i. segments_are y e (drop e d) ∙ ap (trimmed y) (f.last i);
          piece_end = λ i. found_end ∙ nothing_left e q.fits (f.last i);
          alone = segments_are y s (part s e d) ∙ ap (trimmed y) f.alone ∙ kept-part s e p [] q.some q.fits found-kept;
          exact = ap head_cut q.exact.list;
        }

  pub first-ahead : (at : ℕ) (s : Segment) (ss : List Segment) → segments_at y d at ≡ s ∷ ss → FirstAhead at s ss
  first-ahead at s ss l = go (segment_at y d at) refl
    where
      go : (c : Option Cut) → segment_at y d at ≡ c → FirstAhead at s ss
      go None h = absurd (nil≢cons (sym (none_ahead at h) ∙ l))
      go (Some k) h =
          let q = cut_ahead at k.start k.end k.piece h in
          let heads = sym l ∙ q.list in
          subst₂ (FirstAhead at) (sym (head-eq_of_cons-eq heads)) (sym (tail-eq_of_cons-eq heads)) (first_cut at k.start k.end k.piece q)

  no_more : (ss ts : List Segment) → ss ++ ts ≡ [] → ss ≡ []
  no_more [] ts h = refl
  no_more (s ∷ ss) ts h = absurd (nil≢cons (sym h))

  -- some first segments end within the delivery, and not before the place
  pub last-later : (at : ℕ) (ss ts : List Segment) → segments_at y d at ≡ ss ++ ts → at ≤ last_end at ss
  unfolding last_end
  last-later at [] ts h = le_refl at
  last-later at (s ∷ ss) ts h =
      let f = first-ahead at s (ss ++ ts) h in
      let l = last-later (end_of s) ss ts (sym f.rest) in
      omega (arith, f.later, f.some)

  pub last_fits : (at : ℕ) (ss ts : List Segment) → at ≤ length d → segments_at y d at ≡ ss ++ ts → last_end at ss ≤ length d
  unfolding last_end
  last_fits at [] ts l h = l
  last_fits at (s ∷ ss) ts l h =
      let f = first-ahead at s (ss ++ ts) h in
      last_fits (end_of s) ss ts f.fits (sym f.rest)

  -- the line breaks before a segment, and its own bytes
  own_first : (at : ℕ) (s : Segment) (ss : List Segment) → FirstAhead at s ss → segments_of y at (part at (end_of s) d) ≡ s ∷ []
  own_first at s ss f =
      let o = f.later in
      let k = f.some in
      let n : at + length (part at s.start d) ≡ s.start = omega (arith, length_part d at s.start (omega (arith, f.fits))) in
      ap (segments_of y at) (sym (part-parts d at s.start (end_of s) o (omega arith)))
      ∙ skip_breaks y at (part at s.start d) (part s.start (end_of s) d) f.between
      ∙ ap (λ (q : ℕ). segments_of y q (part s.start (end_of s) d)) n
      ∙ ap (segments_of y s.start) (sym f.bytes) ∙ f.alone

  own_more
      : (at : ℕ) (s : Segment) (ss ts : List Segment) (b : Bool) → s.piece ≡ b → FirstAhead at s (ss ++ ts) → end_of s ≤ last_end (end_of s) ss
      → segments_of y (end_of s) (part (end_of s) (last_end (end_of s) ss) d) ≡ ss → segments_of y at (part at (last_end (end_of s) ss) d) ≡ s ∷ ss
  unfolding last_end whole
  own_more at s ss ts true e f l ih =
      let n : ss ≡ [] = no_more ss ts (f.last e) in
      rw n (own_first at s (ss ++ ts) f)
  own_more at s ss ts false e f l ih =
      let one = own_first at s (ss ++ ts) f in
      let o = f.later in
      let k = f.some in
      let w : whole (segments_of y at (part at (end_of s) d)) ≡ true = ap whole one ∙ rw e in
      let n : at + length (part at (end_of s) d) ≡ end_of s = omega (arith, length_part d at (end_of s) f.fits) in
      ap (segments_of y at) (sym (part-parts d at (end_of s) (last_end (end_of s) ss) (omega arith) l))
      ∙ segments-whole y at (part at (end_of s) d) (part (end_of s) (last_end (end_of s) ss) d) w
      ∙ ap (λ (us : List Segment). us ++ segments_of y (at + length (part at (end_of s) d)) (part (end_of s) (last_end (end_of s) ss) d)) one
      ∙ ap (λ (q : ℕ). s ∷ segments_of y q (part (end_of s) (last_end (end_of s) ss) d)) n
      ∙ ap (λ (us : List Segment). s ∷ us) ih

  -- the bytes up to where some first segments end hold just these segments
  pub own-bytes : (at : ℕ) (ss ts : List Segment) → segments_at y d at ≡ ss ++ ts → segments_of y at (part at (last_end at ss) d) ≡ ss
  unfolding last_end
  own-bytes at [] ts h = rw (part_none d at at (le_refl at)) (segments_of_none y at)
  own-bytes at (s ∷ ss) ts h =
      let f = first-ahead at s (ss ++ ts) h in
      own_more at s ss ts s.piece refl f (last-later (end_of s) ss ts (sym f.rest)) (own-bytes (end_of s) ss ts (sym f.rest))
