-- The tag of a segment, read off the delivery; and that of the first segment, read off the first three bytes.
use Rattle.std.specs.Prelude.{None}
use Rattle.messages.specs.workers.Walks.{some_spot}
use Rattle.std.specs.Prelude.{None}
use Prim.Native.Nat.{ℕ, suc, ◌-◌, ◌≤◌, ◌<◌}
use mathlib.Core.Path.{◌≡◌, refl, sym, ◌∙◌, ap}
use mathlib.Core.Bool.{Bool, true, false, and-false, false≢true}
use mathlib.Core.List.{List, [], ◌∷◌}
use native.Mathlib.Omega.{arith}
use native.Mathlib.Nat.{le_refl}
use lib.ListN.{length, get_or, drop, length-drop}
use lib.Seq.{take_all}
use lib.Dec.{ltb}
use borrow.Author.Tests.{ne_eqb, eqb-true, ltb-true, ltb-false}
use Rattle.cut.specs.declared.service.Syntax.{Syntax}
use Rattle.cut.specs.Calls.{some_cut}
use Rattle.messages.specs.declared.tags.Tag.{Tag}
use Rattle.messages.specs.declared.tags.Tag.TheVariants.{Other}
use Rattle.bytewise.specs.Bytes.{part, begins}
use Rattle.cut.specs.Segments.{Segment, ends, frees, join, segments_from, is_break, trimmed, segments_at, past_at}
use Rattle.messages.specs.Messages.{tag_of}
use Rattle.cut.specs.Calls.{cut_at, segment_at}
use Rattle.messages.specs.workers.Walks.{head_spot, first_tag, tag_at}
use Rattle.bytewise.proofs.Words.{begins-short}
use Rattle.cut.proofs.First.{cutting, nothing}
use Rattle.cut.proofs.Skips.{trim-kept, segments_are}
use Rattle.cut.proofs.Ahead.{none-past, pasts, cut_ahead, none_ahead, found_end}
use Rattle.cut.proofs.cutting.Scanning.{segments-at, segments-none}

-- fewer than three bytes say nothing
pub tag-short : (bs : List ℕ) → length bs < 3 → Other ≡ tag_of bs
unfolding tag_of
tag-short bs h =
    rw (begins-short (85 ∷ 78 ∷ 72 ∷ []) bs h, begins-short (85 ∷ 78 ∷ 84 ∷ []) bs h, begins-short (85 ∷ 78 ∷ 90 ∷ []) bs h)

-- no byte after the third counts
tag-first : (a b c : ℕ) (bs : List ℕ) → tag_of (a ∷ b ∷ c ∷ bs) ≡ tag_of (a ∷ b ∷ c ∷ [])
unfolding tag_of begins
tag-first a b c bs = refl

pub tag-not_U : (a : ℕ) (bs : List ℕ) → (a ≡ 85 → ⊥) → tag_of (a ∷ bs) ≡ Other
unfolding tag_of begins
tag-not_U a bs n = rw (ne_eqb _ _ n)

tag-not_N : (a b : ℕ) (bs : List ℕ) → (b ≡ 78 → ⊥) → tag_of (a ∷ b ∷ bs) ≡ Other
unfolding tag_of begins
tag-not_N a b bs n = rw (ne_eqb _ _ n, and-false)

tag-no_third : (a b c : ℕ) → (c ≡ 72 → ⊥) → (c ≡ 84 → ⊥) → (c ≡ 90 → ⊥) → tag_of (a ∷ b ∷ c ∷ []) ≡ Other
unfolding tag_of begins
tag-no_third a b c h t z = rw (ne_eqb _ _ h, ne_eqb _ _ t, ne_eqb _ _ z, and-false, and-false)

tag_three : (bs : List ℕ) → 3 ≤ length bs → tag_of bs ≡ tag_of (get_or bs 0 0 ∷ get_or bs 1 0 ∷ get_or bs 2 0 ∷ [])
tag_three [] l = absurd (omega arith)
tag_three (a ∷ []) l = absurd (omega arith)
tag_three (a ∷ b ∷ []) l = absurd (omega arith)
tag_three (a ∷ b ∷ c ∷ bs) l = tag-first a b c bs

-- the first three bytes are known, or one of them is none that counts
module _ (bs : List ℕ) (l : 3 ≤ length bs) where
  pub tag_known : (x : ℕ) → get_or bs 0 0 ≡ 85 → get_or bs 1 0 ≡ 78 → get_or bs 2 0 ≡ x → tag_of (85 ∷ 78 ∷ x ∷ []) ≡ tag_of bs
  tag_known x u n e = sym (tag_three bs l ∙ rw (u, n, e))

  pub tag-not_first : (get_or bs 0 0 ≡ 85 → ⊥) → Other ≡ tag_of bs
  tag-not_first n = sym (tag_three bs l ∙ tag-not_U _ _ n)

  pub tag-not_second : (get_or bs 1 0 ≡ 78 → ⊥) → Other ≡ tag_of bs
  tag-not_second n = sym (tag_three bs l ∙ tag-not_N _ _ _ n)

  pub tag-not_third : (get_or bs 2 0 ≡ 72 → ⊥) → (get_or bs 2 0 ≡ 84 → ⊥) → (get_or bs 2 0 ≡ 90 → ⊥) → Other ≡ tag_of bs
  tag-not_third h t z = sym (tag_three bs l ∙ tag-no_third _ _ _ h t z)

-- a segment's answer, as a spot
pub spot_of_lem
    : (y : Syntax) (d : List ℕ) (at s e : ℕ) (p : Bool) (t : Tag) → segment_at y d at ≡ some_cut s e p → t ≡ tag_of (part s e d)
    → head_spot (segments_at y d at) ≡ some_spot s t e
unfolding head_spot
spot_of_lem y d at s e p t h k =
    let q = cut_ahead y d at s e p h in
    rw (q.list, found_end y d at s e p q, k)

pub spot-none : (y : Syntax) (d : List ℕ) (at : ℕ) → segment_at y d at ≡ None → head_spot (segments_at y d at) ≡ None
unfolding head_spot
spot-none y d at h = rw (none_ahead y d at h)

-- what is cut at a place, by its tag
pub tag_cut : (y : Syntax) (d : List ℕ) (at s e : ℕ) (p : Bool) (t : Tag) → cut_at y d at ≡ some_cut s e p → t ≡ tag_of (part s e d) → t ≡ tag_at y d at
unfolding tag_at first_tag
tag_cut y d at s e p t h k =
    let q = cutting y d at false s e p h in
    rw (q.list, ← q.starts) k

pub tag_uncut : (y : Syntax) (d : List ℕ) (at : ℕ) → cut_at y d at ≡ None → Other ≡ tag_at y d at
unfolding tag_at first_tag
tag_uncut y d at h = rw (nothing y d at false h)

first-kept : (y : Syntax) (e : Bool) (p x : ℕ) (ss : List Segment) → is_break y x ≡ false → first_tag (trimmed y (join e p x ss)) ≡ first_tag (join e p x ss)
unfolding first_tag trimmed join
first-kept y true p x ss n = ap first_tag (trim-kept y p x [] false (trimmed y ss) n)
first-kept y false p x [] n = ap first_tag (trim-kept y p x [] true [] n)
first-kept y false p x (s ∷ ss) n = ap first_tag (trim-kept y p x s.bytes s.piece (trimmed y ss) n)

-- the tag of the first segment from a place on is that of what is cut behind the line breaks there
pub tag-past : (y : Syntax) (d : List ℕ) (at s : ℕ) → s ≡ past_at y d at → tag_at y d s ≡ first_tag (segments_at y d at)
unfolding tag_at first_tag
tag-past y d at s e = go (ltb s (length d)) refl
  where
    same : segments_at y d at ≡ segments_at y d s
    same = (pasts y d at).list ∙ ap (segments_at y d) (sym e)

    kept : s < length d → is_break y (get_or d s 0) ≡ false
    kept h = ap (λ (t : ℕ). is_break y (get_or d t 0)) e ∙ (pasts y d at).stops (omega arith)

    go : (b : Bool) → ltb s (length d) ≡ b → tag_at y d s ≡ first_tag (segments_at y d at)
    go true l =
        let h = ltb-true s (length d) l in
        ap first_tag (segments-at y d s false h)
        ∙ sym (ap first_tag (same ∙ segments_are y s (drop s d) ∙ ap (trimmed y) (segments-at y d s false h)) ∙ first-kept y _ s (get_or d s 0) _ (kept h))
    go false l =
        let h = ltb-false s (length d) l in
        ap first_tag (segments-none y d s false h) ∙ sym (ap first_tag (same ∙ none-past y d s h))

-- a segment of three bytes or more, whatever follows them
third : (e : Bool) (p q o x z w : ℕ) (ss : List Segment) (ws : List ℕ) → first_tag (join false p x (join false q z (join e o w ss))) ≡ tag_of (x ∷ z ∷ w ∷ ws)
unfolding first_tag join
third true p q o x z w ss ws = sym (tag-first x z w ws)
third false p q o x z w [] ws = sym (tag-first x z w ws)
third false p q o x z w (s ∷ ss) ws = tag-first x z w s.bytes ∙ sym (tag-first x z w ws)

ends_terminator : (y : Syntax) (r : Bool) (x : ℕ) → ends y r x ≡ true → x ≡ y.terminator
unfolding ends
ends_terminator y true x h = absurd (false≢true h)
ends_terminator y false x h = eqb-true _ _ h

module _ (y : Syntax) (no_U : y.terminator ≡ 85 → ⊥) (no_N : y.terminator ≡ 78 → ⊥) where
  second
      : (e : Bool) (p x z : ℕ) (r : Bool) (zs : List ℕ) → ends y r z ≡ e
      → first_tag (join false p x (join e (suc p) z (segments_from y (suc (suc p)) (frees y r z) zs))) ≡ tag_of (x ∷ z ∷ zs)
  unfolding first_tag join segments_from
  second true p x z r zs h =
      let n : z ≡ 78 → ⊥ = λ e. no_N (sym (ends_terminator y r z h) ∙ e) in
      tag-not_N x z [] n ∙ sym (tag-not_N x z zs n)
  second false p x z r [] h = refl
  second false p x z r (w ∷ ws) h = third (ends y (frees y r z) w) p (suc p) (suc (suc p)) x z w _ ws

  leading : (e : Bool) (p x : ℕ) (xs : List ℕ) → ends y false x ≡ e → first_tag (join e p x (segments_from y (suc p) (frees y false x) xs)) ≡ tag_of (x ∷ xs)
  unfolding first_tag join segments_from
  leading true p x xs h =
      let n : x ≡ 85 → ⊥ = λ e. no_U (sym (ends_terminator y false x h) ∙ e) in
      tag-not_U x [] n ∙ sym (tag-not_U x xs n)
  leading false p x [] h = refl
  leading false p x (z ∷ zs) h = second (ends y (frees y false x) z) p x z (frees y false x) zs refl

  -- a terminator among the first two bytes is neither U nor N: these three say no tag then, as the short segment says none
  tag_leads : (p : ℕ) (xs : List ℕ) → first_tag (segments_from y p false xs) ≡ tag_of xs
  unfolding first_tag segments_from tag_of begins
  tag_leads p [] = refl
  tag_leads p (x ∷ xs) = leading (ends y false x) p x xs refl

  pub tag-ahead : (d : List ℕ) (at : ℕ) (t : Tag) → t ≡ tag_of (part at (length d) d) → t ≡ tag_at y d at
  unfolding part tag_at
  tag-ahead d at t h =
      let n : length (drop at d) ≤ length d - at = rw (length-drop at d) (le_refl _) in
      h ∙ rw (take_all (length d - at) (drop at d) n) (sym (tag_leads at (drop at d)))
