-- The walks that look for a position that agrees with an earlier one.
use Prim.Native.Nat.{ℕ, zero, suc, ◌+◌, ◌-◌, ◌≤◌, ◌<◌, min}
use mathlib.Core.Path.{◌≡◌, refl, sym, ap, ap₂, ◌∙◌}
use mathlib.Core.Bool.{Bool, true, false, cond, ◌&&◌, ◌||◌, false≢true}
use mathlib.Core.List.{List, [], ◌∷◌, ◌++◌, append-nil, nil≢cons}
use native.Mathlib.Nat.{suc-add}
use native.Mathlib.Omega.{arith}
use lib.ListN.{length, drop}
use lib.Seq.{drop-drop}
use Rattle.cut.specs.declared.service.Syntax.{Syntax}
use Rattle.bytewise.specs.Bytes.{part, begins, bytes_of}
use Rattle.cut.specs.Segments.{Segment, segments_of, segments_at}
use Rattle.cut.proofs.Ahead.{none-past}
use Rattle.bytewise.proofs.Limits.{limited, part-front}
use Rattle.agree.specs.Agreement.{Heading, agree}
use Rattle.agree.specs.Positions.{agreeing_at, heading_from, positions_from, positions_of, agrees_any, first_after, first_agreeing}
use Rattle.std.specs.List.{list_any}
use Rattle.agree.specs.workers.Parts.{heading_in, headings_in, BeginsPosition, EntryAt}
use Rattle.agree.specs.declared.headings.Head.{Head}
use Rattle.agree.specs.declared.headings.Entry.{Entry}
use Rattle.agree.specs.workers.Runs.{meets, Searched}
use Rattle.std.specs.Prelude.{Option, Some, None}
use Rattle.agree.specs.declared.first.Agreeing.{Agreeing}

-- whether a segment with the bytes b begins a position
abbrev pub is_lin : List ℕ → Bool
is_lin b = begins (bytes_of "LIN") b

-- agreeing with one of some positions is a search, and so is meeting one of them
pub agrees_listed : (y : Syntax) (h : Heading) (qs : List Heading) → list_any (λ q. agree y q h) qs ≡ agrees_any y h qs
unfolding agrees_any
agrees_listed y h [] = refl
agrees_listed y h (q ∷ qs) = rw (agrees_listed y h qs)

pub meets_listed : (y : Syntax) (hs es : List Heading) → list_any (λ e. agrees_any y e hs) es ≡ meets y es hs
unfolding meets
meets_listed y hs [] = refl
meets_listed y hs (e ∷ es) = rw (meets_listed y hs es)

-- a position, if there is one, passes a test
abbrev pub passes_in : List ℕ → (Heading → Bool) → Option Head → Bool
passes_in d g None = false
passes_in d g (Some h) = g (heading_in h d)

-- the segment that comes next, and its position
module _ (y : Syntax) (d : List ℕ) (at : ℕ) (r : Entry) (q : EntryAt y d at r) where
  abbrev pub bytes_here : List ℕ
  bytes_here = part r.segment.start r.segment.end d

  abbrev pub heading_here : Heading
  heading_here = heading_from bytes_here (segments_at y d r.segment.end)

  pub tested-here : (g : Heading → Bool) → passes_in d g r.position ≡ is_lin bytes_here && g heading_here
  tested-here g = go r.position q.position
    where
      go : (p : Option Head) → BeginsPosition y d r.segment.start r.segment.end p → passes_in d g p ≡ is_lin bytes_here && g heading_here
      go None h = rw h
      go (Some h) k = rw (k.0, k.1)

-- a walk over the first n of some segments
module _ (g : Heading → Bool) where
  abbrev any : ℕ → List Segment → Bool
  any n ss = list_any g (headings_in n ss)

  any_step : (n : ℕ) (s : Segment) (ss : List Segment) → any (suc n) (s ∷ ss) ≡ (is_lin s.bytes && g (heading_from s.bytes ss)) || any n ss
  unfolding headings_in
  any_step n s ss = go (is_lin s.bytes)
    where
      go : (b : Bool) → list_any g (cond b (heading_from s.bytes ss ∷ headings_in n ss) (headings_in n ss)) ≡ (b && g (heading_from s.bytes ss)) || any n ss
      go true = refl
      go false = refl

  pub any_out : (n : ℕ) (ss : List Segment) → n ≤ 0 → any n ss ≡ false
  unfolding headings_in
  any_out zero ss l = refl
  any_out (suc n) ss l = absurd (omega arith)

  any-nil : (n : ℕ) → any n [] ≡ false
  unfolding headings_in
  any-nil zero = refl
  any-nil (suc n) = refl

  pub any_none : (n : ℕ) (ss : List Segment) → ss ≡ [] → any n ss ≡ false
  any_none n ss l = rw l (any-nil n)

  pub any-first
      : (y : Syntax) (d : List ℕ) (at n : ℕ) (r : Entry) (q : EntryAt y d at r) → 0 < n
      → any n (segments_at y d at) ≡ passes_in d g r.position || any (n - 1) (segments_at y d r.segment.end)
  any-first y d at n r q some =
      let z : n ≡ suc (n - 1) = omega arith in
      ap₂ any z q.list ∙ any_step (n - 1) _ (segments_at y d r.segment.end) ∙ rw (tested-here y d at r q g)

  module _ (y : Syntax) (d : List ℕ) (at n : ℕ) (r : Entry) (q : EntryAt y d at r) (some : 0 < n) where
    -- the same of the position that comes next, if there is one
    pub any_here : (h : Head) → r.position ≡ Some h → g (heading_in h d) ≡ true → any n (segments_at y d at) ≡ true
    any_here h e t = any-first y d at n r q some ∙ rw (e, t)

    pub any_on : (h : Head) → r.position ≡ Some h → g (heading_in h d) ≡ false → any n (segments_at y d at) ≡ any (n - 1) (segments_at y d r.segment.end)
    any_on h e f = any-first y d at n r q some ∙ rw (e, f)

    pub any_past : r.position ≡ None → any n (segments_at y d at) ≡ any (n - 1) (segments_at y d r.segment.end)
    any_past e = any-first y d at n r q some ∙ rw e

-- the positions among one segment more
pub headings_next
    : (n : ℕ) (ts : List Segment) (s : Segment) (ss : List Segment) → drop n ts ≡ s ∷ ss
    → headings_in (n + 1) ts ≡ headings_in n ts ++ cond (is_lin s.bytes) (heading_from s.bytes ss ∷ []) []
unfolding headings_in
headings_next zero ts s ss h = rw h
headings_next (suc n) [] s ss h = absurd (nil≢cons h)
headings_next (suc n) (t ∷ ts) s ss h =
    rw (suc-add n 1, headings_next n ts s ss h) (go (is_lin t.bytes))
  where
    go
        : (b : Bool)
        → cond b (heading_from t.bytes ts ∷ (headings_in n ts ++ cond (is_lin s.bytes) (heading_from s.bytes ss ∷ []) []))
        (headings_in n ts ++ cond (is_lin s.bytes) (heading_from s.bytes ss ∷ []) [])
        ≡ cond b (heading_from t.bytes ts ∷ headings_in n ts) (headings_in n ts) ++ cond (is_lin s.bytes) (heading_from s.bytes ss ∷ []) []
    go true = refl
    go false = refl

-- one segment further: it agrees with an earlier position, or not
module _ (y : Syntax) (earlier : List Heading) (n : ℕ) (s : Segment) (ss : List Segment) (r : Bool)
    (is : r ≡ is_lin s.bytes && agrees_any y (heading_from s.bytes ss) earlier) where
  abbrev here : Bool → Option Agreeing
  here b =
      first_after y earlier (cond b (record { number = n; place = s.start; heading = heading_from s.bytes ss } ∷ positions_from (n + 1) ss)
      (positions_from (n + 1) ss))

  first-here : r ≡ true → first_after y earlier (positions_from n (s ∷ ss)) ≡ Some (agreeing_at n s.start)
  unfolding positions_from first_after
  first-here t = go (is_lin s.bytes) (sym is ∙ t)
    where
      go : (b : Bool) → b && agrees_any y (heading_from s.bytes ss) earlier ≡ true → here b ≡ Some (agreeing_at n s.start)
      go true h = rw h
      go false h = absurd (false≢true h)

  first_on
      : r ≡ false
      → first_after y earlier (positions_from n (s ∷ ss))
      ≡ first_after y (earlier ++ cond (is_lin s.bytes) (heading_from s.bytes ss ∷ []) []) (positions_from (n + 1) ss)
  unfolding positions_from first_after
  first_on f = go (is_lin s.bytes) (sym is ∙ f)
    where
      go
          : (b : Bool) → b && agrees_any y (heading_from s.bytes ss) earlier ≡ false
          → here b ≡ first_after y (earlier ++ cond b (heading_from s.bytes ss ∷ []) []) (positions_from (n + 1) ss)
      go true h = rw h
      go false h = rw (append-nil earlier)

module _ (y : Syntax) (d : List ℕ) (start : ℕ) where
  pub search_first : Searched y d start start 0
  unfolding first_agreeing positions_of headings_in
  search_first = record { found = refl; passed = refl; few = omega arith }

  module _ (at n : ℕ) (i : Searched y d start at n) where
    pub search_none : segments_at y d at ≡ [] → None ≡ first_agreeing y (positions_of (segments_at y d start))
    unfolding first_after positions_from
    search_none h = rw h at i.found

    pub search_end : length d ≤ at → None ≡ first_agreeing y (positions_of (segments_at y d start))
    search_end h = search_none (none-past y d at h)

    module _ (r : Entry) (q : EntryAt y d at r) where
      abbrev earlier : List Heading
      earlier = headings_in n (segments_at y d start)

      -- its position agrees with an earlier one
      abbrev pub repeats : Bool
      repeats = passes_in d (λ h. agrees_any y h earlier) r.position

      tells : repeats ≡ is_lin (bytes_here y d at r q) && agrees_any y (heading_here y d at r q) earlier
      tells = tested-here y d at r q (λ h. agrees_any y h earlier)

      -- the segment that comes next
      abbrev next : Segment
      next = record { start = r.segment.start; bytes = part r.segment.start r.segment.end d; piece = r.segment.piece }

      from_next
          : first_after y earlier (positions_from (n + 1) (next ∷ segments_at y d r.segment.end))
          ≡ first_agreeing y (positions_of (segments_at y d start))
      from_next = rw q.list at i.found

      pub search_found : repeats ≡ true → Some (agreeing_at (n + 1) r.segment.start) ≡ first_agreeing y (positions_of (segments_at y d start))
      search_found t =
          sym (first-here y earlier (n + 1) next (segments_at y d r.segment.end) repeats tells t) ∙ from_next

      pub search_on : repeats ≡ false → Searched y d start r.segment.end (n + 1)
      search_on f =
          let l : drop n (segments_at y d start) ≡ next ∷ segments_at y d r.segment.end = i.passed ∙ q.list in
          let g = headings_next n (segments_at y d start) next (segments_at y d r.segment.end) l in
          record {
            found = rw g (sym (first_on y earlier (n + 1) next (segments_at y d r.segment.end) repeats tells f) ∙ from_next);
            passed = sym (drop-drop 1 n (segments_at y d start)) ∙ ap (λ (ss : List Segment). drop 1 ss) l;
            few = omega (arith, i.few, q.later, q.some);
          }

-- the answer for a part, from the answer for the delivery up to its end
pub answer-part
    : (y : Syntax) (d : List ℕ) (start end : ℕ) (x : Syntax) (b : List ℕ) → x ≡ y → b ≡ part 0 end d → (r : Option Agreeing)
    → r ≡ first_agreeing x (positions_of (segments_at x b start))
    → r ≡ first_agreeing y (positions_of (segments_of y start (part start end d)))
unfolding part
answer-part y d start end x b same front r a =
    let m = min end (length d) in
    let z : b ≡ part 0 m d = front ∙ sym (limited d 0 end m refl) in
    let front : drop start b ≡ part start m d = rw z (part-front d start m (omega arith)) in
    rw (← same, ← limited d start end m refl, ← front) a
