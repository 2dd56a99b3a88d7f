-- A run of segments: its positions agree with none before them, so the search passes it at once.
use Prim.Native.Nat.{ℕ, zero, suc, ◌+◌}
use mathlib.Core.Path.{◌≡◌, refl, sym, ap, ◌∙◌}
use mathlib.Core.Bool.{Bool, true, false, cond, not, ◌&&◌, ◌||◌, true≢false}
use mathlib.Core.List.{List, [], ◌∷◌, ◌++◌, append-nil, append_assoc}
use native.Mathlib.Nat.{zero-add, suc-add}
use native.Mathlib.Omega.{arith}
use lib.ListN.{length, drop}
use lib.Seq.{drop-drop}
use borrow.Author.Tests.{not-true}
use Rattle.cut.specs.declared.service.Syntax.{Syntax}
use Rattle.bytewise.specs.Bytes.{part}
use Rattle.cut.specs.Segments.{Segment, segments_at}
use Rattle.agree.specs.Agreement.{Heading, agree}
use Rattle.agree.specs.Positions.{heading_from, positions_from, agrees_any, first_after}
use Rattle.std.specs.Prelude.{Some, None}
use Rattle.agree.specs.workers.Parts.{heading_in, headings_in, BeginsPosition, EntryAt}
use Rattle.agree.specs.declared.headings.Head.{Head}
use Rattle.agree.specs.declared.headings.Entry.{Entry}
use Rattle.agree.specs.workers.Runs.{print_of, all_marked, fresh, meets, Running, Searched}
use Rattle.sieve.specs.workers.Marks.{mark_in}
use Rattle.agree.specs.declared.runs.Run.{Run}
use Rattle.bytewise.proofs.Booleans.{and_both, both-and, or_assoc}
use Rattle.agree.proofs.Texts.{agree_turned}
use Rattle.sieve.proofs.Marking.{mark-length}
use Rattle.agree.proofs.Marked.{all-marked}
use Rattle.agree.proofs.earlier.Search.{is_lin, headings_next}

neither : (a b : Bool) → a || b ≡ false → (a ≡ false) × (b ≡ false)
neither true b h = absurd (true≢false h)
neither false b h = (refl, h)

module _ (y : Syntax) where
  pub any_append : (h : Heading) (es fs : List Heading) → agrees_any y h (es ++ fs) ≡ agrees_any y h es || agrees_any y h fs
  unfolding agrees_any
  any_append h [] fs = refl
  any_append h (e ∷ es) fs = rw (any_append h es fs) (or_assoc (agree y e h) (agrees_any y h es) (agrees_any y h fs))

  -- one position more
  fresh_more : (es hs : List Heading) (h : Heading) → fresh y es hs ≡ true → agrees_any y h (es ++ hs) ≡ false → fresh y es (hs ++ (h ∷ [])) ≡ true
  unfolding fresh
  fresh_more es [] h k n =
      let z : agrees_any y h es ≡ false = rw append-nil at n in
      rw z
  fresh_more es (q ∷ hs) h k n =
      let p = and_both (not (agrees_any y q es)) (fresh y (es ++ (q ∷ [])) hs) k in
      let z : agrees_any y h ((es ++ (q ∷ [])) ++ hs) ≡ false = rw append_assoc n in
      both-and _ _ p.0 (fresh_more (es ++ (q ∷ [])) hs h p.1 z)

  turned : (e h : Heading) → agree y h e ≡ false → agree y e h ≡ false
  turned e h n = go (agree y e h) refl
    where
      go : (b : Bool) → agree y e h ≡ b → b ≡ false
      go true k = absurd (true≢false (sym (agree_turned y e h k) ∙ n))
      go false k = refl

  -- where none of es agrees with one of these, the first of these agrees with none of es
  meets-first : (es : List Heading) (h : Heading) (hs : List Heading) → meets y es (h ∷ hs) ≡ false → (agrees_any y h es ≡ false) × (meets y es hs ≡ false)
  unfolding meets agrees_any
  meets-first [] h hs k = (refl, refl)
  meets-first (e ∷ es) h hs k =
      let p = neither (agree y h e || agrees_any y e hs) (meets y es (h ∷ hs)) k in
      let q = neither (agree y h e) (agrees_any y e hs) p.0 in
      let i = meets-first es h hs p.1 in
      let z = turned e h q.0 in
      (rw z i.0, rw q.1 i.1)

  fresh-after : (es fs hs : List Heading) → fresh y fs hs ≡ true → meets y es hs ≡ false → fresh y (es ++ fs) hs ≡ true
  unfolding fresh
  fresh-after es fs [] k n = refl
  fresh-after es fs (h ∷ hs) k n =
      let p = and_both (not (agrees_any y h fs)) (fresh y (fs ++ (h ∷ [])) hs) k in
      let m = meets-first es h hs n in
      let z : not (agrees_any y h (es ++ fs)) ≡ true = rw (any_append h es fs, m.0) p.0 in
      both-and _ _ z (rw append_assoc (fresh-after es (fs ++ (h ∷ [])) hs p.1 m.1))

  -- the search after the first `count` of the segments ss, where their positions agree with none before them
  abbrev Passes : ℕ → ℕ → List Segment → Type 0
  Passes n count ss =
      (es : List Heading) → fresh y es (headings_in count ss) ≡ true
      → first_after y es (positions_from n ss) ≡ first_after y (es ++ headings_in count ss) (positions_from (n + count) (drop count ss))

  passes_more : (n count : ℕ) (s : Segment) (ss : List Segment) → Passes (n + 1) count ss → Passes n (suc count) (s ∷ ss)
  unfolding headings_in positions_from first_after fresh
  passes_more n count s ss ih es k = rw (← z) (go (is_lin s.bytes) k)
    where
      h : Heading
      h = heading_from s.bytes ss

      z : n + 1 + count ≡ n + suc count
      z = omega arith

      go
          : (b : Bool) → fresh y es (cond b (h ∷ headings_in count ss) (headings_in count ss)) ≡ true
          → first_after y es (cond b (record { number = n; place = s.start; heading = h } ∷ positions_from (n + 1) ss) (positions_from (n + 1) ss))
          ≡ first_after y (es ++ cond b (h ∷ headings_in count ss) (headings_in count ss)) (positions_from (n + 1 + count) (drop count ss))
      go true l =
          let p = and_both (not (agrees_any y h es)) (fresh y (es ++ (h ∷ [])) (headings_in count ss)) l in
          let f : agrees_any y h es ≡ false = not-true _ p.0 in
          rw (f, ← append_assoc es (h ∷ []) (headings_in count ss)) (ih (es ++ (h ∷ [])) p.1)
      go false l = ih es l

  passes : (n count : ℕ) (ss : List Segment) → Passes n count ss
  unfolding headings_in positions_from first_after
  passes n zero ss es k =
      let z : n + 0 ≡ n = omega arith in
      rw (z, append-nil)
  passes n (suc count) [] es k = refl
  passes n (suc count) (s ∷ ss) es k = passes_more n count s ss (passes (n + 1) count ss) es k

-- the positions among n segments and `count` more
headings_none : (n : ℕ) → headings_in n [] ≡ []
unfolding headings_in
headings_none zero = refl
headings_none (suc n) = refl

headings_run : (n count : ℕ) (ts : List Segment) → headings_in (n + count) ts ≡ headings_in n ts ++ headings_in count (drop n ts)
unfolding headings_in
headings_run zero count ts = rw zero-add
headings_run (suc n) count [] = rw (suc-add, headings_none count)
headings_run (suc n) count (t ∷ ts) = rw (suc-add, headings_run n count ts) (go (is_lin t.bytes))
  where
    go
        : (b : Bool)
        → cond b (heading_from t.bytes ts ∷ (headings_in n ts ++ headings_in count (drop n ts))) (headings_in n ts ++ headings_in count (drop n ts))
        ≡ cond b (heading_from t.bytes ts ∷ headings_in n ts) (headings_in n ts) ++ headings_in count (drop n ts)
    go true = refl
    go false = refl

-- the search passes a run that none of the earlier positions meets
module _ (y : Syntax) (d : List ℕ) (start at n : ℕ) (i : Searched y d start at n) (t : List ℕ) (r : Run) (k : Running y d at t r)
    (apart : meets y (headings_in n (segments_at y d start)) (headings_in r.count (segments_at y d at)) ≡ false) where
  abbrev earlier : List Heading
  earlier = headings_in n (segments_at y d start)

  passed_on
      : first_after y earlier (positions_from (n + 1) (segments_at y d at))
      ≡ first_after y (earlier ++ headings_in r.count (segments_at y d at)) (positions_from (n + 1 + r.count) (segments_at y d r.end))
  passed_on =
      let f : fresh y (earlier ++ []) (headings_in r.count (segments_at y d at)) ≡ true = fresh-after y earlier [] _ k.apart apart in
      let g : fresh y earlier (headings_in r.count (segments_at y d at)) ≡ true = rw append-nil at f in
      passes y (n + 1) r.count (segments_at y d at) earlier g ∙ rw k.passed

  pub search_run : Searched y d start r.end (n + r.count)
  search_run =
      let z : n + r.count + 1 ≡ n + 1 + r.count = omega arith in
      let l = headings_run n r.count (segments_at y d start) in
      record {
        found = rw (z, l, i.passed) (sym passed_on ∙ i.found);
        passed = sym (drop-drop r.count n (segments_at y d start)) ∙ ap (λ (ss : List Segment). drop r.count ss) i.passed ∙ k.passed;
        few = omega (arith, i.few, k.few);
      }

-- the run r so far, and the table with its marks
pub record Growing (y : Syntax) (d : List ℕ) (at : ℕ) (t : List ℕ) (r : Run) : Type 0 where
  pub is : Running y d at t r
  pub size : length t ≡ 8192

-- a run grows by a segment
module _ (y : Syntax) (d : List ℕ) (at : ℕ) where
  pub run-begins : (t : List ℕ) → length t ≡ 8192 → Growing y d at t (record { count = 0; end = at; stopped = false })
  unfolding fresh headings_in all_marked
  run-begins t l = record { is = record { passed = refl; few = omega arith; fits = omega arith; apart = refl; marked = refl }; size = l }

  module _ (t : List ℕ) (w : Run) (g : Growing y d at t w) where
    abbrev k : Running y d at t w
    k = g.is

    abbrev n : ℕ
    n = w.count

    abbrev inside : List Heading
    inside = headings_in n (segments_at y d at)

    module _ (s : Segment) (ss : List Segment) (apart : is_lin s.bytes && agrees_any y (heading_from s.bytes ss) inside ≡ false) where
      abbrev h : Heading
      h = heading_from s.bytes ss

      more_apart : fresh y [] (inside ++ cond (is_lin s.bytes) (h ∷ []) []) ≡ true
      more_apart = go (is_lin s.bytes) apart
        where
          go : (b : Bool) → b && agrees_any y h inside ≡ false → fresh y [] (inside ++ cond b (h ∷ []) []) ≡ true
          go true f = fresh_more y [] inside h k.apart f
          go false f = rw append-nil k.apart

      more_marked : all_marked y (cond (is_lin s.bytes) (mark_in t (print_of y h)) t) (inside ++ cond (is_lin s.bytes) (h ∷ []) []) ≡ true
      more_marked = go (is_lin s.bytes)
        where
          go : (b : Bool) → all_marked y (cond b (mark_in t (print_of y h)) t) (inside ++ cond b (h ∷ []) []) ≡ true
          go true = all-marked y t inside h g.size k.marked
          go false = rw append-nil k.marked

    -- a segment that begins no position agreeing with those of the run; the position of one that does is marked
    module _ (r : Entry) (q : EntryAt y d w.end r) (t' : List ℕ) where
      abbrev grows : Type 0
      grows = Growing y d at t' (record w { count = n + 1; end = r.segment.end })

      abbrev next : Segment
      next = record { start = r.segment.start; bytes = part r.segment.start r.segment.end d; piece = r.segment.piece }

      grown
          : is_lin next.bytes && agrees_any y (heading_from next.bytes (segments_at y d r.segment.end)) inside ≡ false
          → t' ≡ cond (is_lin next.bytes) (mark_in t (print_of y (heading_from next.bytes (segments_at y d r.segment.end)))) t
          → grows
      grown a m =
          let l : drop n (segments_at y d at) ≡ next ∷ segments_at y d r.segment.end = k.passed ∙ q.list in
          let o = headings_next n (segments_at y d at) next (segments_at y d r.segment.end) l in
          record {
            is =
                record {
                  passed = sym (drop-drop 1 n (segments_at y d at)) ∙ ap (λ (ss : List Segment). drop 1 ss) l;
                  few = omega (arith, k.few, q.later, q.some);
                  fits = omega (arith, q.fits);
                  apart = rw o (more_apart next (segments_at y d r.segment.end) a);
                  marked = rw (o, m) (more_marked next (segments_at y d r.segment.end) a);
                };
            size = ap length m ∙ kept (is_lin next.bytes);
          }
        where
          kept : (b : Bool) → length (cond b (mark_in t (print_of y (heading_from next.bytes (segments_at y d r.segment.end)))) t) ≡ 8192
          kept true = mark-length t _ ∙ g.size
          kept false = g.size

      pub run_other : r.position ≡ None → t' ≡ t → grows
      run_other h m =
          let f : is_lin next.bytes ≡ false = rw h at q.position in
          grown (rw f) (rw f m)

      pub run_on
          : (h : Head) → r.position ≡ Some h → (f : ℕ) → f ≡ print_of y (heading_in h d) → (a : Bool) → a ≡ agrees_any y (heading_in h d) inside
          → a ≡ false → t' ≡ mark_in t f → grows
      run_on h e f p a is n m =
          let b : BeginsPosition y d r.segment.start r.segment.end (Some h) = rw e at q.position in
          grown (rw (b.0, ← b.1) (sym is ∙ n)) (rw (b.0, ← b.1, ← p) m)
