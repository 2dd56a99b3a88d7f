-- The quick pass over one component: what it knows before it, what it knows behind it, and what it tells at the segment's end.
use Prim.Native.Nat.{ℕ, ◌+◌, ◌/◌, ◌%◌, ◌≤◌, ◌<◌}
use mathlib.Core.Path.{◌≡◌, refl, sym, ap, subst, ◌∙◌}
use mathlib.Core.Bool.{true, false}
use mathlib.Core.List.{List}
use mathlib.Core.Logic.{⊎_elim}
use native.Mathlib.Nat.{le_refl}
use native.Mathlib.Omega.{arith}
use lib.ListN.{length, get_or}
use borrow.Author.Tests.{eqb-false}
use Rattle.bytewise.specs.Bytes.{part}
use Rattle.cut.specs.Calls.{cut_at, some_cut}
use Rattle.cut.specs.workers.Carrying.{Carries}
use Rattle.cut.specs.declared.service.Syntax.{Syntax}
use Rattle.cut.proofs.Carrying.{carries_on, carries_plain, ended_here}
use Rattle.clean.specs.Clean.{allowed_bytes}
use Rattle.plain.specs.Plain.{decoded}
use Rattle.element.specs.Services.{is_service, is_mark}
use Rattle.element.proofs.ComponentFace.{Ended, extent_ended, extent-length, at-segment, at-element, at-component}
use Rattle.element.proofs.Cuts.{elements_cut, component-at_cut}
use Rattle.guide.specs.Page.{Page}
use Rattle.guide.specs.workers.PageFault.{text_fault, page_fault}
use Rattle.page.specs.workers.Cells.{Spot, spot_of, states, cell_of, FirstCell, steps_of, may_end, next_of, row_of_cell, keep_of}
use Rattle.element.specs.workers.Scans.{Tested, fresh}
use Rattle.page.specs.workers.Marks.{CleanAhead}
use Rattle.page.specs.workers.Words.{free_row}
use Rattle.page.specs.workers.Quick.{Begun, FaultlessAt}
use Rattle.page.specs.declared.places.Places.{Places}
use Rattle.page.specs.declared.reads.Reading.{Reading}
use Rattle.page.specs.declared.marks.Ahead.{Ahead}
use Rattle.element.specs.declared.ahead.Scan.{Scan}
use Rattle.page.proofs.cells.Fields.{next-by}
use Rattle.page.proofs.CellTests.{behind_of, cell_fits, cell_further, cell_behind, cell_end}
use Rattle.page.proofs.marks.Flags.{scan_begins}
use Rattle.page.proofs.quick.Start.{
  plain-allowed,
  allowed-parts,
  allowed_more,
  plain_terminator,
  plain-element,
  plain-component,
  begun-room,
  begun-tagged,
  begun_carries,
  begun-allowed,
  stood_begins,
  first-spot,
}
use Rattle.page.proofs.quick.Onward.{Stood, stood_further, stood_behind, stood_done}

module _ (y : Syntax) (d : List ℕ) (start : ℕ) where
  -- the bytes before the place `at` are allowed, and the segment goes on there
  pub record Walked (at next left : ℕ) : Type 0 where
    pub inside : at ≤ length d
    pub beyond : start + 4 ≤ at
    pub carried : Carries y d start at
    pub allowed : allowed_bytes (part start at d) ≡ true
    pub scanned : Tested is_mark d (length d) at next left

  -- against each page that the first state is of, the pass stands before the spot of the state s
  abbrev pub OnPages : ℕ → Places → ℕ → ℕ → Type 0
  OnPages state p a s = (page : Page) → FirstCell state page → (s < states) × ((s ≡ 0 → ⊥) → Stood y page d start p a (spot_of s))

  module _ (b : Begun y d start) where
    pub walk_begins : (s : Scan) → s ≡ fresh (start + 4) → Walked s.at s.next s.left
    walk_begins s e =
        let m = scan_begins is_mark d (start + 4) (omega (arith, begun-room y d start b)) s e in
        let a : s.at ≡ start + 4 = ap (λ (k : Scan). k.at) e in
        record {
          inside = omega (arith, begun-room y d start b);
          beyond = omega arith;
          carried = subst (Carries y d start) (sym a) (begun_carries y d start b);
          allowed = rw a (begun-allowed y d start b);
          scanned = m;
        }

    pub pages_begin
        : (s : ℕ) (p : Places) → p ≡ record { first = record { start = start; end = start }; third = record { start = start; end = start } } → (a : ℕ) → a
        ≡ start + 4
        → OnPages s p a s
    unfolding FirstCell
    pages_begin s p g a o page f = (
      f.0,
      λ h.
          let k = f.1 h in
          let t = cell_fits s f.0 h in
          let e = k.1 in
          let l : 0 < (spot_of s).page / 1024 % 32 = omega (arith, t.element) in
          subst (λ (q : Spot). Stood y page d start p a q) (first-spot (spot_of s) e k.2 (t.opens k.2))
          (stood_begins y d start b page (spot_of s).page k.0 l p g a o),
    )

    -- one component
    module _ (a next left : ℕ) (wk : Walked a next left) (r : Ahead) (k : CleanAhead y d a r) (sv : is_service y (get_or d r.end 0) ≡ true) where
      pub here_ended : Ended y d a (length d) r.end
      here_ended = extent_ended y d a (length d) (record { end = r.end; length = r.length }) (k.extent sv) wk.inside (le_refl (length d))

      pub here-counted : r.length ≡ length (decoded y a r.end d)
      here-counted = extent-length y d a (length d) (record { end = r.end; length = r.length }) (k.extent sv) wk.inside (le_refl (length d))

      pub here-onward : a ≤ r.end
      here-onward =
          let z = here_ended.ends in
          omega arith

      up_to : allowed_bytes (part start r.end d) ≡ true
      up_to = allowed-parts d start a r.end (omega (arith, wk.beyond)) here-onward wk.allowed k.allowed

      carried : Carries y d start r.end
      carried = carries_on y d start a r.end wk.carried k.carried

      module _ (x : ℕ) (xe : x ≡ get_or d r.end 0) where
        -- behind a separator
        pub walk_on : (x ≡ y.terminator → ⊥) → (t s' : ℕ) → s' ≡ next_of y x t → (s' ≡ 0 → ⊥) → Walked r.scan.at r.scan.next r.scan.left
        walk_on n t s' e z =
            let pe = plain-element y b.services in
            let pc = plain-component y b.services in
            let v : (32 ≤ x) × (x ≤ 64) = ⊎_elim (λ w. rw w.0 pe) (λ w. rw w.1 pc) (next-by y x t s' e z) in
            let o = k.onward in
            let h = here-onward in
            let lo = v.0 in
            let hi = v.1 in
            let c = carries_on y d start r.end (r.end + 1) carried
            (carries_plain y d r.end k.inside (λ z. n (xe ∙ z)) (eqb-false (get_or d r.end 0) y.release k.literal)) in
            record {
              inside = omega (arith, k.inside);
              beyond = omega (arith, wk.beyond);
              carried = subst (Carries y d start) (sym o) c;
              allowed =
                  allowed_more d start r.end r.scan.at (omega (arith, wk.beyond)) k.inside o up_to
                  (plain-allowed (get_or d r.end 0) (omega arith) (omega arith));
              scanned = k.scanned;
            }

        -- against the pages
        module _ (state : ℕ) (p : Places) (s : ℕ) (pg : OnPages state p a s) (row : ℕ) (re : row ≡ row_of_cell (cell_of s))
            (right : 0 < r.length → text_fault y false (free_row row) (decoded y a r.end d) ≡ 0) (p' : Places)
            (kept : p' ≡ keep_of (row / 65536 % 4) (record { start = a; end = r.end }) p) where
          right-here : 0 < r.length → text_fault y false (free_row (row_of_cell (cell_of s))) (decoded y a r.end d) ≡ 0
          right-here h = rw (← re) (right h)

          kept_here : p' ≡ keep_of (row_of_cell (cell_of s) / 65536 % 4) (record { start = a; end = r.end }) p
          kept_here = rw (← re) kept

          pub pages_on
              : (x ≡ y.terminator → ⊥) → (s' : ℕ) → s' ≡ next_of y x (steps_of (cell_of s) r.length) → (s' ≡ 0 → ⊥) → OnPages state p' r.scan.at s'
          unfolding behind_of
          pages_on n s' e z page f =
              let g = pg page f in
              let low = g.0 in
              ⊎_elim
              (λ w.
              let q = cell_behind s low r.length s' w.1 z in
              let v = cell_fits s' q.3 z in
              let l : (spot_of s).element + 1 < (spot_of s).page / 1024 % 32 = subst (λ (i : Spot). i.element < i.page / 1024 % 32) q.4 v.element in (
                q.3,
                λ h. subst (λ (i : Spot). Stood y page d start p' r.scan.at i) (sym q.4)
                    (stood_behind y page d start p a (spot_of s) (g.1 q.0) (row_of_cell (cell_of s)) (cell_fits s low q.0) r.end here_ended
                    r.length here-counted right-here q.1 p' kept_here q.2
                    r.scan.at k.onward (sym (at-element y d r.end (length d) k.inside (le_refl (length d)) (λ i. n (xe ∙ i)) (sym xe ∙ w.0))) l),
              ))
              (λ w.
              let q = cell_further s low r.length s' w.2 z in (
                q.2,
                λ h. subst (λ (i : Spot). Stood y page d start p' r.scan.at i) (sym q.3)
                    (stood_further y page d start p a (spot_of s) (g.1 q.0) (row_of_cell (cell_of s)) (cell_fits s low q.0) r.end here_ended
                    r.length here-counted right-here q.1 p' kept_here
                    r.scan.at k.onward (sym (at-component y d r.end (length d) k.inside (le_refl (length d)) (λ i. n (xe ∙ i)) (λ i. w.0 (xe ∙ i))))),
              ))
              (next-by y x (steps_of (cell_of s) r.length) s' e z)

          -- at the segment's end
          module _ (tm : x ≡ y.terminator) (may : may_end (cell_of s) r.length ≡ true) (res : Reading)
              (rs : res ≡ record { first = p'.first; third = p'.third; end = r.end + 1 }) where
            cut_here : cut_at y d start ≡ some_cut start (r.end + 1) false
            cut_here = carried (r.end + 1) (ended_here y d r.end k.inside (sym xe ∙ tm))

            pub faultless_here : (page : Page) → FirstCell state page → FaultlessAt y page d start res
            unfolding page_fault
            faultless_here page f =
                let g = pg page f in
                let low = g.0 in
                let q = cell_end s low r.length may in
                let st = stood_done y page d start p a (spot_of s) (g.1 q.0) (row_of_cell (cell_of s)) (cell_fits s low q.0) r.end here_ended
                r.length here-counted right-here q.1 p' kept_here q.2
                (sym (at-segment y d r.end (length d) k.inside (le_refl (length d)) (sym xe ∙ tm))) q.3 in
                let h = here-onward in
                let v = plain_terminator y b.services in
                let lo = v.0 in
                let hi = v.1 in
                rw rs
                (record {
                  whole = cut_here;
                  allowed =
                      allowed_more d start r.end (r.end + 1) (omega (arith, wk.beyond)) k.inside refl up_to
                      (plain-allowed (get_or d r.end 0) (omega (arith, xe, tm)) (omega (arith, xe, tm)));
                  tagged = begun-tagged y d start b (r.end + 1) (omega (arith, wk.beyond)) (omega (arith, k.inside));
                  fault = rw (← elements_cut y d start start (r.end + 1) false cut_here) st.0;
                  first = st.1 ∙ component-at_cut y d start start (r.end + 1) false cut_here 1 0;
                  third = st.2 ∙ component-at_cut y d start start (r.end + 1) false cut_here 3 0;
                })
