-- The quick pass over a segment's components, one step further.
use Prim.Native.Nat.{ℕ, ◌+◌, ◌/◌, ◌%◌, ◌≤◌, ◌<◌}
use mathlib.Core.Path.{◌≡◌, refl, sym, ◌∙◌}
use mathlib.Core.Bool.{false}
use mathlib.Core.List.{List}
use native.Mathlib.Omega.{arith}
use lib.ListN.{length, drop}
use lib.Dec.{T}
use Rattle.bytewise.specs.Bytes.{part}
use Rattle.cut.specs.declared.service.Syntax.{Syntax}
use Rattle.element.specs.Components.{component_at}
use Rattle.plain.specs.Plain.{decoded}
use Rattle.element.proofs.ComponentFace.{Ended}
use Rattle.guide.specs.Page.{Page}
use Rattle.guide.specs.workers.PageFault.{text_fault, page_fault}
use Rattle.guide.specs.workers.Moods.{absent_fault}
use Rattle.page.specs.workers.Cells.{Spot, keep_of}
use Rattle.page.specs.workers.Places.{places_on}
use Rattle.page.specs.workers.Walk.{stand_of}
use Rattle.element.specs.Elements.{ending_at}
use Rattle.element.specs.declared.endings.Ending.TheVariants as ends
use Rattle.page.specs.workers.Words.{free_row, NodeWord}
use Rattle.page.specs.declared.places.Places.{Places}
use Rattle.page.proofs.CellTests.{word_at, word_of, row_word, opening_of, mood_on, calm, last_row, further_of, behind_of, Fits}
use Rattle.page.proofs.cells.Rows.{word-here, row_is, opening-is, freed_right, mood-on, calm_fault, last-row, kept_places}
use Rattle.page.proofs.pages.Moods.{absent_none}
use Rattle.page.proofs.places.Results.{own-word}
use Rattle.page.proofs.places.Sought.{Gathered, gather_further, gather_enter, gather_done}
use Rattle.page.proofs.pages.Steps.{Before, Behind, pass_on, pass_further, pass_done, pass_enter}

module _ (y : Syntax) (page : Page) (d : List ℕ) (start : ℕ) where
  -- what the page check would find, if the segment went on to the delivery's end
  abbrev pub full_fault : ℕ
  full_fault = page_fault y page (part start (length d) d)

  -- the pass stands at the place a before the spot q, and has gathered the places p
  pub record Stood (p : Places) (a : ℕ) (q : Spot) : Type 0 where
    pub node : NodeWord q.page page
    pub before : Before y page d (length d) full_fault a (q.element + 1) q.component (word_of q) (stand_of q.mood)
    pub gathered : Gathered y d start (length d) p a (q.element + 1) q.component

  -- the component there ends at the place stop and has n bytes; w is the word of the row, on which it has no fault if it is not empty
  module _ (p : Places) (a : ℕ) (q : Spot) (st : Stood p a q) (w : ℕ) (f : Fits w q) (stop : ℕ) (z : Ended y d a (length d) stop)
      (n : ℕ) (count : n ≡ length (decoded y a stop d)) (right : 0 < n → text_fault y false (free_row w) (decoded y a stop d) ≡ 0)
      (quiet : T (calm n q.mood (row_word q))) (p' : Places) (kept : p' ≡ keep_of (w / 65536 % 4) (record { start = a; end = stop }) p) where
    abbrev mood : ℕ
    mood = mood_on n q.mood (row_word q)

    behind : Behind y page d (length d) full_fault a (q.element + 1) q.component (stand_of mood)
    behind =
        pass_on y page d (length d) full_fault a (q.element + 1) q.component (word_of q) (stand_of q.mood) st.before stop z (row_word q)
        (row_is q f.component) 0
        (calm_fault (row_word q) n q.mood f.mood y (decoded y a stop d) count
        (λ h. freed_right y w (row_word q) f.row (decoded y a stop d) (omega (arith, count)) (right h)) quiet)
        (omega arith) n (stand_of mood) count (mood-on (row_word q) n q.mood f.mood)

    placed : p' ≡ places_on (q.element + 1) q.component (record { start = a; end = stop }) p
    placed = kept_places q.element q.component (w / 65536 % 4) (record { start = a; end = stop }) p p' f.kept kept

    module _ (on : ℕ) (o : on ≡ stop + 1) where
      pub stood_further : ends.Component ≡ ending_at y d stop (length d) → Stood p' on (further_of n q)
      unfolding further_of word_of
      stood_further k = record {
        node = st.node;
        before =
            pass_further y page d (length d) full_fault a (q.element + 1) q.component (word_of q) (stand_of q.mood) st.before stop z
            (stand_of mood) behind (omega arith) ends.Component k on o refl;
        gathered = gather_further y d start (length d) p a (q.element + 1) q.component st.gathered stop z (omega arith) ends.Component k p' placed on o refl;
      }

    module _ (last : T (last_row mood (word_of q) q.component)) where
      pub stood_behind
          : (on : ℕ) → on ≡ stop + 1 → ends.Element ≡ ending_at y d stop (length d) → q.element + 1 < q.page / 1024 % 32 → Stood p' on (behind_of q)
      unfolding behind_of word_of
      stood_behind on o k l = record {
        node = st.node;
        before =
            pass_enter y page d (length d) full_fault a (q.element + 1) q.component (word_of q) (stand_of q.mood) st.before stop z
            (stand_of mood) behind (omega arith) ends.Element k on o
            (λ i. cc) 0
            (last-row (word_of q) q.component mood last) (omega arith) refl (word_at q.page (q.element + 1))
            (stand_of (opening_of (word_at q.page (q.element + 1))))
            (word-here q.page (q.element + 1) page st.node l) (opening-is (word_at q.page (q.element + 1)));
        gathered =
            gather_enter y d start (length d) p a (q.element + 1) q.component st.gathered stop z (omega arith) ends.Element k p' placed on o refl;
      }

      pub stood_done
          : ends.Segment ≡ ending_at y d stop (length d) → q.page / 32768 ≤ q.element + 1
          → (full_fault ≡ 0) × (p'.first ≡ component_at y d start (length d) 1 0) × (p'.third ≡ component_at y d start (length d) 3 0)
      stood_done k l =
          let g = pass_done y page d (length d) full_fault a (q.element + 1) q.component (word_of q) (stand_of q.mood) st.before stop z
          (stand_of mood) behind (omega arith) ends.Segment k
          (stop + 1) refl (λ i. cc) 0
          (last-row (word_of q) q.component mood last) (omega arith) refl in
          let b : 0 ≡ absent_fault (drop (q.element + 1) page) =
          rw st.node.page at (absent_none q.page (own-word q.page page st.node) (q.element + 1) l) in
          let h = gather_done y d start (length d) p a (q.element + 1) q.component st.gathered stop z (omega arith) ends.Segment k p' placed refl in
          (sym (b ∙ g), h.0, h.1)
