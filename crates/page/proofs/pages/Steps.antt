-- The pass over a segment's components, one step further.
use Prim.Native.Nat.{ℕ, zero, suc, ◌+◌, ◌≤◌, ◌<◌}
use mathlib.Core.Bool.{false}
use mathlib.Core.Path.{◌≡◌, refl, sym, ap, ◌∙◌}
use mathlib.Core.List.{List, [], ◌∷◌}
use native.Mathlib.Omega.{arith}
use lib.ListN.{length, get_or, drop}
use Rattle.bytewise.specs.Bytes.{part}
use Rattle.cut.specs.declared.service.Syntax.{Syntax}
use Rattle.bytewise.proofs.Parts.{length_part}
use Rattle.element.specs.Elements.{Split, ending_at}
use Rattle.element.specs.declared.endings.Ending.{Ending}
use Rattle.element.specs.declared.endings.Ending.TheVariants as ends
use Rattle.plain.specs.Plain.{plain, decoded}
use Rattle.element.proofs.ComponentFace.{from, Ended}
use Rattle.guide.specs.Page.{Row, unused, Page, element_of, row_of}
use Rattle.guide.specs.workers.PageFault.{page_fault}
use Rattle.guide.specs.Choices.{or_else}
use Rattle.guide.specs.workers.Moods.{opened, mood_after, mood_fault, pass_fault, absent_fault}
use Rattle.guide.proofs.PageFace.{behind_fault, segment_pass, pass_component, pass_element, pass_absent}
use Rattle.page.specs.workers.Walk.{Stand, tag, inside, stand_fault, stand_after, stand_end, MoodAfter, EndFault}
use Rattle.page.specs.workers.Words.{row_in, element_in, ElementWord}
use Rattle.page.proofs.rows.Lookup.{element-tag}
use Rattle.page.proofs.pages.Stops.{component-not_segment, element-not_segment, stop-inner, stop-further, stop-none, stop_enters, stop-done}

or-first : (f x : ℕ) → 0 < f → f ≡ or_else f x
or-first zero x h = absurd (omega arith)
or-first (suc f) x h = refl

or_second : (f x : ℕ) → f ≤ 0 → or_else f x ≡ x
or_second zero x h = refl
or_second (suc f) x h = absurd (omega arith)

or_assoc : (a b c : ℕ) → or_else (or_else a b) c ≡ or_else a (or_else b c)
or_assoc zero b c = refl
or_assoc (suc a) b c = refl

module _ (y : Syntax) (page : Page) where
  -- what is found in the components bs, of which the first is on the first of the rows rs
  unfoldable pub stand_pass : Stand → List Row → List (List ℕ) → ℕ
  stand_pass tag rs bs = 0
  stand_pass (inside m) rs bs = pass_fault y m rs bs

  -- what is found in what is left of the segment, from component c of element e on
  unfoldable pub left_fault : ℕ → ℕ → Stand → List (List ℕ) → List (List (List ℕ)) → ℕ
  left_fault e c s bs es = or_else (stand_pass s (drop c (element_of page e).rows) bs) (behind_fault y page e es)

  -- one component further
  left_step
      : (e c : ℕ) (s : Stand) (b : List ℕ) (bs : List (List ℕ)) (es : List (List (List ℕ)))
      → left_fault e c s (b ∷ bs) es
      ≡ or_else (stand_fault y s (row_of page e c) (plain y false b)) (left_fault e (c + 1) (stand_after s (row_of page e c) (plain y false b)) bs es)
  unfolding left_fault stand_pass stand_fault stand_after
  left_step e c tag b bs es = refl
  left_step e c (inside m) b bs es =
      let r = row_of page e c in
      let t = plain y false b in
      rw (pass_component y page e c m b bs)
      (or_assoc (mood_fault y m r t) (pass_fault y (mood_after m r t) (drop (c + 1) (element_of page e).rows) bs) (behind_fault y page e es))

  -- where the element has no component left
  left_end
      : (e c : ℕ) (s : Stand) (es : List (List (List ℕ))) → left_fault e c s [] es
      ≡ or_else (stand_end s (drop c (element_of page e).rows)) (behind_fault y page e es)
  unfolding left_fault stand_pass stand_end pass_fault
  left_end e c tag es = refl
  left_end e c (inside m) es = refl

  -- the pass stands before component c of element e, which has the word w, at the place a
  pub record Before (d : List ℕ) (limit ans a e c w : ℕ) (m : Stand) : Type 0 where
    pub ahead : a ≤ limit
    pub element : e ≤ a
    pub component : c ≤ a
    pub word : ElementWord w (element_of page e)
    pub answer : left_fault e c m ((from y d a limit).bytes ∷ (from y d a limit).components) (from y d a limit).elements ≡ ans

  -- and behind it
  pub record Behind (d : List ℕ) (limit ans a e c : ℕ) (m : Stand) : Type 0 where
    pub answer : left_fault e (c + 1) m (from y d a limit).components (from y d a limit).elements ≡ ans

  pub pass_begins
      : (d : List ℕ) (limit start : ℕ) → start < limit → limit ≤ length d → (a : ℕ) → a ≡ start
      → Before d limit (page_fault y page (part start limit d)) a 0 0 0 tag
  unfolding left_fault stand_pass
  pass_begins d limit start h fits a g =
      let l : 0 < length (part start limit d) = rw (length_part d start limit fits) (omega arith) in
      rw g
      (record {
        ahead = omega arith;
        element = omega arith;
        component = omega arith;
        word = element-tag page;
        answer =
            segment_pass y page (part start limit d) l;
      })

  module _ (d : List ℕ) (limit ans a e c w : ℕ) (m : Stand) (q : Before d limit ans a e c w m) (stop : ℕ) (z : Ended y d a limit stop) where
    -- what stands from the component on, and behind the byte that ends it
    abbrev S : Split
    S = from y d a limit

    abbrev T : Split
    T = from y d (stop + 1) limit

    -- its row and its fault are known
    module _ (row : ℕ) (p : row_in row ≡ get_or (element_in w).rows c unused) (fault : ℕ)
        (f : fault ≡ stand_fault y m (row_in row) (decoded y a stop d)) where
      row_here : row_in row ≡ row_of page e c
      unfolding row_of
      row_here = p ∙ rw q.word.element

      text : decoded y a stop d ≡ plain y false S.bytes
      unfolding decoded
      text = ap (plain y false) (sym z.bytes)

      stepped : or_else fault (left_fault e (c + 1) (stand_after m (row_in row) (decoded y a stop d)) S.components S.elements) ≡ ans
      stepped = rw (f, row_here, text) (sym (left_step e c m S.bytes S.components S.elements) ∙ q.answer)

      pub pass_told : 0 < fault → fault ≡ ans
      pass_told h = or-first fault _ h ∙ stepped

      pub pass_on : fault ≤ 0 → (n : ℕ) (m' : Stand) → n ≡ length (decoded y a stop d) → MoodAfter n m (row_in row) m' → Behind d limit ans a e c m'
      pass_on h n m' l k = record { answer = rw (k (decoded y a stop d) l) (sym (or_second fault _ h) ∙ stepped) }

    -- what ends where it ends is known
    module _ (m' : Stand) (b : Behind d limit ans a e c m') (fits : limit ≤ length d) (k : Ending) (s : k ≡ ending_at y d stop limit) (on : ℕ)
        (o : on ≡ stop + 1) where
      -- the next component of the element
      pub pass_further : k ≡ ends.Component → Before d limit ans on e (c + 1) w m'
      pass_further i =
          let h = stop-inner y d a limit stop z fits k s (component-not_segment k i) in
          let n = stop-further y d a limit stop z fits k s i in
          let g = z.ends in
          rw o
          (record {
            ahead = omega arith;
            element = omega (arith, q.element);
            component = omega (arith, q.component);
            word = q.word;
            answer = rw (← n.0, ← n.1) b.answer;
          })

      -- the element ends
      module _ (j : k ≡ ends.Component → ⊥) (f : ℕ) (t : EndFault w c m' f) where
        ended : or_else f (behind_fault y page e S.elements) ≡ ans
        ended =
            ap (λ (g : ℕ). or_else g (behind_fault y page e S.elements)) (t (element_of page e) q.word)
            ∙ sym (left_end e (c + 1) m' S.elements)
            ∙ ap (λ (bs : List (List ℕ)). left_fault e (c + 1) m' bs S.elements) (sym (stop-none y d a limit stop z fits k s j))
            ∙ b.answer

        pub pass_left : 0 < f → f ≡ ans
        pass_left h = or-first f _ h ∙ ended

        module _ (l : f ≤ 0) where
          calm : behind_fault y page e S.elements ≡ ans
          calm = sym (or_second f _ l) ∙ ended

          -- the segment too
          pub pass_done : k ≡ ends.Segment → absent_fault (drop e page) ≡ ans
          pass_done i = sym (pass_absent y page e) ∙ ap (behind_fault y page e) (sym (stop-done y d a limit stop z fits k s i)) ∙ calm

          -- or the next one begins
          pub pass_enter
              : k ≡ ends.Element → (w' : ℕ) (m'' : Stand) → ElementWord w' (element_of page (e + 1)) → m'' ≡ inside (opened (element_in w'))
              → Before d limit ans on (e + 1) 0 w' m''
          unfolding left_fault stand_pass
          pass_enter i w' m'' v p =
              let h = stop-inner y d a limit stop z fits k s (element-not_segment k i) in
              let g = z.ends in
              rw o
              (record {
                ahead = omega arith;
                element = omega (arith, q.element);
                component = omega arith;
                word = v;
                answer =
                    rw (p, v.element)
                    (sym (pass_element y page e (T.bytes ∷ T.components) T.elements)
                    ∙ ap (behind_fault y page e) (sym (stop_enters y d a limit stop z fits k s i)) ∙ calm);
              })
