-- `page::pages::pass` meets its contract. The loop's invariant: what is found from the next component on is the answer.
use mathlib.Core.Path.{◌≡◌, refl, ◌∙◌}
use native.Mathlib.Omega.{arith}
use lib.ListN.{length}
use Rattle.bytewise.specs.Bytes.{part}
use Rattle.plain.specs.Plain.{decoded}
use Rattle.element.proofs.ComponentFace.{Ended, extent_ended, extent-length}
use Rattle.guide.specs.workers.PageFault.{page_fault}
use Rattle.guide.proofs.Reasons.{number-some, numbered-err}
use Rattle.page.specs.workers.Walk.{stand_in}
use Rattle.page.specs.workers.Words.{page_in}
use Rattle.page.proofs.places.Results.{result_told, result_done}
use Rattle.page.proofs.places.Sought.{gather_begins, gather_further, gather_enter, gather_done}
use Rattle.page.proofs.pages.Steps.{Behind, pass_begins, pass_told, pass_on, pass_further, pass_left, pass_done, pass_enter}
use Rattle.page.proofs.pages.Stops.{component-not_segment, element-not_segment, element-not_component, segment-not_component, stop-inner}
use Rattle.page.proofs.pages.pass.Goals as goal
use Rattle.page.proofs.pages.pass.Goals.{After-component_from-p, After-mood_after-mood}

-- the component that comes next is told
ended : (c : After-component_from-p) → Ended c.args.d.syntax c.args.d.bytes.now c.loop-places.a c.args.limit c.component_from-p.result.end
ended c = extent_ended _ _ _ _ _ c.component_from-p.ensures c.loop-places.invariant.0.ahead c.requires.1

counted
    : (c : After-component_from-p) → c.component_from-p.result.length
    ≡ length (decoded c.args.d.syntax c.loop-places.a c.component_from-p.result.end c.args.d.bytes.now)
counted c = extent-length _ _ _ _ _ c.component_from-p.ensures c.loop-places.invariant.0.ahead c.requires.1

-- the pass stands behind it
behind
    : (c : After-mood_after-mood)
    → Behind c.args.d.syntax (page_in c.args.page) c.args.d.bytes.now c.args.limit (page_fault c.args.d.syntax (page_in c.args.page)
    (part c.args.start c.args.limit c.args.d.bytes.now))
    c.loop-places.a
    c.loop-places.e c.loop-places.c (stand_in c.mood_after-mood.result)
behind c =
    let q = c.loop-places.invariant.0 in
    let e = c.component_from-p.ensures in
    pass_on _ _ _ _ _ _ _ _ _ _ q _ (extent_ended _ _ _ _ _ e q.ahead c.requires.1) _ c.row_at-row.ensures 0 c.in_ok-known_fault.ensures (omega arith) _ _
    (extent-length _ _ _ _ _ e q.ahead c.requires.1) c.mood_after-mood.ensures

pub loop-places-init : goal.loop-places-init
loop-places-init c =
    let p = c.requires in
    (pass_begins _ _ _ _ _ p.0 p.1 _ refl, gather_begins _ _ _ _ p.0 p.1 _ c.nowhere-places.ensures _ refl)

pub known_fault-requires : goal.known_fault-requires
known_fault-requires c = counted (goal.at.known_fault-requires c).After-component_from-p

pub returns-in_err-known_fault : goal.returns-in_err-known_fault
returns-in_err-known_fault c =
    let g = pass_told _ _ _ _ _ _ _ _ _ _ c.loop-places.invariant.0 _ (ended (goal.at.returns-in_err-known_fault c).After-component_from-p)
    _ c.row_at-row.ensures _ (c.in_err-known_fault.ensures) (number-some _) in
    numbered-err _ _ c.from_residual.ensures.1 ∙ result_told _ _ _ _ _ _ g (number-some _)

pub overflow_add-a : goal.overflow_add-a
overflow_add-a c =
    let e = ended (goal.at.overflow_add-a c).After-component_from-p in
    omega (arith, e.within, c.requires.1)

pub loop-places-smaller-in-Component : goal.loop-places-smaller-in-Component
loop-places-smaller-in-Component c =
    let e = ended (goal.at.loop-places-smaller-in-Component c).After-component_from-p in
    omega (arith, e.ends, stop-inner _ _ _ _ _ e c.requires.1 _ c.ending_at.ensures (component-not_segment _ c.in-Component.is))

pub loop-places-preserved-in-Component : goal.loop-places-preserved-in-Component
loop-places-preserved-in-Component c =
    let q = c.loop-places.invariant in
    let m = (goal.at.loop-places-preserved-in-Component c).After-mood_after-mood in
    let e = ended (goal.at.loop-places-preserved-in-Component c).After-component_from-p in (
      pass_further _ _ _ _ _ _ _ _ _ _ q.0 _ e _ (behind m) c.requires.1 _ c.ending_at.ensures _ refl c.in-Component.is,
      gather_further _ _ _ _ _ _ _ _ q.1 _ e c.requires.1 _ c.ending_at.ensures _ c.places_on-places.ensures _ refl c.in-Component.is,
    )

pub returns-in_err-ended-in-Element : goal.returns-in_err-ended-in-Element
returns-in_err-ended-in-Element c =
    let m = (goal.at.returns-in_err-ended-in-Element c).After-mood_after-mood in
    let g = pass_left _ _ _ _ _ _ _ _ _ _ c.loop-places.invariant.0 _ (ended (goal.at.returns-in_err-ended-in-Element c).After-component_from-p) _
    (behind m) c.requires.1 _ c.ending_at.ensures _ refl
    (element-not_component _ c.in-Element.is) _ (c.in_err-ended-in-Element.ensures) (number-some _) in
    numbered-err _ _ c.from_residual-in_err-ended-in-Element.ensures.1 ∙ result_told _ _ _ _ _ _ g (number-some _)

pub loop-places-smaller : goal.loop-places-smaller
loop-places-smaller c =
    let e = ended (goal.at.loop-places-smaller c).After-component_from-p in
    omega (arith, e.ends, stop-inner _ _ _ _ _ e c.requires.1 _ c.ending_at.ensures (element-not_segment _ c.in-Element.is))

pub loop-places-preserved : goal.loop-places-preserved
loop-places-preserved c =
    let q = c.loop-places.invariant in
    let m = (goal.at.loop-places-preserved c).After-mood_after-mood in
    let e = ended (goal.at.loop-places-preserved c).After-component_from-p in (
      pass_enter _ _ _ _ _ _ _ _ _ _ q.0 _ e _ (behind m) c.requires.1 _ c.ending_at.ensures _ refl (element-not_component _ c.in-Element.is) _
          (c.in_ok-ended-in-Element.ensures)
          (omega arith) c.in-Element.is _ _ c.element_behind-word.ensures c.opening-mood.ensures,
      gather_enter _ _ _ _ _ _ _ _ q.1 _ e c.requires.1 _ c.ending_at.ensures _ c.places_on-places.ensures _ refl c.in-Element.is,
    )

pub returns-in_err-ended-in-Segment : goal.returns-in_err-ended-in-Segment
returns-in_err-ended-in-Segment c =
    let m = (goal.at.returns-in_err-ended-in-Segment c).After-mood_after-mood in
    let g = pass_left _ _ _ _ _ _ _ _ _ _ c.loop-places.invariant.0 _ (ended (goal.at.returns-in_err-ended-in-Segment c).After-component_from-p) _
    (behind m) c.requires.1 _ c.ending_at.ensures _ refl
    (segment-not_component _ c.in-Segment.is) _ (c.in_err-ended-in-Segment.ensures) (number-some _) in
    numbered-err _ _ c.from_residual-in_err-ended-in-Segment.ensures.1 ∙ result_told _ _ _ _ _ _ g (number-some _)

pub returns-in_err-absent-in-Segment : goal.returns-in_err-absent-in-Segment
returns-in_err-absent-in-Segment c =
    let m = (goal.at.returns-in_err-absent-in-Segment c).After-mood_after-mood in
    let g = pass_done _ _ _ _ _ _ _ _ _ _ c.loop-places.invariant.0 _ (ended (goal.at.returns-in_err-absent-in-Segment c).After-component_from-p) _
    (behind m) c.requires.1 _ c.ending_at.ensures _ refl
    (segment-not_component _ c.in-Segment.is) _ (c.in_ok-ended-in-Segment.ensures) (omega arith) c.in-Segment.is in
    numbered-err _ _ c.from_residual-in_err-absent-in-Segment.ensures.1
    ∙ result_told _ _ _ _ _ _ (c.in_err-absent-in-Segment.ensures ∙ g) (number-some _)

pub returns-in-Segment : goal.returns-in-Segment
returns-in-Segment c =
    let m = (goal.at.returns-in-Segment c).After-mood_after-mood in
    let e = ended (goal.at.returns-in-Segment c).After-component_from-p in
    let g = pass_done _ _ _ _ _ _ _ _ _ _ c.loop-places.invariant.0 _ e _ (behind m) c.requires.1 _ c.ending_at.ensures _ refl
    (segment-not_component _ c.in-Segment.is) _ (c.in_ok-ended-in-Segment.ensures) (omega arith) c.in-Segment.is in
    result_done _ _ _ _ _ _ (c.in_ok-absent-in-Segment.ensures ∙ g) refl _
    (gather_done _ _ _ _ _ _ _ _ c.loop-places.invariant.1 _ e c.requires.1 _ c.ending_at.ensures _ c.places_on-places.ensures c.in-Segment.is)
