-- `messages::found::message_end` meets its contract: the end seen from the message's first segment is the end seen from here.
use mathlib.Core.Path.{◌≡◌, sym, ◌∙◌, ap}
use native.Mathlib.Omega.{arith}
use Rattle.cut.specs.Segments.{segments_at, last_end}
use Rattle.messages.specs.Messages.{body}
use Rattle.messages.specs.workers.Walks.{goes_on}
use Rattle.messages.proofs.walks.Spots.{spotted, end_none, end_on, end_through, end_before}
use Rattle.messages.proofs.found.message_end.Goals as goal

pub returns-in_default : goal.returns-in_default
returns-in_default c =
    let ahead : let a = c.args in last_end a.from (body (segments_at a.d.syntax a.d.bytes.now a.from))
    ≡ last_end c.next_u-at.result (body (segments_at a.d.syntax a.d.bytes.now c.next_u-at.result)) =
    c.loop-tag.invariant ∙ c.next_u-at.ensures.same in
    sym (ahead ∙ end_none _ _ _ (sym c.spot_at.ensures ∙ c.in_default.is))

pub loop-tag-smaller : goal.loop-tag-smaller
loop-tag-smaller c =
    let q = spotted _ _ _ _ _ _ (sym c.spot_at.ensures ∙ c.in-Some.is) in
    let n = c.next_u-at.ensures.onward in
    omega arith

pub loop-tag-preserved : goal.loop-tag-preserved
loop-tag-preserved c =
    let ahead : let a = c.args in last_end a.from (body (segments_at a.d.syntax a.d.bytes.now a.from))
    ≡ last_end c.next_u-at.result (body (segments_at a.d.syntax a.d.bytes.now c.next_u-at.result)) =
    c.loop-tag.invariant ∙ c.next_u-at.ensures.same in
    let q = spotted _ _ _ _ _ _ (sym c.spot_at.ensures ∙ c.in-Some.is) in
    ahead ∙ end_on _ _ _ _ _ _ q (ap goes_on c.in-Other.is)

pub returns-in-Unt : goal.returns-in-Unt
returns-in-Unt c =
    let ahead : let a = c.args in last_end a.from (body (segments_at a.d.syntax a.d.bytes.now a.from))
    ≡ last_end c.next_u-at.result (body (segments_at a.d.syntax a.d.bytes.now c.next_u-at.result)) =
    c.loop-tag.invariant ∙ c.next_u-at.ensures.same in
    let q = spotted _ _ _ _ _ _ (sym c.spot_at.ensures ∙ c.in-Some.is) in
    sym (ahead ∙ end_through _ _ _ _ _ _ q c.in-Unt.is)

pub returns-in-Unh : goal.returns-in-Unh
returns-in-Unh c =
    let ahead : let a = c.args in last_end a.from (body (segments_at a.d.syntax a.d.bytes.now a.from))
    ≡ last_end c.next_u-at.result (body (segments_at a.d.syntax a.d.bytes.now c.next_u-at.result)) =
    c.loop-tag.invariant ∙ c.next_u-at.ensures.same in
    let q = spotted _ _ _ _ _ _ (sym c.spot_at.ensures ∙ c.in-Some.is) in
    sym (ahead ∙ end_before _ _ _ _ _ _ q c.in-Unh.is)
