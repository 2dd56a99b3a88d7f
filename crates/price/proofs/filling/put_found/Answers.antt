-- `price::filling::put_found` meets its contract.
use Rattle.price.proofs.kinds.Tags.{ne-kind, eq-kind}
use Rattle.price.proofs.filling.Puts.{put_other, put_early, put_full, put-here}
use Rattle.price.proofs.filling.put_found.Goals as goal
use Rattle.price.proofs.filling.put_found.Goals.{then-ne-via-then-ne, then-ne-via-else-ne+then-seen-k}

pub returns-then-ne : goal.returns-then-ne
returns-then-ne c =
    elim c.then-ne.branch [
      | then-ne-via-then-ne w ↦ put_other _ _ _ _ _ (ne-kind _ _ _ c.ne.ensures w.if-ne.true)
      | then-ne-via-else-ne+then-seen-k w ↦ put_early _ _ _ _ _ (eq-kind _ _ _ c.ne.ensures w.if-ne.false) w.if-seen-k.true
    ]

pub returns-then-row-n : goal.returns-then-row-n
returns-then-row-n c =
    put_full _ _ _ _ _ (eq-kind _ _ _ c.ne.ensures c.if-ne.false) c.if-seen-k.false c.if-row-n.true

pub returns : goal.returns
returns c =
    put-here _ _ _ _ _ (eq-kind _ _ _ c.ne.ensures c.if-ne.false) _ _ c.if-seen-k.false
    c.put_row.ensures c.numbers_at.ensures
