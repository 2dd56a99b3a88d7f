-- `value::text::count_text` meets its contract: `put_digits` at an array of twenty bytes.
use Rattle.value.proofs.Texts.{digits-put}
use Rattle.value.proofs.text.count_text.Goals as goal

pub returns : goal.returns
returns c =
    let each = digits-put _ _ _ _ (c.put_digits.ensures.m_value, c.put_digits.ensures.out_after) in
    record { value = each.0; out_after = each.1 }
