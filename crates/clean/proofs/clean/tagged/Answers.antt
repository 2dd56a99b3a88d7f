-- `clean::clean::tagged` meets its contract: a part that ends before it begins is no tag, any other is judged by itself.
use mathlib.Core.Path.{◌∙◌, ap}
use Rattle.bytewise.specs.Bytes.{part}
use Rattle.clean.specs.Clean.{tagged_bytes}
use Rattle.bytewise.proofs.Limits.{limited}
use Rattle.clean.proofs.Laws.{untagged-none}
use Rattle.clean.proofs.clean.tagged.Goals as goal

pub returns-in_default : goal.returns-in_default
returns-in_default c = untagged-none c.args.d.syntax _ _ _ _ c.limit_of.ensures c.in_default.ensures.lookup.0

pub returns : goal.returns
unfolding part
returns c =
    c.is_tagged.ensures ∙ ap (tagged_bytes c.args.d.syntax) (c.in-Some.ensures.lookup.0.2 ∙ limited c.args.d.bytes.now c.args.a c.args.e _ c.limit_of.ensures)
