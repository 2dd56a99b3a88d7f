-- `page::coded::key_of` meets its contract: by the length, and where eight bytes stand there.
use mathlib.Core.Path.{sym, ap, ◌∙◌}
use native.Mathlib.Omega.{arith}
use Rattle.plain.specs.Words.{word_of}
use Rattle.page.proofs.coded.KeyWords.{key_long, unreleased}
use Rattle.page.proofs.coded.key_of.Goals as goal

pub returns-then-n-gt6 : goal.returns-then-n-gt6
returns-then-n-gt6 c = key_long _ _ _ _ _ c.requires c.if-n-gt6.true

pub returns : goal.returns
returns c =
    c.front_word.ensures ∙ ap word_of (sym (unreleased _ _ _ _ _ c.requires (omega arith) c.if-a-n.false))
