-- `judge::rows::counter_of` meets its contract: its digit is, computed, the field in every row of both guides. Assumes nothing.
use Prim.Native.Nat.{ℕ, ◌/◌, ◌%◌}
use mathlib.Core.Path.{refl}
use Rattle.guide.specs.Nodes.{Guide, node}
use Rattle.guide.specs.Pricat.{pricat20d, pricat20c}
use Rattle.judge.specs.workers.Words.{packed}
use Rattle.judge.specs.workers.Rows.{tag_word}
use Rattle.judge.proofs.rows.Tables.{digit_at}
use Rattle.judge.proofs.rows.counter_of.Goals as goal

pub returns : goal.returns
unfolding pricat20d pricat20c tag_word packed
returns c =
    digit_at tag_word (λ (g : Guide) (n : ℕ). (node g n).counter) (λ (x : ℕ). x / 268435456 % 4096) refl refl c.args.edition c.args.n
    c.requires _ c.tag_word.ensures
