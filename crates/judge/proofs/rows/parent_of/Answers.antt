-- `judge::rows::parent_of` meets its contract: its digit is, computed, the field in every row of both guides. Assumes nothing.
use Prim.Native.Nat.{ℕ, ◌/◌, ◌%◌}
use mathlib.Core.Path.{refl}
use Rattle.guide.specs.Nodes.{Guide, node, paired}
use Rattle.guide.specs.workers.Placing.{lowest}
use Rattle.guide.specs.Pricat.{pricat20d, pricat20c}
use Rattle.judge.specs.workers.Rows.{term_word, codes_of, first_due, next_due}
use Rattle.judge.proofs.rows.Tables.{digit_at}
use Rattle.judge.proofs.rows.parent_of.Goals as goal

pub returns : goal.returns
unfolding pricat20d pricat20c term_word codes_of first_due next_due paired lowest
returns c =
    digit_at term_word (λ (g : Guide) (n : ℕ). (node g n).parent) (λ (x : ℕ). x / 1048576 % 4096) refl refl c.args.edition c.args.n
    c.requires _ c.terms.ensures
