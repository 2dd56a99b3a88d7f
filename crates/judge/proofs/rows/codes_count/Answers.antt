-- `judge::rows::codes_count` meets its contract: its digit is, computed, the field in every row of both guides. Assumes nothing.
use Prim.Native.Nat.{ℕ, ◌/◌, ◌%◌}
use mathlib.Core.Path.{refl}
use lib.ListN.{length}
use Rattle.guide.specs.Nodes.{Guide, node, paired}
use Rattle.guide.specs.workers.Placing.{lowest}
use Rattle.guide.specs.Pricat.{pricat20d, pricat20c}
use Rattle.judge.specs.workers.Rows.{term_word, codes_of, first_due, next_due}
use Rattle.judge.proofs.rows.Tables.{digit_at}
use Rattle.judge.proofs.rows.codes_count.Goals as goal

pub returns : goal.returns
unfolding pricat20d pricat20c term_word codes_of first_due next_due paired lowest
returns c =
    digit_at term_word (λ (g : Guide) (n : ℕ). length (node g n).selector.codes) (λ (x : ℕ). x / 1099511627776 % 16) refl refl c.args.edition
    c.args.n c.requires _ c.terms.ensures
