-- `judge::rows::next_due` meets its contract: its digit is, computed, the field in every row of both guides. Assumes nothing.
use Prim.Native.Nat.{ℕ, ◌/◌, ◌%◌}
use mathlib.Core.Path.{refl}
use Rattle.guide.specs.Nodes.{paired}
use Rattle.guide.specs.workers.Placing.{lowest}
use Rattle.guide.specs.Pricat.{pricat20d, pricat20c}
use Rattle.judge.specs.workers.Rows.{term_word, codes_of, first_due, next_due}
use Rattle.judge.proofs.rows.Tables.{digit_at}
use Rattle.judge.proofs.rows.next_due.Goals as goal

pub returns : goal.returns
unfolding pricat20d pricat20c term_word codes_of first_due next_due paired lowest
returns c =
    digit_at term_word next_due (λ (x : ℕ). x / 17592186044416 % 256) refl refl c.args.edition c.args.n c.requires _
    c.terms.ensures
