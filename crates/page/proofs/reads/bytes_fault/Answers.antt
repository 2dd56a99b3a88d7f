-- `page::reads::bytes_fault` meets its contract: one law for each return.
use Rattle.page.proofs.reads.Faults.{piece-fault, byte-fault, tag-fault, no_bytes-fault}
use Rattle.page.proofs.reads.bytes_fault.Goals as goal

pub returns-then-piece : goal.returns-then-piece
returns-then-piece c = piece-fault _ _ c.if-piece.true

pub returns-then-not-allowed : goal.returns-then-not-allowed
returns-then-not-allowed c = byte-fault _ _ c.if-piece.false _ c.allowed.ensures c.if-not-allowed.true

pub returns-then-not-tagged : goal.returns-then-not-tagged
returns-then-not-tagged c =
    tag-fault _ _ c.if-piece.false _ c.allowed.ensures c.if-not-allowed.false _
    c.tagged.ensures c.if-not-tagged.true

pub returns : goal.returns
returns c =
    no_bytes-fault _ _ c.if-piece.false _ c.allowed.ensures c.if-not-allowed.false _
    c.tagged.ensures c.if-not-tagged.false
