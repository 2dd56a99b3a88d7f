-- `judge::seeking::node_for` meets its contract: one law for each return, of the search through the followers that have the segment's tag. Assumes nothing.
use Prim.Native.Nat.{suc}
use mathlib.Core.Path.{◌≡◌, sym, ap₂}
use native.Mathlib.Omega.{arith}
use lib.ListN.{length}
use lib.Bits.{bit_and, and_le_l}
use lib.Dec.{ltb}
use borrow.Author.Tests.{ltb-false}
use Rattle.bytewise.specs.Bytes.{part}
use Rattle.guide.specs.Nodes.{node}
use Rattle.guide.specs.workers.Placing.{levels, seek}
use Rattle.guide.specs.Views.{view_of}
use Rattle.guide.specs.Editions.{guide_of}
use Rattle.judge.specs.workers.Sets.{Nodes, followers_of, tagged_of, coded_of}
use Rattle.judge.proofs.matching.Matches.{chosen-any}
use Rattle.judge.proofs.sets.Sought.{Sought, sought_fails, sought_lowest}
use Rattle.judge.proofs.tags.Tagged.{tag-letters}
use Rattle.judge.proofs.seeking.Following.{has_code, seek-begins, seek_keyed}
use Rattle.judge.proofs.seeking.node_for.Goals as goal
use Rattle.judge.proofs.seeking.node_for.Goals.{After-tagged}

-- the followers that have the tag
both
    : (c : After-tagged) → bit_and c.followers.result c.tagged.result
    ≡ bit_and (followers_of (guide_of c.args.edition) c.args.last) (tagged_of (guide_of c.args.edition) c.tag_number-tag.result)
both c = ap₂ bit_and c.followers.ensures c.tagged.ensures

-- among them the node is found
begun
    : (c : After-tagged)
    → Sought (guide_of c.args.edition) (has_code c.args.edition (view_of c.args.y (part c.args.start c.args.end c.args.d.now)))
    (seek (guide_of c.args.edition) (view_of c.args.y (part c.args.start c.args.end c.args.d.now))
    (levels (guide_of c.args.edition) (suc c.args.last) c.args.last 0))
    (bit_and c.followers.result c.tagged.result)
begun c =
    let a = c.args in
    seek-begins a.edition a.y a.d.now a.start a.end (λ i. omega (arith, c.shared_slice_known-1.given i)) _ c.tag_number-tag.ensures a.last _ (both c)

-- none of them has codes, so each fits
pub returns-then-likely-coded-eq0 : goal.returns-then-likely-coded-eq0
unfolding coded_of
returns-then-likely-coded-eq0 c =
    let a = c.args in
    let w = begun (goal.at.returns-then-likely-coded-eq0 c).After-tagged in
    sought_lowest w _ _ c.next.ensures.steps
    (λ n some first.
    let codes = (node (guide_of a.edition) n).selector.codes in
    let out = sought_fails w some n first (λ n. ltb 0 (length (node (guide_of a.edition) n).selector.codes)) _ c.coded.ensures c.if-likely-coded-eq0.true in
    sym (chosen-any codes _ (omega (arith, ltb-false 0 (length codes) out))))

pub key_number-key-requires : goal.key_number-key-requires
key_number-key-requires c =
    tag-letters c.args.edition c.followers.result _ _ _ c.tagged.ensures c.tag_number-tag.ensures
    (λ z. c.if-likely-coded-eq0.false (omega (arith, z, and_le_l (bit_and c.followers.result c.tagged.result) c.coded.result)))

pub found_by-requires : goal.found_by-requires
unfolding Nodes
found_by-requires c = (begun (goal.at.found_by-requires c).After-tagged).inside

pub returns : goal.returns
returns c =
    let a = c.args in
    seek_keyed a.edition a.y a.d.now a.start a.end (λ i. omega (arith, c.shared_slice_known-1.given i)) _
    c.tag_number-tag.ensures a.last _ (both (goal.at.returns c).After-tagged)
    _ _ c.key_number-key.ensures c.found_by.ensures
