-- `judge::placing::place` meets its contract: one law for each answer, `Outcome` with the counts that it leaves. Assumes nothing.
use Prim.Native.Nat.{suc, ◌<◌}
use mathlib.Core.Path.{◌≡◌, sym, ◌∙◌}
use native.Mathlib.Omega.{arith}
use lib.ListN.{length}
use borrow.Author.Tests.{le-leb, lt-leb}
use Rattle.std.specs.Prelude.{Some}
use Rattle.bytewise.specs.Bytes.{part}
use Rattle.guide.specs.Nodes.{View}
use Rattle.guide.specs.workers.Placing.{levels, seek}
use Rattle.guide.specs.Options.{unless_0}
use Rattle.guide.specs.Views.{view_of}
use Rattle.guide.specs.Editions.{guide_of}
use Rattle.judge.proofs.rows.Tables.{table_fits}
use Rattle.judge.proofs.placing.Outcomes.{found_some, found_inside, found-follows, last-inside, place-nowhere, place-over, place-lacking, place_found}
use Rattle.judge.proofs.placing.place.Goals as goal
use Rattle.judge.proofs.placing.place.Goals.{In-Some}

-- what the segment is, seen by its tag and codes
abbrev seen : In-Some → View
seen c = view_of c.args.d.syntax (part c.args.start c.args.end c.args.d.bytes.now)

-- its node is found
told : (c : In-Some) → Some c.in-Some.n ≡ unless_0 (seek (guide_of c.args.edition) (seen c) (levels (guide_of c.args.edition) (suc c.args.last) c.args.last 0))
told c = sym c.in-Some.is ∙ c.node_for.ensures

inside : (c : In-Some) → c.in-Some.n < length (guide_of c.args.edition)
inside c = found_inside c.args.edition (seen c) c.args.last _ (told c)

pub returns-in_default : goal.returns-in_default
returns-in_default c =
    let a = c.args in
    let o = place-nowhere a.edition (view_of a.d.syntax (part a.start a.end a.d.bytes.now)) a.last a.counts.now (sym c.in_default.is ∙ c.node_for.ensures) in
    record { value = o.answer; counts_after = o.counts }

pub limit_of-requires : goal.limit_of-requires
limit_of-requires c = inside (goal.at.limit_of-requires c).In-Some

pub offset_bounds-counts-n : goal.offset_bounds-counts-n
offset_bounds-counts-n c = omega (arith, inside (goal.at.offset_bounds-counts-n c).In-Some, table_fits c.args.edition)

pub bounds-counts-n : goal.bounds-counts-n
bounds-counts-n c = omega (arith, inside (goal.at.bounds-counts-n c).In-Some, table_fits c.args.edition)

pub returns-then-limit_of-counts : goal.returns-then-limit_of-counts
returns-then-limit_of-counts c =
    let i = (goal.at.returns-then-limit_of-counts c).In-Some in
    let o =
    place-over c.args.edition (seen i) c.args.last c.args.counts.now _ (told i) _ c.limit_of.ensures
    _ c.reason_over-reason.ensures (le-leb _ _ c.if-limit_of-counts.true) in
    record { value = o.answer; counts_after = o.counts }

pub missing_node-requires : goal.missing_node-requires
missing_node-requires c =
    let i = (goal.at.missing_node-requires c).In-Some in
    record {
      n_in_bounds = (inside i, last-inside c.args.edition (seen i) c.args.last _ (told i));
      last_value = found-follows c.args.edition (seen i) c.args.last _ (told i);
    }

pub returns-in-Some-missing_node : goal.returns-in-Some-missing_node
returns-in-Some-missing_node c =
    let i = (goal.at.returns-in-Some-missing_node c).In-Some in
    let o =
    place-lacking c.args.edition (seen i) c.args.last c.args.counts.now _ (told i) _ c.limit_of.ensures (lt-leb _ _ c.if-limit_of-counts.false)
    _ (sym c.in-Some-missing_node.is ∙ c.missing_node.ensures) in
    record { value = o.answer; counts_after = o.counts }

pub enter-requires : goal.enter-requires
enter-requires c =
    let i = (goal.at.enter-requires c).In-Some in
    record {
      n_nonzero = (omega (arith, found_some c.args.edition (seen i) c.args.last _ (told i)), inside i);
      n_bound = omega (arith, c.if-limit_of-counts.false, c.limit_of.type_inv);
    }

pub returns : goal.returns
returns c =
    let i = (goal.at.returns c).In-Some in
    let o =
    place_found c.args.edition (seen i) c.args.last c.args.counts.now _ (told i) _ c.limit_of.ensures (lt-leb _ _ c.if-limit_of-counts.false)
    (sym c.in_default-missing_node.is ∙ c.missing_node.ensures) _ c.enter.ensures in
    record { value = o.answer; counts_after = o.counts }
