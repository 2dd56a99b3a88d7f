-- `schaumtruhe::calls::article` meets its contract.
use Prim.Native.Nat.{◌≤◌}
use mathlib.Core.Path.{refl}
use native.Mathlib.Omega.{arith}
use lib.ListN.{length}
use Rattle.bytewise.specs.Bytes.{part}
use Rattle.schaumtruhe.proofs.ArticlePlaces.{article-within}
use borrow.Author.Rules.{rules}
use Rattle.schaumtruhe.proofs.calls.article.Goals as goal

pub slice_bounds-result-count : goal.slice_bounds-result-count
slice_bounds-result-count c =
    let found : (c.article_at-s.result.start ≤ c.article_at-s.result.end) × (c.article_at-s.result.end ≤ length c.args.d.now) =
    rw c.article_at-s.ensures (article-within _ _ _ _) in
    let f = found in
    omega arith

pub slice_bounds-result-start : goal.slice_bounds-result-start
slice_bounds-result-start c =
    let found : (c.article_at-s.result.start ≤ c.article_at-s.result.end) × (c.article_at-s.result.end ≤ length c.args.d.now) =
    rw c.article_at-s.ensures (article-within _ _ _ _) in
    let f = found in
    omega arith

pub slice_bounds-result-end : goal.slice_bounds-result-end
slice_bounds-result-end c =
    let found : (c.article_at-s.result.start ≤ c.article_at-s.result.end) × (c.article_at-s.result.end ≤ length c.args.d.now) =
    rw c.article_at-s.ensures (article-within _ _ _ _) in
    (found).1

pub returns : goal.returns
unfolding part
returns c = rw (← c.article_at-s.ensures) (record { bytes = refl; block = refl; offset = search rules })
