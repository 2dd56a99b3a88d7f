-- Refusal 23 of a message: the search over its listed positions says what document 01 says. For every table that passes the tests.
use Prim.Native.Nat.{ℕ, suc}
use mathlib.Core.Path.{◌≡◌, sym, ap, subst, ◌∙◌}
use mathlib.Core.Logic.{◌↔◌}
use mathlib.Core.List.{List, ◌∷◌, ◌++◌}
use native.Mathlib.Omega.{arith}
use lib.ListN.{length, get_or, length-map}
use lib.Seq.{get_or-append_seam}
use Rattle.cut.specs.declared.service.Syntax.{Syntax}
use Rattle.bytewise.specs.Bytes.{bytes_of}
use Rattle.cut.specs.Segments.{Segment}
use Rattle.messages.specs.Messages.{Message}
use Rattle.guide.specs.Nodes.{Guide}
use Rattle.guide.specs.Page.{Page}
use Rattle.guide.specs.Tree.{Kids, Given, giving, assigned}
use Rattle.guide.specs.workers.Checks.{Passes}
use Rattle.guide.specs.Sheet.{with_tag, positions_in}
use Rattle.guide.specs.workers.Heads.{Foremost}
use Rattle.guide.specs.Accepted.{seen, segments_of, Compared, Distinct, Proper, Accepted}
use Rattle.guide.specs.Refusal.{Repeated, Repeats}
use Rattle.guide.proofs.Basics.{map-append}
use Rattle.guide.proofs.judging.FaultlessParts.{nodes_in}
use Rattle.guide.proofs.Editions.{one-whole}
use Rattle.agree.specs.Positions.{agreeing_at, positions_of, first_agreeing}
use Rattle.std.specs.Prelude.{Option, Some, None}
use Rattle.agree.specs.declared.first.Agreeing.{Agreeing}
use Rattle.agree.proofs.Distinct.{agreeing-same}
use Rattle.agree.proofs.positions.Repeated.{agreeing_repeated, agreeing_none}

-- what the search answers for a message
abbrev pub searched : Syntax → Message → Option Agreeing
searched y m = first_agreeing y (positions_of (segments_of m))

-- the node of the first LIN that agrees with an earlier one is that of segment i
pub repeated-node
    : (y : Syntax) (g : Guide) (tree : Kids Segment) (i a n : ℕ) → Repeated y g tree i a n → (j : ℕ) → i ≡ suc j → get_or (nodes_in (assigned tree)) j 0 ≡ n
repeated-node y g tree i a n r j e =
    let front = nodes_in r.front in
    let back = nodes_in r.back in
    let all : nodes_in (assigned tree) ≡ front ++ (n ∷ back) =
    ap nodes_in r.segments ∙ map-append (λ (x : Given Segment). x.node) r.front (giving n r.repeats.lin ∷ r.back)
    in
    let here : j ≡ length front = omega (arith, r.number, length-map r.front (λ (x : Given Segment). x.node)) in
    ap (λ (ns : List ℕ). get_or ns j 0) all ∙ ap (λ (k : ℕ). get_or (front ++ (n ∷ back)) k 0) here ∙ get_or-append_seam front n back 0

module _ (y : Syntax) (g : Guide) (u : ℕ) (p : Passes g u) (h : Foremost g) (pages : ℕ → Page) (m : Message) where
  -- in a message that stands, agreeing positions aside, the search finds segment i at the place a exactly if the LIN there is the first that
  -- agrees with an earlier one
  pub finds_repeated : (q : Proper y g pages m) (i a : ℕ) → (searched y m ≡ Some (agreeing_at i a)) ↔ ((n : ℕ) × Repeated y g q.sheet.tree i a n)
  finds_repeated q = agreeing_repeated y g u p h (segments_of m) q.sheet

  -- and it finds nothing exactly if no two positions agree
  pub finds_none : (q : Proper y g pages m) → (searched y m ≡ None) ↔ Distinct y (positions_in g q.sheet.tree)
  finds_none q = agreeing_none y g u p h (segments_of m) q.sheet

  -- all proper trees of a message are one
  one-tree : (q o : Proper y g pages m) → q.sheet.tree ≡ o.sheet.tree
  one-tree q o = one-whole g u p (seen y) (segments_of m) q.sheet o.sheet

  -- the rule applies to the message with this tree
  abbrev pub Rule : Kids Segment → Type 0
  Rule tree = Compared y (with_tag g (bytes_of "BGM") (assigned tree))

  -- such a message is accepted exactly if the search finds nothing where the rule applies
  pub accepted_iff : (q : Proper y g pages m) → Accepted y g pages m ↔ (Rule q.sheet.tree → searched y m ≡ None)
  accepted_iff q = (
    λ c r. (finds_none c.proper).1 (c.distinct (subst Rule (one-tree q c.proper) r)),
    λ f. record { proper = q; distinct = λ r. (finds_none q).0 (f r) },
  )

  pub repeats-found : (i a n : ℕ) → Repeats y g pages m i a n → searched y m ≡ Some (agreeing_at i a)
  repeats-found i a n r = (finds_repeated r.proper i a).1 (n, r.repeated)

  -- and where it applies, refused with 23 exactly if the search finds the segment and the place
  pub repeats_iff
      : (q : Proper y g pages m) → Rule q.sheet.tree → (i a : ℕ) → (searched y m ≡ Some (agreeing_at i a)) ↔ ((n : ℕ) × Repeats y g pages m i a n)
  repeats_iff q c i a = (
    λ e.
        let r = (finds_repeated q i a).0 e in
        (r.0, record { proper = q; compared = c; repeated = r.1 }),
    λ r. repeats-found i a r.0 r.1,
  )

  -- refusal 23 names one segment, one place and one node
  pub repeats-once : (i a n j b k : ℕ) → Repeats y g pages m i a n → Repeats y g pages m j b k → (i ≡ j) × (a ≡ b) × (n ≡ k)
  repeats-once i a n j b k r s =
      let f = repeats-found i a n r in
      let d = repeats-found j b k s in
      let same = agreeing-same i a j b (sym f ∙ d) in
      let e : i ≡ j = same.0 in
      let t = length r.repeated.front in (
        e,
        same.1,
        sym (repeated-node y g r.proper.sheet.tree i a n r.repeated t r.repeated.number)
            ∙ ap (λ (z : Kids Segment). get_or (nodes_in (assigned z)) t 0) (one-tree r.proper s.proper)
            ∙ repeated-node y g s.proper.sheet.tree j b k s.repeated t (sym e ∙ r.repeated.number),
      )

  -- no accepted message is refused with it
  pub repeats_refused : (i a n : ℕ) → Repeats y g pages m i a n → Accepted y g pages m → ⊥
  repeats_refused i a n r c =
      let f = repeats-found i a n r in
      let none = (accepted_iff r.proper).0 c r.compared in
      let z : ◌≡◌ {A = ℕ} 0 1 = cc in
      omega arith
