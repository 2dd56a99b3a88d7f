-- The end of a message whose segments have no fault: 24, 23 or accepted.
use Prim.Native.Nat.{ℕ, suc, ◌+◌, ◌≤◌}
use mathlib.Core.Path.{◌≡◌, refl, sym, ◌∙◌, ap, subst}
use mathlib.Core.Bool.{Bool, true, false, cond}
use mathlib.Core.List.{List}
use native.Mathlib.Omega.{arith}
use lib.ListN.{length}
use Rattle.cut.specs.declared.service.Syntax.{Syntax}
use Rattle.bytewise.specs.Bytes.{bytes_of, part}
use Rattle.cut.specs.Segments.{Segment, segments_of, last_end}
use Rattle.messages.specs.Held.{unless}
use Rattle.cut.proofs.Chains.{segments-rising}
use Rattle.cut.proofs.Starts.{Rising}
use Rattle.guide.specs.Editions.{guide_of, pages_of}
use Rattle.guide.specs.Answers.{accepts, refuses, Verdict}
use Rattle.guide.specs.declared.edition.Edition.{Edition}
use Rattle.guide.specs.Nodes.{number_of}
use Rattle.guide.specs.Sheet.{is_tag}
use Rattle.agree.specs.Positions.{agreeing_at, positions_of, first_agreeing}
use Rattle.agree.specs.declared.first.Agreeing.{Agreeing}
use Rattle.std.specs.Prelude.{Option, Some, None, Result, Ok, Err}
use Rattle.verdict.specs.declared.answers.Judged.{Judged}
use Rattle.verdict.specs.declared.ended.Conclusion.{Conclusion}
use Rattle.verdict.specs.declared.ended.Conclusion.TheVariants as ended
use Rattle.verdict.specs.declared.kept.Kept.{Kept}
use Rattle.verdict.specs.declared.message.Walked.{Walked}
use Rattle.verdict.specs.Answers.{told}
use Rattle.verdict.specs.Named.{held_at}
use Rattle.verdict.specs.Verdicts.{node_of, unless_agreeing}
use Rattle.verdict.specs.workers.Ends.{agreement_at, ended_with, EndedAs, told_again, closed_by, told_by, Through, Closable, until_at}
use Rattle.guide.proofs.judging.Verdicts.{accepts_refuses}
use Rattle.verdict.proofs.message.Until.{until_agrees}

-- a verdict with the end of its message
abbrev pub told_with : Verdict → ℕ → Verdict × ℕ
told_with v e = (v, e)

-- 24 and 23 are two verdicts
refused-number : (k i p n k' i' p' n' : ℕ) → refuses k i p n ≡ refuses k' i' p' n' → k ≡ k'
refused-number k i p n k' i' p' n' h = cc

module _ (ed : Edition) (y : Syntax) (d : List ℕ) (start n at : ℕ) where
  abbrev ss : List Segment
  ss = segments_of y start (part start at d)

  module _ (a : Option Agreeing) (is : a ≡ first_agreeing y (positions_of ss)) where
    -- a position agrees with an earlier one, and w is the walk up to it
    module _ (through : Through ed y d start at (accepts n at)) (i p : ℕ) (found : a ≡ Some (agreeing_at i p)) (w : Result Walked Judged)
        (walks : told_by ed w ≡ until_at ed y d start p) where
      named : first_agreeing y (positions_of (held_at y d start)) ≡ Some (agreeing_at i p)
      named = rw (← through.0) (sym is ∙ found)

      tells : told_by ed w ≡ refuses 23 i p (number_of (guide_of ed) (node_of y (guide_of ed) (held_at y d start) i))
      tells =
          walks
          ∙ until_agrees y (guide_of ed) (pages_of ed) (held_at y d start) n at start start i p
          (subst (Rising start) through.0 (segments-rising y start (part start at d))) through.1 named

      agreement_told : refuses 23 i p (number_of (guide_of ed) (node_of y (guide_of ed) (held_at y d start) i)) ≡ agreement_at ed y d start n at
      unfolding agreement_at unless_agreeing
      agreement_told = rw (through.0, named)

      agrees : (o : Judged) → w ≡ Err o → told o.verdict ≡ agreement_at ed y d start n at
      agrees o h = sym (ap (told_by ed) h) ∙ tells ∙ agreement_told

      -- the walk does not come to the message's end
      not_through : (v : Walked) → w ≡ Ok v → ⊥
      not_through v h = go (is_tag (guide_of ed) (bytes_of "UNT") v.kept.last) (sym (ap (told_by ed) h) ∙ tells)
        where
          go
              : (b : Bool) → cond b (accepts v.segments v.end) (refuses 24 (suc v.segments) v.end 0)
              ≡ refuses 23 i p (number_of (guide_of ed) (node_of y (guide_of ed) (held_at y d start) i)) → ⊥
          go true x = absurd (accepts_refuses x)
          go false x = let z : ◌≡◌ {A = ℕ} 24 23 = refused-number _ _ _ _ _ _ _ _ x in omega arith

    none-agrees : a ≡ None → accepts n at ≡ agreement_at ed y d start n at
    unfolding agreement_at unless_agreeing
    none-agrees h = rw (sym is ∙ h)

  module _ (kept : Kept) (u : Bool) (unt : u ≡ is_tag (guide_of ed) (bytes_of "UNT") kept.last) where
    abbrev Ended : Verdict → Type 0
    Ended r = r ≡ ended_with ed y d start kept n at

    pub no_end : u ≡ false → Ended (refuses 24 (n + 1) at 0)
    unfolding ended_with
    no_end h =
        let z : n + 1 ≡ suc n = omega arith in
        rw (← unt, h, z)

    module _ (ends : u ≡ true) where
      pub not-compared : kept.intervals ≡ true → Ended (accepts n at)
      unfolding ended_with
      not-compared h = rw (← unt, ends, h)

      compared : kept.intervals ≡ false → (r : Verdict) → r ≡ agreement_at ed y d start n at → Ended r
      unfolding ended_with
      compared h r e = rw (← unt, ends, h) e

      -- no position agrees with an earlier one, or this one is the first
      pub undoubted : kept.intervals ≡ false → (a : Option Agreeing) → a ≡ first_agreeing y (positions_of ss) → a ≡ None → Ended (accepts n at)
      undoubted h a is z = compared h (accepts n at) (none-agrees a is z)

      pub agreeing
          : kept.intervals ≡ false → (a : Option Agreeing) → a ≡ first_agreeing y (positions_of ss) → (i p : ℕ) → a ≡ Some (agreeing_at i p)
          → EndedAs ed y d start kept n at (ended.Agrees p)
      agreeing h a is i p found = (sym unt ∙ ends, (h, (i, sym is ∙ found)))

-- where the message ends of which a segment ends at e
module _ (e : ℕ) (b : Bool) (ss : List Segment) where
  pub close-last : b ≡ true → e ≡ last_end e (unless b ss)
  unfolding last_end
  close-last h = rw h

  pub close_more : b ≡ false → (r : ℕ) → r ≡ last_end e ss → r ≡ last_end e (unless b ss)
  close_more h r k = rw h k

-- the walk of the message that begins at `start` came to `close`, where 23 is told; a second one, which ends at `stop`, names its node; m is what is told
pub record Again (ed : Edition) (y : Syntax) (d : List ℕ) (start stop close : ℕ) (m : Verdict × ℕ) : Type 0 where
  pub tells
      : (w : Result Walked Judged) → told_by ed w ≡ until_at ed y d start stop → (o : Judged)
      → w ≡ Err o → told_again o (Some close) ≡ m
  pub stops
      : (w : Result Walked Judged) → told_by ed w ≡ until_at ed y d start stop → (v : Walked) → w ≡ Ok v → ⊥

-- what is known before a walk: the first one goes through; `again` is where it came to, before a second one
abbrev pub Stops : Edition → Syntax → List ℕ → ℕ → ℕ → Verdict × ℕ → Option ℕ → Type 0
Stops ed y d start stop m None = stop ≡ length d
Stops ed y d start stop m (Some c) = Again ed y d start stop c m

-- how many walks there may be
abbrev pub left_to : Option ℕ → ℕ
left_to None = 1
left_to (Some c) = 0

-- w is a walk, the second one where `again` is a place, and m what is told of the message
module _ (ed : Edition) (y : Syntax) (d : List ℕ) (start stop : ℕ) (m : Verdict × ℕ) (again : Option ℕ)
    (inv : Stops ed y d start stop m again) (w : Result Walked Judged)
    (closed : length d ≤ stop → closed_by ed y d start w ≡ m) (able : Closable ed y d start w)
    (walks : told_by ed w ≡ until_at ed y d start stop) where
  through : again ≡ None → closed_by ed y d start w ≡ m
  through h = closed (let e = rw h at inv in omega arith)

  module _ (v : Walked) (e : w ≡ Ok v) where
    abbrev k : Kept
    k = v.kept

    abbrev n : ℕ
    n = v.segments

    abbrev at : ℕ
    at = v.end

    -- only the first one comes to the message's end
    is_first : again ≡ None
    is_first = go again refl inv
      where
        go : (c : Option ℕ) → again ≡ c → Stops ed y d start stop m c → again ≡ None
        go (Some c) h i = absurd (i.stops w walks v e)
        go None h i = h

    fits : closed_by ed y d start (Ok v) ≡ m
    fits = sym (ap (closed_by ed y d start) e) ∙ through is_first

    module _ (c : Conclusion) (is : EndedAs ed y d start k n at c) where
      -- a second one is to name the node
      pub once_more : (p : ℕ) → c ≡ ended.Agrees p → Again ed y d start p at m
      once_more p h =
          let f = rw h at is in
          let t = rw e at able in
          let all : Through ed y d start at (accepts n at) = (t.1.1.0, (rw f.0 at t.1.1.1)) in
          record {
            tells =
                λ x q o g.
                ap (λ (z : Verdict). told_with z at)
                (compared ed y d start n at k true (sym f.0) refl f.1.0 (told o.verdict)
                (agrees ed y d start n at _ refl all f.1.1.0 p f.1.1.1 x q o g))
                ∙ fits;
            stops = λ x q l g. not_through ed y d start n at _ refl all f.1.1.0 p f.1.1.1 x q l g;
          }
