-- The verdict of a message is a function of its bytes alone; its places are counted from where the message starts.
use Prim.Native.Nat.{ℕ, suc, ◌+◌}
use mathlib.Core.Path.{◌≡◌, refl, ap}
use mathlib.Core.Bool.{Bool, true, false, cond}
use mathlib.Core.List.{List, [], ◌∷◌, ◌++◌, map}
use native.Mathlib.Nat.{add-zero, add_assoc}
use lib.ListN.{length}
use Rattle.cut.specs.declared.service.Syntax.{Syntax}
use Rattle.bytewise.specs.Bytes.{bytes_of, begins}
use Rattle.cut.specs.Segments as cut
use Rattle.cut.specs.Segments.{Segment, end_of}
use Rattle.messages.specs.Messages.{Message, start_of}
use Rattle.cut.specs.Fronts.{moved}
use Rattle.messages.specs.Fronts.{moved_message}
use Rattle.cut.proofs.Moving.{segments-moved}
use Rattle.guide.specs.Answers.{Answer, placed, refused, Verdict, accepts, refuses}
use Rattle.guide.specs.Nodes.{View, Guide}
use Rattle.guide.specs.Views.{view_of}
use Rattle.guide.specs.Page.{Page}
use Rattle.guide.specs.workers.Placing.{place}
use Rattle.guide.specs.Sheet.{is_tag}
use Rattle.guide.specs.Accepted.{seen, segments_of}
use Rattle.guide.specs.workers.Judging.{
  Memory,
  fresh,
  bytes_fault,
  end_fault,
  line_fault,
  rule_fault,
  content_fault,
  then_content,
  segment_answer,
  remember,
  decide,
  judge_from,
}
use Rattle.agree.specs.Agreement.{Heading}
use Rattle.agree.specs.Positions.{Listed, next_if, behind_if, heading_from, positions_from, positions_of, agrees_any, first_after, first_agreeing}
use Rattle.agree.specs.declared.first.Agreeing.{Agreeing}
use Rattle.std.specs.Prelude.{Option, Some, None}
use Rattle.verdict.specs.Named.{edition_of, guide_named, pages_named}
use Rattle.verdict.specs.Verdicts.{named_of, nodes_of, node_of, for_intervals, unless_agreeing, settled, verdict_from, verdict_of}
use Rattle.verdict.specs.Moves.{moved_verdict}

pick-moved : (k : ℕ) (b : Bool) (v w : Verdict) → cond b (moved_verdict k v) (moved_verdict k w) ≡ moved_verdict k (cond b v w)
pick-moved k true v w = refl
pick-moved k false v w = refl

-- judging looks at a segment's bytes and at whether it is a piece
module _ (y : Syntax) (g : Guide) (pages : ℕ → Page) (k : ℕ) where
  bytes-moved : (s : Segment) → bytes_fault y (moved k s) ≡ bytes_fault y s
  unfolding bytes_fault
  bytes-moved s = refl

  content-moved
      : (i : ℕ) (m : Memory) (s : Segment) (a : Answer) → then_content y g pages i m (moved k s) a ≡ then_content y g pages i m s a
  unfolding content_fault rule_fault end_fault line_fault
  content-moved i m s (placed n) = refl
  content-moved i m s (refused r n) = refl

  answer-moved : (i : ℕ) (m : Memory) (s : Segment) → segment_answer y g pages i m (moved k s) ≡ segment_answer y g pages i m s
  unfolding segment_answer
  answer-moved i m s = rw (bytes-moved s, content-moved i m s (place g (view_of y s.bytes) m.state.last m.state.counts))

  remember-moved : (a : Answer) (s : Segment) (m : Memory) → remember y g pages a (moved k s) m ≡ remember y g pages a s m
  remember-moved (placed n) s m = refl
  remember-moved (refused r n) s m = refl

  decide-moved
      : (i p : ℕ) (a : Answer) (v : Verdict) → decide y g pages i (k + p) a (moved_verdict k v) ≡ moved_verdict k (decide y g pages i p a v)
  unfolding moved_verdict
  decide-moved i p (placed n) v = refl
  decide-moved i p (refused r n) v = refl

  judge_moved
      : (i e : ℕ) (m : Memory) (ss : List Segment)
      → judge_from y g pages i (k + e) m (map (moved k) ss) ≡ moved_verdict k (judge_from y g pages i e m ss)
  unfolding judge_from moved_verdict
  judge_moved i e m [] = pick-moved k (is_tag g (bytes_of "UNT") m.state.last) (accepts i e) (refuses 24 (suc i) e 0)
  judge_moved i e m (s ∷ ss) =
      let a = segment_answer y g pages (suc i) m s in
      let n : k + s.start + length s.bytes ≡ k + end_of s = add_assoc k s.start (length s.bytes) in
      rw (answer-moved (suc i) m s, remember-moved a s m, n, judge_moved (suc i) (end_of s) (remember y g pages a s m) ss)
      (decide-moved (suc i) s.start a _)

-- the same position k places later
abbrev moved_listed : ℕ → Listed → Listed
moved_listed k p = record { number = p.number; place = k + p.place; heading = p.heading }

-- the same answer of the search k places later
unfoldable moved_agreeing : ℕ → Option Agreeing → Option Agreeing
moved_agreeing k (Some a) = Some (record { segment = a.segment; place = k + a.place })
moved_agreeing k None = None

-- the position of a LIN that has the number n and stands before the segments ss
abbrev listed : ℕ → Segment → List Segment → Listed
listed n s ss = record { number = n; place = s.start; heading = heading_from s.bytes ss }

-- the search for agreeing positions looks at bytes
module _ (k : ℕ) where
  next-moved : (t : List ℕ) (ss : List Segment) → next_if t (map (moved k) ss) ≡ next_if t ss
  unfolding next_if
  next-moved t [] = refl
  next-moved t (s ∷ ss) = refl

  behind_moved : (t : List ℕ) (ss : List Segment) → behind_if t (map (moved k) ss) ≡ map (moved k) (behind_if t ss)
  unfolding behind_if
  behind_moved t [] = refl
  behind_moved t (s ∷ ss) = go (begins t s.bytes)
    where
      go : (b : Bool) → cond b (map (moved k) ss) (map (moved k) (s ∷ ss)) ≡ map (moved k) (cond b ss (s ∷ ss))
      go true = refl
      go false = refl

  heading-moved : (b : List ℕ) (ss : List Segment) → heading_from b (map (moved k) ss) ≡ heading_from b ss
  unfolding heading_from
  heading-moved b ss = rw (behind_moved (bytes_of "PIA") ss, next-moved (bytes_of "PIA") ss, next-moved (bytes_of "IMD") (behind_if (bytes_of "PIA") ss))

  positions-moved : (n : ℕ) (ss : List Segment) → positions_from n (map (moved k) ss) ≡ map (moved_listed k) (positions_from n ss)
  unfolding positions_from
  positions-moved n [] = refl
  positions-moved n (s ∷ ss) = rw (heading-moved s.bytes ss, positions-moved (n + 1) ss) (go (begins (bytes_of "LIN") s.bytes))
    where
      go
          : (b : Bool)
          → cond b (moved_listed k (listed n s ss) ∷ map (moved_listed k) (positions_from (n + 1) ss)) (map (moved_listed k) (positions_from (n + 1) ss))
          ≡ map (moved_listed k) (cond b (listed n s ss ∷ positions_from (n + 1) ss) (positions_from (n + 1) ss))
      go true = refl
      go false = refl

  first-moved
      : (y : Syntax) (earlier : List Heading) (ps : List Listed)
      → first_after y earlier (map (moved_listed k) ps) ≡ moved_agreeing k (first_after y earlier ps)
  unfolding first_after moved_agreeing
  first-moved y earlier [] = refl
  first-moved y earlier (p ∷ ps) = rw (first-moved y (earlier ++ (p.heading ∷ [])) ps) (go (agrees_any y p.heading earlier) _)
    where
      go
          : (b : Bool) (a : Option Agreeing)
          → cond b (Some (record { segment = p.number; place = k + p.place })) (moved_agreeing k a)
          ≡ moved_agreeing k (cond b (Some (record { segment = p.number; place = p.place })) a)
      go true a = refl
      go false a = refl

  agreeing_moved
      : (y : Syntax) (ss : List Segment) → first_agreeing y (positions_of (map (moved k) ss)) ≡ moved_agreeing k (first_agreeing y (positions_of ss))
  unfolding first_agreeing positions_of
  agreeing_moved y ss = rw (positions-moved 1 ss) (first-moved y [] (positions_from 1 ss))

-- giving nodes looks at bytes
module _ (y : Syntax) (g : Guide) (k : ℕ) where
  seen-moved : (ss : List Segment) → map (seen y) (map (moved k) ss) ≡ map (seen y) ss
  seen-moved [] = refl
  seen-moved (s ∷ ss) = ap (λ (vs : List View). seen y s ∷ vs) (seen-moved ss)

  nodes_moved : (ss : List Segment) → nodes_of y g (map (moved k) ss) ≡ nodes_of y g ss
  unfolding nodes_of
  nodes_moved ss = rw (seen-moved ss)

  intervals-moved : (ns : List ℕ) (ss : List Segment) → for_intervals y g ns (map (moved k) ss) ≡ for_intervals y g ns ss
  unfolding for_intervals
  intervals-moved [] ss = refl
  intervals-moved (n ∷ ns) [] = refl
  intervals-moved (n ∷ ns) (s ∷ ss) = rw (intervals-moved ns ss)

  unless-moved
      : (ss : List Segment) (a : Option Agreeing) (v : Verdict)
      → unless_agreeing y g (map (moved k) ss) (moved_agreeing k a) (moved_verdict k v) ≡ moved_verdict k (unless_agreeing y g ss a v)
  unfolding unless_agreeing moved_agreeing moved_verdict node_of
  unless-moved ss None v = refl
  unless-moved ss (Some a) v = rw (nodes_moved ss)

  settled-moved : (ss : List Segment) (v : Verdict) → settled y g (map (moved k) ss) (moved_verdict k v) ≡ moved_verdict k (settled y g ss v)
  unfolding settled moved_verdict
  settled-moved ss (accepts n e) =
      rw (nodes_moved ss, intervals-moved (nodes_of y g ss) ss, agreeing_moved k y ss, unless-moved ss (first_agreeing y (positions_of ss)) (accepts n e))
      (pick-moved k (for_intervals y g (nodes_of y g ss) ss) (accepts n e) _)
  settled-moved ss (refuses r i p n) = refl

module _ (y : Syntax) (g : Guide) (pages : ℕ → Page) where
  -- segments k places later have the same verdict k places later
  pub verdict-from-moved
      : (k a : ℕ) (ss : List Segment) → verdict_from y g pages (k + a) (map (moved k) ss) ≡ moved_verdict k (verdict_from y g pages a ss)
  unfolding verdict_from
  verdict-from-moved k a ss = rw (judge_moved y g pages k 0 a fresh ss) (settled-moved y g k ss _)

  -- so has a message
  pub verdict-moved : (k : ℕ) (m : Message) → verdict_of y g pages (moved_message k m) ≡ moved_verdict k (verdict_of y g pages m)
  unfolding verdict_of
  verdict-moved k m = verdict-from-moved k (start_of m) (segments_of m)

  -- the verdict of bytes that stand from the place a on is that of the bytes by themselves, a places later
  pub verdict_alone
      : (a : ℕ) (bytes : List ℕ)
      → verdict_from y g pages a (cut.segments_of y a bytes) ≡ moved_verdict a (verdict_from y g pages 0 (cut.segments_of y 0 bytes))
  verdict_alone a bytes = rw (← segments-moved y a 0 bytes, add-zero a) at (verdict-from-moved a 0 (cut.segments_of y 0 bytes))

-- a message that is moved names the same guide, so the verdict by that guide moves with it
pub named-moved : (y : Syntax) (k : ℕ) (m : Message) → named_of y (moved_message k m) ≡ moved_verdict k (named_of y m)
unfolding named_of edition_of
named-moved y k m = verdict-moved y (guide_named y m) (pages_named y m) k m
