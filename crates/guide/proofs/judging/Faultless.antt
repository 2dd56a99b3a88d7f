-- Judging goes from segment to segment: through all of them, or up to the first that has a fault. What the verdict then is.
use mathlib.Core.Bool.{cond}
use Prim.Native.Nat.{ℕ, suc, ◌+◌}
use mathlib.Core.Path.{◌≡◌, refl, sym, ◌∙◌, ap}
use mathlib.Core.Logic.{◌⊎◌, inl, inr}
use mathlib.Core.List.{List, [], ◌∷◌, ◌++◌, map, append-nil}
use native.Mathlib.Omega.{arith}
use lib.ListN.{length, length-map}
use Rattle.cut.specs.declared.service.Syntax.{Syntax}
use Rattle.bytewise.specs.Bytes.{bytes_of}
use Rattle.cut.specs.Segments.{Segment, end_of, last_end}
use Rattle.guide.specs.Nodes.{Guide, number_of}
use Rattle.guide.specs.Page.{Page}
use Rattle.guide.specs.Tree.{Given, giving}
use Rattle.guide.specs.Answers.{Answer, placed, refused, accepts, refuses}
use Rattle.guide.specs.Sheet.{is_tag}
use Rattle.guide.specs.workers.Judging.{Memory, segment_answer, remember, judge_from}

-- the segments alone
abbrev pub segments_in : List (Given Segment) → List Segment
segments_in xs = map (λ (x : Given Segment). x.segment) xs

module _ (y : Syntax) (g : Guide) (pages : ℕ → Page) where
  -- what is kept after a segment with its node, and after several
  abbrev pub keep : Memory → Given Segment → Memory
  keep m x = remember y g pages (placed x.node) x.segment m

  unfoldable pub kept : Memory → List (Given Segment) → Memory
  kept m [] = m
  kept m (x ∷ xs) = kept (keep m x) xs

  -- the segments after the first i are judged without a fault and get these nodes
  unfoldable pub Faultless : ℕ → Memory → List (Given Segment) → Type 0
  Faultless i m [] = Unit {0}
  Faultless i m (x ∷ xs) = (segment_answer y g pages (suc i) m x.segment ≡ placed x.node) × Faultless (suc i) (keep m x) xs

  -- judging goes on behind them
  pub judged_on
      : (i e : ℕ) (m : Memory) (xs : List (Given Segment)) (rest : List Segment) → Faultless i m xs
      → judge_from y g pages i e m (segments_in xs ++ rest)
      ≡ judge_from y g pages (length xs + i) (last_end e (segments_in xs)) (kept m xs) rest
  unfolding judge_from Faultless kept last_end
  judged_on i e m [] rest f =
      let z : 0 + i ≡ i = omega arith in
      rw z
  judged_on i e m (x ∷ xs) rest f =
      let z : suc (length xs) + i ≡ length xs + suc i = omega arith in
      rw (f.0, z) (judged_on (suc i) (end_of x.segment) (keep m x) xs rest f.1)

  -- all segments are judged without a fault
  pub record Through (i : ℕ) (m : Memory) (ss : List Segment) : Type 0 where
    pub given : List (Given Segment)
    pub same : segments_in given ≡ ss
    pub faultless : Faultless i m given

  -- those before a segment are, and it has a fault
  pub record Stopped (i : ℕ) (m : Memory) (ss : List Segment) : Type 0 where
    pub given : List (Given Segment)
    pub segment : Segment
    pub rest : List Segment
    pub split : ss ≡ segments_in given ++ (segment ∷ rest)
    pub faultless : Faultless i m given
    pub number : ℕ
    pub node : ℕ
    pub why : segment_answer y g pages (suc (length given + i)) (kept m given) segment ≡ refused number node

  pub through_or_stopped : (i : ℕ) (m : Memory) (ss : List Segment) → Through i m ss ⊎ Stopped i m ss
  unfolding Faultless kept
  through_or_stopped i m [] = inl (record { given = []; same = refl; faultless = tt })
  through_or_stopped i m (s ∷ ss) = go (segment_answer y g pages (suc i) m s) refl (λ k. through_or_stopped (suc i) k ss)
    where
      more : (n : ℕ) → segment_answer y g pages (suc i) m s ≡ placed n → Through (suc i) (keep m (giving n s)) ss ⊎ Stopped (suc i) (keep m (giving n s)) ss
          → Through i m (s ∷ ss) ⊎ Stopped i m (s ∷ ss)
      more n e (inl t) =
          inl (record { given = giving n s ∷ t.given; same = ap (λ (us : List Segment). s ∷ us) t.same; faultless = (e, t.faultless) })
      more n e (inr t) =
          let z : suc (length t.given) + i ≡ length t.given + suc i = omega arith in
          inr (
          record {
            given = giving n s ∷ t.given;
            segment = t.segment;
            rest = t.rest;
            split = ap (λ (us : List Segment). s ∷ us) t.split;
            faultless = (e, t.faultless);
            number = t.number;
            node = t.node;
            why = rw z t.why;
          }
          )

      go
          : (a : Answer) → segment_answer y g pages (suc i) m s ≡ a → ((k : Memory) → Through (suc i) k ss ⊎ Stopped (suc i) k ss)
          → Through i m (s ∷ ss) ⊎ Stopped i m (s ∷ ss)
      go (placed n) e ih = more n e (ih (keep m (giving n s)))
      go (refused k n) e ih =
          let z : 0 + i ≡ i = omega arith in
          inr (
          record {
            given = [];
            segment = s;
            rest = ss;
            split = refl;
            faultless = tt;
            number = k;
            node = n;
            why = rw z e;
          }
          )

  -- the verdict where all are judged without a fault
  pub through_verdict
      : (i e : ℕ) (m : Memory) (ss : List Segment) (t : Through i m ss)
      → judge_from y g pages i e m ss
      ≡ cond (is_tag g (bytes_of "UNT") (kept m t.given).state.last) (accepts (length ss + i) (last_end e ss))
      (refuses 24 (suc (length ss + i)) (last_end e ss) 0)
  unfolding judge_from
  through_verdict i e m ss t =
      let whole : ss ≡ segments_in t.given ++ [] = sym (append-nil (segments_in t.given) ∙ t.same) in
      let size : length t.given ≡ length ss = sym (length-map t.given (λ (x : Given Segment). x.segment)) ∙ ap length t.same in
      ap (judge_from y g pages i e m) whole ∙ (judged_on i e m t.given [] t.faultless ∙ rw (size, t.same))

  -- the verdict where one has a fault
  pub stopped_verdict
      : (i e : ℕ) (m : Memory) (ss : List Segment) (t : Stopped i m ss)
      → judge_from y g pages i e m ss ≡ refuses t.number (suc (length t.given + i)) t.segment.start (number_of g t.node)
  unfolding judge_from
  stopped_verdict i e m ss t =
      ap (judge_from y g pages i e m) t.split ∙ (judged_on i e m t.given (t.segment ∷ t.rest) t.faultless ∙ rw t.why)
