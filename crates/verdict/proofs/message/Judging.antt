-- The pass over a message's segments: what is left to judge gives the verdict of the whole.
use Prim.Native.Nat.{ℕ, suc, ◌+◌, ◌-◌, ◌^◌, ◌≤◌, ◌<◌}
use mathlib.Core.Path.{◌≡◌, refl, sym, ◌∙◌, ap, ap₂, subst}
use mathlib.Core.Bool.{Bool, true, false, ◌||◌, or-false, cond}
use mathlib.Core.List.{List, [], ◌∷◌, map}
use native.Mathlib.Omega.{arith}
use lib.Dec.{eqb}
use lib.ListN.{length, replicate, length-replicate}
use borrow.Author.Tests.{eq-eqb, ne_eqb}
use Rattle.cut.specs.declared.service.Syntax.{Syntax}
use Rattle.bytewise.specs.Bytes.{bytes_of, begins, part}
use Rattle.cut.specs.Calls.{cut_at, some_cut}
use Rattle.cut.specs.Segments.{Segment, end_of, segments_of, segments_at, last_end}
use Rattle.messages.specs.Held.{held}
use Rattle.cut.proofs.First.{Cutting, cutting}
use Rattle.messages.proofs.Holding.{held_alone}
use Rattle.bytewise.proofs.Parts.{length_part}
use Rattle.element.proofs.ComponentFace.{decoded-none}
use Rattle.guide.specs.Accepted.{seen}
use Rattle.guide.specs.Answers.{Answer, placed, refused, Verdict, accepts, refuses}
use Rattle.guide.specs.Content.{text}
use Rattle.guide.specs.workers.Judging.{Memory, fresh, bytes_fault, then_content, segment_answer, remember, decide, judge_from}
use Rattle.guide.specs.workers.Placing.{counts_after, last_after, place, given}
use Rattle.guide.specs.Nodes.{number_of}
use Rattle.guide.specs.Editions.{guide_of, pages_of}
use Rattle.guide.specs.declared.edition.Edition.{Edition}
use Rattle.guide.specs.Sheet.{is_tag}
use Rattle.guide.specs.Tree.{one}
use Rattle.guide.specs.Views.{view_of}
use Rattle.agree.specs.Articles.{articles_in}
use Rattle.agree.specs.Positions.{positions_of, first_agreeing}
use Rattle.std.specs.Prelude.{None, Result, Ok, Err}
use Rattle.agree.proofs.Apart.{articles_apart}
use Rattle.bytewise.proofs.Booleans.{or_assoc}
use Rattle.page.specs.Reading.{segment_in}
use Rattle.verdict.specs.declared.answers.Judged.{Judged}
use Rattle.verdict.specs.declared.kept.Kept.{Kept}
use Rattle.verdict.specs.declared.message.Walked.{Walked}
use Rattle.verdict.specs.declared.segment.Found.{Found}
use Rattle.verdict.specs.Answers.{told, judged_as}
use Rattle.verdict.specs.workers.Until.{decide_until, judge_until}
use Rattle.verdict.specs.Verdicts.{nodes_of, for_intervals, settled, verdict_from}
use Rattle.verdict.specs.workers.Ends.{NoneAgrees, agreement_at, ended_with, closed_by, fitted, told_by, Closable}
use Rattle.verdict.specs.workers.Kept.{kept_first, kept_after, UndoubtedBy}
use Rattle.verdict.specs.workers.Segments.{Blame, spanned, noted, is_lin, found_at, answered, cut_answer, placed_answer, CountedOn}
use Rattle.verdict.proofs.ended.Ends.{told_with}
use Rattle.verdict.proofs.segment.Answering.{answered_refused, answered-fits, then_placed, place_placed}
use Rattle.verdict.proofs.kept.Noting.{Apart, none_apart, still_apart, still_sized}
use Rattle.verdict.proofs.kept.Remembering.{KeptAfter, kept-after}
use Rattle.verdict.proofs.roles.RoleTags.{role_lin}
use Rattle.verdict.proofs.segment.TagGiven.{given-begins}
use Rattle.verdict.proofs.segment.Texts.{spanned-text}

abbrev pub first_of : Verdict × ℕ → Verdict
first_of p = p.0

one-few : (b : Bool) → one b ≤ 1
one-few true = omega arith
one-few false = omega arith

-- a segment that is given its node has no fault of its bytes, and placing gave it the node
module _ (ed : Edition) (y : Syntax) (i : ℕ) (m : Memory) (s : Segment) where
  abbrev sought : Answer
  sought = place (guide_of ed) (view_of y s.bytes) m.state.last m.state.counts

  answer_placed : (n : ℕ) → segment_answer y (guide_of ed) (pages_of ed) i m s ≡ placed n → (bytes_fault y s ≡ 0) × (sought ≡ placed n)
  unfolding segment_answer
  answer_placed n h =
      let a = place_placed ed y (bytes_fault y s) (then_content y (guide_of ed) (pages_of ed) i m s sought) n h in
      (a.0, then_placed ed y i m s sought n a.1)

module _ (ed : Edition) (y : Syntax) (d : List ℕ) (start stop : ℕ) where
  -- the message's segments
  abbrev all : List Segment
  all = held (segments_at y d start)

  -- whether one of the segments ss is a BGM with Z04, in a state
  abbrev ahead_for : List Segment → Kept → List ℕ → Bool
  ahead_for ss k cs = for_intervals y (guide_of ed) (given (guide_of ed) (map (seen y) ss) (record { last = k.last; counts = cs })) ss

  -- what the walk that ends at `stop` tells
  abbrev until_stop : Verdict
  until_stop = judge_until y (guide_of ed) (pages_of ed) stop 0 start fresh all

  -- what the walk w promises
  abbrev pub Promised : Result Walked Judged → Type 0
  Promised w =
      (length d ≤ stop → closed_by ed y d start w ≡ (verdict_from y (guide_of ed) (pages_of ed) start all, last_end start all))
      × (Closable ed y d start w × (told_by ed w ≡ until_stop))

  -- n segments have been judged without a fault, up to the place `at`, ss are the message's others, and t is the table of the articles that came; none of
  -- those judged begins at `stop`
  pub record Passed (ss : List Segment) (cs t : List ℕ) (k : Kept) (at n : ℕ) : Type 0 where
    pub judged : judge_from y (guide_of ed) (pages_of ed) n at (noted y k cs d) ss ≡ judge_from y (guide_of ed) (pages_of ed) 0 start fresh all
    pub until : judge_until y (guide_of ed) (pages_of ed) stop n at (noted y k cs d) ss ≡ until_stop
    pub document : k.intervals || ahead_for ss k cs ≡ for_intervals y (guide_of ed) (nodes_of y (guide_of ed) all) all
    pub size : k.doubt ≡ false → length t ≡ 256
    pub apart : k.doubt ≡ false → Apart t (articles_in y ss) → first_agreeing y (positions_of all) ≡ None
    pub closes : last_end at ss ≡ last_end start all
    pub few : n ≤ at
    pub short : n ≤ length d
    pub lines : k.positions ≤ n

  first-passed : Passed all (replicate 96 0) (replicate 256 0) (kept_first start) start 0
  unfolding nodes_of spanned
  first-passed =
      record {
        judged = rw (decoded-none y d start start (omega arith));
        until = rw (decoded-none y d start start (omega arith));
        document = refl;
        size = λ e. length-replicate {A = ℕ} 256 0;
        apart = λ e h. articles_apart y all h.once;
        closes = refl;
        few = omega arith;
        short = omega arith;
        lines = omega arith;
      }

  pub passed_first : (k : Kept) → k ≡ kept_first start → Passed all (replicate 96 0) (replicate 256 0) k start 0
  passed_first k e = rw e first-passed

  module _ (ss : List Segment) (cs t : List ℕ) (k : Kept) (at n : ℕ) (p : Passed ss cs t k at n) where
    -- no segment is left
    module _ (none : ss ≡ []) where
      is-judged : judge_from y (guide_of ed) (pages_of ed) 0 start fresh all ≡ fitted ed k n at
      unfolding judge_from
      is-judged = sym p.judged ∙ rw none

      is_until : until_stop ≡ fitted ed k n at
      unfolding judge_until
      is_until = sym p.until ∙ rw none

      is_document : for_intervals y (guide_of ed) (nodes_of y (guide_of ed) all) all ≡ k.intervals
      unfolding given for_intervals
      is_document = sym (rw none at p.document) ∙ or-false k.intervals

      is_end : at ≡ last_end start all
      unfolding last_end
      is_end = rw none at p.closes

      alone : segments_of y start (part start at d) ≡ all
      alone = ap (λ (e : ℕ). segments_of y start (part start e d)) is_end ∙ held_alone y d start

      -- where there is no doubt, no position agrees with an earlier one
      none-agree : k.doubt ≡ false → NoneAgrees y d start at
      unfolding articles_in
      none-agree e = rw alone (p.apart e (rw none (none_apart t)))

      is_ended : ended_with ed y d start k n at ≡ verdict_from y (guide_of ed) (pages_of ed) start all
      unfolding ended_with agreement_at verdict_from settled
      is_ended = rw (is-judged) (go (is_tag (guide_of ed) (bytes_of "UNT") k.last))
        where
          go
              : (u : Bool)
              → cond u (cond k.intervals (accepts n at) (agreement_at ed y d start n at)) (refuses 24 (suc n) at 0)
              ≡ settled y (guide_of ed) all (cond u (accepts n at) (refuses 24 (suc n) at 0))
          go true = rw (is_document, alone)
          go false = refl

      -- what the walk promises where all segments fit
      pub all_fit : suc n < 2 ^ 64 → Promised (Ok (record { kept = k; segments = n; end = at }))
      all_fit h = (λ far. ap₂ told_with is_ended is_end, ((h, (none-agree, (alone, is-judged))), sym is_until))

    -- the next segment, and the message's others after it, which its end tells
    module _ (s e : ℕ) (piece : Bool) (cuts : cut_at y d s ≡ some_cut s e piece) (later : at ≤ s)
        (rest : ℕ → List Segment) (next : ss ≡ segment_in s e piece d ∷ rest e) where
      abbrev here : Segment
      here = segment_in s e piece d

      abbrev q : Cutting y d s false s e piece
      q = cutting y d s false s e piece cuts

      abbrev answer : Answer
      answer = segment_answer y (guide_of ed) (pages_of ed) (suc n) (noted y k cs d) here

      judged-here
          : decide y (guide_of ed) (pages_of ed) (suc n) s answer
          (judge_from y (guide_of ed) (pages_of ed) (suc n) (end_of here) (remember y (guide_of ed) (pages_of ed) answer here (noted y k cs d)) (rest e))
          ≡ judge_from y (guide_of ed) (pages_of ed) 0 start fresh all
      unfolding judge_from
      judged-here = rw next at p.judged

      until_here
          : decide_until y (guide_of ed) (pages_of ed) stop (eqb s stop) (suc n) s answer
          (judge_until y (guide_of ed) (pages_of ed) stop (suc n) (end_of here) (remember y (guide_of ed) (pages_of ed) answer here (noted y k cs d)) (rest e))
          ≡ until_stop
      unfolding judge_until
      until_here = rw next at p.until

      ends : end_of here ≡ e
      ends =
          let l : length (part s e d) ≡ e - s = length_part d s e q.fits in
          let h = q.some in
          rw l (omega arith)

      more_closes : last_end e (rest e) ≡ last_end start all
      unfolding last_end
      more_closes = ap (λ (a : ℕ). last_end a (rest e)) (sym ends) ∙ (rw next at p.closes)

      module _ (r : Result Found Blame) (is : r ≡ cut_answer ed y d s (placed_answer ed y d (n + 1) k cs) (cut_at y d s)) where
        is-answer : r ≡ answered ed y d s e answer
        unfolding cut_answer segment_answer
        is-answer =
            let z : n + 1 ≡ suc n = omega arith in
            is ∙ rw (cuts, z)

        is_refused
            : (j m : ℕ) → answer ≡ refused j m → refuses j (n + 1) s (number_of (guide_of ed) m) ≡ verdict_from y (guide_of ed) (pages_of ed) start all
        unfolding verdict_from settled
        is_refused j m a =
            let z : n + 1 ≡ suc n = omega arith in
            rw (← judged-here, a, z)

        pub passed_refused
            : (b : Blame) → r ≡ Err b → (c : ℕ) → c ≡ last_end b.end (rest b.end) → (o : Judged)
            → judged_as o ≡ (refuses b.number (n + 1) s (number_of (guide_of ed) b.node), c) → Promised (Err o)
        passed_refused b h c l o g =
            let a = answered_refused ed y d s e answer b (sym is-answer ∙ h) in
            let i : n + 1 ≡ suc n = omega arith in (
              λ far. g ∙ ap₂ told_with (is_refused b.number b.node a.0) (l ∙ ap (λ (x : ℕ). last_end x (rest x)) (sym a.1) ∙ more_closes),
              (tt, ap first_of g ∙ rw (← until_here, a.0, i)),
            )

        -- the walk ends at this one, which fits
        pub passed_stopped
            : (f : Found) → r ≡ Ok f → s ≡ stop → (o : Judged) → told o.verdict ≡ refuses 23 (n + 1) s (number_of (guide_of ed) f.node)
            → Promised (Err o)
        passed_stopped f h b o g =
            let a = answered-fits ed y d s e answer f (sym is-answer ∙ h) in
            let i : n + 1 ≡ suc n = omega arith in
            let some = q.some in
            let fits = q.fits in
            (λ far. absurd (omega (arith, b)), (tt, g ∙ rw (← until_here, a.0, eq-eqb s stop b, i)))

        module _ (f : Found) (taken : r ≡ Ok f) (cs' t' : List ℕ) (k' : Kept) (keeps : k' ≡ kept_after y d f k k'.doubt)
            (notes : k'.doubt ≡ false → UndoubtedBy y d f k t t') (left : CountedOn ed r cs cs') (goes : s ≡ stop → ⊥) where
          abbrev m : ℕ
          m = f.node

          fits : (answer ≡ placed m) × (f ≡ found_at ed y d s e m)
          fits = answered-fits ed y d s e answer f (sym is-answer ∙ taken)

          is_placed : answer ≡ placed m
          is_placed = fits.0

          after_it : KeptAfter ed y d s e m k k'
          after_it = kept-after ed y d s e m k k'.doubt f fits.1 k' keeps

          sound : (bytes_fault y here ≡ 0) × (sought ed y (suc n) (noted y k cs d) here ≡ placed m)
          sound = answer_placed ed y (suc n) (noted y k cs d) here m is_placed

          is-left : cs' ≡ counts_after (guide_of ed) (placed m) cs
          is-left = left f taken

          is-kept : remember y (guide_of ed) (pages_of ed) (placed m) here (noted y k cs d) ≡ noted y k' cs' d
          unfolding last_after
          is-kept = rw (is-left, after_it.last, after_it.positions, after_it.reference)

          more_judged : judge_from y (guide_of ed) (pages_of ed) (suc n) e (noted y k' cs' d) (rest e)
              ≡ judge_from y (guide_of ed) (pages_of ed) 0 start fresh all
          more_judged =
              ap₂ (λ (a : ℕ) (v : Memory). judge_from y (guide_of ed) (pages_of ed) (suc n) a v (rest e)) (sym ends) (sym is-kept)
              ∙ (rw is_placed at judged-here)

          more_until : judge_until y (guide_of ed) (pages_of ed) stop (suc n) e (noted y k' cs' d) (rest e) ≡ until_stop
          more_until =
              ap₂ (λ (a : ℕ) (v : Memory). judge_until y (guide_of ed) (pages_of ed) stop (suc n) a v (rest e)) (sym ends) (sym is-kept)
              ∙ (rw (is_placed, ne_eqb s stop goes) at until_here)

          more_document : k'.intervals || ahead_for (rest e) k' cs' ≡ for_intervals y (guide_of ed) (nodes_of y (guide_of ed) all) all
          unfolding last_after given for_intervals
          more_document =
              rw (after_it.intervals, after_it.last, is-left)
              (sym (or_assoc k.intervals _ _) ∙ (rw (next, sound.1) at p.document))

          is-lin : begins (bytes_of "LIN") here.bytes ≡ is_lin f.role
          is-lin =
              given-begins ed y here k.last cs m sound.1 (bytes_of "LIN") refl ∙ sym (ap (λ (x : Found). is_lin x.role) fits.1 ∙ role_lin ed m)

          article : spanned y f.third d ≡ text y here.bytes 3 0
          article = spanned-text y d s e 3 0 f.third (ap (λ (x : Found). x.third) fits.1)

          more_sized : k'.doubt ≡ false → length t' ≡ 256
          more_sized h =
              let a = notes h in
              still_sized y t t' (spanned y f.third d) here (rest e) (p.size a.before) (is_lin f.role) a.table

          more_apart : k'.doubt ≡ false → Apart t' (articles_in y (rest e)) → first_agreeing y (positions_of all) ≡ None
          more_apart h j =
              let a = notes h in
              p.apart a.before
              (rw next (still_apart y t t' (spanned y f.third d) here (rest e) (p.size a.before) (is_lin f.role) is-lin article a.table j))

          passed_here : Passed (rest e) cs' t' k' e (n + 1)
          passed_here =
              let z : n + 1 ≡ suc n = omega arith in
              let h = q.some in
              let f = q.fits in
              let w = p.few in
              let l = p.lines in
              let o = one-few (is_tag (guide_of ed) (bytes_of "LIN") m) in
              record {
                judged = rw z more_judged;
                until = rw z more_until;
                document = more_document;
                size = more_sized;
                apart = more_apart;
                closes = more_closes;
                few = omega arith;
                short = omega arith;
                lines = rw after_it.positions (omega arith);
              }

          -- behind it, which is further on
          pub passed_on : Passed (rest f.end) cs' t' k' f.end (n + 1) × (at < f.end) × (f.end ≤ length d)
          passed_on =
              let h = q.some in
              let within = q.fits in
              let z : e ≡ f.end = sym (ap (λ (x : Found). x.end) fits.1) in
              (subst (λ (x : ℕ). Passed (rest x) cs' t' k' x (n + 1)) z passed_here, omega arith, omega arith)
