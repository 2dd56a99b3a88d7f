-- Where the walk stands, one segment after the other, of which the next one's head has been looked at.
use Prim.Native.Nat.{ℕ, suc, ◌+◌, ◌^◌, ◌≤◌, ◌<◌}
use mathlib.Core.Path.{◌≡◌, refl, sym, ap, ◌∙◌}
use mathlib.Core.Bool.{Bool, true, false}
use mathlib.Core.List.{List, [], ◌∷◌}
use lib.ListN.{length}
use lib.Dec.{eqb}
use native.Mathlib.Omega.{arith}
use borrow.Author.Tests.{ne_eqb}
use Rattle.std.specs.Prelude.{Option, Some, None, Result, Ok, Err}
use Rattle.cut.specs.declared.service.Syntax.{Syntax}
use Rattle.cut.specs.Segments.{Segment, last_end, segments_at}
use Rattle.messages.specs.Messages.{body}
use Rattle.messages.specs.Held.{unless, members, head_in}
use Rattle.messages.specs.declared.head.Head.{Head}
use Rattle.messages.proofs.Upcoming.{Upcoming, upcoming, no_upcoming}
use Rattle.guide.specs.Answers.{refuses}
use Rattle.guide.specs.Editions.{guide_of}
use Rattle.guide.specs.Nodes.{number_of}
use Rattle.guide.specs.declared.edition.Edition.{Edition}
use Rattle.page.specs.Reading.{segment_in}
use Rattle.verdict.specs.declared.answers.Judged.{Judged}
use Rattle.verdict.specs.declared.kept.Kept.{Kept}
use Rattle.verdict.specs.declared.segment.Found.{Found}
use Rattle.verdict.specs.Answers.{judged_as}
use Rattle.verdict.specs.workers.Kept.{kept_after, UndoubtedBy}
use Rattle.verdict.specs.workers.Segments.{Blame, answer_at, placed_answer, CountedOn}
use Rattle.verdict.proofs.message.Judging.{Promised, Passed, first_of, all_fit, passed_refused, passed_stopped, passed_on}

-- what is left of the message at a place: `next` is the head of its first segment
abbrev pub Follows : Syntax → List ℕ → ℕ → List Segment → Option Head → Type 0
Follows y d at ss None = ss ≡ []
Follows y d at ss (Some h) = (b : Bool) × (Upcoming y d at b h.place h.last × (ss ≡ members b (segments_at y d at)))

follows-from
    : (y : Syntax) (d : List ℕ) (at : ℕ) (b : Bool) (next : Option Head) → next ≡ head_in b (segments_at y d at)
    → Follows y d at (members b (segments_at y d at)) next
follows-from y d at b None h = no_upcoming y d at b (sym h)
follows-from y d at b (Some x) h = (b, (upcoming y d at b x.place x.last (sym h), refl))

module _ (ed : Edition) (y : Syntax) (d : List ℕ) (start stop : ℕ) where
  -- the walk has come to the place `at`: n segments have been judged, and then comes `next`
  pub record Walking (cs t : List ℕ) (k : Kept) (at n : ℕ) (next : Option Head) : Type 0 where
    pub left : List Segment
    pub passed : Passed ed y d start stop left cs t k at n
    pub follows : Follows y d at left next

  -- ... and nothing is known of what comes: the first segment begins a message, and the others go on with it
  abbrev pub Standing : List ℕ → List ℕ → Kept → ℕ → ℕ → Type 0
  Standing cs t k at n = Passed ed y d start stop (members (eqb n 0) (segments_at y d at)) cs t k at n

  pub standing : (cs t : List ℕ) (k : Kept) (at n : ℕ) → Standing cs t k at n → (next : Option Head) → next ≡ head_in (eqb n 0) (segments_at y d at)
      → Walking cs t k at n next
  standing cs t k at n p next h =
      record { left = members (eqb n 0) (segments_at y d at); passed = p; follows = follows-from y d at (eqb n 0) next h }

  module _ (cs t : List ℕ) (k : Kept) (at n : ℕ) (next : Option Head) (w : Walking cs t k at n next) where
    -- no segment is left
    pub walked : next ≡ None → suc n < 2 ^ 64 → Promised ed y d start stop (Ok (record { kept = k; segments = n; end = at }))
    walked h few = all_fit ed y d start stop w.left cs t k at n w.passed (rw h at w.follows) few

    -- the next one
    module _ (h : Head) (has : next ≡ Some h) (r : Result Found Blame) (is : r ≡ answer_at ed y d h.place (placed_answer ed y d (n + 1) k cs)) where
      -- what of the message follows it, where it ends at a place
      abbrev rest : ℕ → List Segment
      rest e = unless h.last (body (segments_at y d e))

      comes : Follows y d at w.left (Some h)
      comes = rw has at w.follows

      abbrev q : Upcoming y d at comes.0 h.place h.last
      q = comes.1.0

      abbrev list : w.left ≡ segment_in h.place q.end q.piece d ∷ rest q.end
      list = comes.1.1 ∙ q.list

      pub onward_refused
          : (b : Blame) → r ≡ Err b → (c : ℕ) → c ≡ last_end b.end (rest b.end) → (o : Judged)
          → judged_as o ≡ (refuses b.number (n + 1) h.place (number_of (guide_of ed) b.node), c) → Promised ed y d start stop (Err o)
      onward_refused b e c l o g =
          passed_refused ed y d start stop w.left cs t k at n w.passed _ _ _ q.cuts q.later rest list r is b e c l o g

      pub onward_stopped
          : (f : Found) → r ≡ Ok f → h.place ≡ stop → (o : Judged)
          → judged_as o ≡ (refuses 23 (n + 1) stop (number_of (guide_of ed) f.node), f.end) → Promised ed y d start stop (Err o)
      onward_stopped f e s o g =
          passed_stopped ed y d start stop w.left cs t k at n w.passed _ _ _ q.cuts q.later rest list r is f e s o
          (ap first_of g ∙ ap (λ (x : ℕ). refuses 23 (n + 1) x (number_of (guide_of ed) f.node)) (sym s))

      -- it is passed, and the walk has come further
      module _ (f : Found) (o : r ≡ Ok f) (cs' t' : List ℕ) (k' : Kept) (keeps : k' ≡ kept_after y d f k k'.doubt)
          (notes : k'.doubt ≡ false → UndoubtedBy y d f k t t') (left : CountedOn ed r cs cs') (goes : h.place ≡ stop → ⊥) where
        on : Passed ed y d start stop (rest f.end) cs' t' k' f.end (n + 1) × (at < f.end) × (f.end ≤ length d)
        on = passed_on ed y d start stop w.left cs t k at n w.passed _ _ _ q.cuts q.later rest list r is f o cs' t' k' keeps notes left goes

        pub further : (at < f.end) × (f.end ≤ length d)
        further = (on.1, on.2)

        -- it was the UNT, or another one follows
        pub walking_last : h.last ≡ true → Walking cs' t' k' f.end (n + 1) None
        walking_last u = record { left = rest f.end; passed = on.0; follows = rw u }

        pub standing_on : h.last ≡ false → Standing cs' t' k' f.end (n + 1)
        standing_on u =
            let z : eqb (n + 1) 0 ≡ false = ne_eqb (n + 1) 0 (λ e. omega arith) in
            rw z (rw u at on.0)
