-- What comes of one segment: one law for each answer of the workers, with the counts that it leaves; and what an answer says.
use Prim.Native.Nat.{ℕ, zero, suc, ◌-◌, ◌≤◌, ◌<◌}
use mathlib.Core.Path.{◌≡◌, refl, sym, ◌∙◌, ap, ap₂}
use mathlib.Core.Bool.{Bool, true, false, not, false≢true}
use mathlib.Core.List.{List, [], ◌∷◌}
use native.Mathlib.Omega.{arith}
use lib.Dec.{ltb}
use lib.ListN.{length}
use borrow.Author.Tests.{lt-ltb, le-ltb}
use Rattle.bytewise.specs.Bytes.{part}
use Rattle.cut.specs.Calls.{cut_at, some_cut}
use Rattle.cut.specs.Segments.{Segment}
use Rattle.cut.specs.declared.scan.Cut.{Cut}
use Rattle.std.specs.Prelude.{Option, Some, None, Result, Ok, Err}
use Rattle.cut.specs.declared.service.Syntax.{Syntax}
use Rattle.cut.proofs.First.{cutting}
use Rattle.bytewise.proofs.Parts.{length_part}
use Rattle.clean.specs.Clean.{allowed_bytes, capital, lettered, tagged_bytes}
use Rattle.element.specs.Components.{component_at}
use Rattle.element.specs.declared.components.Span.{Span}
use Rattle.guide.specs.Answers.{Answer, placed, refused}
use Rattle.guide.specs.Choices.{pickℕ, or_else}
use Rattle.guide.specs.workers.Judging.{Memory, bytes_fault, end_fault, line_fault, rule_fault, content_fault, unless_fault, then_content, then_place}
use Rattle.guide.specs.workers.PageFault.{page_fault}
use Rattle.guide.specs.workers.Placing.{place, counts_after}
use Rattle.guide.specs.Editions.{guide_of, pages_of}
use Rattle.guide.specs.declared.edition.Edition.{Edition}
use Rattle.guide.specs.Views.{view_of}
use Rattle.guide.proofs.ViewCuts.{view_cut}
use Rattle.bytewise.proofs.Booleans.{and_both}
use Rattle.page.specs.Examined.{examined_by}
use Rattle.guide.specs.Reasons.{number_of_reason}
use Rattle.page.specs.Reading.{segment_in, Numbered, numbered_at, numbers_of, read_to, read_fault, reading_by, reading_of}
use Rattle.page.specs.declared.reads.Faulty.{Faulty}
use Rattle.page.specs.declared.reads.Reading.{Reading}
use Rattle.page.proofs.Readings.{Late, page_late, bytes_early, Sound}
use Rattle.verdict.specs.declared.kept.Kept.{Kept}
use Rattle.verdict.specs.declared.roles.Role.{Role}
use Rattle.verdict.specs.declared.segment.Found.{Found}
use Rattle.verdict.specs.workers.Segments.{noted, role_of, found_at, Blame, blamed_at, answered, cut_answer, placed_answer, CountedOn}

abbrev Told : Type 0
Told = Result Found Blame

-- two answers are the same only if what they tell is
same-found : (f g : Found) → ◌≡◌ {A = Told} (Ok f) (Ok g) → f ≡ g
same-found f g h = cc

same-blamed : (b c : Blame) → ◌≡◌ {A = Told} (Err b) (Err c) → b ≡ c
same-blamed b c h = cc

-- what an answer says
module _ (ed : Edition) (y : Syntax) (d : List ℕ) (start end : ℕ) where
  pub answered_refused : (a : Answer) (b : Blame) → answered ed y d start end a ≡ Err b → (a ≡ refused b.number b.node) × (end ≡ b.end)
  unfolding answered
  answered_refused (placed m) b h =
      let z : ◌≡◌ {A = ℕ} 0 1 = cc in
      absurd (omega arith)
  answered_refused (refused j m) b h =
      let t : blamed_at j m end ≡ b = same-blamed _ _ h in
      (ap₂ refused (ap (λ (x : Blame). x.number) t) (ap (λ (x : Blame). x.node) t), ap (λ (x : Blame). x.end) t)

  pub answered-fits
      : (a : Answer) (f : Found) → answered ed y d start end a ≡ Ok f → (a ≡ placed f.node) × (f ≡ found_at ed y d start end f.node)
  unfolding answered
  answered-fits (placed n) f h =
      let t : found_at ed y d start end n ≡ f = same-found _ _ h in
      let m : n ≡ f.node = ap (λ (x : Found). x.node) t in
      (ap placed m, sym t ∙ ap (found_at ed y d start end) m)
  answered-fits (refused k n) f h =
      let z : ◌≡◌ {A = ℕ} 0 1 = cc in
      absurd (omega arith)

-- a segment that is given its node has no fault of its bytes, and placing gave it the node
module _ (ed : Edition) (y : Syntax) where
  no_content : (f k n : ℕ) → unless_fault y (guide_of ed) (pages_of ed) f k ≡ placed n → k ≡ n
  no_content zero k n h = cc
  no_content (suc f) k n h =
      let z : ◌≡◌ {A = ℕ} 0 1 = cc in
      absurd (omega arith)

  pub then_placed : (i : ℕ) (m : Memory) (s : Segment) (a : Answer) (n : ℕ) → then_content y (guide_of ed) (pages_of ed) i m s a ≡ placed n → a ≡ placed n
  then_placed i m s (placed k) n h = ap placed (no_content (content_fault y (guide_of ed) (pages_of ed) i m k s) k n h)
  then_placed i m s (refused k j) n h = h

  pub place_placed : (f : ℕ) (a : Answer) (n : ℕ) → then_place y (guide_of ed) (pages_of ed) f a ≡ placed n → (f ≡ 0) × (a ≡ placed n)
  place_placed zero a n h = (refl, h)
  place_placed (suc f) a n h =
      let z : ◌≡◌ {A = ℕ} 0 1 = cc in
      absurd (omega arith)

module _ (ed : Edition) (y : Syntax) (d : List ℕ) (start : ℕ) where
  abbrev bytes : ℕ → Bool → ℕ
  bytes e p = bytes_fault y (segment_in start e p d)

  -- an answer that fits was given to some segment
  fits-node : (f : Segment → Answer) (c : Option Cut) (g : Found) → cut_answer ed y d start f c ≡ Ok g → (s : Segment) × (f s ≡ placed g.node)
  unfolding cut_answer
  fits-node f None g h =
      let z : ◌≡◌ {A = ℕ} 0 1 = cc in
      absurd (omega arith)
  fits-node f (Some k) g h =
      (segment_in start k.end k.piece d, (place_placed ed y (bytes k.end k.piece) _ _ (answered-fits ed y d start k.end _ g h).0).1)

  -- what is said of a segment counts only where its bytes have no fault
  same_cut
      : (f g : Segment → Answer) (c : Option Cut)
      → ((s e : ℕ) (p : Bool) → c ≡ some_cut s e p → bytes e p ≡ 0 → f (segment_in start e p d) ≡ g (segment_in start e p d))
      → cut_answer ed y d start f c ≡ cut_answer ed y d start g c
  unfolding cut_answer
  same_cut f g None h = refl
  same_cut f g (Some k) h = ap (answered ed y d start k.end) (go (bytes k.end k.piece) (h k.start k.end k.piece refl))
    where
      here : Segment
      here = segment_in start k.end k.piece d

      go
          : (b : ℕ) → (b ≡ 0 → f here ≡ g here)
          → then_place y (guide_of ed) (pages_of ed) b (f here) ≡ then_place y (guide_of ed) (pages_of ed) b (g here)
      go zero h = h refl
      go (suc b) h = refl

  -- a segment that placing refuses
  module _ (k n : ℕ) (c : Option Cut) (cuts : c ≡ cut_at y d start) where
    abbrev Displaced : Told → Type 0
    Displaced r = r ≡ cut_answer ed y d start (λ _. refused k n) (cut_at y d start)

    pub misplaced_nothing : c ≡ None → Displaced (Err (blamed_at 12 0 start))
    unfolding cut_answer
    misplaced_nothing h = rw (← cuts, h)

    module _ (t : Cut) (at : c ≡ Some t) (f : ℕ) (is : f ≡ bytes t.end t.piece) where
      pub misplaced_bytes : 0 < f → Displaced (Err (blamed_at f 0 t.end))
      unfolding cut_answer answered
      misplaced_bytes h = rw (← cuts, at, ← is) (go f h)
        where
          go : (b : ℕ) → 0 < b → Err (blamed_at b 0 t.end) ≡ answered ed y d start t.end (then_place y (guide_of ed) (pages_of ed) b (refused k n))
          go zero h = absurd (omega arith)
          go (suc b) h = refl

      pub misplaced_place : f ≡ 0 → Displaced (Err (blamed_at k n t.end))
      unfolding cut_answer answered
      misplaced_place h = rw (← cuts, at, ← is, h)

  -- a segment that has the node n
  module _ (i n : ℕ) (kept : Kept) where
    abbrev asked : Segment → Answer
    asked s = then_content y (guide_of ed) (pages_of ed) i (noted y kept [] d) s (placed n)

    abbrev pub Contents : Told → Type 0
    Contents r = r ≡ cut_answer ed y d start asked (cut_at y d start)

    -- the fault that was read
    module _ (x : Faulty) where
      abbrev number : ℕ
      number = number_of_reason x.reason

      abbrev blamed : Told
      blamed = Err (blamed_at number (pickℕ (ltb number 13) 0 n) x.end)

      same-read : (k e : ℕ) → ◌≡◌ {A = Result Reading Numbered} (Err (numbered_at number x.end)) (Err (numbered_at k e))
          → (number ≡ k) × (x.end ≡ e)
      same-read k e h =
          let t : numbered_at number x.end ≡ numbered_at k e = cc in
          (ap (λ (z : Numbered). z.number) t, ap (λ (z : Numbered). z.end) t)

      by_faults
          : (e b f o : ℕ) (s t : Span) → b < 13 → Late f → Err (numbered_at number x.end) ≡ read_to e (examined_by (or_else b f) s t)
          → blamed ≡ answered ed y d start e (then_place y (guide_of ed) (pages_of ed) b (unless_fault y (guide_of ed) (pages_of ed) (or_else f o) n))
      unfolding examined_by answered
      by_faults e zero zero o s t h k r = absurd (let z : ◌≡◌ {A = ℕ} 0 1 = cc in omega arith)
      by_faults e zero (suc f) o s t h k r =
          let l : 13 ≤ suc f = k (λ z. omega arith) in
          let q = same-read (suc f) e r in
          rw (q.0, q.1, le-ltb (suc f) 13 l)
      by_faults e (suc b) f o s t h k r =
          let q = same-read (suc b) e r in
          rw (q.0, q.1, lt-ltb (suc b) 13 h)

      pub content_read : numbers_of (Err x) ≡ reading_of y ed n d start → Contents blamed
      unfolding reading_of reading_by read_fault cut_answer content_fault answered
      content_read reads = go (cut_at y d start) reads
        where
          go : (c : Option Cut) → Err (numbered_at number x.end) ≡ reading_by y ed n d start c → blamed ≡ cut_answer ed y d start asked c
          go None r = let q = same-read 12 start r in rw (q.0, q.1)
          go (Some k) r =
              by_faults k.end (bytes k.end k.piece) (page_fault y (pages_of ed n) (part start k.end d))
              (rule_fault y (guide_of ed) (pages_of ed) i (noted y kept [] d) n (segment_in start k.end k.piece d))
              (component_at y d start k.end 1 0) (component_at y d start k.end 3 0) (bytes_early y (segment_in start k.end k.piece d))
              (page_late y (pages_of ed n) (part start k.end d)) r

    -- none, and then 21 or 22
    module _ (x : Reading) (q : Sound y ed n d start x) (w : ℕ)
        (is-content : w ≡ content_fault y (guide_of ed) (pages_of ed) i (noted y kept [] d) n (segment_in start x.end q.piece d)) where
      pub content_refused : 0 < w → Contents (Err (blamed_at w n x.end))
      unfolding cut_answer answered
      content_refused k = rw (q.cut, q.bytes, ← is-content) (go w k)
        where
          go : (v : ℕ) → 0 < v → Err (blamed_at v n x.end) ≡ answered ed y d start x.end (unless_fault y (guide_of ed) (pages_of ed) v n)
          go zero k = absurd (omega arith)
          go (suc v) k = refl

      pub content-fits : w ≡ 0 → (r : Role) → r ≡ role_of ed n
          → Contents (Ok (record { node = n; role = r; first = x.first; third = x.third; end = x.end }))
      unfolding cut_answer answered
      content-fits z r o = rw (q.cut, q.bytes, ← is-content, z, o, q.first, q.third)

    pub content-node : (r : Told) → Contents r → (f : Found) → r ≡ Ok f → placed n ≡ placed f.node
    content-node r h f k =
        let s = fits-node asked _ f (sym h ∙ k) in
        then_placed ed y i (noted y kept [] d) s.0 (placed n) f.node s.1

-- a segment without a fault of its bytes has the three bytes of a tag
letters_long : (y : Syntax) (n : ℕ) (s : List ℕ) → lettered y n s ≡ true → n < length s
unfolding lettered
letters_long y zero [] h = absurd (false≢true h)
letters_long y (suc n) [] h = absurd (false≢true h)
letters_long y zero (x ∷ xs) h = omega arith
letters_long y (suc n) (x ∷ xs) h =
    let k = letters_long y n xs (and_both (capital x) _ h).1 in
    omega arith

tag_long : (y : Syntax) (s : List ℕ) → tagged_bytes y s ≡ true → 3 ≤ length s
unfolding tagged_bytes
tag_long y s h =
    let k = letters_long y 3 s h in
    omega arith

-- segment i, which is placed before its end is known
module _ (ed : Edition) (y : Syntax) (d : List ℕ) (start i : ℕ) (kept : Kept) (cs : List ℕ) where
  abbrev sought : Answer
  sought = place (guide_of ed) (view_of y (part start (length d) d)) kept.last cs

  -- what is wanted of the answer r and the counts cs'
  pub record Answers (r : Told) (cs' : List ℕ) : Type 0 where
    pub answer : r ≡ cut_answer ed y d start (placed_answer ed y d i kept cs) (cut_at y d start)
    pub counts : CountedOn ed r cs cs'

  bytes_long : (e : ℕ) (p : Bool) → bytes ed y d start e p ≡ 0 → 3 ≤ length (part start e d)
  unfolding bytes_fault
  bytes_long e p h = tag_long y (part start e d) (go p (allowed_bytes (part start e d)) (tagged_bytes y (part start e d)) h)
    where
      go : (p a t : Bool) → pickℕ p 12 (pickℕ (not a) 10 (pickℕ (not t) 11 0)) ≡ 0 → t ≡ true
      go true a t h = absurd (omega arith)
      go false false t h = absurd (omega arith)
      go false true false h = absurd (omega arith)
      go false true true h = refl

  same_view
      : (s e : ℕ) (p : Bool) → cut_at y d start ≡ some_cut s e p → bytes ed y d start e p ≡ 0 → view_of y (part start (length d) d)
      ≡ view_of y (part start e d)
  same_view s e p c b =
      let q = cutting y d start false s e p c in
      let l : length (part start e d) ≡ e - start = length_part d start e q.fits in
      let n = bytes_long e p b in
      view_cut y d start s e p c (omega arith)

  module _ (cs' : List ℕ) (left : cs' ≡ counts_after (guide_of ed) sought cs) where
    -- placing refuses
    pub place_refused
        : (k n : ℕ) → refused k n ≡ sought → (r : Told) → r ≡ cut_answer ed y d start (λ _. refused k n) (cut_at y d start) → Answers r cs'
    place_refused k n a r m =
        record {
          answer =
              m
              ∙ same_cut ed y d start (λ _. refused k n) (placed_answer ed y d i kept cs) (cut_at y d start)
              (λ s e p c b. rw (← same_view s e p c b, ← a));
          counts =
              λ f g.
              absurd (
              let s = fits-node ed y d start (λ _. refused k n) (cut_at y d start) f (sym m ∙ g) in
              let z : ◌≡◌ {A = ℕ} 0 1 = cc in
              omega arith
              );
        }

    -- placing gives it the node n
    pub place-answered : (n : ℕ) → placed n ≡ sought → (r : Told) → Contents ed y d start i n kept r → Answers r cs'
    unfolding content_fault rule_fault end_fault line_fault
    place-answered n a r m =
        record {
          answer =
              m
              ∙ same_cut ed y d start (asked ed y d start i n kept) (placed_answer ed y d i kept cs) (cut_at y d start)
              (λ s e p c b. rw (← same_view s e p c b, ← a));
          counts = λ f g. left ∙ ap (λ (b : Answer). counts_after (guide_of ed) b cs) (sym a ∙ content-node ed y d start i n kept r m f g);
        }
