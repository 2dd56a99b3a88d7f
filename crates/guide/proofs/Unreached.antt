-- Item 10: a LIN node has a limit of 999,999, and where it is reached as many segments stand in front, each of four bytes at least.
use Prim.Native.Nat.{ℕ, zero, suc, ◌+◌, ◌*◌, ◌≤◌, ◌<◌}
use mathlib.Core.Path.{◌≡◌, refl, sym, ◌∙◌, ap, subst}
use mathlib.Core.Bool.{Bool, true, false}
use mathlib.Core.List.{List, [], ◌∷◌, ◌++◌, append_assoc}
use native.Mathlib.Omega.{arith}
use lib.ListN.{length, length-append}
use lib.Dec.{T, eqb, leb, leb→le}
use Rattle.bytewise.specs.Bytes.{bytes_of}
use Rattle.plain.specs.Plain.{same}
use Rattle.cut.specs.declared.service.Syntax.{Syntax}
use Rattle.cut.specs.Segments.{Segment}
use Rattle.cut.proofs.Lengths.{total, total_append}
use Rattle.clean.specs.Clean.{allowed_bytes, capital, lettered, tagged_bytes}
use Rattle.messages.specs.Messages.{Message}
use Rattle.guide.specs.declared.edition.Edition.{Edition}
use Rattle.guide.specs.declared.edition.Edition.TheVariants.{D, C}
use Rattle.guide.specs.Nodes.{View, Guide, node, takes, paired, number_of}
use Rattle.guide.specs.Tree.{Kids, none, then, segs, count, one}
use Rattle.guide.specs.Steps.{At, here, below, Full}
use Rattle.guide.specs.Answers.{refused}
use Rattle.guide.specs.Meaning.{Outcome, too_many}
use Rattle.guide.specs.Sheet.{is_tag}
use Rattle.guide.specs.Page.{Page}
use Rattle.guide.specs.FirstFault.{First, Fault, not-used, missing, wrong-format, wrong-code}
use Rattle.guide.specs.Accepted.{Clean, seen, segments_of}
use Rattle.guide.specs.Refusal.{FaultAfter, piece, byte, tag, place, content, FaultFree, at_segment, Refusal, for_fault}
use Rattle.guide.specs.Pricat.{pricat20d, pricat20c}
use Rattle.guide.specs.Editions.{guide_of}
use Rattle.guide.specs.workers.Checks.{every, implies}
use Rattle.guide.proofs.Basics.{T_true, and_right, implied, every-at}
use Rattle.guide.proofs.tables.Tables.{in_table, takes-limit}

-- the bytes of a segment, at least
abbrev pub least : ℕ
least = 4

one_at_most : (b : Bool) → one b ≤ 1
one_at_most true = omega arith
one_at_most false = omega arith

module _ {A : Type 0} where
  -- no node comes more often in an instance than there are segments
  count-within : (f : Kids A) (m : ℕ) → count f m ≤ length (segs f)
  count-within none m = omega arith
  count-within (then l n s k) m =
      omega (arith, count-within l m, one_at_most (eqb n m), length-append (segs l) (s ∷ segs k))

  -- a limit that is reached is not above the count of segments
  full-within : (g : Guide) (j p : ℕ) (f : Kids A) (n : ℕ) → At (Full g j) p f n → (node g n).limit ≤ length (segs f)
  full-within g j p f n (here h) = omega (arith, h.full, count-within f n)
  full-within g j p (then l x t k) n (below h) = omega (arith, full-within g j x k n h, length-append (segs l) (t ∷ segs k))

-- the rows of LIN, and those that a LIN node stands for
abbrev far_off : Guide → ℕ → Bool
far_off g n = implies (is_tag g (bytes_of "LIN") (number_of g n)) (leb 999999 (node g n).limit)

-- in both editions, computed
rows_far : (e : Edition) → T (every (far_off (guide_of e)) (length (guide_of e)))
unfolding pricat20d pricat20c every is_tag same number_of paired
rows_far D = tt
rows_far C = tt

-- where the limit of a LIN node is reached, 999,999 segments stand in front
pub far_in
    : {A : Type 0} (e : Edition) (f : Kids A) (v : View) (j n : ℕ) → T (takes (guide_of e) n v)
    → T (is_tag (guide_of e) (bytes_of "LIN") (number_of (guide_of e) n))
    → At (Full (guide_of e) j) 0 f n → 999999 ≤ length (segs f)
far_in e f v j n t lin d =
    let g = guide_of e in
    let row = every-at (far_off g) (length g) n (rows_far e) (in_table g n (takes-limit g n v t)) in
    let l : 999999 ≤ (node g n).limit = leb→le _ _ (implied (is_tag g (bytes_of "LIN") (number_of g n)) (leb 999999 (node g n).limit) row lin) in
    omega (arith, l, full-within g j 0 f n d)

-- a tag and the byte behind it
lettered_longer : (y : Syntax) (n : ℕ) (xs : List ℕ) → T (lettered y n xs) → n < length xs
unfolding lettered
lettered_longer y n [] h = absurd h
lettered_longer y zero (x ∷ xs) h = omega arith
lettered_longer y (suc n) (x ∷ xs) h = omega (arith, lettered_longer y n xs (and_right (capital x) (lettered y n xs) h))

four_bytes : (y : Syntax) (s : Segment) → Clean y s → 4 ≤ length s.bytes
unfolding tagged_bytes
four_bytes y s c = omega (arith, lettered_longer y 3 s.bytes (T_true c.tagged))

-- "A terminated LIN takes at least four bytes", as every segment does that is free of 11
pub least-bytes : (y : Syntax) (s : Segment) → Clean y s → least ≤ length s.bytes
least-bytes y s c = four_bytes y s c

module _ (y : Syntax) (g : Guide) (pages : ℕ → Page) where
  -- a segment among some without a fault
  free-clean : (before : List Segment) (s : Segment) (after : List Segment) → FaultFree y g pages (before ++ (s ∷ after)) → Clean y s
  free-clean before s after free = ended s.piece refl
    where
      lettered_so : (b : Bool) → s.piece ≡ false → allowed_bytes s.bytes ≡ true → tagged_bytes y s.bytes ≡ b → Clean y s
      lettered_so true p a e = record { terminated = p; allowed = a; tagged = e }
      lettered_so false p a e = absurd (free before s after refl 11 0 (tag p a e))

      allowed_so : (b : Bool) → s.piece ≡ false → allowed_bytes s.bytes ≡ b → Clean y s
      allowed_so true p e = lettered_so (tagged_bytes y s.bytes) p e refl
      allowed_so false p e = absurd (free before s after refl 10 0 (byte p e))

      ended : (b : Bool) → s.piece ≡ b → Clean y s
      ended true e = absurd (free before s after refl 12 0 (piece e))
      ended false e = allowed_so (allowed_bytes s.bytes) e refl

  -- segments without a fault have four bytes each at least
  free_long : (before ss : List Segment) → FaultFree y g pages (before ++ ss) → length ss * 4 ≤ total ss
  unfolding total
  free_long before [] free = omega arith
  free_long before (s ∷ ss) free =
      let q : (before ++ (s ∷ [])) ++ ss ≡ before ++ (s ∷ ss) = append_assoc before (s ∷ []) ss in
      let more = free_long (before ++ (s ∷ [])) ss (subst (FaultFree y g pages) (sym q) free) in
      omega (arith, four_bytes y s (free-clean before s ss free), more)

no_content : (y : Syntax) (page : Page) (s : List ℕ) → First y page s 15 → ⊥
no_content y page s f = go f.here
  where
    go : Fault y page s 15 f.element f.component → ⊥
    go (not-used e h) = omega (arith, e)
    go (missing e h) = omega (arith, e)
    go (wrong-format e h) = omega (arith, e)
    go (wrong-code e h) = omega (arith, e)

-- a message that is refused with 15 at a LIN node has 999,999 segments of four bytes at least
module _ (y : Syntax) (e : Edition) (pages : ℕ → Page) where
  -- the node that is named is one of LIN
  abbrev Lin : ℕ → Type 0
  Lin n = T (is_tag (guide_of e) (bytes_of "LIN") n)

  outcome_far
      : (f : Kids Segment) (s : Segment) (n : ℕ) → Outcome (guide_of e) (seen y) f s (refused 15 n) → Lin (number_of (guide_of e) n) → 999999 ≤ length (segs f)
  outcome_far f s n (too_many t d) lin = far_in e f (seen y s) 15 n t lin d

  fault_far
      : (before : List Segment) (s : Segment) (n : ℕ) → FaultAfter y (guide_of e) pages before s 15 n → Lin (number_of (guide_of e) n)
      → 999999 ≤ length before
  fault_far before s n (place c b o) lin =
      let far = outcome_far b.tree s n o lin in
      omega (arith, far, ap length b.same)
  fault_far before s n (content c b o f) lin = absurd (no_content y (pages n) s.bytes f)

  pub lines_long : (m : Message) (i a n : ℕ) → Refusal y (guide_of e) pages m 15 i a n → Lin n → 999999 * least ≤ total (segments_of m)
  lines_long m i a n (for_fault (at_segment {n = r} before s after split free fault)) lin =
      let long = free_long y (guide_of e) pages [] before free in
      let far = fault_far before s r fault lin in
      let sum : total (segments_of m) ≡ total before + total (s ∷ after) = ap total split ∙ total_append before (s ∷ after) in
      omega (arith, long, far, sum)
