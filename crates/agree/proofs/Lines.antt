-- Where the LIN of a listed position stands among a message's segments with their nodes, and that this is one place.
use Prim.Native.Nat.{ℕ, suc, ◌+◌}
use mathlib.Core.Path.{◌≡◌, refl, sym, ap, ◌∙◌}
use mathlib.Core.Bool.{Bool, true, false, cond}
use mathlib.Core.List.{List, [], ◌∷◌, ◌++◌, head-eq_of_cons-eq, tail-eq_of_cons-eq, nil≢cons}
use native.Mathlib.Omega.{arith}
use lib.ListN.{length}
use lib.Dec.{T}
use Rattle.cut.specs.declared.service.Syntax.{Syntax}
use Rattle.bytewise.specs.Bytes.{bytes_of}
use Rattle.cut.specs.Segments.{Segment}
use Rattle.guide.specs.Nodes.{Guide}
use Rattle.guide.specs.Tree.{Given, one, giving}
use Rattle.guide.specs.Sheet.{only_if, with_tag}
use Rattle.guide.specs.workers.Heads.{is_lin}
use Rattle.guide.specs.Accepted.{Each, seen}
use Rattle.guide.proofs.Basics.{T_true, true-T}
use Rattle.guide.proofs.judging.Faultless.{segments_in}
use Rattle.guide.proofs.placing.Taken.{Taken, taken_begins}
use Rattle.agree.specs.Positions.{heading_from, Listed, positions_from}

module _ (g : Guide) where
  abbrev lines_in : List (Given Segment) → ℕ
  lines_in xs = length (with_tag g (bytes_of "LIN") xs)

  -- one of the segments xs is a LIN, and j LINs are in front of it
  pub record Spot (xs : List (Given Segment)) (j : ℕ) : Type 0 where
    pub front : List (Given Segment)
    pub node : ℕ
    pub line : Segment
    pub back : List (Given Segment)
    pub all : xs ≡ front ++ (giving node line ∷ back)
    pub lin : T (is_lin g node)
    pub lines : lines_in front ≡ j

  lines_more : (x : Given Segment) (xs : List (Given Segment)) → lines_in (x ∷ xs) ≡ one (is_lin g x.node) + lines_in xs
  unfolding with_tag
  lines_more x xs = go (is_lin g x.node)
    where
      go : (b : Bool) → length (only_if b x.segment ++ with_tag g (bytes_of "LIN") xs) ≡ one b + lines_in xs
      go true = omega arith
      go false = omega arith

  -- there is one such place
  pub same_line
      : (f b f' b' : List (Given Segment)) (n n' : ℕ) (s s' : Segment) → f ++ (giving n s ∷ b) ≡ f' ++ (giving n' s' ∷ b') → T (is_lin g n) → T (is_lin g n')
      → lines_in f ≡ lines_in f' → (length f ≡ length f') × (giving n s ≡ giving n' s')
  unfolding with_tag
  same_line [] b [] b' n n' s s' e t t' l = (refl, head-eq_of_cons-eq e)
  same_line [] b (x ∷ f') b' n n' s s' e t t' l =
      let h : giving n s ≡ x = head-eq_of_cons-eq e in
      let q : is_lin g x.node ≡ true = rw (sym h) (true-T (is_lin g n) t) in
      absurd (omega (arith, lines_more x f', ap one q))
  same_line (x ∷ f) b [] b' n n' s s' e t t' l =
      let h : x ≡ giving n' s' = head-eq_of_cons-eq e in
      let q : is_lin g x.node ≡ true = rw h (true-T (is_lin g n') t') in
      absurd (omega (arith, lines_more x f, ap one q))
  same_line (x ∷ f) b (x' ∷ f') b' n n' s s' e t t' l =
      let h : x ≡ x' = head-eq_of_cons-eq e in
      let q : one (is_lin g x.node) ≡ one (is_lin g x'.node) = rw h in
      let r = same_line f b f' b' n n' s s' (tail-eq_of_cons-eq e) t t' (omega (arith, lines_more x f, lines_more x' f')) in
      (ap suc r.0, r.1)

  -- the listed position q is a LIN of xs with j LINs in front of it; the first of xs has the number k
  abbrev pub Placed : ℕ → List (Given Segment) → ℕ → Listed → Type 0
  Placed k xs j q = (p : Spot xs j) × (q.number ≡ k + length p.front) × (q.place ≡ p.line.start)

  placed_more
      : (k : ℕ) (x : Given Segment) (xs : List (Given Segment)) (j : ℕ) (q : Listed) → Placed (k + 1) xs j q
      → (i : ℕ) → one (is_lin g x.node) + j ≡ i → Placed k (x ∷ xs) i q
  placed_more k x xs j q (p, n, a) i e = (
    record {
      front = x ∷ p.front;
      node = p.node;
      line = p.line;
      back = p.back;
      all = ap (λ (zs : List (Given Segment)). x ∷ zs) p.all;
      lin = p.lin;
      lines = omega (arith, lines_more x p.front, p.lines);
    },
    omega arith,
    a,
  )

  module _ (y : Syntax) (q : Listed) (after : List Listed) where
    abbrev Listing : ℕ → List (Given Segment) → Type 0
    Listing k xs = (before : List Listed) → positions_from k (segments_in xs) ≡ before ++ (q ∷ after) → Placed k xs (length before) q

    listed_step : (k : ℕ) (x : Given Segment) (xs : List (Given Segment)) → Taken g (seen y) x → Listing (k + 1) xs → Listing k (x ∷ xs)
    unfolding positions_from with_tag
    listed_step k x xs a ih before e = go (is_lin g x.node) refl before (rw (taken_begins y g x a (bytes_of "LIN") refl) at e)
      where
        first : Listed
        first = record { number = k; place = x.segment.start; heading = heading_from x.segment.bytes (segments_in xs) }

        later : List Listed
        later = positions_from (k + 1) (segments_in xs)

        go : (b : Bool) → is_lin g x.node ≡ b → (bs : List Listed) → cond b (first ∷ later) later ≡ bs ++ (q ∷ after) → Placed k (x ∷ xs) (length bs) q
        go true i [] d =
            let h : first ≡ q = head-eq_of_cons-eq d in (
              record { front = []; node = x.node; line = x.segment; back = xs; all = refl; lin = T_true i; lines = refl },
              sym (ap (λ (z : Listed). z.number) h) ∙ omega arith,
              sym (ap (λ (z : Listed). z.place) h),
            )
        go true i (b ∷ bs) d = placed_more k x xs (length bs) q (ih bs (tail-eq_of_cons-eq d)) (suc (length bs)) (omega (arith, ap one i))
        go false i bs d = placed_more k x xs (length bs) q (ih bs d) (length bs) (omega (arith, ap one i))

    -- a listed position is a LIN with that number and place
    pub listed_at : (k : ℕ) (xs : List (Given Segment)) → Each (Taken g (seen y)) xs → Listing k xs
    unfolding positions_from Each
    listed_at k [] a [] e = absurd (nil≢cons e)
    listed_at k [] a (b ∷ before) e = absurd (nil≢cons e)
    listed_at k (x ∷ xs) a before e = listed_step k x xs a.0 (listed_at (k + 1) xs a.1) before e
