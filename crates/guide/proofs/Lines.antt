-- The positions of a tree are those of its LIN segments, in message order: no LIN is in another's instance.
use Prim.Native.Nat.{ℕ}
use mathlib.Core.Path.{◌≡◌, refl, sym, ◌∙◌, ap, ap₂}
use mathlib.Core.Bool.{Bool, true, false, cond}
use mathlib.Core.List.{List, [], ◌∷◌, ◌++◌, map, append_assoc}
use lib.Dec.{T}
use Rattle.bytewise.specs.Bytes.{bytes_of}
use Rattle.cut.specs.Segments.{Segment}
use Rattle.guide.specs.Nodes.{View, Guide, node}
use Rattle.guide.specs.Tree.{Kids, none, then, Given, giving, assigned, Closed, Whole}
use Rattle.guide.specs.workers.Checks.{Rising, Under, child, deeper}
use Rattle.guide.specs.Sheet.{only_if, Position, is_tag, with_tag, position, positions_in}
use Rattle.guide.specs.workers.Heads.{is_lin, Foremost}
use Rattle.guide.specs.Accepted.{Each}
use Rattle.guide.proofs.Basics.{T_true, false-T, map-append}
use Rattle.guide.proofs.tables.Tables.{takes-limit}
use Rattle.guide.proofs.placing.Taken.{each_more}

-- the LIN of each position
abbrev pub lines_of : List Position → List Segment
lines_of ps = map (λ (p : Position). p.lin) ps

module _ (g : Guide) where
  pub with_tag-append : (t : List ℕ) (xs zs : List (Given Segment)) → with_tag g t (xs ++ zs) ≡ with_tag g t xs ++ with_tag g t zs
  unfolding with_tag
  with_tag-append t [] zs = refl
  with_tag-append t (x ∷ xs) zs =
      rw (with_tag-append t xs zs) (sym (append_assoc (only_if (is_tag g t x.node) x.segment) (with_tag g t xs) (with_tag g t zs)))

  -- none of these is a LIN
  abbrev pub NoLine : List (Given Segment) → Type 0
  NoLine xs = Each (λ x. is_lin g x.node ≡ false) xs

  no_line : (xs : List (Given Segment)) → NoLine xs → with_tag g (bytes_of "LIN") xs ≡ []
  unfolding Each with_tag
  no_line [] a = refl
  no_line (x ∷ xs) a = rw (a.0, no_line xs a.1)

module _ (view : Segment → View) (g : Guide) (r : Rising g) (h : Foremost g) where
  -- where every child of p is inside the LIN x, so is what these hold
  none_inside
      : (x : ℕ) → T (is_lin g x) → (p : ℕ) → ((n : ℕ) → (node g n).parent ≡ p → Under g x n) → (f : Kids Segment) → Closed g view p f
      → NoLine g (assigned f)
  unfolding Closed Each
  none_inside x a p u none c = tt
  none_inside x a p u (then l n s k) c =
      let next = c.1 in
      let limit = takes-limit g n (view s) next.takes in
      let within = u n next.under in
      each_more (λ (z : Given Segment). is_lin g z.node ≡ false) (assigned l) (giving n s ∷ assigned k) (none_inside x a p u l c.0)
      (false-T (is_lin g n) (λ b. h.not_nested x n a b limit within), none_inside x a n (λ m e. deeper e (r.rises n limit) within) k c.2)

  pub no_line-inside : (n : ℕ) (k : Kids Segment) → T (is_lin g n) → Closed g view n k → NoLine g (assigned k)
  no_line-inside n k a c = none_inside n a n (λ m e. child e) k c

  pub lines : (p : ℕ) (f : Kids Segment) → Closed g view p f → lines_of (positions_in g f) ≡ with_tag g (bytes_of "LIN") (assigned f)
  unfolding Closed positions_in with_tag
  lines p none c = refl
  lines p (then l n s k) c =
      map-append (λ (q : Position). q.lin) (positions_in g l) (cond (is_lin g n) (position g s k ∷ []) (positions_in g k))
      ∙ ap₂ ◌++◌ (lines p l c.0) (go (is_lin g n) refl (lines n k c.2))
      ∙ sym (with_tag-append g (bytes_of "LIN") (assigned l) (giving n s ∷ assigned k))
    where
      LINs : List Segment
      LINs = with_tag g (bytes_of "LIN") (assigned k)

      go
          : (b : Bool) → is_lin g n ≡ b → lines_of (positions_in g k) ≡ LINs
          → lines_of (cond b (position g s k ∷ []) (positions_in g k)) ≡ only_if b s ++ LINs
      go true e ih = ap (λ (ss : List Segment). s ∷ ss) (sym (no_line g (assigned k) (no_line-inside n k (T_true e) c.2)))
      go false e ih = ih

  -- the same of a whole message
  pub whole-lines
      : (ss : List Segment) (w : Whole g view ss) → lines_of (positions_in g w.tree) ≡ with_tag g (bytes_of "LIN") (assigned w.tree)
  whole-lines ss w = lines 0 w.tree w.closed
