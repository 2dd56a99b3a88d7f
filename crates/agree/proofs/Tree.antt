-- The positions that are read off a message's segments by their tags have the headings of those that are read off its tree.
use Prim.Native.Nat.{ℕ, ◌+◌}
use mathlib.Core.Path.{◌≡◌, refl, sym, ap, ap₂, ◌∙◌}
use mathlib.Core.Bool.{Bool, true, false, cond, ◌&&◌, false≢true}
use mathlib.Core.List.{List, [], ◌∷◌, ◌++◌, append_assoc, append-nil}
use lib.ListN.{length}
use lib.Dec.{T, eqb}
use borrow.Author.Tests.{eqb-true}
use Rattle.cut.specs.declared.service.Syntax.{Syntax}
use Rattle.bytewise.specs.Bytes.{bytes_of, begins}
use Rattle.cut.specs.Segments.{Segment}
use Rattle.guide.specs.Nodes.{Guide}
use Rattle.guide.specs.Tree.{Kids, none, then, Given, segs, giving, assigned, Limits, Next, Closed, Whole}
use Rattle.guide.specs.workers.Checks.{Rising}
use Rattle.guide.specs.Sheet.{Position, is_tag, position, positions_in}
use Rattle.guide.specs.workers.Heads.{is_lin, is_pia, is_imd, is_head, Foremost}
use Rattle.guide.specs.Accepted.{Each, seen}
use Rattle.guide.proofs.Basics.{T_true, false-T, or_left, or_right, map-append}
use Rattle.guide.proofs.placing.Growing.{closed_open, assigned-segments}
use Rattle.guide.proofs.judging.Faultless.{segments_in}
use Rattle.guide.proofs.placing.Taken.{Taken, assigned_taken, taken_begins}
use Rattle.guide.proofs.HeadFirst.{Lone, missing, alone, Without, Behind, behind-append, Fronted, head_first}
use Rattle.guide.proofs.Lines.{NoLine, no_line-inside}
use Rattle.agree.specs.Agreement.{Heading, bytes_in, heading_of}
use Rattle.agree.specs.Positions.{next_if, behind_if, heading_from, positions_from, positions_of}
use Rattle.agree.proofs.Distinct.{headings, listed}

-- what is compared of the positions among some segments, their numbers aside
unfoldable headings_by : List Segment → List Heading
headings_by [] = []
headings_by (s ∷ ss) = cond (begins (bytes_of "LIN") s.bytes) (heading_from s.bytes ss ∷ headings_by ss) (headings_by ss)

listed_headings : (n : ℕ) (ss : List Segment) → listed (positions_from n ss) ≡ headings_by ss
unfolding headings_by positions_from
listed_headings n [] = refl
listed_headings n (s ∷ ss) = go (begins (bytes_of "LIN") s.bytes) (listed_headings (n + 1) ss)
  where
    go
        : (b : Bool) → listed (positions_from (n + 1) ss) ≡ headings_by ss
        → listed
        (cond b (record { number = n; place = s.start; heading = heading_from s.bytes ss } ∷ positions_from (n + 1) ss) (positions_from (n + 1) ss))
        ≡ cond b (heading_from s.bytes ss ∷ headings_by ss) (headings_by ss)
    go true ih = ap (λ (hs : List Heading). heading_from s.bytes ss ∷ hs) ih
    go false ih = ih

module _ (t : List ℕ) where
  -- one segment that has the tag or is missing, before others of which the first has not
  next_lone : (ps rest : List Segment) → Lone t ps → Without t rest → next_if t (ps ++ rest) ≡ bytes_in ps
  unfolding next_if Without
  next_lone _ [] missing w = refl
  next_lone _ (s ∷ ss) missing w = rw w
  next_lone _ rest (alone e) w = rw e

  behind_lone : (ps rest : List Segment) → Lone t ps → Without t rest → behind_if t (ps ++ rest) ≡ rest
  unfolding behind_if Without
  behind_lone _ [] missing w = refl
  behind_lone _ (s ∷ ss) missing w = rw w
  behind_lone _ rest (alone e) w = rw e

-- an IMD is no PIA
imd_no_pia : (bs : List ℕ) → begins (bytes_of "IMD") bs ≡ true → begins (bytes_of "PIA") bs ≡ false
unfolding begins
imd_no_pia [] e = absurd (false≢true e)
imd_no_pia (x ∷ xs) e = go (eqb x 73) refl e
  where
    go : (b : Bool) → eqb x 73 ≡ b → b && begins (bytes_of "MD") xs ≡ true → eqb x 80 && begins (bytes_of "IA") xs ≡ false
    go true d f = rw (eqb-true x 73 d)
    go false d f = absurd (false≢true f)

imd_without : (ps rest : List Segment) → Lone (bytes_of "IMD") ps → Without (bytes_of "PIA") rest → Without (bytes_of "PIA") (ps ++ rest)
unfolding Without
imd_without _ rest missing w = w
imd_without _ rest (alone {s = s} e) w = imd_no_pia s.bytes e

module _ (g : Guide) where
  -- a LIN before its children
  heading_fronted
      : (s : Segment) (k : Kids Segment) (rest : List Segment) → Fronted g k → Behind rest
      → heading_from s.bytes (segs k ++ rest) ≡ heading_of (position g s k)
  unfolding heading_from
  heading_fronted s k rest f b =
      let PIA = bytes_of "PIA" in
      let IMD = bytes_of "IMD" in
      let tail = behind-append f.others rest f.behind b in
      let back = f.others ++ rest in
      let split : segs k ++ rest ≡ f.pia ++ (f.imd ++ back) = rw f.all (simp append_assoc) in
      let without = imd_without f.imd back f.lone_imd tail.0 in
      let pia = next_lone PIA f.pia (f.imd ++ back) f.lone_pia without in
      let behind = behind_lone PIA f.pia (f.imd ++ back) f.lone_pia without in
      let imd = next_lone IMD f.imd back f.lone_imd tail.1 in
      rw (split, behind, pia, imd, f.pias, f.imds)

module _ (y : Syntax) (g : Guide) where
  -- segments that are no LINs have no position
  headings_none
      : (xs : List (Given Segment)) (rest : List Segment) → Each (Taken g (seen y)) xs → NoLine g xs
      → headings_by (segments_in xs ++ rest) ≡ headings_by rest
  unfolding headings_by Each
  headings_none [] rest a b = refl
  headings_none (x ∷ xs) rest a b =
      let no = taken_begins y g x a.0 (bytes_of "LIN") refl ∙ b.0 in
      rw no (headings_none xs rest a.1 b.1)

module _ (y : Syntax) (g : Guide) (r : Rising g) (h : Foremost g) where
  -- a LIN with its children is one position
  lin_headings
      : (n : ℕ) (s : Segment) (k : Kids Segment) (rest : List Segment) → T (is_lin g n) → Closed g (seen y) n k → Limits g n k → Behind rest
      → heading_from s.bytes (segs k ++ rest) ∷ headings_by (segs k ++ rest) ≡ heading_of (position g s k) ∷ headings_by rest
  lin_headings n s k rest t c q b =
      ap₂ (λ (i : Heading) (is : List Heading). i ∷ is) (heading_fronted g s k rest (head_first y g h n k c q) b)
      (ap (λ (ss : List Segment). headings_by (ss ++ rest)) (sym (assigned-segments k))
      ∙ headings_none y g (assigned k) rest (assigned_taken g (seen y) n k (closed_open g (seen y) n k c)) (no_line-inside (seen y) g r h n k t c))

  -- the children of an instance that is no LIN's, before segments of which the first is neither PIA nor IMD
  tree_headings
      : (p : ℕ) (f : Kids Segment) (rest : List Segment) → (T (is_lin g p) → ⊥) → Closed g (seen y) p f → Behind rest
      → headings_by (segs f ++ rest) ≡ headings (positions_in g f) ++ headings_by rest
  unfolding Closed positions_in headings_by Without
  tree_headings p none rest o c b = refl
  tree_headings p (then l n s k) rest o c b =
      ap headings_by (append_assoc (segs l) (s ∷ segs k) rest)
      ∙ tree_headings p l (s ∷ (segs k ++ rest)) o c.0 (not-begins (bytes_of "PIA") refl no_pia, not-begins (bytes_of "IMD") refl no_imd)
      ∙ ap (λ (is : List Heading). headings (positions_in g l) ++ is)
      (go (is_lin g n) refl (tree_headings n k rest))
      ∙ sym (append_assoc (headings (positions_in g l)) (headings here) (headings_by rest))
      ∙ ap (λ (is : List Heading). is ++ headings_by rest) (sym (map-append (λ (q : Position). heading_of q) (positions_in g l) here))
    where
      here : List Position
      here = cond (is_lin g n) (position g s k ∷ []) (positions_in g k)

      next : Next g (seen y) p l n s
      next = c.1

      not-begins : (t : List ℕ) → length t ≡ 3 → (T (is_tag g t n) → ⊥) → begins t s.bytes ≡ false
      not-begins t e i = taken_begins y g (giving n s) next.takes t e ∙ false-T (is_tag g t n) i

      no_head : T (is_head g n) → ⊥
      no_head i = o (rw next.under at (h.behind_line n i))

      no_pia : T (is_pia g n) → ⊥
      no_pia i = no_head (or_left (is_pia g n) (is_imd g n) i)

      no_imd : T (is_imd g n) → ⊥
      no_imd i = no_head (or_right (is_pia g n) (is_imd g n) i)

      go
          : (q : Bool) → is_lin g n ≡ q
          → ((T (is_lin g n) → ⊥) → Closed g (seen y) n k → Behind rest → headings_by (segs k ++ rest) ≡ headings (positions_in g k) ++ headings_by rest)
          → headings_by (s ∷ (segs k ++ rest)) ≡ headings (cond q (position g s k ∷ []) (positions_in g k)) ++ headings_by rest
      go true e ih =
          rw (taken_begins y g (giving n s) next.takes (bytes_of "LIN") refl ∙ e) (lin_headings n s k rest (T_true e) c.2 c.3 b)
      go false e ih =
          rw (taken_begins y g (giving n s) next.takes (bytes_of "LIN") refl ∙ e) (ih (λ t. rw e at t) c.2 b)

  -- The positions of a whole message, read by tags and read off its tree, have the same headings.
  pub whole_headings
      : (ss : List Segment) (w : Whole g (seen y) ss) → listed (positions_of ss) ≡ headings (positions_in g w.tree)
  unfolding positions_of Without headings_by
  whole_headings ss w =
      listed_headings 1 ss
      ∙ ap headings_by (sym w.same ∙ sym (append-nil (segs w.tree)))
      ∙ tree_headings 0 w.tree [] h.root w.closed (tt, tt)
      ∙ append-nil (headings (positions_in g w.tree))
