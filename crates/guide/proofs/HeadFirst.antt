-- The children of a LIN begin with its PIA, if there is one, and then its IMD, if there is one. For every table that passes `foremost`.
use Prim.Native.Nat.{ℕ, ◌+◌, ◌≤◌}
use mathlib.Core.Path.{◌≡◌, refl, sym, ◌∙◌, ap}
use mathlib.Core.Bool.{Bool, true, false, ◌&&◌}
use mathlib.Core.List.{List, [], ◌∷◌, ◌++◌, append_assoc, append-nil}
use native.Mathlib.Omega.{arith}
use lib.ListN.{length}
use lib.Dec.{T, eqb}
use borrow.Author.Tests.{eqb-false}
use Rattle.cut.specs.declared.service.Syntax.{Syntax}
use Rattle.bytewise.specs.Bytes.{bytes_of, begins}
use Rattle.cut.specs.Segments.{Segment}
use Rattle.guide.specs.Nodes.{Guide, node}
use Rattle.guide.specs.Tree.{Kids, none, then, one, segs, giving, count, Limits, Next, Closed}
use Rattle.guide.specs.Sheet.{is_tag, children_with}
use Rattle.guide.specs.workers.Heads.{is_pia, is_imd, is_head, Foremost}
use Rattle.guide.specs.Accepted.{seen}
use Rattle.guide.proofs.Basics.{T_true, false-T, and_left, and_right, and_both, or_left, or_right, same-eq, one_same, true-T}
use Rattle.guide.proofs.tables.Tables.{takes-limit}
use Rattle.guide.proofs.placing.Taken.{taken_begins}

-- none, or one segment with the tag t
pub data Lone (t : List ℕ) : List Segment → Type 0 where
  missing : Lone t []
  alone : {s : Segment} → begins t s.bytes ≡ true → Lone t (s ∷ [])

-- segments of which the first, if there is one, has not the tag t
unfoldable pub Without : List ℕ → List Segment → Type 0
Without t [] = Unit {0}
Without t (s ∷ ss) = begins t s.bytes ≡ false

without_append : (t : List ℕ) (ss us : List Segment) → Without t ss → Without t us → Without t (ss ++ us)
unfolding Without
without_append t [] us a b = b
without_append t (s ∷ ss) us a b = a

-- ... is neither PIA nor IMD
abbrev pub Behind : List Segment → Type 0
Behind ss = Without (bytes_of "PIA") ss × Without (bytes_of "IMD") ss

pub behind-append : (ss us : List Segment) → Behind ss → Behind us → Behind (ss ++ us)
behind-append ss us a b = (without_append (bytes_of "PIA") ss us a.0 b.0, without_append (bytes_of "IMD") ss us a.1 b.1)

-- a PIA that may be missing, an IMD that may be missing, and the others
pub record Fronted (g : Guide) (k : Kids Segment) : Type 0 where
  pub pia : List Segment
  pub imd : List Segment
  pub others : List Segment
  pub all : segs k ≡ pia ++ (imd ++ others)
  pub pias : children_with g (bytes_of "PIA") k ≡ pia
  pub imds : children_with g (bytes_of "IMD") k ≡ imd
  pub lone_pia : Lone (bytes_of "PIA") pia
  pub lone_imd : Lone (bytes_of "IMD") imd
  pub behind : Behind others

-- a PIA that may be missing, and nothing else
record Started (g : Guide) (k : Kids Segment) : Type 0 where
  pia : List Segment
  all : segs k ≡ pia
  pias : children_with g (bytes_of "PIA") k ≡ pia
  imds : children_with g (bytes_of "IMD") k ≡ []
  lone : Lone (bytes_of "PIA") pia

front_started : (g : Guide) (k : Kids Segment) → Started g k → Fronted g k
unfolding Without
front_started g k f =
    record {
      pia = f.pia;
      imd = [];
      others = [];
      all = f.all ∙ sym (append-nil f.pia);
      pias = f.pias;
      imds = f.imds;
      lone_pia = f.lone;
      lone_imd = missing;
      behind = (tt, tt);
    }

-- no node has both tags
two_tags : (g : Guide) (n : ℕ) → T (is_pia g n) → T (is_imd g n) → ⊥
unfolding is_tag
two_tags g n a b =
    let c : bytes_of "PIA" ≡ bytes_of "IMD" = sym (same-eq (node g n).tag (bytes_of "PIA") a) ∙ same-eq (node g n).tag (bytes_of "IMD") b in
    let d : ◌≡◌ {A = ℕ} 80 73 = cc in
    omega arith

limits-front
    : (g : Guide) (p : ℕ) (l : Kids Segment) (n : ℕ) (s : Segment) (k : Kids Segment) → Limits g p (then l n s k) → Limits g p l
limits-front g p l n s k m i e = omega (arith, m i e)

module _ (y : Syntax) (g : Guide) (h : Foremost g) where
  abbrev Children : ℕ → Kids Segment → Type 0
  Children p f = Closed g (seen y) p f × Limits g p f

  -- what comes before a PIA or an IMD is the PIA of that IMD
  before_head
      : (p : ℕ) (l : Kids Segment) (m : ℕ) (s : Segment) (k : Kids Segment) (n : ℕ) (t : Segment) (j : Kids Segment)
      → Children p (then (then l m s k) n t j) → T (is_head g n) → T (is_imd g n && is_pia g m)
  unfolding Closed
  before_head p l m s k n t j (c, q) i = go (is_imd g n && is_pia g m) refl
    where
      last : Next g (seen y) p (then l m s k) n t
      last = c.1

      first : Next g (seen y) p l m s
      first = c.0.1

      room : count l n + one (eqb m n) + one (eqb n n) ≤ (node g n).limit
      room = q n last.under

      go : (b : Bool) → (is_imd g n && is_pia g m) ≡ b → T b
      go true e = tt
      go false e = absurd (apart (eqb m n) refl)
        where
          neither : T (is_imd g n) → T (is_pia g m) → ⊥
          neither a b = rw e at (and_both (is_imd g n) (is_pia g m) a b)

          apart : (b : Bool) → eqb m n ≡ b → ⊥
          apart true d = omega (arith, room, ap one d, one_same n n refl, h.once n i)
          apart false d =
              omega (
                arith,
                last.order,
                h.before n m i (first.under ∙ sym last.under) (takes-limit g m (seen y s) first.takes) (eqb-false m n d)
                    neither,
              )

  childless : (n : ℕ) (k : Kids Segment) → T (is_head g n) → Closed g (seen y) n k → k ≡ none
  unfolding Closed
  childless n none i c = refl
  childless n (then l m s k) i c =
      let next = c.1 in
      absurd (h.childless n m i next.under (takes-limit g m (seen y s) next.takes))

  -- a PIA comes first
  pia-first
      : (p : ℕ) (l : Kids Segment) (n : ℕ) (s : Segment) (k : Kids Segment) → Children p (then l n s k) → T (is_pia g n) → l ≡ none
  pia-first p none n s k c i = refl
  pia-first p (then l m t j) n s k c i =
      let b = before_head p l m t j n s k c (or_left (is_pia g n) (is_imd g n) i) in
      absurd (two_tags g n i (and_left (is_imd g n) (is_pia g m) b))

  module _ (p : ℕ) (l : Kids Segment) (n : ℕ) (s : Segment) (k : Kids Segment) (c : Children p (then l n s k)) where
    closed-last : Closed g (seen y) n k
    unfolding Closed
    closed-last = c.0.2

    begins_as : (t : List ℕ) → length t ≡ 3 → begins t s.bytes ≡ is_tag g t n
    unfolding Closed
    begins_as t e =
        let next = c.0.1 in
        taken_begins y g (giving n s) next.takes t e

    with-pia : T (is_pia g n) → Started g (then l n s k)
    unfolding children_with
    with-pia i =
        let front : l ≡ none = pia-first p l n s k c i in
        let below : k ≡ none = childless n k (or_left (is_pia g n) (is_imd g n) i) closed-last in
        let yes = true-T (is_pia g n) i in
        let no = false-T (is_imd g n) (two_tags g n i) in
        record {
          pia = s ∷ [];
          all = rw (front, below);
          pias = rw (front, yes);
          imds = rw (front, no);
          lone = alone (begins_as (bytes_of "PIA") refl ∙ yes);
        }

    with-imd : Started g l → T (is_imd g n) → Fronted g (then l n s k)
    unfolding children_with Without
    with-imd f i =
        let below : k ≡ none = childless n k (or_right (is_pia g n) (is_imd g n) i) closed-last in
        let yes = true-T (is_imd g n) i in
        let no = false-T (is_pia g n) (λ a. two_tags g n a i) in
        record {
          pia = f.pia;
          imd = s ∷ [];
          others = [];
          all = rw (f.all, below);
          pias = rw (f.pias, no) (append-nil f.pia);
          imds = rw (f.imds, yes);
          lone_pia = f.lone;
          lone_imd = alone (begins_as (bytes_of "IMD") refl ∙ yes);
          behind = (tt, tt);
        }

    with-other : Fronted g l → is_pia g n ≡ false → is_imd g n ≡ false → Fronted g (then l n s k)
    unfolding children_with Without
    with-other f a b =
        record {
          pia = f.pia;
          imd = f.imd;
          others = f.others ++ (s ∷ segs k);
          all = rw f.all (simp append_assoc);
          pias = rw (f.pias, a) (append-nil f.pia);
          imds = rw (f.imds, b) (append-nil f.imd);
          lone_pia = f.lone_pia;
          lone_imd = f.lone_imd;
          behind =
              behind-append f.others (s ∷ segs k) f.behind
              (begins_as (bytes_of "PIA") refl ∙ a, begins_as (bytes_of "IMD") refl ∙ b);
        }

  -- what comes before an IMD
  started
      : (p : ℕ) (l : Kids Segment) (n : ℕ) (s : Segment) (k : Kids Segment) → Children p (then l n s k) → T (is_imd g n) → Started g l
  unfolding Closed children_with
  started p none n s k c i = record { pia = []; all = refl; pias = refl; imds = refl; lone = missing }
  started p (then l m t j) n s k c i =
      let b = before_head p l m t j n s k c (or_right (is_pia g n) (is_imd g n) i) in
      with-pia p l m t j (c.0.0, limits-front g p (then l m t j) n s k c.1) (and_right (is_imd g n) (is_pia g m) b)

  -- The children of an instance begin with the PIA and the IMD, in this order, as far as there are such.
  pub head_first : (p : ℕ) (f : Kids Segment) → Closed g (seen y) p f → Limits g p f → Fronted g f
  unfolding Closed children_with Without
  head_first p none c q =
      record { pia = []; imd = []; others = []; all = refl; pias = refl; imds = refl; lone_pia = missing; lone_imd = missing; behind = (tt, tt) }
  head_first p (then l n s k) c q =
      go (is_pia g n) refl (is_imd g n) refl (head_first p l c.0 (limits-front g p l n s k q))
    where
      go : (a : Bool) → is_pia g n ≡ a → (b : Bool) → is_imd g n ≡ b → Fronted g l → Fronted g (then l n s k)
      go true d b e ih = front_started g (then l n s k) (with-pia p l n s k (c, q) (T_true d))
      go false d true e ih = with-imd p l n s k (c, q) (started p l n s k (c, q) (T_true e)) (T_true e)
      go false d false e ih = with-other p l n s k (c, q) ih d e
