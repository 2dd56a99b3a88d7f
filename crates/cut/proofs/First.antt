-- From the answer for a place back to the list: what is cut there, line breaks too, and what follows it.
use Prim.Native.Nat.{ℕ, suc, ◌+◌, ◌-◌, ◌≤◌, ◌<◌}
use mathlib.Core.Path.{◌≡◌, refl, sym, ◌∙◌, ap, ap₂, subst₂}
use mathlib.Core.Bool.{Bool, true, false, false≢true}
use mathlib.Core.List.{List, [], ◌∷◌, head-eq_of_cons-eq, tail-eq_of_cons-eq, nil≢cons}
use native.Mathlib.Nat.{add-suc, suc-add}
use native.Mathlib.Numerals.{add-one}
use native.Mathlib.Omega.{arith}
use lib.ListN.{length, take, drop, length-drop}
use lib.Seq.{drop-drop}
use Rattle.cut.specs.declared.service.Syntax.{Syntax}
use Rattle.std.specs.Prelude.{None}
use Rattle.bytewise.specs.Bytes.{part}
use Rattle.cut.specs.Segments.{Segment, end_of, ends, frees, join, segments_from}
use Rattle.cut.proofs.Cuts.{start-same, end-same, piece-same}
use Rattle.cut.specs.Calls.{some_cut, head_cut, cut_from}

-- a byte that ends a segment releases nothing
pub ends-frees : (y : Syntax) (r : Bool) (x : ℕ) → ends y r x ≡ true → frees y r x ≡ false
unfolding ends frees
ends-frees y true x h = refl
ends-frees y false x h = rw h

-- some bytes hold some segment
pub some-segment : (y : Syntax) (p : ℕ) (r : Bool) (x : ℕ) (xs : List ℕ) → segments_from y p r (x ∷ xs) ≡ [] → ⊥
unfolding segments_from join
some-segment y p r x xs h = go (ends y r x) (segments_from y (suc p) (frees y r x) xs) h
  where
    go : (e : Bool) (ss : List Segment) → join e p x ss ≡ [] → ⊥
    go true ss h = nil≢cons (sym h)
    go false [] h = nil≢cons (sym h)
    go false (s ∷ ss) h = nil≢cons (sym h)

-- s is the first segment of the bytes xs from place p on, and ss are those after it; r: the first byte is released
pub record First (y : Syntax) (p : ℕ) (r : Bool) (xs : List ℕ) (s : Segment) (ss : List Segment) : Type 0 where
  pub starts : s.start ≡ p
  pub some : 0 < length s.bytes
  pub fits : length s.bytes ≤ length xs
  pub bytes : s.bytes ≡ take (length s.bytes) xs
  pub rest : ss ≡ segments_from y (p + length s.bytes) false (drop (length s.bytes) xs)
  pub alone : segments_from y p r s.bytes ≡ s ∷ []
  pub last : s.piece ≡ true → ss ≡ []

module _ (y : Syntax) (p : ℕ) (r : Bool) (x : ℕ) where
  first_end
      : (xs : List ℕ) → ends y r x ≡ true
      → First y p r (x ∷ xs) (record { start = p; bytes = x ∷ []; piece = false }) (segments_from y (suc p) (frees y r x) xs)
  unfolding segments_from join
  first_end xs h =
      record {
        starts = refl;
        some = omega arith;
        fits = omega arith;
        bytes = refl;
        rest = rw (ends-frees y r x h, add-one);
        alone = rw h;
        last = λ e. absurd (false≢true e);
      }

  first_piece
      : (xs : List ℕ) → ends y r x ≡ false → segments_from y (suc p) (frees y r x) xs ≡ []
      → First y p r (x ∷ xs) (record { start = p; bytes = x ∷ []; piece = true }) []
  unfolding segments_from join
  first_piece [] e h =
      record
      { starts = refl; some = omega arith; fits = omega arith; bytes = refl; rest = refl; alone = rw e; last = λ i. refl }
  first_piece (z ∷ zs) e h = absurd (some-segment y (suc p) (frees y r x) z zs h)

  first_more
      : (xs : List ℕ) (t : Segment) (us : List Segment) → ends y r x ≡ false → First y (suc p) (frees y r x) xs t us
      → First y p r (x ∷ xs) (record { start = p; bytes = x ∷ t.bytes; piece = t.piece }) us
  unfolding segments_from join
  first_more xs t us e f =
      record {
        starts = refl;
        some = omega arith;
        fits = omega (arith, f.fits);
        bytes = ap (λ (bs : List ℕ). x ∷ bs) f.bytes;
        rest = f.rest ∙ rw (suc-add, add-suc);
        alone = rw (e, f.alone);
        last = f.last;
      }

pub first : (y : Syntax) (p : ℕ) (r : Bool) (xs : List ℕ) (s : Segment) (ss : List Segment) → segments_from y p r xs ≡ s ∷ ss → First y p r xs s ss
unfolding segments_from join
first y p r [] s ss h = absurd (nil≢cons h)
first y p r (x ∷ xs) s ss h = go (ends y r x) refl (segments_from y (suc p) (frees y r x) xs) refl h (first y (suc p) (frees y r x) xs)
  where
    go
        : (e : Bool) → ends y r x ≡ e → (ts : List Segment) → segments_from y (suc p) (frees y r x) xs ≡ ts → join e p x ts ≡ s ∷ ss
        → ((t : Segment) (us : List Segment) → segments_from y (suc p) (frees y r x) xs ≡ t ∷ us → First y (suc p) (frees y r x) xs t us)
        → First y p r (x ∷ xs) s ss
    go true e ts l k ih =
        subst₂ (First y p r (x ∷ xs)) (head-eq_of_cons-eq k) (l ∙ tail-eq_of_cons-eq k) (first_end y p r x xs e)
    go false e [] l k ih = subst₂ (First y p r (x ∷ xs)) (head-eq_of_cons-eq k) (tail-eq_of_cons-eq k) (first_piece y p r x xs e l)
    go false e (t ∷ us) l k ih =
        subst₂ (First y p r (x ∷ xs)) (head-eq_of_cons-eq k) (tail-eq_of_cons-eq k) (first_more y p r x xs t us e (ih t us l))

-- the answer for a place is s, e and p: what the list from that place on is
pub record Cutting (y : Syntax) (d : List ℕ) (at : ℕ) (r : Bool) (s e : ℕ) (p : Bool) : Type 0 where
  pub starts : s ≡ at
  pub some : at < e
  pub fits : e ≤ length d
  pub list : segments_from y at r (drop at d) ≡ record { start = at; bytes = part at e d; piece = p } ∷ segments_from y e false (drop e d)

pub cutting_first
    : (y : Syntax) (d : List ℕ) (at : ℕ) (r : Bool) (t : Segment) (ts : List Segment) (s e : ℕ) (p : Bool)
    → segments_from y at r (drop at d) ≡ t ∷ ts → First y at r (drop at d) t ts → t.start ≡ s → end_of t ≡ e → t.piece ≡ p
    → Cutting y d at r s e p
unfolding part
cutting_first y d at r t ts s e p l f a b q =
    let n = rw (length-drop at d) at f.fits in
    let m : length t.bytes ≡ e - at = omega (arith, f.starts) in
    let k : at + length t.bytes ≡ e = omega (arith, f.starts) in
    let bs : t.bytes ≡ take (e - at) (drop at d) = f.bytes ∙ ap (λ (j : ℕ). take j (drop at d)) m in
    let us : ts ≡ segments_from y e false (drop e d) = rw (drop-drop (length t.bytes) at d, k) at f.rest in
    record {
      starts = sym a ∙ f.starts;
      some = omega (arith, f.starts, f.some);
      fits = omega (arith, f.some);
      list = l ∙ ap₂ ◌∷◌ (λ i. record { start = f.starts i; bytes = bs i; piece = q i }) us;
    }

pub cutting
    : (y : Syntax) (d : List ℕ) (at : ℕ) (r : Bool) (s e : ℕ) (p : Bool) → cut_from y d at r ≡ some_cut s e p → Cutting y d at r s e p
unfolding cut_from head_cut
cutting y d at r s e p h = go (segments_from y at r (drop at d)) refl h
  where
    go : (ss : List Segment) → segments_from y at r (drop at d) ≡ ss → head_cut ss ≡ some_cut s e p → Cutting y d at r s e p
    go [] l k = absurd (let z : ◌≡◌ {A = ℕ} 0 1 = cc in omega arith)
    go (t ∷ ts) l k = cutting_first y d at r t ts s e p l (first y at r (drop at d) t ts l)
        (start-same _ _ _ _ _ _ k) (end-same _ _ _ _ _ _ k) (piece-same _ _ _ _ _ _ k)

pub nothing : (y : Syntax) (d : List ℕ) (at : ℕ) (r : Bool) → cut_from y d at r ≡ None → segments_from y at r (drop at d) ≡ []
unfolding cut_from head_cut
nothing y d at r h = go (segments_from y at r (drop at d)) refl h
  where
    go : (ss : List Segment) → segments_from y at r (drop at d) ≡ ss → head_cut ss ≡ None → segments_from y at r (drop at d) ≡ []
    go [] l k = l
    go (t ∷ ts) l k = absurd (let z : ◌≡◌ {A = ℕ} 0 1 = cc in omega arith)
