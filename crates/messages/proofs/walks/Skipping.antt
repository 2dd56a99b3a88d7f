-- A message's end, seen past segments that begin with no U: none of them ends it.
use Prim.Native.Nat.{ℕ, zero, suc, ◌+◌, ◌-◌, ◌≤◌, ◌<◌, min}
use mathlib.Core.Path.{◌≡◌, refl, sym, ◌∙◌, ap, subst}
use mathlib.Core.Bool.{Bool, true, false, cond, not, ◌&&◌, true≢false}
use mathlib.Core.List.{List, [], ◌∷◌, ◌++◌, append-nil}
use native.Mathlib.Nat.{add-zero, le_refl}
use native.Mathlib.Omega.{arith}
use lib.ListN.{length, get_or}
use lib.Dec.{eqb}
use borrow.Author.Tests.{eq-eqb}
use Rattle.cut.specs.declared.service.Syntax.{Syntax}
use Rattle.messages.specs.declared.tags.Tag.TheVariants.{Other}
use Rattle.bytewise.specs.Bytes.{part}
use Rattle.bytewise.specs.Search.{FirstThat}
use Rattle.cut.specs.Segments.{Segment, end_of, is_break, trim, trimmed, segments_of, segments_at, last_end}
use Rattle.cut.specs.Fronts.{whole, glued, meet}
use Rattle.cut.specs.Calls.{back_at}
use Rattle.cut.proofs.Backing.{Back, backs}
use Rattle.messages.specs.Messages.{tag_of, body}
use Rattle.messages.specs.workers.Walks.{Skipped}
use Rattle.bytewise.proofs.Parts.{part_none, part-last, part-parts}
use Rattle.bytewise.proofs.Limits.{part_out}
use Rattle.cut.proofs.Appended.{meet-whole}
use Rattle.cut.proofs.Skips.{segments_of_none}
use Rattle.cut.proofs.Meeting.{behind, segments-last, segments-whole}
use Rattle.cut.proofs.Ahead.{none-past}
use Rattle.cut.proofs.Closing.{last_open, last-closed}
use Rattle.cut.proofs.cutting.Boundaries.{parted_closed}
use Rattle.messages.proofs.walks.Tagging.{tag-not_U}

-- some bytes, of which the first is not U (85)
unfoldable pub Begun : List ℕ → Type 0
Begun [] = ⊥
Begun (x ∷ xs) = x ≡ 85 → ⊥

-- none of them begins with U
unfoldable pub Plain : List Segment → Type 0
Plain [] = Unit {0}
Plain (s ∷ ss) = Begun s.bytes × Plain ss

begun-tag : (bs : List ℕ) → Begun bs → tag_of bs ≡ Other
unfolding Begun
begun-tag [] h = absurd h
begun-tag (x ∷ xs) h = tag-not_U x xs h

begun_more : (bs cs : List ℕ) → Begun bs → Begun (bs ++ cs)
unfolding Begun
begun_more [] cs h = absurd h
begun_more (x ∷ xs) cs h = h

-- a message goes on over them
plain_body : (ss ts : List Segment) → Plain ss → body (ss ++ ts) ≡ ss ++ body ts
unfolding Plain body
plain_body [] ts p = refl
plain_body (s ∷ ss) ts p = rw (begun-tag s.bytes p.0) (ap (λ (us : List Segment). s ∷ us) (plain_body ss ts p.1))

plain-append : (ss ts : List Segment) → Plain ss → Plain ts → Plain (ss ++ ts)
unfolding Plain
plain-append [] ts p q = q
plain-append (s ∷ ss) ts p q = (p.0, plain-append ss ts p.1 q)

plain-front : (ss ts : List Segment) → Plain (ss ++ ts) → Plain ss
unfolding Plain
plain-front [] ts p = tt
plain-front (s ∷ ss) ts p = (p.0, plain-front ss ts p.1)

-- a piece takes the next byte, and still begins as it did
plain_open : (ss : List Segment) (t : Segment) → whole ss ≡ false → Plain ss → Plain (meet ss (t ∷ []))
unfolding Plain whole meet glued
plain_open [] t w p = absurd (true≢false w)
plain_open (s ∷ ss) t w p = go s.piece w (λ v. plain_open ss t v p.1)
  where
    go : (b : Bool) → (not b && whole ss) ≡ false → (whole ss ≡ false → Plain (meet ss (t ∷ []))) → Plain (cond b (glued s (t ∷ [])) (s ∷ meet ss (t ∷ [])))
    go true v ih = (begun_more s.bytes t.bytes p.0, tt)
    go false v ih = (p.0, ih v)

last-append : (e : ℕ) (ss ts : List Segment) → last_end e (ss ++ ts) ≡ last_end (last_end e ss) ts
unfolding last_end
last-append e [] ts = refl
last-append e (s ∷ ss) ts = last-append (end_of s) ss ts

module _ (y : Syntax) (d : List ℕ) where
  pub skipped-none : (i : ℕ) → Skipped y d i i
  skipped-none i = record { onward = le_refl i; same = refl }

  plain-one : (q x : ℕ) (b : Bool) → (x ≡ 85 → ⊥) → Plain (trimmed y (record { start = q; bytes = x ∷ []; piece = b } ∷ []))
  unfolding Plain Begun trimmed trim
  plain-one q x b n = go (is_break y x)
    where
      go : (c : Bool) → Plain (cond c [] (record { start = q; bytes = x ∷ []; piece = b } ∷ []))
      go true = tt
      go false = (n, tt)

  plain-behind
      : (ss : List Segment) (w : Bool) (q x : ℕ) (b : Bool) → whole ss ≡ w → Plain ss → (x ≡ 85 → w ≡ true → ⊥)
      → Plain (meet ss (behind y w (record { start = q; bytes = x ∷ []; piece = b } ∷ [])))
  unfolding behind trimmed
  plain-behind ss true q x b e p n =
      subst Plain (sym (meet-whole ss (trimmed y (record { start = q; bytes = x ∷ []; piece = b } ∷ [])) e))
      (plain-append ss _ p (plain-one q x b (λ u. n u refl)))
  plain-behind ss false q x b e p n = plain_open ss (record { start = q; bytes = x ∷ []; piece = b }) e p

  module _ (from : ℕ) where
    -- the segments of the bytes up to a place
    abbrev pub upto : ℕ → List Segment
    upto i = segments_of y from (part from i d)

    pub plain-first : Plain (upto from)
    unfolding Plain
    plain-first = rw (part_none d from from (le_refl from), segments_of_none y from) tt

    -- a byte, unless it is U where a segment begins
    plain_step : (i : ℕ) → from ≤ i → i < length d → Plain (upto i) → (get_or d i 0 ≡ 85 → whole (upto i) ≡ true → ⊥) → Plain (upto (i + 1))
    plain_step i h k p n =
        let z : i + 1 - 1 ≡ i = omega arith in
        let l : part from (i + 1) d ≡ part from i d ++ (get_or d i 0 ∷ []) = rw z at (part-last d from (i + 1) (omega arith) (omega arith)) in
        subst Plain (sym (ap (segments_of y from) l ∙ segments-last y from (part from i d) (get_or d i 0)))
        (plain-behind (upto i) (whole (upto i)) _ (get_or d i 0) _ refl p n)

    -- a byte where no segment begins
    pub plain-inside : (i : ℕ) (b : Bool) → from ≤ i → i < length d → Plain (upto i) → b ≡ whole (upto i) → b ≡ false → Plain (upto (i + 1))
    plain-inside i b h k p e f = plain_step i h k p (λ u w. true≢false (sym w ∙ sym e ∙ f))

    -- n bytes, none of them U
    plain_more
        : (n i : ℕ) → from ≤ i → i + n ≤ length d → Plain (upto i) → ((k : ℕ) → i ≤ k → k < i + n → get_or d k 0 ≡ 85 → ⊥) → Plain (upto (i + n))
    plain_more zero i h l p t = rw (add-zero i) p
    plain_more (suc n) i h l p t =
        let z : i + suc n ≡ i + n + 1 = omega arith in
        rw z
        (plain_step (i + n) (omega arith) (omega arith) (plain_more n i h (omega arith) p (λ k a b. t k a (omega arith)))
        (λ u w. t (i + n) (omega arith) (omega arith) u))

    -- up to the first U from i on
    pub plain_on : (i k : ℕ) → from ≤ i → i ≤ length d → Plain (upto i) → FirstThat (λ x. eqb x 85) d i (min (length d) (length d)) k → Plain (upto k)
    plain_on i k h l p f =
        let z : i + (k - i) ≡ k = omega (arith, f.onward) in
        subst (λ (n : ℕ). Plain (upto n)) z
        (plain_more (k - i) i h (omega (arith, f.onward, f.within)) p
        (λ n a b u. true≢false (sym (eq-eqb (get_or d n 0) 85 u) ∙ f.before n a (omega (arith, f.onward)))))

    -- where the bytes up to a place end where a segment ends, the last segment ends before the line breaks there
    pub ends-back
        : (k r : ℕ) → from ≤ k → k ≤ length d → whole (upto k) ≡ true → Back y d from k r → (from ≤ r) × (whole (upto r) ≡ true) × (last_end from (upto r) ≡ r)
    ends-back k r h l w b =
        let o = b.inside h (omega arith) in
        (o, sym b.same ∙ w, last-closed y d from r o b.fits b.stops)

    skipped_at : (r : ℕ) → from ≤ r → r ≤ length d → whole (upto r) ≡ true → last_end from (upto r) ≡ r → Plain (upto r) → Skipped y d from r
    skipped_at r h l w e p =
        record {
          onward = h;
          same =
              ap (λ (ss : List Segment). last_end from (body ss)) (parted_closed y d from r h l w)
              ∙ ap (last_end from) (plain_body (upto r) (segments_at y d r) p)
              ∙ last-append from (upto r) (body (segments_at y d r)) ∙ ap (λ (q : ℕ). last_end q (body (segments_at y d r))) e;
        }

    plain_back : (k r : ℕ) → from ≤ r → r ≤ k → k ≤ length d → whole (upto r) ≡ true → Plain (upto k) → Plain (upto r)
    plain_back k r h l m w p =
        plain-front (upto r) _ (subst Plain (ap (segments_of y from) (sym (part-parts d from r k h l))
        ∙ segments-whole y from (part from r d) (part r k d) w) p)

    -- a segment ends at k, or line breaks behind it
    pub skipped-closed
        : (k r : ℕ) (b : Bool) → from ≤ k → k ≤ length d → Plain (upto k) → b ≡ whole (upto k) → b ≡ true → r ≡ back_at y d from k → Skipped y d from r
    skipped-closed k r b h l p e f z =
        let c = backs y d from k r z in
        let q = ends-back k r h l (sym e ∙ f) c in
        skipped_at r q.0 c.fits q.1 q.2 (plain_back k r q.0 c.before l q.1 p)

    -- a piece ends with the delivery
    pub skipped_open : (k : ℕ) (b : Bool) → from ≤ k → k ≤ length d → length d ≤ k → Plain (upto k) → b ≡ whole (upto k) → b ≡ false → Skipped y d from k
    unfolding body last_end
    skipped_open k b h l m p e f =
        let all : upto k ≡ segments_at y d from = ap (segments_of y from) (part_out d from k m) in
        let plain : body (segments_at y d from) ≡ segments_at y d from =
        ap body (sym (append-nil (segments_at y d from))) ∙ plain_body (segments_at y d from) [] (subst Plain all p) ∙ append-nil (segments_at y d from) in
        let ends : last_end from (segments_at y d from) ≡ length d = last_open y d from (segments_at y d from) refl (ap whole (sym all) ∙ sym e ∙ f) in
        let z : length d ≡ k = omega arith in
        record { onward = h; same = ap (last_end from) plain ∙ ends ∙ z ∙ sym (ap (λ (ss : List Segment). last_end k (body ss)) (none-past y d k m)) }
