-- The segments of a front followed by a tail, without any condition; and where the front ends where a segment ends.
use Prim.Native.Nat.{ℕ, suc, ◌+◌}
use mathlib.Core.Path.{◌≡◌, refl, sym, ◌∙◌, ap, subst}
use mathlib.Core.Bool.{Bool, true, false, cond, not, and-true}
use mathlib.Core.List.{List, [], ◌∷◌, ◌++◌, append-nil}
use native.Mathlib.Nat.{add-zero}
use native.Mathlib.Omega.{arith}
use lib.ListN.{length}
use Rattle.cut.specs.declared.service.Syntax.{Syntax}
use Rattle.cut.specs.Segments.{Segment, end_of, ends, frees, join, segments_from, is_break, trim, trimmed, segments_of}
use Rattle.cut.specs.Fronts.{whole, after, glued, meet}
use Rattle.cut.proofs.First.{ends-frees}
use Rattle.cut.proofs.Appended.{segments-append, meet-whole}
use Rattle.cut.proofs.Skips.{break_ends, break_frees, trim-kept, trim_skips, segments_are}
use Rattle.cut.proofs.Chains.{Chain, chained}
use Rattle.cut.proofs.cutting.Released.{after-append}

-- the segments behind a front: b says that it ends where a segment ends, so that line breaks are skipped there
unfoldable pub behind : Syntax → Bool → List Segment → List Segment
behind y true ts = trimmed y ts
behind y false [] = []
behind y false (t ∷ ts) = t ∷ trimmed y ts

-- a piece from place p on
abbrev piece : ℕ → List ℕ → List Segment
piece p xs = record { start = p; bytes = xs; piece = true } ∷ []

module _ (y : Syntax) where
  pub behind-none : (b : Bool) → behind y b [] ≡ []
  unfolding behind trimmed
  behind-none true = refl
  behind-none false = refl

  trim-meet : (p : ℕ) (bs : List ℕ) (us vs : List Segment) → trim y p bs false (meet us vs) ≡ meet (trim y p bs false us) vs
  unfolding trim meet
  trim-meet p [] us vs = refl
  trim-meet p (x ∷ xs) us vs = go (is_break y x) (trim-meet (suc p) xs us vs)
    where
      go
          : (c : Bool) → trim y (suc p) xs false (meet us vs) ≡ meet (trim y (suc p) xs false us) vs
          → cond c (trim y (suc p) xs false (meet us vs)) (record { start = p; bytes = x ∷ xs; piece = false } ∷ meet us vs)
          ≡ meet (cond c (trim y (suc p) xs false us) (record { start = p; bytes = x ∷ xs; piece = false } ∷ us)) vs
      go true ih = ih
      go false ih = refl

  trim-whole : (p : ℕ) (bs : List ℕ) (us : List Segment) → whole (trim y p bs false us) ≡ whole us
  unfolding trim whole
  trim-whole p [] us = refl
  trim-whole p (x ∷ xs) us = go (is_break y x) (trim-whole (suc p) xs us)
    where
      go
          : (c : Bool) → whole (trim y (suc p) xs false us) ≡ whole us
          → whole (cond c (trim y (suc p) xs false us) (record { start = p; bytes = x ∷ xs; piece = false } ∷ us)) ≡ whole us
      go true ih = ih
      go false ih = refl

  trim-last : (p : ℕ) (bs : List ℕ) → meet (trim y p bs true []) [] ≡ trim y p bs true []
  unfolding trim meet glued
  trim-last p [] = refl
  trim-last p (x ∷ xs) = go (is_break y x) (trim-last (suc p) xs)
    where
      go
          : (c : Bool) → meet (trim y (suc p) xs true []) [] ≡ trim y (suc p) xs true []
          → meet (cond c (trim y (suc p) xs true []) (piece p (x ∷ xs))) [] ≡ cond c (trim y (suc p) xs true []) (piece p (x ∷ xs))
      go true ih = ih
      go false ih = refl

  -- a piece and the first of what follows it
  trim-glued
      : (p : ℕ) (bs : List ℕ) (t : Segment) (ts : List Segment) → p + length bs ≡ t.start
      → trim y p (bs ++ t.bytes) t.piece (trimmed y ts) ≡ meet (trim y p bs true []) (behind y (whole (trim y p bs true [])) (t ∷ ts))
  unfolding trim meet glued whole behind trimmed
  trim-glued p [] t ts o = ap (λ (q : ℕ). trim y q t.bytes t.piece (trimmed y ts)) (sym (add-zero p) ∙ o)
  trim-glued p (x ∷ xs) t ts o =
      let z : suc p + length xs ≡ t.start = omega (arith, o) in
      go (is_break y x) (trim-glued (suc p) xs t ts z)
    where
      go
          : (c : Bool)
          → trim y (suc p) (xs ++ t.bytes) t.piece (trimmed y ts)
          ≡ meet (trim y (suc p) xs true []) (behind y (whole (trim y (suc p) xs true [])) (t ∷ ts))
          → cond c (trim y (suc p) (xs ++ t.bytes) t.piece (trimmed y ts))
          (record { start = p; bytes = x ∷ (xs ++ t.bytes); piece = t.piece } ∷ trimmed y ts)
          ≡ meet (cond c (trim y (suc p) xs true []) (piece p (x ∷ xs))) (behind y (whole (cond c (trim y (suc p) xs true []) (piece p (x ∷ xs)))) (t ∷ ts))
      go true ih = ih
      go false ih = refl

  last_step
      : (n : ℕ) (bs : List ℕ) (ts : List Segment) (q e : ℕ) → n + length bs ≡ q → Chain q ts e
      → trimmed y (glued (record { start = n; bytes = bs; piece = true }) ts)
      ≡ meet (trim y n bs true []) (behind y (whole (trim y n bs true [])) ts)
  unfolding glued trimmed Chain
  last_step n bs [] q e o k = sym (ap (meet (trim y n bs true [])) (behind-none (whole (trim y n bs true []))) ∙ trim-last n bs)
  last_step n bs (t ∷ ts) q e o k = trim-glued n bs t ts (o ∙ sym k.0)

  meet_step
      : (b : Bool) (n : ℕ) (bs : List ℕ) (ss ts : List Segment) (q e : ℕ) → (b ≡ true → ss ≡ []) → Chain (n + length bs) ss q → Chain q ts e
      → trimmed y (meet ss ts) ≡ meet (trimmed y ss) (behind y (whole (trimmed y ss)) ts)
      → trimmed y (meet (record { start = n; bytes = bs; piece = b } ∷ ss) ts)
      ≡ meet (trim y n bs b (trimmed y ss)) (behind y (whole (trim y n bs b (trimmed y ss))) ts)
  unfolding meet trimmed Chain
  meet_step true n bs ss ts q e l c k ih =
      let o : n + length bs ≡ q = subst (λ (us : List Segment). Chain (n + length bs) us q) (l refl) c in
      rw (l refl) (last_step n bs ts q e o k)
  meet_step false n bs ss ts q e l c k ih =
      ap (trim y n bs false) ih ∙ trim-meet n bs (trimmed y ss) (behind y (whole (trimmed y ss)) ts)
      ∙ ap (λ (w : Bool). meet (trim y n bs false (trimmed y ss)) (behind y w ts)) (sym (trim-whole n bs (trimmed y ss)))

  trimmed-meet
      : (p : ℕ) (ss : List Segment) (q : ℕ) (ts : List Segment) (e : ℕ) → Chain p ss q → Chain q ts e
      → trimmed y (meet ss ts) ≡ meet (trimmed y ss) (behind y (whole (trimmed y ss)) ts)
  unfolding Chain trimmed whole behind meet
  trimmed-meet p [] q ts e c k = refl
  trimmed-meet p (s ∷ ss) q ts e c k =
      meet_step s.piece s.start s.bytes ss ts q e c.2 c.3 k (trimmed-meet (end_of s) ss q ts e c.3 k)

  -- what stands in front of a tail changes at most its first segment and the line breaks before it
  pub segments-meet
      : (p : ℕ) (front tail : List ℕ)
      → segments_of y p (front ++ tail)
      ≡ meet (segments_of y p front) (behind y (whole (segments_of y p front)) (segments_from y (p + length front) (after y false front) tail))
  unfolding segments_of
  segments-meet p front tail =
      ap (trimmed y) (segments-append y p false front tail)
      ∙ trimmed-meet p _ (p + length front) _ (p + length front + length tail) (chained y p false front)
      (chained y (p + length front) (after y false front) tail)

  whole-one : (b : Bool) (n : ℕ) (bs : List ℕ) (ss : List Segment) (t : Segment) → whole (meet ss (t ∷ [])) ≡ not t.piece
      → whole (cond b (glued (record { start = n; bytes = bs; piece = b }) (t ∷ [])) (record { start = n; bytes = bs; piece = b } ∷ meet ss (t ∷ [])))
      ≡ not t.piece
  unfolding whole glued
  whole-one true n bs ss t ih = and-true (not t.piece)
  whole-one false n bs ss t ih = ih

  -- a segment behind any others
  whole-meet : (ss : List Segment) (t : Segment) → whole (meet ss (t ∷ [])) ≡ not t.piece
  unfolding whole meet
  whole-meet [] t = and-true (not t.piece)
  whole-meet (s ∷ ss) t = whole-one s.piece s.start s.bytes ss t (whole-meet ss t)

  one-join : (e : Bool) (q x : ℕ) → join e q x [] ≡ record { start = q; bytes = x ∷ []; piece = not e } ∷ []
  unfolding join
  one-join true q x = refl
  one-join false q x = refl

  one_cut : (q : ℕ) (r : Bool) (x : ℕ) → segments_from y q r (x ∷ []) ≡ record { start = q; bytes = x ∷ []; piece = not (ends y r x) } ∷ []
  unfolding segments_from
  one_cut q r x = one-join (ends y r x) q x

  not-not : (e : Bool) → not (not e) ≡ e
  not-not true = refl
  not-not false = refl

  no_bytes : (q : ℕ) (b : Bool) → trim y q [] b [] ≡ []
  unfolding trim
  no_bytes q b = refl

  Whole-by
      : (ss : List Segment) (q x : ℕ) (e c w : Bool) → is_break y x ≡ c → whole ss ≡ w → (c ≡ true → e ≡ false)
      → whole (meet ss (behind y w (record { start = q; bytes = x ∷ []; piece = not e } ∷ []))) ≡ cond c w e
  unfolding behind trimmed
  Whole-by ss q x e true true i h n =
      ap (λ (us : List Segment). whole (meet ss us)) (trim_skips y q x [] (not e) [] i ∙ no_bytes (suc q) (not e))
      ∙ ap whole (meet-whole ss [] h ∙ append-nil ss) ∙ h
  Whole-by ss q x e true false i h n = whole-meet ss _ ∙ not-not e ∙ n refl
  Whole-by ss q x e false true i h n =
      ap (λ (us : List Segment). whole (meet ss us)) (trim-kept y q x [] (not e) [] i) ∙ whole-meet ss _ ∙ not-not e
  Whole-by ss q x e false false i h n = whole-meet ss _ ∙ not-not e

  module _ (p : ℕ) (xs : List ℕ) (x : ℕ) where
    abbrev front : List Segment
    front = segments_of y p xs

    abbrev freed : Bool
    freed = after y false xs

    -- one byte more
    pub segments-last
        : segments_of y p (xs ++ (x ∷ []))
        ≡ meet front (behind y (whole front) (record { start = p + length xs; bytes = x ∷ []; piece = not (ends y freed x) } ∷ []))
    segments-last =
        segments-meet p xs (x ∷ []) ∙ ap (λ (us : List Segment). meet front (behind y (whole front) us)) (one_cut (p + length xs) freed x)

    -- the last byte tells whether the bytes end where a segment ends; a line break changes nothing
    pub whole-last : whole (segments_of y p (xs ++ (x ∷ []))) ≡ cond (is_break y x) (whole front) (ends y freed x)
    whole-last =
        ap whole segments-last
        ∙ Whole-by front (p + length xs) x (ends y freed x) (is_break y x) (whole front) refl refl (λ i. break_ends y x i freed)

-- the last of some bytes
record Last (xs : List ℕ) : Type 0 where
  front : List ℕ
  last : ℕ
  same : xs ≡ front ++ (last ∷ [])

lasts : (x : ℕ) (xs : List ℕ) → Last (x ∷ xs)
lasts x [] = record { front = []; last = x; same = refl }
lasts x (z ∷ zs) =
    let l = lasts z zs in
    record { front = x ∷ l.front; last = l.last; same = ap (λ (us : List ℕ). x ∷ us) l.same }

module _ (y : Syntax) where
  after-by
      : (c w r : Bool) (x : ℕ) → is_break y x ≡ c → cond c w (ends y r x) ≡ true → frees y r x ≡ false
  after-by true w r x i h = break_frees y x i r
  after-by false w r x i h = ends-frees y r x h

  -- where a segment ends, or line breaks behind it, nothing is released
  pub after-whole : (p : ℕ) (xs : List ℕ) → whole (segments_of y p xs) ≡ true → after y false xs ≡ false
  unfolding after
  after-whole p [] h = refl
  after-whole p (x ∷ xs) h =
      let l = lasts x xs in
      let k = sym (whole-last y p l.front l.last) ∙ ap (λ (us : List ℕ). whole (segments_of y p us)) (sym l.same) ∙ h in
      ap (after y false) l.same ∙ after-append y false l.front (l.last ∷ [])
      ∙ after-by (is_break y l.last) _ (after y false l.front) l.last refl k

  -- a front that ends where a segment ends: its segments, and then the tail's, wherever the line breaks between them are parted
  pub segments-whole
      : (p : ℕ) (front tail : List ℕ) → whole (segments_of y p front) ≡ true
      → segments_of y p (front ++ tail) ≡ segments_of y p front ++ segments_of y (p + length front) tail
  unfolding behind
  segments-whole p front tail w =
      segments-meet y p front tail ∙ meet-whole (segments_of y p front) _ w
      ∙ ap (λ (us : List Segment). segments_of y p front ++ us)
      (ap (λ (b : Bool). behind y b (segments_from y (p + length front) (after y false front) tail)) w
      ∙ ap (λ (r : Bool). trimmed y (segments_from y (p + length front) r tail)) (after-whole p front w)
      ∙ sym (segments_are y (p + length front) tail))
