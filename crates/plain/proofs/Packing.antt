-- Laws of rows of bytes as numbers: equal numbers are equal rows, and a word has a code's number exactly if it is the code.
use Rattle.std.proofs.Common.{
  ◌≡◌,
  ℕ,
  zero,
  suc,
  ◌+◌,
  ◌-◌,
  ◌*◌,
  ◌<◌,
  ◌≤◌,
  Bool,
  true,
  false,
  cond,
  ◌&&◌,
  T,
  eqb,
  ltb,
  leb,
  List,
  [],
  ◌∷◌,
  length,
  get_or,
  take,
  drop,
  sym,
  refl,
  ◌∙◌,
  arith,
  ltb→lt,
  leb→le,
  length-take,
  get_or-drop,
  get_or-take,
  eq-eqb,
  ne_eqb,
  eqb-true,
  leb-false,
  leb-true,
}
use mathlib.Core.Bool.{and-false}
use lib.ListN.{get_or-eq_default}
use mir.Facts.{and_yes}
use borrow.Author.Tests.{eqb-false}
use Rattle.bytewise.specs.Bytes.{part}
use Rattle.cut.specs.Segments.{frees}
use Rattle.cut.specs.declared.service.Syntax.{Syntax}
use Rattle.plain.specs.Plain.{plain, unless_mark, decoded, same}
use Rattle.plain.specs.Words.{Bytes, packed, word_of}

-- the bytes of a part are bytes of the delivery
pub part_bytes : (d : List ℕ) (a e : ℕ) → Bytes d → Bytes (part a e d)
unfolding part
part_bytes d a e h i = go (leb (e - a) i) refl
  where
    go : (b : Bool) → leb (e - a) i ≡ b → get_or (take (e - a) (drop a d)) i 0 < 256
    go true q =
        let l : length (take (e - a) (drop a d)) ≤ i = simp length-take (omega (arith, leb-true (e - a) i q)) in
        rw (get_or-eq_default (take (e - a) (drop a d)) 0 l) (omega arith)
    go false q = rw (get_or-take (e - a) (drop a d) i 0 (leb-false (e - a) i q), get_or-drop a d i 0) (h (a + i))

plain-bytes : (y : Syntax) (r : Bool) (s : List ℕ) → Bytes s → Bytes (plain y r s)
unfolding plain unless_mark
plain-bytes y r [] h = h
plain-bytes y r (x ∷ xs) h = go (frees y r x) (h 0) (plain-bytes y (frees y r x) xs (λ i. h (suc i)))
  where
    go : (b : Bool) → x < 256 → Bytes (plain y (frees y r x) xs) → Bytes (unless_mark b x (plain y (frees y r x) xs))
    go true l k i = k i
    go false l k zero = l
    go false l k (suc i) = k i

pub decoded-bytes : (y : Syntax) (d : List ℕ) (a e : ℕ) → Bytes d → Bytes (decoded y a e d)
unfolding decoded
decoded-bytes y d a e h = plain-bytes y false (part a e d) (part_bytes d a e h)

-- equal numbers are equal rows
packed-some : (s : List ℕ) → 1 ≤ packed s
unfolding packed
packed-some [] = omega arith
packed-some (x ∷ xs) = omega (arith, packed-some xs)

rest-bytes : (x : ℕ) (xs : List ℕ) → Bytes (x ∷ xs) → Bytes xs
rest-bytes x xs h i = h (suc i)

pub packed-same : (s t : List ℕ) → Bytes s → Bytes t → eqb (packed s) (packed t) ≡ same s t
unfolding packed same
packed-same [] [] h k = refl
packed-same [] (y ∷ ys) h k = ne_eqb 1 (y + 256 * packed ys) (λ e. omega (arith, packed-some ys))
packed-same (x ∷ xs) [] h k = ne_eqb (x + 256 * packed xs) 1 (λ e. omega (arith, packed-some xs))
packed-same (x ∷ xs) (y ∷ ys) h k =
    go (h 0) (k 0) (packed-same xs ys (rest-bytes x xs h) (rest-bytes y ys k)) (eqb x y) refl (eqb (packed xs) (packed ys)) refl
  where
    go
        : x < 256 → y < 256 → eqb (packed xs) (packed ys) ≡ same xs ys → (p : Bool) → eqb x y ≡ p → (q : Bool) → eqb (packed xs) (packed ys) ≡ q
        → eqb (x + 256 * packed xs) (y + 256 * packed ys) ≡ p && same xs ys
    go a b ih true e true f =
        let z : x + 256 * packed xs ≡ y + 256 * packed ys = omega (arith, eqb-true x y e, eqb-true (packed xs) (packed ys) f) in
        eq-eqb _ _ z ∙ sym f ∙ ih
    go a b ih true e false f = ne_eqb _ _ (λ (z : x + 256 * packed xs ≡ y + 256 * packed ys). eqb-false (packed xs) (packed ys) f (omega arith)) ∙ sym f ∙ ih
    go a b ih false e q f = ne_eqb _ _ (λ (z : x + 256 * packed xs ≡ y + 256 * packed ys). eqb-false x y e (omega arith))

-- a longer row is another one
same_longer : (s t : List ℕ) → length t < length s → same s t ≡ false
unfolding same
same_longer [] t h = absurd (omega arith)
same_longer (x ∷ xs) [] h = refl
same_longer (x ∷ xs) (y ∷ ys) h = rw (same_longer xs ys (omega arith), and-false)

-- a code: bytes alone, six at most
abbrev pub bytes_only : List ℕ → Bool
bytes_only [] = true
bytes_only (x ∷ xs) = ltb x 256 && bytes_only xs

abbrev pub is_short : List ℕ → Bool
is_short c = leb (length c) 6 && bytes_only c

abbrev pub all_short : List (List ℕ) → Bool
all_short [] = true
all_short (c ∷ cs) = is_short c && all_short cs

pub bytes-only : (s : List ℕ) → T (bytes_only s) → Bytes s
bytes-only [] h i = omega arith
bytes-only (x ∷ xs) h zero = ltb→lt x 256 (and_yes (ltb x 256) (bytes_only xs) h).0
bytes-only (x ∷ xs) h (suc i) = bytes-only xs (and_yes (ltb x 256) (bytes_only xs) h).1 i

-- a word has the number of a code exactly if it is that code
pub word_same : (s c : List ℕ) → Bytes s → T (is_short c) → eqb (word_of s) (packed c) ≡ same s c
unfolding word_of
word_same s c h t = go (leb (length s) 6) refl
  where
    go : (b : Bool) → leb (length s) 6 ≡ b → eqb (cond b (packed s) 0) (packed c) ≡ same s c
    go true e = packed-same s c h (bytes-only c (and_yes (leb (length c) 6) (bytes_only c) t).1)
    go false e =
        let l : length c ≤ 6 = leb→le (length c) 6 (and_yes (leb (length c) 6) (bytes_only c) t).0 in
        let z : length c < length s = omega (arith, leb-false (length s) 6 e) in
        let n : 1 ≤ packed c = packed-some c in
        ne_eqb 0 (packed c) (λ (q : 0 ≡ packed c). omega arith) ∙ sym (same_longer s c z)

word-packed : (s : List ℕ) → (word_of s ≡ 0 → ⊥) → word_of s ≡ packed s
unfolding word_of
word-packed s h = go (leb (length s) 6) refl
  where
    go : (b : Bool) → leb (length s) 6 ≡ b → word_of s ≡ packed s
    go true e = rw e
    go false e = absurd (h (rw e))

-- two rows that are not too long are the same exactly if their numbers are
pub words_same
    : (s t : List ℕ) → Bytes s → Bytes t → (v w : ℕ) → v ≡ word_of s → (v ≡ 0 → ⊥) → w ≡ word_of t → (w ≡ 0 → ⊥) → eqb v w ≡ same s t
words_same s t h k v w e n f m =
    let a = word-packed s (λ z. n (e ∙ z)) in
    let b = word-packed t (λ z. m (f ∙ z)) in
    rw (e, f, a, b) (packed-same s t h k)
