-- Bytes into a lent row, one text behind the other.
use Prim.Native.Nat.{ℕ, suc, ◌+◌, ◌-◌, ◌*◌, ◌≤◌, ◌<◌}
use mathlib.Core.Path.{◌≡◌, refl, sym, ap, ◌∙◌}
use mathlib.Core.Bool.{cond}
use mathlib.Core.List.{List, [], ◌∷◌, ◌++◌, append-nil, append_assoc}
use native.Mathlib.Nat.{add-zero, zero-add}
use native.Mathlib.Numerals.{add-one}
use native.Mathlib.Omega.{arith}
use lib.ListN.{length, get_or, take, drop, set, length-set, length-append, length-drop, take-append-drop, drop_of_length-le}
use lib.Seq.{drop-cons, drop-drop, append_snoc, length-take-le, take_all, take-length, take-append_seam, drop-append_seam, set-append_seam, paste}
use borrow.Rule.Slice.PartMut.{put_mid}
use Rattle.std.proofs.lemmas.Slice.{put_mid-paste}
use lib.Dec.{ltb}
use lib.IntN.{ℤ, pos}
use borrow.Author.Tests.{lt-ltb, le-ltb}
use Rattle.value.specs.Text.{digits_in, text_of}
use Rattle.print.specs.Report.{word, words, line_of, before, behind}
use Rattle.print.specs.workers.Rows.{put_at, line_with, opened}

pub put-length : (at : ℕ) (s row : List ℕ) → length (put_at at s row) ≡ length row
unfolding put_at
put-length at [] row = refl
put-length at (x ∷ xs) row = put-length (at + 1) xs (set row at x) ∙ length-set row at x

pub put-append : (at : ℕ) (s t row : List ℕ) → put_at at (s ++ t) row ≡ put_at (at + length s) t (put_at at s row)
unfolding put_at
put-append at [] t row = rw (add-zero at)
put-append at (x ∷ xs) t row =
    let e : at + 1 + length xs ≡ at + suc (length xs) = omega arith in
    put-append (at + 1) xs t (set row at x) ∙ ap (λ (n : ℕ). put_at n t (put_at (at + 1) xs (set row at x))) e

-- bytes that stand between two others are replaced by as many
put-over : (a s m c : List ℕ) → length m ≡ length s → put_at (length a) s (a ++ (m ++ c)) ≡ a ++ (s ++ c)
unfolding put_at
put-over a [] [] c h = refl
put-over a [] (z ∷ m) c h = absurd (omega arith)
put-over a (x ∷ s) [] c h = absurd (omega arith)
put-over a (x ∷ s) (z ∷ m) c h =
    let l : length (a ++ (x ∷ [])) ≡ length a + 1 = length-append a (x ∷ []) in
    ap (put_at (length a + 1) s) (set-append_seam a z (m ++ c) x ∙ sym (append_snoc a x (m ++ c)))
    ∙ ap (λ (n : ℕ). put_at n s (a ++ (x ∷ []) ++ (m ++ c))) (sym l)
    ∙ put-over (a ++ (x ∷ [])) s m c (omega arith)
    ∙ append_snoc a x (s ++ c)

pub put_front : (s row : List ℕ) → length s ≤ length row → put_at 0 s row ≡ s ++ drop (length s) row
put_front s row h =
    ap (put_at 0 s) (sym (take-append-drop (length s) row))
    ∙ put-over [] s (take (length s) row) (drop (length s) row) (length-take-le (length s) row h)

-- a part of the row that is replaced by as many bytes
pub pasted : (at : ℕ) (s row : List ℕ) → at + length s ≤ length row → paste row at s (length s) ≡ put_at at s row
pasted at s row h =
    let a = take at row in
    let n = length s in
    let m = take n (drop at row) in
    let c = drop (at + n) row in
    let rest : m ++ c ≡ drop at row = ap (λ (t : List ℕ). m ++ t) (sym (drop-drop n at row)) ∙ take-append-drop n (drop at row) in
    let all : a ++ (m ++ c) ≡ row = ap (λ (t : List ℕ). a ++ t) rest ∙ take-append-drop at row in
    let front : length a ≡ at = length-take-le at row (omega arith) in
    let middle : length m ≡ length s = length-take-le n (drop at row) (omega (arith, length-drop at row)) in
    ap (λ (t : List ℕ). (a ++ t) ++ c) (take-length s)
    ∙ append_assoc a s c
    ∙ sym (put-over a s m c middle)
    ∙ ap (put_at (length a) s) all
    ∙ ap (λ (k : ℕ). put_at k s row) front

pub word-pasted
    : (at k : ℕ) (t u row : List ℕ) → u ≡ t → k ≡ length t → at + 1 + length t ≤ length row
    → put_mid (at + 1) k (set row at 32) u ≡ put_at at (32 ∷ t) row
unfolding put_at
word-pasted at k t u row e c h =
    put_mid-paste (at + 1) k (set row at 32) u t (length t) e (sym c) refl ∙ pasted (at + 1) t (set row at 32) (omega (arith, length-set row at 32))

-- what was put there is there, and what stands behind it is as it was
module _ (s row row' : List ℕ) (n : ℕ) (put : row' ≡ put_at 0 s row) (count : n ≡ length s) (fits : length s ≤ length row) where
  pub put_taken : take n row' ≡ s
  put_taken = rw (put, count, put_front s row fits) (take-append_seam s (drop (length s) row))

  pub put-kept : drop n row' ≡ drop n row
  put-kept = rw (put, count, put_front s row fits) (drop-append_seam s (drop (length s) row))

-- a loop that writes: what is left gives the whole, and ends at its end
pub record Putting (left : List ℕ) (at : ℕ) (row whole : List ℕ) (stop : ℕ) : Type 0 where
  pub same : put_at at left row ≡ whole
  pub room : at + length left ≡ stop

module _ {left row whole : List ℕ} {at stop : ℕ} (p : Putting left at row whole stop) where
  pub putting_on
      : (s next row' : List ℕ) (at' : ℕ) → left ≡ s ++ next → at' ≡ at + length s → row' ≡ put_at at s row → Putting next at' row' whole stop
  putting_on s next row' at' h e f =
      let l = ap length h ∙ length-append s next in
      record {
        same = rw (e, f) (sym (put-append at s next row) ∙ ap (λ (t : List ℕ). put_at at t row) (sym h) ∙ p.same);
        room = omega (arith, p.room);
      }

  pub putting_done : left ≡ [] → (at ≡ stop) × (row ≡ whole)
  unfolding put_at
  putting_done h =
      let l = ap length h in
      (omega (arith, p.room), ap (λ (s : List ℕ). put_at at s row) (sym h) ∙ p.same)

pub putting_first : (s : List ℕ) (at : ℕ) (row : List ℕ) → Putting s at row (put_at at s row) (at + length s)
putting_first s at row = record { same = refl; room = refl }

-- the text of a number stands at the end of a row of twenty bytes
module _ (size : ℕ) (row text s : List ℕ) (few : length s ≤ 20) (count : size ≡ length s) (put : text ≡ take (20 - size) row ++ s)
    (twenty : length row ≡ 20) where
  front : length (take (20 - size) row) ≡ 20 - size
  front = length-take-le (20 - size) row (omega arith)

  -- from there on to its end
  pub text_end : take (20 - (20 - size)) (drop (20 - size) text) ≡ s
  text_end =
      let all : drop (20 - size) text ≡ s =
      rw put (ap (λ (n : ℕ). drop n (take (20 - size) row ++ s)) (sym front) ∙ drop-append_seam (take (20 - size) row) s) in
      ap (take (20 - (20 - size))) all ∙ take_all (20 - (20 - size)) s (omega arith)

pub count-text-is : (n : ℕ) → digits_in 20 n ≡ text_of (pos n)
unfolding text_of
count-text-is n = refl

pub word-put
    : (z : ℤ) (s : List ℕ) (at r : ℕ) (t row row' : List ℕ) → s ≡ text_of z → length s ≤ 20 → t ≡ s → r ≡ at + 1 + length t
    → row' ≡ put_at at (32 ∷ t) row → ((r ≡ at + length (word z)) × (r ≤ at + 21)) × (row' ≡ put_at at (word z) row)
unfolding word put_at
word-put z s at r t row row' is few e h k =
    let l = ap length e in
    let m = ap length is in
    ((omega arith, omega arith), k ∙ ap (λ (u : List ℕ). put_at at (32 ∷ u) row) (e ∙ is))

pub words-next : (ns : List ℕ) (i : ℕ) → i < length ns → words (drop i ns) ≡ word (pos (get_or ns i 0)) ++ words (drop (suc i) ns)
unfolding words
words-next ns i h = rw (drop-cons ns i 0 h)

-- the numbers of a row from the i-th on
module _ (ns : List ℕ) (i at stop : ℕ) (row whole : List ℕ) (p : Putting (words (drop i ns)) at row whole stop) where
  pub word_on
      : i < length ns → (r : ℕ) (row' : List ℕ) → r ≡ at + length (word (pos (get_or ns i 0))) → row' ≡ put_at at (word (pos (get_or ns i 0))) row
      → Putting (words (drop (i + 1) ns)) r row' whole stop
  word_on h r row' e f =
      putting_on p (word (pos (get_or ns i 0))) (words (drop (i + 1) ns)) row' r (words-next ns i h ∙ rw (add-one i)) e f

  pub words_last
      : length ns ≤ i → (first : ℕ) (r : ℕ) → at ≤ first + i * 21 → i ≤ length ns → stop ≡ r
      → ((at ≡ r) × (at ≤ first + length ns * 21)) × (row ≡ whole)
  unfolding words
  words_last h first r few n e =
      let d = putting_done p (ap words (drop_of_length-le ns h)) in
      ((d.0 ∙ e, omega arith), d.1)

-- two numbers and the line's end
pub behind-put
    : (v w v' w' : ℤ) (at m n : ℕ) (row row₁ row₂ : List ℕ) → v' ≡ v → w' ≡ w → (m ≡ at + length (word v')) × (m ≤ at + 21) → row₁ ≡ put_at at (word v') row
    → (n ≡ m + length (word w')) × (n ≤ m + 21) → row₂ ≡ put_at m (word w') row₁
    → ((n + 1 ≡ at + length (behind v w)) × (n + 1 ≤ at + 43)) × (set row₂ n 10 ≡ put_at at (behind v w) row)
unfolding behind put_at
behind-put v w v' w' at m n row row₁ row₂ a b c d e f =
    let c' : m ≡ at + length (word v) = rw a at c.0 in
    let e' : n ≡ m + length (word w) = rw b at e.0 in
    let l = length-append (word v) (word w ++ (10 ∷ [])) in
    let k = length-append (word w) (10 ∷ []) in
    let d' : row₁ ≡ put_at at (word v) row = rw a at d in
    let f' : row₂ ≡ put_at m (word w) row₁ = rw b at f in
    let second : set row₂ n 10 ≡ put_at m (word w ++ (10 ∷ [])) row₁ = rw (e', f') (sym (put-append m (word w) (10 ∷ []) row₁)) in
    let first : put_at m (word w ++ (10 ∷ [])) row₁ ≡ put_at at (word v ++ (word w ++ (10 ∷ []))) row =
    rw (c', d') (sym (put-append at (word v) (word w ++ (10 ∷ [])) row)) in
    ((omega arith, omega (arith, c.1, e.1)), second ∙ first)

pub behind-some : (v w : ℤ) → 0 < length (behind v w)
unfolding behind word
behind-some v w = omega arith

-- a letter, numbers and a last byte, from a place on
pub line-put
    : (letter last : ℕ) (ns : List ℕ) (at n : ℕ) (row row₁ : List ℕ)
    → (n ≡ at + 1 + length (words ns)) × (n ≤ at + 1 + length ns * 21) → row₁ ≡ put_at (at + 1) (words ns) (set row at letter)
    → ((n + 1 ≡ at + length (line_with letter ns last)) × (n + 1 ≤ at + length ns * 21 + 2))
    × (set row₁ n last ≡ put_at at (line_with letter ns last) row)
unfolding line_with put_at
line-put letter last ns at n row row₁ c d =
    let l = length-append (words ns) (last ∷ []) in (
      (omega (arith, c.0), omega (arith, c.1)),
      rw (c.0, d) (sym (put-append (at + 1) (words ns) (last ∷ []) (set row at letter))),
    )

-- at the front
pub front-put
    : (letter last : ℕ) (ns : List ℕ) (n : ℕ) (row row' : List ℕ)
    → ((n ≡ 0 + length (line_with letter ns last)) × (n ≤ 0 + length ns * 21 + 2)) × (row' ≡ put_at 0 (line_with letter ns last) row)
    → ((n ≡ length (line_with letter ns last)) × (n ≤ length ns * 21 + 2)) × (row' ≡ put_at 0 (line_with letter ns last) row)
front-put letter last ns n row row' h = ((omega (arith, h.0.0), omega (arith, h.0.1)), h.1)

pub line-is : (letter : ℕ) (ns : List ℕ) → line_with letter ns 10 ≡ line_of letter ns
unfolding line_with line_of
line-is letter ns = refl

pub before-is : (n : ℕ) → line_with 80 (n ∷ []) 32 ≡ before n
unfolding line_with before
before-is n = refl

pub line-some : (letter : ℕ) (ns : List ℕ) → 0 < length (line_of letter ns)
unfolding line_of
line-some letter ns = omega arith

-- P, the position and what stands for an article that is absent
module _ (k a e n : ℕ) (row row₁ : List ℕ) (c : (n ≡ length (line_with 80 (k ∷ []) 32)) × (n ≤ 23)) (d : row₁ ≡ put_at 0 (line_with 80 (k ∷ []) 32) row) where
  pub opened-present : a < e → ((n ≡ length (opened k a e)) × (n ≤ 24)) × (row₁ ≡ put_at 0 (opened k a e) row)
  unfolding opened
  opened-present h =
      let o : before k ++ cond (ltb a e) [] (45 ∷ []) ≡ line_with 80 (k ∷ []) 32 = rw (lt-ltb a e h) (append-nil (before k)) ∙ sym (before-is k) in
      rw o ((c.0, omega (arith, c.1)), d)

  pub opened_absent : e ≤ a → ((n + 1 ≡ length (opened k a e)) × (n + 1 ≤ 24)) × (set row₁ n 45 ≡ put_at 0 (opened k a e) row)
  unfolding opened put_at
  opened_absent h =
      let o : before k ++ cond (ltb a e) [] (45 ∷ []) ≡ line_with 80 (k ∷ []) 32 ++ (45 ∷ []) =
      rw (le-ltb a e h) (ap (λ (t : List ℕ). t ++ (45 ∷ [])) (sym (before-is k))) in
      let l = length-append (line_with 80 (k ∷ []) 32) (45 ∷ []) in
      let z : n ≡ 0 + length (line_with 80 (k ∷ []) 32) = c.0 ∙ sym (zero-add _) in
      rw o (
        (omega (arith, c.0), omega (arith, c.1)),
        rw (z, d) (sym (put-append 0 (line_with 80 (k ∷ []) 32) (45 ∷ []) row)),
      )

pub opened_some : (k a e : ℕ) → 0 < length (opened k a e)
unfolding opened before
opened_some k a e = omega arith
