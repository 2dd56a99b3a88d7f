-- What the tests on the states say of one component: its fault, the mood after it, what is lacking where its element ends, and the place that is kept.
use Prim.Native.Nat.{ℕ, zero, suc, ◌+◌, ◌/◌, ◌%◌, ◌<◌}
use mathlib.Core.Bool.{Bool, true, false, not, cond, ◌||◌}
use mathlib.Core.Path.{◌≡◌, refl, sym, ◌∙◌}
use mathlib.Core.List.{List}
use native.Mathlib.Omega.{arith}
use lib.ListN.{length, get_or, drop}
use lib.Dec.{T, eqb, leb, eqb→eq, leb→le}
use borrow.Author.Tests.{eqb-true, eqb-false}
use Rattle.cut.specs.declared.service.Syntax.{Syntax}
use Rattle.element.specs.declared.components.Span.{Span}
use Rattle.guide.specs.Page.{must, may, unused, Page, element_of}
use Rattle.guide.specs.workers.PageFault.{text_fault}
use Rattle.guide.specs.workers.Moods.{is_must, opened}
use Rattle.guide.proofs.PageFace.{unused-filled, used-filled}
use Rattle.page.specs.workers.Cells.{Spot, keep_of}
use Rattle.page.specs.workers.Places.{places_on}
use Rattle.page.specs.workers.Walk.{inside, stand_of, stand_fault, stand_after, stand_end, MoodAfter, EndFault}
use Rattle.page.specs.workers.Words.{codes_in, format_in, row_by, row_in, free_by, free_row, element_in, ElementWord, NodeWord}
use Rattle.page.specs.declared.places.Places.{Places}
use Rattle.page.proofs.CellTests.{word_at, word_of, row_word, opening_of, mood_on, calm, last_row, kept_of, freed, each, unless}
use Rattle.page.proofs.words.Ties.{element_arm, row_arm}
use Rattle.page.proofs.formed.Faults.{filled, must-status, filled-any, empty-text, not-asked, asked-may}
use Rattle.page.proofs.rows.Lookup.{element-here, row_here}
use Rattle.page.proofs.pages.Moods.{
  opening_asks,
  opening_idle,
  ending_may,
  ending_idle,
  ending_owing,
  ending_tag,
  asking_text,
  idle_text,
  asking-kept,
  mood-filled,
  mood_owing,
  mood_idle,
}
use Rattle.page.proofs.places.Sought.{places_inner, places_first, places_third, places_other}

-- the words of an element of a page and of a row of an element
pub word-here : (p e : ℕ) (page : Page) → NodeWord p page → e < p / 1024 % 32 → ElementWord (word_at p e) (element_of page (e + 1))
unfolding word_at
word-here p e page n l = rw (← n.page) (element-here p e _ l (element_arm (p % 1024 + e) (p % 1024 + e) refl))

pub row_is : (q : Spot) → q.component < word_of q / 1024 % 32 → row_in (row_word q) ≡ get_or (element_in (word_of q)).rows q.component unused
unfolding row_word
row_is q l = row_here (word_of q) q.component _ l (row_arm (word_of q % 1024 + q.component) (word_of q % 1024 + q.component) refl)

pub opening-is : (w : ℕ) → stand_of (opening_of w) ≡ inside (opened (element_in w))
unfolding opening_of
opening-is w = go (eqb (w / 1048576) 1) refl
  where
    go : (b : Bool) → eqb (w / 1048576) 1 ≡ b → stand_of (cond b 1 0) ≡ inside (opened (element_in w))
    go true e = opening_asks w (eqb-true (w / 1048576) 1 e)
    go false e = opening_idle w (eqb-false (w / 1048576) 1 e)

-- words that say the same of a format, and of codes
same_format : (w r : ℕ) → w / 1048576 ≡ r / 1048576 → w / 262144 % 4 ≡ r / 262144 % 4 → format_in w ≡ format_in r
unfolding format_in
same_format w r e f = rw (e, f)

same_codes : (w r : ℕ) → w % 1024 ≡ r % 1024 → w / 1024 % 64 ≡ r / 1024 % 64 → codes_in w ≡ codes_in r
unfolding codes_in
same_codes w r e f = rw (e, f)

-- a text without fault on a cell's row has none on the row that the cell's is made of
module _ (y : Syntax) (w r : ℕ) (h : T (freed w r)) (t : List ℕ) (some : 0 < length t) (right : text_fault y false (free_row w) t ≡ 0) where
  nothing_left : (w / 1048576 ≡ 0 → ⊥)
  unfolding free_row
  nothing_left z =
      let f : text_fault y false unused t ≡ 0 = rw z at right in
      absurd (omega (arith, sym (unused-filled y false t (filled t some)) ∙ f))

  pub freed_right : text_fault y false (row_in r) t ≡ 0
  unfolding freed free_row row_in
  freed_right =
      let a = each _ _ (unless (w / 1048576) _ h nothing_left) in
      let b = each _ _ a.1 in
      let c = each _ _ b.1 in
      let k = each _ _ c.1 in
      go (r / 65536 % 4) (w / 1048576) a.0 nothing_left
      (same_format w r (eqb→eq (w / 1048576) (r / 1048576) b.0) (eqb→eq (w / 262144 % 4) (r / 262144 % 4) c.0))
      (same_codes w r (eqb→eq (w % 1024) (r % 1024) k.0) (eqb→eq (w / 1024 % 64) (r / 1024 % 64) k.1)) right
    where
      go
          : (s z : ℕ) → T (not (eqb s 0)) → (z ≡ 0 → ⊥) → format_in w ≡ format_in r → codes_in w ≡ codes_in r
          → text_fault y false (free_by z (format_in w) (codes_in w)) t ≡ 0
          → text_fault y false (row_by s (format_in r) (codes_in r)) t ≡ 0
      go s zero i j e f g = absurd (j refl)
      go zero (suc z) i j e f g = absurd i
      go (suc zero) (suc z) i j e f g = rw (← e, ← f) g
      go (suc (suc s)) (suc z) i j e f g =
          rw (← e, ← f)
          (used-filled y false must (format_in w) (codes_in w) t (filled t some) ∙ sym (used-filled y false may (format_in w) (codes_in w) t (filled t some))
          ∙ g)

-- a component of n bytes with the text t on the row that has the word r, in the mood m
module _ (r n m : ℕ) (low : m < 2) where
  pub mood-on : MoodAfter n (stand_of m) (row_in r) (stand_of (mood_on n m r))
  unfolding mood_on
  mood-on t e = go n m low e
    where
      empty : (b : Bool) → leb 2 (r / 65536 % 4) ≡ b → 0 ≡ length t → stand_of (cond b 2 0) ≡ stand_after (stand_of 0) (row_in r) t
      empty true q e = mood_owing (row_in r) t (omega (arith, e)) (sym (must-status r) ∙ q)
      empty false q e = mood_idle (row_in r) t (omega (arith, e)) (sym (must-status r) ∙ q)

      go : (n m : ℕ) → m < 2 → n ≡ length t → stand_of (mood_on n m r) ≡ stand_after (stand_of m) (row_in r) t
      go zero zero l e = empty (leb 2 (r / 65536 % 4)) refl e
      go zero (suc zero) l e = asking-kept (row_in r) t
      go zero (suc (suc m)) l e = absurd (omega arith)
      go (suc n) zero l e = mood-filled (row_in r) t (omega (arith, e))
      go (suc n) (suc zero) l e = asking-kept (row_in r) t
      go (suc n) (suc (suc m)) l e = absurd (omega arith)

  pub calm_fault
      : (y : Syntax) (t : List ℕ) → n ≡ length t → (0 < n → text_fault y false (row_in r) t ≡ 0) → T (calm n m r) → 0 ≡ stand_fault y (stand_of m) (row_in r) t
  unfolding calm
  calm_fault y t e f h = go n refl h ∙ known m low
    where
      known : (m : ℕ) → m < 2 → text_fault y (eqb m 1) (row_in r) t ≡ stand_fault y (stand_of m) (row_in r) t
      known zero l = idle_text y (row_in r) t
      known (suc zero) l = asking_text y (row_in r) t
      known (suc (suc m)) l = absurd (omega arith)

      empty : (m : ℕ) (b : Bool) → is_must (row_in r) ≡ b → T (eqb m 0 || not b) → m < 2 → length t ≡ 0 → 0 ≡ text_fault y (eqb m 1) (row_in r) t
      empty zero b q h l z = not-asked (is_must (row_in r)) false refl ∙ empty-text y false (row_in r) t z
      empty (suc zero) true q h l z = absurd h
      empty (suc zero) false q h l z = asked-may (is_must (row_in r)) true q ∙ empty-text y true (row_in r) t z
      empty (suc (suc m)) b q h l z = absurd (omega arith)

      go : (k : ℕ) → n ≡ k → T (calm k m r) → 0 ≡ text_fault y (eqb m 1) (row_in r) t
      go zero q h = empty m (leb 2 (r / 65536 % 4)) (sym (must-status r)) h low (sym e ∙ q)
      go (suc k) q h = sym (f (omega arith)) ∙ filled-any y (row_in r) t (omega arith) (eqb m 1)

-- nothing is lacking where the element ends behind it
pub last-row : (w c m : ℕ) → T (last_row m w c) → EndFault w c (stand_of m) 0
unfolding last_row
last-row w c m h k e = go m h
  where
    go : (m : ℕ) → T (not (eqb m 1) || leb (w / 32768 % 32) (c + 1)) → 0 ≡ stand_end (stand_of m) (drop (c + 1) k.rows)
    go zero h = ending_idle (drop (c + 1) k.rows)
    go (suc zero) h = ending_may w c k e (leb→le (w / 32768 % 32) (c + 1) h)
    go (suc (suc zero)) h = ending_owing (drop (c + 1) k.rows)
    go (suc (suc (suc m))) h = ending_tag (drop (c + 1) k.rows)

-- the places that are kept
pub kept_places : (e c k : ℕ) (s : Span) (p r : Places) → k ≡ kept_of e c → r ≡ keep_of k s p → r ≡ places_on (e + 1) c s p
unfolding kept_of
kept_places e c k s p r q f = f ∙ rw q (go e c)
  where
    go : (e c : ℕ) → keep_of (kept_of e c) s p ≡ places_on (e + 1) c s p
    go zero zero = places_first 1 0 s p refl refl
    go zero (suc c) = places_inner 1 (suc c) s p (λ z. omega (arith, z))
    go (suc zero) zero = places_other 2 0 s p refl (λ z. omega (arith, z)) (λ z. omega (arith, z))
    go (suc zero) (suc c) = places_inner 2 (suc c) s p (λ z. omega (arith, z))
    go (suc (suc zero)) zero = places_third 3 0 s p refl refl
    go (suc (suc zero)) (suc c) = places_inner 3 (suc c) s p (λ z. omega (arith, z))
    go (suc (suc (suc e))) zero = places_other (suc (suc (suc e)) + 1) 0 s p refl (λ z. omega (arith, z)) (λ z. omega (arith, z))
    go (suc (suc (suc e))) (suc c) = places_inner (suc (suc (suc e)) + 1) (suc c) s p (λ z. omega (arith, z))
