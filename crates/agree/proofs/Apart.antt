-- Where no article comes twice, no two positions agree: positions that agree have the same article.
use Prim.Native.Nat.{ℕ, ◌+◌}
use mathlib.Core.Path.{◌≡◌, refl, sym, ap, ◌∙◌}
use mathlib.Core.Bool.{Bool, true, false, cond, not, ◌||◌, or-true, true≢false}
use mathlib.Core.List.{List, [], ◌∷◌, ◌++◌}
use native.Mathlib.Omega.{arith}
use borrow.Author.Tests.{not-true}
use Rattle.cut.specs.declared.service.Syntax.{Syntax}
use Rattle.bytewise.specs.Bytes.{begins, bytes_of}
use Rattle.cut.specs.Segments.{Segment}
use Rattle.plain.specs.Plain.{same}
use Rattle.element.proofs.ComponentFace.{same_refl}
use Rattle.guide.specs.Content.{text}
use Rattle.bytewise.proofs.Booleans.{and_both}
use Rattle.agree.specs.Agreement.{Heading, agree_but, agree}
use Rattle.agree.specs.Positions.{heading_from, positions_from, positions_of, agrees_any, first_after, first_agreeing}
use Rattle.agree.specs.Articles.{articles_in, among, distinct}
use Rattle.std.specs.Prelude.{None}
use Rattle.agree.proofs.Texts.{but_agree}
use Rattle.agree.proofs.runs.Running.{any_append}

-- one segment more
module _ (y : Syntax) (s : Segment) (ss : List Segment) where
  pub articles_lin : begins (bytes_of "LIN") s.bytes ≡ true → articles_in y (s ∷ ss) ≡ text y s.bytes 3 0 ∷ articles_in y ss
  unfolding articles_in
  articles_lin h = rw h

  pub articles_other : begins (bytes_of "LIN") s.bytes ≡ false → articles_in y (s ∷ ss) ≡ articles_in y ss
  unfolding articles_in
  articles_other h = rw h

among_first : (x : List ℕ) (xs : List (List ℕ)) → among x (x ∷ xs) ≡ true
unfolding among
among_first x xs = rw (same_refl x)

among_later : (x z : List ℕ) (xs : List (List ℕ)) → among x xs ≡ true → among x (z ∷ xs) ≡ true
unfolding among
among_later x z xs h = rw h (or-true (same x z))

distinct-parts : (x : List ℕ) (xs : List (List ℕ)) → distinct (x ∷ xs) ≡ true → (among x xs ≡ false) × (distinct xs ≡ true)
unfolding distinct
distinct-parts x xs h =
    let p = and_both (not (among x xs)) (distinct xs) h in
    (not-true _ p.0, p.1)

module _ (y : Syntax) where
  abbrev article : Heading → List ℕ
  article h = text y h.lin 3 0

  abbrev alone : List ℕ → Segment
  alone b = record { start = 0; bytes = b; piece = false }

  agree-article : (p q : Heading) → agree y p q ≡ true → article p ≡ article q
  unfolding agree
  agree-article p q h =
      let l = (and_both (agree_but y 1 p.lin q.lin) _ h).0 in
      but_agree y 1 (alone p.lin) (alone q.lin) l 3 0 (λ e. omega arith)

  -- what has one of the articles xs agrees with none of the positions es
  abbrev Away : List Heading → List (List ℕ) → Type 0
  Away es xs = (q : Heading) → among (article q) xs ≡ true → agrees_any y q es ≡ false

  away_none : (xs : List (List ℕ)) → Away [] xs
  unfolding agrees_any
  away_none xs q h = refl

  away_more : (es : List Heading) (p : Heading) (xs : List (List ℕ)) → Away es (article p ∷ xs) → among (article p) xs ≡ false → Away (es ++ (p ∷ [])) xs
  unfolding agrees_any
  away_more es p xs w n q h = any_append y q es (p ∷ []) ∙ rw (w q (among_later (article q) (article p) xs h)) (go (agree y p q) refl)
    where
      go : (b : Bool) → agree y p q ≡ b → b || false ≡ false
      go true e = absurd (true≢false (sym h ∙ ap (λ (x : List ℕ). among x xs) (sym (agree-article p q e)) ∙ n))
      go false e = refl

  apart-after
      : (es : List Heading) (n : ℕ) (ss : List Segment) → Away es (articles_in y ss) → distinct (articles_in y ss) ≡ true
      → first_after y es (positions_from n ss) ≡ None
  unfolding heading_from positions_from first_after
  apart-after es n [] w h = refl
  apart-after es n (s ∷ ss) w h =
      go (begins (bytes_of "LIN") s.bytes) refl (apart-after es (n + 1) ss) (apart-after (es ++ (q ∷ [])) (n + 1) ss)
    where
      q : Heading
      q = heading_from s.bytes ss

      Found : Type 0
      Found = distinct (articles_in y ss) ≡ true → first_after y (es ++ (q ∷ [])) (positions_from (n + 1) ss) ≡ None

      go
          : (b : Bool) → begins (bytes_of "LIN") s.bytes ≡ b
          → (Away es (articles_in y ss) → distinct (articles_in y ss) ≡ true → first_after y es (positions_from (n + 1) ss) ≡ None)
          → (Away (es ++ (q ∷ [])) (articles_in y ss) → Found)
          → first_after y es (cond b (record { number = n; place = s.start; heading = q } ∷ positions_from (n + 1) ss) (positions_from (n + 1) ss)) ≡ None
      go true e f g =
          let l = articles_lin y s ss e in
          let v : Away es (article q ∷ articles_in y ss) = rw l at w in
          let p = distinct-parts (article q) (articles_in y ss) (rw l at h) in
          let m : agrees_any y q es ≡ false = v q (among_first (article q) (articles_in y ss)) in
          rw m (g (away_more es q (articles_in y ss) v p.0) p.1)
      go false e f g =
          let l = articles_other y s ss e in
          f (rw l at w) (rw l at h)

-- no two positions of a message agree if none of their articles comes twice
pub articles_apart : (y : Syntax) (ss : List Segment) → distinct (articles_in y ss) ≡ true → first_agreeing y (positions_of ss) ≡ None
unfolding first_agreeing positions_of
articles_apart y ss h = apart-after y [] 1 ss (away_none y (articles_in y ss)) h
