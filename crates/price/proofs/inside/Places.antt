-- The places and lengths in a price's numbers lie within its message.
use Prim.Native.Nat.{ℕ, ◌+◌, ◌-◌, ◌≤◌, ◌<◌, min}
use mathlib.Core.Path.{◌≡◌, refl, ◌∙◌}
use mathlib.Core.Bool.{Bool, true, false, cond}
use mathlib.Core.List.{List, [], ◌∷◌}
use mathlib.Core.Logic.{◌⊎◌, inl, inr}
use native.Mathlib.Omega.{arith}
use lib.ListN.{length}
use lib.Dec.{ltb}
use lib.IntN.{pos, negsuc}
use borrow.Author.Tests.{ltb-true, ltb-false}
use Rattle.cut.specs.declared.service.Syntax.{Syntax}
use Rattle.cut.specs.Segments.{Segment}
use Rattle.element.specs.declared.components.Span.{Span}
use Rattle.element.proofs.ComponentFace as face
use Rattle.guide.specs.Accepted.{Each}
use Rattle.price.specs.declared.numbers.Numbers.{Numbers}
use Rattle.price.specs.Numbers.{Listed, article_in, article_place, article_length, place_of_first, numbers_of}
use Rattle.price.specs.Calls.{prices_in}
use Rattle.price.proofs.inside.Lies.{Stands, PriceLies, article_lies, prices_in_lie}

-- an article of a message of w bytes: it is absent, or it stands there with some bytes
pub data ArticleIn (w : ℕ) (n : Numbers) : Type 0 where
  absent : n.article ≡ negsuc 0 → n.length ≡ pos 0 → ArticleIn w n
  stands : (a l : ℕ) → n.article ≡ pos a → n.length ≡ pos l → 0 < l → a + l ≤ w → ArticleIn w n

-- the numbers of a price of a message of w bytes
pub record InMessage (w : ℕ) (n : Numbers) : Type 0 where
  pub article : ArticleIn w n
  pub pri : (a : ℕ) × (n.pri ≡ pos a) × (a < w)
  pub rng : (n.rng ≡ negsuc 0) ⊎ ((a : ℕ) × (n.rng ≡ pos a) × (a < w))

article-by
    : (base z : ℕ) (a : Span) (n : Numbers) → n.article ≡ article_place base a → n.length ≡ article_length a → face.Within base z a → ArticleIn (z - base) n
unfolding article_place article_length
article-by base z a n p l w = go (ltb a.start a.end) refl p
  where
    go : (b : Bool) → ltb a.start a.end ≡ b → n.article ≡ cond b (pos (a.start - base)) (negsuc 0) → ArticleIn (z - base) n
    go true h q =
        let s = ltb-true a.start a.end h in
        stands (a.start - base) (a.end - a.start) q l (omega arith) (omega (arith, w.from, w.to))
    go false h q =
        let s = ltb-false a.start a.end h in
        let o : a.end - a.start ≡ 0 = omega arith in
        absent q (l ∙ rw o)

rng-by
    : (d : List ℕ) (base z : ℕ) (ss : List Segment) → Each (Stands d base z) ss
    → (place_of_first base ss ≡ negsuc 0) ⊎ ((a : ℕ) × (place_of_first base ss ≡ pos a) × (a < z - base))
unfolding Each place_of_first
rng-by d base z [] e = inl refl
rng-by d base z (s ∷ ss) e =
    let l = e.0.lies in
    inr (s.start - base, refl, omega (arith, l.from, l.to, e.0.some))

-- the numbers of a price that lies between two places
pub lies_numbers : (y : Syntax) (d : List ℕ) (base z : ℕ) (q : Listed) → z ≤ length d → PriceLies d base z q → InMessage (z - base) (numbers_of y base q)
unfolding numbers_of
lies_numbers y d base z q h l =
    let s = l.pri.lies in
    record {
      article = article-by base z (article_in y q.lin.start q.lin.bytes) (numbers_of y base q) refl refl (article_lies y d base z q.lin l.lin h);
      pri = (q.price.pri.start - base, refl, omega (arith, s.from, s.to, l.pri.some));
      rng = rng-by d base z q.price.rng l.rng;
    }

Each-number
    : (y : Syntax) (d : List ℕ) (base z : ℕ) (qs : List Listed) → z ≤ length d → Each (PriceLies d base z) qs
    → Each (λ q. InMessage (z - base) (numbers_of y base q)) qs
unfolding Each
Each-number y d base z [] h e = tt
Each-number y d base z (q ∷ qs) h e = (lies_numbers y d base z q h e.0, Each-number y d base z qs h e.1)

-- of every price of the message from start to end
pub prices_in_message
    : (y : Syntax) (d : List ℕ) (start end : ℕ) → Each (λ q. InMessage (min end (length d) - start) (numbers_of y start q)) (prices_in y d start end)
prices_in_message y d start end = Each-number y d start (min end (length d)) (prices_in y d start end) (omega arith) (prices_in_lie y d start end)
