-- The article that is handed out for a price is what stands in its LIN, at the place and of the length that the price's numbers give.
use Prim.Native.Nat.{ℕ, ◌+◌, ◌-◌, ◌≤◌, ◌<◌, min}
use mathlib.Core.Path.{◌≡◌, refl, sym, ap, subst, ◌∙◌}
use mathlib.Core.Bool.{Bool, true, false, cond}
use mathlib.Core.List.{List, ◌∷◌}
use native.Mathlib.Nat.{le_refl}
use native.Mathlib.Omega.{arith}
use lib.ListN.{length, drop}
use lib.Dec.{ltb}
use lib.IntN.{pos, negsuc}
use borrow.Author.Tests.{ltb-true, ltb-false}
use Rattle.cut.specs.declared.service.Syntax.{Syntax}
use Rattle.bytewise.specs.Bytes.{part}
use Rattle.cut.specs.Segments.{Segment, end_of}
use Rattle.bytewise.proofs.Parts.{part_none}
use Rattle.element.specs.Elements.{component}
use Rattle.element.specs.Components.{component_at}
use Rattle.element.specs.declared.components.Span.{Span}
use Rattle.element.proofs.ComponentFace.{component_bytes}
use Rattle.guide.specs.Accepted.{Each}
use Rattle.price.specs.declared.numbers.Numbers.{Numbers}
use Rattle.price.specs.Numbers.{Listed, article_in, article_place, article_length, numbers_of}
use Rattle.price.specs.Calls.{prices_in, first_article}
use Rattle.price.proofs.inside.Lies.{Lies, PriceLies, prices_in_lie, article_lies}
use Rattle.price.proofs.inside.Parted.{each_drop}

-- the part s by the numbers of a price of a message that begins at `base`: the row's place, counted from there, and the row's length; "an absent
-- one is the empty part at the message's start"
pub data Sited (base : ℕ) (n : Numbers) (s : Span) : Type 0 where
  at_place :
      (a l : ℕ) → n.article ≡ pos a → n.length ≡ pos l → 0 < l → s.start ≡ base + a → s.end ≡ base + a + l → Sited base n s
  at-start : n.article ≡ negsuc 0 → n.length ≡ pos 0 → s.start ≡ base → s.end ≡ base → Sited base n s

-- s is the article of the price q: component 0 of element 3 of the LIN of its position, where the row says
pub record ArticleOf (y : Syntax) (d : List ℕ) (base : ℕ) (q : Listed) (s : Span) : Type 0 where
  pub bytes : part s.start s.end d ≡ component y q.lin.bytes 3 0
  pub sited : Sited base (numbers_of y base q) s

module _ (y : Syntax) (d : List ℕ) where
  article-bytes
      : (a z : ℕ) (lin : Segment) → Lies d a z lin
      → part (article_in y lin.start lin.bytes).start (article_in y lin.start lin.bytes).end d ≡ component y lin.bytes 3 0
  unfolding article_in component_at
  article-bytes a z lin l = rw l.bytes (component_bytes y d lin.start (end_of lin) 3 0)

  abbrev chosen : Bool → Span → ℕ → Span
  chosen b a base = cond b a (record { start = base; end = base })

  article_handed
      : (base z : ℕ) (q : Listed) → z ≤ length d → PriceLies d base z q
      → ArticleOf y d base q
      (chosen (ltb (article_in y q.lin.start q.lin.bytes).start (article_in y q.lin.start q.lin.bytes).end)
      (article_in y q.lin.start q.lin.bytes) base)
  unfolding numbers_of article_place article_length
  article_handed base z q h l = go (ltb a.start a.end) refl refl
    where
      a : Span
      a = article_in y q.lin.start q.lin.bytes

      go
          : (b : Bool) → ltb a.start a.end ≡ b → (numbers_of y base q).article ≡ cond (ltb a.start a.end) (pos (a.start - base)) (negsuc 0)
          → ArticleOf y d base q (chosen b a base)
      go true e p =
          let w = article_lies y d base z q.lin l.lin h in
          let s = ltb-true a.start a.end e in
          record {
            bytes = article-bytes base z q.lin l.lin;
            sited =
                at_place (a.start - base) (a.end - a.start) (p ∙ rw e) refl (omega arith) (omega (arith, w.from)) (omega (arith, w.from));
          }
      go false e p =
          let s = ltb-false a.start a.end e in
          let k : a.end ≤ a.start = omega arith in
          let o : a.end - a.start ≡ 0 = omega arith in
          record {
            bytes = part_none d base base (le_refl base) ∙ sym (part_none d a.start a.end k) ∙ article-bytes base z q.lin l.lin;
            sited = at-start (p ∙ rw e) (ap pos o) refl refl;
          }

  -- the article of the k-th price q of the message from start to end
  pub handed_article
      : (start end k : ℕ) (q : Listed) (qs : List Listed) → drop k (prices_in y d start end) ≡ q ∷ qs
      → ArticleOf y d start q (first_article y start (drop k (prices_in y d start end)))
  unfolding Each first_article
  handed_article start end k q qs h =
      let z = min end (length d) in
      let e = subst (Each (PriceLies d start z)) h (each_drop (PriceLies d start z) k (prices_in y d start end) (prices_in_lie y d start end)) in
      rw h (article_handed start z q (omega arith) e.0)
