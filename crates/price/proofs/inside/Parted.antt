-- The answers for a part of the delivery, from those for all that follows its start.
use Prim.Native.Nat.{ℕ, zero, suc, ◌+◌, ◌-◌, ◌≤◌, ◌<◌, min}
use mathlib.Core.Path.{◌≡◌, refl, sym, ap, subst, ◌∙◌}
use mathlib.Core.Bool.{Bool, true, false, cond}
use mathlib.Core.List.{List, [], ◌∷◌}
use native.Mathlib.Nat.{sub-zero}
use native.Mathlib.Omega.{arith}
use lib.ListN.{length, take, drop, drop_of_length-le}
use lib.Seq.{take-nil, drop-nil}
use lib.Dec.{ltb}
use borrow.Author.Tests.{lt-ltb, le-ltb}
use Rattle.cut.specs.declared.service.Syntax.{Syntax}
use Rattle.bytewise.specs.Bytes.{part}
use Rattle.cut.specs.Segments.{segments_at}
use Rattle.cut.proofs.Skips.{segments_of_none}
use Rattle.bytewise.proofs.Parts.{part-part, length_part}
use Rattle.element.specs.Components.{component_at, span_in}
use Rattle.element.specs.declared.components.Span.{Span}
use Rattle.bytewise.proofs.Limits.{limited, part-front}
use Rattle.guide.specs.Accepted.{Each}
use Rattle.price.specs.Numbers.{Listed, article_in}
use Rattle.price.specs.Listing.{prices_from, prices_of}
use Rattle.price.specs.Calls.{prices_in, first_article, article_at}
use Rattle.price.specs.workers.Parts.{HeldFirst, HeldAt}
use Rattle.price.proofs.numbers.Answers.{component-bounds}
use Rattle.price.proofs.inside.Lies.{PriceLies, prices_in_lie, article_lies}

pub each_drop : (P : Listed → Type 0) (k : ℕ) (qs : List Listed) → Each P qs → Each P (drop k qs)
unfolding Each
each_drop P zero qs e = e
each_drop P (suc k) [] e = tt
each_drop P (suc k) (q ∷ qs) e = each_drop P k qs e.1

-- the bytes before a place
abbrev pub front : List ℕ → ℕ → List ℕ
front d end = take (end - 0) (drop 0 d)

-- as `&d[..end]` has them
pub front-is : (d : List ℕ) (end : ℕ) → take end d ≡ front d end
front-is d end = rw (sub-zero end)

module _ (y : Syntax) (d : List ℕ) (start end : ℕ) where
  pub front_in : end ≤ length d → prices_of start (segments_at y (front d end) start) ≡ prices_in y d start end
  unfolding prices_in
  front_in h = rw (part-front d start end h)

  module _ (k : ℕ) where
    -- the LIN of the first of these prices
    module _ (p : Span) (m : ℕ) (is : m ≡ min end (length d)) where
      held-by : (qs : List Listed) → HeldFirst start (front d m) qs p → HeldFirst start d qs p
      unfolding HeldFirst part
      held-by [] f = f
      held-by (q ∷ qs) f =
          let l : length (front d m) ≡ m - 0 = length_part d 0 m (omega arith) in
          let k : p.end ≤ m - 0 = omega (arith, f.1) in
          let z : 0 + p.start ≡ p.start = omega arith in
          let w : 0 + p.end ≡ p.end = omega arith in
          (record { starts = f.0.starts; bytes = f.0.bytes ∙ part-part d 0 m p.start p.end k ∙ rw (z, w) }, omega (arith, f.1))

      limit-in : prices_of start (segments_at y (front d m) start) ≡ prices_in y d start end
      unfolding prices_in
      limit-in = rw (part-front d start m (omega arith), limited d start end m is)

      held-front : HeldAt start (take m d) k (prices_of start (segments_at y (take m d) start)) p → HeldAt start d k (prices_in y d start end) p
      unfolding HeldAt
      held-front f =
          let g : HeldAt start (front d m) k (prices_of start (segments_at y (front d m) start)) p =
          subst (λ (b : List ℕ). HeldAt start b k (prices_of start (segments_at y b start)) p) (front-is d m) f in
          held-by (drop k (prices_in y d start end)) (subst (λ (qs : List Listed). HeldAt start (front d m) k qs p) limit-in g)

    pub held-until
        : (p : Span) (x : Syntax) (b : List ℕ) → x ≡ y → b ≡ part 0 end d
        → HeldAt start b k (prices_of start (segments_at x b start)) p → HeldAt start d k (prices_in y d start end) p
    unfolding part
    held-until p x b same whole f =
        let m = min end (length d) in
        let cut : b ≡ take m d = whole ∙ sym (limited d 0 end m refl) ∙ sym (front-is d m) in
        held-front p m refl (rw (← same, ← cut) f)

    abbrev empty : ℕ → Span
    empty m = record { start = m; end = m }

    -- behind the delivery's end there are no prices
    pub article-past : length d < start → empty (length d) ≡ article_at y d start end k
    unfolding article_at first_article prices_in prices_of prices_from part
    article-past h =
        let l : length d ≤ start = omega arith in
        let n : drop start d ≡ [] = drop_of_length-le d l in
        let m : min start (length d) ≡ length d = omega arith in
        rw (n, take-nil (end - start), segments_of_none y start, drop-nil k, m)

    module _ (p : Span) (s : Span) (inside : start ≤ length d) (held : HeldAt start d k (prices_in y d start end) p)
        (is : s ≡ component_at y d p.start p.end 3 0) where
      -- the message's start, where it is not past the delivery
      first : min start (length d) ≡ start
      first = omega arith

      article-is : (q : Listed) (qs : List Listed) → HeldFirst start d (q ∷ qs) p → article_in y q.lin.start q.lin.bytes ≡ s
      unfolding HeldFirst article_in component_at span_in
      article-is q qs f = rw (f.0.starts, f.0.bytes) (sym is)

      article-none : HeldFirst start d [] p → s.end ≤ s.start
      unfolding HeldFirst
      article-none f =
          let b = component-bounds y d p.start p.end s 3 0 is in
          let a : p.start ≡ start = ap (λ (h : Span). h.start) f in
          let e : p.end ≡ start = ap (λ (h : Span). h.end) f in
          omega (arith, b.from, b.to)

      pub article-found : s.start < s.end → s ≡ article_at y d start end k
      unfolding article_at first_article HeldAt
      article-found h = go (drop k (prices_in y d start end)) held
        where
          go : (qs : List Listed) → HeldFirst start d qs p → s ≡ first_article y (min start (length d)) qs
          go [] f = absurd (let n = article-none f in omega arith)
          go (q ∷ qs) f = rw (article-is q qs f, lt-ltb s.start s.end h)

      pub article-missing : s.end ≤ s.start → empty start ≡ article_at y d start end k
      unfolding article_at first_article HeldAt
      article-missing h = go (drop k (prices_in y d start end)) held
        where
          go : (qs : List Listed) → HeldFirst start d qs p → empty start ≡ first_article y (min start (length d)) qs
          go [] f = rw first
          go (q ∷ qs) f = rw (article-is q qs f, le-ltb s.start s.end h, first)

    article_bounds
        : (qs : List Listed) → Each (PriceLies d start (min end (length d))) qs
        → ((first_article y (min start (length d)) qs).start ≤ (first_article y (min start (length d)) qs).end)
        × ((first_article y (min start (length d)) qs).end ≤ length d)
    unfolding Each first_article
    article_bounds [] e = (omega arith, omega arith)
    article_bounds (q ∷ qs) e = go (ltb a.start a.end)
      where
        a : Span
        a = article_in y q.lin.start q.lin.bytes

        go
            : (b : Bool) → ((cond b a (empty (min start (length d)))).start ≤ (cond b a (empty (min start (length d)))).end)
            × ((cond b a (empty (min start (length d)))).end ≤ length d)
        go true =
            let w = article_lies y d start (min end (length d)) q.lin e.0.lin (omega arith) in
            (w.ordered, omega (arith, w.to))
        go false = (omega arith, omega arith)

    -- an article lies in the delivery
    pub article-in : ((article_at y d start end k).start ≤ (article_at y d start end k).end) × ((article_at y d start end k).end ≤ length d)
    unfolding article_at
    article-in =
        article_bounds (drop k (prices_in y d start end))
        (each_drop (PriceLies d start (min end (length d))) k (prices_in y d start end) (prices_in_lie y d start end))
