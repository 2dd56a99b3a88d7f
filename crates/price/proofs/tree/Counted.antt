-- How many prices a message has: as many as its tree has PRI segments.
use Prim.Native.Nat.{ℕ, ◌+◌}
use mathlib.Core.Path.{◌≡◌, refl, sym, ap, ◌∙◌}
use mathlib.Core.List.{List, [], ◌∷◌, ◌++◌}
use native.Mathlib.Omega.{arith}
use lib.ListN.{length, length-append}
use Rattle.cut.specs.declared.service.Syntax.{Syntax}
use Rattle.bytewise.specs.Bytes.{bytes_of}
use Rattle.cut.specs.Segments.{Segment}
use Rattle.guide.specs.Nodes.{Guide}
use Rattle.guide.specs.Tree.{Kids, none, then, Given, giving, segs, assigned, Closed, Whole}
use Rattle.guide.specs.Sheet.{only_if, is_tag, with_tag}
use Rattle.guide.specs.Accepted.{seen}
use Rattle.price.specs.declared.kinds.Kind.{Kind}
use Rattle.price.specs.declared.kinds.Kind.TheVariants.{Lin, Pri, Rng, Other}
use Rattle.price.specs.Numbers.{Listed}
use Rattle.price.specs.Listing.{kind_of, number_by, lin_by, price_by, prices_from, no_lin, prices_of}
use Rattle.price.specs.workers.Parts.{add_by}
use Rattle.price.proofs.tree.Tags.{Is, is-lin, is-pri, is-rng, is-other, kind_node}

-- how many of the segments are PRI
unfoldable pris : List Segment → ℕ
pris [] = 0
pris (s ∷ ss) = add_by (kind_of s.bytes) + pris ss

pris-append : (ss ts : List Segment) → pris (ss ++ ts) ≡ pris ss + pris ts
unfolding pris
pris-append [] ts = omega arith
pris-append (s ∷ ss) ts =
    let e = pris-append ss ts in
    omega arith

length-by : (k : Kind) (q : Listed) (qs : List Listed) → length (price_by k q qs) ≡ add_by k + length qs
length-by Pri q qs = omega arith
length-by Lin q qs = omega arith
length-by Rng q qs = omega arith
length-by Other q qs = omega arith

prices-pris : (n : ℕ) (lin : Segment) (ss : List Segment) → length (prices_from n lin ss) ≡ pris ss
unfolding prices_from pris
prices-pris n lin [] = refl
prices-pris n lin (s ∷ ss) =
    length-by (kind_of s.bytes) _ _ ∙ ap (λ (m : ℕ). add_by (kind_of s.bytes) + m)
    (prices-pris (number_by (kind_of s.bytes) n) (lin_by (kind_of s.bytes) s lin) ss)

module _ (y : Syntax) (g : Guide) where
  abbrev tagged : List (Given Segment) → List Segment
  tagged xs = with_tag g (bytes_of "PRI") xs

  tagged-append : (xs ys : List (Given Segment)) → length (tagged (xs ++ ys)) ≡ length (tagged xs) + length (tagged ys)
  unfolding with_tag
  tagged-append [] ys = omega arith
  tagged-append (x ∷ xs) ys =
      let e = tagged-append xs ys in
      simp length-append (omega arith)

  one-by : (n : ℕ) (s : Segment) (k : Kind) → Is g n k → length (only_if (is_tag g (bytes_of "PRI") n) s) ≡ add_by k
  one-by n s Lin (is-lin a b c) = rw b
  one-by n s Pri (is-pri a b c) = rw b
  one-by n s Rng (is-rng a b c) = rw b
  one-by n s Other (is-other a b c) = rw b

  tree-pris : (p : ℕ) (f : Kids Segment) → Closed g (seen y) p f → pris (segs f) ≡ length (tagged (assigned f))
  unfolding Closed pris with_tag
  tree-pris p none c = refl
  tree-pris p (then b m s k) c =
      let i = tree-pris p b c.0 in
      let j = tree-pris m k c.2 in
      let o = one-by m s (kind_of s.bytes) (kind_node y g m s c.1.takes) in
      let a = pris-append (segs b) (s ∷ segs k) in
      let q = tagged-append (assigned b) (giving m s ∷ assigned k) in
      let r = length-append (only_if (is_tag g (bytes_of "PRI") m) s) (tagged (assigned k)) in
      omega arith

  -- "how many the message has"
  pub prices-counted : (start : ℕ) (ss : List Segment) (w : Whole g (seen y) ss) → length (prices_of start ss) ≡ length (tagged (assigned w.tree))
  unfolding prices_of
  prices-counted start ss w = prices-pris 0 (no_lin start) ss ∙ ap pris (sym w.same) ∙ tree-pris 0 w.tree w.closed
