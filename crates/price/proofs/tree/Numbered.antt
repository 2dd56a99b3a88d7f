-- The position in a price's numbers is its LIN's own number, in every proper message.
use Prim.Native.Nat.{ℕ, ◌+◌, ◌<◌}
use mathlib.Core.Path.{◌≡◌, refl, sym, ap, subst, ◌∙◌}
use mathlib.Core.Bool.{Bool, true, false, cond}
use mathlib.Core.List.{List, [], ◌∷◌, ◌++◌, map, append_assoc}
use native.Mathlib.Numerals.{add-one}
use lib.Dec.{T}
use Rattle.cut.specs.declared.service.Syntax.{Syntax}
use Rattle.bytewise.specs.Bytes.{bytes_of}
use Rattle.cut.specs.Segments.{Segment}
use Rattle.messages.specs.Messages.{Message}
use Rattle.value.specs.Digits.{count_of}
use Rattle.std.specs.Prelude.{Some}
use Rattle.guide.specs.Nodes.{Guide, node}
use Rattle.guide.specs.Page.{Page}
use Rattle.guide.specs.Content.{text}
use Rattle.guide.specs.Tree.{Kids, none, then, Given, giving, assigned, Closed}
use Rattle.guide.specs.Sheet.{Price, Position, only_if, is_tag, with_tag, position, positions_in}
use Rattle.guide.specs.Accepted.{Each, seen, segments_of, Numbered, Proper}
use Rattle.guide.proofs.Basics.{T_true, or_cases, map-append}
use Rattle.guide.proofs.tables.Tables.{takes-limit}
use Rattle.price.specs.Numbers.{Listed}
use Rattle.price.specs.Sheet.{prices_at, prices_of_all, prices_in_tree}
use Rattle.price.specs.Listing.{prices_of}
use Rattle.price.specs.Table.{lin_node, in_lin, Priced}
use Rattle.price.proofs.tree.Comes.{each_more}
use Rattle.price.proofs.tree.Tree.{prices-tree}

abbrev lin_of : Position → Segment
lin_of p = p.lin

module _ (y : Syntax) (g : Guide) (t : Priced g) where
  abbrev lins : List (Given Segment) → List Segment
  lins xs = with_tag g (bytes_of "LIN") xs

  lins-append : (xs ys : List (Given Segment)) → lins (xs ++ ys) ≡ lins xs ++ lins ys
  unfolding with_tag
  lins-append [] ys = refl
  lins-append (x ∷ xs) ys = rw (lins-append xs ys) (sym (append_assoc (only_if (is_tag g (bytes_of "LIN") x.node) x.segment) (lins xs) (lins ys)))

  -- no LIN stands below a LIN
  none_below : (p : ℕ) (f : Kids Segment) → Closed g (seen y) p f → T (in_lin g p) → lins (assigned f) ≡ []
  unfolding Closed with_tag
  none_below p none c i = refl
  none_below p (then b m s k) c i =
      lins-append (assigned b) (giving m s ∷ assigned k) ∙ rw (none_below p b c.0 i) (go (lin_node g m) refl (none_below m k c.2))
    where
      l : 0 < (node g m).limit
      l = takes-limit g m (seen y s) c.1.takes

      i' : T (in_lin g (node g m).parent)
      i' = subst (λ (q : ℕ). T (in_lin g q)) (sym c.1.under) i

      go : (h : Bool) → lin_node g m ≡ h → (T (in_lin g m) → lins (assigned k) ≡ []) → only_if h s ++ lins (assigned k) ≡ []
      go true e ih = absurd (t.lin_out m l (T_true e) i')
      go false e ih = ih (t.below_in m l i')

  -- the positions have all LIN segments, in message order
  lins-tree : (p : ℕ) (f : Kids Segment) → Closed g (seen y) p f → (T (in_lin g p) → ⊥) → map lin_of (positions_in g f) ≡ lins (assigned f)
  unfolding Closed with_tag positions_in
  lins-tree p none c o = refl
  lins-tree p (then b m s k) c o =
      map-append lin_of (positions_in g b) (cond (lin_node g m) (position g s k ∷ []) (positions_in g k))
      ∙ rw (lins-append (assigned b) (giving m s ∷ assigned k), lins-tree p b c.0 o)
      (ap (λ (ss : List Segment). lins (assigned b) ++ ss) (go (lin_node g m) refl (lins-tree m k c.2)))
    where
      l : 0 < (node g m).limit
      l = takes-limit g m (seen y s) c.1.takes

      go
          : (h : Bool) → lin_node g m ≡ h → ((T (in_lin g m) → ⊥) → map lin_of (positions_in g k) ≡ lins (assigned k))
          → map lin_of (cond h (position g s k ∷ []) (positions_in g k)) ≡ only_if h s ++ lins (assigned k)
      go true e ih = rw (none_below m k c.2 (t.lin_in m l (T_true e)))
      go false e ih =
          ih (λ i. or_cases (lin_node g m) (in_lin g (node g m).parent) (λ h. rw e at h) (λ h. o (subst (λ (q : ℕ). T (in_lin g q)) c.1.under h))
          (t.in_above m l i))

-- a price whose position is the number that its LIN gives
abbrev pub Placed : Syntax → Listed → Type 0
Placed y q = count_of (text y q.lin.bytes 1 0) ≡ Some q.position

prices_placed
    : (y : Syntax) (n : ℕ) (p : Position) (xs : List Price) → count_of (text y p.lin.bytes 1 0) ≡ Some n
    → Each (Placed y) (map (λ (x : Price). record { position = n; lin = p.lin; price = x }) xs)
unfolding Each
prices_placed y n p [] h = tt
prices_placed y n p (x ∷ xs) h = (h, prices_placed y n p xs h)

all_placed : (y : Syntax) (n : ℕ) (ps : List Position) → Numbered y n (map lin_of ps) → Each (Placed y) (prices_of_all n ps)
unfolding Numbered prices_of_all Each
all_placed y n [] h = tt
all_placed y n (p ∷ ps) h =
    each_more (Placed y) (prices_at n p) (prices_of_all (n + 1) ps) (prices_placed y n p p.prices h.0) (all_placed y (n + 1) ps (rw (add-one n) h.1))

pub proper_placed
    : (y : Syntax) (g : Guide) (pages : ℕ → Page) (t : Priced g) (start : ℕ) (m : Message) → Proper y g pages m
    → Each (Placed y) (prices_of start (segments_of m))
unfolding prices_in_tree
proper_placed y g pages t start m p =
    rw (prices-tree y g t start (segments_of m) p.sheet)
    (all_placed y 1 (positions_in g p.sheet.tree) (rw (lins-tree y g t 0 p.sheet.tree p.sheet.closed t.root) p.numbered))
