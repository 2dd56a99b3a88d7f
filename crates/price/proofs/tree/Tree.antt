-- The prices by the first three bytes of each segment are those read off the tree, for every table that passes.
use Prim.Native.Nat.{ℕ, ◌+◌, ◌<◌}
use mathlib.Core.Path.{◌≡◌, refl, sym, ap, ap₂, ◌∙◌, subst}
use mathlib.Core.Bool.{Bool, true, false, true≢false, false≢true, cond}
use mathlib.Core.List.{List, [], ◌∷◌, ◌++◌, map, append_assoc, append-nil}
use native.Mathlib.Nat.{add-zero}
use native.Mathlib.Omega.{arith}
use lib.ListN.{length, length-append}
use lib.Dec.{T, eqb}
use borrow.Author.Tests.{eq-eqb, eqb-false}
use Rattle.cut.specs.declared.service.Syntax.{Syntax}
use Rattle.bytewise.specs.Bytes.{bytes_of}
use Rattle.cut.specs.Segments.{Segment}
use Rattle.plain.specs.Plain.{same}
use Rattle.guide.specs.Nodes.{Guide, node}
use Rattle.guide.specs.Tree.{Kids, none, then, one, segs, Limits, Next, Closed, Whole}
use Rattle.guide.specs.Sheet.{Price, Position, only_if, children_with, prices_of as prices_under, position, positions_in}
use Rattle.guide.specs.Accepted.{seen}
use Rattle.guide.proofs.Basics.{T_true, true-T, or_cases, map-append}
use Rattle.guide.proofs.tables.Tables.{takes-limit}
use Rattle.price.specs.declared.kinds.Kind.{Kind}
use Rattle.price.specs.declared.kinds.Kind.TheVariants.{Lin, Pri, Rng, Other}
use Rattle.price.specs.Numbers.{Listed}
use Rattle.price.specs.Sheet.{prices_at, prices_of_all, prices_in_tree}
use Rattle.price.specs.Listing.{kind_of, rng_by, rng_next, prices_from, no_lin, prices_of}
use Rattle.price.proofs.spots.Steps.{prices-next}
use Rattle.price.proofs.tree.Tags.{Is, is-lin, is-pri, is-rng, is-other, tag-apart, kind_node}
use Rattle.price.specs.Table.{lin_node, pri_node, rng_node, in_lin, Priced}

-- a segment that neither begins a position nor gives a price
data Quiet : Kind → Type 0 where
  quiet_rng : Quiet Rng
  quiet_other : Quiet Other

skip : (n : ℕ) (lin s : Segment) (ss : List Segment) (k : Kind) → kind_of s.bytes ≡ k → Quiet k → prices_from n lin (s ∷ ss) ≡ prices_from n lin ss
skip n lin s ss Lin e q = elim q [ ]
skip n lin s ss Pri e q = elim q [ ]
skip n lin s ss Rng e quiet_rng = prices-next n lin s ss Rng e
skip n lin s ss Other e quiet_other = prices-next n lin s ss Other e

no_rng : (s : Segment) (ss : List Segment) (k : Kind) → kind_of s.bytes ≡ k → rng_by k s ≡ [] → rng_next (s ∷ ss) ≡ []
unfolding rng_next
no_rng s ss k e d = rw e d

rng-here : (s : Segment) (ss : List Segment) → kind_of s.bytes ≡ Rng → rng_next (s ∷ ss) ≡ s ∷ []
unfolding rng_next
rng-here s ss e = rw e

-- the segments of children, the last of them taken off
tree-last : (b : Kids Segment) (m : ℕ) (s : Segment) (k : Kids Segment) (ts : List Segment) → segs (then b m s k) ++ ts ≡ segs b ++ (s ∷ (segs k ++ ts))
tree-last b m s k ts = append_assoc (segs b) (s ∷ segs k) ts

module _ (y : Syntax) (g : Guide) (t : Priced g) where
  abbrev Kid : ℕ → Kids Segment → Type 0
  Kid p f = Closed g (seen y) p f

  -- below a LIN, but not right below it
  record Deep (p : ℕ) : Type 0 where
    inside : T (in_lin g p)
    no-lin : lin_node g p ≡ false

  deep_quiet : (p m : ℕ) (k : Kind) → Deep p → (node g m).parent ≡ p → 0 < (node g m).limit → Is g m k → Quiet k × Deep m
  deep_quiet p m Lin d e l (is-lin a b c) = absurd (t.lin_out m l (T_true a) (rw e d.inside))
  deep_quiet p m Pri d e l (is-pri a b c) = absurd (false≢true (sym d.no-lin ∙ rw (← e) (true-T _ (t.pri_under m l (T_true b)))))
  deep_quiet p m Rng d e l (is-rng a b c) = (quiet_rng, record { inside = t.below_in m l (rw e d.inside); no-lin = a })
  deep_quiet p m Other d e l (is-other a b c) = (quiet_other, record { inside = t.below_in m l (rw e d.inside); no-lin = a })

  deep : (p : ℕ) (f : Kids Segment) → Kid p f → Deep p → (n : ℕ) (lin : Segment) (ts : List Segment) → prices_from n lin (segs f ++ ts) ≡ prices_from n lin ts
  unfolding Closed
  deep p none c d n lin ts = refl
  deep p (then b m s k) c d n lin ts =
      let x = c.1 in
      let q = deep_quiet p m (kind_of s.bytes) d x.under (takes-limit g m (seen y s) x.takes) (kind_node y g m s x.takes) in
      ap (prices_from n lin) (tree-last b m s k ts)
      ∙ deep p b c.0 d n lin (s ∷ (segs k ++ ts))
      ∙ skip n lin s (segs k ++ ts) (kind_of s.bytes) refl q.0
      ∙ deep m k c.2 q.1 n lin ts

  -- the RNG of a price stands right behind its PRI
  only-first
      : (z : ℕ) (b : Kids Segment) (m : ℕ) (s : Segment) (k : Kids Segment) → Kid z (then b m s k) → Limits g z (then b m s k) → rng_node g m ≡ true → b ≡ none
  unfolding Closed
  only-first z none m s k c h r = refl
  only-first z (then b u w j) m s k c h r = absurd (go (eqb u m) refl)
    where
      x : Next g (seen y) z (then b u w j) m s
      x = c.1

      v : Next g (seen y) z b u w
      v = c.0.1

      lm : 0 < (node g m).limit
      lm = takes-limit g m (seen y s) x.takes

      lu : 0 < (node g u).limit
      lu = takes-limit g u (seen y w) v.takes

      go : (e : Bool) → eqb u m ≡ e → ⊥
      go true e =
          let a = h m x.under in
          let o = t.rng_once m lm (T_true r) in
          omega (arith, a, o, ap one e, ap one (eq-eqb m m refl))
      go false e =
          let f = t.rng_first m u lm (T_true r) lu (v.under ∙ sym x.under) (eqb-false u m e) in
          omega (arith, f, x.order)

  limits-before : (z : ℕ) (b : Kids Segment) (m : ℕ) (s : Segment) (k : Kids Segment) → Limits g z (then b m s k) → Limits g z b
  limits-before z b m s k h u e =
      let a = h u e in
      omega arith

  rng_children
      : (z : ℕ) (f : Kids Segment) → Kid z f → Limits g z f → (ts : List Segment) → rng_next ts ≡ [] → rng_next (segs f ++ ts)
      ≡ children_with g (bytes_of "RNG") f
  unfolding Closed children_with
  rng_children z none c h ts e = e
  rng_children z (then b m s k) c h ts e =
      ap rng_next (tree-last b m s k ts) ∙ go (kind_of s.bytes) refl (kind_node y g m s c.1.takes) (rng_children z b c.0 (limits-before z b m s k h))
    where
      rest : List Segment
      rest = s ∷ (segs k ++ ts)

      go
          : (w : Kind) → kind_of s.bytes ≡ w → Is g m w → ((us : List Segment) → rng_next us ≡ [] → rng_next (segs b ++ us)
          ≡ children_with g (bytes_of "RNG") b)
          → rng_next (segs b ++ rest) ≡ children_with g (bytes_of "RNG") b ++ only_if (rng_node g m) s
      go Lin a (is-lin l p r) ih = ih rest (no_rng s (segs k ++ ts) Lin a refl) ∙ rw r (sym (append-nil _))
      go Pri a (is-pri l p r) ih = ih rest (no_rng s (segs k ++ ts) Pri a refl) ∙ rw r (sym (append-nil _))
      go Other a (is-other l p r) ih = ih rest (no_rng s (segs k ++ ts) Other a refl) ∙ rw r (sym (append-nil _))
      go Rng a (is-rng l p r) ih =
          let o = only-first z b m s k c h r in
          rw (o, r) (rng-here s (segs k ++ ts) a)

  -- right below a LIN: its prices
  abbrev listed : ℕ → Segment → Price → Listed
  listed n lin q = record { position = n; lin = lin; price = q }

  below-lin
      : (x : ℕ) (f : Kids Segment) → Kid x f → T (lin_node g x) → T (in_lin g x) → (n : ℕ) (lin : Segment) (ts : List Segment) → rng_next ts ≡ []
      → prices_from n lin (segs f ++ ts) ≡ map (listed n lin) (prices_under g f) ++ prices_from n lin ts
  unfolding Closed prices_under same
  below-lin x none c l i n lin ts e = refl
  below-lin x (then b m s k) c l i n lin ts e =
      ap (prices_from n lin) (tree-last b m s k ts) ∙ go (kind_of s.bytes) refl (kind_node y g m s c.1.takes) (below-lin x b c.0 l i n lin)
    where
      rest : List Segment
      rest = s ∷ (segs k ++ ts)

      lm : 0 < (node g m).limit
      lm = takes-limit g m (seen y s) c.1.takes

      up : (node g m).parent ≡ x
      up = c.1.under

      under : lin_node g m ≡ false → Deep m
      under a = record { inside = t.below_in m lm (rw up i); no-lin = a }

      go
          : (w : Kind) → kind_of s.bytes ≡ w → Is g m w
          → ((us : List Segment) → rng_next us ≡ [] → prices_from n lin (segs b ++ us) ≡ map (listed n lin) (prices_under g b) ++ prices_from n lin us)
          → prices_from n lin (segs b ++ rest)
          ≡ map (listed n lin) (prices_under g b ++ only_if (pri_node g m) (record { pri = s; rng = children_with g (bytes_of "RNG") k })) ++ prices_from n
          lin ts
      go Lin a (is-lin d p r) ih = absurd (t.lin_out m lm (T_true d) (rw up i))
      go Rng a (is-rng d p r) ih =
          absurd (true≢false (sym (true-T _ (t.rng_under m lm (T_true r))) ∙ tag-apart g (node g m).parent (bytes_of "LIN") (bytes_of "PRI") refl
          (rw up (true-T _ l))))
      go Other a (is-other d p r) ih =
          ih rest (no_rng s (segs k ++ ts) Other a refl)
          ∙ ap (λ (qs : List Listed). map (listed n lin) (prices_under g b) ++ qs)
          (skip n lin s (segs k ++ ts) Other a quiet_other ∙ deep m k c.2 (under d) n lin ts)
          ∙ rw (p, append-nil (prices_under g b))
      go Pri a (is-pri d p r) ih =
          ih rest (no_rng s (segs k ++ ts) Pri a refl)
          ∙ ap (λ (qs : List Listed). map (listed n lin) (prices_under g b) ++ qs)
          (prices-next n lin s (segs k ++ ts) Pri a
          ∙ ap₂ ◌∷◌ (ap (λ (rs : List Segment). listed n lin (record { pri = s; rng = rs })) (rng_children m k c.2 c.3 ts e))
          (deep m k c.2 (under d) n lin ts))
          ∙ rw (p, map-append (listed n lin) (prices_under g b) (record { pri = s; rng = children_with g (bytes_of "RNG") k } ∷ []))
          (sym (append_assoc (map (listed n lin) (prices_under g b)) (listed n lin (record { pri = s; rng = children_with g (bytes_of "RNG") k }) ∷ [])
          (prices_from n lin ts)))

-- the LIN of the last of some positions
unfoldable last_lin : Segment → List Position → Segment
last_lin lin [] = lin
last_lin lin (p ∷ ps) = last_lin p.lin ps

last-append : (lin : Segment) (ps qs : List Position) → last_lin lin (ps ++ qs) ≡ last_lin (last_lin lin ps) qs
unfolding last_lin
last-append lin [] qs = refl
last-append lin (p ∷ ps) qs = last-append p.lin ps qs

all_append : (n : ℕ) (ps qs : List Position) → prices_of_all n (ps ++ qs) ≡ prices_of_all n ps ++ prices_of_all (n + length ps) qs
unfolding prices_of_all
all_append n [] qs = rw (add-zero n)
all_append n (p ∷ ps) qs =
    let z : n + 1 + length ps ≡ n + length (p ∷ ps) = omega arith in
    rw (all_append (n + 1) ps qs, z) (sym (append_assoc (prices_at n p) (prices_of_all (n + 1) ps) (prices_of_all (n + length (p ∷ ps)) qs)))

-- the prices of the positions ps and then those of ts, after n positions of which the last has this LIN
abbrev after : ℕ → Segment → List Position → List Segment → List Listed
after n lin ps ts = prices_of_all (n + 1) ps ++ prices_from (n + length ps) (last_lin lin ps) ts

after-append
    : (n : ℕ) (lin : Segment) (ps qs : List Position) (ts us : List Segment)
    → prices_from (n + length ps) (last_lin lin ps) us ≡ after (n + length ps) (last_lin lin ps) qs ts
    → prices_of_all (n + 1) ps ++ prices_from (n + length ps) (last_lin lin ps) us ≡ after n lin (ps ++ qs) ts
after-append n lin ps qs ts us e =
    let z : n + 1 + length ps ≡ n + length ps + 1 = omega arith in
    let w : n + (length ps + length qs) ≡ n + length ps + length qs = omega arith in
    rw (all_append (n + 1) ps qs, last-append lin ps qs, length-append ps qs, z, w, e)
    (sym (append_assoc (prices_of_all (n + 1) ps) (prices_of_all (n + length ps + 1) qs)
    (prices_from (n + length ps + length qs) (last_lin (last_lin lin ps) qs) ts)))

module _ (y : Syntax) (g : Guide) (t : Priced g) where
  -- not below a LIN
  record Outer (p : ℕ) : Type 0 where
    outside : T (in_lin g p) → ⊥
    no-lin : T (lin_node g p) → ⊥
    no_pri : T (pri_node g p) → ⊥

  outer
      : (p : ℕ) (f : Kids Segment) → Kid y g t p f → Outer p → (n : ℕ) (lin : Segment) (ts : List Segment) → rng_next ts ≡ []
      → prices_from n lin (segs f ++ ts) ≡ after n lin (positions_in g f) ts
  unfolding Closed positions_in last_lin prices_of_all
  outer p none c o n lin ts e = rw (add-zero n)
  outer p (then b m s k) c o n lin ts e =
      ap (prices_from n lin) (tree-last b m s k ts)
      ∙ go (kind_of s.bytes) refl (kind_node y g m s c.1.takes) (outer p b c.0 o n lin) (outer m k c.2)
    where
      rest : List Segment
      rest = s ∷ (segs k ++ ts)

      lm : 0 < (node g m).limit
      lm = takes-limit g m (seen y s) c.1.takes

      up : (node g m).parent ≡ p
      up = c.1.under

      n' : ℕ
      n' = n + length (positions_in g b)

      lin' : Segment
      lin' = last_lin lin (positions_in g b)

      go
          : (w : Kind) → kind_of s.bytes ≡ w → Is g m w
          → ((us : List Segment) → rng_next us ≡ [] → prices_from n lin (segs b ++ us) ≡ after n lin (positions_in g b) us)
          → (Outer m → (i : ℕ) (l : Segment) (us : List Segment) → rng_next us ≡ [] → prices_from i l (segs k ++ us) ≡ after i l (positions_in g k) us)
          → prices_from n lin (segs b ++ rest) ≡ after n lin (positions_in g b ++ cond (lin_node g m) (position g s k ∷ []) (positions_in g k)) ts
      go Pri a (is-pri d q r) ih jh = absurd (o.no-lin (subst (λ (i : ℕ). T (lin_node g i)) up (t.pri_under m lm (T_true q))))
      go Rng a (is-rng d q r) ih jh = absurd (o.no_pri (subst (λ (i : ℕ). T (pri_node g i)) up (t.rng_under m lm (T_true r))))
      go Lin a (is-lin d q r) ih jh =
          ih rest (no_rng s (segs k ++ ts) Lin a refl)
          ∙ rw d
          (after-append n lin (positions_in g b) (position g s k ∷ []) ts rest
          (prices-next n' lin' s (segs k ++ ts) Lin a
          ∙ below-lin y g t m k c.2 (T_true d) (t.lin_in m lm (T_true d)) (n' + 1) s ts e
          ∙ ap (λ (qs : List Listed). qs ++ prices_from (n' + 1) s ts) (sym (append-nil (prices_at (n' + 1) (position g s k))))))
      go Other a (is-other d q r) ih jh =
          ih rest (no_rng s (segs k ++ ts) Other a refl)
          ∙ rw d (after-append n lin (positions_in g b) (positions_in g k) ts rest (skip n' lin' s (segs k ++ ts) Other a quiet_other ∙ jh still n' lin' ts e))
        where
          still : Outer m
          still =
              record {
                outside = λ i.
                    or_cases (lin_node g m) (in_lin g (node g m).parent) (λ h. rw d at h) (λ h. o.outside (subst (λ (j : ℕ). T (in_lin g j)) up h))
                    (t.in_above m lm i);
                no-lin = λ h. rw d at h;
                no_pri = λ h. rw q at h;
              }

  -- the theorem
  pub prices-tree : (start : ℕ) (ss : List Segment) (w : Whole g (seen y) ss) → prices_of start ss ≡ prices_in_tree g w.tree
  unfolding prices_of prices_in_tree prices_from rng_next
  prices-tree start ss w =
      ap (prices_from 0 (no_lin start)) (sym w.same ∙ sym (append-nil (segs w.tree)))
      ∙ outer 0 w.tree w.closed (record { outside = t.root; no-lin = t.root_lin; no_pri = t.root_pri }) 0 (no_lin start) [] refl
      ∙ append-nil (prices_of_all 1 (positions_in g w.tree))
