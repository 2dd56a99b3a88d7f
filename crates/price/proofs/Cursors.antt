-- The cursor over the prices of a message: each step gives the first of those that are left, and from the first cursor on they are all.
use Prim.Native.Nat.{ℕ, ◌≤◌, ◌<◌, min}
use mathlib.Core.Path.{◌≡◌, refl, sym, ap, subst, ◌∙◌}
use mathlib.Core.Bool.{Bool, true, false, cond}
use mathlib.Core.List.{List, [], ◌∷◌, map}
use native.Mathlib.Omega.{arith}
use lib.ListN.{length, take}
use lib.Dec.{ltb}
use lib.IntN.{ℤ}
use borrow.Author.Tests.{lt-ltb, le-ltb, ltb-false}
use Rattle.cut.specs.declared.service.Syntax.{Syntax}
use Rattle.bytewise.specs.Bytes.{part}
use Rattle.bytewise.proofs.Parts.{part_none}
use Rattle.bytewise.proofs.Limits.{limited}
use Rattle.cut.specs.Segments.{Segment, end_of, segments_at}
use Rattle.cut.proofs.Ahead.{first-ahead, found_end}
use Rattle.element.specs.Components.{component_at}
use Rattle.element.specs.declared.components.Span.{Span}
use Rattle.element.proofs.ComponentFace.{component_bytes, component-within}
use Rattle.value.specs.declared.prices.Amount.{Amount}
use Rattle.price.specs.declared.kinds.Kind.{Kind}
use Rattle.price.specs.declared.kinds.Kind.TheVariants.{Lin, Pri, Rng, Other}
use Rattle.price.specs.declared.spots.Spot.{Spot}
use Rattle.std.specs.Prelude.{Option, Some, None}
use Rattle.price.specs.declared.spots.Held.{Held}
use Rattle.price.specs.declared.cursor.Cursor.{Cursor}
use Rattle.price.specs.declared.cursor.Price.{Price}
use Rattle.price.specs.Numbers.{price_in, amount_of, decimals_of}
use Rattle.price.specs.Listing.{kind_of, rng_next, number_by, lin_by, price_by, prices_from, prices_of, no_lin}
use Rattle.price.specs.Calls.{prices_in}
use Rattle.price.specs.Cursors.{Told, told_of, first_cursor, price_here, next_by, next_in, next_price, told_by, told_here, told_in, told_from}
use Rattle.price.specs.workers.Parts.{moved_by, head_spot}
use Rattle.price.proofs.inside.Parted.{front-is, front_in}
use Rattle.price.proofs.spots.Heads.{Spotted, spotted, spot-nothing}

moved-few : (k : Kind) (p : Held) (at s e : ℕ) → p.number ≤ at → at < e → (moved_by k p s e).number ≤ e
moved-few Lin p at s e h l = omega arith
moved-few Pri p at s e h l = omega arith
moved-few Rng p at s e h l = omega arith
moved-few Other p at s e h l = omega arith

-- a price and the cursor behind it
abbrev Step : Type 0
Step = Price × Cursor

same-step : (u v : Step) → ◌≡◌ {A = Option Step} (Some u) (Some v) → u ≡ v
same-step u v h = cc

module _ (y : Syntax) (d : List ℕ) where
  -- the first of the prices that are left, where a step gives one
  pub record Gives (ts : List Told) (p : Price) (next : Cursor) : Type 0 where
    pub list :
        ts ≡ record { position = p.position; article = part p.start p.end d; amount = p.amount; decimals = p.decimals } ∷ told_from y d next
    pub within : p.start < p.end → p.end ≤ length d

  abbrev GivesStep : List Told → Step → Type 0
  GivesStep ts v = Gives ts v.0 v.1

  here_gives
      : (p : Held) (s : Segment) (ss : List Segment) (at : ℕ) → segments_at y d at ≡ s ∷ ss → p.number ≤ at
      → GivesStep (told_here y d p s.bytes ∷ told_in y d p ss) (price_here y d p s.bytes (end_of s))
  unfolding price_here told_from
  here_gives p s ss at l few =
      let f = first-ahead y d at s ss l in
      let few' : p.number ≤ end_of s = omega (arith, f.later, f.some) in
      let w = component-within y d p.lin.start p.lin.end 3 0 in
      record {
        list = rw (component_bytes y d p.lin.start p.lin.end 3 0, le-ltb (end_of s) p.number few', f.rest);
        within = λ l. omega (arith, w.from, w.to, l);
      }

  gives_by
      : (kind : Kind) (p : Held) (s : Segment) (ss : List Segment) (at : ℕ) (v : Step) → segments_at y d at ≡ s ∷ ss → p.number ≤ at
      → next_by kind (price_here y d p s.bytes (end_of s)) (next_in y d (moved_by kind p s.start (end_of s)) ss) ≡ Some v
      → (next_in y d (moved_by kind p s.start (end_of s)) ss ≡ Some v → GivesStep (told_in y d (moved_by kind p s.start (end_of s)) ss) v)
      → GivesStep (told_by kind (told_here y d p s.bytes) (told_in y d (moved_by kind p s.start (end_of s)) ss)) v
  gives_by Pri p s ss at v l few h ih =
      subst (GivesStep (told_here y d p s.bytes ∷ told_in y d p ss)) (same-step _ _ h) (here_gives p s ss at l few)
  gives_by Lin p s ss at v l few h ih = ih h
  gives_by Rng p s ss at v l few h ih = ih h
  gives_by Other p s ss at v l few h ih = ih h

  gives_in
      : (p : Held) (ss : List Segment) (at : ℕ) (v : Step) → segments_at y d at ≡ ss → p.number ≤ at → next_in y d p ss ≡ Some v
      → GivesStep (told_in y d p ss) v
  unfolding next_in told_in
  gives_in p [] at v l few h = absurd (let z : ◌≡◌ {A = ℕ} 0 1 = cc in omega arith)
  gives_in p (s ∷ ss) at v l few h =
      let f = first-ahead y d at s ss l in
      let kind = kind_of s.bytes in
      gives_by kind p s ss at v l few h
      (gives_in (moved_by kind p s.start (end_of s)) ss (end_of s) v (sym f.rest)
      (moved-few kind p at s.start (end_of s) few (omega (arith, f.later, f.some))))

  none-by
      : (kind : Kind) (p : Held) (b : List ℕ) (e : ℕ) (later : Option Step) (t : Told) (ts : List Told)
      → next_by kind (price_here y d p b e) later ≡ None → (later ≡ None → ts ≡ []) → told_by kind t ts ≡ []
  none-by Pri p b e later t ts h ih = absurd (let z : ◌≡◌ {A = ℕ} 0 1 = cc in omega arith)
  none-by Lin p b e later t ts h ih = ih h
  none-by Rng p b e later t ts h ih = ih h
  none-by Other p b e later t ts h ih = ih h

  none_in : (p : Held) (ss : List Segment) → next_in y d p ss ≡ None → told_in y d p ss ≡ []
  unfolding next_in told_in
  none_in p [] h = refl
  none_in p (s ∷ ss) h =
      let kind = kind_of s.bytes in
      none-by kind p s.bytes (end_of s) _ _ _ h (none_in (moved_by kind p s.start (end_of s)) ss)

  -- a step from any cursor
  module _ (c : Cursor) where
    pub next_gives : (p : Price) (next : Cursor) → next_price y d c ≡ Some (p, next) → Gives (told_from y d c) p next
    unfolding next_price told_from
    next_gives p next h = go (ltb c.at c.held.number) refl h
      where
        go
            : (b : Bool) → ltb c.at c.held.number ≡ b → cond b None (next_in y d c.held (segments_at y d c.at)) ≡ Some (p, next)
            → Gives (cond b [] (told_in y d c.held (segments_at y d c.at))) p next
        go true f g = absurd (let z : ◌≡◌ {A = ℕ} 0 1 = cc in omega arith)
        go false f g = gives_in c.held (segments_at y d c.at) c.at (p, next) refl (ltb-false c.at c.held.number f) g

    pub next-none : next_price y d c ≡ None → told_from y d c ≡ []
    unfolding next_price told_from
    next-none h = go (ltb c.at c.held.number) h
      where
        go
            : (b : Bool) → cond b None (next_in y d c.held (segments_at y d c.at)) ≡ None
            → cond b [] (told_in y d c.held (segments_at y d c.at)) ≡ []
        go true g = refl
        go false g = none_in c.held (segments_at y d c.at) g

  -- the prices by raw tags, told
  told-by
      : (k : Kind) (p : Held) (lin s : Segment) (ss : List Segment) → lin.bytes ≡ part p.lin.start p.lin.end d → s.bytes ≡ part s.start (end_of s) d
      → map (told_of y) (prices_from (moved_by k p s.start (end_of s)).number (lin_by k s lin) ss) ≡ told_in y d (moved_by k p s.start (end_of s)) ss
      → map (told_of y) (price_by k (record { position = p.number; lin = lin; price = record { pri = s; rng = rng_next ss } })
      (prices_from (number_by k p.number) (lin_by k s lin) ss))
      ≡ told_by k (told_here y d p s.bytes) (told_in y d (moved_by k p s.start (end_of s)) ss)
  unfolding told_of
  told-by Lin p lin s ss b c ih = ih
  told-by Pri p lin s ss b c ih = rw (← b, ← ih)
  told-by Rng p lin s ss b c ih = ih
  told-by Other p lin s ss b c ih = ih

  moved-bytes
      : (k : Kind) (p : Held) (lin s : Segment) → lin.bytes ≡ part p.lin.start p.lin.end d → s.bytes ≡ part s.start (end_of s) d
      → (lin_by k s lin).bytes ≡ part (moved_by k p s.start (end_of s)).lin.start (moved_by k p s.start (end_of s)).lin.end d
  moved-bytes Lin p lin s b c = c
  moved-bytes Pri p lin s b c = b
  moved-bytes Rng p lin s b c = b
  moved-bytes Other p lin s b c = b

  told-in
      : (p : Held) (lin : Segment) (ss : List Segment) (at : ℕ) → segments_at y d at ≡ ss → lin.bytes ≡ part p.lin.start p.lin.end d
      → map (told_of y) (prices_from p.number lin ss) ≡ told_in y d p ss
  unfolding prices_from told_in
  told-in p lin [] at l b = refl
  told-in p lin (s ∷ ss) at l b =
      let f = first-ahead y d at s ss l in
      let k = kind_of s.bytes in
      told-by k p lin s ss b f.bytes
      (told-in (moved_by k p s.start (end_of s)) (lin_by k s lin) ss (end_of s) (sym f.rest) (moved-bytes k p lin s b f.bytes))

  pub told_first : (start : ℕ) → told_from y d (first_cursor start) ≡ map (told_of y) (prices_of start (segments_at y d start))
  unfolding told_from prices_of
  told_first start =
      rw (le-ltb start 0 (omega arith))
      (sym (told-in (first_cursor start).held (no_lin start) (segments_at y d start) start refl (sym (part_none d start start (omega arith)))))

-- all prices of the message from start to end
pub told_message
    : (y : Syntax) (d : List ℕ) (start end : ℕ) → end ≤ length d
    → told_from y (part 0 end d) (first_cursor start) ≡ map (told_of y) (prices_in y d start end)
unfolding part
told_message y d start end h = told_first y (part 0 end d) start ∙ ap (map (told_of y)) (front_in y d start end h)

-- what the workers answer
pub price_made
    : (y : Syntax) (d : List ℕ) (p : Held) (start e : ℕ) (a : Span) (n : Option Amount) (v w : ℤ) → a ≡ component_at y d p.lin.start p.lin.end 3 0
    → n ≡ price_in y (part start e d) → v ≡ amount_of n → w ≡ decimals_of n
    → (record { position = p.number; start = a.start; end = a.end; amount = v; decimals = w }, record { at = e; held = p })
    ≡ price_here y d p (part start e d) e
unfolding price_here
price_made y d p start e a n v w h k f g =
    λ i. (
      record {
        position = p.number;
        start = (h i).start;
        end = (h i).end;
        amount = (f ∙ ap amount_of k) i;
        decimals = (g ∙ ap decimals_of k) i;
      },
      record { at = e; held = p },
    )

module _ (y : Syntax) (d : List ℕ) (at : ℕ) (x : Option Spot) (here : x ≡ head_spot (segments_at y d at)) where
  pub none_here : (p : Held) → x ≡ None → None ≡ next_in y d p (segments_at y d at)
  unfolding next_in
  none_here p h = rw (spot-nothing y d at (sym h ∙ here))

  module _ (s : Spot) (is : x ≡ Some s) where
    took : Spotted y d at s
    took = spotted y d at s (sym is ∙ here)

    pub next-some : (at < s.end) × (s.end ≤ length d)
    next-some =
        let q = took.cuts in
        (omega (arith, q.later, q.some), q.fits)

    module _ (p : Held) where
      pub next-few : p.number ≤ at → (moved_by s.kind p s.start s.end).number ≤ s.end
      next-few h = moved-few s.kind p at s.start s.end h next-some.0

      next-next
          : next_by s.kind (price_here y d p (part s.start s.end d) s.end) (next_in y d (moved_by s.kind p s.start s.end) (segments_at y d s.end))
          ≡ next_in y d p (segments_at y d at)
      unfolding next_in
      next-next =
          let q = took.cuts in
          rw (q.list, found_end y d at s.start s.end took.piece q, ← took.kind)

      pub next_here : s.kind ≡ Pri → Some (price_here y d p (part s.start s.end d) s.end) ≡ next_in y d p (segments_at y d at)
      next_here h = rw h at next-next

      pub next_on : ¬ (s.kind ≡ Pri) → next_in y d (moved_by s.kind p s.start s.end) (segments_at y d s.end) ≡ next_in y d p (segments_at y d at)
      next_on h = go s.kind h next-next
        where
          go
              : (z : Kind) → ¬ (z ≡ Pri)
              → next_by z (price_here y d p (part s.start s.end d) s.end) (next_in y d (moved_by z p s.start s.end) (segments_at y d s.end))
              ≡ next_in y d p (segments_at y d at)
              → next_in y d (moved_by z p s.start s.end) (segments_at y d s.end) ≡ next_in y d p (segments_at y d at)
          go Pri f g = absurd (f refl)
          go Lin f g = g
          go Rng f g = g
          go Other f g = g

module _ (y : Syntax) (d : List ℕ) (end : ℕ) (c : Cursor) where
  pub price-past : c.at < c.held.number → None ≡ next_price y (part 0 end d) c
  unfolding next_price
  price-past h = rw (lt-ltb c.at c.held.number h)

  pub price-front
      : (r : Option Step) (x : Syntax) (b : List ℕ) → c.held.number ≤ c.at → x ≡ y → b ≡ part 0 end d
      → r ≡ next_in x b c.held (segments_at x b c.at) → r ≡ next_price y (part 0 end d) c
  unfolding next_price
  price-front r x b few same front k = rw (le-ltb c.at c.held.number few, ← same, ← front) k
