-- A beginning grows by one segment at a time: a step makes a beginning, and every beginning that is not empty is made by a step. The first
-- asks of the table that the two rows of a pair share a place, so that a segment never makes a node of an earlier counter required; the second asks nothing.
use Prim.Native.Nat.{ℕ, ◌+◌, ◌≤◌, ◌<◌}
use mathlib.Core.Path.{◌≡◌, refl, sym, ap}
use mathlib.Core.Bool.{Bool, true, false}
use mathlib.Core.List.{[], ◌∷◌, ◌++◌, map, append_assoc}
use native.Mathlib.Omega.{arith}
use lib.Dec.{T, eqb}
use borrow.Author.Tests.{eqb-true}
use Rattle.guide.specs.Nodes.{View, Guide, node, takes, paired}
use Rattle.guide.specs.Tree.{Kids, none, then, Given, one, segs, giving, assigned, count, top, Limits, Due, Next, Closed, Open}
use Rattle.guide.specs.Steps.{Claim, At, here, below, add, Done, Fresh}
use Rattle.guide.proofs.Basics.{map-append, one_same, one-other}
use Rattle.guide.specs.workers.Checks.{Pairing}
use Rattle.guide.proofs.tables.Required.{required_more, complete_come}

module _ {A : Type 0} where
  -- the new segment stands last
  pub segs-add : {F : Claim A} {p : ℕ} {f : Kids A} {n : ℕ} (d : At F p f n) (s : A) → segs (add d s) ≡ segs f ++ (s ∷ [])
  segs-add (here h) s = refl
  segs-add (below {l = l} {t = t} {k = k} d) s = rw (segs-add d s) (sym (append_assoc (segs l) (t ∷ segs k) (s ∷ [])))

  pub assigned-add
      : {F : Claim A} {p : ℕ} {f : Kids A} {n : ℕ} (d : At F p f n) (s : A)
      → assigned (add d s) ≡ assigned f ++ (giving n s ∷ [])
  assigned-add (here h) s = refl
  assigned-add {n = n} (below {l = l} {x = x} {t = t} {k = k} d) s =
      rw (assigned-add d s)
      (sym (append_assoc (assigned l) (giving x t ∷ assigned k) (giving n s ∷ [])))

  -- the segments of a tree are those that it gives nodes
  pub assigned-segments : (f : Kids A) → map (λ (x : Given A). x.segment) (assigned f) ≡ segs f
  assigned-segments none = refl
  assigned-segments (then l n s k) =
      rw (map-append (λ (x : Given A). x.segment) (assigned l) (giving n s ∷ assigned k), assigned-segments l, assigned-segments k)

  count-within : (f : Kids A) (n m c : ℕ) → count f m ≤ c → (n ≡ m → count f m < c) → count f m + one (eqb n m) ≤ c
  count-within f n m c h k = go (eqb n m) refl
    where
      go : (b : Bool) → eqb n m ≡ b → count f m + one b ≤ c
      go true e = omega (arith, k (eqb-true n m e))
      go false e = omega arith

module _ {A : Type 0} (g : Guide) (view : A → View) where
  -- the children f of an instance of p begin as a message does
  pub record Begun (p : ℕ) (f : Kids A) : Type 0 where
    pub opened : Open g view p f
    pub limits : Limits g p f
    pub due : Due g p (top g f) f

  pub closed_open : (p : ℕ) (f : Kids A) → Closed g view p f → Open g view p f
  unfolding Closed Open
  closed_open p none c = tt
  closed_open p (then l n s k) c = (c.0, c.1, closed_open n k c.2, c.3, λ m e r i. complete_come g n k c.4 m e r)

  closed-done : (p : ℕ) (f : Kids A) → Closed g view p f → Done g f
  unfolding Closed Done
  closed-done p none c = tt
  closed-done p (then l n s k) c = (c.4, closed-done n k c.2)

  pub close : (p : ℕ) (f : Kids A) → Open g view p f → Done g f → Closed g view p f
  unfolding Closed Open Done
  close p none o d = tt
  close p (then l n s k) o d = (o.0, o.1, close n k o.2 d.1, o.3, d.0)

  -- the last child with its own children begins too
  pub begun-last : (p : ℕ) (l : Kids A) (n : ℕ) (s : A) (k : Kids A) → Open g view p (then l n s k) → Begun n k
  unfolding Open
  begun-last p l n s k o = record { opened = o.2; limits = o.3; due = o.4 }

  -- and may be put in its place
  pub begun_again : (p : ℕ) (l : Kids A) (n : ℕ) (s : A) (k j : Kids A) → Begun p (then l n s k) → Begun n j → Begun p (then l n s j)
  unfolding Open
  begun_again p l n s k j b c =
      let o = b.opened in
      record {
        opened = (o.0, o.1, c.opened, c.limits, c.due);
        limits = b.limits;
        due = λ m e r i. b.due m e (required_more g m (count (then l n s j)) (count (then l n s k)) (λ h. omega arith) r) i;
      }

  -- before the first child
  pub begun-none : (p : ℕ) → Begun p none
  unfolding Open
  begun-none p = record { opened = tt; limits = λ m e. omega arith; due = λ m e r i. absurd (omega arith) }

  -- a step from a beginning makes a beginning
  pub sound
      : Pairing g → (p : ℕ) (f : Kids A) (n : ℕ) (s : A) → Begun p f → (d : At (Fresh g) p f n) → T (takes g n (view s))
      → Begun p (add d s)
  unfolding Open
  sound pairs p f n s b (here h) t =
      let next : Next g view p f n s = record { takes = t; under = h.might.under; order = h.might.order } in
      let empty = begun-none n in
      record {
        opened = (close p f b.opened h.done, next, empty.opened, empty.limits, empty.due);
        limits = λ m e. count-within f n m (node g m).limit (b.limits m e) (λ (q : n ≡ m). rw q at h.room);
        due =
            λ m e r i.
            let other : T (paired g m) → n ≡ (node g m).partner → ⊥ =
            λ t q. omega (arith, (pairs m t).counters, ap (λ (x : ℕ). (node g x).counter) q)
            in
            let before =
            required_more g m (count (then f n s none)) (count f) (λ t. omega (arith, one-other n (node g m).partner (other t))) r
            in
            omega (arith, h.due m e before i);
      }
  sound pairs p f n s b (below {l = l} {x = x} {t = t} {k = k} d) u =
      begun_again p l x t k (add d s) b (sound pairs x k n s (begun-last p l x t k b.opened) d u)

  -- what a beginning was before its last segment
  pub record Grown (p : ℕ) (f : Kids A) : Type 0 where
    pub before : Kids A
    pub number : ℕ
    pub segment : A
    pub begun : Begun p before
    pub takes : T (takes g number (view segment))
    pub step : At (Fresh g) p before number
    pub same : add step segment ≡ f

  grown-last : (p : ℕ) (l : Kids A) (n : ℕ) (s : A) → Begun p (then l n s none) → Grown p (then l n s none)
  unfolding Open
  grown-last p l n s b =
      let o = b.opened in
      let next = o.1 in
      let due : Due g p (node g n).counter l =
      λ m e r i.
      let other : (n ≡ m) → ⊥ = λ q. omega (arith, ap (λ (x : ℕ). (node g x).counter) q) in
      omega (arith, b.due m e (required_more g m (count l) (count (then l n s none)) (λ h. omega arith) r) i, one-other n m other)
      in
      record {
        before = l;
        number = n;
        segment = s;
        begun = record {
          opened = closed_open p l o.0;
          limits = λ m e. omega (arith, b.limits m e);
          due = λ m e r i. due m e r (omega (arith, next.order));
        };
        takes = next.takes;
        step = here {p = p} {f = l} {n = n} (record {
          might = record { under = next.under; order = next.order };
          room = omega (arith, b.limits n next.under, one_same n n refl);
          due = due;
          done = closed-done p l o.0;
        });
        same = refl;
      }

  pub grown : (p : ℕ) (l : Kids A) (n : ℕ) (s : A) (k : Kids A) → Begun p (then l n s k) → Grown p (then l n s k)
  grown p l n s none b = grown-last p l n s b
  grown p l n s (then h x t k) b =
      let i = grown n h x t k (begun-last p l n s (then h x t k) b.opened) in
      record {
        before = then l n s i.before;
        number = i.number;
        segment = i.segment;
        begun = begun_again p l n s (then h x t k) i.before b i.begun;
        takes = i.takes;
        step = below i.step;
        same = ap (λ (j : Kids A). then l n s j) i.same;
      }
