-- Two places for one segment are the same place; so one list of segments has at most one tree.
use Prim.Native.Nat.{ℕ, zero, suc, ◌≤◌, ◌<◌}
use mathlib.Core.Path.{◌≡◌, refl, sym, ◌∙◌, ap, subst}
use mathlib.Core.List.{List, [], ◌∷◌, ◌++◌}
use native.Mathlib.Nat.{le_refl}
use native.Mathlib.Omega.{arith}
use lib.ListN.{length, length-append}
use lib.Dec.{T}
use Rattle.guide.specs.Nodes.{View, Guide, node, takes}
use Rattle.guide.specs.Tree.{Kids, none, then, segs, Open}
use Rattle.guide.specs.Steps.{Claim, Possible, At, here, below, add, Fresh}
use Rattle.guide.specs.workers.Checks.{Rising, Under, child, deeper, Apart}
use Rattle.guide.proofs.tables.Tables.{takes-limit}
use Rattle.guide.proofs.placing.Growing.{segs-add, Begun, Grown, grown}

module _ {A : Type 0} where
  -- both hold
  abbrev pub And : Claim A → Claim A → Claim A
  And F G p f n = F p f n × G p f n

  pub record Met (F G : Claim A) (p : ℕ) (f : Kids A) (n m : ℕ) (d : At F p f n) (e : At G p f m) : Type 0 where
    pub number : n ≡ m
    pub tree : (s : A) → add d s ≡ add e s
    pub both : At (And F G) p f n

  snoc_length : (xs : List A) (x : A) → length (xs ++ (x ∷ [])) ≡ suc (length xs)
  snoc_length xs x = omega (arith, length-append xs (x ∷ []))

  snoc_front : (xs ys : List A) (x y : A) → xs ++ (x ∷ []) ≡ ys ++ (y ∷ []) → xs ≡ ys
  snoc_front [] [] x y h = refl
  snoc_front [] (b ∷ ys) x y h = absurd (omega (arith, ap length h, snoc_length ys y))
  snoc_front (a ∷ xs) [] x y h = absurd (omega (arith, ap length h, snoc_length xs x))
  snoc_front (a ∷ xs) (b ∷ ys) x y h =
      let q : a ≡ b = cc in
      let t : xs ++ (x ∷ []) ≡ ys ++ (y ∷ []) = cc in
      let i = snoc_front xs ys x y t in
      cc

  snoc_last : (xs ys : List A) (x y : A) → xs ++ (x ∷ []) ≡ ys ++ (y ∷ []) → x ≡ y
  snoc_last [] [] x y h = cc
  snoc_last [] (b ∷ ys) x y h = absurd (omega (arith, ap length h, snoc_length ys y))
  snoc_last (a ∷ xs) [] x y h = absurd (omega (arith, ap length h, snoc_length xs x))
  snoc_last (a ∷ xs) (b ∷ ys) x y h = snoc_last xs ys x y (cc)

under_up : (g : Guide) (x y m : ℕ) → Under g y m → (node g y).parent ≡ x → (node g y).parent < y → Under g x m
under_up g x y m (child e) a b = deeper e b (child a)
under_up g x y m (deeper {y = z} e r u) a b = deeper e r (under_up g x y z u a b)

module _ {A : Type 0} (g : Guide) (view : A → View) (r : Rising g) where
  -- what comes below an instance is inside it
  pub at_under
      : (F : Claim A) → Possible g F → (p : ℕ) (f : Kids A) (n : ℕ) → At F p f n → Open g view p f
      → Under g p n
  unfolding Open
  at_under F mi p f n (here h) o = child (mi p f n h).under
  at_under F mi p f n (below {x = x} {k = k} d) o =
      let next = o.1 in
      let u = next.under in
      let rise = r.rises x (takes-limit g x _ next.takes) in
      under_up g p x n (at_under F mi x k n d o.2) u rise

  module _ (a : Apart g) (v : View) where
    pub meet
        : (F G : Claim A) → Possible g F
        → Possible g G → (p : ℕ) (f : Kids A) (n m : ℕ) (d : At F p f n) (e : At G p f m) → Open g view p f
        → T (takes g n v) → T (takes g m v) → Met F G p f n m d e
    unfolding Open
    meet F G mf mg p f n m (here h) (here k) o t u =
        let q = a.one_node n m v t u ((mf p f n h).under ∙ sym (mg p f m k).under) in
        record {
          number = q;
          tree = λ s. ap (λ (x : ℕ). then f x s none) q;
          both = here {p = p} {f = f} {n = n} (h, subst (λ (x : ℕ). G p f x) (sym q) k);
        }
    meet F G mf mg p f n m (here h) (below {x = x} {k = k} e) o t u =
        let next = o.1 in
        absurd (a.outside n m x v t u (at_under G mg x k m e o.2) (next.under ∙ sym (mf p f n h).under) (mf p f n h).order)
    meet F G mf mg p f n m (below {x = x} {k = k} d) (here h) o t u =
        let next = o.1 in
        absurd (a.outside m n x v u t (at_under F mf x k n d o.2) (next.under ∙ sym (mg p f m h).under) (mg p f m h).order)
    meet F G mf mg p f n m (below {l = l} {x = x} {t = t'} {k = k} d) (below e) o t u =
        let i = meet F G mf mg x k n m d e o.2 t u in
        record {
          number = i.number;
          tree = λ s. ap (λ (j : Kids A). then l x t' j) (i.tree s);
          both = below i.both;
        }

  module _ (a : Apart g) where
    fresh-might : Possible {A = A} g (Fresh g)
    fresh-might p f n h = h.might

    one_step
        : (f : Kids A) (n m : ℕ) (s : A) (d : At (Fresh g) 0 f n) (e : At (Fresh g) 0 f m) → Open g view 0 f → T (takes g n (view s))
        → T (takes g m (view s))
        → add d s ≡ add e s
    one_step f n m s d e o t u = (meet a (view s) (Fresh g) (Fresh g) fresh-might fresh-might 0 f n m d e o t u).tree s

    joined
        : {f h : Kids A} (x : Grown g view 0 f) (y : Grown g view 0 h) → x.before ≡ y.before → x.segment ≡ y.segment
        → add x.step x.segment ≡ add y.step y.segment
    joined x y j q =
        subst (λ (k : Kids A). (e : At (Fresh g) 0 k y.number) → add x.step x.segment ≡ add e y.segment) j
        (λ e.
        subst (λ (t : A). T (takes g y.number (view t)) → add x.step x.segment ≡ add e t) q
        (λ u. one_step x.before x.number y.number x.segment x.step e x.begun.opened x.takes u) y.takes)
        y.step

    -- f is the only beginning with its segments
    abbrev Only : Kids A → Type 0
    Only f = (h : Kids A) → Begun g view 0 h → segs f ≡ segs h → f ≡ h

    abbrev OnlyTo : ℕ → Type 0
    OnlyTo c = (f : Kids A) → length (segs f) ≤ c → Begun g view 0 f → Only f

    only_none : Only none
    only_none none d e = refl
    only_none (then l n s k) d e = absurd (omega (arith, ap length e, length-append (segs l) (s ∷ segs k)))

    only-grown : (c : ℕ) → OnlyTo c → {f h : Kids A} → length (segs f) ≤ suc c → Grown g view 0 f → Grown g view 0 h → segs f ≡ segs h → f ≡ h
    only-grown c ih {f = f} {h = h} i x y e =
        let xs : segs f ≡ segs x.before ++ (x.segment ∷ []) = ap segs (sym x.same) ∙ segs-add x.step x.segment in
        let ys : segs h ≡ segs y.before ++ (y.segment ∷ []) = ap segs (sym y.same) ∙ segs-add y.step y.segment in
        let both = sym xs ∙ e ∙ ys in
        let front = snoc_front (segs x.before) (segs y.before) x.segment y.segment both in
        let last = snoc_last (segs x.before) (segs y.before) x.segment y.segment both in
        let shorter : length (segs x.before) ≤ c = omega (arith, ap length xs, snoc_length (segs x.before) x.segment) in
        sym x.same ∙ (joined x y (ih x.before shorter x.begun y.before y.begun front) last ∙ y.same)

    Only_then
        : (c : ℕ) → OnlyTo c → (l : Kids A) (n : ℕ) (s : A) (k : Kids A) → length (segs (then l n s k)) ≤ suc c → Begun g view 0 (then l n s k)
        → Only (then l n s k)
    Only_then c ih l n s k i b none d e = absurd (omega (arith, ap length e, length-append (segs l) (s ∷ segs k)))
    Only_then c ih l n s k i b (then l' n' s' k') d e = only-grown c ih i (grown g view 0 l n s k b) (grown g view 0 l' n' s' k' d) e

    only_zero : OnlyTo zero
    only_zero none i b = only_none
    only_zero (then l n s k) i b = absurd (omega (arith, length-append (segs l) (s ∷ segs k)))

    only_more : (c : ℕ) → OnlyTo c → OnlyTo (suc c)
    only_more c ih none i b = only_none
    only_more c ih (then l n s k) i b = Only_then c ih l n s k i b

    only-to : (c : ℕ) → OnlyTo c
    only-to zero = only_zero
    only-to (suc c) = only_more c (only-to c)

    -- one list of segments has at most one tree
    pub one-tree : (f h : Kids A) → Begun g view 0 f → Begun g view 0 h → segs f ≡ segs h → f ≡ h
    one-tree f h b d e = only-to (length (segs f)) f (le_refl (length (segs f))) b h d e
