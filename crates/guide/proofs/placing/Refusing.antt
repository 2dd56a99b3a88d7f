-- An outcome is the only one, so a refusal is given exactly when its row says; and a refused segment cannot come next in any way.
use Prim.Native.Nat.{ℕ}
use mathlib.Core.Path.{◌≡◌, refl, sym, ◌∙◌, ap, ap₂}
use mathlib.Core.Logic.{◌⊎◌, inl, inr}
use native.Mathlib.Omega.{arith}
use lib.Dec.{T}
use Rattle.guide.specs.Nodes.{View, Guide, node, takes, paired, number_of}
use Rattle.guide.specs.Tree.{Kids, then, count, Open}
use Rattle.guide.specs.Steps.{
  Claim,
  Possible,
  At,
  here,
  below,
  Might,
  Done,
  Fresh,
  Full,
  Lacks,
  LacksBefore,
  Lowest,
  Gap,
  inside,
  itself,
  Short,
  closing,
  earlier,
  Lacking,
}
use Rattle.guide.specs.Answers.{Answer, placed, refused}
use Rattle.guide.specs.Meaning.{Outcome, moved, no_node, too_many, short}
use Rattle.guide.specs.workers.Checks.{Rising, Apart, Pairing}
use Rattle.guide.proofs.tables.Required.{required_cases, complete_come}
use Rattle.guide.proofs.placing.Meeting.{And, Met, meet}
use Rattle.guide.proofs.placing.Outcomes.{at_map}
use Rattle.guide.proofs.Pairs.{number-rows}

lowest-number : (g : Guide) (P : ℕ → Type 0) (m k : ℕ) → Lowest g P m → Lowest g P k → number_of g m ≡ number_of g k
lowest-number g P m k a b = omega (arith, a.lowest k b.holds, b.lowest m a.holds)

module _ {A : Type 0} (F : Claim A) (n : ℕ) {C : Type 0} where
  at_get : ((p : ℕ) (f : Kids A) → F p f n → C) → (p : ℕ) (f : Kids A) → At F p f n → C
  at_get h p f (here e) = h p f e
  at_get h p f (below {x = x} {k = k} d) = at_get h x k d

module _ {A : Type 0} (g : Guide) (pairs : Pairing g) where
  -- where something is missing, not everything is there
  gap_all : (x : ℕ) (k : Kids A) (m : ℕ) → Gap g x k m → ((m : ℕ) → Lacks g x k m → ⊥) → Done g k → ⊥
  unfolding Done
  gap_all x k m (inside {x = y} {k = j} e) a d =
      gap_all y j m e (λ m l. omega (arith, complete_come g y j d.0 m l.under l.required, l.missing)) d.1
  gap_all x k m (itself done l) a d = a m l.holds

  gap_done : (p : ℕ) (l : Kids A) (x : ℕ) (t : A) (k : Kids A) (m : ℕ) → Gap g x k m → Done g (then l x t k) → ⊥
  unfolding Done
  gap_done p l x t k m e d = gap_all x k m e (λ m l. omega (arith, complete_come g x k d.0 m l.under l.required, l.missing)) d.1

  -- of two rows with one number at most one is missing
  lacks-one : (p : ℕ) (f : Kids A) (m k : ℕ) → Lacks g p f m → Lacks g p f k → number_of g m ≡ number_of g k → m ≡ k
  lacks-one p f m k a b e = go (number-rows g pairs m k e)
    where
      go : (m ≡ k) ⊎ (T (paired g m) × ((node g m).partner ≡ k)) → m ≡ k
      go (inl q) = q
      go (inr (t, q)) =
          let come = required_cases g m (count f) (λ x. absurd ((pairs m t).free x)) (λ t i. i) a.required in
          absurd (omega (arith, come, ap (count f) q, b.missing))

  gap_one : (p : ℕ) (f : Kids A) (m k : ℕ) → Gap g p f m → Gap g p f k → m ≡ k
  gap_one p f m k (inside {x = x} {k = j} e) (inside h) = gap_one x j m k e h
  gap_one p f m k (inside {l = l} {x = x} {t = t} {k = j} e) (itself done h) = absurd (gap_done p l x t j m e done)
  gap_one p f m k (itself {f = then l x t j} done h) (inside e) = absurd (gap_done p l x t j k e done)
  gap_one p f m k (itself done h) (itself done' h') = lacks-one p f m k h.holds h'.holds (lowest-number g (Lacks g p f) m k h h')

  short-one : (p : ℕ) (f : Kids A) (n m k : ℕ) → Short g p f n m → Short g p f n k → m ≡ k
  short-one p f n m k (closing {x = x} {k = j} e) (closing h) = gap_one x j m k e h
  short-one p f n m k (closing {l = l} {x = x} {t = t} {k = j} e) (earlier done h) = absurd (gap_done p l x t j m e done)
  short-one p f n m k (earlier {f = then l x t j} done h) (closing e) = absurd (gap_done p l x t j k e done)
  short-one p f n m k (earlier done h) (earlier done' h') =
      lacks-one p f m k h.holds.lacks h'.holds.lacks (lowest-number g (LacksBefore g (node g n).counter p f) m k h h')

  short-fresh : (p : ℕ) (f : Kids A) (n m : ℕ) → Short g p f n m → Fresh g p f n → ⊥
  short-fresh p f n m (closing {l = l} {x = x} {t = t} {k = j} e) h = gap_done p l x t j m e h.done
  short-fresh p f n m (earlier done l) h =
      let b = l.holds in
      omega (arith, h.due m b.lacks.under b.lacks.required b.earlier, b.lacks.missing)

module _ {A : Type 0} (g : Guide) (view : A → View) (r : Rising g) (pairs : Pairing g) (a : Apart g) (f : Kids A) (s : A) (o : Open g view 0 f) where
  -- two outcomes speak of one node at one place
  together
      : (F G : Claim A) → Possible g F → Possible g G
      → (n m : ℕ) (d : At F 0 f n) (e : At G 0 f m) → T (takes g n (view s)) → T (takes g m (view s)) → Met F G 0 f n m d e
  together F G mf mg n m d e t u = meet g view r a (view s) F G mf mg 0 f n m d e o t u

  fresh-full : (n m k : ℕ) → At (Fresh g) 0 f n → At (Full g k) 0 f m → T (takes g n (view s)) → T (takes g m (view s)) → ⊥
  fresh-full n m k d e t u =
      let w = together (Fresh g) (Full g k) (λ p f n h. h.might) (λ p f n h. h.might) n m d e t u in
      at_get (And (Fresh g) (Full g k)) n (λ p f h. omega (arith, h.0.room, h.1.full)) 0 f w.both

  fresh-lacking : (n m k : ℕ) → At (Fresh g) 0 f n → At (Lacking g k) 0 f m → T (takes g n (view s)) → T (takes g m (view s)) → ⊥
  fresh-lacking n m k d e t u =
      let w = together (Fresh g) (Lacking g k) (λ p f n h. h.might) (λ p f n h. h.might) n m d e t u in
      at_get (And (Fresh g) (Lacking g k)) n (λ p f h. short-fresh g pairs p f n k h.1.short h.0) 0 f w.both

  full-lacking : (n m k j : ℕ) → At (Full g k) 0 f n → At (Lacking g j) 0 f m → T (takes g n (view s)) → T (takes g m (view s)) → ⊥
  full-lacking n m k j d e t u =
      let w = together (Full g k) (Lacking g j) (λ p f n h. h.might) (λ p f n h. h.might) n m d e t u in
      at_get (And (Full g k) (Lacking g j)) n (λ p f h. omega (arith, h.0.full, h.1.room)) 0 f w.both

  might_of : (F : Claim A) → Possible g F → (n : ℕ) → At F 0 f n → At (Might g) 0 f n
  might_of F mi n d = at_map F (Might g) n (λ p f h. mi p f n h) 0 f d

  -- Where a segment is refused, no node can come next with it.
  pub barred : {k m : ℕ} → Outcome g view f s (refused k m) → (n : ℕ) → T (takes g n (view s)) → At (Fresh g) 0 f n → ⊥
  barred (no_node never) n t d = never n t (might_of (Fresh g) (λ p f n h. h.might) n d)
  barred (too_many {n = m} {k = k} u e) n t d = fresh-full n m k d e t u
  barred (short {n = m} {m = k} u e) n t d = fresh-lacking n m k d e t u

  -- The outcome is the only one.
  pub one_outcome : (x y : Answer) → Outcome g view f s x → Outcome g view f s y → x ≡ y
  one_outcome x y (moved {n = n} t d) (moved {n = m} u e) =
      ap placed (together (Fresh g) (Fresh g) (λ p f n h. h.might) (λ p f n h. h.might) n m d e t u).number
  one_outcome x y (moved {n = n} t d) (no_node never) = absurd (never n t (might_of (Fresh g) (λ p f n h. h.might) n d))
  one_outcome x y (moved {n = n} t d) (too_many {n = m} {k = k} u e) = absurd (fresh-full n m k d e t u)
  one_outcome x y (moved {n = n} t d) (short {n = m} {m = k} u e) = absurd (fresh-lacking n m k d e t u)
  one_outcome x y (no_node never) (moved {n = n} t d) = absurd (never n t (might_of (Fresh g) (λ p f n h. h.might) n d))
  one_outcome x y (no_node never) (no_node _) = refl
  one_outcome x y (no_node never) (too_many {n = n} {k = k} t d) = absurd (never n t (might_of (Full g k) (λ p f n h. h.might) n d))
  one_outcome x y (no_node never) (short {n = n} {m = k} t d) = absurd (never n t (might_of (Lacking g k) (λ p f n h. h.might) n d))
  one_outcome x y (too_many {n = m} {k = k} u e) (moved {n = n} t d) = absurd (fresh-full n m k d e t u)
  one_outcome x y (too_many {n = n} {k = k} t d) (no_node never) = absurd (never n t (might_of (Full g k) (λ p f n h. h.might) n d))
  one_outcome x y (too_many {n = n} {k = k} t d) (too_many {n = m} {k = j} u e) =
      let w = together (Full g k) (Full g j) (λ p f n h. h.might) (λ p f n h. h.might) n m d e t u in
      ap₂ refused (at_get (And (Full g k) (Full g j)) n (λ p f h. h.0.number ∙ sym h.1.number) 0 f w.both) w.number
  one_outcome x y (too_many {n = n} {k = k} t d) (short {n = m} {m = j} u e) = absurd (full-lacking n m k j d e t u)
  one_outcome x y (short {n = m} {m = k} u e) (moved {n = n} t d) = absurd (fresh-lacking n m k d e t u)
  one_outcome x y (short {n = n} {m = k} t d) (no_node never) = absurd (never n t (might_of (Lacking g k) (λ p f n h. h.might) n d))
  one_outcome x y (short {n = m} {m = j} u e) (too_many {n = n} {k = k} t d) = absurd (full-lacking n m k j d e t u)
  one_outcome x y (short {n = n} {m = k} t d) (short {n = m} {m = j} u e) =
      let w = together (Lacking g k) (Lacking g j) (λ p f n h. h.might) (λ p f n h. h.might) n m d e t u in
      ap (refused 14) (at_get (And (Lacking g k) (Lacking g j)) n (λ p f h. short-one g pairs p f n k j h.0.short h.1.short) 0 f w.both)
