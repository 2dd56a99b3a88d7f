-- The first LIN that agrees with an earlier one is one: of two splits of a list neither front reaches over the other's element.
use Prim.Native.Nat.{ℕ, ◌≤◌, ◌<◌}
use mathlib.Core.Path.{◌≡◌, sym, ap, ◌∙◌, subst}
use mathlib.Core.Logic.{◌⊎◌, inl, inr}
use mathlib.Core.List.Memᴰ
use mathlib.Core.List.{
  List,
  [],
  ◌∷◌,
  ◌++◌,
  Memᴰ,
  head-eq_of_cons-eq,
  tail-eq_of_cons-eq,
}
use native.Mathlib.Omega.{arith}
use lib.ListN.{length, length-append}
use lib.Dec.{T}
use Rattle.cut.specs.declared.service.Syntax.{Syntax}
use Rattle.bytewise.specs.Bytes.{bytes_of}
use Rattle.cut.specs.Segments.{Segment}
use Rattle.guide.specs.Nodes.{Guide}
use Rattle.guide.specs.Tree.{Kids, Given, giving}
use Rattle.guide.specs.Sheet.{Position, is_tag, with_tag}
use Rattle.guide.specs.Accepted.{Each, Agree, Distinct}
use Rattle.guide.specs.Refusal.{Repeated}
use Rattle.guide.proofs.Basics.{true-T}
use Rattle.guide.proofs.Lines.{with_tag-append}

module _ {A : Type 0} where
  -- the front us of one split is no longer than the front xs of another, or reaches over its element x
  pub data Reach (xs : List A) (x : A) (us : List A) : Type 0 where
    short : length us ≤ length xs → Reach xs x us
    over : (ws : List A) → us ≡ xs ++ (x ∷ ws) → Reach xs x us

  reach : (xs zs us vs : List A) (x u : A) → xs ++ (x ∷ zs) ≡ us ++ (u ∷ vs) → Reach xs x us
  reach [] zs [] vs x u e = short (omega arith)
  reach [] zs (v ∷ us) vs x u e = over us (ap (λ (w : A). w ∷ us) (sym (head-eq_of_cons-eq e)))
  reach (z ∷ xs) zs [] vs x u e = short (omega arith)
  reach (z ∷ xs) zs (v ∷ us) vs x u e = go (reach xs zs us vs x u (tail-eq_of_cons-eq e))
    where
      go : Reach xs x us → Reach (z ∷ xs) x (v ∷ us)
      go (short l) = short (omega arith)
      go (over ws q) =
          let h : z ≡ v = head-eq_of_cons-eq e in
          over ws (cc)

  -- behind equally many stands the same element
  pub same_middle : (xs zs us vs : List A) (x u : A) → xs ++ (x ∷ zs) ≡ us ++ (u ∷ vs) → length xs ≡ length us → x ≡ u
  same_middle [] zs [] vs x u e l = head-eq_of_cons-eq e
  same_middle [] zs (v ∷ us) vs x u e l = absurd (omega arith)
  same_middle (z ∷ xs) zs [] vs x u e l = absurd (omega arith)
  same_middle (z ∷ xs) zs (v ∷ us) vs x u e l = same_middle xs zs us vs x u (tail-eq_of_cons-eq e) (omega arith)

  each_at : (P : A → Type 0) (xs zs : List A) (x : A) → Each P (xs ++ (x ∷ zs)) → P x
  unfolding Each
  each_at P [] zs x h = h.0
  each_at P (y ∷ xs) zs x h = each_at P xs zs x h.1

module _ (y : Syntax) where
  -- where one agrees with an earlier one, no list that holds both is distinct
  not-distinct : (ps ws : List Position) (r e : Position) → Memᴰ e ps → Agree y e r → Distinct y (ps ++ (r ∷ ws)) → ⊥
  unfolding Distinct
  not-distinct [] ws r e m a d = Memᴰ.not-nil m
  not-distinct (p ∷ ps) ws r e m a d = go (Memᴰ.cases_cons m) (not-distinct ps ws r e)
    where
      go : (e ≡ p) ⊎ Memᴰ e ps → (Memᴰ e ps → Agree y e r → Distinct y (ps ++ (r ∷ ws)) → ⊥) → ⊥
      go (inl q) ih = each_at (λ (z : Position). Agree y p z → ⊥) ps ws r d.0 (subst (λ (z : Position). Agree y z r) q a)
      go (inr q) ih = ih q a d.1

module _ (g : Guide) where
  -- a LIN more
  more_lines
      : (front ws : List (Given Segment)) (n : ℕ) (s : Segment) → T (is_tag g (bytes_of "LIN") n)
      → length (with_tag g (bytes_of "LIN") front) < length (with_tag g (bytes_of "LIN") (front ++ (giving n s ∷ ws)))
  unfolding with_tag
  more_lines front ws n s t =
      rw (with_tag-append g (bytes_of "LIN") front (giving n s ∷ ws), length-append, true-T (is_tag g (bytes_of "LIN") n) t) (omega arith)

module _ (y : Syntax) (g : Guide) (tree : Kids Segment) where
  -- no later than another that repeats
  no_later : {i a n j b k : ℕ} (r : Repeated y g tree i a n) (s : Repeated y g tree j b k) → length s.before ≤ length r.before
  no_later r s = go (reach r.before r.after s.before s.after r.repeats s.repeats (sym r.positions ∙ s.positions))
    where
      go : Reach r.before r.repeats s.before → length s.before ≤ length r.before
      go (short l) = l
      go (over ws q) = absurd (not-distinct y r.before ws r.repeats r.earlier r.among r.agrees (subst (Distinct y) q s.distinct))

  no_longer
      : {i a n j b k : ℕ} (r : Repeated y g tree i a n) (s : Repeated y g tree j b k) → length r.before ≡ length s.before
      → length s.front ≤ length r.front
  no_longer {n = n} r s e =
      go (reach r.front r.back s.front s.back (giving n r.repeats.lin) _ (sym r.segments ∙ s.segments))
    where
      go : Reach r.front (giving n r.repeats.lin) s.front → length s.front ≤ length r.front
      go (short l) = l
      go (over ws q) =
          let more = more_lines g r.front ws n r.repeats.lin r.line in
          absurd (omega (arith, more, ap (λ (z : List (Given Segment)). length (with_tag g (bytes_of "LIN") z)) q, r.lines, s.lines))

  pub repeated-one : (i a n j b k : ℕ) → Repeated y g tree i a n → Repeated y g tree j b k → (i ≡ j) × (a ≡ b) × (n ≡ k)
  repeated-one i a n j b k r s =
      let before : length r.before ≡ length s.before = omega (arith, no_later r s, no_later s r) in
      let front : length r.front ≡ length s.front = omega (arith, no_longer r s before, no_longer s r (sym before)) in
      let given =
      same_middle r.front r.back s.front s.back (giving n r.repeats.lin) (giving k s.repeats.lin) (sym r.segments ∙ s.segments) front
      in (
        omega (arith, r.number, s.number),
        r.place ∙ ap (λ (z : Given Segment). z.segment.start) given ∙ sym s.place,
        ap (λ (z : Given Segment). z.node) given,
      )
