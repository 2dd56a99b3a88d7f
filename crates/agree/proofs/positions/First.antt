-- The first listed position that agrees with an earlier one: those before it do not, and it agrees with one of them.
use Prim.Native.Nat.{ℕ}
use mathlib.Core.Path.{◌≡◌, refl, sym, ap, ap₂}
use mathlib.Core.Bool.{Bool, true, false, cond, ◌||◌, false≢true}
use mathlib.Core.List.Memᴰ
use mathlib.Core.List.{
  List,
  [],
  ◌∷◌,
  ◌++◌,
  map,
  append_assoc,
  append-nil,
  head-eq_of_cons-eq,
  tail-eq_of_cons-eq,
  nil≢cons,
  Memᴰ,
}
use mathlib.Core.Logic.{◌⊎◌, inl, inr}
use native.Mathlib.Omega.{arith}
use Rattle.cut.specs.declared.service.Syntax.{Syntax}
use Rattle.guide.specs.Sheet.{Position}
use Rattle.guide.specs.Accepted.{Agree}
use Rattle.guide.proofs.pages.Listing.{or_right}
use Rattle.agree.specs.Agreement.{Heading, heading_of, agree}
use Rattle.agree.specs.Positions.{Listed, agreeing_at, agrees_any, first_after}
use Rattle.std.specs.Prelude.{Some, None}
use Rattle.agree.proofs.Texts.{heading-agree, agree-heading}
use Rattle.agree.proofs.Distinct.{headings, listed, agreeing-same}

module _ {A B : Type 0} (f : A → B) where
  -- a list whose images split at one of them splits there
  pub record Divided (xs : List A) (bs : List B) (c : B) : Type 0 where
    pub before : List A
    pub item : A
    pub after : List A
    pub all : xs ≡ before ++ (item ∷ after)
    pub images : map f before ≡ bs
    pub image : f item ≡ c

  pub divided : (xs : List A) (bs : List B) (c : B) (ds : List B) → map f xs ≡ bs ++ (c ∷ ds) → Divided xs bs c
  divided [] [] c ds e = absurd (nil≢cons e)
  divided [] (b ∷ bs) c ds e = absurd (nil≢cons e)
  divided (x ∷ xs) [] c ds e = record { before = []; item = x; after = xs; all = refl; images = refl; image = head-eq_of_cons-eq e }
  divided (x ∷ xs) (b ∷ bs) c ds e =
      let r = divided xs bs c ds (tail-eq_of_cons-eq e) in
      record {
        before = x ∷ r.before;
        item = r.item;
        after = r.after;
        all = ap (λ (zs : List A). x ∷ zs) r.all;
        images = ap₂ (λ (z : B) (zs : List B). z ∷ zs) (head-eq_of_cons-eq e) r.images;
        image = r.image;
      }

module _ (y : Syntax) where
  -- q is the first of qs that agrees with one of the earlier ones es or with one before it
  pub record FirstIn (es : List Heading) (qs : List Listed) (q : Listed) : Type 0 where
    pub before : List Listed
    pub after : List Listed
    pub all : qs ≡ before ++ (q ∷ after)
    pub none : first_after y es before ≡ None
    pub agrees : agrees_any y q.heading (es ++ listed before) ≡ true

  abbrev Finds : List Listed → Type 0
  Finds qs = (es : List Heading) (i a : ℕ) → first_after y es qs ≡ Some (agreeing_at i a) → (q : Listed) × FirstIn es qs q × (i ≡ q.number) × (a ≡ q.place)

  find_step : (q : Listed) (qs : List Listed) → Finds qs → Finds (q ∷ qs)
  unfolding first_after
  find_step q qs ih es i a e = go (agrees_any y q.heading es) refl e
    where
      go
          : (b : Bool) → agrees_any y q.heading es ≡ b → cond b (Some (agreeing_at q.number q.place)) (first_after y (es ++ (q.heading ∷ [])) qs)
          ≡ Some (agreeing_at i a)
          → (z : Listed) × FirstIn es (q ∷ qs) z × (i ≡ z.number) × (a ≡ z.place)
      go true d f =
          let same = agreeing-same q.number q.place i a f in
          (q, record { before = []; after = qs; all = refl; none = refl; agrees = rw append-nil d }, sym same.0, sym same.1)
      go false d f =
          let r = ih (es ++ (q.heading ∷ [])) i a f in
          let p = r.1 in (
            r.0,
            record {
              before = q ∷ p.before;
              after = p.after;
              all = rw p.all;
              none = rw d p.none;
              agrees = rw append_assoc at p.agrees;
            },
            r.2,
            r.3,
          )

  pub find_first : (qs : List Listed) → Finds qs
  unfolding first_after
  find_first [] es i a e = absurd (let z : ◌≡◌ {A = ℕ} 0 1 = cc in omega arith)
  find_first (q ∷ qs) es i a e = find_step q qs (find_first qs) es i a e

  -- and such a one is found
  pub first_found
      : (es : List Heading) (before : List Listed) (q : Listed) (after : List Listed) → first_after y es before ≡ None
      → agrees_any y q.heading (es ++ listed before) ≡ true → first_after y es (before ++ (q ∷ after)) ≡ Some (agreeing_at q.number q.place)
  unfolding first_after
  first_found es [] q after e d =
      let z : agrees_any y q.heading es ≡ true = rw append-nil at d in
      rw z
  first_found es (b ∷ before) q after e d =
      go (agrees_any y b.heading es) refl e (first_found (es ++ (b.heading ∷ [])) before q after)
    where
      rest : agrees_any y q.heading ((es ++ (b.heading ∷ [])) ++ listed before) ≡ true
      rest = rw append_assoc d

      go
          : (c : Bool) → agrees_any y b.heading es ≡ c → cond c (Some (agreeing_at b.number b.place)) (first_after y (es ++ (b.heading ∷ [])) before) ≡ None
          → (first_after y (es ++ (b.heading ∷ [])) before ≡ None
          → agrees_any y q.heading ((es ++ (b.heading ∷ [])) ++ listed before) ≡ true
          → first_after y (es ++ (b.heading ∷ [])) (before ++ (q ∷ after)) ≡ Some (agreeing_at q.number q.place))
          → cond c (Some (agreeing_at b.number b.place)) (first_after y (es ++ (b.heading ∷ [])) (before ++ (q ∷ after))) ≡ Some (agreeing_at q.number q.place)
      go true i f ih = absurd (let z : ◌≡◌ {A = ℕ} 0 1 = cc in omega arith)
      go false i f ih = ih f rest

  -- a position that agrees with one of these
  pub any-earlier
      : (p : Position) (es : List Position) → agrees_any y (heading_of p) (headings es) ≡ true → (e : Position) × Memᴰ e es × Agree y e p
  unfolding agrees_any
  any-earlier p [] h = absurd (false≢true h)
  any-earlier p (e ∷ es) h = go (agree y (heading_of e) (heading_of p)) refl h (any-earlier p es)
    where
      go
          : (b : Bool) → agree y (heading_of e) (heading_of p) ≡ b → b || agrees_any y (heading_of p) (headings es) ≡ true
          → (agrees_any y (heading_of p) (headings es) ≡ true → (e : Position) × Memᴰ e es × Agree y e p)
          → (z : Position) × Memᴰ z (e ∷ es) × Agree y z p
      go true k n ih = (e, Memᴰ.head refl, heading-agree y e p k)
      go false k n ih =
          let r = ih n in
          (r.0, Memᴰ.tail r.1, r.2)

  pub earlier-any
      : (p e : Position) (es : List Position) → Memᴰ e es → Agree y e p → agrees_any y (heading_of p) (headings es) ≡ true
  unfolding agrees_any
  earlier-any p e [] m a = absurd (Memᴰ.not-nil m)
  earlier-any p e (z ∷ es) m a = go (Memᴰ.cases_cons m) (earlier-any p e es)
    where
      go
          : (e ≡ z) ⊎ Memᴰ e es → (Memᴰ e es → Agree y e p → agrees_any y (heading_of p) (headings es) ≡ true)
          → agree y (heading_of z) (heading_of p) || agrees_any y (heading_of p) (headings es) ≡ true
      go (inl q) ih = rw (← q, agree-heading y e p a)
      go (inr k) ih = or_right (agree y (heading_of z) (heading_of p)) (agrees_any y (heading_of p) (headings es)) (ih k a)
