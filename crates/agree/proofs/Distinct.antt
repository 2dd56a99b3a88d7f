-- Where no position agrees with an earlier one, no two positions agree, and the other way round.
use Prim.Native.Nat.{ℕ}
use mathlib.Core.Path.{◌≡◌, refl, sym, ap, ◌∙◌}
use mathlib.Core.Bool.{Bool, true, false, cond, ◌||◌, true≢false}
use mathlib.Core.List.{List, [], ◌∷◌, ◌++◌, map, head-eq_of_cons-eq, tail-eq_of_cons-eq, nil≢cons}
use native.Mathlib.Omega.{arith}
use Rattle.cut.specs.declared.service.Syntax.{Syntax}
use Rattle.guide.specs.Sheet.{Position}
use Rattle.guide.specs.Accepted.{Each, Agree, Distinct}
use Rattle.guide.proofs.Basics.{map-append}
use Rattle.agree.specs.Agreement.{Heading, heading_of, agree}
use Rattle.agree.specs.Positions.{Listed, agreeing_at, agrees_any, first_after, first_agreeing}
use Rattle.std.specs.Prelude.{Some, None}
use Rattle.agree.specs.declared.first.Agreeing.{Agreeing}
use Rattle.agree.proofs.Texts.{heading-agree, agree-heading}

-- a LIN that is found is one
pub agreeing-same : (i a j b : ℕ) → Some (agreeing_at i a) ≡ Some (agreeing_at j b) → (i ≡ j) × (a ≡ b)
agreeing-same i a j b h =
    let e : agreeing_at i a ≡ agreeing_at j b = cc in
    (ap (λ (x : Agreeing). x.segment) e, ap (λ (x : Agreeing). x.place) e)

-- what is compared of each position, read off a tree or listed
abbrev pub headings : List Position → List Heading
headings ps = map (λ (p : Position). heading_of p) ps

abbrev pub listed : List Listed → List Heading
listed qs = map (λ (q : Listed). q.heading) qs

module _ {A : Type 0} (P : A → Type 0) (x : A) where
  each_last : (xs : List A) → Each P (xs ++ (x ∷ [])) → Each P xs × P x
  unfolding Each
  each_last [] h = (tt, h.0)
  each_last (z ∷ xs) h =
      let i = each_last xs h.1 in
      ((h.0, i.0), i.1)

  each_more : (xs : List A) → Each P xs → P x → Each P (xs ++ (x ∷ []))
  unfolding Each
  each_more [] h k = (k, tt)
  each_more (z ∷ xs) h k = (h.0, each_more xs h.1 k)

module _ (y : Syntax) where
  -- p agrees with none of the positions es
  abbrev Apart : List Position → Position → Type 0
  Apart es p = Each (λ e. Agree y e p → ⊥) es

  any-apart : (p : Position) (es : List Position) → agrees_any y (heading_of p) (headings es) ≡ false → Apart es p
  unfolding agrees_any Each
  any-apart p [] h = tt
  any-apart p (e ∷ es) h = go (agree y (heading_of e) (heading_of p)) refl h (any-apart p es)
    where
      go
          : (b : Bool) → agree y (heading_of e) (heading_of p) ≡ b → b || agrees_any y (heading_of p) (headings es) ≡ false
          → (agrees_any y (heading_of p) (headings es) ≡ false → Apart es p) → Apart (e ∷ es) p
      go true k n ih = absurd (true≢false n)
      go false k n ih = (λ a. true≢false (sym (agree-heading y e p a) ∙ k), ih n)

  apart-any : (p : Position) (es : List Position) → Apart es p → agrees_any y (heading_of p) (headings es) ≡ false
  unfolding agrees_any Each
  apart-any p [] h = refl
  apart-any p (e ∷ es) h = go (agree y (heading_of e) (heading_of p)) refl (apart-any p es h.1)
    where
      go
          : (b : Bool) → agree y (heading_of e) (heading_of p) ≡ b → agrees_any y (heading_of p) (headings es) ≡ false
          → b || agrees_any y (heading_of p) (headings es) ≡ false
      go true k ih = absurd (h.0 (heading-agree y e p k))
      go false k ih = ih

  headings_more : (es : List Position) (p : Position) → headings es ++ (heading_of p ∷ []) ≡ headings (es ++ (p ∷ []))
  headings_more es p = sym (map-append (λ (q : Position). heading_of q) es (p ∷ []))

  -- the positions ps, compared with each other and with the earlier ones es
  abbrev All : List Position → List Position → Type 0
  All ps es = Each (Apart es) ps × Distinct y ps

  abbrev Unfound : List Position → Type 0
  Unfound ps = (es : List Position) (qs : List Listed) → headings ps ≡ listed qs → first_after y (headings es) qs ≡ None → All ps es

  -- of each position that is apart from es and p
  split : (es : List Position) (p : Position) (ps : List Position) → Each (Apart (es ++ (p ∷ []))) ps → Each (Apart es) ps × Each (λ q. Agree y p q → ⊥) ps
  unfolding Each
  split es p [] h = (tt, tt)
  split es p (q ∷ ps) h =
      let f = each_last (λ e. Agree y e q → ⊥) p es h.0 in
      let g = split es p ps h.1 in
      ((f.0, g.0), (f.1, g.1))

  merge : (es : List Position) (p : Position) (ps : List Position) → Each (Apart es) ps → Each (λ q. Agree y p q → ⊥) ps → Each (Apart (es ++ (p ∷ []))) ps
  unfolding Each
  merge es p [] h k = tt
  merge es p (q ∷ ps) h k = (each_more (λ e. Agree y e q → ⊥) p es h.0 k.0, merge es p ps h.1 k.1)

  none_step : (p : Position) (ps : List Position) → Unfound ps → Unfound (p ∷ ps)
  unfolding first_after Each Distinct
  none_step p ps ih es [] l h = absurd (nil≢cons (sym l))
  none_step p ps ih es (q ∷ qs) l h =
      go (agrees_any y q.heading (headings es)) refl h
    where
      e : heading_of p ≡ q.heading
      e = head-eq_of_cons-eq l

      go
          : (b : Bool) → agrees_any y q.heading (headings es) ≡ b
          → cond b (Some (agreeing_at q.number q.place)) (first_after y (headings es ++ (q.heading ∷ [])) qs) ≡ None → All (p ∷ ps) es
      go true k n = absurd (let z : ◌≡◌ {A = ℕ} 0 1 = cc in omega arith)
      go false k n =
          let i = ih (es ++ (p ∷ [])) qs (tail-eq_of_cons-eq l) (rw (← headings_more es p, e) n) in
          let s = split es p ps i.0 in
          ((any-apart p es (rw e k), s.0), (s.1, i.1))

  none-all : (ps : List Position) → Unfound ps
  unfolding Each Distinct
  none-all [] = λ es qs l h. (tt, tt)
  none-all (p ∷ ps) = none_step p ps (none-all ps)

  abbrev Nowhere : List Position → Type 0
  Nowhere ps = (es : List Position) (qs : List Listed) → headings ps ≡ listed qs → All ps es → first_after y (headings es) qs ≡ None

  all_step : (p : Position) (ps : List Position) → Nowhere ps → Nowhere (p ∷ ps)
  unfolding first_after Each Distinct
  all_step p ps ih es [] l h = absurd (nil≢cons (sym l))
  all_step p ps ih es (q ∷ qs) l h =
      let e : heading_of p ≡ q.heading = head-eq_of_cons-eq l in
      let k : agrees_any y q.heading (headings es) ≡ false = rw (← e) (apart-any p es h.0.0) in
      rw (k, ← e, headings_more es p) (ih (es ++ (p ∷ [])) qs (tail-eq_of_cons-eq l) (merge es p ps h.0.1 h.1.0, h.1.1))

  all_none : (ps : List Position) → Nowhere ps
  unfolding first_after
  all_none [] es [] l h = refl
  all_none [] es (q ∷ qs) l h = absurd (nil≢cons l)
  all_none (p ∷ ps) es qs l h = all_step p ps (all_none ps) es qs l h

  all_apart : (ps : List Position) → Each (Apart []) ps
  unfolding Each
  all_apart [] = tt
  all_apart (p ∷ ps) = (tt, all_apart ps)

  -- positions read off a message's tree, and the same positions as they are listed: refusal 23 is not given exactly if no two of them agree
  pub none-distinct : (ps : List Position) (qs : List Listed) → headings ps ≡ listed qs → first_agreeing y qs ≡ None → Distinct y ps
  unfolding first_agreeing
  none-distinct ps qs l h = (none-all ps [] qs l h).1

  pub distinct_none : (ps : List Position) (qs : List Listed) → headings ps ≡ listed qs → Distinct y ps → first_agreeing y qs ≡ None
  unfolding first_agreeing
  distinct_none ps qs l h = all_none ps [] qs l (all_apart ps, h)
