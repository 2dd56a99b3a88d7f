-- Refusals 25 and 14 of a pair in the words of request 2, over the tree, and the number that both its rows have. For every table that passes the test
-- `mates`.
use Prim.Native.Nat.{ℕ}
use mathlib.Core.Path.{◌≡◌, refl, sym, ◌∙◌, ap}
use mathlib.Core.Logic.{◌↔◌, ◌⊎◌, inl, inr}
use mathlib.Core.Bool.{Bool, true, false, ◌&&◌}
use native.Mathlib.Omega.{arith}
use lib.Dec.{T, eqb, ltb}
use borrow.Author.Tests.{eqb-true, eqb-false, ltb-true, ltb-false, lt-ltb, le-ltb}
use Rattle.guide.specs.Choices.{pickℕ}
use Rattle.guide.specs.Nodes.{Guide, node, paired, number_of, over}
use Rattle.guide.specs.Tree.{Kids, count, Limits}
use Rattle.guide.specs.Steps.{Full, Lacks}
use Rattle.guide.specs.workers.Checks.{Mated, Pairing}
use Rattle.guide.proofs.Basics.{true-T, T_true, and_left}
use Rattle.guide.proofs.tables.Required.{mate_required, required_cases}

module _ {A : Type 0} (g : Guide) (pairs : Pairing g) (p : ℕ) (f : Kids A) (limits : Limits g p f) (n : ℕ) (t : T (paired g n)) where
  abbrev partner : ℕ
  partner = (node g n).partner

  -- what a number k of a passed limit says of one of two codes
  pub data Again (k : ℕ) : Type 0 where
    -- "25 at the second DTM of one code"
    second : k ≡ 25 → count f n ≡ 1 → count f partner ≡ 0 → Again k
    -- "after 15 and 16": a third DTM gets 15
    third : k ≡ 15 → count f n ≡ 1 → count f partner ≡ 1 → Again k

  -- One code more than its limit is the second of it, or the third of both.
  pub again : (k : ℕ) → Full g k p f n → Again k
  unfolding over
  again k h = go (eqb (count f partner) 0) refl
    where
      x : Mated g n partner
      x = pairs n t

      here-once : count f n ≡ 1
      here-once = omega (arith, h.full, limits n h.might.under, x.once)

      go : (b : Bool) → eqb (count f partner) 0 ≡ b → Again k
      go true e = second (h.number ∙ rw (true-T (paired g n) t, e)) here-once (eqb-true _ _ e)
      go false e =
          let d = eqb-false (count f partner) 0 e in
          let l = limits partner (x.parents ∙ h.might.under) in
          third (h.number ∙ rw (true-T (paired g n) t, e)) here-once (omega (arith, (pairs partner x.both).once))

  -- A code is missing exactly where the other alone is given.
  pub lone : (node g n).parent ≡ p → Lacks g p f n ↔ ((count f n ≡ 0) × (count f partner ≡ 1))
  lone e = (to, from)
    where
      to : Lacks g p f n → (count f n ≡ 0) × (count f partner ≡ 1)
      to l =
          let x = pairs n t in
          let within = limits partner (x.parents ∙ e) in
          let come = required_cases g n (count f) (λ m. absurd (x.free m)) (λ t i. i) l.required in
          (l.missing, omega (arith, (pairs partner x.both).once))

      from : (count f n ≡ 0) × (count f partner ≡ 1) → Lacks g p f n
      from c = record { under = e; required = mate_required g n (count f) t (omega (arith, c.1)); missing = c.0 }

-- Both rows have one number in the guide.
pub one_number : (g : Guide) → Pairing g → (n : ℕ) → T (paired g n) → number_of g (node g n).partner ≡ number_of g n
unfolding number_of
one_number g pairs n t = rw (true-T (paired g n) t, true-T (paired g q) x.both, x.back) (go (ltb q n) refl)
  where
    q : ℕ
    q = (node g n).partner

    x : Mated g n q
    x = pairs n t

    go : (b : Bool) → ltb q n ≡ b → pickℕ (ltb n q) n q ≡ pickℕ b q n
    go true e = rw (le-ltb n q (omega (arith, ltb-true q n e)))
    go false e =
        let l = ltb-false q n e in
        rw (lt-ltb n q (omega (arith, x.other)))

-- a row's number is its own or, of the upper row of a pair, that of the lower
data Numbered (g : Guide) (n : ℕ) : Type 0 where
  own : number_of g n ≡ n → Numbered g n
  lower : T (paired g n) → number_of g n ≡ (node g n).partner → Numbered g n

numbered : (g : Guide) (n : ℕ) → Numbered g n
unfolding number_of
numbered g n = go (paired g n && ltb (node g n).partner n) refl
  where
    go : (b : Bool) → (paired g n && ltb (node g n).partner n) ≡ b → Numbered g n
    go true e = lower (and_left (paired g n) (ltb (node g n).partner n) (T_true e)) (rw e)
    go false e = own (rw e)

-- Two rows that have one number are one row, or the two of a pair.
pub number-rows : (g : Guide) → Pairing g → (n m : ℕ) → number_of g n ≡ number_of g m → (n ≡ m) ⊎ (T (paired g n) × ((node g n).partner ≡ m))
number-rows g pairs n m e = go (numbered g n) (numbered g m)
  where
    go : Numbered g n → Numbered g m → (n ≡ m) ⊎ (T (paired g n) × ((node g n).partner ≡ m))
    go (own a) (own b) = inl (sym a ∙ e ∙ b)
    go (own a) (lower t b) =
        let q : n ≡ (node g m).partner = sym a ∙ e ∙ b in
        inr (rw q (pairs m t).both, ap (λ (x : ℕ). (node g x).partner) q ∙ (pairs m t).back)
    go (lower t a) (own b) = inr (t, sym a ∙ e ∙ b)
    go (lower t a) (lower u b) =
        let q : (node g n).partner ≡ (node g m).partner = sym a ∙ e ∙ b in
        inl (sym (pairs n t).back ∙ ap (λ (x : ℕ). (node g x).partner) q ∙ (pairs m u).back)
