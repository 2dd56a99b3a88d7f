-- The computed tests of a code list and of an element's components mean what the page says.
use Prim.Native.Nat.{ℕ, zero, suc}
use mathlib.Core.Bool.{Bool, true, false, ◌||◌, true≢false}
use mathlib.Core.Path.{◌≡◌, refl, sym, ap, ◌∙◌}
use mathlib.Core.List.Memᴰ
use mathlib.Core.List.{List, [], ◌∷◌, Memᴰ}
use mathlib.Core.Logic.{◌⊎◌, inl, inr}
use native.Mathlib.Omega.{arith}
use lib.ListN.{get_or}
use Rattle.cut.specs.declared.service.Syntax.{Syntax}
use Rattle.plain.specs.Plain.{plain, same}
use Rattle.value.specs.Numeral.{some}
use Rattle.element.proofs.ComponentFace.{same_refl, same_true}
use Rattle.guide.specs.Nodes.{among, chosen}
use Rattle.guide.specs.workers.PageFault.{any_filled}

-- of two tests, one holds
pub or_cases : (a b : Bool) → a || b ≡ true → (a ≡ true) ⊎ (b ≡ true)
or_cases true b h = inl refl
or_cases false b h = inr h

pub or_right : (a b : Bool) → b ≡ true → a || b ≡ true
or_right true b h = refl
or_right false b h = h

-- `among` is membership
pub among-member : (cs : List (List ℕ)) (t : List ℕ) → among t cs ≡ true → Memᴰ t cs
unfolding among
among-member [] t h = absurd (true≢false (sym h))
among-member (c ∷ cs) t h = go (among-member cs t) (or_cases (same t c) (among t cs) h)
  where
    go : (among t cs ≡ true → Memᴰ t cs) → (same t c ≡ true) ⊎ (among t cs ≡ true) → Memᴰ t (c ∷ cs)
    go more (inl e) = Memᴰ.head (same_true t c e)
    go more (inr e) = Memᴰ.tail (more e)

pub member-among : (cs : List (List ℕ)) (t : List ℕ) → Memᴰ t cs → among t cs ≡ true
unfolding among
member-among [] t m = absurd (Memᴰ.not-nil m)
member-among (c ∷ cs) t m = go (member-among cs t) (Memᴰ.cases_cons m)
  where
    go : (Memᴰ t cs → among t cs ≡ true) → (t ≡ c) ⊎ Memᴰ t cs → same t c || among t cs ≡ true
    go more (inl e) = rw (e, same_refl c)
    go more (inr k) = or_right (same t c) (among t cs) (more k)

-- a text that is not on the list: there are codes, and it is none of them
pub off_coded : (cs : List (List ℕ)) (t : List ℕ) → chosen cs t ≡ false → cs ≡ [] → ⊥
unfolding chosen
off_coded cs t h e = true≢false (sym (ap (λ (z : List (List ℕ)). chosen z t) e) ∙ h)

pub off_other : (cs : List (List ℕ)) (t : List ℕ) → chosen cs t ≡ false → Memᴰ t cs → ⊥
unfolding chosen
off_other [] t h m = true≢false h
off_other (c ∷ cs) t h m = true≢false (sym (member-among (c ∷ cs) t m) ∙ h)

pub off_list : (cs : List (List ℕ)) (t : List ℕ) → (cs ≡ [] → ⊥) → (Memᴰ t cs → ⊥) → chosen cs t ≡ false
unfolding chosen
off_list [] t coded other = absurd (coded refl)
off_list (c ∷ cs) t coded other = go (among t (c ∷ cs)) refl
  where
    go : (b : Bool) → among t (c ∷ cs) ≡ b → among t (c ∷ cs) ≡ false
    go true e = absurd (other (among-member (c ∷ cs) t e))
    go false e = e

-- a text that begins with a byte is not empty
pub begun : {t : List ℕ} {x : ℕ} {xs : List ℕ} → t ≡ x ∷ xs → t ≡ [] → ⊥
begun p q =
    let z : ◌≡◌ {A = ℕ} 0 1 = cc in
    absurd (omega arith)

-- a text has bytes, or it is empty
pub some-filled : (t : List ℕ) → some t ≡ true → t ≡ [] → ⊥
unfolding some
some-filled t h e = true≢false (sym h ∙ rw e refl)

pub filled-some : (t : List ℕ) → (t ≡ [] → ⊥) → some t ≡ true
unfolding some
filled-some [] h = absurd (h refl)
filled-some (x ∷ xs) h = refl

-- `any_filled` finds a component that is not empty, and overlooks none
module _ (y : Syntax) where
  pub filled-found : (bs : List (List ℕ)) → any_filled y bs ≡ true → (c : ℕ) × (plain y false (get_or bs c []) ≡ [] → ⊥)
  unfolding any_filled
  filled-found [] h = absurd (true≢false (sym h))
  filled-found (b ∷ bs) h = go (filled-found bs) (or_cases (some (plain y false b)) (any_filled y bs) h)
    where
      go
          : (any_filled y bs ≡ true → (c : ℕ) × (plain y false (get_or bs c []) ≡ [] → ⊥))
          → (some (plain y false b) ≡ true) ⊎ (any_filled y bs ≡ true) → (c : ℕ) × (plain y false (get_or (b ∷ bs) c []) ≡ [] → ⊥)
      go more (inl e) = (0, some-filled (plain y false b) e)
      go more (inr e) =
          let m = more e in
          (suc m.0, m.1)

  pub found-filled : (bs : List (List ℕ)) (c : ℕ) → (plain y false (get_or bs c []) ≡ [] → ⊥) → any_filled y bs ≡ true
  unfolding any_filled plain
  found-filled [] c h = absurd (h refl)
  found-filled (b ∷ bs) zero h = rw (filled-some (plain y false b) h)
  found-filled (b ∷ bs) (suc c) h = or_right (some (plain y false b)) (any_filled y bs) (found-filled bs c h)
