-- The moods of the pass as the code has them.
use Prim.Native.Nat.{ℕ, ◌+◌, ◌/◌, ◌%◌, ◌≤◌, ◌<◌}
use mathlib.Core.Bool.{Bool, true, false, cond}
use mathlib.Core.Path.{◌≡◌, refl}
use mathlib.Core.List.{List, [], ◌∷◌}
use native.Mathlib.Omega.{arith}
use lib.ListN.{length, drop}
use lib.Dec.{ltb}
use borrow.Author.Tests.{eq-eqb, ne_eqb, lt-ltb, le-ltb}
use Rattle.cut.specs.declared.service.Syntax.{Syntax}
use Rattle.value.specs.Numeral.{some}
use Rattle.guide.specs.Page.{Row, Composite}
use Rattle.guide.specs.workers.PageFault.{text_fault}
use Rattle.guide.specs.Choices.{pickℕ}
use Rattle.guide.specs.workers.Moods.{asking, idle, owing, is_must, opened, mood_after, mood_fault, end_fault, absent_fault}
use Rattle.page.specs.workers.Walk.{tag, inside, stand_fault, stand_after, stand_end}
use Rattle.page.specs.workers.Words.{element_in, ElementWord, page_in, NodeWord}
use Rattle.page.proofs.words.Spans.{must-reach, absent_reach}

-- before the first component of the element that has the word w
pub opening_asks : (w : ℕ) → w / 1048576 ≡ 1 → inside asking ≡ inside (opened (element_in w))
unfolding opened element_in
opening_asks w h = rw (eq-eqb _ _ h)

pub opening_idle : (w : ℕ) → (w / 1048576 ≡ 1 → ⊥) → inside idle ≡ inside (opened (element_in w))
unfolding opened element_in
opening_idle w h = rw (ne_eqb _ _ h)

-- what it lacks where it ends behind component c and asks for its components
module _ (w c : ℕ) (k : Composite) (e : ElementWord w k) where
  ending_fault : (b : Bool) → ltb (c + 1) (w / 32768 % 32) ≡ b → pickℕ b 17 0 ≡ stand_end (inside asking) (drop (c + 1) k.rows)
  unfolding stand_end end_fault
  ending_fault b h = rw (must-reach k.rows (c + 1), ← e.reach, h)

  pub ending_must : c + 1 < w / 32768 % 32 → 17 ≡ stand_end (inside asking) (drop (c + 1) k.rows)
  ending_must h = ending_fault true (lt-ltb _ _ h)

  pub ending_may : w / 32768 % 32 ≤ c + 1 → 0 ≡ stand_end (inside asking) (drop (c + 1) k.rows)
  ending_may h = ending_fault false (le-ltb _ _ h)

-- and where it does not
pub ending_idle : (rs : List Row) → 0 ≡ stand_end (inside idle) rs
unfolding stand_end end_fault
ending_idle rs = refl

pub ending_owing : (rs : List Row) → 0 ≡ stand_end (inside owing) rs
unfolding stand_end end_fault
ending_owing rs = refl

pub ending_tag : (rs : List Row) → 0 ≡ stand_end tag rs
unfolding stand_end
ending_tag rs = refl

-- what the page with the word w lacks behind element e
module _ (w : ℕ) (n : NodeWord w (page_in w)) (e : ℕ) where
  absent-fault : (b : Bool) → ltb e (w / 32768) ≡ b → pickℕ b 17 0 ≡ absent_fault (drop e (page_in w))
  absent-fault b h = rw (absent_reach (page_in w) e, ← n.reach, h)

  pub absent_some : e < w / 32768 → 17 ≡ absent_fault (drop e (page_in w))
  absent_some h = absent-fault true (lt-ltb _ _ h)

  pub absent_none : w / 32768 ≤ e → 0 ≡ absent_fault (drop e (page_in w))
  absent_none h = absent-fault false (le-ltb _ _ h)

-- the fault at a component with the text t on the row r
module _ (y : Syntax) (r : Row) (t : List ℕ) where
  pub asking_text : text_fault y true r t ≡ stand_fault y (inside asking) r t
  unfolding stand_fault mood_fault
  asking_text = refl

  pub idle_text : text_fault y false r t ≡ stand_fault y (inside idle) r t
  unfolding stand_fault mood_fault
  idle_text = refl

  pub owing_empty : length t ≡ 0 → 0 ≡ stand_fault y (inside owing) r t
  unfolding stand_fault mood_fault some
  owing_empty = go t
    where
      go : (u : List ℕ) → length u ≡ 0 → 0 ≡ pickℕ (some u) 17 0
      go [] l = refl
      go (x ∷ xs) l = absurd (omega arith)

  pub owing_filled : 0 < length t → 17 ≡ stand_fault y (inside owing) r t
  unfolding stand_fault mood_fault some
  owing_filled = go t
    where
      go : (u : List ℕ) → 0 < length u → 17 ≡ pickℕ (some u) 17 0
      go [] l = absurd (omega arith)
      go (x ∷ xs) l = refl

  pub tag_calm : 0 ≡ stand_fault y tag r t
  unfolding stand_fault
  tag_calm = refl

-- where the pass stands behind it
module _ (r : Row) (t : List ℕ) where
  pub asking-kept : inside asking ≡ stand_after (inside asking) r t
  unfolding stand_after mood_after
  asking-kept = refl

  pub owing-kept : inside owing ≡ stand_after (inside owing) r t
  unfolding stand_after mood_after
  owing-kept = refl

  pub tag-kept : tag ≡ stand_after tag r t
  unfolding stand_after
  tag-kept = refl

  pub mood-filled : 0 < length t → inside asking ≡ stand_after (inside idle) r t
  unfolding stand_after mood_after some
  mood-filled = go t
    where
      go : (u : List ℕ) → 0 < length u → inside asking ≡ stand_after (inside idle) r u
      go [] l = absurd (omega arith)
      go (x ∷ xs) l = refl

  mood-empty : (b : Bool) → is_must r ≡ b → length t ≤ 0 → inside (cond b owing idle) ≡ stand_after (inside idle) r t
  unfolding stand_after mood_after some
  mood-empty b p = go t
    where
      go : (u : List ℕ) → length u ≤ 0 → inside (cond b owing idle) ≡ stand_after (inside idle) r u
      go [] l = rw p
      go (x ∷ xs) l = absurd (omega arith)

  pub mood_owing : length t ≤ 0 → is_must r ≡ true → inside owing ≡ stand_after (inside idle) r t
  mood_owing l p = mood-empty true p l

  pub mood_idle : length t ≤ 0 → is_must r ≡ false → inside idle ≡ stand_after (inside idle) r t
  mood_idle l p = mood-empty false p l
