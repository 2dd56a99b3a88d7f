-- Laws of placing: one for each answer, with the counts that it leaves.
use Prim.Native.Nat.{ℕ, zero, suc, ◌≤◌, ◌<◌, ◌-◌}
use mathlib.Core.Path.{◌≡◌, refl, sym, ◌∙◌, ap}
use mathlib.Core.Bool.{Bool, true, false, ◌&&◌, ◌||◌, true≢false}
use mathlib.Core.List.{List, [], ◌∷◌}
use lib.ListN.{length, get_or, get_or-eq_default}
use lib.Dec.{eqb, ltb, leb}
use borrow.Author.Tests.{ne_eqb, lt-ltb, le-ltb, ltb-true, ltb-false, leb-true, leb-false}
use Rattle.guide.specs.Nodes.{View, Node, Guide, message, node, matches, over}
use Rattle.guide.specs.workers.Placing.{first_node, Level, levels, fits_in, seek, tally, missing, place, recounted, counts_after}
use Rattle.guide.specs.Answers.{Answer, placed, refused}
use Rattle.guide.specs.Choices.{or_else}
use Rattle.guide.specs.declared.edition.Edition.{Edition}
use Rattle.std.specs.Prelude.{Some, None}
use Rattle.guide.specs.Editions.{guide_of}
use Rattle.guide.specs.Options.{unless_0}
use Rattle.guide.proofs.Options.{told_unless_0, untold_unless_0}
use Rattle.judge.specs.workers.Sets.{some_level, follows_in}
use Rattle.judge.proofs.lacking.Links.{lowest_passes}
use Rattle.judge.proofs.lacking.Levels.{seek-outside}
use Rattle.judge.proofs.lacking.Gaps.{and_left}

and_second : (a b : Bool) → a && b ≡ true → b ≡ true
and_second true b h = h
and_second false b h = absurd (true≢false (sym h))

-- what a search finds that is not 0, one of its two parts found
or_else_either : (P : ℕ → Type 0) (a b : ℕ) → ((a ≡ 0 → ⊥) → P a) → ((b ≡ 0 → ⊥) → P b) → (or_else a b ≡ 0 → ⊥) → P (or_else a b)
or_else_either P zero b f g h = g h
or_else_either P (suc a) b f g h = f h

-- the node that is found matches the segment
module _ (g : Guide) (v : View) where
  fits-matches : (p c n : ℕ) → fits_in g v p c n ≡ true → matches (node g n) v ≡ true
  unfolding fits_in
  fits-matches p c n h = and_second (leb c (node g n).counter) _ (and_second (eqb (node g n).parent p) _ h)

  seek-matches : (ls : List Level) → (seek g v ls ≡ 0 → ⊥) → matches (node g (seek g v ls)) v ≡ true
  unfolding seek
  seek-matches [] h = absurd (h refl)
  seek-matches (l ∷ ls) h =
      or_else_either (λ n. matches (node g n) v ≡ true) (first_node g (fits_in g v l.node l.reached)) (seek g v ls)
      (λ z. fits-matches l.node l.reached _ (lowest_passes (fits_in g v l.node l.reached) 1 (length g - 1) z)) (seek-matches ls) h

  -- and can come in one of the open instances
  fits-follows : (l : Level) (n : ℕ) → fits_in g v l.node l.reached n ≡ true → follows_in g n l ≡ true
  unfolding fits_in
  fits-follows l n h = both (eqb (node g n).parent l.node) (leb l.reached (node g n).counter) _ h
    where
      both : (a b c : Bool) → a && (b && c) ≡ true → a && b ≡ true
      both true b c k = and_left b c k
      both false b c k = k

  seek-follows : (ls : List Level) → (seek g v ls ≡ 0 → ⊥) → some_level (follows_in g (seek g v ls)) ls ≡ true
  unfolding seek some_level
  seek-follows [] h = absurd (h refl)
  seek-follows (l ∷ ls) h =
      or_else_either (λ n. follows_in g n l || some_level (follows_in g n) ls ≡ true) (first_node g (fits_in g v l.node l.reached)) (seek g v ls)
      (λ z. rw (fits-follows l _ (lowest_passes (fits_in g v l.node l.reached) 1 (length g - 1) z)))
      (λ z. or_second (follows_in g (seek g v ls) l) _ (seek-follows ls z)) h
    where
      or_second : (a b : Bool) → b ≡ true → a || b ≡ true
      or_second true b k = refl
      or_second false b k = k

  matches-inside : (n : ℕ) → matches (node g n) v ≡ true → n < length g
  unfolding matches
  matches-inside n h = go (ltb n (length g)) refl
    where
      go : (b : Bool) → ltb n (length g) ≡ b → n < length g
      go true e = ltb-true n (length g) e
      go false e =
          let l : length g ≤ n = ltb-false n (length g) e in
          absurd (true≢false (sym h ∙ ap (λ (x : Node). matches x v) (get_or-eq_default g message l)))

-- the node n is found
module _ (e : Edition) (v : View) (last n : ℕ) (told : Some n ≡ unless_0 (seek (guide_of e) v (levels (guide_of e) (suc last) last 0))) where
  sought : n ≡ seek (guide_of e) v (levels (guide_of e) (suc last) last 0)
  sought = (told_unless_0 n _ told).0

  pub found_some : n ≡ 0 → ⊥
  found_some = (told_unless_0 n _ told).1

  -- the table has it, and the one before
  pub found_inside : n < length (guide_of e)
  found_inside =
      matches-inside (guide_of e) v n
      (ap (λ (x : ℕ). matches (node (guide_of e) x) v) sought
      ∙ seek-matches (guide_of e) v (levels (guide_of e) (suc last) last 0) (λ z. found_some (sought ∙ z)))

  pub found-follows : some_level (follows_in (guide_of e) n) (levels (guide_of e) (suc last) last 0) ≡ true
  found-follows =
      ap (λ (x : ℕ). some_level (follows_in (guide_of e) x) (levels (guide_of e) (suc last) last 0)) sought
      ∙ seek-follows (guide_of e) v (levels (guide_of e) (suc last) last 0) (λ z. found_some (sought ∙ z))

  pub last-inside : last < length (guide_of e)
  last-inside = go (ltb last (length (guide_of e))) refl
    where
      go : (b : Bool) → ltb last (length (guide_of e)) ≡ b → last < length (guide_of e)
      go true q = ltb-true last (length (guide_of e)) q
      go false q = absurd (found_some (sought ∙ seek-outside e v last (ltb-false last (length (guide_of e)) q)))

-- the answer, and the counts afterwards
pub record Outcome (e : Edition) (v : View) (last : ℕ) (cs : List ℕ) (a : Answer) (out : List ℕ) : Type 0 where
  pub answer : a ≡ place (guide_of e) v last cs
  pub counts : out ≡ counts_after (guide_of e) (place (guide_of e) v last cs) cs

module _ (e : Edition) (v : View) (last : ℕ) (cs : List ℕ) where
  outcome_refused : (k m : ℕ) → place (guide_of e) v last cs ≡ refused k m → Outcome e v last cs (refused k m) cs
  unfolding counts_after
  outcome_refused k m q = record { answer = sym q; counts = sym (ap (λ (a : Answer). counts_after (guide_of e) a cs) q) }

  outcome_placed : (n : ℕ) (out : List ℕ) → out ≡ recounted (guide_of e) n cs → place (guide_of e) v last cs ≡ placed n → Outcome e v last cs (placed n) out
  unfolding counts_after
  outcome_placed n out h q = record { answer = sym q; counts = h ∙ sym (ap (λ (a : Answer). counts_after (guide_of e) a cs) q) }

  pub place-nowhere
      : None ≡ unless_0 (seek (guide_of e) v (levels (guide_of e) (suc last) last 0)) → Outcome e v last cs (refused 13 0) cs
  unfolding place
  place-nowhere none =
      let z = untold_unless_0 _ none in
      outcome_refused 13 0 (rw (sym z))

  module _ (n : ℕ) (told : Some n ≡ unless_0 (seek (guide_of e) v (levels (guide_of e) (suc last) last 0))) (limit : ℕ)
      (most : limit ≡ (node (guide_of e) n).limit) where
    some : eqb n 0 ≡ false
    some = ne_eqb n 0 (found_some e v last n told)

    found : n ≡ seek (guide_of e) v (levels (guide_of e) (suc last) last 0)
    found = (told_unless_0 n _ told).0

    pub place-over
        : (k : ℕ) → k ≡ over (guide_of e) n (tally cs) → leb limit (get_or cs n 0) ≡ true → Outcome e v last cs (refused k n) cs
    unfolding place
    place-over k number h =
        let full : ltb (get_or cs n 0) (node (guide_of e) n).limit
        ≡ false = rw (sym most) (le-ltb (get_or cs n 0) limit (leb-true limit (get_or cs n 0) h)) in
        outcome_refused k n (rw (sym found, some, full, sym number))

    module _ (room : leb limit (get_or cs n 0) ≡ false) where
      open_room : ltb (get_or cs n 0) (node (guide_of e) n).limit ≡ true
      open_room = rw (sym most) (lt-ltb (get_or cs n 0) limit (leb-false limit (get_or cs n 0) room))

      pub place-lacking
          : (m : ℕ) → Some m ≡ unless_0 (missing (guide_of e) cs n (levels (guide_of e) (suc last) last 0))
          → Outcome e v last cs (refused 14 m) cs
      unfolding place
      place-lacking m lacked =
          let t = told_unless_0 m _ lacked in
          outcome_refused 14 m (rw (sym found, some, open_room, sym t.0, ne_eqb m 0 t.1))

      pub place_found
          : None ≡ unless_0 (missing (guide_of e) cs n (levels (guide_of e) (suc last) last 0)) → (out : List ℕ) → out ≡ recounted (guide_of e) n cs
          → Outcome e v last cs (placed n) out
      unfolding place
      place_found none out k =
          let z = untold_unless_0 _ none in
          outcome_placed n out k (rw (sym found, some, open_room, sym z))
