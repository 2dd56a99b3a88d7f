-- What can come after a node: no two open instances have followers of one tag, so the level-by-level search finds the lowest follower that matches.
use Prim.Native.Nat.{ℕ, suc, ◌-◌, ◌≤◌, ◌<◌}
use mathlib.Core.Path.{◌≡◌, refl, sym, ◌∙◌, ap}
use mathlib.Core.Bool.{Bool, true, false, not, ◌&&◌, ◌||◌, true≢false, and_assoc}
use mathlib.Core.List.{List, [], ◌∷◌, map}
use native.Mathlib.Omega.{arith}
use lib.ListN.{length, take}
use lib.Dec.{T, T_not, eqb, ltb, leb, eqb→eq}
use lib.Bits.{bit_and}
use borrow.Author.Tests.{eq-eqb, ltb-true, ltb-false}
use Rattle.bytewise.specs.Bytes.{part}
use Rattle.cut.specs.declared.service.Syntax.{Syntax}
use Rattle.guide.specs.Nodes.{View, Guide, node, chosen, matches}
use Rattle.guide.specs.Pricat.{pricat20d, pricat20c}
use Rattle.guide.specs.workers.Placing.{first_node, Level, levels, fits_in, seek}
use Rattle.guide.specs.Choices.{or_else}
use Rattle.guide.specs.workers.Checks.{every, implies}
use Rattle.guide.specs.Views.{view_of}
use Rattle.guide.proofs.Basics.{T_true, true-T, false-T, every-at, implied, and_left, and_right, or_else-some, Search, found, nowhere, searched}
use Rattle.guide.specs.declared.edition.Edition.{Edition}
use Rattle.guide.specs.declared.edition.Edition.TheVariants.{D, C}
use Rattle.guide.specs.Editions.{guide_of}
use Rattle.guide.specs.Options.{unless_0}
use Rattle.std.specs.Prelude.{Option}
use Rattle.judge.specs.workers.Words.{packed, word_of, picks, Bytes}
use Rattle.judge.specs.workers.Rows.{child_of, due_of}
use Rattle.judge.specs.workers.Sets.{member, nodes_that, some_level, follows_in, followers_of, tagged_of, due_after, after_word}
use Rattle.judge.proofs.rows.Sound.{sound-at}
use Rattle.judge.proofs.matching.Matches.{chosen_picked, match_tagged}
use Rattle.judge.proofs.matching.Codes.{code-place}
use Rattle.judge.proofs.lacking.Links.{lowest-none, lowest_like, lowest-is}
use Rattle.judge.proofs.lacking.Levels.{level-nowhere, seek-outside}
use Rattle.judge.proofs.sets.Members.{member-none, nodes_none, both_fit, both-inside, both_are}
use Rattle.judge.proofs.sets.Sought.{Sought, within}

-- no node that can come in an open instance has the tag of one that can come further out
abbrev apart_at : Guide → List Level → ℕ → ℕ → Bool
apart_at g ls n m = implies (some_level (follows_in g m) ls) (not (eqb (packed (node g n).tag) (packed (node g m).tag)))

unfoldable apart : Guide → List Level → Bool
apart g [] = true
apart g (l ∷ ls) = every (λ n. implies (follows_in g n l) (every (apart_at g ls n) (length g))) (length g) && apart g ls

apart-table : (e : Edition) → T (every (λ last. apart (guide_of e) (levels (guide_of e) (suc last) last 0)) (length (guide_of e)))
unfolding pricat20d pricat20c every apart some_level levels packed
apart-table D = tt
apart-table C = tt

-- the levels' search, where the tags of all nodes that match the segment are one number
module _ (g : Guide) (v : View) (tag : ℕ) (alike : (n : ℕ) → 0 < n → n < length g → T (matches (node g n) v) → packed (node g n).tag ≡ tag) where
  -- whether node n can come in one of these instances
  abbrev comes : List Level → ℕ → Bool
  comes ls n = some_level (follows_in g n) ls && matches (node g n) v

  fits-here : (l : Level) (n : ℕ) → fits_in g v l.node l.reached n ≡ follows_in g n l && matches (node g n) v
  unfolding fits_in
  fits-here l n = sym (and_assoc (child_of g l.node n) (leb l.reached (node g n).counter) (matches (node g n) v))

  here-or_out : (a b c : Bool) {P : Type 0} → (T (a && c) → P) → (T b → T c → P) → T ((a || b) && c) → P
  here-or_out true b c f k h = f h
  here-or_out false true c f k h = k tt h
  here-or_out false false c f k h = absurd h

  out_only : (a b c : Bool) → a && c ≡ false → b && c ≡ (a || b) && c
  out_only true true c h = refl
  out_only true false c h = sym h
  out_only false b c h = refl

  here : (a b c : Bool) → a && c ≡ true → (a || b) && c ≡ true
  here true b c h = h
  here false b c h = absurd (true≢false (sym h))

  seek-lowest : (ls : List Level) → T (apart g ls) → seek g v ls ≡ first_node g (comes ls)
  unfolding seek apart some_level
  seek-lowest [] h = sym (lowest-none (comes []) 1 (length g - 1) (λ m a b. refl))
  seek-lowest (l ∷ ls) h =
      go _ (searched (fits_in g v l.node l.reached) 1 (length g - 1)) (seek-lowest ls (and_right (every clear (length g)) (apart g ls) h))
    where
      clear : ℕ → Bool
      clear n = implies (follows_in g n l) (every (apart_at g ls n) (length g))

      -- what comes here has another tag than what comes further out
      other
          : (n m : ℕ) → 0 < n → n < length g → 0 < m → m < length g → T (follows_in g n l && matches (node g n) v) → T (some_level (follows_in g m) ls)
          → T (matches (node g m) v) → ⊥
      other n m a b c d p q r =
          let t = every-at clear (length g) n (and_left (every clear (length g)) (apart g ls) h) b in
          let u = implied (follows_in g n l) _ t (and_left (follows_in g n l) (matches (node g n) v) p) in
          let w = implied (some_level (follows_in g m) ls) _ (every-at (apart_at g ls n) (length g) m u d) q in
          T_not (eqb (packed (node g n).tag) (packed (node g m).tag)) w
          (T_true (eq-eqb _ _ (alike n a b (and_right (follows_in g n l) _ p) ∙ sym (alike m c d r))))

      go
          : (k : ℕ) → Search (fits_in g v l.node l.reached) 1 (length g - 1) k → seek g v ls ≡ first_node g (comes ls)
          → or_else k (seek g v ls) ≡ first_node g (comes (l ∷ ls))
      go k (found a b t u) ih =
          or_else-some k (seek g v ls) a
          ∙ sym
          (lowest-is (comes (l ∷ ls)) 1 (length g - 1) k (omega arith) a b (here (follows_in g k l) _ _ (sym (fits-here l k) ∙ true-T _ t))
          (λ m c d. false-T _
          (here-or_out (follows_in g m l) _ (matches (node g m) v) (λ p. u m c d (T_true (fits-here l m ∙ true-T _ p)))
          (λ p q. other k m a (omega arith) c (omega arith) (T_true (sym (fits-here l k) ∙ true-T _ t)) p q))))
      go k (nowhere u) ih =
          ih
          ∙ lowest_like (comes ls) (comes (l ∷ ls)) 1 (length g - 1)
          (λ m a b. out_only (follows_in g m l) _ (matches (node g m) v) (sym (fits-here l m) ∙ false-T _ (λ t. u m a b t)))

-- nothing can come, nor be missed, past the table's end
module _ (e : Edition) (last : ℕ) (past : length (guide_of e) ≤ last) where
  followers_past : followers_of (guide_of e) last ≡ 0
  unfolding followers_of
  followers_past =
      nodes_none (guide_of e) _
      (λ n a b. level-nowhere e (follows_in (guide_of e) n) n (λ l h. rw h) a b (suc last) last 0 past)

  due-past : due_after (guide_of e) last ≡ 0
  unfolding due_after
  due-past =
      nodes_none (guide_of e) _
      (λ n a b. level-nowhere e (λ l. due_of (guide_of e) l.node n) n (λ l h. rw h) a b (suc last) last 0 past)

  pub after-past : 0 ≡ after_word (guide_of e) last
  unfolding after_word
  after-past = rw (followers_past, due-past)

-- whether a segment has one of the codes of node n
abbrev pub has_code : Edition → View → ℕ → Bool
has_code e v n = chosen (node (guide_of e) n).selector.codes (v.key (node (guide_of e) n).selector.element (node (guide_of e) n).selector.component)

-- the search through the followers of `last` that have the segment's tag begins
module _ (e : Edition) (y : Syntax) (d : List ℕ) (start end : ℕ) (bytes : Bytes d) (tag : ℕ) (own : tag ≡ packed (take 3 (part start end d))) (last s : ℕ)
    (set : s ≡ bit_and (followers_of (guide_of e) last) (tagged_of (guide_of e) tag)) where
  abbrev view : View
  view = view_of y (part start end d)

  abbrev coded : ℕ → Bool
  coded n = has_code e view n

  abbrev follows : ℕ → Bool
  follows n = some_level (follows_in (guide_of e) n) (levels (guide_of e) (suc last) last 0)

  by-tag : (n : ℕ) → 0 < n → n < length (guide_of e) → matches (node (guide_of e) n) view ≡ eqb (packed (node (guide_of e) n).tag) tag && coded n
  by-tag n a b = match_tagged y d start end bytes (guide_of e) n (sound-at e n a b) tag own

  abbrev named : ℕ → Bool
  named n = eqb (packed (node (guide_of e) n).tag) tag

  both : s ≡ bit_and (nodes_that (guide_of e) follows) (nodes_that (guide_of e) named)
  unfolding followers_of tagged_of
  both = set

  answer : first_node (guide_of e) (within s coded) ≡ seek (guide_of e) view (levels (guide_of e) (suc last) last 0)
  answer = go (ltb last (length (guide_of e))) refl
    where
      same : (n : ℕ) → 0 < n → n < length (guide_of e) → within s coded n ≡ follows n && matches (node (guide_of e) n) view
      same n a b = rw (both_are e follows named s n both a b, by-tag n a b) (and_assoc (follows n) _ (coded n))

      go
          : (b : Bool) → ltb last (length (guide_of e)) ≡ b → first_node (guide_of e) (within s coded)
          ≡ seek (guide_of e) view (levels (guide_of e) (suc last) last 0)
      go true h =
          lowest_like (within s coded) (λ n. follows n && matches (node (guide_of e) n) view) 1 (length (guide_of e) - 1) (λ n a b. same n a (omega arith))
          ∙ sym
          (seek-lowest (guide_of e) view tag
          (λ n a b t. eqb→eq _ tag (and_left (eqb (packed (node (guide_of e) n).tag) tag) (coded n) (rw (by-tag n a b) at t)))
          (levels (guide_of e) (suc last) last 0)
          (every-at (λ x. apart (guide_of e) (levels (guide_of e) (suc x) x 0)) (length (guide_of e)) last (apart-table e) (ltb-true last _ h)))
      go false h =
          let past = ltb-false last (length (guide_of e)) h in
          let none : s ≡ 0 = set ∙ ap (λ (x : ℕ). bit_and x (tagged_of (guide_of e) tag)) (followers_past e last past) in
          lowest-none (within s coded) 1 (length (guide_of e) - 1) (λ m a b. rw (none, member-none m)) ∙ sym (seek-outside e view last past)

  pub seek-begins : Sought (guide_of e) (has_code e view) (seek (guide_of e) view (levels (guide_of e) (suc last) last 0)) s
  seek-begins = record { fits = both_fit e follows named s both; inside = λ n h. both-inside e follows named s n both h; answer = answer }

  -- what the key finds
  pub seek_keyed
      : (key : ℕ) (r : Option ℕ) → key ≡ word_of ((view_of y (part start end d)).key 1 0)
      → r ≡ unless_0 (first_node (guide_of e) (λ n. member s n && picks (map packed (node (guide_of e) n).selector.codes) key))
      → r ≡ unless_0 (seek (guide_of e) (view_of y (part start end d)) (levels (guide_of e) (suc last) last 0))
  seek_keyed key r read h =
      h
      ∙ ap unless_0
      (lowest_like (λ n. member s n && picks (map packed (node (guide_of e) n).selector.codes) key) (within s coded) 1 (length (guide_of e) - 1)
      (λ n a b. ap (λ (x : Bool). member s n && x) (same n a (omega arith)))
      ∙ answer)
    where
      same : (n : ℕ) → 0 < n → n < length (guide_of e) → picks (map packed (node (guide_of e) n).selector.codes) key ≡ coded n
      same n a b =
          chosen_picked y d start end bytes (guide_of e) n (sound-at e n a b) 1 0 key (picks (map packed (node (guide_of e) n).selector.codes) key)
          (code-place e n b) read refl
