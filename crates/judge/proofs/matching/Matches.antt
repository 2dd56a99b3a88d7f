-- Laws of matching: equal numbers are equal tags and codes.
use Prim.Native.Nat.{ℕ}
use mathlib.Core.Path.{◌≡◌, refl, sym, ◌∙◌, ap, ap₂}
use mathlib.Core.Bool.{Bool, true, false, ◌&&◌}
use mathlib.Core.List.{List, [], ◌∷◌, map}
use native.Mathlib.Omega.{arith}
use lib.ListN.{length, take}
use lib.Dec.{T, eqb}
use borrow.Author.Tests.{eqb-true, eqb-false, lt-ltb}
use Rattle.bytewise.specs.Bytes.{part}
use Rattle.cut.specs.declared.service.Syntax.{Syntax}
use Rattle.element.specs.Components.{component_at}
use Rattle.plain.proofs.Packing.{part_bytes, decoded-bytes, packed-same, is_short, all_short, word_same}
use Rattle.guide.specs.Nodes.{Guide, node, among, chosen, matches}
use Rattle.guide.specs.Views.{view_of}
use Rattle.guide.proofs.Basics.{and_left, and_right}
use Rattle.judge.specs.workers.Words.{packed, word_of, holds, picks, Bytes}
use Rattle.judge.proofs.rows.Sound.{Sound}
use Rattle.judge.proofs.words.Packing.{key-decoded}

-- the bytes of a component are bytes of the delivery
key-bytes : (y : Syntax) (d : List ℕ) (start end e c : ℕ) → Bytes d → Bytes ((view_of y (part start end d)).key e c)
key-bytes y d start end e c h = rw (← key-decoded y d start end e c (component_at y d start end e c) refl) (decoded-bytes y d _ _ h)

tag-bytes : (y : Syntax) (d : List ℕ) (start end : ℕ) → Bytes d → Bytes (take 3 (part start end d))
unfolding part
tag-bytes y d start end h = part_bytes (part start end d) 0 3 (part_bytes d start end h)

holds-among : (s : List ℕ) (cs : List (List ℕ)) → Bytes s → T (all_short cs) → holds (word_of s) (map packed cs) ≡ among s cs
unfolding holds among
holds-among s [] h t = refl
holds-among s (c ∷ cs) h t =
    rw (word_same s c h (and_left (is_short c) (all_short cs) t), holds-among s cs h (and_right (is_short c) (all_short cs) t))

pub chosen-any : (cs : List (List ℕ)) (s : List ℕ) → length cs ≡ 0 → true ≡ chosen cs s
unfolding chosen
chosen-any [] s e = refl
chosen-any (c ∷ cs) s e = absurd (omega arith)

chosen-some : (cs : List (List ℕ)) (s : List ℕ) → (length cs ≡ 0 → ⊥) → among s cs ≡ chosen cs s
unfolding chosen
chosen-some [] s e = absurd (e refl)
chosen-some (c ∷ cs) s e = refl

picks-any : (cs : List (List ℕ)) (k : ℕ) → length cs ≡ 0 → picks (map packed cs) k ≡ true
unfolding picks
picks-any [] k e = refl
picks-any (c ∷ cs) k e = absurd (omega arith)

picks-some : (cs : List (List ℕ)) (k : ℕ) → (length cs ≡ 0 → ⊥) → picks (map packed cs) k ≡ holds k (map packed cs)
unfolding picks
picks-some [] k e = absurd (e refl)
picks-some (c ∷ cs) k e = refl

-- no code to look for, or the search among them
pub pick-any : (cs : List (List ℕ)) (k : ℕ) → length cs ≡ 0 → true ≡ picks (map packed cs) k
pick-any cs k e = sym (picks-any cs k e)

pub pick-code : (cs : List (List ℕ)) (k : ℕ) (r : Bool) → (length cs ≡ 0 → ⊥) → r ≡ holds k (map packed cs) → r ≡ picks (map packed cs) k
pick-code cs k r some h = h ∙ sym (picks-some cs k some)

-- the segment from start up to end, and node n
module _ (y : Syntax) (d : List ℕ) (start end : ℕ) (bytes : Bytes d) (g : Guide) (n : ℕ) (row : Sound g n) where
  chosen-code
      : (e c key : ℕ) (r : Bool) → (length (node g n).selector.codes ≡ 0 → ⊥) → e ≡ (node g n).selector.element → c ≡ (node g n).selector.component
      → key ≡ word_of ((view_of y (part start end d)).key e c) → r ≡ holds key (map packed (node g n).selector.codes)
      → r ≡ chosen (node g n).selector.codes ((view_of y (part start end d)).key (node g n).selector.element (node g n).selector.component)
  chosen-code e c key r some p q k h =
      h ∙ ap (λ (x : ℕ). holds x (map packed (node g n).selector.codes)) k
      ∙ holds-among ((view_of y (part start end d)).key e c) (node g n).selector.codes (key-bytes y d start end e c bytes) row.codes
      ∙ chosen-some (node g n).selector.codes ((view_of y (part start end d)).key e c) some
      ∙ ap₂ (λ (a b : ℕ). chosen (node g n).selector.codes ((view_of y (part start end d)).key a b)) p q

  -- the key is read where this node has its codes, if it has some
  pub chosen_picked
      : (e c key : ℕ) (r : Bool)
      → ((length (node g n).selector.codes ≡ 0 → ⊥) → (e ≡ (node g n).selector.element) × (c ≡ (node g n).selector.component))
      → key ≡ word_of ((view_of y (part start end d)).key e c) → r ≡ picks (map packed (node g n).selector.codes) key
      → r ≡ chosen (node g n).selector.codes ((view_of y (part start end d)).key (node g n).selector.element (node g n).selector.component)
  chosen_picked e c key r same k h = go (eqb (length (node g n).selector.codes) 0) refl
    where
      go
          : (b : Bool) → eqb (length (node g n).selector.codes) 0 ≡ b
          → r ≡ chosen (node g n).selector.codes ((view_of y (part start end d)).key (node g n).selector.element (node g n).selector.component)
      go true q =
          let none : length (node g n).selector.codes ≡ 0 = eqb-true (length (node g n).selector.codes) 0 q in
          h ∙ picks-any (node g n).selector.codes key none
          ∙ chosen-any (node g n).selector.codes ((view_of y (part start end d)).key (node g n).selector.element (node g n).selector.component) none
      go false q =
          let some : length (node g n).selector.codes ≡ 0 → ⊥ = eqb-false (length (node g n).selector.codes) 0 q in
          chosen-code e c key r some (same some).0 (same some).1 k (h ∙ picks-some (node g n).selector.codes key some)

  -- of a segment whose tag is the number t: a node of that tag, and then the code
  pub match_tagged
      : (t : ℕ) → t ≡ packed (take 3 (part start end d))
      → matches (node g n) (view_of y (part start end d))
      ≡ eqb (packed (node g n).tag) t
      && chosen (node g n).selector.codes ((view_of y (part start end d)).key (node g n).selector.element (node g n).selector.component)
  unfolding matches view_of
  match_tagged t tag =
      rw (tag, packed-same (node g n).tag (take 3 (part start end d)) row.tag (tag-bytes y d start end bytes), lt-ltb 0 (node g n).limit row.limited)
