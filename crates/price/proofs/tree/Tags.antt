-- The kind of a segment is that of the node that it is given.
use Prim.Native.Nat.{ℕ}
use mathlib.Core.Path.{◌≡◌, refl, ap, ◌∙◌}
use mathlib.Core.Bool.{Bool, true, false, cond, ◌&&◌}
use mathlib.Core.List.{List, [], ◌∷◌}
use lib.ListN.{length, take}
use lib.Dec.{T, eqb, ltb}
use Rattle.cut.specs.declared.service.Syntax.{Syntax}
use Rattle.bytewise.specs.Bytes.{bytes_of, begins}
use Rattle.cut.specs.Segments.{Segment}
use Rattle.plain.specs.Plain.{same}
use Rattle.guide.specs.Nodes.{Guide, node, matches, takes}
use Rattle.guide.specs.Views.{view_of}
use Rattle.guide.specs.Sheet.{is_tag}
use Rattle.guide.specs.Accepted.{seen}
use Rattle.guide.proofs.Basics.{T_true, and_left, and_right, same-eq}
use Rattle.guide.proofs.tables.Tables.{takes-matches}
use Rattle.price.specs.declared.kinds.Kind.{Kind}
use Rattle.price.specs.declared.kinds.Kind.TheVariants.{Lin, Pri, Rng, Other}
use Rattle.price.specs.Listing.{kind_of}
use Rattle.price.specs.Table.{lin_node, pri_node, rng_node}

-- the raw tag is the node's
begins-same : (w b : List ℕ) → begins w b ≡ same (take (length w) b) w
unfolding begins same
begins-same [] b = refl
begins-same (x ∷ w) [] = refl
begins-same (x ∷ w) (c ∷ b) = ap (λ (q : Bool). eqb c x && q) (begins-same w b)

-- a node is of one kind
pub data Is (g : Guide) (n : ℕ) : Kind → Type 0 where
  is-lin : lin_node g n ≡ true → pri_node g n ≡ false → rng_node g n ≡ false → Is g n Lin
  is-pri : lin_node g n ≡ false → pri_node g n ≡ true → rng_node g n ≡ false → Is g n Pri
  is-rng : lin_node g n ≡ false → pri_node g n ≡ false → rng_node g n ≡ true → Is g n Rng
  is-other : lin_node g n ≡ false → pri_node g n ≡ false → rng_node g n ≡ false → Is g n Other

-- two different tags are not both a node's
pub tag-apart : (g : Guide) (n : ℕ) (t u : List ℕ) → same t u ≡ false → is_tag g t n ≡ true → is_tag g u n ≡ false
unfolding is_tag
tag-apart g n t u d h =
    let e : (node g n).tag ≡ t = same-eq _ _ (T_true h) in
    rw e d

module _ (y : Syntax) (g : Guide) where
  node-tag : (n : ℕ) (s : Segment) → T (takes g n (seen y s)) → (node g n).tag ≡ take 3 s.bytes
  unfolding matches view_of
  node-tag n s t =
      let m = and_right (ltb 0 (node g n).limit) _ (takes-matches g n (seen y s) t) in
      same-eq (node g n).tag (take 3 s.bytes) (and_left (same (node g n).tag (take 3 s.bytes)) _ m)

  begins-tag : (n : ℕ) (s : Segment) (a b c : ℕ) → T (takes g n (seen y s)) → begins (a ∷ b ∷ c ∷ []) s.bytes ≡ is_tag g (a ∷ b ∷ c ∷ []) n
  unfolding is_tag
  begins-tag n s a b c t = begins-same (a ∷ b ∷ c ∷ []) s.bytes ∙ rw (node-tag n s t)

  -- the kind of a segment is its node's
  pub kind_node : (n : ℕ) (s : Segment) → T (takes g n (seen y s)) → Is g n (kind_of s.bytes)
  unfolding kind_of same
  kind_node n s t =
      rw (begins-tag n s 76 73 78 t, begins-tag n s 80 82 73 t, begins-tag n s 82 78 71 t) (go (lin_node g n) refl (pri_node g n) refl (rng_node g n) refl)
    where
      go : (l : Bool) → lin_node g n ≡ l → (p : Bool) → pri_node g n ≡ p → (r : Bool) → rng_node g n ≡ r → Is g n (cond l Lin (cond p Pri (cond r Rng Other)))
      go true a p b r c = is-lin a (tag-apart g n (bytes_of "LIN") (bytes_of "PRI") refl a) (tag-apart g n (bytes_of "LIN") (bytes_of "RNG") refl a)
      go false a true b r c = is-pri a b (tag-apart g n (bytes_of "PRI") (bytes_of "RNG") refl b)
      go false a false b true c = is-rng a b c
      go false a false b false c = is-other a b c
