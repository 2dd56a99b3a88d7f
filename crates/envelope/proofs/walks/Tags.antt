-- What a segment is by its tag.
use Prim.Native.Nat.{ℕ}
use mathlib.Core.Path.{◌≡◌, refl, sym, ◌∙◌}
use mathlib.Core.Bool.{Bool, true, false, cond}
use mathlib.Core.List.{List, [], ◌∷◌}
use native.Mathlib.Omega.{arith}
use Rattle.bytewise.specs.Bytes.{bytes_of, begins}
use Rattle.bytewise.proofs.Words.{begins-at}
use Rattle.cut.specs.Segments.{Segment, keep_if}
use Rattle.messages.specs.declared.tags.Tag.{Tag}
use Rattle.messages.specs.declared.tags.Tag.TheVariants.{Unh, Unt, Unz, Other}
use Rattle.messages.specs.Messages.{tag_of}
use Rattle.messages.specs.workers.Walks.{is_unh, out_by, open_by, left_over}
use Rattle.envelope.specs.declared.walking.Role.TheVariants.{Begins, Outside}
use Rattle.envelope.specs.workers.Walk.{is_within, is_outside, role_of}

-- which of the tags a segment begins with
module _ (bs : List ℕ) where
  pub tag-unh : begins (bytes_of "UNH") bs ≡ true → tag_of bs ≡ Unh
  unfolding tag_of
  tag-unh h = rw h

  module _ (h : begins (bytes_of "UNH") bs ≡ false) where
    pub tag-unt : begins (bytes_of "UNT") bs ≡ true → tag_of bs ≡ Unt
    unfolding tag_of
    tag-unt t = rw (h, t)

    module _ (t : begins (bytes_of "UNT") bs ≡ false) where
      pub tag-unz : begins (bytes_of "UNZ") bs ≡ true → tag_of bs ≡ Unz
      unfolding tag_of
      tag-unz z = rw (h, t, z)

      pub tag-other : begins (bytes_of "UNZ") bs ≡ false → tag_of bs ≡ Other
      unfolding tag_of
      tag-other z = rw (h, t, z)

      -- where no message is open before it, it is outside
      pub role-outside : Outside ≡ role_of (tag_of bs) false
      unfolding tag_of
      role-outside = rw (h, t) (go (begins (bytes_of "UNZ") bs))
        where
          go : (b : Bool) → Outside ≡ role_of (cond b Unz Other) false
          go true = refl
          go false = refl

-- outside by its role, and with it what follows: as by its tag and whether a message is open
pub role-left
    : (t : Tag) (b : Bool) (s : Segment) (ss : List Segment)
    → keep_if (is_outside (role_of t b)) s (left_over (is_within (role_of t b)) ss) ≡ keep_if (out_by t b) s (left_over (open_by t b) ss)
role-left Unh b s ss = refl
role-left Unt true s ss = refl
role-left Unt false s ss = refl
role-left Unz b s ss = refl
role-left Other true s ss = refl
role-left Other false s ss = refl

-- what begins a message by its role begins one by its tag
pub role-begins : (t : Tag) (b : Bool) → role_of t b ≡ Begins → is_unh t ≡ true
role-begins Unh b h = refl
role-begins Unt true h = cc
role-begins Unt false h = cc
role-begins Unz b h = cc
role-begins Other true h = cc
role-begins Other false h = cc

pub role-begins_none : (t : Tag) (b : Bool) → (role_of t b ≡ Begins → ⊥) → is_unh t ≡ false
role-begins_none Unh b n = absurd (n refl)
role-begins_none Unt b n = refl
role-begins_none Unz b n = refl
role-begins_none Other b n = refl

-- what begins UNB begins no message, and does not end one
third-other : (bs : List ℕ) (x : ℕ) → (66 ≡ x → ⊥) → begins (bytes_of "UNB") bs ≡ true → begins (85 ∷ 78 ∷ x ∷ []) bs ≡ false
third-other bs x n h = go (begins (85 ∷ 78 ∷ x ∷ []) bs) refl
  where
    go : (b : Bool) → begins (85 ∷ 78 ∷ x ∷ []) bs ≡ b → b ≡ false
    go true e = absurd (n (sym (begins-at (bytes_of "UNB") bs 2 h (omega arith)) ∙ begins-at (85 ∷ 78 ∷ x ∷ []) bs 2 e (omega arith)))
    go false e = refl

pub tag-UNB : (bs : List ℕ) → begins (bytes_of "UNB") bs ≡ true → tag_of bs ≡ Other
unfolding tag_of
tag-UNB bs h =
    rw (third-other bs 72 (λ e. omega (arith, e)) h, third-other bs 84 (λ e. omega (arith, e)) h, third-other bs 90 (λ e. omega (arith, e)) h)
