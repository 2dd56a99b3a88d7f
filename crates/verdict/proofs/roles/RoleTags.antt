-- What a segment is to the rules of a message: one law for each answer of the worker, and what a role says of the node's tag.
use Prim.Native.Nat.{ℕ, zero, suc}
use mathlib.Core.Path.{◌≡◌, refl, sym}
use mathlib.Core.Bool.{Bool, true, false, cond, not, ◌&&◌, ◌||◌, false≢true}
use mathlib.Core.Logic.{◌⊎◌, inl, inr}
use mathlib.Core.List.{List, [], ◌∷◌}
use lib.Dec.{eqb}
use borrow.Author.Tests.{ne_eqb}
use Rattle.cut.specs.declared.service.Syntax.{Syntax}
use Rattle.bytewise.specs.Bytes.{bytes_of}
use Rattle.cut.specs.Segments.{Segment}
use Rattle.plain.specs.Plain.{same}
use Rattle.element.proofs.ComponentFace.{same_true}
use Rattle.guide.specs.workers.Judging.{Memory, rule_fault}
use Rattle.guide.specs.Editions.{guide_of, pages_of}
use Rattle.guide.specs.Nodes.{Node, Guide, node}
use Rattle.guide.specs.declared.edition.Edition.{Edition}
use Rattle.guide.specs.declared.edition.Edition.TheVariants.{D, C}
use Rattle.guide.specs.Sheet.{is_tag}
use Rattle.bytewise.proofs.Booleans.{and_both}
use Rattle.verdict.specs.declared.roles.Role.{Role}
use Rattle.verdict.specs.declared.roles.Role.TheVariants.{Lin, Unt, Unh, Bgm, Other}
use Rattle.verdict.specs.workers.Segments.{role_of, is_lin, is_unt, is_unh, is_bgm, rule_by}

-- whether a row has none of the four tags
abbrev bare : Node → Bool
bare x =
    not (same x.tag (bytes_of "LIN"))
    && (not (same x.tag (bytes_of "UNT")) && (not (same x.tag (bytes_of "UNH")) && not (same x.tag (bytes_of "BGM"))))

-- whether all rows have none but those at the numbers that are told
abbrev bare_but : (ℕ → Bool) → Guide → Bool
bare_but told [] = true
bare_but told (x ∷ xs) = (told 0 || bare x) && bare_but (λ n. told (suc n)) xs

bare-at : (told : ℕ → Bool) (g : Guide) (n : ℕ) → bare_but told g ≡ true → told n ≡ false → bare (node g n) ≡ true
unfolding same
bare-at told [] n h k = refl
bare-at told (x ∷ xs) zero h k = rw k at (and_both (told 0 || bare x) _ h).0
bare-at told (x ∷ xs) (suc n) h k = bare-at (λ m. told (suc m)) xs n (and_both (told 0 || bare x) _ h).1 k

-- the worker's answers: a row that has none of the tags is none of the four
bare_picked : (l t u b : Bool) → not l && (not t && (not u && not b)) ≡ true → Other ≡ cond l Lin (cond t Unt (cond u Unh (cond b Bgm Other)))
bare_picked true t u b h = absurd (false≢true h)
bare_picked false true u b h = absurd (false≢true h)
bare_picked false false true b h = absurd (false≢true h)
bare_picked false false false true h = absurd (false≢true h)
bare_picked false false false false h = refl

is-other : (ed : Edition) (n : ℕ) → bare (node (guide_of ed) n) ≡ true → Other ≡ role_of ed n
unfolding role_of is_tag
is-other ed n h =
    bare_picked (is_tag (guide_of ed) (bytes_of "LIN") n) (is_tag (guide_of ed) (bytes_of "UNT") n) (is_tag (guide_of ed) (bytes_of "UNH") n)
    (is_tag (guide_of ed) (bytes_of "BGM") n) h

-- the rows that a match names: one of an edition, one of two, and one of both editions
pub role-at : (ed t : Edition) (n m : ℕ) (r : Role) → ed ≡ t → n ≡ m → r ≡ role_of t m → r ≡ role_of ed n
role-at ed t n m r e k h = rw (e, k) h

pub role-either
    : (ed t : Edition) (n a b : ℕ) (r : Role) → ed ≡ t → (n ≡ a) ⊎ (n ≡ b) → r ≡ role_of t a → r ≡ role_of t b → r ≡ role_of ed n
role-either ed t n a b r e (inl k) h j = rw (e, k) h
role-either ed t n a b r e (inr k) h j = rw (e, k) j

pub role-both : (ed : Edition) (n m : ℕ) (r : Role) → n ≡ m → r ≡ role_of D m → r ≡ role_of C m → r ≡ role_of ed n
role-both D n m r k h j = rw k h
role-both C n m r k h j = rw k j

-- ... and any other row
abbrev one_of : ℕ → Bool
one_of m = eqb m 1 || (eqb m 2 || (eqb m 16 || (eqb m 23 || (eqb m 15 || (eqb m 21 || (eqb m 26 || eqb m 24))))))

pub other-by
    : (n : ℕ)
    → (((((Unit {0} × (n ≡ 1 → ⊥)) × (n ≡ 2 → ⊥)) × ((n ≡ 16) ⊎ (n ≡ 23) → ⊥)) × ((n ≡ 15) ⊎ (n ≡ 21) → ⊥)) × (n ≡ 26 → ⊥)) × (n ≡ 24 → ⊥)
    → bare_but one_of (guide_of D) ≡ true → bare_but one_of (guide_of C) ≡ true → (ed : Edition) → Other ≡ role_of ed n
other-by n none d c ed = is-other ed n (go ed)
  where
    k : one_of n ≡ false
    k = rw (
      ne_eqb n 1 none.0.0.0.0.0.1,
      ne_eqb n 2 none.0.0.0.0.1,
      ne_eqb n 16 (λ e. none.0.0.0.1 (inl e)),
      ne_eqb n 23 (λ e. none.0.0.0.1 (inr e)),
      ne_eqb n 15 (λ e. none.0.0.1 (inl e)),
      ne_eqb n 21 (λ e. none.0.0.1 (inr e)),
      ne_eqb n 26 none.0.1,
      ne_eqb n 24 none.1,
    )

    go : (t : Edition) → bare (node (guide_of t) n) ≡ true
    go D = bare-at one_of (guide_of D) n d k
    go C = bare-at one_of (guide_of C) n c k

-- a node has one tag
one_tag : (ed : Edition) (n : ℕ) (s t : List ℕ) → same s t ≡ false → is_tag (guide_of ed) s n ≡ true → is_tag (guide_of ed) t n ≡ false
unfolding is_tag
one_tag ed n s t d h = rw (same_true _ s h) d

-- of four tests of which at most one holds
abbrev picked : Bool → Bool → Bool → Bool → Role
picked l t u b = cond l Lin (cond t Unt (cond u Unh (cond b Bgm Other)))

lin_picked : (l t u b : Bool) → is_lin (picked l t u b) ≡ l
lin_picked true t u b = refl
lin_picked false true u b = refl
lin_picked false false true b = refl
lin_picked false false false true = refl
lin_picked false false false false = refl

unt_picked : (l t u b : Bool) → (l ≡ true → t ≡ false) → is_unt (picked l t u b) ≡ t
unt_picked true t u b h = sym (h refl)
unt_picked false true u b h = refl
unt_picked false false true b h = refl
unt_picked false false false true h = refl
unt_picked false false false false h = refl

unh_picked : (l t u b : Bool) → (l ≡ true → u ≡ false) → (t ≡ true → u ≡ false) → is_unh (picked l t u b) ≡ u
unh_picked true t u b h k = sym (h refl)
unh_picked false true u b h k = sym (k refl)
unh_picked false false true b h k = refl
unh_picked false false false true h k = refl
unh_picked false false false false h k = refl

bgm_picked : (l t u b : Bool) → (l ≡ true → b ≡ false) → (t ≡ true → b ≡ false) → (u ≡ true → b ≡ false) → is_bgm (picked l t u b) ≡ b
bgm_picked true t u b h k j = sym (h refl)
bgm_picked false true u b h k j = sym (k refl)
bgm_picked false false true b h k j = sym (j refl)
bgm_picked false false false true h k j = refl
bgm_picked false false false false h k j = refl

-- a node's role says whether it has each of the tags
module _ (ed : Edition) (n : ℕ) where
  abbrev tag : List ℕ → Bool
  tag t = is_tag (guide_of ed) t n

  pub role_lin : is_lin (role_of ed n) ≡ tag (bytes_of "LIN")
  unfolding role_of
  role_lin = lin_picked (tag (bytes_of "LIN")) (tag (bytes_of "UNT")) (tag (bytes_of "UNH")) (tag (bytes_of "BGM"))

  pub role_unt : is_unt (role_of ed n) ≡ tag (bytes_of "UNT")
  unfolding role_of same
  role_unt =
      unt_picked (tag (bytes_of "LIN")) (tag (bytes_of "UNT")) (tag (bytes_of "UNH")) (tag (bytes_of "BGM"))
      (one_tag ed n (bytes_of "LIN") (bytes_of "UNT") refl)

  pub role_unh : is_unh (role_of ed n) ≡ tag (bytes_of "UNH")
  unfolding role_of same
  role_unh =
      unh_picked (tag (bytes_of "LIN")) (tag (bytes_of "UNT")) (tag (bytes_of "UNH")) (tag (bytes_of "BGM"))
      (one_tag ed n (bytes_of "LIN") (bytes_of "UNH") refl) (one_tag ed n (bytes_of "UNT") (bytes_of "UNH") refl)

  pub role_bgm : is_bgm (role_of ed n) ≡ tag (bytes_of "BGM")
  unfolding role_of same
  role_bgm =
      bgm_picked (tag (bytes_of "LIN")) (tag (bytes_of "UNT")) (tag (bytes_of "UNH")) (tag (bytes_of "BGM"))
      (one_tag ed n (bytes_of "LIN") (bytes_of "BGM") refl) (one_tag ed n (bytes_of "UNT") (bytes_of "BGM") refl)
      (one_tag ed n (bytes_of "UNH") (bytes_of "BGM") refl)

  -- 21 or 22
  pub role_rule : (y : Syntax) (i : ℕ) (m : Memory) (s : Segment) → rule_by ed y i m (role_of ed n) s ≡ rule_fault y (guide_of ed) (pages_of ed) i m n s
  unfolding rule_by rule_fault
  role_rule y i m s = rw (role_unt, role_lin)
