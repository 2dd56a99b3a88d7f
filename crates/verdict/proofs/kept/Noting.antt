-- What is kept after a segment, one law for each role; and where no doubt comes of it, what is asked of the articles behind it.
use Prim.Native.Nat.{ℕ, ◌+◌}
use mathlib.Core.Path.{◌≡◌, refl, sym, ap, ◌∙◌}
use mathlib.Core.Bool.{Bool, true, false, not, ◌&&◌, ◌||◌, true≢false}
use mathlib.Core.List.{List, [], ◌∷◌}
use lib.ListN.{length}
use borrow.Author.Tests.{not-true}
use Rattle.cut.specs.declared.service.Syntax.{Syntax}
use Rattle.bytewise.specs.Bytes.{bytes_of, begins}
use Rattle.cut.specs.Segments.{Segment}
use Rattle.plain.specs.Plain.{same}
use Rattle.element.proofs.ComponentFace.{same_true}
use Rattle.guide.specs.Content.{text}
use Rattle.sieve.specs.Articles.{Noted}
use Rattle.sieve.specs.workers.Came.{may_have}
use Rattle.bytewise.proofs.Booleans.{and_both}
use Rattle.agree.specs.Articles.{articles_in, among, distinct}
use Rattle.agree.proofs.Apart.{articles_lin, articles_other}
use Rattle.verdict.specs.declared.kept.Kept.{Kept}
use Rattle.verdict.specs.declared.segment.Found.{Found}
use Rattle.verdict.specs.declared.roles.Role.TheVariants.{Lin, Unh, Bgm}
use Rattle.verdict.specs.workers.Kept.{kept_after, NotedIf, Undoubted, UndoubtedBy}
use Rattle.verdict.specs.workers.Segments.{is_lin, is_unh, is_bgm, spanned}

-- what is kept after k and a segment, and the tables before and after it, by the segment's role
module _ (y : Syntax) (d t : List ℕ) (s : Found) (k : Kept) where
  abbrev Keeps : Kept → List ℕ → Type 0
  Keeps r t' = (r ≡ kept_after y d s k r.doubt) × (r.doubt ≡ false → UndoubtedBy y d s k t t')

  pub after_line
      : s.role ≡ Lin → (b : Bool) (t' : List ℕ) → (b ≡ false → Undoubted true k.doubt t t' (spanned y s.third d))
      → Keeps (record { last = s.node; positions = k.positions + 1; reference = k.reference; intervals = k.intervals; doubt = b }) t'
  after_line l b t' u = (rw l, rw l u)

  pub after_document
      : s.role ≡ Bgm → (z : Bool) → z ≡ k.intervals || same (spanned y s.first d) (bytes_of "Z04")
      → Keeps (record { last = s.node; positions = k.positions; reference = k.reference; intervals = z; doubt = k.doubt }) t
  after_document l z e = (rw (l, e), rw l (λ h. record { before = h; table = refl }))

  pub after_beginning
      : s.role ≡ Unh → Keeps (record { last = s.node; positions = k.positions; reference = s.first; intervals = k.intervals; doubt = k.doubt }) t
  after_beginning l = (rw l, rw l (λ h. record { before = h; table = refl }))

  pub after_another
      : is_lin s.role ≡ false → is_unh s.role ≡ false → is_bgm s.role ≡ false
      → Keeps (record { last = s.node; positions = k.positions; reference = k.reference; intervals = k.intervals; doubt = k.doubt }) t
  after_another l u b = (rw (l, u, b), rw l (λ h. record { before = h; table = refl }))

-- none of these articles may have come, by the table t
unfoldable pub clear : List ℕ → List (List ℕ) → Bool
clear t [] = true
clear t (x ∷ xs) = not (may_have t x) && clear t xs

-- ... and none comes twice
pub record Apart (t : List ℕ) (xs : List (List ℕ)) : Type 0 where
  pub clears : clear t xs ≡ true
  pub once : distinct xs ≡ true

pub none_apart : (t : List ℕ) → Apart t []
unfolding clear distinct
none_apart t = record { clears = refl; once = refl }

-- an article that is noted and did not come before: those behind it are others
module _ (t t' x : List ℕ) (n : Noted t t' x false) (size : length t ≡ 256) where
  came_not : (z : List ℕ) → may_have t' z ≡ false → may_have t z ≡ false
  came_not z h = go (may_have t z) refl
    where
      go : (b : Bool) → may_have t z ≡ b → b ≡ false
      go true e = absurd (true≢false (sym (n.keeps size z e) ∙ h))
      go false e = refl

  clear-before : (xs : List (List ℕ)) → clear t' xs ≡ true → clear t xs ≡ true
  unfolding clear
  clear-before [] h = refl
  clear-before (z ∷ xs) h =
      let p = and_both (not (may_have t' z)) (clear t' xs) h in
      let m : may_have t z ≡ false = came_not z (not-true _ p.0) in
      rw m (clear-before xs p.1)

  not-among : (xs : List (List ℕ)) → clear t' xs ≡ true → among x xs ≡ false
  unfolding clear among
  not-among [] h = refl
  not-among (z ∷ xs) h = go (same x z) refl (not-among xs p.1)
    where
      p : (not (may_have t' z) ≡ true) × (clear t' xs ≡ true)
      p = and_both (not (may_have t' z)) (clear t' xs) h

      go : (b : Bool) → same x z ≡ b → among x xs ≡ false → b || among x xs ≡ false
      go true e k = absurd (true≢false (sym (n.comes size) ∙ ap (may_have t') (same_true x z e) ∙ not-true _ p.0))
      go false e k = k

  apart_more : (xs : List (List ℕ)) → Apart t' xs → Apart t (x ∷ xs)
  unfolding clear distinct
  apart_more xs a =
      let m : may_have t x ≡ false = sym n.asked in
      record { clears = rw m (clear-before xs a.clears); once = rw (not-among xs a.clears) a.once }

-- where no doubt comes of a segment, the articles from it on are apart if those behind it are
module _ (y : Syntax) (t t' x : List ℕ) (s : Segment) (ss : List Segment) (size : length t ≡ 256) where
  pub still_apart
      : (l : Bool) → begins (bytes_of "LIN") s.bytes ≡ l → x ≡ text y s.bytes 3 0 → NotedIf l t t' x → Apart t' (articles_in y ss)
      → Apart t (articles_in y (s ∷ ss))
  still_apart true e p n a = rw (articles_lin y s ss e, ← p) (apart_more t t' x n size (articles_in y ss) a)
  still_apart false e p n a = rw (articles_other y s ss e, ← n) a

  pub still_sized : (l : Bool) → NotedIf l t t' x → length t' ≡ 256
  still_sized true n = n.size ∙ size
  still_sized false n = rw n size
