-- What is kept after a segment: one law for each answer of the workers.
use Prim.Native.Nat.{ℕ, ◌+◌}
use mathlib.Core.Path.{◌≡◌, refl, ◌∙◌}
use mathlib.Core.Bool.{Bool, true, false, cond, ◌&&◌, ◌||◌}
use mathlib.Core.List.{List}
use native.Mathlib.Omega.{arith}
use Rattle.cut.specs.declared.service.Syntax.{Syntax}
use Rattle.bytewise.specs.Bytes.{bytes_of, part}
use Rattle.plain.specs.Plain.{same}
use Rattle.element.specs.declared.components.Span.{Span}
use Rattle.guide.specs.Content.{text}
use Rattle.guide.specs.Editions.{guide_of}
use Rattle.guide.specs.declared.edition.Edition.{Edition}
use Rattle.guide.specs.Sheet.{is_tag}
use Rattle.guide.specs.Tree.{one}
use Rattle.verdict.specs.declared.kept.Kept.{Kept}
use Rattle.verdict.specs.declared.segment.Found.{Found}
use Rattle.verdict.specs.workers.Segments.{spanned, role_of, is_lin, is_unh, is_bgm, found_at}
use Rattle.verdict.specs.workers.Kept.{kept_after}
use Rattle.verdict.proofs.roles.RoleTags.{role_lin, role_unh, role_bgm}
use Rattle.verdict.proofs.segment.Texts.{spanned-text}

-- one more where the test holds
counted_on : (k : ℕ) (b : Bool) → cond b (k + 1) k ≡ k + one b
counted_on k true = refl
counted_on k false = omega arith

-- whether a message is one for intervals, by what was known before and by its BGM
told_on : (z b s : Bool) → cond b (z || s) z ≡ z || (b && s)
told_on z true s = refl
told_on true false s = refl
told_on false false s = refl

picked_bytes : (y : Syntax) (d : List ℕ) (b : Bool) (s t : Span) → spanned y (cond b s t) d ≡ cond b (spanned y s d) (spanned y t d)
picked_bytes y d true s t = refl
picked_bytes y d false s t = refl

-- r is kept after k and a segment that is given the node n
pub record KeptAfter (ed : Edition) (y : Syntax) (d : List ℕ) (start end n : ℕ) (k r : Kept) : Type 0 where
  pub last : r.last ≡ n
  pub positions : r.positions ≡ k.positions + one (is_tag (guide_of ed) (bytes_of "LIN") n)
  pub reference :
      spanned y r.reference d ≡ cond (is_tag (guide_of ed) (bytes_of "UNH") n) (text y (part start end d) 1 0) (spanned y k.reference d)
  pub intervals :
      r.intervals ≡ k.intervals || (is_tag (guide_of ed) (bytes_of "BGM") n && same (text y (part start end d) 1 0) (bytes_of "Z04"))

module _ (ed : Edition) (y : Syntax) (d : List ℕ) (start end n : ℕ) (k : Kept) (b : Bool) where
  abbrev found : Found
  found = found_at ed y d start end n

  own : spanned y found.first d ≡ text y (part start end d) 1 0
  own = spanned-text y d start end 1 0 found.first refl

  kept-found : KeptAfter ed y d start end n k (kept_after y d found k b)
  kept-found =
      record {
        last = refl;
        positions = counted_on k.positions (is_lin (role_of ed n)) ∙ rw (role_lin ed n);
        reference = picked_bytes y d (is_unh (role_of ed n)) found.first k.reference ∙ rw (own, role_unh ed n);
        intervals = told_on k.intervals (is_bgm (role_of ed n)) _ ∙ rw (own, role_bgm ed n);
      }

  pub kept-after : (f : Found) → f ≡ found → (r : Kept) → r ≡ kept_after y d f k b → KeptAfter ed y d start end n k r
  kept-after f e r h = rw (h, e) kept-found
