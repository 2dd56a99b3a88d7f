-- A component of allowed bytes, by its marks: it ends no segment and goes on behind a release mark and the byte that this releases.
use Prim.Native.Nat.{ℕ, ◌+◌, ◌-◌, ◌≤◌, ◌<◌}
use mathlib.Core.Path.{◌≡◌, refl, sym, ◌∙◌}
use mathlib.Core.Bool.{Bool, true, false, not, or-true}
use mathlib.Core.List.{List}
use native.Mathlib.Omega.{arith}
use lib.ListN.{length, get_or}
use lib.Dec.{leb}
use borrow.Author.Tests.{eq-eqb, ne_eqb, leb-true, leb-false}
use Rattle.cut.specs.workers.Carrying.{Carries}
use Rattle.cut.specs.declared.service.Syntax.{Syntax}
use Rattle.cut.proofs.Carrying.{carries_on, carries_run, carries_released}
use Rattle.clean.specs.Clean.{between, allowed_byte}
use Rattle.element.specs.Elements.{ending_of, stays, releases}
use Rattle.element.specs.workers.Scans.{Foremost, Scanned, Sought, fresh}
use Rattle.element.specs.Services.{is_service, is_mark, usual_services, Service}
use Rattle.element.proofs.MarkFace.{allowed_each, text-allowed, mark-not, mark-both, plain-stays, plain_no_mark, stays-inside}
use Rattle.element.proofs.UsualServices.{usual_are}
use Rattle.page.specs.workers.Marks.{CleanAhead}
use Rattle.element.specs.declared.ahead.Scan.{Scan}
use Rattle.page.proofs.marks.Releases.{Past, past_first, past-found, past-mark}
use Rattle.page.proofs.marks.Flags.{scan_begins}

-- ---- one byte

release_serves : (y : Syntax) (x : ℕ) → x ≡ y.release → is_service y x ≡ true
unfolding is_service
release_serves y x e = rw (eq-eqb x y.release e) (or-true (not (stays (ending_of y false x))))

-- ---- a component

-- the component that begins at the place a goes on at the place from .at: its bytes up to there are allowed and end no segment, and so many are removed
pub record Clean (y : Syntax) (d : List ℕ) (a : ℕ) (from : Scan) (removed : ℕ) : Type 0 where
  pub past : Past y d a (length d) from.at removed
  pub allowed : (k : ℕ) → a ≤ k → k < from.at → allowed_byte (get_or d k 0) ≡ true
  pub carried : Carries y d a from.at
  pub scanned : Scanned is_mark d from

pub clean-first : (y : Syntax) (d : List ℕ) (s : Scan) → s.at ≤ length d → Scanned is_mark d s → Clean y d s.at s 0
clean-first y d s h q =
    record { past = past_first y d s.at (length d) h; allowed = λ k i j. absurd (omega arith); carried = λ e k. k; scanned = q }

-- the first mark from there on stands at the place end
module _
    (y : Syntax) (usual : usual_services y ≡ true) (d : List ℕ) (a : ℕ) (from : Scan) (removed : ℕ) (g : Clean y d a from removed) (r : Scan)
    (q : Sought is_mark d from.at r)
    (end : ℕ) (e : end ≡ r.at - 1) where
  here : Foremost is_mark d from.at end
  here = rw (← e) at q.first

  mark-within : end < length d
  mark-within = omega (arith, q.onward, q.scanned.ahead, q.scanned.within)

  up_allowed : (k : ℕ) → a ≤ k → k < end → allowed_byte (get_or d k 0) ≡ true
  up_allowed k i j = go (leb from.at k) refl
    where
      go : (b : Bool) → leb from.at k ≡ b → allowed_byte (get_or d k 0) ≡ true
      go true t = (mark-not y usual (get_or d k 0) (here.none k (leb-true from.at k t) j)).1
      go false t = g.allowed k i (leb-false from.at k t)

  no_service : (k : ℕ) → from.at ≤ k → k < end → is_service y (get_or d k 0) ≡ false
  no_service k i j = (mark-not y usual (get_or d k 0) (here.none k i j)).0

  up_carried : Carries y d a end
  up_carried =
      carries_on y d a from.at end g.carried
      (carries_run y d from.at end here.onward (omega (arith, mark-within))
      (λ k i j. stays-inside y (get_or d k 0) (plain-stays y (get_or d k 0) (no_service k i j)))
      (λ k i j. plain_no_mark y (get_or d k 0) (no_service k i j)))

  service : is_service y (get_or d end 0) ≡ true → Service y d from.at (length d) end
  service s = record { passed = record { onward = here.onward; none = no_service }; here = λ l. s }

  -- it ends there, if it is a service character
  pub clean_found : (get_or d end 0 ≡ y.release → ⊥) → CleanAhead y d a (record { end = end; length = end - a - removed; scan = r })
  clean_found n =
      record {
        inside = mark-within;
        ahead = omega (arith, here.onward, g.past.onward);
        extent = λ s. past-found y d a (length d) (omega arith) from.at removed g.past end (service s) mark-within n;
        allowed = allowed_each d end (omega (arith, mark-within)) a up_allowed;
        carried = up_carried;
        literal = ne_eqb (get_or d end 0) y.release n;
        onward = omega (arith, q.onward);
        scanned = q.scanned;
      }

  -- a release mark stands there, before a byte that is allowed
  module _ (m : get_or d end 0 ≡ y.release) (h : end + 2 ≤ length d) (f : releases y false y.release ≡ true) where
    released_carried : Carries y d a (end + 2)
    released_carried =
        carries_on y d a end (end + 2) up_carried
        (carries_released y d end h (λ t. stays-inside y y.release (mark-both y y.release f).0 (sym m ∙ t)) m)

    released_allowed : between 32 126 (get_or d (end + 1) 0) ≡ true → (k : ℕ) → a ≤ k → k < end + 2 → allowed_byte (get_or d k 0) ≡ true
    unfolding allowed_byte between
    released_allowed x k i j = go (leb end k) (leb (end + 1) k) refl refl
      where
        go : (b c : Bool) → leb end k ≡ b → leb (end + 1) k ≡ c → allowed_byte (get_or d k 0) ≡ true
        go false c t u = up_allowed k i (leb-false end k t)
        go true false t u =
            let z : k ≡ end = omega (arith, leb-true end k t, leb-false (end + 1) k u) in
            rw (z, m, (usual_are y usual).3)
        go true true t u =
            let z : k ≡ end + 1 = omega (arith, leb-true (end + 1) k u) in
            rw z (text-allowed (get_or d (end + 1) 0) x)

    pub clean-mark
        : between 32 126 (get_or d (end + 1) 0) ≡ true → (t : Scan) → t ≡ fresh (end + 2)
        → Clean y d a t (removed + 1)
    clean-mark x t z =
        let tested = scan_begins is_mark d (end + 2) h t z in
        rw z (record {
          past = past-mark y d a (length d) (omega arith) from.at removed g.past end (service (release_serves y (get_or d end 0) m)) m h f;
          allowed = released_allowed x;
          carried = released_carried;
          scanned = rw z at tested;
        })
