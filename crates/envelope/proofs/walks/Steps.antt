-- The walk's invariant: what is kept so far, and the segments that are left, make what is kept of all.
use Prim.Native.Nat.{ℕ, ◌+◌, ◌≤◌, ◌<◌}
use mathlib.Core.Path.{◌≡◌, refl, sym, ◌∙◌, ap, subst}
use mathlib.Core.Bool.{Bool, true, false}
use mathlib.Core.List.{List, []}
use native.Mathlib.Omega.{arith}
use lib.ListN.{length}
use Rattle.bytewise.specs.Bytes.{part}
use Rattle.bytewise.proofs.Parts.{length_part}
use Rattle.cut.specs.declared.service.Syntax.{Syntax}
use Rattle.cut.specs.declared.scan.Cut.{Cut}
use Rattle.std.specs.Prelude.{Option, Some, None}
use Rattle.std.specs.Option.{option_or}
use Rattle.cut.specs.Segments.{Segment, segments_at}
use Rattle.cut.specs.Calls.{some_cut, segment_at}
use Rattle.cut.proofs.Ahead.{CutAhead, cut_ahead, none_ahead, found_end}
use Rattle.messages.specs.Messages.{tag_of}
use Rattle.messages.specs.declared.tags.Tag.{Tag}
use Rattle.messages.specs.workers.Walks.{is_unh}
use Rattle.envelope.specs.declared.walking.Role.{Role}
use Rattle.envelope.specs.declared.walking.Role.TheVariants.{First, Begins, Within, Ends, Outside}
use Rattle.envelope.specs.declared.walking.Walk.{Walk}
use Rattle.envelope.specs.Envelope.{last_of}
use Rattle.envelope.specs.workers.Walk.{segment_in, cut_in, is_within, is_outside, role_of, one_more, stray_after, passed, passed_all, opened, last_in, Walked}

more_few : (b : Bool) (n : ℕ) → one_more b n ≤ n + 1
more_few true n = omega arith
more_few false n = omega arith

module _ (y : Syntax) (d : List ℕ) (start end : ℕ) where
  abbrev from : ℕ → List Segment
  from at = segments_at y d at

  abbrev before : Walk
  before = opened start end

  pub record Passing (w : Walk) : Type 0 where
    pub walk : passed_all w (from w.last.end) ≡ passed_all before (from end)
    pub last : last_of (last_in d w) (from w.last.end) ≡ last_of (segment_in d start end false) (from end)
    pub onward : w.last.start < w.last.end
    pub fits : w.last.end ≤ length d
    pub few : w.messages < w.last.end

  pub passing-first : start < end → end ≤ length d → Passing before
  passing-first h k = record { walk = refl; last = refl; onward = h; fits = k; few = omega arith }

  module _ (w : Walk) (p : Passing w) where
    pub passing-all : segment_at y d w.last.end ≡ None → Walked y d start end w
    unfolding passed_all last_of
    passing-all h =
        let none : from w.last.end ≡ [] = none_ahead y d w.last.end h in
        record {
          walk = rw none at p.walk;
          last = rw none at p.last;
          onward = omega (arith, p.onward);
          fits = p.fits;
        }

    module _ (s e : ℕ) (b : Bool) (h : segment_at y d w.last.end ≡ some_cut s e b) where
      ahead : CutAhead y d w.last.end s e b
      ahead = cut_ahead y d w.last.end s e b h

      -- what a step needs
      pub passing_step : (s ≤ e) × (e ≤ length d) × (w.messages < length d)
      passing_step = (omega (arith, ahead.some), ahead.fits, omega (arith, p.few, p.fits))

      abbrev next : Walk
      next = passed w (segment_in d s e b)

      ends : next.last.end ≡ e
      unfolding passed
      ends = found_end y d w.last.end s e b ahead

      next-passing : Passing next
      unfolding passed passed_all last_of
      next-passing =
          let a = ahead in
          record {
            walk = ap (λ (at : ℕ). passed_all next (from at)) ends ∙ ap (passed_all w) (sym a.list) ∙ p.walk;
            last = ap (λ (at : ℕ). last_of (segment_in d s at b) (from at)) ends ∙ ap (last_of (last_in d w)) (sym a.list) ∙ p.last;
            onward = omega (arith, ends, a.some);
            fits = omega (arith, ends, a.fits);
            few = omega (arith, ends, more_few (is_unh (tag_of (part s e d))) w.messages, p.few, a.later, a.some);
          }

      pub passing_less : (v : Walk) → v ≡ next → w.last.end < v.last.end
      passing_less v z = omega (arith, ap (λ (x : Walk). x.last.end) z, ends, ahead.later, ahead.some)

      pub passing_on : (v : Walk) → v ≡ next → Passing v
      passing_on v z = subst Passing (sym z) next-passing

-- a step keeps what its parts answer
module _ (d : List ℕ) (w : Walk) (c : Cut) (fits : c.end ≤ length d) (some : c.start ≤ c.end) where
  abbrev tag : Tag
  tag = tag_of (part c.start c.end d)

  pub pass_is
      : (r : Role) (m : ℕ) (o : Option ℕ) → r ≡ role_of tag (is_within w.role) → m ≡ one_more (is_unh tag) w.messages
      → o ≡ stray_after (is_outside w.role) w.last.start w.stray
      → record { messages = m; stray = o; last = c; role = r } ≡ passed w (cut_in d c)
  unfolding passed
  pass_is r m o i j l =
      let n : c.start + length (part c.start c.end d) ≡ c.end = omega (arith, length_part d c.start c.end fits) in
      rw (n, j, l, i)

-- the stray that is kept behind a segment that is none
pub stray_kept : (r : Role) (start : ℕ) (stray : Option ℕ) → (r ≡ Outside → ⊥) → stray ≡ stray_after (is_outside r) start stray
stray_kept r start (Some p) n = refl
stray_kept First start None n = refl
stray_kept Begins start None n = refl
stray_kept Within start None n = refl
stray_kept Ends start None n = refl
stray_kept Outside start None n = absurd (n refl)

-- behind one that is outside, the first is kept
pub stray_new : (start : ℕ) (stray : Option ℕ) → option_or stray (Some start) ≡ stray_after true start stray
stray_new start None = refl
stray_new start (Some p) = refl
