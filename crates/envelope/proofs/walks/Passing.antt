-- What is kept of the segments that are passed: how many messages they begin, and the first of them that is outside and not the last.
use Prim.Native.Nat.{ℕ, suc, ◌+◌, ◌≤◌, ◌<◌}
use mathlib.Core.Path.{◌≡◌, refl, sym, ◌∙◌}
use mathlib.Core.Bool.{Bool, true, false, not, ◌||◌}
use mathlib.Core.List.{List, [], ◌∷◌}
use native.Mathlib.Nat.{add-zero}
use native.Mathlib.Omega.{arith}
use lib.ListN.{length}
use lib.Dec.{eqb}
use borrow.Author.Tests.{eq-eqb, ne_eqb}
use Rattle.std.specs.Prelude.{Option, Some, None}
use Rattle.cut.specs.Segments.{Segment, begins_in, keep_if}
use Rattle.cut.proofs.Starts.{Rising}
use Rattle.messages.specs.declared.tags.Tag.{Tag}
use Rattle.messages.specs.declared.tags.Tag.TheVariants.{Unh, Unt, Unz, Other}
use Rattle.messages.specs.Messages.{Message, tag_of, body, begin, messages_in, others}
use Rattle.messages.specs.workers.Walks.{is_unh, left_over}
use Rattle.envelope.specs.declared.walking.Walk.{Walk}
use Rattle.envelope.specs.Envelope.{last_of}
use Rattle.envelope.specs.workers.Walk.{is_outside, is_within, one_more, stray_after, passed, passed_all}
use Rattle.envelope.proofs.walks.Tags.{role-left}

-- the messages
one-begun : (t : Tag) (m : Message) (ms : List Message) (n : ℕ) → one_more (is_unh t) n + length ms ≡ n + length (begin t m ms)
one-begun Unh m ms n = omega arith
one-begun Unt m ms n = refl
one-begun Unz m ms n = refl
one-begun Other m ms n = refl

pub passed-messages : (w : Walk) (ss : List Segment) → (passed_all w ss).messages ≡ w.messages + length (messages_in ss)
unfolding passed_all passed messages_in
passed-messages w [] = sym (add-zero w.messages)
passed-messages w (s ∷ ss) =
    passed-messages (passed w s) ss
    ∙ one-begun (tag_of s.bytes) (record { first = s; rest = body ss }) (messages_in ss) w.messages

-- the place of the first of some segments, if there is one
unfoldable pub first_start : List Segment → Option ℕ
first_start [] = None
first_start (s ∷ ss) = Some s.start

-- a stray that is kept already, or else the first of some
abbrev kept_or : Option ℕ → List Segment → Option ℕ
kept_or None ss = first_start ss
kept_or (Some p) ss = Some p

last-from : (q : ℕ) (s : Segment) (ss : List Segment) → Rising q (s ∷ ss) → q ≤ (last_of s ss).start
unfolding Rising last_of
last-from q s [] k = k.0
last-from q s (t ∷ ts) k = omega (arith, k.0, last-from (suc s.start) t ts k.1)

kept-none : (stray : Option ℕ) → stray ≡ kept_or stray []
unfolding first_start
kept-none None = refl
kept-none (Some p) = refl

kept-first
    : (stray : Option ℕ) (s : Segment) (us vs : List Segment) → kept_or (stray_after true s.start stray) us ≡ kept_or stray (s ∷ vs)
unfolding first_start
kept-first None s us vs = refl
kept-first (Some p) s us vs = refl

module _ (f : Segment) where
  -- the segments outside from one on that is the last passed, where w was kept of those up to it, and ss follow
  abbrev left : Walk → Segment → List Segment → List Segment
  left w s ss = others (f ∷ last_of s ss ∷ []) (keep_if (is_outside w.role) s (left_over (is_within w.role) ss))

  last_no_stray : (s : Segment) (b : Bool) → others (f ∷ s ∷ []) (keep_if b s []) ≡ []
  unfolding others begins_in
  last_no_stray s false = refl
  last_no_stray s true = rw (eq-eqb s.start s.start refl) (go (eqb s.start f.start))
    where
      go : (b : Bool) → keep_if (not (b || true)) s [] ≡ []
      go true = refl
      go false = refl

  is-stray
      : (s l : Segment) (us : List Segment) → f.start < s.start → s.start < l.start
      → others (f ∷ l ∷ []) (s ∷ us) ≡ s ∷ others (f ∷ l ∷ []) us
  unfolding others begins_in
  is-stray s l us h k =
      let a : s.start ≡ f.start → ⊥ = λ e. omega (arith, e) in
      let b : s.start ≡ l.start → ⊥ = λ e. omega (arith, e) in
      rw (ne_eqb _ _ a, ne_eqb _ _ b)

  pub passed-stray
      : (w : Walk) (s : Segment) (ss : List Segment) → w.last.start ≡ s.start → (is_outside w.role ≡ true → f.start < s.start)
      → f.start ≤ s.start → Rising (suc s.start) ss → (passed_all w ss).stray ≡ kept_or w.stray (left w s ss)
  unfolding passed_all passed last_of left_over Rising
  passed-stray w s [] e o h r = kept-none w.stray ∙ rw (last_no_stray s (is_outside w.role))
  passed-stray w s (t ∷ ts) e o h r =
      go (is_outside w.role) o
      (passed-stray (passed w t) t ts refl (λ _. omega (arith, r.0)) (omega (arith, r.0)) r.1
      ∙ rw (role-left (tag_of t.bytes) (is_within w.role) t ts))
    where
      not_last : s.start < (last_of t ts).start
      not_last = omega (arith, last-from (suc s.start) t ts r)

      go
          : (c : Bool) → (c ≡ true → f.start < s.start)
          → (passed_all (passed w t) ts).stray
          ≡ kept_or (stray_after c w.last.start w.stray) (others (f ∷ last_of t ts ∷ []) (left_over (is_within w.role) (t ∷ ts)))
          → (passed_all (passed w t) ts).stray
          ≡ kept_or w.stray (others (f ∷ last_of t ts ∷ []) (keep_if c s (left_over (is_within w.role) (t ∷ ts))))
      go false o ih = ih ∙ rw (unkept w.stray w.last.start)
        where
          unkept : (stray : Option ℕ) (p : ℕ) → stray_after false p stray ≡ stray
          unkept None p = refl
          unkept (Some q) p = refl
      go true o ih =
          ih ∙ rw (e, is-stray s (last_of t ts) (left_over (is_within w.role) (t ∷ ts)) (o refl) not_last)
          (kept-first w.stray s _ _)
