-- Going through one message: what `head_at` says of the list, what the whole message is, and what follows it.
use Rattle.messages.specs.Held.{some_head}
use Rattle.std.specs.Prelude.{None}
use Prim.Native.Nat.{ℕ, ◌≤◌}
use mathlib.Core.Path.{◌≡◌, refl, ap}
use mathlib.Core.Bool.{Bool, true, false, cond}
use mathlib.Core.List.{List, [], ◌∷◌, ◌++◌}
use native.Mathlib.Omega.{arith}
use lib.ListN.{length, drop}
use Rattle.cut.specs.declared.service.Syntax.{Syntax}
use Rattle.messages.specs.declared.tags.Tag.{Tag}
use Rattle.messages.specs.declared.tags.Tag.TheVariants.{Unh, Unt, Unz, Other}
use Rattle.bytewise.specs.Bytes.{part}
use Rattle.cut.specs.Segments.{Segment, segments_at, segments_of, last_end}
use Rattle.messages.specs.Messages.{tag_of, follow, body}
use Rattle.messages.specs.Held.{is_unt, belongs, unless, held, members, head_in}
use Rattle.cut.proofs.Ahead.{last_fits, own-bytes}
use Rattle.messages.proofs.Members.{body-front}

-- a segment that belongs to an open message, and what of those after it does
follow-belongs : (t : Tag) (s : Segment) (ss : List Segment) → belongs false t ≡ true → follow t s ss ≡ s ∷ unless (is_unt t) ss
follow-belongs Unh s ss h = absurd (let z : ◌≡◌ {A = ℕ} 0 1 = cc in omega arith)
follow-belongs Unt s ss h = refl
follow-belongs Unz s ss h = absurd (let z : ◌≡◌ {A = ℕ} 0 1 = cc in omega arith)
follow-belongs Other s ss h = refl

follow-not : (b : Bool) (t : Tag) (s : Segment) (ss : List Segment) → belongs b t ≡ false → follow t s ss ≡ []
follow-not b Unh s ss h = refl
follow-not b Unt s ss h = absurd (let z : ◌≡◌ {A = ℕ} 0 1 = cc in omega arith)
follow-not b Unz s ss h = refl
follow-not b Other s ss h = absurd (let z : ◌≡◌ {A = ℕ} 0 1 = cc in omega arith)

first-belongs : (t : Tag) → belongs true t ≡ true
first-belongs Unh = refl
first-belongs Unt = refl
first-belongs Unz = refl
first-belongs Other = refl

pub members-here
    : (b : Bool) (s : Segment) (ss : List Segment) → belongs b (tag_of s.bytes) ≡ true → members b (s ∷ ss) ≡ s ∷ unless (is_unt (tag_of s.bytes)) (body ss)
unfolding held body
members-here true s ss h = refl
members-here false s ss h = follow-belongs (tag_of s.bytes) s (body ss) h

members-not : (b : Bool) (s : Segment) (ss : List Segment) → belongs b (tag_of s.bytes) ≡ false → members b (s ∷ ss) ≡ []
unfolding body
members-not true s ss h = absurd (let e = first-belongs (tag_of s.bytes) in let z : ◌≡◌ {A = ℕ} 0 1 = cc in omega arith)
members-not false s ss h = follow-not false (tag_of s.bytes) s (body ss) h

members-none : (b : Bool) → members b [] ≡ []
unfolding held body
members-none true = refl
members-none false = refl

module _ (y : Syntax) (d : List ℕ) (at : ℕ) (b : Bool) where
  abbrev ahead : List Segment
  ahead = segments_at y d at

  -- what the answer says of the list
  by-none : (ss : List Segment) → head_in b ss ≡ None → members b ss ≡ []
  unfolding head_in
  by-none [] h = members-none b
  by-none (x ∷ xs) h = go (belongs b (tag_of x.bytes)) refl h
    where
      go
          : (u : Bool) → belongs b (tag_of x.bytes) ≡ u → cond u (some_head x.start (is_unt (tag_of x.bytes))) None ≡ None
          → members b (x ∷ xs) ≡ []
      go true k f = absurd (let z : ◌≡◌ {A = ℕ} 0 1 = cc in omega arith)
      go false k f = members-not b x xs k

  pub no_member : head_in b ahead ≡ None → members b ahead ≡ []
  no_member h = by-none ahead h

unless-front : (b : Bool) (ss : List Segment) → ss ≡ unless b (body ss) ++ drop (length (unless b (body ss))) ss
unless-front true ss = refl
unless-front false ss = body-front ss

-- what a message takes are the first of the segments
pub held-front : (ss : List Segment) → ss ≡ held ss ++ drop (length (held ss)) ss
unfolding held
held-front [] = refl
held-front (s ∷ ss) = ap (λ (us : List Segment). s ∷ us) (unless-front (is_unt (tag_of s.bytes)) ss)

module _ (y : Syntax) (d : List ℕ) (at : ℕ) where
  abbrev whole : List Segment
  whole = held (segments_at y d at)

  -- the message's bytes alone hold its segments
  pub held_alone : segments_of y at (part at (last_end at whole) d) ≡ whole
  held_alone = own-bytes y d at whole _ (held-front _)

  -- it does not end past the delivery, unless it begins there
  pub held_fits : at ≤ length d → last_end at whole ≤ length d
  held_fits h = last_fits y d at whole _ h (held-front _)
