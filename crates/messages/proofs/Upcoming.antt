-- The next segment of a message, where only its head was looked at.
use Rattle.messages.specs.Held.{some_head}
use Rattle.std.specs.Prelude.{None}
use Rattle.messages.proofs.Sames.{place-same, last-same}
use Prim.Native.Nat.{ℕ, ◌≤◌, ◌<◌}
use mathlib.Core.Path.{◌≡◌, refl, ◌∙◌, ap, subst₂}
use mathlib.Core.Bool.{Bool, true, false, cond}
use mathlib.Core.List.{List, [], ◌∷◌}
use native.Mathlib.Omega.{arith}
use lib.ListN.{length}
use Rattle.bytewise.specs.Bytes.{part}
use Rattle.cut.specs.Calls.{cut_at}
use Rattle.cut.specs.Segments.{Segment, end_of, segments_at}
use Rattle.cut.specs.Calls.{some_cut}
use Rattle.cut.specs.declared.service.Syntax.{Syntax}
use Rattle.cut.proofs.Ahead.{first-ahead}
use Rattle.messages.specs.Messages.{tag_of, body}
use Rattle.messages.specs.Held.{is_unt, belongs, unless, members, head_in}
use Rattle.messages.proofs.Holding.{members-here, no_member}

module _ (y : Syntax) (d : List ℕ) (at : ℕ) (b : Bool) where
  abbrev ahead : List Segment
  ahead = segments_at y d at

  pub no_upcoming : head_in b ahead ≡ None → members b ahead ≡ []
  no_upcoming h = no_member y d at b h

  -- the segment that begins at `place`: its end, and whether it is a piece; l: it is the UNT
  pub record Upcoming (place : ℕ) (l : Bool) : Type 0 where
    pub end : ℕ
    pub piece : Bool
    pub cuts : cut_at y d place ≡ some_cut place end piece
    pub later : at ≤ place
    pub some : place < end
    pub fits : end ≤ length d
    pub list : members b ahead ≡ record { start = place; bytes = part place end d; piece = piece } ∷ unless l (body (segments_at y d end))

  upcoming_first : (x : Segment) (xs : List Segment) → ahead ≡ x ∷ xs → belongs b (tag_of x.bytes) ≡ true → Upcoming x.start (is_unt (tag_of x.bytes))
  upcoming_first x xs e k =
      let f = first-ahead y d at x xs e in
      record {
        end = end_of x;
        piece = x.piece;
        cuts = f.exact;
        later = f.later;
        some = f.some;
        fits = f.fits;
        list =
            ap (members b) e ∙ members-here b x xs k
            ∙ ap (λ (us : List Segment). x ∷ unless (is_unt (tag_of x.bytes)) (body us)) f.rest
            ∙ ap (λ (z : Segment). z ∷ unless (is_unt (tag_of x.bytes)) (body (segments_at y d (end_of x))))
            (ap (λ (bs : List ℕ). record { start = x.start; bytes = bs; piece = x.piece }) f.bytes);
      }

  pub upcoming : (place : ℕ) (l : Bool) → head_in b ahead ≡ some_head place l → Upcoming place l
  unfolding head_in
  upcoming place l h = go ahead refl h
    where
      go : (ss : List Segment) → ahead ≡ ss → head_in b ss ≡ some_head place l → Upcoming place l
      go [] e k = absurd (let z : ◌≡◌ {A = ℕ} 0 1 = cc in omega arith)
      go (x ∷ xs) e k = told (belongs b (tag_of x.bytes)) refl k
        where
          told
              : (u : Bool) → belongs b (tag_of x.bytes) ≡ u
              → cond u (some_head x.start (is_unt (tag_of x.bytes))) None ≡ some_head place l → Upcoming place l
          told true u g = subst₂ Upcoming (place-same _ _ _ _ g) (last-same _ _ _ _ g) (upcoming_first x xs e u)
          told false u g = absurd (let z : ◌≡◌ {A = ℕ} 0 1 = cc in omega arith)
