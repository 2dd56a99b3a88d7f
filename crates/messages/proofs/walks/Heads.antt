-- What `head_at` says of the next segment of a message, by its tag.
use Rattle.std.specs.Prelude.{None}
use Rattle.messages.specs.Held.{some_head}
use Rattle.std.specs.Prelude.{None}
use Prim.Native.Nat.{ℕ, ◌≤◌, ◌<◌}
use mathlib.Core.Path.{◌≡◌, refl, sym, ◌∙◌, ap}
use mathlib.Core.Bool.{Bool, true, false}
use mathlib.Core.List.{List, [], ◌∷◌}
use native.Mathlib.Omega.{arith}
use lib.ListN.{length, get_or}
use Rattle.cut.specs.declared.service.Syntax.{Syntax}
use Rattle.cut.specs.Segments.{Segment, is_break, segments_at, past_at}
use Rattle.cut.proofs.Ahead.{none-past, pasts, some-ahead, first-ahead}
use Rattle.messages.specs.declared.tags.Tag.{Tag}
use Rattle.messages.specs.Held.{is_unt, belongs, head_in}
use Rattle.messages.specs.workers.Walks.{first_tag, tag_at}
use Rattle.messages.proofs.walks.Tagging.{tag-past}

by-tag-not : (b : Bool) (ss : List Segment) (t : Tag) → t ≡ first_tag ss → belongs b t ≡ false → None ≡ head_in b ss
unfolding head_in first_tag
by-tag-not b [] t k n = refl
by-tag-not b (s ∷ ss) t k n = rw (← k, n)

by-tag-here
    : (b : Bool) (ss : List Segment) → (ss ≡ [] → ⊥) → (p : ℕ) → ((x : Segment) (xs : List Segment) → ss ≡ x ∷ xs → x.start ≡ p)
    → (t : Tag) → t ≡ first_tag ss → belongs b t ≡ true → (l : Bool) → l ≡ is_unt t → some_head p l ≡ head_in b ss
unfolding head_in first_tag
by-tag-here b [] some p s t k n l u = absurd (some refl)
by-tag-here b (x ∷ xs) some p s t k n l u = rw (← k, n, u, s x xs refl)

module _ (y : Syntax) (d : List ℕ) (at : ℕ) (b : Bool) (s : ℕ) (o : s ≡ past_at y d at) where
  abbrev ahead : List Segment
  ahead = segments_at y d at

  same : ahead ≡ segments_at y d s
  same = (pasts y d at).list ∙ ap (segments_at y d) (sym o)

  kept : s < length d → is_break y (get_or d s 0) ≡ false
  kept h = ap (λ (t : ℕ). is_break y (get_or d t 0)) o ∙ (pasts y d at).stops (omega arith)

  pub head-past : length d ≤ s → None ≡ head_in b ahead
  unfolding head_in
  head-past h = sym (ap (head_in b) (same ∙ none-past y d s h))

  pub head-not : (t : Tag) → t ≡ tag_at y d s → belongs b t ≡ false → None ≡ head_in b ahead
  head-not t k n = by-tag-not b ahead t (k ∙ tag-past y d at s o) n

  pub head-here : s < length d → (t : Tag) → t ≡ tag_at y d s → belongs b t ≡ true → (l : Bool) → l ≡ is_unt t → some_head s l ≡ head_in b ahead
  head-here h t k n l u =
      by-tag-here b ahead (λ e. some-ahead y d s h (kept h) (sym same ∙ e)) s (λ x xs e. (first-ahead y d at x xs e).starts ∙ sym o) t
      (k ∙ tag-past y d at s o) n l u
