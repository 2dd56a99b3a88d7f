-- Which edition a message names, and its verdict by that edition's guide.
use Prim.Native.Nat.{ℕ}
use mathlib.Core.Path.{◌≡◌, refl, sym, ◌∙◌, ap}
use mathlib.Core.Bool.{Bool, true, false}
use mathlib.Core.List.{List, [], ◌∷◌}
use native.Mathlib.Nat.{le_refl}
use lib.ListN.{length, drop}
use Rattle.cut.specs.declared.scan.Cut.{Cut}
use Rattle.std.specs.Prelude.{Option, Some, None}
use Rattle.cut.specs.declared.service.Syntax.{Syntax}
use Rattle.bytewise.specs.Bytes.{bytes_of, part}
use Rattle.messages.specs.Held.{held}
use Rattle.cut.specs.Calls.{cut_at, segment_at, some_cut}
use Rattle.cut.specs.Segments.{Segment, segments_from, segments_at, past_at}
use Rattle.cut.proofs.First.{some-segment, cutting, nothing}
use Rattle.cut.proofs.Ahead.{segment-past, CutAhead, cut_ahead, none_ahead}
use Rattle.element.specs.Elements.{elements, component}
use Rattle.plain.specs.Plain.{plain, same}
use Rattle.element.proofs.Cuts.{component_cut}
use Rattle.bytewise.proofs.Limits.{part_out}
use Rattle.guide.specs.Content.{text}
use Rattle.guide.specs.Editions.{guide_of, pages_of}
use Rattle.guide.specs.declared.edition.Edition.{Edition}
use Rattle.guide.specs.declared.edition.Edition.TheVariants.{D, C}
use Rattle.verdict.specs.declared.answers.Judged.{Judged}
use Rattle.verdict.specs.Answers.{judged_as}
use Rattle.verdict.specs.Named.{edition_in, edition_of}
use Rattle.verdict.specs.Verdicts.{verdict_named, verdict_from}

module _ (y : Syntax) (bs word : List ℕ) (is : word ≡ text y bs 2 4) (b : Bool) (test : b ≡ same word (bytes_of "2.0c")) where
  pub names_c : b ≡ true → C ≡ edition_in y bs
  unfolding edition_in
  names_c h = rw (← is, ← test, h)

  pub names_d : b ≡ false → D ≡ edition_in y bs
  unfolding edition_in
  names_d h = rw (← is, ← test, h)

no_bytes : (y : Syntax) (p : ℕ) (xs : List ℕ) → segments_from y p false xs ≡ [] → xs ≡ []
no_bytes y p [] h = refl
no_bytes y p (x ∷ xs) h = absurd (some-segment y p false x xs h)

no_name : (y : Syntax) (xs : List ℕ) → xs ≡ [] → edition_in y xs ≡ D
unfolding edition_in text component elements plain same
no_name y xs h = rw h

no_named : (y : Syntax) (ss : List Segment) → ss ≡ [] → D ≡ edition_of y (held ss)
unfolding edition_of held
no_named y ss h = rw h

module _ (y : Syntax) (d : List ℕ) (at s : ℕ) (o : s ≡ past_at y d at) where
  abbrev named : Type 0
  named = edition_in y (part s (length d) d) ≡ edition_of y (held (segments_at y d at))

  none_names : cut_at y d s ≡ None → segments_at y d at ≡ [] → named
  none_names h e =
      no_name y _ (part_out d s (length d) (le_refl (length d)) ∙ no_bytes y s (drop s d) (nothing y d s false h)) ∙ no_named y _ e

  first_names : (a e : ℕ) (p : Bool) → cut_at y d s ≡ some_cut a e p → CutAhead y d at a e p → named
  unfolding edition_in edition_of held text
  first_names a e p h q = rw (q.list, component_cut y d s a e p h 2 4, (cutting y d s false a e p h).starts)

  -- what the bytes behind the line breaks at a place name is what the first segment from there on names
  pub edition_cut : named
  edition_cut = go (segment_at y d at) refl
    where
      here : segment_at y d at ≡ cut_at y d s
      here = segment-past y d at ∙ ap (cut_at y d) (sym o)

      go : (c : Option Cut) → segment_at y d at ≡ c → named
      go None h = none_names (sym here ∙ h) (none_ahead y d at h)
      go (Some k) h = first_names k.start k.end k.piece (sym here ∙ h) (cut_ahead y d at k.start k.end k.piece h)

pub judged-named
    : (y : Syntax) (a : ℕ) (ss : List Segment) (ed : Edition) → ed ≡ edition_of y ss → (c : ℕ) (j : Judged)
    → judged_as j ≡ (verdict_from y (guide_of ed) (pages_of ed) a ss, c) → judged_as j ≡ (verdict_named y a ss, c)
unfolding verdict_named
judged-named y a ss ed h c j g = rw (← h) g
