-- A step, by the printer's stage.
use Prim.Native.Nat.{ℕ, ◌<◌}
use mathlib.Core.Path.{◌≡◌, refl, sym, ◌∙◌, subst}
use mathlib.Core.Bool.{Bool, true, false}
use mathlib.Core.List.{List, [], ◌∷◌}
use lib.ListN.{length}
use Rattle.price.specs.declared.cursor.Cursor.{Cursor}
use Rattle.print.specs.declared.state.Rest.{Rest}
use Rattle.print.specs.declared.state.Stage.TheVariants as stage
use Rattle.print.specs.declared.state.Printer.{Printer}
use Rattle.print.specs.declared.state.Chunk.{Chunk}
use Rattle.std.specs.Prelude.{Some, None, Ok, Err}
use Rattle.print.specs.declared.state.Unprinted.TheVariants.{Short, Foreign}
use Rattle.print.specs.Report.{line_of}
use Rattle.print.specs.Printing.{left_from, left_among, left_within, left_in, left_to, sound, least, Wrote, Stepped}

pub is-sound : (b t : Bool) → b ≡ t → b ≡ true → t ≡ true
is-sound b t e h = sym e ∙ h

module _ (d : List ℕ) (p : Printer) (row : List ℕ) where
  pub stepped-short : length row < least → Stepped d p row row (Err Short)
  unfolding Stepped
  stepped-short h = (h, refl)

  pub stepped_foreign : (b : Bool) → b ≡ sound p.counts → b ≡ false → Stepped d p row row (Err Foreign)
  unfolding Stepped
  stepped_foreign b e h = (sym e ∙ h, refl)

  pub stepped_ended : p.stage ≡ stage.Ended → Stepped d p row row (Ok None)
  unfolding Stepped left_to left_in
  stepped_ended h = (rw h, refl)

  module _ (row' : List ℕ) (r : Chunk) where
    by_left : (left : List ℕ) → left ≡ left_to d p → Wrote d left row row' r → Stepped d p row row' (Ok (Some r))
    unfolding Stepped
    by_left left h w = subst (λ (t : List ℕ). Wrote d t row row' r) h w

    pub stepped_refused
        : (n : ℕ) → p.stage ≡ stage.Refused n → Wrote d (line_of 88 (n ∷ [])) row row' r → Stepped d p row row' (Ok (Some r))
    unfolding left_to left_in
    stepped_refused n h w = by_left (line_of 88 (n ∷ [])) (rw h) w

    pub stepped-between
        : p.stage ≡ stage.Between → Wrote d (left_from p.syntax d p.counts) row row' r → Stepped d p row row' (Ok (Some r))
    unfolding left_to left_in
    stepped-between h w = by_left (left_from p.syntax d p.counts) (rw h) w

    pub stepped-among
        : (c : Cursor) → p.stage ≡ stage.Prices c → Wrote d (left_among p.syntax d p.counts c) row row' r
        → Stepped d p row row' (Ok (Some r))
    unfolding left_to left_in
    stepped-among c h w = by_left (left_among p.syntax d p.counts c) (rw h) w

    pub stepped_within
        : (c : Cursor) (x : Rest) → p.stage ≡ stage.Article c x → Wrote d (left_within p.syntax d p.counts c x) row row' r
        → Stepped d p row row' (Ok (Some r))
    unfolding left_to left_in
    stepped_within c x h w = by_left (left_within p.syntax d p.counts c x) (rw h) w
