-- Demand 3 in the strict reading at the service characters `:+.?'`: a line break in front is damage like any other, by computation.
use Prim.Native.Nat.{ℕ}
use mathlib.Core.Path.{◌≡◌, refl, sym, ◌∙◌, ap, subst}
use mathlib.Core.Bool.{false}
use mathlib.Core.List.{List, [], ◌∷◌, ◌++◌, Memᴰ}
use lib.ListN.{drop}
use Rattle.cut.specs.declared.service.Syntax.{Syntax}
use Rattle.cut.specs.Admission.{segments}
use Rattle.cut.specs.Base.{edifact, strictly}
use Rattle.cut.specs.Fronts.{whole, Tail}
use Rattle.messages.specs.Messages.{messages}
use Rattle.messages.specs.Fronts.{moved_message}
use Rattle.guide.specs.Answers.{accepts}
use Rattle.verdict.specs.Moves.{moved_verdict}
use Rattle.schaumtruhe.specs.Calls.{verdict_at, priced_at, row_at}
use Rattle.schaumtruhe.specs.Demand3.{Kept}
use Rattle.std.specs.Prelude.{Ok}
use Rattle.schaumtruhe.proofs.Demand3.{demand3_any}
use Rattle.schaumtruhe.proofs.keeping.Tails.{judged_at, filled_at, priced_second, empty, sheet, row, filled}

abbrev strict : Syntax
strict = strictly edifact

-- CR LF
abbrev line_break : List ℕ
line_break = 13 ∷ 10 ∷ []

-- a tail without line breaks holds the same messages and gives the same answers as in the usual reading
strict_second : messages strict priced_second ≡ empty ∷ sheet ∷ []
unfolding judged_at
strict_second = refl

strict_verdict : verdict_at strict priced_second 35 ≡ accepts 10 170
unfolding judged_at
strict_verdict = refl

strict_priced : (priced_at strict priced_second 35 0 row ≡ Ok (record { written = 1; total = 1 })) × (row_at strict priced_second 35 0 row ≡ filled)
unfolding filled_at
strict_priced = (refl, refl)

-- behind a line break the tail's first message is lost, and the second is the only one
broken : Tail strict line_break priced_second
unfolding judged_at
broken = record { admitted = refl; begins_UNH = refl }

broken-messages : messages strict (line_break ++ priced_second) ≡ moved_message 2 sheet ∷ []
unfolding judged_at
broken-messages = refl

-- strictly a line break does not end where a segment ends
broken_open : whole (segments strict line_break) ≡ false
unfolding judged_at whole
broken_open = refl

broken-kept : Kept strict (line_break ++ priced_second) priced_second 2 sheet
broken-kept =
    (demand3_any strict line_break priced_second broken).kept sheet (subst (Memᴰ sheet) (sym (ap (drop 1) strict_second)) (Memᴰ.head refl))

broken-verdict : verdict_at strict (line_break ++ priced_second) 37 ≡ accepts 10 172
unfolding moved_verdict
broken-verdict = broken-kept.verdict ∙ ap (moved_verdict 2) strict_verdict

broken-row : row_at strict (line_break ++ priced_second) 37 0 row ≡ filled
broken-row = broken-kept.row 0 row ∙ strict_priced.1
