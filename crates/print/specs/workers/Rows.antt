-- Bytes into a lent row: what the workers promise each other.
use Rattle.std.specs.Prelude.{ℕ, ◌+◌, ◌≤◌, ◌≡◌, cond, List, [], ◌∷◌, ◌++◌, ltb, length, set, Option, Some, None, IsSome}
use Rattle.cut.specs.declared.service.Syntax.{Syntax}
use Rattle.plain.specs.Plain.{decoded}
use Rattle.print.specs.Report.{words, before}
use Rattle.print.specs.declared.rows.Copied.{Copied}

-- the row with these bytes from the place `at` on
unfoldable pub put_at : ℕ → List ℕ → List ℕ → List ℕ
put_at at [] row = row
put_at at (x ∷ xs) row = put_at (at + 1) xs (set row at x)

-- a letter, numbers and a last byte
unfoldable pub line_with : ℕ → List ℕ → ℕ → List ℕ
line_with letter ns last = letter ∷ (words ns ++ (last ∷ []))

-- the bytes from a place to another, release marks removed; none from no place
abbrev pub decoded_from : Syntax → List ℕ → Option ℕ → ℕ → List ℕ
decoded_from y d None to = []
decoded_from y d (Some from) to = decoded y from to d

-- some of the bytes of a part were put to the front of a row, as many as there is room for; what is left of the part, which is none where all were put
pub record Poured (y : Syntax) (d : List ℕ) (from to stop : ℕ) (row row' : List ℕ) (r : Copied) : Type 0 where
  pub text : List ℕ
  pub parts : decoded y from to d ≡ text ++ decoded_from y d r.left to
  pub put : row' ≡ put_at 0 text row
  pub count : r.length ≡ length text
  pub room : r.length ≤ stop
  pub full : IsSome r.left → r.length ≡ stop
  pub more : IsSome r.left → decoded_from y d r.left to ≡ [] → ⊥

-- what is put before the article from the place `from` to the place `to`: `-` stands for an absent one
unfoldable pub opened : ℕ → ℕ → ℕ → List ℕ
opened position from to = before position ++ cond (ltb from to) [] (45 ∷ [])
