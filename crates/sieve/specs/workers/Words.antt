-- The print of an article, eight bytes at a time: what its workers promise each other.
use Rattle.std.specs.Prelude.{ℕ, ◌+◌, ◌*◌, ◌/◌, ◌%◌, ◌≤◌, ◌<◌, Bool, cond, List, [], ◌∷◌, eqb, leb}
use Rattle.sieve.specs.declared.articles.Gathered.{Gathered}

-- the print a, and then the number v of eight bytes: its halves are mixed in one after the other, each by a product of which both halves count
unfoldable pub word_mixed : ℕ → ℕ → ℕ
word_mixed a v =
    let t = (a + v % 4294967296) % 4294967296 * 2654435769 in
    let u = (t / 4294967296 + v / 4294967296) % 4294967296 * 2246822519 in
    (u / 4294967296 + u % 4294967296 + t % 4294967296) % 4294967296

-- one byte more: the eighth completes a number, and that goes into the print
unfoldable pub gathered_by : Gathered → ℕ → Gathered
gathered_by g x =
    cond (leb g.scale 281474976710656)
    (record { print = g.print; number = g.number + g.scale * x; scale = g.scale * 256 })
    (record { print = word_mixed g.print (g.number + g.scale * x); number = 0; scale = 1 })

-- no byte more: a number that is begun goes into the print
unfoldable pub closed_by : Gathered → ℕ
closed_by g = cond (eqb g.scale 1) g.print (word_mixed g.print g.number)

-- the print a, and no byte behind it
abbrev pub begun : ℕ → Gathered
begun a = record { print = a; number = 0; scale = 1 }

-- what is gathered, and then the bytes xs
unfoldable pub print_from : Gathered → List ℕ → ℕ
print_from g [] = closed_by g
print_from g (x ∷ xs) = print_from (gathered_by g x) xs

-- the print of an article: a number below 2^32, made of its bytes, eight at a time, the first the lowest digit to the base 256
unfoldable pub article_print : List ℕ → ℕ
article_print xs = print_from (begun 0) xs

-- one byte more, unless it is a release mark
unfoldable pub gathered_unless : Bool → Gathered → ℕ → Gathered
gathered_unless m g x = cond m g (gathered_by g x)

-- fewer than eight bytes are gathered, and the next one counts more than all of them
pub record Gathering (g : Gathered) : Type 0 where
  pub below : g.number < g.scale
  pub small : g.scale ≤ 72057594037927936
