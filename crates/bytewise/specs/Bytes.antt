-- Parts and beginnings of a row of bytes.
use Rattle.std.specs.Prelude.{ℕ, ◌-◌, Bool, true, false, ◌&&◌, List, [], ◌∷◌, take, drop, eqb}
use Prim.Native.Char.{code}
use Prim.Native.String.{String, [] as blank, ◌∷◌ as ◌joins◌}

-- the bytes of a text as the papers print it, each character one byte
abbrev pub bytes_of : String → List ℕ
bytes_of blank = []
bytes_of (c joins t) = code c ∷ bytes_of t

-- the bytes of d from place a up to place e, as `&d[a..e]` holds them
unfoldable pub part : ℕ → ℕ → List ℕ → List ℕ
part a e d = take (e - a) (drop a d)

-- whether d begins with the bytes of word
unfoldable pub begins : List ℕ → List ℕ → Bool
begins [] d = true
begins (w ∷ ws) [] = false
begins (w ∷ ws) (x ∷ xs) = eqb x w && begins ws xs
