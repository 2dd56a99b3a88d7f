-- A clean segment: the tests of refusals 10 and 11 on its raw bytes, released ones and the terminator too.
use Rattle.std.specs.Prelude.{ℕ, zero, suc, Bool, true, false, ◌&&◌, ◌||◌, List, [], ◌∷◌, eqb}
use Rattle.cut.specs.declared.service.Syntax.{Syntax}
unfoldable pub use Rattle.cut.specs.Characters.{between, allowed_byte}

-- 10, "it holds a byte not allowed": whether it holds none
unfoldable pub allowed_bytes : List ℕ → Bool
allowed_bytes [] = true
allowed_bytes (x ∷ xs) = allowed_byte x && allowed_bytes xs

-- a capital letter, A to Z
unfoldable pub capital : ℕ → Bool
capital x = between 65 90 x

-- "`+` or `'`"
unfoldable pub ends_tag : Syntax → ℕ → Bool
ends_tag y x = eqb x y.element || eqb x y.terminator

-- whether it begins with n capital letters and then a byte that ends a tag
unfoldable pub lettered : Syntax → ℕ → List ℕ → Bool
lettered y n [] = false
lettered y zero (x ∷ xs) = ends_tag y x
lettered y (suc n) (x ∷ xs) = capital x && lettered y n xs

-- 11, "not three capital letters followed by `+` or `'`": whether it begins so
unfoldable pub tagged_bytes : Syntax → List ℕ → Bool
tagged_bytes y s = lettered y 3 s
