-- Formats. Document 01, 'Elements', on decoded bytes: "Lengths count bytes after release marks are removed."
use Rattle.std.specs.Prelude.{ℕ, Bool, ◌&&◌, List, length, leb, eqb}
use Rattle.cut.specs.declared.service.Syntax.{Syntax}
use Rattle.value.specs.declared.formats.Format.{Format}
use Rattle.value.specs.declared.formats.Format.TheVariants.{AnUpTo, An, NUpTo, N}
use Rattle.value.specs.Numeral.{digits, is_number}

-- "`an..k` is 1 to k bytes, `ank` exactly k. `n..k` and `nk` (up to k digits, exactly k) are" numbers; "sign and mark do not count"
unfoldable pub fits_format : Syntax → Format → List ℕ → Bool
fits_format y (AnUpTo k) s = leb 1 (length s) && leb (length s) k
fits_format y (An k) s = eqb (length s) k
fits_format y (NUpTo k) s = is_number y s && leb (length (digits s)) k
fits_format y (N k) s = is_number y s && eqb (length (digits s)) k
