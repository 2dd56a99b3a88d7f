-- Whether a part begins with a tag, by its first four bytes.
use Prim.Native.Nat.{ℕ, ◌+◌, ◌≤◌, ◌<◌, min}
use mathlib.Core.Path.{◌≡◌, sym}
use mathlib.Core.Bool.{Bool, false, ◌&&◌}
use mathlib.Core.List.{List}
use native.Mathlib.Omega.{arith}
use lib.ListN.{length, get_or}
use Rattle.bytewise.specs.Bytes.{part}
use Rattle.bytewise.proofs.Limits.{limited}
use Rattle.bytewise.proofs.Parts.{length_part, part-next}
use Rattle.cut.specs.declared.service.Syntax.{Syntax}
use Rattle.clean.specs.Clean.{capital, ends_tag, lettered, tagged_bytes}
use Rattle.clean.proofs.Laws.{untagged-short}

module _ (y : Syntax) (d : List ℕ) (a e m : ℕ) (lim : m ≡ min e (length d)) where
  pub tag-short : m ≤ a + 3 → tagged_bytes y (part a e d) ≡ false
  tag-short h =
      let l : m ≤ length d = omega arith in
      let n : length (part a m d) < 4 = rw (length_part d a m l) (omega arith) in
      rw (← limited d a e m lim) (sym (untagged-short y (part a m d) n))

  pub tag_four
      : (r : Bool) → a + 3 < m
      → r ≡ capital (get_or d a 0) && (capital (get_or d (a + 1) 0) && (capital (get_or d (a + 2) 0) && ends_tag y (get_or d (a + 3) 0)))
      → r ≡ tagged_bytes y (part a e d)
  unfolding tagged_bytes lettered
  tag_four r h t =
      let l : m ≤ length d = omega arith in
      let h0 : a < m = omega arith in
      let h1 : a + 1 < m = omega arith in
      let h2 : a + 2 < m = omega arith in
      let z1 : a + 1 + 1 ≡ a + 2 = omega arith in
      let z2 : a + 2 + 1 ≡ a + 3 = omega arith in
      rw (← limited d a e m lim, part-next d a m h0 l, part-next d (a + 1) m h1 l, z1, part-next d (a + 2) m h2 l, z2, part-next d (a + 3) m h l) t
