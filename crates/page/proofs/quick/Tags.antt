-- The first bytes of a segment, by the number of its tag.
use Prim.Native.Nat.{ℕ, ◌+◌, ◌*◌, ◌%◌, ◌≤◌, ◌<◌}
use mathlib.Core.Path.{◌≡◌, sym, ◌∙◌}
use mathlib.Core.Bool.{true}
use mathlib.Core.List.{List}
use native.Mathlib.Omega.{arith}
use lib.ListN.{length, get_or}
use lib.Dec.{eqb}
use borrow.Author.Tests.{eq-eqb, eqb-true}
use Rattle.bytewise.specs.Eights.{eight_at, byte_of}
use Rattle.cut.specs.declared.service.Syntax.{Syntax}
use Rattle.bytewise.proofs.Bytewise.{eight_long}
use Rattle.clean.specs.Clean.{capital, ends_tag}
use Rattle.element.specs.Services.{usual_services}
use Rattle.page.proofs.quick.FourBytes.{tag_four}
use Rattle.element.proofs.UsualServices.{usual_are}
use Rattle.page.specs.workers.Cells.{is_tag_word}
use Rattle.page.specs.workers.Quick.{Begun}
use Rattle.page.proofs.quick.Start.{two}

-- the lowest four of the eight bytes at the place start are the word
module _ (d : List ℕ) (start word : ℕ) (room : start + 8 ≤ length d) (bytes : (k : ℕ) → get_or d k 0 < 256) (eight : ℕ) (at : eight ≡ eight_at d start)
    (lowest : eight % 0x1_0000_0000 ≡ word) where
  four : word ≡ get_or d start 0 + 0x100 * get_or d (start + 1) 0 + 0x1_0000 * get_or d (start + 2) 0 + 0x100_0000 * get_or d (start + 3) 0
  four = omega (arith, eight_long d start room, bytes start, bytes (start + 1), bytes (start + 2), bytes (start + 3))

  byte_0 : byte_of word 0 ≡ get_or d start 0
  unfolding byte_of
  byte_0 = omega (arith, four, bytes start)

  byte_1 : byte_of word 1 ≡ get_or d (start + 1) 0
  unfolding byte_of
  byte_1 = omega (arith, four, bytes start, bytes (start + 1))

  byte_2 : byte_of word 2 ≡ get_or d (start + 2) 0
  unfolding byte_of
  byte_2 = omega (arith, four, bytes start, bytes (start + 1), bytes (start + 2))

  byte_3 : byte_of word 3 ≡ get_or d (start + 3) 0
  unfolding byte_of
  byte_3 = omega (arith, four, bytes start, bytes (start + 1), bytes (start + 2), bytes (start + 3))

  pub begun-word : (y : Syntax) → usual_services y ≡ true → is_tag_word word ≡ true → Begun y d start
  unfolding is_tag_word ends_tag
  begun-word y u t =
      let s = usual_are y u in
      let a = two (capital (byte_of word 0)) _ t in
      let b = two (capital (byte_of word 1)) _ a.1 in
      let c = two (capital (byte_of word 2)) (eqb (byte_of word 3) 43) b.1 in
      let plus : get_or d (start + 3) 0 ≡ 43 = sym byte_3 ∙ eqb-true (byte_of word 3) 43 c.1 in
      record {
        services = u;
        tagged =
            sym (tag_four y d start (length d) (length d) (omega arith) true (omega arith)
            (rw (← byte_0, ← byte_1, ← byte_2, a.0, b.0, c.0, eq-eqb (get_or d (start + 3) 0) y.element (plus ∙ sym s.1))));
        inner = λ z. omega (arith, z, plus, s.0);
        literal = λ z. omega (arith, z, plus, s.3);
      }
