-- A guide sees the same in a delivery from a segment's start on as in the segment, where this has the three bytes of a tag.
use Prim.Native.Nat.{ℕ, ◌-◌, ◌≤◌}
use mathlib.Core.Path.{◌≡◌}
use mathlib.Core.Bool.{Bool, false}
use mathlib.Core.List.{List}
use lib.ListN.{length}
use Rattle.bytewise.specs.Bytes.{part}
use Rattle.cut.specs.Calls.{cut_from, some_cut}
use Rattle.cut.specs.declared.service.Syntax.{Syntax}
use Rattle.plain.specs.Plain.{plain}
use Rattle.element.proofs.Cuts.{take_cut, component_cut}
use Rattle.guide.specs.Views.{view_of}

pub view_cut
    : (y : Syntax) (d : List ℕ) (a s e : ℕ) (p : Bool) → cut_from y d a false ≡ some_cut s e p → 3 ≤ e - a
    → view_of y (part a (length d) d) ≡ view_of y (part a e d)
unfolding view_of
view_cut y d a s e p h k =
    λ i. record { tag = take_cut y d a s e p h 3 k i; key = λ (x c : ℕ). plain y false (component_cut y d a s e p h x c i) }
