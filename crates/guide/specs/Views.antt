-- How a guide sees a segment's bytes: its tag, and its components with releases removed. Document 01, 'Guide nodes': "releases removed".
use Rattle.std.specs.Prelude.{ℕ, false, List, take}
use Rattle.cut.specs.declared.service.Syntax.{Syntax}
use Rattle.element.specs.Elements.{component}
use Rattle.plain.specs.Plain.{plain}
use Rattle.guide.specs.Nodes.{View}

unfoldable pub view_of : Syntax → List ℕ → View
view_of y bytes = record { tag = take 3 bytes; key = λ e c. plain y false (component y bytes e c) }
