-- The text of a component, where its span was found.
use Prim.Native.Nat.{ℕ}
use mathlib.Core.Path.{◌≡◌, ap}
use mathlib.Core.Bool.{false}
use mathlib.Core.List.{List}
use Rattle.cut.specs.declared.service.Syntax.{Syntax}
use Rattle.bytewise.specs.Bytes.{part}
use Rattle.element.specs.Components.{component_at}
use Rattle.plain.specs.Plain.{plain, decoded}
use Rattle.element.specs.declared.components.Span.{Span}
use Rattle.element.proofs.ComponentFace.{component_bytes}
use Rattle.guide.specs.Content.{text}
use Rattle.verdict.specs.workers.Segments.{spanned}

module _ (y : Syntax) (d : List ℕ) (start end e c : ℕ) (span : Span) (found : span ≡ component_at y d start end e c) where
  pub decoded-text : decoded y span.start span.end d ≡ text y (part start end d) e c
  unfolding decoded text
  decoded-text = rw found (ap (plain y false) (component_bytes y d start end e c))

  pub spanned-text : spanned y span d ≡ text y (part start end d) e c
  unfolding spanned
  spanned-text = decoded-text
