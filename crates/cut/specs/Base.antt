-- The two readings of a delivery at the service characters `:+.?'`, so that UNA is `UNA:+.? '`. Document 01, 'Cutting'; item 4.
use Rattle.std.specs.Prelude.{true, false}
use Rattle.cut.specs.declared.service.Syntax.{Syntax}

-- "the usual case": line breaks between segments are skipped
abbrev pub edifact : Syntax
edifact = record { component = 58; element = 43; decimal = 46; release = 63; terminator = 39; skips = true }

-- "the strict reading": the same characters, and no byte is skipped
abbrev pub strictly : Syntax → Syntax
strictly y =
    record {
      component = y.component;
      element = y.element;
      decimal = y.decimal;
      release = y.release;
      terminator = y.terminator;
      skips = false;
    }
