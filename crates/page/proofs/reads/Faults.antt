-- What is read of a segment: one law for each answer.
use Prim.Native.Nat.{ℕ, zero, suc, ◌<◌}
use mathlib.Core.Path.{◌≡◌, refl, sym, ap, ◌∙◌}
use mathlib.Core.Bool.{Bool, true, false}
use mathlib.Core.List.{List}
use native.Mathlib.Omega.{arith}
use Rattle.std.specs.Prelude.{Some, None, Result, Ok, Err}
use Rattle.bytewise.specs.Bytes.{part}
use Rattle.cut.specs.Calls.{cut_at}
use Rattle.cut.specs.Segments.{Segment as Piece}
use Rattle.cut.specs.declared.scan.Cut.{Cut}
use Rattle.cut.specs.declared.service.Syntax.{Syntax}
use Rattle.clean.specs.Clean.{allowed_bytes, tagged_bytes}
use Rattle.element.specs.Components.{component_at}
use Rattle.guide.specs.Choices.{or_else}
use Rattle.guide.specs.Editions.{pages_of}
use Rattle.guide.specs.workers.Judging.{bytes_fault}
use Rattle.guide.specs.workers.PageFault.{page_fault}
use Rattle.guide.specs.declared.edition.Edition.{Edition}
use Rattle.page.specs.Examined.{examined_by, examined_of}
use Rattle.page.specs.workers.Quick.{FaultlessAt}
use Rattle.page.specs.Reading.{segment_in, numbered_at, read_to, read_fault, reading_by, reading_of}
use Rattle.page.specs.declared.places.Places.{Places}
use Rattle.page.specs.declared.reads.Reading.{Reading}

-- 12, 10, 11
module _ (y : Syntax) (s : Piece) where
  abbrev bytes : ℕ
  bytes = bytes_fault y s

  pub piece-fault : s.piece ≡ true → 12 ≡ bytes
  unfolding bytes_fault
  piece-fault p = rw p

  module _ (whole : s.piece ≡ false) (a : Bool) (allowed : a ≡ allowed_bytes s.bytes) where
    pub byte-fault : a ≡ false → 10 ≡ bytes
    unfolding bytes_fault
    byte-fault h = rw (whole, ← allowed, h)

    module _ (clean : a ≡ true) (t : Bool) (tagged : t ≡ tagged_bytes y s.bytes) where
      pub tag-fault : t ≡ false → 11 ≡ bytes
      unfolding bytes_fault
      tag-fault h = rw (whole, ← allowed, clean, ← tagged, h)

      pub no_bytes-fault : t ≡ true → 0 ≡ bytes
      unfolding bytes_fault
      no_bytes-fault h = rw (whole, ← allowed, clean, ← tagged, h)

-- the answers for the segment at a place
module _ (y : Syntax) (ed : Edition) (node : ℕ) (d : List ℕ) (start : ℕ) where
  pub read_nothing : None ≡ cut_at y d start → Err (numbered_at 12 start) ≡ reading_of y ed node d start
  unfolding reading_of reading_by
  read_nothing h = rw (← h)

  module _ (k : Cut) (cut : Some k ≡ cut_at y d start) (f : ℕ) (is : f ≡ bytes_fault y (segment_in start k.end k.piece d)) where
    pub read_bytes : 0 < f → Err (numbered_at f k.end) ≡ reading_of y ed node d start
    unfolding reading_of reading_by read_fault examined_by
    read_bytes h = rw (← cut, ← is) (go f h)
      where
        go
            : (b : ℕ) → 0 < b
            → Err (numbered_at b k.end)
            ≡ read_to k.end (examined_by (or_else b (page_fault y (pages_of ed node) (part start k.end d))) (component_at y d start k.end 1 0)
            (component_at y d start k.end 3 0))
        go zero h = absurd (omega arith)
        go (suc b) h = refl

    pub read_page
        : f ≡ 0 → (x : Result Places ℕ) → x ≡ examined_of y (pages_of ed node) d start k.end → read_to k.end x ≡ reading_of y ed node d start
    unfolding reading_of reading_by read_fault examined_of
    read_page h x t = ap (read_to k.end) t ∙ rw (← cut, ← is, h)

  -- where the quick pass tells that there is no fault
  module _ (r : Reading) (q : FaultlessAt y (pages_of ed node) d start r) where
    seen : Ok (record { first = r.first; third = r.third }) ≡ examined_of y (pages_of ed node) d start r.end
    unfolding examined_of examined_by
    seen = rw (q.fault, ← q.first, ← q.third)

    clean : 0 ≡ bytes_fault y (segment_in start r.end false d)
    clean = no_bytes-fault y (segment_in start r.end false d) refl true (sym q.allowed) refl true (sym q.tagged) refl

    pub read_quick : Ok r ≡ reading_of y ed node d start
    read_quick =
        read_page (record { start = start; end = r.end; piece = false }) (sym q.whole) 0 clean refl (Ok (record { first = r.first; third = r.third })) seen
