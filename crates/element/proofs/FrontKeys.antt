-- Component 0 of element 1 of a segment, told by one word of eight bytes: behind a tag of three bytes and its separator stand the component and the byte
-- at which it ends.
use Prim.Native.Nat.{ℕ, ◌+◌, ◌-◌, ◌*◌, ◌^◌, ◌%◌, ◌≤◌, ◌<◌, min}
use mathlib.Core.Path.{◌≡◌, refl, sym, ap, ◌∙◌}
use mathlib.Core.Bool.{false}
use mathlib.Core.List.{List}
use native.Mathlib.Omega.{arith}
use lib.ListN.{length, get_or}
use lib.Bits.{bit_and}
use Rattle.bytewise.specs.Bytes.{part}
use Rattle.bytewise.specs.Eights.{on_from, eight_at, byte_of, Flagged, first_byte}
use Rattle.cut.specs.declared.service.Syntax.{Syntax}
use Rattle.bytewise.proofs.Bytewise.{byte_there, flagged_there}
use Rattle.bytewise.proofs.Clearing.{first-before, first_passes}
use Rattle.bytewise.proofs.Parts.{length_part}
use Rattle.element.specs.Elements.{ending_of, stays, before, component}
use Rattle.element.specs.declared.endings.Ending.TheVariants as ends
use Rattle.std.specs.Prelude.{Some}
use Rattle.plain.specs.Plain.{plain, decoded}
use Rattle.element.specs.Services.{is_service, Passed, Service}
use Rattle.plain.specs.Words.{word_of}
use Rattle.element.proofs.Cuts.{elements-some}
use Rattle.bytewise.proofs.Limits.{limited}
use Rattle.element.proofs.scan.Endings.{ending_element}
use Rattle.element.proofs.scan.Extents.{extent-ends, extent-stop, extent_ended}
use Rattle.element.proofs.scan.Services.{passed_none, service-here, service_end, service-eight, plain_no_mark}
use Rattle.element.proofs.scan.Stopping.{from, Ended}
use Rattle.plain.proofs.AtOnce.{front-worth, word-plain}
-- what the 1 above n bytes counts is not 0, and the sum fits
pub use Rattle.plain.proofs.AtOnce.{scale_some, scale_fits}

-- where the first component is all of the first element
second_element
    : (y : Syntax) (d : List ℕ) (a e stop : ℕ) → a < e → e ≤ length d → Ended y d a e stop → stop < e → ending_of y false (get_or d stop 0) ≡ Some ends.Element
    → component y (part a e d) 1 0 ≡ (from y d (stop + 1) e).bytes
unfolding component before
second_element y d a e stop h k q s g =
    let n : 0 < length (part a e d) = rw (length_part d a e k) (omega arith) in
    rw (elements-some y (part a e d) n, (q.more s).elements, g)

module _ (y : Syntax) (d : List ℕ) (start end limit : ℕ) (lim : limit ≡ min end (length d)) where
  -- no service character stands before the place p, where one ends the tag's element; the next one, at the place q, ends the component behind it
  key-part
      : (p q : ℕ) → Passed y d start p → p < limit → ending_of y false (get_or d p 0) ≡ Some ends.Element
      → Service y d (p + 1) limit q → q < limit → (get_or d q 0 ≡ y.release → ⊥) → component y (part start end d) 1 0 ≡ part (p + 1) q d
  unfolding stays
  key-part p q s h g t k n =
      let o = s.onward in
      let o' = t.passed.onward in
      let fits : limit ≤ length d = omega arith in
      let same : limit ≡ min limit (length d) = omega arith in
      let f : stays (ending_of y false (get_or d p 0)) ≡ false = rw g in
      let one = extent_ended y d start limit _ (extent-ends y d start limit limit same p (service-here y d start p s limit (service_end y _ f)) h f)
      (omega arith) fits in
      let two = extent_ended y d (p + 1) limit _ (extent-stop y d (p + 1) limit limit same q t k n) (omega arith) fits in
      ap (λ (l : List ℕ). component y l 1 0) (sym (limited d start end limit lim))
      ∙ second_element y d start limit p (omega arith) fits one h g
      ∙ two.bytes

  module _ (there : start + 12 ≤ limit) (bytes : (k : ℕ) → get_or d k 0 < 256) where
    -- the first service character of eight bytes
    service_near
        : (i w m j : ℕ) → i + 8 ≤ limit → w ≡ eight_at d i → Flagged w (is_service y) m → j ≡ first_byte m → j < 8 → Service y d i limit (i + j)
    service_near i w m j h e f q l =
        let g = flagged_there d i w (is_service y) m (omega arith) bytes e f in
        service-eight y d i i (passed_none y d i) m g limit j
        (record { within = l; passes = first_passes _ m j g q l; before = first-before _ m j g q })

    pub front-key
        : Passed y d start (start + 3) → get_or d (start + 3) 0 ≡ y.element → (y.terminator ≡ y.element → ⊥)
        → (w m n : ℕ) → w ≡ eight_at d (start + 4) → Flagged w (is_service y) m → n ≡ first_byte m → n ≤ 6 → (get_or d (start + 4 + n) 0 ≡ y.release → ⊥)
        → (scale : ℕ) → scale ≡ 1 * 2 ^ (8 * n) % 2 ^ 64
        → bit_and w (scale - 1) + scale ≡ word_of (plain y false (component y (part start end d) 1 0))
    unfolding decoded
    front-key tag x apart w m n e f q few u scale s =
        let i : start + 3 + 1 ≡ start + 4 = omega arith in
        let near : Service y d (start + 4) limit (start + 4 + n) = service_near (start + 4) w m n (omega arith) e f q (omega arith) in
        let g = ending_element y _ (λ t. apart (sym t ∙ x)) x in
        let place : component y (part start end d) 1 0 ≡ part (start + 4) (start + 4 + n) d =
        rw i at (key-part (start + 3) (start + 4 + n) tag (omega arith) g (rw i near) (omega arith) u) in
        let free : (k : ℕ) → k < n → byte_of w k ≡ y.release → ⊥ =
        λ k b o.
        plain_no_mark y (on_from d (start + 4) k) (near.passed.none (start + 4 + k) (omega arith) (omega arith))
        (sym (ap (λ (z : ℕ). byte_of z k) e ∙ byte_there d (start + 4) k (omega arith) bytes (omega arith)) ∙ o) in
        front-worth n few scale s w
        ∙ word-plain y d (start + 4 + n) (omega arith) n (start + 4) w refl few (omega arith) bytes e free
        ∙ ap (λ (b : List ℕ). word_of (plain y false b)) (sym place)
