-- The component that begins at a place, a byte at a time: where it ends and how many bytes it has without release marks.
use Prim.Native.Nat.{ℕ, zero, suc, ◌+◌, ◌-◌, ◌≤◌, ◌<◌, min}
use mathlib.Core.Path.{◌≡◌, sym, ap, ◌∙◌}
use mathlib.Core.Bool.{true, false}
use mathlib.Core.List.{List, [], ◌∷◌}
use mathlib.Core.Logic.{◌⊎◌, inl, inr}
use native.Mathlib.Decide.{dec_le}
use native.Mathlib.Nat.{add-zero}
use native.Mathlib.Omega.{arith}
use lib.ListN.{length, get_or}
use Rattle.bytewise.specs.Bytes.{part}
use Rattle.cut.specs.declared.service.Syntax.{Syntax}
use Rattle.bytewise.proofs.Parts.{part_none, part-next}
use Rattle.element.specs.declared.scan.Extent.{Extent}
use Rattle.element.specs.Elements.{ending_of, stays, releases, before, split_from, component}
use Rattle.element.specs.Components.{extent_of}
use Rattle.plain.specs.Plain.{plain, decoded}
use Rattle.element.specs.Services.{is_service, Service}
use Rattle.bytewise.specs.Search.{FirstThat}
use Rattle.plain.proofs.Decoding.{plain_byte, unmarked}
use Rattle.bytewise.proofs.Limits.{limited}
use Rattle.element.proofs.scan.Endings.{stays-nothing}
use Rattle.element.proofs.scan.Scanning.{first-component, bytes-none}
use Rattle.element.proofs.scan.Services.{plain-stays, plain_no_mark, service-ends, service-first}
use Rattle.element.proofs.scan.Stopping.{Ended, ended}

module _ (y : Syntax) (d : List ℕ) (from end limit : ℕ) where
  -- the component that begins at `from`, and what is left of it at the place i
  abbrev whole : List ℕ
  whole = component y (part from end d) 0 0

  abbrev left : ℕ → List ℕ
  left i = component y (part i limit d) 0 0

  -- the bytes from `from` up to i are its own, and each counts
  pub record Reached (i : ℕ) : Type 0 where
    pub within : limit ≤ length d
    pub passed : from ≤ i
    pub ends : i + length (left i) ≡ from + length whole
    pub counts : i - from + length (plain y false (left i)) ≡ length (plain y false whole)

  reached-first : limit ≡ min end (length d) → Reached from
  reached-first h =
      let p = limited d from end limit h in
      record { within = omega arith; passed = omega arith; ends = rw p; counts = rw p (omega arith) }

  module _ (i : ℕ) (r : Reached i) where
    reached_end : left i ≡ [] → record { end = i; length = i - from } ≡ extent_of y d from end
    unfolding extent_of plain
    reached_end p =
        let l = ap length p in
        let m : length (plain y false (left i)) ≡ 0 = rw p in
        let a : i ≡ from + length whole = omega (arith, r.ends) in
        let b : i - from ≡ length (plain y false whole) = omega (arith, r.counts) in
        λ j. record { end = a j; length = b j }

    reached-past : limit ≤ i → record { end = i; length = i - from } ≡ extent_of y d from end
    unfolding split_from
    reached-past h = reached_end (first-component y (part i limit d) ∙ rw (part_none d i limit h))

    module _ (h : i < limit) where
      reached-stop : stays (ending_of y false (get_or d i 0)) ≡ false → record { end = i; length = i - from } ≡ extent_of y d from end
      unfolding split_from
      reached-stop f = reached_end (first-component y (part i limit d) ∙ rw (part-next d i limit h r.within) (bytes-none _ _ _ f))

      -- a byte that stays in the component and is not the release mark
      module _ (t : stays (ending_of y false (get_or d i 0)) ≡ true) (n : get_or d i 0 ≡ y.release → ⊥) where
        left-next : left i ≡ get_or d i 0 ∷ left (i + 1)
        unfolding split_from releases before stays
        left-next =
            first-component y (part i limit d)
            ∙ rw (part-next d i limit h r.within, stays-nothing (ending_of y false (get_or d i 0)) t, unmarked y (get_or d i 0) n)
            (ap (λ (l : List ℕ). get_or d i 0 ∷ l) (sym (first-component y (part (i + 1) limit d))))

        reached-next : Reached (i + 1)
        reached-next =
            let l = ap length left-next in
            let p = ap (λ (b : List ℕ). length (plain y false b)) left-next
            ∙ ap length (plain_byte y (get_or d i 0) (left (i + 1)) (unmarked y (get_or d i 0) n)) in
            record { within = r.within; passed = omega (arith, r.passed); ends = omega (arith, r.ends); counts = omega (arith, r.passed, r.counts) }

      -- from a release mark on, where it ends at the place stop
      module _ (stop : ℕ) (s : stop ≡ i + length (left i)) where
        abbrev here : Ended y d i limit stop
        here = ended y d i limit stop (omega arith) r.within s

        pub mark-within : stop ≤ length d
        mark-within = omega (arith, here.within, r.within)

        pub reached-mark : (k : ℕ) → k ≡ length (decoded y i stop d) → record { end = stop; length = i - from + k } ≡ extent_of y d from end
        unfolding extent_of decoded
        reached-mark k c =
            let b = first-component y (part i limit d) ∙ here.bytes in
            let a : stop ≡ from + length whole = s ∙ r.ends in
            let m : i - from + k ≡ length (plain y false whole) =
            ap (λ (n : ℕ). i - from + n) c ∙ ap (λ (l : List ℕ). i - from + length (plain y false l)) (sym b) ∙ r.counts in
            λ j. record { end = a j; length = m j }

  pub extent-empty : limit ≡ min end (length d) → limit ≤ from → record { end = from; length = 0 } ≡ extent_of y d from end
  extent-empty lim h =
      let z : from - from ≡ 0 = omega arith in
      rw z at (reached-past from (reached-first lim) h)

  -- where the first byte that ends something or is the release character stands at r, if one does before limit
  module _ (lim : limit ≡ min end (length d)) (r : ℕ) (s : Service y d from limit r) where
    reached-run : (n : ℕ) → from + n ≤ limit → from + n ≤ r → Reached (from + n)
    reached-run zero h k = rw (add-zero from) (reached-first lim)
    reached-run (suc n) h k =
        let p = s.passed.none (from + n) (omega arith) (omega arith) in
        let z : from + n + 1 ≡ from + suc n = omega arith in
        rw z at (reached-next (from + n) (reached-run n (omega arith) (omega arith)) (omega arith) (plain-stays y _ p) (plain_no_mark y _ p))

    reached-at : (i : ℕ) → from ≤ i → i ≤ limit → i ≤ r → Reached i
    reached-at i a h k =
        let z : from + (i - from) ≡ i = omega arith in
        rw z at (reached-run (i - from) (omega arith) (omega arith))

    pub extent-whole : from < limit → limit ≤ r → record { end = limit; length = limit - from } ≡ extent_of y d from end
    extent-whole a h = reached-past limit (reached-at limit (omega arith) (omega arith) h) (omega arith)

    module _ (h : r < limit) where
      pub reached-service : Reached r
      reached-service = reached-at r s.passed.onward (omega arith) (omega arith)

      pub extent-ends : stays (ending_of y false (get_or d r 0)) ≡ false → record { end = r; length = r - from } ≡ extent_of y d from end
      extent-ends f = reached-stop r reached-service h f

      pub extent-stop : (get_or d r 0 ≡ y.release → ⊥) → record { end = r; length = r - from } ≡ extent_of y d from end
      extent-stop n = extent-ends (service-ends y _ (s.here h) n)

  -- up to the part's end or to a byte that is not the release character
  module _ (lim : limit ≡ min end (length d)) (ahead : from < limit) (r : ℕ) (f : FirstThat (is_service y) d from (min limit (length d)) r) where
    pub extent-first : Service y d from limit r
    extent-first = service-first y d from limit r (omega arith) (omega arith) f

    pub extent-plain : (limit ≤ r) ⊎ (get_or d r 0 ≡ y.release → ⊥) → record { end = r; length = r - from } ≡ extent_of y d from end
    extent-plain h = go (dec_le limit r) h
      where
        go : Dec (limit ≤ r) → (limit ≤ r) ⊎ (get_or d r 0 ≡ y.release → ⊥) → record { end = r; length = r - from } ≡ extent_of y d from end
        go (yes l) k =
            let w = f.within in
            let z : limit ≡ r = omega arith in
            rw z at (extent-whole lim r extent-first ahead l)
        go (no l) (inl m) = absurd (l m)
        go (no l) (inr n) = extent-stop lim r extent-first (omega arith) n

-- what the answer says of the component that begins at the place a
module _ (y : Syntax) (d : List ℕ) (a e : ℕ) (r : Extent) (h : r ≡ extent_of y d a e) where
  pub extent_end : r.end ≡ a + length (component y (part a e d) 0 0)
  unfolding extent_of
  extent_end = ap (λ (x : Extent). x.end) h

  pub extent-onward : a ≤ r.end
  extent-onward = omega (arith, extent_end)

  module _ (ahead : a ≤ e) (fits : e ≤ length d) where
    pub extent_ended : Ended y d a e r.end
    extent_ended = ended y d a e r.end ahead fits extent_end

    pub extent-length : r.length ≡ length (decoded y a r.end d)
    unfolding extent_of decoded
    extent-length =
        ap (λ (x : Extent). x.length) h
        ∙ ap (λ (l : List ℕ). length (plain y false l)) (first-component y (part a e d) ∙ extent_ended.bytes)
