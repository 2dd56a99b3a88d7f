-- From price to price, and within an article: what is left to print, one chunk further.
use Prim.Native.Nat.{ℕ, ◌+◌, ◌-◌, ◌≤◌, ◌<◌}
use mathlib.Core.Path.{◌≡◌, refl, sym, ap, ◌∙◌}
use mathlib.Core.Bool.{true, false, cond}
use Rattle.std.specs.Prelude.{Option, Some, None, is_some}
use mathlib.Core.List.{List, [], ◌∷◌, ◌++◌, append_assoc, append-nil}
use native.Mathlib.Decide.{dec_lt}
use native.Mathlib.Nat.{zero-add}
use native.Mathlib.Omega.{arith}
use lib.Dec.{ltb}
use lib.IntN.{ℤ}
use lib.ListN.{length, length-append, length-take}
use borrow.Author.Tests.{lt-ltb, le-ltb}
use Rattle.cut.specs.declared.service.Syntax.{Syntax}
use Rattle.bytewise.specs.Bytes.{part}
use Rattle.bytewise.proofs.Parts.{part_none, part-part, length_part}
use Rattle.plain.specs.Plain.{plain, decoded}
use Rattle.price.specs.declared.cursor.Cursor.{Cursor}
use Rattle.price.specs.declared.cursor.Price.{Price}
use Rattle.price.specs.Cursors.{next_price, told_from}
use Rattle.price.proofs.Face.{Gives, next_gives, next-none}
use Rattle.print.specs.declared.rows.Copied.{Copied}
use Rattle.print.specs.declared.state.Counts.{Counts}
use Rattle.print.specs.declared.state.Rest.{Rest}
use Rattle.print.specs.declared.state.Stage.TheVariants as stage
use Rattle.print.specs.Report.{article_text, behind, price_line, price_lines}
use Rattle.print.specs.Printing.{left_from, left_among, left_within, left_in, left_to, sound, least, Wrote}
use Rattle.print.specs.workers.Rows.{put_at, opened, decoded_from, Poured}
use Rattle.print.proofs.Putting.{put-append, opened_some, behind-some}
use Rattle.print.proofs.Sounds.{wrote}

-- an article in the bytes of a delivery up to a place
module _ (y : Syntax) (d : List ℕ) (end a e : ℕ) (within : a < e → e ≤ length (part 0 end d)) where
  front_length : (length (part 0 end d) ≤ end) × (length (part 0 end d) ≤ length d)
  unfolding part
  front_length = rw length-take (omega arith, omega arith)

  some_shown : (bs : List ℕ) → 0 < length bs → article_text y bs ≡ plain y false bs
  unfolding article_text
  some_shown [] h = absurd (omega arith)
  some_shown (b ∷ bs) h = refl

  shown-by : Dec (a < e) → article_text y (part a e (part 0 end d)) ≡ cond (ltb a e) [] (45 ∷ []) ++ decoded y a e d
  unfolding article_text decoded plain
  shown-by (no h) =
      let l : e ≤ a = omega arith in
      rw (le-ltb a e l, part_none d a e l, part_none (part 0 end d) a e l)
  shown-by (yes h) =
      let f = front_length in
      let l : e ≤ end - 0 = omega (arith, within h, f.0) in
      let k : e ≤ length d = omega (arith, within h, f.1) in
      let z : 0 + a ≡ a = omega arith in
      let w : 0 + e ≡ e = omega arith in
      let q : part a e (part 0 end d) ≡ part a e d = part-part d 0 end a e l ∙ rw (z, w) in
      let n = length_part d a e k in
      rw (lt-ltb a e h) (ap (article_text y) q ∙ some_shown (part a e d) (omega arith))

  pub shown : article_text y (part a e (part 0 end d)) ≡ cond (ltb a e) [] (45 ∷ []) ++ decoded y a e d
  shown = shown-by (dec_lt a e)

-- no price is left
pub among_none
    : (y : Syntax) (d : List ℕ) (c : Counts) (cursor : Cursor) → next_price y (part 0 c.at d) cursor ≡ None → left_from y d c ≡ left_among y d c cursor
unfolding left_among price_lines
among_none y d c cursor h = rw (next-none y (part 0 c.at d) cursor h)

module _ (y : Syntax) (d : List ℕ) (c : Counts) (s : sound c ≡ true) (row : List ℕ) (room : least ≤ length row) where
  -- a price
  module _ (cursor : Cursor) (p : Price) (after : Cursor) (v w : ℤ) (gives : next_price y (part 0 c.at d) cursor ≡ Some (p, after))
      (same-v : v ≡ p.amount) (same_w : w ≡ p.decimals) where
    g : Gives y (part 0 c.at d) (told_from y (part 0 c.at d) cursor) p after
    g = next_gives y (part 0 c.at d) cursor p after gives

    abbrev rest : Rest
    rest = record { from = p.start; to = p.end; amount = v; decimals = w }

    among-parts : left_among y d c cursor ≡ opened p.position p.start p.end ++ left_within y d c after rest
    unfolding left_among left_within price_lines price_line opened
    among-parts = rw (g.list, shown y d c.at p.start p.end g.within, same-v, same_w) (simp append_assoc refl)

    pub among_wrote
        : (n : ℕ) (row' : List ℕ) → (n ≡ length (opened p.position p.start p.end)) × (n ≤ 24) → row' ≡ put_at 0 (opened p.position p.start p.end) row
        → Wrote d (left_among y d c cursor) row row'
        (record { length = n; next = record { syntax = y; counts = c; stage = stage.Article after rest } })
    unfolding left_to left_in
    among_wrote n row' count put =
        let n' = count.0 in
        wrote d (left_among y d c cursor) row row' (opened p.position p.start p.end) n _ put count.0 (omega (arith, count.1))
        (opened_some p.position p.start p.end) among-parts s

  -- within an article
  module _ (cursor : Cursor) (r : Rest) (row₁ : List ℕ) (p : Copied) (poured : Poured y d r.from r.to (length row - 64) row row₁ p) (v w : ℤ)
      (same-v : v ≡ r.amount) (same_w : w ≡ r.decimals) where
    abbrev text : List ℕ
    text = poured.text

    whole_parts : p.left ≡ None → left_within y d c cursor r ≡ (text ++ behind v w) ++ left_among y d c cursor
    unfolding left_within
    whole_parts h =
        let parts = poured.parts ∙ ap (λ (o : Option ℕ). text ++ decoded_from y d o r.to) h in
        rw (parts, append-nil text, same-v, same_w)

    pub whole_wrote
        : (n : ℕ) (row₂ : List ℕ) → p.left ≡ None → (n ≡ p.length + length (behind v w)) × (n ≤ p.length + 43)
        → row₂ ≡ put_at p.length (behind v w) row₁
        → Wrote d (left_within y d c cursor r) row row₂ (record { length = n; next = record { syntax = y; counts = c; stage = stage.Prices cursor } })
    unfolding left_to left_in
    whole_wrote n row₂ h count put =
        let l = length-append text (behind v w) in
        let z : p.length ≡ 0 + length text = poured.count ∙ sym (zero-add _) in
        let placed : row₂ ≡ put_at 0 (text ++ behind v w) row =
        put ∙ (λ i. put_at (z i) (behind v w) (poured.put i)) ∙ sym (put-append 0 text (behind v w) row) in
        wrote d (left_within y d c cursor r) row row₂ (text ++ behind v w) n _ placed (omega (arith, count.0, poured.count))
        (omega (arith, count.0, count.1, poured.count, poured.room)) (omega (arith, behind-some v w)) (whole_parts h) s

    module _ (from : ℕ) (more : p.left ≡ Some from) where
      abbrev left : Rest
      left = record { from = from; to = r.to; amount = v; decimals = w }

      part-parts : left_within y d c cursor r ≡ text ++ left_within y d c cursor left
      unfolding left_within
      part-parts =
          let parts = poured.parts ∙ ap (λ (o : Option ℕ). text ++ decoded_from y d o r.to) more in
          rw (parts, same-v, same_w) (simp append_assoc refl)

      pub part_wrote
          : Wrote d (left_within y d c cursor r) row row₁
          (record { length = p.length; next = record { syntax = y; counts = c; stage = stage.Article cursor left } })
      unfolding left_to left_in
      part_wrote =
          let f = poured.full (ap is_some more) in
          wrote d (left_within y d c cursor r) row row₁ text p.length _ poured.put poured.count (omega (arith, f, poured.count))
          (omega (arith, f, poured.count)) part-parts s
