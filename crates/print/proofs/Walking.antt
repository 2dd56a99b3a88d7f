-- From message to message: what is left to print, one message or one segment outside further.
use Prim.Native.Nat.{ℕ, suc, ◌+◌, ◌*◌, ◌^◌, ◌≤◌, ◌<◌}
use mathlib.Core.Path.{◌≡◌, refl, sym, ap, subst, ◌∙◌}
use mathlib.Core.Bool.{true, false}
use mathlib.Core.List.{List, [], ◌∷◌, ◌++◌, map, append_assoc, head-eq_of_cons-eq}
use native.Mathlib.Nat.{add-zero}
use native.Mathlib.Omega.{arith}
use lib.ListN.{length, length-append}
use Rattle.cut.specs.declared.service.Syntax.{Syntax}
use Rattle.bytewise.specs.Bytes.{part}
use Rattle.cut.specs.Segments as cut
use Rattle.cut.specs.Segments.{Segment, segments_at, past_at, last_end}
use Rattle.cut.proofs.Ahead.{first-ahead}
use Rattle.envelope.specs.Envelope.{Enveloped, Complete, Refused as Incomplete, envelope_of, envelope_numbers}
use Rattle.std.specs.Prelude.{Some, None, Result, Ok, Err}
use Rattle.messages.specs.declared.outer.Outer.TheVariants as outer
use Rattle.messages.specs.Messages.{Message, start_of, close_of, messages_in}
use Rattle.messages.specs.Held.{held, head_outer}
use Rattle.messages.specs.workers.Walks.{left_over}
use Rattle.messages.proofs.Holding.{held_alone}
use Rattle.messages.proofs.Passing.{Begun, begun, left, none_left}
use Rattle.guide.specs.Answers.{accepts, refuses, Verdict as Judged}
use Rattle.guide.specs.Reasons.{number_of_reason}
use Rattle.verdict.specs.Answers.{told, judged_as, numbers_of}
use Rattle.verdict.specs.Verdicts.{verdict_named}
use Rattle.verdict.specs.declared.answers.Judged.{Judged as JudgedAt}
use Rattle.verdict.specs.declared.answers.Accepted.{Accepted}
use Rattle.verdict.specs.declared.answers.Refused.{Refused}
use Rattle.price.specs.Listing.{prices_of}
use Rattle.price.specs.Calls.{prices_in}
use Rattle.price.specs.Cursors.{told_of, told_from, first_cursor}
use Rattle.price.proofs.Face.{told_message}
use Rattle.schaumtruhe.specs.Calls.{judged, listed, only_accepted, accepted}
use Rattle.schaumtruhe.specs.workers.Answers.{one_if}
use Rattle.schaumtruhe.proofs.places.Begun.{one_only, one-few, same-verdict, same_end}
use Rattle.print.specs.declared.state.Counts.{Counts}
use Rattle.print.specs.declared.state.Stage.{Stage}
use Rattle.print.specs.declared.state.Stage.TheVariants as stage
use Rattle.print.specs.Report.{line_of, price_lines, message_lines, lines_from, envelope_line}
use Rattle.print.specs.Printing.{last_lines, lines_of, left_from, left_among, left_in, left_to, sound, least, Wrote}
use Rattle.print.specs.workers.Stages.{stage_after, counted_after}
use Rattle.print.specs.workers.Rows.{put_at, line_with}
use Rattle.print.proofs.Putting.{line-is, line-some}
use Rattle.print.proofs.Sounds.{sound-few, few-sound, wrote, ended_both}

-- two texts of the last lines with the same counts
pub last-same
    : (y : Syntax) (d : List ℕ) (m m' a a' o o' : ℕ) → m ≡ m' → a ≡ a' → o ≡ o' → last_lines y d m a o ≡ last_lines y d m' a' o'
last-same y d m m' a a' o o' e f g = λ i. last_lines y d (e i) (f i) (g i)

-- the line of a message by its verdict
module _ (v : Result Accepted Refused) (k s r : ℕ) (row row' : List ℕ) where
  abbrev Line : List ℕ → Type 0
  Line ns = ((r ≡ length (line_with 77 ns 10)) × (r ≤ length ns * 21 + 2)) × (row' ≡ put_at 0 (line_with 77 ns 10) row)

  abbrev Told : Type 0
  Told = ((r ≡ length (line_of 77 (k ∷ s ∷ numbers_of (told v)))) × (r ≤ least)) × (row' ≡ put_at 0 (line_of 77 (k ∷ s ∷ numbers_of (told v))) row)

  pub accepted-line : (a : Accepted) → v ≡ Ok a → Line (k ∷ s ∷ 0 ∷ a.segments ∷ a.end ∷ 0 ∷ []) → Told
  unfolding numbers_of
  accepted-line a h l =
      let w = line-is 77 (k ∷ s ∷ 0 ∷ a.segments ∷ a.end ∷ 0 ∷ []) in
      rw h ((l.0.0 ∙ ap length w, l.0.1), l.1 ∙ ap (λ (t : List ℕ). put_at 0 t row) w)

  pub refused_line
      : (x : Refused) → v ≡ Err x → (q : ℕ) → q ≡ number_of_reason x.reason → Line (k ∷ s ∷ q ∷ x.segment ∷ x.place ∷ x.node ∷ []) → Told
  unfolding numbers_of
  refused_line x h q e l =
      let w = line-is 77 (k ∷ s ∷ q ∷ x.segment ∷ x.place ∷ x.node ∷ []) in
      rw (h, ← e) ((l.0.0 ∙ ap length w, l.0.1), l.1 ∙ ap (λ (t : List ℕ). put_at 0 t row) w)

-- the line of the envelope by its answer
module _ (x : Enveloped) (r : ℕ) (row row' : List ℕ) where
  abbrev Judges : List ℕ → Type 0
  Judges ns = ((r ≡ length (line_with 86 ns 10)) × (r ≤ length ns * 21 + 2)) × (row' ≡ put_at 0 (line_with 86 ns 10) row)

  by-numbers
      : (a b : ℕ) → envelope_numbers x ≡ a ∷ b ∷ [] → Judges (a ∷ b ∷ [])
      → ((r ≡ length (line_of 86 (envelope_numbers x))) × (r ≤ 44)) × (row' ≡ put_at 0 (line_of 86 (envelope_numbers x)) row)
  by-numbers a b h l =
      let w = line-is 86 (a ∷ b ∷ []) in
      rw h ((l.0.0 ∙ ap length w, l.0.1), l.1 ∙ ap (λ (t : List ℕ). put_at 0 t row) w)

  pub complete-line
      : x ≡ Complete → Judges (0 ∷ 0 ∷ [])
      → ((r ≡ length (line_of 86 (envelope_numbers x))) × (r ≤ 44)) × (row' ≡ put_at 0 (line_of 86 (envelope_numbers x)) row)
  unfolding envelope_numbers
  complete-line h l = by-numbers 0 0 (rw h) l

  pub broken-line
      : (n p : ℕ) → x ≡ Incomplete n p → Judges (n ∷ p ∷ [])
      → ((r ≡ length (line_of 86 (envelope_numbers x))) × (r ≤ 44)) × (row' ≡ put_at 0 (line_of 86 (envelope_numbers x)) row)
  unfolding envelope_numbers
  broken-line n p h l = by-numbers n p (rw h) l

-- both last lines are written, and nothing is left
pub last_wrote
    : (y : Syntax) (d row row₁ row' : List ℕ) (c : Counts) (x : Enveloped) (v n : ℕ) → sound c ≡ true → x ≡ envelope_of y d
    → ((v ≡ length (line_of 86 (envelope_numbers x))) × (v ≤ 44)) × (row₁ ≡ put_at 0 (line_of 86 (envelope_numbers x)) row)
    → ((n ≡ v + length (line_with 69 (c.messages ∷ c.accepted ∷ c.outside ∷ []) 10))
    × (n ≤ v + length (c.messages ∷ c.accepted ∷ c.outside ∷ []) * 21 + 2))
    × (row' ≡ put_at v (line_with 69 (c.messages ∷ c.accepted ∷ c.outside ∷ []) 10) row₁)
    → least ≤ length row
    → Wrote d (last_lines y d c.messages c.accepted c.outside) row row'
    (record { length = n; next = record { syntax = y; counts = c; stage = stage.Ended } })
unfolding last_lines envelope_line
last_wrote y d row row₁ row' c x v n s e k l room =
    let P : Enveloped → Type 0 =
    λ z. ((v ≡ length (line_of 86 (envelope_numbers z))) × (v ≤ 44)) × (row₁ ≡ put_at 0 (line_of 86 (envelope_numbers z)) row) in
    let k' = subst P e k in
    ended_both y d row row₁ row' (line_of 86 (envelope_numbers (envelope_of y d))) c 69 (c.messages ∷ c.accepted ∷ c.outside ∷ []) v n s k'.0 k'.1
    l.0 l.1 (omega (arith, room))

module _ (y : Syntax) (d : List ℕ) (c : Counts) where
  abbrev from : ℕ → List Segment
  from at = segments_at y d at

  abbrev here : List Segment
  here = from c.at

  -- no segment is left
  module _ (h : head_outer here ≡ None) where
    pub none-left-over : last_lines y d c.messages c.accepted c.outside ≡ left_from y d c
    unfolding left_from lines_of lines_from messages_in accepted left_over
    none-left-over =
        let n : here ≡ [] = none_left y d c.at h in
        rw n (last-same y d _ _ _ _ _ _ (sym (add-zero _)) (sym (add-zero _)) (sym (add-zero _)))

  -- a segment outside
  module _ (e : ℕ) (h : head_outer here ≡ Some (outer.Segment e)) where
    abbrev pub past : Counts
    past = record { at = e; messages = c.messages; accepted = c.accepted; outside = c.outside + 1 }

    pub outside-passed : left_from y d past ≡ left_from y d c
    unfolding left_from lines_of
    outside-passed =
        let l = left y d c.at e h in
        rw (l.messages, l.outside)
        (ap (λ (t : List ℕ). lines_from y (c.messages + 1) (messages_in (from e)) ++ t) (last-same y d _ _ _ _ _ _ refl refl (omega arith)))

    pub outside-some : (c.at < e) × (e ≤ length d)
    outside-some =
        let l = left y d c.at e h in
        (l.some, l.fits)

    pub outside-few : sound c ≡ true → c.outside + 1 ≤ length d
    outside-few s =
        let f = sound-few c s in
        omega (arith, f.outside, outside-some.0, outside-some.1)

    pub outside-sound : sound c ≡ true → sound past ≡ true
    outside-sound s =
        let f = sound-few c s in
        let l = outside-some.0 in
        few-sound past
        (record {
          messages = omega (arith, f.messages, l);
          accepted = omega (arith, f.accepted, l);
          outside = omega (arith, f.outside, l);
        })

  -- a message
  module _ (h : head_outer here ≡ Some outer.Message) where
    abbrev b : Begun y d c.at
    b = begun y d c.at h

    abbrev m : Message
    m = b.message

    abbrev end : ℕ
    end = last_end c.at (held here)

    closes : end ≡ close_of m
    unfolding last_end
    closes = ap (last_end c.at) b.takes

    -- it is read alone as in the delivery
    alone : cut.segments_of y (start_of m) (part (start_of m) (close_of m) d) ≡ m.first ∷ m.rest
    unfolding held last_end
    alone = go here refl b.takes
      where
        go
            : (ss : List Segment) → here ≡ ss → held ss ≡ m.first ∷ m.rest
            → cut.segments_of y (start_of m) (part (start_of m) (close_of m) d) ≡ m.first ∷ m.rest
        go [] l k = absurd (let z : ◌≡◌ {A = ℕ} 0 1 = cc in omega arith)
        go (x ∷ xs) l k =
            let is : x ≡ m.first = head-eq_of_cons-eq k in
            let at_first : from (start_of m) ≡ x ∷ xs = ap (λ (s : Segment). from s.start) (sym is) ∙ (first-ahead y d c.at x xs l).here in
            let takes : held (from (start_of m)) ≡ m.first ∷ m.rest = ap held at_first ∙ k in
            let w = held_alone y d (start_of m) in
            rw takes at w

    told-prices : told_from y (part 0 end d) (first_cursor (start_of m)) ≡ map (told_of y) (listed y m)
    unfolding prices_in
    told-prices =
        told_message y d (start_of m) end b.fits
        ∙ ap (λ (e : ℕ). map (told_of y) (prices_in y d (start_of m) e)) closes
        ∙ ap (λ (ss : List Segment). map (told_of y) (prices_of (start_of m) ss)) alone

    -- the line of the message, and what is left behind it
    abbrev after : Judged → Counts
    after v = counted_after c v end

    abbrev later : List ℕ
    later = lines_from y (c.messages + 1 + 1) (messages_in (from end))

    abbrev last : List ℕ
    last =
        last_lines y d (c.messages + suc (length (messages_in (from end))))
        (c.accepted + length (only_accepted (judged y m) m ++ accepted y (messages_in (from end))))
        (c.outside + length (left_over false (from end)))

    rest-left : later ++ last ≡ left_from y d (after (judged y m))
    unfolding left_from lines_of
    rest-left =
        let o = one_only m (judged y m) in
        let l = length-append (only_accepted (judged y m) m) (accepted y (messages_in (from end))) in
        ap (λ (t : List ℕ). later ++ t) (last-same y d _ _ _ _ _ _ (omega arith) (omega arith) refl)

    stage_left
        : (v : Judged) → judged y m ≡ v
        → message_lines y (c.messages + 1) m ++ left_from y d (after v)
        ≡ line_of 77 ((c.messages + 1) ∷ start_of m ∷ numbers_of v) ++ left_in y d (after v) (stage_after v (start_of m))
    unfolding message_lines left_in left_among
    stage_left (accepts n e) j =
        rw (j, told-prices)
        (append_assoc (line_of 77 ((c.messages + 1) ∷ start_of m ∷ numbers_of (accepts n e))) (price_lines y (map (told_of y) (listed y m)))
        (left_from y d (after (accepts n e))))
    stage_left (refuses k i p n) j =
        rw j (append_assoc (line_of 77 ((c.messages + 1) ∷ start_of m ∷ numbers_of (refuses k i p n))) [] (left_from y d (after (refuses k i p n))))

    first-left : left_from y d c ≡ message_lines y (c.messages + 1) m ++ left_from y d (after (judged y m))
    unfolding left_from lines_of lines_from accepted
    first-left =
        rw (b.messages, b.outside)
        (append_assoc (message_lines y (c.messages + 1) m) later last ∙ ap (λ (t : List ℕ). message_lines y (c.messages + 1) m ++ t) rest-left)

    module _ (s : ℕ) (starts : s ≡ past_at y d c.at) (j : JudgedAt)
        (judges : judged_as j ≡ (verdict_named y c.at (held here), last_end c.at (held here))) where
      v_same : told j.verdict ≡ judged y m
      v_same = same-verdict y d c.at h j judges

      e_same : j.end ≡ end
      e_same = same_end y d c.at h j judges

      pub message-left
          : left_from y d c
          ≡ line_of 77 ((c.messages + 1) ∷ s ∷ numbers_of (told j.verdict)) ++ left_in y d (counted_after c (told j.verdict) j.end) (stage_after
          (told j.verdict) s)
      message-left = rw (starts ∙ sym b.starts, v_same, e_same) (first-left ∙ stage_left (judged y m) refl)

      pub message-sound : sound c ≡ true → sound (counted_after c (told j.verdict) j.end) ≡ true
      message-sound t =
          let f = sound-few c t in
          let e = e_same in
          let l = b.some in
          let o : one_if (told j.verdict) ≤ 1 = rw v_same (one-few (judged y m)) in
          few-sound (counted_after c (told j.verdict) j.end)
          (record {
            messages = omega (arith, f.messages, l, e);
            accepted = omega (arith, f.accepted, l, e, o);
            outside = omega (arith, f.outside, l, e);
          })

      -- its line is written, and its prices or what follows it come next
      module _ (row row' : List ℕ) (cs : Counts) (st : Stage) (n : ℕ) (counts : cs ≡ counted_after c (told j.verdict) j.end)
          (stages : st ≡ stage_after (told j.verdict) s) where
        abbrev pub line : List ℕ
        line = line_of 77 (cs.messages ∷ s ∷ numbers_of (told j.verdict))

        pub message_wrote
            : (n ≡ length line) × (n ≤ least) → row' ≡ put_at 0 line row → sound c ≡ true → least ≤ length row
            → Wrote d (left_from y d c) row row' (record { length = n; next = record { syntax = y; counts = cs; stage = st } })
        unfolding left_to
        message_wrote k put t room =
            let k' = k.0 in
            wrote d (left_from y d c) row row' line n _ put k.0 (omega (arith, k.1)) (line-some 77 (cs.messages ∷ s ∷ numbers_of (told j.verdict)))
            (message-left ∙ λ i. line_of 77 ((sym counts i).messages ∷ s ∷ numbers_of (told j.verdict)) ++ left_in y d (sym counts i) (sym stages i))
            (rw counts (message-sound t))

    pub message-few : sound c ≡ true → length d < 2 ^ 63 → (c.messages < 2 ^ 63) × (c.accepted < 2 ^ 63)
    message-few t l =
        let f = sound-few c t in
        (omega (arith, f.messages, b.some, b.fits), omega (arith, f.accepted, b.some, b.fits))
