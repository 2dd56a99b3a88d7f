-- Demand 3: two admitted deliveries, one the tail of the other, the tail starting with the bytes UNH.
use Prim.Native.Nat.{ℕ, ◌+◌, ◌-◌}
use mathlib.Core.Path.{◌≡◌, sym, ◌∙◌, ap, subst}
use mathlib.Core.Bool.{true}
use mathlib.Core.List.Memᴰ
use mathlib.Core.List.{List, [], ◌∷◌, ◌++◌, map, Memᴰ}
use mathlib.Core.Logic.{◌⊎◌, inl, inr}
use native.Mathlib.Omega.{arith}
use lib.ListN.{length, drop, length-map, length-append, length-drop}
use lib.Seq.{drop-append-add}
use Rattle.cut.specs.declared.service.Syntax.{Syntax}
use Rattle.cut.specs.Admission.{admission_of, segments, nine}
use Rattle.bytewise.specs.Bytes.{part, begins}
use Rattle.messages.specs.Messages.{Message, messages}
use Rattle.messages.specs.Fronts.{moved_message}
use Rattle.cut.specs.Fronts.{whole, UNH, Tail}
use Rattle.cut.proofs.Fronting.{front_admitted, tail-admitted}
use Rattle.messages.proofs.TailFirst.{Opens, tail-opens}
use Rattle.messages.proofs.Demand3.{messages-any-front, messages-whole-front}
use Rattle.cut.specs.Segments.{breaks}
use Rattle.cut.proofs.Empty.{empty-front, empty_una}
use Rattle.cut.proofs.Using.{used_handed}
use Rattle.schaumtruhe.specs.declared.reading.Reading.{Reading}
use Rattle.schaumtruhe.specs.Readings.{used_in}
use Rattle.schaumtruhe.specs.Demand3.{Kept, earlier, FromSecond, FromFirst, AtMostFirst, Demand3, Demand3Read}
use Rattle.schaumtruhe.proofs.keeping.Kept.{kept}
use Rattle.schaumtruhe.proofs.Demand3Alone.{each_alone}

-- a part of the tail is a part of the whole
part-front : (front tail : List ℕ) (a e : ℕ) → part (length front + a) (length front + e) (front ++ tail) ≡ part a e tail
unfolding part
part-front front tail a e =
    let n : (length front + e) - (length front + a) ≡ e - a = omega arith in
    rw (n, drop-append-add front tail a)

member-drop : (m : Message) (ms : List Message) → Memᴰ m (drop 1 ms) → Memᴰ m ms
member-drop m [] h = h
member-drop m (n ∷ ns) h = Memᴰ.tail h

module _ (y : Syntax) (front tail : List ℕ) (t : Tail y front tail) where
  abbrev k : ℕ
  k = length front

  -- a list of messages that the longer delivery holds behind others, places moved
  held
      : (es ms : List Message) → messages y (front ++ tail) ≡ es ++ map (moved_message k) ms → (m : Message) → Memᴰ m ms
      → Memᴰ m (messages y tail) → Kept y (front ++ tail) tail k m
  held es ms same m h here =
      kept y (front ++ tail) tail k t.admitted (tail-admitted y front tail t) (λ a e l. part-front front tail a e) m
      (subst (Memᴰ (moved_message k m)) (sym same) (Memᴰ.append_right es (Memᴰ.map (moved_message k) h)))
      here

  -- "From the second message that the tail holds when read alone", whatever the front
  pub demand3_any : FromSecond y front tail
  demand3_any =
      let same = messages-any-front y front tail t in
      record { same = same; kept = λ m h. held (earlier y front tail) (drop 1 (messages y tail)) same m h (member-drop m (messages y tail) h) }

  -- "If the front is empty or ends where a segment ends, this holds from the first message too"
  pub demand3_whole : whole (segments y front) ≡ true → FromFirst y front tail
  demand3_whole w =
      let same = messages-whole-front y front tail t w in
      record { same = same; kept = λ m h. held (messages y front) (messages y tail) same m h h }

  open_or-kept : (o : Opens y tail) (m : Message) → Memᴰ m (messages y tail) → (m ≡ o.message) ⊎ Kept y (front ++ tail) tail k m
  open_or-kept o m h = go (Memᴰ.cases_cons (subst (Memᴰ m) o.holds h))
    where
      go : (m ≡ o.message) ⊎ Memᴰ m o.rest → (m ≡ o.message) ⊎ Kept y (front ++ tail) tail k m
      go (inl e) = inl e
      go (inr l) = inr (demand3_any.kept m (subst (Memᴰ m) (sym (ap (drop 1) o.holds)) l))

  -- "No damage in front can cost more than that first message"
  pub demand3_at_most_first : AtMostFirst y front tail
  demand3_at_most_first =
      let o = tail-opens y front tail t in
      let n : length (messages y (front ++ tail)) ≡ length (earlier y front tail) + (length (messages y tail) - 1) =
      ap length demand3_any.same
      ∙ (length-append (earlier y front tail) (map (moved_message k) (drop 1 (messages y tail)))
      ∙ ap (λ (x : ℕ). length (earlier y front tail) + x) (length-map (drop 1 (messages y tail)) (moved_message k) ∙ length-drop 1 (messages y tail))) in
      record {
        first = o.message;
        rest = o.rest;
        holds = o.holds;
        begins = o.begins;
        kept = open_or-kept o;
        count = omega arith;
      }

  -- demand 3, whole
  pub demand3 : Demand3 y front tail
  demand3 =
      record {
        front_admitted = front_admitted y front tail t;
        each_alone = each_alone y (front ++ tail) t.admitted;
        from_second = demand3_any;
        from_first = demand3_whole;
        at_most_first = demand3_at_most_first;
      }

-- "a front of skipped bytes alone, with or without UNA, counts as empty"; so does the front without a byte, and UNA alone
pub demand3_breaks : (y : Syntax) (front tail : List ℕ) → breaks y front ≡ true → Tail y front tail → FromFirst y front tail
unfolding whole
demand3_breaks y front tail h t = demand3_whole y front tail t (ap whole (empty-front y front h))

pub demand3_una
    : (y : Syntax) (a b tail : List ℕ) → breaks y a ≡ true → breaks y b ≡ true → Tail y (a ++ (nine y ++ b)) tail → FromFirst y (a ++ (nine y ++ b)) tail
unfolding whole
demand3_una y a b tail h k t = demand3_whole y (a ++ (nine y ++ b)) tail t (ap whole (empty_una y a b h k))

-- in any reading nothing more is asked than that the longer delivery is admitted and the tail begins UNH
pub demand3_read
    : (how : Reading) (front tail : List ℕ) → admission_of (used_in how (front ++ tail)) (front ++ tail) ≡ 0 → begins UNH tail ≡ true
    → Demand3Read how front tail
demand3_read how front tail a u =
    let z = used_in how (front ++ tail) in
    record { tail_read = used_handed z tail u; demand = demand3 z front tail (record { admitted = a; begins_UNH = u }) }
