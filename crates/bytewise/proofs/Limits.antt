-- Laws of parts: an end past the delivery counts as the delivery's end; the first bytes of a part are a part, and so are the others; no part is longer
-- than the delivery.
use Prim.Native.Nat.{ℕ, ◌+◌, ◌-◌, ◌≤◌, ◌<◌, min}
use mathlib.Core.Path.{◌≡◌, sym, ap, ◌∙◌}
use mathlib.Core.List.{List}
use native.Mathlib.Decide.{dec_le}
use native.Mathlib.Omega.{arith}
use lib.ListN.{length, take, drop, length-take, length-drop}
use lib.Seq.{take_all, take-take}
use Rattle.bytewise.specs.Bytes.{part}
use Rattle.bytewise.proofs.Parts.{part-part, length_part}

-- the end of a part, in a delivery of n bytes
pub end_past : (n e : ℕ) → n < e → n ≡ min e n
end_past n e h = omega arith

-- with the delivery's end, and with any place past it, a part runs to the last byte
pub part_out : (d : List ℕ) (a e : ℕ) → length d ≤ e → part a e d ≡ drop a d
unfolding part
part_out d a e h =
    let n : length (drop a d) ≤ e - a = simp length-drop (omega arith) in
    take_all (e - a) (drop a d) n

limit-by : (d : List ℕ) (a e : ℕ) → Dec (e ≤ length d) → part a (min e (length d)) d ≡ part a e d
limit-by d a e (yes h) =
    let m : min e (length d) ≡ e = omega arith in
    rw m
limit-by d a e (no h) =
    let m : min e (length d) ≡ length d = omega arith in
    let l : length d ≤ e = omega arith in
    let k : length d ≤ length d = omega arith in
    rw m (part_out d a (length d) k ∙ sym (part_out d a e l))

pub limited : (d : List ℕ) (a e m : ℕ) → m ≡ min e (length d) → part a m d ≡ part a e d
limited d a e m h = rw h (limit-by d a e (dec_le e (length d)))

pub drop-part : (d : List ℕ) (a e k : ℕ) → a ≤ e → e ≤ length d → drop k (part a e d) ≡ part (a + k) e d
drop-part d a e k h l =
    let n : length (part a e d) ≤ e - a = rw (length_part d a e l) (omega arith) in
    let f : e - a ≤ e - a = omega arith in
    let z : a + (e - a) ≡ e = omega arith in
    sym (part_out (part a e d) k (e - a) n) ∙ part-part d a e k (e - a) f ∙ ap (λ (m : ℕ). part (a + k) m d) z

-- what follows a place in the bytes before the end e, which are written as the slice `[0..e]` has them
pub part-front : (d : List ℕ) (a e : ℕ) → e ≤ length d → drop a (take (e - 0) (drop 0 d)) ≡ part a e d
unfolding part
part-front d a e h =
    let z : 0 + a ≡ a = omega arith in
    drop-part d 0 e a (omega arith) h ∙ rw z

pub take_part : (d : List ℕ) (a e n : ℕ) → n ≤ e - a → take n (part a e d) ≡ part a (a + n) d
unfolding part
take_part d a e n h =
    let z : a + n - a ≡ n = omega arith in
    rw (z, take-take n (e - a) (drop a d) h)

pub part-fits : (d : List ℕ) (a e : ℕ) → length (part a e d) ≤ length d
unfolding part
part-fits d a e = simp (length-take, length-drop) (omega arith)
