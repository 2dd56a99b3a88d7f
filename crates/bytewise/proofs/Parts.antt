-- Laws of `part`, the bytes of a row from one place up to another. Every crate above cites them.
use Prim.Native.Nat.{ℕ, zero, suc, ◌+◌, ◌-◌, ◌≤◌, ◌<◌}
use mathlib.Core.Path.{◌≡◌, sym, ◌∙◌}
use mathlib.Core.List.{List, [], ◌∷◌, ◌++◌}
use native.Mathlib.Nat.{le_refl}
use native.Mathlib.Numerals.{add-one}
use native.Mathlib.Omega.{arith}
use lib.ListN.{length, get_or, take, drop, length-take, length-drop, take-append-drop}
use lib.Seq.{drop-cons, take-take, drop-drop, take-add, get_or-take, get_or-drop, take-nil}
use Rattle.bytewise.specs.Bytes.{part}

pub part_none : (d : List ℕ) (i e : ℕ) → e ≤ i → part i e d ≡ []
unfolding part
part_none d i e h =
    let z : e - i ≡ 0 = omega arith in
    rw z

pub part-next : (d : List ℕ) (i e : ℕ) → i < e → e ≤ length d → part i e d ≡ get_or d i 0 ∷ part (i + 1) e d
unfolding part
part-next d i e h k =
    let n : e - i ≡ suc (e - (i + 1)) = omega arith in
    let l : i < length d = omega arith in
    rw (n, drop-cons d i 0 l, ← add-one i)

pub length_part : (d : List ℕ) (i e : ℕ) → e ≤ length d → length (part i e d) ≡ e - i
unfolding part
length_part d i e h = simp (length-take, length-drop) (omega arith)

pub part_at : (d : List ℕ) (a e i : ℕ) → i < e - a → get_or (part a e d) i 0 ≡ get_or d (a + i) 0
unfolding part
part_at d a e i h = rw (get_or-take, get_or-drop)

drop-take : (b n : ℕ) (l : List ℕ) → drop b (take n l) ≡ take (n - b) (drop b l)
drop-take zero n l =
    let z : n - 0 ≡ n = omega arith in
    rw z
drop-take (suc b) zero l =
    let z : 0 - suc b ≡ 0 = omega arith in
    rw z
drop-take (suc b) (suc n) [] = sym (take-nil (suc n - suc b))
drop-take (suc b) (suc n) (x ∷ xs) =
    let z : suc n - suc b ≡ n - b = omega arith in
    rw z (drop-take b n xs)

-- a part of a part is a part
pub part-part : (d : List ℕ) (a e b f : ℕ) → f ≤ e - a → part b f (part a e d) ≡ part (a + b) (a + f) d
unfolding part
part-part d a e b f h =
    let n : f - b ≤ (e - a) - b = omega arith in
    let k : (a + f) - (a + b) ≡ f - b = omega arith in
    rw (drop-take b (e - a) (drop a d), take-take (f - b) ((e - a) - b) (drop b (drop a d)) n, drop-drop b a d, k)

-- a part and what follows it
pub part-drop : (d : List ℕ) (a e : ℕ) → a ≤ e → part a e d ++ drop e d ≡ drop a d
unfolding part
part-drop d a e h =
    let n : a + (e - a) ≡ e = omega arith in
    let l : drop (e - a) (drop a d) ≡ drop e d = rw (drop-drop (e - a) a d, n) in
    rw (← l) (take-append-drop (e - a) (drop a d))

-- two parts that meet
pub part-parts : (d : List ℕ) (a m e : ℕ) → a ≤ m → m ≤ e → part a m d ++ part m e d ≡ part a e d
unfolding part
part-parts d a m e h k =
    let n : (m - a) + (e - m) ≡ e - a = omega arith in
    let j : a + (m - a) ≡ m = omega arith in
    rw (← n, take-add (m - a) (e - m) (drop a d), drop-drop (m - a) a d, j)

-- a part and its last byte
pub part-last : (d : List ℕ) (a e : ℕ) → a < e → e ≤ length d → part a e d ≡ part a (e - 1) d ++ (get_or d (e - 1) 0 ∷ [])
part-last d a e h k =
    let n : e - 1 + 1 ≡ e = omega arith in
    let last : part (e - 1) e d ≡ get_or d (e - 1) 0 ∷ [] = part-next d (e - 1) e (omega arith) k ∙ rw (n, part_none d e e (le_refl e)) in
    rw (← last) (sym (part-parts d a (e - 1) e (omega arith) (omega arith)))
