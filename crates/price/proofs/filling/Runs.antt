-- Prices put into the row one after the other give the filled row.
use Prim.Native.Nat.{ℕ, suc, ◌+◌, ◌*◌, ◌/◌, ◌≤◌, ◌<◌}
use mathlib.Core.Path.{◌≡◌, refl, ◌∙◌}
use mathlib.Core.List.{List, [], ◌∷◌, ◌++◌, append_assoc}
use native.Mathlib.Decide.{dec_le}
use native.Mathlib.Omega.{arith}
use lib.ListN.{length, take, drop, length-drop, length-append}
use lib.Seq.{drop-drop, take-nil, take_at, drop-append-add}
use lib.IntN.{ℤ}
use borrow.Author.Tests.{lt-ltb, le-ltb}
use Rattle.price.specs.declared.numbers.Numbers.{Numbers}
use Rattle.price.specs.Rows.{eight, all_numbers, fitting, filled_row}
use Rattle.price.specs.workers.Parts.{put_row}

-- the prices ps from the n-th place of the row on
unfoldable pub put_all : List ℤ → ℕ → List Numbers → List ℤ
put_all row n [] = row
put_all row n (p ∷ ps) = put_all (put_row row n p) (n + 1) ps

put-past : (row : List ℤ) (n : ℕ) (ps : List Numbers) → length row / 8 ≤ n → put_all row n ps ≡ row
unfolding put_all put_row
put-past row n [] h = refl
put-past row n (p ∷ ps) h = rw (le-ltb n (length row / 8) h) (put-past row (n + 1) ps (omega arith))

filled_none : (row : List ℤ) → filled_row [] row ≡ row
unfolding filled_row fitting all_numbers
filled_none row = rw (take-nil (length row / 8))

filled-short : (ps : List Numbers) (row : List ℤ) → length row < 8 → filled_row ps row ≡ row
unfolding filled_row fitting all_numbers
filled-short ps row h =
    let z : length row / 8 ≡ 0 = omega arith in
    rw z

filled_more : (p : Numbers) (ps : List Numbers) (row : List ℤ) → 8 ≤ length row → filled_row (p ∷ ps) row ≡ eight p ++ filled_row ps (drop 8 row)
unfolding filled_row fitting all_numbers
filled_more p ps row h =
    let m : length row / 8 ≡ suc (length (drop 8 row) / 8) = rw (length-drop 8 row) (omega arith) in
    let z : suc (length (take (length (drop 8 row) / 8) ps)) * 8 ≡ 8 + length (take (length (drop 8 row) / 8) ps) * 8 = omega arith in
    rw (m, z, ← drop-drop (length (take (length (drop 8 row) / 8) ps) * 8) 8 row)
    (append_assoc (eight p) (all_numbers (take (length (drop 8 row) / 8) ps)) (drop (length (take (length (drop 8 row) / 8) ps) * 8) (drop 8 row)))

put_next : (front rest : List ℤ) (n : ℕ) (p : Numbers) → length front ≡ n * 8 → 8 ≤ length rest → put_row (front ++ rest) n p ≡ front ++ eight p ++ drop 8 rest
unfolding put_row
put_next front rest n p f h =
    let l : n < length (front ++ rest) / 8 = rw (length-append front rest) (omega arith) in
    let t : take (n * 8) (front ++ rest) ≡ front = take_at front rest (n * 8) f in
    let u : drop (n * 8 + 8) (front ++ rest) ≡ drop 8 rest = rw (← f) (drop-append-add front rest 8) in
    rw (lt-ltb n (length (front ++ rest) / 8) l, t, u)

-- behind a front of n prices
put-behind : (ps : List Numbers) (front rest : List ℤ) (n : ℕ) → length front ≡ n * 8 → put_all (front ++ rest) n ps ≡ front ++ filled_row ps rest
unfolding put_all
put-behind [] front rest n f = rw (filled_none rest)
put-behind (p ∷ ps) front rest n f = go (dec_le 8 (length rest)) (put-behind ps (front ++ eight p) (drop 8 rest) (n + 1))
  where
    go
        : Dec (8 ≤ length rest)
        → (length (front ++ eight p) ≡ (n + 1) * 8 → put_all (front ++ eight p ++ drop 8 rest) (n + 1) ps ≡ front ++ eight p ++ filled_row ps (drop 8 rest))
        → put_all (put_row (front ++ rest) n p) (n + 1) ps ≡ front ++ filled_row (p ∷ ps) rest
    go (yes h) ih =
        let l : length (front ++ eight p) ≡ (n + 1) * 8 = rw (length-append front (eight p)) (omega arith) in
        rw (put_next front rest n p f h, filled_more p ps rest h)
        (ih l ∙ append_assoc front (eight p) (filled_row ps (drop 8 rest)))
    go (no h) ih =
        let l : length (front ++ rest) / 8 ≤ n = rw (length-append front rest) (omega arith) in
        rw (filled-short (p ∷ ps) rest (omega arith)) (put-past (front ++ rest) n (p ∷ ps) l)

pub put-all : (ps : List Numbers) (row : List ℤ) → put_all row 0 ps ≡ filled_row ps row
put-all ps row = put-behind ps [] row 0 refl
