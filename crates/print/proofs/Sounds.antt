-- When counts are sound, and a chunk that was written.
use Prim.Native.Nat.{ℕ, ◌+◌, ◌*◌, ◌≤◌, ◌<◌}
use mathlib.Core.Path.{◌≡◌, sym, ap, ◌∙◌, subst}
use mathlib.Core.Bool.{true}
use mathlib.Core.List.{List, ◌++◌, append-nil}
use native.Mathlib.Omega.{arith}
use lib.Dec.{leb}
use lib.ListN.{length, length-append}
use borrow.Author.Tests.{leb-true, le-leb}
use Rattle.bytewise.proofs.Booleans.{and_both}
use Rattle.print.specs.declared.state.Counts.{Counts}
use Rattle.cut.specs.declared.service.Syntax.{Syntax}
use Rattle.print.specs.declared.state.Stage.TheVariants.{Ended}
use Rattle.print.specs.declared.state.Printer.{Printer}
use Rattle.print.specs.declared.state.Chunk.{Chunk}
use Rattle.print.specs.Printing.{left_in, left_to, sound, Wrote}
use Rattle.print.specs.Report.{line_of}
use Rattle.print.specs.workers.Rows.{put_at, line_with}
use Rattle.print.proofs.Putting.{put-append, put_taken, put-kept, line-is, line-some}

pub record Few (c : Counts) : Type 0 where
  pub messages : c.messages ≤ c.at
  pub accepted : c.accepted ≤ c.at
  pub outside : c.outside ≤ c.at

pub sound-few : (c : Counts) → sound c ≡ true → Few c
unfolding sound
sound-few c h =
    let a = and_both (leb c.messages c.at) _ h in
    let b = and_both (leb c.accepted c.at) _ a.1 in
    record { messages = leb-true _ _ a.0; accepted = leb-true _ _ b.0; outside = leb-true _ _ b.1 }

pub few-sound : (c : Counts) → Few c → sound c ≡ true
unfolding sound
few-sound c f = rw (le-leb _ _ f.messages, le-leb _ _ f.accepted, le-leb _ _ f.outside)

pub wrote
    : (d left row row' text : List ℕ) (n : ℕ) (next : Printer) → row' ≡ put_at 0 text row → n ≡ length text → length text ≤ length row → 0 < length text
    → left ≡ text ++ left_to d next → sound next.counts ≡ true → Wrote d left row row' (record { length = n; next = next })
wrote d left row row' text n next put count fits some parts s =
    record {
      chunk = parts ∙ ap (λ (t : List ℕ). t ++ left_to d next) (sym (put_taken text row row' n put count fits));
      some = rw count some;
      fits = rw count fits;
      rest = put-kept text row row' n put count fits;
      sound = s;
    }

-- said of what is the same
pub wrote_same
    : (d left left' row row'' row' : List ℕ) (r : Chunk) → left ≡ left' → row ≡ row'' → Wrote d left row row' r → Wrote d left' row'' row' r
wrote_same d left left' row row'' row' r a b w = subst (λ (x : List ℕ). Wrote d left' x row' r) b (subst (λ (x : List ℕ). Wrote d x row row' r) a w)

-- a line behind which nothing is left
pub ended_wrote
    : (y : Syntax) (d row row' : List ℕ) (c : Counts) (letter : ℕ) (ns : List ℕ) (n : ℕ) → sound c ≡ true
    → (n ≡ length (line_with letter ns 10)) × (n ≤ length ns * 21 + 2) → row' ≡ put_at 0 (line_with letter ns 10) row → length ns * 21 + 2 ≤ length row
    → Wrote d (line_of letter ns) row row' (record { length = n; next = record { syntax = y; counts = c; stage = Ended } })
unfolding left_to left_in
ended_wrote y d row row' c letter ns n s k put room =
    let e = ap length (line-is letter ns) in
    let k' = k.0 in
    wrote d (line_of letter ns) row row' (line_of letter ns) n _ (put ∙ ap (λ (t : List ℕ). put_at 0 t row) (line-is letter ns)) (k.0 ∙ e)
    (omega (arith, k.1)) (line-some letter ns) (sym (append-nil (line_of letter ns))) s

-- two lines behind which nothing is left
pub ended_both
    : (y : Syntax) (d row row₁ row' first : List ℕ) (c : Counts) (letter : ℕ) (ns : List ℕ) (v n : ℕ) → sound c ≡ true
    → (v ≡ length first) × (v ≤ 44) → row₁ ≡ put_at 0 first row
    → (n ≡ v + length (line_with letter ns 10)) × (n ≤ v + length ns * 21 + 2) → row' ≡ put_at v (line_with letter ns 10) row₁
    → 44 + length ns * 21 + 2 ≤ length row
    → Wrote d (first ++ line_of letter ns) row row' (record { length = n; next = record { syntax = y; counts = c; stage = Ended } })
unfolding left_to left_in
ended_both y d row row₁ row' first c letter ns v n s k put l behind room =
    let e = ap length (line-is letter ns) in
    let a = length-append first (line_of letter ns) in
    let z : 0 + length first ≡ v = omega (arith, k.0) in
    let all : row' ≡ put_at 0 (first ++ line_of letter ns) row =
    behind
    ∙ ap (λ (t : List ℕ). put_at v t row₁) (line-is letter ns)
    ∙ ap (put_at v (line_of letter ns)) put
    ∙ ap (λ (i : ℕ). put_at i (line_of letter ns) (put_at 0 first row)) (sym z)
    ∙ sym (put-append 0 first (line_of letter ns) row) in
    let some = line-some letter ns in
    wrote d (first ++ line_of letter ns) row row' (first ++ line_of letter ns) n _ all (omega (arith, k.0, l.0, e, a))
    (omega (arith, k.1, l.0, l.1, e, a, k.0)) (omega (arith, a)) (sym (append-nil (first ++ line_of letter ns))) s
