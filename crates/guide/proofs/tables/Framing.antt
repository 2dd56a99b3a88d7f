-- What the test `framed` of a table gives, and that both editions pass it.
use Prim.Native.Nat.{ℕ, ◌≤◌, ◌<◌}
use mathlib.Core.Path.{◌≡◌, refl, sym, ◌∙◌, ap}
use mathlib.Core.Bool.{Bool, true, false, ◌&&◌}
use mathlib.Core.List.{List, ◌∷◌}
use native.Mathlib.Omega.{arith}
use lib.ListN.{length, get_or-eq_default}
use lib.Dec.{T, eqb, ltb, eqb→eq, ltb→lt}
use borrow.Author.Tests.{ltb-false}
use Rattle.bytewise.specs.Bytes.{bytes_of}
use Rattle.plain.specs.Plain.{same}
use Rattle.guide.specs.Nodes.{Guide, message, node}
use Rattle.guide.specs.Pricat.{pricat20d, pricat20c}
use Rattle.guide.specs.workers.Checks.{every, implies}
use Rattle.guide.specs.Sheet.{is_tag}
use Rattle.guide.specs.workers.Frames.{only_frame, later, once, framed, Once, Framed}
use Rattle.guide.proofs.Basics.{T_true, and_left, and_right, or_cases, implied, eq-T, same-eq, every-at}
use Rattle.guide.proofs.tables.Required.{must-required}
use Rattle.guide.proofs.tables.Tables.{in_table}

-- a node that has a tag stands in the table
pub tag-inside : (g : Guide) (x : ℕ) (t : List ℕ) (n : ℕ) → T (is_tag g (x ∷ t) n) → n < length g
unfolding is_tag same
tag-inside g x t n h = go (ltb n (length g)) refl
  where
    go : (b : Bool) → ltb n (length g) ≡ b → n < length g
    go true e = ltb→lt n (length g) (T_true e)
    go false e =
        let l : length g ≤ n = ltb-false n (length g) e in
        absurd (rw (get_or-eq_default g message l) at h)

once-holds : (g : Guide) (t : ℕ) → T (once g t) → Once g t
once-holds g t h =
    let rest = and_right (eqb (node g t).parent 0) _ h in
    record {
      root = eqb→eq _ _ (and_left (eqb (node g t).parent 0) _ h);
      limit = eqb→eq _ _ (and_left (eqb (node g t).limit 1) _ rest);
      wanted = λ seen. must-required g t seen (and_right (eqb (node g t).limit 1) _ rest);
    }

pub framed-holds : (g : Guide) (h z : ℕ) → T (framed g h z) → Framed g h z
unfolding framed
framed-holds g h z t =
    let UNH = is_tag g (bytes_of "UNH") in
    let UNT = is_tag g (bytes_of "UNT") in
    let tags = and_left (UNH h && UNT z) _ t in
    let rest = and_right (UNH h && UNT z) _ t in
    let both = and_left (once g h && once g z) _ rest in
    let each : (n : ℕ) → n < length g → T (only_frame g h z n && later g h n) =
    λ n l. every-at (λ n. only_frame g h z n && later g h n) (length g) n (and_right (once g h && once g z) _ rest) l
    in
    let alone : (n : ℕ) → n < length g → T (only_frame g h z n) = λ n l. and_left (only_frame g h z n) (later g h n) (each n l) in
    record {
      head = and_left (UNH h) (UNT z) tags;
      tail = and_right (UNH h) (UNT z) tags;
      one_head =
          λ n q. eqb→eq n h (implied (UNH n) (eqb n h) (and_left (implies (UNH n) (eqb n h)) _ (alone n (tag-inside g _ _ n q))) q);
      one_tail =
          λ n q. eqb→eq n z (implied (UNT n) (eqb n z) (and_right (implies (UNH n) (eqb n h)) _ (alone n (tag-inside g _ _ n q))) q);
      head_once = once-holds g h (and_left (once g h) (once g z) both);
      tail_once = once-holds g z (and_right (once g h) (once g z) both);
      first =
          λ n e l d.
          or_cases (eqb n h) (ltb (node g h).counter (node g n).counter) (λ q. absurd (d (eqb→eq n h q))) (λ q. ltb→lt _ _ q)
          (implied (eqb (node g n).parent 0) _ (and_right (only_frame g h z n) (later g h n) (each n (in_table g n l))) (eq-T _ _ e));
    }

-- UNH and UNT are two nodes
pub two_nodes : (g : Guide) (h z : ℕ) → Framed g h z → h ≡ z → ⊥
unfolding is_tag
two_nodes g h z q e =
    let a = same-eq (node g h).tag (bytes_of "UNH") q.head in
    let b = same-eq (node g z).tag (bytes_of "UNT") q.tail in
    let c : bytes_of "UNH" ≡ bytes_of "UNT" = sym a ∙ (ap (λ (n : ℕ). (node g n).tag) e ∙ b) in
    let d : ◌≡◌ {A = ℕ} 72 84 = cc in
    omega arith

pub pricat20d-framed : Framed pricat20d 1 26
unfolding pricat20d framed every is_tag same
pricat20d-framed = framed-holds pricat20d 1 26 tt

pub pricat20c-framed : Framed pricat20c 1 24
unfolding pricat20c framed every is_tag same
pricat20c-framed = framed-holds pricat20c 1 24 tt
