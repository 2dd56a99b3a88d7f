-- "Each message stands by itself": what the calls answer of a message is what they answer of its bytes as a delivery of their own.
use Prim.Native.Nat.{ℕ, ◌+◌, ◌-◌, ◌≤◌}
use mathlib.Core.Path.{◌≡◌, refl, sym, ◌∙◌, ap, subst}
use mathlib.Core.List.{List, Memᴰ}
use native.Mathlib.Omega.{arith}
use lib.ListN.{length}
use Rattle.cut.specs.declared.service.Syntax.{Syntax}
use Rattle.cut.specs.Admission.{admission_of}
use Rattle.bytewise.specs.Bytes.{part}
use Rattle.messages.specs.Messages.{Message, start_of, close_of, messages}
use Rattle.messages.proofs.ByItself.{ByItself, messages-by_themselves}
use Rattle.bytewise.proofs.Parts.{length_part, part-part}
use Rattle.verdict.specs.Moves.{moved_verdict}
use Rattle.verdict.proofs.Face.{each_member}
use Rattle.schaumtruhe.specs.Calls.{verdict_at}
use Rattle.schaumtruhe.specs.Demand3.{Alone}
use Rattle.schaumtruhe.proofs.places.Only.{lies_here}
use Rattle.schaumtruhe.proofs.keeping.Kept.{kept}

module _ (y : Syntax) (d : List ℕ) (a : admission_of y d ≡ 0) (m : Message) (here : Memᴰ m (messages y d)) where
  abbrev own : List ℕ
  own = part (start_of m) (close_of m) d

  own-part : (x e : ℕ) → e ≤ length own → part (start_of m + x) (start_of m + e) d ≡ part x e own
  own-part x e h =
      let l : e ≤ close_of m - start_of m = omega (arith, length_part d (start_of m) (close_of m) (lies_here y d m here).fits) in
      sym (part-part d (start_of m) (close_of m) x e l)

  pub each_alone : Alone y d m
  each_alone =
      let b = each_member (ByItself y d) m (messages y d) (messages-by_themselves y d a) here in
      let z : start_of b.alone ≡ 0 = omega (arith, ap start_of b.same) in
      let q = kept y d own (start_of m) a b.admits own-part b.alone (subst (λ (n : Message). Memᴰ n (messages y d)) (sym b.same) here)
      (subst (Memᴰ b.alone) (sym b.only) (Memᴰ.head refl)) in
      record {
        message = b.alone;
        admits = b.admits;
        only = b.only;
        begins = z;
        same = b.same;
        kept = q;
        verdict =
            ap (verdict_at y d) (sym (ap start_of b.same))
            ∙ (q.verdict ∙ ap (λ (p : ℕ). moved_verdict (start_of m) (verdict_at y own p)) z);
      }
