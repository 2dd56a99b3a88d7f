-- A part of the delivery into a lent row, release marks removed.
use Prim.Native.Nat.{ℕ, ◌+◌, ◌≤◌, ◌<◌, min}
use mathlib.Core.Path.{◌≡◌, refl, sym, ap, ◌∙◌, subst}
use Rattle.std.specs.Prelude.{Some, None}
use mathlib.Core.List.{List, [], ◌∷◌, ◌++◌}
use native.Mathlib.Nat.{zero-add}
use native.Mathlib.Omega.{arith}
use lib.ListN.{length, get_or, set, length-append}
use lib.Seq.{append_snoc}
use Rattle.cut.specs.declared.service.Syntax.{Syntax}
use Rattle.plain.specs.Plain.{decoded, literal_of}
use Rattle.plain.proofs.Decoding.{Literal, decoded_limited}
use Rattle.plain.proofs.LiteralPlaces.{literal-is}
use Rattle.print.specs.workers.Rows.{put_at, Poured}
use Rattle.print.proofs.Putting.{put-append, put-length}

module _ (y : Syntax) (d : List ℕ) (from to end stop : ℕ) (row : List ℕ) where
  -- some bytes are in the row, the others come from the place i on
  pub record Pouring (out : List ℕ) (i n : ℕ) : Type 0 where
    pub text : List ℕ
    pub parts : decoded y from to d ≡ text ++ decoded y i end d
    pub put : out ≡ put_at 0 text row
    pub count : n ≡ length text
    pub room : n ≤ stop

  module _ (ends : end ≡ min to (length d)) where
    pub pouring_first : Pouring row from 0
    unfolding put_at
    pouring_first = record { text = []; parts = sym (decoded_limited y d from to end ends); put = refl; count = refl; room = omega arith }

    module _ (out : List ℕ) (i n : ℕ) (p : Pouring out i n) where
      pub pouring_length : length out ≡ length row
      pouring_length = ap length p.put ∙ put-length 0 p.text row

      module _ (r : ℕ) (lit : r ≡ literal_of y d i end) where
        found : Literal y d i end r
        found = literal-is lit (omega arith)

        pub pouring_all : end ≤ r → Poured y d from to stop row out (record { length = n; left = None })
        pouring_all h =
            record {
              text = p.text;
              parts = p.parts ∙ ap (λ (t : List ℕ). p.text ++ t) (found.none h);
              put = p.put;
              count = p.count;
              room = p.room;
              full = λ t. absurd (cc);
              more = λ t. absurd (cc);
            }

        -- the row is full, and that was all
        pub pouring_whole : stop ≤ n → end ≤ r → Poured y d from to stop row out (record { length = stop; left = None })
        pouring_whole h e =
            let s : n ≡ stop = omega (arith, p.room) in
            subst (λ (m : ℕ). Poured y d from to stop row out (record { length = m; left = None })) s (pouring_all e)

        -- the row is full, and a byte is left
        pub pouring_full : stop ≤ n → r < end → Poured y d from to stop row out (record { length = stop; left = Some i })
        pouring_full h k =
            let l = decoded_limited y d i to end ends in
            record {
              text = p.text;
              parts = p.parts ∙ ap (λ (t : List ℕ). p.text ++ t) l;
              put = p.put;
              count = omega (arith, p.count, p.room);
              room = omega arith;
              full = λ _. refl;
              more = λ _ e. let z = sym (found.found k) ∙ (l ∙ e) in absurd (cc);
            }

        pub pouring_on : r < end → n < stop → Pouring (set out n (get_or d r 0)) (r + 1) (n + 1)
        unfolding put_at
        pouring_on h k =
            let x = get_or d r 0 in
            let l = length-append p.text (x ∷ []) in
            record {
              text = p.text ++ (x ∷ []);
              parts = p.parts ∙ ap (λ (t : List ℕ). p.text ++ t) (found.found h) ∙ sym (append_snoc p.text x (decoded y (r + 1) end d));
              put =
                  ap (λ (o : List ℕ). set o n x) p.put
                  ∙ ap (λ (m : ℕ). set (put_at 0 p.text row) m x) (p.count ∙ sym (zero-add (length p.text)))
                  ∙ sym (put-append 0 p.text (x ∷ []) row);
              count = omega (arith, p.count);
              room = omega arith;
            }
