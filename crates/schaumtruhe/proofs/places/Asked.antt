-- What is asked at a place: there is no message, with document 01's number, or there is just one.
use Prim.Native.Nat.{ℕ, suc, ◌-◌}
use mathlib.Core.Path.{◌≡◌, refl, sym, ◌∙◌, ap}
use mathlib.Core.Bool.{Bool, true, false, not, ◌&&◌, true≢false, cond}
use mathlib.Core.Logic.{◌⊎◌, inl, inr}
use mathlib.Core.List.{List, [], ◌∷◌, ◌++◌, Memᴰ, head-eq_of_cons-eq, nil≢cons}
use native.Mathlib.Omega.{arith}
use lib.Dec.{eqb, ltb, lit<}
use lib.ListN.{length, take-append-drop}
use borrow.Author.Tests.{eqb-true, ltb-true, ltb-false}
use Rattle.cut.specs.declared.service.Syntax.{Syntax}
use Rattle.bytewise.specs.Bytes.{part, begins}
use Rattle.bytewise.proofs.Words.{begins-at}
use Rattle.cut.specs.Characters.{valid}
use Rattle.cut.specs.Segments.{past_at, breaks}
use Rattle.cut.specs.Admission.{limit, UNA, nine, admits, unbroken, admission_of}
use Rattle.cut.proofs.Ahead.{pasts}
use Rattle.cut.proofs.Fronting.{U_kept}
use Rattle.cut.proofs.Empty.{unbroken-behind}
use Rattle.messages.specs.Messages.{Message, start_of, messages}
use Rattle.schaumtruhe.specs.Calls.{beginning_at, nowhere, verdict_at, judged, missing, sheet_by, sheet_at}
use Rattle.schaumtruhe.proofs.places.Only.{only_here}
use Rattle.schaumtruhe.specs.Demands.{TooLong, OtherUNA, Admitted, DeliveryRefused, too_long, unusable, other_UNA}
use Rattle.schaumtruhe.specs.Demands.{Begins, NoMessage, whole_delivery, none_begins}

-- the message that is found at a place begins there
found-begins : (at : ℕ) (m : Message) (ms rest : List Message) → beginning_at at ms ≡ m ∷ rest → Memᴰ m ms × (start_of m ≡ at)
unfolding beginning_at
found-begins at m [] rest h = absurd (nil≢cons h)
found-begins at m (n ∷ ns) rest h = go (eqb at (start_of n)) refl h (found-begins at m ns rest)
  where
    go
        : (b : Bool) → eqb at (start_of n) ≡ b → cond b (n ∷ []) (beginning_at at ns) ≡ m ∷ rest
        → (beginning_at at ns ≡ m ∷ rest → Memᴰ m ns × (start_of m ≡ at))
        → Memᴰ m (n ∷ ns) × (start_of m ≡ at)
    go true e k ih =
        let q : n ≡ m = head-eq_of_cons-eq k in
        (Memᴰ.head (sym q), ap start_of (sym q) ∙ sym (eqb-true at (start_of n) e))
    go false e k ih =
        let w = ih k in
        (Memᴰ.tail w.0, w.1)

module _ (y : Syntax) (d : List ℕ) where
  -- the delivery is refused, or admitted
  pub data Admission : Type 0 where
    refused : (k : ℕ) → admission_of y d ≡ suc k → DeliveryRefused y d (suc k) → Admission
    admitted : admission_of y d ≡ 0 → Admitted y d → Admission

  -- the bytes behind line breaks that begin UNA are those behind all line breaks at the start
  behind-skipped : (skipped rest : List ℕ) → d ≡ skipped ++ rest → breaks y skipped ≡ true → begins UNA rest ≡ true → unbroken y d ≡ rest
  unfolding begins
  behind-skipped skipped [] e h u = absurd (true≢false (sym u))
  behind-skipped skipped (x ∷ xs) e h u =
      let z : x ≡ 85 = begins-at UNA (x ∷ xs) 0 u (lit< tt) in
      ap (unbroken y) e ∙ unbroken-behind y skipped x xs h (rw z (U_kept y))

  -- and line breaks and these are the delivery
  other : begins UNA (unbroken y d) ≡ true → begins (nine y) (unbroken y d) ≡ false → OtherUNA y d
  unfolding part
  other p q =
      let z : past_at y d 0 - 0 ≡ past_at y d 0 = omega arith in
      record {
        skipped = part 0 (past_at y d 0) d;
        rest = unbroken y d;
        same = rw z (sym (take-append-drop (past_at y d 0) d));
        all_skipped = (pasts y d 0).between;
        begins_UNA = p;
        not_nine = q;
      }

  not-other : (b c : Bool) → begins UNA (unbroken y d) ≡ b → begins (nine y) (unbroken y d) ≡ c → (b && not c) ≡ false → OtherUNA y d → ⊥
  not-other b c p q n o =
      let r = behind-skipped o.skipped o.rest o.same o.all_skipped o.begins_UNA in
      let u : b ≡ true = sym p ∙ ap (begins UNA) r ∙ o.begins_UNA in
      let v : c ≡ false = sym q ∙ ap (begins (nine y)) r ∙ o.not_nine in
      true≢false (sym (rw (u, v)) ∙ n)

  pub admission : Admission
  unfolding admission_of admits
  admission = go (ltb limit (length d)) (valid y) refl refl
    where
      short : ltb limit (length d) ≡ false → TooLong d → ⊥
      short e l =
          let n = ltb-false limit (length d) e in
          omega (arith, l, n)

      nines : (b c : Bool) → ltb limit (length d) ≡ false → valid y ≡ true → begins UNA (unbroken y d) ≡ b → begins (nine y) (unbroken y d) ≡ c → Admission
      nines true false e v p q = refused 1 (rw (e, v, p, q)) (other_UNA (short e) (other p q))
      nines true true e v p q = admitted (rw (e, v, p, q)) (record { short = short e; usable = v; right = not-other true true p q refl })
      nines false c e v p q = admitted (rw (e, v, p)) (record { short = short e; usable = v; right = not-other false c p q refl })

      go : (b v : Bool) → ltb limit (length d) ≡ b → valid y ≡ v → Admission
      go true v e f = refused 0 (rw e) (too_long (ltb-true limit (length d) e))
      go false false e f = refused 1 (rw (e, f)) (unusable (short e) f)
      go false true e f = nines (begins UNA (unbroken y d)) (begins (nine y) (unbroken y d)) e f refl refl

  -- one number refuses a delivery, and none an admitted one
  pub one-refusal : (k n : ℕ) → DeliveryRefused y d k → DeliveryRefused y d n → k ≡ n
  one-refusal k n (too_long l) (too_long i) = refl
  one-refusal k n (too_long l) (unusable s v) = absurd (s l)
  one-refusal k n (too_long l) (other_UNA s o) = absurd (s l)
  one-refusal k n (unusable s v) (too_long l) = absurd (s l)
  one-refusal k n (unusable s v) (unusable t w) = refl
  one-refusal k n (unusable s v) (other_UNA t i) = refl
  one-refusal k n (other_UNA s o) (too_long l) = absurd (s l)
  one-refusal k n (other_UNA s o) (unusable t w) = refl
  one-refusal k n (other_UNA s o) (other_UNA t i) = refl

  pub none-admitted : (k : ℕ) → DeliveryRefused y d k → Admitted y d → ⊥
  none-admitted k (too_long l) a = a.short l
  none-admitted k (unusable s v) a = true≢false (sym a.usable ∙ v)
  none-admitted k (other_UNA s o) a = a.right o

  module _ (at : ℕ) where
    -- the message that begins at the place is the only one
    pub only-begins : (m : Message) → Begins y d at m → beginning_at at (messages y d) ≡ m ∷ []
    only-begins m b = ap (λ (a : ℕ). beginning_at a (messages y d)) (sym b.starts) ∙ only_here y d m b.member

    pub one-begins : (m n : Message) → Begins y d at m → Begins y d at n → m ≡ n
    one-begins m n b c = head-eq_of_cons-eq (sym (only-begins m b) ∙ only-begins n c)

    -- no message is there, and k says why
    pub record Lost : Type 0 where
      pub number : ℕ
      pub why : NoMessage y d at number
      pub verdict : verdict_at y d at ≡ nowhere number
      pub sheet : sheet_at y d at ≡ missing number

    -- one is
    pub record There : Type 0 where
      pub admits : Admitted y d
      pub message : Message
      pub begins : Begins y d at message
      pub verdict : verdict_at y d at ≡ judged y message
      pub sheet : sheet_at y d at ≡ sheet_by (judged y message) message

    pub asked : Lost ⊎ There
    unfolding verdict_at sheet_at
    asked = go admission
      where
        place : admission_of y d ≡ 0 → Admitted y d → (ms : List Message) → beginning_at at (messages y d) ≡ ms → Lost ⊎ There
        place e a [] h =
            inl
            (record {
              number = 31;
              why = none_begins a (λ m b. nil≢cons (sym h ∙ only-begins m b));
              verdict = rw (e, h);
              sheet = rw (e, h);
            })
        place e a (m ∷ ms) h =
            let b = found-begins at m (messages y d) ms h in
            inr
            (record {
              admits = a;
              message = m;
              begins = record { member = b.0; starts = b.1 };
              verdict = rw (e, h);
              sheet = rw (e, h);
            })

        go : Admission → Lost ⊎ There
        go (refused k e r) = inl (record { number = suc k; why = whole_delivery r; verdict = rw e; sheet = rw e })
        go (admitted e a) = place e a (beginning_at at (messages y d)) refl

    -- there is one number
    pub one_number : (k n : ℕ) → NoMessage y d at k → NoMessage y d at n → k ≡ n
    one_number k n (whole_delivery r) (whole_delivery t) = one-refusal k n r t
    one_number k n (whole_delivery r) (none_begins a f) = absurd (none-admitted k r a)
    one_number k n (none_begins a f) (whole_delivery t) = absurd (none-admitted n t a)
    one_number k n (none_begins a f) (none_begins b g) = refl

    -- and none where a message begins
    pub no_number : (k : ℕ) (m : Message) → NoMessage y d at k → Admitted y d → Begins y d at m → ⊥
    no_number k m (whole_delivery r) a b = none-admitted k r a
    no_number k m (none_begins c f) a b = f m b
