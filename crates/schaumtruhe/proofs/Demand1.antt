-- Demand 1 over a delivery and a place: "A refusal is one of the numbers in document 01 .., given exactly when its row and the order laid down
-- with it say, and it writes nothing into lent memory." For each call.
use Prim.Native.Nat.{ℕ, suc, ◌≤◌}
use mathlib.Core.Path.{◌≡◌, refl, sym, ◌∙◌, ap, subst}
use mathlib.Core.Bool.{Bool, true, false}
use mathlib.Core.Logic.{◌↔◌, ◌⊎◌, inl, inr}
use mathlib.Core.List.{List}
use native.Mathlib.Omega.{arith}
use lib.Dec.{ltb}
use lib.IntN.{ℤ}
use lib.ListN.{length}
use borrow.Author.Tests.{ltb-false, le-ltb}
use Rattle.cut.specs.declared.service.Syntax.{Syntax}
use Rattle.messages.specs.Messages.{Message, start_of, close_of}
use Rattle.guide.specs.Accepted.{segments_of, Accepted}
use Rattle.guide.specs.Choices.{pickℕ}
use Rattle.guide.specs.Answers.{Verdict, accepts, refuses}
use Rattle.guide.specs.Refusal.{Refusal}
use Rattle.guide.proofs.judging.Verdicts.{accepts_refuses}
use Rattle.verdict.proofs.Accepting.{accepted-named}
use Rattle.verdict.proofs.Refusing.{refused_named}
use Rattle.price.specs.Sheet.{prices_in_tree}
use Rattle.price.proofs.Face.{prices-tree}
use Rattle.verdict.specs.Named.{edition_of, guide_named, pages_named}
use Rattle.schaumtruhe.proofs.pricing.Named.{named-priced}
use Rattle.schaumtruhe.specs.Calls.{
  nowhere,
  verdict_at,
  judged,
  Sheet,
  stands,
  missing,
  sheet_by,
  sheet_at,
  listed,
  survey_of,
  priced_by,
  priced_at,
  row_at,
  article_refusal,
}
use Rattle.schaumtruhe.specs.Demands.{
  DeliveryRefused,
  VerdictRefused,
  no_message,
  of_message,
  Stands,
  VerdictAccepted,
  PricesRefused,
  not_accepted,
  ArticleRefused,
  no_prices,
  no_price,
}
use Rattle.std.specs.Prelude.{Result, Err}
use Rattle.schaumtruhe.specs.declared.surveys.Survey.{Survey}
use Rattle.schaumtruhe.proofs.places.Asked.{
  Admission,
  refused,
  admitted,
  admission,
  one-refusal,
  none-admitted,
  one-begins,
  Lost,
  There,
  asked,
  one_number,
  no_number,
}

one_or_zero : {A : Type 0} → ◌≡◌ {A = ℕ} 0 1 → A
one_or_zero z = absurd (omega arith)

module _ (y : Syntax) (d : List ℕ) where
  -- survey: 1 and 2
  pub survey_refuses : (n : ℕ) → (survey_of y d ≡ Err n) ↔ DeliveryRefused y d n
  unfolding survey_of
  survey_refuses n = (to (admission y d), from (admission y d))
    where
      to : Admission y d → survey_of y d ≡ Err n → DeliveryRefused y d n
      to (refused k e r) w =
          let h : ◌≡◌ {A = Result Survey ℕ} (Err (suc k)) (Err n) = rw e at w in
          let q : suc k ≡ n = cc in
          subst (DeliveryRefused y d) q r
      to (admitted e a) w =
          let h = rw e at w in
          one_or_zero (cc)

      from : Admission y d → DeliveryRefused y d n → survey_of y d ≡ Err n
      from (refused k e r) t = rw e (ap Err (one-refusal y d (suc k) n r t))
      from (admitted e a) t = absurd (none-admitted y d n t a)

  module _ (at : ℕ) where
    same-refusal : (k i a n k' i' a' n' : ℕ) → refuses k i a n ≡ refuses k' i' a' n' → VerdictRefused y d at k i a n → VerdictRefused y d at k' i' a' n'
    same-refusal k i a n k' i' a' n' e r =
        let b : k' ≡ k = cc in
        let c : i' ≡ i = cc in
        let f : a' ≡ a = cc in
        let o : n' ≡ n = cc in
        rw (b, c, f, o) r

    -- judge_at: it is refused with number, segment, place and node exactly if document 01 says so
    pub judge_refuses : (k i a n : ℕ) → (verdict_at y d at ≡ refuses k i a n) ↔ VerdictRefused y d at k i a n
    judge_refuses k i a n = (to (asked y d at), from k i a n (asked y d at))
      where
        to : Lost y d at ⊎ There y d at → verdict_at y d at ≡ refuses k i a n → VerdictRefused y d at k i a n
        to (inl l) w = same-refusal l.number 0 0 0 k i a n (sym l.verdict ∙ w) (no_message l.why)
        to (inr t) w = of_message t.message t.admits t.begins ((refused_named y t.message k i a n).0 (sym t.verdict ∙ w))

        from : (k i a n : ℕ) → Lost y d at ⊎ There y d at → VerdictRefused y d at k i a n → verdict_at y d at ≡ refuses k i a n
        from k i a n (inl l) (no_message w) = l.verdict ∙ ap nowhere (one_number y d at l.number k l.why w)
        from k i a n (inl l) (of_message m p b r) = absurd (no_number y d at l.number m l.why p b)
        from k i a n (inr t) (no_message w) = absurd (no_number y d at k t.message w t.admits t.begins)
        from k i a n (inr t) (of_message m p b r) =
            let e = one-begins y d at m t.message b t.begins in
            t.verdict ∙ (refused_named y t.message k i a n).1 (subst (λ (x : Message). Refusal y (guide_named y x) (pages_named y x) x k i a n) e r)

    -- it is accepted exactly if an accepted message begins there, with the count of its segments and the byte after it
    pub judge_accepts : (n e : ℕ) → (verdict_at y d at ≡ accepts n e) ↔ VerdictAccepted y d at n e
    judge_accepts n e = (to (asked y d at), from (asked y d at))
      where
        to : Lost y d at ⊎ There y d at → verdict_at y d at ≡ accepts n e → VerdictAccepted y d at n e
        to (inl l) w = absurd (accepts_refuses (sym w ∙ l.verdict))
        to (inr t) w =
            let a = (accepted-named y t.message n e).0 (sym t.verdict ∙ w) in
            record {
              message = t.message;
              stands = record { admitted = t.admits; begins = t.begins; accepted = a.0 };
              count = a.1;
              close = a.2;
            }

        from : Lost y d at ⊎ There y d at → VerdictAccepted y d at n e → verdict_at y d at ≡ accepts n e
        from (inl l) v = absurd (no_number y d at l.number v.message l.why v.stands.admitted v.stands.begins)
        from (inr t) v =
            let q = one-begins y d at v.message t.message v.stands.begins t.begins in
            t.verdict ∙ ap (judged y) (sym q) ∙ (accepted-named y v.message n e).1 (v.stands.accepted, v.count, v.close)

    by-verdict
        : (m : Message) (v : Verdict) → judged y m ≡ v → (n : ℕ) → sheet_by v m ≡ missing n
        → (n ≡ 30) × (Accepted y (guide_named y m) (pages_named y m) m → ⊥)
    by-verdict m (accepts s e) j n h = one_or_zero (cc)
    by-verdict m (refuses k i a o) j n h =
        let q : n ≡ 30 = cc in
        (q, λ c. accepts_refuses (sym ((accepted-named y m (length (segments_of m)) (close_of m)).1 (c, refl, refl)) ∙ j))

    refused_sheet : (m : Message) (v : Verdict) → judged y m ≡ v → (Accepted y (guide_named y m) (pages_named y m) m → ⊥) → sheet_by v m ≡ missing 30
    refused_sheet m (accepts s e) j h = absurd (h ((accepted-named y m s e).0 j).0)
    refused_sheet m (refuses k i a o) j h = refl

    -- 1, 2, 31, 30
    pub sheet-missing : (n : ℕ) → (sheet_at y d at ≡ missing n) ↔ PricesRefused y d at n
    sheet-missing n = (to (asked y d at), from n (asked y d at))
      where
        to : Lost y d at ⊎ There y d at → sheet_at y d at ≡ missing n → PricesRefused y d at n
        to (inl l) w =
            let h = sym l.sheet ∙ w in
            let q : l.number ≡ n = cc in
            subst (PricesRefused y d at) q (no_message l.why)
        to (inr t) w =
            let h = by-verdict t.message (judged y t.message) refl n (sym t.sheet ∙ w) in
            subst (PricesRefused y d at) (sym h.0) (not_accepted t.message t.admits t.begins h.1)

        from : (n : ℕ) → Lost y d at ⊎ There y d at → PricesRefused y d at n → sheet_at y d at ≡ missing n
        from n (inl l) (no_message w) = l.sheet ∙ ap missing (one_number y d at l.number n l.why w)
        from n (inl l) (not_accepted m p b r) = absurd (no_number y d at l.number m l.why p b)
        from n (inr t) (no_message w) = absurd (no_number y d at n t.message w t.admits t.begins)
        from n (inr t) (not_accepted m p b r) =
            let e = one-begins y d at m t.message b t.begins in
            t.sheet ∙ refused_sheet t.message (judged y t.message) refl
            (subst (λ (x : Message). Accepted y (guide_named y x) (pages_named y x) x → ⊥) e r)

    -- the accepted message that begins there
    pub sheet-stands : (m : Message) → (sheet_at y d at ≡ stands m) ↔ Stands y d at m
    sheet-stands m = (to (asked y d at), from (asked y d at))
      where
        by : (n : Message) (v : Verdict) → judged y n ≡ v → sheet_by v n ≡ stands m → (n ≡ m) × Accepted y (guide_named y n) (pages_named y n) n
        by n (accepts s e) j h =
            let q : n ≡ m = cc in
            (q, ((accepted-named y n s e).0 j).0)
        by n (refuses k i a o) j h = one_or_zero (cc)

        to : Lost y d at ⊎ There y d at → sheet_at y d at ≡ stands m → Stands y d at m
        to (inl l) w =
            let h = sym l.sheet ∙ w in
            one_or_zero (cc)
        to (inr t) w =
            let h = by t.message (judged y t.message) refl (sym t.sheet ∙ w) in
            subst (Stands y d at) h.0 (record { admitted = t.admits; begins = t.begins; accepted = h.1 })

        from : Lost y d at ⊎ There y d at → Stands y d at m → sheet_at y d at ≡ stands m
        from (inl l) s = absurd (no_number y d at l.number m l.why s.admitted s.begins)
        from (inr t) s =
            let q = one-begins y d at t.message m t.begins s.begins in
            let j = (accepted-named y m (length (segments_of m)) (close_of m)).1 (s.accepted, refl, refl) in
            t.sheet ∙ ap (λ (x : Message). sheet_by (judged y x) x) q ∙ rw j

    -- prices: they are refused exactly if document 01 says so, and then nothing is written
    pub prices_refused : (k : ℕ) (row : List ℤ) (n : ℕ) → (priced_at y d at k row ≡ Err n) ↔ PricesRefused y d at n
    unfolding priced_at
    prices_refused k row n = (
      λ w. (sheet-missing n).0 (lost (sheet_at y d at) w),
      λ r. rw ((sheet-missing n).1 r),
    )
      where
        lost : (s : Sheet) → priced_by y s k row ≡ Err n → s ≡ missing n
        lost (stands m) w = one_or_zero (cc)
        lost (missing j) w =
            let q : j ≡ n = cc in
            ap missing q

    pub refused_unwritten : (k : ℕ) (row : List ℤ) (n : ℕ) → PricesRefused y d at n → row_at y d at k row ≡ row
    unfolding row_at
    refused_unwritten k row n r = rw ((sheet-missing n).1 r)

    -- the prices of the message are the tree's
    pub tree-prices : (m : Message) (s : Stands y d at m) → listed y m ≡ prices_in_tree (guide_named y m) s.accepted.proper.sheet.tree
    tree-prices m s = prices-tree y (guide_named y m) (named-priced (edition_of y (segments_of m))) (start_of m) (segments_of m) s.accepted.proper.sheet

    -- article: the number that document 01 gives is the one that is answered
    pub article-number : (k j : ℕ) → ArticleRefused y d at k j → article_refusal y d at k ≡ j
    unfolding article_refusal
    article-number k j (no_prices r) = rw ((sheet-missing j).1 r)
    article-number k j (no_price m s l) =
        let i : length (listed y m) ≤ k = rw (tree-prices m s) l in
        rw ((sheet-stands m).1 s, le-ltb k (length (listed y m)) i)

    -- article: it is refused exactly if document 01 says so
    pub article_refuses : (k n : ℕ) → (article_refusal y d at k ≡ suc n) ↔ ArticleRefused y d at k (suc n)
    unfolding article_refusal
    article_refuses k n = (to (sheet_at y d at) refl, article-number k (suc n))
      where
        none : (b : Bool) (t : ℕ) → ltb k t ≡ b → pickℕ b 0 32 ≡ suc n → (suc n ≡ 32) × (t ≤ k)
        none true t e h = one_or_zero (let z : 0 ≡ suc n = h in omega (arith, z))
        none false t e h = (sym h, ltb-false k t e)

        to : (s : Sheet) → sheet_at y d at ≡ s → article_refusal y d at k ≡ suc n → ArticleRefused y d at k (suc n)
        to (stands m) e w =
            let s = (sheet-stands m).0 e in
            let h = none (ltb k (length (listed y m))) (length (listed y m)) refl (rw e at w) in
            subst (ArticleRefused y d at k) (sym h.0) (no_price m s (subst (λ (x : _). length x ≤ k) (tree-prices m s) h.1))
        to (missing j) e w =
            let q : j ≡ suc n = rw e at w in
            no_prices ((sheet-missing (suc n)).0 (e ∙ ap missing q))
