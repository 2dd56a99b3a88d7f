-- A message that two deliveries hold, in one of them k places later and with the same bytes: the public calls answer alike.
use Prim.Native.Nat.{ℕ, zero, suc, ◌+◌, ◌≤◌}
use mathlib.Core.Path.{◌≡◌, refl, sym, ◌∙◌, ap}
use mathlib.Core.List.{List, map, Memᴰ}
use native.Mathlib.Nat.{le_refl}
use native.Mathlib.Omega.{arith}
use lib.Dec.{ltb}
use Rattle.std.specs.Prelude.{Ok}
use lib.IntN.{ℤ}
use lib.ListN.{length, drop, length-map}
use Rattle.cut.specs.declared.service.Syntax.{Syntax}
use Rattle.messages.specs.Calls.{some_message}
use Rattle.cut.specs.Admission.{admission_of}
use Rattle.bytewise.specs.Bytes.{part}
use Rattle.messages.specs.Messages.{Message, start_of, close_of, messages}
use Rattle.messages.specs.Fronts.{moved_message}
use Rattle.bytewise.proofs.Parts.{part_none}
use Rattle.element.specs.declared.components.Span.{Span}
use Rattle.guide.specs.Accepted.{segments_of}
use Rattle.guide.specs.Choices.{pickℕ}
use Rattle.guide.specs.Answers.{Verdict, accepts, refuses}
use Rattle.verdict.specs.Moves.{moved_verdict}
use Rattle.verdict.proofs.Moved.{named-moved}
use Rattle.price.specs.Calls.{prices_in, filled_of, row_after, first_article}
use Rattle.price.specs.Listing.{prices_of}
use Rattle.price.specs.Numbers.{Listed}
use Rattle.price.proofs.moves.Moved.{later_price, prices-moved, row-later, filled-later}
use Rattle.price.proofs.moves.ArticleMoved.{first-article-moved}
use Rattle.schaumtruhe.specs.Calls.{
  judged,
  verdict_at,
  sheet_by,
  sheet_at,
  listed,
  priced_by,
  row_by,
  priced_at,
  row_at,
  article_refusal_by,
  article_refusal,
  article_unless,
  article_by,
  article_at,
}
use Rattle.schaumtruhe.specs.Demand3.{moved_span, bytes_at, Kept}
use Rattle.schaumtruhe.proofs.places.Only.{only_here, next_here, lies_here, close-moved}
use Rattle.schaumtruhe.proofs.ArticlePlaces.{article-within}

-- one message of an admitted delivery: what the calls find at its place
module _ (y : Syntax) (d : List ℕ) (admits : admission_of y d ≡ 0) (m : Message) (here : Memᴰ m (messages y d)) where
  pub verdict-here : verdict_at y d (start_of m) ≡ judged y m
  unfolding verdict_at
  verdict-here = rw (admits, only_here y d m here)

  sheet-here : sheet_at y d (start_of m) ≡ sheet_by (judged y m) m
  unfolding sheet_at
  sheet-here = rw (admits, only_here y d m here)

  -- its prices are those of its bytes
  prices-here : prices_in y d (start_of m) (close_of m) ≡ listed y m
  unfolding prices_in
  prices-here = ap (prices_of (start_of m)) (lies_here y d m here).alone

-- the prices of a message k places later
module _ (y : Syntax) (k : ℕ) (m : Message) where
  listed-moved : listed y (moved_message k m) ≡ map (later_price k) (listed y m)
  listed-moved = prices-moved k (start_of m) (segments_of m)

  count-moved : length (listed y (moved_message k m)) ≡ length (listed y m)
  count-moved = ap length listed-moved ∙ length-map (listed y m) (later_price k)

  module _ (j : ℕ) where
    refusal-moved
        : (v : Verdict) → article_refusal_by y (sheet_by (moved_verdict k v) (moved_message k m)) j ≡ article_refusal_by y (sheet_by v m) j
    unfolding moved_verdict
    refusal-moved (accepts n e) = ap (λ (c : ℕ). pickℕ (ltb j c) 0 32) count-moved
    refusal-moved (refuses r i p n) = refl

    span-moved
        : (v : Verdict) → article_refusal_by y (sheet_by v m) j ≡ 0
        → article_by y (sheet_by (moved_verdict k v) (moved_message k m)) j ≡ moved_span k (article_by y (sheet_by v m) j)
    unfolding moved_verdict
    span-moved (accepts n e) h =
        ap (λ (qs : List Listed). first_article y (k + start_of m) (drop j qs)) listed-moved ∙ first-article-moved k y (start_of m) j (listed y m)
    span-moved (refuses r i p n) h = absurd (omega arith)

-- a part that is refused alike, or moved
module _ (d' d : List ℕ) (k : ℕ) (bytes : (a e : ℕ) → e ≤ length d → part (k + a) (k + e) d' ≡ part a e d) where
  unless-moved : (r : ℕ) (s' s : Span) → (r ≡ 0 → s' ≡ moved_span k s) → r ≡ 0 → article_unless r s' ≡ moved_span k (article_unless r s)
  unless-moved zero s' s h e = h refl
  unless-moved (suc r) s' s h e = absurd (omega arith)

  unless-bytes
      : (r : ℕ) (s' s : Span) → (r ≡ 0 → s' ≡ moved_span k s) → (article_unless r s).end ≤ length d
      → bytes_at (article_unless r s') d' ≡ bytes_at (article_unless r s) d
  unless-bytes zero s' s h l = ap (λ (x : Span). bytes_at x d') (h refl) ∙ bytes s.start s.end l
  unless-bytes (suc r) s' s h l = part_none d' 0 0 (le_refl 0) ∙ sym (part_none d 0 0 (le_refl 0))

module _ (y : Syntax) (d' d : List ℕ) (k : ℕ) (admits' : admission_of y d' ≡ 0) (admits : admission_of y d ≡ 0)
    (bytes : (a e : ℕ) → e ≤ length d → part (k + a) (k + e) d' ≡ part a e d) (m : Message) (here' : Memᴰ (moved_message k m) (messages y d'))
    (here : Memᴰ m (messages y d)) where
  abbrev m' : Message
  m' = moved_message k m

  judged-later : judged y m' ≡ moved_verdict k (judged y m)
  judged-later = named-moved y k m

  sheet-later : sheet_at y d' (k + start_of m) ≡ sheet_by (moved_verdict k (judged y m)) m'
  sheet-later = sheet-here y d' admits' m' here' ∙ ap (λ (v : Verdict). sheet_by v m') judged-later

  same_bytes : part (k + start_of m) (k + close_of m) d' ≡ part (start_of m) (close_of m) d
  same_bytes = bytes (start_of m) (close_of m) (lies_here y d m here).fits

  prices' : prices_in y d' (k + start_of m) (k + close_of m) ≡ listed y m'
  prices' = ap (prices_in y d' (k + start_of m)) (sym (close-moved k m)) ∙ prices-here y d' admits' m' here'

  prices : prices_in y d (start_of m) (close_of m) ≡ listed y m
  prices = prices-here y d admits m here

  module _ (j : ℕ) (row : List ℤ) where
    filled-same : filled_of y (k + start_of m) j (listed y m') row ≡ filled_of y (start_of m) j (listed y m) row
    filled-same =
        ap (λ (qs : List Listed). filled_of y (k + start_of m) j qs row) (sym prices')
        ∙ filled-later y d d' k (start_of m) (close_of m) same_bytes j row
        ∙ ap (λ (qs : List Listed). filled_of y (start_of m) j qs row) prices

    row_same : row_after y (k + start_of m) j (listed y m') row ≡ row_after y (start_of m) j (listed y m) row
    row_same =
        ap (λ (qs : List Listed). row_after y (k + start_of m) j qs row) (sym prices')
        ∙ row-later y d d' k (start_of m) (close_of m) same_bytes j row
        ∙ ap (λ (qs : List Listed). row_after y (start_of m) j qs row) prices

    priced-by : (v : Verdict) → priced_by y (sheet_by (moved_verdict k v) m') j row ≡ priced_by y (sheet_by v m) j row
    unfolding moved_verdict
    priced-by (accepts n e) = ap Ok filled-same
    priced-by (refuses r i p n) = refl

    row-by : (v : Verdict) → row_by y (sheet_by (moved_verdict k v) m') j row ≡ row_by y (sheet_by v m) j row
    unfolding moved_verdict
    row-by (accepts n e) = row_same
    row-by (refuses r i p n) = refl

    priced-later : priced_at y d' (k + start_of m) j row ≡ priced_at y d (start_of m) j row
    unfolding priced_at
    priced-later = rw (sheet-later, sheet-here y d admits m here) (priced-by (judged y m))

    row-later-at : row_at y d' (k + start_of m) j row ≡ row_at y d (start_of m) j row
    unfolding row_at
    row-later-at = rw (sheet-later, sheet-here y d admits m here) (row-by (judged y m))

  module _ (j : ℕ) where
    refusal-later : article_refusal y d' (k + start_of m) j ≡ article_refusal y d (start_of m) j
    unfolding article_refusal
    refusal-later = rw (sheet-later, sheet-here y d admits m here) (refusal-moved y k m j (judged y m))

    span-later
        : article_refusal y d (start_of m) j ≡ 0 → article_by y (sheet_at y d' (k + start_of m)) j ≡ moved_span k (article_by y (sheet_at y d (start_of m)) j)
    unfolding article_refusal
    span-later h = rw (sheet-later, sheet-here y d admits m here) (span-moved y k m j (judged y m) (rw (sheet-here y d admits m here) at h))

    place-later : article_refusal y d (start_of m) j ≡ 0 → article_at y d' (k + start_of m) j ≡ moved_span k (article_at y d (start_of m) j)
    unfolding article_at
    place-later h = rw refusal-later (unless-moved d' d k bytes (article_refusal y d (start_of m) j) _ _ span-later h)

    article-later : bytes_at (article_at y d' (k + start_of m) j) d' ≡ bytes_at (article_at y d (start_of m) j) d
    unfolding article_at
    article-later =
        rw refusal-later
        (unless-bytes d' d k bytes (article_refusal y d (start_of m) j) (article_by y (sheet_at y d' (k + start_of m)) j)
        (article_by y (sheet_at y d (start_of m)) j)
        span-later (article-within y d (start_of m) j).1)

  pub kept : Kept y d' d k m
  kept =
      record {
        held = here';
        next = next_here y d' m' here' ∙ ap (some_message (k + start_of m)) (close-moved k m);
        own = verdict-here y d admits m here;
        verdict = verdict-here y d' admits' m' here' ∙ judged-later ∙ ap (moved_verdict k) (sym (verdict-here y d admits m here));
        priced = priced-later;
        row = row-later-at;
        refusal = refusal-later;
        article = article-later;
        place = place-later;
      }
