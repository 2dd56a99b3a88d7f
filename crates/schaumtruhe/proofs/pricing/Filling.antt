-- The prices of the accepted message at a place: one law for each answer of the workers.
use Prim.Native.Nat.{ℕ}
use mathlib.Core.Path.{◌≡◌, refl, sym, ◌∙◌, ap, ap₂}
use mathlib.Core.List.{List}
use native.Mathlib.Omega.{arith}
use lib.IntN.{ℤ}
use lib.ListN.{length}
use Rattle.cut.specs.declared.service.Syntax.{Syntax}
use Rattle.messages.specs.Messages.{Message, start_of, close_of}
use Rattle.price.specs.Calls.{prices_in, filled_of, row_after}
use Rattle.price.specs.Listing.{prices_of}
use Rattle.price.specs.Numbers.{Listed}
use Rattle.price.specs.declared.filling.Filled.{Filled}
use Rattle.schaumtruhe.specs.Calls.{Sheet, stands, missing, sheet_at, listed, priced_at, row_at}
use Rattle.schaumtruhe.specs.workers.Answers.{standing_of}
use Rattle.std.specs.Prelude.{Ok, Err}
use Rattle.schaumtruhe.specs.declared.sheets.Sheet.{Sheet as Standing}
use Rattle.schaumtruhe.proofs.judging.Verdicts.{Stands, stands_alone}

-- from the declared answer back
pub record Accepts (sheet : Sheet) (s : Standing) : Type 0 where
  pub message : Message
  pub is : sheet ≡ stands message
  pub starts : start_of message ≡ s.start
  pub closes : close_of message ≡ s.end

pub accepts : (sheet : Sheet) (s : Standing) → Ok s ≡ standing_of sheet → Accepts sheet s
accepts (stands m) s h =
    let e : s ≡ record { start = start_of m; end = close_of m } = cc in
    record {
      message = m;
      is = refl;
      starts = sym (ap (λ (x : Standing). x.start) e);
      closes = sym (ap (λ (x : Standing). x.end) e);
    }
accepts (missing n) s h =
    let z : ◌≡◌ {A = ℕ} 0 1 = cc in
    absurd (omega arith)

pub refuses : (sheet : Sheet) (n : ℕ) → Err n ≡ standing_of sheet → sheet ≡ missing n
refuses (stands m) n h =
    let z : ◌≡◌ {A = ℕ} 0 1 = cc in
    absurd (omega arith)
refuses (missing k) n h = cc

-- the prices of a message that stands in the delivery are those of its bytes
pub listed-in : (y : Syntax) (d : List ℕ) (m : Message) → Stands y d m → prices_in y d (start_of m) (close_of m) ≡ listed y m
unfolding prices_in
listed-in y d m h = ap (prices_of (start_of m)) h.alone

-- how many there are
pub is_total : (f : Filled) (row : List ℤ) (y : Syntax) (start : ℕ) (qs : List Listed) → f ≡ filled_of y start 0 qs row → f.total ≡ length qs
unfolding filled_of
is_total f row y start qs h = rw h

module _ (y : Syntax) (d : List ℕ) (at : ℕ) where
  -- an accepted message stands there
  module _ (s : Standing) (is : Ok s ≡ standing_of (sheet_at y d at)) where
    pub found : Accepts (sheet_at y d at) s
    found = accepts (sheet_at y d at) s is

    abbrev pub m : Message
    m = found.message

    pub alone : Stands y d m
    alone = stands_alone y d at m found.is

    pub same-prices : prices_in y d s.start s.end ≡ listed y m
    same-prices = ap₂ (prices_in y d) (sym found.starts) (sym found.closes) ∙ listed-in y d m alone

    module _ (k : ℕ) (row row' : List ℤ) (f : Filled) (fills : f ≡ filled_of y s.start k (prices_in y d s.start s.end) row)
        (leaves : row' ≡ row_after y s.start k (prices_in y d s.start s.end) row) where
      pub priced-written : Ok f ≡ priced_at y d at k row
      unfolding priced_at
      priced-written =
          rw found.is
          (ap Ok (fills ∙ ap₂ (λ (a : ℕ) (qs : List Listed). filled_of y a k qs row) (sym found.starts) same-prices))

      pub row_written : row' ≡ row_at y d at k row
      unfolding row_at
      row_written =
          rw found.is (leaves ∙ ap₂ (λ (a : ℕ) (qs : List Listed). row_after y a k qs row) (sym found.starts) same-prices)

  -- or a refusal
  module _ (n : ℕ) (is : Err n ≡ standing_of (sheet_at y d at)) where
    pub lost : sheet_at y d at ≡ missing n
    lost = refuses (sheet_at y d at) n is

    pub priced_refused : (k : ℕ) (row : List ℤ) → Err n ≡ priced_at y d at k row
    unfolding priced_at
    priced_refused k row = rw lost

    pub row_unchanged : (k : ℕ) (row : List ℤ) → row ≡ row_at y d at k row
    unfolding row_at
    row_unchanged k row = rw lost
