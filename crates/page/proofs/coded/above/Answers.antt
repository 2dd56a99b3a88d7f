-- `page::coded::above` meets its contract: one number for each n.
use Prim.Native.Nat.{ℕ, ◌^◌}
use mathlib.Core.Path.{◌≡◌, sym, ap}
use native.Mathlib.Omega.{arith}
use Rattle.page.proofs.coded.above.Goals as goal

pub returns-in-0 : goal.returns-in-0
returns-in-0 c = (ap (λ (m : ℕ). 256 ^ m) (sym c.in-0.is), omega arith, omega arith)

pub returns-in-1 : goal.returns-in-1
returns-in-1 c = (ap (λ (m : ℕ). 256 ^ m) (sym c.in-1.is), omega arith, omega arith)

pub returns-in-2 : goal.returns-in-2
returns-in-2 c = (ap (λ (m : ℕ). 256 ^ m) (sym c.in-2.is), omega arith, omega arith)

pub returns-in-3 : goal.returns-in-3
returns-in-3 c = (ap (λ (m : ℕ). 256 ^ m) (sym c.in-3.is), omega arith, omega arith)

pub returns-in-4 : goal.returns-in-4
returns-in-4 c = (ap (λ (m : ℕ). 256 ^ m) (sym c.in-4.is), omega arith, omega arith)

pub returns-in-5 : goal.returns-in-5
returns-in-5 c = (ap (λ (m : ℕ). 256 ^ m) (sym c.in-5.is), omega arith, omega arith)

pub returns-in_default : goal.returns-in_default
returns-in_default c =
    let six : 6 ≡ c.args.n = omega arith in
    (ap (λ (m : ℕ). 256 ^ m) six, omega arith, omega arith)
