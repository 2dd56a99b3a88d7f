-- `judge::words::front_key` meets its contract: a segment that a test refuses is not read so. Assumes nothing.
use Prim.Native.Nat.{◌+◌, ◌≤◌}
use mathlib.Core.Path.{refl, sym, ◌∙◌}
use native.Mathlib.Omega.{arith}
use Rattle.element.proofs.FrontKeys.{scale_some, scale_fits, front-key}
use Rattle.element.proofs.UsualServices.{usual_are}
use Rattle.guide.specs.Views.{view_of}
use Rattle.judge.specs.workers.Words.{Bytes}
use Rattle.judge.proofs.words.Packing.{letters-passed}
use Rattle.judge.proofs.words.front_key.Goals as goal

pub overflow_sub-result : goal.overflow_sub-result
overflow_sub-result c =
    scale_some c.first_of-n.result c.if-n-gt6.false _ refl

pub overflow_add-result : goal.overflow_add-result
overflow_add-result c =
    record { fits = scale_fits c.first_of-n.result c.if-n-gt6.false _ refl c.eight_at-w.result }

pub returns : goal.returns
unfolding view_of
returns c _ =
    let a = c.args in
    let room : a.start + 12 ≤ c.limit_of-limit.result = omega (arith, c.if-limit-lt12.false, c.if-limit-start.false) in
    let bytes : Bytes a.d.now = λ k. omega (arith, c.shared_slice_known-1.given k) in
    let u = usual_are a.y (sym c.has_usual_services.ensures ∙ c.if-not-has_usual_services.false) in
    front-key a.y a.d.now a.start a.end c.limit_of-limit.result c.limit_of-limit.ensures room bytes
    (letters-passed a.d.now a.start a.end _ c.limit_of-limit.ensures (omega (arith, room)) bytes c.requires a.y u.0 u.1
    u.2 u.3)
    c.if-d-start.false (λ z. omega (arith, z, u.0, u.1)) _ _ _ c.eight_at-w.ensures
    c.services_in.ensures c.first_of-n.ensures c.if-n-gt6.false c.if-d-start-2.false _ refl
