-- What the crate's own readers promise each other; no public call cites these.
use Rattle.std.specs.Prelude.{◌≡◌, ℕ, ◌+◌, ◌^◌, ◌<◌, ◌≢◌, Option, IfSome}
use Rattle.bytewise.specs.Eights.{number, byte_of}
use Rattle.cut.specs.declared.service.Syntax.{Syntax}

-- r is the number of the first n of the eight bytes of w, and none of those is the release character; or r is nothing
pub record FrontWord (y : Syntax) (w n : ℕ) (r : Option ℕ) : Type 0 where
  pub worth : IfSome r (λ v. v ≡ number n (byte_of w) + 256 ^ n)
  pub plain : IfSome r (λ v. (k : ℕ) → k < n → byte_of w k ≢ y.release)
