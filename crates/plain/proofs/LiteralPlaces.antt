-- Laws of `literal_of`: its value by the tests that `literal` makes, and that it is where the first decoded byte of a part stands.
use Rattle.std.proofs.Common.{◌≡◌, ℕ, ◌+◌, ◌<◌, ◌≤◌, min, Bool, true, false, cond, List, length, get_or, refl, arith, le-ltb, lt-ltb}
use native.Mathlib.Decide.{dec_lt}
use Rattle.cut.specs.declared.service.Syntax.{Syntax}
use Rattle.cut.specs.Segments.{frees}
use Rattle.plain.specs.Plain.{literal_of}
use Rattle.plain.proofs.Decoding.{Literal, literal-none, literal-byte, literal-mark}

module _ (y : Syntax) (d : List ℕ) (i e : ℕ) where
  -- no byte stands there, or it stands behind the part
  pub place-past : min e (length d) ≤ i → literal_of y d i e ≡ i
  unfolding literal_of
  place-past h = rw (le-ltb _ _ h)

  pub place_in : (b : Bool) → i < min e (length d) → frees y false (get_or d i 0) ≡ b → literal_of y d i e ≡ cond b (i + 1) i
  unfolding literal_of
  place_in b h f = rw (lt-ltb _ _ h, f)

  found-by : (b : Bool) → frees y false (get_or d i 0) ≡ b → Dec (i < e) → e ≤ length d → Literal y d i e (literal_of y d i e)
  found-by true f (yes h) k = rw (place_in true (omega arith) f) (literal-mark y d i e h k f)
  found-by false f (yes h) k = rw (place_in false (omega arith) f) (literal-byte y d i e h k f)
  found-by b f (no h) k = rw (place-past (omega arith)) (literal-none y d i e (omega arith))

-- in the words of what `literal` promises of its answer
pub literal-is : {y : Syntax} {d : List ℕ} {i e r : ℕ} → r ≡ literal_of y d i e → e ≤ length d → Literal y d i e r
literal-is {y} {d} {i} {e} h k = rw h (found-by y d i e _ refl (dec_lt i e) k)
