-- What an admitted delivery with a tail that begins UNH says of its front: line breaks at the start, UNA and the limit taken in.
use Prim.Native.Nat.{ℕ, zero, suc, ◌+◌, ◌≤◌, ◌<◌}
use mathlib.Core.Path.{◌≡◌, refl, sym, ◌∙◌, ap, ap₂}
use mathlib.Core.Bool.{Bool, true, false, cond, not, ◌&&◌, and-false, true≢false, false≢true}
use mathlib.Core.List.{List, [], ◌∷◌, ◌++◌}
use native.Mathlib.Nat.{add-zero, le_trans}
use native.Mathlib.Omega.{arith}
use lib.ListN.{length, get_or, drop, length-append, length-drop}
use lib.Seq.{get_or-append-add, drop-append-le}
use lib.Dec.{eqb, leb, ltb, lit<, lit≤}
use borrow.Author.Tests.{eqb-false, ne_eqb, ltb-false, le-ltb, leb-true, leb-false}
use Rattle.cut.specs.declared.service.Syntax.{Syntax}
use Rattle.bytewise.specs.Bytes.{begins}
use Rattle.cut.specs.Segments.{is_break, past, past_at}
use Rattle.cut.specs.Admission.{limit, UNA, nine, admits, opens, unbroken, admission_of, opening_of}
use Rattle.bytewise.proofs.Booleans.{and_both, or_neither}
use Rattle.bytewise.proofs.Words.{begins-front, begins_more, begins-at}
use Rattle.cut.specs.Fronts.{UNH, Tail}
use Rattle.cut.specs.Characters.{between, allowed_byte, may_serve, service, has, all_serve, distinct, valid}
use Rattle.cut.proofs.Ahead.{pasts}

pub has-not : (x : ℕ) (zs : List ℕ) (i : ℕ) → has x zs ≡ false → i < length zs → x ≡ get_or zs i 0 → ⊥
unfolding has
has-not x [] i h k e = omega arith
has-not x (z ∷ zs) zero h k e = eqb-false x z (or_neither (eqb x z) (has x zs) h).0 e
has-not x (z ∷ zs) (suc i) h k e = has-not x zs i (or_neither (eqb x z) (has x zs) h).1 (omega arith) e

-- what begins UNH does not begin UNA
pub unh_una : (d : List ℕ) → begins UNH d ≡ true → begins UNA d ≡ false
unh_una d u = go (begins UNA d) refl
  where
    go : (b : Bool) → begins UNA d ≡ b → begins UNA d ≡ false
    go true e =
        let h = sym (begins-at UNA d 2 e (lit< tt)) ∙ begins-at UNH d 2 u (lit< tt) in
        absurd (omega arith)
    go false e = e

-- no byte of UNA's nine but the first is a U
nine_U : (y : Syntax) (i : ℕ) → has 85 (service y) ≡ false → 0 < i → i < 9 → 85 ≡ get_or (nine y) i 0 → ⊥
nine_U y zero n h k e = omega arith
nine_U y (suc zero) n h k e = omega arith
nine_U y (suc (suc zero)) n h k e = omega arith
nine_U y (suc (suc (suc zero))) n h k e = has-not 85 (service y) 0 n (lit< tt) e
nine_U y (suc (suc (suc (suc zero)))) n h k e = has-not 85 (service y) 1 n (lit< tt) e
nine_U y (suc (suc (suc (suc (suc zero))))) n h k e = has-not 85 (service y) 2 n (lit< tt) e
nine_U y (suc (suc (suc (suc (suc (suc zero)))))) n h k e = has-not 85 (service y) 3 n (lit< tt) e
nine_U y (suc (suc (suc (suc (suc (suc (suc zero))))))) n h k e = omega arith
nine_U y (suc (suc (suc (suc (suc (suc (suc (suc zero)))))))) n h k e = has-not 85 (service y) 4 n (lit< tt) e
nine_U y (suc (suc (suc (suc (suc (suc (suc (suc (suc i))))))))) n h k e = omega arith

-- what may serve is none that may not
serves_not : (x : ℕ) (zs : List ℕ) → may_serve x ≡ false → all_serve zs ≡ true → has x zs ≡ false
unfolding has all_serve
serves_not x [] n h = refl
serves_not x (z ∷ zs) n h =
    let k = and_both (may_serve z) (all_serve zs) h in
    let e : x ≡ z → ⊥ = λ e. true≢false (sym k.0 ∙ ap may_serve (sym e) ∙ n) in
    rw (ne_eqb x z e) (serves_not x zs n k.1)

-- no letter is a service character that may be used
pub no_letter : (y : Syntax) (x : ℕ) → valid y ≡ true → may_serve x ≡ false → has x (service y) ≡ false
unfolding valid
no_letter y x v n = serves_not x (service y) n (and_both (all_serve (service y)) (distinct (service y)) v).0

pub no_U : (y : Syntax) → valid y ≡ true → has 85 (service y) ≡ false
unfolding may_serve allowed_byte between
no_U y v = no_letter y 85 v refl

pub no_N : (y : Syntax) → valid y ≡ true → has 78 (service y) ≡ false
unfolding may_serve allowed_byte between
no_N y v = no_letter y 78 v refl

module _ (y : Syntax) (n : ℕ) (d : List ℕ) where
  abbrev told : Bool → Bool → Bool → ℕ
  told l v w = cond l 1 (cond v (cond w 2 0) 2)

  -- admission, as three facts
  pub admitted-length : admits y n d ≡ 0 → n ≤ limit
  unfolding admits
  admitted-length e = go (ltb limit n) refl e
    where
      go : (b : Bool) → ltb limit n ≡ b → ◌≡◌ {A = ℕ} (told b (valid y) (begins UNA d && not (begins (nine y) d))) 0 → n ≤ limit
      go true l k = absurd (omega arith)
      go false l k = ltb-false limit n l

  pub admitted-valid : admits y n d ≡ 0 → valid y ≡ true
  unfolding admits
  admitted-valid e = go (ltb limit n) (valid y) refl e
    where
      go : (b v : Bool) → valid y ≡ v → ◌≡◌ {A = ℕ} (told b v (begins UNA d && not (begins (nine y) d))) 0 → valid y ≡ true
      go true v l k = absurd (omega arith)
      go false true l k = l
      go false false l k = absurd (omega arith)

  pub admitted_una : admits y n d ≡ 0 → begins UNA d ≡ true → begins (nine y) d ≡ true
  unfolding admits
  admitted_una e u = go (ltb limit n) (valid y) (begins (nine y) d) refl (rw u at e)
    where
      go : (b v t : Bool) → begins (nine y) d ≡ t → ◌≡◌ {A = ℕ} (told b v (not t)) 0 → begins (nine y) d ≡ true
      go true v t l k = absurd (omega arith)
      go false v true l k = l
      go false true false l k = absurd (omega arith)
      go false false false l k = absurd (omega arith)

  pub admitted-by : n ≤ limit → valid y ≡ true → (begins UNA d ≡ true → begins (nine y) d ≡ true) → admits y n d ≡ 0
  unfolding admits
  admitted-by h v t = rw (le-ltb limit n h, v) (go (begins UNA d) refl)
    where
      go : (u : Bool) → begins UNA d ≡ u → ◌≡◌ {A = ℕ} (cond (u && not (begins (nine y) d)) 2 0) 0
      go true e = rw (t e)
      go false e = refl

-- a front without the line breaks at its start, before a tail that begins UNH
module _ (y : Syntax) (n : ℕ) (front tail : List ℕ) (a : admits y n (front ++ tail) ≡ 0) (u : begins UNH tail ≡ true) where
  tail-byte : (i : ℕ) → i < 3 → get_or (front ++ tail) (length front + i) 0 ≡ get_or UNH i 0
  tail-byte i h = get_or-append-add front tail i 0 ∙ begins-at UNH tail i u h

  -- UNA stands in the front whole
  una_front : begins UNA (front ++ tail) ≡ true → 9 ≤ length front
  una_front v = go front refl (leb 9 (length front)) refl
    where
      first-byte : length front < 9 → 85 ≡ get_or (nine y) (length front) 0
      first-byte h =
          sym (rw (add-zero (length front)) at (tail-byte 0 (lit< tt)))
          ∙ begins-at (nine y) (front ++ tail) (length front) (admitted_una y n (front ++ tail) a v) h

      go : (f : List ℕ) → front ≡ f → (b : Bool) → leb 9 (length front) ≡ b → 9 ≤ length front
      go f e true l = leb-true 9 (length front) l
      go [] e false l = absurd (true≢false (sym (rw e at v) ∙ unh_una tail u))
      go (x ∷ xs) e false l =
          let h = leb-false 9 (length front) l in
          let k = ap length e in
          absurd (nine_U y (length front) (no_U y (admitted-valid y n (front ++ tail) a)) (omega arith) h (first-byte h))

  una_same : begins UNA (front ++ tail) ≡ begins UNA front
  una_same = go (begins UNA (front ++ tail)) (begins UNA front) refl refl
    where
      go : (b c : Bool) → begins UNA (front ++ tail) ≡ b → begins UNA front ≡ c → begins UNA (front ++ tail) ≡ begins UNA front
      go true c e f = begins-front UNA front tail (le_trans (lit≤ tt) (una_front e))
      go false true e f = absurd (true≢false (sym (begins_more UNA front tail f) ∙ e))
      go false false e f = e ∙ sym f

  opens-same : opens (front ++ tail) ≡ opens front
  unfolding opens
  opens-same = rw una_same

  opens-fits : opens front ≤ length front
  unfolding opens
  opens-fits = go (begins UNA front) refl
    where
      go : (b : Bool) → begins UNA front ≡ b → cond b 9 0 ≤ length front
      go true e = una_front (una_same ∙ e)
      go false e = omega arith

  front-admits : (m : ℕ) → m ≤ n → admits y m front ≡ 0
  front-admits m h =
      admitted-by y m front (omega (arith, admitted-length y n (front ++ tail) a)) (admitted-valid y n (front ++ tail) a)
      (λ v. sym (begins-front (nine y) front tail (una_front (una_same ∙ v))) ∙ admitted_una y n (front ++ tail) a (una_same ∙ v))

-- U is no line break
pub U_kept : (y : Syntax) → is_break y 85 ≡ false
unfolding is_break
U_kept y = rw (and-false y.skips)

pub past-before : (y : Syntax) (p : ℕ) (xs : List ℕ) (x : ℕ) (zs : List ℕ) → is_break y x ≡ false → past y p (xs ++ (x ∷ zs)) ≡ past y p xs
unfolding past
past-before y p [] x zs h = rw h
past-before y p (w ∷ ws) x zs h = go (is_break y w) (past-before y (suc p) ws x zs h)
  where
    go
        : (b : Bool) → past y (suc p) (ws ++ (x ∷ zs)) ≡ past y (suc p) ws → cond b (past y (suc p) (ws ++ (x ∷ zs))) p ≡ cond b (past y (suc p) ws) p
    go true ih = ih
    go false ih = refl

-- line breaks at the start are those of the front
past-front : (y : Syntax) (front tail : List ℕ) → begins UNH tail ≡ true → past_at y (front ++ tail) 0 ≡ past_at y front 0
unfolding begins
past-front y front [] u = absurd (false≢true u)
past-front y front (x ∷ xs) u =
    let e : x ≡ 85 = begins-at UNH (x ∷ xs) 0 u (lit< tt) in
    past-before y 0 front x xs (rw e (U_kept y))

pub admission_short : (y : Syntax) (d : List ℕ) → admission_of y d ≡ 0 → length d ≤ limit
unfolding admission_of
admission_short y d e = admitted-length y (length d) (unbroken y d) e

pub admission_valid : (y : Syntax) (d : List ℕ) → admission_of y d ≡ 0 → valid y ≡ true
unfolding admission_of
admission_valid y d e = admitted-valid y (length d) (unbroken y d) e

-- a delivery that begins UNH has no line break at its start and no UNA
module _ (y : Syntax) (d : List ℕ) (u : begins UNH d ≡ true) where
  unh_start : past_at y d 0 ≡ 0
  unfolding past
  unh_start = past-front y [] d u

  pub unh_unbroken : unbroken y d ≡ d
  unh_unbroken = ap (λ (k : ℕ). drop k d) unh_start

  pub unh_opening : opening_of y d ≡ 0
  unfolding opening_of opens
  unh_opening = rw (unh_start, unh_una d u)

module _ (y : Syntax) (d : List ℕ) (h : length d ≤ limit) (v : valid y ≡ true) (u : begins UNH d ≡ true) where
  pub unh_admitted : admission_of y d ≡ 0
  unfolding admission_of
  unh_admitted = ap (admits y (length d)) (unh_unbroken y d u) ∙ admitted-by y (length d) d h v (λ w. absurd (true≢false (sym w ∙ unh_una d u)))

module _ (y : Syntax) (front tail : List ℕ) (t : Tail y front tail) where
  abbrev start : ℕ
  start = past_at y front 0

  start_fits : start ≤ length front
  start_fits = (pasts y front 0).fits (omega arith)

  -- behind the line breaks at the start: the front's rest, and then the tail
  unbroken-append : unbroken y (front ++ tail) ≡ unbroken y front ++ tail
  unbroken-append =
      ap (λ (k : ℕ). drop k (front ++ tail)) (past-front y front tail t.begins_UNH) ∙ drop-append-le start front tail start_fits

  admits-append : admits y (length (front ++ tail)) (unbroken y front ++ tail) ≡ 0
  unfolding admission_of
  admits-append = ap (admits y (length (front ++ tail))) (sym unbroken-append) ∙ t.admitted

  -- the first segment begins at the same place, within the front
  pub opening-same : opening_of y (front ++ tail) ≡ opening_of y front
  unfolding opening_of
  opening-same =
      ap₂ ◌+◌ (past-front y front tail t.begins_UNH)
      (ap opens unbroken-append ∙ opens-same y _ (unbroken y front) tail admits-append t.begins_UNH)

  pub opening-fits : opening_of y front ≤ length front
  unfolding opening_of
  opening-fits =
      let f = opens-fits y _ (unbroken y front) tail admits-append t.begins_UNH in
      omega (arith, start_fits, length-drop start front)

  -- front and tail are admitted by themselves
  pub front_admitted : admission_of y front ≡ 0
  unfolding admission_of
  front_admitted =
      front-admits y _ (unbroken y front) tail admits-append t.begins_UNH (length front) (omega (arith, length-append front tail))

  pub tail-start : past_at y tail 0 ≡ 0
  tail-start = unh_start y tail t.begins_UNH

  tail-short : length tail ≤ limit
  unfolding admission_of
  tail-short = omega (arith, length-append front tail, admission_short y (front ++ tail) t.admitted)

  pub tail-admitted : admission_of y tail ≡ 0
  tail-admitted = unh_admitted y tail tail-short (admission_valid y (front ++ tail) t.admitted) t.begins_UNH

  pub tail-opening : opening_of y tail ≡ 0
  tail-opening = unh_opening y tail t.begins_UNH
