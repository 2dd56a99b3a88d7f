-- The quick pass behind the tag, and the bytes that it has passed.
use Prim.Native.Nat.{ℕ, zero, suc, ◌+◌, ◌-◌, ◌/◌, ◌%◌, ◌≤◌, ◌<◌}
use mathlib.Core.Path.{◌≡◌, refl, sym, ap, subst, ◌∙◌}
use mathlib.Core.Bool.{Bool, true, false, ◌&&◌, ◌||◌, true≢false, false≢true}
use mathlib.Core.List.{List, [], ◌∷◌, ◌++◌}
use native.Mathlib.Nat.{le_refl, add-zero}
use native.Mathlib.Omega.{arith}
use lib.ListN.{length, get_or, drop}
use lib.Dec.{eqb, leb, ltb}
use borrow.Author.Tests.{eq-eqb, ne_eqb, le-leb, leb-true, leb-false, ltb-true, ltb-false, eqb-true}
use Rattle.bytewise.specs.Bytes.{part}
use Rattle.cut.specs.workers.Carrying.{Carries}
use Rattle.cut.specs.declared.service.Syntax.{Syntax}
use Rattle.cut.proofs.Carrying.{carries_run}
use Rattle.bytewise.proofs.Parts.{part_none, part-next, part-parts}
use Rattle.clean.specs.Clean.{between, allowed_byte, allowed_bytes, capital, ends_tag, tagged_bytes}
use Rattle.element.specs.Elements.{ending_of, stays}
use Rattle.plain.specs.Plain.{decoded}
use Rattle.element.specs.Services.{is_service, Service, usual_services}
use Rattle.element.proofs.ComponentFace.{Ended, extent_ended, extent-stop, at-element}
use Rattle.page.proofs.quick.FourBytes.{tag-short, tag_four}
use Rattle.element.proofs.UsualServices.{usual_are}
use Rattle.guide.specs.Page.{Page}
use Rattle.page.specs.workers.Cells.{Spot, spot}
use Rattle.page.specs.workers.Walk.{tag, stand_of}
use Rattle.element.specs.Elements.{ending_at}
use Rattle.element.specs.declared.endings.Ending.TheVariants as ends
use Rattle.page.specs.workers.Words.{row_in, NodeWord}
use Rattle.page.specs.workers.Quick.{Begun}
use Rattle.page.specs.declared.places.Places.{Places}
use Rattle.page.proofs.CellTests.{word_at, word_of, opening_of}
use Rattle.page.proofs.cells.Rows.{word-here, opening-is}
use Rattle.page.proofs.rows.Lookup.{row-past}
use Rattle.page.proofs.pages.Moods.{ending_tag, tag_calm, tag-kept}
use Rattle.page.proofs.places.Sought.{gather_begins, gather_enter, places_other}
use Rattle.page.proofs.pages.Steps.{Before, Behind, pass_begins, pass_on, pass_enter}
use Rattle.page.proofs.quick.Onward.{full_fault, Stood}

pub two : (a b : Bool) → a && b ≡ true → (a ≡ true) × (b ≡ true)
two true b h = (refl, h)
two false b h = absurd (false≢true h)

pub within : (a b x : ℕ) → between a b x ≡ true → (a ≤ x) × (x ≤ b)
unfolding between
within a b x h =
    let p = two (leb a x) (leb x b) h in
    (leb-true a x p.0, leb-true x b p.1)

-- ---- bytes that are allowed

pub plain-allowed : (x : ℕ) → 32 ≤ x → x ≤ 126 → allowed_byte x ≡ true
unfolding allowed_byte between
plain-allowed x h k = rw (le-leb 32 x h, le-leb x 126 k)

allowed-both : (a b : List ℕ) → allowed_bytes a ≡ true → allowed_bytes b ≡ true → allowed_bytes (a ++ b) ≡ true
unfolding allowed_bytes
allowed-both [] b h k = k
allowed-both (x ∷ xs) b h k =
    let p = two (allowed_byte x) (allowed_bytes xs) h in
    rw p.0 (allowed-both xs b p.1 k)

allowed-nothing : (d : List ℕ) (i : ℕ) → allowed_bytes (part i i d) ≡ true
unfolding allowed_bytes
allowed-nothing d i = rw (part_none d i i (le_refl i))

module _ (d : List ℕ) where
  -- of two parts that meet, and of a part and the byte behind it
  pub allowed-parts : (a m e : ℕ) → a ≤ m → m ≤ e → allowed_bytes (part a m d) ≡ true → allowed_bytes (part m e d) ≡ true → allowed_bytes (part a e d) ≡ true
  allowed-parts a m e h k p q = subst (λ (l : List ℕ). allowed_bytes l ≡ true) (part-parts d a m e h k) (allowed-both (part a m d) (part m e d) p q)

  allowed-one : (m : ℕ) → m < length d → allowed_byte (get_or d m 0) ≡ true → allowed_bytes (part m (m + 1) d) ≡ true
  unfolding allowed_bytes
  allowed-one m l q = rw (part-next d m (m + 1) (omega arith) (omega arith), part_none d (m + 1) (m + 1) (le_refl (m + 1)), q)

  pub allowed_more
      : (a m e : ℕ) → a ≤ m → m < length d → e ≡ m + 1 → allowed_bytes (part a m d) ≡ true → allowed_byte (get_or d m 0) ≡ true → allowed_bytes (part a e d)
      ≡ true
  allowed_more a m e h l g p q = rw g (allowed-parts a m (m + 1) h (omega arith) p (allowed-one m l q))

-- ---- the service characters

module _ (y : Syntax) (s : usual_services y ≡ true) where
  pub plain_terminator : (32 ≤ y.terminator) × (y.terminator ≤ 64)
  plain_terminator = rw (usual_are y s).0 (omega arith, omega arith)

  pub plain-element : (32 ≤ y.element) × (y.element ≤ 64)
  plain-element = rw (usual_are y s).1 (omega arith, omega arith)

  pub plain-component : (32 ≤ y.component) × (y.component ≤ 64)
  plain-component = rw (usual_are y s).2 (omega arith, omega arith)

  pub plain_release : (32 ≤ y.release) × (y.release ≤ 64)
  plain_release = rw (usual_are y s).3 (omega arith, omega arith)

  pub letter_plain : (x : ℕ) → 65 ≤ x → is_service y x ≡ false
  unfolding is_service ending_of stays
  letter_plain x h =
      let t = plain_terminator.1 in
      let e = plain-element.1 in
      let c = plain-component.1 in
      let r = plain_release.1 in
      rw (
        ne_eqb x y.terminator (λ z. omega (arith, z)),
        ne_eqb x y.element (λ z. omega (arith, z)),
        ne_eqb x y.component (λ z. omega (arith, z)),
        ne_eqb x y.release (λ z. omega (arith, z)),
      )

-- ---- the tag

-- a tag takes four bytes
tag-room : (y : Syntax) (d : List ℕ) (start : ℕ) → tagged_bytes y (part start (length d) d) ≡ true → start + 3 < length d
tag-room y d start t = go (leb (length d) (start + 3)) refl
  where
    go : (b : Bool) → leb (length d) (start + 3) ≡ b → start + 3 < length d
    go true e = absurd (true≢false (sym t ∙ tag-short y d start (length d) (length d) (omega arith) (leb-true (length d) (start + 3) e)))
    go false e = leb-false (length d) (start + 3) e

module _ (y : Syntax) (d : List ℕ) (start : ℕ) (b : Begun y d start) where
  abbrev byte : ℕ → ℕ
  byte i = get_or d i 0

  abbrev is_tag : Bool
  is_tag = capital (byte start) && (capital (byte (start + 1)) && (capital (byte (start + 2)) && ends_tag y (byte (start + 3))))

  pub begun-room : start + 3 < length d
  begun-room = tag-room y d start b.tagged

  tag-yes : is_tag ≡ true
  tag-yes = tag_four y d start (length d) (length d) (omega arith) is_tag begun-room refl ∙ b.tagged

  pub begun-tagged : (e : ℕ) → start + 4 ≤ e → e ≤ length d → tagged_bytes y (part start e d) ≡ true
  begun-tagged e h k = sym (tag_four y d start e e (omega arith) is_tag (omega arith) refl) ∙ tag-yes

  tag-rest : capital (byte (start + 1)) && (capital (byte (start + 2)) && ends_tag y (byte (start + 3))) ≡ true
  tag-rest = (two (capital (byte start)) _ tag-yes).1

  tag_end : capital (byte (start + 2)) && ends_tag y (byte (start + 3)) ≡ true
  tag_end = (two (capital (byte (start + 1))) _ tag-rest).1

  letters : (i : ℕ) → i < 3 → capital (byte (start + i)) ≡ true
  letters zero l = rw (add-zero start) (two (capital (byte start)) _ tag-yes).0
  letters (suc zero) l = (two (capital (byte (start + 1))) _ tag-rest).0
  letters (suc (suc zero)) l = (two (capital (byte (start + 2))) (ends_tag y (byte (start + 3))) tag_end).0
  letters (suc (suc (suc i))) l = absurd (omega arith)

  letter : (k : ℕ) → start ≤ k → k < start + 3 → (65 ≤ byte k) × (byte k ≤ 90)
  unfolding capital
  letter k h l =
      let z : start + (k - start) ≡ k = omega arith in
      within 65 90 (byte k) (rw z at (letters (k - start) (omega arith)))

  separator : byte (start + 3) ≡ y.element
  unfolding ends_tag
  separator = go (eqb (byte (start + 3)) y.element) refl (two (capital (byte (start + 2))) (ends_tag y (byte (start + 3))) tag_end).1
    where
      go : (v : Bool) → eqb (byte (start + 3)) y.element ≡ v → v || eqb (byte (start + 3)) y.terminator ≡ true → byte (start + 3) ≡ y.element
      go true e h = eqb-true (byte (start + 3)) y.element e
      go false e h = absurd (b.inner (eqb-true (byte (start + 3)) y.terminator h))

  -- it is the first component
  separates : is_service y (byte (start + 3)) ≡ true
  unfolding is_service ending_of stays
  separates = rw (ne_eqb (byte (start + 3)) y.terminator b.inner, eq-eqb (byte (start + 3)) y.element separator)

  tag-service : Service y d start (length d) (start + 3)
  tag-service = record {
    passed = record { onward = omega arith; none = λ k h l. letter_plain y b.services (byte k) (letter k h l).0 };
    here = λ h. separates;
  }

  tag_ended : Ended y d start (length d) (start + 3)
  tag_ended =
      extent_ended y d start (length d) (record { end = start + 3; length = start + 3 - start })
      (extent-stop y d start (length d) (length d) (omega arith) (start + 3) tag-service begun-room b.literal) (omega (arith, begun-room))
      (le_refl (length d))

  -- the segment goes on behind it
  not-mark : (m : ℕ) → m ≤ 64 → (byte (start + 3) ≡ m → ⊥) → (k : ℕ) → start ≤ k → k < start + 4 → byte k ≡ m → ⊥
  not-mark m f n k h l z = go (ltb k (start + 3)) refl
    where
      go : (v : Bool) → ltb k (start + 3) ≡ v → ⊥
      go true e =
          let g = (letter k h (ltb-true k (start + 3) e)).0 in
          omega (arith, z)
      go false e =
          let g = ltb-false k (start + 3) e in
          let w : start + 3 ≡ k = omega arith in
          n (rw w z)

  pub begun_carries : Carries y d start (start + 4)
  begun_carries =
      carries_run y d start (start + 4) (omega arith) (omega (arith, begun-room)) (not-mark y.terminator (plain_terminator y b.services).1 b.inner)
      (not-mark y.release (plain_release y b.services).1 b.literal)

  pub begun-allowed : allowed_bytes (part start (start + 4) d) ≡ true
  begun-allowed =
      let r = begun-room in
      let s = separator in
      let pe = plain-element y b.services in
      let l0 = letter start (omega arith) (omega arith) in
      let l1 = letter (start + 1) (omega arith) (omega arith) in
      let l2 = letter (start + 2) (omega arith) (omega arith) in
      let a1 = allowed_more d start start (start + 1) (omega arith) (omega arith) refl (allowed-nothing d start)
      (plain-allowed (byte start) (omega arith) (omega arith)) in
      let a2 = allowed_more d start (start + 1) (start + 2) (omega arith) (omega arith) (omega arith) a1
      (plain-allowed (byte (start + 1)) (omega arith) (omega arith)) in
      let a3 = allowed_more d start (start + 2) (start + 3) (omega arith) (omega arith) (omega arith) a2
      (plain-allowed (byte (start + 2)) (omega arith) (omega arith)) in
      allowed_more d start (start + 3) (start + 4) (omega arith) (omega arith) (omega arith) a3 (plain-allowed (byte (start + 3)) (omega arith) (omega arith))

  -- the pass behind it
  module _ (page : Page) (w : ℕ) (n : NodeWord w page) (l : 0 < w / 1024 % 32) (p : Places)
      (g : p ≡ record { first = record { start = start; end = start }; third = record { start = start; end = start } }) (a : ℕ) (o : a ≡ start + 4) where
    abbrev full : ℕ
    full = full_fault y page d start

    tag-before : Before y page d (length d) full start 0 0 0 tag
    tag-before = pass_begins y page d (length d) start (omega (arith, begun-room)) (le_refl (length d)) start refl

    tag-behind : Behind y page d (length d) full start 0 0 tag
    tag-behind =
        pass_on y page d (length d) full start 0 0 0 tag tag-before (start + 3) tag_ended 0 (row-past 0 0 (omega arith)) 0
        (tag_calm y (row_in 0) (decoded y start (start + 3) d)) (omega arith)
        (length (decoded y start (start + 3) d)) tag refl
        (λ t e. tag-kept (row_in 0) t)

    tag-stop : ends.Element ≡ ending_at y d (start + 3) (length d)
    tag-stop = sym (at-element y d (start + 3) (length d) begun-room (le_refl (length d)) b.inner separator)

    behind_tag : a ≡ start + 3 + 1
    behind_tag = omega (arith, o)

    pub stood_begins : Stood y page d start p a (spot w 0 0 (opening_of (word_at w 0)))
    unfolding word_of
    stood_begins = record {
      node = n;
      before =
          pass_enter y page d (length d) full start 0 0 0 tag tag-before (start + 3) tag_ended tag tag-behind (le_refl
          (length d)) ends.Element tag-stop a behind_tag (λ i. cc) 0
          (λ k e. ending_tag (drop 1 k.rows)) (omega arith) refl (word_at w 0) (stand_of (opening_of (word_at w 0)))
          (word-here w 0 page n l) (opening-is (word_at w 0));
      gathered =
          gather_enter y d start (length d) p start 0 0 (gather_begins y d start (length d) (omega (arith, begun-room)) (le_refl (length d)) p g start refl)
          (start + 3) tag_ended (le_refl (length d)) ends.Element tag-stop
          p (places_other 0 0 (record { start = start; end = start + 3 }) p refl (λ z. omega (arith, z)) (λ z. omega (arith, z))) a behind_tag refl;
    }

-- the spot before the first component behind the tag
pub first-spot : (q : Spot) → q.element ≡ 0 → q.component ≡ 0 → q.mood ≡ opening_of (word_of q) → spot q.page 0 0 (opening_of (word_at q.page 0)) ≡ q
unfolding word_of
first-spot q e c m =
    let k : opening_of (word_at q.page 0) ≡ q.mood = sym (m ∙ ap (λ (i : ℕ). opening_of (word_at q.page i)) e) in
    λ i. record { page = q.page; element = sym e i; component = sym c i; mood = k i }
