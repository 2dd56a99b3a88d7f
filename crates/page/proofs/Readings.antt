-- What a reading says of its segment: by its number, which tells the faults of the bytes from those of the page; and without a fault.
use Prim.Native.Nat.{ℕ, zero, suc, ◌≤◌, ◌<◌}
use mathlib.Core.Path.{◌≡◌, refl, sym, ap, ◌∙◌}
use mathlib.Core.Bool.{Bool, true, false, not, ◌||◌}
use mathlib.Core.List.{List, [], ◌∷◌}
use native.Mathlib.Omega.{arith}
use lib.ListN.{drop}
use Rattle.std.specs.Prelude.{Option, Some, None, Ok}
use Rattle.bytewise.specs.Bytes.{part}
use Rattle.cut.specs.Calls.{cut_at, some_cut}
use Rattle.cut.specs.Segments.{Segment as Piece}
use Rattle.cut.specs.declared.scan.Cut.{Cut}
use Rattle.cut.specs.declared.service.Syntax.{Syntax}
use Rattle.clean.specs.Clean.{allowed_bytes, tagged_bytes}
use Rattle.element.specs.Components.{component_at}
use Rattle.element.specs.Elements.{elements}
use Rattle.plain.specs.Plain.{plain}
use Rattle.guide.specs.Choices.{pickℕ, or_else}
use Rattle.guide.specs.Editions.{pages_of}
use Rattle.guide.specs.workers.Judging.{bytes_fault}
use Rattle.guide.specs.Page.{Row, unused, Composite, Page, beyond}
use Rattle.guide.specs.workers.PageFault.{
  first_of,
  not_used,
  missing,
  wrong_format,
  wrong_code,
  text_fault,
  component_fault,
  any_filled,
  element_fault,
  page_fault,
}
use Rattle.guide.specs.declared.edition.Edition.{Edition}
use Rattle.page.specs.Examined.{examined_by}
use Rattle.page.specs.Reading.{segment_in, read_to, read_fault, reading_by, reading_of}
use Rattle.page.specs.declared.reads.Reading.{Reading}

-- the numbers of the page are behind those of the bytes
abbrev pub Late : ℕ → Type 0
Late k = (k ≡ 0 → ⊥) → 13 ≤ k

late_else : (a b : ℕ) → Late a → Late b → Late (or_else a b)
late_else zero b h k = k
late_else (suc a) b h k = h

module _ {A B : Type 0} (f : A → B → ℕ) (a : A) (b : B) (h : (x : A) (z : B) → Late (f x z)) where
  late_first : (rs : List A) (ts : List B) → Late (first_of f a b rs ts)
  unfolding first_of
  late_first [] [] = λ n. absurd (n refl)
  late_first [] (t ∷ ts) = late_else (f a t) _ (h a t) (late_first [] ts)
  late_first (r ∷ rs) [] = late_else (f r b) _ (h r b) (late_first rs [])
  late_first (r ∷ rs) (t ∷ ts) = late_else (f r t) _ (h r t) (late_first rs ts)

late_text : (u m f c : Bool) → Late (pickℕ u 18 (pickℕ m 17 (pickℕ f 19 (pickℕ c 20 0))))
late_text true m f c = λ n. omega arith
late_text false true f c = λ n. omega arith
late_text false false true c = λ n. omega arith
late_text false false false true = λ n. omega arith
late_text false false false false = λ n. absurd (n refl)

late_component : (y : Syntax) (asked : Bool) (r : Row) (bs : List ℕ) → Late (component_fault y asked r bs)
unfolding component_fault text_fault
late_component y asked r bs =
    late_text (not_used r (plain y false bs)) (missing asked r (plain y false bs)) (wrong_format y r (plain y false bs)) (wrong_code r (plain y false bs))

late_element : (y : Syntax) (k : Composite) (bs : List (List ℕ)) → Late (element_fault y k bs)
unfolding element_fault
late_element y k bs = late_first (component_fault y (k.required || any_filled y bs)) unused [] (late_component y (k.required || any_filled y bs)) k.rows bs

pub page_late : (y : Syntax) (page : Page) (s : List ℕ) → Late (page_fault y page s)
unfolding page_fault
page_late y page s = late_first (element_fault y) beyond [] (late_element y) page (drop 1 (elements y s))

few_picked : (p a t : Bool) → pickℕ p 12 (pickℕ a 10 (pickℕ t 11 0)) < 13
few_picked true a t = omega arith
few_picked false true t = omega arith
few_picked false false true = omega arith
few_picked false false false = omega arith

pub bytes_early : (y : Syntax) (s : Piece) → bytes_fault y s < 13
unfolding bytes_fault
bytes_early y s = few_picked s.piece (not (allowed_bytes s.bytes)) (not (tagged_bytes y s.bytes))

module _ (y : Syntax) (ed : Edition) (node : ℕ) (d : List ℕ) (start : ℕ) (x : Reading) where
  abbrev cuts : Option Cut
  cuts = cut_at y d start

  -- a segment without a fault
  pub record Sound : Type 0 where
    pub place : ℕ
    pub piece : Bool
    pub cut : cuts ≡ some_cut place x.end piece
    pub bytes : bytes_fault y (segment_in start x.end piece d) ≡ 0
    pub page : page_fault y (pages_of ed node) (part start x.end d) ≡ 0
    pub first : x.first ≡ component_at y d start x.end 1 0
    pub third : x.third ≡ component_at y d start x.end 3 0

  pub sound : Ok x ≡ reading_of y ed node d start → Sound
  unfolding reading_of reading_by read_fault examined_by
  sound reads = go cuts refl reads
    where
      by_faults
          : (k : Cut) (b f : ℕ) → cuts ≡ Some k → bytes_fault y (segment_in start k.end k.piece d) ≡ b
          → page_fault y (pages_of ed node) (part start k.end d) ≡ f
          → Ok x ≡ read_to k.end (examined_by (or_else b f) (component_at y d start k.end 1 0) (component_at y d start k.end 3 0)) → Sound
      by_faults k zero zero c g h r =
          let e : ◌≡◌ {A = Reading} x (record {
            first = component_at y d start k.end 1 0;
            third = component_at y d start k.end 3 0;
            end = k.end;
          }) = cc in
          let n : k.end ≡ x.end = sym (ap (λ (z : Reading). z.end) e) in
          record {
            place = k.start;
            piece = k.piece;
            cut = c ∙ ap (λ (m : ℕ). some_cut k.start m k.piece) n;
            bytes = rw n at g;
            page = rw n at h;
            first = ap (λ (z : Reading). z.first) e ∙ ap (λ (m : ℕ). component_at y d start m 1 0) n;
            third = ap (λ (z : Reading). z.third) e ∙ ap (λ (m : ℕ). component_at y d start m 3 0) n;
          }
      by_faults k zero (suc f) c g h r = absurd cc
      by_faults k (suc b) f c g h r = absurd cc

      go : (c : Option Cut) → cuts ≡ c → Ok x ≡ reading_by y ed node d start c → Sound
      go None h r = absurd cc
      go (Some k) h r = by_faults k _ _ h refl refl r
