-- The first faulty element of a segment and the first faulty component in it are its leftmost fault.
use Prim.Native.Nat.{ℕ, zero, suc, ◌≤◌, ◌<◌}
use mathlib.Core.Path.{◌≡◌, refl, sym, ap, ◌∙◌}
use mathlib.Core.List.{List}
use native.Mathlib.Omega.{arith}
use Rattle.cut.specs.declared.service.Syntax.{Syntax}
use Rattle.guide.specs.Page.{Page}
use Rattle.guide.specs.Content.{Sound}
use Rattle.guide.specs.FirstFault.{Left, in_earlier, in_same, turn, Fault, First}
use Rattle.guide.specs.workers.PageFault.{page_fault}
use Rattle.guide.proofs.pages.Scanned.{FirstAt, scan_first, first_scan}
use Rattle.guide.proofs.pages.Faults.{found, found-fault, fault-found, found-sound, sound-found}
use Rattle.guide.proofs.pages.Scan.{found_in, element_scan, page_scan, element-sound, sound-element}

module _ (y : Syntax) (page : Page) (s : List ℕ) where
  -- a component has one fault at most
  pub one-fault : (m n e c : ℕ) → Fault y page s m e c → Fault y page s n e c → m ≡ n
  one-fault m n e c f g = sym (fault-found y page s e c m f) ∙ fault-found y page s e c n g

  module _ (n : ℕ) where
    -- the first faulty element, and in it the first faulty component
    first_of
        : (f : FirstAt (λ i. found_in y page s (suc i)) (suc n)) → FirstAt (λ c. found y page s (suc f.index) c) (suc n)
        → First y page s (suc n)
    first_of f g =
        record {
          element = suc f.index;
          component = g.index;
          behind_tag = omega arith;
          here = fault;
          left = left;
          sooner = sooner;
        }
      where
        fault : Fault y page s (suc n) (suc f.index) g.index
        fault = found-fault y page s (suc f.index) g.index n g.here

        left : (e c : ℕ) → 1 ≤ e → Left e c (suc f.index) g.index → Sound y page s e c
        left zero c l w = absurd (omega arith)
        left (suc i) c l (in_earlier q) = element-sound y page s (suc i) (f.before i (omega arith)) c
        left (suc i) c l (in_same q r) = found-sound y page s (suc i) c (ap (λ (e : ℕ). found y page s e c) q ∙ g.before c r)

        sooner : (m : ℕ) → turn m < turn (suc n) → Fault y page s m (suc f.index) g.index → ⊥
        sooner m t w =
            let z = ap turn (one-fault m (suc n) (suc f.index) g.index w fault) in
            omega arith

    pub fault-first : page_fault y page s ≡ suc n → First y page s (suc n)
    fault-first h =
        let f = scan_first n (page_scan y page s) h in
        first_of f (scan_first n (element_scan y page s (suc f.index)) f.here)

    pub first-fault : First y page s (suc n) → page_fault y page s ≡ suc n
    first-fault w = go w.element refl
      where
        go : (e : ℕ) → w.element ≡ e → page_fault y page s ≡ suc n
        go zero q = absurd (omega (arith, w.behind_tag))
        go (suc i) q =
            let inside : FirstAt (λ c. found y page s (suc i) c) (suc n) = record {
              index = w.component;
              here = fault-found y page s (suc i) w.component (suc n) (rw q at w.here);
              before = λ c l. sound-found y page s (suc i) c (w.left (suc i) c (omega arith) (in_same (sym q) l));
            } in
            first_scan n (page_scan y page s)
            record {
              index = i;
              here = first_scan n (element_scan y page s (suc i)) inside;
              before = λ j l. sound-element y page s (suc j) (λ c. w.left (suc j) c (omega arith) (in_earlier (omega arith)));
            }
