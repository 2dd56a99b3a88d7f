-- What the page check says of a segment, by its fault.
use Prim.Native.Nat.{ℕ, zero, suc, ◌≤◌, ◌<◌, min}
use mathlib.Core.Path.{◌≡◌, refl, sym, ap, ◌∙◌}
use mathlib.Core.List.{List, []}
use native.Mathlib.Omega.{arith}
use lib.ListN.{length, drop}
use Rattle.bytewise.specs.Bytes.{part}
use Rattle.cut.specs.declared.service.Syntax.{Syntax}
use Rattle.bytewise.proofs.Parts.{part_none}
use Rattle.element.specs.Elements.{elements}
use Rattle.element.specs.Components.{in_elements, components, span_in, component_at}
use Rattle.bytewise.proofs.Limits.{limited}
use Rattle.guide.specs.Page.{Page}
use Rattle.guide.specs.workers.PageFault.{page_fault}
use Rattle.guide.specs.workers.Moods.{absent_fault}
use Rattle.guide.proofs.PageFace.{empty_pass}
use Rattle.std.specs.Prelude.{Result, Ok, Err}
use Rattle.page.specs.Examined.{examined_by, examined_of}
use Rattle.page.specs.workers.Words.{page_in, NodeWord}
use Rattle.page.specs.Reading.{empty_at}
use Rattle.page.specs.declared.places.Places.{Places}

-- that is what the page check says
module _ (y : Syntax) (page : Page) (d : List ℕ) (start end f : ℕ) (g : f ≡ page_fault y page (part start end d)) where
  pub result_told : 0 < f → Err f ≡ examined_of y page d start end
  unfolding examined_of examined_by
  result_told h = rw (← g) (go f h)
    where
      go : (k : ℕ) → 0 < k → Err k ≡ examined_by k (component_at y d start end 1 0) (component_at y d start end 3 0)
      go zero h = absurd (omega arith)
      go (suc k) h = refl

  pub result_done
      : f ≡ 0 → (p : Places) → (p.first ≡ component_at y d start end 1 0) × (p.third ≡ component_at y d start end 3 0) → Ok p ≡ examined_of y page d start end
  unfolding examined_of examined_by
  result_done h p q = rw (← g, h, ← q.0, ← q.1)

-- the page of a node has the node's word, and an end past the delivery counts as the delivery's end
module _ (w : ℕ) (page : Page) (n : NodeWord w page) where
  pub own-word : NodeWord w (page_in w)
  own-word = record { page = refl; reach = rw n.page n.reach }

  module _ (y : Syntax) (d : List ℕ) (start end limit : ℕ) (h : limit ≡ min end (length d)) where
    -- a segment without a byte
    module _ (l : limit ≤ start) where
      bare : part start end d ≡ []
      bare = sym (limited d start end limit h) ∙ part_none d start limit l

      nothing-at : (t : ℕ) → record { start = start; end = start } ≡ component_at y d start end t 0
      unfolding component_at components elements in_elements span_in
      nothing-at t = rw bare

      module _ (f : ℕ) (a : f ≡ absent_fault (drop 0 (page_in w))) where
        bare_fault : f ≡ page_fault y page (part start end d)
        bare_fault = a ∙ rw n.page (empty_pass y page (part start end d) bare)

        pub examined_absent : 0 < f → Err f ≡ examined_of y page d start end
        examined_absent = result_told y page d start end f bare_fault

        pub examined_none : f ≡ 0 → (p : Places) → p ≡ record { first = empty_at start; third = empty_at start } → Ok p ≡ examined_of y page d start end
        examined_none z p q =
            result_done y page d start end f bare_fault z p (ap (λ (s : Places). s.first) q ∙ nothing-at 1, ap (λ (s : Places). s.third) q ∙ nothing-at 3)

    pub examined_some : (r : Result Places ℕ) → r ≡ examined_of y (page_in w) d start limit → r ≡ examined_of y page d start end
    unfolding examined_of component_at
    examined_some r p = p ∙ rw (n.page, limited d start end limit h)
