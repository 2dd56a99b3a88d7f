-- The words of elements and rows: the one that is looked up belongs to the element or the row that the page has.
use Prim.Native.Nat.{ℕ, ◌+◌, ◌/◌, ◌%◌, ◌≤◌, ◌<◌}
use mathlib.Core.Path.{◌≡◌, refl, sym, ◌∙◌}
use native.Mathlib.Numerals.{add-one}
use lib.ListN.{get_or}
use Rattle.guide.specs.Page.{unused, Composite, Page, beyond, element_of}
use Rattle.page.specs.workers.Columns.{all_elements, all_rows}
use Rattle.page.specs.workers.Words.{span, reach, codes_in, format_in, row_in, element_in, ElementWord, page_in}
use Rattle.page.proofs.words.Spans.{span-at, span-past}

-- 0 is the word of an element without rows
nothing : (k : Composite) → beyond ≡ k → ElementWord 0 k
unfolding element_in span reach
nothing k e = rw (← e) (record { element = refl; reach = refl })

pub element-tag : (page : Page) → ElementWord 0 (element_of page 0)
unfolding element_of
element-tag page = nothing beyond refl

module _ (w e : ℕ) where
  behind : element_of (page_in w) (e + 1) ≡ get_or (page_in w) e beyond
  unfolding element_of
  behind = rw (add-one e)

  pub element-past : w / 1024 % 32 ≤ e → ElementWord 0 (element_of (page_in w) (e + 1))
  unfolding page_in
  element-past l = nothing (element_of (page_in w) (e + 1)) (sym (behind ∙ span-past all_elements beyond (w % 1024) (w / 1024 % 32) e l))

  pub element-here : (v : ℕ) → e < w / 1024 % 32 → ElementWord v (get_or all_elements (w % 1024 + e) beyond) → ElementWord v (element_of (page_in w) (e + 1))
  unfolding page_in
  element-here v l p = rw (behind, span-at all_elements beyond (w % 1024) (w / 1024 % 32) e l) p

module _ (w c : ℕ) where
  pub row-past : w / 1024 % 32 ≤ c → row_in 0 ≡ get_or (element_in w).rows c unused
  unfolding element_in row_in format_in codes_in span
  row-past l = sym (span-past all_rows unused (w % 1024) (w / 1024 % 32) c l)

  pub row_here : (r : ℕ) → c < w / 1024 % 32 → row_in r ≡ get_or all_rows (w % 1024 + c) unused → row_in r ≡ get_or (element_in w).rows c unused
  unfolding element_in
  row_here r l p = p ∙ sym (span-at all_rows unused (w % 1024) (w / 1024 % 32) c l)
