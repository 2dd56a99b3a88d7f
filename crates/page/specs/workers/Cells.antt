-- The states of the quick pass, and how a state's word is read. No public promise cites these.
use Rattle.std.specs.Prelude.{ℕ, zero, suc, ◌/◌, ◌%◌, ◌<◌, ◌≡◌, Bool, true, cond, ◌&&◌, List, [], ◌∷◌, get_or, eqb}
use Rattle.cut.specs.Base.{edifact}
use Rattle.bytewise.specs.Eights.{number, byte_of}
use Rattle.cut.specs.declared.service.Syntax.{Syntax}
use Rattle.clean.specs.Clean.{capital}
use Rattle.element.specs.declared.components.Span.{Span}
use Rattle.guide.specs.Page.{Page}
use Rattle.page.specs.workers.Words.{NodeWord}
use Rattle.page.specs.declared.places.Places.{Places}

-- where a state is: before a component of an element of the page that has a word, both counted from 0 and element 0 behind the tag; 0 idle, 1 asking
pub record Spot : Type 0 where
  pub page : ℕ
  pub element : ℕ
  pub component : ℕ
  pub mood : ℕ

abbrev pub spot : ℕ → ℕ → ℕ → ℕ → Spot
spot p e c m = record { page = p; element = e; component = c; mood = m }

abbrev pub spot_table : List Spot
spot_table =
    spot 0 0 0 0 ∷ spot 33799 0 0 1 ∷ spot 33799 0 1 1 ∷ spot 33799 0 2 1 ∷ spot 33800 0 0 1 ∷ spot 33800 0 1 1 ∷ spot 33800 0 2 1 ∷
    spot 33801 0 0 1 ∷ spot 33801 0 1 1 ∷ spot 33801 0 2 1 ∷ spot 33802 0 0 1 ∷ spot 33802 0 1 1 ∷ spot 33803 0 0 1 ∷ spot 33803 0 1 1 ∷
    spot 33804 0 0 1 ∷ spot 33804 0 1 1 ∷ spot 33813 0 0 1 ∷ spot 33813 0 1 1 ∷ spot 33814 0 0 1 ∷ spot 33814 0 1 1 ∷ spot 33814 0 2 1 ∷
    spot 33815 0 0 1 ∷ spot 33824 0 0 1 ∷ spot 33824 0 1 1 ∷ spot 33824 0 2 1 ∷ spot 33824 0 3 1 ∷ spot 33824 0 4 1 ∷ spot 33824 0 5 1 ∷
    spot 33827 0 0 1 ∷ spot 33827 0 1 1 ∷ spot 33827 0 2 1 ∷ spot 33828 0 0 1 ∷ spot 33832 0 0 1 ∷ spot 33832 0 1 1 ∷ spot 67584 0 0 1 ∷
    spot 67584 1 0 1 ∷ spot 67584 1 1 1 ∷ spot 67584 1 2 1 ∷ spot 67584 1 3 1 ∷ spot 67584 1 4 1 ∷ spot 67597 0 0 1 ∷ spot 67597 1 0 1 ∷
    spot 67597 1 1 1 ∷ spot 67597 1 2 1 ∷ spot 67599 0 0 1 ∷ spot 67599 1 0 1 ∷ spot 67599 1 1 1 ∷ spot 67599 1 2 1 ∷ spot 67601 0 0 1 ∷
    spot 67601 1 0 1 ∷ spot 67603 0 0 1 ∷ spot 67603 1 0 1 ∷ spot 67603 1 1 1 ∷ spot 67611 0 0 1 ∷ spot 67611 1 0 1 ∷ spot 67611 1 1 1 ∷
    spot 67617 0 0 1 ∷ spot 67617 1 0 1 ∷ spot 67617 1 1 1 ∷ spot 67617 1 2 1 ∷ spot 67625 0 0 1 ∷ spot 67625 1 0 1 ∷ spot 67625 1 1 1 ∷
    spot 67625 1 2 1 ∷ spot 67627 0 0 1 ∷ spot 67627 1 0 1 ∷ spot 67629 0 0 1 ∷ spot 67629 1 0 1 ∷ spot 67629 1 1 1 ∷ spot 67629 1 2 1 ∷
    spot 67629 1 3 1 ∷ spot 67629 1 4 1 ∷ spot 68637 0 0 1 ∷ spot 68637 1 0 1 ∷ spot 68637 2 0 0 ∷ spot 68637 2 1 1 ∷ spot 68637 2 2 1 ∷
    spot 68637 2 3 1 ∷ spot 68655 0 0 1 ∷ spot 68655 1 0 1 ∷ spot 68655 2 0 0 ∷ spot 68655 2 1 1 ∷ spot 68655 2 2 1 ∷ spot 68655 2 3 1 ∷
    spot 70658 0 0 1 ∷ spot 70658 1 0 1 ∷ spot 70658 2 0 0 ∷ spot 101400 0 0 1 ∷ spot 101400 1 0 0 ∷ spot 101400 2 0 1 ∷ spot 101400 2 1 1 ∷
    spot 101413 0 0 1 ∷ spot 101413 1 0 0 ∷ spot 101413 2 0 1 ∷ spot 101413 2 1 1 ∷ spot 70658 3 0 0 ∷ spot 70658 4 0 0 ∷ spot 68637 2 1 0 ∷
    spot 68637 2 2 0 ∷ spot 68637 2 3 0 ∷ spot 68655 2 1 0 ∷ spot 68655 2 2 0 ∷ spot 68655 2 3 0 ∷ []

unfoldable pub spot_of : ℕ → Spot
spot_of s = get_or spot_table s (spot 0 0 0 0)

-- the words of the states, 0 where there is none
abbrev pub cell_table : List ℕ
cell_table =
    0x0 ∷ 0xc4103400000002 ∷ 0x8c0000000000003 ∷ 0xc0103900000000 ∷ 0xc4103c00000005 ∷ 0x8c0000000000006 ∷ 0xc0104100000000 ∷
    0xc4104400000008 ∷ 0x8c0000000000009 ∷ 0xc0104900000000 ∷ 0xc4104c0000000b ∷ 0x1180000100000000 ∷ 0xc410500000000d ∷ 0x8c0000100000000 ∷
    0xc410540000000f ∷ 0x170305900000000 ∷ 0x8004000000000011 ∷ 0xc0508d00000000 ∷ 0xc410a000000013 ∷ 0xc010a400000014 ∷ 0xc010a900000000 ∷
    0xc410ad00000000 ∷ 0xc4111c00000017 ∷ 0x3e0000100000018 ∷ 0x200190000 ∷ 0x2001a0000 ∷ 0x2600003001b001b ∷ 0x200112300000000 ∷
    0xc421300000001d ∷ 0x8c000000000001e ∷ 0xc0113900000000 ∷ 0xc4113d00000000 ∷ 0xc4114400000021 ∷ 0x3e0000100000000 ∷ 0x384000000002300 ∷
    0x180100000000024 ∷ 0xc0100400000025 ∷ 0xc0100800000026 ∷ 0x80100c00000027 ∷ 0x180101100000000 ∷ 0xc4106400002900 ∷ 0x8c000000000002a ∷
    0x2b0000 ∷ 0xc0306900000000 ∷ 0xc4107400002d00 ∷ 0x8c000000000002e ∷ 0x2f0000 ∷ 0xc0307900000000 ∷ 0xc4108400003100 ∷
    0x8c0000100000000 ∷ 0xc4108800003300 ∷ 0x340000 ∷ 0x4000000100000000 ∷ 0xc410b800003600 ∷ 0x8c0000000000037 ∷ 0xc010bd00000000 ∷
    0xc4112400003900 ∷ 0x20021280000003a ∷ 0x4a000010000003b ∷ 0x4a0000300000000 ∷ 0xc4114800003d00 ∷ 0x200114c0000003e ∷
    0x4a000010000003f ∷ 0x4a0000300000000 ∷ 0x1a4000000004100 ∷ 0x380000100000000 ∷ 0x384000000004300 ∷ 0x180100000000044 ∷
    0xc0100400000045 ∷ 0xc0100800000046 ∷ 0x80100c00000047 ∷ 0x180115100000000 ∷ 0xc420c000004900 ∷ 0xc110c900004a00 ∷ 0x448410f0061004b ∷
    0x2004c0000 ∷ 0x2004d0000 ∷ 0x4000000300000000 ∷ 0xc420c000004f00 ∷ 0xc110c900005000 ∷ 0x448410e00640051 ∷ 0x520000 ∷ 0x530000 ∷
    0x4000000100000000 ∷ 0xc4701400005500 ∷ 0x1180000100005600 ∷ 0x800025f000000 ∷ 0x1a4000000005800 ∷ 0x59000000 ∷ 0x8c800000000005a ∷
    0xc020b100000000 ∷ 0x1a4000000005c00 ∷ 0x5d000000 ∷ 0x8c800000000005e ∷ 0xc0114100000000 ∷ 0x260000000 ∷ 0xc0103300000000 ∷ 0x200620000 ∷ 0x200630000
    ∷ 0x4000000300000000 ∷
    0x200650000 ∷ 0x200660000 ∷ 0x4000000300000000 ∷ []

unfoldable pub cell_of : ℕ → ℕ
cell_of s = get_or cell_table s 0

-- how many states there are
abbrev pub states : ℕ
states = 103

-- the state is before the first component behind the tag of the page; 0 is none
unfoldable pub FirstCell : ℕ → Page → Type 0
FirstCell s page = (s < states) × ((s ≡ 0 → ⊥) → NodeWord (spot_of s).page page × ((spot_of s).element ≡ 0) × ((spot_of s).component ≡ 0))

-- the first four bytes of a segment with a tag as one number, the first the lowest: the tag and the usual element separator; ZZZ, where there is no tag
unfoldable pub tag_word : List ℕ → ℕ
tag_word [] = 0x2b5a5a5a
tag_word (x ∷ xs) = number 4 (λ k. get_or (x ∷ xs) k edifact.element)

-- the number is that of three capital letters and the usual element separator
unfoldable pub is_tag_word : ℕ → Bool
is_tag_word w = capital (byte_of w 0) && (capital (byte_of w 1) && (capital (byte_of w 2) && eqb (byte_of w 3) edifact.element))

-- the first word of the page of a node with a tag: the first state, and above it the tag's number
pub record FirstWord (tag : List ℕ) (page : Page) (w : ℕ) : Type 0 where
  pub state : FirstCell (w % 0x1_0000_0000) page
  pub tagged : w / 0x1_0000_0000 ≡ tag_word tag
  pub lettered : is_tag_word (w / 0x1_0000_0000) ≡ true

-- the steps of a word behind a component of n bytes
abbrev pub steps_of : ℕ → ℕ → ℕ
steps_of w zero = w / 0x1_0000
steps_of w (suc n) = w

-- whether the segment may end there
abbrev pub may_end : ℕ → ℕ → Bool
may_end w zero = eqb (w / 0x2_0000_0000 % 2) 1
may_end w (suc n) = eqb (w / 0x1_0000_0000 % 2) 1

-- the state behind the byte x, by the steps t
unfoldable pub next_of : Syntax → ℕ → ℕ → ℕ
next_of y x t = cond (eqb x y.element) (t / 0x100 % 256) (cond (eqb x y.component) (t % 256) 0)

-- the row's word in a cell's
abbrev pub row_of_cell : ℕ → ℕ
row_of_cell w = w / 0x4_0000_0000

-- the places once a component at s is known that is kept as the first (1), the third (else), or not (0)
abbrev pub keep_of : ℕ → Span → Places → Places
keep_of zero s p = p
keep_of (suc zero) s p = record { first = s; third = p.third }
keep_of (suc (suc n)) s p = record { first = p.first; third = s }
