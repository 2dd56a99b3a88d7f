-- What a refusal 18, 17, 19 or 20 says of its segment: which component has that fault, and that nothing left of it has any.
use Rattle.std.specs.Prelude.{ℕ, ◌≤◌, ◌<◌, cond, ◌≡◌, List, eqb}
use Rattle.cut.specs.declared.service.Syntax.{Syntax}
use Rattle.guide.specs.Page.{Page}
use Rattle.guide.specs.Content.{NotUsed, Missing, WrongFormat, WrongCode, Sound}

-- component c of element e stands left of component c' of element e'
pub data Left (e c e' c' : ℕ) : Type 0 where
  in_earlier : e < e' → Left e c e' c'
  in_same : e ≡ e' → c < c' → Left e c e' c'

-- the turn of a number, "18, 17, 19, 20 at each"
abbrev pub turn : ℕ → ℕ
turn n = cond (eqb n 18) 1 (cond (eqb n 17) 2 (cond (eqb n 19) 3 4))

module _ (y : Syntax) (page : Page) (s : List ℕ) where
  -- component c of element e has the fault with the number n
  pub data Fault (n e c : ℕ) : Type 0 where
    not-used : n ≡ 18 → NotUsed y page s e c → Fault n e c
    missing : n ≡ 17 → Missing y page s e c → Fault n e c
    wrong-format : n ≡ 19 → WrongFormat y page s e c → Fault n e c
    wrong-code : n ≡ 20 → WrongCode y page s e c → Fault n e c

  -- "components left to right (18, 17, 19, 20 at each)": the first fault of the segment has the number n
  pub record First (n : ℕ) : Type 0 where
    pub element : ℕ
    pub component : ℕ
    pub behind_tag : 1 ≤ element
    pub here : Fault n element component
    pub left : (e c : ℕ) → 1 ≤ e → Left e c element component → Sound y page s e c
    pub sooner : (m : ℕ) → turn m < turn n → Fault m element component → ⊥
