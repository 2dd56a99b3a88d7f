-- No byte is lost: the components joined again by their separators are the segment, up to its terminator.
use Prim.Native.Nat.{ℕ}
use mathlib.Core.Path.{◌≡◌, refl, ap, ◌∙◌}
use mathlib.Core.Bool.{Bool, true, false, cond}
use mathlib.Core.List.{List, [], ◌∷◌, ◌++◌, map}
use borrow.Author.Tests.{eqb-true}
use lib.Dec.{eqb}
use Rattle.cut.specs.declared.service.Syntax.{Syntax}
use Rattle.element.specs.Elements.{ending_of, releases, Split, listed, before, split_from, elements}
use Rattle.element.specs.declared.endings.Ending.{Ending}
use Rattle.element.specs.declared.endings.Ending.TheVariants as ends
use Rattle.std.specs.Prelude.{Option, Some, None}

-- lists of bytes, with the byte x between two
unfoldable pub join_by : ℕ → List (List ℕ) → List ℕ
join_by x [] = []
join_by x (b ∷ []) = b
join_by x (b ∷ c ∷ cs) = b ++ x ∷ join_by x (c ∷ cs)

-- elements and components, with their separators between them
unfoldable pub joined : Syntax → List (List (List ℕ)) → List ℕ
joined y es = join_by y.element (map (join_by y.component) es)

unfoldable pub keep : Option Ending → ℕ → List ℕ → List ℕ
keep (Some ends.Segment) x xs = []
keep (Some ends.Element) x xs = x ∷ xs
keep (Some ends.Component) x xs = x ∷ xs
keep None x xs = x ∷ xs

-- the bytes up to the first terminator that is not released
unfoldable pub until_end : Syntax → Bool → List ℕ → List ℕ
until_end y r [] = []
until_end y r (x ∷ xs) = keep (ending_of y r x) x (until_end y (releases y r x) xs)

-- a byte more in the first of the lists
join_more : (x z : ℕ) (b : List ℕ) (bs : List (List ℕ)) → join_by z ((x ∷ b) ∷ bs) ≡ x ∷ join_by z (b ∷ bs)
unfolding join_by
join_more x z b [] = refl
join_more x z b (c ∷ cs) = refl

-- the byte x as what it ends says: the element separator, the component separator, or itself
separator_of : Syntax → Option Ending → ℕ → ℕ
separator_of y (Some ends.Segment) x = x
separator_of y (Some ends.Element) x = y.element
separator_of y (Some ends.Component) x = y.component
separator_of y None x = x

separator_by
    : (y : Syntax) (x : ℕ) (a b c : Bool) → (b ≡ true → x ≡ y.element) → (c ≡ true → x ≡ y.component)
    → x ≡ separator_of y (cond a (Some ends.Segment) (cond b (Some ends.Element) (cond c (Some ends.Component) None))) x
unfolding separator_of
separator_by y x true b c e k = refl
separator_by y x false true c e k = e refl
separator_by y x false false true e k = k refl
separator_by y x false false false e k = refl

separator : (y : Syntax) (r : Bool) (x : ℕ) → x ≡ separator_of y (ending_of y r x) x
unfolding separator_of ending_of
separator y true x = refl
separator y false x =
    separator_by y x (eqb x y.terminator) (eqb x y.element) (eqb x y.component) (eqb-true x y.element) (eqb-true x y.component)

join-nothing : (y : Syntax) (x : ℕ) (s : Split) → joined y (listed (before None x s)) ≡ x ∷ joined y (listed s)
unfolding joined before
join-nothing y x s = rw (join_more x y.component s.bytes s.components) (join_more x y.element _ _)

join-before
    : (y : Syntax) (g : Option Ending) (x : ℕ) (s : Split) → x ≡ separator_of y g x
    → joined y (listed (before g x s)) ≡ keep g x (joined y (listed s))
unfolding joined join_by before keep separator_of
join-before y (Some ends.Segment) x s h = refl
join-before y (Some ends.Element) x s h = rw h
join-before y (Some ends.Component) x s h =
    rw h (join_more y.component y.element (join_by y.component (s.bytes ∷ s.components)) (map (join_by y.component) s.elements))
join-before y None x s h = join-nothing y x s

split-joined : (y : Syntax) (r : Bool) (xs : List ℕ) → joined y (listed (split_from y r xs)) ≡ until_end y r xs
unfolding split_from until_end joined join_by
split-joined y r [] = refl
split-joined y r (x ∷ xs) =
    join-before y (ending_of y r x) x (split_from y (releases y r x) xs) (separator y r x)
    ∙ ap (keep (ending_of y r x) x) (split-joined y (releases y r x) xs)

pub elements-joined : (y : Syntax) (s : List ℕ) → joined y (elements y s) ≡ until_end y false s
unfolding elements until_end joined join_by
elements-joined y [] = refl
elements-joined y (x ∷ xs) = split-joined y false (x ∷ xs)
