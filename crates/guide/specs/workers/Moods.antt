-- The moods of an element in one pass over its components. Whether an optional composite asks for its must components is not known before one that
-- stands has been seen, so a must component that was empty before is owed until then.
use Rattle.std.specs.Prelude.{ℕ, Bool, true, false, ◌&&◌, ◌||◌, cond, List, [], ◌∷◌, get_or, drop}
use Rattle.cut.specs.declared.service.Syntax.{Syntax}
use Rattle.plain.specs.Plain.{plain}
use Rattle.value.specs.Numeral.{some}
use Rattle.guide.specs.Page.{must, may, Row, used, unused, Composite}
use Rattle.guide.specs.Choices.{pickℕ, or_else}
use Rattle.guide.specs.workers.PageFault.{text_fault}

-- what is known of an element so far: it asks for its must components; it has none that stands, and none of its must components was
-- empty; or one was
pub data Mood : Type 0 where
  asking idle owing : Mood

unfoldable pub is_must : Row → Bool
is_must (used must f cs) = true
is_must (used may f cs) = false
is_must unused = false

-- before its first component
unfoldable pub opened : Composite → Mood
opened k = cond k.required asking idle

-- after one more
unfoldable pub mood_after : Mood → Row → List ℕ → Mood
mood_after asking r t = asking
mood_after idle r t = cond (some t) asking (cond (is_must r) owing idle)
mood_after owing r t = owing

-- the fault that is known at a component: its own, or that a must component left of it is missing
unfoldable pub mood_fault : Syntax → Mood → Row → List ℕ → ℕ
mood_fault y asking r t = text_fault y true r t
mood_fault y idle r t = text_fault y false r t
mood_fault y owing r t = pickℕ (some t) 17 0

unfoldable pub any_must : List Row → Bool
any_must [] = false
any_must (r ∷ rs) = is_must r || any_must rs

-- the fault that is known at the element's end, where the rows rs are left
unfoldable pub end_fault : Mood → List Row → ℕ
end_fault asking rs = pickℕ (any_must rs) 17 0
end_fault idle rs = 0
end_fault owing rs = 0

unfoldable pub pass_fault : Syntax → Mood → List Row → List (List ℕ) → ℕ
pass_fault y m rs [] = end_fault m rs
pass_fault y m rs (b ∷ bs) =
    let r = get_or rs 0 unused in
    let t = plain y false b in
    or_else (mood_fault y m r t) (pass_fault y (mood_after m r t) (drop 1 rs) bs)

-- the fault of elements that do not stand: a must row of a required one is missing
unfoldable pub absent_fault : List Composite → ℕ
absent_fault [] = 0
absent_fault (k ∷ ks) = pickℕ (k.required && any_must k.rows) 17 (absent_fault ks)
