-- The definitions on a few segments, worked out by hand from document 01; the service characters are `:+.?'`.
use mathlib.Core.Path.{◌≡◌, refl}
use mathlib.Core.Bool.{true, false}
use mathlib.Core.List.{[], ◌∷◌}
use Rattle.cut.specs.Segments.{frees}
use Rattle.cut.specs.Base.{edifact}
use Rattle.clean.specs.Clean.{between, allowed_byte, capital, ends_tag, lettered, tagged_bytes}
use Rattle.element.specs.Elements.{ending_of, stays, releases, before, split_from, elements}
use Rattle.element.specs.Components.{in_element, in_elements, width, components, span_in}

-- bytes 31 and 127 to 159 are not allowed, those beside them are
edges
    : (allowed_byte 31 ≡ false) × (allowed_byte 32 ≡ true) × (allowed_byte 126 ≡ true) × (allowed_byte 127 ≡ false)
    × (allowed_byte 159 ≡ false) × (allowed_byte 160 ≡ true) × (allowed_byte 255 ≡ true)
unfolding allowed_byte between
edges = (refl, refl, refl, refl, refl, refl, refl)

-- `BGM+` and `BGM'` are tags; `BGM:`, `BGM?+`, `BGM`, `BG+M` and `bGM+` are none
tags
    : (tagged_bytes edifact (66 ∷ 71 ∷ 77 ∷ 43 ∷ []) ≡ true) × (tagged_bytes edifact (66 ∷ 71 ∷ 77 ∷ 39 ∷ []) ≡ true)
    × (tagged_bytes edifact (66 ∷ 71 ∷ 77 ∷ 58 ∷ []) ≡ false) × (tagged_bytes edifact (66 ∷ 71 ∷ 77 ∷ 63 ∷ 43 ∷ []) ≡ false)
    × (tagged_bytes edifact (66 ∷ 71 ∷ 77 ∷ []) ≡ false) × (tagged_bytes edifact (66 ∷ 71 ∷ 43 ∷ 77 ∷ []) ≡ false)
    × (tagged_bytes edifact (98 ∷ 71 ∷ 77 ∷ 43 ∷ []) ≡ false)
unfolding tagged_bytes lettered capital ends_tag between
tags = (refl, refl, refl, refl, refl, refl, refl)

-- `PRI+CAL:1::ANN'` has the tag and one element of four components, the third empty
price : elements edifact (80 ∷ 82 ∷ 73 ∷ 43 ∷ 67 ∷ 65 ∷ 76 ∷ 58 ∷ 49 ∷ 58 ∷ 58 ∷ 65 ∷ 78 ∷ 78 ∷ 39 ∷ [])
    ≡ ((80 ∷ 82 ∷ 73 ∷ []) ∷ []) ∷ ((67 ∷ 65 ∷ 76 ∷ []) ∷ (49 ∷ []) ∷ [] ∷ (65 ∷ 78 ∷ 78 ∷ []) ∷ []) ∷ []
unfolding elements split_from before ending_of releases stays frees
price = refl

-- a released separator and a released terminator are bytes like others: `A?+B?'C'` is one component
released : elements edifact (65 ∷ 63 ∷ 43 ∷ 66 ∷ 63 ∷ 39 ∷ 67 ∷ 39 ∷ []) ≡ ((65 ∷ 63 ∷ 43 ∷ 66 ∷ 63 ∷ 39 ∷ 67 ∷ []) ∷ []) ∷ []
unfolding elements split_from before ending_of releases stays frees
released = refl

-- a released release mark releases nothing: `A??+B'` has two elements
twice : elements edifact (65 ∷ 63 ∷ 63 ∷ 43 ∷ 66 ∷ 39 ∷ []) ≡ ((65 ∷ 63 ∷ 63 ∷ []) ∷ []) ∷ ((66 ∷ []) ∷ []) ∷ []
unfolding elements split_from before ending_of releases stays frees
twice = refl

-- the pieces `A:` and `A+` end with an empty component and an empty element; `'` has one empty component, no byte has none
trailing
    : (elements edifact (65 ∷ 58 ∷ []) ≡ ((65 ∷ []) ∷ [] ∷ []) ∷ []) × (elements edifact (65 ∷ 43 ∷ []) ≡ ((65 ∷ []) ∷ []) ∷ ([] ∷ []) ∷ [])
    × (elements edifact (39 ∷ []) ≡ ([] ∷ []) ∷ []) × (elements edifact [] ≡ [])
unfolding elements split_from before ending_of releases stays frees
trailing = (refl, refl, refl, refl)

-- `A+B:C'` from place 10 on: component 1 of element 1 is the byte at 14, component 2 is missing and stands at 10
places
    : (span_in 10 1 1 (components edifact 10 (65 ∷ 43 ∷ 66 ∷ 58 ∷ 67 ∷ 39 ∷ [])) ≡ record { start = 14; end = 15 })
    × (span_in 10 1 2 (components edifact 10 (65 ∷ 43 ∷ 66 ∷ 58 ∷ 67 ∷ 39 ∷ [])) ≡ record { start = 10; end = 10 })
unfolding span_in components in_elements in_element width elements split_from before ending_of releases stays frees
places = (refl, refl)
