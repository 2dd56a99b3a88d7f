-- Placing that goes through, and what it says of a sheet.
use Rattle.std.specs.Prelude.{ℕ, ◌≡◌, List, map}
use Rattle.guide.specs.Nodes.{View, Guide, capacity, number_of}
use Rattle.guide.specs.Sheets.{Said, fitting, refusal, Sheet}
use Rattle.guide.specs.workers.Placing.{State, start, Ran, fits, fault, run}

module _ {A : Type 0} (g : Guide) (view : A → View) where
  -- the segments ss are placed one after the other without a fault; z is how many counts the state has
  abbrev pub Goes : ℕ → List A → Type 0
  Goes z ss = (st : State) × (run g 1 (map view ss) (start z) ≡ fits st)

  -- ... and the last of them is an instance of node u
  abbrev pub GoesTo : ℕ → ℕ → List A → Type 0
  GoesTo z u ss = (st : State) × (run g 1 (map view ss) (start z) ≡ fits st) × (st.last ≡ u)

abbrev pub said : Guide → Ran → Said
said g (fits st) = fitting
said g (fault k i n) = refusal k i (number_of g n)

-- what placing says of each sheet
abbrev pub said_of : Guide → List Sheet → List Said
said_of g sheets = map (λ (x : Sheet). said g (run g 1 x.segments (start capacity))) sheets
