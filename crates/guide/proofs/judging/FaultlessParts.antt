-- Segments are judged without a fault exactly if placing goes through them, and each part of what is asked of them holds by itself.
use Prim.Native.Nat.{ℕ, suc, ◌+◌}
use mathlib.Core.Path.{◌≡◌, refl, sym, ◌∙◌, ap}
use mathlib.Core.Bool.{Bool, true, false, cond}
use mathlib.Core.List.{List, [], ◌∷◌, ◌++◌, map}
use native.Mathlib.Omega.{arith}
use lib.Dec.{T}
use Rattle.cut.specs.declared.service.Syntax.{Syntax}
use Rattle.bytewise.specs.Bytes.{bytes_of}
use Rattle.cut.specs.Segments.{Segment}
use Rattle.value.specs.Digits.{count_of}
use Rattle.std.specs.Prelude.{Some}
use Rattle.guide.specs.Nodes.{Guide}
use Rattle.guide.specs.Page.{Page}
use Rattle.guide.specs.Content.{text, Holds}
use Rattle.guide.specs.Tree.{Given, one}
use Rattle.guide.specs.workers.Placing.{State, after, fits, follow, run, give, given}
use Rattle.guide.specs.Answers.{Answer, placed, refused}
use Rattle.guide.specs.Sheet.{only_if, is_tag, with_tag}
use Rattle.guide.specs.Accepted.{Each, Clean, seen, Numbered}
use Rattle.guide.specs.workers.Judging.{Memory}
use Rattle.guide.proofs.placing.Running.{fits-fault, fits-same}
use Rattle.guide.proofs.judging.Faultless.{segments_in, keep, kept, Faultless}
use Rattle.guide.proofs.judging.Answering.{sought, Closes, Free, free_iff}

-- the nodes alone
abbrev pub nodes_in : List (Given Segment) → List ℕ
nodes_in xs = map (λ (x : Given Segment). x.node) xs

module _ (y : Syntax) where
  -- one segment that may have a number, and those behind it
  numbered_more
      : (b : Bool) (k : ℕ) (s : Segment) (ss : List Segment) → (T b → count_of (text y s.bytes 1 0) ≡ Some (suc k))
      → Numbered y (suc (k + one b)) ss → Numbered y (suc k) (only_if b s ++ ss)
  unfolding Numbered
  numbered_more true k s ss h n =
      let z : k + 1 ≡ suc k = omega arith in
      (h tt, rw z at n)
  numbered_more false k s ss h n =
      let z : k + 0 ≡ k = omega arith in
      rw z at n

  numbered-first
      : (b : Bool) (k : ℕ) (s : Segment) (ss : List Segment) → Numbered y (suc k) (only_if b s ++ ss)
      → (T b → count_of (text y s.bytes 1 0) ≡ Some (suc k)) × Numbered y (suc (k + one b)) ss
  unfolding Numbered
  numbered-first true k s ss n =
      let z : k + 1 ≡ suc k = omega arith in
      (λ t. n.0, rw z n.1)
  numbered-first false k s ss n =
      let z : k + 0 ≡ k = omega arith in
      (λ t. absurd t, rw z n)

module _ (y : Syntax) (g : Guide) where
  -- the reference after a segment with its node
  abbrev pub referring : List ℕ → Given Segment → List ℕ
  referring r x = cond (is_tag g (bytes_of "UNH") x.node) (text y x.segment.bytes 1 0) r

  -- each UNT behind the first i segments has its count and the reference before it
  unfoldable pub Closing : ℕ → List ℕ → List (Given Segment) → Type 0
  Closing i r [] = Unit {0}
  Closing i r (x ∷ xs) =
      (T (is_tag g (bytes_of "UNT") x.node) → Closes y g (suc i) r x.segment) × Closing (suc i) (referring r x) xs

module _ (y : Syntax) (g : Guide) (pages : ℕ → Page) where
  abbrev pub HoldsAt : Given Segment → Type 0
  HoldsAt x = Holds y (pages x.node) x.segment.bytes

  -- the segments after the first i, with their nodes, in the state and with the memory that those before have left
  pub record Parts (i : ℕ) (st : State) (k : ℕ) (r : List ℕ) (xs : List (Given Segment)) (st' : State) : Type 0 where
    pub ran : run g (suc i) (map (seen y) (segments_in xs)) st ≡ fits st'
    pub gave : given g (map (seen y) (segments_in xs)) st ≡ nodes_in xs
    pub clean : Each (Clean y) (segments_in xs)
    pub holds : Each HoldsAt xs
    pub numbered : Numbered y (suc k) (with_tag g (bytes_of "LIN") xs)
    pub closing : Closing y g i r xs

  abbrev pub PartsOf : ℕ → Memory → List (Given Segment) → State → Type 0
  PartsOf i m xs st = Parts i m.state m.positions m.reference xs st

  -- the parts of one segment, and of those behind it
  Parts_more
      : (i : ℕ) (m : Memory) (x : Given Segment) (xs : List (Given Segment)) (st : State) → Free y g pages (suc i) m x.node x.segment
      → PartsOf (suc i) (keep y g pages m x) xs st → PartsOf i m (x ∷ xs) st
  unfolding run given Each with_tag Closing
  Parts_more i m x xs st f p =
      record {
        ran = rw f.taken p.ran;
        gave = rw f.taken (ap (λ (ns : List ℕ). x.node ∷ ns) p.gave);
        clean = (f.clean, p.clean);
        holds = (f.holds, p.holds);
        numbered = numbered_more y (is_tag g (bytes_of "LIN") x.node) m.positions x.segment _ f.ruled.numbers p.numbered;
        closing = (f.ruled.closes, p.closing);
      }

  parts_first
      : (i : ℕ) (m : Memory) (x : Given Segment) (xs : List (Given Segment)) (st : State) → PartsOf i m (x ∷ xs) st
      → Free y g pages (suc i) m x.node x.segment × PartsOf (suc i) (keep y g pages m x) xs st
  unfolding run given Each with_tag Closing
  parts_first i m x xs st p = go (sought y g m x.segment) refl p.ran p.gave
    where
      go
          : (a : Answer) → sought y g m x.segment ≡ a → follow (suc i) a (run g (suc (suc i)) (map (seen y) (segments_in xs)) (after g a m.state))
          ≡ fits st
          → give a (given g (map (seen y) (segments_in xs)) (after g a m.state)) ≡ x.node ∷ nodes_in xs
          → Free y g pages (suc i) m x.node x.segment × PartsOf (suc i) (keep y g pages m x) xs st
      go (placed n) e h k =
          let same : n ≡ x.node = cc in
          let more : given g (map (seen y) (segments_in xs)) (after g (placed n) m.state) ≡ nodes_in xs = cc in
          let lines = numbered-first y (is_tag g (bytes_of "LIN") x.node) m.positions x.segment (with_tag g (bytes_of "LIN") xs) p.numbered in (
            record {
              clean = p.clean.0;
              taken = e ∙ ap placed same;
              holds = p.holds.0;
              ruled = record { closes = p.closing.0; numbers = lines.0 };
            },
            record {
              ran = rw same at h;
              gave = rw same at more;
              clean = p.clean.1;
              holds = p.holds.1;
              numbered = lines.1;
              closing = p.closing.1;
            },
          )
      go (refused n j) e h k = absurd (fits-fault st n (suc i) j (sym h))

  pub faultless_parts
      : (i : ℕ) (m : Memory) (xs : List (Given Segment)) → Faultless y g pages i m xs → PartsOf i m xs (kept y g pages m xs).state
  unfolding Faultless kept run given Each with_tag Closing Numbered
  faultless_parts i m [] f =
      record { ran = refl; gave = refl; clean = tt; holds = tt; numbered = tt; closing = tt }
  faultless_parts i m (x ∷ xs) f =
      Parts_more i m x xs _ ((free_iff y g pages (suc i) m x.node x.segment).0 f.0) (faultless_parts (suc i) (keep y g pages m x) xs f.1)

  pub parts_faultless
      : (i : ℕ) (m : Memory) (xs : List (Given Segment)) (st : State) → PartsOf i m xs st
      → Faultless y g pages i m xs × ((kept y g pages m xs).state ≡ st)
  unfolding Faultless kept run
  parts_faultless i m [] st p = (tt, fits-same m.state st p.ran)
  parts_faultless i m (x ∷ xs) st p =
      let a = parts_first i m x xs st p in
      let b = parts_faultless (suc i) (keep y g pages m x) xs st a.1 in
      (((free_iff y g pages (suc i) m x.node x.segment).1 a.0, b.0), b.1)
