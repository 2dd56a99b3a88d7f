-- Placing one segment after another: the first fault in the order 13, 15, 25 (request 2), 14. The state is the last node and how often each
-- node has come in the open instance of its parent; no tree is kept.
use Rattle.std.specs.Prelude.{ℕ, zero, suc, ◌-◌, Bool, not, ◌&&◌, ◌||◌, cond, List, [], ◌∷◌, length, get_or, replicate, eqb, ltb, leb}
use Rattle.guide.specs.Choices.{pickℕ, or_else}
use Rattle.guide.specs.Answers.{Answer, placed, refused}
use Rattle.guide.specs.Nodes.{View, Guide, node, matches, required, over}

-- the lowest of the k numbers from i on that passes the test; 0 if none does
unfoldable pub lowest : (ℕ → Bool) → ℕ → ℕ → ℕ
lowest test i zero = 0
lowest test i (suc k) = pickℕ (test i) i (lowest test (suc i) k)

-- the lowest row that passes the test
abbrev pub first_node : Guide → (ℕ → Bool) → ℕ
first_node g test = lowest test 1 (length g - 1)

-- an open instance: its node, and the counter that its children have reached
pub record Level : Type 0 where
  pub node : ℕ
  pub reached : ℕ

abbrev pub level : ℕ → ℕ → Level
level p c = record { node = p; reached = c }

-- the open instances from p outward to the message, at most k
unfoldable pub levels : Guide → ℕ → ℕ → ℕ → List Level
levels g zero p c = []
levels g (suc k) p c =
    level p c ∷ cond (eqb p 0) [] (levels g k (node g p).parent (node g p).counter)

-- whether node n can be the next child of an instance of p whose children have reached the counter c
unfoldable pub fits_in : Guide → View → ℕ → ℕ → ℕ → Bool
fits_in g v p c n = eqb (node g n).parent p && (leb c (node g n).counter && matches (node g n) v)

-- the node that takes the segment, in the innermost open instance that has one; 0 if none has
unfoldable pub seek : Guide → View → List Level → ℕ
seek g v [] = 0
seek g v (l ∷ ls) = or_else (first_node g (fits_in g v l.node l.reached)) (seek g v ls)

-- how often each node has come
abbrev pub tally : List ℕ → ℕ → ℕ
tally cs m = get_or cs m 0

-- whether the instance p lacks m when n comes: any required node if p is closed by it, one of an earlier counter if p takes it
unfoldable pub lacking : Guide → List ℕ → ℕ → ℕ → ℕ → Bool
lacking g cs n p m =
    eqb (node g m).parent p
    && (required g m (tally cs) && (eqb (tally cs m) 0 && (not (eqb p (node g n).parent) || ltb (node g m).counter (node g n).counter)))

-- "the lowest missing node, looked for from the innermost open instance outward level by level", up to the one that takes n; 0 if none is. Under one parent
-- the lowest row is that of the lowest node: the test `rising`
unfoldable pub missing : Guide → List ℕ → ℕ → List Level → ℕ
missing g cs n [] = 0
missing g cs n (l ∷ ls) = or_else (first_node g (lacking g cs n l.node)) (pickℕ (eqb l.node (node g n).parent) 0 (missing g cs n ls))

-- m is the missing node, or 0
abbrev pub unless_missing : ℕ → ℕ → Answer
unless_missing m n = cond (eqb m 0) (placed n) (refused 14 m)

abbrev pub answer : Guide → List ℕ → List Level → ℕ → Answer
answer g cs ls n =
    cond (eqb n 0) (refused 13 0)
    (cond (ltb (tally cs n) (node g n).limit) (unless_missing (missing g cs n ls) n) (refused (over g n (tally cs)) n))

-- what comes of the segment v after the node `last`, where cs are the counts
unfoldable pub place : Guide → View → ℕ → List ℕ → Answer
place g v last cs = answer g cs (levels g (suc last) last 0) (seek g v (levels g (suc last) last 0))

-- the count of node m when an instance of n begins: n itself has come once more, its children not at all
abbrev pub recount : Guide → ℕ → ℕ → ℕ → ℕ
recount g n m c = pickℕ (eqb m n) (suc c) (pickℕ (eqb (node g m).parent n) 0 c)

-- f of each node's number and count, from node m on
unfoldable pub indexed : (ℕ → ℕ → ℕ) → ℕ → List ℕ → List ℕ
indexed f m [] = []
indexed f m (c ∷ cs) = f m c ∷ indexed f (suc m) cs

unfoldable pub recounted : Guide → ℕ → List ℕ → List ℕ
recounted g n cs = indexed (recount g n) 0 cs

-- the counts afterwards; a refusal leaves them as they are
unfoldable pub counts_after : Guide → Answer → List ℕ → List ℕ
counts_after g (placed n) cs = recounted g n cs
counts_after g (refused k m) cs = cs

unfoldable pub last_after : Answer → ℕ → ℕ
last_after (placed n) last = n
last_after (refused k m) last = last

pub record State : Type 0 where
  pub last : ℕ
  pub counts : List ℕ

-- before the first segment, with z counts
abbrev pub start : ℕ → State
start z = record { last = 0; counts = replicate z 0 }

abbrev pub after : Guide → Answer → State → State
after g a st = record { last = last_after a st.last; counts = counts_after g a st.counts }

-- the state after some segments, or the first fault: its number, the segment and the node
pub data Ran : Type 0 where
  fits : State → Ran
  fault : ℕ → ℕ → ℕ → Ran

-- segment i got the answer; the rest is what comes of those after it
abbrev pub follow : ℕ → Answer → Ran → Ran
follow i (placed n) rest = rest
follow i (refused k m) rest = fault k i m

-- the segments from the i-th on, in the state that those before have left
unfoldable pub run : Guide → ℕ → List View → State → Ran
run g i [] st = fits st
run g i (v ∷ vs) st =
    follow i (place g v st.last st.counts) (run g (suc i) vs (after g (place g v st.last st.counts) st))

abbrev pub give : Answer → List ℕ → List ℕ
give (placed n) rest = n ∷ rest
give (refused k m) rest = []

-- the nodes that the segments are given, up to the first fault
unfoldable pub given : Guide → List View → State → List ℕ
given g [] st = []
given g (v ∷ vs) st = give (place g v st.last st.counts) (given g vs (after g (place g v st.last st.counts) st))
