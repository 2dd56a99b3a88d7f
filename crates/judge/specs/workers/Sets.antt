-- Sets of nodes as the bits of a number, bit n for row n: what the code holds of the tables. No public promise cites these.
use Rattle.std.specs.Prelude.{ℕ, zero, suc, ◌+◌, ◌*◌, ◌/◌, ◌%◌, ◌<◌, ◌≡◌, Bool, true, false, not, ◌&&◌, ◌||◌, List, [], ◌∷◌, length, eqb, ltb, leb}
use Rattle.guide.specs.Nodes.{Guide, node}
use Rattle.guide.specs.workers.Placing.{Level, levels}
use Rattle.judge.specs.workers.Words.{packed}
use Rattle.judge.specs.workers.Rows.{child_of, due_of}

abbrev pub bit : Bool → ℕ
bit true = 1
bit false = 0

-- those of the first k numbers that pass the test
unfoldable pub bits : ℕ → (ℕ → Bool) → ℕ
bits zero test = 0
bits (suc k) test = bits k (λ n. test (suc n)) * 2 + bit (test 0)

-- whether the number n is in the set s
unfoldable pub member : ℕ → ℕ → Bool
member s zero = eqb (s % 2) 1
member s (suc n) = member (s / 2) n

-- the nodes of a guide that pass the test; the message is none
unfoldable pub nodes_that : Guide → (ℕ → Bool) → ℕ
nodes_that g test = bits (length g) (λ n. ltb 0 n && test n)

-- all that are in the set s are nodes of the guide
unfoldable pub Nodes : Guide → ℕ → Type 0
Nodes g s = (n : ℕ) → member s n ≡ true → (0 < n) × (n < length g)

-- whether the test holds of one of the open instances
unfoldable pub some_level : (Level → Bool) → List Level → Bool
some_level test [] = false
some_level test (l ∷ ls) = test l || some_level test ls

-- whether node n can come in an open instance, by its parent and counter alone
abbrev pub follows_in : Guide → ℕ → Level → Bool
follows_in g n l = child_of g l.node n && leb l.reached (node g n).counter

-- the nodes that can come after the node `last`, by parent and counter alone
unfoldable pub followers_of : Guide → ℕ → ℕ
followers_of g last = nodes_that g (λ n. some_level (follows_in g n) (levels g (suc last) last 0))

-- the nodes whose tag is this number
unfoldable pub tagged_of : Guide → ℕ → ℕ
tagged_of g tag = nodes_that g (λ n. eqb (packed (node g n).tag) tag)

-- the nodes that have codes
unfoldable pub coded_of : Guide → ℕ
coded_of g = nodes_that g (λ n. ltb 0 (length (node g n).selector.codes))

-- the nodes that may be missed in an open instance after the node `last`
unfoldable pub due_after : Guide → ℕ → ℕ
due_after g last = nodes_that g (λ m. some_level (λ l. due_of g l.node m) (levels g (suc last) last 0))

-- whether an instance of p is inside one of q, at any depth
unfoldable pub inside_of : Guide → ℕ → ℕ → Bool
inside_of g p q = not (eqb p q) && some_level (λ l. eqb l.node q) (levels g (suc p) p 0)

-- the nodes that node n must come behind: under its parent those of an earlier counter, and all that are inside a child of its parent
unfoldable pub preceding_of : Guide → ℕ → ℕ
preceding_of g n =
    nodes_that g
    (λ m.
    (child_of g (node g n).parent m && ltb (node g m).counter (node g n).counter) || inside_of g (node g m).parent (node g n).parent)

-- the children of node n
unfoldable pub children_of : Guide → ℕ → ℕ
children_of g n = nodes_that g (child_of g n)

-- two sets as one word of the code, the second above the first
unfoldable pub after_word : Guide → ℕ → ℕ
after_word g last = followers_of g last + 4294967296 * due_after g last

unfoldable pub entry_word : Guide → ℕ → ℕ
entry_word g n = preceding_of g n + 4294967296 * children_of g n
