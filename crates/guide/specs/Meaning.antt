-- What an answer of placing means over the tree of the segments before. Document 01, 'Refusal numbers', 13 to 15, and request 2, 25.
use Rattle.std.specs.Prelude.{ℕ, suc, ◌≡◌, List, ◌∷◌, ◌++◌, length, T}
use Rattle.guide.specs.Nodes.{View, Guide, takes}
use Rattle.guide.specs.Tree.{Kids, Beginning}
use Rattle.guide.specs.Steps.{At, Might, Fresh, Full, Lacking}
use Rattle.guide.specs.Answers.{Answer, placed, refused}

module _ {A : Type 0} (g : Guide) (view : A → View) (f : Kids A) (s : A) where
  pub data Outcome : Answer → Type 0 where
    -- the segment can come next, as this node
    moved : {n : ℕ} → T (takes g n (view s)) → At (Fresh g) 0 f n → Outcome (placed n)
    -- "no node with this tag and code can come here, even with limits and missing nodes ignored"
    no_node : ((n : ℕ) → T (takes g n (view s)) → At (Might g) 0 f n → ⊥) → Outcome (refused 13 0)
    -- "it can, but its limit is passed": 15; "the second DTM of one code": 25
    too_many : {n k : ℕ} → T (takes g n (view s)) → At (Full g k) 0 f n → Outcome (refused k n)
    -- "it can, but a required node is missing"
    short : {n m : ℕ} → T (takes g n (view s)) → At (Lacking g m) 0 f n → Outcome (refused 14 m)

module _ {A : Type 0} (g : Guide) (view : A → View) where
  -- segment i of ss is refused with number k and node m: those before it are a beginning, and over its tree the row of k says so
  pub record Stops (ss : List A) (k i m : ℕ) : Type 0 where
    pub front : List A
    pub segment : A
    pub rest : List A
    pub split : ss ≡ front ++ (segment ∷ rest)
    pub index : i ≡ suc (length front)
    pub begins : Beginning g view front
    pub why : Outcome g view begins.tree segment (refused k m)
