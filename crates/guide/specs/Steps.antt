-- What can come next in a beginning, and why a segment cannot. The words of refusals 13, 14 and 15 in document 01 and of 25 in request 2, over trees.
use Rattle.std.specs.Prelude.{ℕ, ◌≤◌, ◌<◌, ◌≡◌, T}
use Rattle.guide.specs.Nodes.{Guide, node, number_of, required, over}
use Rattle.guide.specs.Tree.{Kids, none, then, count, top, Complete, Due}

-- what may be said of node n in an instance of p with the children f so far
abbrev pub Claim : Type 0 → Type 1
Claim A = ℕ → Kids A → ℕ → Type 0

module _ {A : Type 0} where
  -- F holds of node n in this instance, or in one that is open inside it
  pub data At (F : Claim A) : ℕ → Kids A → ℕ → Type 0 where
    here : {p : ℕ} {f : Kids A} {n : ℕ} → F p f n → At F p f n
    below : {p : ℕ} {l : Kids A} {x : ℕ} {t : A} {k : Kids A} {n : ℕ} → At F x k n → At F p (then l x t k) n

  -- the tree with the segment s as an instance of n at that place
  abbrev pub add : {F : Claim A} {p : ℕ} {f : Kids A} {n : ℕ} → At F p f n → A → Kids A
  add (here {f = f} {n = n} h) s = then f n s none
  add (below {l = l} {x = x} {t = t} d) s = then l x t (add d s)

module _ {A : Type 0} (g : Guide) where
  -- n can come here, "even with limits and missing nodes ignored"
  pub record Might (p : ℕ) (f : Kids A) (n : ℕ) : Type 0 where
    pub under : (node g n).parent ≡ p
    pub order : top g f ≤ (node g n).counter

  -- a claim that includes it
  abbrev pub Possible : Claim A → Type 0
  Possible F = (p : ℕ) (f : Kids A) (n : ℕ) → F p f n → Might p f n

  -- what is open inside f lacks nothing
  unfoldable pub Done : Kids A → Type 0
  Done none = Unit {0}
  Done (then l n s k) = Complete g n k × Done k

  -- n can come here: its limit is not reached, and no required node of what it closes or of an earlier counter is missing
  pub record Fresh (p : ℕ) (f : Kids A) (n : ℕ) : Type 0 where
    pub might : Might p f n
    pub room : count f n < (node g n).limit
    pub due : Due g p (node g n).counter f
    pub done : Done f

  -- "it can, but its limit is passed": k is the number given, 15, or 25 at "the second DTM of one code" where the other code has not come
  pub record Full (k : ℕ) (p : ℕ) (f : Kids A) (n : ℕ) : Type 0 where
    pub might : Might p f n
    pub full : (node g n).limit ≤ count f n
    pub number : k ≡ over g n (count f)

  -- the instance p with the children f lacks m
  pub record Lacks (p : ℕ) (f : Kids A) (m : ℕ) : Type 0 where
    pub under : (node g m).parent ≡ p
    pub required : T (required g m (count f))
    pub missing : count f m ≡ 0

  -- ... and m has a counter below c
  pub record LacksBefore (c : ℕ) (p : ℕ) (f : Kids A) (m : ℕ) : Type 0 where
    pub lacks : Lacks p f m
    pub earlier : (node g m).counter < c

-- of the rows with P, m is one whose node has the lowest number
pub record Lowest (g : Guide) (P : ℕ → Type 0) (m : ℕ) : Type 0 where
  pub holds : P m
  pub lowest : (x : ℕ) → P x → number_of g m ≤ number_of g x

module _ {A : Type 0} (g : Guide) where
  -- of the instance p and those open inside it, the innermost that lacks a node lacks m, and none of a lower number
  pub data Gap : ℕ → Kids A → ℕ → Type 0 where
    inside : {p : ℕ} {l : Kids A} {x : ℕ} {t : A} {k : Kids A} {m : ℕ} → Gap x k m → Gap p (then l x t k) m
    itself : {p : ℕ} {f : Kids A} {m : ℕ} → Done g f → Lowest g (Lacks g p f) m → Gap p f m

  -- "the lowest missing node, looked for from the innermost open instance outward level by level", where n comes in the instance p: first the
  -- instances that it closes, then p's nodes of a counter below n's
  pub data Short : ℕ → Kids A → ℕ → ℕ → Type 0 where
    closing : {p : ℕ} {l : Kids A} {x : ℕ} {t : A} {k : Kids A} {n m : ℕ} → Gap x k m → Short p (then l x t k) n m
    earlier : {p : ℕ} {f : Kids A} {n m : ℕ} → Done g f → Lowest g (LacksBefore g (node g n).counter p f) m → Short p f n m

  -- "it can, but a required node is missing": m
  pub record Lacking (m : ℕ) (p : ℕ) (f : Kids A) (n : ℕ) : Type 0 where
    pub might : Might g p f n
    pub room : count f n < (node g n).limit
    pub short : Short p f n m
