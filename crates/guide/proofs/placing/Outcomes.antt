-- What placing answers means what the rows of document 01 say, over the tree that the state stands for.
use Prim.Native.Nat.{ℕ, ◌<◌}
use mathlib.Core.Path.{◌≡◌, refl, ◌∙◌}
use mathlib.Core.Bool.{Bool, true, false, cond}
use mathlib.Core.List.{List, []}
use native.Mathlib.Omega.{arith}
use lib.Dec.{T, ltb}
use borrow.Author.Tests.{ne_eqb, ltb-true, ltb-false}
use Rattle.guide.specs.Nodes.{View, Guide, node, takes, over}
use Rattle.guide.specs.Tree.{Kids, count, Open}
use Rattle.guide.specs.Steps.{Claim, At, here, below, Might, Fresh, Full, Short, Lacking}
use Rattle.guide.specs.workers.Placing.{seek, tally, missing, unless_missing, answer, place, State}
use Rattle.guide.specs.Answers.{refused}
use Rattle.guide.specs.Meaning.{Outcome, moved, no_node, too_many, short}
use Rattle.guide.specs.workers.Checks.{Rising, Pairing}
use Rattle.guide.proofs.tables.Required.{over-same}
use Rattle.guide.proofs.placing.Meeting.{And}
use Rattle.guide.proofs.placing.Standing.{spine, Counts, counted, Stands, levels_spine}
use Rattle.guide.proofs.placing.Seeking.{Sought, sought, outside, seeking}
use Rattle.guide.proofs.placing.Missing.{Ready, Lacked, lacked, ready, lacks-at}

module _ {A : Type 0} (F G : Claim A) (n : ℕ) where
  -- what holds wherever F holds of n
  pub at_map : ((p : ℕ) (f : Kids A) → F p f n → G p f n) → (p : ℕ) (f : Kids A) → At F p f n → At G p f n
  at_map h p f (here e) = here (h p f e)
  at_map h p f (below {x = x} {k = k} d) = below (at_map h x k d)

module _ {A : Type 0} (g : Guide) where
  -- n can come here, and cs says how often it has, and which number its passed limit has
  record Told (cs : List ℕ) (p : ℕ) (f : Kids A) (n : ℕ) : Type 0 where
    might : Might g p f n
    told : tally cs n ≡ count f n
    over : over g n (tally cs) ≡ over g n (count f)

  told_at : Pairing g → (cs : List ℕ) (p : ℕ) (f : Kids A) (n : ℕ) → At (Might g) p f n → Counts g p f cs → At (Told cs) p f n
  unfolding Counts
  told_at pairs cs p f n (here h) c =
      let same = counted g p f cs c in
      here (record {
        might = h;
        told = same n h.under;
        over = over-same g n (tally cs) (count f) (λ t. same (node g n).partner ((pairs n t).parents ∙ h.under));
      })
  told_at pairs cs p f n (below {x = x} {k = k} d) c = below (told_at pairs cs x k n d c.1)

  -- n can come here and its limit is not reached
  record Roomy (p : ℕ) (f : Kids A) (n : ℕ) : Type 0 where
    might : Might g p f n
    room : count f n < (node g n).limit

module _
    {A : Type 0} (g : Guide) (view : A → View) (r : Rising g) (pairs : Pairing g) (f : Kids A) (s : A) (cs : List ℕ) (o : Open g view 0 f)
    (c : Counts g 0 f cs)
  where
    -- the limit is not reached: what is missing decides
    with-room : (n : ℕ) → T (takes g n (view s)) → At (Roomy g) 0 f n → Outcome g view f s (unless_missing (missing g cs n (spine g 0 f [])) n)
    with-room n t d = go (lacks-at g view r pairs cs n (Roomy g) (λ p f n h. h.might) 0 f [] d o c)
      where
        go : {m : ℕ} → Lacked g view r pairs cs n (Roomy g) (λ p f n h. h.might) 0 f m → Outcome g view f s (unless_missing m n)
        go (lacked {m = m} i e) =
            rw (ne_eqb m 0 (λ q. omega arith))
            (short t (at_map (And (Roomy g) (λ p f n. Short g p f n m)) (Lacking g m) n
            (λ p f h. record { might = h.0.might; room = h.0.room; short = h.1 }) 0 f e))
        go (ready e) =
            moved t (at_map (And (Roomy g) (Ready g)) (Fresh g) n
            (λ p f h. record { might = h.0.might; room = h.0.room; due = h.1.due; done = h.1.done }) 0 f e)

    sought_answer : (n : ℕ) → 0 < n → T (takes g n (view s)) → At (Might g) 0 f n → Outcome g view f s (answer g cs (spine g 0 f []) n)
    sought_answer n i t d = rw (ne_eqb n 0 (λ q. omega arith)) (go (ltb (tally cs n) (node g n).limit) refl (told_at g pairs cs 0 f n d c))
      where
        go
            : (b : Bool) → ltb (tally cs n) (node g n).limit ≡ b → At (Told g cs) 0 f n
            → Outcome g view f s (cond b (unless_missing (missing g cs n (spine g 0 f [])) n) (refused (over g n (tally cs)) n))
        go true e d =
            let l = ltb-true (tally cs n) (node g n).limit e in
            with-room n t (at_map (Told g cs) (Roomy g) n (λ p f h. record { might = h.might; room = omega (arith, h.told) }) 0 f d)
        go false e d =
            let l = ltb-false (tally cs n) (node g n).limit e in
            too_many t (at_map (Told g cs) (Full g (over g n (tally cs))) n
            (λ p f h. record { might = h.might; full = omega (arith, h.told); number = h.over }) 0 f d)

    answered : {n : ℕ} → Sought g r (view s) 0 f [] n → Outcome g view f s (answer g cs (spine g 0 f []) n)
    unfolding seek
    answered (sought {n = n} i t d) = sought_answer n i t d
    answered (outside never) = no_node never

module _ {A : Type 0} (g : Guide) (view : A → View) (r : Rising g) (pairs : Pairing g) where
  pub outcome : (f : Kids A) (s : A) (st : State) → Open g view 0 f → Stands g f st → Outcome g view f s (place g (view s) st.last st.counts)
  unfolding place
  outcome f s st o z =
      rw (z.last, levels_spine g view r f o) (answered g view r pairs f s st.counts o z.counts (seeking g r (view s) 0 f []))
