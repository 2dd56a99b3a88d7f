-- A reader in a local is lent to `next` and comes back moved on: what a walk by hand of a caller cites that makes a reader and steps it.
-- For the call a lifetime ν is made within the delivery's κ, since `next` asks that the delivery outlives the loan. After the call ν is ended, and
-- the local is the caller's again.
use mathlib.Core.Path.{◌≡◌, subst}
use Prim.Native.Nat.{ℕ}
use mathlib.Core.List.{List, [], ◌∷◌}
use seplogic.Ra.Ura.{Ura}
use base.Share
use base.Fraction.{full_share}
use mir.Syntax.{named, erased}
use mir.Val.{Val, vptr}
use base.Logic.{SProp, emp, ent, sep, ex, guard, guard_i, via, fst∗, snd∗, ex_e, id⊢}
use base.Fml.{GName, Lft, Share, Fml, ftrue, fsep, flft, fdead, fres, flent, fat}
use prog.Memory.{Memory}
use prog.Routine.{Routine}
use types.Logic.{Logic, sem}
use contract.BorrowLft.{meet_⊑_right}
use contract.Monad.{Fun, fact, fact_i, fact_use}
use types.Kit.{Item, mean, ‵, raw, given, ◌⊛◌, ⋆, some, later, ◌$◌, ◌∵◌, !, qed, move, keep, use1, use2, use3, use0, split, split3, join, pick, learn}
use types.Kit.{fsplit, fjoin, fpick, fpack, frame, await, updating, now as at_once, show, check, done}
use types.SemTy.{Body}
use types.Tokens.{lft_new}
use borrow.Within.Token.{Rest, within_token, within_end}
use denote.RattleType.{RattleType}
use denote.Laws.{Is, shows}
use denote.Lend.{lends_ref, ref_back}
use denote.Memory.{mem, cell_at, part_of}
use denote.Ref.{MutBor, NamedLft, MutRef}
use denote.Steps.{nothing}
use denote.Struct.Laws as LL
use denote.Struct.Steps.{spelt}
use denote.Triple.Statement.{Contract}
use denote.Triple.Spec.{triple_of}
use denote.Triple.Clauses.{ensured, lasts, at_exit}
use Rattle.std.specs.Prelude.{Option, ⊤}
use Rattle.cut.specs.declared.scan.Cut.{Cut}
use Rattle.std.specs.contracts.option.Option as O
use Rattle.cut.specs.contracts.scan.Cut as S
use Rattle.held.specs.Reading.{answer_of, moved_on}
use Rattle.held.specs.declared.reader.Reader.{Reader}
use Rattle.held.specs.contracts.reader.Reader as T
use Rattle.held.proofs.reader.Reader.TheLaws as T'
use Rattle.held.specs.contracts.reader.ReaderIterator.next as next

-- `Reader<'a>`, as `next`'s signature has it
abbrev pub α : Lft → NamedLft
α κ = record { mir = named 1; lft = κ }

abbrev pub R : Lft → RattleType
R κ = T.the_row (α κ)

-- the reader h lies in the local at l
abbrev pub lies : Lft → ℕ → Reader → Fml
lies κ l h = (mem (R κ)).own_at h l 0

module _ {M : Type 1} {𝓤 : Ura M} (𝓛 : Logic 𝓤) (mem : Memory → SProp 𝓤) (run : Routine → Fun 𝓤) where
  -- `next`'s contract
  abbrev pub Stepped : Contract 𝓤
  Stepped = triple_of 𝓛 next.signature (next.spec 𝓛 mem run)

module _ {M : Type 1} {𝓤 : Ura M} (𝓛 : Logic 𝓤) (κ : Lft) (l : ℕ) (h : Reader) where
  -- of the local's cell, and back: MIR erases the lifetime in a local's type
  pub laid : (u : Val) → ent 𝓤 (⋆ 𝓛 (‵ (fat full_share (T'.mir erased) l 0 u) ∷ ‵ ((R κ).own_val h (u ∷ [])) ∷ [])) (sem 𝓛 (lies κ l h))
  unfolding part_of
  laid u =
      qed 𝓛 (‵ (fat full_share (T'.mir erased) l 0 u) ∷ ‵ ((R κ).own_val h (u ∷ [])) ∷ []) ∵
      use1 𝓛 (‵ (cell_at full_share (R κ).mir (u ∷ []) l 0)) (𝓛.laws.at_raw full_share (T'.mir erased) l 0 u) $
      fjoin ! $ fpack ! (List Val) (λ us. fsep (cell_at full_share (R κ).mir us l 0) ((R κ).own_val h us)) (u ∷ []) $ done !

  pub unlaid : ent 𝓤 (sem 𝓛 (lies κ l h)) (sem 𝓛 (fat full_share (T'.mir erased) l 0 (T'.lowered h)))
  unfolding part_of
  unlaid =
      qed 𝓛 (‵ (lies κ l h) ∷ []) ∵ fpick ! (λ vs. fsplit ! $
      spelt ! (R κ) (Is (R κ)) (shows 𝓛 (R κ)) (LL.vals (T.the_type (α κ)) (T'.the_laws (α κ))) (LL.tells (T.the_type (α κ)) (T'.the_laws (α κ)))
      full_share h vs l 0 $
      use1 𝓛 (‵ (fat full_share (T'.mir erased) l 0 (T'.lowered h))) (𝓛.laws.raw_at full_share (T'.mir erased) l 0 (T'.lowered h)) $ keep ! (0 ∷ []) $ done !)

module _ {M : Type 1} {𝓤 : Ura M} (𝓛 : Logic 𝓤) (at_mem : Memory → SProp 𝓤) (run : Routine → Fun 𝓤) (κ : Lft) (q : Share)
    (l : ℕ) (h : Reader) where
  -- the reference that is passed, under the name γ
  open 𝓛 use {H, A}

  abbrev passed : GName → MutBor Reader
  passed γ = record { ref_ptr = (l, 0); ghost_name = γ; now = h }

  abbrev own : ℕ → GName → Fml
  own ν γ = (MutRef (named 0) (ν ∷ κ) (R κ)).own_val (passed γ) (vptr l 0 ∷ [])

  -- the lender's part
  abbrev rest : ℕ → GName → Fml
  rest ν γ = flent (ν ∷ κ) (Body (mem (R κ)) l 0 γ)

  -- what the triple of `next` binds outside: half of the delivery's token goes into the loan's, the other half is passed for the delivery
  abbrev pub to_step : ℕ × GName → (Stepped 𝓛 at_mem run).Ghost
  to_step k =
      (((k.0 ∷ κ, (κ, tt)), (Share.left q, (Share.right q, tt)), (meet_⊑_right (k.0 ∷ []) κ, tt), (passed k.1, tt), (vptr l 0 ∷ [], tt)), tt)

  goes : (ν : ℕ) (γ : GName)
      → ent 𝓤 (⋆ 𝓛 (‵ (flft (ν ∷ κ) (Share.left q)) ∷ ‵ (flft κ (Share.right q)) ∷ ‵ (own ν γ) ∷ []))
      ((Stepped 𝓛 at_mem run).pre (to_step (ν, γ)))
  goes ν γ =
      qed 𝓛 (‵ (flft (ν ∷ κ) (Share.left q)) ∷ ‵ (flft κ (Share.right q)) ∷ ‵ (own ν γ) ∷ []) ∵
      nothing ! $ move ! (3 ∷ 0 ∷ []) $ fjoin ! $ nothing ! $ move ! (3 ∷ 0 ∷ []) $ join ! $ move ! (2 ∷ 0 ∷ []) $ join ! $ join ! $ frame ! $
      use0 𝓛 (raw (fact 𝓤 ⊤)) (fact_i 𝓤 ⊤ (emp 𝓤) tt) $ done !

  -- with the local lent: what `next` asks, the way back to ν's whole token, and the lender's part
  abbrev pub Going : ℕ × GName → Item 𝓤
  Going k = raw ((Stepped 𝓛 at_mem run).pre (to_step k)) ⊛ raw (Rest 𝓛 k.0 (Share.left q)) ⊛ ‵ (rest k.0 k.1)

  pub lends : ent 𝓤 (⋆ 𝓛 (‵ (lies κ l h) ∷ (‵ (flft κ q) ⊛ ‵ ftrue) ∷ [])) (H.⇛ (ex 𝓤 (λ (k : ℕ × GName). mean 𝓛 (Going k))))
  lends =
      qed 𝓛 (‵ (lies κ l h) ∷ (‵ (flft κ q) ⊛ ‵ ftrue) ∷ []) ∵ updating ! $ lft_new ! tt (λ ν. move ! (1 ∷ []) $
      use1 𝓛 (later (some (λ (γ : GName). ‵ (own ν γ) ⊛ ‵ (rest ν γ)))) (lends_ref 𝓛 (R κ) (named 0) (ν ∷ κ) h l 0) $ await ! tt $ pick ! (λ γ. split ! $
      -- [the reference; the lender's part; ν's token; the delivery's]
      move ! (3 ∷ []) $ split ! $ use1 𝓛 (‵ (flft κ (Share.left q)) ⊛ ‵ (flft κ (Share.right q))) (𝓛.lfts.lft_split κ q) $ split ! $
      move ! (5 ∷ 0 ∷ []) $
      use2 𝓛 (‵ (flft (ν ∷ κ) (Share.left q)) ⊛ raw (Rest 𝓛 ν (Share.left q))) (within_token 𝓛 ν κ (Share.left q)) $ split ! $
      -- [the loan's token; the way back; half of the delivery's; true; the reference; the lender's part]
      at_once ! $ show ! (λ (k : ℕ × GName). mean 𝓛 (Going k)) (ν, γ) $ move ! (0 ∷ 2 ∷ 4 ∷ []) $
      use3 𝓛 (raw ((Stepped 𝓛 at_mem run).pre (to_step (ν, γ)))) (goes ν γ) $ keep ! (0 ∷ 1 ∷ 3 ∷ []) $ done !))

  -- what the promise of `next` says: the answer, and the last value of what was lent
  told : (ν : ℕ) (γ : GName) (c : Option Cut)
      → ent 𝓤 (ensured 𝓛 next.ended (next.clauses 𝓛 at_mem run) (ν ∷ κ, (κ, tt)) (passed γ, tt) tt c)
      (guard 𝓤 (c ≡ answer_of h) (A.res γ ((R κ).coded.code (moved_on h))))
  told ν γ c = ex_e 𝓤 _ (λ ws.
      let L : SProp 𝓤 = sem 𝓛 (lasts next.ended (ν ∷ κ, (κ, tt)) (passed γ, tt) ws) in
      let E : SProp 𝓤 = (next.clauses 𝓛 at_mem run (ν ∷ κ, (κ, tt)) (passed γ, tt)).ensures tt c (at_exit next.ended (ν ∷ κ, (κ, tt)) (passed γ, tt) ws) in
      let F : SProp 𝓤 = fact 𝓤 ((c ≡ answer_of h) × (ws.0 ≡ moved_on h)) in
      -- that the walk comes to an end
      let G : SProp 𝓤 =
      next.ensures-goes 𝓛 (ν ∷ κ, (κ, tt)) at_mem run (passed γ)
      (record { entry = passed γ; exit = (at_exit next.ended (ν ∷ κ, (κ, tt)) (passed γ, tt) ws).0 }) c in
      -- the reference's own borrow, closed: the lender's part is all that is needed here
      let B : SProp 𝓤 = A.bor (ν ∷ κ) (Body (mem (R κ)) l 0 γ) in
      fact_use 𝓤 ((c ≡ answer_of h) × (ws.0 ≡ moved_on h)) (via 𝓤 E (snd∗ 𝓤 L E) (fst∗ 𝓤 F G)) (λ e.
      subst (λ (z : Reader). ent 𝓤 (sep 𝓤 L E) (guard 𝓤 (c ≡ answer_of h) (A.res γ ((R κ).coded.code z)))) e.1
      (via 𝓤 L (fst∗ 𝓤 L E)
      (via 𝓤 _ (fst∗ 𝓤 (sep 𝓤 (A.res γ ((R κ).coded.code ws.0)) B) (sem 𝓛 ftrue))
      (via 𝓤 _ (fst∗ 𝓤 (A.res γ ((R κ).coded.code ws.0)) B) (guard_i 𝓤 (c ≡ answer_of h) (A.res γ ((R κ).coded.code ws.0)) e.0))))))

  -- after the call: the answer c with the machine value u, the reader moved on in its local, and the delivery's token whole
  abbrev pub Coming : Val → Option Cut → Item 𝓤
  Coming u c = given (c ≡ answer_of h) (‵ ((O.the_row S.the_row).own_val c (u ∷ [])) ⊛ ‵ (lies κ l (moved_on h)) ⊛ (‵ (flft κ q) ⊛ ‵ ftrue))

  pub comes : (k : ℕ × GName) (u : Val)
      → ent 𝓤 (⋆ 𝓛 (raw ((Stepped 𝓛 at_mem run).post (to_step k) u) ∷ raw (Rest 𝓛 k.0 (Share.left q)) ∷ ‵ (rest k.0 k.1) ∷ []))
      (H.⇛ (ex 𝓤 (λ (c : Option Cut). mean 𝓛 (Coming u c))))
  comes k u =
      let ν = k.0 in
      let γ = k.1 in
      qed 𝓛 (raw ((Stepped 𝓛 at_mem run).post (to_step k) u) ∷ raw (Rest 𝓛 ν (Share.left q)) ∷ ‵ (rest ν γ) ∷ []) ∵ updating ! $
      use1 𝓛 (later (some (λ (c : Option Cut). ((‵ (flft (ν ∷ κ) (Share.left q)) ⊛ ‵ (flft κ (Share.right q)) ⊛ ‵ ftrue)
      ⊛ ‵ ((O.the_row S.the_row).own_val c (u ∷ [])))
      ⊛ raw
      (ensured 𝓛 next.ended (next.clauses 𝓛 at_mem run) (ν ∷ κ, (κ, tt)) (passed γ, tt) tt c)))) (id⊢ 𝓤 _) $ await ! tt $ pick ! (λ c.
      split ! $ move ! (1 ∷ []) $ use1 𝓛 (given (c ≡ answer_of h) (‵ (fres γ ((R κ).coded.code (moved_on h))))) (told ν γ c) $
      learn ! (λ e. move ! (1 ∷ []) $ split ! $ split3 ! $
      -- [the loan's token; half of the delivery's; true; the answer; the last value; the way back; the lender's part]
      move ! (0 ∷ 5 ∷ []) $ use2 𝓛 (later (‵ (fdead (ν ∷ κ)) ⊛ ‵ (flft κ (Share.left q)))) (within_end 𝓛 ν κ (Share.left q)) $ await ! tt $
      split ! $
      move ! (1 ∷ 2 ∷ []) $ use2 𝓛 (‵ (flft κ q)) (𝓛.lfts.lft_join κ q) $
      -- [the delivery's token; the loan is over; true; the answer; the last value; the lender's part]
      move ! (1 ∷ 5 ∷ 4 ∷ []) $ use3 𝓛 (later (‵ (lies κ l (moved_on h)))) (ref_back 𝓛 (R κ) (ν ∷ κ) γ (moved_on h) l 0) $ await ! tt $
      at_once ! $ show ! (λ (d : Option Cut). mean 𝓛 (Coming u d)) c $ check ! e $ move ! (3 ∷ 0 ∷ 1 ∷ 2 ∷ []) $ done !))
