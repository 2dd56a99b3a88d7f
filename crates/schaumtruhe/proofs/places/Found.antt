-- The message that begins at a place, as the search finds it and as the definitions name it.
use Prim.Native.Nat.{ℕ, ◌≤◌, ◌<◌}
use mathlib.Core.Path.{◌≡◌, refl, sym, ◌∙◌, ap}
use mathlib.Core.Bool.{Bool, true, false, cond}
use mathlib.Core.List.{List, [], ◌∷◌, head-eq_of_cons-eq, nil≢cons}
use native.Mathlib.Omega.{arith}
use lib.Dec.{eqb, leb}
use lib.ListN.{length}
use borrow.Author.Tests.{eq-eqb, ne_eqb, leb-false}
use Rattle.cut.specs.declared.service.Syntax.{Syntax}
use Rattle.std.specs.Prelude.{Option, Some, None}
use Rattle.messages.specs.declared.found.Message.{Message as Found}
use Rattle.bytewise.specs.Bytes.{part}
use Rattle.cut.specs.Segments as cut
use Rattle.cut.specs.Segments.{segments_at}
use Rattle.messages.specs.Messages.{Message, start_of, close_of, messages}
use Rattle.messages.specs.Held.{held}
use Rattle.messages.specs.Calls.{some_message, as_found, is_found, found_at, message_at}
use Rattle.messages.proofs.Face.{keep_message, messages_from, next-message, message-at}
use Rattle.guide.specs.Accepted.{segments_of}
use Rattle.schaumtruhe.specs.Calls.{beginning_at}

module _ (at : ℕ) where
  -- the first of those that begin at the place or later, if it begins there
  from_one : (ms : List Message) (m : Message) (rest : List Message) → messages_from at ms ≡ m ∷ rest → start_of m ≡ at → beginning_at at ms ≡ m ∷ []
  unfolding messages_from beginning_at
  from_one [] m rest h s = absurd (nil≢cons h)
  from_one (n ∷ ns) m rest h s = go (leb at (start_of n)) refl h (from_one ns m rest)
    where
      go
          : (b : Bool) → leb at (start_of n) ≡ b → keep_message b n (messages_from at ns) ≡ m ∷ rest
          → (messages_from at ns ≡ m ∷ rest → start_of m ≡ at → beginning_at at ns ≡ m ∷ []) → cond (eqb at (start_of n)) (n ∷ []) (beginning_at at ns) ≡ m ∷ []
      go true l k ih =
          let e : n ≡ m = head-eq_of_cons-eq k in
          let q : at ≡ start_of n = sym s ∙ ap start_of (sym e) in
          rw (eq-eqb at (start_of n) q) (ap (λ (x : Message). x ∷ []) e)
      go false l k ih =
          let lt = leb-false at (start_of n) l in
          rw (ne_eqb at (start_of n) (λ (q : at ≡ start_of n). omega arith)) (ih k s)

  found_none : (ms : List Message) → found_at at ms ≡ None → beginning_at at ms ≡ []
  unfolding found_at beginning_at
  found_none [] h = refl
  found_none (n ∷ ns) h = go (eqb at (start_of n)) refl h (found_none ns)
    where
      go
          : (b : Bool) → eqb at (start_of n) ≡ b → cond b (as_found n) (found_at at ns) ≡ None
          → (found_at at ns ≡ None → beginning_at at ns ≡ []) → cond b (n ∷ []) (beginning_at at ns) ≡ []
      go true e k ih =
          let z : ◌≡◌ {A = ℕ} 0 1 = cc in
          absurd (omega arith)
      go false e k ih = ih k

-- the message that stands from s to e
pub record Here (y : Syntax) (d : List ℕ) (at s e : ℕ) : Type 0 where
  pub message : Message
  pub only : beginning_at at (messages y d) ≡ message ∷ []
  pub starts : start_of message ≡ s
  pub closes : close_of message ≡ e
  pub alone : cut.segments_of y s (part s e d) ≡ segments_of message
  pub takes : held (segments_at y d s) ≡ segments_of message
  pub some : s < e
  pub fits : e ≤ length d

module _ (y : Syntax) (d : List ℕ) (at : ℕ) where
  pub here : (s e : ℕ) → message_at y d at ≡ some_message s e → Here y d at s e
  here s e h =
      let w = message-at y d at s e h in
      let n = next-message y d at s e w.1 in
      record {
        message = n.message;
        only = from_one at (messages y d) n.message _ n.next (n.starts ∙ w.0);
        starts = n.starts;
        closes = n.closes;
        alone = n.alone;
        takes = n.takes;
        some = n.some;
        fits = n.fits;
      }

  -- a message begins at the place
  pub record Begins : Type 0 where
    pub message : Message
    pub only : beginning_at at (messages y d) ≡ message ∷ []
    pub starts : start_of message ≡ at
    pub takes : held (segments_at y d at) ≡ segments_of message

  pub nowhere-here : message_at y d at ≡ None → beginning_at at (messages y d) ≡ []
  unfolding message_at
  nowhere-here h = found_none at (messages y d) h

  module _ (b : Bool) (begins : b ≡ is_found (message_at y d at)) where
    by-none : (f : Option Found) → message_at y d at ≡ f → is_found f ≡ false → beginning_at at (messages y d) ≡ []
    by-none None e k = nowhere-here e
    by-none (Some f) e k = absurd (let z : ◌≡◌ {A = ℕ} 0 1 = cc in omega arith)

    pub not-begun : b ≡ false → beginning_at at (messages y d) ≡ []
    not-begun h = by-none (message_at y d at) refl (sym begins ∙ h)

    by-some : (f : Option Found) → message_at y d at ≡ f → is_found f ≡ true → Begins
    by-some None e k = absurd (let z : ◌≡◌ {A = ℕ} 0 1 = cc in omega arith)
    by-some (Some f) e k =
        let h = here f.start f.end e in
        let w : f.start ≡ at = (message-at y d at f.start f.end e).0 in
        record {
          message = h.message;
          only = h.only;
          starts = h.starts ∙ w;
          takes = ap (λ (q : ℕ). held (segments_at y d q)) (sym w) ∙ h.takes;
        }

    pub is-begun : b ≡ true → Begins
    is-begun h = by-some (message_at y d at) refl (sym begins ∙ h)
