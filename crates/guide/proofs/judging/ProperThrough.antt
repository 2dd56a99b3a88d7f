-- A message is judged without a fault up to its end, which is UNT, exactly if it is proper.
use Prim.Native.Nat.{ℕ}
use mathlib.Core.Path.{◌≡◌, refl, sym, ◌∙◌, ap, subst}
use mathlib.Core.Logic.{◌↔◌}
use mathlib.Core.List.{List, [], ◌∷◌, ◌++◌, map}
use lib.ListN.{length, length-map}
use lib.Dec.{T}
use Rattle.cut.specs.declared.service.Syntax.{Syntax}
use Rattle.bytewise.specs.Bytes.{bytes_of}
use Rattle.cut.specs.Segments.{Segment}
use Rattle.messages.specs.Messages.{Message}
use Rattle.guide.specs.Nodes.{Guide, capacity}
use Rattle.guide.specs.Page.{Page}
use Rattle.guide.specs.Content.{text}
use Rattle.guide.specs.Tree.{Given, giving, assigned}
use Rattle.guide.specs.workers.Placing.{start, run, given}
use Rattle.guide.specs.workers.Checks.{Passes}
use Rattle.guide.specs.Sheet.{is_tag, with_tag}
use Rattle.guide.specs.workers.Frames.{Framed}
use Rattle.guide.specs.Accepted.{Each, Clean, seen, segments_of, last_of, Numbered, Proper}
use Rattle.guide.specs.workers.Judging.{fresh}
use Rattle.guide.proofs.Basics.{map-append}
use Rattle.guide.proofs.placing.Growing.{assigned-segments}
use Rattle.guide.proofs.Fitting.{given-assigned}
use Rattle.guide.proofs.placing.Ending.{whole-begins}
use Rattle.guide.proofs.Editions.{whole_iff}
use Rattle.guide.proofs.judging.Enclosing.{Enclosed, whole_enclosed}
use Rattle.guide.proofs.judging.Answering.{Closes}
use Rattle.guide.proofs.judging.Faultless.{segments_in, kept, Through}
use Rattle.guide.proofs.judging.FaultlessParts.{HoldsAt, PartsOf, Closing, faultless_parts, parts_faultless}
use Rattle.guide.proofs.judging.FaultlessTree.{given-tree}
use Rattle.guide.proofs.judging.FrameRules.{closing_enclosed}

last_of_more : (s : Segment) (ts : List Segment) (t : Segment) → last_of s (ts ++ (t ∷ [])) ≡ t
unfolding last_of
last_of_more s [] t = refl
last_of_more s (x ∷ ts) t = last_of_more x ts t

-- the first and the last of the segments between UNH and UNT are the message's
ends_of
    : (h u : ℕ) (xs : List (Given Segment)) (e : Enclosed h u xs) (m : Message) → segments_in xs ≡ segments_of m
    → (e.first ≡ m.first) × (e.last ≡ last_of m.first m.rest)
ends_of h u xs e m k =
    let a : e.first ∷ segments_in (e.middle ++ (giving u e.last ∷ [])) ≡ m.first ∷ m.rest = ap segments_in (sym e.same) ∙ k in
    let b = map-append (λ (x : Given Segment). x.segment) e.middle (giving u e.last ∷ []) in
    let c : segments_in e.middle ++ (e.last ∷ []) ≡ m.rest = cc in
    (cc, sym (last_of_more m.first (segments_in e.middle) e.last) ∙ ap (last_of m.first) c)

module _ (y : Syntax) (g : Guide) (pages : ℕ → Page) (u : ℕ) (p : Passes g u) (h : ℕ) (q : Framed g h u) (m : Message) where
  abbrev ss : List Segment
  ss = segments_of m

  -- UNT's rule says what is asked of the last segment
  closes-last
      : (xs : List (Given Segment)) → Enclosed h u xs → segments_in xs ≡ ss
      → Closing y g 0 [] xs ↔ Closes y g (length ss) (text y m.first.bytes 1 0) (last_of m.first m.rest)
  closes-last xs e same =
      let size : length xs ≡ length ss = sym (length-map xs (λ (x : Given Segment). x.segment)) ∙ ap length same in
      let ends = ends_of h u xs e m same in
      rw (size, ends.0, ends.1) at (closing_enclosed y g u h q xs e)

  -- a message that is proper goes through, and its last node is UNT
  pub proper_through : Proper y g pages m → (t : Through y g pages 0 fresh ss) × ((kept y g pages fresh t.given).state.last ≡ u)
  proper_through x =
      let w = x.sheet in
      let xs = assigned w.tree in
      let same : segments_in xs ≡ ss = assigned-segments w.tree ∙ w.same in
      let goes = (whole_iff g u p (seen y) ss).1 w in
      let gave = given-assigned g (seen y) p.rising p.pairing p.apart capacity p.room ss (whole-begins g (seen y) ss w) in
      let closes : Closes y g (length ss) (text y m.first.bytes 1 0) (last_of m.first m.rest) =
      record { counted = x.counted; referred = x.referred }
      in
      let parts : PartsOf y g pages 0 fresh xs goes.0 =
      record {
        ran = ap (λ (us : List Segment). run g 1 (map (seen y) us) (start capacity)) same ∙ goes.1;
        gave = ap (λ (us : List Segment). given g (map (seen y) us) (start capacity)) same ∙ gave;
        clean = subst (Each (Clean y)) (sym same) x.clean;
        holds = x.holds;
        numbered = x.numbered;
        closing = (closes-last xs (whole_enclosed g (seen y) u p h q ss w) same).1 closes;
      }
      in
      let through = parts_faultless y g pages 0 fresh xs goes.0 parts in
      (record { given = xs; same = same; faultless = through.0 }, rw through.1 goes.2)

  -- and one that goes through to UNT is proper
  pub through_proper
      : (t : Through y g pages 0 fresh ss) → T (is_tag g (bytes_of "UNT") (kept y g pages fresh t.given).state.last) → Proper y g pages m
  through_proper t e =
      let xs = t.given in
      let st = (kept y g pages fresh xs).state in
      let parts = faultless_parts y g pages 0 fresh xs t.faultless in
      let ran = ap (λ (us : List Segment). run g 1 (map (seen y) us) (start capacity)) (sym t.same) ∙ parts.ran in
      let gave = ap (λ (us : List Segment). given g (map (seen y) us) (start capacity)) (sym t.same) ∙ parts.gave in
      let w = (whole_iff g u p (seen y) ss).0 (st, ran, q.one_tail st.last e) in
      let tree : assigned w.tree ≡ xs = given-tree y g u p xs ss t.same gave (whole-begins g (seen y) ss w) in
      let enclosed = whole_enclosed g (seen y) u p h q ss w in
      let closes = (closes-last xs (subst (Enclosed h u) tree enclosed) t.same).0 parts.closing in
      record {
        sheet = w;
        clean = subst (Each (Clean y)) t.same parts.clean;
        holds = subst (Each (HoldsAt y g pages)) (sym tree) parts.holds;
        counted = closes.counted;
        referred = closes.referred;
        numbered = subst (λ (zs : List (Given Segment)). Numbered y 1 (with_tag g (bytes_of "LIN") zs)) (sym tree) parts.numbered;
      }
