-- One move, node by node.
use Rattle.std.proofs.Common.{◌≡◌, ◌≢◌, ◌⊎◌, inl, inr, ℕ, ◌+◌, ◌<◌, ◌≤◌, Bool, true, false, List, length, eqb, eqb-true, slice_set, refl, sym, ap, ◌∙◌, subst, arith}
use Rattle.std.proofs.lemmas.Bool.{eqb-false}
use Rattle.std.proofs.lemmas.List.{get_or-set_same, get_or-set_other, length-map, length-set}
use Rattle.std.proofs.lemmas.Option.{slice_get_within, slice_get-get_or}
use Rattle.std.specs.Prelude.{slice_get, slice_index_or, Some, ◌==◌}
use Rattle.event_key.specs.declared.key.Key.{Key}
use Rattle.key_order.proofs.FilterLemmas.{length-filter_le}
use Rattle.object_log.specs.Dones.{Done}
use Rattle.model_core.specs.Meaning.{Meaning}
use Rattle.sim_spec.specs.declared.terms.Terms.{Terms}
use Rattle.sim_spec.specs.Replay.{events_at}
use Rattle.sim_spec.specs.State.{State}
use Rattle.world_spec.specs.Share.{IsHome}
use Rattle.node_core.specs.Homes.{HomesView, home_of, rehomed}
use Rattle.node_core.specs.Moving.{AreAlikeBut, CanTakeIn, HasTakenIn, HasTakenOut, IsMovable, KeepObjects as KeepsObjects, MovedView}
use Rattle.node_core.specs.Nodes.{NodeView, home, log_at, slot_at}
use Rattle.node_core.proofs.StoreLemmas.{by_object}
use Rattle.cycle_core.specs.Known.{AreKnown}
use Rattle.cycle_core.specs.Moving.{processed_in}
use Rattle.cycle_core.specs.Places.{EachPair}
use Rattle.cycle_core.specs.Worlds.{WorldView, AreNodesOf, IsNodeOf, StandsAt}
use Rattle.cycle_core.proofs.MovingLemmas.{keeps-stands}
use Rattle.cycle_core.proofs.MovingSums.{processed-at, processed-same, processed-set}
use Rattle.cycle_core.proofs.PlaceLemmas.{at-other, at-set, at-some, same-some}
use Rattle.cycle_core.proofs.WorldLemmas.{all-small}
use Rattle.object_moves.specs.declared.step.Step.{Step}
use Rattle.object_moves.specs.Steps.{CanMake, IsStep}

-- the homes after a move
module _ (h h' : HomesView) (object to : ℕ) (is : h' ≡ rehomed h object to) (inside : object < length h.homes) where
  pub moved-alike : AreAlikeBut object h h'
  moved-alike = record {
    nodes = ap (λ (x : HomesView). x.nodes) is;
    objects = ap (λ (x : HomesView). length x.homes) is ∙ length-set h.homes object to;
    others = λ other apart. ap (λ x. home_of x other) is ∙ get_or-set_other h.homes object other to h.nodes apart;
  }

  pub moved-home : home_of h' object ≡ to
  moved-home = ap (λ x. home_of x object) is ∙ get_or-set_same h.homes object to h.nodes inside

-- a node that has neither the object before nor after keeps its objects
pub keeps-objects : (h h' : HomesView) (object from to number : ℕ) → AreAlikeBut object h h' → home_of h object ≡ from → home_of h' object ≡ to → number ≢ from → number ≢ to → KeepsObjects number h h'
keeps-objects h h' object from to number alike from_is to_is off_from off_to =
    let S : ℕ → Type 0 = λ o. home_of h o ≡ number → home_of h' o ≡ number in
    let W : ℕ → Type 0 = λ o. home_of h' o ≡ number → home_of h o ≡ number in
    record {
      nodes = alike.nodes;
      objects = alike.objects;
      stays = λ o. by_object S object o (λ at. absurd (off_from (sym at ∙ from_is))) (λ apart at. alike.others o apart ∙ at);
      was = λ o. by_object W object o (λ at. absurd (off_to (sym at ∙ to_is))) (λ apart at. sym (alike.others o apart) ∙ at);
    }

pub keeps-all : (number : ℕ) (h h' : HomesView) → h ≡ h' → KeepsObjects number h h'
keeps-all number h h' same = record {
  nodes = ap (λ (x : HomesView). x.nodes) (sym same);
  objects = ap (λ (x : HomesView). length x.homes) (sym same);
  stays = λ o at. ap (λ x. home_of x o) (sym same) ∙ at;
  was = λ o at. ap (λ x. home_of x o) same ∙ at;
}

-- a move that can be made of these nodes, call by call: a default is what an index would answer outside of the nodes, and homes are
-- those that a call was given
module _ {M : Type 0} (meaning_of : M → Meaning) (p : Step) (ns : List (NodeView M)) (can : CanMake meaning_of p ns) where
  abbrev w : WorldView M
  w = record can.world { nodes = ns }

  abbrev s : State
  s = can.state

  is : IsStep (processed_in ns) w.homes p
  is = can.step

  stands_so : StandsAt (meaning_of w.model) w s
  stands_so =
      let S : List (NodeView M) → Type 0 = λ nodes. StandsAt (meaning_of w.model) (record can.world { nodes = nodes }) s in
      subst S can.nodes_are can.stands

  abbrev h' : HomesView
  h' = p.copies.homes

  pub alike : AreAlikeBut p.object w.homes h'
  alike = moved-alike w.homes h' p.object p.to is.after is.object

  pub comes : home_of h' p.object ≡ p.to
  comes = moved-home w.homes h' p.object p.to is.after is.object

  pub goes : home_of h' p.object ≢ p.from
  goes same = is.apart (sym same ∙ comes)

  many : length w.nodes ≡ w.homes.nodes
  many = stands_so.has.nodes.many

  pub to-inside : p.to < length w.nodes
  to-inside = let all = many in let low = is.to in omega arith

  pub from-inside : p.from < length w.nodes
  from-inside = let all = many in let low = is.there in omega arith

  -- as many homes as objects, as any node tells
  step-low : (k : ℕ) (n : NodeView M) → slice_get w.nodes k ≡ Some n → length n.homes.homes ≡ (meaning_of n.model).objects → p.object < (meaning_of w.model).objects
  step-low k n at told =
      let n_is = stands_so.has.nodes.each k n at in
      let one = ap (λ (h : HomesView). length h.homes) n_is.homes_is in
      let two = ap (λ v. (meaning_of v).objects) n_is.model_is in
      let low = is.object in
      omega arith

  module _ (default_from : NodeView M) where
    abbrev a : NodeView M
    a = slice_index_or ns p.from default_from

    at_a : slice_get w.nodes p.from ≡ Some a
    at_a = slice_get-get_or ns p.from default_from from-inside

    a_is : IsNodeOf w.model w.terms w.homes p.from a
    a_is = stands_so.has.nodes.each p.from a at_a

    pub step-here : (default : NodeView M) → length (slice_index_or ns p.from default).homes.homes ≡ (meaning_of (slice_index_or ns p.from default).model).objects
        → IsHome (meaning_of a.model) (home a) a.number p.object
    step-here default told =
        let V : M → Type 0 = λ v. p.object < (meaning_of v).objects in
        let low = step-low p.from (slice_index_or ns p.from default) (slice_get-get_or ns p.from default from-inside) told in
        (subst V (sym a_is.model_is) low, ap (λ h. home_of h p.object) a_is.homes_is ∙ is.from ∙ sym a_is.number_is)

    pub step-alike : (h : HomesView) → h ≡ h' → AreAlikeBut p.object a.homes h
    step-alike h h_is =
        let P : HomesView → HomesView → Type 0 = λ x y. AreAlikeBut p.object x y in
        subst (P a.homes) (sym h_is) (subst (λ x. P x h') (sym a_is.homes_is) alike)

    pub step-goes : (h : HomesView) → h ≡ h' → home_of h p.object ≢ a.number
    step-goes h h_is same = goes (ap (λ x. home_of x p.object) (sym h_is) ∙ same ∙ a_is.number_is)

    -- there is room for what the object has processed
    pub step-room : AreKnown meaning_of w.nodes → length (log_at a.logs p.object).done ≤ p.room.events
    step-room known =
        let own = length-filter_le (λ (k : Key). k.dest == p.object) a.processed in
        let keys = ap length ((known p.from a at_a).keys.parts p.object) in
        let long = length-map (log_at a.logs p.object).done (λ (d : Done). d.event.key) in
        let part = processed-at ns p.from a at_a in
        let room = is.room in
        omega arith

    module _ (a' : NodeView M) (moved : MovedView) (h_out : HomesView) (out_is : h_out ≡ h') (taken : HasTakenOut (meaning_of a.model) p.object h_out a a' moved) (room_is : moved.room ≡ p.room.events)
        (places_are : moved.places ≡ p.room.places) where
      out : HasTakenOut (meaning_of a.model) p.object h' a a' moved
      out = let P : HomesView → Type 0 = λ h. HasTakenOut (meaning_of a.model) p.object h a a' moved in subst P out_is taken

      abbrev mid : List (NodeView M)
      mid = slice_set w.nodes p.from a'

      mid-to : slice_get mid p.to ≡ slice_get w.nodes p.to
      mid-to = at-other w.nodes p.from p.to a' (λ same. is.apart (sym same))

      mid-sum : processed_in mid + length moved.log.done ≡ processed_in w.nodes
      mid-sum = let sums = processed-set w.nodes p.from a a' at_a in let less = out.processed in omega arith

      module _ (default_to : NodeView M) where
        abbrev b : NodeView M
        b = slice_index_or mid p.to default_to

        at_b : slice_get w.nodes p.to ≡ Some b
        at_b = let long = length-set ns p.from a' in let low = to-inside in sym mid-to ∙ slice_get-get_or mid p.to default_to (omega arith)

        b_is : IsNodeOf w.model w.terms w.homes p.to b
        b_is = stands_so.has.nodes.each p.to b at_b

        can-take : AreKnown meaning_of w.nodes → CanTakeIn (meaning_of b.model) h' b moved
        can-take known =
            let small = all-small meaning_of w s stands_so known in
            let small_a = (small p.from a at_a).few in
            let small_b = (small p.to b at_b).few in
            let I : M → Terms → Type 0 = λ v t. IsMovable (meaning_of v) t moved in
            let model : a.model ≡ b.model = a_is.model_is ∙ sym b_is.model_is in
            let terms : a.terms ≡ b.terms = a_is.terms_is ∙ sym b_is.terms_is in
            let movable : IsMovable (meaning_of b.model) b.terms moved = subst (λ t. I b.model t) terms (subst (λ v. I v a.terms) model out.movable) in
            let less = out.processed in let waits = out.total in
            let sum = mid-sum in let part = processed-at mid p.to b (mid-to ∙ at_b) in let room = is.room in
            let A : ℕ → HomesView → Type 0 = λ o h. AreAlikeBut o h h' in
            record {
              movable = movable;
              homes_are = subst (λ o. A o b.homes) (sym out.number) (subst (A p.object) (sym b_is.homes_is) alike);
              away = λ same. is.apart (sym is.from ∙ ap (home_of w.homes) (sym out.number) ∙ ap (λ h. home_of h moved.log.object) (sym b_is.homes_is) ∙ same ∙ b_is.number_is);
              comes = ap (home_of h') out.number ∙ comes ∙ sym b_is.number_is;
              room = omega arith;
              places = (let all = is.objects in let long = ap (λ (h : HomesView). length h.homes) b_is.homes_is in omega arith);
              few = omega arith;
            }

        pub can-take-in : (h : HomesView) → h ≡ h' → AreKnown meaning_of w.nodes → CanTakeIn (meaning_of b.model) h b moved
        can-take-in h h_is known =
            let P : HomesView → Type 0 = λ x. CanTakeIn (meaning_of b.model) x b moved in
            subst P (sym h_is) (can-take known)

        module _ (b' : NodeView M) (h_in : HomesView) (in_is : h_in ≡ h') (got : HasTakenIn h_in b b' moved) where
          came : HasTakenIn h' b b' moved
          came = let P : HomesView → Type 0 = λ h. HasTakenIn h b b' moved in subst P in_is got

          abbrev mids : List (NodeView M)
          mids = slice_set mid p.to b'

          abbrev with_homes : NodeView M → NodeView M
          with_homes n = record n { homes = h' }

          mids-sum : processed_in mids ≡ processed_in w.nodes
          mids-sum = let sums = processed-set mid p.to b b' (mid-to ∙ at_b) in let more = came.processed in let sum = mid-sum in omega arith

          -- a place of the nodes after both
          pub mids-at : (k : ℕ) (x : NodeView M) → slice_get mids k ≡ Some x
              → ((k ≡ p.to) × (x ≡ b')) ⊎ (((k ≡ p.from) × (x ≡ a')) ⊎ ((k ≢ p.from) × (k ≢ p.to) × (slice_get w.nodes k ≡ Some x)))
          mids-at k x at = by_to (eqb k p.to) refl
            where
              inside : k < length w.nodes
              inside = let lt = slice_get_within mids k x at in let one = length-set mid p.to b' in let two = length-set w.nodes p.from a' in omega arith

              by_from : k ≢ p.to → (t : Bool) → eqb k p.from ≡ t
                  → ((k ≡ p.to) × (x ≡ b')) ⊎ (((k ≡ p.from) × (x ≡ a')) ⊎ ((k ≢ p.from) × (k ≢ p.to) × (slice_get w.nodes k ≡ Some x)))
              by_from off true e =
                  let same = eqb-true k p.from e in
                  let here : slice_get mids k ≡ Some a' = at-other mid p.to k b' off ∙ ap (slice_get mid) same ∙ at-set w.nodes p.from a' (let lt = inside in omega arith) in
                  inr (inl (same, same-some x a' (sym at ∙ here)))
              by_from off false e =
                  let apart = eqb-false k p.from e in
                  inr (inr (apart, off, sym (at-other mid p.to k b' off ∙ at-other w.nodes p.from k a' apart) ∙ at))

              by_to : (t : Bool) → eqb k p.to ≡ t → ((k ≡ p.to) × (x ≡ b')) ⊎ (((k ≡ p.from) × (x ≡ a')) ⊎ ((k ≢ p.from) × (k ≢ p.to) × (slice_get w.nodes k ≡ Some x)))
              by_to true e =
                  let same = eqb-true k p.to e in
                  let wide = length-set w.nodes p.from a' in
                  let here : slice_get mids k ≡ Some b' = ap (slice_get mids) same ∙ at-set mid p.to b' (let lt = to-inside in omega arith) in
                  inl (same, same-some x b' (sym at ∙ here))
              by_to false e = by_from (eqb-false k p.to e) (eqb k p.from) refl

          -- each node keeps its objects under the new homes
          keep : (k : ℕ) (x : NodeView M) → slice_get mids k ≡ Some x → KeepsObjects x.number x.homes h'
          keep k x at = elim (mids-at k x at) [
            | inl to ↦ keeps-all x.number x.homes h' (ap (λ (n : NodeView M). n.homes) to.1 ∙ came.same.homes_are)
            | inr more ↦ (elim more [
              | inl from ↦ keeps-all x.number x.homes h' (ap (λ (n : NodeView M). n.homes) from.1 ∙ out.same.homes_are)
              | inr rest ↦ (
                  let x_is = stands_so.has.nodes.each k x rest.2 in
                  let P : ℕ → HomesView → Type 0 = λ n h. KeepsObjects n h h' in
                  subst (λ n. P n x.homes) (sym x_is.number_is)
                  (subst (P k) (sym x_is.homes_is) (keeps-objects w.homes h' p.object p.from p.to k alike is.from comes rest.0 rest.1)))
            ])
          ]

          pub all-keep : (h : HomesView) → h ≡ h' → (k : ℕ) (x : NodeView M) → slice_get mids k ≡ Some x → KeepsObjects x.number x.homes h
          all-keep h h_is k x at = let P : HomesView → Type 0 = λ y. KeepsObjects x.number x.homes y in subst P (sym h_is) (keep k x at)

          module _ (news : List (NodeView M)) (h_new : HomesView) (new_is : h_new ≡ h') (rehomed_so : EachPair (λ (x y : NodeView M). y ≡ record x { homes = h_new }) mids news) where
            pairs : EachPair (λ (x y : NodeView M). y ≡ record x { homes = h' }) mids news
            pairs = let P : HomesView → Type 0 = λ h. EachPair (λ (x y : NodeView M). y ≡ record x { homes = h }) mids news in subst P new_is rehomed_so

            news-many : length news ≡ length w.nodes
            news-many = let all = pairs.many in let one = length-set mid p.to b' in let two = length-set w.nodes p.from a' in omega arith

            -- what stands at a place then
            news-at : (k : ℕ) (y : NodeView M) → slice_get news k ≡ Some y → (x : NodeView M) × (slice_get mids k ≡ Some x) × (y ≡ with_homes x)
            news-at k y at =
                let lt = slice_get_within news k y at in
                let all = pairs.many in
                let x = at-some mids k (omega arith) in
                (x.0, x.1, pairs.pairs k x.0 y x.1 at)

            node-of : (k : ℕ) (x : NodeView M) → slice_get mids k ≡ Some x → (x.model ≡ w.model) × (x.terms ≡ w.terms) × (x.number ≡ k)
            node-of k x at = elim (mids-at k x at) [
              | inl to ↦ (
                ap (λ (n : NodeView M). n.model) to.1 ∙ came.same.model ∙ b_is.model_is,
                ap (λ (n : NodeView M). n.terms) to.1 ∙ came.same.terms ∙ b_is.terms_is,
                ap (λ (n : NodeView M). n.number) to.1 ∙ came.same.number ∙ b_is.number_is ∙ sym to.0,
              )
              | inr more ↦ (elim more [
                | inl from ↦ (
                  ap (λ (n : NodeView M). n.model) from.1 ∙ out.same.model ∙ a_is.model_is,
                  ap (λ (n : NodeView M). n.terms) from.1 ∙ out.same.terms ∙ a_is.terms_is,
                  ap (λ (n : NodeView M). n.number) from.1 ∙ out.same.number ∙ a_is.number_is ∙ sym from.0,
                )
                | inr rest ↦ (let x_is = stands_so.has.nodes.each k x rest.2 in (x_is.model_is, x_is.terms_is, x_is.number_is))
              ])
            ]

            news-are : AreNodesOf w.model w.terms h' news
            news-are = record {
              many = news-many ∙ many ∙ sym alike.nodes;
              some = (let all = news-many in let some = stands_so.has.nodes.some in omega arith);
              each = λ k y at.
                  let x = news-at k y at in
                  let of = node-of k x.0 x.1 in
                  record {
                    model_is = ap (λ (n : NodeView M). n.model) x.2 ∙ of.0;
                    terms_is = ap (λ (n : NodeView M). n.terms) x.2 ∙ of.1;
                    homes_is = ap (λ (n : NodeView M). n.homes) x.2;
                    number_is = ap (λ (n : NodeView M). n.number) x.2 ∙ of.2;
                  };
            }

            -- the object's own log and events
            own-log : slot_at b'.logs p.object ≡ slot_at a.logs p.object
            own-log = (let P : ℕ → Type 0 = λ o. slot_at b'.logs o ≡ Some moved.log in subst P out.number came.logs.here) ∙ sym out.logs.was

            own-waits : events_at p.object b'.waiting ≡ events_at p.object a.waiting
            own-waits = (let P : ℕ → Type 0 = λ o. events_at o b'.waiting ≡ moved.waiting in subst P out.number came.waiting) ∙ out.waiting

            record StayAt (o : ℕ) (x y : NodeView M) : Type 0 where
              logs : slot_at y.logs o ≡ slot_at x.logs o
              waits : events_at o y.waiting ≡ events_at o x.waiting

            other-stays : (o k : ℕ) (x y : NodeView M) → o ≢ p.object → slice_get w.nodes k ≡ Some x → slice_get mids k ≡ Some y → StayAt o x y
            other-stays o k x y apart at_old at_mid =
                let off : o ≢ moved.log.object = λ same. apart (same ∙ out.number) in
                elim (mids-at k y at_mid) [
                  | inl to ↦ (
                      let x_is : x ≡ b = same-some x b (sym at_old ∙ ap (slice_get w.nodes) to.0 ∙ at_b) in
                      record {
                        logs = ap (λ (n : NodeView M). slot_at n.logs o) to.1 ∙ came.logs.others o off ∙ ap (λ (n : NodeView M). slot_at n.logs o) (sym x_is);
                        waits = ap (λ (n : NodeView M). events_at o n.waiting) to.1 ∙ came.rest o off ∙ ap (λ (n : NodeView M). events_at o n.waiting) (sym x_is);
                      })
                  | inr more ↦ (elim more [
                    | inl from ↦ (
                        let x_is : x ≡ a = same-some x a (sym at_old ∙ ap (slice_get w.nodes) from.0 ∙ at_a) in
                        record {
                          logs = ap (λ (n : NodeView M). slot_at n.logs o) from.1 ∙ out.logs.others o apart ∙ ap (λ (n : NodeView M). slot_at n.logs o) (sym x_is);
                          waits = ap (λ (n : NodeView M). events_at o n.waiting) from.1 ∙ out.rest o apart ∙ ap (λ (n : NodeView M). events_at o n.waiting) (sym x_is);
                        })
                    | inr rest ↦ (
                        let same : y ≡ x = same-some y x (sym rest.2 ∙ at_old) in
                        record { logs = ap (λ (n : NodeView M). slot_at n.logs o) same; waits = ap (λ (n : NodeView M). events_at o n.waiting) same })
                  ])
                ]

            stay-at : (o : ℕ) (x y : NodeView M) → slice_get w.nodes (home_of w.homes o) ≡ Some x → slice_get news (home_of h' o) ≡ Some y → StayAt o x y
            stay-at o x y at_old at_new = by_object P p.object o own elsewhere x y at_old at_new
              where
                P : ℕ → Type 0
                P o = (x y : NodeView M) → slice_get w.nodes (home_of w.homes o) ≡ Some x → slice_get news (home_of h' o) ≡ Some y → StayAt o x y

                own : (x y : NodeView M) → slice_get w.nodes (home_of w.homes p.object) ≡ Some x → slice_get news (home_of h' p.object) ≡ Some y → StayAt p.object x y
                own x y at_old at_new =
                    let x_is : x ≡ a = same-some x a (sym at_old ∙ ap (slice_get w.nodes) is.from ∙ at_a) in
                    let v = news-at p.to y (ap (slice_get news) (sym comes) ∙ at_new) in
                    let wide = length-set w.nodes p.from a' in
                    let here : slice_get mids p.to ≡ Some b' = at-set mid p.to b' (let lt = to-inside in omega arith) in
                    let v_is : v.0 ≡ b' = same-some v.0 b' (sym v.1 ∙ here) in
                    record {
                      logs = ap (λ (n : NodeView M). slot_at n.logs p.object) v.2 ∙ ap (λ (n : NodeView M). slot_at n.logs p.object) v_is ∙ own-log ∙ ap (λ (n : NodeView M). slot_at n.logs p.object) (sym x_is);
                      waits = ap (λ (n : NodeView M). events_at p.object n.waiting) v.2 ∙ ap (λ (n : NodeView M). events_at p.object n.waiting) v_is ∙ own-waits ∙ ap (λ (n : NodeView M). events_at p.object n.waiting) (sym x_is);
                    }

                elsewhere : o ≢ p.object → (x y : NodeView M) → slice_get w.nodes (home_of w.homes o) ≡ Some x → slice_get news (home_of h' o) ≡ Some y → StayAt o x y
                elsewhere apart x y at_old at_new =
                    let v = news-at (home_of h' o) y at_new in
                    let stay = other-stays o (home_of h' o) x v.0 apart (ap (slice_get w.nodes) (alike.others o apart) ∙ at_old) v.1 in
                    record {
                      logs = ap (λ (n : NodeView M). slot_at n.logs o) v.2 ∙ stay.logs;
                      waits = ap (λ (n : NodeView M). events_at o n.waiting) v.2 ∙ stay.waits;
                    }

            placed : (object : ℕ) → object < (meaning_of w.model).objects → home_of h' object < h'.nodes
            placed o low =
                let P : ℕ → Type 0 = λ o. o < (meaning_of w.model).objects → home_of h' o < h'.nodes in
                let nodes = alike.nodes in
                by_object P p.object o (λ low. let at = comes in let below = is.to in omega arith)
                (λ apart low. let at = alike.others o apart in let below = stands_so.stands.homes o low in omega arith) low

            pub move-stands : AreKnown meaning_of news → StandsAt (meaning_of w.model) (record w { nodes = news; homes = h' }) s
            move-stands known = keeps-stands meaning_of w s h' news stands_so news-are placed known (record {
              logs = λ o x y at_old at_new. (stay-at o x y at_old at_new).logs;
              waiting = λ o x y at_old at_new. (stay-at o x y at_old at_new).waits;
            })

            pub move-sum : processed_in news ≡ processed_in w.nodes
            move-sum = processed-same mids news pairs.many (λ k x y at_old at_new. ap (λ (n : NodeView M). length n.processed) (pairs.pairs k x y at_old at_new)) ∙ mids-sum
