-- What the nodes have released comes to them.
use Rattle.std.proofs.Common.{◌≡◌, ℕ, ◌<◌, ◌^◌, All, List, [], ◌∷◌, ◌++◌, length, map, refl, sym, ap, ◌∙◌, subst, arith}
use Rattle.std.specs.Prelude.{IsPermutation, slice_get, slice_index_or, Some}
use Rattle.std.specs.List.{AllZip, range_with_len}
use Rattle.std.proofs.lemmas.List.{get_or-map}
use Rattle.std.proofs.lemmas.List.Sorted.{IsPermutation-trans, length_permutation}
use Rattle.std.proofs.lemmas.Option.{get_or_from_slice_get, slice_get_within}
use Rattle.model_core.specs.declared.event.Event.{Event}
use Rattle.model_core.specs.Meaning.{Meaning}
use Rattle.release_lanes.specs.declared.lanes.NodeEnd.{Ghosts as NodeEnd}
use Rattle.release_lanes.specs.declared.parcel.Parcel.{Parcel}
use Rattle.release_lanes.specs.Lanes.{AllReceived, Meets}
use Rattle.release_lanes.proofs.Numbers.{mapped_alike}
use Rattle.parcel_exchange.specs.declared.inbox.Inbox.{Inbox}
use Rattle.parcel_exchange.specs.Inboxes.{coming, HasArrived}
use Rattle.parcel_exchange.specs.Team.{handed_to}
use Rattle.parcel_exchange.proofs.Arrivals.{all_come}
use Rattle.node_core.specs.declared.committed.Committed.{Committed}
use Rattle.cycle_core.specs.Blank.{AreBlank}
use Rattle.cycle_core.specs.Cuts.{CanEnd}
use Rattle.cycle_core.specs.Ends.{sent_in, sent_to}
use Rattle.cycle_core.specs.Places.{AtEach}
use Rattle.cycle_core.specs.Sendings.{HaveSent}
use Rattle.cycle_core.proofs.CyclingLemmas.{sends-to}
use Rattle.cycle_core.proofs.PlaceLemmas.{at-some}
use Rattle.node_team.proofs.ReleaseLemmas.{free-many, posted-exchanged, posted-sent, posted-arrived, posted-same}
use Rattle.node_team.specs.declared.releasing.Due.{Due}
use Rattle.node_team.specs.Desks.{Desks, CanAllRelease, HaveReleased}
use Rattle.node_team.specs.Releases.{arrived_in, AreClear, AreFree, HaveCome}

-- what commits hand out to a node is what is sent to it
handed-sent : (to : ℕ) (all : List Committed) → handed_to sent_in to all ≡ sent_to to all
unfolding sent_to
handed-sent to [] = refl
handed-sent to (c ∷ cs) = ap (λ l. slice_index_or c.out.items to [] ++ l) (handed-sent to cs)

-- nothing waits early where all has arrived
arrived-early : (nodes : ℕ) (rest : ℕ → ℕ → List Parcel) (old new : List Inbox) → length new ≡ length old
    → ((to : ℕ) (x y : Inbox) → slice_get old to ≡ Some x → slice_get new to ≡ Some y → HasArrived nodes (λ from. rest from to) x y) → AtEach (λ place inbox. inbox.early.items ≡ []) new
arrived-early nodes rest old new many arrived to inbox at =
    let within = slice_get_within new to inbox at in
    let x = at-some old to (omega arith) in
    (arrived to x.0 inbox x.1 at).emptied

module _ {M E : Type 0} (lanes : NodeEnd E) (meaning_of : M → Meaning) (due : Due) (before after : Desks M E) (can : CanAllRelease lanes meaning_of due before) (released : HaveReleased lanes meaning_of due before after) where
  -- there are as many of each as nodes
  as-many : length before.inboxes ≡ length released.handed
  as-many = can.clear.many ∙ sym released.committed.count

  as-wide : length before.ends ≡ length released.handed
  as-wide = free-many lanes (length before.nodes) before.ends can.free ∙ sym released.committed.count

  pub inboxes-many : length after.inboxes ≡ length before.nodes
  inboxes-many = released.posted.as_many_inboxes ∙ can.clear.many

  pub released-sent : HaveSent released.handed after.committed
  released-sent = posted-sent lanes released.handed after.committed before.inboxes after.inboxes before.ends after.ends released.posted as-many as-wide

  pub released-same : AllZip lanes.is_same before.ends after.ends
  released-same = posted-same lanes released.handed after.committed before.inboxes after.inboxes before.ends after.ends released.posted as-many as-wide

  module _ (agree : (x y : E) → lanes.is_same x y → lanes.number y ≡ lanes.number x) (even : AllReceived lanes.sent lanes.received before.ends) (sent_on received_on rest_on : ℕ → ℕ → List Parcel)
      (gave_sent : All (λ end. (to : ℕ) → sent_on (lanes.number end) to ≡ lanes.sent end to) after.ends) (gave_received : All (λ end. (from : ℕ) → received_on from (lanes.number end) ≡ lanes.received end from) after.ends)
      (met : Meets (length before.nodes) received_on rest_on sent_on) where
    -- what comes to a node is what was sent to it
    released-comes : (to : ℕ) (inbox : Inbox) → slice_get after.inboxes to ≡ Some inbox → IsPermutation (sent_to to released.handed) (coming (length after.inboxes) (λ from. rest_on from to) inbox)
    released-comes to inbox at =
        let handed = released.handed in
        let long = inboxes-many in
        let wide : AtEach (λ number c. length c.out.items ≡ length handed) handed =
        λ place x there. (sends-to meaning_of due.bound due.below before.nodes after.nodes handed can.can.wide released.committed place x there).long ∙ sym released.committed.count in
        let numbers = mapped_alike lanes.is_same lanes.number agree before.ends after.ends released-same ∙ can.free.numbers ∙ ap (range_with_len 0) (sym long) in
        let P : List Event → Type 0 = λ l. IsPermutation l (coming (length after.inboxes) (λ from. rest_on from to) inbox) in
        subst P (handed-sent to handed)
        (all_come lanes.number lanes.sent lanes.received sent_in handed after.inboxes before.ends after.ends sent_on received_on rest_on
        (free-many lanes (length before.nodes) before.ends can.free ∙ sym long) numbers even
        (posted-exchanged lanes handed after.committed before.inboxes after.inboxes before.ends after.ends released.posted as-many as-wide wide)
        gave_sent gave_received (λ i j first second. met i j (omega arith) (omega arith)) to inbox at
        (posted-arrived lanes handed after.committed before.inboxes after.inboxes before.ends after.ends released.posted as-many as-wide can.clear.arrived to inbox at))

    -- and is few
    pub released-few : (to : ℕ) (inbox : Inbox) → slice_get after.inboxes to ≡ Some inbox → length (coming (length after.inboxes) (λ from. rest_on from to) inbox) < 2 ^ 60
    released-few to inbox at =
        let long = inboxes-many in
        let within = slice_get_within after.inboxes to inbox at in
        let count = length_permutation _ _ (released-comes to inbox at) in
        let few = can.can.sent after.nodes released.handed released.committed to (omega arith) in
        omega arith

    -- once it has arrived
    pub released-arrives : (later : List Inbox) → length later ≡ length after.inboxes
        → ((to : ℕ) (x y : Inbox) → slice_get after.inboxes to ≡ Some x → slice_get later to ≡ Some y → HasArrived (length after.inboxes) (λ from. rest_on from to) x y)
        → (to : ℕ) → to < length before.nodes → IsPermutation (sent_to to released.handed) (slice_index_or (map arrived_in later) to [])
    released-arrives later many arrived to less =
        let long = inboxes-many in
        let x = at-some after.inboxes to (omega arith) in
        let y = at-some later to (omega arith) in
        let within = slice_get_within later to y.0 y.1 in
        let is = get_or-map arrived_in later to y.0 [] within ∙ ap arrived_in (get_or_from_slice_get later to y.0 y.0 y.1) in
        let P : List Event → Type 0 = λ l. IsPermutation (sent_to to released.handed) l in
        subst P (sym is) (IsPermutation-trans _ _ _ (released-comes to x.0 x.1) (arrived to x.0 y.0 x.1 y.1).all)

    -- so all has come
    pub have-come : (later : List Inbox) → length later ≡ length after.inboxes
        → ((to : ℕ) (x y : Inbox) → slice_get after.inboxes to ≡ Some x → slice_get later to ≡ Some y → HasArrived (length after.inboxes) (λ from. rest_on from to) x y)
        → HaveCome meaning_of due.bound due.below before.nodes after.nodes after.committed later
    have-come later many arrived = record {
      handed = released.handed;
      committed = released.committed;
      sent = released-sent;
      many = many ∙ inboxes-many;
      early = arrived-early (length after.inboxes) rest_on after.inboxes later many arrived;
      comes = released-arrives later many arrived;
    }

module _ {M E : Type 0} (lanes : NodeEnd E) (meaning_of : M → Meaning) (due : Due) where
  -- the nodes of a world can release what is due
  pub can-all : (all : Desks M E) (wide : ℕ) (ends : List E) (inboxes : List Inbox) → all.ends ≡ ends → all.inboxes ≡ inboxes → wide ≡ length all.nodes
      → CanEnd meaning_of due.bound due.below all.nodes → AtEach (λ place n. n.number ≡ place) all.nodes → length all.nodes < 2 ^ 32 → AreBlank (length all.nodes) all.committed → AreClear (length all.nodes) inboxes
      → map lanes.number ends ≡ range_with_len 0 wide → All (λ end. lanes.nodes end ≡ wide) ends → All (λ end. (to : ℕ) → to < wide → lanes.is_free end to) ends
      → CanAllRelease lanes meaning_of due all
  can-all all wide ends inboxes es is n can numbered few blank clear numbers count free =
      let F : ℕ → List E → Type 0 = AreFree lanes in
      record {
        can = can;
        numbered = numbered;
        free = subst (λ k. F k all.ends) n (subst (F wide) (sym es) (record { numbers = numbers; wide = count; free = free }));
        blank = blank;
        clear = subst (AreClear (length all.nodes)) (sym is) clear;
        few = few;
      }
