-- Each lawful state has a world, with its objects ahead in any way in which they may be.
use Rattle.std.proofs.Common.{◌≡◌, arith, ◌*◌, ℕ, ◌<◌, List, take, sym, refl, ap, ◌∙◌, subst}
use Rattle.std.proofs.lemmas.Nat.{mod_below, div_below}
use Rattle.std.proofs.Math.Nat.{mul-lt-mul_of_pos_right, mul_comm}
use Rattle.std.specs.Prelude.{filter, None}
use Rattle.std.specs.List.{AllByRecursion as Each}
use Rattle.event_key.specs.Stamps.{end_stamp}
use Rattle.model_core.specs.declared.event.Event.{Event}
use Rattle.model_core.specs.Meaning.{Meaning}
use Rattle.sim_spec.specs.declared.placement.Placement.TheVariants.{Round, Block}
use Rattle.sim_spec.specs.declared.terms.Terms.{Terms}
use Rattle.world_spec.specs.World.{PlacementLaw}
use Rattle.sim_spec.specs.State.{State, object_at}
use Rattle.key_order.proofs.AscendingLemmas.{Ascends-filter}
use Rattle.key_order.specs.Ascending.{key_of}
use Rattle.sim_spec.specs.Replay.{taken}
use Rattle.world_spec.specs.Share.{Share, IsHome, is_at, IsShareOf, IsAhead}
use Rattle.world_spec.specs.WorldLaws.{WorldsLaw}
use Rattle.world_spec.proofs.NextWorld.{share-homed}
use Rattle.world_spec.proofs.WaitingLemmas.{node_with, node_with-stands}
use Rattle.world_spec.proofs.WorldFacts.{share-events, share-log}

pub placement_law : PlacementLaw
placement_law Round objects nodes object some below = mod_below object nodes (omega arith)
placement_law Block objects nodes object some below =
    let more : object * nodes < objects * nodes = mul-lt-mul_of_pos_right below (omega arith) in
    let turned : objects * nodes ≡ nodes * objects = mul_comm objects nodes in
    div_below (object * nodes) objects nodes (omega arith) (omega arith)

-- a node's share of a state
abbrev pub share_at : (ℕ → ℕ) → State → ℕ → Share
share_at home s node = record { states = object_at s.objects; pending = filter (is_at home node) s.pending }

share_at-is : (m : Meaning) (home : ℕ → ℕ) (s : State) (node : ℕ) → IsShareOf m home s node (share_at home s node)
share_at-is m home s node = record { states = λ object at. refl; pending = refl }

pub worlds_law : (m : Meaning) (t : Terms) → WorldsLaw m t
worlds_law m t home nodes s ahead lawful homes runs = record {
  shares = share_at home s;
  world = record {
    made = λ node. record { model = m; terms = t; nodes = nodes; home = home };
    node = λ node. node_with m (share_at home s node) ahead;
    count = s.count;
    fault = None;
  };
  stands = record {
    lawful = lawful;
    homes = homes;
    made = λ node inside. record { model = refl; terms = refl; number = refl; homes = λ object below. refl };
    shares_of = λ node inside. share_at-is m home s node;
    stands = λ node inside.
        node_with-stands m t home node (share_at home s node) ahead (Ascends-filter key_of (is_at home node) s.pending lawful.ordered) (share-homed m t s home node lawful)
        (λ object at. lawful.cells object at.0) (early node);
    count = refl;
    fault = λ fault is_fault. absurd (cc);
  };
}
  where
    early : (node object : ℕ) → IsHome m home node object → IsAhead m t (share_at home s node) object (ahead object)
    early node object at =
        let own = share_at-is m home s node in
        let one = runs object at.0 in
        let P : List Event → Type 0 = λ es. Each (λ (e : Event). e.key.stamp < end_stamp t.end) (take (ahead object) es) in
        record {
          whole = ap taken (share-log m home s node (share_at home s node) own object (ahead object) at) ∙ one.whole;
          below = subst P (sym (share-events m home s node (share_at home s node) own object at)) one.below;
        }
