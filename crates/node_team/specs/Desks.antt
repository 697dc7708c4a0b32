-- Nodes that release, each beside what it releases by.
use Rattle.std.specs.Prelude.{◌≡◌, ℕ, ◌*◌, ◌<◌, ◌^◌, List, [], ◌∷◌, length}
use Rattle.std.specs.List.{AllByRecursion, AllZip}
use Rattle.model_core.specs.Meaning.{Meaning}
use Rattle.world_spec.specs.Moves.{IsDueDone}
use Rattle.release_lanes.specs.declared.lanes.NodeEnd.{Ghosts as NodeEnd}
use Rattle.parcel_exchange.specs.declared.inbox.Inbox.{Inbox}
use Rattle.node_core.specs.declared.committed.Committed.{Committed}
use Rattle.node_core.specs.Blank.{IsBlank}
use Rattle.node_core.specs.Calls.{HasCommitted}
use Rattle.node_core.specs.Nodes.{NodeView, home, data_of}
use Rattle.cycle_core.specs.Blank.{AreBlank}
use Rattle.cycle_core.specs.Cuts.{CanEnd}
use Rattle.cycle_core.specs.Ends.{CommitUpto}
use Rattle.cycle_core.specs.Places.{AtEach}
use Rattle.node_team.specs.declared.releasing.Due.{Due}
use Rattle.node_team.specs.Releases.{AreClear, AreFree, HasPosted, HavePosted}

-- a node, its end of the lanes, what it commits, and what comes to it
pub record Desk (M E : Type 0) : Type 0 where
  pub node : NodeView M
  pub end : E
  pub commit : Committed
  pub inbox : Inbox

-- those of several nodes, in four lists
pub record Desks (M E : Type 0) : Type 0 where
  pub nodes : List (NodeView M)
  pub ends : List E
  pub committed : List Committed
  pub inboxes : List Inbox

module _ {M E : Type 0} where
  abbrev pub desk_of : NodeView M → E → Committed → Inbox → Desk M E
  desk_of node end commit inbox = record { node = node; end = end; commit = commit; inbox = inbox }

  abbrev pub desks_of : List (NodeView M) → List E → List Committed → List Inbox → Desks M E
  desks_of nodes ends committed inboxes = record { nodes = nodes; ends = ends; committed = committed; inboxes = inboxes }

  -- as many of each part as there are nodes
  pub record AreAsMany (all : Desks M E) : Type 0 where
    pub ends : length all.ends ≡ length all.nodes
    pub committed : length all.committed ≡ length all.nodes
    pub inboxes : length all.inboxes ≡ length all.nodes

  -- what stands at the same place of four lists, place by place
  unfoldable pub zip_desks : List (NodeView M) → List E → List Committed → List Inbox → List (Desk M E)
  zip_desks (n ∷ ns) (e ∷ es) (c ∷ cs) (i ∷ is) = desk_of n e c i ∷ zip_desks ns es cs is
  zip_desks ns es cs is = []

  abbrev pub desks_in : Desks M E → List (Desk M E)
  desks_in all = zip_desks all.nodes all.ends all.committed all.inboxes

  module _ (lanes : NodeEnd E) (meaning_of : M → Meaning) (due : Due) where
    -- the node can commit what is due, and its end can post it
    pub record CanRelease (desk : Desk M E) : Type 0 where
      pub done : IsDueDone (meaning_of desk.node.model) (home desk.node) desk.node.number due.bound due.below (data_of desk.node)
      pub few : 8 * length desk.node.processed < 2 ^ 60
      pub blank : IsBlank desk.node.homes.nodes desk.commit
      pub early : desk.inbox.early.items ≡ []
      pub number : lanes.number desk.end ≡ desk.node.number
      pub wide : lanes.nodes desk.end ≡ desk.node.homes.nodes
      pub narrow : desk.node.homes.nodes < 2 ^ 32
      pub free : (to : ℕ) → to < desk.node.homes.nodes → lanes.is_free desk.end to

    -- the node has committed what was due, and its end has posted it
    pub record HasReleased (old new : Desk M E) : Type 0 where
      pub handed : Committed
      pub commits : HasCommitted (meaning_of old.node.model) due.bound due.below old.node new.node handed.done.items handed.out.items
      pub posted : HasPosted lanes old.node.number handed new.commit old.inbox new.inbox old.end new.end

    -- each of these can
    pub record CanServe (all : Desks M E) : Type 0 where
      pub many : AreAsMany all
      pub each : AllByRecursion CanRelease (desks_in all)

    -- each has
    pub record HaveServed (old new : Desks M E) : Type 0 where
      pub many : AreAsMany new
      pub each : AllZip HasReleased (desks_in old) (desks_in new)

    -- the nodes of a world can, as one
    pub record CanAllRelease (all : Desks M E) : Type 0 where
      pub can : CanEnd meaning_of due.bound due.below all.nodes
      pub numbered : AtEach (λ place n. n.number ≡ place) all.nodes
      pub free : AreFree lanes (length all.nodes) all.ends
      pub blank : AreBlank (length all.nodes) all.committed
      pub clear : AreClear (length all.nodes) all.inboxes
      pub few : length all.nodes < 2 ^ 32

    -- each of them has committed what was due, and its end has posted it
    pub record HaveReleased (old new : Desks M E) : Type 0 where
      pub handed : List Committed
      pub committed : CommitUpto meaning_of due.bound due.below (length old.nodes) old.nodes new.nodes handed
      pub posted : HavePosted lanes handed new.committed old.inboxes new.inboxes old.ends new.ends
