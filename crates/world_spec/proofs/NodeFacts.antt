-- What a node stands for, object by object.
use Rattle.std.proofs.Common.{Bool, List, [], ap, cond, drop, eq-eqb, eqb, false, refl, subst, true, ℕ, ◌∙◌, ◌∷◌, ◌≡◌}
use Rattle.std.specs.List.{AllByRecursion as Each}
use Rattle.model_core.specs.Meaning.{Meaning}
use Rattle.model_core.specs.declared.event.Event.{Event}
use Rattle.sim_spec.specs.Replay.{events_at}
use Rattle.sim_spec.specs.declared.terms.Terms.{Terms}
use Rattle.world_spec.specs.Share.{IsAhead, IsAtHome, IsHome, NodeData, Share, StandsFor, log_of}

-- only how far a node's own objects are counts
pub stands-same : (m : Meaning) (t : Terms) (home : ℕ → ℕ) (node : ℕ) (share : Share) (a b : ℕ → ℕ) (held : NodeData) → ((object : ℕ) → IsHome m home node object → a object ≡ b object)
    → StandsFor m t home node share a held → StandsFor m t home node share b held
stands-same m t home node share a b held same stands = record {
  ordered = stands.ordered;
  homed = stands.homed;
  cells = stands.cells;
  early = λ object at. let P : ℕ → Type 0 = λ n. IsAhead m t share object n in subst P (same object at) (stands.early object at);
  logs = λ object at. stands.logs object at ∙ ap (log_of m share object) (same object at);
  waiting_ordered = stands.waiting_ordered;
  waiting_homed = stands.waiting_homed;
  waiting = λ object at. stands.waiting object at ∙ ap (λ n. drop n (events_at object share.pending)) (same object at);
}

-- a property object by object
pub each-object : (P : Event → Type 0) (m : Meaning) (home : ℕ → ℕ) (node : ℕ) (es : List Event) → Each (IsAtHome m home node) es → ((object : ℕ) → IsHome m home node object → Each P (events_at object es)) → Each P es
unfolding events_at
each-object P m home node [] homed parts = tt
each-object P m home node (e ∷ es) homed parts =
    let Q : Bool → Type 0 = λ b. Each P (cond b (e ∷ events_at e.key.dest es) (events_at e.key.dest es)) in
    let here : Each P (e ∷ events_at e.key.dest es) = subst Q (eq-eqb e.key.dest e.key.dest refl) (parts e.key.dest homed.0) in
    (here.0, each-object P m home node es homed.1 (λ object at. other object (parts object at)))
  where
    other : (object : ℕ) → Each P (cond (eqb e.key.dest object) (e ∷ events_at object es) (events_at object es)) → Each P (events_at object es)
    other object h = by_test (eqb e.key.dest object) h
      where
        by_test : (b : Bool) → Each P (cond b (e ∷ events_at object es) (events_at object es)) → Each P (events_at object es)
        by_test true h = h.1
        by_test false h = h
