-- A world whose nodes changed, and nothing else.
use Rattle.std.proofs.Common.{◌≡◌, List, sym, ap, ◌∙◌}
use Rattle.node_core.specs.Nodes.{NodeView}
use Rattle.cycle_core.specs.Worlds.{WorldView, IsSameWorld}

module _ {M : Type 0} where
  -- it differs in its nodes alone, from whatever it was the same as
  pub nodes-alone : (old mid new : WorldView M) (nodes : List (NodeView M)) → mid ≡ old → new ≡ record mid { nodes = nodes } → new ≡ record old { nodes = new.nodes }
  nodes-alone old mid new nodes same is =
      let with_nodes : List (NodeView M) → WorldView M → WorldView M = λ ns w. record w { nodes = ns } in
      is ∙ ap (with_nodes nodes) same ∙ ap (λ ns. with_nodes ns old) (sym (ap (λ (w : WorldView M). w.nodes) is))

  pub same-made : (old new : WorldView M) (nodes : List (NodeView M)) → new ≡ record old { nodes = nodes } → IsSameWorld old new
  same-made old new nodes is = record { model = ap (λ (w : WorldView M). w.model) is; terms = ap (λ (w : WorldView M). w.terms) is; homes = ap (λ (w : WorldView M). w.homes) is }

  pub same-then : (old mid new : WorldView M) → IsSameWorld old mid → IsSameWorld mid new → IsSameWorld old new
  same-then old mid new first then = record { model = then.model ∙ first.model; terms = then.terms ∙ first.terms; homes = then.homes ∙ first.homes }
