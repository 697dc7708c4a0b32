use Rattle.std.proofs.Common.{◌≡◌, ◌++◌, List, length, vec_len}
use Rattle.sim_spec.specs.Firing.{ObjectState}
use Rattle.sim_spec.specs.declared.terms.Terms.{Terms}
use Rattle.cycle_core.specs.Starts.{CanSet, HaveStatesFrom}
use Rattle.cycle_core.proofs.beginning.set_objects.Given as goal

abbrev pub invariant-loop-state : goal.invariant-loop-state
invariant-loop-state g l = record {
  set : (model : g.row.M.Denot) (terms : Terms) → CanSet (g.M.Model.meaning) model terms l.fn.homes l.fn.objects.items l.initial.nodes
      → HaveStatesFrom (g.M.Model.meaning) model terms l.fn.homes l.object l.fn.objects.items l.nodes;
  left : l.object ≡ length l.objects.items;
  rest : (more : List ObjectState) × (l.fn.objects.items ≡ l.objects.items ++ more);
}

abbrev pub decreases-loop-state : goal.decreases-loop-state
decreases-loop-state g l = vec_len l.objects
