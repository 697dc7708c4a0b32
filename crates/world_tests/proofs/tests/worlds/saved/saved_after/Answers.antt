-- The state that is taken out is lawful, as the one for which the world stands.
use Rattle.std.proofs.Common.{◌∙◌, sym, subst}
use Rattle.std.specs.Arc.{arc_value}
use Rattle.sim_spec.specs.State.{Lawful}
use Rattle.world_tests.proofs.SavedRuns.{state-there}
use Rattle.world_tests.proofs.tests.worlds.saved.saved_after.Goals as goal

pub run_on-requires-after_bounds : goal.run_on-requires-after_bounds
run_on-requires-after_bounds g c lifetimes outlives = (_, state-there (g.M.Model.meaning) c.in_ok-world.world _ c.in_ok-world.ensures.stands)

pub returns : goal.returns
returns g c =
    let of = g.M.Model.meaning in
    let st = c.in_ok-run_on.ensures.stands in
    let lawful = st.1.stands.lawful in
    let model = c.run_on.ensures.same.model ∙ c.in_ok-world.ensures.model ∙ c.in_ok-clone.ensures.cases in
    let terms = c.run_on.ensures.same.terms ∙ c.in_ok-world.ensures.terms in
    let here = subst (λ v. Lawful (of v) c.run_on.new.world.terms st.0) model lawful in
    let there = subst (λ t. Lawful (of (arc_value c.args.model.now)) t st.0) terms here in
    subst (λ s. Lawful (of (arc_value c.args.model.now)) c.args.terms s) (sym (c.in_ok-state.ensures.state st.0 st.1)) there
