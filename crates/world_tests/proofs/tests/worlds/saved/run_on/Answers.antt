-- Cycle by cycle the world stands for the state after it.
use Rattle.std.proofs.Common.{◌≡◌, ◌∙◌, false, sym, subst}
use Rattle.std.specs.Prelude.{Option, Some, None, is_some}
use Rattle.sim_spec.specs.Cut.{after}
use Rattle.cycle_core.specs.Worlds.{StandsAt}
use Rattle.cycle_core.proofs.WhereWorldStands.{can-cycle, stands-for}
use Rattle.world_tests.proofs.tests.worlds.saved.run_on.Goals as goal

none-there : {A : Type 0} (o : Option A) → is_some o ≡ false → o ≡ None
none-there None is = cc
none-there (Some x) is = absurd (cc)

pub cycle_alone-requires-after_bounds : goal.cycle_alone-requires-after_bounds
cycle_alone-requires-after_bounds g c lifetimes outlives =
    let of = g.M.Model.meaning in
    let w = c.cycles.world in
    let there = stands-for of w c.cycles.invariant.state.0 c.cycles.invariant.state.1 in
    can-cycle of w there.0 there.1 (sym (c.ended.ensures there.0 there.1) ∙ none-there c.ended.result (sym c.is_some.ensures ∙ c.if-is_some.false))

pub cycles-preserved : goal.cycles-preserved
cycles-preserved g c =
    let of = g.M.Model.meaning in
    let w = c.cycles.world in
    let new = c.cycle_alone.new.self in
    let s = c.cycles.invariant.state.0 in
    let made = c.cycle_alone.ensures.made in
    let same = c.cycles.invariant.same in
    record {
      same = record { model = made.model ∙ same.model; terms = made.terms ∙ same.terms; homes = made.homes ∙ same.homes };
      state = (after (of w.model) w.terms s, subst (λ v. StandsAt (of v) new (after (of w.model) w.terms s)) (sym made.model) (c.in_ok-bucket.ensures.stands s c.cycles.invariant.state.1));
    }
