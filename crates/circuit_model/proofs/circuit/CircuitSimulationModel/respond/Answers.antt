use Rattle.std.proofs.Common.{◌≡◌, ap, ◌∙◌}
use Rattle.model_core.specs.declared.effect.Outcome.TheVariants.{Goes}
use Rattle.circuit_model.specs.Events.{effect_of, gate_effect}
use Rattle.circuit_model.specs.Gates.{gate_at}
use Rattle.circuit_model.specs.Hot.{bare, hot_at, pins_fed, StandsFor}
use Rattle.circuit_model.specs.Meaning.{circuit_meaning}
use Rattle.circuit_model.specs.Wiring.{fed_by}
use Rattle.circuit_model.proofs.HotLemmas.{effects-alike, stands-alike}
use Rattle.circuit_model.proofs.circuit.CircuitSimulationModel.respond.Goals as goal

pub returns : goal.returns
unfolding circuit_meaning gate_effect
returns c =
    let gates = c.args.self.now.gates.items in
    let fed = c.args.self.now.hot.fed.items in
    let number = c.args.object in
    let cells = c.args.cells.now.contents in
    let event = c.args.event.now in
    let hot = hot_at c.args.self.now.hot.gates.items number in
    let stands : StandsFor gates fed number hot = c.args.self.now.heated.each number c.requires.object in
    let gate : c.at-gate.result.now ≡ hot = c.at-gate.ensures in
    let pins : c.fed_by.result.now ≡ fed_by gates number = c.fed_by.ensures ∙ ap (pins_fed fed) gate ∙ stands.feeds in
    ap Goes
    (c.respond.ensures
    ∙ ap (λ h. effect_of (bare h) c.fed_by.result.now cells event) gate
    ∙ ap (λ ps. effect_of (bare hot) ps cells event) pins
    ∙ effects-alike (bare hot) (gate_at gates number) (fed_by gates number) cells event (stands-alike stands))
