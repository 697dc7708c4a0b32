-- What a world begins with.
use Rattle.std.proofs.Common.{subst}
use Rattle.model_core.specs.Meaning.{MeaningLaws}
use Rattle.cycle_core.specs.Starts.{ArePartsOf, first_events}
use Rattle.cycle_core.proofs.SettingLemmas.{begins-first}
use Rattle.cycle_core.proofs.beginning.nodes_at_start.Goals as goal

pub returns : goal.returns
returns g c =
    let of = g.M.Model.meaning in
    let model = c.args.model.now.value in
    let homes = c.args.homes.now.value in
    let laws = subst (λ v. MeaningLaws (of v)) c.deref.ensures c.keeps_laws.ensures in
    let homed = subst (λ h. ArePartsOf h (first_events (of c.deref-2.result.now) (of c.deref-2.result.now).starts) c.in_ok-parcels.parcels.items) c.deref-3.ensures c.in_ok-parcels.ensures in
    let parts = subst (λ v. ArePartsOf homes (first_events (of v) (of v).starts) c.in_ok-parcels.parcels.items) c.deref-2.ensures homed in
    begins-first of model c.args.terms homes c.requires c.in_ok-nodes.nodes.items c.in_ok-parcels.parcels.items laws c.in_ok-nodes.ensures parts
