use Rattle.std.proofs.Common.{◌≡◌, subst, sym, ap, ◌∙◌, arith}
use Rattle.model_core.specs.declared.effect.Outcome.TheVariants.{Goes}
use Rattle.queue_models.specs.declared.site.Site.{Site}
use Rattle.queue_models.specs.Meaning.{network_meaning, site_of}
use Rattle.queue_models.specs.KindLaws.{kind_can_draw}
use Rattle.queue_models.specs.ModelLaws.{is_network_under, object_fine}
use Rattle.queue_models.specs.Objects.{Item, NetworkParts, network_under, object_at}
use Rattle.queue_models.specs.Kinds.{KindCanDraw, effect_at}
use Rattle.queue_models.specs.Views.{parts_of}
use Rattle.queue_models.proofs.TellingLemmas.{has_load, one_part}
use Rattle.queue_models.proofs.network.Network.respond_under.Goals as goal
use Rattle.queue_models.proofs.network.Network.respond_under.Goals.{In-Goes}

pub react-requires-clause-draws : goal.react-requires-clause-draws
unfolding network_meaning
react-requires-clause-draws c =
    subst (λ (o : Item). KindCanDraw o.kind) (sym c.item-item.ensures)
    (kind_can_draw c.args.self.now.objects.items (object_at c.args.self.now.objects.items c.args.object).kind
    (object_fine (parts_of c.args.self.now) c.args.self.now.in_range c.args.object c.requires.object).kind)

-- the event's effect, under the seed
abbrev seeded : In-Goes → NetworkParts
seeded c = network_under c.args.seed (parts_of c.args.self.now)

goes : (c : In-Goes) → Goes c.react.new.sheet ≡ effect_at (site_of (seeded c) c.args.object) (object_at (seeded c).objects c.args.object).kind c.args.cells.now.contents c.args.event.now
unfolding network_meaning
goes c =
    c.in-Goes.ensures
    ∙ ap (λ (s : Site). effect_at s c.item-item.result.now.kind c.args.cells.now.contents c.args.event.now) c.site-site.ensures
    ∙ ap (λ (o : Item). effect_at (site_of (seeded c) c.args.object) o.kind c.args.cells.now.contents c.args.event.now) c.item-item.ensures

pub tell-requires-clause-load : goal.tell-requires-clause-load
unfolding network_meaning
tell-requires-clause-load c = λ traced.
    let p = network_under c.args.seed (parts_of c.args.self.now) in
    let cells = c.args.cells.now.contents in
    has_load p (is_network_under c.args.seed c.requires.seed (parts_of c.args.self.now) c.args.self.now.in_range) c.args.object cells c.args.event.now c.react.new.sheet c.requires.object c.requires.lawful (goes (goal.at.tell-requires-clause-load c).In-Goes)
    (sym (ap (λ (o : Item). o.trace) c.item-item.ensures) ∙ traced)

pub tell-requires-clause-room : goal.tell-requires-clause-room
unfolding network_meaning
tell-requires-clause-room c =
    let p = network_under c.args.seed (parts_of c.args.self.now) in
    let cells = c.args.cells.now.contents in
    omega (arith, one_part p (is_network_under c.args.seed c.requires.seed (parts_of c.args.self.now) c.args.self.now.in_range) c.args.object cells c.args.event.now c.react.new.sheet c.requires.object c.requires.lawful (goes (goal.at.tell-requires-clause-room c).In-Goes))
