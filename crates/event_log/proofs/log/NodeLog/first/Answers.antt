-- The first item has the least key.
use Rattle.std.proofs.Common.{◌≡◌, Some, [], map, sym, ap, ◌∙◌}
use Rattle.std.specs.Prelude.{slice_get}
use Rattle.object_log.specs.Carrying.{placed_key}
use Rattle.object_log.specs.Logs.{keys_of}
use Rattle.object_log.specs.Whole.{dones_in}
use Rattle.event_log.specs.NodeLogs.{NodeLogView}
use Rattle.event_log.proofs.FirstFacts.{keys-placed, none-more, some-more}
use Rattle.event_log.proofs.log.NodeLog.first.Goals as goal

pub returns-clause-some : goal.returns-clause-some
returns-clause-some c =
    let items = c.self.inside.events.items in
    some-more c.first.result (λ key. slice_get (map placed_key items) 0 ≡ Some key) (λ key. slice_get (keys_of c.args.self.now.log.done) 0 ≡ Some key)
    (λ key at. ap (λ (v : NodeLogView). slice_get (keys_of v.log.done) 0) (sym c.self.view_is) ∙ ap (λ ks. slice_get ks 0) (sym (keys-placed items)) ∙ at)
    c.first.ensures.some

pub returns-clause-none : goal.returns-clause-none
returns-clause-none c =
    let items = c.self.inside.events.items in
    none-more c.first.result (items ≡ []) (c.args.self.now.log.done ≡ []) (λ none. sym (ap (λ (v : NodeLogView). v.log.done) c.self.view_is) ∙ ap dones_in none) c.first.ensures.none
