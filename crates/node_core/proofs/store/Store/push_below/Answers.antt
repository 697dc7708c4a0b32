-- The marks have the keys of the events.
use Rattle.std.proofs.Common.{◌≡◌, List, ◌++◌, ap, ◌∙◌, subst, sym}
use Rattle.std.specs.Prelude.{filter, nat_lt, OnOk}
use Rattle.event_key.specs.declared.key.Key.{Key}
use Rattle.node_core.specs.Rows.{keys_of}
use Rattle.node_core.specs.Stores.{StoreView}
use Rattle.node_core.proofs.MarkLemmas.{marked-keys}
use Rattle.node_core.proofs.store.Store.push_below.Goals as goal

pub returns-clause-ok : goal.returns-clause-ok
returns-clause-ok c =
    let P : List Key → Type 0 = λ ks. OnOk c.push_below.result (c.push_below.new.into.items ≡ c.args.into.now.items ++ filter (λ (k : Key). nat_lt k.stamp c.args.horizon) ks) in
    subst P (sym (marked-keys c.self.inside.logs.log.done) ∙ ap (λ (s : StoreView). keys_of s.marks) c.self.view_is) c.push_below.ensures.ok
