use Rattle.std.proofs.Common.{◌++◌, ap, ◌∙◌, arith}
use Rattle.std.proofs.lemmas.List.{length-append}
use Rattle.std.proofs.lemmas.List.Sorted.{IsPermutation-trans, IsPermutation-append_left, length_permutation}
use Rattle.parcel_exchange.specs.Mail.{events_in, from_each}
use Rattle.parcel_exchange.proofs.inbox.Inbox.receive.Goals as goal

pub fetch-requires-clause-few : goal.fetch-requires-clause-few
fetch-requires-clause-few g c κs within =
    let inbox = c.args.self.now in
    let rests = from_each (g.L.Lanes.nodes c.args.lanes.now) (λ from. events_in (g.L.Lanes.rest c.args.lanes.now from c.args.to)) in
    let opened = length_permutation _ _ c.open.ensures.arrived in
    let all = length-append (inbox.arrived ++ events_in inbox.early.items) rests in
    let now = length-append c.open.new.self.arrived rests in
    let few = c.requires.few in
    omega arith

pub returns-clause-arrived : goal.returns-clause-arrived
returns-clause-arrived g c =
    let inbox = c.args.self.now in
    let rests = from_each (g.L.Lanes.nodes c.args.lanes.now) (λ from. events_in (g.L.Lanes.rest c.args.lanes.now from c.args.to)) in record {
      all = IsPermutation-trans _ _ _ (IsPermutation-append_left rests (inbox.arrived ++ events_in inbox.early.items) c.open.new.self.arrived c.open.ensures.arrived) c.fetch.ensures.arrived;
      emptied = ap (λ v. v.items) c.fetch.ensures.early ∙ c.open.ensures.early;
    }
