use Rattle.std.proofs.Common.{List, ◌++◌, length, sym, ap, subst, refl, ◌∙◌, arith}
use Rattle.std.specs.Prelude.{IsPermutation}
use Rattle.std.proofs.lemmas.List.{append-nil, length-append, nil_from_length}
use Rattle.std.proofs.lemmas.List.Sorted.{IsPermutation-refl, IsPermutation-trans, length_permutation}
use Rattle.model_core.specs.declared.event.Event.{Event}
use Rattle.parcel_exchange.specs.Mail.{events_in}
use Rattle.parcel_exchange.proofs.Gathering.{last_events, last_first}
use Rattle.parcel_exchange.proofs.inbox.Inbox.open.Goals as goal

pub loop-parcel-init : goal.loop-parcel-init
loop-parcel-init c = record { moved = IsPermutation-refl (c.args.self.now.arrived ++ events_in c.args.self.now.early.items); room = refl }

pub append-requires : goal.append-requires
append-requires c =
    let inbox = c.loop-parcel.self in
    let items = ap events_in c.in-Some.ensures.items ∙ last_events c.pop.new.self.items c.in-Some.parcel in
    let whole = length_permutation _ _ c.loop-parcel.invariant.moved in
    let parts = length-append inbox.arrived (events_in inbox.early.items) in
    let last = ap length items ∙ length-append (events_in c.pop.new.self.items) c.in-Some.parcel.events in
    let few = c.requires in
    omega arith

pub loop-parcel-preserved : goal.loop-parcel-preserved
loop-parcel-preserved c =
    let inbox = c.loop-parcel.self in
    let early = c.pop.new.self.items in
    let events = c.in-Some.parcel.events in
    let items = ap events_in c.in-Some.ensures.items ∙ last_events early c.in-Some.parcel in
    let first = c.args.self.now.arrived ++ events_in c.args.self.now.early.items in
    let P : List Event → Type 0 = λ l. IsPermutation first (inbox.arrived ++ l) in
    let Q : List Event → Type 0 = λ l. IsPermutation first (l ++ events_in early) in record {
      moved = subst Q (sym c.append.ensures) (IsPermutation-trans _ _ _ (subst P items c.loop-parcel.invariant.moved) (last_first inbox.arrived (events_in early) events));
      room = c.in-Some.ensures.capacity ∙ c.loop-parcel.invariant.room;
    }

pub returns-clause-arrived : goal.returns-clause-arrived
returns-clause-arrived c =
    let inbox = c.loop-parcel.self in
    let ok = inbox.early.ok.0 in
    let count = c.in_default.ensures.cases.0 in
    let none = nil_from_length inbox.early.items (omega arith) in
    let P : List Event → Type 0 = λ l. IsPermutation (c.args.self.now.arrived ++ events_in c.args.self.now.early.items) l in
    subst P (ap (λ l. inbox.arrived ++ events_in l) none ∙ append-nil inbox.arrived) c.loop-parcel.invariant.moved
