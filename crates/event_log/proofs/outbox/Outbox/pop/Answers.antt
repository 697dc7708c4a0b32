-- The last message is the first of its chain.
use Rattle.std.proofs.Common.{ℕ, ◌<◌, [], ◌∷◌, ◌++◌, length, sym, ap, ◌∙◌, subst}
use Rattle.event_log.specs.Outboxes.{parcel}
use Rattle.std.specs.Prelude.{option_to_list, slice_set}
use Rattle.std.proofs.lemmas.List.{get_or_read}
use Rattle.event_log.proofs.OutboxLemmas.{IsLast, first-parts, holds-pop, last-is, long-is, no-first, sent-is, sent-seen}
use Rattle.event_log.proofs.outbox.Outbox.pop.Goals as goal
use Rattle.event_log.proofs.outbox.Outbox.pop.Goals.{After-unwrap-home}

pub unwrap-home-requires : goal.unwrap-home-requires
unwrap-home-requires c =
    let lie = c.self.invariant in
    let homes = c.self.inside.homes.items in
    let same = sent-seen lie.1 c.args.self.now _ c.self.view_is in
    let long = c.self.inside.homes.ok.0 ∙ long-is lie.0 homes c.self.inside.chains.items lie.1 ∙ ap length same in
    let P : ℕ → Type 0 = λ n. 0 < n in
    c.pop.ensures.variant.1 (subst P (sym long) c.requires)

-- the last message, and what lies before it
abbrev Last : After-unwrap-home → Type 0
Last c = IsLast c.self.invariant.0 c.self.inside.homes.items c.self.inside.chains.items c.pop.new.self.items c.unwrap-home.result

last : (c : After-unwrap-home) → Last c
last c =
    let pops = c.pop.ensures.items ∙ ap (λ top. c.pop.new.self.items ++ option_to_list top) c.unwrap-home.ensures in
    last-is c.self.invariant.0 c.self.inside.homes.items c.self.inside.chains.items c.pop.new.self.items c.unwrap-home.result c.self.invariant.1 pops

pub index_mut-requires : goal.index_mut-requires
index_mut-requires c =
    let H : ℕ → Type 0 = λ n. c.unwrap-home.result < n in
    subst H (sym c.self.inside.chains.ok.0) (last (goal.at.index_mut-requires c).After-unwrap-home).within

pub unreachable-requires : goal.unreachable-requires
unreachable-requires c =
    let l = last (goal.at.unreachable-requires c).After-unwrap-home in
    let read = get_or_read c.self.inside.chains.items c.unwrap-home.result c.index_mut.result.now l.within c.index_mut.ensures.value [] in
    no-first l.e (parcel c.unwrap-home.result l.rest) (sym c.in_default.ensures.none.0 ∙ read ∙ l.first)

pub invariant_of-self : goal.invariant_of-self
invariant_of-self c =
    let l = last (goal.at.invariant_of-self c).After-unwrap-home in
    let read = get_or_read c.self.inside.chains.items c.unwrap-home.result c.index_mut.result.now l.within c.index_mut.ensures.value [] in
    let parts = first-parts c.in-Some.message l.e c.pop_front.new.self (parcel c.unwrap-home.result l.rest) (sym c.in-Some.ensures.some ∙ read ∙ l.first) in
    (l.rest, holds-pop _ _ _ _ _ c.self.invariant.1 l c.pop_front.new.self parts.1)

pub returns-clause-sent : goal.returns-clause-sent
returns-clause-sent c =
    let l = last (goal.at.returns-clause-sent c).After-unwrap-home in
    let node = c.unwrap-home.result in
    let chains = c.self.inside.chains.items in
    let read = get_or_read chains node c.index_mut.result.now l.within c.index_mut.ensures.value [] in
    let parts = first-parts c.in-Some.message l.e c.pop_front.new.self (parcel node l.rest) (sym c.in-Some.ensures.some ∙ read ∙ l.first) in
    let same = sent-seen c.self.invariant.1 c.args.self.now _ c.self.view_is in
    let holds = holds-pop _ _ _ _ _ c.self.invariant.1 l c.pop_front.new.self parts.1 in
    let left = sent-is l.rest c.pop.new.self.items (slice_set chains node c.pop_front.new.self) holds in
    (node, sym same ∙ l.is ∙ (λ i. sym left i ++ (node, sym parts.0 i) ∷ []))
