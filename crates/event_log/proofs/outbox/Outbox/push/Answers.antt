-- The message is the first of its chain.
use Rattle.std.proofs.Common.{◌≡◌, ℕ, ◌+◌, ◌<◌, ◌≤◌, ◌^◌, List, [], ◌∷◌, ◌++◌, length, sym, ap, ◌∙◌, subst, arith}
use Rattle.model_core.specs.declared.event.Event.{Event}
use Rattle.event_log.specs.Outboxes.{HoldsSent, OutboxView, sent_of}
use Rattle.std.specs.Prelude.{slice_set}
use Rattle.std.proofs.lemmas.List.{get_or_read}
use Rattle.event_log.proofs.OutboxLemmas.{holds-push, parcel-short, sent-is, sent-seen}
use Rattle.event_log.proofs.outbox.Outbox.push.Goals as goal
use Rattle.event_log.proofs.outbox.Outbox.push.Goals.{After-push_front}

-- no chain is longer than all that is sent
short-chain : (chain own sent seen : ℕ) → chain ≡ own → own ≤ sent → sent ≡ seen → seen + 1 < 2 ^ 60 → chain + 1 < 2 ^ 60
short-chain chain own sent seen chain_is short sent_is few = omega arith

pub push_front-requires : goal.push_front-requires
push_front-requires c =
    let lie = c.self.invariant in
    let chains = c.self.inside.chains.items in
    let H : ℕ → Type 0 = λ n. c.args.home < n in
    let within : c.args.home < length chains = subst H (sym (ap (λ (v : OutboxView). v.nodes) c.self.view_is)) c.requires.home in
    let same = sent-seen lie.1 c.args.self.now _ c.self.view_is in
    let own = ap length (get_or_read chains c.args.home c.index_mut.result.now within c.index_mut.ensures.value [] ∙ lie.1.chains_are c.args.home) in
    short-chain _ _ _ _ own (parcel-short c.args.home lie.0) (ap length same) c.requires.few

-- the message lies there with the others
abbrev Holds : After-push_front → List ℕ → Type 0
Holds c homes =
    HoldsSent (c.self.invariant.0 ++ (c.args.home, c.args.message) ∷ []) homes (slice_set c.self.inside.chains.items c.args.home c.push_front.new.self)

holds : (c : After-push_front) → Holds c (c.self.inside.homes.items ++ c.args.home ∷ [])
holds c =
    let lie = c.self.invariant in
    let chains = c.self.inside.chains.items in
    let e : Event = c.args.message in
    let H : ℕ → Type 0 = λ n. c.args.home < n in
    let within : c.args.home < length chains = subst H (sym (ap (λ (v : OutboxView). v.nodes) c.self.view_is)) c.requires.home in
    let read = get_or_read chains c.args.home c.index_mut.result.now within c.index_mut.ensures.value [] in
    holds-push lie.0 c.self.inside.homes.items chains c.args.home e c.push_front.new.self lie.1 within (c.push_front.ensures ∙ ap (λ es. e ∷ es) read)

pub invariant_of-self : goal.invariant_of-self
invariant_of-self c =
    let at = (goal.at.invariant_of-self c).After-push_front in
    (c.self.invariant.0 ++ (c.args.home, c.args.message) ∷ [], subst (Holds at) (sym c.push_reserved.ensures.items) (holds at))

pub returns-clause-sent : goal.returns-clause-sent
returns-clause-sent c =
    let laid = slice_set c.self.inside.chains.items c.args.home c.push_front.new.self in
    ap (λ (hs : List ℕ). sent_of hs laid) c.push_reserved.ensures.items
    ∙ sent-is _ _ laid (holds (goal.at.returns-clause-sent c).After-push_front)
    ∙ ap (λ (ss : List (ℕ × Event)). ss ++ (c.args.home, c.args.message) ∷ []) (sent-seen c.self.invariant.1 c.args.self.now _ c.self.view_is)
