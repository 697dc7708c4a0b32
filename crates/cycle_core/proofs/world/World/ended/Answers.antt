use Rattle.std.proofs.Common.{◌≡◌, ◌∙◌, ap, sym, subst}
use Rattle.std.specs.Prelude.{None}
use Rattle.event_key.specs.Stamps.{end_stamp}
use Rattle.cycle_core.specs.Gathered.{HaveEventBefore, HaveNoneBefore}
use Rattle.cycle_core.specs.Inside.{nodes_in}
use Rattle.cycle_core.proofs.StandingLemmas.{end-told, fault-ended, limit-told, more-told, spent-ended, taken-ended}
use Rattle.cycle_core.proofs.world.World.ended.Goals as goal

pub returns-then-self : goal.returns-then-self
returns-then-self g c = spent-ended (g.M.Model.meaning) c.args.self.now (sym (ap (λ v. v.is_spent) c.self.view_is) ∙ c.if-self.true)

pub returns-in-Some : goal.returns-in-Some
returns-in-Some g c = fault-ended (g.M.Model.meaning) c.args.self.now (c.in-Some.key, c.in-Some.code) (sym (ap (λ v. v.is_spent) c.self.view_is) ∙ c.if-self.false) (sym (ap (λ v. v.fault) c.self.view_is) ∙ c.in-Some.is)

pub returns-in_default-nodes : goal.returns-in_default-nodes
returns-in_default-nodes g c =
    taken-ended (g.M.Model.meaning) c.args.self.now None (sym (ap (λ v. v.is_spent) c.self.view_is) ∙ c.if-self.false)
    (sym (ap (λ v. v.nodes) c.self.view_is) ∙ ap nodes_in c.in_default-nodes.is)

pub returns-then-not-has_event_at : goal.returns-then-not-has_event_at
returns-then-not-has_event_at g c =
    let of = g.M.Model.meaning in
    let w = c.args.self.now in
    let slice : w.nodes ≡ c.as_slice.result.now = ap (λ v. v.nodes) (sym c.self.view_is) ∙ ap nodes_in c.in-Some-nodes.is ∙ sym c.as_slice.ensures.value in
    let end : c.end_bound.result ≡ end_stamp w.terms.end = c.end_bound.ensures ∙ ap (λ v. end_stamp v.terms.end) c.self.view_is in
    let none = subst (λ b. HaveNoneBefore of b c.as_slice.result.now) end (c.has_event_at.ensures.none c.if-not-has_event_at.true) in
    end-told of w (sym (ap (λ v. v.is_spent) c.self.view_is) ∙ c.if-self.false) (sym (ap (λ v. v.fault) c.self.view_is) ∙ c.in_default.is)
    (subst (λ ns. HaveNoneBefore of (end_stamp w.terms.end) ns) (sym slice) none)

pub returns-then-self-2 : goal.returns-then-self-2
returns-then-self-2 g c =
    let of = g.M.Model.meaning in
    let w = c.args.self.now in
    let slice : w.nodes ≡ c.as_slice.result.now = ap (λ v. v.nodes) (sym c.self.view_is) ∙ ap nodes_in c.in-Some-nodes.is ∙ sym c.as_slice.ensures.value in
    let end : c.end_bound.result ≡ end_stamp w.terms.end = c.end_bound.ensures ∙ ap (λ v. end_stamp v.terms.end) c.self.view_is in
    let some = subst (λ b. HaveEventBefore of b c.as_slice.result.now) end (c.has_event_at.ensures.some c.if-not-has_event_at.false) in
    limit-told of w (sym (ap (λ v. v.is_spent) c.self.view_is) ∙ c.if-self.false) (sym (ap (λ v. v.fault) c.self.view_is) ∙ c.in_default.is)
    (subst (λ ns. HaveEventBefore of (end_stamp w.terms.end) ns) (sym slice) some)
    (sym (ap (λ v. v.count) c.self.view_is) ∙ c.if-self-2.true ∙ ap (λ v. v.terms.limit) c.self.view_is)

pub returns-else-self-2 : goal.returns-else-self-2
returns-else-self-2 g c =
    let of = g.M.Model.meaning in
    let w = c.args.self.now in
    let slice : w.nodes ≡ c.as_slice.result.now = ap (λ v. v.nodes) (sym c.self.view_is) ∙ ap nodes_in c.in-Some-nodes.is ∙ sym c.as_slice.ensures.value in
    let end : c.end_bound.result ≡ end_stamp w.terms.end = c.end_bound.ensures ∙ ap (λ v. end_stamp v.terms.end) c.self.view_is in
    let some = subst (λ b. HaveEventBefore of b c.as_slice.result.now) end (c.has_event_at.ensures.some c.if-not-has_event_at.false) in
    more-told of w (sym (ap (λ v. v.is_spent) c.self.view_is) ∙ c.if-self.false) (sym (ap (λ v. v.fault) c.self.view_is) ∙ c.in_default.is)
    (subst (λ ns. HaveEventBefore of (end_stamp w.terms.end) ns) (sym slice) some)
    (λ full. c.if-self-2.false (ap (λ v. v.count) c.self.view_is ∙ full ∙ sym (ap (λ v. v.terms.limit) c.self.view_is)))

pub has_event_at-requires-after_bounds : goal.has_event_at-requires-after_bounds
has_event_at-requires-after_bounds g c lifetimes outlives = ap (λ v. v.nodes) (sym c.self.view_is) ∙ ap nodes_in c.in-Some-nodes.is ∙ sym c.as_slice.ensures.value
