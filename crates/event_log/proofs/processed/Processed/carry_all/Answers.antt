-- All news go over.
use Rattle.std.proofs.Common.{sym, ap, ◌∙◌, subst, arith}
use Rattle.std.proofs.lemmas.List.{nil_from_length}
use Rattle.event_log.specs.News.{NewsView}
use Rattle.event_log.specs.Processing.{CanCarry, ProcessedView, merged}
use Rattle.event_log.proofs.ProcessedFacts.{idle-carried}
use Rattle.event_log.proofs.TakesFacts.{nothing-sent}
use Rattle.event_log.proofs.processed.Processed.carry_all.Goals as goal

pub carry-requires-clause-can : goal.carry-requires-clause-can
carry-requires-clause-can c =
    let p = c.self.invariant in
    let enough = p.cells_are in
    let zeros_are = p.zeros_are in
    record { ordered = p.ordered; long = p.long; room = p.room; few = p.few; cells_are = omega arith }

pub invariant_of-self : goal.invariant_of-self
invariant_of-self c =
    let can = c.carry.ensures.can in
    let places = c.carry.new.places.items in
    let k = c.carry.new.self in
    let R : NewsView → Type 0 = λ v. CanCarry places v k c.carry.new.cells in
    idle-carried places c.forget.new.self k c.carry.new.cells c.carry.new.cells
    (subst R (sym c.forget.ensures) (record { ordered = can.ordered; long = can.long; room = can.room; few = can.few; cells_are = can.cells_are }))
    (ap (λ (v : NewsView). v.done) c.forget.ensures ∙ c.carry.ensures.done) (ap (λ (v : NewsView). v.gone) c.forget.ensures)

pub returns-clause-same : goal.returns-clause-same
returns-clause-same c = record {
  items = ap (λ (v : NewsView). merged v.done c.carry.new.places.items c.carry.new.self.items) c.forget.ensures ∙ c.carry.ensures.same ∙ ap (λ (v : ProcessedView). v.items) c.self.view_is;
  nodes = ap (λ (v : NewsView). v.nodes) c.forget.ensures ∙ c.carry.ensures.nodes ∙ ap (λ (v : ProcessedView). v.nodes) c.self.view_is;
}

pub returns-clause-news : goal.returns-clause-news
returns-clause-news c = ap (λ (v : NewsView). v.done) c.forget.ensures ∙ c.carry.ensures.done

pub returns-clause-chained : goal.returns-clause-chained
returns-clause-chained c =
    let v = c.carry.new.news in
    let silent = nothing-sent v.sent v.done c.carry.ensures.done c.tells.ensures.sent in
    ap (λ (w : NewsView). w.sent) c.forget.ensures ∙ nil_from_length v.sent (omega arith)
