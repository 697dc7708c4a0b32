-- One message more comes back.
use Rattle.std.proofs.Common.{ℕ, List, [], ◌∷◌, ◌++◌, min, refl, sym, ap, ◌∙◌, arith, append_assoc}
use Rattle.std.proofs.lemmas.List.{append-nil}
use Rattle.event_key.specs.declared.stamp.TheConstants.{NO_STAMP}
use Rattle.key_order.specs.Stamps.{least_stamp}
use Rattle.model_core.specs.declared.event.Event.{Event}
use Rattle.object_log.proofs.HeldLemmas.{least-start}
use Rattle.event_log.proofs.PopFacts.{least-front}
use Rattle.event_log.proofs.popped.take_sends.Goals as goal

pub loop-init : goal.loop-init
loop-init c = record {
  taken = record { own = []; split = sym (append-nil c.args.outbox.now.sent); long = refl; taken_are = c.new-taken.ensures };
  least_is = least-start c.new-taken.result c.new-taken.ensures;
  nodes = refl;
}

pub loop-preserved : goal.loop-preserved
loop-preserved c =
    let t = c.loop.invariant.taken in
    let e : Event = c.pop-message.result in
    let out = c.pop-message.ensures.sent in
    let long = t.long in
    record {
      taken = record {
        own = (out.0, e) ∷ t.own;
        split = t.split ∙ ap (λ (ss : List (ℕ × Event)). ss ++ t.own) out.1 ∙ append_assoc c.pop-message.new.self.sent ((out.0, e) ∷ []) t.own;
        long = omega arith;
        taken_are = c.push_front.ensures ∙ ap (λ (es : List Event). e ∷ es) t.taken_are;
      };
      least_is = c.min-least.ensures ∙ ap (λ (x : Event). min c.loop.least x.key.stamp) c.get.ensures ∙ least-front c.loop.least e c.loop.taken c.loop.invariant.least_is ∙ ap (λ (es : List Event). least_stamp NO_STAMP es) (sym c.push_front.ensures);
      nodes = c.pop-message.ensures.nodes ∙ c.loop.invariant.nodes;
    }
