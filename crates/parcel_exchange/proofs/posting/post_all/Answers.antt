use Rattle.std.proofs.Common.{◌≡◌, ◌<◌, ◌++◌, [], length, get_or, sym, ap, refl, ⊎_elim, ◌∙◌, arith}
use Rattle.std.proofs.lemmas.Bool.{cases_eq}
use Rattle.std.proofs.lemmas.List.{get_or-set_same, get_or-set_other, get_or_read}
use Rattle.parcel_exchange.specs.Mail.{parcels_of}
use Rattle.parcel_exchange.proofs.posting.post_all.Goals as goal

pub loop-to-init : goal.loop-to-init
loop-to-init g c =
    let met = g.met.E.NodeEnd g.world.𝓛 g.world.𝓜 g.world.𝓡 ((λ s x. x), (λ x. x), (λ x. x), λ x. x) in record {
      same = met.same_first c.args.end.now;
      posted = λ to less. absurd (omega arith);
      not_yet = λ to above. refl;
      received_same = λ from. refl;
      free = λ to above less. c.requires.free to less;
      none = λ to less. absurd (omega arith);
      left = λ to above. refl;
    }

pub post-requires-clause-number : goal.post-requires-clause-number
post-requires-clause-number g c κs within =
    let met = g.met.E.NodeEnd g.world.𝓛 g.world.𝓜 g.world.𝓡 ((λ s x. x), (λ x. x), (λ x. x), λ x. x) in
    met.same_number c.args.end.now c.loop-to.end c.loop-to.invariant.same ∙ c.requires.number

pub post-requires-clause-node : goal.post-requires-clause-node
post-requires-clause-node g c κs within =
    let met = g.met.E.NodeEnd g.world.𝓛 g.world.𝓜 g.world.𝓡 ((λ s x. x), (λ x. x), (λ x. x), λ x. x) in
    let nodes = met.same_nodes c.args.end.now c.loop-to.end c.loop-to.invariant.same ∙ c.requires.nodes in
    let less = c.loop-to-test.true in
    omega arith

pub post-requires-clause-free : goal.post-requires-clause-free
post-requires-clause-free g c κs within = c.loop-to.invariant.free c.loop-to.to (omega arith) c.loop-to-test.true

pub loop-to-preserved : goal.loop-to-preserved
loop-to-preserved g c =
    let met = g.met.E.NodeEnd g.world.𝓛 g.world.𝓜 g.world.𝓡 ((λ s x. x), (λ x. x), (λ x. x), λ x. x) in
    let inv = c.loop-to.invariant in
    let at = c.loop-to.to in
    let says = c.post.ensures in
    let within : at < length c.loop-to.out = let long = c.loop-to.auto.out in let less = c.loop-to-test.true in omega arith in
    let sent = g.E.NodeEnd.sent in record {
      same = met.same_then c.args.end.now c.loop-to.end c.post.new.end inv.same says.end;
      posted = λ to less.
          ⊎_elim
          (λ (here : to ≡ at).
          let events = get_or_read c.loop-to.out at c.index-out-to.result within c.index-out-to.is [] ∙ inv.left at (omega arith) in
          rw here (says.sent ∙ ap (λ l. l ++ parcels_of c.args.number (get_or c.loop-to.out at c.index-out-to.result)) (inv.not_yet at (omega arith))
          ∙ ap (λ e. sent c.args.end.now at ++ parcels_of c.args.number e) (sym c.index-out-to.is ∙ events)))
          (λ (there : to ≡ at → ⊥). says.others to there ∙ inv.posted to (omega arith))
          (cases_eq to at);
      not_yet = λ to above. says.others to (λ e. absurd (omega arith)) ∙ inv.not_yet to (omega arith);
      received_same = λ from. says.received from ∙ inv.received_same from;
      free = λ to above less. says.free to (λ e. absurd (omega arith)) (inv.free to (omega arith) less);
      none = λ to less.
          ⊎_elim
          (λ (here : to ≡ at). rw here (get_or-set_same c.loop-to.out at c.post.new.events [] within ∙ says.none))
          (λ (there : to ≡ at → ⊥). get_or-set_other c.loop-to.out at to c.post.new.events [] there ∙ inv.none to (omega arith))
          (cases_eq to at);
      left = λ to above. get_or-set_other c.loop-to.out at to c.post.new.events [] (λ e. absurd (omega arith)) ∙ inv.left to (omega arith);
    }
