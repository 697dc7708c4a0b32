-- What lies below the top one is told as it was.
use Rattle.std.proofs.Common.{◌++◌, ap, ◌∙◌, subst}
use Rattle.std.specs.Prelude.{option_to_list}
use Rattle.event_key.specs.declared.stamp.TheConstants.{NO_STAMP}
use Rattle.object_log.specs.Rows.{TellHeld, HaveTold}
use Rattle.object_log.proofs.PileLemmas.{told-pop}
use Rattle.object_log.proofs.pile.Pile.pop.Goals as goal

pub invariant_of-self : goal.invariant_of-self
invariant_of-self c =
    let split = c.pop.ensures.items ∙ ap (λ top. c.pop.new.self.items ++ option_to_list top) c.unwrap-done.ensures in
    told-pop NO_STAMP c.pop.new.self.items c.unwrap-done.result (subst (TellHeld NO_STAMP) split (subst HaveTold c.in-Some.is c.self.invariant))
