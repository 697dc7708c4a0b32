use Rattle.text_fields.proofs.Choices.{are_shares-ones}
use Rattle.text_fields.proofs.weights.weights_or_ones.Goals as goal

pub returns-in_ok-vec-in-None-clause-shares : goal.returns-in_ok-vec-in-None-clause-shares
returns-in_ok-vec-in-None-clause-shares c =
    rw (c.in_ok-vec-in-None.ensures.items_if_clones_equal (λ y same. same)) (are_shares-ones c.args.count c.requires.some c.requires.few)
