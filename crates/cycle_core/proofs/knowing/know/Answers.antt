use Rattle.cycle_core.proofs.knowing.know.Goals as goal

pub returns : goal.returns
returns g c =
    let told = c.tells_share.ensures in
    record { stands = told.stands; only = λ share ahead there. told.only share ahead there; size = told.size; keys = c.tells_keys.ensures }
