use Rattle.std.proofs.Common.{ℕ, List, [], ◌∷◌, ◌++◌, ap, ◌∙◌}
use Rattle.std.proofs.lemmas.List.{replicate_more}
use Rattle.shop_model.proofs.station.Station.first_words.Goals as goal

pub loop-preserved : goal.loop-preserved
loop-preserved c =
    c.in_ok-push.ensures.items
    ∙ ap (λ (words : List ℕ). words ++ 0 ∷ []) c.loop.invariant
    ∙ ap (λ (rest : List ℕ). 0 ∷ c.args.self.now.servers ∷ rest) (replicate_more c.loop.counter 0)
