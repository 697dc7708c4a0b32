use Rattle.std.proofs.Common.{◌≡◌, ◌∷◌, replicate}
use Rattle.shop_model.proofs.station.Station.first_words.Given as goal

abbrev pub invariant-loop : goal.invariant-loop
invariant-loop l = l.words.items ≡ 0 ∷ l.self.servers ∷ replicate l.counter 0
