use Rattle.std.proofs.Common.{◌≡◌, [], ◌∷◌, map, replicate, reverse}
use Rattle.std.specs.List.{range_with_len}
use Rattle.shop_model.proofs.station.Station.first_lines.Given as goal

abbrev pub invariant-loop : goal.invariant-loop
invariant-loop l = map (λ line. line.items) l.lines.items ≡ reverse (range_with_len 0 l.self.most) ∷ replicate l.counter []
