use Rattle.std.proofs.Common.{◌≡◌, ◌≤◌, ℕ, List, [], ◌∷◌, replicate, reverse, ap, ◌∙◌, arith}
use Rattle.std.specs.List.{range_with_len}
use Rattle.std.proofs.lemmas.List.{map-append, replicate_more}
use Rattle.shop_model.proofs.station.Station.first_lines.Goals as goal

same : (m n : ℕ) → m ≤ n → n ≤ m → m ≡ n
same m n low high = omega arith

pub loop-preserved : goal.loop-preserved
loop-preserved c =
    rw (c.in_ok-push.ensures.items, map-append, c.loop.invariant, c.new.ensures.items)
    (ap (λ (lines : List (List ℕ)). reverse (range_with_len 0 c.args.self.now.most) ∷ lines) (replicate_more c.loop.counter []))

pub returns : goal.returns
returns c =
    let lines : ℕ → List (List ℕ) = λ (n : ℕ). reverse (range_with_len 0 c.args.self.now.most) ∷ replicate n [] in
    c.loop.invariant ∙ ap lines (same _ _ c.loop.auto.counter-end c.loop-test.false)
