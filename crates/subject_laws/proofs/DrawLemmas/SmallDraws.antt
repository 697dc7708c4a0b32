-- Draws, computed, with fixed laws, whose values can be seen: the shop, and a shop that differs in the law of its source.
use Rattle.std.proofs.Common.{◌≡◌, ℕ, refl, List, [], ◌∷◌}
use Rattle.queue_models.specs.Objects.{NetworkParts}
use Rattle.subject_laws.proofs.QueueLemmas.SmallShop.{counter, shop, shop_every, to_fifty}
use Rattle.subject_laws.specs.Draws.{drawn_by}
use Rattle.subject_laws.proofs.Computing.{network_run}

-- the source makes a job every nine ticks
slow_shop : NetworkParts
unfolding counter
slow_shop = shop_every 9

-- in eleven events of each, the source draws other values, and the counter the same ones
draws_seen : ◌≡◌ {A = List ℕ × List ℕ × List ℕ × List ℕ}
    (drawn_by shop to_fifty 0 11, drawn_by slow_shop to_fifty 0 11, drawn_by shop to_fifty 1 11, drawn_by slow_shop to_fifty 1 11)
    (2 ∷ 2 ∷ 2 ∷ [], 9 ∷ 9 ∷ 9 ∷ [], 5 ∷ 5 ∷ 5 ∷ [], 5 ∷ 5 ∷ 5 ∷ [])
unfolding shop slow_shop to_fifty network_run
draws_seen = refl
