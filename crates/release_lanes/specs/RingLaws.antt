-- The laws of lanes, for rings.
use Rattle.std.specs.Prelude.{◌≡◌, ℕ, List, map, length}
use Rattle.std.specs.List.{AllZip}
use Rattle.std.proofs.Common.{ap, sym, subst, ◌∙◌}
use Rattle.std.proofs.lemmas.List.{length-map}
use Rattle.release_lanes.specs.declared.rings.RingEnd.{RingEnd}
use Rattle.release_lanes.specs.Rings.{Ring, outline, ring_in, AreConnected}
use Rattle.release_lanes.specs.Woven.{Outline}
use Rattle.release_lanes.specs.Laws.{same_map}

pub same_nodes : (a b : RingEnd) → outline b ≡ outline a → length b.ins.items ≡ length a.ins.items
same_nodes a b same = sym (length-map b.ins.items ring_in) ∙ ap (λ o. length o.ins) same ∙ length-map a.ins.items ring_in

pub ring_stay : (nodes : ℕ) (before after : List RingEnd) → AreConnected nodes (map outline before)
    → AllZip (λ x y. outline y ≡ outline x) before after → AreConnected nodes (map outline after)
ring_stay nodes before after connected same =
    let P : List (Outline Ring) → Type 0 = λ os. AreConnected nodes os in subst P (sym (same_map outline before after same)) connected
