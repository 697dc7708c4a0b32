use Rattle.std.proofs.Common.{◌≤◌, ℕ, [], length, get_or, sym, subst, arith}
use Rattle.cycle_core.proofs.StartLemmas.{parcel-few}
use Rattle.cycle_core.proofs.beginning.put_home.Goals as goal

pub add_at-requires-clause-few : goal.add_at-requires-clause-few
add_at-requires-clause-few c =
    let few = c.requires.parts.1 in
    let home = c.home-home.ensures.home in
    let le = parcel-few c.args.homes.now c.requires.parts.0 c.args.parcels.now.items c.args.event c.requires.parts.2 (let lt = c.home-home.ensures.node in omega arith) in
    let P : ℕ → Type 0 = λ k. length (get_or c.args.parcels.now.items k []) ≤ length c.requires.parts.0 in
    let here = subst P (sym home) le in
    omega arith
