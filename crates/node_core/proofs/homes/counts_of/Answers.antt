-- No count passes the number of homes.
use Rattle.std.proofs.Common.{ℕ, ◌<◌, get_or, sym, ◌∙◌, subst, arith}
use Rattle.node_core.proofs.HomeLemmas.{count-room, each-get}
use Rattle.node_core.proofs.homes.counts_of.Goals as goal

pub index_mut-requires : goal.index_mut-requires
index_mut-requires c =
    let H : ℕ → Type 0 = λ home. home < c.args.nodes in
    let home = get_or c.args.homes.now c.loop-home.home-index 0 in
    let W : ℕ → Type 0 = λ n. home < n in
    subst W (sym (c.loop-home.counts.ok.0 ∙ c.loop-home.invariant.many)) (each-get H c.args.homes.now c.loop-home.home-index 0 c.requires.within c.loop-home-test.true)

pub overflow_add-index_mut : goal.overflow_add-index_mut
overflow_add-index_mut c =
    let room = count-room c.args.homes.now c.loop-home.counts.items c.args.nodes c.loop-home.home-index c.index_mut.result.now c.loop-home-test.true c.requires.within c.loop-home.invariant.many c.loop-home.invariant.each
    c.index_mut.ensures.value in
    omega (arith, c.requires.few)
