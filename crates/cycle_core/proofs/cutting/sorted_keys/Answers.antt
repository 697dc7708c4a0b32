use Rattle.std.proofs.Common.{add-one, length, refl, arith, subst}
use Rattle.std.specs.Prelude.{IsPermutation}
use Rattle.std.proofs.lemmas.Option.{slice_get_read}
use Rattle.event_key.specs.Keys.{key_lt, key_cmp}
use Rattle.key_order.proofs.KeyLemmas.{Differ-permutation}
use Rattle.key_order.proofs.SortLemmas.{sorted-ascends}
use Rattle.cycle_core.specs.Gathered.{itself, keys_in}
use Rattle.cycle_core.proofs.CutLemmas.{keys_in-more, keys_in-all}
use Rattle.cycle_core.proofs.cutting.sorted_keys.Goals as goal

pub loop-node-preserved : goal.loop-node-preserved
loop-node-preserved g c =
    let at = slice_get_read c.args.nodes.now (length c.args.nodes.now) c.loop-node.node-index c.node-item.result refl (omega arith) c.node-item.is in
    rw add-one (keys_in-more c.args.bound c.loop-node.node-index c.args.nodes.now c.node-item.result c.loop-node.keys.items c.keys_below.new.into.items at c.in_ok-keys_below.ensures.ok c.loop-node.invariant)

pub returns-clause-permutes : goal.returns-clause-permutes
returns-clause-permutes g c =
    let all = keys_in-all c.args.bound c.loop-node.node-index c.args.nodes.now c.loop-node.keys.items (omega arith) c.loop-node.invariant in
    subst (λ ks. IsPermutation ks c.sort.new.self.items) all c.in_ok-sort.ensures.permutation

pub returns-clause-ordered : goal.returns-clause-ordered
unfolding key_lt key_cmp
returns-clause-ordered g c =
    let all = keys_in-all c.args.bound c.loop-node.node-index c.args.nodes.now c.loop-node.keys.items (omega arith) c.loop-node.invariant in
    let moves = subst (λ ks. IsPermutation ks c.sort.new.self.items) all c.in_ok-sort.ensures.permutation in
    sorted-ascends itself c.sort.new.self.items (Differ-permutation itself (keys_in c.args.bound c.args.nodes.now) c.sort.new.self.items moves c.requires) c.in_ok-sort.ensures.sorted
