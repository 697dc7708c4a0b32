use Rattle.std.proofs.Common.{◌≡◌, ◌∙◌, length, ap, sym, refl, arith, subst, not, rules}
use Rattle.std.specs.Prelude.{IsTrue, Some, None, filter}
use Rattle.std.proofs.lemmas.Fn.{filter_same}
use Rattle.std.proofs.lemmas.List.Sorted.{length_permutation}
use Rattle.key_order.specs.Due.{is_uncut}
use Rattle.world_spec.specs.Answer.{cut_of}
use Rattle.world_spec.specs.Closed.{fault_key as key_of_fault}
use Rattle.cycle_core.specs.Gathered.{IsFaultBelow, MayFaultBelow, fault_key, keys_in}
use Rattle.cycle_core.specs.Leasts.{IsLeastUpto}
use Rattle.cycle_core.proofs.CutLemmas.{all-uncut, are-keys, cut-whole, keys-differ, keys_in-few, least-faults, none-is, sorted, sorted-moves, sorted-up}
use Rattle.cycle_core.proofs.cutting.cut_nodes.Goals as goal
use Rattle.cycle_core.proofs.cutting.cut_nodes.Goals.{in-Some, in_default}

pub returns-then-are_within : goal.returns-then-are_within
returns-then-are_within g c =
    let of = g.M.Model.meaning in
    let nodes = c.args.nodes.now in
    let all = keys_in c.args.bound nodes in
    let none = none-is c.least_fault-fault.result (c.is_none.ensures ∙ ap not c.if-is_none.true) in
    let few = keys_in-few c.args.bound nodes in
    let fits = c.are_within.ensures (subst IsTrue (sym c.if-are_within.true) refl) in
    let long = length_permutation all (sorted all) (sorted-moves all) in
    record {
      keys = sorted all;
      keys_are = are-keys of c.args.bound nodes c.requires.world.model c.requires.world.terms c.requires.world.homes c.requires.world.are c.know_all.ensures (sorted all) (sorted-moves all)
          (sorted-up all (keys-differ of c.args.bound nodes c.requires.world.model c.requires.world.terms c.requires.world.homes c.requires.world.are c.know_all.ensures));
      fault = None;
      fault_is = least-faults of c.args.bound nodes None (subst (IsLeastUpto fault_key (IsFaultBelow of c.args.bound) (MayFaultBelow of c.args.bound) (length nodes) nodes) none c.least_fault-fault.ensures);
      is = cut-whole c.args.left (sorted all) (omega arith) ∙ ap (λ ks. cut_of c.args.left ks None) (sym (all-uncut (sorted all)));
    }

pub sorted_keys-requires-after_bounds : goal.sorted_keys-requires-after_bounds
sorted_keys-requires-after_bounds g c κs within = keys-differ (g.M.Model.meaning) c.args.bound c.args.nodes.now c.requires.world.model c.requires.world.terms c.requires.world.homes c.requires.world.are c.know_all.ensures

pub returns : goal.returns
returns g c =
    let of = g.M.Model.meaning in
    let nodes = c.args.nodes.now in
    let keys = c.in_ok-keys.keys.items in
    let fault = c.least_fault-fault.result in
    let left_over : c.match-fault.keys.items ≡ filter (is_uncut (key_of_fault fault)) keys =
    elim c.match-fault.branch [
      | in-Some w ↦ ap (λ v. v.items) w.keys-is ∙ filter_same _ (is_uncut (Some w.in-Some.first)) _ (λ x b f' k. search rules) _ _ w.retain.ensures.filtered ∙ ap (λ f. filter (is_uncut (key_of_fault f)) keys) (sym w.in-Some.is)
      | in_default w ↦ ap (λ v. v.items) w.keys-is ∙ sym (ap (λ f. filter (is_uncut (key_of_fault f)) keys) w.in_default.is ∙ all-uncut keys)
    ] in
    record {
      keys = keys;
      keys_are = are-keys of c.args.bound nodes c.requires.world.model c.requires.world.terms c.requires.world.homes c.requires.world.are c.know_all.ensures keys c.in_ok-keys.ensures.permutes c.in_ok-keys.ensures.ordered;
      fault = fault;
      fault_is = least-faults of c.args.bound nodes fault c.least_fault-fault.ensures;
      is = c.cut_keys.ensures ∙ ap (λ ks. cut_of c.args.left ks fault) (c.as_slice.ensures.value ∙ left_over);
    }
