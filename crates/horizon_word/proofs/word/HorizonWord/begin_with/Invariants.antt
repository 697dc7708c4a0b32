use Rattle.std.proofs.Common.{◌≡◌, ◌+◌, All, vec_len}
use Rattle.horizon_word.specs.Rule.{first_note}
use Rattle.horizon_word.specs.Views.{new_seat}
use Rattle.horizon_word.proofs.word.HorizonWord.begin_with.Given as goal

abbrev pub invariant-loop : goal.invariant-loop
invariant-loop l = record {
  count : vec_len l.all + 1 ≡ l.counter;
  one_word : l.table.shared.table_id.words ≡ 1;
  first_held : l.first.table_id ≡ l.table.shared.table_id;
  first_new : l.first.me.0 ≡ first_note l.table.shared.key;
  key : l.table.shared.key ≡ record { floor = l.fn.floor; start = l.fn.start };
  all_new : All (λ seat. seat ≡ new_seat l.table.shared.table_id l.fn.floor l.fn.start) l.all.items;
}
