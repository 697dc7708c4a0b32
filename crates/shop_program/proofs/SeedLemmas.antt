-- A shop under another seed has the same objects, and so its totals are summed up in the same way.
use Rattle.std.proofs.Common.{◌≡◌, ◌<◌, ◌+◌, ℕ, List, length, sym, ap, subst}
use Rattle.event_key.specs.declared.key.Key.{Key}
use Rattle.model_core.specs.declared.note.Note.{Note}
use Rattle.run_tally.specs.Tallies.{CanCome}
use Rattle.shop_model.specs.declared.shop.Shop.{Shop}
use Rattle.shop_model.specs.Meaning.{shop_meaning}
use Rattle.shop_model.specs.Views.{parts_of}
use Rattle.shop_program.specs.declared.seeded.SeededShop.{SeededShop}
use Rattle.shop_program.specs.SeededShops.{shop_seeded, seeded_meaning}

objects-seeded : (seeded : SeededShop) (shop : Shop) → shop ≡ shop_seeded seeded
    → (seeded_meaning seeded).objects ≡ (shop_meaning (parts_of shop)).objects
unfolding shop_meaning
objects-seeded seeded shop is = ap (λ (shop : Shop). length (parts_of shop).stations + length (parts_of shop).classes) (sym is)

pub can_come-seeded : (seeded : SeededShop) (shop : Shop) (records : List (Key × Note)) (told : Key × Note) → shop ≡ shop_seeded seeded
    → CanCome (seeded_meaning seeded) records told
    → CanCome (shop_meaning (parts_of shop)) records told
can_come-seeded seeded shop records told is can = record {
  object = (let At : ℕ → Type 0 = λ n. told.0.dest < n in subst At (objects-seeded seeded shop is) can.object);
  few_parts = can.few_parts;
  in_time = can.in_time;
  room = can.room;
}
