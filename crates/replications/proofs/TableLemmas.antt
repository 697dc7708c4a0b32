-- What is known of each object, with one record more.
use Rattle.std.proofs.Common.{◌≡◌, ℕ, ◌+◌, ◌*◌, ◌<◌, List, [], ◌∷◌, ◌++◌, length, map, refl, sym, ap, ◌∙◌, arith, length-append, get_or, subst, replicate}
use Rattle.std.specs.Prelude.{All}
use Rattle.std.specs.List.{range_with_len}
use Rattle.std.proofs.Math.ListN.{set}
use Rattle.std.proofs.lemmas.List.{get_or-replicate, length-replicate}
use Rattle.std.proofs.lemmas.List.{ext_get_or}
use Rattle.std.proofs.lemmas.List.Elements.{All-set}
use Rattle.std.proofs.lemmas.List.FromFn.{length-map-range_with_len, get_or-map-range_with_len}
use Rattle.event_key.specs.declared.key.Key.{Key}
use Rattle.event_key.specs.Stamps.{time_part}
use Rattle.model_core.specs.declared.note.Note.{Note}
use Rattle.run_tally.specs.Tallies.{last_time}
use Rattle.run_tally.proofs.InTime.{last_time-more}
use Rattle.run_tally.proofs.ToldLemmas.{told-here, told-elsewhere}
use Rattle.sim_stats.proofs.TotalsLemmas.{map-range-set}
use Rattle.replications.specs.declared.window.Window.{Window}
use Rattle.replications.specs.Parts.{timed_parts, parts_told}
use Rattle.replications.specs.Stays.{lefts_after, last_left, stays, spent}
use Rattle.replications.specs.Parts.{from_tick}
use Rattle.replications.specs.Windows.{line_before, greatest, longest_from, window_of, IsWithin}
use Rattle.replications.specs.Tables.{WindowsView, windows_of}
use Rattle.replications.proofs.WindowLemmas.{IsWithin-more}

window_at : ℕ → List (Key × Note) → ℕ → Window
window_at first_tick records object = window_of first_tick (parts_told object records)

pub windows_of-more : (first_tick objects : ℕ) (records : List (Key × Note)) (told : Key × Note) (now : Window) → now ≡ window_of first_tick (parts_told told.0.dest records ++ timed_parts told)
    → record { objects = set (windows_of first_tick objects records).objects told.0.dest now; first_tick = first_tick; records = (windows_of first_tick objects records).records + 1; last_time = time_part told.0.stamp }
    ≡ windows_of first_tick objects (records ++ told ∷ [])
unfolding windows_of window_at parts_told
windows_of-more first_tick objects records told now here =
    let changed : set (map (window_at first_tick records) (range_with_len 0 objects)) told.0.dest now ≡ map (window_at first_tick (records ++ told ∷ [])) (range_with_len 0 objects) =
    map-range-set (window_at first_tick records) (window_at first_tick (records ++ told ∷ [])) objects told.0.dest now
    (here ∙ ap (window_of first_tick) (sym (told-here timed_parts records told)))
    (λ i apart. ap (window_of first_tick) (told-elsewhere timed_parts i records told apart)) in
    let count : length records + 1 ≡ length (records ++ told ∷ []) = sym (length-append records (told ∷ [])) in
    let last : time_part told.0.stamp ≡ last_time 0 (records ++ told ∷ []) = sym (last_time-more 0 records told) in
    let with_last : List Window → ℕ → ℕ → WindowsView = λ objects records last. record { objects = objects; first_tick = first_tick; records = records; last_time = last } in
    ap (λ objects. with_last objects (length records + 1) (time_part told.0.stamp)) changed
    ∙ ap (λ n. with_last (map (window_at first_tick (records ++ told ∷ [])) (range_with_len 0 objects)) n (time_part told.0.stamp)) count
    ∙ ap (with_last (map (window_at first_tick (records ++ told ∷ [])) (range_with_len 0 objects)) (length (records ++ told ∷ []))) last

-- what is known of an object that there is
pub windows_of-at : (first_tick objects : ℕ) (records : List (Key × Note)) (object : ℕ) (none : Window) → object < objects
    → get_or (windows_of first_tick objects records).objects object none ≡ window_of first_tick (parts_told object records)
unfolding windows_of window_at
windows_of-at first_tick objects records object none exists = get_or-map-range_with_len (window_at first_tick records) 0 objects object object none exists (omega arith)

pub windows_of-length : (first_tick objects : ℕ) (records : List (Key × Note)) → length (windows_of first_tick objects records).objects ≡ objects
unfolding windows_of window_at
windows_of-length first_tick objects records = length-map-range_with_len (window_at first_tick records) 0 objects

pub windows_of-first_tick : (first_tick objects : ℕ) (records : List (Key × Note)) → (windows_of first_tick objects records).first_tick ≡ first_tick
unfolding windows_of
windows_of-first_tick first_tick objects records = refl

pub windows_of-records : (first_tick objects : ℕ) (records : List (Key × Note)) → (windows_of first_tick objects records).records ≡ length records
unfolding windows_of
windows_of-records first_tick objects records = refl

pub windows_of-last_time : (first_tick objects : ℕ) (records : List (Key × Note)) → (windows_of first_tick objects records).last_time ≡ last_time 0 records
unfolding windows_of
windows_of-last_time first_tick objects records = refl

pub windows_of-none : (first_tick objects : ℕ) → windows_of first_tick objects [] ≡ record { objects = replicate objects (window_of first_tick []); first_tick = first_tick; records = 0; last_time = 0 }
unfolding windows_of parts_told last_time
windows_of-none first_tick objects =
    let none : ℕ → Window = λ _. window_of first_tick [] in
    let long : length (map none (range_with_len 0 objects)) ≡ objects = length-map-range_with_len none 0 objects in
    ap (λ (windows : List Window). record { objects = windows; first_tick = first_tick; records = 0; last_time = 0 })
    (ext_get_or (window_of first_tick []) (map none (range_with_len 0 objects)) (replicate objects (window_of first_tick [])) (long ∙ sym (length-replicate objects (window_of first_tick [])))
    (λ i within. get_or-map-range_with_len none 0 objects i i (window_of first_tick []) (omega (arith, long)) (omega arith) ∙ sym (get_or-replicate objects i (window_of first_tick []) (window_of first_tick []) (omega (arith, long)))))

none_is_small : (first_tick : ℕ) → IsWithin 0 (window_of first_tick [])
unfolding from_tick lefts_after last_left stays spent line_before greatest longest_from window_of
none_is_small first_tick = record {
  arrivals = omega arith;
  served = omega arith;
  lost = omega arith;
  busy_now = omega arith;
  waiting_now = omega arith;
  busy = omega arith;
  waiting = omega arith;
  age = omega arith;
}

pub none_are_small : (first_tick objects : ℕ) (windows : List Window) → windows ≡ replicate objects (window_of first_tick []) → All (λ (window : Window). IsWithin 0 window) windows
none_are_small first_tick objects windows are k d within =
    subst (IsWithin 0) (sym (ap (λ (windows : List Window). get_or windows k d) are ∙ get_or-replicate objects k (window_of first_tick []) d (omega (arith, ap length are, length-replicate objects (window_of first_tick []))))) (none_is_small first_tick)

-- one object with a record more, and the others as they were
pub keeps_within : (windows : List Window) (records place : ℕ) (none now : Window) → place < length windows → none ≡ get_or windows place none → All (λ (window : Window). IsWithin (4 * records) window) windows
    → ((parts : ℕ) → IsWithin parts none → IsWithin (parts + 4) now)
    → All (λ (window : Window). IsWithin (4 * (records + 1)) window) (set windows place now)
keeps_within windows records place none now exists is all more =
    All-set (IsWithin (4 * (records + 1))) windows place now
    (IsWithin-more (4 * records + 4) (4 * (records + 1)) now (omega arith) (more (4 * records) (subst (IsWithin (4 * records)) (sym is) (all place none exists))))
    (λ k d within. IsWithin-more (4 * records) (4 * (records + 1)) (get_or windows k d) (omega arith) (all k d within))
