use Rattle.std.proofs.Common.{◌≡◌, ◌∙◌, ℕ, ◌++◌, sym, ap, ◌+◌, get_or, length, arith}
use Rattle.std.proofs.Math.ListN.{set}
use Rattle.event_key.specs.declared.key.Key.{Key}
use Rattle.event_key.specs.Stamps.{time_part}
use Rattle.model_core.specs.declared.note.Note.{Note}
use Rattle.replications.specs.Parts.{parts_told, parts_at}
use Rattle.replications.specs.Windows.{window_of}
use Rattle.replications.specs.Tables.{WindowsView, windows_of}
use Rattle.replications.proofs.TableLemmas.{windows_of-more, windows_of-at, windows_of-length, windows_of-first_tick, keeps_within}
use Rattle.replications.proofs.windows.Windows.add.Goals as goal

pub returns-clause-windows : goal.returns-clause-windows
returns-clause-windows c first_tick objects records summed =
    let told : Key × Note = (c.args.key.now, c.args.parts.now) in
    let dest = c.args.key.now.dest in
    let new = c.add.new.self in
    let whole = c.self.view_is ∙ summed in
    let many = ap (λ (s : WindowsView). length s.objects) summed ∙ windows_of-length first_tick objects records in
    let begins = ap (λ (s : WindowsView). s.first_tick) whole ∙ windows_of-first_tick first_tick objects records in
    let object : c.index_mut-window.result.now ≡ window_of first_tick (parts_told dest records) =
    c.index_mut-window.ensures.value ∙ ap (λ (s : WindowsView). get_or s.objects dest c.index_mut-window.result.now) whole ∙ windows_of-at first_tick objects records dest c.index_mut-window.result.now (omega (arith, many)) in
    let parts = parts_told dest records in
    let added = c.add.ensures.sums parts (object ∙ ap (λ n. window_of n parts) (sym begins))
    ∙ ap (λ n. window_of n (parts ++ parts_at c.time_of-time.result c.args.parts.now)) begins
    ∙ ap (λ time. window_of first_tick (parts ++ parts_at time c.args.parts.now)) c.time_of-time.ensures in
    let with_new : ℕ → WindowsView → WindowsView = λ time s. record { objects = set s.objects dest new; first_tick = s.first_tick; records = s.records + 1; last_time = time } in
    let with_first : ℕ → WindowsView = λ n. record (with_new (time_part c.args.key.now.stamp) (windows_of first_tick objects records)) { first_tick = n } in
    ap (with_new c.time_of-time.result) whole ∙ ap (λ time. with_new time (windows_of first_tick objects records)) c.time_of-time.ensures
    ∙ ap with_first (windows_of-first_tick first_tick objects records) ∙ windows_of-more first_tick objects records told new added

pub invariant_of-self : goal.invariant_of-self
invariant_of-self c = record {
  few = omega (arith, c.requires.room, ap (λ (s : WindowsView). s.records) c.self.view_is);
  early = omega (arith, c.time_of-time.ensures);
  sums = keeps_within c.self.inside.objects.items c.self.inside.records c.args.key.now.dest c.index_mut-window.result.now c.add.new.self
      (omega (arith, c.requires.object, ap (λ (s : WindowsView). length s.objects) c.self.view_is))
      c.index_mut-window.ensures.value c.self.invariant.sums c.add.ensures.within;
}
