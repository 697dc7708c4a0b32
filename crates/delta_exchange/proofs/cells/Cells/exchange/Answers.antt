-- One line of the list changed, seen as the definitions have it.
use Rattle.std.proofs.Common.{ℕ, ◌+◌, ◌-◌, ◌<◌, List, [], ◌∷◌, ◌++◌, length, map, take, drop, refl, sym, ap, ◌∙◌, subst}
use Rattle.std.proofs.Math.ListN.{set}
use Rattle.std.specs.Prelude.{slice_index}
use Rattle.std.proofs.lemmas.List.{set-get_or}
use Rattle.delta_exchange.specs.declared.change.Change.{Change}
use Rattle.delta_exchange.specs.declared.change.Change.TheVariants.{Pop, Push, Set, Unpop, Unpush}
use Rattle.delta_exchange.specs.Changes.{cells_after, inverse_of, with_flipped}
use Rattle.delta_exchange.specs.Spares.{spare_after}
use Rattle.delta_exchange.specs.Views.{CellsView, LineView}
use Rattle.delta_exchange.proofs.LineLemmas.{has_spares, read_spare, read_values, values_changed, spare_changed}
use Rattle.delta_exchange.proofs.cells.Cells.exchange.Goals as goal

pub returns-in-Push : goal.returns-in-Push
returns-in-Push c =
    let fits = rw (c.in-Push.is, ← c.self.view_is) at c.requires.fits in
    let changed = values_changed (λ values. values ++ c.in-Push.value ∷ []) c.self.inside.lines.items c.in-Push.line c.index_mut-queue.result.now c.push_back.new.self fits c.index_mut-queue.ensures.value (rw c.push_back.ensures) in
    let spared = spare_changed (λ spare. spare - 1) c.self.inside.lines.items c.in-Push.line c.index_mut-queue.result.now c.push_back.new.self fits c.index_mut-queue.ensures.value (rw c.push_back.ensures) in
    record {
      cells = rw (c.in-Push.is, ← c.self.view_is, changed);
      spare = rw (c.in-Push.is, ← c.self.view_is, spared);
      change = ap (λ (ch : Change). inverse_of ch c.args.self.now.contents) (sym c.in-Push.is);
      spares = has_spares (set c.self.inside.lines.items c.in-Push.line c.push_back.new.self);
    }

pub returns-in-Pop : goal.returns-in-Pop
returns-in-Pop c =
    let fits = rw (c.in-Pop.is, ← c.self.view_is) at c.requires.fits in
    let read = read_values c.self.inside.lines.items c.in-Pop.line c.index_mut-queue-in-Pop.result.now fits.0 c.index_mut-queue-in-Pop.ensures.value in
    let changed = values_changed (drop 1) c.self.inside.lines.items c.in-Pop.line c.index_mut-queue-in-Pop.result.now c.pop_front-value.new.self fits.0 c.index_mut-queue-in-Pop.ensures.value (rw c.pop_front-value.ensures.rest) in
    let spared = spare_changed (λ spare. spare + 1) c.self.inside.lines.items c.in-Pop.line c.index_mut-queue-in-Pop.result.now c.pop_front-value.new.self fits.0 c.index_mut-queue-in-Pop.ensures.value (rw c.pop_front-value.ensures.rest) in
    record {
      cells = rw (c.in-Pop.is, ← c.self.view_is, changed);
      spare = rw (c.in-Pop.is, ← c.self.view_is, spared);
      change = (λ i. Unpop c.in-Pop.line ((c.pop_front-value.ensures.value ∙ ap (λ vs. slice_index vs 0) (sym read)) i)) ∙ ap (λ (v : CellsView). inverse_of (Pop c.in-Pop.line) v.contents) c.self.view_is ∙ ap (λ (ch : Change). inverse_of ch c.args.self.now.contents) (sym c.in-Pop.is);
      spares = has_spares (set c.self.inside.lines.items c.in-Pop.line c.pop_front-value.new.self);
    }

pub returns-in-Unpush : goal.returns-in-Unpush
returns-in-Unpush c =
    let fits = rw (c.in-Unpush.is, ← c.self.view_is) at c.requires.fits in
    let read = read_values c.self.inside.lines.items c.in-Unpush.line c.index_mut-queue-in-Unpush.result.now fits.0 c.index_mut-queue-in-Unpush.ensures.value in
    let changed = values_changed (λ values. take (length values - 1) values) c.self.inside.lines.items c.in-Unpush.line c.index_mut-queue-in-Unpush.result.now c.pop_back-value.new.self fits.0 c.index_mut-queue-in-Unpush.ensures.value (rw c.pop_back-value.ensures.rest) in
    let spared = spare_changed (λ spare. spare + 1) c.self.inside.lines.items c.in-Unpush.line c.index_mut-queue-in-Unpush.result.now c.pop_back-value.new.self fits.0 c.index_mut-queue-in-Unpush.ensures.value (rw c.pop_back-value.ensures.rest) in
    record {
      cells = rw (c.in-Unpush.is, ← c.self.view_is, changed);
      spare = rw (c.in-Unpush.is, ← c.self.view_is, spared);
      change = (λ i. Push c.in-Unpush.line ((c.pop_back-value.ensures.value ∙ ap (λ (vs : List ℕ). slice_index vs (length vs - 1)) (sym read)) i)) ∙ ap (λ (v : CellsView). inverse_of (Unpush c.in-Unpush.line) v.contents) c.self.view_is ∙ ap (λ (ch : Change). inverse_of ch c.args.self.now.contents) (sym c.in-Unpush.is);
      spares = has_spares (set c.self.inside.lines.items c.in-Unpush.line c.pop_back-value.new.self);
    }

pub returns-in-Unpop : goal.returns-in-Unpop
returns-in-Unpop c =
    let fits = rw (c.in-Unpop.is, ← c.self.view_is) at c.requires.fits in
    let changed = values_changed (λ values. c.in-Unpop.value ∷ values) c.self.inside.lines.items c.in-Unpop.line c.index_mut-queue-in-Unpop.result.now c.push_front.new.self fits c.index_mut-queue-in-Unpop.ensures.value (rw c.push_front.ensures) in
    let spared = spare_changed (λ spare. spare - 1) c.self.inside.lines.items c.in-Unpop.line c.index_mut-queue-in-Unpop.result.now c.push_front.new.self fits c.index_mut-queue-in-Unpop.ensures.value (rw c.push_front.ensures) in
    record {
      cells = rw (c.in-Unpop.is, ← c.self.view_is, changed);
      spare = rw (c.in-Unpop.is, ← c.self.view_is, spared);
      change = ap (λ (ch : Change). inverse_of ch c.args.self.now.contents) (sym c.in-Unpop.is);
      spares = has_spares (set c.self.inside.lines.items c.in-Unpop.line c.push_front.new.self);
    }

pub returns-in-Flip : goal.returns-in-Flip
returns-in-Flip c =
    let fits = rw (c.in-Flip.is, ← c.self.view_is) at c.requires.fits in
    let changed = values_changed (λ values. with_flipped values c.in-Flip.place) c.self.inside.lines.items c.in-Flip.line c.index_mut-queue-in-Flip.result.now c.flip.new.self fits.0 c.index_mut-queue-in-Flip.ensures.value (rw c.flip.ensures) in
    let spared = spare_changed (λ spare. spare) c.self.inside.lines.items c.in-Flip.line c.index_mut-queue-in-Flip.result.now c.flip.new.self fits.0 c.index_mut-queue-in-Flip.ensures.value (rw c.flip.ensures) in
    record {
      cells = rw (c.in-Flip.is, ← c.self.view_is, changed);
      spare = rw (c.in-Flip.is, ← c.self.view_is, spared, set-get_or) refl;
      change = c.in-Flip.is ∙ ap (λ (ch : Change). inverse_of ch c.args.self.now.contents) (sym c.in-Flip.is);
      spares = has_spares (set c.self.inside.lines.items c.in-Flip.line c.flip.new.self);
    }

pub returns-in-Set : goal.returns-in-Set
returns-in-Set c =
    let now = c.args.self.now in
    let lines = c.self.inside.lines.items in
    let set_is = sym c.in-Set.is in
    record {
      cells = (λ i. record { words = c.set.ensures i; lines = map (λ (line : LineView). line.values) lines })
          ∙ ap (λ (v : CellsView). cells_after (Set c.in-Set.word c.in-Set.value) v.contents) c.self.view_is
          ∙ ap (λ (ch : Change). cells_after ch now.contents) set_is;
      spare = ap (λ (v : CellsView). v.spare) c.self.view_is ∙ ap (λ (ch : Change). spare_after ch now.spare) set_is;
      change = (λ i. Set c.in-Set.word (c.at-before.ensures i))
          ∙ ap (λ (v : CellsView). inverse_of (Set c.in-Set.word c.in-Set.value) v.contents) c.self.view_is
          ∙ ap (λ (ch : Change). inverse_of ch now.contents) set_is;
      spares = has_spares lines;
    }

pub pop_front-value-requires : goal.pop_front-value-requires
pop_front-value-requires c =
    let fits = rw (c.in-Pop.is, ← c.self.view_is) at c.requires.fits in
    let P : List ℕ → Type 0 = λ vs. 0 < length vs in
    subst P (read_values c.self.inside.lines.items c.in-Pop.line c.index_mut-queue-in-Pop.result.now fits.0 c.index_mut-queue-in-Pop.ensures.value) fits.1

pub pop_back-value-requires : goal.pop_back-value-requires
pop_back-value-requires c =
    let fits = rw (c.in-Unpush.is, ← c.self.view_is) at c.requires.fits in
    let P : List ℕ → Type 0 = λ vs. 0 < length vs in
    subst P (read_values c.self.inside.lines.items c.in-Unpush.line c.index_mut-queue-in-Unpush.result.now fits.0 c.index_mut-queue-in-Unpush.ensures.value) fits.1

pub push_back-requires : goal.push_back-requires
push_back-requires c =
    let fits = rw (c.in-Push.is, ← c.self.view_is) at c.requires.fits in
    let room = rw (c.in-Push.is, ← c.self.view_is) at c.requires.room in
    let P : ℕ → Type 0 = λ n. 0 < n in
    subst P (read_spare c.self.inside.lines.items c.in-Push.line c.index_mut-queue.result.now fits c.index_mut-queue.ensures.value) room

pub push_front-requires : goal.push_front-requires
push_front-requires c =
    let fits = rw (c.in-Unpop.is, ← c.self.view_is) at c.requires.fits in
    let room = rw (c.in-Unpop.is, ← c.self.view_is) at c.requires.room in
    let P : ℕ → Type 0 = λ n. 0 < n in
    subst P (read_spare c.self.inside.lines.items c.in-Unpop.line c.index_mut-queue-in-Unpop.result.now fits c.index_mut-queue-in-Unpop.ensures.value) room
