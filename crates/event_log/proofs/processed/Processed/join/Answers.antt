-- The event comes behind the news, for which there is room.
use Rattle.std.proofs.Common.{◌≡◌, ℕ, ◌+◌, ◌-◌, ◌<◌, ◌≤◌, ◌^◌, min, List, [], ◌∷◌, ◌++◌, length, map, refl, sym, ap, ◌∙◌, subst, arith, length-append}
use Rattle.std.proofs.Math.Nat.{le_trans}
use Rattle.std.proofs.lemmas.List.{length-map}
use Rattle.key_order.specs.Keys.{times}
use Rattle.model_core.specs.declared.event.Event.{Event}
use Rattle.model_core.specs.Meaning.{Meaning}
use Rattle.object_log.specs.Carrying.{placed_key}
use Rattle.object_log.specs.Objects.{KeptObject}
use Rattle.object_log.specs.Weave.{insert}
use Rattle.object_log.proofs.FireFacts.{still}
use Rattle.event_log.specs.Items.{CarriedView}
use Rattle.event_log.specs.News.{CanFire, HasJoined, NewsView, homed}
use Rattle.event_log.specs.Processing.{AreHomed, CanJoin, HasCome, IsProcessed, ProcessedView, merged, processed_view}
use Rattle.event_log.proofs.ProcessFacts.{none-lost}
use Rattle.event_log.proofs.ProcessedFacts.{homed-more, joined-items, roomier, still-processed}
use Rattle.event_log.proofs.processed.Processed.join.Goals as goal
use Rattle.event_log.proofs.processed.Processed.join.Goals.{After-idle_after-self-inside}
use Rattle.event_log.proofs.processed.Processed.join.Given.{Over}

idle-few : (idle done news : ℕ) → idle ≤ done → done ≡ news → news + 8 < 2 ^ 60 → idle < 2 ^ 60
idle-few idle done news most same few = omega arith

pub make_room-room-requires-clause-few : goal.make_room-room-requires-clause-few
make_room-room-requires-clause-few g c =
    let F : ℕ → Type 0 = λ k. k + 8 < 2 ^ 60 in
    subst F (sym (c.len-news.ensures ∙ ap (λ (v : ProcessedView). length v.news) c.self.view_is)) c.requires.can.few

pub make_room-room-requires-clause-idle : goal.make_room-room-requires-clause-idle
make_room-room-requires-clause-idle g c =
    let I : ℕ → Type 0 = λ k. c.self.inside.idle ≤ k in
    subst I (sym c.len-news.ensures) c.self.invariant.idle_most

pub invariant_of-self : goal.invariant_of-self
invariant_of-self g c =
    let n = c.self.inside in
    let made = c.make_room-room.ensures in
    roomier n.places.items c.make_room-room.new.places.items n.news n.carried c.make_room-room.new.carried n.idle n.cells c.make_room-room.new.cells c.self.invariant made.places made.items made.room_kept made.cells_kept

pub process-requires-clause-fires : goal.process-requires-clause-fires
process-requires-clause-fires g c = λ k l.
    let m : Meaning = g.M.Model.meaning c.args.model.now in
    let F : ProcessedView → Type 0 = λ v. CanFire m c.args.homes.now v.nodes c.args.object.now c.args.event in
    subst F (sym c.self.view_is) c.requires.fires

pub process-requires-clause-takes : goal.process-requires-clause-takes
process-requires-clause-takes g c = λ k l.
    let P : ProcessedView → Type 0 = λ v. CanJoin c.args.event.key v in
    let can = subst P (sym c.self.view_is) c.requires.can in
    record { above = can.above; went = can.went; few = can.few; few_sent = can.few_sent }

pub process-requires-clause-whole : goal.process-requires-clause-whole
process-requires-clause-whole g c = λ k l. c.self.invariant.whole

-- what came of it
came : (m : Meaning) (places places' : List ℕ) (place idle idle' spare room cells : ℕ) (v v' : NewsView) (k k' : CarriedView) (event : Event) (earlier later : KeptObject) (least : ℕ) (homes : List ℕ)
    → IsProcessed places v k idle spare → (h : HasJoined m homes event earlier later v v' least)
    → places' ≡ places ++ place ∷ [] → k'.items ≡ k.items → length v.done + 1 ≤ k'.room → length v.done + 8 < 2 ^ 60 → idle + 8 ≤ room → min (room + 1) (2 ^ 60) + length v.sent ≤ cells + length v'.sent
    → (0 < length v'.sent - length v.sent → idle' ≡ idle) → (length v'.sent - length v.sent ≡ 0 → idle' ≡ idle + 1) → times placed_key event.key (merged v.done places k.items) ≡ 0
    → IsProcessed places' v' k' idle' cells × HasCome m event place earlier later (processed_view places v k) (processed_view places' v' k') least
came m places places' place idle idle' spare room cells v v' k k' event earlier later least homes p h places_are items_are enough few spares left some none new =
    let d = h.entry in
    let T : Event → Type 0 = λ e. times placed_key e.key (merged v.done places k.items) ≡ 0 in
    let fresh = subst T (sym h.fired.event_is) new in
    let sent = ap length h.sent in
    let parts = length-append v.sent (map (homed homes) d.sends) in
    let mapped = length-map d.sends (homed homes) in
    let few_sends = h.few_sends in
    let L : List ℕ → Type 0 = λ ps. IsProcessed ps v' k' idle' cells in
    let I : List ℕ → Type 0 = λ ps. merged v'.done ps k'.items ≡ insert placed_key (record { done = d; place = place }) (merged v.done places k.items) in (
      subst L (sym places_are) (still-processed places place v v' k k' d idle spare idle' cells p h.done fresh items_are h.gone h.few_changes few_sends enough few room spares (omega arith) (λ some_sent. some (omega arith)) (λ none_sent. none (omega arith))),
      record {
        entry = d;
        fired = h.fired;
        items = subst I (sym places_are) (joined-items places place v v' k k' d idle spare idle' cells p h.done fresh items_are);
        least_is = h.least_is;
      },
    )

-- it came behind the news
abbrev Came : (g : Over) → After-idle_after-self-inside g → Type 0
Came g c =
    let m : Meaning = g.M.Model.meaning c.args.model.now in
    let n = c.self.inside in
    let places = c.push_reserved.new.self.items in
    let news = c.process.new.self in
    let carried = c.make_room-room.new.carried in
    IsProcessed places news carried c.idle_after-self-inside.result c.process.new.pool
    × HasCome m c.args.event c.args.place c.args.object.now c.process.new.object (processed_view n.places.items n.news n.carried) (processed_view places news carried) c.in-Ok-process.least

here : (g : Over) (c : After-idle_after-self-inside g) → Came g c
here g c =
    let m : Meaning = g.M.Model.meaning c.args.model.now in
    let n = c.self.inside in
    let made = c.make_room-room.ensures in
    let room = c.make_room-room.new in
    let process = c.in-Ok-process in
    let idle = c.idle_after-self-inside in
    let F : ℕ → Type 0 = λ k. k + 8 < 2 ^ 60 in
    let few : length n.news.done + 8 < 2 ^ 60 = subst F (sym (ap (λ (v : ProcessedView). length v.news) c.self.view_is)) c.requires.can.few in
    let R : ℕ → Type 0 = λ k. k + 1 ≤ room.carried.room in
    let enough : length n.news.done + 1 ≤ room.carried.room = subst R c.len-news.ensures c.in-Ok.ensures.room in
    let sends : c.sent.result - c.sent-sent.result ≡ length c.process.new.self.sent - length n.news.sent = (λ i. c.sent.ensures i - c.sent-sent.ensures i) in
    let S : ℕ → Type 0 = λ k. 0 < k in
    let T : ProcessedView → Type 0 = λ v. times placed_key c.args.event.key v.items ≡ 0 in
    let places = c.push_reserved.ensures.items ∙ ap (λ (ps : List ℕ). ps ++ c.args.place ∷ []) made.places in
    came m n.places.items c.push_reserved.new.self.items c.args.place n.idle idle.result n.cells room.cells c.process.new.pool n.news c.process.new.self n.carried room.carried
    c.args.event c.args.object.now c.process.new.object process.least c.args.homes.now c.self.invariant process.ensures.ok places made.items enough few
    c.in-Ok.ensures.cells process.ensures.cells (λ some. idle.ensures.some (subst S (sym sends) some)) (λ none. idle.ensures.none (sends ∙ none))
    (subst T (sym c.self.view_is) c.requires.new)

pub invariant_of-self-in-Ok-process : goal.invariant_of-self-in-Ok-process
invariant_of-self-in-Ok-process g c = (here g (goal.at.invariant_of-self-in-Ok-process g c).After-idle_after-self-inside).0

pub returns-in-Ok-process : goal.returns-in-Ok-process
returns-in-Ok-process g c =
    let m : Meaning = g.M.Model.meaning c.args.model.now in
    let now = processed_view c.push_reserved.new.self.items c.process.new.self c.make_room-room.new.carried in
    let V : ProcessedView → Type 0 = λ v. HasCome m c.args.event c.args.place c.args.object.now c.process.new.object v now c.in-Ok-process.least in
    let h = c.in-Ok-process.ensures.ok in
    let H : ProcessedView → Type 0 = λ v. AreHomed c.args.homes.now v.chained in
    record {
      ok = subst V c.self.view_is (here g (goal.at.returns-in-Ok-process g c).After-idle_after-self-inside).1;
      err = tt;
      same = tt;
      back = tt;
      nodes = h.nodes ∙ ap (λ (v : ProcessedView). v.nodes) c.self.view_is;
      homed = λ homed_are. homed-more c.args.homes.now c.self.inside.news.sent c.process.new.self.sent h.entry.sends h.sent (subst H (sym c.self.view_is) homed_are);
    }

pub invariant_of-self-in-Err : goal.invariant_of-self-in-Err
invariant_of-self-in-Err g c =
    let n = c.self.inside in
    let made = c.make_room-room.ensures in
    let R : NewsView → Type 0 = λ v. IsProcessed c.make_room-room.new.places.items v c.make_room-room.new.carried n.idle c.process.new.pool in
    subst R (sym c.in-Err.ensures.err)
    (roomier n.places.items c.make_room-room.new.places.items n.news n.carried c.make_room-room.new.carried n.idle n.cells c.process.new.pool c.self.invariant made.places made.items made.room_kept (le_trans made.cells_kept c.in-Err.ensures.cells_kept))

pub returns-in_default : goal.returns-in_default
returns-in_default g c =
    let n = c.self.inside.news in
    let made = c.make_room-room.ensures in
    let H : ProcessedView → Type 0 = λ v. AreHomed c.args.homes.now v.chained in
    record {
      ok = tt;
      err = (λ i. record { items = merged n.done (made.places i) (made.items i); news = n.done; chained = n.sent; nodes = n.nodes }) ∙ c.self.view_is;
      same = still c.args.object.now;
      back = refl;
      nodes = ap (λ (v : ProcessedView). v.nodes) c.self.view_is;
      homed = λ homed_are. subst H (sym c.self.view_is) homed_are;
    }

pub returns-in-Err : goal.returns-in-Err
returns-in-Err g c =
    let made = c.make_room-room.ensures in
    let same = c.in-Err.ensures.err in
    let H : ProcessedView → Type 0 = λ v. AreHomed c.args.homes.now v.chained in
    let N : NewsView → Type 0 = λ v. AreHomed c.args.homes.now v.sent in
    record {
      ok = tt;
      err = (λ i. record { items = merged (same i).done (made.places i) (made.items i); news = (same i).done; chained = (same i).sent; nodes = (same i).nodes }) ∙ c.self.view_is;
      same = c.in-Err.ensures.same;
      back = c.in-Err.ensures.back;
      nodes = ap (λ (v : NewsView). v.nodes) c.in-Err.ensures.err ∙ ap (λ (v : ProcessedView). v.nodes) c.self.view_is;
      homed = λ homed_are. subst N (sym c.in-Err.ensures.err) (subst H (sym c.self.view_is) homed_are);
    }

pub overflow_sub-sent : goal.overflow_sub-sent
overflow_sub-sent g c =
    let h = c.in-Ok-process.ensures.ok in
    let was = c.self.inside.news.sent in
    none-lost _ _ _ _ _ c.sent.ensures c.sent-sent.ensures (ap length h.sent ∙ length-append was (map (homed c.args.homes.now) h.entry.sends))

pub idle_after-self-inside-requires : goal.idle_after-self-inside-requires
idle_after-self-inside-requires g c =
    idle-few _ _ _ c.self.invariant.idle_most (ap (λ (v : ProcessedView). length v.news) c.self.view_is) c.requires.can.few
