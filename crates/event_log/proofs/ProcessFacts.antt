-- An event that an object fired joins the news.
use Rattle.std.proofs.Common.{◌≡◌, ℕ, ◌+◌, ◌-◌, ◌≤◌, min, true, List, [], ◌∷◌, ◌++◌, length, map, refl, sym, ap, ◌∙◌, subst, arith, length-append}
use Rattle.std.proofs.lemmas.List.{append-nil, map-append}
use Rattle.std.specs.Prelude.{Option, Some, None}
use Rattle.std.specs.List.{AllByRecursion as Each}
use Rattle.event_key.specs.declared.key.Key.{Key}
use Rattle.event_key.specs.Keys.{key_lt}
use Rattle.event_key.specs.declared.stamp.TheConstants.{NO_STAMP}
use Rattle.delta_exchange.specs.declared.change.Change.{Change}
use Rattle.key_order.specs.Stamps.{least_stamp}
use Rattle.key_order.proofs.StampLemmas.{least_stamp-append}
use Rattle.model_core.specs.declared.effect.Effect.{Effect}
use Rattle.model_core.specs.declared.event.Event.{Event}
use Rattle.model_core.specs.declared.note.Note.{Note}
use Rattle.model_core.specs.Meaning.{Meaning}
use Rattle.sim_spec.specs.Firing.{emissions}
use Rattle.sim_spec.proofs.SerialLemmas.{length-emissions}
use Rattle.object_log.specs.Dones.{Done}
use Rattle.object_log.specs.Logs.{fault_of, held_of}
use Rattle.object_log.specs.Objects.{HasFired, KeptObject}
use Rattle.object_log.proofs.HeldLemmas.{least-join, least-start}
use Rattle.event_log.specs.declared.row.Row.{Row}
use Rattle.object_log.specs.Fired.{HasGone, failed_of, went_of}
use Rattle.event_log.specs.News.{HasJoined, HoldsNews, IsNews, NewsView, homed, least_after, news_view}
use Rattle.event_log.specs.Outboxes.{message}
use Rattle.event_log.proofs.JoinFacts.{IsPushed, code-gone, holds-push, least-after}
use Rattle.event_log.proofs.NewsFacts.{gone-seen, seen, view-is}

abbrev Told : Type 0
Told = List (Key × Note)

-- so many changes came
changes-counted : (to from now was added : ℕ) → to ≡ now → from ≡ was → now ≡ was + added → to - from + was ≡ now
changes-counted to from now was added to_is from_is more = omega arith

pub same-messages : (homes : List ℕ) (es : List Event) → map message (map (homed homes) es) ≡ es
same-messages homes [] = refl
same-messages homes (e ∷ es) = ap (λ fs. e ∷ fs) (same-messages homes es)

pub sent-more : (homes : List ℕ) (sent sent' : List (ℕ × Event)) (es : List Event) → sent' ≡ sent ++ map (homed homes) es → map message sent' ≡ map message sent ++ es
sent-more homes sent sent' es is = ap (map message) is ∙ map-append message sent (map (homed homes) es) ∙ ap (λ fs. map message sent ++ fs) (same-messages homes es)

-- what was known of the lists
module _ (v : NewsView) (told : Told) (rows : List Row) (undo : List Change) (sent : List (ℕ × Event)) (code : Option ℕ) (nodes : ℕ) (inside : IsNews rows told undo sent code) (is : news_view rows told undo sent code nodes ≡ v) where
  abbrev news : List Done
  news = inside.0

  same : news ≡ v.done
  same = seen inside.2 v nodes is

  gone-same : inside.1 ≡ v.gone
  gone-same = gone-seen inside.2 v nodes is

  -- the least so far, and that of one event more
  pub least-more : (least : ℕ) (es : List Event) → least ≡ least_stamp NO_STAMP es → min (least_after NO_STAMP rows) least ≡ least_stamp (least_after NO_STAMP rows) es
  least-more least es least_is =
      let so_far : least_after NO_STAMP rows ≡ least_stamp NO_STAMP (held_of news) = ap (least_after NO_STAMP) inside.2.rows_are ∙ least-after NO_STAMP news in
      (λ i. min (so_far i) (least_is i))
      ∙ sym (least-join (held_of news) es)
      ∙ least_stamp-append NO_STAMP (held_of news) es
      ∙ ap (λ n. least_stamp n es) (sym so_far)

  -- one that went
  pub pushed-went : (homes : List ℕ) (m : Meaning) (old new : KeptObject) (e : Event) (sheet : Effect) (undo' : List Change) (told' : Told) (rows' : List Row) (sent' : List (ℕ × Event)) (least changes : ℕ) (fired : HasGone m old new e sheet undo undo')
      → changes + length undo ≡ length undo' → least ≡ least_stamp NO_STAMP (emissions e.key.stamp e.key.dest old.sent sheet.sends)
      → rows' ≡ rows ++ (record { event = e; least = min (least_after NO_STAMP rows) least; changes = changes; sends = length sheet.sends }) ∷ []
      → told' ≡ told ++ (e.key, sheet.note) ∷ [] → sent' ≡ sent ++ map (homed homes) (emissions e.key.stamp e.key.dest old.sent sheet.sends) → code ≡ None
      → IsPushed (went_of e old.sent sheet fired.undo) told rows undo sent told' rows' undo' sent' code
  pushed-went homes m old new e sheet undo' told' rows' sent' least changes fired count least_is rows_is told_is sent_is none =
      let es = emissions e.key.stamp e.key.dest old.sent sheet.sends in
      let added = ap length fired.added in
      let parts = length-append undo fired.undo in
      let own : changes ≡ length fired.undo = omega arith in
      let sends : length sheet.sends ≡ length es = sym (length-emissions e.key.stamp e.key.dest old.sent sheet.sends) in
      let low = least-more least es least_is in
      record {
        row_is = rows_is ∙ (λ i. rows ++ (record { event = e; least = low i; changes = own i; sends = sends i }) ∷ []);
        told_is = told_is;
        undo_is = fired.added;
        sent_is = sent-more homes sent sent' es sent_is;
        code_is = none;
      }

  -- one that failed
  pub pushed-failed : (e : Event) (fault : ℕ) (undo' : List Change) (told' : Told) (rows' : List Row) (sent' : List (ℕ × Event)) → undo' ≡ undo → told' ≡ told → sent' ≡ sent
      → rows' ≡ rows ++ (record { event = e; least = least_after NO_STAMP rows; changes = 0; sends = 0 }) ∷ [] → IsPushed (failed_of e fault) told rows undo sent told' rows' undo' sent' (Some fault)
  unfolding least_stamp
  pushed-failed e fault undo' told' rows' sent' undo_is told_is sent_is rows_is = record {
    row_is = rows_is;
    told_is = told_is ∙ sym (append-nil told);
    undo_is = undo_is ∙ sym (append-nil undo);
    sent_is = ap (map message) sent_is ∙ sym (append-nil (map message sent));
    code_is = refl;
  }

  -- none failed before
  pub code-none : fault_of v.done ≡ None → code ≡ None
  code-none went = code-gone inside.2 same went

  module _ (told' : Told) (rows' : List Row) (undo' : List Change) (sent' : List (ℕ × Event)) (code' : Option ℕ) (d : Done) (whole : v.gone ≡ []) (went : fault_of v.done ≡ None)
      (above : Each (λ (x : Done). key_lt x.event.key d.event.key ≡ true) v.done) (p : IsPushed d told rows undo sent told' rows' undo' sent' code') where
    pub joins-news : HoldsNews (news ++ d ∷ []) inside.1 told' rows' undo' sent' code'
    joins-news =
        let F : List Done → Type 0 = λ ds. fault_of ds ≡ None in
        let A : List Done → Type 0 = Each (λ (x : Done). key_lt x.event.key d.event.key ≡ true) in
        holds-push news inside.1 told rows undo sent code d told' rows' undo' sent' code' inside.2 (gone-same ∙ whole) (subst F (sym same) went) (subst A (sym same) above) p

    pub joined : (m : Meaning) (homes : List ℕ) (event : Event) (earlier later : KeptObject) (least nodes' : ℕ) → HasFired m earlier later event d → sent' ≡ sent ++ map (homed homes) d.sends → nodes' ≡ nodes
        → least ≡ least_stamp NO_STAMP d.sends → length d.undo ≤ 16 → length d.sends ≤ 8 → HasJoined m homes event earlier later v (news_view rows' told' undo' sent' code' nodes') least
    joined m homes event earlier later least nodes' fired sent_is nodes_is least_is few_changes few_sends =
        let now = view-is joins-news nodes' in
        record {
          entry = d;
          fired = fired;
          done = ap (λ (w : NewsView). w.done) now ∙ ap (λ ds. ds ++ d ∷ []) same;
          sent = sent_is ∙ ap (λ (w : NewsView). w.sent ++ map (homed homes) d.sends) is;
          gone = ap (λ (w : NewsView). w.gone) now ∙ gone-same;
          nodes = nodes_is ∙ ap (λ (w : NewsView). w.nodes) is;
          least_is = least_is;
          few_changes = few_changes;
          few_sends = few_sends;
        }

  -- one that went, by the lists as they came about
  pub went-in : (homes : List ℕ) (m : Meaning) (old new : KeptObject) (e : Event) (sheet : Effect) (undo' : List Change) (told' : Told) (rows' : List Row) (sent' : List (ℕ × Event)) (least to from nodes' : ℕ)
      → HasGone m old new e sheet undo undo' → to ≡ length undo' → from ≡ length undo → least ≡ least_stamp NO_STAMP (emissions e.key.stamp e.key.dest old.sent sheet.sends)
      → rows' ≡ rows ++ (record { event = e; least = min (least_after NO_STAMP rows) least; changes = to - from; sends = length sheet.sends }) ∷ []
      → told' ≡ told ++ (e.key, sheet.note) ∷ [] → sent' ≡ sent ++ map (homed homes) (emissions e.key.stamp e.key.dest old.sent sheet.sends) → nodes' ≡ nodes
      → v.gone ≡ [] → fault_of v.done ≡ None → Each (λ (x : Done). key_lt x.event.key e.key ≡ true) v.done
      → IsNews rows' told' undo' sent' code × HasJoined m homes e old new v (news_view rows' told' undo' sent' code nodes') least
  went-in homes m old new e sheet undo' told' rows' sent' least to from nodes' fired to_is from_is least_is rows_is told_is sent_is nodes_is whole went above =
      let d = went_of e old.sent sheet fired.undo in
      let count = changes-counted to from (length undo') (length undo) (length fired.undo) to_is from_is (ap length fired.added ∙ length-append undo fired.undo) in
      let p = pushed-went homes m old new e sheet undo' told' rows' sent' least (to - from) fired count least_is rows_is told_is sent_is (code-none went) in
      let long : length (emissions e.key.stamp e.key.dest old.sent sheet.sends) ≡ length sheet.sends = length-emissions e.key.stamp e.key.dest old.sent sheet.sends in
      let M : ℕ → Type 0 = λ k. k ≤ 8 in (
        (news ++ d ∷ [], inside.1, joins-news told' rows' undo' sent' code d whole went above p),
        joined told' rows' undo' sent' code d whole went above p m homes e old new least nodes' fired.fired sent_is nodes_is least_is fired.few_changes (subst M (sym long) fired.few_sends),
      )

  -- one that failed, likewise
  pub failed-in : (homes : List ℕ) (m : Meaning) (old new : KeptObject) (e : Event) (fault : ℕ) (undo' : List Change) (told' : Told) (rows' : List Row) (sent' : List (ℕ × Event)) (nodes' : ℕ)
      → HasFired m old new e (failed_of e fault) → undo' ≡ undo → told' ≡ told → sent' ≡ sent → nodes' ≡ nodes → rows' ≡ rows ++ (record { event = e; least = least_after NO_STAMP rows; changes = 0; sends = 0 }) ∷ []
      → v.gone ≡ [] → fault_of v.done ≡ None → Each (λ (x : Done). key_lt x.event.key e.key ≡ true) v.done
      → IsNews rows' told' undo' sent' (Some fault) × HasJoined m homes e old new v (news_view rows' told' undo' sent' (Some fault) nodes') NO_STAMP
  failed-in homes m old new e fault undo' told' rows' sent' nodes' fired undo_is told_is sent_is nodes_is rows_is whole went above =
      let d = failed_of e fault in
      let p = pushed-failed e fault undo' told' rows' sent' undo_is told_is sent_is rows_is in (
        (news ++ d ∷ [], inside.1, joins-news told' rows' undo' sent' (Some fault) d whole went above p),
        joined told' rows' undo' sent' (Some fault) d whole went above p m homes e old new NO_STAMP nodes' fired (sent_is ∙ sym (append-nil sent)) nodes_is (least-start [] refl) (omega arith) (omega arith),
      )

-- what came behind others stands behind them
pub none-lost : (to from now was added : ℕ) → to ≡ now → from ≡ was → now ≡ was + added → from ≤ to
none-lost to from now was added to_is from_is more = omega arith
