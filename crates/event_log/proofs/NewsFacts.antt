-- What lies in flat lists.
use Rattle.std.proofs.Common.{◌≡◌, ℕ, ◌+◌, ◌<◌, List, [], ◌∷◌, ◌++◌, length, map, take, drop, refl, sym, ap, ◌∙◌, subst, arith}
use Rattle.std.proofs.lemmas.List.{append-nil, drop_all, drop_at}
use Rattle.std.proofs.Math.Seq.{take-append_seam, drop-append_seam}
use Rattle.std.specs.Prelude.{Option, Some, None, IfSome}
use Rattle.event_key.specs.declared.key.Key.{Key}
use Rattle.event_key.specs.declared.stamp.TheConstants.{NO_STAMP}
use Rattle.delta_exchange.specs.declared.change.Change.{Change}
use Rattle.key_order.specs.Stamps.{least_stamp}
use Rattle.model_core.specs.declared.event.Event.{Event}
use Rattle.model_core.specs.declared.note.Note.{Note}
use Rattle.object_log.specs.Dones.{Done}
use Rattle.object_log.specs.declared.done.Verdict.{Verdict}
use Rattle.object_log.specs.declared.done.Verdict.TheVariants.{Noted, Failed}
use Rattle.object_log.specs.Flat.{changes_of}
use Rattle.object_log.specs.Keeping.{EndsAtFault, OnlyLastFailed}
use Rattle.object_log.specs.Logs.{held_of}
use Rattle.object_log.specs.Tellings.{told_all, told_of}
use Rattle.event_log.specs.declared.row.Row.{Row}
use Rattle.event_log.specs.News.{HoldsNews, NewsView, code_of, code_or, events_in, later_told, news_view, rows_of, verdict_by}
use Rattle.event_log.specs.Outboxes.{message}

abbrev Told : Type 0
Told = List (Key × Note)

pub no-code : (code : ℕ) → ◌≡◌ {A = Option ℕ} (Some code) None → ⊥
no-code code is = cc

pub no-none : (code : ℕ) → ◌≡◌ {A = Option ℕ} None (Some code) → ⊥
no-none code is = cc

-- the events are what lies there
pub events-are : (ds : List Done) (least : ℕ) (gone told : Told) (code : Option ℕ) (undo : List Change) (sent : List Event) → OnlyLastFailed ds → IfSome (code_of ds) (λ c. gone ≡ []) → told ≡ told_all ds ++ gone
    → code ≡ code_of ds → undo ≡ changes_of ds → sent ≡ held_of ds → events_in code (rows_of least ds) told undo sent ≡ ds
unfolding events_in rows_of told_all code_of changes_of held_of OnlyLastFailed
events-are [] least gone told code undo sent last whole told_are code_is undo_are sent_are = refl
events-are (d ∷ ds) least gone told code undo sent last whole told_are code_is undo_are sent_are =
    let first : take (length d.undo) undo ≡ d.undo = ap (take (length d.undo)) undo_are ∙ take-append_seam d.undo (changes_of ds) in
    let more : drop (length d.undo) undo ≡ changes_of ds = ap (drop (length d.undo)) undo_are ∙ drop-append_seam d.undo (changes_of ds) in
    let sends : take (length d.sends) sent ≡ d.sends = ap (take (length d.sends)) sent_are ∙ take-append_seam d.sends (held_of ds) in
    let others : drop (length d.sends) sent ≡ held_of ds = ap (drop (length d.sends)) sent_are ∙ drop-append_seam d.sends (held_of ds) in
    by_verdict d.verdict refl last.0 last.1 whole told_are code_is first more sends others
    (λ later those stays is same. events-are ds (least_stamp least d.sends) gone later code (drop (length d.undo) undo) (drop (length d.sends) sent) those stays is same more others)
  where
    by_verdict : (v : Verdict) → d.verdict ≡ v → EndsAtFault v ds → OnlyLastFailed ds → IfSome (code_or v (code_of ds)) (λ c. gone ≡ []) → told ≡ (told_of d.event.key v ++ told_all ds) ++ gone
        → code ≡ code_or v (code_of ds) → take (length d.undo) undo ≡ d.undo → drop (length d.undo) undo ≡ changes_of ds → take (length d.sends) sent ≡ d.sends → drop (length d.sends) sent ≡ held_of ds
        → ((later : Told) → OnlyLastFailed ds → IfSome (code_of ds) (λ c. gone ≡ []) → later ≡ told_all ds ++ gone → code ≡ code_of ds
        → events_in code (rows_of (least_stamp least d.sends) ds) later (drop (length d.undo) undo) (drop (length d.sends) sent) ≡ ds)
        → (record { event = d.event; undo = take (length d.undo) undo; sends = take (length d.sends) sent; verdict = verdict_by told code })
        ∷ events_in code (rows_of (least_stamp least d.sends) ds) (later_told told) (drop (length d.undo) undo) (drop (length d.sends) sent) ≡ d ∷ ds
    by_verdict (Noted note) v ends last whole told_are code_is first more sends others go =
        let rest = go (later_told told) last whole (ap later_told told_are) code_is in
        let verdict : verdict_by told code ≡ d.verdict = ap (λ ts. verdict_by ts code) told_are ∙ sym v in
        (λ i. (record { event = d.event; undo = first i; sends = sends i; verdict = verdict i }) ∷ rest i)
    by_verdict (Failed fault) v ends last whole told_are code_is first more sends others go =
        let none : told ≡ [] = told_are ∙ ap (λ xs. told_all xs ++ gone) ends ∙ whole in
        let verdict : verdict_by told code ≡ d.verdict = (λ i. verdict_by (none i) (code_is i)) ∙ sym v in
        let rest : events_in code (rows_of (least_stamp least d.sends) ds) (later_told told) (drop (length d.undo) undo) (drop (length d.sends) sent) ≡ ds =
        ap (λ xs. events_in code (rows_of (least_stamp least d.sends) xs) (later_told told) (drop (length d.undo) undo) (drop (length d.sends) sent)) ends ∙ sym ends in
        (λ i. (record { event = d.event; undo = first i; sends = sends i; verdict = verdict i }) ∷ rest i)

-- how much is told
pub told-long : (ds : List Done) → code_of ds ≡ None → length (told_all ds) ≡ length ds
unfolding told_all code_of
told-long [] went = refl
told-long (d ∷ ds) went = by_verdict d.verdict (told-long ds) went
  where
    by_verdict : (v : Verdict) → (code_of ds ≡ None → length (told_all ds) ≡ length ds) → code_or v (code_of ds) ≡ None → length (told_of d.event.key v ++ told_all ds) ≡ length (d ∷ ds)
    by_verdict (Noted note) more went = let long = more went in omega arith
    by_verdict (Failed code) more went = absurd (no-code code went)

pub told-most : (ds : List Done) → length (told_all ds) < length ds + 1
unfolding told_all
told-most [] = omega arith
told-most (d ∷ ds) = by_verdict d.verdict (told-most ds)
  where
    by_verdict : (v : Verdict) → length (told_all ds) < length ds + 1 → length (told_of d.event.key v ++ told_all ds) < length (d ∷ ds) + 1
    by_verdict (Noted note) more = omega arith
    by_verdict (Failed code) more = omega arith

rows-long : (least : ℕ) (ds : List Done) → length (rows_of least ds) ≡ length ds
unfolding rows_of
rows-long least [] = refl
rows-long least (d ∷ ds) = let more = rows-long (least_stamp least d.sends) ds in omega arith

gone-is : (ds : List Done) (gone told : Told) (n : ℕ) → n ≡ length ds → IfSome (code_of ds) (λ c. gone ≡ []) → told ≡ told_all ds ++ gone → drop n told ≡ gone
gone-is ds gone told n long whole is = by_code (code_of ds) refl whole
  where
    by_code : (code : Option ℕ) → code_of ds ≡ code → IfSome code (λ c. gone ≡ []) → drop n told ≡ gone
    by_code None went whole = ap (drop n) is ∙ drop_at (told_all ds) gone n (told-long ds went ∙ sym long)
    by_code (Some code) failed whole =
        let same : told ≡ told_all ds = is ∙ ap (λ ts. told_all ds ++ ts) whole ∙ append-nil (told_all ds) in
        let most = told-most ds in
        let short = ap length same in
        drop_all n told (omega arith) ∙ sym whole

-- what contracts see
module _ {news : List Done} {gone told : Told} {rows : List Row} {undo : List Change} {sent : List (ℕ × Event)} {code : Option ℕ}
    (h : HoldsNews news gone told rows undo sent code) where
  pub view-done : events_in code rows told undo (map message sent) ≡ news
  view-done =
      let W : Option ℕ → Type 0 = λ c. IfSome c (λ c. gone ≡ []) in
      ap (λ rs. events_in code rs told undo (map message sent)) h.rows_are
      ∙ events-are news NO_STAMP gone told code undo (map message sent) h.last (subst W h.code_is h.whole) h.told_are h.code_is h.undo_are h.sent_are

  pub view-long : length rows ≡ length news
  view-long = ap length h.rows_are ∙ rows-long NO_STAMP news

  pub view-gone : drop (length rows) told ≡ gone
  view-gone =
      let W : Option ℕ → Type 0 = λ c. IfSome c (λ c. gone ≡ []) in
      gone-is news gone told (length rows) view-long (subst W h.code_is h.whole) h.told_are

  pub view-is : (nodes : ℕ) → news_view rows told undo sent code nodes ≡ record { done = news; sent = sent; gone = gone; nodes = nodes }
  view-is nodes = λ i. record { done = view-done i; sent = sent; gone = view-gone i; nodes = nodes }

  pub seen : (v : NewsView) (nodes : ℕ) → news_view rows told undo sent code nodes ≡ v → news ≡ v.done
  seen v nodes is = sym view-done ∙ ap (λ (w : NewsView). w.done) is

  -- there is a row for each event that is seen
  pub rows-seen : (v : NewsView) (nodes : ℕ) → news_view rows told undo sent code nodes ≡ v → length rows ≡ length v.done
  rows-seen v nodes is = view-long ∙ ap length (seen v nodes is)

  -- and what is told of events that are gone
  pub gone-seen : (v : NewsView) (nodes : ℕ) → news_view rows told undo sent code nodes ≡ v → gone ≡ v.gone
  gone-seen v nodes is = sym view-gone ∙ ap (λ (w : NewsView). w.gone) is
