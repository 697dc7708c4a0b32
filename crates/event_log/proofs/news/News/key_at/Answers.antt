-- The row has the key.
use Rattle.std.proofs.Common.{◌≡◌, ℕ, ◌<◌, Some, List, length, get_or, sym, ap, ◌∙◌, subst}
use Rattle.std.specs.Prelude.{slice_get}
use Rattle.event_key.specs.declared.stamp.TheConstants.{NO_STAMP}
use Rattle.object_log.specs.Dones.{Done}
use Rattle.object_log.specs.Logs.{keys_of}
use Rattle.event_log.proofs.NewsFacts.{seen, view-long}
use Rattle.event_log.proofs.ReadFacts.{row-key}
use Rattle.event_log.specs.declared.row.Row.{Row}
use Rattle.event_log.proofs.news.News.key_at.Goals as goal

pub index-requires : goal.index-requires
index-requires c =
    let n = c.self.inside in
    let h = c.self.invariant in
    let same = seen h.2 c.args.self.now n.outbox.nodes c.self.view_is in
    let long = n.rows.ok.0 ∙ view-long h.2 ∙ ap length same in
    let W : ℕ → Type 0 = λ k. c.args.place < k in
    subst W (sym long) c.requires

pub returns : goal.returns
returns c =
    let n = c.self.inside in
    let h = c.self.invariant in
    let same = seen h.2 c.args.self.now n.outbox.nodes c.self.view_is in
    let r = c.index.result.now in
    let W : ℕ → Type 0 = λ k. c.args.place < k in
    let within : c.args.place < length h.0 = subst W (sym (ap length same)) c.requires in
    let P : List Done → Type 0 = λ ds. slice_get (keys_of ds) c.args.place ≡ Some r.event.key in
    subst P same (row-key NO_STAMP h.0 c.args.place r within (c.index.ensures ∙ ap (λ (rs : List Row). get_or rs c.args.place r) h.2.rows_are))
