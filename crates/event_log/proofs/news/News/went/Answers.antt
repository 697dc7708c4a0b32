-- There is no code.
use Rattle.std.proofs.Common.{◌≡◌, ℕ, Bool, not, Some, None, refl, sym, ap, ◌∙◌, true≢false}
use Rattle.std.specs.Prelude.{IsTrue, Option, is_some}
use Rattle.object_log.specs.Logs.{fault_of}
use Rattle.event_log.proofs.NewsFacts.{seen}
use Rattle.event_log.proofs.ReadFacts.{fault-none}
use Rattle.event_log.proofs.news.News.went.Goals as goal

none-failed : (code : Option ℕ) (none : Bool) → is_some code ≡ not none → IsTrue none → code ≡ None
none-failed None none is so = refl
none-failed (Some code) none is so = absurd (true≢false (is ∙ ap not so))

pub returns : goal.returns
returns c = λ so.
    let n = c.self.inside in
    let h = c.self.invariant in
    let same = seen h.2 c.args.self.now n.outbox.nodes c.self.view_is in
    let none : n.fault ≡ None = none-failed n.fault c.is_none.result c.is_none.ensures so in
    ap fault_of (sym same) ∙ fault-none h.0 (sym h.2.code_is ∙ none)
