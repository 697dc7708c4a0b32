-- An event joins the news.
use Rattle.std.proofs.Common.{◌≡◌, ℕ, true, List, [], ◌∷◌, ◌++◌, map, refl, sym, ap, ◌∙◌, subst}
use Rattle.std.proofs.lemmas.List.{append-nil}
use Rattle.std.specs.Prelude.{Option, Some, None, IfSome}
use Rattle.std.specs.List.{AllByRecursion as Each}
use Rattle.event_key.specs.declared.key.Key.{Key}
use Rattle.event_key.specs.Keys.{key_lt}
use Rattle.event_key.specs.declared.stamp.TheConstants.{NO_STAMP}
use Rattle.delta_exchange.specs.declared.change.Change.{Change}
use Rattle.key_order.specs.Ascending.{Ascends}
use Rattle.key_order.specs.Stamps.{least_stamp}
use Rattle.key_order.proofs.StampLemmas.{least_stamp-append}
use Rattle.model_core.specs.declared.event.Event.{Event}
use Rattle.model_core.specs.declared.note.Note.{Note}
use Rattle.object_log.specs.Dones.{Done}
use Rattle.object_log.specs.declared.done.Verdict.{Verdict}
use Rattle.object_log.specs.declared.done.Verdict.TheVariants.{Noted, Failed}
use Rattle.object_log.specs.Flat.{changes_of}
use Rattle.object_log.specs.Keeping.{OnlyLastFailed}
use Rattle.object_log.specs.Logs.{fault_of, fault_or, held_of}
use Rattle.object_log.specs.Tellings.{told_all, told_of}
use Rattle.object_log.proofs.FaultLemmas.{only_push, no_fault}
use Rattle.object_log.proofs.FlatLemmas.{changes-push}
use Rattle.object_log.proofs.PushLemmas.{ascends-push, held-push, told-push}
use Rattle.event_log.specs.declared.row.Row.{Row}
use Rattle.event_log.specs.News.{HoldsNews, code_of, code_or, least_after, row_of, rows_of}
use Rattle.event_log.specs.Outboxes.{message}
use Rattle.event_log.proofs.NewsFacts.{no-code}

abbrev Told : Type 0
Told = List (Key × Note)

-- the last row knows the least of all
pub least-after : (least : ℕ) (ds : List Done) → least_after least (rows_of least ds) ≡ least_stamp least (held_of ds)
unfolding rows_of held_of least_stamp
least-after least [] = refl
least-after least (d ∷ ds) = least-after (least_stamp least d.sends) ds ∙ sym (least_stamp-append least d.sends (held_of ds))

pub rows-push : (least : ℕ) (ds : List Done) (d : Done) → rows_of least (ds ++ d ∷ []) ≡ rows_of least ds ++ row_of (least_stamp least (held_of ds)) d ∷ []
unfolding rows_of held_of least_stamp
rows-push least [] d = refl
rows-push least (x ∷ xs) d =
    ap (λ rs. row_of least x ∷ rs) (rows-push (least_stamp least x.sends) xs d ∙ ap (λ n. rows_of (least_stamp least x.sends) xs ++ row_of n d ∷ []) (sym (least_stamp-append least x.sends (held_of xs))))

-- where none failed, there is no code
pub code-went : (ds : List Done) → fault_of ds ≡ None → code_of ds ≡ None
unfolding fault_of code_of
code-went [] went = refl
code-went (d ∷ ds) went = by_verdict d.verdict (code-went ds) went
  where
    by_verdict : (v : Verdict) → (fault_of ds ≡ None → code_of ds ≡ None) → fault_or d.event.key v (fault_of ds) ≡ None → code_or v (code_of ds) ≡ None
    by_verdict (Noted note) more went = more went
    by_verdict (Failed code) more went = absurd (no_fault _ went)

pub code-push : (ds : List Done) (d : Done) → code_of ds ≡ None → code_of (ds ++ d ∷ []) ≡ code_or d.verdict None
unfolding code_of
code-push [] d went = refl
code-push (x ∷ xs) d went = by_verdict x.verdict (code-push xs d) went
  where
    by_verdict : (v : Verdict) → (code_of xs ≡ None → code_of (xs ++ d ∷ []) ≡ code_or d.verdict None) → code_or v (code_of xs) ≡ None → code_or v (code_of (xs ++ d ∷ [])) ≡ code_or d.verdict None
    by_verdict (Noted note) more went = more went
    by_verdict (Failed code) more went = absurd (no-code code went)

-- each list is longer by the event's part
pub record IsPushed (d : Done) (told : Told) (rows : List Row) (undo : List Change) (sent : List (ℕ × Event)) (told' : Told) (rows' : List Row) (undo' : List Change) (sent' : List (ℕ × Event)) (code' : Option ℕ) : Type 0 where
  pub row_is : rows' ≡ rows ++ row_of (least_after NO_STAMP rows) d ∷ []
  pub told_is : told' ≡ told ++ told_of d.event.key d.verdict
  pub undo_is : undo' ≡ undo ++ d.undo
  pub sent_is : map message sent' ≡ map message sent ++ d.sends
  pub code_is : code' ≡ code_or d.verdict None

whole-none : (gone : Told) (code : Option ℕ) → gone ≡ [] → IfSome code (λ c. gone ≡ [])
whole-none gone None is = tt
whole-none gone (Some code) is = is

pub holds-push : (news : List Done) (gone told : Told) (rows : List Row) (undo : List Change) (sent : List (ℕ × Event)) (code : Option ℕ) (d : Done) (told' : Told) (rows' : List Row) (undo' : List Change) (sent' : List (ℕ × Event)) (code' : Option ℕ)
    → HoldsNews news gone told rows undo sent code → gone ≡ [] → fault_of news ≡ None → Each (λ (x : Done). key_lt x.event.key d.event.key ≡ true) news
    → IsPushed d told rows undo sent told' rows' undo' sent' code' → HoldsNews (news ++ d ∷ []) gone told' rows' undo' sent' code'
holds-push news gone told rows undo sent code d told' rows' undo' sent' code' h none went above p =
    let told_was : told ≡ told_all news = h.told_are ∙ ap (λ ts. told_all news ++ ts) none ∙ append-nil (told_all news) in
    let told_now : told' ≡ told_all (news ++ d ∷ []) = p.told_is ∙ ap (λ ts. ts ++ told_of d.event.key d.verdict) told_was ∙ sym (told-push news d) in
    record {
      rows_are = p.row_is
          ∙ (λ i. h.rows_are i ++ row_of (least_after NO_STAMP (h.rows_are i)) d ∷ [])
          ∙ ap (λ n. rows_of NO_STAMP news ++ row_of n d ∷ []) (least-after NO_STAMP news)
          ∙ sym (rows-push NO_STAMP news d);
      told_are = told_now ∙ sym (append-nil (told_all (news ++ d ∷ []))) ∙ ap (λ ts. told_all (news ++ d ∷ []) ++ ts) (sym none);
      undo_are = p.undo_is ∙ ap (λ cs. cs ++ d.undo) h.undo_are ∙ sym (changes-push news d);
      sent_are = p.sent_is ∙ ap (λ es. es ++ d.sends) h.sent_are ∙ sym (held-push news d);
      code_is = p.code_is ∙ sym (code-push news d (code-went news went));
      last = only_push news d went;
      whole = whole-none gone code' none;
      ordered = ascends-push news d above h.ordered;
    }

-- where there is no event, what is told is told of events that are gone
pub holds-gone : (told : Told) (rows : List Row) (undo : List Change) (sent : List (ℕ × Event)) (code : Option ℕ)
    → rows ≡ [] → undo ≡ [] → sent ≡ [] → code ≡ None → HoldsNews [] told told rows undo sent code
unfolding rows_of told_all changes_of held_of code_of OnlyLastFailed Ascends
holds-gone told rows undo sent code no_rows no_undo no_sent no_code = record {
  rows_are = no_rows;
  told_are = refl;
  undo_are = no_undo;
  sent_are = ap (map message) no_sent;
  code_is = no_code;
  last = tt;
  whole = (let W : Option ℕ → Type 0 = λ c. IfSome c (λ n. told ≡ []) in subst W (sym no_code) tt);
  ordered = tt;
}

pub holds-none : (told : Told) (rows : List Row) (undo : List Change) (sent : List (ℕ × Event)) (code : Option ℕ)
    → told ≡ [] → rows ≡ [] → undo ≡ [] → sent ≡ [] → code ≡ None → HoldsNews [] [] told rows undo sent code
holds-none told rows undo sent code no_told no_rows no_undo no_sent no_code =
    let G : Told → Type 0 = λ gone. HoldsNews [] gone told rows undo sent code in
    subst G no_told (holds-gone told rows undo sent code no_rows no_undo no_sent no_code)

-- where none of what is seen failed, there is no code
pub code-gone : {news seen : List Done} {gone told : Told} {rows : List Row} {undo : List Change} {sent : List (ℕ × Event)} {code : Option ℕ}
    → HoldsNews news gone told rows undo sent code → news ≡ seen → fault_of seen ≡ None → code ≡ None
code-gone {news} h same went =
    let F : List Done → Type 0 = λ ds. fault_of ds ≡ None in
    h.code_is ∙ code-went news (subst F (sym same) went)

-- nothing is told of those that were taken back any more
pub forgets : {news : List Done} {gone told told' : Told} {rows : List Row} {undo : List Change} {sent : List (ℕ × Event)} {code : Option ℕ}
    → HoldsNews news gone told rows undo sent code → news ≡ [] → told' ≡ [] → HoldsNews [] [] told' rows undo sent code
unfolding told_all
forgets {news} {gone} {told} {told'} {rows} {undo} {sent} {code} holds none no_told =
    let P : List Done → Type 0 = λ ds. HoldsNews ds gone told rows undo sent code in
    let h = subst P none holds in
    record {
      rows_are = h.rows_are;
      told_are = no_told;
      undo_are = h.undo_are;
      sent_are = h.sent_are;
      code_is = h.code_is;
      last = h.last;
      whole = whole-none [] code refl;
      ordered = h.ordered;
    }
