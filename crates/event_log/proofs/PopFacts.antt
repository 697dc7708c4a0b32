-- The last of the news is taken back.
use Rattle.std.proofs.Common.{◌≡◌, ℕ, zero, suc, ◌+◌, ◌<◌, min, Some, List, [], ◌∷◌, ◌++◌, length, map, take, drop, get_or, refl, sym, ap, ◌∙◌, subst, arith, append_assoc, length-append}
use Rattle.std.proofs.lemmas.List.{drop_at, length-map, map-append, same_from_push, take_all, take_at, take_more}
use Rattle.std.specs.Prelude.{Option, None, IfNone, IfSome, slice_get}
use Rattle.event_key.specs.declared.key.Key.{Key}
use Rattle.event_key.specs.declared.stamp.TheConstants.{NO_STAMP}
use Rattle.delta_exchange.specs.declared.change.Change.{Change}
use Rattle.key_order.specs.Ascending.{Ascends}
use Rattle.key_order.specs.Stamps.{least_stamp}
use Rattle.key_order.proofs.AscendingLemmas.{Ascends-prefix}
use Rattle.key_order.proofs.StampLemmas.{least_stamp-le}
use Rattle.model_core.specs.declared.event.Event.{Event}
use Rattle.model_core.specs.declared.note.Note.{Note}
use Rattle.object_log.specs.Dones.{Done}
use Rattle.object_log.specs.declared.done.Verdict.{Verdict}
use Rattle.object_log.specs.declared.done.Verdict.TheVariants.{Noted, Failed}
use Rattle.object_log.specs.EventLogs.{done_key}
use Rattle.object_log.specs.Flat.{changes_of}
use Rattle.object_log.specs.Keeping.{OnlyLastFailed}
use Rattle.object_log.specs.Logs.{held_of}
use Rattle.object_log.specs.Tellings.{told_all, told_of}
use Rattle.object_log.proofs.FaultLemmas.{only_pop}
use Rattle.object_log.proofs.FlatLemmas.{changes-push}
use Rattle.object_log.proofs.HeldLemmas.{least-join}
use Rattle.event_log.specs.declared.row.Row.{Row}
use Rattle.event_log.specs.News.{HoldsNews, code_of, code_or, row_of, rows_of}
use Rattle.event_log.specs.Outboxes.{message}
use Rattle.object_log.proofs.PushLemmas.{held-push, told-push}
use Rattle.event_log.proofs.JoinFacts.{code-push, code-went, rows-push}
use Rattle.event_log.proofs.NewsFacts.{no-code, no-none, told-long, view-long}

abbrev Told : Type 0
Told = List (Key × Note)

one-of : (x y : Key × Note) → ◌≡◌ {A = Option (Key × Note)} (Some x) (Some y) → x ≡ y
one-of x y is = cc

-- a list that isn't empty ends with an element
pub ends : {X : Type 0} (xs : List X) (n : ℕ) → length xs ≡ n + 1 → (front : List X) × (x : X) × (xs ≡ front ++ x ∷ [])
ends [] n long = absurd (omega arith)
ends (x ∷ []) n long = ([], x, refl)
ends (x ∷ y ∷ ys) zero long = absurd (omega arith)
ends (x ∷ y ∷ ys) (suc n) long =
    let more = ends (y ∷ ys) n (omega arith) in
    (x ∷ more.0, more.1, ap (λ zs. x ∷ zs) more.2)

get-at : {X : Type 0} (xs ys : List X) (x : X) (n : ℕ) → length xs ≡ n → slice_get (xs ++ x ∷ ys) n ≡ Some x
get-at [] ys x zero long = refl
get-at [] ys x (suc n) long = absurd (omega arith)
get-at (y ∷ xs) ys x zero long = absurd (omega arith)
get-at (y ∷ xs) ys x (suc n) long = get-at xs ys x n (omega arith)

-- lists whose ends are as long have the same parts
pub same-ends : {X : Type 0} (us vs xs ys : List X) → length xs ≡ length ys → us ++ xs ≡ vs ++ ys → (us ≡ vs) × (xs ≡ ys)
same-ends us vs xs ys long is =
    let one = length-append us xs in
    let two = length-append vs ys in
    let all = ap length is in
    let n : length us ≡ length vs = omega arith in (
      sym (take_at us xs (length us) refl) ∙ ap (take (length us)) is ∙ take_at vs ys (length us) (sym n),
      sym (drop_at us xs (length us) refl) ∙ ap (drop (length us)) is ∙ drop_at vs ys (length us) (sym n),
    )

-- the last event, and where its parts lie
pub record IsEnd (news : List Done) (gone told : Told) (rows : List Row) (undo : List Change) (sent : List (ℕ × Event)) (code : Option ℕ) (r : Row) : Type 0 where
  pub front : List Done
  pub d : Done
  pub is : news ≡ front ++ d ∷ []
  pub row_is : r ≡ row_of (least_stamp NO_STAMP (held_of front)) d
  pub rows_are : rows ≡ rows_of NO_STAMP front ++ r ∷ []
  pub told_are : told ≡ told_all front ++ (told_of d.event.key d.verdict ++ gone)
  pub undo_are : undo ≡ changes_of front ++ d.undo
  pub sent_are : map message sent ≡ held_of front ++ d.sends
  pub went : code_of front ≡ None
  pub code_is : code ≡ code_or d.verdict None

pub ends-news : {news : List Done} {gone told : Told} {rows : List Row} {undo : List Change} {sent : List (ℕ × Event)} {code : Option ℕ} (n : ℕ) (r : Row)
    → HoldsNews news gone told rows undo sent code → length rows ≡ n + 1 → r ≡ get_or rows n r → IsEnd news gone told rows undo sent code r
ends-news {news} {gone} {told} {rows} n r h long at =
    let all = view-long h in
    let e = ends news n (omega arith) in
    let front = e.0 in
    let d = e.1 in
    let last = row_of (least_stamp NO_STAMP (held_of front)) d in
    let rows_are : rows ≡ rows_of NO_STAMP front ++ last ∷ [] = h.rows_are ∙ ap (rows_of NO_STAMP) e.2 ∙ rows-push NO_STAMP front d in
    let split : rows ≡ take n rows ++ r ∷ [] = sym (take_all (n + 1) rows (omega arith)) ∙ take_more rows n r (omega arith) ∙ ap (λ x. take n rows ++ x ∷ []) (sym at) in
    let row_is : r ≡ last = (same_from_push (take n rows) (rows_of NO_STAMP front) r last (sym split ∙ rows_are)).1 in
    let only = only_pop front d (subst OnlyLastFailed e.2 h.last) in
    let went = code-went front only.0 in
    record {
      front = front;
      d = d;
      is = e.2;
      row_is = row_is;
      rows_are = rows_are ∙ ap (λ x. rows_of NO_STAMP front ++ x ∷ []) (sym row_is);
      told_are = h.told_are ∙ ap (λ ds. told_all ds ++ gone) e.2 ∙ ap (λ ts. ts ++ gone) (told-push front d) ∙ append_assoc (told_all front) (told_of d.event.key d.verdict) gone;
      undo_are = h.undo_are ∙ ap changes_of e.2 ∙ changes-push front d;
      sent_are = h.sent_are ∙ ap held_of e.2 ∙ held-push front d;
      went = went;
      code_is = h.code_is ∙ ap code_of e.2 ∙ code-push front d went;
    }

module _ {news : List Done} {gone told : Told} {rows : List Row} {undo : List Change} {sent : List (ℕ × Event)} {code : Option ℕ} {r : Row}
    (h : HoldsNews news gone told rows undo sent code) (e : IsEnd news gone told rows undo sent code r) where
  -- how much is its own
  pub changes-own : r.changes ≡ length e.d.undo
  changes-own = ap (λ (x : Row). x.changes) e.row_is

  pub sends-own : r.sends ≡ length e.d.sends
  sends-own = ap (λ (x : Row). x.sends) e.row_is

  pub event-own : r.event ≡ e.d.event
  event-own = ap (λ (x : Row). x.event) e.row_is

  pub rows-left : (n : ℕ) → length rows ≡ n + 1 → take n rows ≡ rows_of NO_STAMP e.front
  rows-left n long =
      let one = ap length e.rows_are in
      let two = length-append (rows_of NO_STAMP e.front) (r ∷ []) in
      ap (take n) e.rows_are ∙ take_at (rows_of NO_STAMP e.front) (r ∷ []) n (omega arith)

  pub undo-left : (n : ℕ) → n + r.changes ≡ length undo → (take n undo ≡ changes_of e.front) × (drop n undo ≡ e.d.undo)
  undo-left n from =
      let own = changes-own in
      let one = ap length e.undo_are in
      let two = length-append (changes_of e.front) e.d.undo in
      (ap (take n) e.undo_are ∙ take_at (changes_of e.front) e.d.undo n (omega arith), ap (drop n) e.undo_are ∙ drop_at (changes_of e.front) e.d.undo n (omega arith))

  pub undo-enough : r.changes < length undo + 1
  undo-enough =
      let own = changes-own in
      let one = ap length e.undo_are in
      let two = length-append (changes_of e.front) e.d.undo in
      omega arith

  -- what came of it
  pub verdict-failed : (fault : ℕ) → code ≡ Some fault → Failed fault ≡ e.d.verdict
  verdict-failed fault is = by_verdict e.d.verdict (sym e.code_is ∙ is)
    where
      by_verdict : (v : Verdict) → code_or v None ≡ Some fault → Failed fault ≡ v
      by_verdict (Noted note) is = absurd (no-none fault is)
      by_verdict (Failed found) is = (let same : fault ≡ found = cc in ap Failed same)

  pub verdict-noted : (n : ℕ) (t : Key × Note) → code ≡ None → length rows ≡ n + 1 → slice_get told n ≡ Some t → Noted t.1 ≡ e.d.verdict
  verdict-noted n t is long at =
      by_verdict e.d.verdict (sym e.code_is ∙ is) e.told_are
    where
      by_verdict : (v : Verdict) → code_or v None ≡ None → told ≡ told_all e.front ++ (told_of e.d.event.key v ++ gone) → Noted t.1 ≡ v
      by_verdict (Failed fault) is told_are = absurd (no-code fault is)
      by_verdict (Noted note) is told_are =
          let front_long = told-long e.front e.went in
          let all = view-long h in
          let split = ap length e.is in
          let pushed = length-append e.front (e.d ∷ []) in
          let got : slice_get told n ≡ Some (e.d.event.key, note) = ap (λ ts. slice_get ts n) told_are ∙ get-at (told_all e.front) gone (e.d.event.key, note) n (omega arith) in
          ap (λ (x : Key × Note). Noted x.1) (one-of t (e.d.event.key, note) (sym at ∙ got))

  pub verdict-is : (n : ℕ) (v : Verdict) → length rows ≡ n + 1 → IfSome code (λ c. v ≡ Failed c) → IfNone code ((t : Key × Note) × (slice_get told n ≡ Some t) × (v ≡ Noted t.1)) → v ≡ e.d.verdict
  verdict-is n v long failed noted = by_code code refl failed noted
    where
      by_code : (c : Option ℕ) → code ≡ c → IfSome c (λ k. v ≡ Failed k) → IfNone c ((t : Key × Note) × (slice_get told n ≡ Some t) × (v ≡ Noted t.1)) → v ≡ e.d.verdict
      by_code None is failed noted = noted.2 ∙ verdict-noted n noted.0 is long noted.1
      by_code (Some fault) is failed noted = failed ∙ verdict-failed fault is

  is-told : (n : ℕ) → length rows ≡ n + 1 → code ≡ None → n < length told
  is-told n long is = by_verdict e.d.verdict (sym e.code_is ∙ is) e.told_are
    where
      by_verdict : (v : Verdict) → code_or v None ≡ None → told ≡ told_all e.front ++ (told_of e.d.event.key v ++ gone) → n < length told
      by_verdict (Failed fault) is told_are = absurd (no-code fault is)
      by_verdict (Noted note) is told_are =
          let front_long = told-long e.front e.went in
          let all = view-long h in
          let split = ap length e.is in
          let pushed = length-append e.front (e.d ∷ []) in
          let whole = ap length told_are in
          let parts = length-append (told_all e.front) ((e.d.event.key, note) ∷ gone) in
          omega arith

  -- it has a record, if it went
  pub told-there : (n : ℕ) → length rows ≡ n + 1 → IfNone code (n < length told)
  told-there n long = by_code code refl
    where
      by_code : (c : Option ℕ) → code ≡ c → IfNone c (n < length told)
      by_code (Some fault) is = tt
      by_code None is = is-told n long is

  -- its messages are there
  pub sends-enough : r.sends < length sent + 1
  sends-enough =
      let own = sends-own in
      let one = ap length e.sent_are in
      let two = length-append (held_of e.front) e.d.sends in
      let three = length-map sent message in
      omega arith

  -- what is left
  pub holds-front : (left own : List (ℕ × Event)) → sent ≡ left ++ own → length own ≡ r.sends → HoldsNews e.front (told_of e.d.event.key e.d.verdict ++ gone) told (rows_of NO_STAMP e.front) (changes_of e.front) left None × (map message own ≡ e.d.sends)
  holds-front left own split long = (
    record {
      rows_are = refl;
      told_are = e.told_are;
      undo_are = refl;
      sent_are = parts.0;
      code_is = sym e.went;
      last = (only_pop e.front e.d (subst OnlyLastFailed e.is h.last)).1;
      whole = tt;
      ordered = Ascends-prefix done_key e.front (e.d ∷ []) (subst (Ascends done_key) e.is h.ordered);
    },
    parts.1,
  )
    where
      parts : (map message left ≡ held_of e.front) × (map message own ≡ e.d.sends)
      parts =
          let both : map message left ++ map message own ≡ held_of e.front ++ e.d.sends = sym (map-append message left own) ∙ ap (map message) (sym split) ∙ e.sent_are in
          let own_long = length-map own message in
          let sends = sends-own in
          same-ends (map message left) (held_of e.front) (map message own) e.d.sends (omega arith) both

-- a message more in front
pub least-front : (least : ℕ) (e : Event) (es : List Event) → least ≡ least_stamp NO_STAMP es → min least e.key.stamp ≡ least_stamp NO_STAMP (e ∷ es)
unfolding least_stamp
least-front least e es is =
    let both = least-join (e ∷ []) es in
    let le = least_stamp-le NO_STAMP es in
    omega arith
