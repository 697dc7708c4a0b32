-- The kinds of objects: the fields of each, its word and its keys, and what pass two makes of it.
use Rattle.std.specs.Prelude.{ℕ, pos, false, List, [], ◌∷◌, length, Ok, codes, if◌then◌else◌}
use Rattle.std.specs.Str.{bytes_eq}
use Rattle.toml.specs.Data.{integer, boolean, Members, get_member}
use Rattle.event_key.specs.declared.stamp.TheConstants.{LAST_TICK}
use Rattle.queue_models.specs.declared.kind.KindOver.{KindOver}
use Rattle.queue_models.specs.declared.kind.KindOver.TheVariants.{Source, Station, Delay, Router, Sink}
use Rattle.queue_models.specs.declared.source.TheConstants.{MOST_JOBS}
use Rattle.queue_models.specs.declared.station.TheConstants.{MOST_SERVERS, MOST_WAITING}
use Rattle.text_fields.specs.declared.refusal.Cause.TheVariants.{BadValue}
use Rattle.text_fields.specs.Checks.{Checked, refusal, ◌>>=◌}
use Rattle.text_fields.specs.Fields.{number, text, truth, required, optional, optional_number}
use Rattle.text_fields.specs.LawTexts.{law}
use Rattle.text_fields.specs.Links.{link, links}
use Rattle.text_fields.specs.Names.{Finder}
use Rattle.model_text.specs.Names.{NamedKind}
use Rattle.text_fields.specs.Weights.{ways, weights_or_ones}

unfoldable pub source : ℕ → Members → Checked NamedKind
source at ms = do
  first ← required at (codes "first") ms >>= number at 0 LAST_TICK
  every ← required at (codes "every") ms >>= law at
  count ← required at (codes "count") ms >>= number at 1 MOST_JOBS
  next ← required at (codes "next") ms >>= text at
  Ok (Source (record { first = first; every = every; count = count; next = next }))

unfoldable pub station : ℕ → Members → Checked NamedKind
station at ms = do
  servers ← number at 1 MOST_SERVERS (optional (integer (pos 1)) (codes "servers") ms)
  service ← required at (codes "service") ms >>= law at
  line ← number at 0 MOST_WAITING (optional (integer (pos MOST_WAITING)) (codes "line") ms)
  strict ← truth at (optional (boolean false) (codes "strict") ms)
  next ← required at (codes "next") ms >>= text at
  Ok (Station (record { servers = servers; service = service; line = line; strict = strict; next = next }))

unfoldable pub delay : ℕ → Members → Checked NamedKind
delay at ms = do
  delay ← required at (codes "delay") ms >>= law at
  next ← required at (codes "next") ms >>= text at
  Ok (Delay (record { delay = delay; next = next }))

unfoldable pub router : ℕ → Members → Checked NamedKind
router at ms = do
  next ← required at (codes "next") ms >>= ways at
  weights ← weights_or_ones at (length next) (get_member (codes "weights") ms)
  Ok (Router (record { next = next; weights = weights }))

unfoldable pub sink : ℕ → Members → Checked NamedKind
sink at ms = do
  due ← optional_number at 0 LAST_TICK (get_member (codes "due") ms)
  Ok (Sink (record { due = due }))

abbrev pub named_kind : ℕ → Members → List ℕ → Checked NamedKind
named_kind at ms word =
    if bytes_eq word (codes "source") then source at ms
    else if bytes_eq word (codes "station") then station at ms
    else if bytes_eq word (codes "delay") then delay at ms
    else if bytes_eq word (codes "router") then router at ms
    else if bytes_eq word (codes "sink") then sink at ms
    else refusal BadValue at

-- the keys of the fields of each kind
abbrev pub kind_keys : NamedKind → List (List ℕ)
kind_keys (Source source) = codes "first" ∷ codes "every" ∷ codes "count" ∷ codes "next" ∷ []
kind_keys (Station station) = codes "servers" ∷ codes "service" ∷ codes "line" ∷ codes "strict" ∷ codes "next" ∷ []
kind_keys (Delay delay) = codes "delay" ∷ codes "next" ∷ []
kind_keys (Router router) = codes "next" ∷ codes "weights" ∷ []
kind_keys (Sink sink) = codes "due" ∷ []

-- numbers of objects in place of their names
abbrev pub linked_kind : Finder → ℕ → NamedKind → Checked (KindOver ℕ)
linked_kind find at (Source s) =
    link find at s.next >>= (λ number. Ok (Source (record { first = s.first; every = s.every; count = s.count; next = number })))
linked_kind find at (Station s) =
    link find at s.next >>= (λ number. Ok (Station (record { servers = s.servers; service = s.service; line = s.line; strict = s.strict; next = number })))
linked_kind find at (Delay d) = link find at d.next >>= (λ number. Ok (Delay (record { delay = d.delay; next = number })))
linked_kind find at (Router r) = links find at r.next >>= (λ numbers. Ok (Router (record { next = numbers; weights = r.weights })))
linked_kind find at (Sink sink) = Ok (Sink sink)
