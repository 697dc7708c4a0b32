-- What comes next, by the key of the first pending event.
use Rattle.key_order.proofs.LeastLemmas.{first_key-none}
use Rattle.std.proofs.Common.{◌≡◌, ◌≢◌, ◌<◌, ◌≤◌, List, [], ◌∷◌, sym, refl, ap, ◌∙◌, arith}
use Rattle.std.specs.Prelude.{Some, None}
use Rattle.event_key.specs.declared.key.Key.{Key}
use Rattle.event_key.specs.Stamps.{end_stamp}
use Rattle.model_core.specs.declared.event.Event.{Event}
use Rattle.model_core.specs.Meaning.{Meaning}
use Rattle.key_order.specs.Keys.{first_key}
use Rattle.sim_spec.specs.declared.stop.Stop.TheVariants.{End, Limit}
use Rattle.sim_spec.specs.declared.terms.Terms.{Terms}
use Rattle.sim_spec.specs.Firing.{Fired, goes, fails, fire}
use Rattle.sim_spec.specs.Run.{next, next_fired}
use Rattle.sim_spec.specs.Standing.{end_or_limit}
use Rattle.sim_spec.specs.State.{State, object_at}
use Rattle.sim_spec.proofs.RunLemmas.{next-none, next-late, next-full, next-fires}

-- the first event of a list that has one
pub record HasFirst (es : List Event) (k : Key) : Type 0 where
  pub event : Event
  pub rest : List Event
  pub first : es ≡ event ∷ rest
  pub key : k ≡ event.key

same_some : (j k : Key) → Some j ≡ Some k → j ≡ k
same_some j k is = cc

pub has_first : (es : List Event) (k : Key) → Some k ≡ first_key es → HasFirst es k
has_first [] k is = absurd (cc)
has_first (e ∷ rest) k is = record { event = e; rest = rest; first = refl; key = same_some k e.key is }

pub has_none : (es : List Event) → None ≡ first_key es → es ≡ []
has_none es is = first_key-none es (sym is)

fires_on : (s : State) (e : Event) (rest : List Event) (f : Fired) → None ≡ end_or_limit (next_fired s e rest f)
unfolding end_or_limit next_fired
fires_on s e rest (goes x) = refl
fires_on s e rest (fails code) = refl

module _ (m : Meaning) (t : Terms) (s : State) where
  pub stops-none : None ≡ first_key s.pending → Some End ≡ end_or_limit (next m t s)
  unfolding end_or_limit
  stops-none is = ap end_or_limit (sym (next-none m t s (has_none s.pending is)))

  pub stops-late : (k : Key) → Some k ≡ first_key s.pending → end_stamp t.end ≤ k.stamp → Some End ≡ end_or_limit (next m t s)
  unfolding end_or_limit
  stops-late k is late =
      let f = has_first s.pending k is in
      let same = ap (λ (k : Key). k.stamp) f.key in
      ap end_or_limit (sym (next-late m t s f.event f.rest f.first (omega arith)))

  pub stops-full : (k : Key) → Some k ≡ first_key s.pending → k.stamp < end_stamp t.end → s.count ≡ t.limit → Some Limit ≡ end_or_limit (next m t s)
  unfolding end_or_limit
  stops-full k is due full =
      let f = has_first s.pending k is in
      let same = ap (λ (k : Key). k.stamp) f.key in
      ap end_or_limit (sym (next-full m t s f.event f.rest f.first (omega arith) full))

  pub goes-on : (k : Key) → Some k ≡ first_key s.pending → k.stamp < end_stamp t.end → s.count ≢ t.limit → None ≡ end_or_limit (next m t s)
  goes-on k is due free =
      let f = has_first s.pending k is in
      let same = ap (λ (k : Key). k.stamp) f.key in
      fires_on s f.event f.rest (fire m f.event.key.dest (object_at s.objects f.event.key.dest) f.event)
      ∙ ap end_or_limit (sym (next-fires m t s f.event f.rest f.first (omega arith) free))
