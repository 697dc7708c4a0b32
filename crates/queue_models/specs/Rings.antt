-- A large network from a number: a ring of stations with a delay behind each, round which jobs go for ever.
use Rattle.std.specs.Prelude.{ℕ, ◌+◌, ◌*◌, ◌/◌, ◌%◌, ◌==◌, false, if◌then◌else◌, List, ◌++◌, map, codes, decimal}
use Rattle.std.proofs.Common.{lit<, lit≤}
use Rattle.std.specs.List.{range_with_len}
use Rattle.model_core.specs.declared.entry.Entry.{Entry}
use Rattle.random_streams.specs.declared.law.Law.TheVariants.{Uniform}
use Rattle.sim_spec.specs.declared.terms.Terms.{Terms}
use Rattle.queue_models.specs.declared.kind.KindOver.TheVariants.{Station, Delay}
use Rattle.queue_models.specs.Objects.{Item, NetworkParts, network_of}

-- a station has one server, and a job that is done there goes to the delay behind it
unfoldable pub ring_station : ℕ → Item
ring_station i = record {
  name = codes "q" ++ decimal i;
  kind = Station (record { servers = 1; service = Uniform 1 (1 + i % 7); line = 256; strict = false; next = 2 * i + 1 });
  rank = 0;
  quiet = false;
  trace = false;
}

-- from there to the next station, from the last one to the first
unfoldable pub ring_delay : ℕ → ℕ → Item
ring_delay n i = record {
  name = codes "d" ++ decimal i;
  kind = Delay (record { delay = Uniform 1 (1 + i % 11); next = 2 * ((i + 1) % n) });
  rank = 0;
  quiet = false;
  trace = false;
}

-- station i is object 2 i, and the delay behind it object 2 i + 1
abbrev pub ring_object : ℕ → ℕ → Item
ring_object n number = if number % 2 == 0 then ring_station (number / 2) else ring_delay n (number / 2)

abbrev pub ring_objects : ℕ → List Item
ring_objects n = map (ring_object n) (range_with_len 0 (2 * n))

-- at each station a job begins
abbrev pub ring_jobs : ℕ → List Entry
ring_jobs n = map (λ i. record { time = 0; at = 2 * i; rank = 0 }) (range_with_len 0 n)

abbrev pub ring_parts : ℕ → NetworkParts
ring_parts n = network_of n (ring_objects n) (ring_jobs n)

abbrev pub ring_terms : Terms
ring_terms = record { end = 1000; limit = 10000000; end_in_range = lit< tt; some_event = lit≤ tt; limit_in_range = lit≤ tt }
