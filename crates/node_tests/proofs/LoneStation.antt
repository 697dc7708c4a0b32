-- A network of one station that sends to itself.
use Rattle.std.proofs.Common.{◌≡◌, ◌≢◌, ℕ, suc, zero, ◌+◌, ◌<◌, ◌≤◌, ◌||◌, not, true, false, List, [], ◌∷◌, length, All, AllPairs, refl, subst, sym, arith, rules}
use Rattle.std.specs.Prelude.{IsTrue}
use Rattle.std.proofs.lemmas.List.Elements.{All-nil, All-cons}
use Rattle.random_streams.specs.Laws.{is_delay, is_drawable}
use Rattle.random_streams.specs.declared.law.Law.TheVariants.{Fixed}
use Rattle.queue_models.specs.Kinds.{IsKind, is_source, is_station}
use Rattle.queue_models.specs.Objects.{Item, network_of, object_at}
use Rattle.queue_models.specs.Parts.{IsJob, IsLink, IsName, IsNetwork, IsObject}
use Rattle.queue_models.specs.declared.kind.KindOver.TheVariants.{Station}
use Rattle.queue_models.specs.declared.station.Station.{Station as StationOf}

fixed-4 : IsTrue (is_delay (Fixed 4))
unfolding is_delay is_drawable
fixed-4 = search rules

-- the station under this name
abbrev pub strict_station : List ℕ → Item
strict_station name = record { name = name; kind = Station (record { servers = 1; line = 1; service = Fixed 4; strict = true; next = 0 }); rank = 0; quiet = false; trace = false }

one : (name : List ℕ) → name ≡ 115 ∷ [] → IsObject (strict_station name ∷ []) (strict_station name)
one name is = record {
  name = subst IsName (sym is) (record { some = search rules; short = search rules; bytes = search rules });
  kind = (record { some = search rules; few = search rules; law = fixed-4; short = search rules }, record { exists = search rules; takes = search rules });
  rank = search rules;
  traced = search rules;
}

pub lone : (name : List ℕ) → name ≡ 115 ∷ [] → IsNetwork (network_of 0 (strict_station name ∷ []) [])
lone name is = record {
  seed = search rules;
  few_objects = search rules;
  few_jobs = search rules;
  names = λ i j d below within. absurd (omega arith);
  objects = All-cons (IsObject (strict_station name ∷ [])) (strict_station name) [] (one name is) (All-nil (IsObject (strict_station name ∷ [])));
  jobs = All-nil (IsJob (strict_station name ∷ []));
}
