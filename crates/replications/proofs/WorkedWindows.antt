-- What windows come to at small stations and sinks, computed from the definitions.
use Rattle.std.proofs.Common.{◌≡◌, ℕ, List, [], ◌∷◌, refl}
use Rattle.replications.specs.Parts.{TimedPart, from_tick}
use Rattle.replications.specs.Stays.{lefts_after, last_left, stays, spent}
use Rattle.replications.specs.Windows.{line_before, greatest, longest_from, no_sums, sums_from, window_sums}

at : ℕ → ℕ → ℕ → ℕ → TimedPart
at time word a b = record { time = time; part = record { word = word; a = a; b = b } }

-- a server takes three jobs, of which two wait for it: it is busy from 1 to 10, and one job waits from 3 to 4 and from 5 to 7
station : List TimedPart
station = at 1 3 1 0 ∷ at 3 4 2 1 ∷ at 4 6 1 0 ∷ at 5 4 3 1 ∷ at 7 6 2 0 ∷ at 10 6 3 0 ∷ []

-- the three jobs leave
sink : List TimedPart
sink = at 4 9 1 3 ∷ at 7 9 2 4 ∷ at 10 9 3 5 ∷ []

whole_station : window_sums 0 20 station ≡ record { arrivals = 3; served = 3; lost = 0; busy = 9; waiting = 3; age = 0; longest = 1 }
unfolding from_tick lefts_after last_left stays spent line_before greatest longest_from sums_from window_sums at station
whole_station = refl

whole_sink : window_sums 0 20 sink ≡ record { arrivals = 3; served = 3; lost = 0; busy = 0; waiting = 0; age = 12; longest = 0 }
unfolding from_tick lefts_after last_left stays spent line_before greatest longest_from sums_from window_sums at sink
whole_sink = refl

-- a job waits as the window begins, until the first event in it
late_station : window_sums 4 20 station ≡ record { arrivals = 1; served = 3; lost = 0; busy = 6; waiting = 2; age = 0; longest = 1 }
unfolding from_tick lefts_after last_left stays spent line_before greatest longest_from sums_from window_sums at station
late_station = refl

-- a window of no tick
no_window : window_sums 21 20 station ≡ no_sums
unfolding from_tick lefts_after last_left stays spent line_before greatest longest_from sums_from window_sums at station
no_window = refl

-- a job is turned away while another one is served
loss : window_sums 0 10 (at 1 3 1 0 ∷ at 2 5 2 0 ∷ at 6 6 1 0 ∷ []) ≡ record { arrivals = 2; served = 1; lost = 1; busy = 5; waiting = 0; age = 0; longest = 0 }
unfolding from_tick lefts_after last_left stays spent line_before greatest longest_from sums_from window_sums at
loss = refl

-- a server is busy and a job waits until the run stops at a fault
to_the_end : window_sums 3 7 (at 5 3 1 0 ∷ at 6 4 2 1 ∷ []) ≡ record { arrivals = 2; served = 0; lost = 0; busy = 2; waiting = 1; age = 0; longest = 1 }
unfolding from_tick lefts_after last_left stays spent line_before greatest longest_from sums_from window_sums at
to_the_end = refl
