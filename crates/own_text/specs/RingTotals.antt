-- What is summed up of the run of a token ring.
use Rattle.std.specs.Prelude.{◌++◌, length, codes, decimal}
use Rattle.run_tally.specs.Tallies.{TotalsOf}

-- how often the token came to a station: once for each event
abbrev pub ring_totals : TotalsOf
ring_totals records stop = codes "turns " ++ decimal (length records) ++ codes "\n"
