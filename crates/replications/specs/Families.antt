-- What a study is in the words of the definitions.
use Rattle.std.specs.Prelude.{ℕ}
use Rattle.model_core.specs.Meaning.{Meaning}
use Rattle.replications.specs.declared.study.Study.{Study}
use Rattle.replications.specs.Ends.{RowsOf}
use Rattle.replications.specs.Studies.{StudyOf}

-- by what its models mean under each seed, and what their rows are then
module _ {S : Type 0} (with_seed : S → ℕ → Meaning) (rows : S → ℕ → RowsOf) where
  abbrev pub study_of : Study S → StudyOf
  study_of study = record {
    with_seed = with_seed study.models;
    rows = rows study.models;
    head = study.head.now;
    terms = study.terms;
    first_tick = study.first_tick;
    first_seed = study.first_seed;
  }
