-- What is read follows from the laws of the definitions.
use Rattle.run_save.proofs.ResultLemmas.{is_text, is_lawful, is_again}
use Rattle.run_save.proofs.reading.read_state.Goals as goal

pub returns-clause-read : goal.returns-clause-read
returns-clause-read g c = is_text g.T.Model.Model.meaning g.T.Tally.Tally.lines g.T.ModelReader.reading.read c.args.bytes.now c.saved_state.result c.saved_state.ensures

pub returns-clause-lawful : goal.returns-clause-lawful
returns-clause-lawful g c = is_lawful g.T.Model.Model.meaning g.T.Tally.Tally.lines g.T.ModelReader.reading.read c.args.bytes.now c.saved_state.result c.saved_state.ensures

pub returns-clause-written : goal.returns-clause-written
returns-clause-written g c = λ s model read savable text. is_again g.T.Model.Model.meaning g.T.Tally.Tally.lines g.T.ModelReader.reading.read c.args.bytes.now c.saved_state.result s model read savable text c.saved_state.ensures
