use Rattle.model_text.proofs.SecondFormat.{first_is_second}
use Rattle.model_text.proofs.format_laws.law_formats.Goals as goal

pub returns : goal.returns
returns c = first_is_second
