use Rattle.text_fields.specs.TermsOf.{terms_of-terms}
use Rattle.text_fields.proofs.terms.terms_of.Goals as goal

pub returns : goal.returns
returns c = terms_of-terms _
