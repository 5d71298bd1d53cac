use Rattle.zr_top_words.proofs.Taken.{forms_taken}
use Rattle.zr_top_words.proofs.forms.forms_are_taken.Goals as goal

pub returns : goal.returns
returns c = forms_taken
