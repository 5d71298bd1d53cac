-- Each call asks for a smaller number.
use Rattle.zr_script_explain.proofs.forms.+word_at.Given as goal

abbrev pub decreases-word_at : goal.decreases-word_at
decreases-word_at l = l.number
