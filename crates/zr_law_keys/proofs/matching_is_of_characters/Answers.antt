use Rattle.zr_law_keys.proofs.Matching.{chars_match}
use Rattle.zr_law_keys.proofs.matching_is_of_characters.Goals as goal

pub returns : goal.returns
returns c = chars_match
