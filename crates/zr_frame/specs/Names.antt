-- Which texts have numbers as a session opens.
use Rattle.std.specs.Prelude.{◌≡◌, Bool, true, false, [], Option, Some, None, is_some, refl}
use Rattle.zr_wirekey.specs.Names.{NameList}

-- none, whether this end gives numbers or not
abbrev pub first_names : Bool → Option NameList
first_names true = Some []
first_names false = None

-- they tell which of both it is
pub first_names_tell : (gives : Bool) → is_some (first_names gives) ≡ gives
first_names_tell true = refl
first_names_tell false = refl
