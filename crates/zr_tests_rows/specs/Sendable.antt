-- Contents that may be sent.
use Rattle.std.specs.Prelude.{◌≡◌, ◌≤◌, length}
use Rattle.zr_body.specs.declared.place.Place.{Place}
use Rattle.zr_body.specs.Body.{IsBodyIn}
use Rattle.zr_msg.specs.declared.content.Parts.{Parts}
use Rattle.zr_msg.specs.Extras.{no_extras}

-- nothing stands beside key and body, and this is a short one of its kind
pub record IsPlain (at : Place) (c : Parts) : Type 0 where
  pub extras : c.extras ≡ no_extras
  pub is_body : IsBodyIn at c.body
  pub short : length c.body ≤ 4096
