-- A reply and a final for who asked, and what was held for it with the final.
use Rattle.std.specs.Prelude.{List, [], ◌∷◌, ◌++◌, map}
use Rattle.std.specs.List.{flat_map}
use Rattle.zr_id.specs.declared.link.LinkNo.{LinkNo}
use Rattle.zr_msg.specs.declared.content.Parts.{Parts}
use Rattle.zr_msg.specs.declared.extras.Extras.{Extras}
use Rattle.zr_msg.specs.declared.msg.Msg.{Msg}
use Rattle.zr_msg.specs.declared.msg.Msg.TheVariants.{Response, Final}
use Rattle.zr_pend_spec.specs.declared.branch.Asker.{Asker}
use Rattle.zr_pend_spec.specs.Held.{GatheringState}

-- under the number that the request had there
abbrev pub reply_sent : Parts → Asker → LinkNo × Msg
reply_sent content a = (a.link, Response a.number content)

abbrev pub final_sent : Extras → Asker → LinkNo × Msg
final_sent extras a = (a.link, Final a.number extras)

-- what was held for who asked, and then the final
abbrev pub held_sent : GatheringState → List (LinkNo × Msg)
held_sent e = map (λ c. reply_sent c e.asker) e.held

abbrev pub ending_sent : Extras → GatheringState → List (LinkNo × Msg)
ending_sent extras e = held_sent e ++ final_sent extras e.asker ∷ []

abbrev pub endings_sent : Extras → List GatheringState → List (LinkNo × Msg)
endings_sent extras ended = flat_map (λ e. ending_sent extras e) ended
