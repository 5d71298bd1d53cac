-- The phase of a mark: the lines after it, up to the next one that changes routers, clients, links or declarations.
use Rattle.std.specs.Prelude.{Bool, List}
use Rattle.std.specs.List.{list_all}
use Rattle.zr_script_spec.specs.declared.command.Act.{Act}
use Rattle.zr_world_spec.specs.Moments.{Numbered}
use Rattle.zr_guarantee.specs.Meaning.{meaning}

-- whether an act leaves routers, clients, links and declarations as they are
abbrev pub stays : Act → Bool
stays act = (meaning act).stays

-- whether acts behind a mark belong to its phase
abbrev pub is_phase : List Numbered → Bool
is_phase acts = list_all (λ x. stays x.1) acts
