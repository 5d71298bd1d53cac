-- What a line asks for may be carried.
use Rattle.zr_script_spec.specs.declared.command.Act.{Act}
use Rattle.zr_script_spec.specs.Command.{IsLineAct}
use Rattle.zr_law_calls.specs.Fitting.{IsFit}

-- what a client sends by an act of a line may be passed on
abbrev pub LineActsFit : Type 0
LineActsFit = (act : Act) → IsLineAct act → IsFit act
