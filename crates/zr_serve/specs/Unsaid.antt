-- How serving ends where a line was not written.
use Rattle.zr_serve.specs.declared.end.ServeEnd.{ServeEnd}
use Rattle.zr_serve.specs.declared.end.ServeEnd.TheVariants as end
use Rattle.zr_serve.specs.declared.lines.Unsaid.{Unsaid}
use Rattle.zr_serve.specs.declared.lines.Unsaid.TheVariants.{Fault, NoMemory}

abbrev pub end_of_unsaid : Unsaid → ServeEnd
end_of_unsaid Fault = end.WriteFault
end_of_unsaid NoMemory = end.NoMemory
