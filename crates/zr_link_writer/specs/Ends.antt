-- How a writer ends where it stops before the ring's end.
use Rattle.zr_link_writer.specs.declared.end.Stop.{Stop}
use Rattle.zr_link_writer.specs.declared.end.Stop.TheVariants.{Fault, NoMemory}
use Rattle.zr_link_writer.specs.declared.end.WriterEnd.{WriterEnd}
use Rattle.zr_link_writer.specs.declared.end.WriterEnd.TheVariants as end

abbrev pub end_of_stop : Stop → WriterEnd
end_of_stop Fault = end.WriteFault
end_of_stop NoMemory = end.NoMemory
