-- What goes to clients, as the code keeps it.
use Rattle.zr_tests_judge.specs.declared.broker.Carried as d
use Rattle.zr_tests_judge.specs.declared.broker.Carried.TheVariants as v
use Rattle.zr_guarantee.specs.Item.{Carried, Sample, Query}

-- the sample or the query that the code keeps
abbrev pub carried_of : d.Carried → Carried
carried_of (v.Sample content) = Sample content.now
carried_of (v.Query target content) = Query target content.now
