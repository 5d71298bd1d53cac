use Rattle.zr_top_words.proofs.Parts.{make_is, net_is, none_is, serve_is}
use Rattle.zr_top_words.proofs.reading.read_words.Goals as goal

pub returns-clause-net : goal.returns-clause-net
returns-clause-net c = net_is _ c.read.result c.read.ensures.reads

pub returns-clause-serve : goal.returns-clause-serve
returns-clause-serve c = serve_is _ c.read.result c.read.ensures.reads

pub returns-clause-make : goal.returns-clause-make
returns-clause-make c = make_is _ c.read.result c.read.ensures.reads

pub returns-clause-none : goal.returns-clause-none
returns-clause-none c = none_is _ c.read.result c.read.ensures.reads
