use Rattle.std.proofs.lemmas.List.Elements.{recursion_from_All}
use Rattle.zr_ring.specs.Giver.{giver_name}
use Rattle.zr_ring.proofs.giver.Giver.give.Goals as goal

pub give_all-requires-clause-fits : goal.give_all-requires-clause-fits
give_all-requires-clause-fits g c = recursion_from_All (λ p. g.N.Note.fits (giver_name c.args.self.now) p.note) _ c.requires.fits
