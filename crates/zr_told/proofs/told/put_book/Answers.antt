use Rattle.zr_told.proofs.Links.{with_link}
use Rattle.zr_told.proofs.told.put_book.Goals as goal

pub returns-clause-map : goal.returns-clause-map
returns-clause-map c = λ k. with_link c.args.link.0 k _ _ _ (c.in_ok-insert.ensures.updates.0 k)
