-- The pages of the four kinds stand one behind another.
use Rattle.zr_glance.proofs.Joined.{all_pages}
use Rattle.zr_glance.proofs.space.pages.Goals as goal

pub returns : goal.returns
returns c =
    all_pages c.args.id c.args.glance.now c.links.result.now c.parents.result.now c.records.result.now c.sources.result.now
    c.new-all.result.items c.put_peers.new.all.items c.put_parents.new.all.items c.put_records.new.all.items c.put_sources.new.all.items
    c.links.ensures c.parents.ensures c.records.ensures c.sources.ensures
    c.new-all.ensures.items c.in_ok-put_peers.ensures c.in_ok-put_parents.ensures c.in_ok-put_records.ensures c.in_ok-put_sources.ensures
