use Rattle.zr_script.proofs.Links.{links_put}
use Rattle.zr_script.proofs.message.put_links.Goals as goal

pub returns-in_ok-put_link-in-len1-up-clause-ok : goal.returns-in_ok-put_link-in-len1-up-clause-ok
returns-in_ok-put_link-in-len1-up-clause-ok c =
    links_put c.put_others.result c.args.links.now c.args.out.now.items c.put_link.new.out.items c.put_others.new.out.items c.first-item.result
    c.in-len1-up.len_at_least c.first-item.is c.in_ok-put_link-in-len1-up.ensures.ok c.put_others.ensures.ok
