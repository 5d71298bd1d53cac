use Rattle.std.proofs.Common.{◌≡◌, sym, ◌∙◌, List, get_or}
use Rattle.std.proofs.lemmas.Bool.{not-false}
use Rattle.zr_id.specs.Record.{LinkedState}
use Rattle.zr_tree.proofs.Stays.{same_more}
use Rattle.zr_tree.proofs.same.have_same_links.Goals as goal

pub loop-i-preserved : goal.loop-i-preserved
loop-i-preserved c =
    let xs : List LinkedState = c.args.first.now.links in
    let ys : List LinkedState = c.args.second.now.links in
    let first : c.link-item.result ≡ get_or xs c.loop-i.i c.link-item.result = rw c.links-link-items.ensures.value at c.link-item.is in
    let second : c.index-links-i.result ≡ get_or ys c.loop-i.i c.index-links-i.result = rw c.links-in-loop-i.ensures.value at c.index-links-i.is in
    record {
      long = c.loop-i.invariant.long;
      same = same_more xs ys c.loop-i.i c.link-item.result c.index-links-i.result (rw c.links-link-items.ensures.value at c.loop-i-test.true) c.loop-i.invariant.long first second
          (not-false _ (sym c.ne.ensures ∙ c.if-ne.false)) c.loop-i.invariant.same;
    }
