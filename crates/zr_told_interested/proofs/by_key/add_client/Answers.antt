use Rattle.std.proofs.Common.{List, get_or, length, ap, ◌∙◌, arith}
use Rattle.std.proofs.lemmas.List.{drop_all}
use Rattle.zr_index.specs.Meeting.{held}
use Rattle.zr_local.specs.declared.interest.Interest.{Interest}
use Rattle.zr_index.proofs.Adding.{added_all, added_more}
use Rattle.zr_told_interested.specs.Keys.{pair_of}
use Rattle.zr_told_interested.proofs.by_key.add_client.Goals as goal

pub loop-interest-preserved : goal.loop-interest-preserved
loop-interest-preserved c = λ f.
    let same = c.as_slice-interest-items.ensures.value in
    added_more (λ (i : Interest). pair_of c.args.client.now.link.0 i) f c.args.client.now.interests c.loop-interest.interest-index c.interest-item.result (held c.loop-interest.index) (held c.add_interest.new.index) _
    (omega (arith, ap (λ (is : List Interest). length is) same)) (c.interest-item.is ∙ ap (λ (is : List Interest). get_or is c.loop-interest.interest-index c.interest-item.result) same) (c.in_ok-add_interest.ensures f) (c.loop-interest.invariant f)

pub returns : goal.returns
returns c = λ f.
    added_all (λ (i : Interest). pair_of c.args.client.now.link.0 i) f c.args.client.now.interests c.loop-interest.interest-index (held c.loop-interest.index) _
    (drop_all c.loop-interest.interest-index c.args.client.now.interests (omega (arith, ap (λ (is : List Interest). length is) c.as_slice-interest-items.ensures.value))) (c.loop-interest.invariant f)
