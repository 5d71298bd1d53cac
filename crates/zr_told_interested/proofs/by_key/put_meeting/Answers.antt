use Rattle.std.proofs.Common.{ap, ◌∙◌, ◌||◌, ◌++◌, ℕ, List}
use Rattle.std.specs.BTreeSet.{contains}
use Rattle.std.specs.Ordering.{nat_cmp}
use Rattle.std.proofs.lemmas.Result.{on_ok_weaker}
use Rattle.zr_index.specs.Meeting.{held}
use Rattle.zr_told_interested.proofs.Reaching.{met_by}
use Rattle.zr_told_interested.proofs.by_key.put_meeting.Goals as goal

pub returns : goal.returns
returns c =
    let m = c.in_ok-meeting.ensures in
    on_ok_weaker c.put_links.result (λ put n.
    put n ∙ ap (λ z. contains nat_cmp c.args.found.now n || z)
    (met_by (held c.args.index.now) c.args.key.now m.0 c.deref.result.now n (c.deref.ensures.value ∙ m.1 ∙ ap (λ (ks : List ℕ). ks ++ m.0) c.new-links.ensures.items) m.2))
    c.put_links.ensures
