use Rattle.std.proofs.Common.{◌≡◌, [], ◌++◌, ◌||◌, List, Result, Ok, Err, OnOk, cond, ap, ◌∙◌}
use Rattle.std.specs.Result.{is_ok}
use Rattle.zr_index.specs.Meeting.{held}
use Rattle.zr_index.specs.Walk.{finds, is_among}
use Rattle.zr_index.proofs.Found.{finds_meeting}
use Rattle.zr_index.proofs.index.Index.meeting.Goals as goal

appended : {T E X : Type 0} (P : List X → Type 0) (r : Result T E) (xs found ys : List X) → ys ≡ cond (is_ok r) (xs ++ found) xs → P found → OnOk r ((found : List X) × (ys ≡ xs ++ found) × P found)
appended P (Ok t) xs found ys e h = (found, e, h)
appended P (Err d) xs found ys e h = tt

pub returns : goal.returns
returns g c =
    let cmp = g.V.Ord.cmp in
    let key = c.args.key.now in
    let ps = held c.args.self.now in
    let out = c.args.out.now.items in
    let r = c.extend_from_slice.result in
    appended _ r out c.put_in_order.new.found.items _ (c.extend_from_slice.ensures.items ∙ ap (λ vs. cond (is_ok r) (out ++ vs) out) c.deref.ensures.value) (
    record {
      ascending = c.in_ok-put_in_order.ensures.ascend;
      exactly = λ v. c.in_ok-put_in_order.ensures.same v
          ∙ c.in_ok-gather.ensures [] c.in_ok-row.ensures.is v
          ∙ ap (λ vs. is_among cmp vs v || finds cmp [] key ps v) c.new-found.ensures.items
          ∙ finds_meeting cmp key ps v;
    })
