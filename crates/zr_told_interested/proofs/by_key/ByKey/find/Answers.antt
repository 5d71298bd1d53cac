use Rattle.std.proofs.Common.{ap, sym, subst, ◌∙◌, ◌||◌, ℕ, List}
use Rattle.std.specs.BTreeSet.{contains}
use Rattle.std.specs.List.{list_any}
use Rattle.std.specs.List.Sorted.{IsStrictlySortedBy}
use Rattle.std.specs.Ordering.{is_eq, nat_cmp}
use Rattle.std.proofs.lemmas.Result.{IfOk-weaker}
use Rattle.zr_index.specs.Meeting.{held}
use Rattle.zr_told_interested.specs.Keys.{is_met}
use Rattle.zr_told_interested.proofs.Reaching.{among_found}
use Rattle.zr_told_interested.proofs.by_key.ByKey.find.Goals as goal

pub returns : goal.returns
returns c =
    let ps = held c.args.self.now.keyed in
    let all = c.args.self.now.keyless.items in
    let places = c.args.places.now in
    IfOk-weaker c.links_in.result _ _ (λ v e cs b. record {
      ascend = subst (λ (ks : List ℕ). IsStrictlySortedBy nat_cmp ks) (sym e) c.len-ascends.ensures.ordered;
      among =
          among_found cs places ps all v.items c.know_places.ensures b.keys b.keyed b.keyless
          (λ n. ap (λ (ks : List ℕ). list_any (λ k. is_eq (nat_cmp n k)) ks) e
          ∙ c.in_ok-put_all_meeting.ensures n
          ∙ ap (λ z. z || list_any (λ q. is_met ps q.key n) places)
          (c.in_ok-put_links.ensures n
          ∙ ap (λ (ks : List ℕ). contains nat_cmp c.new-found.result n || list_any (λ k. is_eq (nat_cmp k n)) ks) c.deref.ensures.value
          ∙ ap (λ (ks : List ℕ). list_any (λ k. is_eq (nat_cmp n k)) ks || list_any (λ k. is_eq (nat_cmp k n)) all) c.new-found.ensures.empty));
    })
    c.links_in.ensures
