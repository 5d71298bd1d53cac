use Rattle.std.proofs.Common.{◌≡◌, ℕ, ◌-◌, ◌^◌, ◌≤◌, subst, ap, ◌∙◌, sym, arith}
use Rattle.std.specs.Option.{option_map_or}
use Rattle.std.specs.BTreeMap.{insert_entry}
use Rattle.zr_told_spec.specs.Place.{place_cmp}
use Rattle.zr_told_spec.specs.Told.{ToldMap, at, free_id, id_for}
use Rattle.zr_told.proofs.Numbers.{numbered_put, least_id}
use Rattle.zr_told.proofs.book.Book.enter_new.Goals as goal

pub least-id-requires : goal.least-id-requires
least-id-requires c = λ n l.
    let m : ToldMap = c.self.inside.entries.entries in
    let e : n ≡ free_id m = least_id m c.self.inside.ids n c.self.invariant l in
    let f : id_for m c.args.place.now ≡ free_id m = ap (λ o. option_map_or (λ z. z.id) o (free_id m)) (ap (λ (z : ToldMap). at z c.args.place.now) c.self.view_is ∙ c.requires.new) in
    let r : id_for m c.args.place.now ≤ 2 ^ 32 - 1 = subst (λ (z : ToldMap). id_for z c.args.place.now ≤ 2 ^ 32 - 1) (sym c.self.view_is) c.requires.id in
    omega (arith, e, f, r)

pub invariant_of-self-2 : goal.invariant_of-self-2
invariant_of-self-2 c =
    let m : ToldMap = c.self.inside.entries.entries in
    let n : ℕ = c.least-id.result in
    rw c.in_ok-put_entry.ensures.ok
    (numbered_put m c.self.inside.ids c.give.new.self c.args.place.now (record { id = n; complete = c.args.complete }) c.self.invariant (ap (λ (z : ToldMap). at z c.args.place.now) c.self.view_is ∙ c.requires.new)
    (sym (c.self.invariant.given n) ∙ c.least-id.ensures.free) (c.give.ensures n c.least-id.ensures))

pub returns-clause-id : goal.returns-clause-id
returns-clause-id c =
    let m : ToldMap = c.self.inside.entries.entries in
    let f : id_for m c.args.place.now ≡ free_id m = ap (λ o. option_map_or (λ z. z.id) o (free_id m)) (ap (λ (z : ToldMap). at z c.args.place.now) c.self.view_is ∙ c.requires.new) in
    least_id m c.self.inside.ids c.least-id.result c.self.invariant c.least-id.ensures ∙ sym f ∙ ap (λ (z : ToldMap). id_for z c.args.place.now) c.self.view_is

pub returns-clause-map : goal.returns-clause-map
returns-clause-map c =
    let m : ToldMap = c.self.inside.entries.entries in
    let f : id_for m c.args.place.now ≡ free_id m = ap (λ o. option_map_or (λ z. z.id) o (free_id m)) (ap (λ (z : ToldMap). at z c.args.place.now) c.self.view_is ∙ c.requires.new) in
    let i : c.least-id.result ≡ id_for m c.args.place.now = least_id m c.self.inside.ids c.least-id.result c.self.invariant c.least-id.ensures ∙ sym f in
    c.in_ok-put_entry.ensures.ok
    ∙ ap (λ n. insert_entry place_cmp m c.args.place.now (record { id = n; complete = c.args.complete })) i
    ∙ ap (λ (z : ToldMap). insert_entry place_cmp z c.args.place.now (record { id = id_for z c.args.place.now; complete = c.args.complete })) c.self.view_is
