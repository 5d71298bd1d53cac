use Rattle.std.proofs.Common.{rules, ap, ap₂, sym, ◌∙◌, ◌≡◌, ◌+◌, ◌%◌, ◌∷◌, [], ℕ, length, length-append, refl}
use Rattle.atomic_table.specs.Table.{rest}
use Rattle.zr_ring.proofs.Keeping.{gives_last_here, gave_last_facts, holds_now, still_holds}
use Rattle.zr_ring.proofs.ends.GivingEnd.put_last.Goals as goal

pub store-requires : goal.store-requires
store-requires g c =
    let was = c.args.self.now in
    let bare = ap rest (was.holds.0 c.requires.going) in
    let counted : was.count ≡ length was.seat.me.0.giver.list = was.counted in
    let slots_is : was.slots ≡ c.deref-2.result.now.shared.table_id.slots = search rules in (
      search rules,
      search rules,
      gives_last_here _ _ _ was.seat.me _ _ _ c.args.x c.exchange.ensures.3 (holds_now _ _ was.knows c.requires.going) bare
          (ap₂ (λ (a b : ℕ). a % b) counted slots_is) (ap (λ (a : ℕ). a + 1) counted) c.requires.place,
    )

pub invariant_of-self : goal.invariant_of-self
invariant_of-self g c =
    let was = c.args.self.now in
    let bare = ap rest (was.holds.0 c.requires.going) in
    let counted : was.count ≡ length was.seat.me.0.giver.list = was.counted in
    let slots_is : was.slots ≡ c.deref-2.result.now.shared.table_id.slots = search rules in
    let now = gave_last_facts was.seat.me _ _ c.deref-2.result.now.shared.table_id.slots _ (was.count + 1) c.args.x c.exchange.ensures.3 bare c.store.ensures.2 in record {
      seated = search rules;
      counted = ap (λ (a : ℕ). a + 1) counted ∙ sym (length-append was.seat.me.0.giver.list (c.args.x ∷ [])) ∙ sym (ap (λ d. length d.giver.list) now.0);
      knows = still_holds _ _ _ _ _ _ now.0 refl;
      holds = ((λ e. absurd (cc e)), λ _. now.1);
    }

pub returns-clause-given : goal.returns-clause-given
returns-clause-given g c =
    let bare = ap rest (c.args.self.now.holds.0 c.requires.going) in
    ap (λ d. d.giver.list) (gave_last_facts c.args.self.now.seat.me _ _ c.deref-2.result.now.shared.table_id.slots _ (c.args.self.now.count + 1) c.args.x c.exchange.ensures.3 bare c.store.ensures.2).0

pub returns-clause-known : goal.returns-clause-known
returns-clause-known g c =
    let bare = ap rest (c.args.self.now.holds.0 c.requires.going) in
    let now = gave_last_facts c.args.self.now.seat.me _ _ c.deref-2.result.now.shared.table_id.slots _ (c.args.self.now.count + 1) c.args.x c.exchange.ensures.3 bare c.store.ensures.2 in
    (ap (λ d. d.giver.known) now.0, ap (λ d. d.giver.loads) now.0)

pub returns-clause-same : goal.returns-clause-same
returns-clause-same g c =
    let bare = ap rest (c.args.self.now.holds.0 c.requires.going) in
    let now = gave_last_facts c.args.self.now.seat.me _ _ c.deref-2.result.now.shared.table_id.slots _ (c.args.self.now.count + 1) c.args.x c.exchange.ensures.3 bare c.store.ensures.2 in
    ((search rules, refl, ap (λ d. d.giver.name) now.0), refl)
