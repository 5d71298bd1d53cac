use Rattle.std.proofs.Common.{rules, ap, sym, ◌∙◌, ◌≡◌, ◌≢◌, ◌+◌, ◌∷◌, [], length, length-append, refl}
use Rattle.atomic_table.specs.Table.{rest}
use Rattle.std.specs.Prelude.{Some}
use Rattle.zr_ring.specs.Rule.{taker_view, end_view}
use Rattle.zr_ring.proofs.Keeping.{sees_given, takes_one_here, is_taker_view}
use Rattle.zr_ring.proofs.ends.TakingEnd.take.Goals as goal

pub load-given-requires : goal.load-given-requires
load-given-requires g c = (search rules, search rules, sees_given _ _ _ _ (ap (λ m. m.0) c.args.self.now.knows))

pub exchange-item-requires : goal.exchange-item-requires
exchange-item-requires g c =
    let was = c.args.self.now in
    let counted : was.count ≡ length was.seat.me.0.taker.list = was.counted in
    let more : c.load-given.result ≢ length was.seat.me.0.taker.list = λ e. c.if-given-self.false (e ∙ sym counted) in
    let got = c.load-given.ensures.2.3 more in
    (search rules, (Some got.0, search rules))

pub store-requires : goal.store-requires
store-requires g c =
    let was = c.args.self.now in
    let counted : was.count ≡ length was.seat.me.0.taker.list = was.counted in
    let more : c.load-given.result ≢ length was.seat.me.0.taker.list = λ e. c.if-given-self.false (e ∙ sym counted) in
    let got = c.load-given.ensures.2.3 more in
    let list = ap (λ d. d.taker.list) got.2 in
    let bare = ap rest got.3 ∙ ap (λ m. m.1) was.knows in (
      search rules,
      search rules,
      takes_one_here _ _ _ c.load-given.new.seat.me _ _ was.count _ c.exchange-item.ensures.3 (is_taker_view _ _ _ _ _ got.2 ∙ ap (λ b. taker_view (end_view c.load-given.new.seat.me.0.taker.name b c.load-given.new.seat.me.0.taker.list c.load-given.new.seat.me.0.taker.known c.load-given.new.seat.me.0.taker.loads)) (ap (λ d. d.taker.holds) got.2)) bare
          (ap length list ∙ length-append was.seat.me.0.taker.list (got.0 ∷ []) ∙ sym (ap (λ n. n + 1) counted)) (search rules) refl,
    )
