-- Each message that comes stands behind those before it; one that is refused and not passed over is the first of the rest.
use Rattle.std.proofs.Common.{◌≡◌, ◌∷◌, ◌∙◌, true, inl, inr, length, refl, sym, ap, subst, arith}
use mathlib.Core.List.{IsPrefix}
use Rattle.std.specs.List.{AllByRecursion}
use Rattle.std.specs.Vec.Iter.{into_iter_items}
use Rattle.zr_hist.specs.Words.{list_of, mine, seen}
use Rattle.zr_port.specs.Coming.{sight}
use Rattle.zr_port.proofs.Coming.{comes_begun, comes_one, comes_still}
use Rattle.zr_router_queue.specs.History.{is_legal}
use Rattle.zr_wire.specs.Writing.{IsSpelled}
use Rattle.zr_router.specs.Allowed.{AreAllowed}
use Rattle.zr_router.specs.Refusals.{RefusesMessage}
use Rattle.zr_router.proofs.Delivered.{moved_of, none_next, not_spent, owns_then, owns_none, runs_begun, runs_more, runs_still, spent_neither, spent_or, stands_fewer, stands_prefix}
use Rattle.zr_router.proofs.tables.Tables.deliver_some.Goals as goal

pub loop-init : goal.loop-init
loop-init g c = record {
  same = (refl, refl);
  delivered = comes_begun c.args.link (λ h m e. RefusesMessage g.B.Naming.policy g.B.Naming.me h c.args.link m e) (into_iter_items c.args.messages.now) (sight c.args.pass.now);
  run = runs_begun g.B.Naming.policy g.B.Naming.me c.args.link (into_iter_items c.args.messages.now) (list_of c.args.self.now.kept) c.args.self.now.ends.items;
  own = owns_none (list_of c.args.self.now.kept) (mine c.args.pass.now);
  spelled = c.requires.spelled;
  counted = c.requires.counted;
  stays = λ s. s;
  was = λ s. s;
  stands = inl (refl, refl, refl, refl);
}

-- ---- a message was refused

pub returns-in-Err-clause-prefix : goal.returns-in-Err-clause-prefix
returns-in-Err-clause-prefix g c = stands_prefix c.loop.counter _ _ _ _ _ _ (λ h. (is_legal g.B.Naming.me h ≡ true) × AreAllowed g.B.Naming.policy g.B.Naming.me h) c.loop.self.is_spent c.loop.invariant.stands c.in-Err.ensures.prefix

pub returns-in-Err-clause-own : goal.returns-in-Err-clause-own
returns-in-Err-clause-own g c =
    owns_then _ _ _ _ _ _ c.loop.invariant.own c.in-Err.ensures.own

pub returns-in-Err-clause-run_so_far : goal.returns-in-Err-clause-run_so_far
returns-in-Err-clause-run_so_far g c =
    let told = c.in-Err.ensures in
    λ other. (
      c.in-Some.msg,
      runs_still g.B.Naming.policy g.B.Naming.me c.args.link _ _ _ _ _ _ _ _ _ c.loop.invariant.run c.in-Some.ensures.items told.unchanged.0 (told.unasked other),
    )

pub returns-in-Err-clause-stays : goal.returns-in-Err-clause-stays
returns-in-Err-clause-stays g c = λ s. c.in-Err.ensures.stays (c.loop.invariant.stays s)

pub returns-in-Err-clause-memory : goal.returns-in-Err-clause-memory
returns-in-Err-clause-memory g c =
    let told = c.in-Err.ensures in
    let policy = g.B.Naming.policy in
    let me = g.B.Naming.me in
    λ is. spent_or c.loop.self.is_spent c.args.self.now.is_spent _ c.loop.invariant.was (λ open_now. (
      c.in-Some.msg,
      c.loop.self.ends.items,
      runs_still policy me c.args.link _ _ _ _ _ _ _ _ _ c.loop.invariant.run c.in-Some.ensures.items told.unchanged.0 refl,
      λ r judged refused. told.judged open_now r judged (subst (λ h. RefusesMessage policy me h c.args.link c.in-Some.msg r) told.unchanged.0 refused) is,
    ))

pub returns-in-Err-clause-stopped : goal.returns-in-Err-clause-stopped
returns-in-Err-clause-stopped g c =
    let me = g.B.Naming.me in
    let policy = g.B.Naming.policy in
    let told = c.in-Err.ensures in
    let same = told.seen ∙ told.unchanged.0 in (
      into_iter_items c.loop.messages,
      comes_still c.args.link (λ h m e. RefusesMessage policy me h c.args.link m e) _ _ (sight c.args.pass.now) (sight c.loop.pass) (sight c.deliver_next.new.pass)
          c.loop.invariant.delivered (told.unchanged.1, subst (λ h. IsPrefix (seen c.loop.pass) h) (sym same) told.prefix),
      record {
        msg = c.in-Some.msg;
        others = into_iter_items c.next.new.self;
        first = c.in-Some.ensures.items;
        stops = told.stops;
        refused = λ other. subst (λ h. RefusesMessage policy me h c.args.link c.in-Some.msg c.in-Err.e) (sym same) (told.refused other);
      },
    )

-- ---- a message was delivered, and no more are for now

pub returns-then-self-clause-prefix : goal.returns-then-self-clause-prefix
returns-then-self-clause-prefix g c =
    stands_prefix c.loop.counter _ _ _ _ _ _ (λ h. (is_legal g.B.Naming.me h ≡ true) × AreAllowed g.B.Naming.policy g.B.Naming.me h) c.loop.self.is_spent c.loop.invariant.stands c.in_default-deliver_next.ensures.prefix

pub returns-then-self-clause-own : goal.returns-then-self-clause-own
returns-then-self-clause-own g c = owns_then _ _ _ _ _ _ c.loop.invariant.own c.in_default-deliver_next.ensures.own

pub returns-then-self-clause-run : goal.returns-then-self-clause-run
returns-then-self-clause-run g c =
    let came = c.in_default-deliver_next.ensures.came in
    runs_more g.B.Naming.policy g.B.Naming.me c.args.link _ _ _ came.0 _ _ _ _ _ _ c.loop.invariant.run (c.in-Some.ensures.items ∙ ap (λ m. m ∷ into_iter_items c.next.new.self) (sym came.1)) came.2

pub returns-then-self-clause-stays : goal.returns-then-self-clause-stays
returns-then-self-clause-stays g c = λ s. c.in_default-deliver_next.ensures.stays (c.loop.invariant.stays s)

pub returns-then-self-clause-fewer : goal.returns-then-self-clause-fewer
returns-then-self-clause-fewer g c =
    stands_fewer c.loop.counter _ _ _ _ _ _ _ (λ h. (is_legal g.B.Naming.me h ≡ true) × AreAllowed g.B.Naming.policy g.B.Naming.me h) c.loop.self.is_spent c.loop.invariant.stands c.in-Some.ensures.len

pub returns-then-self-clause-delivered : goal.returns-then-self-clause-delivered
returns-then-self-clause-delivered g c =
    let came = c.in_default-deliver_next.ensures.came in
    comes_one c.args.link (λ h m e. RefusesMessage g.B.Naming.policy g.B.Naming.me h c.args.link m e) _ _ _ came.0 (sight c.args.pass.now) (sight c.loop.pass) (sight c.deliver_next.new.pass)
    c.loop.invariant.delivered (c.in-Some.ensures.items ∙ ap (λ m. m ∷ into_iter_items c.next.new.self) (sym came.1)) came.3

-- ---- none is left, or so many were delivered

pub returns-in_default-clause-prefix : goal.returns-in_default-clause-prefix
returns-in_default-clause-prefix g c =
    let m = moved_of c.loop.counter _ _ _ _ _ _ (λ h. (is_legal g.B.Naming.me h ≡ true) × AreAllowed g.B.Naming.policy g.B.Naming.me h) c.loop.self.is_spent c.loop.invariant.stands (λ x. none_next _ _ c.requires.some c.in_default.ensures.variant x.1) in m.prefix

pub returns-in_default-clause-seen : goal.returns-in_default-clause-seen
returns-in_default-clause-seen g c =
    let m = moved_of c.loop.counter _ _ _ _ _ _ (λ h. (is_legal g.B.Naming.me h ≡ true) × AreAllowed g.B.Naming.policy g.B.Naming.me h) c.loop.self.is_spent c.loop.invariant.stands (λ x. none_next _ _ c.requires.some c.in_default.ensures.variant x.1) in m.seen_is

pub returns-in_default-clause-allowed : goal.returns-in_default-clause-allowed
returns-in_default-clause-allowed g c =
    let m = moved_of c.loop.counter _ _ _ _ _ _ (λ h. (is_legal g.B.Naming.me h ≡ true) × AreAllowed g.B.Naming.policy g.B.Naming.me h) c.loop.self.is_spent c.loop.invariant.stands (λ x. none_next _ _ c.requires.some c.in_default.ensures.variant x.1) in m.legal.1

pub returns-in_default-clause-legal : goal.returns-in_default-clause-legal
returns-in_default-clause-legal g c =
    let m = moved_of c.loop.counter _ _ _ _ _ _ (λ h. (is_legal g.B.Naming.me h ≡ true) × AreAllowed g.B.Naming.policy g.B.Naming.me h) c.loop.self.is_spent c.loop.invariant.stands (λ x. none_next _ _ c.requires.some c.in_default.ensures.variant x.1) in m.legal.0

pub returns-clause-prefix : goal.returns-clause-prefix
returns-clause-prefix g c =
    let m = moved_of c.loop.counter _ _ _ _ _ _ (λ h. (is_legal g.B.Naming.me h ≡ true) × AreAllowed g.B.Naming.policy g.B.Naming.me h) c.loop.self.is_spent c.loop.invariant.stands (λ x. absurd (omega (arith, c.loop-test.false, x.0))) in m.prefix

pub returns-clause-seen : goal.returns-clause-seen
returns-clause-seen g c =
    let m = moved_of c.loop.counter _ _ _ _ _ _ (λ h. (is_legal g.B.Naming.me h ≡ true) × AreAllowed g.B.Naming.policy g.B.Naming.me h) c.loop.self.is_spent c.loop.invariant.stands (λ x. absurd (omega (arith, c.loop-test.false, x.0))) in m.seen_is

pub returns-clause-allowed : goal.returns-clause-allowed
returns-clause-allowed g c =
    let m = moved_of c.loop.counter _ _ _ _ _ _ (λ h. (is_legal g.B.Naming.me h ≡ true) × AreAllowed g.B.Naming.policy g.B.Naming.me h) c.loop.self.is_spent c.loop.invariant.stands (λ x. absurd (omega (arith, c.loop-test.false, x.0))) in m.legal.1

pub returns-clause-legal : goal.returns-clause-legal
returns-clause-legal g c =
    let m = moved_of c.loop.counter _ _ _ _ _ _ (λ h. (is_legal g.B.Naming.me h ≡ true) × AreAllowed g.B.Naming.policy g.B.Naming.me h) c.loop.self.is_spent c.loop.invariant.stands (λ x. absurd (omega (arith, c.loop-test.false, x.0))) in m.legal.0

pub returns-in_default-clause-spent : goal.returns-in_default-clause-spent
returns-in_default-clause-spent g c =
    let m = moved_of c.loop.counter _ _ _ _ _ _ (λ h. (is_legal g.B.Naming.me h ≡ true) × AreAllowed g.B.Naming.policy g.B.Naming.me h) c.loop.self.is_spent c.loop.invariant.stands (λ x. none_next _ _ c.requires.some c.in_default.ensures.variant x.1) in spent_neither _ _ _ _ refl m.unspent

pub returns-in_default-clause-own : goal.returns-in_default-clause-own
returns-in_default-clause-own g c = c.loop.invariant.own

pub returns-in_default-clause-stays : goal.returns-in_default-clause-stays
returns-in_default-clause-stays g c = c.loop.invariant.stays

pub returns-clause-spent : goal.returns-clause-spent
returns-clause-spent g c =
    let m = moved_of c.loop.counter _ _ _ _ _ _ (λ h. (is_legal g.B.Naming.me h ≡ true) × AreAllowed g.B.Naming.policy g.B.Naming.me h) c.loop.self.is_spent c.loop.invariant.stands (λ x. absurd (omega (arith, c.loop-test.false, x.0))) in spent_neither _ _ _ _ refl m.unspent

pub returns-clause-own : goal.returns-clause-own
returns-clause-own g c = c.loop.invariant.own

pub returns-clause-stays : goal.returns-clause-stays
returns-clause-stays g c = c.loop.invariant.stays

pub returns-in_default-clause-fewer : goal.returns-in_default-clause-fewer
returns-in_default-clause-fewer g c =
    let m = moved_of c.loop.counter _ _ _ _ _ _ (λ h. (is_legal g.B.Naming.me h ≡ true) × AreAllowed g.B.Naming.policy g.B.Naming.me h) c.loop.self.is_spent c.loop.invariant.stands (λ x. none_next _ _ c.requires.some c.in_default.ensures.variant x.1) in omega (arith, m.fewer, c.in_default.ensures.len)

pub returns-clause-fewer : goal.returns-clause-fewer
returns-clause-fewer g c =
    let m = moved_of c.loop.counter _ _ _ _ _ _ (λ h. (is_legal g.B.Naming.me h ≡ true) × AreAllowed g.B.Naming.policy g.B.Naming.me h) c.loop.self.is_spent c.loop.invariant.stands (λ x. absurd (omega (arith, c.loop-test.false, x.0))) in m.fewer

pub returns-in_default-clause-run : goal.returns-in_default-clause-run
returns-in_default-clause-run g c = runs_still g.B.Naming.policy g.B.Naming.me c.args.link _ _ _ _ _ _ _ _ _ c.loop.invariant.run c.in_default.ensures.items refl refl

pub returns-clause-run : goal.returns-clause-run
returns-clause-run g c = c.loop.invariant.run

pub loop-preserved : goal.loop-preserved
loop-preserved g c =
    let inv = c.loop.invariant in
    let done = c.in_default-deliver_next.ensures in
    let is : into_iter_items c.loop.messages ≡ c.in-Some.msg ∷ into_iter_items c.next.new.self = c.in-Some.ensures.items in
    let came = done.came in
    let first = is ∙ ap (λ m. m ∷ into_iter_items c.next.new.self) (sym came.1) in
    record {
      same = (done.same.0 ∙ inv.same.0, done.same.1 ∙ inv.same.1);
      delivered = comes_one c.args.link (λ h m e. RefusesMessage g.B.Naming.policy g.B.Naming.me h c.args.link m e) _ _ _ came.0 (sight c.args.pass.now) (sight c.loop.pass) (sight c.deliver_next.new.pass)
          inv.delivered first came.3;
      run = runs_more g.B.Naming.policy g.B.Naming.me c.args.link _ _ _ came.0 _ _ _ _ _ _ inv.run first came.2;
      own = owns_then _ _ _ _ _ _ inv.own done.own;
      spelled = (subst (λ xs. AllByRecursion IsSpelled xs) is inv.spelled).1;
      counted = omega (arith, c.in-Some.ensures.len, inv.counted, ap length is);
      stays = λ s. done.stays (inv.stays s);
      was = λ s. absurd (not_spent _ _ _ _ refl done.spent s);
      stands = inr (record {
        fewer = stands_fewer c.loop.counter _ _ _ _ _ _ _ (λ h. (is_legal g.B.Naming.me h ≡ true) × AreAllowed g.B.Naming.policy g.B.Naming.me h) c.loop.self.is_spent inv.stands c.in-Some.ensures.len;
        legal = (subst (λ h. is_legal g.B.Naming.me h ≡ true) (sym done.seen) done.legal, subst (λ h. AreAllowed g.B.Naming.policy g.B.Naming.me h) (sym done.seen) done.allowed);
        prefix = stands_prefix c.loop.counter _ _ _ _ _ _ (λ h. (is_legal g.B.Naming.me h ≡ true) × AreAllowed g.B.Naming.policy g.B.Naming.me h) c.loop.self.is_spent inv.stands done.prefix;
        seen_is = done.seen;
        unspent = not_spent _ _ _ _ refl done.spent;
      });
    }
