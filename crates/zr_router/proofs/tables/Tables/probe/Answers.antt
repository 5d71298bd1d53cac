-- What was queued is the same, whether or not memory ran out, so the tables are the same replay.
use Rattle.std.proofs.Common.{◌≡◌, List, sym, subst, arith}
use Rattle.std.specs.List.{AllZip}
use Rattle.zr_hist.specs.Words.{list_of}
use Rattle.zr_router_queue.specs.Ends.{EndState, IsReplay, IsStill}
use Rattle.zr_router.proofs.Entered.{written_over}
use Rattle.zr_router.proofs.Probed.{probed}
use Rattle.zr_router.proofs.tables.Tables.probe.Goals as goal

pub invariant_of-self : goal.invariant_of-self
invariant_of-self g c =
    let t = c.args.self.now in
    let me = g.B.Naming.me in
    let ys = c.prepare-asked.new.ends in
    let still = subst (λ (xs : List EndState). AllZip (λ (old new : EndState). IsStill old new) xs ys) c.as_mut_slice-ends.ensures.value c.prepare-asked.ensures.still in
    record {
      named = t.named;
      own = t.own;
      ruled = t.ruled;
      legal = t.legal;
      allowed = t.allowed;
      used = t.used;
      replayed = λ _. subst (λ (xs : List EndState). IsReplay me (list_of t.kept) t.hub xs) (sym (written_over t.ends.len ys _ (omega (arith, c.prepare-asked.auto.ends, c.as_mut_slice-ends.ensures.len))))
          (probed me (list_of t.kept) t.hub t.ends.items ys still (t.replayed c.requires.open));
      spelled = λ _. t.spelled c.requires.open;
    }

pub invariant_of-self-2 : goal.invariant_of-self-2
invariant_of-self-2 g c =
    let t = c.args.self.now in
    let me = g.B.Naming.me in
    let ys = c.prepare-asked.new.ends in
    let still = subst (λ (xs : List EndState). AllZip (λ (old new : EndState). IsStill old new) xs ys) c.as_mut_slice-ends.ensures.value c.prepare-asked.ensures.still in
    record {
      named = t.named;
      own = t.own;
      ruled = t.ruled;
      legal = t.legal;
      allowed = t.allowed;
      used = t.used;
      replayed = λ _. subst (λ (xs : List EndState). IsReplay me (list_of t.kept) t.hub xs) (sym (written_over t.ends.len ys _ (omega (arith, c.prepare-asked.auto.ends, c.as_mut_slice-ends.ensures.len))))
          (probed me (list_of t.kept) t.hub t.ends.items ys still (t.replayed c.requires.open));
      spelled = λ _. t.spelled c.requires.open;
    }
