use Rattle.std.proofs.Common.{◌≡◌, true, get_or, sym, ap, subst, ◌∙◌}
use Rattle.std.specs.List.{AllByRecursion}
use Rattle.std.proofs.lemmas.List.Elements.{All-from_recursion}
use Rattle.zr_hist.specs.Words.{list_of}
use Rattle.zr_router_queue.specs.Tables.{open_queues, replay}
use Rattle.zr_router_queue.specs.History.{is_legal}
use Rattle.zr_router_queue.specs.Ends.{IsEntered, IsNamed, IsSameRing, IsSettled}
use Rattle.zr_router_queue.proofs.Stepped.{zip_so}
use Rattle.zr_router_queue.proofs.Entering.{each_entered, each_given, legal_entered, names_entered, queues_entered}
use Rattle.zr_router_queue.proofs.event.enter.Goals as goal

pub settle_all-requires-clause-entered : goal.settle_all-requires-clause-entered
settle_all-requires-clause-entered c k d lt =
    let hub = (replay c.args.me (list_of c.args.kept.now)).hub in (
      hub,
      subst (λ l. IsEntered c.args.me l hub c.args.entry.now (get_or c.args.ends.now k d)) (sym (c.note.ensures.seen ∙ c.note.ensures.list))
          (All-from_recursion _ c.args.ends.now (each_entered c.args.me (list_of c.args.kept.now) c.args.entry.now c.args.ends.now c.requires.may) k d lt),
    )

pub returns-clause-legal : goal.returns-clause-legal
returns-clause-legal c =
    subst (λ l. is_legal c.args.me l ≡ true) (sym c.note.ensures.list) (legal_entered c.args.me (list_of c.args.kept.now) c.args.entry.now c.args.ends.now c.requires.may)

pub returns-clause-queues : goal.returns-clause-queues
returns-clause-queues c =
    queues_entered c.args.me (list_of c.args.kept.now) c.args.entry.now c.args.ends.now c.settle_all.new.ends c.requires.may c.settle_all.ensures.each
    ∙ ap (λ l. open_queues (replay c.args.me l)) (sym c.note.ensures.list)

pub returns-clause-rings : goal.returns-clause-rings
returns-clause-rings c = zip_so (λ old new. IsSettled c.args.entry.now old new) (λ old new. IsSameRing old new) (λ old new s. s.1) c.args.ends.now c.settle_all.new.ends c.settle_all.ensures.each

pub returns-clause-given : goal.returns-clause-given
returns-clause-given c = each_given (replay c.args.me (list_of c.args.kept.now)).hub c.args.entry.now c.args.ends.now c.settle_all.new.ends c.requires.may.planned c.settle_all.ensures.each

pub returns-clause-named : goal.returns-clause-named
returns-clause-named c =
    subst (λ l. AllByRecursion (λ x. IsNamed c.args.me l x) c.settle_all.new.ends) (sym c.note.ensures.list)
    (names_entered c.args.me (list_of c.args.kept.now) c.args.entry.now c.args.ends.now c.settle_all.new.ends c.requires.may c.settle_all.ensures.each)
