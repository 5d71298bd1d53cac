use Rattle.std.proofs.Common.{Option, Some, None, ap, sym, ◌∙◌}
use Rattle.zr_local.specs.declared.interest.Interest.{Interest}
use Rattle.zr_msg.specs.declared.msg.Msg.{Msg}
use Rattle.zr_told_spec.specs.Hub.{Asking, asking_of}
use Rattle.zr_router_core.proofs.Telling.{none_asked, noted_here, one_of, ended_is}
use Rattle.zr_router_core.proofs.tell.tell_own.Goals as goal

pub returns-then-not-leads_to_client : goal.returns-then-not-leads_to_client
returns-then-not-leads_to_client c =
    none_asked c.args.tables.now c.args.link c.args.msg.now c.requires.own c.args.told.now c.requires.ready c.args.out.now.items (sym c.leads_to_client.ensures ∙ c.if-not-leads_to_client.true)

pub tell_asking-requires-clause-noted : goal.tell_asking-requires-clause-noted
tell_asking-requires-clause-noted c =
    let a : Asking = record { current = c.in-Interest.current; future = c.in-Interest.future; interest = c.in_ok-interest-in-Interest.interest } in
    noted_here c.args.tables.now c.args.link c.args.msg.now _ c.requires.ready (sym c.leads_to_client.ensures ∙ c.if-not-leads_to_client.false) a
    (ap (λ (m : Msg). asking_of m) c.in-Interest.is ∙ ap (λ (i : Interest). Some (record { current = c.in-Interest.current; future = c.in-Interest.future; interest = i })) (sym c.in_ok-interest-in-Interest.ensures))

pub returns-in_ok-interest-in-Interest : goal.returns-in_ok-interest-in-Interest
returns-in_ok-interest-in-Interest c =
    let o : Option Asking = Some (record { current = c.in-Interest.current; future = c.in-Interest.future; interest = c.in_ok-interest-in-Interest.interest }) in
    one_of c.args.tables.now c.args.link c.args.msg.now c.requires.own c.args.told.now c.requires.ready (sym c.leads_to_client.ensures ∙ c.if-not-leads_to_client.false) o
    c.tell_asking.result c.tell_asking.new.told c.args.out.now.items c.tell_asking.new.out.items
    (ap (λ (m : Msg). asking_of m) c.in-Interest.is ∙ ap (λ (i : Interest). Some (record { current = c.in-Interest.current; future = c.in-Interest.future; interest = i })) (sym c.in_ok-interest-in-Interest.ensures))
    c.tell_asking.ensures.map c.tell_asking.ensures.sends c.tell_asking.ensures.prefix

pub returns-in_default : goal.returns-in_default
returns-in_default c =
    one_of c.args.tables.now c.args.link c.args.msg.now c.requires.own c.args.told.now c.requires.ready (sym c.leads_to_client.ensures ∙ c.if-not-leads_to_client.false) None
    c.tell_ended.result c.tell_ended.new.told c.args.out.now.items c.tell_ended.new.out.items (ended_is c.args.msg.now c.requires.own c.in_default.not-Interest)
    c.tell_ended.ensures.map c.tell_ended.ensures.sends c.tell_ended.ensures.prefix
