-- The peer isn't taken; or the link comes up, is followed, and goes down.
use Rattle.std.proofs.Common.{◌≡◌, ◌∙◌, ◌++◌, ◌∷◌, ℕ, true, List, [], refl, sym, ap, subst, inl}
use Rattle.zr_link.specs.Gone.{IsGone, is_gone}
use Rattle.zr_link.specs.Written.{HandsOn, close_with}
use Rattle.std.proofs.lemmas.List.{append-nil}
use Rattle.std.specs.Prelude.{Some, None}
use Rattle.std.specs.Vec.Iter.{into_iter_items}
use Rattle.zr_msg.specs.declared.event.Event.TheVariants as event
use Rattle.zr_hist.specs.Words.{mine, seen}
use Rattle.zr_session.specs.Session.{SessionState, with_confirmed, owed_bytes}
use Rattle.zr_link.specs.Heard.{IsLate}
use Rattle.zr_link.specs.Acts.{up, froms}
use Rattle.zr_link.specs.Ends.{IsStarted}
use Rattle.zr_port.specs.Coming.{sight, delivered}
use Rattle.zr_port.proofs.Coming.{adds_one}
use Rattle.zr_link.proofs.Failed.{told_by}
use Rattle.zr_link.proofs.Going.{Followed, through_does, does_entry, does_then}
use Rattle.zr_link.specs.Log.{IsNotUp}
use Rattle.zr_link.specs.Logged.{RefusesPeer}
use Rattle.zr_link.proofs.Logged.{logged_up, tells_none, tells_same, tells_then}
use Rattle.zr_link.proofs.Running.{enters_followed, enters_early, goes_map}
use Rattle.zr_link.proofs.reader.enter.Goals as goal

pub returns-in-Err-clause-entered : goal.returns-in-Err-clause-entered
returns-in-Err-clause-entered g c =
    let wrote = c.refuse-end.ensures.wrote in inl (
      c.in-Err.ensures.unchanged,
      refl,
      (c.in-Err.e, c.in-Err.ensures.refused, c.refuse-end.ensures.end),
      λ answers is. rw (append-nil answers) (rw (c.without_close.ensures.without answers is) at wrote),
    )

pub returns-in-Ok-begin-clause-entered : goal.returns-in-Ok-begin-clause-entered
returns-in-Ok-begin-clause-entered g c =
    let S = c.args.intake.now.session in
    let waiting = into_iter_items c.args.opened.messages in
    let link = c.in-Ok.up.0 in
    let added = c.in-Ok.ensures.added in
    let upon = adds_one c.args.pass.now c.up.new.pass (event.Up link c.args.opened.peer) (Some c.args.opened.outbox) None _ added (λ b x p. p.0) in
    let same = c.in-Ok-begin.ensures.same ∙ ap with_confirmed c.without_close.ensures.same in
    let on = c.follow-end.ensures.followed in
    let followed = subst (λ (z : SessionState). Followed link z waiting c.args.opened.fate c.follow-end.result (g.S.Source.left c.args.source.now) (g.S.Source.left c.follow-end.new.source)
    (IsLate (g.S.Source.quiets c.args.source.now) (g.S.Source.quiets c.follow-end.new.source) z.heard (g.C.Clock.last c.args.clock.now) (g.C.Clock.last c.follow-end.new.clock))
    (g.P.Port.refuses_message c.args.port.now) (sight c.up.new.pass) (sight c.follow-end.new.pass)) same (record { came = on.0; goes = on.1; follows = on.2 }) in
    let down = c.leave.ensures.left in
    let Gone = IsGone (λ m x. g.P.Port.refuses_message c.args.port.now (seen c.follow-end.new.pass) link m x) in
    let goes = goes_map link c.follow-end.result _ (g.P.Port.answers_down c.args.port.now) _ Gone down.0 (sight c.follow-end.new.pass) (sight c.leave.new.pass)
    (λ gone. c.follow-end.ensures.gone (subst (λ z. is_gone z ≡ true) (c.refusal.ensures ∙ c.because.ensures.refusal) gone)) down.1 in
    let handed = subst (λ (z : SessionState). HandsOn (λ k. g.K.Sink.held k) (λ k. g.K.Sink.faults k) (c.without_close.new.self.fed.bytes.items ++ owed_bytes z) c.args.out.sink) c.without_close.ensures.same c.in-Ok-begin.ensures.handed in
    enters_followed c.args.opened.peer c.args.opened.outbox S waiting c.args.opened.fate c.follow-end.result (g.S.Source.left c.args.source.now) (g.S.Source.left c.follow-end.new.source)
    (IsLate (g.S.Source.quiets c.args.source.now) (g.S.Source.quiets c.follow-end.new.source) S.heard (g.C.Clock.last c.args.clock.now) (g.C.Clock.last c.follow-end.new.clock))
    (λ owed. (answers : List ℕ) → c.args.intake.now.fed.bytes.items ≡ answers ++ close_with c.args.opened.fate → HandsOn (λ k. g.K.Sink.held k) (λ k. g.K.Sink.faults k) (answers ++ owed) c.args.out.sink)
    (g.P.Port.refuses_up c.args.port.now) (g.P.Port.refuses_message c.args.port.now) (g.P.Port.refuses_down c.args.port.now) (g.P.Port.answers_down c.args.port.now)
    c.args.pass.now c.up.new.pass c.follow-end.new.pass c.leave.new.pass link upon (record { came = followed.came; goes = followed.goes; follows = followed.follows }) c.leave.ensures.prefix down.0 goes down.2
    (λ answers is. subst (λ z. HandsOn (λ k. g.K.Sink.held k) (λ k. g.K.Sink.faults k) (z ++ owed_bytes S) c.args.out.sink) (c.without_close.ensures.without answers is) handed)

pub returns-in-Ok-begin-clause-unwritten : goal.returns-in-Ok-begin-clause-unwritten
returns-in-Ok-begin-clause-unwritten g c is = absurd (subst IsStarted is c.follow-end.ensures.started)

pub returns-in-Ok-begin-clause-refused : goal.returns-in-Ok-begin-clause-refused
returns-in-Ok-begin-clause-refused g c =
    let count = c.in-Ok-begin.ensures.refused in record {
      later = count.later;
      one = count.one;
      cause = λ is. absurd (subst IsStarted is c.follow-end.ensures.started);
      only = λ rose. absurd (count.only rose);
    }

pub returns-in-Ok-begin-clause-writer : goal.returns-in-Ok-begin-clause-writer
returns-in-Ok-begin-clause-writer g c =
    let link = c.in-Ok.up.0 in
    let added = c.in-Ok.ensures.added in
    let first = does_entry (mine c.args.pass.now) (mine c.up.new.pass) added.entry (event.Up link c.args.opened.peer) (Some c.args.opened.outbox) None added.own added.says.0 in
    let on = c.follow-end.ensures.followed in
    let down = c.leave.ensures.left in
    let rest = does_then (froms link (delivered on.0)) down.0 (mine c.up.new.pass) (mine c.follow-end.new.pass) (mine c.leave.new.pass) (through_does link (λ h m x. g.P.Port.refuses_message c.args.port.now h link m x) on.0 (sight c.up.new.pass) (sight c.follow-end.new.pass) on.1) down.2 in (
      link,
      c.args.opened.peer,
      c.args.opened.outbox,
      froms link (delivered on.0) ++ down.0,
      does_then (up link c.args.opened.peer c.args.opened.outbox ∷ []) (froms link (delivered on.0) ++ down.0) (mine c.args.pass.now) (mine c.up.new.pass) (mine c.leave.new.pass) first rest,
      c.in-Ok-begin.ensures.told,
    )

pub returns-in-Err-begin-clause-entered : goal.returns-in-Err-begin-clause-entered
returns-in-Err-begin-clause-entered g c =
    let link = c.in-Ok.up.0 in
    let added = c.in-Ok.ensures.added in
    let upon = adds_one c.args.pass.now c.up.new.pass (event.Up link c.args.opened.peer) (Some c.args.opened.outbox) None _ added (λ b x p. p.0) in
    let down = c.leave-in-Err-begin.ensures.left in
    let goes = goes_map link _ _ (g.P.Port.answers_down c.args.port.now) _ ⊥ down.0 (sight c.up.new.pass) (sight c.leave-in-Err-begin.new.pass) (λ gone. cc) down.1 in
    let wrote = rw c.without_close.ensures.same at c.in-Err-begin.ensures.wrote in
    enters_early c.args.opened.peer c.args.opened.outbox c.args.intake.now.session (into_iter_items c.args.opened.messages) c.args.opened.fate _ (g.S.Source.left c.args.source.now)
    (IsLate (g.S.Source.quiets c.args.source.now) (g.S.Source.quiets c.args.source.now) c.args.intake.now.session.heard (g.C.Clock.last c.args.clock.now) (g.C.Clock.last c.args.clock.now))
    (g.P.Port.refuses_up c.args.port.now) (g.P.Port.refuses_message c.args.port.now) (g.P.Port.refuses_down c.args.port.now) (g.P.Port.answers_down c.args.port.now)
    c.args.pass.now c.up.new.pass c.leave-in-Err-begin.new.pass link c.args.intake.now.fed.bytes.items c.without_close.new.self.fed.bytes.items (g.K.Sink.held c.args.out.sink) _ _
    upon c.leave-in-Err-begin.ensures.prefix c.in-Err-begin.ensures.early down.0 goes down.2 c.without_close.ensures.without wrote

pub returns-in-Err-clause-logged : goal.returns-in-Err-clause-logged
returns-in-Err-clause-logged g c =
    let Refused = RefusesPeer (λ peer e. g.P.Port.refuses_up c.args.port.now (seen c.up.new.pass) peer e) in
    inl (c.in-Err.ensures.unchanged, subst (IsNotUp Refused) (sym c.opened.ensures.stage) (subst Refused (sym c.same_peer-known.ensures) (c.in-Err.e, c.in-Err.ensures.refused)), c.opened.ensures.held.0, c.opened.ensures.held.1)

pub returns-in-Ok-begin-clause-logged : goal.returns-in-Ok-begin-clause-logged
returns-in-Ok-begin-clause-logged g c =
    let link = c.in-Ok.up.0 in
    let added = c.in-Ok.ensures.added in
    let first = does_entry (mine c.args.pass.now) (mine c.up.new.pass) added.entry (event.Up link c.args.opened.peer) (Some c.args.opened.outbox) None added.own added.says.0 in
    let on = c.follow-end.ensures.followed in
    let down = c.leave.ensures.left in
    let rest = does_then (froms link (delivered on.0)) down.0 (mine c.up.new.pass) (mine c.follow-end.new.pass) (mine c.leave.new.pass) (through_does link (λ h m x. g.P.Port.refuses_message c.args.port.now h link m x) on.0 (sight c.up.new.pass) (sight c.follow-end.new.pass) on.1) down.2 in
    logged_up (λ l. g.L.Log.held l) (λ l. g.L.Log.lost l) (RefusesPeer (λ peer e. g.P.Port.refuses_up c.args.port.now (seen c.leave.new.pass) peer e)) link c.args.opened.peer _ c.args.opened.outbox (froms link (delivered on.0) ++ down.0) _ _ c.args.log.now c.opened.new.self c.up-2.new.self c.because.new.self c.same_peer-known.ensures
    (does_then (up link c.args.opened.peer c.args.opened.outbox ∷ []) (froms link (delivered on.0) ++ down.0) (mine c.args.pass.now) (mine c.up.new.pass) (mine c.leave.new.pass) first rest)
    c.opened.ensures.held c.opened.ensures.rules c.up-2.ensures.stage c.up-2.ensures.rules c.up-2.ensures.told
    (tells_then (λ l. g.L.Log.held l) (λ l. g.L.Log.lost l) c.up-2.new.self c.follow-end.new.log c.because.new.self c.follow-end.ensures.logged
    (tells_same (λ l. g.L.Log.held l) (λ l. g.L.Log.lost l) c.follow-end.new.log c.because.new.self c.because.ensures.stage c.because.ensures.rules c.because.ensures.held))

pub returns-in-Err-begin-clause-logged : goal.returns-in-Err-begin-clause-logged
returns-in-Err-begin-clause-logged g c =
    let link = c.in-Ok.up.0 in
    let added = c.in-Ok.ensures.added in
    let first = does_entry (mine c.args.pass.now) (mine c.up.new.pass) added.entry (event.Up link c.args.opened.peer) (Some c.args.opened.outbox) None added.own added.says.0 in
    let down = c.leave-in-Err-begin.ensures.left in
    logged_up (λ l. g.L.Log.held l) (λ l. g.L.Log.lost l) (RefusesPeer (λ peer e. g.P.Port.refuses_up c.args.port.now (seen c.leave-in-Err-begin.new.pass) peer e)) link c.args.opened.peer _ c.args.opened.outbox down.0 _ _ c.args.log.now c.opened.new.self c.up-2.new.self c.up-2.new.self c.same_peer-known.ensures
    (does_then (up link c.args.opened.peer c.args.opened.outbox ∷ []) down.0 (mine c.args.pass.now) (mine c.up.new.pass) (mine c.leave-in-Err-begin.new.pass) first down.2)
    c.opened.ensures.held c.opened.ensures.rules c.up-2.ensures.stage c.up-2.ensures.rules c.up-2.ensures.told (tells_none (λ l. g.L.Log.held l) (λ l. g.L.Log.lost l) c.up-2.new.self)

pub returns-in-Err-clause-told : goal.returns-in-Err-clause-told
returns-in-Err-clause-told g c sink is rose = told_by (λ k. g.K.Sink.faults k) _ _ sink _ c.refuse-end.ensures.told is rose

pub returns-in-Ok-begin-clause-told : goal.returns-in-Ok-begin-clause-told
returns-in-Ok-begin-clause-told g c sink is rose = absurd cc

pub returns-in-Err-begin-clause-told : goal.returns-in-Err-begin-clause-told
returns-in-Err-begin-clause-told g c sink is rose = told_by (λ k. g.K.Sink.faults k) _ _ sink _ c.in-Err-begin.ensures.failed is rose
