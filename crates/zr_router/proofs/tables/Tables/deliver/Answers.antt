use Rattle.std.proofs.Common.{◌≡◌, ◌<◌, not, true, false, List, [], ◌∷◌, ◌++◌, length, Some, None, refl, sym, ap, subst, ◌∙◌}
use Rattle.zr_hist.specs.Words.{list_of, most_entries}
use Rattle.zr_msg.specs.declared.event.Event.TheVariants.{From}
use Rattle.zr_port.specs.Adding.{IsAdmitted}
use Rattle.zr_port.specs.declared.error.DeliverError.TheVariants as deliver
use Rattle.zr_node_spec.specs.Early.{is_early}
use Rattle.zr_node_spec.specs.Event.{on_link}
use Rattle.zr_router_queue.specs.Ends.{EndState, GoesByRings, IsReplay}
use Rattle.zr_router_queue.specs.Tables.{replay}
use Rattle.zr_router.specs.Allowed.{is_allowed}
use Rattle.zr_router.specs.Before.{message_refusal}
use Rattle.zr_router.specs.Former.{tells_former}
use Rattle.zr_told_spec.specs.Hub.{HubState, hub_refuses}
use Rattle.zr_router.specs.Failures.{HasFailed}
use Rattle.zr_router.specs.declared.failure.Failure.{Failure}
use Rattle.zr_router.specs.declared.failure.Failure.TheVariants.{Refused}
use Rattle.zr_router.specs.Refusals.{RefusesMessage, is_worn, node_refusal}
use Rattle.zr_access.specs.Rules.{is_open}
use Rattle.zr_router.proofs.Entered.{added, added_beside, handled}
use Rattle.zr_router.proofs.OpenEnds.{names_from}
use Rattle.zr_router.proofs.Refused.{closed_at, message_allowed, message_admitted, message_comes, message_judged, message_node, message_refused, message_room, never_memory, node_never_memory, replay_awake}
use Rattle.zr_router.proofs.tables.Tables.deliver.Goals as goal

pub returns-in-Some-clause-refused : goal.returns-in-Some-clause-refused
returns-in-Some-clause-refused g c =
    let t = c.args.self.now in
    let me = g.B.Naming.me in
    let pol = g.B.Naming.policy in
    let l = c.look.new.self in
    let h = list_of l.kept in
    let open_now : l.is_spent ≡ false = c.look.ensures.same.2 ∙ sym c.in-Ok.ensures.spent in
    let r : IsReplay me h l.hub l.ends.items = l.replayed open_now in
    let w : is_worn h ≡ c.in-Ok.worn = ap (λ x. is_worn x) c.look.ensures.kept ∙ sym c.in-Ok.ensures.worn in
    let p = c.peer_at-peer.result in
    let k = c.closing_of-closing.result in
    let at = c.peer_at-peer.ensures in
    let shut = c.closing_of-closing.ensures ∙ ap (λ xs. closed_at xs c.args.link) c.as_slice.ensures.value in
    let is : message_refusal pol p k c.args.link c.args.msg (is_worn h) ≡ Some c.in-Some.refused =
    ap (λ b. message_refusal pol p k c.args.link c.args.msg b) w ∙ ap (λ z. message_refusal z p k c.args.link c.args.msg c.in-Ok.worn) (sym l.ruled) ∙ sym c.refuses_message.ensures ∙ c.in-Some.is in
    λ _. subst (λ x. RefusesMessage pol me x c.args.link c.args.msg c.in-Some.refused) c.look.ensures.kept
    (message_refused pol me h l.hub l.ends.items r c.args.link c.args.msg p k c.in-Some.refused at shut is)

pub returns-in-Some-clause-spent : goal.returns-in-Some-clause-spent
returns-in-Some-clause-spent g c =
    let l = c.look.new.self in
    let open_now : l.is_spent ≡ false = c.look.ensures.same.2 ∙ sym c.in-Ok.ensures.spent in
    let is = sym c.refuses_message.ensures ∙ c.in-Some.is in
    (λ e. absurd (never_memory l.policy c.peer_at-peer.result c.closing_of-closing.result c.args.link c.args.msg c.in-Ok.worn (is ∙ cc)), λ spent. cc)

pub enter-requires-clause-handled : goal.enter-requires-clause-handled
enter-requires-clause-handled g c =
    let t = c.args.self.now in
    let me = g.B.Naming.me in
    let pol = g.B.Naming.policy in
    let l = c.look.new.self in
    let h = list_of l.kept in
    let open_now : l.is_spent ≡ false = c.look.ensures.same.2 ∙ sym c.in-Ok.ensures.spent in
    let r : IsReplay me h l.hub l.ends.items = l.replayed open_now in
    let w : is_worn h ≡ c.in-Ok.worn = ap (λ x. is_worn x) c.look.ensures.kept ∙ sym c.in-Ok.ensures.worn in
    let p = c.peer_at-peer.result in
    let k = c.closing_of-closing.result in
    let at = c.peer_at-peer.ensures in
    let shut = c.closing_of-closing.ensures ∙ ap (λ xs. closed_at xs c.args.link) c.as_slice.ensures.value in
    let n = c.handle.new.self in
    let kept : list_of n.kept ≡ list_of t.kept = c.handle.ensures.kept ∙ c.look.ensures.kept in
    let q : IsReplay me (list_of n.kept) l.hub n.ends.items =
    subst (λ x. IsReplay me x l.hub n.ends.items) (sym c.handle.ensures.kept) (subst (λ (xs : List EndState). IsReplay me h l.hub xs) (sym (ap (λ v. v.items) c.handle.ensures.ends)) r) in
    let handled_is = c.in-Ok-handle.ensures.handled in
    let none : message_refusal pol p k c.args.link c.args.msg (is_worn h) ≡ None =
    ap (λ b. message_refusal pol p k c.args.link c.args.msg b) w ∙ ap (λ z. message_refusal z p k c.args.link c.args.msg c.in-Ok.worn) (sym l.ruled) ∙ sym c.refuses_message.ensures ∙ c.in_default-refuses_message.is in
    handled me (list_of n.kept) l.hub n.hub n.ends.items (From c.args.link c.args.msg) None None c.as_slice-2.result.now
    n.legal q.hub_is
    (message_comes pol me h l.hub l.ends.items r c.args.link c.args.msg p k at shut none)
    handled_is.1 handled_is.0
    (λ to. ap (λ xs. on_link to xs) c.as_slice-2.ensures.value ∙ c.in-Ok-handle.ensures.sent to)
    (l.spelled open_now) c.requires.spelled refl q.queues
    (subst (λ x. length x < most_entries) (sym kept)
    (c.in-Ok.ensures.room (sym w ∙ message_room pol me h l.hub l.ends.items r c.args.link c.args.msg p k at shut none)))
    (names_from me (list_of n.kept) l.hub n.ends.items q c.args.link c.args.msg)

pub enter-requires-clause-former : goal.enter-requires-clause-former
enter-requires-clause-former g c =
    let me = g.B.Naming.me in
    let l = c.look.new.self in
    let open_now : l.is_spent ≡ false = c.look.ensures.same.2 ∙ sym c.in-Ok.ensures.spent in
    let r : IsReplay me (list_of l.kept) l.hub l.ends.items = l.replayed open_now in
    c.tells_former-is_former.ensures ∙ ap (λ b. tells_former b c.args.msg) (c.base.ensures ∙ ap (λ h. h.node.base) r.hub_is)
    ∙ ap (λ h. tells_former (replay me h).hub.node.base c.args.msg) (sym c.handle.ensures.kept)

pub enter-requires-clause-spelled : goal.enter-requires-clause-spelled
enter-requires-clause-spelled g c = c.requires.spelled

pub enter-requires-clause-allowed : goal.enter-requires-clause-allowed
enter-requires-clause-allowed g c =
    let t = c.args.self.now in
    let me = g.B.Naming.me in
    let pol = g.B.Naming.policy in
    let l = c.look.new.self in
    let h = list_of l.kept in
    let open_now : l.is_spent ≡ false = c.look.ensures.same.2 ∙ sym c.in-Ok.ensures.spent in
    let r : IsReplay me h l.hub l.ends.items = l.replayed open_now in
    let w : is_worn h ≡ c.in-Ok.worn = ap (λ x. is_worn x) c.look.ensures.kept ∙ sym c.in-Ok.ensures.worn in
    let p = c.peer_at-peer.result in
    let k = c.closing_of-closing.result in
    let at = c.peer_at-peer.ensures in
    let shut = c.closing_of-closing.ensures ∙ ap (λ xs. closed_at xs c.args.link) c.as_slice.ensures.value in
    let n = c.handle.new.self in
    let kept : list_of n.kept ≡ list_of t.kept = c.handle.ensures.kept ∙ c.look.ensures.kept in
    let q : IsReplay me (list_of n.kept) l.hub n.ends.items =
    subst (λ x. IsReplay me x l.hub n.ends.items) (sym c.handle.ensures.kept) (subst (λ (xs : List EndState). IsReplay me h l.hub xs) (sym (ap (λ v. v.items) c.handle.ensures.ends)) r) in
    let handled_is = c.in-Ok-handle.ensures.handled in
    let none : message_refusal pol p k c.args.link c.args.msg (is_worn h) ≡ None =
    ap (λ b. message_refusal pol p k c.args.link c.args.msg b) w ∙ ap (λ z. message_refusal z p k c.args.link c.args.msg c.in-Ok.worn) (sym l.ruled) ∙ sym c.refuses_message.ensures ∙ c.in_default-refuses_message.is in
    subst (λ x. is_allowed pol (replay me x).hub.node (From c.args.link c.args.msg) ≡ true) (sym c.handle.ensures.kept) (message_allowed pol me h l.hub l.ends.items r c.args.link c.args.msg p k at shut none)

pub returns-in-Ok-enter-clause-added : goal.returns-in-Ok-enter-clause-added
returns-in-Ok-enter-clause-added g c =
    let t = c.args.self.now in
    let me = g.B.Naming.me in
    let pol = g.B.Naming.policy in
    let l = c.look.new.self in
    let h = list_of l.kept in
    let open_now : l.is_spent ≡ false = c.look.ensures.same.2 ∙ sym c.in-Ok.ensures.spent in
    let r : IsReplay me h l.hub l.ends.items = l.replayed open_now in
    let w : is_worn h ≡ c.in-Ok.worn = ap (λ x. is_worn x) c.look.ensures.kept ∙ sym c.in-Ok.ensures.worn in
    let p = c.peer_at-peer.result in
    let k = c.closing_of-closing.result in
    let at = c.peer_at-peer.ensures in
    let shut = c.closing_of-closing.ensures ∙ ap (λ xs. closed_at xs c.args.link) c.as_slice.ensures.value in
    let n = c.handle.new.self in
    let kept : list_of n.kept ≡ list_of t.kept = c.handle.ensures.kept ∙ c.look.ensures.kept in
    let q : IsReplay me (list_of n.kept) l.hub n.ends.items =
    subst (λ x. IsReplay me x l.hub n.ends.items) (sym c.handle.ensures.kept) (subst (λ (xs : List EndState). IsReplay me h l.hub xs) (sym (ap (λ v. v.items) c.handle.ensures.ends)) r) in
    let handled_is = c.in-Ok-handle.ensures.handled in
    let none : message_refusal pol p k c.args.link c.args.msg (is_worn h) ≡ None =
    ap (λ b. message_refusal pol p k c.args.link c.args.msg b) w ∙ ap (λ z. message_refusal z p k c.args.link c.args.msg c.in-Ok.worn) (sym l.ruled) ∙ sym c.refuses_message.ensures ∙ c.in_default-refuses_message.is in
    let a = c.in-Ok-enter.ensures.added in
    added c.args.pass.now c.look.new.pass c.enter.new.pass (list_of t.kept) (list_of c.enter.new.self.kept) (From c.args.link c.args.msg) None None
    (λ before. IsAdmitted (λ e. RefusesMessage pol me before c.args.link c.args.msg e))
    c.look.ensures.pass.1 c.look.ensures.prefix
    (a.0, a.1, a.2 ∙ ap (λ x. x ++ a.0 ∷ []) kept, a.3, a.4)
    (subst (λ x. IsAdmitted (λ e. RefusesMessage pol me x c.args.link c.args.msg e)) c.look.ensures.kept
    (message_admitted pol me h l.hub l.ends.items r c.args.link c.args.msg p k at shut none handled_is.1))

pub returns-in-Err-Refused-clause-refused : goal.returns-in-Err-Refused-clause-refused
returns-in-Err-Refused-clause-refused g c =
    let t = c.args.self.now in
    let me = g.B.Naming.me in
    let pol = g.B.Naming.policy in
    let l = c.look.new.self in
    let h = list_of l.kept in
    let open_now : l.is_spent ≡ false = c.look.ensures.same.2 ∙ sym c.in-Ok.ensures.spent in
    let r : IsReplay me h l.hub l.ends.items = l.replayed open_now in
    let w : is_worn h ≡ c.in-Ok.worn = ap (λ x. is_worn x) c.look.ensures.kept ∙ sym c.in-Ok.ensures.worn in
    let p = c.peer_at-peer.result in
    let k = c.closing_of-closing.result in
    let at = c.peer_at-peer.ensures in
    let shut = c.closing_of-closing.ensures ∙ ap (λ xs. closed_at xs c.args.link) c.as_slice.ensures.value in
    let none : message_refusal pol p k c.args.link c.args.msg (is_worn h) ≡ None =
    ap (λ b. message_refusal pol p k c.args.link c.args.msg b) w ∙ ap (λ z. message_refusal z p k c.args.link c.args.msg c.in-Ok.worn) (sym l.ruled) ∙ sym c.refuses_message.ensures ∙ c.in_default-refuses_message.is in
    let refused = c.in-Err-Refused.error in
    let failed : HasFailed (hub_refuses l.hub (From c.args.link c.args.msg)) l.is_spent c.handle.new.self.is_spent (Refused refused) =
    subst (λ (x : Failure). HasFailed (hub_refuses l.hub (From c.args.link c.args.msg)) l.is_spent c.handle.new.self.is_spent x) c.in-Err-Refused.field-0-is c.in-Err-Refused.ensures.failed in
    let told : RefusesMessage pol me (list_of t.kept) c.args.link c.args.msg (node_refusal (not (is_open pol)) refused) =
    subst (λ x. RefusesMessage pol me x c.args.link c.args.msg (node_refusal (not (is_open pol)) refused)) c.look.ensures.kept
    (message_node pol me h l.hub l.ends.items r c.args.link c.args.msg p k at shut none refused failed.0) in
    let is : c.node_refusal.result ≡ node_refusal (not c.is_open.result) refused = rw c.in-Err-Refused.field-0-is at c.node_refusal.ensures in
    let ruled : node_refusal (not (is_open pol)) refused ≡ c.node_refusal.result =
    ap (λ z. node_refusal (not (is_open z)) refused) (sym c.handle.new.self.ruled) ∙ ap (λ z. node_refusal (not (is_open z)) refused) (sym c.get.ensures) ∙ ap (λ b. node_refusal (not b) refused) (sym c.is_open.ensures) ∙ sym is in
    λ _. subst (λ x. RefusesMessage pol me (list_of t.kept) c.args.link c.args.msg x) ruled told

pub returns-in-Ok-enter-clause-rings : goal.returns-in-Ok-enter-clause-rings
returns-in-Ok-enter-clause-rings g c =
    let t = c.args.self.now in
    let me = g.B.Naming.me in
    let pol = g.B.Naming.policy in
    let n = c.handle.new.self in
    let kept : list_of n.kept ≡ list_of t.kept = c.handle.ensures.kept ∙ c.look.ensures.kept in
    let ends : n.ends.items ≡ t.ends.items = ap (λ v. v.items) c.handle.ensures.ends ∙ ap (λ v. v.items) c.look.ensures.same.1 in
    let left : List EndState = c.enter.new.self.ends.items in
    let a = c.in-Ok-enter.ensures.added in
    added_beside c.args.pass.now c.look.new.pass c.enter.new.pass (list_of t.kept) (list_of c.enter.new.self.kept) (λ before e. GoesByRings me before e t.ends.items left)
    c.look.ensures.pass.1 c.look.ensures.prefix a.0 (a.2 ∙ ap (λ x. x ++ a.0 ∷ []) kept) a.3 a.4
    (subst (λ (xs : List EndState). GoesByRings me (list_of t.kept) a.0 xs left) ends (subst (λ h. GoesByRings me h a.0 n.ends.items left) kept a.5))

-- ---- a refusal that needs no memory

pub returns-in-Err-NoMemory-clause-judged : goal.returns-in-Err-NoMemory-clause-judged
returns-in-Err-NoMemory-clause-judged g c =
    let t = c.args.self.now in
    let me = g.B.Naming.me in
    let pol = g.B.Naming.policy in
    let l = c.look.new.self in
    let h = list_of l.kept in
    let open_now : l.is_spent ≡ false = c.look.ensures.same.2 ∙ sym c.in-Ok.ensures.spent in
    let r : IsReplay me h l.hub l.ends.items = l.replayed open_now in
    let w : is_worn h ≡ c.in-Ok.worn = ap (λ x. is_worn x) c.look.ensures.kept ∙ sym c.in-Ok.ensures.worn in
    let p = c.peer_at-peer.result in
    let k = c.closing_of-closing.result in
    let at = c.peer_at-peer.ensures in
    let shut = c.closing_of-closing.ensures ∙ ap (λ xs. closed_at xs c.args.link) c.as_slice.ensures.value in
    let none : message_refusal pol p k c.args.link c.args.msg (is_worn h) ≡ None =
    ap (λ b. message_refusal pol p k c.args.link c.args.msg b) w ∙ ap (λ z. message_refusal z p k c.args.link c.args.msg c.in-Ok.worn) (sym l.ruled) ∙ sym c.refuses_message.ensures ∙ c.in_default-refuses_message.is in
    let awake : l.hub.node.spent ≡ false = ap (λ (x : HubState). x.node.spent) r.hub_is ∙ replay_awake me h in
    let late : is_early (hub_refuses l.hub (From c.args.link c.args.msg)) ≡ false = c.in-Err-NoMemory.ensures.late c.in-Err-NoMemory.field-0-is awake in
    λ unspent x judged refused is. message_judged pol me h l.hub l.ends.items r c.args.link c.args.msg p k at shut none late x judged (subst (λ z. RefusesMessage pol me z c.args.link c.args.msg x) (sym c.look.ensures.kept) refused)

pub returns-in-Err-Refused-clause-judged : goal.returns-in-Err-Refused-clause-judged
returns-in-Err-Refused-clause-judged g c = λ unspent x judged refused is.
    let told : c.node_refusal.result ≡ node_refusal (not c.is_open.result) c.in-Err-Refused.error = rw c.in-Err-Refused.field-0-is at c.node_refusal.ensures in
    let memory : c.node_refusal.result ≡ deliver.NoMemory = cc in
    node_never_memory (not c.is_open.result) c.in-Err-Refused.error (sym told ∙ memory)

pub returns-in-Err-clause-judged : goal.returns-in-Err-clause-judged
returns-in-Err-clause-judged g c =
    let t = c.args.self.now in
    let me = g.B.Naming.me in
    let pol = g.B.Naming.policy in
    let l = c.look.new.self in
    let h = list_of l.kept in
    let open_now : l.is_spent ≡ false = c.look.ensures.same.2 ∙ sym c.in-Ok.ensures.spent in
    let r : IsReplay me h l.hub l.ends.items = l.replayed open_now in
    let w : is_worn h ≡ c.in-Ok.worn = ap (λ x. is_worn x) c.look.ensures.kept ∙ sym c.in-Ok.ensures.worn in
    let p = c.peer_at-peer.result in
    let k = c.closing_of-closing.result in
    let at = c.peer_at-peer.ensures in
    let shut = c.closing_of-closing.ensures ∙ ap (λ xs. closed_at xs c.args.link) c.as_slice.ensures.value in
    let none : message_refusal pol p k c.args.link c.args.msg (is_worn h) ≡ None =
    ap (λ b. message_refusal pol p k c.args.link c.args.msg b) w ∙ ap (λ z. message_refusal z p k c.args.link c.args.msg c.in-Ok.worn) (sym l.ruled) ∙ sym c.refuses_message.ensures ∙ c.in_default-refuses_message.is in
    λ unspent x judged refused is. message_admitted pol me h l.hub l.ends.items r c.args.link c.args.msg p k at shut none c.in-Ok-handle.ensures.handled.1 x (subst (λ z. RefusesMessage pol me z c.args.link c.args.msg x) (sym c.look.ensures.kept) refused)

pub returns-in-Some-clause-judged : goal.returns-in-Some-clause-judged
returns-in-Some-clause-judged g c =
    let is = sym c.refuses_message.ensures ∙ c.in-Some.is in
    λ unspent x judged refused e. never_memory c.look.new.self.policy c.peer_at-peer.result c.closing_of-closing.result c.args.link c.args.msg c.in-Ok.worn (is ∙ cc)
