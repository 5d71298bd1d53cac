-- Messages that are delivered on a link, and how the reader of a link that is up ends.
use Rattle.std.proofs.Common.{◌≡◌, ◌≢◌, ◌⊎◌, ℕ, ◌+◌, ◌<◌, ◌≤◌, min, arith, length, Bool, true, false, List, [], ◌∷◌, ◌++◌, map, Option, Some, None, refl, sym, ap, subst, ◌∙◌, append_assoc, inl, inr}
use Rattle.std.proofs.lemmas.List.{append-nil, map-append}
use Rattle.std.specs.List.{AllByRecursion}
use Rattle.zr_id.specs.declared.link.LinkNo.{LinkNo}
use Rattle.zr_frame.specs.Outbox.{OutboxState}
use Rattle.zr_msg.specs.declared.event.Event.{Event}
use Rattle.zr_msg.specs.declared.event.Event.TheVariants.{From}
use Rattle.zr_msg.specs.declared.msg.Msg.{Msg}
use Rattle.zr_msg.specs.declared.error.NodeError.TheVariants as node
use Rattle.zr_open.specs.declared.expected.Expected.{Expected}
use Rattle.zr_open.specs.declared.error.Reason.{Reason}
use Rattle.zr_outside.specs.Counts.{RoseBy}
use Rattle.zr_port.specs.declared.entry.Entry.{Entry}
use Rattle.zr_port.specs.declared.error.DeliverError.{DeliverError}
use Rattle.zr_port.specs.declared.error.DeliverError.TheVariants as deliver
use Rattle.zr_port.specs.Adding.{IsEntryOf}
use Rattle.zr_port.specs.Coming.{Sight, AddsOne, Came, Delivered, Passed, message_of, messages_of, delivered, Through, ComesUpTo, StopsAt}
use Rattle.zr_port.proofs.Coming.{looks_self, through_then}
use Rattle.zr_session.specs.declared.event.SessionEvent.{SessionEvent}
use Rattle.zr_session.specs.declared.event.SessionEvent.TheVariants.{Opened, Message}
use Rattle.zr_session.specs.declared.fate.Fate.{Fate}
use Rattle.zr_session.specs.declared.fate.Fate.TheVariants as fate
use Rattle.zr_session.specs.declared.phase.Phase.{Phase}
use Rattle.zr_session.specs.declared.phase.Phase.TheVariants.{Opening, Established}
use Rattle.zr_session.specs.Course.{Course}
use Rattle.zr_session.specs.Session.{SessionState, IsAt, is_running}
use Rattle.zr_session.proofs.Calls.{comes_at}
use Rattle.zr_wire.specs.Writing.{IsSpelled}
use Rattle.zr_link.specs.declared.end.LinkEnd.{LinkEnd}
use Rattle.zr_link.specs.declared.end.LinkEnd.TheVariants as end
use Rattle.zr_link.specs.Ends.{end_of_delivery, IsEarly, IsStarted}
use Rattle.zr_link.specs.Acts.{Act, act_of, Does, from, froms}
use Rattle.zr_link.specs.Gone.{IsGone, is_gone}
use Rattle.zr_link.specs.Heard.{AreMessages, messages, Between, Hears, HearsSome, FateIs, LostIs, Closes, IsOpen, IsIn}
use Rattle.zr_link.specs.Run.{Delivers, Stops, Refuses, UpEnds, EndIs, Follows}
use Rattle.zr_link.proofs.Stream.{are_bytes_then}
use Rattle.zr_link.proofs.Hearing.{Leads, leads_self, leads_then, heard_still, hears_then, hears_some_then, runs_at}

-- ---- acts

abbrev act : Event → Option OutboxState → Option ℕ → Act
act event outbox reason = record { event = event; outbox = outbox; reason = reason }

pub does_none : (a : List Entry) → Does [] a a
does_none a = ([], sym (append-nil a), refl)

pub does_then : (xs ys : List Act) (a b c : List Entry) → Does xs a b → Does ys b c → Does (xs ++ ys) a c
does_then xs ys a b c h k =
    (h.0 ++ k.0, k.1 ∙ ap (λ z. z ++ k.0) h.1 ∙ append_assoc a h.0 k.0, map-append act_of h.0 k.0 ∙ ap (λ z. z ++ map act_of k.0) h.2 ∙ ap (λ z. xs ++ z) k.2)

pub does_entry : (a b : List Entry) (entry : Entry) (event : Event) (outbox : Option OutboxState) (reason : Option ℕ) → b ≡ a ++ entry ∷ [] → IsEntryOf event outbox reason entry
    → Does (act event outbox reason ∷ []) a b
does_entry a b entry event outbox reason own is =
    (entry ∷ [], own, ap (λ z. z ∷ []) (ap (λ z. act z entry.outbox entry.reason) is.event_is ∙ ap (λ z. act event z entry.reason) is.outbox_is ∙ ap (λ z. act event outbox z) is.reason_is))

-- ---- messages

pub are_messages : (P : Msg → Type 0) (es : List SessionEvent) → AreMessages P es → (ms : List Msg) × (es ≡ messages ms)
are_messages P [] h = ([], refl)
are_messages P (Opened peer outbox ∷ es) h = absurd h
are_messages P (Message m ∷ es) h = let rest = are_messages P es h.1 in (m ∷ rest.0, ap (λ z. Message m ∷ z) rest.1)

pub messages_rest : (P : Msg → Type 0) (ms : List Msg) (rest : List SessionEvent) → AreMessages P (messages ms ++ rest) → AreMessages P rest
messages_rest P [] rest h = h
messages_rest P (m ∷ ms) rest h = messages_rest P ms rest h.1

pub no_messages : (ms : List Msg) → messages ms ≡ [] → ms ≡ []
no_messages [] e = refl
no_messages (m ∷ ms) e = absurd cc

pub open_messages : (p q : Phase) (es : List SessionEvent) → IsOpen p → Between p q es → AreMessages IsSpelled es × IsOpen q
open_messages (Opening e) q es h k = absurd h
open_messages (Established s) (Opening e) es h k = absurd k
open_messages (Established s) (Established t) es h k = (k, tt)

pub added_does : (event : Event) (outbox : Option OutboxState) (reason : Option ℕ) (a b : Sight) → AddsOne event outbox reason a b → Does (act event outbox reason ∷ []) a.mine b.mine
added_does event outbox reason a b h = does_entry a.mine b.mine h.entry event outbox reason h.own h.is

-- ---- what a port tells of messages, as it is of their events

pub messages_more : (rest next : List SessionEvent) (ms : List Msg) (m : Msg) → rest ≡ Message m ∷ next → messages ms ++ rest ≡ messages (ms ++ m ∷ []) ++ next
messages_more rest next ms m is =
    ap (λ z. messages ms ++ z) is ∙ sym (ap (λ z. z ++ next) (map-append (λ x. Message x) ms (m ∷ [])) ∙ append_assoc (messages ms) (Message m ∷ []) next)

pub spelled_more : (ms : List Msg) (m : Msg) → AllByRecursion IsSpelled ms → IsSpelled m → AllByRecursion IsSpelled (ms ++ m ∷ [])
spelled_more [] m h s = (s, tt)
spelled_more (x ∷ ms) m h s = (h.0, spelled_more ms m h.1 s)

-- before the first one
pub none_yet : (events : List SessionEvent) (ms : List Msg) → ms ≡ [] → events ≡ messages ms ++ events
none_yet events ms is = ap (λ z. messages z ++ events) (sym is)

pub none_spelled : (ms : List Msg) → ms ≡ [] → AllByRecursion IsSpelled ms
none_spelled ms is = subst (AllByRecursion IsSpelled) (sym is) tt

-- behind the last one
pub all_messages : (events rest : List SessionEvent) (ms : List Msg) → events ≡ messages ms ++ rest → rest ≡ [] → events ≡ messages ms
all_messages events rest ms is none = is ∙ ap (λ z. messages ms ++ z) none ∙ append-nil (messages ms)

pub some_left : (events : List SessionEvent) (count : ℕ) → 0 < count → count ≡ length events → events ≢ []
some_left [] count lt is e = absurd (omega (arith, lt, is))
some_left (x ∷ events) count lt is e = absurd cc

module _ (link : LinkNo) (refuses : List Entry → Msg → DeliverError → Type 0) where
  -- the entries of those that were delivered are what the pass has added
  pub through_does : (cs : List Came) (a b : Sight) → Through link refuses cs a b → Does (froms link (delivered cs)) a.mine b.mine
  through_does [] a b h = subst (λ z. Does [] a.mine z) (sym h.0) (does_none a.mine)
  through_does (Delivered m ∷ cs) a b h = does_then (from link m ∷ []) (froms link (delivered cs)) a.mine h.0.mine b.mine (added_does (From link m) None None a h.0 h.1.0) (through_does cs h.0 b h.2)
  through_does (Passed m e ∷ cs) a b h = subst (λ z. Does (froms link (delivered cs)) z b.mine) h.1.0.0 (through_does cs h.0 b h.2)

  pub delivers_none : (events : List SessionEvent) (a : Sight) → Delivers link refuses events events a a
  delivers_none events a = record { came = []; are = refl; goes = looks_self a }

  pub delivers_of : (events : List SessionEvent) (ms rest : List Msg) (a b : Sight) → events ≡ messages ms → ComesUpTo link refuses ms rest a b
      → Delivers link refuses events (messages rest) a b
  delivers_of events ms rest a b is d = record {
    came = d.came;
    are = is ∙ ap messages d.are ∙ map-append (λ x. Message x) (messages_of d.came) rest;
    goes = d.goes;
  }

pub stops_of : (refuses : Msg → DeliverError → Type 0) (rest : List Msg) (error : DeliverError) (e : LinkEnd) → end_of_delivery error ≡ Some e → StopsAt refuses rest error
    → Stops refuses (messages rest) e
stops_of refuses rest error e is s = record { msg = s.msg; others = messages s.others; error = error; first = ap messages s.first; refused = s.refused; ends = is }

-- memory ran out before the first of them was delivered
pub stops_memory : (P : Msg → Type 0) (refuses : Msg → DeliverError → Type 0) (events : List SessionEvent) → AreMessages P events → events ≢ [] → Stops refuses events end.NoMemory
stops_memory P refuses [] are some = absurd (some refl)
stops_memory P refuses (Opened peer outbox ∷ es) are some = absurd are
stops_memory P refuses (Message m ∷ es) are some = record { msg = m; others = es; error = deliver.NoMemory; first = refl; refused = λ ne. absurd (ne refl); ends = refl }

-- the messages of two lists, one behind the other
pub messages_both : (xs ys : List Msg) → messages (xs ++ ys) ≡ messages xs ++ messages ys
messages_both xs ys = map-append (λ m. Message m) xs ys

came_both : (cs ds : List Came) → messages_of (cs ++ ds) ≡ messages_of cs ++ messages_of ds
came_both cs ds = map-append message_of cs ds

-- ---- ends

-- the end that a refusal brings is one of two kinds
pub of_delivery_end : (P : LinkEnd → Type 0) (error : DeliverError) (e : LinkEnd) → end_of_delivery error ≡ Some e → ((reason : Reason) → end_of_delivery error ≡ Some (end.Closed reason) → P (end.Closed reason)) → P end.NoMemory → P e
of_delivery_end P error e is closed spent = by (end_of_delivery error) is refl (kind error)
  where
    IsKind : Option LinkEnd → Type 0
    IsKind None = Unit {0}
    IsKind (Some end.ReadFault) = ⊥
    IsKind (Some end.WriteFault) = ⊥
    IsKind (Some end.PeerEnded) = ⊥
    IsKind (Some (end.Closed reason)) = Unit {0}
    IsKind (Some (end.Peer reason)) = ⊥
    IsKind (Some end.CrewRefused) = ⊥
    IsKind (Some end.Turns) = ⊥
    IsKind (Some end.NoMemory) = Unit {0}

    kind : (error : DeliverError) → IsKind (end_of_delivery error)
    kind (deliver.NotUp link) = tt
    kind (deliver.Misplaced role) = tt
    kind (deliver.Denied rule) = tt
    kind (deliver.Ignored id) = tt
    kind (deliver.Node (node.Gap router has came)) = tt
    kind (deliver.Node (node.NotDeclared id)) = tt
    kind (deliver.Node (node.TextLimit held more)) = tt
    kind (deliver.Node (node.NumberTaken id)) = tt
    kind (deliver.Node (node.TooMany pending)) = tt
    kind (deliver.Node node.Worn) = tt
    kind (deliver.Node node.Spent) = tt
    kind (deliver.Node node.NoMemory) = tt
    kind (deliver.Full asked free) = tt
    kind deliver.Worn = tt
    kind deliver.NoMemory = tt

    by : (o : Option LinkEnd) → o ≡ Some e → end_of_delivery error ≡ o → IsKind o → P e
    by None is at k = absurd cc
    by (Some end.ReadFault) is at k = absurd k
    by (Some end.WriteFault) is at k = absurd k
    by (Some end.PeerEnded) is at k = absurd k
    by (Some (end.Closed reason)) is at k = let same : end.Closed reason ≡ e = cc in subst P same (closed reason at)
    by (Some (end.Peer reason)) is at k = absurd k
    by (Some end.CrewRefused) is at k = absurd k
    by (Some end.Turns) is at k = absurd k
    by (Some end.NoMemory) is at k = let same : end.NoMemory ≡ e = cc in subst P same spent

-- a reader ends so only where it is out of memory
closed_told : (error : DeliverError) (reason : Reason) → end_of_delivery error ≡ Some (end.Closed reason) → error ≢ deliver.NoMemory
closed_told error reason is none = let k : end_of_delivery deliver.NoMemory ≡ Some (end.Closed reason) = subst (λ z. end_of_delivery z ≡ Some (end.Closed reason)) none is in absurd cc

-- a refused message is the first of those that were not looked at
pub stop_ends : (c : Course) (m : Msg) (ms : List Msg) (Early : Type 0) (Late : Phase → Type 0) (refuses : Msg → DeliverError → Type 0) (error : DeliverError) (e : LinkEnd)
    → end_of_delivery error ≡ Some e → (error ≢ deliver.NoMemory → refuses m error) → UpEnds e c (m ∷ ms) Early Late (λ reason. Refuses refuses (m ∷ ms) reason)
stop_ends c m ms Early Late refuses error e is r =
    of_delivery_end (λ z. UpEnds z c (m ∷ ms) Early Late (λ reason. Refuses refuses (m ∷ ms) reason)) error e is
    (λ reason at. inr (record { msg = m; rest = ms; error = error; first = refl; refused = r (closed_told error reason at); ends = at })) tt

pub closes_map : (reason : Reason) (c : Course) (L M : Phase → Type 0) → ((p : Phase) → L p → M p) → Closes reason c L → Closes reason c M
closes_map reason c L M f (inl h) = inl h
closes_map reason c L M f (inr h) = inr (h.0, h.1, f c.phase h.2)

-- the session has ended
pub fate_ends : (f : Fate) (e : LinkEnd) (c : Course) (Early : Type 0) (L M : Phase → Type 0) (R : Reason → Type 0) → ((p : Phase) → L p → M p) → EndIs f e → FateIs f c L → UpEnds e c [] Early M R
fate_ends fate.Going e c Early L M R late is h = absurd is
fate_ends (fate.Closed reason) e c Early L M R late is h = subst (λ z. UpEnds z c [] Early M R) (sym is) (inl (closes_map reason c L M late h, refl))
fate_ends (fate.Peer reason) e c Early L M R late is h = subst (λ z. UpEnds z c [] Early M R) (sym is) (h, refl)

-- nothing more came
pub lost_ends : (e : LinkEnd) (c : Course) (events : List SessionEvent) (others : List Msg) (Early : Type 0) (Late : Phase → Type 0) (R : Reason → Type 0) → LostIs e c events → events ≡ messages others
    → UpEnds e c others Early Late R
lost_ends end.ReadFault c events others Early Late R h e = (h.0, no_messages others (sym e ∙ h.1))
lost_ends end.WriteFault c events others Early Late R h e = absurd h
lost_ends end.PeerEnded c events others Early Late R h e = (h.0, no_messages others (sym e ∙ h.1))
lost_ends (end.Closed reason) c events others Early Late R h e = absurd h
lost_ends (end.Peer reason) c events others Early Late R h e = absurd h
lost_ends end.CrewRefused c events others Early Late R h e = absurd h
lost_ends end.Turns c events others Early Late R h e = absurd h
lost_ends end.NoMemory c events others Early Late R h e = tt

pub ends_map : (e : LinkEnd) (c : Course) (others : List Msg) (A B : Type 0) (L M : Phase → Type 0) (R S : Reason → Type 0) → (A → B) → ((p : Phase) → L p → M p) → ((r : Reason) → R r → S r)
    → UpEnds e c others A L R → UpEnds e c others B M S
ends_map end.ReadFault c others A B L M R S f g h k = k
ends_map end.WriteFault c others A B L M R S f g h k = f k
ends_map end.PeerEnded c others A B L M R S f g h k = k
ends_map (end.Closed reason) c others A B L M R S f g h (inl k) = inl (closes_map reason c L M g k.0, k.1)
ends_map (end.Closed reason) c others A B L M R S f g h (inr k) = inr (h reason k)
ends_map (end.Peer reason) c others A B L M R S f g h k = k
ends_map end.CrewRefused c others A B L M R S f g h k = f k
ends_map end.Turns c others A B L M R S f g h k = k
ends_map end.NoMemory c others A B L M R S f g h k = k

pub early_ends : (e : LinkEnd) (c : Course) (others : List Msg) (A : Type 0) (L : Phase → Type 0) (R : Reason → Type 0) → IsEarly e → A → UpEnds e c others A L R
early_ends end.ReadFault c others A L R h a = absurd h
early_ends end.WriteFault c others A L R h a = a
early_ends end.PeerEnded c others A L R h a = absurd h
early_ends (end.Closed reason) c others A L R h a = absurd h
early_ends (end.Peer reason) c others A L R h a = absurd h
early_ends end.CrewRefused c others A L R h a = a
early_ends end.Turns c others A L R h a = absurd h
early_ends end.NoMemory c others A L R h a = tt

-- how a batch of events ended the reader, in one word
abbrev pub Settles : (Msg → DeliverError → Type 0) → List SessionEvent → Fate → LinkEnd → Type 0
Settles refuses rest f e = Stops refuses rest e ⊎ ((rest ≡ []) × EndIs f e)

-- what was not delivered are messages, and the reader ends for the first of them or with the session
pub settle_ends : (refuses : Msg → DeliverError → Type 0) (rest : List SessionEvent) (f : Fate) (e : LinkEnd) (c : Course) (Early : Type 0) (L M : Phase → Type 0)
    → ((p : Phase) → L p → M p) → AreMessages IsSpelled rest → FateIs f c L → Settles refuses rest f e
    → (others : List Msg) × (rest ≡ messages others) × UpEnds e c others Early M (λ reason. Refuses refuses others reason)
settle_ends refuses rest f e c Early L M late are fate_is (inl stop) =
    let ms = are_messages IsSpelled stop.others (subst (AreMessages IsSpelled) stop.first are).1 in (
      stop.msg ∷ ms.0,
      stop.first ∙ ap (λ z. Message stop.msg ∷ z) ms.1,
      stop_ends c stop.msg ms.0 Early M refuses stop.error e stop.ends stop.refused,
    )
settle_ends refuses rest f e c Early L M late are fate_is (inr is) = ([], is.0, fate_ends f e c Early L M _ late is.1 fate_is)

-- ---- where a reader of a link that is up has come to

-- messages came, and the session stands behind them
pub record Gone (link : LinkNo) (refuses : List Entry → Msg → DeliverError → Type 0) (s t : SessionState) (before now : Option (List ℕ)) (old new : Sight) : Type 0 where
  pub came : List Came
  pub goes : Through link refuses came old new
  pub leads : Leads s t (messages (messages_of came)) before now

pub gone_none : (link : LinkNo) (refuses : List Entry → Msg → DeliverError → Type 0) (s : SessionState) (before : Option (List ℕ)) (a : Sight) → Gone link refuses s s before before a a
gone_none link refuses s before a = record { came = []; goes = looks_self a; leads = leads_self s before }

-- what a read gave came
pub gone_more : (link : LinkNo) (refuses : List Entry → Msg → DeliverError → Type 0) (s t u : SessionState) (es : List SessionEvent) (before mid after : Option (List ℕ)) (a b d : Sight)
    → Gone link refuses s t before mid a b → Leads t u es mid after → Delivers link refuses es [] b d → Gone link refuses s u before after a d
gone_more link refuses s t u es before mid after a b d g lead k =
    let is : es ≡ messages (messages_of k.came) = k.are ∙ append-nil (messages (messages_of k.came)) in
    record {
      came = g.came ++ k.came;
      goes = through_then link refuses g.came k.came a b d g.goes k.goes;
      leads = subst (λ z. Leads s u z before after)
          (ap (λ z. messages (messages_of g.came) ++ z) is ∙ sym (ap messages (came_both g.came k.came) ∙ messages_both (messages_of g.came) (messages_of k.came)))
          (leads_then s t u (messages (messages_of g.came)) es before mid after g.leads lead);
    }

-- what follows of a link that is up, with the messages that came
pub record Followed (link : LinkNo) (s : SessionState) (waiting : List SessionEvent) (f : Fate) (e : LinkEnd) (before after : Option (List ℕ)) (Late : Phase → Type 0)
    (refuses : List Entry → LinkNo → Msg → DeliverError → Type 0) (old new : Sight) : Type 0 where
  pub came : List Came
  pub goes : Through link (λ h m x. refuses h link m x) came old new
  pub follows : Follows link came s waiting f e before after Late refuses new.seen

-- a read lost the link
pub gone_lost : (link : LinkNo) (s t : SessionState) (before mid after : Option (List ℕ)) (a b : Sight) (e : LinkEnd) (Late : Phase → Type 0)
    (refuses : List Entry → LinkNo → Msg → DeliverError → Type 0) → Gone link (λ h m x. refuses h link m x) s t before mid a b → HearsSome t mid after (λ c events. LostIs e c events)
    → Followed link s [] fate.Going e before after Late refuses a b
gone_lost link s t before mid after a b e Late refuses g lost = record {
  came = g.came;
  goes = g.goes;
  follows = λ first bytes rest c bs comes opened stands at.
      let msgs : List Msg = messages_of g.came in
      let x = hears_some_then s t (messages msgs) before mid after (λ c events. LostIs e c events) g.leads lost first bytes c bs (at refl) in
      let all = open_messages c.phase x.1.course.phase (messages msgs ++ x.0) opened x.1.between in
      let ms = are_messages IsSpelled x.0 (messages_rest IsSpelled msgs x.0 all.0) in
      (messages msgs ++ x.0, ms.0, x.1, ap (λ z. messages msgs ++ z) ms.1 ∙ sym (messages_both msgs ms.0), lost_ends e x.1.course x.0 ms.0 ⊥ Late _ x.2 ms.1);
}

-- what a read gave ended it
pub gone_settled : (link : LinkNo) (s t u : SessionState) (es rest : List SessionEvent) (before mid after : Option (List ℕ)) (a b d : Sight) (f : Fate) (e : LinkEnd) (L M : Phase → Type 0)
    (refuses : List Entry → LinkNo → Msg → DeliverError → Type 0) → ((p : Phase) → L p → M p) → Gone link (λ h m x. refuses h link m x) s t before mid a b
    → Hears t es mid after (λ first bytes c. FateIs f c L × (f ≡ fate.Going → IsAt first u bytes c)) → Delivers link (λ h m x. refuses h link m x) es rest b d → Settles (λ m x. refuses d.seen link m x) rest f e
    → Followed link s [] fate.Going e before after M refuses a d
gone_settled link s t u es rest before mid after a b d f e L M refuses late g h k ends = record {
  came = g.came ++ k.came;
  goes = through_then link (λ h m x. refuses h link m x) g.came k.came a b d g.goes k.goes;
  follows = λ first bytes left c bs comes opened stands at.
      let msgs : List Msg = messages_of g.came in
      let more : List Msg = messages_of k.came in
      let Told : Expected → List ℕ → Course → Type 0 = λ first bytes c. FateIs f c L × (f ≡ fate.Going → IsAt first u bytes c) in
      let x = hears_then s t (messages msgs) es before mid after Told g.leads h first bytes c bs (at refl) in
      let all = open_messages c.phase x.0.course.phase (messages msgs ++ es) opened x.0.between in
      let tail = messages_rest IsSpelled more rest (subst (AreMessages IsSpelled) k.are (messages_rest IsSpelled msgs es all.0)) in
      let o = settle_ends (λ m y. refuses d.seen link m y) rest f e x.0.course ⊥ L M late tail x.1.0 ends in
      let is : messages msgs ++ es ≡ messages (messages_of (g.came ++ k.came) ++ o.0) =
      ap (λ z. messages msgs ++ z) (k.are ∙ ap (λ z. messages more ++ z) o.1) ∙ sym (append_assoc (messages msgs) (messages more) (messages o.0))
      ∙ ap (λ z. z ++ messages o.0) (sym (messages_both msgs more)) ∙ sym (messages_both (msgs ++ more) o.0) ∙ ap (λ z. messages (z ++ o.0)) (sym (came_both g.came k.came)) in
      (messages msgs ++ es, o.0, x.0, is, o.2);
}

-- all turns were made
pub gone_over : (link : LinkNo) (s t : SessionState) (before now : Option (List ℕ)) (a b : Sight) (Late : Phase → Type 0)
    (refuses : List Entry → LinkNo → Msg → DeliverError → Type 0) → Gone link (λ h m x. refuses h link m x) s t before now a b → is_running t.state ≡ true
    → Followed link s [] fate.Going end.Turns before now Late refuses a b
gone_over link s t before now a b Late refuses g run = record {
  came = g.came;
  goes = g.goes;
  follows = λ first bytes left c bs comes opened stands at.
      let msgs : List Msg = messages_of g.came in
      let x = g.leads.1 first bytes c bs (at refl) in
      (messages msgs, [], x.0, ap messages (sym (append-nil msgs)), (runs_at first t.opening t.state t.kept (bytes ++ x.0.piece) x.0.course x.1 run, refl));
}

-- events that waited ended it
pub waited_settled : (link : LinkNo) (s : SessionState) (es rest : List SessionEvent) (before : Option (List ℕ)) (a b : Sight) (f : Fate) (e : LinkEnd) (M : Phase → Type 0)
    (refuses : List Entry → LinkNo → Msg → DeliverError → Type 0) → AreMessages IsSpelled es → Delivers link (λ h m x. refuses h link m x) es rest a b → Settles (λ m x. refuses b.seen link m x) rest f e
    → Followed link s es f e before before M refuses a b
waited_settled link s es rest before a b f e M refuses are k ends = record {
  came = k.came;
  goes = k.goes;
  follows = λ first bytes left c bs comes opened stands at.
      let msgs : List Msg = messages_of k.came in
      let tail = messages_rest IsSpelled msgs rest (subst (AreMessages IsSpelled) k.are are) in
      let o = settle_ends (λ m y. refuses b.seen link m y) rest f e c ⊥ (λ p. ⊥) M (λ p h. absurd h) tail stands ends in
      ([], o.0, heard_still first s.opening bytes left c before comes, append-nil es ∙ k.are ∙ ap (λ z. messages msgs ++ z) o.1 ∙ sym (messages_both msgs o.0), o.2);
}

-- they came, and it went on
pub waited_followed : (link : LinkNo) (s : SessionState) (es : List SessionEvent) (before after : Option (List ℕ)) (a b d : Sight) (e : LinkEnd) (M : Phase → Type 0)
    (refuses : List Entry → LinkNo → Msg → DeliverError → Type 0) (f : Fate) → f ≡ fate.Going → Delivers link (λ h m x. refuses h link m x) es [] a b
    → Followed link s [] fate.Going e before after M refuses b d → Followed link s es f e before after M refuses a d
waited_followed link s es before after a b d e M refuses f going k g = record {
  came = k.came ++ g.came;
  goes = through_then link (λ h m x. refuses h link m x) k.came g.came a b d k.goes g.goes;
  follows = λ first bytes left c bs comes opened stands at.
      let msgs : List Msg = messages_of k.came in
      let more : List Msg = messages_of g.came in
      let x = g.follows first bytes left c bs comes opened (subst (λ z. FateIs z c (λ p. ⊥)) going stands) (λ _. at going) in (
        x.0,
        x.1,
        x.2,
        ap (λ z. z ++ x.0) (k.are ∙ append-nil (messages msgs)) ∙ ap (λ z. messages msgs ++ z) x.3 ∙ sym (messages_both msgs (more ++ x.1))
            ∙ ap messages (sym (append_assoc msgs more x.1)) ∙ ap (λ z. messages (z ++ x.1)) (sym (came_both k.came g.came)),
        x.4,
      );
}

-- a session that has opened is still open behind a read
pub open_on : (t u : SessionState) (es : List SessionEvent) (mid after : Option (List ℕ)) (L : Phase → Type 0) (f : Fate) → IsIn IsOpen t
    → Hears t es mid after (λ first bytes c. FateIs f c L × (f ≡ fate.Going → IsAt first u bytes c)) → f ≡ fate.Going → IsIn IsOpen u
open_on t u es mid after L f i h going =
    let x = h i.0 i.1 i.2 i.3 i.4 in
    (i.0, i.1 ++ x.0.piece, x.0.course, are_bytes_then i.1 x.0.piece i.3 x.0.are_bytes, x.1.1 going, (open_messages i.2.phase x.0.course.phase es i.5 x.0.between).1)

-- what a read gives is messages
pub open_gives : (t u : SessionState) (es : List SessionEvent) (mid after : Option (List ℕ)) (L : Phase → Type 0) (f : Fate) → IsIn IsOpen t
    → Hears t es mid after (λ first bytes c. FateIs f c L × (f ≡ fate.Going → IsAt first u bytes c)) → AreMessages IsSpelled es
open_gives t u es mid after L f i h =
    let x = h i.0 i.1 i.2 i.3 i.4 in
    (open_messages i.2.phase x.0.course.phase es i.5 x.0.between).0

pub leads_by : (t u : SessionState) (es : List SessionEvent) (mid after : Option (List ℕ)) (L : Phase → Type 0) (f : Fate) → u.opening ≡ t.opening
    → Hears t es mid after (λ first bytes c. FateIs f c L × (f ≡ fate.Going → IsAt first u bytes c)) → f ≡ fate.Going → Leads t u es mid after
leads_by t u es mid after L f same h going = (same, λ first bytes c bs at. let x = h first bytes c bs at in (x.0, x.1.1 going))

-- ---- ends behind the start of the writer

delivery_started : (error : DeliverError) (e : LinkEnd) → end_of_delivery error ≡ Some e → IsStarted e
delivery_started error e is = of_delivery_end IsStarted error e is (λ reason at. tt) tt

pub settles_started : (refuses : Msg → DeliverError → Type 0) (rest : List SessionEvent) (f : Fate) (e : LinkEnd) → Settles refuses rest f e → IsStarted e
settles_started refuses rest f e (inl stop) = delivery_started stop.error e stop.ends
settles_started refuses rest fate.Going e (inr is) = absurd is.1
settles_started refuses rest (fate.Closed reason) e (inr is) = subst IsStarted (sym is.1) tt
settles_started refuses rest (fate.Peer reason) e (inr is) = subst IsStarted (sym is.1) tt

up_started : (e : LinkEnd) (c : Course) (others : List Msg) (Late : Phase → Type 0) (R : Reason → Type 0) → UpEnds e c others ⊥ Late R → IsStarted e
up_started end.ReadFault c others Late R h = tt
up_started end.WriteFault c others Late R h = h
up_started end.PeerEnded c others Late R h = tt
up_started (end.Closed reason) c others Late R h = tt
up_started (end.Peer reason) c others Late R h = tt
up_started end.CrewRefused c others Late R h = h
up_started end.Turns c others Late R h = tt
up_started end.NoMemory c others Late R h = tt

pub follows_started : (link : LinkNo) (came : List Came) (s : SessionState) (e : LinkEnd) (before after : Option (List ℕ)) (Late : Phase → Type 0) (refuses : List Entry → LinkNo → Msg → DeliverError → Type 0) (last : List Entry)
    → is_running s.state ≡ true → IsIn IsOpen s → Follows link came s [] fate.Going e before after Late refuses last → IsStarted e
follows_started link came s e before after Late refuses last run i h =
    let come = comes_at i.0 s.opening s.state s.kept i.1 i.2 i.4 in
    let x = h i.0 i.1 come.0 i.2 i.3 come.1 i.5 (runs_at i.0 s.opening s.state s.kept i.1 i.2 i.4 run) (λ _. i.4) in
    up_started e x.2.course x.1 Late _ x.4

-- ---- a link that is gone

-- not where nothing was refused
pub not_gone : {X : Type 0} (o : Option DeliverError) → o ≡ None → is_gone o ≡ true → X
not_gone o none gone = let k : is_gone None ≡ true = subst (λ z. is_gone z ≡ true) none gone in absurd cc

gone_told : (error : DeliverError) → is_gone (Some error) ≡ true → error ≢ deliver.NoMemory
gone_told error gone none = let k : is_gone (Some deliver.NoMemory) ≡ true = subst (λ z. is_gone (Some z) ≡ true) none gone in absurd cc

-- the message that was refused tells it
pub gone_by : (refuses : Msg → DeliverError → Type 0) (rest : List Msg) (error : DeliverError) (o : Option DeliverError) → o ≡ Some error → StopsAt refuses rest error
    → is_gone o ≡ true → IsGone refuses
gone_by refuses rest error o is s gone =
    let told : is_gone (Some error) ≡ true = subst (λ z. is_gone z ≡ true) is gone in
    (s.msg, error, told, s.refused (gone_told error told))

-- ---- counts

pub rose_more : (n a b c : ℕ) → RoseBy n a b → RoseBy 1 b c → RoseBy (n + 1) a c
rose_more n a b c h k = let p = h.most in let q = h.least in let r = k.most in let s = k.least in record { most = omega (arith, p, r); least = omega (arith, q, s) }

pub moment_more : (heard last mid first next : ℕ) → min heard last ≤ first → last ≤ mid → min first mid ≤ next → min heard last ≤ next
moment_more heard last mid first next a b c = omega (arith, a, b, c)
