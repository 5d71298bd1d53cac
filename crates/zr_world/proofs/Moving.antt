-- What the acts come to where the code goes on: each by the facts that the code has found.
use Rattle.std.proofs.Common.{◌≡◌, ℕ, Bool, true, false, not, List, [], ◌∷◌, ◌++◌, length, Option, Some, None, Result, Ok, Err, refl, sym, ap, ◌∙◌, subst}
use Rattle.std.specs.Prelude.{nat_le, is_some, if◌then◌else◌}
use Rattle.std.specs.Ordering.{nat_cmp}
use Rattle.std.specs.Cmp.Lexicographic.{slice_cmp}
use Rattle.std.specs.BTreeMap.{insert_entry}
use Rattle.zr_msg.specs.declared.peer.Role.TheVariants as role
use Rattle.std.specs.List.Sorted.{IsStrictlySortedBy}
use Rattle.std.specs.Map.{keys_of}
use Rattle.std.specs.Option.{option_map_or}
use Rattle.std.proofs.lemmas.List.{append-nil}
use Rattle.zr_id.specs.declared.link.LinkNo.{LinkNo}
use Rattle.zr_msg.specs.declared.event.Event.{Event}
use Rattle.zr_msg.specs.declared.event.Event.TheVariants.{Down, From}
use Rattle.zr_msg.specs.declared.msg.Msg.{Msg}
use Rattle.zr_script_spec.specs.declared.error.ScriptError.{ScriptError}
use Rattle.zr_script_spec.specs.declared.error.ScriptError.TheVariants as e
use Rattle.zr_script_spec.specs.declared.report.ReportLine.{ReportLine}
use Rattle.zr_script_spec.specs.declared.report.ReportLine.TheVariants.{Handled, Taken, Show}
use Rattle.zr_node_spec.specs.Event.{MayCome}
use Rattle.zr_lists.specs.Prefix.{IsPrefixBehind}
use Rattle.zr_lists.proofs.Options.{not_there}
use Rattle.zr_node_spec.specs.Tables.{link_to}
use Rattle.zr_msg.specs.declared.peer.LinkPeer.{LinkPeer}
use Rattle.zr_script_spec.specs.Step.{◌>>=◌}
use Rattle.zr_world_spec.specs.World.{Tagged, EndState, End, Ends, RouterState, WorldState, end_cmp, with_ends, with_clients, with_router, router_of, client_of, is_taken, is_up, end_of, with_end, put_end, new_end, new_client, most_clients, lifted, lowered, with_wire, with_queue, changed, sent}
use Rattle.zr_world_spec.specs.Acts.{Outcome, unless, router_at, end_at, up_at, unbroken_at, oldest, refuses_of, hears, heard_by, number_to, peer_of, up_event, shown, received, client_step, up_step, down_step, handle_step, take_step, show_step}
use Rattle.zr_world_spec.specs.Sound.{AreUnique}
use Rattle.zr_world_spec.proofs.Ends.{keys_with_end}
use Rattle.zr_world_spec.proofs.Keyed.{there}
use Rattle.zr_world_spec.proofs.Telling.{heard_is}
use Rattle.zr_world_ends.specs.Steps.{Brings, Gives, from_wire, from_queue}
use Rattle.zr_world.specs.Hearing.{IsHeard}
use Rattle.zr_world.specs.Living.{lines_of}
use Rattle.zr_world_ends.specs.Spread.{all_queued_on}
use Rattle.zr_world.specs.Steps.{AppliesTo, Does}
use Rattle.zr_world.proofs.Events.{unique_after}
use Rattle.zr_world_ends.proofs.Queued.{spread_is}

-- ---- a router hears

-- an event that is heard, and what it sends queued message by message
pub hears_is : (w : WorldState) (es es' : Ends) (x : List ℕ) (r r' : RouterState) (event : Event) (out : List (LinkNo × Msg)) (tag : ℕ) → IsHeard (Ok tt) r r' event out →
    IsStrictlySortedBy end_cmp (keys_of es) → AreUnique r.node.links → MayCome r.node event → es' ≡ all_queued_on r'.node.links es x out tag →
    hears (with_ends w es) x r event tag ≡ Ok (record { routers = with_router w.routers x r'; clients = w.clients; ends = es'; booked = w.booked })
hears_is w es es' x r r' event out tag heard ordered h may spread =
    let same = sym (spread ∙ ap (λ (z : RouterState). all_queued_on z.node.links es x out tag) heard.1
    ∙ spread_is es x r event out tag ordered (unique_after r.node event h may) heard.2) in
    ap (heard_by (with_ends w es) x r event tag) heard.0
    ∙ ap (λ (v : WorldState). Ok v) (heard_is (with_ends w es) x r event tag)
    ∙ (λ i. Ok (record { routers = with_router w.routers x (sym heard.1 i); clients = w.clients; ends = same i; booked = w.booked }))

-- an event that is refused
pub hears_refused : (w : WorldState) (x : List ℕ) (r r' : RouterState) (event : Event) (out : List (LinkNo × Msg)) (tag : ℕ) (error : ScriptError) →
    IsHeard (Err error) r r' event out → (error ≡ e.NoMemory → ⊥) → (hears w x r event tag ≡ Err error) × (r' ≡ r)
hears_refused w x r r' event out tag e.NoMemory heard other = absurd (other refl)
hears_refused w x r r' event out tag error heard other =
    let o = there (refuses_of r event) heard.1 in
    (ap (heard_by w x r event tag) o.1 ∙ ap Err (sym heard.0), heard.2)

-- ---- reports

-- nothing was told, or nothing more
pub no_lines : (before lines : List ReportLine) → IsPrefixBehind before lines before
no_lines before lines = ([], (lines, refl), sym (append-nil before))

-- an act of which nothing is told
pub silent : (r : Result (Unit {0}) ScriptError) (said : Outcome) (old new : WorldState) (before : List ReportLine) → Does r said old new → AppliesTo r said old new before before
silent (Ok u) said old new before h = subst (λ (z : Outcome). AppliesTo (Ok tt) z old new before before) (sym h) ((refl, sym (append-nil before)), refl)
silent (Err e.NoMemory) said old new before h = no_lines before (lines_of said)
silent (Err error) said old new before h = (h.0, h.1, refl)

-- a refusal
pub refused : (error : ScriptError) (said : Outcome) (old new : WorldState) (before : List ReportLine) → said ≡ Err error → new ≡ old → AppliesTo (Err error) said old new before before
refused e.NoMemory said old new before h same = no_lines before (lines_of said)
refused error said old new before h same = (h, same, refl)

-- the refusal where there is no link
pub unlinked_is : (b : Bool) (error : ScriptError) (said : Outcome) (old new : WorldState) (before : List ReportLine) → error ≡ (if b then e.NotLinked else e.UnknownName) →
    said ≡ Err (if b then e.NotLinked else e.UnknownName) → new ≡ old → AppliesTo (Err error) said old new before before
unlinked_is b error said old new before h k same = refused error said old new before (k ∙ ap Err (sym h)) same

-- an act that is done
pub applied : (said : Outcome) (lines : List ReportLine) (old new : WorldState) (before after : List ReportLine) → said ≡ Ok (lines, new) → after ≡ before ++ lines →
    AppliesTo (Ok tt) said old new before after
applied said lines old new before after h told = subst (λ (z : Outcome). AppliesTo (Ok tt) z old new before after) (sym h) ((refl, told), refl)

-- memory ran out on the way
pub ran_out : (r : Result (Unit {0}) ScriptError) (said : Outcome) (old new : WorldState) (before after : List ReportLine) → r ≡ Err e.NoMemory → IsPrefixBehind before (lines_of said) after →
    AppliesTo r said old new before after
ran_out r said old new before after h begin = subst (λ (z : Result (Unit {0}) ScriptError). AppliesTo z said old new before after) (sym h) begin

-- the keys stay where an end changes
pub ordered_with : (es : Ends) (q : End) (s : EndState) → IsStrictlySortedBy end_cmp (keys_of es) → IsStrictlySortedBy end_cmp (keys_of (with_end es q s))
ordered_with es q s h = subst (IsStrictlySortedBy end_cmp) (sym (keys_with_end es q s)) h

-- ---- `handle`

abbrev pub handled_by : WorldState → List ℕ → List ℕ → RouterState → LinkNo → Tagged × Ends → Outcome
handled_by w router from r l y = hears (with_ends w y.1) router r (From l y.0.msg) y.0.tag >>= (λ v. Ok (Handled router from y.0.msg y.0.tag ∷ [], v))

-- the step is the message's taking, and then the router's
pub handle_by : (w : WorldState) (router from : List ℕ) (r : RouterState) (l : LinkPeer) → router_of w.routers router ≡ Some r → is_taken w from ≡ true → link_to r.node.links from ≡ Some l →
    handle_step w router from ≡ from_wire w.ends (router, from) >>= handled_by w router from r l.link
unfolding handle_step from_wire
handle_by w router from r l er et el = rw (er, et, el) (by (end_at (end_of w.ends (router, from))))
  where
    one : EndState → Tagged × List Tagged → Outcome
    one s x = hears (with_ends w (with_end w.ends (router, from) (with_wire s x.1))) router r (From l.link x.0.msg) x.0.tag >>= (λ v. Ok (Handled router from x.0.msg x.0.tag ∷ [], v))

    two : EndState → Tagged × List Tagged → Result (Tagged × Ends) ScriptError
    two s x = Ok (x.0, with_end w.ends (router, from) (with_wire s x.1))

    wire : (s : EndState) (o : Result (Tagged × List Tagged) ScriptError) → (o >>= one s) ≡ ((o >>= two s) >>= handled_by w router from r l.link)
    wire s (Ok x) = refl
    wire s (Err e) = refl

    up : (s : EndState) (o : Result (Unit {0}) ScriptError) → (o >>= (λ a. oldest s.wire >>= one s)) ≡ ((o >>= (λ a. oldest s.wire >>= two s)) >>= handled_by w router from r l.link)
    up s (Ok a) = wire s (oldest s.wire)
    up s (Err e) = refl

    by : (o : Result EndState ScriptError) →
        (o >>= (λ s. up_at s >>= (λ a. oldest s.wire >>= one s))) ≡ ((o >>= (λ s. up_at s >>= (λ a. oldest s.wire >>= two s))) >>= handled_by w router from r l.link)
    by (Ok s) = up s (up_at s)
    by (Err e) = refl

-- where the router has no link to the neighbour
pub handle_unlinked : (w : WorldState) (router from : List ℕ) (r : RouterState) → router_of w.routers router ≡ Some r → is_up w.ends (router, from) ≡ false →
    handle_step w router from ≡ Err (if is_taken w from then e.NotLinked else e.UnknownName)
unfolding handle_step
handle_unlinked w router from r er down = rw er (by (is_taken w from))
  where
    more : EndState → Unit {0} → Outcome
    more s a = do
      x ← oldest s.wire
      l ← number_to r from
      v ← hears (with_ends w (with_end w.ends (router, from) (with_wire s x.1))) router r (From l x.0.msg) x.0.tag
      Ok (Handled router from x.0.msg x.0.tag ∷ [], v)

    ends : (o : Option EndState) → end_of w.ends (router, from) ≡ o → (end_at o >>= (λ s. up_at s >>= more s)) ≡ Err e.NotLinked
    ends None h = refl
    ends (Some s) h = ap (λ b. unless (not b) e.NotLinked >>= more s) (sym (ap (λ (o : Option EndState). option_map_or (λ t. t.up) o false) h) ∙ down)

    by : (b : Bool) → (unless (not b) e.UnknownName >>= (λ a. end_at (end_of w.ends (router, from)) >>= (λ s. up_at s >>= more s))) ≡ Err (if b then e.NotLinked else e.UnknownName)
    by true = ends (end_of w.ends (router, from)) refl
    by false = refl

-- ---- `take`

-- a message has gone to the neighbour, where these are the ends without it
abbrev pub went_to : WorldState → List ℕ → List ℕ → Tagged → Ends → WorldState
went_to w router to x ends = with_clients (with_ends w (changed ends (to, router) (λ e. sent e x.msg x.tag))) (received w.clients to x.msg (client_of w.clients to))

abbrev pub taken_by : WorldState → List ℕ → List ℕ → Tagged × Ends → Outcome
taken_by w router to y = Ok (Taken router to y.0.msg y.0.tag ∷ [], went_to w router to y.0 y.1)

pub take_by : (w : WorldState) (router to : List ℕ) (r : RouterState) → router_of w.routers router ≡ Some r → is_taken w to ≡ true →
    take_step w router to ≡ from_queue w.ends (router, to) >>= taken_by w router to
unfolding take_step from_queue
take_by w router to r er et = rw (er, et) (by (end_at (end_of w.ends (router, to))))
  where
    one : EndState → Tagged × List Tagged → Outcome
    one s x = Ok (Taken router to x.0.msg x.0.tag ∷ [], went_to w router to x.0 (with_end w.ends (router, to) (with_queue s x.1)))

    two : EndState → Tagged × List Tagged → Result (Tagged × Ends) ScriptError
    two s x = Ok (x.0, with_end w.ends (router, to) (with_queue s x.1))

    queue : (s : EndState) (o : Result (Tagged × List Tagged) ScriptError) → (o >>= one s) ≡ ((o >>= two s) >>= taken_by w router to)
    queue s (Ok x) = refl
    queue s (Err e) = refl

    unbroken : (s : EndState) (o : Result (Unit {0}) ScriptError) → (o >>= (λ a. oldest s.queue >>= one s)) ≡ ((o >>= (λ a. oldest s.queue >>= two s)) >>= taken_by w router to)
    unbroken s (Ok a) = queue s (oldest s.queue)
    unbroken s (Err e) = refl

    up : (s : EndState) (o : Result (Unit {0}) ScriptError) →
        (o >>= (λ a. unbroken_at s >>= (λ b. oldest s.queue >>= one s))) ≡ ((o >>= (λ a. unbroken_at s >>= (λ b. oldest s.queue >>= two s))) >>= taken_by w router to)
    up s (Ok a) = unbroken s (unbroken_at s)
    up s (Err e) = refl

    by : (o : Result EndState ScriptError) → (o >>= (λ s. up_at s >>= (λ a. unbroken_at s >>= (λ b. oldest s.queue >>= one s))))
        ≡ ((o >>= (λ s. up_at s >>= (λ a. unbroken_at s >>= (λ b. oldest s.queue >>= two s)))) >>= taken_by w router to)
    by (Ok s) = up s (up_at s)
    by (Err e) = refl

-- a message can be taken only at an end that is there
pub queue_there : (es : Ends) (q : End) (y : Tagged × Ends) → from_queue es q ≡ Ok y → is_some (end_of es q) ≡ true
unfolding from_queue
queue_there es q y h = by (end_of es q) h
  where
    more : EndState → Result (Tagged × Ends) ScriptError
    more s = do
      a ← up_at s
      b ← unbroken_at s
      x ← oldest s.queue
      Ok (x.0, with_end es q (with_queue s x.1))

    by : (o : Option EndState) → (end_at o >>= more) ≡ Ok y → is_some o ≡ true
    by None k = absurd (cc)
    by (Some s) k = refl

pub take_unknown : (w : WorldState) (router to : List ℕ) → is_some (router_of w.routers router) ≡ false → take_step w router to ≡ Err e.UnknownName
unfolding take_step
take_unknown w router to h = rw (not_there (router_of w.routers router) h) refl

pub take_untaken : (w : WorldState) (router to : List ℕ) → is_taken w to ≡ false → take_step w router to ≡ Err e.UnknownName
unfolding take_step
take_untaken w router to h = rw h (by (router_of w.routers router))
  where
    more : Unit {0} → Outcome
    more a = do
      s ← end_at (end_of w.ends (router, to))
      b ← up_at s
      c ← unbroken_at s
      x ← oldest s.queue
      Ok (Taken router to x.0.msg x.0.tag ∷ [], went_to w router to x.0 (with_end w.ends (router, to) (with_queue s x.1)))

    by : (o : Option RouterState) → (router_at o >>= (λ r. unless true e.UnknownName >>= more)) ≡ Err e.UnknownName
    by None = refl
    by (Some r) = refl

-- ---- what is left is in order

pub wire_ordered : (es : Ends) (q : End) (y : Tagged × Ends) → from_wire es q ≡ Ok y → IsStrictlySortedBy end_cmp (keys_of es) → IsStrictlySortedBy end_cmp (keys_of y.1)
unfolding from_wire
wire_ordered es q y h ordered = by (end_of es q) h
  where
    last : (s : EndState) (o : Result (Tagged × List Tagged) ScriptError) → (o >>= (λ x. Ok (x.0, with_end es q (with_wire s x.1)))) ≡ Ok y → IsStrictlySortedBy end_cmp (keys_of y.1)
    last s (Ok x) k =
        let same : with_end es q (with_wire s x.1) ≡ y.1 = ap (λ (z : Result (Tagged × Ends) ScriptError). ends_of z) k in
        subst (λ (z : Ends). IsStrictlySortedBy end_cmp (keys_of z)) same (ordered_with es q (with_wire s x.1) ordered)
      where
        ends_of : Result (Tagged × Ends) ScriptError → Ends
        ends_of (Ok z) = z.1
        ends_of (Err e) = []
    last s (Err e) k = absurd (cc)

    up : (s : EndState) (o : Result (Unit {0}) ScriptError) → (o >>= (λ a. oldest s.wire >>= (λ x. Ok (x.0, with_end es q (with_wire s x.1))))) ≡ Ok y → IsStrictlySortedBy end_cmp (keys_of y.1)
    up s (Ok a) k = last s (oldest s.wire) k
    up s (Err e) k = absurd (cc)

    by : (o : Option EndState) → (end_at o >>= (λ s. up_at s >>= (λ a. oldest s.wire >>= (λ x. Ok (x.0, with_end es q (with_wire s x.1)))))) ≡ Ok y → IsStrictlySortedBy end_cmp (keys_of y.1)
    by None k = absurd (cc)
    by (Some s) k = up s (up_at s) k

-- ---- refusals

pub handle_refused : (w w' : WorldState) (router from : List ℕ) (r : RouterState) (l : LinkPeer) (error : ScriptError) (es' : Ends) (before : List ReportLine) →
    router_of w.routers router ≡ Some r → is_taken w from ≡ true → link_to r.node.links from ≡ Some l → Brings {A = Tagged} {S = Ends} (Err error) (from_wire w.ends (router, from)) w.ends es' →
    (es' ≡ w.ends → w' ≡ w) → AppliesTo (Err error) (handle_step w router from) w w' before before
handle_refused w w' router from r l e.NoMemory es' before er et el h same = no_lines before (lines_of (handle_step w router from))
handle_refused w w' router from r l error es' before er et el h same =
    refused error (handle_step w router from) w w' before (handle_by w router from r l er et el ∙ ap (λ o. o >>= handled_by w router from r l.link) h.0) (same h.1)

pub take_refused : (w w' : WorldState) (router to : List ℕ) (error told : ScriptError) (es' : Ends) (before : List ReportLine) →
    told ≡ (if is_some (router_of w.routers router) then (if is_taken w to then error else e.UnknownName) else e.UnknownName) →
    Gives {A = Tagged} {S = Ends} (Err error) (from_queue w.ends (router, to)) w.ends es' → (es' ≡ w.ends → w' ≡ w) →
    AppliesTo (Err told) (take_step w router to) w w' before before
take_refused w w' router to error told es' before t h same = by (router_of w.routers router) refl
  where
    known : (r : RouterState) → router_of w.routers router ≡ Some r → (b : Bool) → is_taken w to ≡ b → told ≡ (if b then error else e.UnknownName) → AppliesTo (Err told) (take_step w router to) w w' before before
    known r er false et k = refused told (take_step w router to) w w' before (take_untaken w router to et ∙ ap Err (sym k)) (same h.1)
    known r er true et k = refused told (take_step w router to) w w' before
        (take_by w router to r er et ∙ ap (λ o. o >>= taken_by w router to) h.0 ∙ ap Err (sym k)) (same h.1)

    by : (o : Option RouterState) → router_of w.routers router ≡ o → AppliesTo (Err told) (take_step w router to) w w' before before
    by None er = refused told (take_step w router to) w w' before
        (take_unknown w router to (ap is_some er)
        ∙ ap Err (sym (t ∙ ap (λ (o : Option RouterState). if is_some o then (if is_taken w to then error else e.UnknownName) else e.UnknownName) er))) (same h.1)
    by (Some r) er = known r er (is_taken w to) refl
        (t ∙ ap (λ (o : Option RouterState). if is_some o then (if is_taken w to then error else e.UnknownName) else e.UnknownName) er)

-- ---- the other acts

-- a client that comes
pub client_by : (w : WorldState) (line : ℕ) (id router : List ℕ) (r : RouterState) → router_of w.routers router ≡ Some r → is_taken w id ≡ false → nat_le most_clients (length w.clients) ≡ false →
    (o : Result WorldState ScriptError) → hears (with_ends w (put_end w.ends (router, id) (lifted (new_end 1)))) router r (up_event r (record { id = id; role = role.Client; weight = 1 })) line ≡ o →
    client_step w line id router ≡ o >>= (λ x. Ok ([], with_clients x (insert_entry (slice_cmp nat_cmp) x.clients id (new_client router))))
unfolding client_step
client_by w line id router r er et few o h =
    rw (er, et, few) (ap (λ (o : Result WorldState ScriptError). o >>= (λ x. Ok ([], with_clients x (insert_entry (slice_cmp nat_cmp) x.clients id (new_client router))))) h)

-- an end that comes up
pub up_by : (w : WorldState) (line : ℕ) (router name : List ℕ) (r : RouterState) (s : EndState) → router_of w.routers router ≡ Some r → is_taken w name ≡ true →
    end_of w.ends (router, name) ≡ Some s → s.unbroken ≡ true → s.up ≡ false → (o : Result WorldState ScriptError) →
    hears (with_ends w (with_end w.ends (router, name) (lifted s))) router r (up_event r (peer_of w name s.weight)) line ≡ o → up_step w line router name ≡ o >>= (λ x. Ok ([], x))
unfolding up_step
up_by w line router name r s er et es unbroken up o h =
    rw (er, et, es) (ap (λ b. unless (not b) e.NotLinked >>= (λ x. unless s.up e.AlreadyLinked >>= (λ y. more))) unbroken
    ∙ ap (λ b. unless b e.AlreadyLinked >>= (λ y. more)) up ∙ ap (λ (o : Result WorldState ScriptError). o >>= (λ x. Ok ([], x))) h)
  where
    more : Outcome
    more = hears (with_ends w (with_end w.ends (router, name) (lifted s))) router r (up_event r (peer_of w name s.weight)) line >>= (λ x. Ok ([], x))

-- an end that goes down
pub down_is : (w v : WorldState) (line : ℕ) (router name : List ℕ) (r : RouterState) (s : EndState) (l : LinkPeer) → router_of w.routers router ≡ Some r → is_taken w name ≡ true →
    end_of w.ends (router, name) ≡ Some s → s.up ≡ true → s.unbroken ≡ false → link_to r.node.links name ≡ Some l → hears w router r (Down l.link) line ≡ Ok v →
    down_step w line router name ≡ Ok ([], with_ends v (changed v.ends (router, name) lowered))
unfolding down_step
down_is w v line router name r s l er et es up unbroken el h = rw (er, et, es, up, unbroken, el, h) refl

-- a router's tables
pub show_is : (w : WorldState) (router : List ℕ) (r : RouterState) → router_of w.routers router ≡ Some r → show_step w router ≡ Ok (Show router ∷ shown r.node, w)
unfolding show_step
show_is w router r er = rw er refl
