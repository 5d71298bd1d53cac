-- What goes onto a wire may go there: a client's message, and one that was taken. And no router refuses what it hears.
use Rattle.std.proofs.Common.{◌≡◌, ℕ, Bool, true, false, cond, not, List, [], ◌∷◌, Option, Some, None, Result, Ok, Err, refl, sym, ap, ◌∙◌, subst}
use Rattle.std.specs.Prelude.{◌||◌, is_some, IfSome}
use Rattle.std.specs.List.{AllByRecursion}
use Rattle.std.specs.Option.{option_map_or}
use Rattle.std.proofs.lemmas.Bool.{true≢false, false≢true, false_from_ne_true}
use Rattle.zr_id.specs.Zid.{is_named}
use Rattle.zr_id.specs.declared.link.LinkNo.{LinkNo}
use Rattle.zr_msg.specs.declared.event.Event.TheVariants.{From}
use Rattle.zr_msg.specs.declared.msg.Msg.{Msg}
use Rattle.zr_msg.specs.declared.peer.LinkPeer.{LinkPeer}
use Rattle.zr_msg.specs.declared.peer.Role.{Role}
use Rattle.zr_msg.specs.declared.peer.Role.TheVariants.{Client, Router}
use Rattle.zr_node_spec.specs.Tables.{link_to}
use Rattle.zr_lists.proofs.Options.{not_there}
use Rattle.zr_law_carried.specs.Carriable.{IsCarried, SentTo, role_of}
use Rattle.zr_law_sent.specs.Passing.{MayPass}
use Rattle.zr_script_spec.specs.declared.error.ScriptError.{ScriptError}
use Rattle.zr_script_spec.specs.declared.error.ScriptError.TheVariants as e
use Rattle.zr_script_spec.specs.Step.{◌>>=◌}
use Rattle.zr_world_spec.specs.World.{Tagged, RouterState, ClientState, EndState, End, Ends, WorldState, router_of, client_of, is_taken, is_end, is_unbroken, end_of, with_end, with_wire, with_queue}
use Rattle.zr_world_spec.specs.Acts.{end_at, up_at, unbroken_at, oldest, unless, number_at, refuses_of}
use Rattle.zr_world_spec.specs.Sound.{IsSound}
use Rattle.zr_world_spec.proofs.Ends.{ends, with_end_is}
use Rattle.zr_world_spec.proofs.Names.{same_name}
use Rattle.zr_world_ends.specs.Carried.{ArePaired, neighbour_role, role_if}
use Rattle.zr_world_ends.specs.Steps.{from_wire, from_queue}
use Rattle.zr_world.specs.Hearing.{IsHeard}
use Rattle.zr_world.specs.Led.{IsLed, MayGoTo}

-- ---- names

or_from_left : (b c : Bool) → b ≡ true → (b || c) ≡ true
or_from_left b c h = ap (λ z. z || c) h

pub client_apart : (w : WorldState) (router id : List ℕ) → is_some (router_of w.routers router) ≡ true → is_taken w id ≡ false → is_named router id ≡ false
client_apart w router id there new = false_from_ne_true (is_named router id) (λ same.
    true≢false (sym (or_from_left (is_some (router_of w.routers id)) (is_some (client_of w.clients id)) (ap (λ z. is_some (router_of w.routers z)) (sym (same_name router id same)) ∙ there)) ∙ new))

-- who is no router has no end
pub no_end : (w : WorldState) (x y : List ℕ) → IsSound w → is_some (router_of w.routers x) ≡ false → is_some (end_of w.ends (x, y)) ≡ false
no_end w x y sound none = false_from_ne_true (is_some (end_of w.ends (x, y))) (λ t. true≢false (sym (sound.routers x y t) ∙ none))

pub client_alone : (w : WorldState) (router id : List ℕ) → IsSound w → is_taken w id ≡ false → end_of w.ends (id, router) ≡ None
client_alone w router id sound new =
    not_there (end_of w.ends (id, router))
    (no_end w id router sound (false_from_ne_true (is_some (router_of w.routers id)) (λ t. true≢false (sym (or_from_left (is_some (router_of w.routers id)) (is_some (client_of w.clients id)) t) ∙ new))))

-- ---- what may go

pub client_goes : (w : WorldState) (name : List ℕ) (s : ClientState) (msg : Msg) → IsLed w → client_of w.clients name ≡ Some s → is_unbroken w.ends (s.router, name) ≡ true → MayPass Client msg →
    MayGoTo w.ends (s.router, name) msg
client_goes w name s msg led client unbroken may t found = (
  sym (ap (λ o. option_map_or (λ z. z.unbroken) o false) found) ∙ unbroken,
  subst (λ (r : Role). MayPass r msg) (sym role) may,
)
  where
    role : neighbour_role w.ends (s.router, name) ≡ Client
    role = ap role_if (no_end w name s.router led.sound (led.carriable.apart name (ap is_some client)))

-- the message that was taken, and where
abbrev WasTaken : Ends → End → Tagged × Ends → Type 0
WasTaken es q y = (s : EndState) × (xs : List Tagged) × (end_of es q ≡ Some s) × (s.unbroken ≡ true) × (s.queue ≡ y.0 ∷ xs) × (y.1 ≡ with_end es q (with_queue s xs))

taken_from : (es : Ends) (q : End) (y : Tagged × Ends) → from_queue es q ≡ Ok y →
    WasTaken es q y
unfolding from_queue
taken_from es q y h = by (end_of es q) refl h
  where
    by : (o : Option EndState) → end_of es q ≡ o → (end_at o >>= (λ s. up_at s >>= (λ a. unbroken_at s >>= (λ b. oldest s.queue >>= (λ x. Ok (x.0, with_end es q (with_queue s x.1))))))) ≡ Ok y → WasTaken es q y
    by None found k = absurd (cc)
    by (Some s) found k = tests s.up s.unbroken refl s.queue refl k
      where
        tests : (b c : Bool) → s.unbroken ≡ c → (l : List Tagged) → s.queue ≡ l →
            (unless (not b) e.NotLinked >>= (λ a. unless (not c) e.NotLinked >>= (λ b. oldest l >>= (λ x. Ok (x.0, with_end es q (with_queue s x.1)))))) ≡ Ok y → WasTaken es q y
        tests false c on l queue k = absurd (cc)
        tests true false on l queue k = absurd (cc)
        tests true true on [] queue k = absurd (cc)
        tests true true on (x ∷ xs) queue k =
            let is : (x, with_end es q (with_queue s xs)) ≡ y = cc in
            (s, xs, found, on, queue ∙ ap (λ (z : Tagged × Ends). z.0 ∷ xs) is, ap (λ (z : Tagged × Ends). z.1) (sym is))

pub take_goes : (w : WorldState) (router to : List ℕ) (y : Tagged × Ends) → IsLed w → from_queue w.ends (router, to) ≡ Ok y → ArePaired y.1 → is_some (router_of w.routers to) ≡ true →
    MayGoTo y.1 (to, router) y.0.msg
take_goes w router to y led taken paired router_is u found =
    let t = taken_from w.ends (router, to) y taken in
    let s = t.0 in
    let left : EndState = with_queue s t.1 in
    let at : end_of y.1 (router, to) ≡ Some left =
    ap (λ z. end_of z (router, to)) t.5 ∙ with_end_is w.ends (router, to) left (router, to) (ap is_some t.2) ∙ ap (λ b. cond b (Some left) (end_of w.ends (router, to))) (ends.refl (router, to)) in
    let role : neighbour_role y.1 (to, router) ≡ Router = ap (λ o. role_if (is_some o)) at in
    let carried : IsCarried (role_of w.routers to) s = subst (λ (o : Option EndState). IfSome o (λ s. IsCarried (role_of w.routers to) s)) t.2 (led.carriable.ends (router, to)) in
    let to_router : role_of w.routers to ≡ Router = ap (λ b. cond b Router Client) router_is in
    let first : SentTo Router y.0.msg =
    subst (λ (r : Role). SentTo r y.0.msg) to_router (subst (λ (l : List Tagged). AllByRecursion (λ t. SentTo (role_of w.routers to) t.msg) l) t.4 carried.queue).0 in
    (sym (paired router to left u at found) ∙ t.3, subst (λ (r : Role). MayPass r y.0.msg) (sym role) first)

-- ---- what is heard

abbrev WasSent : Ends → End → Tagged × Ends → Type 0
WasSent es q y = (s : EndState) × (xs : List Tagged) × (end_of es q ≡ Some s) × (s.up ≡ true) × (s.wire ≡ y.0 ∷ xs)

sent_from : (es : Ends) (q : End) (y : Tagged × Ends) → from_wire es q ≡ Ok y → WasSent es q y
unfolding from_wire
sent_from es q y h = by (end_of es q) refl h
  where
    by : (o : Option EndState) → end_of es q ≡ o → (end_at o >>= (λ s. up_at s >>= (λ a. oldest s.wire >>= (λ x. Ok (x.0, with_end es q (with_wire s x.1)))))) ≡ Ok y → WasSent es q y
    by None found k = absurd (cc)
    by (Some s) found k = tests s.up refl s.wire refl k
      where
        tests : (b : Bool) → s.up ≡ b → (l : List Tagged) → s.wire ≡ l → (unless (not b) e.NotLinked >>= (λ a. oldest l >>= (λ x. Ok (x.0, with_end es q (with_wire s x.1))))) ≡ Ok y → WasSent es q y
        tests false up l wire k = absurd (cc)
        tests true up [] wire k = absurd (cc)
        tests true up (x ∷ xs) wire k =
            let is : (x, with_end es q (with_wire s xs)) ≡ y = cc in
            (s, xs, found, up, wire ∙ ap (λ (z : Tagged × Ends). z.0 ∷ xs) is)

pub handle_taken : (w : WorldState) (router from : List ℕ) (r : RouterState) (l : LinkPeer) (y : Tagged × Ends) → IsLed w → router_of w.routers router ≡ Some r → link_to r.node.links from ≡ Some l →
    from_wire w.ends (router, from) ≡ Ok y → refuses_of r (From l.link y.0.msg) ≡ None
handle_taken w router from r l y led er el told =
    let t = sent_from w.ends (router, from) y told in
    led.taken router from r t.0 l.link y.0 t.1 er t.2 t.3 t.4 (ap number_at el)

-- so an error is out of memory
pub heard_spent : (r r' : RouterState) (link : LinkNo) (msg : Msg) (out : List (LinkNo × Msg)) (error : ScriptError) → IsHeard (Err error) r r' (From link msg) out → refuses_of r (From link msg) ≡ None → error ≡ e.NoMemory
heard_spent r r' link msg out e.NoMemory heard taken = refl
heard_spent r r' link msg out error heard taken = absurd (true≢false (sym heard.1 ∙ ap is_some taken))
