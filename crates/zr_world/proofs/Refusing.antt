-- An act whose event a router refuses is refused, and the world is as before.
use Rattle.std.proofs.Common.{◌≡◌, ℕ, true, false, List, length, [], ◌∷◌, Some, None, Result, Ok, Err, refl, ap, ◌∙◌}
use Rattle.std.specs.Prelude.{nat_le}
use Rattle.zr_id.specs.declared.link.LinkNo.{LinkNo}
use Rattle.zr_msg.specs.declared.event.Event.TheVariants.{Down, From}
use Rattle.zr_msg.specs.declared.msg.Msg.{Msg}
use Rattle.zr_msg.specs.declared.peer.LinkPeer.{LinkPeer}
use Rattle.zr_msg.specs.declared.peer.Role.TheVariants as role
use Rattle.zr_script_spec.specs.declared.error.ScriptError.{ScriptError}
use Rattle.zr_script_spec.specs.declared.error.ScriptError.TheVariants as e
use Rattle.zr_script_spec.specs.declared.report.ReportLine.{ReportLine}
use Rattle.zr_script_spec.specs.declared.report.ReportLine.TheVariants.{Handled}
use Rattle.zr_node_spec.specs.Tables.{link_to}
use Rattle.zr_script_spec.specs.Step.{◌>>=◌}
use Rattle.zr_world_spec.specs.World.{Tagged, EndState, Ends, RouterState, WorldState, with_ends, router_of, is_taken, end_of, with_end, put_end, new_end, most_clients, lifted}
use Rattle.zr_world_spec.specs.Acts.{hears, peer_of, up_event, client_step, up_step, down_step, handle_step}
use Rattle.zr_world_ends.specs.Steps.{from_wire}
use Rattle.zr_world.specs.Hearing.{IsHeard, IsHandled}
use Rattle.zr_world.specs.Living.{lines_of}
use Rattle.zr_world.specs.Steps.{AppliesTo, Does}
use Rattle.zr_world.proofs.Moving.{hears_refused, client_by, up_by}

-- ---- `down`

pub down_unknown : (w : WorldState) (line : ℕ) (router name : List ℕ) (r : RouterState) → router_of w.routers router ≡ Some r → is_taken w name ≡ false → down_step w line router name ≡ Err e.UnknownName
unfolding down_step
down_unknown w line router name r er et = rw (er, et) refl

pub down_unlinked : (w : WorldState) (line : ℕ) (router name : List ℕ) (r : RouterState) → router_of w.routers router ≡ Some r → is_taken w name ≡ true → end_of w.ends (router, name) ≡ None →
    down_step w line router name ≡ Err e.NotLinked
unfolding down_step
down_unlinked w line router name r er et es = rw (er, et, es) refl

down_fails : (w : WorldState) (line : ℕ) (router name : List ℕ) (r : RouterState) (s : EndState) (l : LinkPeer) (error : ScriptError) → router_of w.routers router ≡ Some r → is_taken w name ≡ true →
    end_of w.ends (router, name) ≡ Some s → s.up ≡ true → s.unbroken ≡ false → link_to r.node.links name ≡ Some l → hears w router r (Down l.link) line ≡ Err error →
    down_step w line router name ≡ Err error
unfolding down_step
down_fails w line router name r s l error er et es up unbroken el h = rw (er, et, es, up, unbroken, el, h) refl

pub down_refused : (w w' : WorldState) (line : ℕ) (router name : List ℕ) (r r' : RouterState) (s : EndState) (l : LinkPeer) (out : List (LinkNo × Msg)) (error : ScriptError) →
    router_of w.routers router ≡ Some r → is_taken w name ≡ true → end_of w.ends (router, name) ≡ Some s → s.up ≡ true → s.unbroken ≡ false → link_to r.node.links name ≡ Some l →
    IsHeard (Err error) r r' (Down l.link) out → (r' ≡ r → w' ≡ w) → Does (Err error) (down_step w line router name) w w'
down_refused w w' line router name r r' s l out e.NoMemory er et es up unbroken el heard same = tt
down_refused w w' line router name r r' s l out error er et es up unbroken el heard same =
    let k = hears_refused w router r r' (Down l.link) out line error heard (λ (z : error ≡ e.NoMemory). cc) in
    (down_fails w line router name r s l error er et es up unbroken el k.0, same k.1)

-- ---- `client`

pub client_taken : (w : WorldState) (line : ℕ) (id router : List ℕ) (r : RouterState) → router_of w.routers router ≡ Some r → is_taken w id ≡ true → client_step w line id router ≡ Err e.NameTaken
unfolding client_step
client_taken w line id router r er et = rw (er, et) refl

pub client_refused : (w w' : WorldState) (line : ℕ) (id router : List ℕ) (r r' : RouterState) (out : List (LinkNo × Msg)) (error : ScriptError) → router_of w.routers router ≡ Some r →
    is_taken w id ≡ false → nat_le most_clients (length w.clients) ≡ false → IsHeard (Err error) r r' (up_event r (record { id = id; role = role.Client; weight = 1 })) out → (r' ≡ r → w' ≡ w) →
    Does (Err error) (client_step w line id router) w w'
client_refused w w' line id router r r' out e.NoMemory er et few heard same = tt
client_refused w w' line id router r r' out error er et few heard same =
    let k = hears_refused (with_ends w (put_end w.ends (router, id) (lifted (new_end 1)))) router r r' (up_event r (record { id = id; role = role.Client; weight = 1 })) out line error heard (λ (z : error ≡ e.NoMemory). cc) in
    (client_by w line id router r er et few (Err error) k.0, same k.1)

-- ---- `up`

pub up_unknown : (w : WorldState) (line : ℕ) (router name : List ℕ) (r : RouterState) → router_of w.routers router ≡ Some r → is_taken w name ≡ false → up_step w line router name ≡ Err e.UnknownName
unfolding up_step
up_unknown w line router name r er et = rw (er, et) refl

pub up_unlinked : (w : WorldState) (line : ℕ) (router name : List ℕ) (r : RouterState) → router_of w.routers router ≡ Some r → is_taken w name ≡ true → end_of w.ends (router, name) ≡ None →
    up_step w line router name ≡ Err e.NotLinked
unfolding up_step
up_unlinked w line router name r er et es = rw (er, et, es) refl

pub up_broken : (w : WorldState) (line : ℕ) (router name : List ℕ) (r : RouterState) (s : EndState) → router_of w.routers router ≡ Some r → is_taken w name ≡ true → end_of w.ends (router, name) ≡ Some s →
    s.unbroken ≡ false → up_step w line router name ≡ Err e.NotLinked
unfolding up_step
up_broken w line router name r s er et es unbroken = rw (er, et, es, unbroken) refl

pub up_twice : (w : WorldState) (line : ℕ) (router name : List ℕ) (r : RouterState) (s : EndState) → router_of w.routers router ≡ Some r → is_taken w name ≡ true → end_of w.ends (router, name) ≡ Some s →
    s.unbroken ≡ true → s.up ≡ true → up_step w line router name ≡ Err e.AlreadyLinked
unfolding up_step
up_twice w line router name r s er et es unbroken up = rw (er, et, es, unbroken, up) refl

pub up_refused : (w w' : WorldState) (line : ℕ) (router name : List ℕ) (r r' : RouterState) (s : EndState) (out : List (LinkNo × Msg)) (error : ScriptError) →
    router_of w.routers router ≡ Some r → is_taken w name ≡ true → end_of w.ends (router, name) ≡ Some s → s.unbroken ≡ true → s.up ≡ false →
    IsHeard (Err error) r r' (up_event r (peer_of w name s.weight)) out → (r' ≡ r → w' ≡ w) → Does (Err error) (up_step w line router name) w w'
up_refused w w' line router name r r' s out e.NoMemory er et es unbroken up heard same = tt
up_refused w w' line router name r r' s out error er et es unbroken up heard same =
    let k = hears_refused (with_ends w (with_end w.ends (router, name) (lifted s))) router r r' (up_event r (peer_of w name s.weight)) out line error heard (λ (z : error ≡ e.NoMemory). cc) in
    (up_by w line router name r s er et es unbroken up (Err error) k.0, same k.1)
