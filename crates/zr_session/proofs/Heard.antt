-- What is written of a message is read back within an established session, as the message that it gives.
use Rattle.std.proofs.Common.{◌≡◌, ap, refl, ℕ, ◌<◌, Bool, true, false, List, [], ◌∷◌, ◌++◌, length, Option, Some, None, Ok, inl, arith}
use Rattle.std.specs.Prelude.{nat_le, bit_and, if◌then◌else◌}
use Rattle.zr_bytes.specs.Flag.{has_id}
use Rattle.zr_bytes.specs.Reading.{Read, ◌>>=◌, byte_of}
use Rattle.zr_format_spec.specs.Writing.{writes_header}
use Rattle.zr_wirekey.specs.Laws.{NamesAreHeard}
use Rattle.zr_wirekey.specs.Scopes.{Texts}
use Rattle.zr_msg.specs.declared.msg.Msg.{Msg}
use Rattle.zr_msg.specs.declared.msg.Msg.TheVariants.{Sub, Unsub, Token, Untoken, Able, Unable, Interest, EndInterest, ToldSub, ToldAble, ToldUnsub, ToldToken, ToldUntoken, ToldUnable, ToldEnd, Push, Request, Response, Final, State, Step, Snap}
use Rattle.zr_msg.specs.declared.peer.Role.{Role}
use Rattle.zr_msg.specs.declared.peer.Role.TheVariants.{Client, Router}
use Rattle.zr_decl.specs.declared.declared.Declared.{Declared}
use Rattle.zr_decl.specs.declared.declared.Declared.TheVariants.{Told}
use Rattle.zr_decl.specs.Laws.{WrittenDeclarationsAreRead, WrittenInterestsAreRead}
use Rattle.zr_decl.specs.Reading.{message_of, interest_of, asked_of}
use Rattle.zr_net.specs.Laws.{WrittenNetIsRead, WrittenNamesAreRead}
use Rattle.zr_net.specs.Reading.{net_of, behind_of, declared_of, told_of}
use Rattle.zr_net.specs.Writing as net
use Rattle.zr_oam.specs.Laws.{WrittenOamIsRead}
use Rattle.zr_id.specs.Record.{RecordState}
use Rattle.zr_oam.specs.Writing.{writes_own, writes_record, weigh_one}
use Rattle.zr_oam.specs.Reading.{oam_of}
use Rattle.zr_wire.specs.Roles.{admits}
use Rattle.zr_wire.specs.Writing.{writes_message}
use Rattle.zr_session.specs.declared.carried.Carried.{Carried}
use Rattle.zr_session.specs.declared.carried.Carried.TheVariants.{BetweenRouters, Network}
use Rattle.zr_session.specs.declared.event.SessionEvent.TheVariants.{Message}
use Rattle.zr_session.specs.declared.phase.Established as session
use Rattle.zr_session.specs.declared.phase.Phase.TheVariants.{Established}
use Rattle.zr_session.specs.Carried.{begins_network, between_routers_of, network_of, carried_of}
use Rattle.zr_session.specs.Course.{gives}
use Rattle.zr_session.specs.Step.{on_carried}
use Rattle.zr_wire.specs.Sending.{MayBeSent}

-- what is written in each format is read again, and the numbers that are given are known
pub record AreRead : Type 0 where
  pub net : WrittenNetIsRead
  pub declarations : WrittenDeclarationsAreRead
  pub interests : WrittenInterestsAreRead
  pub oam : WrittenOamIsRead
  pub names : WrittenNamesAreRead
  pub known : NamesAreHeard

-- The bytes are read back as the message, whatever follows them, and it is given.
pub record IsHeard (role : Role) (m : Msg) (bytes : List ℕ) : Type 0 where
  pub some : 0 < length bytes
  pub carried : Carried
  pub begins : (rest : List ℕ) → begins_network (bytes ++ rest) ≡ true
  pub reads : (keys : Texts) (rest : List ℕ) → carried_of role keys (bytes ++ rest) ≡ Ok (carried, rest)
  pub given : (s : session.Established) → s.role ≡ role → on_carried s carried ≡ gives (Established s) (Message m)

impossible : {X : Type 0} → false ≡ true → X
impossible h = absurd cc

-- ---- the three kinds of formats

told : (role : Role) (m : Msg) (h : ℕ) (bytes : List ℕ) → nat_le 0x19 (bit_and h 0x1F) ≡ true → has_id h 0x1F ≡ false → admits role m ≡ true →
    ((keys : Texts) (rest : List ℕ) → net_of role keys [] (h ∷ (bytes ++ rest)) ≡ Ok (Told m, rest)) → IsHeard role m (h ∷ bytes)
unfolding carried_of network_of
told role m h bytes network other may reads = record {
  some = omega arith;
  carried = Network (Told m);
  begins = λ rest. network;
  reads = λ keys rest. rw other (rw (reads keys rest) refl);
  given = λ s e. rw (e, may) refl;
}

between : (m : Msg) (bytes : List ℕ) → admits Router m ≡ true → ((rest : List ℕ) → oam_of (0x5F ∷ (bytes ++ rest)) ≡ Ok (Some m, rest)) → IsHeard Router m (0x5F ∷ bytes)
unfolding carried_of between_routers_of
between m bytes may reads = record {
  some = omega arith;
  carried = BetweenRouters (Some m);
  begins = λ rest. refl;
  reads = λ keys rest. rw (reads rest) refl;
  given = λ s e. rw (e, may) refl;
}

-- a DECLARE is a network message
net_declares : (role : Role) (keys ours : Texts) (bytes rest : List ℕ) (d : Declared) (interest : Option ℕ) →
    message_of keys ours (0x1E ∷ bytes) ≡ Ok ((d, interest), rest) → net_of role keys ours (0x1E ∷ bytes) ≡ Ok (d, rest)
unfolding message_of net_of behind_of declared_of byte_of
net_declares role keys ours bytes rest d interest e = ap (λ (r : Read (Declared × Option ℕ)). r >>= (λ x. Ok (x.0.0, x.1))) e

-- and so is an INTEREST, whatever its flags are
net_asks : (role : Role) (keys ours : Texts) (h : ℕ) (bytes rest : List ℕ) (m : Msg) → bit_and h 0x1F ≡ 0x19 →
    interest_of keys ours (h ∷ bytes) ≡ Ok (m, rest) → net_of role keys ours (h ∷ bytes) ≡ Ok (Told m, rest)
unfolding interest_of net_of behind_of told_of byte_of
net_asks role keys ours h bytes rest m id e =
    let k : asked_of keys ours h bytes ≡ Ok (m, rest) = rw id at e in
    rw id (ap (λ (r : Read Msg). r >>= (λ x. Ok (Told x.0, x.1))) k)

-- ---- messages

declares : (m : Msg) (bytes : List ℕ) → admits Client m ≡ true → ((keys : Texts) (rest : List ℕ) → message_of keys [] (0x1E ∷ (bytes ++ rest)) ≡ Ok ((Told m, None), rest)) →
    IsHeard Client m (0x1E ∷ bytes)
declares m bytes may reads =
    told Client m 0x1E bytes refl refl may (λ keys rest. net_declares Client keys [] (bytes ++ rest) rest (Told m) None (reads keys rest))

asks : (m : Msg) (h : ℕ) (bytes : List ℕ) → bit_and h 0x1F ≡ 0x19 → admits Client m ≡ true →
    ((keys : Texts) (rest : List ℕ) → interest_of keys [] (h ∷ (bytes ++ rest)) ≡ Ok (m, rest)) → IsHeard Client m (h ∷ bytes)
asks m h bytes id may reads =
    told Client m h bytes (rw id refl) (rw id refl) may (λ keys rest. net_asks Client keys [] h (bytes ++ rest) rest m id (reads keys rest))

-- no number stands for the key
any_keys : (keys : Texts) (key : List ℕ) → net.KeyFits [] 0 key → net.KeyFits keys 0 key
any_keys keys key h = (h.0, inl refl)

push_heard : AreRead → (role : Role) (tree : Option (List ℕ)) (content : _) → MayBeSent role (Push tree content) → IsHeard role (Push tree content) (writes_message (Push tree content))
push_heard law role tree content h =
    told role (Push tree content) _ _ (network (net.has_any _)) (other (net.has_any _)) h.admitted
    (λ keys rest. (law.net role keys [] 0).again (Push tree content) rest (h.spelled.0, h.spelled.1, h.spelled.2, any_keys keys content.key h.spelled.3, h.spelled.4) tt)
  where
    network : (any : Bool) → nat_le 0x19 (bit_and (writes_header 0x1D true false any) 0x1F) ≡ true
    network true = refl
    network false = refl

    other : (any : Bool) → has_id (writes_header 0x1D true false any) 0x1F ≡ false
    other true = refl
    other false = refl

request_heard : AreRead → (role : Role) (tree : Option (List ℕ)) (id : ℕ) (target : _) (content : _) → MayBeSent role (Request tree id target content) →
    IsHeard role (Request tree id target content) (writes_message (Request tree id target content))
request_heard law role tree id target content h =
    told role (Request tree id target content) _ _ (network (net.has_any _)) (other (net.has_any _)) h.admitted
    (λ keys rest. (law.net role keys [] 0).again (Request tree id target content) rest (h.spelled.0, h.spelled.1, h.spelled.2, any_keys keys content.key h.spelled.3, h.spelled.4, h.spelled.5) tt)
  where
    network : (any : Bool) → nat_le 0x19 (bit_and (writes_header 0x1C true false any) 0x1F) ≡ true
    network true = refl
    network false = refl

    other : (any : Bool) → has_id (writes_header 0x1C true false any) 0x1F ≡ false
    other true = refl
    other false = refl

response_heard : AreRead → (role : Role) (id : ℕ) (content : _) → MayBeSent role (Response id content) → IsHeard role (Response id content) (writes_message (Response id content))
response_heard law role id content h =
    told role (Response id content) _ _ (network (net.has_any _)) (other (net.has_any _)) h.admitted
    (λ keys rest. (law.net role keys [] 0).again (Response id content) rest (h.spelled.0, h.spelled.1, any_keys keys content.key h.spelled.2, h.spelled.3, h.spelled.4) tt)
  where
    network : (any : Bool) → nat_le 0x19 (bit_and (writes_header 0x1B true false any) 0x1F) ≡ true
    network true = refl
    network false = refl

    other : (any : Bool) → has_id (writes_header 0x1B true false any) 0x1F ≡ false
    other true = refl
    other false = refl

final_heard : AreRead → (role : Role) (id : ℕ) (extras : _) → MayBeSent role (Final id extras) → IsHeard role (Final id extras) (writes_message (Final id extras))
final_heard law role id extras h =
    told role (Final id extras) _ _ (network (net.has_any _)) (other (net.has_any _)) h.admitted (λ keys rest. (law.net role keys [] 0).again (Final id extras) rest h.spelled tt)
  where
    network : (any : Bool) → nat_le 0x19 (bit_and (writes_header 0x1A false false any) 0x1F) ≡ true
    network true = refl
    network false = refl

    other : (any : Bool) → has_id (writes_header 0x1A false false any) 0x1F ≡ false
    other true = refl
    other false = refl

client_heard : AreRead → (m : Msg) → MayBeSent Client m → IsHeard Client m (writes_message m)
client_heard law (Sub id key) h = declares (Sub id key) _ refl (λ keys rest. (law.declarations keys []).again (Sub id key) rest h.spelled tt)
client_heard law (Unsub id) h = declares (Unsub id) _ refl (λ keys rest. (law.declarations keys []).again (Unsub id) rest h.spelled tt)
client_heard law (Token id key) h = declares (Token id key) _ refl (λ keys rest. (law.declarations keys []).again (Token id key) rest h.spelled tt)
client_heard law (Untoken id) h = declares (Untoken id) _ refl (λ keys rest. (law.declarations keys []).again (Untoken id) rest h.spelled tt)
client_heard law (Able id key complete) h = declares (Able id key complete) _ refl (λ keys rest. (law.declarations keys []).again (Able id key complete) rest h.spelled tt)
client_heard law (Unable id) h = declares (Unable id) _ refl (λ keys rest. (law.declarations keys []).again (Unable id) rest h.spelled tt)
client_heard law (Interest id true true kinds key aggregate) h =
    asks (Interest id true true kinds key aggregate) 0x79 _ refl refl (λ keys rest. (law.interests keys []).again (Interest id true true kinds key aggregate) rest h.spelled tt)
client_heard law (Interest id true false kinds key aggregate) h =
    asks (Interest id true false kinds key aggregate) 0x39 _ refl refl (λ keys rest. (law.interests keys []).again (Interest id true false kinds key aggregate) rest h.spelled tt)
client_heard law (Interest id false true kinds key aggregate) h =
    asks (Interest id false true kinds key aggregate) 0x59 _ refl refl (λ keys rest. (law.interests keys []).again (Interest id false true kinds key aggregate) rest h.spelled tt)
client_heard law (Interest id false false kinds key aggregate) h = impossible h.spelled.3
client_heard law (EndInterest id) h = asks (EndInterest id) 0x19 _ refl refl (λ keys rest. (law.interests keys []).again (EndInterest id) rest h.spelled tt)
client_heard law (ToldSub id key interest) h = impossible h.admitted
client_heard law (ToldToken id key interest) h = impossible h.admitted
client_heard law (ToldAble id key complete interest) h = impossible h.admitted
client_heard law (ToldUnsub id) h = impossible h.admitted
client_heard law (ToldUntoken id) h = impossible h.admitted
client_heard law (ToldUnable id) h = impossible h.admitted
client_heard law (ToldEnd interest) h = impossible h.admitted
client_heard law (Push tree content) h = push_heard law Client tree content h
client_heard law (Request tree id target content) h = request_heard law Client tree id target content h
client_heard law (Response id content) h = response_heard law Client id content h
client_heard law (Final id extras) h = final_heard law Client id extras h
client_heard law (State links) h = impossible h.admitted
client_heard law (Step source number added decl) h = impossible h.admitted
client_heard law (Snap source number decls) h = impossible h.admitted

-- a record, written as its weights ask
abbrev writes_state : Bool → RecordState → List ℕ
writes_state one links = if one then writes_own 0x5A01 (writes_record false links) else writes_own 0x5A03 (writes_record true links)

state_heard : (links : RecordState) (one : Bool) → ((rest : List ℕ) → oam_of (writes_state one links ++ rest) ≡ Ok (Some (State links), rest)) → IsHeard Router (State links) (writes_state one links)
state_heard links true reads = between (State links) _ refl reads
state_heard links false reads = between (State links) _ refl reads

router_heard : AreRead → (m : Msg) → MayBeSent Router m → IsHeard Router m (writes_message m)
router_heard law (Sub id key) h = impossible h.admitted
router_heard law (Unsub id) h = impossible h.admitted
router_heard law (Token id key) h = impossible h.admitted
router_heard law (Untoken id) h = impossible h.admitted
router_heard law (Able id key complete) h = impossible h.admitted
router_heard law (Unable id) h = impossible h.admitted
router_heard law (Interest id current future kinds key aggregate) h = impossible h.admitted
router_heard law (EndInterest id) h = impossible h.admitted
router_heard law (ToldSub id key interest) h = impossible h.admitted
router_heard law (ToldToken id key interest) h = impossible h.admitted
router_heard law (ToldAble id key complete interest) h = impossible h.admitted
router_heard law (ToldUnsub id) h = impossible h.admitted
router_heard law (ToldUntoken id) h = impossible h.admitted
router_heard law (ToldUnable id) h = impossible h.admitted
router_heard law (ToldEnd interest) h = impossible h.admitted
router_heard law (Push tree content) h = push_heard law Router tree content h
router_heard law (Request tree id target content) h = request_heard law Router tree id target content h
router_heard law (Response id content) h = response_heard law Router id content h
router_heard law (Final id extras) h = final_heard law Router id extras h
router_heard law (State links) h = state_heard links (weigh_one links.links) (λ rest. law.oam.again (State links) rest h.spelled tt)
router_heard law (Step source number added decl) h = between (Step source number added decl) _ refl (λ rest. law.oam.again (Step source number added decl) rest h.spelled tt)
router_heard law (Snap source number decls) h = between (Snap source number decls) _ refl (λ rest. law.oam.again (Snap source number decls) rest h.spelled tt)

-- EACH MESSAGE that a peer may send is heard.
pub message_heard : AreRead → (role : Role) (m : Msg) → MayBeSent role m → IsHeard role m (writes_message m)
message_heard law Client m h = client_heard law m h
message_heard law Router m h = router_heard law m h
