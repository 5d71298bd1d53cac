-- Clients of whom only interests, open queries and requests are others (`SameClients`): so are they after each act by which a client says
-- something without declaring it, and after what a client is sent. Whatever reads but the routers and the declarations of clients reads the same.
use Rattle.std.proofs.Common.{◌≡◌, ℕ, List, [], Option, Some, None, refl, sym, ap, ◌∙◌}
use Rattle.std.specs.Map.{keys_of}
use Rattle.std.specs.Option.{option_map}
use Rattle.std.proofs.lemmas.Bool.{false≢true}
use Rattle.std.specs.Prelude.{is_some}
use Rattle.std.proofs.lemmas.Map.{keys-set_value}
use Rattle.zr_lists.proofs.Options.{there_changed}
use Rattle.zr_id.specs.Zid.{is_named}
use Rattle.zr_msg.specs.declared.msg.Msg.{Msg}
use Rattle.zr_msg.specs.declared.msg.Msg.TheVariants.{Sub, Unsub, Token, Untoken, Able, Unable, Interest, EndInterest, ToldSub, ToldAble, ToldUnsub, ToldToken, ToldUntoken, ToldUnable, ToldEnd, Push, Request, Response, Final, State, Step, Snap}
use Rattle.zr_msg.specs.declared.decl.Kind.{Kind}
use Rattle.zr_msg.specs.declared.decl.Kind.TheVariants as k
use Rattle.zr_world_spec.specs.World.{ClientState, Clients, client_of, with_client}
use Rattle.zr_world_spec.specs.Acts.{receiving, received, with_ids}
use Rattle.zr_world_spec.proofs.Names.{read_kept}

-- a client without interests, queries and requests: its router and what it has declared
abbrev pub idle_client : ClientState → ClientState
idle_client s = record s { interests = []; queries = []; requests = [] }

-- the same clients, but for interests, queries and requests
pub record SameClients (clients more : Clients) : Type 0 where
  pub names : keys_of more ≡ keys_of clients
  pub each : (q : List ℕ) → option_map idle_client (client_of more q) ≡ option_map idle_client (client_of clients q)

pub same_clients : (clients : Clients) → SameClients clients clients
same_clients clients = record { names = refl; each = λ q. refl }

-- one client of them has other interests, queries or requests
pub same_with_client : (clients : Clients) (name : List ℕ) (s s' : ClientState) → client_of clients name ≡ Some s → idle_client s' ≡ idle_client s → SameClients clients (with_client clients name s')
same_with_client clients name s s' found same = record {
  names = keys-set_value (is_named name) clients s';
  each = λ q. read_kept (option_map idle_client) clients name q s s' found (ap Some same);
}

-- what a client is sent changes nothing else
pub idle_receiving : (s : ClientState) (msg : Msg) → idle_client (receiving s msg) ≡ idle_client s
idle_receiving s (Sub id key) = refl
idle_receiving s (Unsub id) = refl
idle_receiving s (Token id key) = refl
idle_receiving s (Untoken id) = refl
idle_receiving s (Able id key complete) = refl
idle_receiving s (Unable id) = refl
idle_receiving s (Interest id current future kinds key aggregate) = refl
idle_receiving s (EndInterest id) = refl
idle_receiving s (ToldSub id key interest) = refl
idle_receiving s (ToldToken id key interest) = refl
idle_receiving s (ToldAble id key complete interest) = refl
idle_receiving s (ToldUnsub id) = refl
idle_receiving s (ToldUntoken id) = refl
idle_receiving s (ToldUnable id) = refl
idle_receiving s (ToldEnd interest) = refl
idle_receiving s (Push tree content) = refl
idle_receiving s (Request tree id target content) = refl
idle_receiving s (Response id content) = refl
idle_receiving s (Final id extras) = refl
idle_receiving s (State links) = refl
idle_receiving s (Step source number added decl) = refl
idle_receiving s (Snap source number decls) = refl

pub same_received : (clients : Clients) (name : List ℕ) (msg : Msg) → SameClients clients (received clients name msg (client_of clients name))
same_received clients name msg = by (client_of clients name) refl
  where
    by : (o : Option ClientState) → client_of clients name ≡ o → SameClients clients (received clients name msg o)
    by None e = same_clients clients
    by (Some s) e = same_with_client clients name s (receiving s msg) e (idle_receiving s msg)

module _ (clients more : Clients) (same : SameClients clients more) where
  -- a reading of what a client has declared, and of its router
  pub read_same_clients : {X : Type 0} (f : ClientState → X) → ((s : ClientState) → f (idle_client s) ≡ f s) → (q : List ℕ) → option_map f (client_of more q) ≡ option_map f (client_of clients q)
  read_same_clients f blind q = sym (of (client_of more q)) ∙ ap (option_map f) (same.each q) ∙ of (client_of clients q)
    where
      of : (o : Option ClientState) → option_map f (option_map idle_client o) ≡ option_map f o
      of None = refl
      of (Some s) = ap Some (blind s)

  pub there_same : (q : List ℕ) → is_some (client_of more q) ≡ is_some (client_of clients q)
  there_same q = sym (there_changed idle_client (client_of more q)) ∙ ap is_some (same.each q) ∙ there_changed idle_client (client_of clients q)

  -- a client then was one before, with the same router and declarations
  pub client_was : (q : List ℕ) (t : ClientState) → client_of more q ≡ Some t → (s : ClientState) × (client_of clients q ≡ Some s) × (idle_client s ≡ idle_client t)
  client_was q t found = by (client_of clients q) refl (sym (same.each q) ∙ ap (option_map idle_client) found)
    where
      by : (o : Option ClientState) → client_of clients q ≡ o → option_map idle_client o ≡ Some (idle_client t) → (s : ClientState) × (client_of clients q ≡ Some s) × (idle_client s ≡ idle_client t)
      by None e h = absurd (false≢true (ap is_some h))
      by (Some s) e h = (s, e, cc)

-- whatever a client has declared, it stays at its router
pub same_home : (s : ClientState) (kind : Kind) (ids : List ℕ) → (with_ids s kind ids).router ≡ s.router
same_home s k.Sub ids = refl
same_home s k.Able ids = refl
same_home s k.Full ids = refl
same_home s k.Token ids = refl
