-- What the lines say of a client, and what the world has of it (`Spoken`): its link is unbroken as long as it is attached, and its ids are those of
-- what it has declared, of each kind. Each act keeps it.
use Rattle.std.proofs.Common.{◌≡◌, ℕ, Bool, true, false, cond, not, List, [], ◌∷◌, ◌++◌, Option, Some, None, is_some, refl, sym, ap, ◌∙◌, subst}
use Rattle.std.specs.Prelude.{◌&&◌, ◌||◌, ◌==◌, unwrap_or, IfSome}
use Rattle.std.specs.List.{list_any}
use Rattle.std.specs.Option.{option_map, option_map_or}
use Rattle.std.proofs.Math.Bool.{or-false}
use Rattle.std.proofs.lemmas.Bool.{true≢false, false≢true, false_from_ne_true, or_right}
use Rattle.std.proofs.lemmas.List.Sums.{fold-append}
use Rattle.zr_lists.proofs.Options.{not_there}
use Rattle.zr_id.specs.Zid.{is_named}
use Rattle.zr_graph.proofs.Names.{same_is, same_refl}
use Rattle.zr_msg.specs.declared.decl.Decl.{Decl}
use Rattle.zr_msg.specs.declared.decl.Kind.{Kind}
use Rattle.zr_msg.specs.declared.decl.Kind.TheVariants as k
use Rattle.zr_msg.specs.Extras.{no_extras}
use Rattle.zr_msg.specs.declared.msg.Msg.{Msg}
use Rattle.zr_msg.specs.declared.msg.Msg.TheVariants as m
use Rattle.zr_msg.specs.declared.event.Event.TheVariants.{Down, From}
use Rattle.zr_msg.specs.declared.peer.Role.TheVariants.{Client}
use Rattle.zr_script_spec.specs.declared.command.Act.{Act}
use Rattle.zr_script_spec.specs.declared.command.Act.TheVariants as a
use Rattle.zr_script_spec.specs.Mode.{is_current, is_future}
use Rattle.zr_node_spec.specs.Table.{able_kind}
use Rattle.zr_told_spec.specs.Place.{class_rank, class_of}
use Rattle.zr_told_spec.specs.declared.place.Class.{Class}
use Rattle.zr_world_spec.specs.World.{RouterState, EndState, ClientState, End, Ends, WorldState, router_of, client_of, end_of, is_end, with_end, put_end, with_client, new_client, new_end, lifted, lowered, broken, sent, with_wire, with_queue, changed, is_taken, is_unbroken}
use Rattle.zr_world_spec.specs.Acts.{outcome, declare_step, undeclare_step, up_event, peer_of, ids_of, has_id, with_ids}
use Rattle.zr_world_spec.specs.Moments.{Numbered, Moment, went}
use Rattle.zr_guarantee.specs.Meaning.{Declares, meaning}
use Rattle.zr_guarantee.specs.Broker.{attached_by, is_attached, Standing, stands_then, standing_by, standing}
use Rattle.zr_world_spec.proofs.Names.{names, value_new, read_after}
use Rattle.zr_world_spec.proofs.Ends.{ends, keep_with_end, read_put_end, read_changed, keep_changed}
use Rattle.zr_world_spec.proofs.Clients.{SameClients, idle_client, same_clients, same_received, there_same, client_was, same_home}
use Rattle.zr_world_spec.proofs.Cases.{free_name, on_router, on_client, on_link, on_up, on_break, on_down, on_declare, on_undeclare, on_said, on_weighed, on_handle, on_take, for_router, for_client, for_link, for_up, for_break, for_down, for_declare, for_undeclare, Says, Weighs, interest_says, uninterest_says, publish_says, get_says, reply_says, end_says, for_handle, for_take, for_mark, for_show}
use Rattle.zr_law_settled.proofs.Spreading.{Name}
use Rattle.zr_law_settled.proofs.Moving.{unbroken_at}
use Rattle.zr_law_settled.proofs.Ends.{other_end}
use Rattle.zr_law_settled.proofs.ClientRows.{ClientsHold}
use Rattle.zr_law_declared.specs.Declared.{is_same_id, stands_by, stands}
use Rattle.zr_law_declared.proofs.Flows.{Flows, stands_more}
use Rattle.zr_law_declared.proofs.Hearing.{all_heard, keep_heard}
use Rattle.zr_law_declared.proofs.Said.{AreListed, none_listed, same_listed, ids_then, listed_then}

-- ---- the invariant

-- the link of a client is unbroken as long as the client is attached, and its ids of each kind are those of what it has declared
pub record IsSpoken (acts : List Numbered) (w : WorldState) (c : Name) (s : ClientState) : Type 0 where
  pub attached : is_unbroken w.ends (s.router, c) ≡ is_attached acts c
  pub listed : (kind : Kind) → AreListed (class_of kind) (standing acts c (class_of kind)) (ids_of s kind) (λ id. stands acts c kind id)

-- a name of no client
pub record IsUnspoken (acts : List Numbered) (c : Name) : Type 0 where
  pub attached : is_attached acts c ≡ false
  pub none : (class : Class) → standing acts c class ≡ []

pub record Spoken (acts : List Numbered) (w : WorldState) : Type 0 where
  pub clients : (c : Name) (s : ClientState) → client_of w.clients c ≡ Some s → IsSpoken acts w c s
  pub others : (c : Name) → client_of w.clients c ≡ None → IsUnspoken acts c

-- ---- the ids of a client

same_ids : (s t : ClientState) → idle_client s ≡ idle_client t → (kind : Kind) → ids_of t kind ≡ ids_of s kind
same_ids s t same k.Sub = ap (λ (q : ClientState). q.subs) (sym same)
same_ids s t same k.Able = ap (λ (q : ClientState). q.ables) (sym same)
same_ids s t same k.Full = ap (λ (q : ClientState). q.ables) (sym same)
same_ids s t same k.Token = ap (λ (q : ClientState). q.tokens) (sym same)

no_ids : (router : Name) (kind : Kind) → ids_of (new_client router) kind ≡ []
no_ids router k.Sub = refl
no_ids router k.Able = refl
no_ids router k.Full = refl
no_ids router k.Token = refl

-- whether two kinds are of one class
abbrev is_one : Kind → Kind → Bool
is_one kind other = class_rank (class_of kind) == class_rank (class_of other)

-- they have the same ids, then
one_class : (s : ClientState) (kind other : Kind) → is_one kind other ≡ true → (class_of kind ≡ class_of other) × (ids_of s kind ≡ ids_of s other)
one_class s k.Sub k.Sub e = (refl, refl)
one_class s k.Sub k.Able e = absurd (false≢true e)
one_class s k.Sub k.Full e = absurd (false≢true e)
one_class s k.Sub k.Token e = absurd (false≢true e)
one_class s k.Able k.Sub e = absurd (false≢true e)
one_class s k.Able k.Able e = (refl, refl)
one_class s k.Able k.Full e = (refl, refl)
one_class s k.Able k.Token e = absurd (false≢true e)
one_class s k.Full k.Sub e = absurd (false≢true e)
one_class s k.Full k.Able e = (refl, refl)
one_class s k.Full k.Full e = (refl, refl)
one_class s k.Full k.Token e = absurd (false≢true e)
one_class s k.Token k.Sub e = absurd (false≢true e)
one_class s k.Token k.Able e = absurd (false≢true e)
one_class s k.Token k.Full e = absurd (false≢true e)
one_class s k.Token k.Token e = (refl, refl)

with_others : (change : List ℕ → List ℕ) (s : ClientState) (kind other : Kind) →
    ids_of (with_ids s kind (change (ids_of s kind))) other ≡ cond (is_one kind other) (change (ids_of s other)) (ids_of s other)
with_others change s k.Sub k.Sub = refl
with_others change s k.Sub k.Able = refl
with_others change s k.Sub k.Full = refl
with_others change s k.Sub k.Token = refl
with_others change s k.Able k.Sub = refl
with_others change s k.Able k.Able = refl
with_others change s k.Able k.Full = refl
with_others change s k.Able k.Token = refl
with_others change s k.Full k.Sub = refl
with_others change s k.Full k.Able = refl
with_others change s k.Full k.Full = refl
with_others change s k.Full k.Token = refl
with_others change s k.Token k.Sub = refl
with_others change s k.Token k.Able = refl
with_others change s k.Token k.Full = refl
with_others change s k.Token k.Token = refl

-- ---- one more act

-- an act says nothing of a name
record IsNoNews (act : Act) (c : Name) : Type 0 where
  attached : (so_far : Bool) → attached_by c so_far act ≡ so_far
  declares : option_map_or (λ d. is_named c d.client) (meaning act).declares false ≡ false

-- what another client declares leaves what is so of a name
not_its_own : {X : Type 0} (c : Name) (test : Declares → Bool) (f : Declares → X) (x : X) (o : Option Declares) → option_map_or (λ d. is_named c d.client) o false ≡ false →
    option_map_or (λ d. cond (is_named c d.client && test d) (f d) x) o x ≡ x
not_its_own c test f x None other = refl
not_its_own c test f x (Some d) other = ap (λ b. cond (b && test d) (f d) x) other

module _ (acts : List Numbered) (n : ℕ) (act : Act) (c : Name) where
  attached_more : is_attached (acts ++ (n, act) ∷ []) c ≡ attached_by c (is_attached acts c) act
  attached_more = fold-append (λ so_far x. attached_by c so_far x.1) false acts ((n, act) ∷ [])

  standing_more : (class : Class) → standing (acts ++ (n, act) ∷ []) c class ≡ standing_by c class (standing acts c class) act
  standing_more class = fold-append (λ so_far x. standing_by c class so_far x.1) [] acts ((n, act) ∷ [])

  -- what is so of a name of which an act is no news is so then
  module _ (quiet : IsNoNews act c) where
    standing_stays : (class : Class) → standing (acts ++ (n, act) ∷ []) c class ≡ standing acts c class
    standing_stays class =
        let so_far : List Standing = standing acts c class in
        standing_more class ∙ not_its_own c (λ d. class_rank d.class == class_rank class) (λ d. stands_then so_far d.id d.decl) so_far (meaning act).declares quiet.declares

    stands_stay : (kind : Kind) (id : ℕ) → stands (acts ++ (n, act) ∷ []) c kind id ≡ stands acts c kind id
    stands_stay kind id = stands_more acts n act c kind id ∙ not_its_own c (λ d. is_same_id kind id d.class d.id) (λ d. d.decl) (stands acts c kind id) (meaning act).declares quiet.declares

    still_spoken : (w v : WorldState) (s t : ClientState) → idle_client s ≡ idle_client t → is_unbroken v.ends (t.router, c) ≡ is_unbroken w.ends (s.router, c) →
        IsSpoken acts w c s → IsSpoken (acts ++ (n, act) ∷ []) v c t
    still_spoken w v s t same whole h = record {
      attached = whole ∙ h.attached ∙ sym (attached_more ∙ quiet.attached (is_attached acts c));
      listed = λ kind. same_listed (standing_stays (class_of kind)) (same_ids s t same kind) (stands_stay kind) (h.listed kind);
    }

    still_unspoken : IsUnspoken acts c → IsUnspoken (acts ++ (n, act) ∷ []) c
    still_unspoken h = record {
      attached = attached_more ∙ quiet.attached (is_attached acts c) ∙ h.attached;
      none = λ class. standing_stays class ∙ h.none class;
    }

module _ (acts : List Numbered) (now : Moment) (clients : ClientsHold now.world) (flows : Flows acts now.world) (h : Spoken acts now.world) where
  abbrev w : WorldState
  w = now.world

  abbrev pub SpokenThen : ℕ → Act → Moment → Type 0
  SpokenThen n act next = Spoken (acts ++ (n, act) ∷ []) next.world

  -- ---- no news of anybody

  still : (n : ℕ) (act : Act) (v : WorldState) → ((c : Name) → IsNoNews act c) → SameClients w.clients v.clients →
      ((c : Name) (s : ClientState) → client_of w.clients c ≡ Some s → is_unbroken v.ends (s.router, c) ≡ is_unbroken w.ends (s.router, c)) → Spoken (acts ++ (n, act) ∷ []) v
  still n act v quiet same whole = record {
    clients = λ c t found.
        let s = client_was w.clients v.clients same c t found in
        still_spoken acts n act c (quiet c) w v s.0 t s.2 (ap (λ (q : ClientState). is_unbroken v.ends (q.router, c)) (sym s.2) ∙ whole c s.0 s.1) (h.clients c s.0 s.1);
    others = λ c none. still_unspoken acts n act c (quiet c) (h.others c (not_there (client_of w.clients c) (sym (there_same w.clients v.clients same c) ∙ ap is_some none)));
  }

  -- a client says something that is nothing of ids
  says : (n : ℕ) (act : Act) (client : Name) (msg : Msg) → ((c : Name) → IsNoNews act c) → Says now (SpokenThen n act) n client msg
  says n act client msg quiet s found e at_end unbroken cs same =
      still n act (on_said now n client msg s e cs).world quiet same (λ c t client_is. keep_with_end w.ends (s.router, client) (sent e msg n) unbroken_at (t.router, c) e at_end refl)

  -- and it may weigh on its router
  weighs : (n : ℕ) (act : Act) (client : Name) (key : List ℕ) (msg : Msg) → ((c : Name) → IsNoNews act c) → Weighs now (SpokenThen n act) n client key msg
  weighs n act client key msg quiet s found e at_end unbroken r there room cs same =
      still n act (on_weighed now n client key msg s e r cs).world quiet same (λ c t client_is. keep_with_end w.ends (s.router, client) (sent e msg n) unbroken_at (t.router, c) e at_end refl)

  -- a router is no client
  no_client : (x : Name) → is_some (router_of w.routers x) ≡ true → (c : Name) (s : ClientState) → client_of w.clients c ≡ Some s → is_named x c ≡ false
  no_client x there c s found = false_from_ne_true (is_named x c) (λ e. true≢false (sym there ∙ ap (λ z. is_some (router_of w.routers z)) (same_is x c e) ∙ clients.apart c s found))

  -- ---- a link between two routers

  linked : (n : ℕ) (one other : Name) (weight : ℕ) (r q : RouterState) → router_of w.routers one ≡ Some r → router_of w.routers other ≡ Some q → Spoken (acts ++ (n, a.Link one other weight) ∷ []) (on_link now one other weight).world
  linked n one other weight r q found found' = still n (a.Link one other weight) (on_link now one other weight).world
      (λ c. record { attached = λ so_far. refl; declares = refl }) (same_clients w.clients)
      (λ c s client.
      read_put_end (put_end w.ends (one, other) (new_end weight)) (other, one) (new_end weight) unbroken_at (s.router, c)
      ∙ ap (λ b. cond b true (is_unbroken (put_end w.ends (one, other) (new_end weight)) (s.router, c))) (other_end other s.router one c (no_client one (ap is_some found) c s client))
      ∙ read_put_end w.ends (one, other) (new_end weight) unbroken_at (s.router, c)
      ∙ ap (λ b. cond b true (is_unbroken w.ends (s.router, c))) (other_end one s.router other c (no_client other (ap is_some found') c s client)))

  -- ---- a client comes

  comes : (n : ℕ) (id router : Name) (r : RouterState) → router_of w.routers router ≡ Some r → is_taken w id ≡ false → Spoken (acts ++ (n, a.Client id router) ∷ []) (on_client now n id router r).world
  comes n id router r found free = record {
    clients = λ c t there. at c t (is_named c id) refl (sym (clients_are c) ∙ there);
    others = λ c none. nobody c (is_named c id) refl (sym (clients_are c) ∙ none);
  }
    where
      act : Act
      act = a.Client id router

      v : WorldState
      v = (on_client now n id router r).world

      is_new : client_of w.clients id ≡ None
      is_new = not_there (client_of w.clients id) (free_name w id free).1

      before : IsUnspoken acts id
      before = h.others id is_new

      clients_are : (c : Name) → client_of v.clients c ≡ cond (is_named c id) (Some (new_client router)) (client_of w.clients c)
      clients_are c = value_new w.clients id c (new_client router) is_new

      whole : (q : End) → is_unbroken v.ends q ≡ cond (is_end (router, id) q) true (is_unbroken w.ends q)
      whole q = keep_heard (put_end w.ends (router, id) (lifted (new_end 1))) router r (up_event r (record { id = id; role = Client; weight = 1 })) n unbroken_at q (λ e ws. refl)
          ∙ read_put_end w.ends (router, id) (lifted (new_end 1)) unbroken_at q

      quiet : (c : Name) → is_named c id ≡ false → IsNoNews act c
      quiet c other = record {
        attached = λ so_far. ap (λ b. so_far || b) other ∙ or-false so_far;
        declares = refl;
      }

      its_own : IsSpoken (acts ++ (n, act) ∷ []) v id (new_client router)
      its_own = record {
        attached = whole (router, id) ∙ ap (λ b. cond b true (is_unbroken w.ends (router, id))) (ends.refl (router, id))
            ∙ sym (attached_more acts n act id ∙ or_right (is_attached acts id) (is_named id id) (same_refl id));
        listed = λ kind. same_listed (standing_more acts n act id (class_of kind) ∙ before.none (class_of kind)) (no_ids router kind) (λ i. refl)
            (none_listed (λ i. stands_more acts n act id kind i ∙ flows.fresh id is_new kind i));
      }

      at : (c : Name) (t : ClientState) (b : Bool) → is_named c id ≡ b → cond b (Some (new_client router)) (client_of w.clients c) ≡ Some t → IsSpoken (acts ++ (n, act) ∷ []) v c t
      at c t true e there =
          let one : new_client router ≡ t = cc in
          subst (λ (q : ClientState). IsSpoken (acts ++ (n, act) ∷ []) v c q) one (subst (λ (y : Name). IsSpoken (acts ++ (n, act) ∷ []) v y (new_client router)) (sym (same_is c id e)) its_own)
      at c t false e there = still_spoken acts n act c (quiet c e) w v t t refl
          (whole (t.router, c) ∙ ap (λ b. cond b true (is_unbroken w.ends (t.router, c))) (other_end router t.router id c (names.symm id c ∙ e))) (h.clients c t there)

      nobody : (c : Name) (b : Bool) → is_named c id ≡ b → cond b (Some (new_client router)) (client_of w.clients c) ≡ None → IsUnspoken (acts ++ (n, act) ∷ []) c
      nobody c true e none = absurd (true≢false (ap is_some none))
      nobody c false e none = still_unspoken acts n act c (quiet c e) (h.others c none)

  -- ---- a link breaks

  breaks : (n : ℕ) (router name : Name) (r : RouterState) → router_of w.routers router ≡ Some r → (e : EndState) → end_of w.ends (router, name) ≡ Some e →
      Spoken (acts ++ (n, a.Break router name) ∷ []) (on_break now router name).world
  breaks n router name r found e at_end = record {
    clients = λ c s there. at c s there (is_named c name) refl;
    others = λ c none. nobody c (h.others c none);
  }
    where
      act : Act
      act = a.Break router name

      v : WorldState
      v = (on_break now router name).world

      half : Ends
      half = changed w.ends (router, name) broken

      cut : (o : Option EndState) → unbroken_at (option_map broken o) ≡ false
      cut None = refl
      cut (Some s) = refl

      -- a client's end isn't the other one of the link
      whole : (c : Name) (s : ClientState) → client_of w.clients c ≡ Some s →
          is_unbroken v.ends (s.router, c) ≡ cond (is_end (router, name) (s.router, c)) (unbroken_at (option_map broken (end_of w.ends (s.router, c)))) (is_unbroken w.ends (s.router, c))
      whole c s there =
          read_changed half (name, router) broken unbroken_at (s.router, c)
          ∙ ap (λ b. cond b (unbroken_at (option_map broken (end_of half (s.router, c)))) (is_unbroken half (s.router, c))) (other_end name s.router router c (no_client router (ap is_some found) c s there))
          ∙ read_changed w.ends (router, name) broken unbroken_at (s.router, c)

      both_false : (b : Bool) → (b && false) ≡ false
      both_false true = refl
      both_false false = refl

      both_true : (b : Bool) → (b && true) ≡ b
      both_true true = refl
      both_true false = refl

      quiet : (c : Name) → is_named c name ≡ false → IsNoNews act c
      quiet c other = record {
        attached = λ so_far. ap (λ b. so_far && not b) other ∙ both_true so_far;
        declares = refl;
      }

      gone : (c : Name) → is_named c name ≡ true → is_attached (acts ++ (n, act) ∷ []) c ≡ false
      gone c same = attached_more acts n act c ∙ ap (λ b. is_attached acts c && not b) same ∙ both_false (is_attached acts c)

      its_end : (c : Name) (s : ClientState) → client_of w.clients c ≡ Some s → is_named c name ≡ true → is_end (router, name) (s.router, c) ≡ true
      its_end c s there same =
          let c_is : c ≡ name = same_is c name same in
          let home : s.router ≡ router = clients.homes router c s there (ap (λ y. is_some (end_of w.ends (router, y))) c_is ∙ ap is_some at_end) in
          let one : ◌≡◌ {A = End} (router, name) (s.router, c) = λ i. (sym home i, sym c_is i) in
          subst (λ (q : End). is_end (router, name) q ≡ true) one (ends.refl (router, name))

      at : (c : Name) (s : ClientState) → client_of w.clients c ≡ Some s → (b : Bool) → is_named c name ≡ b → IsSpoken (acts ++ (n, act) ∷ []) v c s
      at c s there false other = still_spoken acts n act c (quiet c other) w v s s refl
          (whole c s there ∙ ap (λ b. cond b (unbroken_at (option_map broken (end_of w.ends (s.router, c)))) (is_unbroken w.ends (s.router, c))) (other_end router s.router name c (names.symm name c ∙ other)))
          (h.clients c s there)
      at c s there true same =
          let was = h.clients c s there in
          record {
            attached = whole c s there ∙ ap (λ b. cond b (unbroken_at (option_map broken (end_of w.ends (s.router, c)))) (is_unbroken w.ends (s.router, c))) (its_end c s there same)
                ∙ cut (end_of w.ends (s.router, c)) ∙ sym (gone c same);
            listed = λ kind. same_listed (standing_more acts n act c (class_of kind)) refl (λ i. stands_more acts n act c kind i) (was.listed kind);
          }

      nobody : (c : Name) → IsUnspoken acts c → IsUnspoken (acts ++ (n, act) ∷ []) c
      nobody c was = record {
        attached = attached_more acts n act c ∙ ap (λ b. b && not (is_named c name)) was.attached;
        none = λ class. standing_more acts n act c class ∙ was.none class;
      }

  -- ---- a client declares something, or takes it back

  module _ (n : ℕ) (act : Act) (name : Name) (s t : ClientState) (found : client_of w.clients name ≡ Some s) (home : t.router ≡ s.router) (e : EndState) (at_end : end_of w.ends (s.router, name) ≡ Some e)
      (msg : Msg) (quiet : (c : Name) → is_named c name ≡ false → IsNoNews act c) (attached : (c : Name) (so_far : Bool) → attached_by c so_far act ≡ so_far)
      (listed : (kind : Kind) → AreListed (class_of kind) (standing_by name (class_of kind) (standing acts name (class_of kind)) act) (ids_of t kind) (λ id. stands_by name kind id (stands acts name kind id) act)) where
    news : (v : WorldState) → v.ends ≡ with_end w.ends (s.router, name) (sent e msg n) → v.clients ≡ with_client w.clients name t → Spoken (acts ++ (n, act) ∷ []) v
    news v ends_are clients_are = record {
      clients = λ c q there. at c q (is_named name c) refl (sym (client_is c) ∙ there);
      others = λ c none. nobody c (is_named name c) refl (sym (client_is c) ∙ none);
    }
      where
        client_is : (c : Name) → client_of v.clients c ≡ cond (is_named name c) (Some t) (client_of w.clients c)
        client_is c = ap (λ cs. client_of cs c) clients_are ∙ read_after (λ o. o) w.clients name c s t found

        whole : (q : End) → is_unbroken v.ends q ≡ is_unbroken w.ends q
        whole q = ap (λ es. is_unbroken es q) ends_are ∙ keep_with_end w.ends (s.router, name) (sent e msg n) unbroken_at q e at_end refl

        its_own : IsSpoken (acts ++ (n, act) ∷ []) v name t
        its_own = record {
          attached = ap (λ x. is_unbroken v.ends (x, name)) home ∙ whole (s.router, name) ∙ (h.clients name s found).attached ∙ sym (attached_more acts n act name ∙ attached name (is_attached acts name));
          listed = λ kind. same_listed (standing_more acts n act name (class_of kind)) refl (λ id. stands_more acts n act name kind id) (listed kind);
        }

        at : (c : Name) (q : ClientState) (b : Bool) → is_named name c ≡ b → cond b (Some t) (client_of w.clients c) ≡ Some q → IsSpoken (acts ++ (n, act) ∷ []) v c q
        at c q true same there =
            let one : t ≡ q = cc in
            subst (λ (x : ClientState). IsSpoken (acts ++ (n, act) ∷ []) v c x) one (subst (λ (y : Name). IsSpoken (acts ++ (n, act) ∷ []) v y t) (same_is name c same) its_own)
        at c q false other there = still_spoken acts n act c (quiet c (names.symm c name ∙ other)) w v q q refl (whole (q.router, c)) (h.clients c q there)

        nobody : (c : Name) (b : Bool) → is_named name c ≡ b → cond b (Some t) (client_of w.clients c) ≡ None → IsUnspoken (acts ++ (n, act) ∷ []) c
        nobody c true same none = absurd (true≢false (ap is_some none))
        nobody c false other none = still_unspoken acts n act c (quiet c (names.symm c name ∙ other)) (h.others c none)

  -- of one id, of any kind
  module _ (n : ℕ) (act : Act) (name : Name) (kind : Kind) (id : ℕ) (said : Option Decl) (is : (meaning act).declares ≡ Some (record { client = name; class = class_of kind; id = id; decl = said }))
      (attached : (c : Name) (so_far : Bool) → attached_by c so_far act ≡ so_far) where
    quiet_else : (c : Name) → is_named c name ≡ false → IsNoNews act c
    quiet_else c other = record { attached = attached c; declares = ap (λ o. option_map_or (λ (d : Declares). is_named c d.client) o false) is ∙ other }

    abbrev it : Declares
    it = record { client = name; class = class_of kind; id = id; decl = said }

    -- what the act does to what the client has
    its_own_is : {X : Type 0} (test : Declares → Bool) (f : Declares → X) (x : X) → option_map_or (λ d. cond (is_named name d.client && test d) (f d) x) (meaning act).declares x ≡ cond (test it) (f it) x
    its_own_is test f x =
        ap (λ o. option_map_or (λ (d : Declares). cond (is_named name d.client && test d) (f d) x) o x) is ∙ ap (λ b. cond (b && test it) (f it) x) (same_refl name)

    declares_it : (s : ClientState) → client_of w.clients name ≡ Some s → IfSome said (λ d. (d.kind ≡ kind) × (has_id s kind id ≡ false)) → (e : EndState) → end_of w.ends (s.router, name) ≡ Some e → (msg : Msg) (v : WorldState) →
        v.ends ≡ with_end w.ends (s.router, name) (sent e msg n) → v.clients ≡ with_client w.clients name (with_ids s kind (ids_then id said (ids_of s kind))) → Spoken (acts ++ (n, act) ∷ []) v
    declares_it s found new e at_end msg v = news n act name s (with_ids s kind (ids_then id said (ids_of s kind))) found (same_home s kind (ids_then id said (ids_of s kind))) e at_end msg quiet_else attached listed v
      where
        fresh : (other : Kind) → is_one kind other ≡ true → IfSome said (λ d. (class_of d.kind ≡ class_of other) × (list_any (λ y. y == id) (ids_of s other) ≡ false))
        fresh other one = by said new (one_class s kind other one)
          where
            by : (o : Option Decl) → IfSome o (λ d. (d.kind ≡ kind) × (has_id s kind id ≡ false)) → (class_of kind ≡ class_of other) × (ids_of s kind ≡ ids_of s other) →
                IfSome o (λ d. (class_of d.kind ≡ class_of other) × (list_any (λ y. y == id) (ids_of s other) ≡ false))
            by None h same = tt
            by (Some d) h same = (ap class_of h.0 ∙ same.0, ap (list_any (λ y. y == id)) (sym same.1) ∙ h.1)

        listed : (other : Kind) → AreListed (class_of other) (standing_by name (class_of other) (standing acts name (class_of other)) act) (ids_of (with_ids s kind (ids_then id said (ids_of s kind))) other)
            (λ i. stands_by name other i (stands acts name other i) act)
        listed other =
            let so_far : List Standing = standing acts name (class_of other) in
            same_listed (its_own_is (λ d. class_rank d.class == class_rank (class_of other)) (λ d. stands_then so_far d.id d.decl) so_far)
            (with_others (ids_then id said) s kind other)
            (λ i. its_own_is (λ d. is_same_id other i d.class d.id) (λ d. d.decl) (stands acts name other i))
            (listed_then (is_one kind other) id said (fresh other) ((h.clients name s found).listed other))

  declares : (n : ℕ) (act : Act) (name : Name) (kind : Kind) (id : ℕ) (key : List ℕ) (msg : Msg) →
      (meaning act).declares ≡ Some (record { client = name; class = class_of kind; id = id; decl = Some (record { kind = kind; key = key }) }) → ((c : Name) (so_far : Bool) → attached_by c so_far act ≡ so_far) →
      IfSome (went now (declare_step w n name kind id key msg)) (SpokenThen n act)
  declares n act name kind id key msg is attached = for_declare now (SpokenThen n act) n name kind id key msg (λ s found fresh e at_end unbroken r there room.
      declares_it n act name kind id (Some (record { kind = kind; key = key })) is attached s found (refl, fresh) e at_end msg (on_declare now n name kind id key msg s e r).world refl refl)

  withdraws : (n : ℕ) (act : Act) (name : Name) (kind : Kind) (id : ℕ) (msg : Msg) → (meaning act).declares ≡ Some (record { client = name; class = class_of kind; id = id; decl = None }) →
      ((c : Name) (so_far : Bool) → attached_by c so_far act ≡ so_far) → IfSome (went now (undeclare_step w n name kind id msg)) (SpokenThen n act)
  withdraws n act name kind id msg is attached = for_undeclare now (SpokenThen n act) n name kind id msg (λ s found known e at_end unbroken.
      declares_it n act name kind id None is attached s found tt e at_end msg (on_undeclare now n name kind id msg s e).world refl refl)

  able_is : (name : Name) (id : ℕ) (key : List ℕ) (complete : Bool) →
      (meaning (a.Able name id key complete)).declares ≡ Some (record { client = name; class = class_of (able_kind complete); id = id; decl = Some (record { kind = able_kind complete; key = key }) })
  able_is name id key true = refl
  able_is name id key false = refl

  -- ---- acts

  pub spoken_keep : (n : ℕ) (act : Act) → IfSome (went now (outcome w n act)) (SpokenThen n act)
  unfolding outcome
  spoken_keep n (a.Router id) = for_router now (SpokenThen n (a.Router id)) id (λ free room.
      still n (a.Router id) (on_router now id).world
      (λ c. record { attached = λ so_far. refl; declares = refl }) (same_clients w.clients) (λ c s there. refl))
  spoken_keep n (a.Client id router) = for_client now (SpokenThen n (a.Client id router)) n id router (λ r found free room taken. comes n id router r found free)
  spoken_keep n (a.Link one other weight) = for_link now (SpokenThen n (a.Link one other weight)) one other weight (λ apart r found q found' new room. linked n one other weight r q found found')
  spoken_keep n (a.Up router name) = for_up now (SpokenThen n (a.Up router name)) n router name (λ r found there s at_end unbroken down taken.
      still n (a.Up router name) (on_up now n router name r s).world
      (λ c. record { attached = λ so_far. refl; declares = refl })
      (same_clients w.clients) (λ c t client. keep_heard (with_end w.ends (router, name) (lifted s)) router r (up_event r (peer_of w name s.weight)) n unbroken_at (t.router, c) (λ e ws. refl)
      ∙ keep_with_end w.ends (router, name) (lifted s) unbroken_at (t.router, c) s at_end refl))
  spoken_keep n (a.Break router name) = for_break now (SpokenThen n (a.Break router name)) router name (λ r found there s at_end unbroken. breaks n router name r found s at_end)
  spoken_keep n (a.Down router name) = for_down now (SpokenThen n (a.Down router name)) n router name (λ r found there s at_end up cut link number taken.
      still n (a.Down router name) (on_down now n router name r link).world
      (λ c. record { attached = λ so_far. refl; declares = refl })
      (same_clients w.clients) (λ c t client. keep_changed (all_heard w.ends router r (Down link) n) (router, name) lowered unbroken_at (t.router, c) (λ e. refl)
      ∙ keep_heard w.ends router r (Down link) n unbroken_at (t.router, c) (λ e ws. refl)))
  spoken_keep n (a.Sub client id key) = declares n (a.Sub client id key) client k.Sub id key (m.Sub id key) refl (λ c so_far. refl)
  spoken_keep n (a.Unsub client id) = withdraws n (a.Unsub client id) client k.Sub id (m.Unsub id) refl (λ c so_far. refl)
  spoken_keep n (a.Token client id key) = declares n (a.Token client id key) client k.Token id key (m.Token id key) refl (λ c so_far. refl)
  spoken_keep n (a.Untoken client id) = withdraws n (a.Untoken client id) client k.Token id (m.Untoken id) refl (λ c so_far. refl)
  spoken_keep n (a.Able client id key complete) = declares n (a.Able client id key complete) client (able_kind complete) id key (m.Able id key complete) (able_is client id key complete) (λ c so_far. refl)
  spoken_keep n (a.Unable client id) = withdraws n (a.Unable client id) client k.Able id (m.Unable id) refl (λ c so_far. refl)
  spoken_keep n (a.Interest client id mode kinds key aggregate) =
      let act : Act = a.Interest client id mode kinds key aggregate in
      let msg : Msg = m.Interest id (is_current mode) (is_future mode) kinds key aggregate in
      interest_says now (SpokenThen n act) n client id mode kinds key aggregate
      (says n act client msg (λ c. record { attached = λ so_far. refl; declares = refl }))
      (weighs n act client (unwrap_or key []) msg (λ c. record { attached = λ so_far. refl; declares = refl }))
  spoken_keep n (a.Uninterest client id) = uninterest_says now (SpokenThen n (a.Uninterest client id)) n client id
      (says n (a.Uninterest client id) client (m.EndInterest id)
      (λ c. record { attached = λ so_far. refl; declares = refl }))
  spoken_keep n (a.Publish client content) = publish_says now (SpokenThen n (a.Publish client content)) n client content
      (says n (a.Publish client content) client (m.Push None content)
      (λ c. record { attached = λ so_far. refl; declares = refl }))
  spoken_keep n (a.Get client number target content) = get_says now (SpokenThen n (a.Get client number target content)) n client number target content
      (says n (a.Get client number target content) client (m.Request None number target content)
      (λ c. record { attached = λ so_far. refl; declares = refl }))
  spoken_keep n (a.Reply client number content) = reply_says now (SpokenThen n (a.Reply client number content)) n client number content
      (says n (a.Reply client number content) client (m.Response number content)
      (λ c. record { attached = λ so_far. refl; declares = refl }))
  spoken_keep n (a.End client number) = end_says now (SpokenThen n (a.End client number)) n client number
      (says n (a.End client number) client (m.Final number no_extras)
      (λ c. record { attached = λ so_far. refl; declares = refl }))
  spoken_keep n (a.Handle router from) = for_handle now (SpokenThen n (a.Handle router from)) router from (λ r found there s at_end up msg tag xs front link number taken.
      still n (a.Handle router from) (on_handle now router from r s link msg tag xs).world
      (λ c. record { attached = λ so_far. refl; declares = refl })
      (same_clients w.clients) (λ c t client. keep_heard (with_end w.ends (router, from) (with_wire s xs)) router r (From link msg) tag unbroken_at (t.router, c) (λ e ws. refl)
      ∙ keep_with_end w.ends (router, from) (with_wire s xs) unbroken_at (t.router, c) s at_end refl))
  spoken_keep n (a.Take router to) = for_take now (SpokenThen n (a.Take router to)) router to (λ r found there s at_end up unbroken msg tag xs front.
      still n (a.Take router to) (on_take now router to s msg tag xs).world
      (λ c. record { attached = λ so_far. refl; declares = refl })
      (same_received w.clients to msg) (λ c t client. keep_changed (with_end w.ends (router, to) (with_queue s xs)) (to, router) (λ e. sent e msg tag) unbroken_at (t.router, c) (λ e. refl)
      ∙ keep_with_end w.ends (router, to) (with_queue s xs) unbroken_at (t.router, c) s at_end refl))
  spoken_keep n a.Mark = for_mark now (SpokenThen n a.Mark) n (λ settled joined.
      still n a.Mark now.world
      (λ c. record { attached = λ so_far. refl; declares = refl }) (same_clients w.clients) (λ c s there. refl))
  spoken_keep n (a.Show router) = for_show now (SpokenThen n (a.Show router)) router (λ r found.
      still n (a.Show router) now.world
      (λ c. record { attached = λ so_far. refl; declares = refl }) (same_clients w.clients) (λ c s there. refl))
