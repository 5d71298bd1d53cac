-- What a client says comes onto the wire to its router (`says`), and its router hears of it (`client_brings`).
use Rattle.std.proofs.Common.{◌≡◌, ℕ, ◌≤◌, Bool, true, false, cond, List, [], ◌∷◌, ◌++◌, length, Option, Some, None, Ok, Err, refl, sym, ap, ◌∙◌, subst, append-nil, add-zero}
use Rattle.std.specs.Prelude.{◌+◌, ◌||◌, nat_le, is_some, unwrap_or}
use Rattle.std.proofs.lemmas.Bool.{false≢true}
use Rattle.std.proofs.lemmas.Map.{length-set_value}
use Rattle.std.specs.List.{cons_option}
use Rattle.zr_id.specs.Zid.{is_named}
use Rattle.zr_id.specs.declared.link.LinkNo.{LinkNo}
use Rattle.zr_msg.specs.Extras.{no_extras}
use Rattle.zr_msg.specs.declared.decl.Kind.{Kind}
use Rattle.zr_msg.specs.declared.decl.Kind.TheVariants as k
use Rattle.zr_msg.specs.declared.event.Event.TheVariants.{From}
use Rattle.zr_msg.specs.declared.content.Parts.{Parts}
use Rattle.zr_msg.specs.declared.msg.Kinds.{Kinds}
use Rattle.zr_msg.specs.declared.msg.Target.{Target}
use Rattle.zr_msg.specs.declared.msg.Msg.{Msg}
use Rattle.zr_msg.specs.declared.msg.Msg.TheVariants as m
use Rattle.zr_node_spec.specs.Tables.{link_to}
use Rattle.zr_told_spec.specs.Hub.{hub_refuses}
use Rattle.zr_script_spec.specs.declared.error.ScriptError.TheVariants.{UnknownName, NameTaken, NotAsked, Limit}
use Rattle.zr_script_spec.specs.declared.command.Act.{Act}
use Rattle.zr_script_spec.specs.declared.command.Act.TheVariants as a
use Rattle.zr_script_spec.specs.declared.command.Mode.TheVariants.{Now, Later, Both}
use Rattle.zr_world_spec.specs.World.{Tagged, ClientState, RouterState, EndState, End, WorldState, is_end, router_of, client_of, with_router, with_client, end_of, with_end, with_ends, with_clients, with_routers, with_wire, sent, unsettles, most_weight, most_queries, weight_of, wire_at}
use Rattle.zr_world_spec.specs.Acts.{outcome, client_at, has_number, has_id, weighing, weighed, declaring, undeclaring, wanting, unwanting, asking, ending, number_to, declare_step, undeclare_step, interest_step, uninterest_step, publish_step, get_step, reply_step, end_step}
use Rattle.zr_world_spec.specs.Moments.{Moment, then_at}
use Rattle.zr_world_spec.proofs.Cases.{w_sent}
use Rattle.zr_world_spec.proofs.Ends.{ends as ends_refl, same_end, with_end_is}
use Rattle.zr_world_spec.proofs.Names.{same_name, value_after}
use Rattle.zr_world_spec.proofs.Sound.{act_keeps}
use Rattle.zr_guarantee.specs.Phase.{stays}
use Rattle.zr_law_running.specs.Runs.{Saying, Several, heard, weighs, MaySay, said, saying}
use Rattle.zr_law_running.specs.Deeds.{deed_of}
use Rattle.zr_law_running.specs.Allowed.{is_among}
use Rattle.zr_law_running.proofs.Steps.{Span, did, did_more, next_number, one_more, by_ok, by_test, by_pass, sends_goes}
use Rattle.zr_law_running.proofs.Holding.{read, router_in, IsHome, Homes, is_client, messages_to, Calm}
use Rattle.zr_law_running.proofs.Hearing.{at_true}
use Rattle.zr_law_running.proofs.Draining.{sound_after, Standing}
use Rattle.zr_law_running.proofs.Going.{UpEnd, up_end}
use Rattle.zr_law_running.proofs.Handling.{handled}

-- ---- what a client says is on the wire

-- an act has put a client's message on the wire: the client has said it, and its router bears what that weighs
pub record Says (w : WorldState) (n : ℕ) (name : List ℕ) (s : ClientState) (e : EndState) (r : RouterState) (msg : Msg) : Type 0 where
  pub act : Act
  pub then : WorldState
  pub stays_so : (unsettles msg || stays act) ≡ true
  pub deed : deed_of act ≡ Some (Saying name msg)
  pub goes : outcome w n act ≡ Ok ([], then)
  pub ends : then.ends ≡ with_end w.ends (s.router, name) (sent e msg n)
  pub clients : (q : List ℕ) → client_of then.clients q ≡ cond (is_named name q) (Some (said s msg)) (client_of w.clients q)
  pub count : length then.clients ≡ length w.clients
  pub routers : (q : List ℕ) → router_of then.routers q ≡ cond (is_named s.router q) (Some (record { node = r.node; told = r.told; weight = r.weight + weighs msg })) (router_of w.routers q)

module _ (w : WorldState) (n : ℕ) (name : List ℕ) (s : ClientState) (es : client_of w.clients name ≡ Some s) (e : EndState) (ee : end_of w.ends (s.router, name) ≡ Some e) (whole : e.unbroken ≡ true)
    (r : RouterState) (er : router_of w.routers s.router ≡ Some r) where
  with_client_is : (t : ClientState) (q : List ℕ) → client_of (with_client w.clients name t) q ≡ cond (is_named name q) (Some t) (client_of w.clients q)
  with_client_is t q = value_after w.clients name q t (ap is_some es)

  same_client_is : (q : List ℕ) → client_of w.clients q ≡ cond (is_named name q) (Some s) (client_of w.clients q)
  same_client_is q = by (is_named name q) refl
    where
      by : (b : Bool) → is_named name q ≡ b → client_of w.clients q ≡ cond b (Some s) (client_of w.clients q)
      by true i = ap (client_of w.clients) (sym (same_name name q i)) ∙ es
      by false i = refl

  weighed_is : (key : List ℕ) (q : List ℕ) → router_of (with_router w.routers s.router (weighing r key)) q
      ≡ cond (is_named s.router q) (Some (record { node = r.node; told = r.told; weight = r.weight + weight_of key })) (router_of w.routers q)
  weighed_is key q = value_after w.routers s.router q (weighing r key) (ap is_some er)

  unweighed_is : (q : List ℕ) → router_of w.routers q ≡ cond (is_named s.router q) (Some (record { node = r.node; told = r.told; weight = r.weight + 0 })) (router_of w.routers q)
  unweighed_is q = by (is_named s.router q) refl
    where
      same : r ≡ record { node = r.node; told = r.told; weight = r.weight + 0 }
      same = ap (λ z. record { node = r.node; told = r.told; weight = z }) (sym (add-zero r.weight))

      by : (b : Bool) → is_named s.router q ≡ b → router_of w.routers q ≡ cond b (Some (record { node = r.node; told = r.told; weight = r.weight + 0 })) (router_of w.routers q)
      by true i = ap (router_of w.routers) (sym (same_name s.router q i)) ∙ er ∙ ap Some same
      by false i = refl

  weighed_fits : (key : List ℕ) → nat_le (r.weight + weight_of key) most_weight ≡ true → weighed w.routers s.router key (router_of w.routers s.router) ≡ Ok (with_router w.routers s.router (weighing r key))
  weighed_fits key room = ap (weighed w.routers s.router key) er ∙ ap (λ b. cond b (Ok (with_router w.routers s.router (weighing r key))) (Err Limit)) room

  same_count : (t : ClientState) → length (with_client w.clients name t) ≡ length w.clients
  same_count t = length-set_value (is_named name) w.clients t

  abbrev onto : Msg → WorldState
  onto msg = w_sent w n name s e msg

  declare_goes : (kind : Kind) (id : ℕ) (key : List ℕ) (msg : Msg) → has_id s kind id ≡ false → nat_le (r.weight + weight_of key) most_weight ≡ true →
      declare_step w n name kind id key msg ≡ Ok ([], with_clients (with_routers (onto msg) (with_router w.routers s.router (weighing r key))) (with_client w.clients name (declaring s kind id)))
  unfolding declare_step
  declare_goes kind id key msg free room = by_ok (client_at (client_of w.clients name)) _ s _ (ap client_at es) (by_pass (has_id s kind id) NameTaken _ _ free
      (sends_goes w n name s e msg _ _ ee whole (by_ok (weighed w.routers s.router key (router_of w.routers s.router)) _ (with_router w.routers s.router (weighing r key)) _ (weighed_fits key room) refl)))

  undeclare_goes : (kind : Kind) (id : ℕ) (msg : Msg) → has_id s kind id ≡ true → undeclare_step w n name kind id msg ≡ Ok ([], with_clients (onto msg) (with_client w.clients name (undeclaring s kind id)))
  unfolding undeclare_step
  undeclare_goes kind id msg there = by_ok (client_at (client_of w.clients name)) _ s _ (ap client_at es) (by_test (has_id s kind id) UnknownName _ _ there (sends_goes w n name s e msg _ _ ee whole refl))

  both_goes : (id : ℕ) (kinds : Kinds) (key : Option (List ℕ)) (aggregate : Bool) → has_number s.interests id ≡ false → nat_le (r.weight + weight_of (unwrap_or key [])) most_weight ≡ true →
      interest_step w n name id Both kinds key aggregate
      ≡ Ok ([], with_clients (with_routers (onto (m.Interest id true true kinds key aggregate)) (with_router w.routers s.router (weighing r (unwrap_or key [])))) (with_client w.clients name (wanting s id)))
  unfolding interest_step
  both_goes id kinds key aggregate free room = by_ok (client_at (client_of w.clients name)) _ s _ (ap client_at es) (by_pass (has_number s.interests id) NameTaken _ _ free
      (sends_goes w n name s e (m.Interest id true true kinds key aggregate) _ _ ee whole
      (by_ok (weighed w.routers s.router (unwrap_or key []) (router_of w.routers s.router)) _ (with_router w.routers s.router (weighing r (unwrap_or key []))) _ (weighed_fits (unwrap_or key []) room) refl)))

  later_goes : (id : ℕ) (kinds : Kinds) (key : Option (List ℕ)) (aggregate : Bool) → has_number s.interests id ≡ false → nat_le (r.weight + weight_of (unwrap_or key [])) most_weight ≡ true →
      interest_step w n name id Later kinds key aggregate
      ≡ Ok ([], with_clients (with_routers (onto (m.Interest id false true kinds key aggregate)) (with_router w.routers s.router (weighing r (unwrap_or key [])))) (with_client w.clients name (wanting s id)))
  unfolding interest_step
  later_goes id kinds key aggregate free room = by_ok (client_at (client_of w.clients name)) _ s _ (ap client_at es) (by_pass (has_number s.interests id) NameTaken _ _ free
      (sends_goes w n name s e (m.Interest id false true kinds key aggregate) _ _ ee whole
      (by_ok (weighed w.routers s.router (unwrap_or key []) (router_of w.routers s.router)) _ (with_router w.routers s.router (weighing r (unwrap_or key []))) _ (weighed_fits (unwrap_or key []) room) refl)))

  now_goes : (id : ℕ) (kinds : Kinds) (key : Option (List ℕ)) (aggregate : Bool) → has_number s.interests id ≡ false →
      interest_step w n name id Now kinds key aggregate ≡ Ok ([], onto (m.Interest id true false kinds key aggregate))
  unfolding interest_step
  now_goes id kinds key aggregate free = by_ok (client_at (client_of w.clients name)) _ s _ (ap client_at es) (by_pass (has_number s.interests id) NameTaken _ _ free
      (sends_goes w n name s e (m.Interest id true false kinds key aggregate) _ _ ee whole refl))

  -- an act that weighs, and one that doesn't
  abbrev heavy : (msg : Msg) (key : List ℕ) (t : ClientState) → WorldState
  heavy msg key t = with_clients (with_routers (onto msg) (with_router w.routers s.router (weighing r key))) (with_client w.clients name t)

  says_interest : (id : ℕ) (current future : Bool) (kinds : Kinds) (key : Option (List ℕ)) (aggregate : Bool) → has_number s.interests id ≡ false → (current || future) ≡ true →
      nat_le (r.weight + weighs (m.Interest id current future kinds key aggregate)) most_weight ≡ true → Says w n name s e r (m.Interest id current future kinds key aggregate)
  unfolding outcome
  says_interest id true true kinds key aggregate free some room = record {
    act = a.Interest name id Both kinds key aggregate;
    then = heavy (m.Interest id true true kinds key aggregate) (unwrap_or key []) (wanting s id);
    stays_so = refl;
    deed = refl;
    goes = both_goes id kinds key aggregate free room;
    ends = refl;
    clients = with_client_is (wanting s id);
    count = same_count (wanting s id);
    routers = weighed_is (unwrap_or key []);
  }
  says_interest id false true kinds key aggregate free some room = record {
    act = a.Interest name id Later kinds key aggregate;
    then = heavy (m.Interest id false true kinds key aggregate) (unwrap_or key []) (wanting s id);
    stays_so = refl;
    deed = refl;
    goes = later_goes id kinds key aggregate free room;
    ends = refl;
    clients = with_client_is (wanting s id);
    count = same_count (wanting s id);
    routers = weighed_is (unwrap_or key []);
  }
  says_interest id true false kinds key aggregate free some room = record {
    act = a.Interest name id Now kinds key aggregate;
    then = onto (m.Interest id true false kinds key aggregate);
    stays_so = refl;
    deed = refl;
    goes = now_goes id kinds key aggregate free;
    ends = refl;
    clients = same_client_is;
    count = refl;
    routers = unweighed_is;
  }
  says_interest id false false kinds key aggregate free some room = absurd (false≢true some)

  says_able : (id : ℕ) (key : List ℕ) (complete : Bool) → has_id s k.Able id ≡ false → nat_le (r.weight + weight_of key) most_weight ≡ true → Says w n name s e r (m.Able id key complete)
  unfolding outcome
  says_able id key true free room = record {
    act = a.Able name id key true;
    then = heavy (m.Able id key true) key (declaring s k.Full id);
    stays_so = refl;
    deed = refl;
    goes = declare_goes k.Full id key (m.Able id key true) free room;
    ends = refl;
    clients = with_client_is (declaring s k.Full id);
    count = same_count (declaring s k.Full id);
    routers = weighed_is key;
  }
  says_able id key false free room = record {
    act = a.Able name id key false;
    then = heavy (m.Able id key false) key (declaring s k.Able id);
    stays_so = refl;
    deed = refl;
    goes = declare_goes k.Able id key (m.Able id key false) free room;
    ends = refl;
    clients = with_client_is (declaring s k.Able id);
    count = same_count (declaring s k.Able id);
    routers = weighed_is key;
  }

  light : (msg : Msg) (act : Act) (t : ClientState) → said s msg ≡ t → weighs msg ≡ 0 → (unsettles msg || stays act) ≡ true → deed_of act ≡ Some (Saying name msg) → outcome w n act ≡ Ok ([], with_clients (onto msg) (with_client w.clients name t)) → Says w n name s e r msg
  light msg act t same none so deed goes = record {
    act = act;
    then = with_clients (onto msg) (with_client w.clients name t);
    stays_so = so;
    deed = deed;
    goes = goes;
    ends = refl;
    clients = λ q. with_client_is t q ∙ ap (λ z. cond (is_named name q) (Some z) (client_of w.clients q)) (sym same);
    count = same_count t;
    routers = λ q. unweighed_is q ∙ ap (λ z. cond (is_named s.router q) (Some (record { node = r.node; told = r.told; weight = r.weight + z })) (router_of w.routers q)) (sym none);
  }

  silent : (msg : Msg) (act : Act) → said s msg ≡ s → weighs msg ≡ 0 → (unsettles msg || stays act) ≡ true → deed_of act ≡ Some (Saying name msg) → outcome w n act ≡ Ok ([], onto msg) → Says w n name s e r msg
  silent msg act same none so deed goes = record {
    act = act;
    then = onto msg;
    stays_so = so;
    deed = deed;
    goes = goes;
    ends = refl;
    clients = λ q. same_client_is q ∙ ap (λ z. cond (is_named name q) (Some z) (client_of w.clients q)) (sym same);
    count = refl;
    routers = λ q. unweighed_is q ∙ ap (λ z. cond (is_named s.router q) (Some (record { node = r.node; told = r.told; weight = r.weight + z })) (router_of w.routers q)) (sym none);
  }

  publish_goes : (content : Parts) → outcome w n (a.Publish name content) ≡ Ok ([], onto (m.Push None content))
  unfolding outcome publish_step
  publish_goes content = by_ok (client_at (client_of w.clients name)) _ s _ (ap client_at es) (sends_goes w n name s e (m.Push None content) _ _ ee whole refl)

  get_goes : (number : ℕ) (target : Target) (content : Parts) → has_number s.queries number ≡ false → nat_le most_queries (length s.queries) ≡ false →
      outcome w n (a.Get name number target content) ≡ Ok ([], with_clients (onto (m.Request None number target content)) (with_client w.clients name (asking s number)))
  unfolding outcome get_step
  get_goes number target content free room = by_ok (client_at (client_of w.clients name)) _ s _ (ap client_at es) (by_pass (has_number s.queries number) NameTaken _ _ free
      (sends_goes w n name s e (m.Request None number target content) _ _ ee whole (by_pass (nat_le most_queries (length s.queries)) Limit _ _ room refl)))

  reply_goes : (number : ℕ) (content : Parts) → has_number s.requests number ≡ true → outcome w n (a.Reply name number content) ≡ Ok ([], onto (m.Response number content))
  unfolding outcome reply_step
  reply_goes number content asked = by_ok (client_at (client_of w.clients name)) _ s _ (ap client_at es)
      (sends_goes w n name s e (m.Response number content) _ _ ee whole (by_test (has_number s.requests number) NotAsked _ _ asked refl))

  end_goes : (number : ℕ) → has_number s.requests number ≡ true → outcome w n (a.End name number) ≡ Ok ([], with_clients (onto (m.Final number no_extras)) (with_client w.clients name (ending s number)))
  unfolding outcome end_step
  end_goes number asked = by_ok (client_at (client_of w.clients name)) _ s _ (ap client_at es)
      (sends_goes w n name s e (m.Final number no_extras) _ _ ee whole (by_test (has_number s.requests number) NotAsked _ _ asked refl))

  uninterest_goes : (id : ℕ) → has_number s.interests id ≡ true → outcome w n (a.Uninterest name id) ≡ Ok ([], with_clients (onto (m.EndInterest id)) (with_client w.clients name (unwanting s id)))
  unfolding outcome uninterest_step
  uninterest_goes id there = by_ok (client_at (client_of w.clients name)) _ s _ (ap client_at es) (by_test (has_number s.interests id) UnknownName _ _ there
      (sends_goes w n name s e (m.EndInterest id) _ _ ee whole refl))

  says_sub : (id : ℕ) (key : List ℕ) → has_id s k.Sub id ≡ false → nat_le (r.weight + weight_of key) most_weight ≡ true → Says w n name s e r (m.Sub id key)
  unfolding outcome
  says_sub id key free room = record {
    act = a.Sub name id key;
    then = heavy (m.Sub id key) key (declaring s k.Sub id);
    stays_so = refl;
    deed = refl;
    goes = declare_goes k.Sub id key (m.Sub id key) free room;
    ends = refl;
    clients = with_client_is (declaring s k.Sub id);
    count = same_count (declaring s k.Sub id);
    routers = weighed_is key;
  }

  says_token : (id : ℕ) (key : List ℕ) → has_id s k.Token id ≡ false → nat_le (r.weight + weight_of key) most_weight ≡ true → Says w n name s e r (m.Token id key)
  unfolding outcome
  says_token id key free room = record {
    act = a.Token name id key;
    then = heavy (m.Token id key) key (declaring s k.Token id);
    stays_so = refl;
    deed = refl;
    goes = declare_goes k.Token id key (m.Token id key) free room;
    ends = refl;
    clients = with_client_is (declaring s k.Token id);
    count = same_count (declaring s k.Token id);
    routers = weighed_is key;
  }

  unsub_goes : (id : ℕ) → has_id s k.Sub id ≡ true → outcome w n (a.Unsub name id) ≡ Ok ([], with_clients (onto (m.Unsub id)) (with_client w.clients name (undeclaring s k.Sub id)))
  unfolding outcome
  unsub_goes id there = undeclare_goes k.Sub id (m.Unsub id) there

  untoken_goes : (id : ℕ) → has_id s k.Token id ≡ true → outcome w n (a.Untoken name id) ≡ Ok ([], with_clients (onto (m.Untoken id)) (with_client w.clients name (undeclaring s k.Token id)))
  unfolding outcome
  untoken_goes id there = undeclare_goes k.Token id (m.Untoken id) there

  unable_goes : (id : ℕ) → has_id s k.Able id ≡ true → outcome w n (a.Unable name id) ≡ Ok ([], with_clients (onto (m.Unable id)) (with_client w.clients name (undeclaring s k.Able id)))
  unfolding outcome
  unable_goes id there = undeclare_goes k.Able id (m.Unable id) there

  pub says : (msg : Msg) → MaySay s msg → nat_le (r.weight + weighs msg) most_weight ≡ true → Says w n name s e r msg
  says (m.Sub id key) may room = says_sub id key may room
  says (m.Unsub id) may room = light (m.Unsub id) (a.Unsub name id) (undeclaring s k.Sub id) refl refl refl refl (unsub_goes id may)
  says (m.Token id key) may room = says_token id key may room
  says (m.Untoken id) may room = light (m.Untoken id) (a.Untoken name id) (undeclaring s k.Token id) refl refl refl refl (untoken_goes id may)
  says (m.Able id key complete) may room = says_able id key complete may room
  says (m.Unable id) may room = light (m.Unable id) (a.Unable name id) (undeclaring s k.Able id) refl refl refl refl (unable_goes id may)
  says (m.Interest id current future kinds key aggregate) may room = says_interest id current future kinds key aggregate may.0 may.1 room
  says (m.EndInterest id) may room = light (m.EndInterest id) (a.Uninterest name id) (unwanting s id) refl refl refl refl (uninterest_goes id may)
  says (m.ToldSub id key interest) may room = absurd may
  says (m.ToldAble id key complete interest) may room = absurd may
  says (m.ToldUnsub id) may room = absurd may
  says (m.ToldToken id key interest) may room = absurd may
  says (m.ToldUntoken id) may room = absurd may
  says (m.ToldUnable id) may room = absurd may
  says (m.ToldEnd interest) may room = absurd may
  says (m.Push tree content) may room = subst (λ z. Says w n name s e r (m.Push z content)) (sym may) (silent (m.Push None content) (a.Publish name content) refl refl refl refl (publish_goes content))
  says (m.Request tree id target content) may room =
      subst (λ z. Says w n name s e r (m.Request z id target content)) (sym may.0) (light (m.Request None id target content) (a.Get name id target content) (asking s id) refl refl refl refl (get_goes id target content may.1 may.2))
  says (m.Response id content) may room = silent (m.Response id content) (a.Reply name id content) refl refl refl refl (reply_goes id content may)
  says (m.Final id extras) may room = subst (λ z. Says w n name s e r (m.Final id z)) (sym may.1) (light (m.Final id no_extras) (a.End name id) (ending s id) refl refl refl refl (end_goes id may.0))
  says (m.State links) may room = absurd may
  says (m.Step source number added decl) may room = absurd may
  says (m.Snap source number decls) may room = absurd may

-- ---- and the router hears of it

-- a client stays with its router
router_said : (s : ClientState) (msg : Msg) → (said s msg).router ≡ s.router
router_said s (m.Sub id key) = refl
router_said s (m.Unsub id) = refl
router_said s (m.Token id key) = refl
router_said s (m.Untoken id) = refl
router_said s (m.Able id key complete) = refl
router_said s (m.Unable id) = refl
router_said s (m.Interest id current true kinds key aggregate) = refl
router_said s (m.Interest id current false kinds key aggregate) = refl
router_said s (m.EndInterest id) = refl
router_said s (m.ToldSub id key interest) = refl
router_said s (m.ToldAble id key complete interest) = refl
router_said s (m.ToldUnsub id) = refl
router_said s (m.ToldToken id key interest) = refl
router_said s (m.ToldUntoken id) = refl
router_said s (m.ToldUnable id) = refl
router_said s (m.ToldEnd interest) = refl
router_said s (m.Push tree content) = refl
router_said s (m.Request tree id target content) = refl
router_said s (m.Response id content) = refl
router_said s (m.Final id extras) = refl
router_said s (m.State links) = refl
router_said s (m.Step source number added decl) = refl
router_said s (m.Snap source number decls) = refl

module _ (g : Span) (ids : List (List ℕ)) (s : Several) (m : Moment) (st : Standing g ids s m) (x c : List ℕ) (known : is_among ids x ≡ true) (client : ClientState) (is : s.clients c ≡ Some client) (l : LinkNo) (msg : Msg)
    (may : MaySay client msg) (room : nat_le (s.weight x + weighs msg) most_weight ≡ true) (up_here : is_some (link_to (s.hub x).node.links c) ≡ true)
    (allowed : (act : Act) → (unsettles msg || stays act) ≡ true → g.test act ≡ true) (number : number_to (router_in s x) c ≡ Ok l) (taken : hub_refuses (s.hub x) (From l msg) ≡ None) where
  abbrev w : WorldState
  w = m.world

  abbrev r : RouterState
  r = router_in s x

  abbrev n : ℕ
  n = next_number g m st.came

  found : router_of w.routers x ≡ Some r
  found = st.holds.routers x ∙ at_true (is_among ids x) (Some (router_in s x)) None known

  ek : client_of w.clients c ≡ Some client
  ek = st.holds.clients c ∙ is

  here : UpEnd (end_of w.ends (x, c))
  here = up_end (end_of w.ends (x, c)) (sym (st.sound.links x c r found) ∙ up_here)

  home : IsHome client x (Some here.end)
  home = subst (IsHome client x) here.is (st.homes x c client ek)

  saying_it : Says w n c client here.end r msg
  saying_it = says w n c client ek here.end (ap (λ z. end_of w.ends (z, c)) home.0 ∙ here.is) (home.1 here.up) r (ap (router_of w.routers) home.0 ∙ found) msg may room

  abbrev u : WorldState
  u = saying_it.then

  abbrev middle : Moment
  middle = then_at m ([], u)

  abbrev mine : EndState
  mine = sent here.end msg n

  abbrev t : Tagged
  t = record { msg = msg; tag = n }

  ends_are : u.ends ≡ with_end w.ends (x, c) mine
  ends_are = saying_it.ends ∙ ap (λ z. with_end w.ends (z, c) mine) home.0

  end_then : (q : End) → end_of u.ends q ≡ cond (is_end (x, c) q) (Some mine) (end_of w.ends q)
  end_then q = ap (λ es. end_of es q) ends_are ∙ with_end_is w.ends (x, c) mine q (ap is_some here.is)

  own_then : end_of u.ends (x, c) ≡ Some mine
  own_then = end_then (x, c) ∙ at_true (is_end (x, c) (x, c)) (Some mine) (end_of w.ends (x, c)) (ends_refl.refl (x, c))

  wire_then : mine.wire ≡ t ∷ []
  wire_then = ap (λ z. z ++ t ∷ []) (ap wire_at (sym here.is) ∙ st.holds.wires (x, c))

  abbrev v : WorldState
  v = with_ends u (with_end u.ends (x, c) (with_wire mine []))

  end_last : (q : End) → end_of v.ends q ≡ cond (is_end (x, c) q) (Some (with_wire mine [])) (end_of w.ends q)
  end_last q = with_end_is u.ends (x, c) (with_wire mine []) q (ap is_some own_then) ∙ ap (cond (is_end (x, c) q) (Some (with_wire mine []))) (end_then q) ∙ by (is_end (x, c) q)
    where
      by : (b : Bool) → cond b (Some (with_wire mine [])) (cond b (Some mine) (end_of w.ends q)) ≡ cond b (Some (with_wire mine [])) (end_of w.ends q)
      by true = refl
      by false = refl

  abbrev left : Several
  left = saying s x c client msg

  routers_last : (q : List ℕ) → router_of u.routers q ≡ cond (is_among ids q) (Some (router_in left q)) None
  routers_last q = saying_it.routers q ∙ ap (λ z. cond (is_named z q) (Some (record { node = r.node; told = r.told; weight = r.weight + weighs msg })) (router_of w.routers q)) home.0 ∙ by (is_named x q) refl
    where
      by : (b : Bool) → is_named x q ≡ b → cond b (Some (record { node = r.node; told = r.told; weight = r.weight + weighs msg })) (router_of w.routers q)
          ≡ cond (is_among ids q) (Some (record { node = (s.hub q).node; told = (s.hub q).told; weight = cond b (s.weight x + weighs msg) (s.weight q) })) None
      by true i =
          sym (at_true (is_among ids q) (Some (record { node = (s.hub x).node; told = (s.hub x).told; weight = s.weight x + weighs msg })) None (ap (is_among ids) (sym (same_name x q i)) ∙ known))
          ∙ ap (λ z. cond (is_among ids q) (Some (record { node = (s.hub z).node; told = (s.hub z).told; weight = s.weight x + weighs msg })) None) (same_name x q i)
      by false i = st.holds.routers q

  client_same : (q : List ℕ) → is_client u q ≡ is_client w q
  client_same q = ap is_some (saying_it.clients q) ∙ by (is_named c q) refl
    where
      by : (b : Bool) → is_named c q ≡ b → is_some (cond b (Some (said client msg)) (client_of w.clients q)) ≡ is_client w q
      by true i = sym (ap (is_client w) (sym (same_name c q i)) ∙ ap is_some ek)
      by false i = refl

  calm_last : Calm ids left v middle.report
  calm_last = record {
    routers = routers_last;
    clients = λ q. saying_it.clients q ∙ ap (cond (is_named c q) (Some (said client msg))) (st.holds.clients q);
    apart = λ q i. st.holds.apart q (sym (client_same q) ∙ i);
    ends = λ q. ap read (end_last q) ∙ reads q (is_end (x, c) q) refl;
    wires = λ q. ap wire_at (end_last q) ∙ quiet q (is_end (x, c) q);
    rest = λ z q i. st.holds.rest z q (sym (client_same q) ∙ i);
    told = λ q alone. ap (λ z. messages_to z q) (append-nil m.report) ∙ st.holds.told q alone;
    came = subst (λ z. z ≤ s.came) (sym saying_it.count) st.holds.came;
  }
    where
      reads : (q : End) (b : Bool) → is_end (x, c) q ≡ b → read (cond b (Some (with_wire mine [])) (end_of w.ends q)) ≡ s.links q
      reads q true i = ap read (sym here.is) ∙ st.holds.ends (x, c) ∙ ap s.links (same_end (x, c) q i)
      reads q false i = st.holds.ends q

      quiet : (q : End) (b : Bool) → wire_at (cond b (Some (with_wire mine [])) (end_of w.ends q)) ≡ []
      quiet q true = refl
      quiet q false = st.holds.wires q

  homes_last : Homes v
  homes_last z q k i = by_client (is_named c q) refl (sym (saying_it.clients q) ∙ i)
    where
      at_end : (o : ClientState) → o.router ≡ k.router → IsHome o z (end_of w.ends (z, q)) → IsHome k z (end_of v.ends (z, q))
      at_end o same h = subst (IsHome k z) (sym (end_last (z, q))) (by (is_end (x, c) (z, q)) refl (of (end_of w.ends (z, q)) h))
        where
          of : (e : Option EndState) → IsHome o z e → IsHome k z e
          of None j = tt
          of (Some e) j = (sym same ∙ j.0, j.1)

          by : (b : Bool) → is_end (x, c) (z, q) ≡ b → IsHome k z (end_of w.ends (z, q)) → IsHome k z (cond b (Some (with_wire mine [])) (end_of w.ends (z, q)))
          by true j h =
              let at : end_of w.ends (z, q) ≡ Some here.end = ap (end_of w.ends) (sym (same_end (x, c) (z, q) j)) ∙ here.is in
              subst (IsHome k z) at h
          by false j h = h

      by_client : (b : Bool) → is_named c q ≡ b → cond b (Some (said client msg)) (client_of w.clients q) ≡ Some k → IsHome k z (end_of v.ends (z, q))
      by_client true j e =
          let is_it : said client msg ≡ k = cc in
          at_end client (sym (router_said client msg) ∙ ap (λ (y : ClientState). y.router) is_it) (st.homes z q client (ap (client_of w.clients) (sym (same_name c q j)) ∙ ek))
      by_client false j e = at_end k refl (st.homes z q k e)

  pub client_brings : (after : Moment) × Standing g ids (heard left x (From l msg)) after
  client_brings = handled g ids left middle (one_more g m st.came saying_it.act ([], u) (allowed saying_it.act saying_it.stays_so) saying_it.goes)
      (sound_after w (outcome w n saying_it.act) ([], u) saying_it.goes (act_keeps w n saying_it.act st.sound))
      x c known mine own_then here.up t wire_then homes_last calm_last l number taken
      (did_more g m st.came saying_it.act ([], u) (allowed saying_it.act saying_it.stays_so) saying_it.goes ∙ ap (λ o. did g m st.came ++ cons_option o []) saying_it.deed ∙ ap (λ z. z ++ Saying c msg ∷ []) st.deeds)
