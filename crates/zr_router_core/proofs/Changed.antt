-- What others declare stays as it is, but at the places that an event changes.
use Rattle.std.proofs.Common.{◌∙◌, ◌≡◌, ℕ, Bool, true, false, cond, not, ◌||◌, List, [], ◌∷◌, Option, Some, None, refl, sym, ap, subst}
use Rattle.std.specs.List.{list_any}
use Rattle.std.specs.Option.{option_map_or}
use Rattle.std.proofs.lemmas.Option.{none-some, same_Some}
use Rattle.zr_id.specs.declared.link.LinkNo.{LinkNo}
use Rattle.zr_id.specs.Record.{RecordState}
use Rattle.zr_graph.specs.Base.{is_newer, kept}
use Rattle.zr_local.specs.Clients.{clients_left}
use Rattle.zr_local.specs.declared.interest.ClientInterests.{ClientInterests}
use Rattle.zr_local.specs.Rows.{Key, declared, undeclared, left}
use Rattle.zr_local.specs.declared.row.Row.{Row}
use Rattle.zr_log.specs.Known.{after_step}
use Rattle.zr_log.specs.Log.{Change}
use Rattle.zr_msg.specs.declared.decl.Decl.{Decl}
use Rattle.zr_msg.specs.declared.decl.Kind.TheVariants as kind
use Rattle.zr_msg.specs.declared.event.Event.{Event}
use Rattle.zr_msg.specs.declared.event.Event.TheVariants.{Up, Down, From}
use Rattle.zr_msg.specs.declared.msg.Msg.{Msg}
use Rattle.zr_msg.specs.declared.msg.Msg.TheVariants.{Sub, Unsub, Token, Untoken, Able, Unable, Interest, EndInterest, ToldSub, ToldAble, ToldUnsub, ToldToken, ToldUntoken, ToldUnable, ToldEnd, Push, Request, Response, Final, State, Step, Snap}
use Rattle.zr_msg.specs.Peer.{PeerState}
use Rattle.zr_msg.specs.declared.peer.LinkPeer.{LinkPeer}
use Rattle.zr_msg.specs.declared.peer.Role.{Role}
use Rattle.zr_msg.specs.declared.peer.Role.TheVariants.{Client, Router}
use Rattle.zr_node_spec.specs.Changes.{changes, after_changes}
use Rattle.zr_node_spec.specs.Tables.{TableState, is_router, link_at, leads_to_client, leads_to_router}
use Rattle.zr_node_spec.specs.State.{NodeState, new_link, tables}
use Rattle.zr_node_spec.specs.Table.{with_base, base_told, row, key_of, able_kind, base_up, base_down, with_link, without_link, with_rows, rows_declared, rows_undeclared, after}
use Rattle.zr_told_spec.specs.Place.{place_of, same}
use Rattle.zr_told_spec.specs.Rows.{others, IsSameBut}
use Rattle.zr_told_spec.specs.declared.place.Place.{Place}
use Rattle.zr_told_spec.proofs.Places.{same_refl}
use Rattle.zr_router_core.specs.Places.{is_quiet_msg, is_quiet, places_under, places_declared, places_on, places_from, places_up, places_parted, places_down, changed_places}
use Rattle.zr_router_core.specs.Ready.{is_own_msg, is_own}
use Rattle.zr_router_core.specs.Right.{AreOrdered}
use Rattle.zr_router_core.proofs.Others.{IsOutside, row_has, log_has, same_others, rows_declared_same, rows_undeclared_same, rows_left_same, own_changes_same, step_same}

module _ (n : NodeState) (h : AreOrdered n) (k : ℕ) where
  abbrev IsLeft : List Place → TableState → Type 0
  IsLeft qs t = IsSameBut qs (others (tables n) k) (others t k)

  -- ---- rows

  rows_same : (qs : List Place) (rows : List Row) → ((g : Decl → Bool) → IsOutside qs g → list_any (row_has k g) n.rows ≡ list_any (row_has k g) rows) → IsLeft qs (tables (with_rows n rows))
  rows_same qs rows same = same_others qs (tables n) (tables (with_rows n rows)) k refl same (λ g out. own_changes_same n.base g (changes n.rows rows) n.known h.own)

  declared_same : (from : ℕ) (r : Row) → IsLeft (places_declared n.rows r) (tables (with_rows n (rows_declared n from r)))
  declared_same from r = rows_same (places_declared n.rows r) (rows_declared n from r) (λ g out. by g out (leads_to_client n.links from))
    where
      by : (g : Decl → Bool) → IsOutside (places_declared n.rows r) g → (b : Bool) → list_any (row_has k g) n.rows ≡ list_any (row_has k g) (cond b (declared n.rows r) n.rows)
      by g out true = rows_declared_same n.rows r k g h.rows out
      by g out false = refl

  undeclared_same : (from : ℕ) (key : Key) → IsLeft (places_under n.rows key) (tables (with_rows n (rows_undeclared n from key)))
  undeclared_same from key = rows_same (places_under n.rows key) (rows_undeclared n from key) (λ g out. by g out (leads_to_client n.links from))
    where
      by : (g : Decl → Bool) → IsOutside (places_under n.rows key) g → (b : Bool) → list_any (row_has k g) n.rows ≡ list_any (row_has k g) (cond b (undeclared n.rows key) n.rows)
      by g out true = rows_undeclared_same n.rows key k g h.rows out
      by g out false = refl

  -- ---- a change of another router's log

  stepped_same : (from : ℕ) (source : List ℕ) (number : ℕ) (added : Bool) (decl : Decl) → IsLeft (place_of decl ∷ []) (tables (after n (From (record { 0 = from }) (Step source number added decl))))
  stepped_same from source number added decl =
      same_others (place_of decl ∷ []) (tables n) (tables (after n (From (record { 0 = from }) (Step source number added decl)))) k refl (λ g out. refl) (λ g out. by g out (leads_to_router n.links from))
    where
      c : Change
      c = record { added = added; decl = decl }

      by : (g : Decl → Bool) → IsOutside (place_of decl ∷ []) g → (b : Bool) → list_any (log_has n.base g) n.known.logs ≡ list_any (log_has n.base g) (cond b (after_step n.known source number c) n.known).logs
      by g out true = step_same n.base g n.known source number c h.logs (out decl (ap (λ z. z || false) (same_refl (place_of decl))))
      by g out false = refl

  -- ---- links

  up_same : (link : LinkNo) (peer : PeerState) (role : Role) (qs : List Place) → places_up role ≡ Some qs →
      IsLeft qs (record { links = with_link n.links (new_link link peer); base = base_up n.base peer role; rows = n.rows; clients = n.clients; known = n.known })
  up_same link peer Client qs e = λ f. refl
  up_same link peer Router qs e = absurd (none-some qs e)

  -- the tables once the client of a link, or the router there, is gone
  abbrev down_tables : ℕ → Option LinkPeer → TableState
  down_tables link o =
      let rows : List Row = cond (option_map_or (λ l. not (is_router l.peer.role)) o false) (left n.rows link) n.rows in
      record {
        links = without_link n.links link;
        base = base_down n.base o;
        rows = rows;
        clients = (after n (Down (record { 0 = link }))).clients;
        known = after_changes n.known (changes n.rows rows);
      }

  down_same : (link : ℕ) (o : Option LinkPeer) (qs : List Place) → places_down n.rows link o ≡ Some qs → IsLeft qs (down_tables link o)
  down_same link None qs e = same_others qs (tables n) (down_tables link None) k refl (λ g out. refl) (λ g out. own_changes_same n.base g (changes n.rows n.rows) n.known h.own)
  down_same link (Some l) qs e = by l.peer.role e
    where
      by_role : Role → TableState
      by_role role =
          let rows : List Row = cond (not (is_router role)) (left n.rows link) n.rows in
          record {
            links = without_link n.links link;
            base = base_down n.base (Some (record { link = l.link; peer = record { id = l.peer.id; role = role; weight = l.peer.weight } }));
            rows = rows;
            clients = (after n (Down (record { 0 = link }))).clients;
            known = after_changes n.known (changes n.rows rows);
          }

      by : (role : Role) → places_parted n.rows link role ≡ Some qs → IsLeft qs (by_role role)
      by Client f =
          subst (λ (ps : List Place). IsLeft ps (by_role Client)) (same_Some (places_on n.rows link) qs f)
          (same_others (places_on n.rows link) (tables n) (by_role Client) k refl (λ g out. rows_left_same n.rows link k g out)
          (λ g out. own_changes_same n.base g (changes n.rows (left n.rows link)) n.known h.own))
      by Router f = absurd (none-some qs f)

  -- ---- a record that isn't newer

  told_same : (from : ℕ) (told : RecordState) (qs : List Place) (b : Bool) → is_newer n.base told ≡ b → cond b None (Some []) ≡ Some qs → IsLeft qs (tables (with_base n (base_told n from told)))
  told_same from told qs true h e = absurd (none-some qs e)
  told_same from told qs false h e =
      let stays : base_told n from told ≡ n.base = ap (λ (b : Bool). cond (leads_to_router n.links from) (cond b (kept n.base told) n.base) n.base) h ∙ by (leads_to_router n.links from) in
      same_others qs (tables n) (tables (with_base n (base_told n from told))) k (sym stays) (λ g out. refl) (λ g out. refl)
    where
      by : (b : Bool) → cond b n.base n.base ≡ n.base
      by true = refl
      by false = refl

  -- ---- each event

  these : (ps qs : List Place) (t : TableState) → Some ps ≡ Some qs → IsLeft ps t → IsLeft qs t
  these ps qs t e i = subst (λ (rs : List Place). IsLeft rs t) (same_Some ps qs e) i

  from_same : (link : LinkNo) (msg : Msg) (qs : List Place) → places_from n link.0 msg ≡ Some qs → IsLeft qs (tables (after n (From link msg)))
  from_same link (Sub id key) qs e = these _ qs (tables (after n (From link (Sub id key)))) e (declared_same link.0 (row link.0 id kind.Sub key))
  from_same link (Unsub id) qs e = these _ qs (tables (after n (From link (Unsub id)))) e (undeclared_same link.0 (key_of link.0 id kind.Sub))
  from_same link (Token id key) qs e = these _ qs (tables (after n (From link (Token id key)))) e (declared_same link.0 (row link.0 id kind.Token key))
  from_same link (Untoken id) qs e = these _ qs (tables (after n (From link (Untoken id)))) e (undeclared_same link.0 (key_of link.0 id kind.Token))
  from_same link (Able id key complete) qs e = these _ qs (tables (after n (From link (Able id key complete)))) e (declared_same link.0 (row link.0 id (able_kind complete) key))
  from_same link (Unable id) qs e = these _ qs (tables (after n (From link (Unable id)))) e (undeclared_same link.0 (key_of link.0 id kind.Able))
  from_same link (Interest id current future kinds key aggregate) qs e = λ f. refl
  from_same link (EndInterest id) qs e = λ f. refl
  from_same link (ToldSub id key interest) qs e = λ f. refl
  from_same link (ToldToken id key interest) qs e = λ f. refl
  from_same link (ToldAble id key complete interest) qs e = λ f. refl
  from_same link (ToldUnsub id) qs e = λ f. refl
  from_same link (ToldUntoken id) qs e = λ f. refl
  from_same link (ToldUnable id) qs e = λ f. refl
  from_same link (ToldEnd interest) qs e = λ f. refl
  from_same link (Push tree content) qs e = λ f. refl
  from_same link (Request tree id target content) qs e = λ f. refl
  from_same link (Response id content) qs e = λ f. refl
  from_same link (Final id extras) qs e = λ f. refl
  from_same link (State links) qs e = told_same link.0 links qs (is_newer n.base links) refl e
  from_same link (Step source number added decl) qs e = these _ qs (tables (after n (From link (Step source number added decl)))) e (stepped_same link.0 source number added decl)
  from_same link (Snap source number decls) qs e = absurd (none-some qs e)

  pub others_same : (event : Event) (qs : List Place) → changed_places n event ≡ Some qs → IsLeft qs (tables (after n event))
  others_same (Up link peer) qs e = up_same link peer peer.role qs e
  others_same (Down link) qs e = down_same link.0 (link_at n.links link.0) qs e
  others_same (From link msg) qs e = from_same link msg qs e

-- ---- quiet events

quiet_from : (n : NodeState) (link : LinkNo) (msg : Msg) → is_quiet_msg msg ≡ true → tables (after n (From link msg)) ≡ tables n
quiet_from n link (Sub id key) h = cc
quiet_from n link (Unsub id) h = cc
quiet_from n link (Token id key) h = cc
quiet_from n link (Untoken id) h = cc
quiet_from n link (Able id key complete) h = cc
quiet_from n link (Unable id) h = cc
quiet_from n link (Interest id current future kinds key aggregate) h = cc
quiet_from n link (EndInterest id) h = cc
quiet_from n link (ToldSub id key interest) h = refl
quiet_from n link (ToldToken id key interest) h = refl
quiet_from n link (ToldAble id key complete interest) h = refl
quiet_from n link (ToldUnsub id) h = refl
quiet_from n link (ToldUntoken id) h = refl
quiet_from n link (ToldUnable id) h = refl
quiet_from n link (ToldEnd interest) h = refl
quiet_from n link (Push tree content) h = refl
quiet_from n link (Request tree id target content) h = refl
quiet_from n link (Response id content) h = refl
quiet_from n link (Final id extras) h = refl
quiet_from n link (State links) h = cc
quiet_from n link (Step source number added decl) h = cc
quiet_from n link (Snap source number decls) h = cc

pub quiet_tables : (n : NodeState) (event : Event) → is_quiet event ≡ true → tables (after n event) ≡ tables n
quiet_tables n (Up link peer) h = cc
quiet_tables n (Down link) h = cc
quiet_tables n (From link msg) h = quiet_from n link msg h

quiet_own_msg : (msg : Msg) → is_quiet_msg msg ≡ true → is_own_msg msg ≡ false
quiet_own_msg (Sub id key) h = refl
quiet_own_msg (Unsub id) h = refl
quiet_own_msg (Token id key) h = refl
quiet_own_msg (Untoken id) h = refl
quiet_own_msg (Able id key complete) h = refl
quiet_own_msg (Unable id) h = refl
quiet_own_msg (Interest id current future kinds key aggregate) h = cc
quiet_own_msg (EndInterest id) h = cc
quiet_own_msg (ToldSub id key interest) h = refl
quiet_own_msg (ToldToken id key interest) h = refl
quiet_own_msg (ToldAble id key complete interest) h = refl
quiet_own_msg (ToldUnsub id) h = refl
quiet_own_msg (ToldUntoken id) h = refl
quiet_own_msg (ToldUnable id) h = refl
quiet_own_msg (ToldEnd interest) h = refl
quiet_own_msg (Push tree content) h = refl
quiet_own_msg (Request tree id target content) h = refl
quiet_own_msg (Response id content) h = refl
quiet_own_msg (Final id extras) h = refl
quiet_own_msg (State links) h = refl
quiet_own_msg (Step source number added decl) h = refl
quiet_own_msg (Snap source number decls) h = refl

pub quiet_own : (event : Event) → is_quiet event ≡ true → is_own event ≡ false
quiet_own (Up link peer) h = refl
quiet_own (Down link) h = refl
quiet_own (From link msg) h = quiet_own_msg msg h

-- ---- no client gets an interest by an event that is none

none_from : (n : NodeState) (link : LinkNo) (msg : Msg) → n.clients ≡ [] → is_own_msg msg ≡ false → (after n (From link msg)).clients ≡ []
none_from n link (Sub id key) e h = e
none_from n link (Unsub id) e h = e
none_from n link (Token id key) e h = e
none_from n link (Untoken id) e h = e
none_from n link (Able id key complete) e h = e
none_from n link (Unable id) e h = e
none_from n link (Interest id current future kinds key aggregate) e h = cc
none_from n link (EndInterest id) e h = cc
none_from n link (ToldSub id key interest) e h = e
none_from n link (ToldToken id key interest) e h = e
none_from n link (ToldAble id key complete interest) e h = e
none_from n link (ToldUnsub id) e h = e
none_from n link (ToldUntoken id) e h = e
none_from n link (ToldUnable id) e h = e
none_from n link (ToldEnd interest) e h = e
none_from n link (Push tree content) e h = e
none_from n link (Request tree id target content) e h = e
none_from n link (Response id content) e h = e
none_from n link (Final id extras) e h = e
none_from n link (State links) e h = e
none_from n link (Step source number added decl) e h = e
none_from n link (Snap source number decls) e h = e

none_down : (n : NodeState) (link : ℕ) → n.clients ≡ [] → cond (leads_to_client n.links link) (clients_left n.clients link) n.clients ≡ []
none_down n link e = ap (λ (cs : List ClientInterests). cond (leads_to_client n.links link) (clients_left cs link) cs) e ∙ by (leads_to_client n.links link)
  where
    none : List ClientInterests
    none = []

    by : (b : Bool) → cond b none none ≡ none
    by true = refl
    by false = refl

pub no_clients : (n : NodeState) (event : Event) → n.clients ≡ [] → is_own event ≡ false → (after n event).clients ≡ []
no_clients n (Up link peer) e h = e
no_clients n (Down link) e h = none_down n link.0 e
no_clients n (From link msg) e h = none_from n link msg e h

-- ---- no event wakes a router up, or spends it

pub after_spent : (n : NodeState) (event : Event) → (after n event).spent ≡ n.spent
after_spent n (Up link peer) = refl
after_spent n (Down link) = refl
after_spent n (From link msg) = by msg
  where
    by : (m : Msg) → (after n (From link m)).spent ≡ n.spent
    by (Sub id key) = refl
    by (Unsub id) = refl
    by (Token id key) = refl
    by (Untoken id) = refl
    by (Able id key complete) = refl
    by (Unable id) = refl
    by (Interest id current future kinds key aggregate) = refl
    by (EndInterest id) = refl
    by (ToldSub id key interest) = refl
    by (ToldToken id key interest) = refl
    by (ToldAble id key complete interest) = refl
    by (ToldUnsub id) = refl
    by (ToldUntoken id) = refl
    by (ToldUnable id) = refl
    by (ToldEnd interest) = refl
    by (Push tree content) = refl
    by (Request tree id target content) = refl
    by (Response id content) = refl
    by (Final id extras) = refl
    by (State links) = refl
    by (Step source number added decl) = refl
    by (Snap source number decls) = refl
