-- How many declarations a router knows after an event, and how many interests its clients have then.
use Rattle.std.proofs.Common.{◌≡◌, ℕ, ◌+◌, ◌*◌, ◌≤◌, not, Bool, true, false, cond, List, [], ◌∷◌, Option, Some, None, length, refl, sym, ap, subst, ◌∙◌, arith}
use Rattle.std.specs.Prelude.{nat_lt}
use Rattle.std.specs.declared.cmp.Ordering.{Ordering}
use Rattle.std.specs.List.{fold, sum_by}
use Rattle.std.specs.Cmp.Lexicographic.{slice_cmp}
use Rattle.std.specs.Option.{option_map_or}
use Rattle.std.specs.Ordering.{is_eq, nat_cmp}
use Rattle.std.proofs.lemmas.List.Sums.{sum_by-cons}
use Rattle.zr_id.specs.Zid.{is_named}
use Rattle.zr_id.specs.declared.link.LinkNo.{LinkNo}
use Rattle.zr_graph.proofs.Names.{same_refl as name_itself}
use Rattle.zr_lists.specs.Ascending.{at_key, has_key, put, without}
use Rattle.zr_log_set.specs.Decls.{with_decl, without_decl, set_of}
use Rattle.zr_log_set.proofs.Decls.{decl_order}
use Rattle.zr_lists.proofs.Order.{is_same, nat_order, name_order}
use Rattle.zr_lists.proofs.Puts.{All-put}
use Rattle.zr_lists.proofs.Each.{All-filter}
use Rattle.zr_lists.proofs.Filters.{filter_shorter}
use Rattle.zr_msg.specs.Decl.{decl_cmp}
use Rattle.zr_msg.specs.declared.decl.Decl.{Decl}
use Rattle.zr_msg.specs.declared.decl.Kind.TheVariants as kind
use Rattle.zr_msg.specs.declared.event.Event.{Event}
use Rattle.zr_msg.specs.declared.event.Event.TheVariants.{Up, Down, From}
use Rattle.zr_msg.specs.declared.msg.Msg.{Msg}
use Rattle.zr_msg.specs.declared.msg.Msg.TheVariants.{Sub, Unsub, Token, Untoken, Able, Unable, Interest, EndInterest, ToldSub, ToldAble, ToldUnsub, ToldToken, ToldUntoken, ToldUnable, ToldEnd, Push, Request, Response, Final, State, Step, Snap}
use Rattle.zr_local.specs.Clients.{client_link, interests_on, with_interests, noted, clients_left}
use Rattle.zr_local.specs.Interests.{interest_id}
use Rattle.zr_local.specs.Rows.{Key, row_key, key_cmp, declared, undeclared, left}
use Rattle.zr_local.specs.declared.interest.ClientInterests.{ClientInterests}
use Rattle.zr_local.specs.declared.interest.Interest.{Interest as LiveInterest}
use Rattle.zr_local.specs.declared.row.Row.{Row}
use Rattle.zr_local.proofs.Live.{put_weighs}
use Rattle.zr_local.proofs.Rows.{key_order}
use Rattle.zr_log.specs.Known.{KnownState, log_of, position, decls, with_log, after_own, after_step, after_snap, is_next}
use Rattle.zr_log.specs.Known.{is_newer as is_newer_log}
use Rattle.zr_log.specs.Log.{Change, changed}
use Rattle.zr_log.specs.declared.log.Log.{Log}
use Rattle.zr_log.proofs.Logs.{source_of}
use Rattle.zr_node_spec.specs.Changes.{changes, after_changes}
use Rattle.zr_node_spec.specs.Queries.{link_no}
use Rattle.zr_node_spec.specs.Tables.{TableState, leads_to_client, leads_to_router, link_at}
use Rattle.zr_node_spec.proofs.Links.{find_passes}
use Rattle.zr_node_spec.specs.State.{NodeState, tables}
use Rattle.zr_node_spec.specs.Table.{row, key_of, able_kind, live, base_up, base_down, base_told, with_rows, rows_declared, rows_undeclared, rows_left, clients_noted, known_step, known_snap, after}
use Rattle.zr_node_spec.proofs.OwnName.{me_up, me_down, me_told}
use Rattle.zr_told_spec.specs.Rows.{most_id, lacks_ids, one_lacks_ids, others}
use Rattle.zr_told_spec.specs.Wanted.{wanted}
use Rattle.zr_told_spec.proofs.Few.{few_are_wanted}
use Rattle.zr_router_core.specs.Done.{have_ids}
use Rattle.zr_router_core.specs.Room.{foreign_count, decl_count, more_from, more_decls, HaveAtMost}
use Rattle.zr_router_core.proofs.Puts.{put_long}
use Rattle.zr_router_core.proofs.Few.{others_few}

-- ---- a sum over a list with one less

module _ {X K : Type 0} (cmp : K → K → Ordering) (key : X → K) (f : X → ℕ) where
  pub without_sums : (k : K) (xs : List X) → sum_by f (without cmp key xs k) + option_map_or f (at_key cmp key xs k) 0 ≤ sum_by f xs
  without_sums k [] = omega arith
  without_sums k (x ∷ xs) = by (is_eq (cmp (key x) k)) (without_sums k xs) (sum_by-cons f x xs) (sum_by-cons f x (without cmp key xs k))
    where
      by : (t : Bool) → sum_by f (without cmp key xs k) + option_map_or f (at_key cmp key xs k) 0 ≤ sum_by f xs → sum_by f (x ∷ xs) ≡ f x + sum_by f xs →
          sum_by f (x ∷ without cmp key xs k) ≡ f x + sum_by f (without cmp key xs k) →
          sum_by f (cond (not t) (x ∷ without cmp key xs k) (without cmp key xs k)) + option_map_or f (cond t (Some x) (at_key cmp key xs k)) 0 ≤ sum_by f (x ∷ xs)
      by true ih e g = omega (arith, ih, e)
      by false ih e g = omega (arith, ih, e, g)

-- ---- logs

abbrev foreign : List ℕ → List Log → ℕ
foreign me logs = sum_by (foreign_count me) logs

put_count : (me : List ℕ) (logs : List Log) (l : Log) → foreign me (put (slice_cmp nat_cmp) source_of logs l) ≡ foreign me (without (slice_cmp nat_cmp) source_of logs l.source) + foreign_count me l
put_count me logs l = put_weighs (slice_cmp nat_cmp) source_of name_order (foreign_count me) logs l

-- the own log counts for nothing
own_count : (me : List ℕ) (known : KnownState) (c : Change) → known.me ≡ me → foreign me (after_own known c).logs ≤ foreign me known.logs
own_count me known c e =
    let l : Log = record { source = known.me; position = position known known.me + 1; decls = changed (decls known known.me) c } in
    let none : foreign_count me l ≡ 0 = ap (λ b. cond b 0 (length l.decls)) (ap (λ z. is_named z me) e ∙ name_itself me) in
    omega (arith, put_count me known.logs l, without_sums (slice_cmp nat_cmp) source_of (foreign_count me) known.me known.logs, none)

own_counts : (me : List ℕ) (cs : List Change) (known : KnownState) → known.me ≡ me → foreign me (after_changes known cs).logs ≤ foreign me known.logs
own_counts me [] known e = omega arith
own_counts me (c ∷ cs) known e = omega (arith, own_counts me cs (after_own known c) e, own_count me known c e)

-- a log with other declarations counts as many more as it has more
other_count : (me : List ℕ) (known : KnownState) (source : List ℕ) (number more : ℕ) (ds : List Decl) → length ds ≤ length (decls known source) + more → foreign me (with_log known source number ds).logs ≤ foreign me known.logs + more
other_count me known source number more ds le =
    let l : Log = record { source = source; position = number; decls = ds } in
    omega (arith, put_count me known.logs l, without_sums (slice_cmp nat_cmp) source_of (foreign_count me) source known.logs, here (log_of known source) refl)
  where
    here : (o : Option Log) → log_of known source ≡ o → cond (is_named source me) 0 (length ds) ≤ option_map_or (foreign_count me) o 0 + more
    here None e =
        let none : length (decls known source) ≡ 0 = ap (λ (o : Option Log). length (option_map_or (λ l. l.decls) o [])) e in
        by (is_named source me)
      where
        by : (b : Bool) → cond b 0 (length ds) ≤ 0 + more
        by true = omega arith
        by false = let none : length (decls known source) ≡ 0 = ap (λ (o : Option Log). length (option_map_or (λ l. l.decls) o [])) e in omega (arith, le, none)
    here (Some l) e =
        let i : l.source ≡ source = is_same (slice_cmp nat_cmp) name_order l.source source (find_passes (λ x. is_eq (slice_cmp nat_cmp (source_of x) source)) known.logs l e) in
        subst (λ (z : List ℕ). cond (is_named source me) 0 (length ds) ≤ cond (is_named z me) 0 (length l.decls) + more) (sym i) (by (is_named source me))
      where
        by : (b : Bool) → cond b 0 (length ds) ≤ cond b 0 (length l.decls) + more
        by true = omega arith
        by false = let some : length (decls known source) ≡ length l.decls = ap (λ (o : Option Log). length (option_map_or (λ l. l.decls) o [])) e in omega (arith, le, some)

changed_long : (ds : List Decl) (c : Change) → length (changed ds c) ≤ length ds + 1
changed_long ds c = by c.added
  where
    by : (t : Bool) → length (cond t (with_decl ds c.decl) (without_decl ds c.decl)) ≤ length ds + 1
    by true = put_long decl_cmp (λ (d : Decl). d) decl_order ds c.decl
    by false = let f = filter_shorter (λ (d : Decl). not (is_eq (decl_cmp d c.decl))) ds in omega (arith, f)

set_long : (acc ds : List Decl) → length (fold with_decl acc ds) ≤ length acc + length ds
set_long acc [] = omega arith
set_long acc (d ∷ ds) = omega (arith, set_long (with_decl acc d) ds, put_long decl_cmp (λ (e : Decl). e) decl_order acc d)

step_count : (me : List ℕ) (known : KnownState) (source : List ℕ) (number : ℕ) (c : Change) → foreign me (after_step known source number c).logs ≤ foreign me known.logs + 1
step_count me known source number c = by (is_next known source number)
  where
    by : (t : Bool) → foreign me (cond t (with_log known source number (changed (decls known source) c)) known).logs ≤ foreign me known.logs + 1
    by true = other_count me known source number 1 (changed (decls known source) c) (changed_long (decls known source) c)
    by false = omega arith

snap_count : (me : List ℕ) (known : KnownState) (source : List ℕ) (number : ℕ) (ds : List Decl) → foreign me (after_snap known source number ds).logs ≤ foreign me known.logs + length ds
snap_count me known source number ds = by (is_newer_log known source number)
  where
    by : (t : Bool) → foreign me (cond t (with_log known source number (set_of ds)) known).logs ≤ foreign me known.logs + length ds
    by true = other_count me known source number (length ds) (set_of ds) (omega (arith, set_long [] ds))
    by false = omega arith

-- ---- how many declarations are known after each event

module _ (n : NodeState) (own : n.known.me ≡ n.base.me) where
  rows_count : (rows : List Row) (more : ℕ) → length rows ≤ length n.rows + more → decl_count (tables (with_rows n rows)) ≤ decl_count (tables n) + more
  rows_count rows more le = omega (arith, le, own_counts n.base.me (changes n.rows rows) n.known own)

  declared_count : (from : ℕ) (r : Row) → decl_count (tables (with_rows n (rows_declared n from r))) ≤ decl_count (tables n) + 1
  declared_count from r = rows_count (rows_declared n from r) 1 (by (leads_to_client n.links from))
    where
      by : (b : Bool) → length (cond b (declared n.rows r) n.rows) ≤ length n.rows + 1
      by true = put_long key_cmp row_key key_order n.rows r
      by false = omega arith

  undeclared_count : (from : ℕ) (key : Key) → decl_count (tables (with_rows n (rows_undeclared n from key))) ≤ decl_count (tables n) + 0
  undeclared_count from key = rows_count (rows_undeclared n from key) 0 (by (leads_to_client n.links from))
    where
      by : (b : Bool) → length (cond b (undeclared n.rows key) n.rows) ≤ length n.rows + 0
      by true = let f = filter_shorter (λ (r : Row). not (is_eq (key_cmp (row_key r) key))) n.rows in omega (arith, f)
      by false = omega arith

  stepped_count : (from : ℕ) (source : List ℕ) (number : ℕ) (c : Change) → foreign n.base.me (known_step n from source number c).logs ≤ foreign n.base.me n.known.logs + 1
  stepped_count from source number c = by (leads_to_router n.links from)
    where
      by : (b : Bool) → foreign n.base.me (cond b (after_step n.known source number c) n.known).logs ≤ foreign n.base.me n.known.logs + 1
      by true = step_count n.base.me n.known source number c
      by false = omega arith

  snapped_count : (from : ℕ) (source : List ℕ) (number : ℕ) (ds : List Decl) → foreign n.base.me (known_snap n from source number ds).logs ≤ foreign n.base.me n.known.logs + length ds
  snapped_count from source number ds = by (leads_to_router n.links from)
    where
      by : (b : Bool) → foreign n.base.me (cond b (after_snap n.known source number ds) n.known).logs ≤ foreign n.base.me n.known.logs + length ds
      by true = snap_count n.base.me n.known source number ds
      by false = omega arith

  -- another base of the same router
  abbrev count_as : List ℕ → List Row → List Log → ℕ
  count_as me rows logs = length rows + foreign me logs

  based_count : (me : List ℕ) → me ≡ n.base.me → count_as me n.rows n.known.logs ≤ decl_count (tables n) + 0
  based_count me e = subst (λ (z : List ℕ). count_as z n.rows n.known.logs ≤ decl_count (tables n) + 0) (sym e) (omega arith)

  down_count : (link : ℕ) (me : List ℕ) → me ≡ n.base.me → count_as me (rows_left n link) (after_changes n.known (changes n.rows (rows_left n link))).logs ≤ decl_count (tables n) + 0
  down_count link me e =
      subst (λ (z : List ℕ). count_as z (rows_left n link) (after_changes n.known (changes n.rows (rows_left n link))).logs ≤ decl_count (tables n) + 0) (sym e)
      (rows_count (rows_left n link) 0 (by (leads_to_client n.links link)))
    where
      by : (b : Bool) → length (cond b (left n.rows link) n.rows) ≤ length n.rows + 0
      by true = let f = filter_shorter (λ (r : Row). not (Rattle.std.specs.Prelude.nat_eq r.link.0 link)) n.rows in omega (arith, f)
      by false = omega arith

  same_count : decl_count (tables n) ≤ decl_count (tables n) + 0
  same_count = omega arith

  from_count : (link : LinkNo) (msg : Msg) → decl_count (tables (after n (From link msg))) ≤ decl_count (tables n) + more_from msg
  from_count link (Sub id key) = declared_count link.0 (row link.0 id kind.Sub key)
  from_count link (Unsub id) = undeclared_count link.0 (key_of link.0 id kind.Sub)
  from_count link (Token id key) = declared_count link.0 (row link.0 id kind.Token key)
  from_count link (Untoken id) = undeclared_count link.0 (key_of link.0 id kind.Token)
  from_count link (Able id key complete) = declared_count link.0 (row link.0 id (able_kind complete) key)
  from_count link (Unable id) = undeclared_count link.0 (key_of link.0 id kind.Able)
  from_count link (Interest id current future kinds key aggregate) = same_count
  from_count link (EndInterest id) = same_count
  from_count link (ToldSub id key interest) = same_count
  from_count link (ToldToken id key interest) = same_count
  from_count link (ToldAble id key complete interest) = same_count
  from_count link (ToldUnsub id) = same_count
  from_count link (ToldUntoken id) = same_count
  from_count link (ToldUnable id) = same_count
  from_count link (ToldEnd interest) = same_count
  from_count link (Push tree content) = same_count
  from_count link (Request tree id target content) = same_count
  from_count link (Response id content) = same_count
  from_count link (Final id extras) = same_count
  from_count link (State links) = based_count (base_told n link.0 links).me (me_told n link.0 links)
  from_count link (Step source number added decl) = let s = stepped_count link.0 source number (record { added = added; decl = decl }) in omega (arith, s)
  from_count link (Snap source number ds) = let s = snapped_count link.0 source number ds in omega (arith, s)

  pub after_count : (event : Event) → decl_count (tables (after n event)) ≤ decl_count (tables n) + more_decls event
  after_count (Up link peer) = based_count (base_up n.base peer peer.role).me (me_up n.base peer peer.role)
  after_count (Down link) = down_count link.0 (base_down n.base (link_at n.links link.0)).me (me_down n.base (link_at n.links link.0))
  after_count (From link msg) = from_count link msg

-- ---- how many interests

more_each : (m : ℕ) (cs : List ClientInterests) → HaveAtMost m cs → HaveAtMost (m + 1) cs
more_each m [] h = tt
more_each m (c ∷ cs) h = (omega (arith, h.0), more_each m cs h.1)

on_most : (m : ℕ) (cs : List ClientInterests) (link : ℕ) → HaveAtMost m cs → length (interests_on cs link) ≤ m
on_most m [] link h = omega arith
on_most m (c ∷ cs) link h = by (is_eq (nat_cmp (client_link c) link)) (on_most m cs link h.1)
  where
    by : (b : Bool) → length (interests_on cs link) ≤ m → length (option_map_or (λ x. x.interests) (cond b (Some c) (at_key nat_cmp client_link cs link)) []) ≤ m
    by true ih = h.0
    by false ih = ih

with_most : (m : ℕ) (cs : List ClientInterests) (link : LinkNo) (is : List LiveInterest) → HaveAtMost m cs → length is ≤ m + 1 → HaveAtMost (m + 1) (with_interests cs link is)
with_most m cs link is h le = All-put nat_cmp client_link nat_order (λ (c : ClientInterests). length c.interests ≤ m + 1) cs (record { link = link; interests = is }) (more_each m cs h) le

noted_most : (m : ℕ) (cs : List ClientInterests) (link : LinkNo) (id : ℕ) (o : Option LiveInterest) → HaveAtMost m cs → HaveAtMost (m + 1) (noted cs link id o)
noted_most m cs link id None h = by (has_key nat_cmp client_link cs link.0)
  where
    rest : List LiveInterest
    rest = without nat_cmp interest_id (interests_on cs link.0) id

    by : (b : Bool) → HaveAtMost (m + 1) (cond b (with_interests cs link rest) cs)
    by true = with_most m cs link rest h (let f = filter_shorter (λ (i : LiveInterest). not (is_eq (nat_cmp (interest_id i) id))) (interests_on cs link.0) in let g = on_most m cs link.0 h in omega (arith, f, g))
    by false = more_each m cs h
noted_most m cs link id (Some i) h =
    with_most m cs link (put nat_cmp interest_id (interests_on cs link.0) i) h (omega (arith, put_long nat_cmp interest_id nat_order (interests_on cs link.0) i, on_most m cs link.0 h))

module _ (n : NodeState) (m : ℕ) (h : HaveAtMost m n.clients) where
  asked_most : (from id : ℕ) (o : Option LiveInterest) → HaveAtMost (m + 1) (clients_noted n from id o)
  asked_most from id o = by (leads_to_client n.links from)
    where
      by : (b : Bool) → HaveAtMost (m + 1) (cond b (noted n.clients (link_no from) id o) n.clients)
      by true = noted_most m n.clients (link_no from) id o h
      by false = more_each m n.clients h

  same_most : HaveAtMost (m + 1) n.clients
  same_most = more_each m n.clients h

  left_most : (link : ℕ) → HaveAtMost (m + 1) (cond (leads_to_client n.links link) (clients_left n.clients link) n.clients)
  left_most link = by (leads_to_client n.links link)
    where
      by : (b : Bool) → HaveAtMost (m + 1) (cond b (clients_left n.clients link) n.clients)
      by true = All-filter (λ (c : ClientInterests). not (is_eq (nat_cmp (client_link c) link))) (λ (c : ClientInterests). length c.interests ≤ m + 1) n.clients same_most
      by false = same_most

  from_most : (link : LinkNo) (msg : Msg) → HaveAtMost (m + 1) (after n (From link msg)).clients
  from_most link (Sub id key) = same_most
  from_most link (Unsub id) = same_most
  from_most link (Token id key) = same_most
  from_most link (Untoken id) = same_most
  from_most link (Able id key complete) = same_most
  from_most link (Unable id) = same_most
  from_most link (Interest id current future kinds key aggregate) = asked_most link.0 id (live future (record { id = id; kinds = kinds; key = key; aggregate = aggregate }))
  from_most link (EndInterest id) = asked_most link.0 id None
  from_most link (ToldSub id key interest) = same_most
  from_most link (ToldToken id key interest) = same_most
  from_most link (ToldAble id key complete interest) = same_most
  from_most link (ToldUnsub id) = same_most
  from_most link (ToldUntoken id) = same_most
  from_most link (ToldUnable id) = same_most
  from_most link (ToldEnd interest) = same_most
  from_most link (Push tree content) = same_most
  from_most link (Request tree id target content) = same_most
  from_most link (Response id content) = same_most
  from_most link (Final id extras) = same_most
  from_most link (State links) = same_most
  from_most link (Step source number added decl) = same_most
  from_most link (Snap source number ds) = same_most

  pub after_most : (event : Event) → HaveAtMost (m + 1) (after n event).clients
  after_most (Up link peer) = same_most
  after_most (Down link) = left_most link.0
  after_most (From link msg) = from_most link msg

-- ---- ids last

none_lacks : (t : TableState) (m : ℕ) (cs : List ClientInterests) → HaveAtMost m cs → decl_count t + 3 * m ≤ most_id → one_lacks_ids t cs ≡ false
none_lacks t m [] h le = refl
none_lacks t m (c ∷ cs) h le = rw (enough c h.0) (none_lacks t m cs h.1 le)
  where
    not_less : (a : ℕ) → a ≤ most_id → nat_lt most_id a ≡ false
    not_less a e = grind (arith, e)

    enough : (c : ClientInterests) → length c.interests ≤ m → lacks_ids (others t c.link.0) c.interests ≡ false
    enough c e =
        let w = few_are_wanted (others t c.link.0) c.interests in
        let o = others_few t c.link.0 in
        not_less (length (wanted (others t c.link.0) c.interests)) (omega (arith, w, o, e, le))

pub room : (n : NodeState) (event : Event) (m : ℕ) → n.known.me ≡ n.base.me → HaveAtMost m n.clients → decl_count (tables n) + more_decls event + 3 * (m + 1) ≤ most_id → have_ids n event
room n event m own h le =
    none_lacks (tables (after n event)) (m + 1) (after n event).clients (after_most n m h event) (let c = after_count n own event in omega (arith, c, le))
