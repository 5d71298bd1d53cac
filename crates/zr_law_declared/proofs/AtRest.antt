-- Where a world is settled, the rows of routers are what their clients have declared, and so are the sets that routers know.
use Rattle.std.proofs.Common.{◌≡◌, ℕ, Bool, true, false, cond, not, List, [], ◌∷◌, Option, Some, None, is_some, Ordering, Less, inl, inr, refl, sym, ap, ◌∙◌}
use Rattle.std.specs.Prelude.{◌||◌}
use Rattle.std.specs.List.{list_all}
use Rattle.std.specs.Option.{option_map, option_map_or}
use Rattle.std.specs.Ordering.{is_eq}
use Rattle.std.proofs.lemmas.Bool.{false≢true, and_parts, not-true, eqb-true}
use Rattle.std.proofs.lemmas.Map.Keys.{sorted_head, sorted_tail}
use Rattle.zr_id.specs.declared.link.LinkNo.{LinkNo}
use Rattle.zr_lists.proofs.Finds.{In, find_in}
use Rattle.zr_msg.specs.declared.decl.Decl.{Decl}
use Rattle.zr_msg.specs.declared.decl.Kind.{Kind}
use Rattle.zr_msg.specs.declared.peer.LinkPeer.{LinkPeer}
use Rattle.zr_lists.specs.Ascending.{IsAscending, at_key}
use Rattle.zr_log_set.specs.Decls.{has, is_decl}
use Rattle.zr_lists.proofs.Order.{IsExactOrder, comes, is_itself, is_same}
use Rattle.zr_lists.proofs.Elements.{each_in, in_each}
use Rattle.zr_log_set.proofs.Decls.{decl_order, has_all}
use Rattle.zr_msg.specs.Decl.{decl_cmp}
use Rattle.zr_local.specs.Rows.{row_key, key_cmp, row_at, decls_of}
use Rattle.zr_local.specs.declared.row.Row.{Row}
use Rattle.zr_local.proofs.Rows.{key_order}
use Rattle.zr_log.specs.Known.{decls}
use Rattle.zr_node_spec.specs.Tables.{is_router, link_at, link_to, is_link, leads_to_client}
use Rattle.zr_node_spec.specs.Table.{key_of}
use Rattle.zr_world_spec.specs.World.{RouterState, EndState, ClientState, WorldState, router_of, client_of, end_of, is_up, is_unbroken, is_settled, is_calm, is_calm_end, is_met, wire_at}
use Rattle.zr_world_spec.specs.Moments.{Numbered, Moment, reached}
use Rattle.zr_world_spec.specs.Moments as moments
use Rattle.zr_world_spec.proofs.Keyed.{there}
use Rattle.zr_world_spec.proofs.Lines.{at_some}
use Rattle.zr_guarantee.specs.Broker.{is_attached}
use Rattle.zr_law_settled.proofs.Spreading.{Name}
use Rattle.zr_law_settled.proofs.Worlds.{there_in}
use Rattle.zr_law_settled.proofs.Quiet.{passes_there}
use Rattle.zr_law_settled.proofs.Rest.{passes, met}
use Rattle.zr_law_settled.proofs.Agreeing.{logs_agree}
use Rattle.zr_law_settled.proofs.WeightsRows.{has_row}
use Rattle.zr_law_declared.specs.Declared.{stands, IsClientOf}
use Rattle.zr_law_declared.specs.Rows.{IsLinkedClient, row_of, AreDeclared, SettledRowsAreDeclared}
use Rattle.zr_law_declared.specs.Sets.{IsDeclaredAt, SettledSetsAreDeclared}
use Rattle.zr_law_declared.proofs.Told.{calm_all_told, decl_at, row_is}
use Rattle.zr_law_declared.proofs.Homes.{router_at}
use Rattle.zr_law_declared.proofs.Flows.{says, flow}
use Rattle.zr_law_declared.proofs.FlowActs.{GoesDeclared, goes_declared}

-- in an ascending list each element is the one of its key
module _ {X K : Type 0} (cmp : K → K → Ordering) (key : X → K) (order : IsExactOrder cmp) where
  at_in : (xs : List X) (x : X) → IsAscending cmp key xs → In x xs → at_key cmp key xs (key x) ≡ Some x
  at_in [] x up i = absurd i
  at_in (y ∷ ys) x up (inl e) = ap (λ b. cond b (Some y) (at_key cmp key ys (key x))) (ap (λ z. is_eq (cmp (key y) (key z))) e ∙ is_itself cmp order (key y)) ∙ ap Some (sym e)
  at_in (y ∷ ys) x up (inr i) =
      let less : cmp (key y) (key x) ≡ Less = each_in (λ z. cmp (key y) (key z) ≡ Less) ys x (sorted_head (λ a b. cmp (key a) (key b)) y ys up) i in
      ap (λ b. cond b (Some y) (at_key cmp key ys (key x))) (comes cmp order (key y) (key x) less).apart
      ∙ at_in ys x (sorted_tail (λ a b. cmp (key a) (key b)) y ys up) i

-- a declaration of some rows is that of one of them
row_with : (rows : List Row) (d : Decl) → has (decls_of rows) d ≡ true → (q : Row) × In q rows × (q.decl ≡ d)
row_with [] d h = absurd (false≢true h)
row_with (q ∷ rows) d h = by (is_decl q.decl d) refl h (row_with rows d)
  where
    by : (t : Bool) → is_decl q.decl d ≡ t → (t || has (decls_of rows) d) ≡ true → (has (decls_of rows) d ≡ true → (p : Row) × In p rows × (p.decl ≡ d)) → (p : Row) × In p (q ∷ rows) × (p.decl ≡ d)
    by true e k ih = (q, inl refl, is_same decl_cmp decl_order q.decl d e)
    by false e k ih = let p = ih k in (p.0, inr p.1, p.2)

pub its_decl : (link : LinkNo) (id : ℕ) (o : Option Decl) → option_map (λ (q : Row). q.decl) (row_of link id o) ≡ o
its_decl link id None = refl
its_decl link id (Some d) = refl

module _ (acts : List Numbered) (now : Moment) (g : GoesDeclared acts now) where
  abbrev w : WorldState
  w = now.world

  -- a client is attached as long as its link is unbroken
  pub attached_is : (c : Name) (s : ClientState) → client_of w.clients c ≡ Some s → is_unbroken w.ends (s.router, c) ≡ is_attached acts c
  attached_is c s client = (g.spoken.clients c s client).attached

  -- the state of a client that is attached
  its_state : (x c : Name) → IsClientOf acts x c → (s : ClientState) × (client_of w.clients c ≡ Some s) × (s.router ≡ x)
  its_state x c q = by (client_of w.clients c) refl (sym (g.homed c) ∙ q.home_is)
    where
      by : (o : Option ClientState) → client_of w.clients c ≡ o → router_at o ≡ Some x → (s : ClientState) × (client_of w.clients c ≡ Some s) × (s.router ≡ x)
      by None e k = absurd (false≢true (ap is_some k))
      by (Some s) e k = (s, e, cc)

  module _ (x : Name) (r : RouterState) (found : router_of w.routers x ≡ Some r) where
    linked : (c : Name) → IsClientOf acts x c → (l : LinkPeer) × (link_to r.node.links c ≡ Some l)
    linked c q =
        let s = its_state x c q in
        let up : is_up w.ends (s.0.router, c) ≡ true = g.goes.clients.ups s.0.router c s.0 s.1 (attached_is c s.0 s.1 ∙ q.attached) in
        there (link_to r.node.links c) (g.goes.sound.links x c r found ∙ ap (λ y. is_up w.ends (y, c)) (sym s.2) ∙ up)

    module _ (settled : is_settled w ≡ true) where
      calm : (q : Name) → list_all is_calm (wire_at (end_of w.ends (x, q))) ≡ true
      calm q = by (end_of w.ends (x, q)) refl
        where
          by : (o : Option EndState) → end_of w.ends (x, q) ≡ o → list_all is_calm (wire_at o) ≡ true
          by None e = refl
          by (Some s) e = (and_parts (list_all is_calm s.wire) (list_all is_calm s.queue) (and_parts (is_met w (x, q) s) (is_calm_end s) (passes w g.goes.sound g.goes.holds settled (x, q) s e)).1).0

      rows : (c : Name) (l : LinkPeer) (kind : Kind) (id : ℕ) → IsClientOf acts x c → link_to r.node.links c ≡ Some l → row_at r.node.rows (key_of l.link.0 id kind) ≡ row_of l.link id (stands acts c kind id)
      rows c l kind id q to = let s = its_state x c q in row_is r.node.rows l.link kind id ∙ ap (row_of l.link id) (
          sym (ap (λ o. says o c kind id) found ∙ ap (λ o. option_map_or (λ (k : LinkPeer). decl_at r.node.rows k.link.0 kind id) o None) to)
          ∙ sym (calm_all_told kind id (says (router_of w.routers x) c kind id) (wire_at (end_of w.ends (x, c))) (calm c))
          ∙ ap (λ y. flow w y c kind id) (sym s.2) ∙ g.flows.flows c s.0 s.1 (attached_is c s.0 s.1 ∙ q.attached) kind id)

      -- a row is of a link to a client that is attached
      owner : (q : Row) → leads_to_client r.node.links q.link.0 ≡ true → IsLinkedClient acts x r q.link
      owner q leads = by (link_at r.node.links q.link.0) refl leads
        where
          by : (o : Option LinkPeer) → link_at r.node.links q.link.0 ≡ o → option_map_or (λ l. not (is_router l.peer.role)) o false ≡ true → IsLinkedClient acts x r q.link
          by None e k = absurd (false≢true k)
          by (Some l) e k =
              let i = find_in (λ z. is_link q.link.0 z) r.node.links l e in
              let to : link_to r.node.links l.peer.id ≡ Some l = each_in (λ z. link_to r.node.links z.peer.id ≡ Some z) r.node.links l (g.goes.sound.unique x r found).names i.0 in
              let up : is_up w.ends (x, l.peer.id) ≡ true = sym (g.goes.sound.links x l.peer.id r found) ∙ ap is_some to in
              let some : is_some (end_of w.ends (x, l.peer.id)) ≡ true = passes_there (λ s. s.up) w.ends (x, l.peer.id) up in
              let no_router : there_in w l.peer.id ≡ false = sym (g.goes.sound.roles x l.peer.id r l found to) ∙ not-true (is_router l.peer.role) k in
              let c = there (client_of w.clients l.peer.id) (sym (ap (λ b. b || is_some (client_of w.clients l.peer.id)) no_router) ∙ g.goes.sound.neighbours x l.peer.id some) in
              let home : c.0.router ≡ x = g.goes.clients.homes x l.peer.id c.0 c.1 some in
              record {
                name = l.peer.id;
                client = record {
                  attached = sym (attached_is l.peer.id c.0 c.1) ∙ ap (λ y. is_unbroken w.ends (y, l.peer.id)) home ∙ (met w g.goes.sound g.goes.holds settled x l.peer.id up).0;
                  home_is = g.homed l.peer.id ∙ ap router_at c.1 ∙ ap Some home;
                };
                neighbour = l;
                linked = to;
                number = λ j. record { 0 = eqb-true l.link.0 q.link.0 i.1 j };
              }

      pub are_declared : AreDeclared acts x r
      are_declared = record {
        linked = linked;
        rows = rows;
        owners = in_each (λ q. IsLinkedClient acts x r q.link) r.node.rows (λ q i. owner q (each_in (λ z. leads_to_client r.node.links z.link.0 ≡ true) r.node.rows q (g.goes.clients.rows x r found) i));
      }

      -- ---- sets

      from_rows : (d : Decl) → has (decls_of r.node.rows) d ≡ true → IsDeclaredAt acts x d
      from_rows d there =
          let q = row_with r.node.rows d there in
          let c = owner q.0 (each_in (λ z. leads_to_client r.node.links z.link.0 ≡ true) r.node.rows q.0 (g.goes.clients.rows x r found) q.1) in
          record {
            name = c.name;
            client = c.client;
            kind = q.0.decl.kind;
            id = q.0.id;
            standing = sym (its_decl c.neighbour.link q.0.id (stands acts c.name q.0.decl.kind q.0.id))
                ∙ ap (option_map (λ z. z.decl)) (sym (rows c.name c.neighbour q.0.decl.kind q.0.id c.client c.linked)
                ∙ ap (λ z. row_at r.node.rows (key_of z.0 q.0.id q.0.decl.kind)) c.number
                ∙ at_in key_cmp row_key key_order r.node.rows q.0 (g.ascend x r found) q.1)
                ∙ ap Some q.2;
          }

      to_rows : (d : Decl) → IsDeclaredAt acts x d → has (decls_of r.node.rows) d ≡ true
      to_rows d k =
          let l = linked k.name k.client in
          let at : row_at r.node.rows (key_of l.0.link.0 k.id k.kind) ≡ Some (record { link = l.0.link; id = k.id; decl = d }) = rows k.name l.0 k.kind k.id k.client l.1 ∙ ap (row_of l.0.link k.id) k.standing in
          has_row r.node.rows (record { link = l.0.link; id = k.id; decl = d }) (find_in (λ z. is_eq (key_cmp (row_key z) (key_of l.0.link.0 k.id k.kind))) r.node.rows (record { link = l.0.link; id = k.id; decl = d }) at).0

goes_then : (acts : List Numbered) (m : Moment) → reached acts ≡ Some m → GoesDeclared acts m
goes_then acts m is = at_some (GoesDeclared acts) (moments.reached acts) m is (goes_declared acts)

pub rows_are_declared : SettledRowsAreDeclared
rows_are_declared acts m x r is settled found = are_declared acts m (goes_then acts m is) x r found settled

pub sets_are_declared : SettledSetsAreDeclared
sets_are_declared acts m x y path rx ry d is settled at_x at_y walk =
    (λ h. from_rows acts m (goes_then acts m is) x rx at_x settled d (sym same ∙ h), λ k. same ∙ to_rows acts m (goes_then acts m is) x rx at_x settled d k)
  where
    same : has (decls ry.node.known x) d ≡ has (decls_of rx.node.rows) d
    same = let k = logs_agree acts m is settled y x path ry rx at_y at_x walk in ap (λ ds. has ds d) (k.decls_are ∙ k.declared_is) ∙ has_all (decls_of rx.node.rows) d
