-- The lists that are told to children are, on the link of each number, what the definitions of routing say.
use Rattle.std.proofs.Common.{◌≡◌, ℕ, ◌+◌, ◌&&◌, not, Bool, true, false, cond, List, [], ◌∷◌, ◌++◌, Option, Some, None, length, map, refl, sym, ap, ◌∙◌, arith}
use Rattle.std.specs.List.{flat_map}
use Rattle.std.specs.Option.{option_map_or}
use Rattle.std.proofs.lemmas.List.{length-map}
use Rattle.zr_graph.specs.Base.{BaseState}
use Rattle.zr_id.specs.Record.{RecordState}
use Rattle.zr_id.specs.declared.link.LinkNo.{LinkNo}
use Rattle.zr_log.specs.Known.{is_next, is_newer, position}
use Rattle.zr_log.specs.Log.{Change}
use Rattle.zr_log.specs.declared.log.Log.{Log}
use Rattle.zr_msg.specs.declared.decl.Decl.{Decl}
use Rattle.zr_msg.specs.declared.msg.Msg.{Msg}
use Rattle.zr_msg.specs.declared.msg.Msg.TheVariants.{Step, Snap}
use Rattle.zr_msg.specs.declared.peer.LinkPeer.{LinkPeer}
use Rattle.zr_node_spec.specs.Changes.{changes_of, steps, sends_changes}
use Rattle.zr_node_spec.specs.Snapshots.{is_new_child, snapshot, sends_step, sends_snap, sends_snapshots}
use Rattle.zr_node_spec.specs.Tables.{TableState, AreNumbered, is_router, link_at, leads_to_router, is_own_child, leads_to_child, is_to_child}
use Rattle.zr_node_spec.specs.Event.{on_link}
use Rattle.zr_node_spec.proofs.Told.{on_link-append}
use Rattle.zr_node_spec.specs.Each.{to_each}
use Rattle.zr_flood.specs.Tell.{all_to_each, bare_tables, children_among, GoesBy, leads_to_new_child, to_new_children}
use Rattle.zr_flood.proofs.Picked.{on_picked, on_all_picked, all_to_each-append}

-- where links and records are the same the children are
same_children : (t : TableState) (links : List LinkPeer) (b : BaseState) → GoesBy t links b → (root : List ℕ) → children_among links b root ≡ children_among t.links t.base root
same_children t links b h root = ap (λ ls. children_among ls b root) (sym h.links_are) ∙ ap (λ c. children_among t.links c root) (sym h.base_is)

-- a change or a snapshot that is passed on
pub on_step : (t : TableState) (from : ℕ) (source : List ℕ) (number : ℕ) (c : Change) → AreNumbered t.links → leads_to_router t.links from ≡ true → is_next t.known source number ≡ true
    → (to : LinkNo) → on_link to (to_each (children_among t.links t.base source) (Step source number c.added c.decl)) ≡ sends_step t from source number c to.0
on_step t from source number c up leads next to =
    on_picked (λ l. leads_to_child t source l) (Step source number c.added c.decl) t.links up to
    ∙ ap (λ b. cond b (Step source number c.added c.decl ∷ []) []) (by (leads_to_router t.links from) (is_next t.known source number) leads next)
  where
    by : (a b : Bool) → a ≡ true → b ≡ true → is_to_child t source to.0 ≡ (a && (b && is_to_child t source to.0))
    by a b h k = rw (h, k) refl

pub on_snap : (t : TableState) (from : ℕ) (source : List ℕ) (number : ℕ) (decls : List Decl) → AreNumbered t.links → leads_to_router t.links from ≡ true → is_newer t.known source number ≡ true
    → (to : LinkNo) → on_link to (to_each (children_among t.links t.base source) (Snap source number decls)) ≡ sends_snap t from source number decls to.0
on_snap t from source number decls up leads newer to =
    on_picked (λ l. leads_to_child t source l) (Snap source number decls) t.links up to
    ∙ ap (λ b. cond b (Snap source number decls ∷ []) []) (by (leads_to_router t.links from) (is_newer t.known source number) leads newer)
  where
    by : (a b : Bool) → a ≡ true → b ≡ true → is_to_child t source to.0 ≡ (a && (b && is_to_child t source to.0))
    by a b h k = rw (h, k) refl

-- changes of the own log
pub on_changes : (t : TableState) (cs : List Change) → AreNumbered t.links → (to : LinkNo)
    → on_link to (all_to_each (children_among t.links t.base t.base.me) (steps t.base.me (position t.known t.base.me) cs)) ≡ sends_changes t cs to.0
on_changes t cs up to = on_all_picked (λ l. leads_to_child t t.base.me l) (steps t.base.me (position t.known t.base.me) cs) t.links up to

pub steps-append : (source : List ℕ) (n : ℕ) (a b : List Change) → steps source n (a ++ b) ≡ steps source n a ++ steps source (n + length a) b
steps-append source n [] b = let e : n ≡ n + length {A = Change} [] = omega arith in ap (λ k. steps source k b) e
steps-append source n (c ∷ a) b =
    let e : (n + 1) + length a ≡ n + length (c ∷ a) = omega arith in
    ap (λ ms. Step source (n + 1) c.added c.decl ∷ ms) (steps-append source (n + 1) a b ∙ ap (λ k. steps source (n + 1) a ++ steps source k b) e)

-- the snapshots for new children
module _ (t : TableState) (before : List RecordState) where
  -- the records before, of the same router
  abbrev then_base : BaseState
  then_base = record { me = t.base.me; records = before }

  abbrev snapshots_of : List Log → LinkPeer → List Msg
  snapshots_of logs l = flat_map (λ log. cond (is_new_child before t.base.records t.base.me log.source l.peer.id) (snapshot log ∷ []) []) logs

  abbrev told_of : List Log → Option LinkPeer → List Msg
  told_of logs o = option_map_or (λ l. cond (is_router l.peer.role) (snapshots_of logs l) []) o []

  nothing_told : (o : Option LinkPeer) → [] ≡ told_of [] o
  nothing_told None = refl
  nothing_told (Some l) = by (is_router l.peer.role)
    where
      by : (r : Bool) → [] ≡ cond r (snapshots_of [] l) []
      by true = refl
      by false = refl

  one_more : (log : Log) (logs : List Log) (o : Option LinkPeer)
      → cond (option_map_or (λ l. leads_to_new_child t.base then_base log.source l) o false) (snapshot log ∷ []) [] ++ told_of logs o ≡ told_of (log ∷ logs) o
  one_more log logs None = refl
  one_more log logs (Some l) = by (is_router l.peer.role)
    where
      by : (r : Bool) → cond ((r && is_own_child t log.source l.peer.id) && not (is_own_child (bare_tables then_base) log.source l.peer.id)) (snapshot log ∷ []) [] ++ cond r (snapshots_of logs l) []
          ≡ cond r (snapshots_of (log ∷ logs) l) []
      by true = refl
      by false = refl

  on_logs : (logs : List Log) → AreNumbered t.links → (to : LinkNo) → on_link to (flat_map (to_new_children t.links t.base then_base) logs) ≡ told_of logs (link_at t.links to.0)
  on_logs [] up to = nothing_told (link_at t.links to.0)
  on_logs (log ∷ logs) up to =
      on_link-append to (to_new_children t.links t.base then_base log) (flat_map (to_new_children t.links t.base then_base) logs)
      ∙ ap (λ ms. ms ++ on_link to (flat_map (to_new_children t.links t.base then_base) logs)) (on_picked (λ l. leads_to_new_child t.base then_base log.source l) (snapshot log) t.links up to)
      ∙ ap (λ ms. cond (option_map_or (λ l. leads_to_new_child t.base then_base log.source l) (link_at t.links to.0) false) (snapshot log ∷ []) [] ++ ms) (on_logs logs up to)
      ∙ one_more log logs (link_at t.links to.0)

  pub on_snapshots : AreNumbered t.links → (to : LinkNo) → on_link to (flat_map (to_new_children t.links t.base then_base) t.known.logs) ≡ sends_snapshots t before to.0
  on_snapshots up to = on_logs t.known.logs up to

-- the same where links, records and logs are given apart
pub snapshots_by : (t : TableState) (links : List LinkPeer) (b before : BaseState) (logs : List Log) → GoesBy t links b → t.known.logs ≡ logs → before.me ≡ b.me → AreNumbered t.links
    → (to : LinkNo) → on_link to (flat_map (to_new_children links b before) logs) ≡ sends_snapshots t before.records to.0
snapshots_by t links b before logs h same own up to =
    let me : before.me ≡ t.base.me = own ∙ ap (λ (c : BaseState). c.me) (sym h.base_is) in
    let e : before ≡ record { me = t.base.me; records = before.records } = ap (λ (m : List ℕ). record { me = m; records = before.records }) me in
    ap (λ ls. on_link to (flat_map (to_new_children ls b before) logs)) (sym h.links_are)
    ∙ ap (λ c. on_link to (flat_map (to_new_children t.links c before) logs)) (sym h.base_is)
    ∙ ap (λ c. on_link to (flat_map (to_new_children t.links t.base c) logs)) e
    ∙ ap (λ ls. on_link to (flat_map (to_new_children t.links t.base (record { me = t.base.me; records = before.records })) ls)) (sym same)
    ∙ on_snapshots t before.records up to

-- what goes to the children by links and records goes to those by a state that has them
pub passed : (t : TableState) (links : List LinkPeer) (b : BaseState) → GoesBy t links b → (root : List ℕ) (slice to : List LinkNo) (msg told : Msg) → slice ≡ to → to ≡ children_among links b root → msg ≡ told
    → to_each slice msg ≡ to_each (children_among t.links t.base root) told
passed t links b h root slice to msg told s e m = ap (λ ls. to_each ls msg) (s ∙ e ∙ same_children t links b h root) ∙ ap (λ x. to_each (children_among t.links t.base root) x) m

pub own_passed : (t : TableState) (links : List LinkPeer) (b : BaseState) → GoesBy t links b → (me : List ℕ) (number : ℕ) (slice to : List LinkNo) (cs : List Change) → slice ≡ to → to ≡ children_among links b me
    → me ≡ b.me → number ≡ position t.known t.base.me → all_to_each slice (steps me number cs) ≡ all_to_each (children_among t.links t.base t.base.me) (steps t.base.me (position t.known t.base.me) cs)
own_passed t links b h me number slice to cs s e m n =
    let own : me ≡ t.base.me = m ∙ ap (λ (c : BaseState). c.me) (sym h.base_is) in
    ap (λ ls. all_to_each ls (steps me number cs)) (s ∙ e ∙ same_children t links b h me)
    ∙ ap (λ x. all_to_each (children_among t.links t.base x) (steps x number cs)) own
    ∙ ap (λ k. all_to_each (children_among t.links t.base t.base.me) (steps t.base.me k cs)) n

-- gone first, then come
pub both_steps : (links : List LinkNo) (source : List ℕ) (n m : ℕ) (a b : List Decl) → m ≡ n + length a
    → all_to_each links (steps source n (changes_of a b)) ≡ all_to_each links (steps source n (map (λ d. record { added = false; decl = d }) a)) ++ all_to_each links (steps source m (map (λ d. record { added = true; decl = d }) b))
both_steps links source n m a b e =
    let lost : List Change = map (λ d. record { added = false; decl = d }) a in
    let won : List Change = map (λ d. record { added = true; decl = d }) b in
    let long : n + length lost ≡ m = ap (λ k. n + k) (length-map a (λ (d : Decl). record { added = false; decl = d })) ∙ sym e in
    ap (λ ms. all_to_each links ms) (steps-append source n lost won ∙ ap (λ k. steps source n lost ++ steps source k won) long)
    ∙ all_to_each-append links (steps source n lost) (steps source m won)
