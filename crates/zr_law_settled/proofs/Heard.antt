-- What a router knows of logs stays in order at each event; and what another router tells it of a log it knows then, unless it refuses it.
use Rattle.std.proofs.Common.{◌≡◌, ◌≤◌, ◌<◌, ◌+◌, ℕ, max, Bool, true, false, cond, List, [], ◌∷◌, Option, Some, None, refl, sym, ap, ◌∙◌, arith}
use Rattle.std.specs.Prelude.{◌&&◌, ◌==◌, nat_lt, not}
use Rattle.std.specs.Option.{option_map}
use Rattle.std.proofs.lemmas.Bool.{and_parts, eqb-true, eqb-false, ltb-true, ltb-false}
use Rattle.zr_id.specs.Zid.{is_named}
use Rattle.zr_id.specs.declared.link.LinkNo.{LinkNo}
use Rattle.zr_graph.proofs.Names.{same_is}
use Rattle.zr_msg.specs.declared.decl.Decl.{Decl}
use Rattle.zr_msg.specs.declared.decl.Kind.TheVariants as kind
use Rattle.zr_msg.specs.declared.msg.Msg.{Msg}
use Rattle.zr_msg.specs.declared.msg.Msg.TheVariants.{Sub, Unsub, Token, Untoken, Able, Unable, Interest, EndInterest, ToldSub, ToldAble, ToldUnsub, ToldToken, ToldUntoken, ToldUnable, ToldEnd, Push, Request, Response, Final, State, Step, Snap}
use Rattle.zr_msg.specs.declared.event.Event.{Event}
use Rattle.zr_msg.specs.declared.event.Event.TheVariants.{Up, Down, From}
use Rattle.zr_log_set.specs.Decls.{set_of}
use Rattle.zr_log.specs.Log.{Change, changed, change_held, change_more}
use Rattle.zr_log.specs.Known.{KnownState, AreInOrder, position, decls, with_log, after_own, is_next, is_newer, is_gap, over_limit, refuses_step}
use Rattle.zr_log.specs.declared.error.KnownError.{KnownError}
use Rattle.zr_log.specs.declared.error.KnownError.TheVariants.{Gap}
use Rattle.zr_log.proofs.Logs.{in_order_put}
use Rattle.zr_node_spec.specs.Tables.{leads_to_router}
use Rattle.zr_node_spec.specs.Changes.{changes, after_changes}
use Rattle.zr_node_spec.specs.State.{NodeState}
use Rattle.zr_node_spec.specs.Table.{row, key_of, able_kind, rows_declared, rows_undeclared, rows_left, known_step, known_snap, known_error, after, refuses}
use Rattle.zr_node_spec.proofs.Changes.{me_changes}
use Rattle.zr_world_spec.proofs.Names.{names}
use Rattle.zr_law_settled.proofs.Spreading.{Name, best}
use Rattle.zr_law_settled.proofs.Positions.{places}
use Rattle.zr_law_settled.proofs.Children.{step_now, snap_now}

-- ---- order

with_order : (k : KnownState) (source : Name) (number : ℕ) (set : List Decl) → AreInOrder k → 0 < number → AreInOrder (with_log k source number set)
with_order k source number set h begun = in_order_put k.me k.logs (record { source = source; position = number; decls = set }) h begun

changes_order : (k : KnownState) (cs : List Change) → AreInOrder k → AreInOrder (after_changes k cs)
changes_order k [] h = h
changes_order k (c ∷ cs) h = changes_order (after_own k c) cs (with_order k k.me (position k k.me + 1) (changed (decls k k.me) c) h (omega arith))

-- a router's own name stays, and what it knows stays in order
pub record Stays (n : NodeState) (k : KnownState) : Type 0 where
  pub order : AreInOrder n.known → AreInOrder k
  pub own_name : k.me ≡ n.known.me

module _ (n : NodeState) where
  same_stays : Stays n n.known
  same_stays = record { order = λ h. h; own_name = refl }

  rows_stay : (cs : List Change) → Stays n (after_changes n.known cs)
  rows_stay cs = record { order = changes_order n.known cs; own_name = me_changes n.known cs }

  step_stays : (from : ℕ) (source : Name) (number : ℕ) (c : Change) → Stays n (known_step n from source number c)
  step_stays from source number c = by (leads_to_router n.links from) (is_next n.known source number) refl
    where
      by : (a b : Bool) → is_next n.known source number ≡ b → Stays n (cond a (cond b (with_log n.known source number (changed (decls n.known source) c)) n.known) n.known)
      by true true e = record {
        order = λ h. with_order n.known source number (changed (decls n.known source) c) h
            (let next : number ≡ position n.known source + 1 = eqb-true number (position n.known source + 1) (and_parts (not (is_named source n.known.me)) (number == position n.known source + 1) e).1 in omega (arith, next));
        own_name = refl;
      }
      by true false e = same_stays
      by false b e = same_stays

  snap_stays : (from : ℕ) (source : Name) (number : ℕ) (ds : List Decl) → Stays n (known_snap n from source number ds)
  snap_stays from source number ds = by (leads_to_router n.links from) (is_newer n.known source number) refl
    where
      by : (a b : Bool) → is_newer n.known source number ≡ b → Stays n (cond a (cond b (with_log n.known source number (set_of ds)) n.known) n.known)
      by true true e = record {
        order = λ h. with_order n.known source number (set_of ds) h
            (let lt = ltb-true (position n.known source) number (and_parts (not (is_named source n.known.me)) (nat_lt (position n.known source) number) e).1 in omega arith);
        own_name = refl;
      }
      by true false e = same_stays
      by false b e = same_stays

  from_stays : (link : LinkNo) (msg : Msg) → Stays n (after n (From link msg)).known
  from_stays link (Sub id key) = rows_stay (changes n.rows (rows_declared n link.0 (row link.0 id kind.Sub key)))
  from_stays link (Unsub id) = rows_stay (changes n.rows (rows_undeclared n link.0 (key_of link.0 id kind.Sub)))
  from_stays link (Token id key) = rows_stay (changes n.rows (rows_declared n link.0 (row link.0 id kind.Token key)))
  from_stays link (Untoken id) = rows_stay (changes n.rows (rows_undeclared n link.0 (key_of link.0 id kind.Token)))
  from_stays link (Able id key complete) = rows_stay (changes n.rows (rows_declared n link.0 (row link.0 id (able_kind complete) key)))
  from_stays link (Unable id) = rows_stay (changes n.rows (rows_undeclared n link.0 (key_of link.0 id kind.Able)))
  from_stays link (Interest id current future kinds key aggregate) = same_stays
  from_stays link (EndInterest id) = same_stays
  from_stays link (ToldSub id key interest) = same_stays
  from_stays link (ToldToken id key interest) = same_stays
  from_stays link (ToldAble id key complete interest) = same_stays
  from_stays link (ToldUnsub id) = same_stays
  from_stays link (ToldUntoken id) = same_stays
  from_stays link (ToldUnable id) = same_stays
  from_stays link (ToldEnd interest) = same_stays
  from_stays link (Push tree content) = same_stays
  from_stays link (Request tree id target content) = same_stays
  from_stays link (Response id content) = same_stays
  from_stays link (Final id extras) = same_stays
  from_stays link (State links) = same_stays
  from_stays link (Step source number added decl) = step_stays link.0 source number (record { added = added; decl = decl })
  from_stays link (Snap source number decls) = snap_stays link.0 source number decls

  pub event_stays : (event : Event) → Stays n (after n event).known
  event_stays (Up link peer) = same_stays
  event_stays (Down link) = rows_stay (changes n.rows (rows_left n link.0))
  event_stays (From link msg) = from_stays link msg

-- ---- what was heard is known

other_is : (source me z : Name) → is_named me z ≡ false → is_named source z ≡ true → is_named source me ≡ false
other_is source me z other e = names.symm source me ∙ ap (λ q. is_named me q) (same_is source z e) ∙ other

-- nothing is refused where no error is named
no_error : (o : Option KnownError) → option_map (λ x. known_error x) o ≡ None → o ≡ None
no_error None e = refl
no_error (Some x) e = absurd (cc)

module _ (n : NodeState) (link : LinkNo) (router : leads_to_router n.links link.0 ≡ true) where
  step_heard : (source : Name) (number : ℕ) (c : Change) → refuses_step n.known source number c ≡ None → (z : Name) → is_named n.known.me z ≡ false → (t : Bool) → is_named source z ≡ t →
      max (cond t number 0) 0 ≤ position (known_step n link.0 source number c) z
  step_heard source number c taken z other false e = omega arith
  step_heard source number c taken z other true e = by (is_gap n.known source number) refl (number == position n.known source + 1) refl taken
    where
      foreign : is_named source n.known.me ≡ false
      foreign = other_is source n.known.me z other e

      here : position n.known source ≡ position n.known z
      here = ap (position n.known) (same_is source z e)

      now : position (known_step n link.0 source number c) z ≡ cond (number == position n.known source + 1) number (position n.known z)
      now = step_now n link.0 source number c z
          ∙ ap (λ a. cond (a && is_next n.known source number) (cond (is_named source z) number (position n.known z)) (position n.known z)) router
          ∙ ap (λ b. cond (true && (not b && number == position n.known source + 1)) (cond (is_named source z) number (position n.known z)) (position n.known z)) foreign
          ∙ ap (λ t. cond (number == position n.known source + 1) (cond t number (position n.known z)) (position n.known z)) e

      by : (g : Bool) → is_gap n.known source number ≡ g → (t : Bool) → (number == position n.known source + 1) ≡ t →
          cond g (Some (Gap source (position n.known source) number)) (cond (is_next n.known source number) (over_limit (change_held (decls n.known source) c) (change_more c)) None) ≡ None →
          max number 0 ≤ position (known_step n link.0 source number c) z
      by true eg t et k = absurd (cc)
      by false eg true et k = let is : position (known_step n link.0 source number c) z ≡ number = now ∙ ap (λ t. cond t number (position n.known z)) et in omega (arith, is)
      by false eg false et k =
          let is : position (known_step n link.0 source number c) z ≡ position n.known z = now ∙ ap (λ t. cond t number (position n.known z)) et in
          let le : number ≤ position n.known source + 1 = ltb-false (position n.known source + 1) number (sym (ap (λ b. not b && nat_lt (position n.known source + 1) number) foreign) ∙ eg) in
          let apart : number ≡ position n.known source + 1 → ⊥ = eqb-false number (position n.known source + 1) et in
          omega (arith, is, le, here, apart)

  snap_heard : (source : Name) (number : ℕ) (ds : List Decl) (z : Name) → is_named n.known.me z ≡ false → (t : Bool) → is_named source z ≡ t →
      max (cond t number 0) 0 ≤ position (known_snap n link.0 source number ds) z
  snap_heard source number ds z other false e = omega arith
  snap_heard source number ds z other true e = by (nat_lt (position n.known source) number) refl
    where
      foreign : is_named source n.known.me ≡ false
      foreign = other_is source n.known.me z other e

      here : position n.known source ≡ position n.known z
      here = ap (position n.known) (same_is source z e)

      now : position (known_snap n link.0 source number ds) z ≡ cond (nat_lt (position n.known source) number) number (position n.known z)
      now = snap_now n link.0 source number ds z
          ∙ ap (λ a. cond (a && is_newer n.known source number) (cond (is_named source z) number (position n.known z)) (position n.known z)) router
          ∙ ap (λ b. cond (true && (not b && nat_lt (position n.known source) number)) (cond (is_named source z) number (position n.known z)) (position n.known z)) foreign
          ∙ ap (λ t. cond (nat_lt (position n.known source) number) (cond t number (position n.known z)) (position n.known z)) e

      by : (t : Bool) → nat_lt (position n.known source) number ≡ t → max number 0 ≤ position (known_snap n link.0 source number ds) z
      by true et = let is : position (known_snap n link.0 source number ds) z ≡ number = now ∙ ap (λ t. cond t number (position n.known z)) et in omega (arith, is)
      by false et =
          let is : position (known_snap n link.0 source number ds) z ≡ position n.known z = now ∙ ap (λ t. cond t number (position n.known z)) et in
          let le = ltb-false (position n.known source) number et in
          omega (arith, is, here)

  pub heard_known : (msg : Msg) → refuses n (From link msg) ≡ None → (z : Name) → is_named n.known.me z ≡ false → best z (places (msg ∷ [])) ≤ position (after n (From link msg)).known z
  heard_known (Sub id key) taken z other = omega arith
  heard_known (Unsub id) taken z other = omega arith
  heard_known (Token id key) taken z other = omega arith
  heard_known (Untoken id) taken z other = omega arith
  heard_known (Able id key complete) taken z other = omega arith
  heard_known (Unable id) taken z other = omega arith
  heard_known (Interest id current future kinds key aggregate) taken z other = omega arith
  heard_known (EndInterest id) taken z other = omega arith
  heard_known (ToldSub id key interest) taken z other = omega arith
  heard_known (ToldToken id key interest) taken z other = omega arith
  heard_known (ToldAble id key complete interest) taken z other = omega arith
  heard_known (ToldUnsub id) taken z other = omega arith
  heard_known (ToldUntoken id) taken z other = omega arith
  heard_known (ToldUnable id) taken z other = omega arith
  heard_known (ToldEnd interest) taken z other = omega arith
  heard_known (Push tree content) taken z other = omega arith
  heard_known (Request tree id target content) taken z other = omega arith
  heard_known (Response id content) taken z other = omega arith
  heard_known (Final id extras) taken z other = omega arith
  heard_known (State links) taken z other = omega arith
  heard_known (Step source number added decl) taken z other =
      step_heard source number (record { added = added; decl = decl })
      (no_error (refuses_step n.known source number (record { added = added; decl = decl })) (sym (ap (λ t. cond t (option_map (λ x. known_error x) (refuses_step n.known source number (record { added = added; decl = decl }))) None) router) ∙ taken))
      z other (is_named source z) refl
  heard_known (Snap source number decls) taken z other = snap_heard source number decls z other (is_named source z) refl
