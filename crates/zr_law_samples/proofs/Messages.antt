-- What a message is to a router: one that changes what its client has declared, a sample or a request, one that changes what the router knows of
-- others, or a message that it takes quietly: of it the router sends nothing that carries anything, and changes no more than what is asked of it. What
-- is shown of the first ones, and of the last by what all such have in common (`IsQuiet`), is shown of each (`by_kind`); of those that a
-- settled world may have under way, only samples and requests aren't quiet (`by_calm`).
use Rattle.std.proofs.Common.{◌≡◌, ℕ, Bool, true, false, not, List, [], Option, None, refl}
use Rattle.std.specs.List.{list_all}
use Rattle.std.proofs.lemmas.Bool.{true≢false}
use Rattle.zr_id.specs.Record.{RecordState}
use Rattle.zr_msg.specs.declared.content.Parts.{Parts}
use Rattle.zr_msg.specs.declared.decl.Decl.{Decl}
use Rattle.zr_msg.specs.declared.msg.Msg.{Msg}
use Rattle.zr_msg.specs.declared.msg.Msg.TheVariants as m
use Rattle.zr_msg.specs.declared.msg.Target.{Target}
use Rattle.zr_node_spec.specs.Queries.{sends_reply, sends_final}
use Rattle.zr_node_spec.specs.State.{NodeState}
use Rattle.zr_node_spec.specs.Table.{sends_from, after_from}
use Rattle.zr_world_spec.specs.World.{unsettles}
use Rattle.zr_guarantee.specs.Sent.{carried_by}
use Rattle.zr_law_settled.proofs.Answering.{reply_all, final_all}
use Rattle.zr_law_samples.proofs.Carried.{carried_in, none_carried, all_pass}
use Rattle.zr_law_samples.proofs.Idle.{idle}

-- a message that carries nothing
pub record IsQuiet (msg : Msg) : Type 0 where
  pub carries : carried_by msg ≡ None
  pub sends : (node : NodeState) (from to : ℕ) → carried_in (sends_from node from msg to) ≡ []
  pub calms : (node : NodeState) (from to : ℕ) → list_all (λ z. not (unsettles z)) (sends_from node from msg to) ≡ true
  pub keeps : (node : NodeState) (from : ℕ) → idle (after_from node from msg) ≡ idle node

module _ (P : Msg → Type 0) where
  pub by_kind : ((id : ℕ) (key : List ℕ) → P (m.Sub id key)) → ((id : ℕ) → P (m.Unsub id)) → ((id : ℕ) (key : List ℕ) → P (m.Token id key)) → ((id : ℕ) → P (m.Untoken id)) →
      ((id : ℕ) (key : List ℕ) (complete : Bool) → P (m.Able id key complete)) → ((id : ℕ) → P (m.Unable id)) →
      ((tree : Option (List ℕ)) (content : Parts) → P (m.Push tree content)) → ((tree : Option (List ℕ)) (number : ℕ) (target : Target) (content : Parts) → P (m.Request tree number target content)) →
      ((r : RecordState) → P (m.State r)) →
      ((source : List ℕ) (number : ℕ) (added : Bool) (decl : Decl) → P (m.Step source number added decl)) → ((source : List ℕ) (number : ℕ) (decls : List Decl) → P (m.Snap source number decls)) →
      ((msg : Msg) → IsQuiet msg → P msg) → (msg : Msg) → P msg
  by_kind sub unsub token untoken able unable push request state step snap quiet (m.Sub id key) = sub id key
  by_kind sub unsub token untoken able unable push request state step snap quiet (m.Unsub id) = unsub id
  by_kind sub unsub token untoken able unable push request state step snap quiet (m.Token id key) = token id key
  by_kind sub unsub token untoken able unable push request state step snap quiet (m.Untoken id) = untoken id
  by_kind sub unsub token untoken able unable push request state step snap quiet (m.Able id key complete) = able id key complete
  by_kind sub unsub token untoken able unable push request state step snap quiet (m.Unable id) = unable id
  by_kind sub unsub token untoken able unable push request state step snap quiet (m.Push tree content) = push tree content
  by_kind sub unsub token untoken able unable push request state step snap quiet (m.Request tree number target content) = request tree number target content
  by_kind sub unsub token untoken able unable push request state step snap quiet (m.State r) = state r
  by_kind sub unsub token untoken able unable push request state step snap quiet (m.Step source number added decl) = step source number added decl
  by_kind sub unsub token untoken able unable push request state step snap quiet (m.Snap source number decls) = snap source number decls
  by_kind sub unsub token untoken able unable push request state step snap quiet (m.Response number content) = quiet (m.Response number content) (record {
    carries = refl;
    sends = λ node from to. none_carried (sends_reply node.pending node.held from number content to) (reply_all (λ z. carried_by z ≡ None) (λ n c. refl) node.pending node.held from number content to);
    calms = λ node from to. all_pass (λ z. not (unsettles z)) (sends_reply node.pending node.held from number content to) (reply_all (λ z. not (unsettles z) ≡ true) (λ n c. refl) node.pending node.held from number content to);
    keeps = λ node from. refl;
  })
  by_kind sub unsub token untoken able unable push request state step snap quiet (m.Final number extras) = quiet (m.Final number extras) (record {
    carries = refl;
    sends = λ node from to. none_carried (sends_final node.pending node.held from number extras to) (final_all (λ z. carried_by z ≡ None) (λ n e. refl) (λ n c. refl) node.pending node.held from number extras to);
    calms = λ node from to. all_pass (λ z. not (unsettles z)) (sends_final node.pending node.held from number extras to) (final_all (λ z. not (unsettles z) ≡ true) (λ n e. refl) (λ n c. refl) node.pending node.held from number extras to);
    keeps = λ node from. refl;
  })
  by_kind sub unsub token untoken able unable push request state step snap quiet msg =
      quiet msg (record { carries = refl; sends = λ node from to. refl; calms = λ node from to. refl; keeps = λ node from. refl })

module _ (P : Msg → Type 0) where
  pub by_calm : ((tree : Option (List ℕ)) (content : Parts) → P (m.Push tree content)) → ((tree : Option (List ℕ)) (number : ℕ) (target : Target) (content : Parts) → P (m.Request tree number target content)) →
      ((msg : Msg) → IsQuiet msg → P msg) → (msg : Msg) → unsettles msg ≡ false → P msg
  by_calm push request quiet msg = by_kind (λ z. unsettles z ≡ false → P z)
      (λ id key k. absurd (true≢false k)) (λ id k. absurd (true≢false k)) (λ id key k. absurd (true≢false k)) (λ id k. absurd (true≢false k))
      (λ id key complete k. absurd (true≢false k)) (λ id k. absurd (true≢false k))
      (λ tree content k. push tree content) (λ tree number target content k. request tree number target content)
      (λ r k. absurd (true≢false k)) (λ source number added decl k. absurd (true≢false k)) (λ source number decls k. absurd (true≢false k))
      (λ z q k. quiet z q) msg
