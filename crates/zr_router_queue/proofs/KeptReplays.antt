-- In every history that is legal what a router's clients declare and their live interests together, and what it knows of logs, weigh no more than they may.
use Rattle.std.proofs.Common.{◌≡◌, ℕ, true, List, [], ◌∷◌, Option, Some, None, refl}
use Rattle.std.specs.Prelude.{is_none}
use Rattle.zr_port.specs.declared.entry.Entry.{Entry}
use Rattle.zr_node_spec.specs.Table.{refuses}
use Rattle.zr_told_spec.specs.Hub.{hub_refuses}
use Rattle.zr_router_queue.specs.History.{is_legal, is_legal_from, may_come, may_follow}
use Rattle.zr_router_queue.specs.Tables.{Tables, advanced, new_tables, replay, replay_from}
use Rattle.zr_router_queue.proofs.InStep.{and_both}
use Rattle.zr_law_sent.proofs.Kept.{IsKept, kept_after, kept_new, neither}

pub none_is : {X : Type 0} (o : Option X) → is_none o ≡ true → o ≡ None
none_is None is = refl
none_is (Some x) is = cc

-- an entry that may follow isn't refused
follows_taken : (t : Tables) (e : Entry) → may_follow t e ≡ true → hub_refuses t.hub e.event ≡ None
follows_taken t e may =
    let a = and_both (may_come t.hub.node e.event) _ may in
    none_is (hub_refuses t.hub e.event) (and_both (is_none (hub_refuses t.hub e.event)) _ a.1).0

kept_from : (t : Tables) (h : List Entry) → is_legal_from t h ≡ true → IsKept t.hub.node → IsKept (replay_from t h).hub.node
kept_from t [] legal k = k
kept_from t (e ∷ es) legal k =
    let both = and_both (may_follow t e) (is_legal_from (advanced t e) es) legal in
    kept_from (advanced t e) es both.1 (kept_after t.hub.node e.event k (neither (refuses t.hub.node e.event) _ (follows_taken t e both.0)))

pub kept_replay : (me : List ℕ) (h : List Entry) → is_legal me h ≡ true → IsKept (replay me h).hub.node
kept_replay me h legal = kept_from (new_tables me) h legal (kept_new me)
