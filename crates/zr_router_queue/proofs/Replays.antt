-- What one more entry makes of the tables: entries are folded from the front, and a longer list goes on from the tables that the shorter one left.
use Rattle.std.proofs.Common.{◌≡◌, ℕ, Bool, true, false, cond, List, [], ◌∷◌, ◌++◌, map, refl, sym, ap, ◌∙◌}
use Rattle.std.specs.Prelude.{◌&&◌, filter}
use Rattle.zr_port.specs.declared.entry.Entry.{Entry}
use Rattle.zr_router_queue.specs.Tables.{Tables, new_tables, advanced, replay_from, replay, queued_by, queues_at, open_queues}
use Rattle.zr_router_queue.specs.Grows.{stays_up}
use Rattle.zr_router_queue.specs.History.{may_follow, is_legal_from, is_legal}

pub replay_snoc : (t : Tables) (h : List Entry) (e : Entry) → replay_from t (h ++ e ∷ []) ≡ advanced (replay_from t h) e
replay_snoc t [] e = refl
replay_snoc t (x ∷ xs) e = replay_snoc (advanced t x) xs e

and_assoc : (a b c : Bool) → (a && b) && c ≡ a && (b && c)
and_assoc true b c = refl
and_assoc false b c = refl

and_true : (b : Bool) → b && true ≡ b
and_true true = refl
and_true false = refl

pub legal_snoc : (t : Tables) (h : List Entry) (e : Entry) → is_legal_from t (h ++ e ∷ []) ≡ is_legal_from t h && may_follow (replay_from t h) e
legal_snoc t [] e = and_true (may_follow t e)
legal_snoc t (x ∷ xs) e = rw (legal_snoc (advanced t x) xs e) (sym (and_assoc (may_follow t x) (is_legal_from (advanced t x) xs) (may_follow (replay_from (advanced t x) xs) e)))

-- as the tables use them
pub replays_more : (me : List ℕ) (h : List Entry) (e : Entry) → replay me (h ++ e ∷ []) ≡ advanced (replay me h) e
replays_more me h e = replay_snoc (new_tables me) h e

pub legal_more : (me : List ℕ) (h : List Entry) (e : Entry) → is_legal me h ≡ true → may_follow (replay me h) e ≡ true → is_legal me (h ++ e ∷ []) ≡ true
legal_more me h e was may = legal_snoc (new_tables me) h e ∙ rw (was, may) refl

-- ---- queues

-- a test that a change leaves as it is
filter_changed : {X : Type 0} (test : X → Bool) (f : X → X) → ((x : X) → test (f x) ≡ test x) → (xs : List X) → filter test (map f xs) ≡ map f (filter test xs)
filter_changed test f same [] = refl
filter_changed test f same (x ∷ xs) = ap (λ b. cond b (f x ∷ filter test (map f xs)) (filter test (map f xs))) (same x) ∙ by (test x) (filter_changed test f same xs)
  where
    by : (b : Bool) → filter test (map f xs) ≡ map f (filter test xs) → cond b (f x ∷ filter test (map f xs)) (filter test (map f xs)) ≡ map f (cond b (x ∷ filter test xs) (filter test xs))
    by true ih = ap (λ z. f x ∷ z) ih
    by false ih = ih

-- the queues of the links that are up, after an entry
pub open_after : (t : Tables) (e : Entry) → open_queues (advanced t e) ≡ map (queued_by t.hub e) (filter (λ q. q.is_up) (queues_at t.queues e.event e.outbox))
open_after t e = filter_changed (λ q. q.is_up) (queued_by t.hub e) (stays_up t.hub e) (queues_at t.queues e.event e.outbox)
