-- Which entry brought a link up last, and that rings keep their names as entries come.
use Rattle.std.proofs.Common.{◌≡◌, ℕ, ◌+◌, ◌==◌, Bool, true, false, cond, List, [], ◌∷◌, ◌++◌, length, map, Option, Some, None, refl, sym, ap, subst, ◌∙◌, arith}
use Rattle.std.specs.List.{AllByRecursion, AllZip, find}
use Rattle.zr_id.specs.declared.link.LinkNo.{LinkNo}
use Rattle.zr_lists.proofs.Numbers.{same_number, turned}
use Rattle.zr_msg.specs.Peer.{PeerState}
use Rattle.zr_msg.specs.declared.event.Event.{Event}
use Rattle.zr_msg.specs.declared.event.Event.TheVariants.{Up}
use Rattle.zr_msg.specs.declared.msg.Msg.{Msg}
use Rattle.zr_node_spec.specs.Event.{on_link}
use Rattle.zr_port.specs.declared.entry.Entry.{Entry}
use Rattle.zr_ring.specs.declared.name.RingName.{RingName}
use Rattle.zr_router_queue.specs.Ends.{EndState, IsAsked, IsNamed, IsPlannedFor, RingState, new_end}
use Rattle.zr_router_queue.specs.History.{brings_up, renews}
use Rattle.zr_router_queue.specs.Note.{FitsRing, last_up, last_up_from}
use Rattle.zr_router_queue.specs.Tables.{LinkQueue}
use Rattle.zr_router_queue.proofs.Stepped.{zip_so}

-- ---- one entry more

last_from : (link : LinkNo) (n : ℕ) (found : Option ℕ) (h : List Entry) (e : Entry) →
    last_up_from link n found (h ++ e ∷ []) ≡ cond (renews link e) (Some (n + length h)) (last_up_from link n found h)
last_from link n found [] e = let same : n ≡ n + 0 = omega arith in ap (λ (m : ℕ). cond (renews link e) (Some m) found) same
last_from link n found (x ∷ h) e =
    let now : Option ℕ = cond (renews link x) (Some n) found in
    let same : n + 1 + length h ≡ n + length (x ∷ h) = omega arith in
    last_from link (n + 1) now h e ∙ ap (λ (m : ℕ). cond (renews link e) (Some m) (last_up_from link (n + 1) now h)) same

last_more : (link : LinkNo) (h : List Entry) (e : Entry) → last_up link (h ++ e ∷ []) ≡ cond (renews link e) (Some (length h)) (last_up link h)
last_more link h e = let same : 0 + length h ≡ length h = omega arith in last_from link 0 None h e ∙ ap (λ (m : ℕ). cond (renews link e) (Some m) (last_up link h)) same

-- an entry that brings another link up
pub named_more : (me : List ℕ) (h : List Entry) (e : Entry) (x : EndState) → renews x.queue.link e ≡ false → IsNamed me h x → IsNamed me (h ++ e ∷ []) x
named_more me h e x other n = (n.0, n.1, last_more x.queue.link h e ∙ ap (λ b. cond b (Some (length h)) (last_up x.queue.link h)) other ∙ n.2)

-- the entry that brings the link up
named_new : (me : List ℕ) (h : List Entry) (e : Entry) (q : LinkQueue) (ring : RingState) → renews q.link e ≡ true → ring.name.router ≡ me → ring.name.link ≡ q.link →
    ring.name.since ≡ length h → IsNamed me (h ++ e ∷ []) (new_end q ring)
named_new me h e q ring own router link since =
    (sym router, sym link, last_more q.link h e ∙ ap (λ b. cond b (Some (length h)) (last_up q.link h)) own ∙ ap (λ n. Some n) (sym since))

-- ---- all rings

pub named_after : (me : List ℕ) (h : List Entry) (event : Event) (xs : List EndState) → AllByRecursion (λ x. brings_up x.queue.link event ≡ false) xs →
    AllByRecursion (λ x. IsNamed me h x) xs → (e : Entry) → e.event ≡ event → AllByRecursion (λ x. IsNamed me (h ++ e ∷ []) x) xs
named_after me h event [] other n e is = tt
named_after me h event (x ∷ xs) other n e is =
    (named_more me h e x (ap (λ v. brings_up x.queue.link v) is ∙ other.0) n.0, named_after me h event xs other.1 n.1 e is)

-- a link comes up under a number that none of these has
pub none_other : (n : ℕ) (xs : List EndState) → find (λ q. q.link.0 == n) (map (λ x. x.queue) xs) ≡ None → AllByRecursion (λ x. (n == x.queue.link.0) ≡ false) xs
none_other n [] e = tt
none_other n (x ∷ xs) e = by (x.queue.link.0 == n) refl e (none_other n xs)
  where
    by : (b : Bool) → (x.queue.link.0 == n) ≡ b → cond b (Some x.queue) (find (λ q. q.link.0 == n) (map (λ y. y.queue) xs)) ≡ None →
        (find (λ q. q.link.0 == n) (map (λ y. y.queue) xs) ≡ None → AllByRecursion (λ y. (n == y.queue.link.0) ≡ false) xs) →
        AllByRecursion (λ y. (n == y.queue.link.0) ≡ false) (x ∷ xs)
    by true is e ih = cc
    by false is e ih = (turned x.queue.link.0 n is, ih e)

pub named_up : (me : List ℕ) (h : List Entry) (peer : PeerState) (q : LinkQueue) (ring : RingState) (xs : List EndState) → AllByRecursion (λ x. (q.link.0 == x.queue.link.0) ≡ false) xs →
    AllByRecursion (λ x. IsNamed me h x) xs → ring.name.router ≡ me → ring.name.link ≡ q.link → ring.name.since ≡ length h →
    (e : Entry) → e.event ≡ Up q.link peer → AllByRecursion (λ x. IsNamed me (h ++ e ∷ []) x) (xs ++ new_end q ring ∷ [])
named_up me h peer q ring [] other n router link since e is =
    (named_new me h e q ring (ap (λ v. brings_up q.link v) is ∙ same_number q.link.0) router link since, tt)
named_up me h peer q ring (x ∷ xs) other n router link since e is =
    (named_more me h e x (ap (λ v. brings_up x.queue.link v) is ∙ other.0) n.0, named_up me h peer q ring xs other.1 n.1 router link since e is)

-- rings and links that stay the same keep the name
pub named_too : (me : List ℕ) (h : List Entry) (xs ys : List EndState) → AllByRecursion (λ x. IsNamed me h x) xs → AllZip (λ old new. new.ring ≡ old.ring) xs ys →
    AllZip (λ old new. new.queue.link ≡ old.queue.link) xs ys → AllByRecursion (λ x. IsNamed me h x) ys
named_too me h [] [] n r l = tt
named_too me h [] (y ∷ ys) n r l = absurd r
named_too me h (x ∷ xs) [] n r l = absurd r
named_too me h (x ∷ xs) (y ∷ ys) n r l = (
  subst (λ (u : RingName × LinkNo). FitsRing u.0 me u.1 h) (λ i. (sym (ap (λ z. z.name) r.0) i, sym l.0 i)) n.0,
  named_too me h xs ys n.1 r.1 l.1,
)

-- so do those that an event was planned for
pub named_planned : (me : List ℕ) (h : List Entry) (sent : List (LinkNo × Msg)) (xs ys : List EndState) → AllByRecursion (λ x. IsNamed me h x) xs →
    AllZip (λ old new. (new.queue ≡ old.queue) × IsPlannedFor (on_link old.queue.link sent) new) xs ys → AllZip (λ old new. IsAsked old new) xs ys →
    AllByRecursion (λ x. IsNamed me h x) ys
named_planned me h sent xs ys n planned asked =
    named_too me h xs ys n (zip_so (λ old new. IsAsked old new) (λ old new. new.ring ≡ old.ring) (λ old new a. a.0) xs ys asked)
    (zip_so (λ old new. (new.queue ≡ old.queue) × IsPlannedFor (on_link old.queue.link sent) new) (λ old new. new.queue.link ≡ old.queue.link)
    (λ old new p. ap (λ q. q.link) p.0) xs ys planned)
