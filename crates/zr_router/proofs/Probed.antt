-- Rings that were asked as for an event, whether or not memory ran out: what was queued for the links is the same.
use Rattle.std.proofs.Common.{◌≡◌, ℕ, List, [], ◌∷◌, map, refl, ap, ◌∙◌}
use Rattle.std.specs.List.{AllZip}
use Rattle.zr_port.specs.declared.entry.Entry.{Entry}
use Rattle.zr_told_spec.specs.Hub.{HubState}
use Rattle.zr_router_queue.specs.Ends.{EndState, IsReplay, IsStill}
use Rattle.zr_router_queue.specs.Tables.{LinkQueue}
use Rattle.zr_router_queue.proofs.Named.{named_too}
use Rattle.zr_router_queue.proofs.Stepped.{zip_so}

same_queues : (xs ys : List EndState) → AllZip (λ old new. IsStill old new) xs ys → map (λ e. e.queue) ys ≡ map (λ e. e.queue) xs
same_queues [] [] r = refl
same_queues [] (y ∷ ys) r = absurd r
same_queues (x ∷ xs) [] r = absurd r
same_queues (x ∷ xs) (y ∷ ys) r = rw (r.0.0, same_queues xs ys r.1) refl

-- so the tables are the same replay
pub probed : (me : List ℕ) (h : List Entry) (hub : HubState) (xs ys : List EndState) → AllZip (λ old new. IsStill old new) xs ys → IsReplay me h hub xs → IsReplay me h hub ys
probed me h hub xs ys still r = record {
  hub_is = r.hub_is;
  queues = same_queues xs ys still ∙ r.queues;
  named = named_too me h xs ys r.named
      (zip_so (λ old new. IsStill old new) (λ (old new : EndState). new.ring ≡ old.ring) (λ old new s. s.1) xs ys still)
      (zip_so (λ old new. IsStill old new) (λ (old new : EndState). new.queue.link ≡ old.queue.link) (λ old new s. ap (λ (q : LinkQueue). q.link) s.0) xs ys still);
}
