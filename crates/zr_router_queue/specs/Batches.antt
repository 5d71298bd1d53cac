-- The batches that an event has for a link, and the messages that it sends, written.
use Rattle.std.specs.Prelude.{ℕ, ◌==◌, List, [], ◌∷◌, map, filter}
use Rattle.zr_id.specs.declared.link.LinkNo.{LinkNo}
use Rattle.zr_msg.specs.declared.msg.Msg.{Msg}
use Rattle.zr_wire.specs.Writing.{writes_message}
use Rattle.zr_router_queue.specs.declared.link_batches.Batches.{Batches}
use Rattle.zr_router_queue.specs.declared.link_batches.Batches.TheVariants.{One, Several}

abbrev pub batches_in : Batches → List (List ℕ)
batches_in (One batch) = batch ∷ []
batches_in (Several batches) = batches.items

-- each message with its link, as its bytes
abbrev pub written_of : List (LinkNo × Msg) → List (LinkNo × List ℕ)
written_of sent = map (λ x. (x.0, writes_message x.1)) sent

-- the messages on one link, as their bytes
abbrev pub bytes_on : LinkNo → List (LinkNo × List ℕ) → List (List ℕ)
bytes_on link written = map (λ x. x.1) (filter (λ x. x.0.0 == link.0) written)
