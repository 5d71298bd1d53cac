-- Messages that come over a link, one after another.
use Rattle.std.proofs.Common.{◌≡◌, ℕ, List, [], ◌∷◌, ◌++◌, Option, None, refl, sym, ap, subst, ◌∙◌, append_assoc}
use Rattle.std.proofs.lemmas.List.{map-append}
use mathlib.Core.List.{IsPrefix}
use Rattle.zr_lists.proofs.Prefixes.{prefix_trans, prefix_self}
use Rattle.zr_id.specs.declared.link.LinkNo.{LinkNo}
use Rattle.zr_msg.specs.declared.event.Event.{Event}
use Rattle.zr_msg.specs.declared.event.Event.TheVariants.{From}
use Rattle.zr_msg.specs.declared.msg.Msg.{Msg}
use Rattle.zr_frame.specs.Outbox.{OutboxState}
use Rattle.zr_hist.specs.declared.pass.Pass.{Pass}
use Rattle.zr_port.specs.declared.entry.Entry.{Entry}
use Rattle.zr_port.specs.declared.error.DeliverError.{DeliverError}
use Rattle.zr_port.specs.Adding.{Adds, IsEntryOf}
use Rattle.zr_port.specs.Coming.{Sight, sight, AddsOne, Looks, Came, Delivered, Passed, message_of, messages_of, Makes, Through, ComesUpTo}

pub looks_self : (a : Sight) → Looks a a
looks_self a = (refl, prefix_self a.seen)

pub looks_then : (a b c : Sight) → Looks a b → Looks b c → Looks a c
looks_then a b c h k = (k.0 ∙ h.0, prefix_trans a.seen b.seen c.seen h.1 k.1)

-- what a port tells of one entry
pub adds_one : (old new : Pass Entry) (event : Event) (outbox : Option OutboxState) (reason : Option ℕ) (Says : List Entry → Entry → Type 0)
    → Adds old new Says → ((before : List Entry) (e : Entry) → Says before e → IsEntryOf event outbox reason e) → AddsOne event outbox reason (sight old) (sight new)
adds_one old new event outbox reason Says h k = record { before = h.before; entry = h.entry; own = h.own; last = h.last; prefix = h.prefix; is = k h.before h.entry h.says }

added_after : (event : Event) (outbox : Option OutboxState) (reason : Option ℕ) (a b d : Sight) → Looks a b → AddsOne event outbox reason b d → AddsOne event outbox reason a d
added_after event outbox reason a b d h k =
    record { before = k.before; entry = k.entry; own = k.own ∙ ap (λ z. z ++ k.entry ∷ []) h.0; last = k.last; prefix = prefix_trans a.seen b.seen k.before h.1 k.prefix; is = k.is }

pub added_later : (event : Event) (outbox : Option OutboxState) (reason : Option ℕ) (a b : Sight) → AddsOne event outbox reason a b → IsPrefix a.seen b.seen
added_later event outbox reason a b h = subst (λ z. IsPrefix a.seen z) (sym h.last) (prefix_trans a.seen h.before (h.before ++ h.entry ∷ []) h.prefix (h.entry ∷ [], refl))

module _ (link : LinkNo) (refuses : List Entry → Msg → DeliverError → Type 0) where
  makes_after : (c : Came) (a b d : Sight) → Looks a b → Makes link refuses c b d → Makes link refuses c a d
  unfolding added_after
  makes_after (Delivered m) a b d h k = (added_after (From link m) None None a b d h k.0, k.1)
  makes_after (Passed m e) a b d h k = (looks_then a b d h k.0, k.1, k.2)

  makes_later : (c : Came) (a b : Sight) → Makes link refuses c a b → IsPrefix a.seen b.seen
  makes_later (Delivered m) a b h = added_later (From link m) None None a b h.0
  makes_later (Passed m e) a b h = h.0.1

  through_after : (cs : List Came) (a b d : Sight) → Looks a b → Through link refuses cs b d → Through link refuses cs a d
  through_after [] a b d h k = looks_then a b d h k
  through_after (c ∷ cs) a b d h k = (k.0, makes_after c a b k.0 h k.1, k.2)

  pub through_then : (cs ds : List Came) (a b d : Sight) → Through link refuses cs a b → Through link refuses ds b d → Through link refuses (cs ++ ds) a d
  through_then [] ds a b d h k = through_after ds a b d h k
  through_then (c ∷ cs) ds a b d h k = (h.0, h.1, through_then cs ds h.0 b d h.2 k)

  through_later : (cs : List Came) (a b : Sight) → Through link refuses cs a b → IsPrefix a.seen b.seen
  through_later [] a b h = h.1
  through_later (c ∷ cs) a b h = prefix_trans a.seen h.0.seen b.seen (makes_later c a h.0 h.1) (through_later cs h.0 b h.2)

  -- ---- of some messages

  pub comes_none : (all : List Msg) (a b : Sight) → Looks a b → ComesUpTo link refuses all all a b
  comes_none all a b h = record { came = []; are = refl; goes = h }

  pub comes_begun : (all : List Msg) (a : Sight) → ComesUpTo link refuses all all a a
  comes_begun all a = comes_none all a a (looks_self a)

  pub comes_then : (all mid rest : List Msg) (a b d : Sight) → ComesUpTo link refuses all mid a b → ComesUpTo link refuses mid rest b d → ComesUpTo link refuses all rest a d
  comes_then all mid rest a b d h k = record {
    came = h.came ++ k.came;
    are = h.are ∙ ap (λ z. messages_of h.came ++ z) k.are
        ∙ sym (ap (λ z. z ++ rest) (map-append message_of h.came k.came) ∙ append_assoc (messages_of h.came) (messages_of k.came) rest);
    goes = through_then h.came k.came a b d h.goes k.goes;
  }

  -- one more came
  pub comes_one : (all mid rest : List Msg) (c : Came) (a b d : Sight) → ComesUpTo link refuses all mid a b → mid ≡ message_of c ∷ rest → Makes link refuses c b d
      → ComesUpTo link refuses all rest a d
  comes_one all mid rest c a b d h is one = comes_then all mid rest a b d h (record { came = c ∷ []; are = is; goes = (d, one, looks_self d) })

  -- a message that was refused did not come
  pub comes_still : (all rest : List Msg) (a b d : Sight) → ComesUpTo link refuses all rest a b → Looks b d → ComesUpTo link refuses all rest a d
  comes_still all rest a b d h k = comes_then all rest rest a b d h (comes_none rest b d k)

  pub comes_later : (all rest : List Msg) (a b : Sight) → ComesUpTo link refuses all rest a b → IsPrefix a.seen b.seen
  comes_later all rest a b h = through_later h.came a b h.goes
