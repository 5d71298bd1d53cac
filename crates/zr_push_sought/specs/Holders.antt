-- Who has declared what is sought, by the chunks of what was declared.
use Rattle.std.specs.Prelude.{◌≡◌, ◌&&◌, ℕ, List, Option, IfSome}
use Rattle.zr_index.specs.Meeting.{held}
use Rattle.zr_index.specs.Pairs.{Pairs, AreSame}
use Rattle.zr_index.specs.declared.index.Index.{Index}
use Rattle.zr_local.specs.declared.holder.Holder.{Holder}
use Rattle.zr_match.specs.Table.{texts_meet}
use Rattle.zr_msg.specs.declared.decl.Decl.{Decl}
use Rattle.zr_node_spec.specs.Tables.{TableState}
use Rattle.zr_push_sought.specs.Found.{TellClients, TellSources}
use Rattle.zr_push_sought.specs.Pairs.{Declared, is_kind, pairs_of}
use Rattle.zr_push_sought.specs.Sought.{is_sought}
use Rattle.zr_push_sought.specs.declared.found.Found.{Found}
use Rattle.zr_push_sought.specs.declared.holders.Holders.{Holders}
use Rattle.zr_push_sought.specs.declared.sought.Sought.{Sought}
use Rattle.zr_push_sought.specs.declared.sought.Sought.TheVariants.{Subscribers, Queryables}

-- an index holds just these pairs, if there is one
abbrev pub HoldsJust : Pairs Holder → Option (Index Holder) → Type 0
HoldsJust ps index = IfSome index (λ i. AreSame (held i) ps)

-- one index holds just what of this are subscriptions, and the other one just what are queryables
pub record HoldJust (xs : List Declared) (h : Holders) : Type 0 where
  pub subscribers : HoldsJust (pairs_of Subscribers xs) h.subscribers.index
  pub queryables : HoldsJust (pairs_of Queryables xs) h.queryables.index

-- what is sought is all of a kind that meets the key
abbrev pub SeeksMeeting : Sought → List ℕ → Type 0
SeeksMeeting sought key = (d : Decl) → is_sought sought key d ≡ (is_kind sought d.kind && texts_meet d.key key)

-- those who have declared it
pub record AreFound (t : TableState) (sought : Sought) (key : List ℕ) (f : Found) : Type 0 where
  pub clients : TellClients sought key t.rows f.holders.items
  pub sources : TellSources sought key t.base.me t.known.logs f.holders.items
