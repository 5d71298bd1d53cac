-- The place of what a client has declared under an id.
use Rattle.std.proofs.Common.{◌≡◌, ℕ, List, Result, Ok, subst}
use Rattle.zr_id.specs.declared.link.LinkNo.{LinkNo}
use Rattle.zr_lists.specs.Place.{IsAt, IsPlace}
use Rattle.zr_local.specs.Rows.{Key, id_kind, key_cmp, row_key, undeclared}
use Rattle.zr_local.specs.declared.row.Key.{Key as Sought}
use Rattle.zr_local.specs.declared.row.Row.{Row}
use Rattle.zr_push_sought.proofs.Alike.{not_there}
use Rattle.zr_msg.specs.declared.decl.Kind.{Kind}

abbrev pub key_of : LinkNo → ℕ → Kind → Key
key_of link id kind = record { link = link.0; kind = id_kind kind; id = id }

-- what is said of the place is said of that of this key
at_key_of : (rows : List Row) (link : LinkNo) (id : ℕ) (kind : Kind) (k : Sought) → k ≡ record { link = link.0; kind = id_kind kind; id = id } → (r : Result ℕ ℕ)
    → IsPlace key_cmp row_key rows (record { link = k.link; kind = k.kind; id = k.id }) r → IsPlace key_cmp row_key rows (key_of link id kind) r
at_key_of rows link id kind k is r h = subst (λ (s : Sought). IsPlace key_cmp row_key rows (record { link = s.link; kind = s.kind; id = s.id }) r) is h

pub place : (rows : List Row) (link : LinkNo) (id : ℕ) (kind : Kind) (k : Sought) (at : ℕ) → k ≡ record { link = link.0; kind = id_kind kind; id = id }
    → IsAt key_cmp row_key rows (record { link = k.link; kind = k.kind; id = k.id }) at → IsAt key_cmp row_key rows (key_of link id kind) at
place rows link id kind k at is h = at_key_of rows link id kind k is (Ok at) h

pub no_place : (rows : List Row) (link : LinkNo) (id : ℕ) (kind : Kind) (k : Sought) → k ≡ record { link = link.0; kind = id_kind kind; id = id } → (r : Result ℕ ℕ)
    → IsPlace key_cmp row_key rows (record { link = k.link; kind = k.kind; id = k.id }) r → ((at : ℕ) → r ≡ Ok at → ⊥) → undeclared rows (key_of link id kind) ≡ rows
no_place rows link id kind k is r h none = not_there key_cmp row_key rows (key_of link id kind) r (at_key_of rows link id kind k is r h) none
