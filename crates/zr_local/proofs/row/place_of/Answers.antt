use Rattle.std.proofs.Common.{rules}
use Rattle.std.proofs.lemmas.Fn.{always_returns_same}
use Rattle.zr_lists.proofs.Places.{found_place}
use Rattle.zr_local.specs.Rows.{Key, key_cmp, row_key}
use Rattle.zr_local.proofs.Rows.{key_order}
use Rattle.zr_local.proofs.row.place_of.Goals as goal

pub returns : goal.returns
returns c =
    let key : Key = record { link = c.args.key.link; kind = c.args.key.kind; id = c.args.key.id } in
    found_place key_cmp row_key key_order c.args.rows.now key _ c.requires c.binary_search_by.ensures.bound
    (c.binary_search_by.ensures.position (λ r. key_cmp (row_key r) key) (always_returns_same _ _ _ (λ a r g called. search rules)))
