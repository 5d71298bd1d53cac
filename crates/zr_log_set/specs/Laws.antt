-- What follows of sets of declarations, for the proofs above.
use Rattle.std.specs.Prelude.{◌≡◌, ◌≤◌, ◌||◌, ◌&&◌, not, List}
use Rattle.zr_msg.specs.declared.decl.Decl.{Decl}
use Rattle.zr_log_set.specs.Decls.{is_decl, IsSet, has, with_decl, without_decl, set_of, weight}

-- a set with one more or one less is a set, and has what it is to have
abbrev pub SetsStaySets : Type 0
SetsStaySets = (ds : List Decl) (d : Decl) → IsSet ds → IsSet (with_decl ds d) × IsSet (without_decl ds d)

abbrev pub SetsHaveMore : Type 0
SetsHaveMore = (ds : List Decl) (d e : Decl) → has (with_decl ds d) e ≡ (is_decl d e || has ds e)

abbrev pub SetsHaveLess : Type 0
SetsHaveLess = (ds : List Decl) (d e : Decl) → has (without_decl ds d) e ≡ (not (is_decl d e) && has ds e)

-- the set of declarations is one, and has them
abbrev pub SetsOfAll : Type 0
SetsOfAll = (ds : List Decl) → IsSet (set_of ds) × ((e : Decl) → has (set_of ds) e ≡ has ds e)

-- two sets that have the same are one
abbrev pub SetsAreOne : Type 0
SetsAreOne = (xs ys : List Decl) → IsSet xs → IsSet ys → ((e : Decl) → has xs e ≡ has ys e) → xs ≡ ys

-- the set of declarations weighs no more than they do together
abbrev pub SetsWeighLess : Type 0
SetsWeighLess = (ds : List Decl) → weight (set_of ds) ≤ weight ds
