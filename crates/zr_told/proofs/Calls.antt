-- What a call of `Told` comes to, by its answer.
use Rattle.std.proofs.Common.{◌≡◌, ℕ, ◌++◌, Bool, false, List, Ok, Err}
use Rattle.zr_id.specs.declared.link.LinkNo.{LinkNo}
use Rattle.zr_msg.specs.declared.msg.Msg.{Msg}
use Rattle.zr_lists.specs.Prefix.{IsPrefixBehind}
use Rattle.zr_told_spec.specs.Rows.{Maps, map_on}
use Rattle.zr_told_spec.specs.Told.{ToldMap}
use Rattle.zr_told.specs.Calls.{HasTold}
use Rattle.zr_told.specs.declared.error.ToldError.{ToldError}
use Rattle.zr_told.specs.declared.error.ToldError.TheVariants.{NoMemory}

module _ {lacks : Bool} {sends said : List (LinkNo × Msg)} {leaves : ℕ → ToldMap} {told : Maps} where
  -- memory ran out
  pub without_memory : {now : Maps} {all : List (LinkNo × Msg)} (e : ToldError) → e ≡ NoMemory → IsPrefixBehind said sends all → HasTold lacks sends leaves (Err e) told now said all
  without_memory e n p = record {
    map = tt;
    out = tt;
    ids = tt;
    worn = λ w. cc;
    unchanged = λ w. (cc, cc);
    err = p;
  }

  -- all was told
  pub all_told : {now : Maps} {all : List (LinkNo × Msg)} → ((k : ℕ) → map_on now k ≡ leaves k) → all ≡ said ++ sends → lacks ≡ false → HasTold lacks sends leaves (Ok tt) told now said all
  all_told m o i = record {
    map = m;
    out = o;
    ids = i;
    worn = λ w. cc;
    unchanged = λ w. (cc, cc);
    err = tt;
  }
