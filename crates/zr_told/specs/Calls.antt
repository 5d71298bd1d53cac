-- What a call of `Told` comes to, by its answer.
use Rattle.std.specs.Prelude.{◌≡◌, ℕ, ◌++◌, Bool, true, false, List, Result, Err, OnOk, OnErr}
use Rattle.zr_id.specs.declared.link.LinkNo.{LinkNo}
use Rattle.zr_msg.specs.declared.msg.Msg.{Msg}
use Rattle.zr_lists.specs.Prefix.{IsPrefixBehind}
use Rattle.zr_told_spec.specs.Rows.{Maps, map_on}
use Rattle.zr_told_spec.specs.Told.{ToldMap}
use Rattle.zr_told.specs.declared.error.ToldError.{ToldError}
use Rattle.zr_told.specs.declared.error.ToldError.TheVariants.{Worn}

-- `sends` is told, behind what was said before, and of what the client of each link was told is `leaves` then. The call is refused as Worn only where
-- it `lacks` ids, and nothing has changed then; out of memory a prefix was told
pub record HasTold (lacks : Bool) (sends : List (LinkNo × Msg)) (leaves : ℕ → ToldMap) (result : Result (Unit {0}) ToldError) (told now : Maps) (said all : List (LinkNo × Msg)) : Type 0 where
  pub map : OnOk result ((k : ℕ) → map_on now k ≡ leaves k)
  pub out : OnOk result (all ≡ said ++ sends)
  pub ids : OnOk result (lacks ≡ false)
  pub worn : result ≡ Err Worn → lacks ≡ true
  pub unchanged : result ≡ Err Worn → (now ≡ told) × (all ≡ said)
  pub err : OnErr result (IsPrefixBehind said sends all)
