-- Who has declared what is sought for a key.
use Rattle.std.specs.Prelude.{◌≡◌, ℕ, Bool, false, List}
use Rattle.std.specs.List.{AllByRecursion}
use Rattle.zr_id.specs.Zid.{is_named}
use Rattle.zr_lists.specs.Ascending.{has_key}
use Rattle.zr_local.specs.Holders.{holder_cmp}
use Rattle.zr_local.specs.declared.holder.Holder.{Holder}
use Rattle.zr_local.specs.declared.holder.Holder.TheVariants.{Client, Source}
use Rattle.zr_local.specs.declared.row.Row.{Row}
use Rattle.zr_log.specs.declared.log.Log.{Log}
use Rattle.zr_push_sought.specs.Sought.{has_declared, is_in_log}
use Rattle.zr_push_sought.specs.declared.sought.Sought.{Sought}

-- whether someone is among some
abbrev pub has_holder : List Holder → Holder → Bool
has_holder hs h = has_key holder_cmp (λ x. x) hs h

-- of the clients of all links those are among them that have
abbrev pub TellClients : Sought → List ℕ → List Row → List Holder → Type 0
TellClients sought key rows hs = (link : ℕ) → has_holder hs (Client (record { 0 = link })) ≡ has_declared rows link sought key

-- of these logs' routers other than this one those are whose clients have
abbrev pub TellSources : Sought → List ℕ → List ℕ → List Log → List Holder → Type 0
TellSources sought key me logs hs = AllByRecursion (λ log. is_named log.source me ≡ false → has_holder hs (Source log.source) ≡ is_in_log sought key log) logs
