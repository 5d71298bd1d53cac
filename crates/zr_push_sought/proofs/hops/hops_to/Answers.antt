use Rattle.std.proofs.Common.{◌≡◌, ◌||◌, ◌+◌, ◌<◌, ℕ, Bool, List, false, length, get_or, drop, sym, ap, ◌∙◌, arith}
use Rattle.std.specs.List.{list_any}
use Rattle.std.proofs.lemmas.List.{at_drop_more}
use Rattle.std.proofs.lemmas.Option.{IfSome_then}
use Rattle.zr_id.specs.Zid.{is_named}
use Rattle.zr_local.specs.declared.holder.Holder.TheVariants.{Source}
use Rattle.zr_log.specs.declared.log.Log.{Log}
use Rattle.zr_push_sought.specs.Found.{has_holder}
use Rattle.zr_push_sought.specs.Hops.{is_way_to}
use Rattle.zr_push_sought.specs.Sought.{by_meeting, is_in_log}
use Rattle.zr_push_sought.proofs.Ways.{regroup, at_place}
use Rattle.zr_tree.specs.Way.{WayState}
use Rattle.zr_push_sought.proofs.hops.hops_to.Goals as goal

-- one log more was asked
asked_more : (way : Log → Bool) (logs : List Log) (i : ℕ) (log : Log) (hop old new : Bool) → i < length logs → log ≡ get_or logs i log → hop ≡ way log → new ≡ (hop || old)
    → (old || list_any way (drop i logs)) ≡ list_any way logs → (new || list_any way (drop (i + 1) logs)) ≡ list_any way logs
asked_more way logs i log hop old new less is e f h =
    let one : list_any way (drop i logs) ≡ (way log || list_any way (drop (i + 1) logs)) =
    at_drop_more (λ ls. list_any way ls) logs i log less ∙ ap (λ q. way q || list_any way (drop (i + 1) logs)) (sym is) in
    ap (λ b. b || list_any way (drop (i + 1) logs)) f
    ∙ regroup hop old (way log) (list_any way (drop (i + 1) logs)) (list_any way logs) e (ap (λ b. old || b) (sym one) ∙ h)

pub hop_to-requires : goal.hop_to-requires
hop_to-requires c =
    IfSome_then c.args.found c.requires
    (λ f all other.
    at_place (λ l. is_named l.source c.args.tables.now.base.me ≡ false → has_holder f.now.holders.items (Source l.source) ≡ is_in_log (by_meeting c.args.sought) c.args.key.now l) c.args.logs.now c.loop-log.log-index c.log-item.result (omega arith) c.log-item.is all
    (ap (λ (w : WayState). is_named c.log-item.result.source w.at) (sym c.loop-log.invariant.way) ∙ other))

pub loop-log-preserved : goal.loop-log-preserved
loop-log-preserved c = record {
  way = c.hop_to.ensures.kept ∙ c.loop-log.invariant.way;
  hops = λ name.
      asked_more (is_way_to c.args.tables.now c.args.tree c.args.sought c.args.key.now name) c.args.logs.now c.loop-log.log-index c.log-item.result _ _ _ (omega arith) c.log-item.is
      (c.hop_to.ensures.hop c.args.tables.now c.args.tree name c.loop-log.invariant.way) (c.in_ok-extend.ensures name) (c.loop-log.invariant.hops name);
}
