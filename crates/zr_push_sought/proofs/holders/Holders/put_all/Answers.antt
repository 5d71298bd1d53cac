use Rattle.std.proofs.Common.{◌≡◌, List, [], ◌++◌, ap, subst, ◌∙◌}
use Rattle.std.proofs.lemmas.List.{append-nil}
use Rattle.zr_local.specs.State.{LocalState}
use Rattle.zr_log.specs.Known.{KnownState}
use Rattle.zr_push_sought.specs.Holders.{HoldJust}
use Rattle.zr_push_sought.specs.Pairs.{Declared, all_declared, of_clients, of_sources}
use Rattle.zr_push_sought.proofs.holders.Holders.put_all.Goals as goal

pub returns : goal.returns
returns c =
    let rows : c.rows.result.now ≡ c.args.tables.now.rows = c.rows.ensures.value ∙ ap (λ (l : LocalState). l.rows) c.local.ensures in
    let logs : c.logs.result.now ≡ c.args.tables.now.known.logs = c.logs.ensures.value ∙ ap (λ (k : KnownState). k.logs) c.known.ensures in
    subst (λ (xs : List Declared). HoldJust xs c.put_rows.new.self)
    (ap (λ (xs : List Declared). of_clients c.rows.result.now ++ xs) (append-nil (of_sources c.me.result c.logs.result.now)) ∙ (λ i. all_declared (rows i) (c.me.ensures i) (logs i)))
    (c.put_rows.ensures (of_sources c.me.result c.logs.result.now ++ []) (c.put_logs.ensures [] c.requires))
