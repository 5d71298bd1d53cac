use Rattle.std.proofs.Common.{◌≡◌, ℕ, false, List, Option, refl, sym, ap, ◌∙◌}
use Rattle.std.specs.Option.{option_map_or}
use Rattle.std.proofs.lemmas.Option.{IfSome_then}
use Rattle.zr_id.specs.Zid.{is_named}
use Rattle.zr_push_sought.specs.Sought.{is_in_log}
use Rattle.zr_push_sought.proofs.Ways.{hop_is, no_hop, to_another}
use Rattle.zr_tree.specs.Tree.{reached, toward}
use Rattle.zr_tree.specs.Walk.{graph_of}
use Rattle.zr_tree.specs.Way.{WayState}
use Rattle.zr_push_sought.proofs.hops.hop_to.Goals as goal

pub is_in_log-requires : goal.is_in_log-requires
is_in_log-requires c =
    IfSome_then c.args.found c.requires
    (λ f others. others (to_another c.args.way.now.records c.args.way.now.root c.args.way.now.at c.args.log.now.source c.in_ok-hop.hop (sym c.to.ensures.child ∙ c.in_ok-hop.was)))

pub returns-in_err-hop-clause-hop : goal.returns-in_err-hop-clause-hop
returns-in_err-hop-clause-hop c = λ t tree name is.
    ap (λ (o : Option (List ℕ)). option_map_or (λ y. is_named y name) o false) c.from_residual.ensures
    ∙ no_hop t tree c.args.sought c.args.key.now name c.args.log.now
    (sym c.in_err-hop.was ∙ c.to.ensures.child ∙ ap (λ (w : WayState). toward (graph_of w.records) w.root w.at c.args.log.now.source) is)

pub returns-then-is_in_log-clause-hop : goal.returns-then-is_in_log-clause-hop
returns-then-is_in_log-clause-hop c = λ t tree name is.
    hop_is t tree c.args.sought c.args.key.now name c.args.log.now c.in_ok-hop.hop
    (sym c.in_ok-hop.was ∙ c.to.ensures.child ∙ ap (λ (w : WayState). toward (graph_of w.records) w.root w.at c.args.log.now.source) is)
    (sym (ap (λ (w : WayState). reached (graph_of w.records) w.at c.args.log.now.source) is) ∙ c.to.ensures.reached (rw c.in_ok-hop.was refl))
    (sym c.is_in_log.ensures ∙ c.if-is_in_log.true)

pub returns-else-is_in_log-clause-hop : goal.returns-else-is_in_log-clause-hop
returns-else-is_in_log-clause-hop c = λ t tree name is.
    let none : is_in_log c.args.sought c.args.key.now c.args.log.now ≡ false = sym c.is_in_log.ensures ∙ c.if-is_in_log.false in
    rw none refl
