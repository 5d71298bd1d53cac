use Rattle.std.proofs.Common.{◌∙◌, refl, ◌-◌, [], ◌∷◌, codes, subst}
use Rattle.rand_core.specs.Stream.{Stream}
use Rattle.zr_outside.specs.Told.{Appends, AppendsPrefix}
use Rattle.zr_make.specs.Draws.{behind}
use Rattle.zr_make.specs.Script.{all_clients, all_links, all_routers, run_line, text_of}
use Rattle.zr_outside.proofs.Counting.{only_stopped}
use Rattle.zr_make.specs.declared.error.MakeError.TheVariants as e
use Rattle.zr_make.proofs.Joining.{made_no_more, made_stopped, prefix_then, written_then}
use Rattle.zr_make.proofs.writing.write_network.Goals as goal

pub returns-in_err-write_routers-clause-made : goal.returns-in_err-write_routers-clause-made
returns-in_err-write_routers-clause-made g c =
    made_stopped c.from_residual.result _ _ _ c.from_residual.ensures.0 (made_no_more (all_routers c.args.routers) _ _ _ c.in_err-write_routers.ensures.made)

pub returns-in_err-write_links-clause-made : goal.returns-in_err-write_links-clause-made
returns-in_err-write_links-clause-made g c =
    let drawn : Stream = g.R.Rng.stream c.args.rng.now in
    made_stopped c.from_residual-in_err-write_links.result _ _ _ c.from_residual-in_err-write_links.ensures.0
    (prefix_then (all_routers c.args.routers) _ _ _ _ c.in_ok-write_routers.ensures.made
    (made_no_more (all_links drawn (c.args.routers - 1)) _ _ _ c.in_err-write_links.ensures.made))

pub returns-in_err-write_clients-clause-made : goal.returns-in_err-write_clients-clause-made
returns-in_err-write_clients-clause-made g c =
    let drawn : Stream = g.R.Rng.stream c.args.rng.now in
    let clients : AppendsPrefix (text_of (all_clients (behind (c.args.routers - 1) drawn) c.args.routers c.args.clients)) (g.K.Sink.held c.write_links.new.out)
    (g.K.Sink.held c.write_clients.new.out) =
    subst (λ (s : Stream). AppendsPrefix (text_of (all_clients s c.args.routers c.args.clients)) (g.K.Sink.held c.write_links.new.out) (g.K.Sink.held c.write_clients.new.out))
    c.in_ok-write_links.ensures.drawn c.in_err-write_clients.ensures.made in
    made_stopped c.from_residual-in_err-write_clients.result _ _ _ c.from_residual-in_err-write_clients.ensures.0
    (prefix_then (all_routers c.args.routers) _ _ _ _ c.in_ok-write_routers.ensures.made
    (prefix_then (all_links drawn (c.args.routers - 1)) _ _ _ _ c.in_ok-write_links.ensures.made (made_no_more _ _ _ _ clients)))

pub returns-in_err-write_all-clause-made : goal.returns-in_err-write_all-clause-made
returns-in_err-write_all-clause-made g c =
    let drawn : Stream = g.R.Rng.stream c.args.rng.now in
    let clients : Appends (text_of (all_clients (behind (c.args.routers - 1) drawn) c.args.routers c.args.clients)) (g.K.Sink.held c.write_links.new.out)
    (g.K.Sink.held c.write_clients.new.out) =
    subst (λ (s : Stream). Appends (text_of (all_clients s c.args.routers c.args.clients)) (g.K.Sink.held c.write_links.new.out) (g.K.Sink.held c.write_clients.new.out))
    c.in_ok-write_links.ensures.drawn c.in_ok-write_clients.ensures.made in
    made_stopped c.from_residual-in_err-write_all.result _ _ _ c.from_residual-in_err-write_all.ensures.0
    (prefix_then (all_routers c.args.routers) _ _ _ _ c.in_ok-write_routers.ensures.made
    (prefix_then (all_links drawn (c.args.routers - 1)) _ _ _ _ c.in_ok-write_links.ensures.made
    (prefix_then _ (run_line ∷ codes "mark" ∷ []) _ _ _ clients c.in_err-write_all.ensures.err)))

pub returns-clause-made : goal.returns-clause-made
returns-clause-made g c =
    let drawn : Stream = g.R.Rng.stream c.args.rng.now in
    let clients : Appends (text_of (all_clients (behind (c.args.routers - 1) drawn) c.args.routers c.args.clients)) (g.K.Sink.held c.write_links.new.out)
    (g.K.Sink.held c.write_clients.new.out) =
    subst (λ (s : Stream). Appends (text_of (all_clients s c.args.routers c.args.clients)) (g.K.Sink.held c.write_links.new.out) (g.K.Sink.held c.write_clients.new.out))
    c.in_ok-write_links.ensures.drawn c.in_ok-write_clients.ensures.made in
    written_then (all_routers c.args.routers) _ _ _ _ c.in_ok-write_routers.ensures.made
    (written_then (all_links drawn (c.args.routers - 1)) _ _ _ _ c.in_ok-write_links.ensures.made
    (written_then _ (run_line ∷ codes "mark" ∷ []) _ _ _ clients c.in_ok-write_all.ensures.ok))

pub returns-in_err-write_routers-clause-only : goal.returns-in_err-write_routers-clause-only
returns-in_err-write_routers-clause-only g c = only_stopped e.WriteFault c.from_residual.result c.in_err-write_routers.field-0.0 _ _ _ c.from_residual.ensures.1 refl c.in_err-write_routers.ensures.only

pub returns-in_err-write_links-clause-only : goal.returns-in_err-write_links-clause-only
returns-in_err-write_links-clause-only g c =
    only_stopped e.WriteFault c.from_residual-in_err-write_links.result c.in_err-write_links.field-0.0 _ _ _ c.from_residual-in_err-write_links.ensures.1 c.in_ok-write_routers.ensures.only c.in_err-write_links.ensures.only

pub returns-in_err-write_clients-clause-only : goal.returns-in_err-write_clients-clause-only
returns-in_err-write_clients-clause-only g c =
    only_stopped e.WriteFault c.from_residual-in_err-write_clients.result c.in_err-write_clients.field-0.0 _ _ _ c.from_residual-in_err-write_clients.ensures.1
    (c.in_ok-write_links.ensures.only ∙ c.in_ok-write_routers.ensures.only) c.in_err-write_clients.ensures.only

pub returns-clause-only : goal.returns-clause-only
returns-clause-only g c =
    c.in_ok-write_all.ensures.quiet ∙ c.in_ok-write_clients.ensures.only ∙ c.in_ok-write_links.ensures.only ∙ c.in_ok-write_routers.ensures.only
