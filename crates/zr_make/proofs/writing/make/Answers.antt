use Rattle.std.proofs.Common.{refl, ◌≡◌, ap}
use Rattle.rand_core.specs.Steps.{stream_of, steps_u32}
use Rattle.rand_pcg.specs.Lcg.{Lcg}
use Rattle.rand_pcg.specs.Pcg.{pcg32}
use Rattle.zr_make.specs.Draws.{drawn_from}
use Rattle.zr_outside.proofs.Counting.{only_behind, only_stopped}
use Rattle.zr_make.specs.declared.error.MakeError.TheVariants as e
use Rattle.zr_make.proofs.Joining.{made_stopped, no_traffic, on_err, on_ok, whole}
use Rattle.zr_make.proofs.writing.make.Goals as goal

pub returns-in_err-write_network-clause-stopped : goal.returns-in_err-write_network-clause-stopped
returns-in_err-write_network-clause-stopped g c =
    let start : stream_of (steps_u32 pcg32) c.seed_from_u64-rng.result ≡ drawn_from c.args.plan.now.number = ap (λ (r : Lcg). stream_of (steps_u32 pcg32) r) c.seed_from_u64-rng.ensures in
    on_err c.from_residual.result _ _ _ (made_stopped c.from_residual.result _ _ _ c.from_residual.ensures.0
    (no_traffic c.args.plan.now _ _ _ start c.in_err-write_network.ensures.made))

pub returns-clause-done : goal.returns-clause-done
returns-clause-done g c =
    let start : stream_of (steps_u32 pcg32) c.seed_from_u64-rng.result ≡ drawn_from c.args.plan.now.number = ap (λ (r : Lcg). stream_of (steps_u32 pcg32) r) c.seed_from_u64-rng.ensures in
    on_ok _ _ _ _ (whole c.write_traffic.result c.args.plan.now _ _ _ _ _ start c.in_ok-write_network.ensures.drawn c.in_ok-write_network.ensures.made
    c.write_traffic.ensures.made)

pub returns-clause-stopped : goal.returns-clause-stopped
returns-clause-stopped g c =
    let start : stream_of (steps_u32 pcg32) c.seed_from_u64-rng.result ≡ drawn_from c.args.plan.now.number = ap (λ (r : Lcg). stream_of (steps_u32 pcg32) r) c.seed_from_u64-rng.ensures in
    on_err _ _ _ _ (whole c.write_traffic.result c.args.plan.now _ _ _ _ _ start c.in_ok-write_network.ensures.drawn c.in_ok-write_network.ensures.made
    c.write_traffic.ensures.made)

pub returns-in_err-write_network-clause-only : goal.returns-in_err-write_network-clause-only
returns-in_err-write_network-clause-only g c = only_stopped e.WriteFault c.from_residual.result c.in_err-write_network.field-0.0 _ _ _ c.from_residual.ensures.1 refl c.in_err-write_network.ensures.only

pub returns-clause-only : goal.returns-clause-only
returns-clause-only g c = only_behind e.WriteFault c.write_traffic.result _ _ _ c.in_ok-write_network.ensures.only c.write_traffic.ensures.only
