use Rattle.std.proofs.Common.{◌≡◌, Some, sym, ap, ◌∙◌, rules}
use Rattle.zr_world_spec.specs.World.{client_of, is_unbroken}
use Rattle.zr_world.specs.State.{state_of}
use Rattle.zr_world.proofs.Going.{client_goes}
use Rattle.zr_world.proofs.tables.WorldTables.end.Goals as goal

pub send-requires : goal.send-requires
send-requires g c =
    let w = state_of c.args.self.now in
    let found : client_of (state_of c.args.self.now).clients c.args.client ≡ Some c.in-Some.c.now = search rules in
    let unbroken = ap (λ x. is_unbroken c.args.self.now.ends (x, c.args.client)) (sym c.router.ensures) ∙ sym c.is_unbroken.ensures ∙ c.if-not-is_unbroken.false in
    rw (c.router-2.ensures, c.in_ok-msg.ensures) (client_goes w c.args.client c.in-Some.c.now _ c.requires.led found unbroken c.requires.may)
