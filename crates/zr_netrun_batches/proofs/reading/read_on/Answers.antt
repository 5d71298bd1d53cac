use Rattle.std.proofs.Common.{◌≡◌, ◌<◌, ◌≤◌, [], sym, subst, length, arith}
use Rattle.std.specs.VecDeque.{deque_len}
use Rattle.std.proofs.lemmas.List.{nil_from_length}
use Rattle.std.proofs.lemmas.Bool.Decides.{nat_tests}
use Rattle.zr_netrun_batches.proofs.Feeding.{goes_nowhere, goes_more}
use Rattle.zr_netrun_batches.proofs.Tags.{front_short, front_within, next_short, split_front, rest_smaller}
use Rattle.zr_netrun_batches.proofs.reading.read_on.Goals as goal

pub pieces-init : goal.pieces-init
pieces-init c = goes_nowhere c.args.session.now c.args.wire.now c.args.ready.now.items

pub pass-requires : goal.pass-requires
pass-requires c =
    subst (λ z. length z ≤ length c.pieces.wire) (sym c.front-piece.ensures) (front_within c.next_length.result c.pieces.wire)

pub pieces-preserved : goal.pieces-preserved
pieces-preserved c =
    let short : length c.front-piece.result.now ≤ 64 = subst (λ z. length z ≤ 64) (sym c.front-piece.ensures)
    (omega (arith, front_short c.next_length.result c.pieces.wire, next_short _ c.next_length.result c.next_length.ensures)) in
    let long : deque_len c.pieces.ready ≡ length c.pieces.ready.items = omega arith in
    let none : c.pieces.ready.items ≡ [] = nil_from_length c.pieces.ready.items (grind (arith, nat_tests, long)) in
    goes_more c.args.session.now c.pieces.session c.feed.new.session c.args.wire.now c.pieces.wire c.front-piece.result.now c.pass.new.self c.args.ready.now.items c.pieces.ready.items
    c.feed.new.ready.items (split_front c.next_length.result c.pieces.wire c.front-piece.result.now c.pass.new.self c.front-piece.ensures c.pass.ensures) short none c.pieces.invariant c.in_ok-feed.ensures

pub pieces-smaller : goal.pieces-smaller
pieces-smaller c =
    let some : 0 < c.next_length.result = omega (arith, c.next_length.ensures) in
    let more : 0 < length c.pieces.wire = grind (arith, nat_tests) in
    rest_smaller c.next_length.result c.pieces.wire c.front-piece.result.now c.pass.new.self c.front-piece.ensures c.pass.ensures some more
