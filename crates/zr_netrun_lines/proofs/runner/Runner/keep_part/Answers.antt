use Rattle.std.proofs.Common.{◌≡◌, ◌≤◌, ◌-◌, ◌++◌, ℕ, List, length, min, take, rules, arith, ap, ◌∙◌}
use Rattle.zr_script_spec.specs.Lines.{most_kept}
use Rattle.zr_netrun_lines.proofs.Keeping.{kept_prefix, kept_short, kept_open}
use Rattle.zr_netrun_lines.proofs.runner.Runner.keep_part.Goals as goal

pub invariant_of-self-2 : goal.invariant_of-self-2
invariant_of-self-2 g c =
    let h = c.in_ok-extend_from_slice.ensures.items in
    let room : c.min-count.result ≤ most_kept - length c.self.inside.line.items = omega (arith, c.min-count.ensures, c.len-room.ensures) in (
      rw h (kept_short c.self.inside.line.items c.args.part.now c.min-count.result c.self.invariant.0 room),
      rw h (kept_open c.self.inside.line.items c.args.part.now c.min-count.result c.self.invariant.1 c.requires),
      c.self.invariant.2,
      c.self.invariant.3,
    )

pub returns-clause-ok : goal.returns-clause-ok
returns-clause-ok g c =
    let h = c.in_ok-extend_from_slice.ensures.items in
    let count : c.min-count.result ≡ min (most_kept - length c.self.inside.line.items) (length c.args.part.now) = search rules in
    let e : c.extend_from_slice.new.self.items ≡ take most_kept (c.self.inside.line.items ++ c.args.part.now) =
    h ∙ ap (λ n. c.self.inside.line.items ++ take n c.args.part.now) count ∙ kept_prefix c.self.inside.line.items c.args.part.now c.self.invariant.0 in
    rw (← c.self.view_is) (ap (λ (z : List ℕ). record { world = c.self.inside.world; number = c.self.inside.number; line = z; pending = c.self.inside.pending.items; counts = c.self.inside.counts }) e)
