use Rattle.std.proofs.Common.{ℕ, ◌-◌, refl, sym, ap, ◌∙◌, Ok, arith}
use Rattle.std.proofs.lemmas.Grind.{pow_more}
use Rattle.std.proofs.lemmas.Result.{err_from_is_err_and}
use Rattle.zr_bytes.proofs.Groups.{group_fits, ninth_fits, with_low-more, with_low-last, with_low-ninth, with_low-short}
use Rattle.zr_bytes.proofs.number.zint_at.Goals as goal

pub returns-in_err-byte : goal.returns-in_err-byte
returns-in_err-byte c =
    let p = err_from_is_err_and c.from_residual.result c.from_residual.ensures.1 in
    rw (p.1, p.2) (with_low-short c.groups.counter c.groups.value c.groups.scale _ _ _ c.in_err-byte.ensures.value c.groups.invariant.same)

pub overflow_mul-result : goal.overflow_mul-result
overflow_mul-result c = omega (arith, (group_fits c.groups.counter c.groups.value c.from-byte.result c.groups.scale (omega arith) (omega arith) c.groups.invariant.low c.groups.invariant.scale_is).product)

pub overflow_add-result : goal.overflow_add-result
overflow_add-result c =
    let fits = group_fits c.groups.counter c.groups.value c.from-byte.result c.groups.scale (omega arith) (omega arith) c.groups.invariant.low c.groups.invariant.scale_is in
    omega (arith, fits.total, fits.next)

pub returns-then-byte-lt128 : goal.returns-then-byte-lt128
returns-then-byte-lt128 c =
    rw c.from-byte.ensures (with_low-last c.groups.counter c.groups.value c.in_ok-byte.byte c.groups.scale c.groups.rest.now c.in_ok-byte.after.now _ (omega arith) (omega arith) c.in_ok-byte.ensures.value c.groups.invariant.same)

pub overflow_mul-value : goal.overflow_mul-value
overflow_mul-value c = omega (arith, (group_fits c.groups.counter c.groups.value (c.from-byte.result - 128) c.groups.scale (omega arith) (omega (arith, c.in_ok-byte.ensures.small)) c.groups.invariant.low c.groups.invariant.scale_is).product)

pub overflow_add-value : goal.overflow_add-value
overflow_add-value c =
    let fits = group_fits c.groups.counter c.groups.value (c.from-byte.result - 128) c.groups.scale (omega arith) (omega (arith, c.in_ok-byte.ensures.small)) c.groups.invariant.low c.groups.invariant.scale_is in
    omega (arith, fits.total, fits.next)

pub overflow_mul-scale : goal.overflow_mul-scale
overflow_mul-scale c = omega (arith, (group_fits c.groups.counter c.groups.value 0 c.groups.scale (omega arith) (omega arith) c.groups.invariant.low c.groups.invariant.scale_is).next)

pub groups-preserved : goal.groups-preserved
groups-preserved c =
    let fits = group_fits c.groups.counter c.groups.value (c.from-byte.result - 128) c.groups.scale (omega arith) (omega (arith, c.in_ok-byte.ensures.small)) c.groups.invariant.low c.groups.invariant.scale_is in
    record {
      low = fits.total;
      scale_is = rw (c.groups.invariant.scale_is, pow_more) refl;
      same = with_low-more c.groups.counter c.groups.value c.from-byte.result c.groups.scale c.groups.rest.now c.in_ok-byte.after.now _ (omega arith) c.if-byte-lt128.false (c.in_ok-byte.ensures.value ∙ ap (λ (b : ℕ). Ok (b, c.in_ok-byte.after.now)) (sym c.from-byte.ensures)) c.groups.invariant.same;
    }

pub overflow_mul-result-2 : goal.overflow_mul-result-2
overflow_mul-result-2 c = omega (arith, ninth_fits c.groups.counter c.groups.value c.from.result c.groups.scale (omega arith) (omega arith) (omega (arith, c.in_ok-byte-2.ensures.small)) c.groups.invariant.low c.groups.invariant.scale_is)

pub overflow_add-result-2 : goal.overflow_add-result-2
overflow_add-result-2 c = omega (arith, ninth_fits c.groups.counter c.groups.value c.from.result c.groups.scale (omega arith) (omega arith) (omega (arith, c.in_ok-byte-2.ensures.small)) c.groups.invariant.low c.groups.invariant.scale_is)

pub returns-in_err-byte-2 : goal.returns-in_err-byte-2
returns-in_err-byte-2 c =
    let p = err_from_is_err_and c.from_residual-in_err-byte-2.result c.from_residual-in_err-byte-2.ensures.1 in
    rw (p.1, p.2) (with_low-short c.groups.counter c.groups.value c.groups.scale _ _ _ c.in_err-byte-2.ensures.value c.groups.invariant.same)

pub returns : goal.returns
returns c =
    rw c.from.ensures (with_low-ninth c.groups.counter c.groups.value c.in_ok-byte-2.byte c.groups.scale c.groups.rest.now c.in_ok-byte-2.after.now _ (omega arith) c.in_ok-byte-2.ensures.value c.groups.invariant.same)
