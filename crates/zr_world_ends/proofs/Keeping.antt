-- What the kinds of messages tell of these.
use Rattle.std.proofs.Common.{◌≡◌, ℕ, ◌+◌, not, List, [], ◌∷◌, length, refl, sym, ap, ◌∙◌, arith}
use Rattle.std.specs.Prelude.{◌&&◌, min}
use Rattle.std.specs.List.{list_all, sum_by}
use Rattle.std.proofs.lemmas.List.{length-map, length-append}
use Rattle.std.proofs.lemmas.List.Sums.{sum_by-append}
use Rattle.std.proofs.lemmas.List.Folds.{list_all-append, list_all-map}
use Rattle.zr_world_spec.specs.World.{Tagged, EndState, End, Ends, is_calm, is_calm_end, is_empty}
use Rattle.zr_world_spec.specs.Fan.{is_sample, sample_bytes, waiting_at}
use Rattle.zr_world_spec.specs.Next.{can_handle}
use Rattle.zr_world_ends.specs.declared.kind.WireKind.{WireKind}
use Rattle.zr_world_ends.specs.Kept.{KeptEnd, kept, kept_ends, kind_of, kinds_of, most_number, no_kinds, has_samples, can_handle as kept_can_handle, is_calm_end as kept_is_calm, waiting_bytes, waiting_count}
use Rattle.zr_world_ends.proofs.Sums.{capped_same, min_both, sum_by_mapped}

-- ---- of one end

none_same : (wire : List Tagged) → no_kinds (kinds_of wire) ≡ is_empty wire
none_same [] = refl
none_same (x ∷ xs) = refl

pub handle_same : (s : EndState) → kept_can_handle (kept s) ≡ can_handle s
handle_same s = ap (λ b. s.up && not b) (none_same s.wire)

pub calm_same : (s : EndState) → kept_is_calm (kept s) ≡ is_calm_end s
calm_same s = ap (λ b. b && list_all is_calm s.queue) (list_all-map (λ (k : WireKind). k.calm) (λ (m : Tagged). kind_of m.msg) s.wire)

samples_same : (s : EndState) → has_samples (kept s) ≡ list_all (λ m. is_sample m.msg) (waiting_at s)
samples_same s =
    ap (λ b. b && list_all (λ m. is_sample m.msg) s.queue) (list_all-map (λ (k : WireKind). k.sample) (λ (m : Tagged). kind_of m.msg) s.wire)
    ∙ sym (list_all-append (λ (m : Tagged). is_sample m.msg) s.wire s.queue)

count_same : (s : EndState) → waiting_count (kept s) ≡ length (waiting_at s)
count_same s = ap (λ n. n + length s.queue) (length-map s.wire (λ (m : Tagged). kind_of m.msg)) ∙ sym (length-append s.wire s.queue)

bytes_same : (s : EndState) → min (waiting_bytes (kept s)) most_number ≡ min (sum_by (λ m. sample_bytes m.msg) (waiting_at s)) most_number
bytes_same s =
    ap (λ n. min (n + rest) most_number) (sum_by_mapped (λ (k : WireKind). k.bytes) (λ (m : Tagged). kind_of m.msg) s.wire)
    ∙ min_both (sum_by (λ (m : Tagged). min (sample_bytes m.msg) most_number) s.wire) rest most_number
    ∙ ap (λ n. min (n + min rest most_number) most_number) (capped_same (λ (m : Tagged). min (sample_bytes m.msg) most_number) bytes most_number (λ m. min_again (sample_bytes m.msg) most_number) s.wire)
    ∙ sym (min_both (sum_by bytes s.wire) rest most_number) ∙ ap (λ n. min n most_number) (sym (sum_by-append bytes s.wire s.queue))
  where
    bytes : Tagged → ℕ
    bytes m = sample_bytes m.msg

    rest : ℕ
    rest = sum_by bytes s.queue

    min_again : (n most : ℕ) → min (min n most) most ≡ min n most
    min_again n most = omega arith

-- ---- of all ends

abbrev kept_one : End × EndState → End × KeptEnd
kept_one e = (e.0, kept e.1)

pub all_samples : (es : Ends) → list_all (λ e. has_samples e.1) (kept_ends es) ≡ list_all (λ e. list_all (λ m. is_sample m.msg) (waiting_at e.1)) es
all_samples es = list_all-map (λ (e : End × KeptEnd). has_samples e.1) kept_one es ∙ (λ i. list_all (λ e. samples_same e.1 i) es)

pub all_counted : (es : Ends) → sum_by (λ e. waiting_count e.1) (kept_ends es) ≡ sum_by (λ e. length (waiting_at e.1)) es
all_counted es = sum_by_mapped (λ (e : End × KeptEnd). waiting_count e.1) kept_one es ∙ (λ i. sum_by (λ e. count_same e.1 i) es)

pub all_bytes : (es : Ends) → min (sum_by (λ e. waiting_bytes e.1) (kept_ends es)) most_number ≡ min (sum_by (λ e. sum_by (λ m. sample_bytes m.msg) (waiting_at e.1)) es) most_number
all_bytes es =
    ap (λ n. min n most_number) (sum_by_mapped (λ (e : End × KeptEnd). waiting_bytes e.1) kept_one es)
    ∙ capped_same (λ (e : End × EndState). waiting_bytes (kept e.1)) (λ (e : End × EndState). sum_by (λ m. sample_bytes m.msg) (waiting_at e.1)) most_number (λ e. bytes_same e.1) es
