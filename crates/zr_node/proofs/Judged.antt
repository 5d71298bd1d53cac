-- What is answered says why it was refused.
use Rattle.std.proofs.Common.{◌≡◌, ℕ, false, option_map, Result, Ok, Err, IfOk, OnOk, OnErr, refl}
use Rattle.std.specs.Result.{is_err}
use Rattle.std.proofs.lemmas.Bool.{true≢false}
use Rattle.zr_local.specs.Rows.{refusal}
use Rattle.zr_local.specs.declared.error.LocalError.{LocalError}
use Rattle.zr_local.specs.declared.error.LocalError.TheVariants as local
use Rattle.zr_node_spec.specs.Table.{local_error}
use Rattle.zr_node.specs.Answer.{IsJudged, answered}

pub judged : {X : Type 0} (id : ℕ) (r : Result X LocalError) → IsJudged (option_map (λ e. local_error id e) (refusal r)) (answered id r)
judged id (Ok x) = refl
judged id (Err local.UnknownId) = refl
judged id (Err (local.TextLimit held more)) = refl
judged id (Err local.NoMemory) = refl

pub if_answered : {X : Type 0} (P : X → Type 0) (id : ℕ) (r : Result X LocalError) → IfOk r P → IfOk (answered id r) P
if_answered P id (Ok x) h = h
if_answered P id (Err local.UnknownId) h = tt
if_answered P id (Err (local.TextLimit held more)) h = tt
if_answered P id (Err local.NoMemory) h = tt

pub on_answered : {X : Type 0} (P : Type 0) (id : ℕ) (r : Result X LocalError) → OnOk r P → OnOk (answered id r) P
on_answered P id (Ok x) h = h
on_answered P id (Err local.UnknownId) h = tt
on_answered P id (Err (local.TextLimit held more)) h = tt
on_answered P id (Err local.NoMemory) h = tt

pub on_failed : {X : Type 0} (P : Type 0) (id : ℕ) (r : Result X LocalError) → OnErr r P → OnErr (answered id r) P
on_failed P id (Ok x) h = tt
on_failed P id (Err local.UnknownId) h = h
on_failed P id (Err (local.TextLimit held more)) h = h
on_failed P id (Err local.NoMemory) h = h

-- what holds where it was done
pub held : {T E : Type 0} (P : Type 0) (r : Result T E) → is_err r ≡ false → OnOk r P → P
held P (Ok x) e h = h
held P (Err x) e h = absurd (true≢false e)
