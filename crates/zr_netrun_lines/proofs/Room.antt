-- Room for one more act: each line begins with it (`room_later`), and an act that was applied has used it up (`within_applied`).
use Rattle.std.proofs.Common.{◌≡◌, ℕ, ◌+◌, ◌<◌, ◌≤◌, Bool, true, false, cond, List, Result, Ok, Err, refl, sym, ap, ◌∙◌, subst, arith}
use Rattle.std.specs.Prelude.{nat_le}
use Rattle.std.proofs.lemmas.Bool.{true≢false, false≢true, leb-true}
use Rattle.zr_script_spec.specs.declared.error.ScriptError.{ScriptError}
use Rattle.zr_script_spec.specs.declared.error.ScriptError.TheVariants as e
use Rattle.zr_script_spec.specs.declared.command.Act.{Act}
use Rattle.zr_script_spec.specs.declared.report.ReportLine.{ReportLine}
use Rattle.zr_script_spec.specs.Lines.{most_bytes}
use Rattle.zr_world_spec.specs.World.{WorldState, most_steps}
use Rattle.zr_world_spec.specs.Acts.{Outcome, outcome}
use Rattle.zr_world_spec.specs.Next.{Done, booking, book_step, fan_step}
use Rattle.zr_world_spec.proofs.Counting.{recounted, outcome_recounted}
use Rattle.zr_world_spec.proofs.Lines.{fan_led}
use Rattle.zr_law_numbers.specs.Calls.{most_commands}
use Rattle.zr_world.specs.Living.{Living, new_world, Applies, Books}
use Rattle.zr_netrun_lines.specs.Within.{IsWithin, OneMore}

pub within_first : IsWithin new_world 0
unfolding IsWithin
within_first = λ alive. (omega arith, omega arith)

-- ---- a line is counted

pub within_later : (w : Living) (n : ℕ) → IsWithin w n → IsWithin w (n + 1)
unfolding IsWithin
within_later w n h = λ alive. let few = (h alive).0 in (omega (arith, few), (h alive).1)

pub room_later : (w : Living) (n : ℕ) → IsWithin w n → w.spent ≡ false → w.applied < (n + 1) + w.state.booked
unfolding IsWithin
room_later w n h alive = let few = (h alive).0 in omega (arith, few)

-- so it has room by far
pub room_far : (w : Living) (n : ℕ) → IsWithin w n → w.spent ≡ false → n ≤ most_bytes → w.applied < most_commands
unfolding IsWithin
room_far w n h alive short = let few = (h alive).0 in let booked = (h alive).1 in omega (arith, few, booked, short)

-- ---- what was done

-- an act counts no steps
pub same_booked : (w : WorldState) (line : ℕ) (act : Act) (x : List ReportLine × WorldState) → outcome w line act ≡ Ok x → x.1.booked ≡ w.booked
same_booked w line act x h = ap booked_of (sym h ∙ outcome_recounted w w.booked line act ∙ ap (recounted w.booked) h)
  where
    booked_of : Outcome → ℕ
    booked_of (Err e) = w.booked
    booked_of (Ok y) = y.1.booked

pub one_more : (old new : Living) (line : ℕ) (act : Act) (before after : List ReportLine) (u : Unit {0}) → Applies (Ok u) (outcome old.state line act) (old.applied + 1) old new before after → OneMore old new
one_more old new line act before after u h = by (outcome old.state line act) refl h
  where
    by : (o : Outcome) → outcome old.state line act ≡ o → Applies (Ok u) o (old.applied + 1) old new before after → OneMore old new
    by (Ok x) e k =
        let count : new.applied ≡ old.applied + 1 = ap (λ (w : Living). w.applied) k.0.0 in
        (omega (arith, count), ap (λ (w : Living). w.state.booked) k.0.0 ∙ same_booked old.state line act x e)
    by (Err f) e k = absurd (false≢true k.1)

-- an act used up its room
pub within_applied : (old new : Living) (n line : ℕ) (act : Act) (before after : List ReportLine) (u : Unit {0}) → Applies (Ok u) (outcome old.state line act) (old.applied + 1) old new before after → old.spent ≡ false →
    old.applied < n + old.state.booked → IsWithin old n → IsWithin new n
unfolding IsWithin
within_applied old new n line act before after u h living room within = λ alive.
    let more = one_more old new line act before after u h in
    let least : new.applied ≤ old.applied + 1 = more.0 in
    let same : new.state.booked ≡ old.state.booked = more.1 in
    let few : old.state.booked ≤ most_steps = (within living).1 in
    (omega (arith, least, same, room), omega (arith, few, same))

-- what was refused has changed nothing, and without memory nothing is asked
pub within_refused : (error : ScriptError) (said : Done) (count : ℕ) (old new : Living) (n : ℕ) (before after : List ReportLine) → Applies (Err error) said count old new before after → IsWithin old n → IsWithin new n
unfolding IsWithin
within_refused e.NoMemory said count old new n before after h within = λ alive. absurd (true≢false (sym h.0 ∙ alive))
within_refused e.UnknownCommand said count old new n before after h within = subst (λ (w : Living). IsWithin w n) (sym h.1) within
within_refused e.BadWords said count old new n before after h within = subst (λ (w : Living). IsWithin w n) (sym h.1) within
within_refused e.UnknownName said count old new n before after h within = subst (λ (w : Living). IsWithin w n) (sym h.1) within
within_refused e.NameTaken said count old new n before after h within = subst (λ (w : Living). IsWithin w n) (sym h.1) within
within_refused e.BadKey said count old new n before after h within = subst (λ (w : Living). IsWithin w n) (sym h.1) within
within_refused e.NotLinked said count old new n before after h within = subst (λ (w : Living). IsWithin w n) (sym h.1) within
within_refused e.AlreadyLinked said count old new n before after h within = subst (λ (w : Living). IsWithin w n) (sym h.1) within
within_refused e.NothingThere said count old new n before after h within = subst (λ (w : Living). IsWithin w n) (sym h.1) within
within_refused e.NotAsked said count old new n before after h within = subst (λ (w : Living). IsWithin w n) (sym h.1) within
within_refused e.NotSettled said count old new n before after h within = subst (λ (w : Living). IsWithin w n) (sym h.1) within
within_refused e.NotSamples said count old new n before after h within = subst (λ (w : Living). IsWithin w n) (sym h.1) within
within_refused e.NotJoined said count old new n before after h within = subst (λ (w : Living). IsWithin w n) (sym h.1) within
within_refused e.Limit said count old new n before after h within = subst (λ (w : Living). IsWithin w n) (sym h.1) within

-- a fan applies no act, and counts no steps
pub within_fanned : (old new : Living) (n line : ℕ) (before after : List ReportLine) (u : Unit {0}) → Applies (Ok u) (fan_step old.state line) old.applied old new before after → old.spent ≡ false → IsWithin old n → IsWithin new n
unfolding IsWithin
within_fanned old new n line before after u h living within = by (fan_step old.state line) refl h
  where
    by : (d : Done) → fan_step old.state line ≡ d → Applies (Ok u) d old.applied old new before after → new.spent ≡ false → (new.applied ≤ n + new.state.booked) × (new.state.booked ≤ most_steps)
    by (Ok x) e k alive =
        let count : new.applied ≡ old.applied = ap (λ (w : Living). w.applied) k.0.0 in
        let led = fan_led old.state old.state.booked line x e in
        let same : new.state.booked ≡ old.state.booked = ap (λ (w : Living). w.state.booked) k.0.0 ∙ ap (λ (z : List ReportLine × WorldState). z.1.booked) led.2 in
        let few : old.applied ≤ n + old.state.booked = (within living).0 in
        let most : old.state.booked ≤ most_steps = (within living).1 in
        (omega (arith, count, same, few), omega (arith, same, most))
    by (Err f) e k alive = absurd (false≢true k.1)

-- ---- a run

-- its steps were counted
pub record IsBooked (old new : Living) (steps : ℕ) : Type 0 where
  pub count : new.applied ≡ old.applied
  pub sum : new.state.booked ≡ old.state.booked + steps
  pub most : new.state.booked ≤ most_steps

pub books_more : (old new : Living) (steps : ℕ) (u : Unit {0}) → Books (Ok u) (book_step old.state steps) old new → IsBooked old new steps
unfolding book_step
books_more old new steps u h = by (nat_le (old.state.booked + steps) most_steps) refl h
  where
    by : (b : Bool) → nat_le (old.state.booked + steps) most_steps ≡ b → Books (Ok u) (cond b (Ok (booking old.state steps)) (Err e.Limit)) old new → IsBooked old new steps
    by true fits k =
        let sum : new.state.booked ≡ old.state.booked + steps = ap (λ (w : Living). w.state.booked) k.0 in
        record {
          count = ap (λ (w : Living). w.applied) k.0;
          sum = sum;
          most = let room : old.state.booked + steps ≤ most_steps = leb-true (old.state.booked + steps) most_steps fits in omega (arith, sum, room);
        }
    by false fits k = absurd (false≢true k.1)

pub within_booked : (result : Result (Unit {0}) ScriptError) (old new : Living) (n steps : ℕ) → Books result (book_step old.state steps) old new → old.spent ≡ false → IsWithin old n → IsWithin new n
unfolding IsWithin
within_booked (Ok u) old new n steps h living within = λ alive.
    let b = books_more old new steps u h in
    let count : new.applied ≡ old.applied = b.count in
    let sum : new.state.booked ≡ old.state.booked + steps = b.sum in
    let few : old.applied ≤ n + old.state.booked = (within living).0 in
    (omega (arith, count, sum, few), b.most)
within_booked (Err f) old new n steps h living within = subst (λ (w : Living). IsWithin w n) (sym h.1) within
