-- A piece is fed line by line. At each turn what is kept is a run's (`IsAt`), and the lines that are left lead this run to the same
-- end (`goal_run`) and to the same open line (`goal_open`) as the whole piece leads the first one.
use Rattle.std.proofs.Common.{◌≡◌, ℕ, ◌+◌, ◌-◌, ◌<◌, ◌≤◌, ◌==◌, false, List, [], ◌∷◌, ◌++◌, length, take, drop, Option, Some, None, Result, Ok, Err, refl, sym, ap, ◌∙◌, append-nil, arith, subst}
use Rattle.std.specs.List.{fold, position}
use Rattle.std.specs.Prelude.{OnOk, OnErr}
use Rattle.std.proofs.lemmas.List.{length-drop, length-take, take_all}
use Rattle.std.proofs.lemmas.List.Quantifiers.{position-Some}
use Rattle.zr_lists.proofs.Cutting.{cut_some}
use Rattle.zr_outside.specs.Told.{AppendsPrefix}
use Rattle.zr_script_spec.specs.Lines.{most_kept, parts, ended_lines, open_line}
use Rattle.zr_world_spec.specs.Run.{Run, on_line}
use Rattle.zr_netrun_report.specs.Waiting.{Written}
use Rattle.zr_netrun_lines.specs.declared.runner.RunStop.{RunStop}
use Rattle.zr_netrun_lines.specs.declared.runner.RunStop.TheVariants.{Refused, NoMemory, WriteFault}
use Rattle.zr_netrun_lines.specs.Kept.{Kept, fresh, IsAt, Turns}
use Rattle.zr_netrun_lines.proofs.Lines.{IsOpen, open_append, ended_at, open_at, ended_none, open_none}
use Rattle.zr_netrun_lines.proofs.Writing.{turn_more, turn_stops, prefix_written, world_kept}

-- nothing has been written since
nothing_gone : (t : List ℕ) (a : Option (List ℕ)) → Written (t ++ []) t a a
nothing_gone t None = tt
nothing_gone t (Some held) = ([], append-nil t, ap Some (sym (append-nil held)))

-- what is kept is a fresh run's
pub start_at : (k : Kept) (a : Option (List ℕ)) → k.world.spent ≡ false → IsAt (fresh k) k.line k.pending k a a
start_at k a alive = record {
  world = λ i. record { state = k.world.state; applied = k.world.applied; spent = alive i };
  number = refl;
  line_is = refl;
  refusal = refl;
  text = nothing_gone k.pending a;
}

-- a piece is cut at its first line end
pub cut_rest : (rest : List ℕ) (i : ℕ) → position (λ b. b == 10) rest ≡ Some i → parts rest ≡ take i rest ∷ parts (take (length rest - (i + 1)) (drop (i + 1) rest))
cut_rest rest i found =
    let all : take (length rest - (i + 1)) (drop (i + 1) rest) ≡ drop (i + 1) rest = take_all (length rest - (i + 1)) (drop (i + 1) rest) (omega (arith, length-drop (i + 1) rest)) in
    cut_some (λ b. b == 10) rest i 0 found ∙ ap (λ z. take i rest ∷ parts z) (sym all)

-- the place of a line end is within the piece
pub place_within : (rest : List ℕ) (i : ℕ) → position (λ b. b == 10) rest ≡ Some i → i < length rest
place_within rest i found = (position-Some (λ b. b == 10) rest i 0 found).0

-- what is left behind a line end is less than the piece by one byte at least
pub left_shorter : (now before place k : ℕ) (rest : List ℕ) → place < length rest → now ≤ before + 1 →
    now + length (take k (drop (place + 1) rest)) ≤ before + length rest
left_shorter now before place k rest lt step = omega (arith, length-take k (drop (place + 1) rest), length-drop (place + 1) rest)

module _ (earlier : List ℕ) (goal_run : Run) (goal_open : List ℕ) (a : Option (List ℕ)) where
  -- where a piece stands: the run so far, and what is left of the piece
  abbrev pub AtRest : Kept → List ℕ → Option (List ℕ) → Type 0
  AtRest k rest b =
      (run : Run) × IsAt run k.line earlier k a b × (fold on_line run (ended_lines (k.line ++ rest)) ≡ goal_run) × (open_line (k.line ++ rest) ≡ goal_open)

  -- a line has ended and was applied
  pub next_at : (k m : Kept) (rest part more : List ℕ) (b c : Option (List ℕ)) → AtRest k rest b → IsOpen k.line → parts rest ≡ part ∷ parts more →
      IsAt (on_line (fresh k) (k.line ++ part)) [] k.pending m b c → AtRest m more c
  next_at k m rest part more b c at is_open cut turn =
      let line : List ℕ = k.line ++ part in
      let next : IsAt (on_line at.0 line) [] earlier m a c = turn_more at.0 (line ∷ []) k.line [] earlier k m a b c (Ok tt) at.1 turn in
      let here : m.line ≡ [] = next.line_is in
      let lines : fold on_line at.0 (ended_lines (k.line ++ rest)) ≡ fold on_line (on_line at.0 line) (ended_lines more) =
      ap (fold on_line at.0) (ended_at k.line rest part more is_open cut) in (
        on_line at.0 line,
        record { world = next.world; number = next.number; line_is = refl; refusal = next.refusal; text = next.text },
        ap (λ z. fold on_line (on_line at.0 line) (ended_lines (z ++ more))) here ∙ sym lines ∙ at.2,
        ap (λ z. open_line (z ++ more)) here ∙ sym (open_at k.line rest part more is_open cut) ∙ at.3,
      )

  -- a line has ended, and the run stopped there
  pub stops_at : (k m : Kept) (rest part more l' : List ℕ) (b c : Option (List ℕ)) (stop : RunStop) → AtRest k rest b → IsOpen k.line → parts rest ≡ part ∷ parts more →
      Turns (Err stop) (on_line (fresh k) (k.line ++ part)) [] k.pending m b c → Turns (Err stop) goal_run l' earlier m a c
  stops_at k m rest part more l' b c stop at is_open cut turn =
      let line : List ℕ = k.line ++ part in
      let here : Turns (Err stop) (on_line at.0 line) [] earlier m a c = turn_more at.0 (line ∷ []) k.line [] earlier k m a b c (Err stop) at.1 turn in
      let lines : fold on_line (on_line at.0 line) (ended_lines more) ≡ goal_run =
      sym (ap (fold on_line at.0) (ended_at k.line rest part more is_open cut)) ∙ at.2 in
      subst (λ (r : Run). Turns (Err stop) r l' earlier m a c) lines (turn_stops (on_line at.0 line) (ended_lines more) [] l' earlier m a c stop here)

  -- no line ends in what is left, which is kept
  pub keeps_at : (k m : Kept) (rest : List ℕ) (b : Option (List ℕ)) (result : Result (Unit {0}) RunStop) → AtRest k rest b → IsOpen k.line → parts rest ≡ rest ∷ [] →
      OnOk result (m ≡ record { world = k.world; number = k.number; line = take most_kept (k.line ++ rest); pending = k.pending; counts = k.counts }) → OnErr result (result ≡ Err NoMemory) →
      Turns result goal_run (take most_kept goal_open) earlier m a b
  keeps_at k m rest b (Ok u) at is_open whole ok err =
      let joined : IsOpen (k.line ++ rest) = open_append k.line rest is_open whole in
      let same : at.0 ≡ goal_run = sym (ap (fold on_line at.0) (ended_none (k.line ++ rest) joined)) ∙ at.2 in
      let left : k.line ++ rest ≡ goal_open = sym (open_none (k.line ++ rest) joined) ∙ at.3 in
      subst (λ (r : Run). IsAt r (take most_kept goal_open) earlier m a b) same (record {
        world = world_kept at.0.world k.world m.world (ap (λ (z : Kept). z.world) ok) at.1.world;
        number = ap (λ (z : Kept). z.number) ok ∙ at.1.number;
        line_is = ap (λ (z : Kept). z.line) ok ∙ ap (take most_kept) left;
        refusal = at.1.refusal;
        text = subst (λ (z : List ℕ). Written (earlier ++ at.0.text) z a b) (sym (ap (λ (z : Kept). z.pending) ok)) at.1.text;
      })
  keeps_at k m rest b (Err (Refused e)) at is_open whole ok err = absurd (cc)
  keeps_at k m rest b (Err WriteFault) at is_open whole ok err = absurd (cc)
  keeps_at k m rest b (Err NoMemory) at is_open whole ok err =
      let joined : IsOpen (k.line ++ rest) = open_append k.line rest is_open whole in
      let same : at.0 ≡ goal_run = sym (ap (fold on_line at.0) (ended_none (k.line ++ rest) joined)) ∙ at.2 in
      subst (λ (r : Run). AppendsPrefix (earlier ++ r.text) a b) same (prefix_written (earlier ++ at.0.text) k.pending a b at.1.text)
