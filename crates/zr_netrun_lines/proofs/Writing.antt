-- What has been written when one turn follows another: the text before stands in front of what a turn adds.
use Rattle.std.proofs.Common.{◌≡◌, ℕ, Bool, true, false, List, [], ◌++◌, Option, Some, None, is_some, Result, Ok, Err, refl, sym, ap, ◌∙◌, append_assoc, append-nil, subst}
use Rattle.std.specs.List.{fold}
use Rattle.std.specs.Prelude.{OnOk, OnErr}
use Rattle.zr_outside.specs.Told.{Appends, AppendsPrefix}
use Rattle.zr_outside.proofs.Appending.{prefix_more}
use Rattle.zr_world_spec.specs.World.{WorldState}
use Rattle.zr_world_spec.specs.Run.{Run, on_line}
use Rattle.zr_world.specs.Living.{Living, alive}
use Rattle.zr_netrun_report.specs.Waiting.{Written}
use Rattle.zr_netrun_lines.specs.declared.runner.RunStop.{RunStop}
use Rattle.zr_netrun_lines.specs.declared.runner.RunStop.TheVariants.{Refused, NoMemory, WriteFault}
use Rattle.zr_netrun_lines.specs.Kept.{Kept, fresh, seen, IsAt, Stopped, Turns}
use Rattle.zr_netrun_lines.proofs.Runs.{with_text, fold_with, text_grows, refused_stays}

-- ---- texts

pub written_more : (t p s p' : List ℕ) (a b c : Option (List ℕ)) → Written t p a b → Written (p ++ s) p' b c → Written (t ++ s) p' a c
written_more t p s p' None b c h k = tt
written_more t p s p' (Some held) b c h k =
    let k' = rw h.2 at k in
    let whole : t ++ s ≡ (h.0 ++ k'.0) ++ p' = ap (λ z. z ++ s) h.1 ∙ append_assoc h.0 p s ∙ ap (λ z. h.0 ++ z) k'.1 ∙ sym (append_assoc h.0 k'.0 p') in
    let gained : c ≡ Some (held ++ (h.0 ++ k'.0)) = k'.2 ∙ ap Some (append_assoc held h.0 k'.0) in
    (h.0 ++ k'.0, whole, gained)

pub written_prefix : (t p s : List ℕ) (a b c : Option (List ℕ)) → Written t p a b → AppendsPrefix (p ++ s) b c → AppendsPrefix (t ++ s) a c
written_prefix t p s None b c h k = tt
written_prefix t p s (Some held) b c h k =
    let k' = rw h.2 at k in
    let whole : t ++ s ≡ (h.0 ++ k'.0) ++ k'.1 = ap (λ z. z ++ s) h.1 ∙ append_assoc h.0 p s ∙ ap (λ z. h.0 ++ z) k'.2 ∙ sym (append_assoc h.0 k'.0 k'.1) in
    let gained : c ≡ Some (held ++ (h.0 ++ k'.0)) = k'.3 ∙ ap Some (append_assoc held h.0 k'.0) in
    (h.0 ++ k'.0, k'.1, whole, gained)

-- where nothing waits, the whole text has gone out
pub all_written : (t : List ℕ) (a b : Option (List ℕ)) → Written t [] a b → Appends t a b
all_written t None b h = h
all_written t (Some held) b h = h.2 ∙ ap (λ z. Some (held ++ z)) (sym (h.1 ∙ append-nil h.0))

-- a text that has gone out whole is written with nothing waiting
pub written_all : (t : List ℕ) (a b : Option (List ℕ)) → Appends t a b → Written t [] a b
written_all t None b h = h
written_all t (Some held) b h = (t, sym (append-nil t), h)

-- what waited has gone out too
pub written_flushed : (t p : List ℕ) (a b c : Option (List ℕ)) → Written t p a b → Appends p b c → Written t [] a c
written_flushed t p a b c h k =
    let k' : Written (p ++ []) [] b c = subst (λ (z : List ℕ). Written z [] b c) (sym (append-nil p)) (written_all p b c k) in
    subst (λ (z : List ℕ). Written z [] a c) (append-nil t) (written_more t p [] [] a b c h k')

-- a prefix of what waited has gone out
pub prefix_flushed : (t p : List ℕ) (a b c : Option (List ℕ)) → Written t p a b → AppendsPrefix p b c → AppendsPrefix t a c
prefix_flushed t p a b c h k =
    let k' : AppendsPrefix (p ++ []) b c = subst (λ (z : List ℕ). AppendsPrefix z b c) (sym (append-nil p)) k in
    subst (λ (z : List ℕ). AppendsPrefix z a c) (append-nil t) (written_prefix t p [] a b c h k')

-- a prefix of all that waits and was written is a prefix of the text
pub prefix_written : (t p : List ℕ) (a b : Option (List ℕ)) → Written t p a b → AppendsPrefix t a b
prefix_written t p None b h = h
prefix_written t p (Some held) b h = (h.0, p, h.1, h.2)

-- ---- turns

-- a run that was not refused is what is kept, with its text
pub run_is : (r : Run) (line earlier : List ℕ) (k : Kept) (a b : Option (List ℕ)) → IsAt r line earlier k a b → r ≡ with_text r.text (fresh k)
run_is r line earlier k a b h i =
    record { world = (sym (ap (λ (w : Living). w.state) h.world)) i; number = (sym h.number) i; text = (sym (append-nil r.text)) i; refusal = h.refusal i }

-- a turn behind an earlier text
pub turn_behind : (t earlier : List ℕ) (q : Run) (l p : List ℕ) (m : Kept) (a b c : Option (List ℕ)) (result : Result (Unit {0}) RunStop) →
    Written (earlier ++ t) p a b → Turns result q l p m b c → Turns result (with_text t q) l earlier m a c
turn_behind t earlier q l p m a b c (Ok u) h k = record {
  world = k.world;
  number = k.number;
  line_is = k.line_is;
  refusal = k.refusal;
  text = subst (λ (z : List ℕ). Written z m.pending a c) (append_assoc earlier t q.text) (written_more (earlier ++ t) p q.text m.pending a b c h k.text);
}
turn_behind t earlier q l p m a b c (Err (Refused e)) h k =
    (k.0, k.1, subst (λ (z : List ℕ). Written z m.pending a c) (append_assoc earlier t q.text) (written_more (earlier ++ t) p q.text m.pending a b c h k.2))
turn_behind t earlier q l p m a b c (Err NoMemory) h k =
    subst (λ (z : List ℕ). AppendsPrefix z a c) (append_assoc earlier t q.text) (written_prefix (earlier ++ t) p q.text a b c h k)
turn_behind t earlier q l p m a b c (Err WriteFault) h k =
    subst (λ (z : List ℕ). AppendsPrefix z a c) (append_assoc earlier t q.text) (written_prefix (earlier ++ t) p q.text a b c h k)

-- one more turn: what is kept is a run's, and lines come
pub turn_more : (r : Run) (ls : List (List ℕ)) (l0 l1 earlier : List ℕ) (k m : Kept) (a b c : Option (List ℕ)) (result : Result (Unit {0}) RunStop) →
    IsAt r l0 earlier k a b → Turns result (fold on_line (fresh k) ls) l1 k.pending m b c → Turns result (fold on_line r ls) l1 earlier m a c
turn_more r ls l0 l1 earlier k m a b c result h turn =
    let same : fold on_line r ls ≡ with_text r.text (fold on_line (fresh k) ls) = ap (λ x. fold on_line x ls) (run_is r l0 earlier k a b h) ∙ fold_with r.text (fresh k) ls in
    subst (λ (x : Run). Turns result x l1 earlier m a c) (sym same)
    (turn_behind r.text earlier (fold on_line (fresh k) ls) l1 k.pending m a b c result h.text turn)

-- a turn that stopped at some lines has stopped at these and further ones
pub turn_stops : (r : Run) (ls : List (List ℕ)) (l l' earlier : List ℕ) (m : Kept) (a c : Option (List ℕ)) (stop : RunStop) →
    Turns (Err stop) r l earlier m a c → Turns (Err stop) (fold on_line r ls) l' earlier m a c
turn_stops r ls l l' earlier m a c (Refused e) h =
    let refused : is_some r.refusal ≡ true = ap is_some h.0 in
    subst (λ (x : Run). Stopped (Refused e) x earlier m a c) (sym (refused_stays r ls refused)) h
turn_stops r ls l l' earlier m a c NoMemory h =
    let g = text_grows r ls in
    subst (λ (z : List ℕ). AppendsPrefix z a c) (append_assoc earlier r.text g.0 ∙ ap (λ z. earlier ++ z) (sym g.1)) (prefix_more (earlier ++ r.text) g.0 a c h)
turn_stops r ls l l' earlier m a c WriteFault h =
    let g = text_grows r ls in
    subst (λ (z : List ℕ). AppendsPrefix z a c) (append_assoc earlier r.text g.0 ∙ ap (λ z. earlier ++ z) (sym g.1)) (prefix_more (earlier ++ r.text) g.0 a c h)

-- what is so of a sink is so of what is looked at of it
pub seen_all : (s : Bool) (p : List ℕ) (a b : Option (List ℕ)) → Appends p a b → Appends p (seen s a) (seen s b)
seen_all true p a b h = h
seen_all false p a b h = tt

pub seen_prefix : (s : Bool) (p : List ℕ) (a b : Option (List ℕ)) → AppendsPrefix p a b → AppendsPrefix p (seen s a) (seen s b)
seen_prefix true p a b h = h
seen_prefix false p a b h = tt

pub seen_written : (s : Bool) (t p : List ℕ) (a b : Option (List ℕ)) → Written t p a b → Written t p (seen s a) (seen s b)
seen_written true t p a b h = h
seen_written false t p a b h = tt

-- what is looked at of a sink stays the same where the report is still written, or still isn't
pub seen_at : (s s' : Bool) (r : Run) (l earlier : List ℕ) (m : Kept) (a b : Option (List ℕ)) → s ≡ s' → IsAt r l earlier m (seen s a) (seen s b) → IsAt r l earlier m (seen s' a) (seen s' b)
seen_at s s' r l earlier m a b same h = subst (λ (t : Bool). IsAt r l earlier m (seen t a) (seen t b)) same h

pub seen_stopped : (s s' : Bool) (stop : RunStop) (r : Run) (earlier : List ℕ) (m : Kept) (a b : Option (List ℕ)) → s ≡ s' → Stopped stop r earlier m (seen s a) (seen s b) →
    Stopped stop r earlier m (seen s' a) (seen s' b)
seen_stopped s s' stop r earlier m a b same h = subst (λ (t : Bool). Stopped stop r earlier m (seen t a) (seen t b)) same h

pub seen_turns : (s s' : Bool) (result : Result (Unit {0}) RunStop) (r : Run) (l earlier : List ℕ) (m : Kept) (a b : Option (List ℕ)) → s ≡ s' → Turns result r l earlier m (seen s a) (seen s b) →
    Turns result r l earlier m (seen s' a) (seen s' b)
seen_turns s s' result r l earlier m a b same h = subst (λ (t : Bool). Turns result r l earlier m (seen t a) (seen t b)) same h

-- a world that is kept on is a run's, behind as many acts as before
pub world_kept : (w : WorldState) (k m : Living) → m ≡ k → k ≡ alive w k.applied → m ≡ alive w m.applied
world_kept w k m same is = same ∙ is ∙ ap (alive w) (sym (ap (λ (z : Living). z.applied) same))

-- what waited was written after a turn
pub flush_after : (s : Bool) (r : Run) (l earlier : List ℕ) (k m : Kept) (a b c : Option (List ℕ)) (result : Result (Unit {0}) RunStop) → IsAt r l earlier k a (seen s b) →
    m ≡ record { world = k.world; number = k.number; line = k.line; pending = []; counts = k.counts } → OnOk result (Appends k.pending b c) →
    OnErr result ((result ≡ Err WriteFault) × AppendsPrefix k.pending b c) → Turns result r l earlier m a (seen s c)
flush_after s r l earlier k m a b c (Ok u) at same ok err = record {
  world = world_kept r.world k.world m.world (ap (λ (z : Kept). z.world) same) at.world;
  number = ap (λ (z : Kept). z.number) same ∙ at.number;
  line_is = ap (λ (z : Kept). z.line) same ∙ at.line_is;
  refusal = at.refusal;
  text = subst (λ (z : List ℕ). Written (earlier ++ r.text) z a (seen s c)) (sym (ap (λ (z : Kept). z.pending) same))
      (written_flushed (earlier ++ r.text) k.pending a (seen s b) (seen s c) at.text (seen_all s k.pending b c ok));
}
flush_after s r l earlier k m a b c (Err WriteFault) at same ok err = prefix_flushed (earlier ++ r.text) k.pending a (seen s b) (seen s c) at.text (seen_prefix s k.pending b c err.1)
flush_after s r l earlier k m a b c (Err NoMemory) at same ok err = absurd (cc)
flush_after s r l earlier k m a b c (Err (Refused e)) at same ok err = absurd (cc)

-- the whole text waits
pub all_waits : (t : List ℕ) (a : Option (List ℕ)) → Written t t a a
all_waits t None = tt
all_waits t (Some held) = ([], refl, ap Some (sym (append-nil held)))

-- nothing was said
pub nothing_said : (p : List ℕ) (a : Option (List ℕ)) → Written (p ++ []) p a a
nothing_said p a = subst (λ (z : List ℕ). Written z p a a) (sym (append-nil p)) (all_waits p a)
