-- How an outlet stands, step by step. Each lemma carries `Stands` over one step.
use Rattle.std.proofs.Common.{◌≡◌, ℕ, ◌≤◌, ◌<◌, List, [], ◌++◌, Option, Some, None, refl, sym, ap, subst, ◌∙◌, arith}
use Rattle.std.proofs.lemmas.List.{append-nil}
use Rattle.zr_frame_batch.specs.Framing.{framed}
use Rattle.zr_ring.specs.declared.parcel.Parcel.{Parcel}
use Rattle.zr_outside.specs.Counts.{Rose}
use Rattle.zr_outside.specs.Told.{Appends, AppendsPrefix}
use Rattle.zr_ring.specs.declared.parcel.Note.{Ghosts}
use Rattle.zr_ring.specs.declared.parcel.Item.{Item}
use Rattle.zr_ring.specs.Items.{end_of}
use Rattle.zr_link_writer.specs.declared.end.Stop.{Stop}
use Rattle.zr_link_writer.specs.declared.end.Stop.TheVariants as stops
use Rattle.zr_link_writer.specs.declared.end.WriterEnd.{WriterEnd}
use Rattle.zr_link_writer.specs.declared.end.WriterEnd.TheVariants as ends
use Rattle.zr_link_writer.specs.Ends.{end_of_stop}
use Rattle.zr_link_writer.specs.Parts.{close_bytes}
use Rattle.zr_link_writer.specs.Writing.{Carries, Writes, Goes, GoesOn, EndsIn}
use Rattle.zr_link_writer.specs.Outlet.{Stands, pending}
use Rattle.zr_link_writer.proofs.Going.{goes_first, goes_carried, goes_later, turns_part, writes_later}

module _ {N : Type 0} {g : Ghosts N} where
  -- nothing was taken yet
  pub stands_first : (all : List (Item N g)) (now : ℕ) (waiting : List ℕ) (held : Option (List ℕ)) (faults : ℕ) → all ≡ [] → waiting ≡ []
      → Stands None all now now now waiting held held faults faults
  stands_first all now waiting held faults none empty = (
    subst (λ a. Goes {N = N} {g = g} [] a now now waiting held held) (sym none)
        (subst (λ w. Goes {N = N} {g = g} [] [] now now w held held) (sym empty) (goes_first [] now now held (omega arith))),
    omega arith,
    refl,
  )

  -- a later moment was told
  pub stands_heard : (end : Option WriterEnd) (all : List (Item N g)) (start moment told told' : ℕ) (waiting : List ℕ) (held now : Option (List ℕ))
      (faults faults' : ℕ) → Stands end all start moment told waiting held now faults faults' → told ≤ told'
      → Stands end all start moment told' waiting held now faults faults'
  stands_heard None all start moment told told' waiting held now faults faults' s le = (s.0, omega (arith, s.1, le), s.2)
  stands_heard (Some (ends.Done reason)) all start moment told told' waiting held now faults faults' s le =
      (writes_later [] all start told told' (close_bytes (end_of all)) (λ text. Appends text held now) s.0 le, s.1, s.2)
  stands_heard (Some ends.WriteFault) all start moment told told' waiting held now faults faults' s le =
      (writes_later [] all start told told' (close_bytes (end_of all)) (λ text. AppendsPrefix text held now) s.0 le, s.1)
  stands_heard (Some ends.NoMemory) all start moment told told' waiting held now faults faults' s le =
      (writes_later [] all start told told' (close_bytes (end_of all)) (λ text. AppendsPrefix text held now) s.0 le, s.1)
  stands_heard (Some ends.Turns) all start moment told told' waiting held now faults faults' s le = s

  -- a step goes on
  pub stands_on : (was is : List (Item N g)) (start moment later told told' : ℕ) (waiting waiting' : List ℕ) (held now now' : Option (List ℕ))
      (faults before after : ℕ) → Stands None was start moment told waiting held now faults before
      → GoesOn was is moment later waiting waiting' now now' → later ≤ told' → after ≡ before
      → Stands None is start later told' waiting' held now' faults after
  stands_on was is start moment later told told' waiting waiting' held now now' faults before after s on le same =
      (on [] start held s.0, le, same ∙ s.2)

  -- the end was taken, and all was written
  pub stands_done : (was is : List (Item N g)) (start moment moment' told told' : ℕ) (waiting waiting' : List ℕ) (held now now' : Option (List ℕ))
      (faults before after : ℕ) (reason : Option ℕ) → Stands None was start moment told waiting held now faults before
      → EndsIn was is moment told' waiting now (λ first text. Appends text first now') → end_of is ≡ Some reason → after ≡ before
      → Stands (Some (ends.Done reason)) is start moment' told' waiting' held now' faults after
  stands_done was is start moment moment' told told' waiting waiting' held now now' faults before after reason s ends_in is_end same =
      (ends_in [] start held s.0, is_end, same ∙ s.2)

  -- a write failed
  pub stands_fault : (was is : List (Item N g)) (start moment moment' told told' : ℕ) (waiting waiting' : List ℕ) (held now now' : Option (List ℕ))
      (faults before after : ℕ) → Stands None was start moment told waiting held now faults before
      → EndsIn was is moment told' waiting now (λ first text. AppendsPrefix text first now') → Rose before after
      → Stands (Some ends.WriteFault) is start moment' told' waiting' held now' faults after
  stands_fault was is start moment moment' told told' waiting waiting' held now now' faults before after s ends_in rose =
      (ends_in [] start held s.0, subst (λ n. Rose n after) s.2 rose)

  -- a step stopped short of the end
  pub stands_stop : (stop : Stop) (was is : List (Item N g)) (start moment moment' told told' : ℕ) (waiting waiting' : List ℕ)
      (held now now' : Option (List ℕ)) (faults before after : ℕ) → Stands None was start moment told waiting held now faults before
      → EndsIn was is moment told' waiting now (λ first text. AppendsPrefix text first now') → (stop ≡ stops.Fault → Rose before after)
      → (stop ≡ stops.NoMemory → after ≡ before)
      → Stands (Some (end_of_stop stop)) is start moment' told' waiting' held now' faults after
  stands_stop stops.Fault was is start moment moment' told told' waiting waiting' held now now' faults before after s ends_in rose same =
      stands_fault was is start moment moment' told told' waiting waiting' held now now' faults before after s ends_in (rose refl)
  stands_stop stops.NoMemory was is start moment moment' told told' waiting waiting' held now now' faults before after s ends_in rose same =
      (ends_in [] start held s.0, same refl ∙ s.2)

-- ---- the same for an outlet's fields: it has not ended, and no parcel waits for room, or one does

not_rose : (before after : ℕ) → before ≤ after → ¬ (before < after) → after ≡ before
not_rose before after le never = grind arith

module _ {N : Type 0} {g : Ghosts N} where
  waits : (bytes : List ℕ) (next : Option (Parcel N g)) → next ≡ None → bytes ++ pending next ≡ bytes
  waits bytes None is = append-nil bytes
  waits bytes (Some p) is = absurd (cc is)

  awaits : (bytes : List ℕ) (next : Option (Parcel N g)) (p : Parcel N g) → next ≡ Some p → bytes ++ pending next ≡ bytes ++ framed p.bytes
  awaits bytes next p is = ap (λ n. bytes ++ pending n) is

  -- how it stands, where nothing has ended it and no parcel waits for room
  free : (end : Option WriterEnd) (next : Option (Parcel N g)) (all : List (Item N g)) (start moment told : ℕ) (bytes : List ℕ)
      (held now : Option (List ℕ)) (faults faults' : ℕ) → end ≡ None → next ≡ None
      → Stands end all start moment told (bytes ++ pending next) held now faults faults' → Stands None all start moment told bytes held now faults faults'
  free end next all start moment told bytes held now faults faults' e n s =
      subst (λ w. Stands None all start moment told w held now faults faults') (waits bytes next n)
      (subst (λ x. Stands x all start moment told (bytes ++ pending next) held now faults faults') e s)

  pub outlet_on : (end : Option WriterEnd) (next : Option (Parcel N g)) (was is : List (Item N g)) (start moment later told told' : ℕ)
      (bytes bytes' : List ℕ) (held now now' : Option (List ℕ)) (faults before after : ℕ) → end ≡ None → next ≡ None
      → GoesOn was is moment later bytes bytes' now now' → later ≤ told' → after ≡ before
      → Stands end was start moment told (bytes ++ pending next) held now faults before
      → Stands end is start later told' (bytes' ++ pending next) held now' faults after
  outlet_on end next was is start moment later told told' bytes bytes' held now now' faults before after e n on le same s =
      subst (λ x. Stands x is start later told' (bytes' ++ pending next) held now' faults after) (sym e)
      (subst (λ w. Stands None is start later told' w held now' faults after) (sym (waits bytes' next n))
      (stands_on was is start moment later told told' bytes bytes' held now now' faults before after
      (free end next was start moment told bytes held now faults before e n s) on le same))

  -- without waiting: no moment is told
  pub outlet_flushed : (end : Option WriterEnd) (next : Option (Parcel N g)) (was is : List (Item N g)) (start moment later told : ℕ)
      (bytes bytes' : List ℕ) (held now now' : Option (List ℕ)) (faults before after : ℕ) → end ≡ None → next ≡ None
      → GoesOn was is moment moment bytes bytes' now now' → later ≡ moment → after ≡ before
      → Stands end was start moment told (bytes ++ pending next) held now faults before
      → Stands end is start later told (bytes' ++ pending next) held now' faults after
  outlet_flushed end next was is start moment later told bytes bytes' held now now' faults before after e n on still same s =
      let f = free end next was start moment told bytes held now faults before e n s in
      subst (λ m. Stands end is start m told (bytes' ++ pending next) held now' faults after) (sym still)
      (outlet_on end next was is start moment moment told told bytes bytes' held now now' faults before after e n on f.1 same s)

  -- a parcel waits for room from now on
  pub outlet_apart : (end : Option WriterEnd) (next : Option (Parcel N g)) (p : Parcel N g) (was is : List (Item N g)) (start moment later told : ℕ)
      (bytes bytes' : List ℕ) (held now now' : Option (List ℕ)) (faults before after : ℕ) → end ≡ None → next ≡ None
      → GoesOn was is moment moment bytes (bytes' ++ framed p.bytes) now now' → later ≡ moment → after ≡ before
      → Stands end was start moment told (bytes ++ pending next) held now faults before
      → Stands end is start later told (bytes' ++ pending (Some p)) held now' faults after
  outlet_apart end next p was is start moment later told bytes bytes' held now now' faults before after e n on still same s =
      let f = free end next was start moment told bytes held now faults before e n s in
      subst (λ m. Stands end is start m told (bytes' ++ framed p.bytes) held now' faults after) (sym still)
      (subst (λ x. Stands x is start moment told (bytes' ++ framed p.bytes) held now' faults after) (sym e)
      (stands_on was is start moment moment told told bytes (bytes' ++ framed p.bytes) held now now' faults before after f on f.1 same))

  pub outlet_done : (end : Option WriterEnd) (next : Option (Parcel N g)) (was is : List (Item N g)) (start moment moment' told told' : ℕ)
      (bytes waiting' : List ℕ) (held now now' : Option (List ℕ)) (faults before after : ℕ) (reason : Option ℕ) → end ≡ None → next ≡ None
      → EndsIn was is moment told' bytes now (λ first text. Appends text first now') → end_of is ≡ Some reason → after ≡ before
      → Stands end was start moment told (bytes ++ pending next) held now faults before
      → Stands (Some (ends.Done reason)) is start moment' told' waiting' held now' faults after
  outlet_done end next was is start moment moment' told told' bytes waiting' held now now' faults before after reason e n ends_in is_end same s =
      stands_done was is start moment moment' told told' bytes waiting' held now now' faults before after reason
      (free end next was start moment told bytes held now faults before e n s) ends_in is_end same

  pub outlet_fault : (end : Option WriterEnd) (next : Option (Parcel N g)) (was is : List (Item N g)) (start moment moment' told : ℕ)
      (bytes waiting' : List ℕ) (held now now' : Option (List ℕ)) (faults before after : ℕ) → end ≡ None → next ≡ None
      → EndsIn was is moment moment bytes now (λ first text. AppendsPrefix text first now') → Rose before after
      → Stands end was start moment told (bytes ++ pending next) held now faults before
      → Stands (Some ends.WriteFault) is start moment' told waiting' held now' faults after
  outlet_fault end next was is start moment moment' told bytes waiting' held now now' faults before after e n ends_in rose s =
      let f = free end next was start moment told bytes held now faults before e n s in (
        writes_later [] is start moment told (close_bytes (end_of is)) (λ text. AppendsPrefix text held now') (ends_in [] start held f.0) f.1,
        subst (λ k. Rose k after) f.2 rose,
      )

  pub outlet_stop : (stop : Stop) (end : Option WriterEnd) (next : Option (Parcel N g)) (was is : List (Item N g)) (start moment moment' told told' : ℕ)
      (bytes waiting' : List ℕ) (held now now' : Option (List ℕ)) (faults before after : ℕ) → end ≡ None → next ≡ None
      → EndsIn was is moment told' bytes now (λ first text. AppendsPrefix text first now') → (stop ≡ stops.Fault → Rose before after)
      → (before < after → stop ≡ stops.Fault) → before ≤ after
      → Stands end was start moment told (bytes ++ pending next) held now faults before
      → Stands (Some (end_of_stop stop)) is start moment' told' waiting' held now' faults after
  outlet_stop stop end next was is start moment moment' told told' bytes waiting' held now now' faults before after e n ends_in rose only le s =
      stands_stop stop was is start moment moment' told told' bytes waiting' held now now' faults before after
      (free end next was start moment told bytes held now faults before e n s) ends_in rose
      (λ is_other. not_rose before after le (λ more. absurd (cc (sym (only more) ∙ is_other))))

  -- the parcel that waited for room was joined
  pub outlet_joined : (end : Option WriterEnd) (next next' : Option (Parcel N g)) (p : Parcel N g) (all : List (Item N g)) (start moment later told told' : ℕ)
      (bytes bytes' : List ℕ) (held now now' : Option (List ℕ)) (faults before after : ℕ) → end ≡ None → next ≡ Some p → next' ≡ None
      → Carries now now' bytes' (bytes ++ framed p.bytes) → moment ≤ later → later ≤ told' → after ≡ before
      → Stands end all start moment told (bytes ++ pending next) held now faults before
      → Stands end all start later told' (bytes' ++ pending next') held now' faults after
  outlet_joined end next next' p all start moment later told told' bytes bytes' held now now' faults before after e n n' more le le' same s =
      let f = subst (λ w. Stands None all start moment told w held now faults before) (awaits bytes next p n)
      (subst (λ x. Stands x all start moment told (bytes ++ pending next) held now faults before) e s) in
      subst (λ x. Stands x all start later told' (bytes' ++ pending next') held now' faults after) (sym e)
      (subst (λ w. Stands None all start later told' w held now' faults after) (sym (waits bytes' next' n')) (
        goes_later [] all start moment later bytes' held now'
            (goes_carried [] all start moment (bytes ++ framed p.bytes) bytes' held now now' f.0 more) le,
        le',
        same ∙ f.2,
      ))

  stopped : (stop : Stop) (all : List (Item N g)) (start moment' told' : ℕ) (waiting' : List ℕ) (held now' : Option (List ℕ))
      (faults before after : ℕ) → before ≡ faults → Writes [] all start told' (close_bytes (end_of all)) (λ text. AppendsPrefix text held now')
      → (stop ≡ stops.Fault → Rose before after) → (stop ≡ stops.NoMemory → after ≡ before)
      → Stands (Some (end_of_stop stop)) all start moment' told' waiting' held now' faults after
  stopped stops.Fault all start moment' told' waiting' held now' faults before after same w rose still = (w, subst (λ n. Rose n after) same (rose refl))
  stopped stops.NoMemory all start moment' told' waiting' held now' faults before after same w rose still = (w, still refl ∙ same)

  -- it wasn't: a write failed, or memory ran out
  pub outlet_unjoined : (stop : Stop) (end : Option WriterEnd) (next : Option (Parcel N g)) (p : Parcel N g) (all : List (Item N g))
      (start moment moment' told told' : ℕ) (bytes waiting' : List ℕ) (held now now' : Option (List ℕ)) (faults before after : ℕ) → end ≡ None
      → next ≡ Some p → AppendsPrefix (bytes ++ framed p.bytes) now now' → told ≤ told' → (stop ≡ stops.Fault → Rose before after)
      → (before < after → stop ≡ stops.Fault) → before ≤ after
      → Stands end all start moment told (bytes ++ pending next) held now faults before
      → Stands (Some (end_of_stop stop)) all start moment' told' waiting' held now' faults after
  outlet_unjoined stop end next p all start moment moment' told told' bytes waiting' held now now' faults before after e n part le rose only up s =
      let f = subst (λ w. Stands None all start moment told w held now faults before) (awaits bytes next p n)
      (subst (λ x. Stands x all start moment told (bytes ++ pending next) held now faults before) e s) in
      let ends_in : Writes [] all start told' (close_bytes (end_of all)) (λ text. AppendsPrefix text held now') =
      turns_part [] all start moment told' (bytes ++ framed p.bytes) (close_bytes (end_of all)) held now now' f.0 part (omega (arith, f.1, le)) in
      stopped stop all start moment' told' waiting' held now' faults before after f.2 ends_in rose
      (λ is_other. not_rose before after up (λ more. absurd (cc (sym (only more) ∙ is_other))))
