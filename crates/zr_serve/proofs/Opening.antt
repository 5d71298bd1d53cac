-- What becomes of the administration space, return by return.
use Rattle.std.proofs.Common.{arith, ◌≡◌, ℕ, ◌+◌, ◌-◌, ◌^◌, ◌≤◌, Bool, true, false, List, [], Option, Some, None, Result, Ok, Err, refl, sym, ap, subst, ◌∙◌}
use Rattle.std.specs.Prelude.{OnOk, OnErr, IfErr, min}
use Rattle.zr_admin.specs.Inner.{IsOpened, IsUnopened}
use Rattle.zr_admin.specs.declared.error.AdminError.{AdminError}
use Rattle.zr_admin.specs.declared.error.AdminError.TheVariants as error
use Rattle.zr_id.specs.declared.link.LinkNo.{LinkNo}
use Rattle.zr_link_job.proofs.Starting.{tells_none}
use Rattle.zr_link_job.specs.Starts.{Tells}
use Rattle.zr_link_job.specs.declared.job.ServeJob.{ServeJob}
use Rattle.zr_link_job.specs.declared.job.ServeJob.TheVariants.{Inner}
use Rattle.zr_msg.specs.Peer.{PeerState}
use Rattle.zr_msg.specs.declared.msg.Msg.{Msg}
use Rattle.zr_outside.specs.Counts.{Rose}
use Rattle.zr_outside.specs.Told.{Appends, AppendsPrefix}
use Rattle.zr_outside.specs.declared.host.Call.{Call}
use Rattle.zr_outside.proofs.Appending.{appends_none}
use Rattle.zr_outside_crew.specs.Told.{with_last}
use Rattle.zr_port.specs.Coming.{Answering, Sight}
use Rattle.zr_port.specs.declared.entry.Entry.{Entry}
use Rattle.zr_port.specs.declared.error.DeliverError.{DeliverError}
use Rattle.zr_port.specs.declared.error.DownError.{DownError}
use Rattle.zr_port.specs.declared.error.UpError.{UpError}
use Rattle.zr_serve.specs.declared.end.ServeEnd.{ServeEnd}
use Rattle.zr_serve.specs.declared.end.ServeEnd.TheVariants as e
use Rattle.zr_serve.specs.Jobs.{LinksState, word, drawn}
use Rattle.zr_serve.specs.Lines.{refused_text}
use Rattle.zr_serve.specs.Moments.{moment}
use Rattle.zr_serve.specs.Serving.{EndsBefore, outputs}
use Rattle.zr_serve.specs.Space.{Space, Unasked, Unopened, Begins, IsToldOf, OpensSpace, RefusesSpace, handed, is_spent, past_space}

-- a count that stood still
same_count : (f g : ℕ) → f ≤ g → min (f + 0) (2 ^ 64 - 1) ≤ g
same_count f g le = omega arith

-- the crew has started the inner client
pub handed_on : (a b : Option (List ServeJob)) (f g : ℕ) (held : Option (List ℕ)) → b ≡ with_last Inner a → f ≤ g → (is_running : Bool) × IsToldOf (handed is_running) a b f g held held
handed_on None b f g held told later = (true, record { started = told; back = same_count f g later; said = appends_none held })
handed_on (Some jobs) b f g held told later = (true, record { started = told; back = same_count f g later; said = appends_none held })

-- it handed its job back, which was told
pub handed_back : (a b : Option (List ServeJob)) (f g : ℕ) (held held' : Option (List ℕ)) → b ≡ a → Rose f g → Appends refused_text held held'
    → (is_running : Bool) × IsToldOf (handed is_running) a b f g held held'
handed_back a b f g held held' same rose said = (false, record { started = subst (λ t. Tells [] a t) (sym same) (tells_none a); back = rose; said = said })

-- no space is asked for
pub begins_unasked : (admin : Bool) (Opened Refused : ℕ → Type 0) (calls : Option (List Call)) (told : Option (List ServeJob)) (faults : ℕ) (held : Option (List ℕ)) (l : LinksState)
    → admin ≡ false → (space : Space) × Begins admin Opened Refused space (moment calls told faults held l) (moment calls told faults held l)
begins_unasked admin Opened Refused calls told faults held l unasked = (
  Unasked,
  record {
    asked = sym unasked;
    because = tt;
    recorded = refl;
    told = record { started = tells_none told; back = same_count faults faults (omega arith); said = appends_none held };
    links_are = subst (λ b. l ≡ past_space b l) (sym unasked) refl;
  },
)

module _ (admin : Bool) (Opened Refused : ℕ → Type 0) (calls calls' : Option (List Call)) (told told' : Option (List ServeJob)) (faults faults' : ℕ) (held held' : Option (List ℕ)) where
  module _ (l m : LinksState) (w : ℕ) (asked : admin ≡ true) (same : calls' ≡ calls) (drew : w ≡ word l.words) (links : m ≡ drawn l) where
    past : m ≡ past_space admin l
    past = subst (λ b. m ≡ past_space b l) (sym asked) links

    -- its inner client was opened, and its job handed to the crew
    pub begins_handed : Opened w → (is_running : Bool) × IsToldOf (handed is_running) told told' faults faults' held held'
        → (space : Space) × Begins admin Opened Refused space (moment calls told faults held l) (moment calls' told' faults' held' m)
    begins_handed opened (true, is_told) =
        (handed true, record { asked = sym asked; because = subst Opened drew opened; recorded = same; told = is_told; links_are = past })
    begins_handed opened (false, is_told) =
        (handed false, record { asked = sym asked; because = subst Opened drew opened; recorded = same; told = is_told; links_are = past })

    -- it was refused
    pub begins_refused : Refused w → told' ≡ told → faults' ≡ faults → Appends refused_text held held'
        → (space : Space) × Begins admin Opened Refused space (moment calls told faults held l) (moment calls' told' faults' held' m)
    begins_refused refused same_told same_faults said = (
      Unopened,
      record {
        asked = sym asked;
        because = subst Refused drew refused;
        recorded = same;
        told = record {
          started = subst (λ t. Tells [] told t) (sym same_told) (tells_none told);
          back = same_count faults faults' (omega (arith, same_faults));
          said = said;
        };
        links_are = past;
      },
    )

module _ (admin : Bool) (calls calls' : Option (List Call)) (told told' : Option (List ServeJob)) (faults faults' : ℕ) (held held' : Option (List ℕ)) where
  -- the line that it isn't open could not be written
  pub ends_unsaid : (end : ServeEnd) (out : Option (List ℕ)) (errs errs' : ℕ) → admin ≡ true → calls' ≡ calls → end ≡ e.WriteFault → told' ≡ told → faults ≤ faults' → AppendsPrefix refused_text held held'
      → EndsBefore end admin calls calls' told told' faults faults' (outputs out held errs) (outputs out held' errs')
  ends_unsaid end out errs errs' asked same is same_told later part =
      subst (λ (x : ServeEnd). EndsBefore x admin calls calls' told told' faults faults' (outputs out held errs) (outputs out held' errs')) (sym is)
      (record { recorded = same; started = same_told; counted = later; unsaid = refl; tells = (asked, part) })

  -- memory ran out
  pub ends_spent : (out : Option (List ℕ)) (errs errs' : ℕ) → calls' ≡ calls → told' ≡ told → faults ≤ faults' → held' ≡ held
      → EndsBefore e.NoMemory admin calls calls' told told' faults faults' (outputs out held errs) (outputs out held' errs')
  ends_spent out errs errs' same same_told later quiet = record { recorded = same; started = same_told; counted = later; unsaid = refl; tells = quiet }

-- ---- by what starting it answers

pub ok_by : {A B : Type 0} (r : Result (Unit {0}) ServeEnd) → (A → B) → OnOk r A → OnOk r B
ok_by (Ok u) f it = f it
ok_by (Err x) f it = it

pub unsaid_by : {A B : Type 0} (r : Result (Unit {0}) ServeEnd) → (A → B) → OnErr r A → OnErr r B
unsaid_by (Ok u) f it = it
unsaid_by (Err x) f it = f it

-- its inner client was not started, and the line that tells so could not be written
pub ends_by : (r : Result (Unit {0}) ServeEnd) (admin : Bool) (calls calls' : Option (List Call)) (told told' : Option (List ServeJob)) (faults faults' : ℕ) (held held' : Option (List ℕ)) (errs errs' : ℕ)
    → admin ≡ true → calls' ≡ calls → OnErr r ((told' ≡ told) × (faults ≤ faults') × AppendsPrefix refused_text held held') → IfErr r (λ x. (x ≡ e.WriteFault) × Rose errs errs')
    → IfErr r (λ x. (out : Option (List ℕ)) → EndsBefore x admin calls calls' told told' faults faults' (outputs out held errs) (outputs out held' errs'))
ends_by (Ok u) admin calls calls' told told' faults faults' held held' errs errs' asked same unsaid why = unsaid
ends_by (Err x) admin calls calls' told told' faults faults' held held' errs errs' asked same unsaid why =
    λ out. ends_unsaid admin calls calls' told told' faults faults' held held' x out errs errs' asked same why.0 unsaid.0 unsaid.1 unsaid.2

abbrev failed : ServeEnd → Result (Unit {0}) ServeEnd
failed x = Err x

not_done : (x : ServeEnd) → failed x ≡ failed e.Done → x ≡ e.WriteFault → ⊥
not_done x it is = cc (it, is)

not_host : (x : ServeEnd) → failed x ≡ failed e.HostFault → x ≡ e.WriteFault → ⊥
not_host x it is = cc (it, is)

-- what fails is only a write
pub cause_by : (r : Result (Unit {0}) ServeEnd) (f g : ℕ) → IfErr r (λ x. (x ≡ e.WriteFault) × Rose f g)
    → (r ≡ Err e.Done → ⊥) × (r ≡ Err e.HostFault → ⊥) × (r ≡ Err e.WriteFault → Rose f g)
cause_by (Ok u) f g why = (λ it. cc it, λ it. cc it, λ it. absurd (cc it))
cause_by (Err x) f g why = (λ it. not_done x it why.0, λ it. not_host x it why.0, λ it. why.1)

-- ---- by what opening it answers

module _ {V : Type 0} (up : V → List Entry → PeerState → UpError → Type 0) (message : V → List Entry → LinkNo → Msg → DeliverError → Type 0)
    (down : V → List Entry → LinkNo → DownError → Type 0) (id : List ℕ) (word : ℕ) (v w : V) (old h m : List Entry) (port : w ≡ v) (split : h ≡ old) (none : m ≡ []) where
  abbrev first : Sight
  first = record { seen = h; mine = m }

  is_first : first ≡ record { seen = old; mine = [] }
  is_first = ap (λ (s : List Entry). record { seen = s; mine = m }) split ∙ ap (λ (s : List Entry). record { seen = old; mine = s }) none

  pub opens_space : (link : LinkNo) (new : Sight) → IsOpened (λ s p e. up w s p e) (λ s x e. message w s link x e) id word link (record { seen = h; mine = m }) new
      → OpensSpace (λ s p e. up v s p e) (λ s l x e. message v s l x e) old id word
  opens_space link new opened = (
    link,
    new,
    subst (λ p. IsOpened (λ s x e. up p s x e) (λ s x e. message p s link x e) id word link (record { seen = old; mine = [] }) new) port
        (subst (λ (s : Sight). IsOpened (λ s x e. up w s x e) (λ s x e. message w s link x e) id word link s new) is_first opened),
  )

  pub refuses_space : (called : V → Answering) (e : AdminError) (new : Sight) → is_spent e ≡ false
      → IsUnopened (λ s p x. up w s p x) (λ s l x y. message w s l x y) (λ s l x. down w s l x) (called w) id word e (record { seen = h; mine = m }) new
      → RefusesSpace (λ s p x. up v s p x) (λ s l x y. message v s l x y) (λ s l x. down v s l x) (called v) old id word
  refuses_space called e new not_spent unopened = (
    e,
    new,
    not_spent,
    subst (λ p. IsUnopened (λ s q x. up p s q x) (λ s l x y. message p s l x y) (λ s l x. down p s l x) (called p) id word e (record { seen = old; mine = [] }) new) port
        (subst (λ (s : Sight). IsUnopened (λ s q x. up w s q x) (λ s l x y. message w s l x y) (λ s l x. down w s l x) (called w) id word e s new) is_first unopened),
  )
