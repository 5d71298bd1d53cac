-- What a step makes of a parcel.
use Rattle.std.proofs.Common.{◌≡◌, ℕ, ◌+◌, false, List, length, Result, Ok, Err, subst, arith}
use Rattle.zr_id.specs.declared.link.LinkNo.{LinkNo}
use Rattle.zr_msg.specs.declared.msg.Msg.{Msg}
use Rattle.zr_port.specs.declared.entry.Entry.{Entry}
use Rattle.zr_port.specs.declared.error.DeliverError.{DeliverError}
use Rattle.zr_port.specs.Coming.{Looks, Sight}
use Rattle.zr_ring.specs.declared.parcel.Item.{Item}
use Rattle.zr_ring.specs.declared.parcel.Note.{Ghosts}
use Rattle.zr_glance.specs.Glance.{GlanceState}
use Rattle.zr_glance.specs.Pages.{pages}
use Rattle.zr_admin.specs.Answers.{all_answers, count_replies}
use Rattle.zr_admin.specs.Asked.{asked}
use Rattle.zr_admin.specs.Hearing.{heard}
use Rattle.zr_admin.specs.Inner.{Answers, AnswersAll, DeliversUpTo, Hears, Steps, TakesOne, inner_at}
use Rattle.zr_admin.specs.declared.asked.Asked.{Asked}
use Rattle.zr_admin.specs.declared.error.AdminError.{AdminError}
use Rattle.zr_admin.specs.declared.error.AdminError.TheVariants as error
use Rattle.zr_admin.specs.declared.error.Stepped.{Stepped}
use Rattle.zr_admin.specs.declared.error.Stepped.TheVariants.{Answered, Ended, Idle, Part}

module _ (link : LinkNo) (refuses : List Entry → Msg → DeliverError → Type 0) (glance_of : List Entry → GlanceState) (id : List ℕ) where
  pub due : (requests : List Asked) (messages rest : List Msg) (replies : ℕ) (old mid new : Sight) → Looks old mid → messages ≡ all_answers (pages id (glance_of mid.seen)) requests
      → DeliversUpTo link refuses messages rest mid new → length messages ≡ count_replies (pages id (glance_of mid.seen)) requests + length requests → replies + length requests ≡ length messages
      → Answers link refuses glance_of id requests rest replies old new
  due requests messages rest replies old mid new looked are delivered counted told = record {
    mid = mid;
    looked = looked;
    delivered = subst (λ ms. DeliversUpTo link refuses ms rest mid new) are delivered;
    count = omega (arith, counted, told);
  }

  pub heard_so : (r : Result Stepped AdminError) (requests : List Asked) (parcel kept kept' : List ℕ) (old new : Sight) → (heard kept parcel).part ≡ false → requests ≡ asked (heard kept parcel).whole
      → kept' ≡ (heard kept parcel).kept → AnswersAll link refuses glance_of id requests r old new → Hears link refuses glance_of id parcel kept r kept' old new
  heard_so (Ok Idle) requests parcel kept kept' old new whole are is h = absurd h
  heard_so (Ok Ended) requests parcel kept kept' old new whole are is h = absurd h
  heard_so (Ok Part) requests parcel kept kept' old new whole are is h = absurd h
  heard_so (Ok (Answered replies)) requests parcel kept kept' old new whole are is h =
      (whole, is, subst (λ rs. AnswersAll link refuses glance_of id rs (Ok (Answered replies)) old new) are h)
  heard_so (Err (error.Deliver e)) requests parcel kept kept' old new whole are is h =
      (whole, is, subst (λ rs. AnswersAll link refuses glance_of id rs (Err (error.Deliver e)) old new) are h)
  heard_so (Err error.NoMemory) requests parcel kept kept' old new whole are is h = h
  heard_so (Err (error.Up e)) requests parcel kept kept' old new whole are is h = absurd h

  module _ {N : Type 0} {g : Ghosts N} where
    pub stepped : (r : Result Stepped AdminError) (taken taken' : List (Item N g)) (kept kept' : List ℕ) (old new : Sight)
        → TakesOne taken taken' (λ parcel. Hears link refuses glance_of id parcel kept r kept' old new) → Steps link refuses glance_of id r (inner_at taken kept old) (inner_at taken' kept' new)
    stepped (Ok Idle) taken taken' kept kept' old new h = absurd h.is_so
    stepped (Ok Ended) taken taken' kept kept' old new h = absurd h.is_so
    stepped (Ok Part) taken taken' kept kept' old new h = h
    stepped (Ok (Answered replies)) taken taken' kept kept' old new h = h
    stepped (Err e) taken taken' kept kept' old new h = h
