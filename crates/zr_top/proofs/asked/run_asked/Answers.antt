use Rattle.std.proofs.Common.{◌∙◌, inl, inr, sym, true≢false, arith}
use Rattle.zr_top.proofs.Branches.{net_plan_reads, not_answered, not_refused, serve_plan_asked, serve_plan_reads, write_or_host}
use Rattle.zr_top.proofs.asked.run_asked.Goals as goal

-- words with a plan are not answered, nor refused
pub returns-in-Ok-Net-clause-helped : goal.returns-in-Ok-Net-clause-helped
returns-in-Ok-Net-clause-helped g c h = absurd (not_answered _ _ c.in-Ok-Net.ensures.reads h)

pub returns-in-Ok-Serve-clause-helped : goal.returns-in-Ok-Serve-clause-helped
returns-in-Ok-Serve-clause-helped g c h = absurd (not_answered _ _ c.in-Ok-Serve.ensures.reads h)

pub returns-in-Ok-Serve-clause-words : goal.returns-in-Ok-Serve-clause-words
returns-in-Ok-Serve-clause-words g c = (
  λ it. absurd (c.serve.ensures.none it),
  λ r. absurd (not_refused _ _ c.in-Ok-Serve.ensures.reads r),
)

pub returns-in-Ok-Make-clause-words : goal.returns-in-Ok-Make-clause-words
returns-in-Ok-Make-clause-words g c = (
  λ it. absurd (c.make_script.ensures.none it),
  λ r. absurd (not_refused _ _ c.in-Ok-Make.ensures.reads r),
)

-- the input is read by `net`, and by `serve` where rules are asked for
pub returns-in-Ok-Net-clause-unread : goal.returns-in-Ok-Net-clause-unread
returns-in-Ok-Net-clause-unread g c none = absurd (true≢false (sym (net_plan_reads _ _ _ c.in-Ok-Net.ensures.net c.in-Ok-Net.field-0-is) ∙ none))

pub returns-in-Ok-Net-clause-refused : goal.returns-in-Ok-Net-clause-refused
returns-in-Ok-Net-clause-refused g c it = net_plan_reads _ _ _ c.in-Ok-Net.ensures.net c.in-Ok-Net.field-0-is

pub returns-in-Ok-Serve-clause-unread : goal.returns-in-Ok-Serve-clause-unread
returns-in-Ok-Serve-clause-unread g c none =
    c.serve.ensures.unread (sym (serve_plan_reads _ _ _ c.in-Ok-Serve.ensures.net c.in-Ok-Serve.ensures.serve c.in-Ok-Serve.field-0-is) ∙ none)

pub returns-in-Ok-Serve-clause-refused : goal.returns-in-Ok-Serve-clause-refused
returns-in-Ok-Serve-clause-refused g c it =
    serve_plan_reads _ _ _ c.in-Ok-Serve.ensures.net c.in-Ok-Serve.ensures.serve c.in-Ok-Serve.field-0-is ∙ (c.serve.ensures.refused it).0

-- a write that failed is told as that, beside wrong words as these, or behind a host that failed as that
pub returns-in-Ok-Net-clause-write_told : goal.returns-in-Ok-Net-clause-write_told
returns-in-Ok-Net-clause-write_told g c = (c.read_script.ensures.only_write.0, λ rose. inl (c.read_script.ensures.only_write.1 rose))

pub returns-in-Ok-Serve-clause-write_told : goal.returns-in-Ok-Serve-clause-write_told
returns-in-Ok-Serve-clause-write_told g c = (
  c.serve.ensures.write_told.0,
  λ rose. write_or_host _ _ (serve_plan_asked _ _ _ c.in-Ok-Serve.ensures.serve c.in-Ok-Serve.field-0-is) (c.serve.ensures.write_told.1 rose),
)

pub returns-in-Ok-Make-clause-write_told : goal.returns-in-Ok-Make-clause-write_told
returns-in-Ok-Make-clause-write_told g c = (c.make_script.ensures.only, λ rose. absurd (omega (arith, rose)))

pub returns-in-Err-Told-clause-write_told : goal.returns-in-Err-Told-clause-write_told
returns-in-Err-Told-clause-write_told g c = (c.tell.ensures.only, λ rose. absurd (omega (arith, rose)))

pub returns-in-Err-Wrong-clause-write_told : goal.returns-in-Err-Wrong-clause-write_told
returns-in-Err-Wrong-clause-write_told g c = (λ rose. absurd (omega (arith, rose)), λ rose. inr (inl c.usage.ensures.words))

pub returns-in-Err-NoMemory-clause-write_told : goal.returns-in-Err-NoMemory-clause-write_told
returns-in-Err-NoMemory-clause-write_told g c = (λ rose. absurd (omega (arith, rose)), λ rose. absurd (omega (arith, rose)))
