-- Routers stand in ascending order in each world of a script.
use Rattle.std.proofs.Common.{ℕ, List, sym, subst}
use Rattle.std.specs.Prelude.{IfSome}
use Rattle.std.specs.List.Sorted.{IsStrictlySortedBy}
use Rattle.std.specs.Map.{keys_of}
use Rattle.std.specs.Cmp.Lexicographic.{nat_list_cmp_total}
use Rattle.std.proofs.lemmas.Map.{keys-set_value}
use Rattle.zr_id.specs.Zid.{is_named}
use Rattle.zr_graph.specs.Record.{IsAscending}
use Rattle.zr_msg.specs.declared.decl.Kind.TheVariants as k
use Rattle.zr_msg.specs.declared.msg.Msg.TheVariants as m
use Rattle.zr_script_spec.specs.declared.command.Act.{Act}
use Rattle.zr_script_spec.specs.declared.command.Act.TheVariants as a
use Rattle.zr_node_spec.specs.Table.{able_kind}
use Rattle.zr_script_spec.specs.declared.report.ReportLine.{ReportLine}
use Rattle.zr_world_spec.specs.World.{RouterState, Routers, WorldState, with_router, new_router}
use Rattle.zr_world_spec.specs.Acts.{outcome}
use Rattle.zr_world_spec.specs.Moments.{Numbered, Moment, beginning, went, reached}
use Rattle.zr_world_spec.proofs.Keyed.{sorted_insert}
use Rattle.zr_world_spec.proofs.Cases.{for_router, for_link, for_break, for_declare, for_undeclare, publish_says, get_says, reply_says, end_says, for_take, for_mark, for_show, interest_says, uninterest_says}
use Rattle.zr_law_settled.proofs.Told.{IsTold, for_client, for_up, for_down, for_handle}
use Rattle.zr_law_settled.proofs.Spreading.{Name}
use Rattle.zr_law_settled.proofs.Moments.{at_moments}

abbrev pub Ascend : Moment → Type 0
Ascend now = IsAscending (keys_of now.world.routers)

same_keys : (routers : Routers) (x : Name) (r : RouterState) → IsAscending (keys_of routers) → IsAscending (keys_of (with_router routers x r))
same_keys routers x r h = subst IsAscending (sym (keys-set_value (is_named x) routers r)) h

ascend_told : (w v : WorldState) (report : List ReportLine) → IsTold w v → IsAscending (keys_of w.routers) → IsAscending (keys_of v.routers)
ascend_told w v report t h = subst IsAscending (sym t.names) h

act_ascends : (now : Moment) → Ascend now → (n : ℕ) (act : Act) → IfSome (went now (outcome now.world n act)) Ascend
unfolding outcome
act_ascends now h n (a.Router id) = for_router now Ascend id (λ free room. sorted_insert nat_list_cmp_total now.world.routers id (new_router id) h)
act_ascends now h n (a.Client id router) = for_client now Ascend ascend_told n id router (λ r found free room taken. same_keys now.world.routers router _ h)
act_ascends now h n (a.Link one other weight) = for_link now Ascend one other weight (λ apart r found q found' new room. h)
act_ascends now h n (a.Up router name) = for_up now Ascend ascend_told n router name (λ r found there s at_end unbroken down taken. same_keys now.world.routers router _ h)
act_ascends now h n (a.Break router name) = for_break now Ascend router name (λ r found there s at_end unbroken. h)
act_ascends now h n (a.Down router name) = for_down now Ascend ascend_told n router name (λ r found there s at_end up cut l number taken. same_keys now.world.routers router _ h)
act_ascends now h n (a.Sub client id key) = for_declare now Ascend n client k.Sub id key (m.Sub id key) (λ s found fresh e at_end unbroken r there room. same_keys now.world.routers s.router _ h)
act_ascends now h n (a.Unsub client id) = for_undeclare now Ascend n client k.Sub id (m.Unsub id) (λ s found known e at_end unbroken. h)
act_ascends now h n (a.Token client id key) = for_declare now Ascend n client k.Token id key (m.Token id key) (λ s found fresh e at_end unbroken r there room. same_keys now.world.routers s.router _ h)
act_ascends now h n (a.Untoken client id) = for_undeclare now Ascend n client k.Token id (m.Untoken id) (λ s found known e at_end unbroken. h)
act_ascends now h n (a.Able client id key complete) =
    for_declare now Ascend n client (able_kind complete) id key (m.Able id key complete) (λ s found fresh e at_end unbroken r there room. same_keys now.world.routers s.router _ h)
act_ascends now h n (a.Unable client id) = for_undeclare now Ascend n client k.Able id (m.Unable id) (λ s found known e at_end unbroken. h)
act_ascends now h n (a.Interest client id mode kinds key aggregate) = interest_says now Ascend n client id mode kinds key aggregate (λ s found e at_end unbroken clients same. h)
    (λ s found e at_end unbroken r there room clients same. same_keys now.world.routers s.router _ h)
act_ascends now h n (a.Uninterest client id) = uninterest_says now Ascend n client id (λ s found e at_end unbroken clients same. h)
act_ascends now h n (a.Publish client content) = publish_says now Ascend n client content (λ s found e at_end unbroken clients same. h)
act_ascends now h n (a.Get client number target content) = get_says now Ascend n client number target content (λ s found e at_end unbroken clients same. h)
act_ascends now h n (a.Reply client number content) = reply_says now Ascend n client number content (λ s found e at_end unbroken clients same. h)
act_ascends now h n (a.End client number) = end_says now Ascend n client number (λ s found e at_end unbroken clients same. h)
act_ascends now h n (a.Handle router from) = for_handle now Ascend ascend_told router from (λ r found there s at_end up msg tag xs front l number taken. same_keys now.world.routers router _ h)
act_ascends now h n (a.Take router to) = for_take now Ascend router to (λ r found there s at_end up unbroken msg tag xs front. h)
act_ascends now h n a.Mark = for_mark now Ascend n (λ settled joined. h)
act_ascends now h n (a.Show router) = for_show now Ascend router (λ r found. h)

none_ascend : Ascend beginning
unfolding IsStrictlySortedBy
none_ascend = tt

pub routers_ascend : (acts : List Numbered) → IfSome (reached acts) Ascend
routers_ascend acts = at_moments Ascend (λ now n act h. act_ascends now h n act) none_ascend acts
