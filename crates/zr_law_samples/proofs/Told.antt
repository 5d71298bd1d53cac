-- What a report says a name was sent, report by report and line by line.
use Rattle.std.proofs.Common.{◌≡◌, ℕ, Bool, true, false, cond, List, [], ◌∷◌, ◌++◌, Some, None, refl, ap, ◌∙◌, append-nil}
use Rattle.std.specs.Prelude.{flat_map}
use Rattle.std.specs.List.{cons_option}
use Rattle.std.proofs.lemmas.Grind.{flat_map-append}
use Rattle.std.proofs.lemmas.List.Elements.{filter_map-append}
use Rattle.zr_id.specs.Zid.{is_named}
use Rattle.zr_msg.specs.declared.msg.Msg.{Msg}
use Rattle.zr_script_spec.specs.declared.report.ReportLine.{ReportLine}
use Rattle.zr_script_spec.specs.declared.report.ReportLine.TheVariants as line
use Rattle.zr_guarantee.specs.Sent.{Told, item_of, told_in, told_to, sent_to}

-- one report behind another
pub sent_append : (xs ys : List ReportLine) (d : List ℕ) → sent_to (xs ++ ys) d ≡ sent_to xs d ++ sent_to ys d
sent_append xs ys d = ap (flat_map (λ (x : Told). item_of x.msg x.tag)) (filter_map-append (told_in d) xs ys) ∙ flat_map-append (λ (x : Told). item_of x.msg x.tag) (told_to xs d) (told_to ys d)

-- a message that was taken for a neighbour
pub sent_taken : (router to : List ℕ) (msg : Msg) (tag : ℕ) (d : List ℕ) → sent_to (line.Taken router to msg tag ∷ []) d ≡ cond (is_named d to) (item_of msg tag) []
sent_taken router to msg tag d = by (is_named d to)
  where
    by : (b : Bool) → flat_map (λ (x : Told). item_of x.msg x.tag) (cons_option (cond b (Some (record { msg = msg; tag = tag })) None) []) ≡ cond b (item_of msg tag) []
    by true = append-nil (item_of msg tag)
    by false = refl
