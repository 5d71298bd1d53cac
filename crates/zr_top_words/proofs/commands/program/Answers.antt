use Rattle.std.proofs.Common.{◌∙◌, ap, refl, true}
use Rattle.std.proofs.lemmas.Result.{IfOk-weaker}
use Rattle.clap.specs.Simple.{app_of_fields, on_top}
use Rattle.zr_top_words.specs.App.{app}
use Rattle.zr_top_words.proofs.Rows.{adds_command}
use Rattle.zr_top_words.proofs.commands.program.Goals as goal

pub returns : goal.returns
unfolding app
returns c =
    let named = ap app_of_fields c.in_ok-bin_name.ensures.0 ∙ c.new.ensures.app in
    let told = ap app_of_fields c.about.ensures ∙ named in
    let versioned = ap app_of_fields c.version.ensures ∙ ap (on_top (λ s. record s { has_version = true })) told in
    let bare = ap app_of_fields c.no_binary_name.ensures ∙ ap (on_top (λ s. record s { no_binary_name = true })) versioned in
    let wanting = ap app_of_fields c.subcommand_required.ensures ∙ ap (on_top (λ s. record s { subcommand_required = true })) bare in
    let one = adds_command c.in_ok-subcommand.ensures wanting c.in_ok-net.ensures refl in
    let two = adds_command c.in_ok-subcommand-2.ensures one c.in_ok-serve.ensures refl in
    IfOk-weaker c.subcommand-3.result _ _ (λ r h. adds_command h two c.in_ok-make.ensures refl) c.subcommand-3.ensures
