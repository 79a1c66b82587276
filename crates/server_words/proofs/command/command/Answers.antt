use Rattle.std.proofs.Common.{◌∙◌, ap₂}
use Rattle.std.proofs.lemmas.Result.{IfOk-weaker}
use Rattle.clap.specs.Simple.{with_rule}
use Rattle.server_words.proofs.command.command.Goals as goal

pub returns : goal.returns
returns c =
    let first = c.in_ok-arg.ensures.shape c.volume_arg.ensures.local ∙ ap₂ with_rule c.bare_command.ensures c.volume_arg.ensures.rule in
    let second = c.in_ok-arg-2.ensures.shape c.number_arg.ensures.local ∙ ap₂ with_rule first c.number_arg.ensures.rule in
    let third = c.in_ok-arg-3.ensures.shape c.number_arg-2.ensures.local ∙ ap₂ with_rule second c.number_arg-2.ensures.rule in
    let fourth = c.in_ok-arg-4.ensures.shape c.number_arg-3.ensures.local ∙ ap₂ with_rule third c.number_arg-3.ensures.rule in
    let fifth = c.in_ok-arg-5.ensures.shape c.flag_arg.ensures.local ∙ ap₂ with_rule fourth c.flag_arg.ensures.rule in
    IfOk-weaker c.arg-6.result _ _ (λ command added. added.shape c.flag_arg-2.ensures.local ∙ ap₂ with_rule fifth c.flag_arg-2.ensures.rule) c.arg-6.ensures
