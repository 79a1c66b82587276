use Rattle.std.proofs.Common.{arith, ◌≡◌, ◌∙◌, ◌==◌, ap}
use Rattle.files_model.specs.declared.attributes.Kind.TheVariants.{Regular, Directory, Link}
use Rattle.files_model.specs.Space.{usage}
use Rattle.v7_layout.specs.declared.super_block.Super.{Super}
use Rattle.v7_map.specs.View.{view}
use Rattle.v7_inspect.proofs.Tallies.{nodes_counted}
use Rattle.v7_inspect.proofs.ViewUsage.{blocks_are}
use Rattle.v7_inspect.proofs.inspection.seen_of.Goals as goal

pub returns : goal.returns
returns c = λ image is.
    let summed = c.sum_up-sum.ensures image is in
    let known = c.args.known.now in
    let used : c.sum_up-sum.result.used ≡ usage (view image) = summed.used_is in
    record {
      undamaged = is.undamaged;
      strong_only = summed.strong_only;
      strong_always = summed.strong_always;
      clean_is = ap (λ (s : Super). s.s_fmod == 0) is.super_is;
      files_are = c.count_kind.ensures ∙ nodes_counted image known is c.requires.counts Regular;
      directories_are = c.count_kind-2.ensures ∙ nodes_counted image known is c.requires.counts Directory;
      links_are = c.count_kind-3.ensures ∙ nodes_counted image known is c.requires.counts Link;
      used_is = used;
      free_is = (let b = blocks_are image in let start = ap (λ (s : Super). s.s_isize) is.super_is in let end = ap (λ (s : Super). s.s_fsize) is.super_is in let sat = c.saturating_sub-data.ensures in let free-is = c.saturating_sub.ensures in omega arith);
    }
