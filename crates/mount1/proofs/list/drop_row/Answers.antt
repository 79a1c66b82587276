use Rattle.std.proofs.Common.{rules, not}
use Rattle.std.proofs.lemmas.Fn.{filter_same}
use Rattle.mount1.specs.Rows.{is_row}
use Rattle.mount1.proofs.Rows.{still}
use Rattle.mount1.proofs.list.drop_row.Goals as goal

pub returns-clause-value : goal.returns-clause-value
returns-clause-value c = filter_same _ (λ row. not (is_row c.args.machine.now c.args.volume row)) _ (λ x b f' k. search rules) _ _ c.retain.ensures.filtered

pub returns-clause-fit : goal.returns-clause-fit
returns-clause-fit c = still (λ row. not (is_row c.args.machine.now c.args.volume row)) _ _ (returns-clause-value c) c.requires
