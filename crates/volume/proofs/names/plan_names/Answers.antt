use Rattle.std.proofs.Common.{sym, subst, IfOk}
use Rattle.files_model.specs.declared.call.Call.{Call}
use Rattle.files_model.specs.declared.call.Call.TheVariants as call
use Rattle.plan_name.specs.Created.{IsHandleReply}
use Rattle.plan_name.specs.Freeing.{IsDoneReply}
use Rattle.volume.specs.Names.{CanBeDone}
use Rattle.volume.proofs.NamedCalls.{can_done, create_form, remove_form, mkdir_form, rmdir_form, link_form, symlink_form, rename_form}
use Rattle.volume.proofs.names.plan_names.Goals as goal

pub returns-in-Create-clause-can : goal.returns-in-Create-clause-can
returns-in-Create-clause-can g c =
    let sectors = g.S.Stable.sector_count c.args.store.now in
    let made = c.plan_create.ensures in
    subst (λ (k : Call). IfOk c.plan_create.result (CanBeDone sectors k)) (sym c.in-Create.is) (can_done sectors (call.Create c.in-Create.dir c.in-Create.name c.in-Create.set) IsHandleReply (create_form c.in-Create.dir c.in-Create.name c.in-Create.set) c.plan_create.result made.shape.fits made.shape.form)

pub returns-in-Remove-clause-can : goal.returns-in-Remove-clause-can
returns-in-Remove-clause-can g c =
    let sectors = g.S.Stable.sector_count c.args.store.now in
    let made = c.plan_remove.ensures in
    subst (λ (k : Call). IfOk c.plan_remove.result (CanBeDone sectors k)) (sym c.in-Remove.is) (can_done sectors (call.Remove c.in-Remove.dir c.in-Remove.name) IsDoneReply (remove_form c.in-Remove.dir c.in-Remove.name) c.plan_remove.result made.shape.fits made.shape.form)

pub returns-in-Rmdir-clause-can : goal.returns-in-Rmdir-clause-can
returns-in-Rmdir-clause-can g c =
    let sectors = g.S.Stable.sector_count c.args.store.now in
    let made = c.plan_rmdir.ensures in
    subst (λ (k : Call). IfOk c.plan_rmdir.result (CanBeDone sectors k)) (sym c.in-Rmdir.is) (can_done sectors (call.Rmdir c.in-Rmdir.dir c.in-Rmdir.name) IsDoneReply (rmdir_form c.in-Rmdir.dir c.in-Rmdir.name) c.plan_rmdir.result made.shape.fits made.shape.form)

pub returns-in-Mkdir-clause-can : goal.returns-in-Mkdir-clause-can
returns-in-Mkdir-clause-can g c =
    let sectors = g.S.Stable.sector_count c.args.store.now in
    let made = c.plan_mkdir.ensures in
    subst (λ (k : Call). IfOk c.plan_mkdir.result (CanBeDone sectors k)) (sym c.in-Mkdir.is) (can_done sectors (call.Mkdir c.in-Mkdir.dir c.in-Mkdir.name c.in-Mkdir.set) IsHandleReply (mkdir_form c.in-Mkdir.dir c.in-Mkdir.name c.in-Mkdir.set) c.plan_mkdir.result made.shape.fits made.shape.form)

pub returns-in-Link-clause-can : goal.returns-in-Link-clause-can
returns-in-Link-clause-can g c =
    let sectors = g.S.Stable.sector_count c.args.store.now in
    let made = c.plan_link.ensures in
    subst (λ (k : Call). IfOk c.plan_link.result (CanBeDone sectors k)) (sym c.in-Link.is) (can_done sectors (call.Link c.in-Link.file c.in-Link.dir c.in-Link.name) IsDoneReply (link_form c.in-Link.file c.in-Link.dir c.in-Link.name) c.plan_link.result made.shape.fits made.shape.form)

pub returns-in-Symlink-clause-can : goal.returns-in-Symlink-clause-can
returns-in-Symlink-clause-can g c =
    let sectors = g.S.Stable.sector_count c.args.store.now in
    let made = c.plan_symlink.ensures in
    subst (λ (k : Call). IfOk c.plan_symlink.result (CanBeDone sectors k)) (sym c.in-Symlink.is) (can_done sectors (call.Symlink c.in-Symlink.dir c.in-Symlink.name c.in-Symlink.text c.in-Symlink.set) IsDoneReply (symlink_form c.in-Symlink.dir c.in-Symlink.name c.in-Symlink.text c.in-Symlink.set) c.plan_symlink.result made.shape.fits made.shape.form)

pub returns-in-Rename-clause-can : goal.returns-in-Rename-clause-can
returns-in-Rename-clause-can g c =
    let sectors = g.S.Stable.sector_count c.args.store.now in
    let made = c.plan_rename.ensures in
    subst (λ (k : Call). IfOk c.plan_rename.result (CanBeDone sectors k)) (sym c.in-Rename.is) (can_done sectors (call.Rename c.in-Rename.from c.in-Rename.name c.in-Rename.to c.in-Rename.new_name) IsDoneReply (rename_form c.in-Rename.from c.in-Rename.name c.in-Rename.to c.in-Rename.new_name) c.plan_rename.result made.shape.fits made.shape.form)
