-- The calls on names, of one form.
use Rattle.std.proofs.Common.{◌≡◌, ℕ, true, List, refl}
use Rattle.std.specs.Prelude.{Result, Ok, Err, IfOk}
use Rattle.files_model.specs.declared.attributes.FileId.{FileId}
use Rattle.files_model.specs.declared.attributes.Sattr.{Sattr}
use Rattle.files_model.specs.declared.call.Call.{Call}
use Rattle.files_model.specs.declared.call.Call.TheVariants as call
use Rattle.files_model.specs.declared.credential.Cred.{Cred}
use Rattle.files_model.specs.declared.reply.Reply.{Reply}
use Rattle.files_model.specs.declared.reply.Reply.TheVariants as reply
use Rattle.files_model.specs.Files.{Files}
use Rattle.files_model.specs.Step.{is_change}
use Rattle.plan_name.specs.Created.{IsHandleReply}
use Rattle.plan_name.specs.Freeing.{IsDoneReply}
use Rattle.volume.specs.Applied.{HasForm}
use Rattle.volume.specs.Costs.{call_cost, most_puts}
use Rattle.plan_name.specs.Creating.{CanBePut}
use Rattle.plan_name.specs.declared.planned.Planned.{Planned}
use Rattle.volume.specs.Names.{CanBeDone, changes_names}

-- each of them changes files
pub is-change : (c : Call) → changes_names c ≡ true → is_change c ≡ true
is-change (call.Create dir name wanted) is = refl
is-change (call.Remove dir name) is = refl
is-change (call.Rmdir dir name) is = refl
is-change (call.Link file dir name) is = refl
is-change (call.Symlink dir name text wanted) is = refl
is-change (call.Rename from name to new_name) is = refl
is-change (call.Mkdir dir name wanted) is = refl
is-change _ is = absurd (cc)

-- and costs on all files what it costs at most
pub cost-is : (files : Files) (c : Call) (cred : Cred) (now : ℕ) → changes_names c ≡ true → call_cost files c cred now ≡ most_puts c
cost-is files (call.Create dir name wanted) cred now is = refl
cost-is files (call.Remove dir name) cred now is = refl
cost-is files (call.Rmdir dir name) cred now is = refl
cost-is files (call.Link file dir name) cred now is = refl
cost-is files (call.Symlink dir name text wanted) cred now is = refl
cost-is files (call.Rename from name to new_name) cred now is = refl
cost-is files (call.Mkdir dir name wanted) cred now is = refl
cost-is files _ cred now is = absurd (cc)

-- what can be put and has a form of the call's can be done
pub can_done : {E : Type 0} (sectors : ℕ) (c : Call) (P : Reply → Type 0) → ((r : Reply) → P r → HasForm c r) → (result : Result Planned E)
    → IfOk result (λ r. CanBePut sectors (most_puts c) r.plan.puts) → IfOk result (λ r. P r.reply) → IfOk result (CanBeDone sectors c)
can_done sectors c P form_of (Ok r) fits form = record { fits = fits; form = form_of r.reply form }
can_done sectors c P form_of (Err e) fits form = tt

-- ---- the forms of replies

pub create_form : (dir : FileId) (name : List ℕ) (wanted : Sattr) (r : Reply) → IsHandleReply r → HasForm (call.Create dir name wanted) r
create_form dir name wanted (reply.Refused status) is = tt
create_form dir name wanted (reply.Handle file attr) is = tt
create_form dir name wanted _ is = absurd is

pub remove_form : (dir : FileId) (name : List ℕ) (r : Reply) → IsDoneReply r → HasForm (call.Remove dir name) r
remove_form dir name (reply.Refused status) is = tt
remove_form dir name reply.Done is = tt
remove_form dir name _ is = absurd is

pub mkdir_form : (dir : FileId) (name : List ℕ) (wanted : Sattr) (r : Reply) → IsHandleReply r → HasForm (call.Mkdir dir name wanted) r
mkdir_form dir name wanted (reply.Refused status) is = tt
mkdir_form dir name wanted (reply.Handle file attr) is = tt
mkdir_form dir name wanted _ is = absurd is

pub rmdir_form : (dir : FileId) (name : List ℕ) (r : Reply) → IsDoneReply r → HasForm (call.Rmdir dir name) r
rmdir_form dir name (reply.Refused status) is = tt
rmdir_form dir name reply.Done is = tt
rmdir_form dir name _ is = absurd is

pub link_form : (file : FileId) (dir : FileId) (name : List ℕ) (r : Reply) → IsDoneReply r → HasForm (call.Link file dir name) r
link_form file dir name (reply.Refused status) is = tt
link_form file dir name reply.Done is = tt
link_form file dir name _ is = absurd is

pub symlink_form : (dir : FileId) (name : List ℕ) (text : List ℕ) (wanted : Sattr) (r : Reply) → IsDoneReply r → HasForm (call.Symlink dir name text wanted) r
symlink_form dir name text wanted (reply.Refused status) is = tt
symlink_form dir name text wanted reply.Done is = tt
symlink_form dir name text wanted _ is = absurd is

pub rename_form : (from : FileId) (name : List ℕ) (to : FileId) (new_name : List ℕ) (r : Reply) → IsDoneReply r → HasForm (call.Rename from name to new_name) r
rename_form from name to new_name (reply.Refused status) is = tt
rename_form from name to new_name reply.Done is = tt
rename_form from name to new_name _ is = absurd is
