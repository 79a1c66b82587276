-- What a call of MOUNT does (docs/FORMATS.md, "MOUNT").
use Rattle.std.specs.Prelude.{ℕ, List, Option, Some, None, ◌==◌, if◌then◌else◌}
use Rattle.files_model.specs.declared.attributes.FileId.{FileId}
use Rattle.xdr_rpc.specs.declared.call.RpcCall.{RpcCall}
use Rattle.xdr_rpc.specs.declared.refusal.Cause.TheVariants.{Done, Garbage}
use Rattle.xdr_rpc.specs.Refusals.{refusal}
use Rattle.mount1.specs.declared.list.Row.{Row}
use Rattle.mount1.specs.Paths.{volume_named, below, path_arg}
use Rattle.mount1.specs.Rows.{Kept, mounted, unmounted, unmounted_all}
use Rattle.mount1.specs.Replies.{mount_bytes, dump_bytes, export_list_bytes}

-- ---- the rows after a call

abbrev pub after_mount : List ℕ → Option ℕ → List Row → List Row
after_mount machine None rows = rows
after_mount machine (Some volume) rows = mounted machine volume rows

abbrev pub after_unmount : List ℕ → Option ℕ → List Row → List Row
after_unmount machine None rows = rows
after_unmount machine (Some volume) rows = unmounted machine volume rows

-- MNT of a path that is open
abbrev pub mnt : Kept → List ℕ → Option (List ℕ) → List Row
mnt kept machine None = kept.rows
mnt kept machine (Some path) = after_mount machine (below kept.volumes (volume_named path)) kept.rows

abbrev pub umnt : Kept → List ℕ → Option (List ℕ) → List Row
umnt kept machine None = kept.rows
umnt kept machine (Some path) = after_unmount machine (volume_named path) kept.rows

-- by number: MNT 1, UMNT 3, UMNTALL 4
abbrev pub rows_after : Kept → RpcCall → List Row
rows_after kept c =
    if c.procedure == 1 then mnt kept c.machine (path_arg c.args)
    else if c.procedure == 3 then umnt kept c.machine (path_arg c.args)
    else if c.procedure == 4 then unmounted_all c.machine kept.rows
    else kept.rows

-- ---- the reply

abbrev pub mnt_reply : Kept → List FileId → ℕ → Option (List ℕ) → List ℕ
mnt_reply kept roots xid None = refusal xid Garbage
mnt_reply kept roots xid (Some path) = mount_bytes xid roots (below kept.volumes (volume_named path))

abbrev pub umnt_reply : ℕ → Option (List ℕ) → List ℕ
umnt_reply xid None = refusal xid Garbage
umnt_reply xid (Some path) = refusal xid Done

-- by number: MNT 1, DUMP 2, UMNT 3, UMNTALL 4, EXPORT 5
abbrev pub reply_to : Kept → List FileId → RpcCall → List ℕ
reply_to kept roots c =
    if c.procedure == 1 then mnt_reply kept roots c.xid (path_arg c.args)
    else if c.procedure == 2 then dump_bytes c.xid kept.rows
    else if c.procedure == 3 then umnt_reply c.xid (path_arg c.args)
    else if c.procedure == 5 then export_list_bytes c.xid kept.volumes
    else refusal c.xid Done
