-- A call that a datagram asks is on an open volume.
use Rattle.std.proofs.Common.{◌≡◌, ℕ, ◌<◌, Bool, true, false, cond, List, refl, sym, ap, ◌∙◌, subst, eqb, ltb, Option, Some, None, Result, Ok, Err, arith}
use Rattle.std.proofs.lemmas.Bool.{ltb-true}
use Rattle.files_model.specs.declared.attributes.FileId.{FileId}
use Rattle.files_model.specs.declared.call.Call.{Call}
use Rattle.files_model.specs.declared.call.Call.TheVariants as call
use Rattle.files_model.specs.declared.credential.Cred.{Cred}
use Rattle.xdr_rpc.specs.declared.call.RpcCall.{RpcCall}
use Rattle.xdr_rpc.specs.declared.tests_in_order.Unserved.TheVariants.{NoReply, Refused}
use Rattle.xdr_rpc.specs.Order.{Test, call_of}
use Rattle.xdr_rpc.specs.Tests.{◌>>=◌}
use Rattle.nfs2_wire.specs.declared.all_calls.NfsCall.{NfsCall}
use Rattle.nfs2_wire.specs.declared.all_calls.NfsCall.TheVariants as read
use Rattle.nfs2_wire.specs.declared.handle.Handle.{Handle}
use Rattle.nfs2_wire.specs.declared.on_volume.VolumeCall.{VolumeCall}
use Rattle.nfs2_wire.specs.declared.on_volume.Unread.{Unread}
use Rattle.nfs2_wire.specs.declared.on_volume.Unread.TheVariants.{Stale, Garbage}
use Rattle.nfs2_wire.specs.AllCalls.{readable, named_by, opened, on, read_of, nfs_call}
use Rattle.nfs2_wire.specs.AllCalls.{file_call, name_call, new_call, setattr_call, read_call, write_call, rename_call, link_call, symlink_call, readdir_call}
use Rattle.nfs2_wire.specs.Arguments.{getattr_args, read_args, write_args}
use Rattle.nfs2_wire.specs.Shapes.{set_args, name_args, new_args, rename_args, link_args, symlink_args, part_args}
use Rattle.nfs2_wire.specs.Handles.{handle, of_open, second}
use Rattle.datagrams.specs.declared.datagram.Datagram.{Datagram}
use Rattle.presto_rpc.specs.declared.control.Control.{Control}
use Rattle.presto_rpc.specs.declared.control.Control.TheVariants as asks
use Rattle.presto_rpc.specs.Controls.{control}
use Rattle.presto_rpc.specs.Replies.{answer_bytes}
use Rattle.datagrams.specs.declared.datagram.Datagram.TheVariants.{NoMeaning, Outside, Asks, Mount, Command, Status, Halt}
use Rattle.datagrams.specs.Meaning.{nfs_meaning, control_meaning, asked, meaning_of, meaning}

abbrev IsOpenResult : ℕ → Result VolumeCall Unread → Type 0
IsOpenResult volumes (Ok asked) = asked.volume < volumes
IsOpenResult volumes (Err why) = Unit {0}

abbrev IsOpenRead : ℕ → NfsCall → Type 0
IsOpenRead volumes (read.Call volume c) = volume < volumes
IsOpenRead volumes read.Stale = Unit {0}
IsOpenRead volumes read.Void = Unit {0}
IsOpenRead volumes read.Garbage = Unit {0}

abbrev pub IsOpenMeaning : ℕ → Datagram → Type 0
IsOpenMeaning volumes NoMeaning = Unit {0}
IsOpenMeaning volumes (Outside reply) = Unit {0}
IsOpenMeaning volumes (Asks xid volume cred c) = volume < volumes
IsOpenMeaning volumes (Mount rpc) = Unit {0}
IsOpenMeaning volumes (Command xid volume command) = volume < volumes
IsOpenMeaning volumes (Status xid volume) = volume < volumes
IsOpenMeaning volumes (Halt xid) = Unit {0}

-- ---- one procedure

read_result : (volumes : ℕ) (r : Result VolumeCall Unread) → IsOpenResult volumes r → IsOpenRead volumes (read_of r)
read_result volumes (Ok asked) h = h
read_result volumes (Err Stale) h = tt
read_result volumes (Err Garbage) h = tt

-- the handle names an open volume, if anything
module _ (volumes : ℕ) (f : Handle → FileId → Call) where
  on_open : (h : Handle) (b : Bool) → ltb h.volume volumes ≡ b → IsOpenResult volumes (named_by (cond b (Some h) None) >>= λ h. on h (f h))
  on_open h true lt = ltb-true h.volume volumes lt
  on_open h false ge = tt

  on_handle : (o : Option Handle) → IsOpenResult volumes (named_by (of_open volumes o) >>= λ h. on h (f h))
  on_handle None = tt
  on_handle (Some h) = on_open h (ltb h.volume volumes) refl

-- whatever the arguments are
one : {A : Type 0} (volumes : ℕ) (o : Option A) (g : A → List ℕ) (f : A → Handle → FileId → Call) → IsOpenRead volumes (read_of (readable o >>= λ a. opened volumes (g a) >>= λ h. on h (f a h)))
one volumes None g f = tt
one volumes (Some a) g f = read_result volumes _ (on_handle volumes (f a) (handle (g a)))

-- ---- all procedures

either : (volumes : ℕ) (b : Bool) (r s : NfsCall) → IsOpenRead volumes r → IsOpenRead volumes s → IsOpenRead volumes (cond b r s)
either volumes true r s p q = p
either volumes false r s p q = q

open_read : (procedure : ℕ) (bytes : List ℕ) (volumes : ℕ) → IsOpenRead volumes (nfs_call procedure bytes volumes)
unfolding nfs_call file_call name_call new_call setattr_call read_call write_call rename_call link_call symlink_call readdir_call
open_read procedure bytes volumes =
    either volumes (eqb procedure 1) _ _ (one volumes (getattr_args bytes) (λ a. a) (λ a h file. call.Getattr file))
    (either volumes (eqb procedure 2) _ _ (one volumes (set_args bytes) (λ a. a.0) (λ a h file. call.Setattr file a.1))
    (either volumes (eqb procedure 4) _ _ (one volumes (name_args bytes) (λ a. a.0) (λ a h dir. call.Lookup dir a.1))
    (either volumes (eqb procedure 5) _ _ (one volumes (getattr_args bytes) (λ a. a) (λ a h file. call.Readlink file))
    (either volumes (eqb procedure 6) _ _ (one volumes (read_args bytes) (λ a. a.0) (λ a h file. call.Read file a.1 a.2))
    (either volumes (eqb procedure 8) _ _ (one volumes (write_args bytes) (λ a. a.0) (λ a h file. call.Write file a.1 a.2))
    (either volumes (eqb procedure 9) _ _ (one volumes (new_args bytes) (λ a. a.0) (λ a h dir. call.Create dir a.1 a.2))
    (either volumes (eqb procedure 10) _ _ (one volumes (name_args bytes) (λ a. a.0) (λ a h dir. call.Remove dir a.1))
    (either volumes (eqb procedure 11) _ _ (one volumes (rename_args bytes) (λ a. a.0) (λ a h dir. call.Rename dir a.1 (second h.volume a.2) a.3))
    (either volumes (eqb procedure 12) _ _ (one volumes (link_args bytes) (λ a. a.0) (λ a h file. call.Link file (second h.volume a.1) a.2))
    (either volumes (eqb procedure 13) _ _ (one volumes (symlink_args bytes) (λ a. a.0) (λ a h dir. call.Symlink dir a.1 a.2 a.3))
    (either volumes (eqb procedure 14) _ _ (one volumes (new_args bytes) (λ a. a.0) (λ a h dir. call.Mkdir dir a.1 a.2))
    (either volumes (eqb procedure 15) _ _ (one volumes (name_args bytes) (λ a. a.0) (λ a h dir. call.Rmdir dir a.1))
    (either volumes (eqb procedure 16) _ _ (one volumes (part_args bytes) (λ a. a.0) (λ a h dir. call.Readdir dir a.1 a.2))
    (either volumes (eqb procedure 17) _ read.Void (one volumes (getattr_args bytes) (λ a. a) (λ a h file. call.Statfs file)) tt))))))))))))))

-- ---- what a datagram means

open_nfs : (volumes : ℕ) (rpc : RpcCall) (r : NfsCall) → IsOpenRead volumes r → IsOpenMeaning volumes (nfs_meaning rpc r)
open_nfs volumes rpc (read.Call volume c) h = h
open_nfs volumes rpc read.Stale h = tt
open_nfs volumes rpc read.Void h = tt
open_nfs volumes rpc read.Garbage h = tt

-- a control of an open volume
open_control_on : (volumes volume : ℕ) (d : Datagram) (reply : List ℕ) (b : Bool) → ltb volume volumes ≡ b → (volume < volumes → IsOpenMeaning volumes d) → IsOpenMeaning volumes (cond b d (Outside reply))
open_control_on volumes volume d reply true lt h = h (ltb-true volume volumes lt)
open_control_on volumes volume d reply false ge h = tt

open_control : (volumes xid : ℕ) (c : Control) → IsOpenMeaning volumes (control_meaning xid c volumes)
open_control volumes xid (asks.Command volume command) = open_control_on volumes volume (Command xid volume command) (answer_bytes xid 4 0) (ltb volume volumes) refl (λ lt. lt)
open_control volumes xid (asks.Status volume) = open_control_on volumes volume (Status xid volume) (answer_bytes xid 4 0) (ltb volume volumes) refl (λ lt. lt)
open_control volumes xid asks.Halt = tt
open_control volumes xid asks.Void = tt
open_control volumes xid asks.TooWeak = tt
open_control volumes xid asks.Garbage = tt

one_of : (volumes : ℕ) (b : Bool) (d e : Datagram) → IsOpenMeaning volumes d → IsOpenMeaning volumes e → IsOpenMeaning volumes (cond b d e)
one_of volumes true d e p q = p
one_of volumes false d e p q = q

open_asked : (volumes : ℕ) (rpc : RpcCall) → IsOpenMeaning volumes (asked rpc volumes)
unfolding asked
open_asked volumes rpc =
    one_of volumes (eqb rpc.program 100003) _ _ (open_nfs volumes rpc _ (open_read rpc.procedure rpc.args volumes))
    (one_of volumes (eqb rpc.program 100005) (Mount rpc) _ tt (open_control volumes rpc.xid (control rpc)))

open_of : (volumes : ℕ) (t : Test RpcCall) → IsOpenMeaning volumes (meaning_of t volumes)
open_of volumes (Ok rpc) = open_asked volumes rpc
open_of volumes (Err NoReply) = tt
open_of volumes (Err (Refused xid cause)) = tt

pub open_meaning : (bytes : List ℕ) (volumes : ℕ) (d : Datagram) → d ≡ meaning bytes volumes → IsOpenMeaning volumes d
unfolding meaning
open_meaning bytes volumes d is = subst (λ (m : Datagram). IsOpenMeaning volumes m) (sym is) (open_of volumes (call_of bytes))
