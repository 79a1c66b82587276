use Rattle.std.proofs.Common.{arith}
use Rattle.files_model.specs.declared.attributes.Attr.{Attr}
use Rattle.files_model.specs.declared.attributes.Kind.TheVariants.{Regular}
use Rattle.files_model.specs.declared.reply.Reply.TheVariants as reply
use Rattle.nfs2_wire.proofs.Lengths.{length-bytes_of}
use Rattle.nfs2_wire.proofs.tests.a_write_is_answered.Goals as goal

pub write_reply-reply-requires : goal.write_reply-reply-requires
write_reply-reply-requires g c =
    let attr : Attr = record { kind = Regular; mode = 420; nlink = 1; uid = 100; gid = 100; size = 1024; fileid = 3; atime = 1000; mtime = 2000; ctime = 2000 } in
    omega (arith, length-bytes_of 7 (reply.Attr attr) 0, c.in_ok-new.ensures)
