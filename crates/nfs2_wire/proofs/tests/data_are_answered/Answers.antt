use Rattle.std.proofs.Common.{length, ap, arith}
use Rattle.files_model.specs.declared.attributes.Attr.{Attr}
use Rattle.files_model.specs.declared.attributes.Kind.TheVariants.{Regular}
use Rattle.files_model.specs.declared.reply.Reply.TheVariants as reply
use Rattle.nfs2_wire.proofs.Lengths.{length-bytes_of}
use Rattle.nfs2_wire.proofs.tests.data_are_answered.Goals as goal

pub write_reply-written-requires : goal.write_reply-written-requires
write_reply-written-requires g c =
    let attr : Attr = record { kind = Regular; mode = 420; nlink = 1; uid = 100; gid = 100; size = 1024; fileid = 3; atime = 1000; mtime = 2000; ctime = 2000 } in
    omega (arith, length-bytes_of 7 (reply.Data attr c.in_ok-copy.field-0) 0, ap length c.in_ok-copy.ensures, c.in_ok-new.ensures)
