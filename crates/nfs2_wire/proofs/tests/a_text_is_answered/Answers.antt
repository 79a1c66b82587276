use Rattle.std.proofs.Common.{length, ap, arith}
use Rattle.files_model.specs.declared.reply.Reply.TheVariants as reply
use Rattle.nfs2_wire.proofs.Lengths.{length-bytes_of}
use Rattle.nfs2_wire.proofs.tests.a_text_is_answered.Goals as goal

pub write_reply-written-requires : goal.write_reply-written-requires
write_reply-written-requires g c =
    omega (arith, length-bytes_of 7 (reply.Text c.in_ok-copy.field-0) 0, ap length c.in_ok-copy.ensures, c.in_ok-new.ensures)
