use Rattle.std.proofs.Common.{◌≡◌, List, [], ◌∷◌, ◌++◌, true, length, ap, ◌∙◌, arith}
use Rattle.files_model.specs.declared.entries.Entry.{Entry}
use Rattle.files_model.specs.declared.reply.Reply.TheVariants as reply
use Rattle.nfs2_wire.proofs.Lengths.{length-bytes_of, length-entry_bytes}
use Rattle.nfs2_wire.proofs.tests.an_entry_is_answered.Goals as goal

pub write_reply-written-requires : goal.write_reply-written-requires
write_reply-written-requires g c =
    let entry : Entry = record { fileid = 3; name = c.copy.result; cookie = 1 } in
    let one : c.new.result ≡ entry ∷ [] = c.new.ensures ∙ c.in_ok-push.ensures.items ∙ ap (λ (list : List Entry). list ++ entry ∷ []) c.new-list.ensures.items in
    rw one (omega (arith, length-bytes_of 7 (reply.Entries (entry ∷ []) true) 0, length-entry_bytes entry, ap length c.copy.ensures, c.in_ok-new.ensures))
