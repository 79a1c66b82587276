use Rattle.std.proofs.Common.{ap, ◌∙◌, arith}
use Rattle.files_model.specs.declared.attributes.FileId.{FileId}
use Rattle.xdr_rpc.specs.Words.{words}
use Rattle.nfs2_wire.specs.Handles.{handle, handle_of}
use Rattle.nfs2_wire.proofs.Handles.{handle_again}
use Rattle.nfs2_wire.proofs.handle.bytes_from.Goals as goal

pub returns-clause-read_back : goal.returns-clause-read_back
unfolding handle_of words
returns-clause-read_back c =
    let file : FileId = record { ino = c.args.ino; generation = c.args.generation } in
    ap handle c.write_u32_into.ensures ∙ handle_again c.args.volume file (omega arith) (omega arith) (omega arith)
