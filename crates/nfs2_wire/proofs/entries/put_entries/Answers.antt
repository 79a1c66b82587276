use Rattle.std.proofs.Common.{◌++◌, ◌∷◌, []}
use Rattle.std.specs.List.{flat_map}
use Rattle.xdr_rpc.specs.Words.{words}
use Rattle.xdr_rpc.proofs.Sheets.{both_written, first_fits, second_fits}
use Rattle.nfs2_wire.specs.Replies.{flag, fine, entry_bytes, result_bytes}
use Rattle.nfs2_wire.proofs.entries.put_entries.Goals as goal

pub put_words-requires : goal.put_words-requires
unfolding result_bytes
put_words-requires c =
    let list = flat_map entry_bytes c.args.list.now in
    first_fits fine list c.args.sheet.now.room (first_fits (fine ++ list) (words (0 ∷ flag c.args.end ∷ [])) c.args.sheet.now.room c.requires)

pub put_list-requires : goal.put_list-requires
unfolding result_bytes
put_list-requires c =
    let list = flat_map entry_bytes c.args.list.now in
    rw c.list.ensures (second_fits c.args.sheet.now c.put_words.new.self fine list c.put_words.ensures (first_fits (fine ++ list) (words (0 ∷ flag c.args.end ∷ [])) c.args.sheet.now.room c.requires))

pub put_words-requires-2 : goal.put_words-requires-2
unfolding result_bytes
put_words-requires-2 c =
    let list = flat_map entry_bytes c.args.list.now in
    rw c.flag_number.ensures (second_fits c.args.sheet.now c.put_list.new.sheet (fine ++ list) (words (0 ∷ flag c.args.end ∷ []))
    (both_written c.args.sheet.now c.put_words.new.self c.put_list.new.sheet fine list c.put_words.ensures (rw c.list.ensures at c.put_list.ensures)) c.requires)

pub returns : goal.returns
unfolding result_bytes
returns c =
    let list = flat_map entry_bytes c.args.list.now in
    both_written c.args.sheet.now c.put_list.new.sheet c.put_words-2.new.self (fine ++ list) (words (0 ∷ flag c.args.end ∷ []))
    (both_written c.args.sheet.now c.put_words.new.self c.put_list.new.sheet fine list c.put_words.ensures (rw c.list.ensures at c.put_list.ensures))
    (rw c.flag_number.ensures at c.put_words-2.ensures)
