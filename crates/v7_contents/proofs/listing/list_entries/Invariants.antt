use Rattle.std.proofs.Common.{◌*◌, min, max}
use Rattle.files_model.specs.ReadingRows.{entry_bytes_of}
use Rattle.stable.specs.Looked.{Looked}
use Rattle.v7_entries.specs.Bodies.{HasBody, slots_at}
use Rattle.v7_contents.specs.Answers.{entries_past}
use Rattle.v7_contents.specs.Pages.{IsOpen, FitsReply}
use Rattle.v7_contents.proofs.listing.list_entries.Given as goal

abbrev pub invariant-loop-index : goal.invariant-loop-index
invariant-loop-index g l =
    let S = g.S.Stable in
    record {
      page : S.tells → HasBody (S.image l.fn.store) l.inode → IsOpen (entry_bytes_of l.count) (entries_past (slots_at (S.image l.fn.store) l.inode) l.cookie) l.page (entries_past (slots_at (S.image l.fn.store) l.inode) (min l.slots (max l.cookie (32 * l.index))));
      fits : FitsReply l.page;
      looked : Looked S l.fn.store l.store;
    }
