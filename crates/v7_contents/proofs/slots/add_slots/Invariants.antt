use Rattle.std.proofs.Common.{◌≡◌, ◌<◌, ◌≤◌, ℕ, ◌+◌, ◌%◌, List}
use Rattle.files_model.specs.declared.entries.Entry.{Entry}
use Rattle.v7_dir.specs.Slots.{slot_in}
use Rattle.v7_contents.specs.Pages.{IsOpen, FitsReply, entry_of, with_entry}
use Rattle.v7_contents.proofs.slots.add_slots.Given as goal

abbrev pub invariant-loop-slot : goal.invariant-loop-slot
invariant-loop-slot l = record {
  goes_on : (room : ℕ) (left : List Entry) (rest : ℕ → List Entry) → ((k : ℕ) → l.from ≤ k → k < l.end → rest k ≡ with_entry (entry_of k (slot_in l.bytes (k % 32))) (rest (k + 1))) → IsOpen room left l.fn.page (rest l.from) → IsOpen room left l.page (rest l.slot);
  fits : FitsReply l.fn.page → FitsReply l.page;
}
