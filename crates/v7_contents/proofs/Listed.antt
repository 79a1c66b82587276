-- The entries of a directory, slot by slot.
use Rattle.std.proofs.Common.{◌≡◌, ℕ, ◌+◌, ◌*◌, ◌/◌, ◌%◌, ◌<◌, ◌≤◌, List, [], ◌∷◌, ◌++◌, length, drop, get_or, Some, None, refl, sym, ap, ◌∙◌, arith, Bool, true, false, eqb, eq-eqb}
use Rattle.std.proofs.lemmas.List.{drop_more, drop_all, append-nil}
use Rattle.std.proofs.lemmas.List.FromFn.{length-map-range_with_len}
use Rattle.files_model.specs.declared.entries.Entry.{Entry}
use Rattle.files_model.specs.Files.{Slot}
use Rattle.files_model.specs.ReadingRows.{entries_from, taken, entry_bytes_of}
use Rattle.stable.specs.Store.{Image}
use Rattle.v7_layout.specs.declared.inode.Inode.{Inode}
use Rattle.v7_map.specs.Image.{sector_at}
use Rattle.v7_map.specs.Frame as frames
use Rattle.v7_dir.specs.Slots.{slot_in}
use Rattle.v7_entries.specs.Bodies.{HasBody, slots_at, block_at}
use Rattle.v7_entries.proofs.Directories.{slots_are, slot_is, slot_read}
use Rattle.v7_contents.specs.Answers.{entries_past}
use Rattle.v7_contents.specs.Listings.{IsListing}
use Rattle.v7_contents.specs.Pages.{IsOpen, IsFull, GoesOn, entry_of, with_entry, more_of}
use Rattle.v7_contents.specs.declared.listing.Listing.{Listing}
use Rattle.v7_contents.specs.declared.page.Page.{Page}

first_slot : (k : ℕ) (s : Slot) (rest : List Slot) → entries_from k (s ∷ rest) ≡ with_entry (entry_of k s) (entries_from (k + 1) rest)
first_slot k None rest = refl
first_slot k (Some e) rest = refl

-- one slot on
past_more : (slots : List Slot) (k : ℕ) → k < length slots → entries_past slots k ≡ with_entry (entry_of k (get_or slots k None)) (entries_past slots (k + 1))
past_more slots k lt = ap (entries_from k) (drop_more slots k None lt) ∙ first_slot k (get_or slots k None) (drop (k + 1) slots)

-- past the last slot
past_all : (slots : List Slot) (k : ℕ) → length slots ≤ k → entries_past slots k ≡ []
past_all slots k le = ap (entries_from k) (drop_all k slots le)

module _ (image : Image) (n : Inode) (has : HasBody image n) where
  count_is : length (slots_at image n) ≡ n.size / 16
  count_is = ap length (slots_are image n has) ∙ length-map-range_with_len _ 0 (n.size / 16)

  -- at or past the last slot no entry is left
  pub none_left : (k : ℕ) → n.size / 16 ≤ k → entries_past (slots_at image n) k ≡ []
  none_left k le = let count = count_is in past_all (slots_at image n) k (omega (arith, count, le))

  -- one slot on, by the bytes of its sector
  pub slot_more : (s : ℕ) (bytes : List ℕ) → bytes ≡ sector_at image (block_at image n s) → (k : ℕ) → 32 * s ≤ k → k < 32 * s + 32 → k < n.size / 16
      → entries_past (slots_at image n) k ≡ with_entry (entry_of k (slot_in bytes (k % 32))) (entries_past (slots_at image n) (k + 1))
  slot_more s bytes are k low high lt =
      let count = count_is in
      let whole : 32 * s + k % 32 ≡ k = omega (arith, low, high) in
      let small : k % 32 < 32 = omega arith in
      let there : get_or (slots_at image n) k None ≡ slot_in bytes (k % 32) =
      slot_read image n has k lt ∙ sym (ap (λ (b : List ℕ). slot_in b (k % 32)) are ∙ slot_is image n has s (k % 32) small ∙ ap (frames.slot_in image (frames.head_of n)) whole) in
      past_more (slots_at image n) k (omega (arith, count, lt)) ∙ ap (λ (o : Slot). with_entry (entry_of k o) (entries_past (slots_at image n) (k + 1))) there

  -- the slots of one sector
  pub sector_turn : (room : ℕ) (left : List Entry) (s from end : ℕ) (bytes : List ℕ) (before after : Page) (all : Bool) → bytes ≡ sector_at image (block_at image n s) → 32 * s ≤ from → end ≤ 32 * s + 32 → end ≤ n.size / 16
      → ((rest : ℕ → List Entry) → ((k : ℕ) → from ≤ k → k < end → rest k ≡ with_entry (entry_of k (slot_in bytes (k % 32))) (rest (k + 1))) → IsOpen room left before (rest from) → GoesOn all room left after (rest end))
      → IsOpen room left before (entries_past (slots_at image n) from) → GoesOn all room left after (entries_past (slots_at image n) end)
  sector_turn room left s from end bytes before after all are low high within goes before' =
      goes (entries_past (slots_at image n)) (λ k from' lt. slot_more s bytes are k (omega (arith, low, from')) (omega (arith, high, lt)) (omega (arith, within, lt))) before'

more_none : (list : List Entry) (room : ℕ) → more_of list room [] ≡ []
more_none [] room = refl
more_none (e ∷ list) room = refl

-- a page that leaves none is the listing
pub last_page : (count : ℕ) (left : List Entry) (page : Page) (rest : List Entry) (listing : Listing) → rest ≡ [] → listing ≡ record { list = page.list.items; end = true } → IsOpen (entry_bytes_of count) left page rest → IsListing left count listing
last_page count left page rest listing none is open' =
    let all : left ≡ page.list.items = open'.all ∙ ap (λ r. page.list.items ++ r) none ∙ append-nil page.list.items in
    let takes : taken (entry_bytes_of count) left ≡ page.list.items = open'.takes ∙ ap (λ r. page.list.items ++ more_of page.list.items page.room r) none ∙ ap (λ r. page.list.items ++ r) (more_none page.list.items page.room) ∙ append-nil page.list.items in
    record {
      list = ap (λ (l : Listing). l.list) is ∙ sym takes;
      end = ap (λ (l : Listing). l.end) is ∙ sym (ap (λ (l : Listing). eqb (length l.list) (length left)) is ∙ eq-eqb (length page.list.items) (length left) (ap length (sym all)));
    }

-- and so is a full one
pub full_page : (count : ℕ) (left : List Entry) (page : Page) (listing : Listing) → listing ≡ record { list = page.list.items; end = false } → IsFull (entry_bytes_of count) left page → IsListing left count listing
full_page count left page listing is full = record {
  list = ap (λ (l : Listing). l.list) is ∙ sym full.takes;
  end = ap (λ (l : Listing). l.end) is ∙ sym (ap (λ (l : Listing). eqb (length l.list) (length left)) is ∙ full.more);
}
