use Rattle.std.proofs.Common.{rules, arith, ◌≡◌, ◌≤◌, ◌<◌, ℕ, ◌+◌, ◌*◌, ◌/◌, min, max, Bool, List, refl, sym, subst, ◌∙◌}
use Rattle.files_model.specs.declared.entries.Entry.{Entry}
use Rattle.files_model.specs.ReadingRows.{entry_bytes_of}
use Rattle.stable.specs.Store.{Image}
use Rattle.stable.proofs.Looking.{looks_again}
use Rattle.v7_layout.specs.declared.inode.Inode.{Inode}
use Rattle.v7_map.specs.Image.{sector_at}
use Rattle.v7_map.proofs.Whole.{as_long}
use Rattle.v7_entries.specs.Bodies.{slots_at, block_at, body_at}
use Rattle.v7_entries.proofs.Directories.{at_sector}
use Rattle.v7_contents.specs.Answers.{entries_past}
use Rattle.v7_contents.specs.Pages.{IsOpen, GoesOn}
use Rattle.v7_contents.proofs.Listed.{none_left, sector_turn, last_page, full_page}
use Rattle.v7_contents.proofs.listing.list_entries.Goals as goal

pub returns-then-slots-cookie-clause-listed : goal.returns-then-slots-cookie-clause-listed
returns-then-slots-cookie-clause-listed g c = λ tells has.
    let image : Image = g.S.Stable.image c.args.store.now in
    let n : Inode = c.args.inode.now in
    let left : List Entry = entries_past (slots_at image n) c.args.cookie in
    let short = has.short in
    let past = c.if-slots-cookie.true in
    last_page c.args.count left c.in_ok-page.page left c.listing_of.result (none_left image n has c.args.cookie (omega (arith, c.min-slots.ensures, short, past))) c.listing_of.ensures (c.in_ok-page.ensures.open left)

pub returns-then-not-branch-clause-listed : goal.returns-then-not-branch-clause-listed
returns-then-not-branch-clause-listed g c = λ tells has.
    let S = g.S.Stable in
    let image : Image = S.image c.args.store.now in
    let n : Inode = c.args.inode.now in
    let s : ℕ = c.loop-index.index in
    let left : List Entry = entries_past (slots_at image n) c.args.cookie in
    let short = has.short in
    let before = c.if-slots-cookie.false in
    let low : c.args.cookie / 32 ≤ s = search rules in
    let slots : c.min-slots.result / 16 ≡ n.size / 16 = omega (arith, c.min-slots.ensures, short) in
    let below : 32 * s < n.size / 16 = omega (arith, c.loop-index-test.true, c.div_ceil-index-end.ensures, slots) in
    let size = (as_long S.sector_count g.met.S.Stable.clocked g.met.S.Stable.shape c.args.store.now tells).size in
    let are : c.in_ok-bytes.bytes ≡ sector_at image (block_at image n s) =
    at_sector (λ bytes. c.in_ok-bytes.bytes ≡ bytes) image (S.image c.loop-index.store) n c.in_ok-places.places s (body_at c.in_ok-places.places s) (S.sector_count c.loop-index.store) has (c.in_ok-places.ensures.places tells)
    below refl c.loop-index.invariant.looked.image (c.loop-index.invariant.looked.sectors ∙ sym size) (λ some within. c.in_ok-bytes.ensures.done tells some within) in
    let from : min (c.min-slots.result / 16) (max c.args.cookie (32 * s)) ≡ c.max-from.result = omega (arith, c.max-from.ensures, below, slots, before) in
    let open' : IsOpen (entry_bytes_of c.args.count) left c.loop-index.page (entries_past (slots_at image n) c.max-from.result) =
    subst (λ (k : ℕ). IsOpen (entry_bytes_of c.args.count) left c.loop-index.page (entries_past (slots_at image n) k)) from (c.loop-index.invariant.page tells has) in
    let turned = sector_turn image n has (entry_bytes_of c.args.count) left s c.max-from.result c.min-end.result c.in_ok-bytes.bytes c.loop-index.page c.add_slots.new.page c.in_ok-add_slots.field-0 are
    (omega (arith, c.max-from.ensures)) (omega (arith, c.min-end.ensures)) (omega (arith, c.min-end.ensures, slots)) (c.in_ok-add_slots.ensures.goes_on (entry_bytes_of c.args.count) left) open' in
    full_page c.args.count left c.add_slots.new.page c.listing_of-then-not-branch.result c.listing_of-then-not-branch.ensures
    (subst (λ (b : Bool). GoesOn b (entry_bytes_of c.args.count) left c.add_slots.new.page (entries_past (slots_at image n) c.min-end.result)) c.if-not-branch.true turned)

pub loop-index-preserved : goal.loop-index-preserved
loop-index-preserved g c =
    let S = g.S.Stable in
    record {
      page = λ tells has.
          let image : Image = S.image c.args.store.now in
          let n : Inode = c.args.inode.now in
          let s : ℕ = c.loop-index.index in
          let left : List Entry = entries_past (slots_at image n) c.args.cookie in
          let short = has.short in
          let before = c.if-slots-cookie.false in
          let low : c.args.cookie / 32 ≤ s = search rules in
          let slots : c.min-slots.result / 16 ≡ n.size / 16 = omega (arith, c.min-slots.ensures, short) in
          let below : 32 * s < n.size / 16 = omega (arith, c.loop-index-test.true, c.div_ceil-index-end.ensures, slots) in
          let size = (as_long S.sector_count g.met.S.Stable.clocked g.met.S.Stable.shape c.args.store.now tells).size in
          let are : c.in_ok-bytes.bytes ≡ sector_at image (block_at image n s) =
          at_sector (λ bytes. c.in_ok-bytes.bytes ≡ bytes) image (S.image c.loop-index.store) n c.in_ok-places.places s (body_at c.in_ok-places.places s) (S.sector_count c.loop-index.store) has (c.in_ok-places.ensures.places tells)
          below refl c.loop-index.invariant.looked.image (c.loop-index.invariant.looked.sectors ∙ sym size) (λ some within. c.in_ok-bytes.ensures.done tells some within) in
          let from : min (c.min-slots.result / 16) (max c.args.cookie (32 * s)) ≡ c.max-from.result = omega (arith, c.max-from.ensures, below, slots, before) in
          let open' : IsOpen (entry_bytes_of c.args.count) left c.loop-index.page (entries_past (slots_at image n) c.max-from.result) =
          subst (λ (k : ℕ). IsOpen (entry_bytes_of c.args.count) left c.loop-index.page (entries_past (slots_at image n) k)) from (c.loop-index.invariant.page tells has) in
          let turned = sector_turn image n has (entry_bytes_of c.args.count) left s c.max-from.result c.min-end.result c.in_ok-bytes.bytes c.loop-index.page c.add_slots.new.page c.in_ok-add_slots.field-0 are
          (omega (arith, c.max-from.ensures)) (omega (arith, c.min-end.ensures)) (omega (arith, c.min-end.ensures, slots)) (c.in_ok-add_slots.ensures.goes_on (entry_bytes_of c.args.count) left) open' in
          let next : c.min-end.result ≡ min (c.min-slots.result / 16) (max c.args.cookie (32 * (s + 1))) = omega (arith, c.min-end.ensures, low) in
          subst (λ (k : ℕ). IsOpen (entry_bytes_of c.args.count) left c.add_slots.new.page (entries_past (slots_at image n) k)) next
          (subst (λ (b : Bool). GoesOn b (entry_bytes_of c.args.count) left c.add_slots.new.page (entries_past (slots_at image n) c.min-end.result)) c.if-not-branch.false turned);
      fits = search rules;
      looked = looks_again S g.met.S.Stable.clocked c.loop-index.invariant.looked c.in_ok-bytes.ensures.looked;
    }

pub returns-clause-listed : goal.returns-clause-listed
returns-clause-listed g c = λ tells has.
    let image : Image = g.S.Stable.image c.args.store.now in
    let n : Inode = c.args.inode.now in
    let left : List Entry = entries_past (slots_at image n) c.args.cookie in
    let short = has.short in
    let slots : c.min-slots.result / 16 ≡ n.size / 16 = omega (arith, c.min-slots.ensures, short) in
    let at : ℕ = min (c.min-slots.result / 16) (max c.args.cookie (32 * c.loop-index.index)) in
    let end : n.size / 16 ≤ at = omega (arith, c.loop-index-test.false, c.div_ceil-index-end.ensures, slots) in
    last_page c.args.count left c.loop-index.page (entries_past (slots_at image n) at) c.listing_of-2.result (none_left image n has at end) c.listing_of-2.ensures (c.loop-index.invariant.page tells has)
