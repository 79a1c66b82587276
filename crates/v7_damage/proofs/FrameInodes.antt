-- The inodes that the frame of an image has, and the tables of them.
use Rattle.std.proofs.Common.{◌≡◌, ℕ, ◌+◌, ◌/◌, ◌<◌, ◌≤◌, Bool, true, false, cond, ◌&&◌, ◌==◌, List, [], ◌∷◌, ◌++◌, length, get_or, refl, sym, ap, subst, ◌∙◌, arith, ⊎_elim, leb}
use Rattle.std.proofs.lemmas.Bool.{cases_lt, le-leb, lt-leb}
use Rattle.std.proofs.lemmas.List.{get_or_push, get_or_append_left, length_push}
use Rattle.stable.specs.Store.{Image}
use Rattle.v7_layout.specs.declared.inode.Inode.{Inode}
use Rattle.v7_layout.specs.Numbers.{part, field}
use Rattle.v7_layout.specs.Records.{inode_of}
use Rattle.v7_map.specs.Image.{sector_at, inode_sector, inode_offset, is_inode, inode_at, inodes_before, isize_of}
use Rattle.v7_map.specs.Frame.{Frame, Head, Body, head_of, address_of, frame, is_directory}
use Rattle.v7_map.specs.Damage.{place_at}
use Rattle.v7_read.proofs.Listings.{free_places}
use Rattle.v7_damage.specs.declared.bodies.Bodies.{Bodies}
use Rattle.v7_damage.specs.Tables.{AreBodies, HasBody, HasTables, IsFirst, IsNext, block_kept, slots_in_size, slots_kept, start_kept}
use Rattle.v7_damage.specs.Summaries.{summary_at}
use Rattle.v7_damage.specs.declared.summary.Summary.{Summary}
use Rattle.v7_damage.proofs.Summing.{summaries_first, summaries_more}
use Rattle.v7_damage.specs.Tests.{HasInode, HasNumbers}

-- what stands in its sector is the image's inode
pub inode-read : (image : Image) (i : ℕ) (sector : List ℕ) (inode : Inode) → is_inode image i ≡ true → sector ≡ sector_at image (inode_sector i)
    → inode ≡ inode_of (part sector (inode_offset i) 64) → inode ≡ inode_at image i
unfolding inode_at
inode-read image i sector inode is from read = read ∙ ap (λ s. inode_of (part s (inode_offset i) 64)) from
    ∙ sym (ap (λ b. cond b (inode_of (part (sector_at image (inode_sector i)) (inode_offset i) 64)) (inode_of [])) is)

-- what was read is the frame's inode
pub has_inode : (image : Image) (isize fsize inodes : ℕ) → HasNumbers image isize fsize inodes → (i : ℕ) (n : Inode) (places : List ℕ) → n ≡ inode_at image i
    → ((k : ℕ) → k < 140 → get_or places k 0 ≡ address_of image (head_of n) (place_at k)) → HasInode (frame image) i isize fsize n places
unfolding frame
has_inode image isize fsize inodes has i n places is blocks = record {
  starts = has.starts;
  ends = has.ends;
  head = ap head_of (sym is);
  none = λ k free. ap (λ (m : Inode). address_of image (head_of m) (place_at k)) (sym is) ∙ free_places image n k free;
  blocks = λ k lt. ap (λ (m : Inode). address_of image (head_of m) (place_at k)) (sym is) ∙ sym (blocks k lt);
}

and_true : (a b : Bool) → a ≡ true → b ≡ true → (a && b) ≡ true
and_true true b e h = h
and_true false b e h = absurd (cc)

and_false : (a b : Bool) → b ≡ false → (a && b) ≡ false
and_false true b e = e
and_false false b e = refl

pub is_numbered : (image : Image) (isize fsize inodes : ℕ) → HasNumbers image isize fsize inodes → (i : ℕ) → 1 ≤ i → i < inodes + 1 → is_inode image i ≡ true
is_numbered image isize fsize inodes has i low high =
    let count = has.count in
    let starts = has.starts in
    and_true (leb 1 i) (leb i (inodes_before (isize_of image))) (le-leb 1 i low) (le-leb i _ (omega arith))

pub past_numbers : (image : Image) (isize fsize inodes : ℕ) → HasNumbers image isize fsize inodes → (i : ℕ) → inodes < i → is_inode image i ≡ false
past_numbers image isize fsize inodes has i high =
    let count = has.count in
    let starts = has.starts in
    and_false (leb 1 i) (leb i (inodes_before (isize_of image))) (lt-leb i (inodes_before (isize_of image)) (omega arith))

-- what is no inode's number has no type
pub no_type : (image : Image) (i : ℕ) → is_inode image i ≡ false → ((frame image).head i).type ≡ 0
unfolding frame inode_at inode_of field part
no_type image i e = ap (λ b. (cond b (inode_of (part (sector_at image (inode_sector i)) (inode_offset i) 64)) (inode_of [])).mode / 4096) e

-- one type more
pub types_more : (f : Frame) (types : List ℕ) (ino type : ℕ) → length types ≡ ino → ((i : ℕ) → i < ino → get_or types i 0 ≡ (f.head i).type) → type ≡ (f.head ino).type → (k : ℕ) → k < ino + 1
    → get_or (types ++ type ∷ []) k 0 ≡ (f.head k).type
types_more f types ino type long was is k lt = ⊎_elim
    (λ (before : k < ino). get_or_append_left types (type ∷ []) 0 k (omega arith) ∙ was k before)
    (λ (here : ino ≤ k). let same : k ≡ ino = omega arith in get_or_push types type 0 k (omega arith) ∙ is ∙ ap (λ j. (f.head j).type) (sym same))
    (cases_lt k ino)

-- ---- the tables

-- before the first inode
pub bodies_first : (image : Image) (bodies : Bodies) → is_inode image 0 ≡ false → AreBodies image bodies 1
bodies_first image bodies none = record {
  each = λ i lt dir. let zero : i ≡ 0 = omega arith in
      let no : is_directory ((frame image).head 0) ≡ false = ap (λ t. t == 4) (no_type image 0 none) in
      let clash : true ≡ false = sym (subst (λ j. is_directory ((frame image).head j) ≡ true) zero dir) ∙ no in absurd (cc);
  summed = summaries_first image bodies.summaries.items;
}

pub tables_first : (types : List ℕ) (bodies : Bodies) → types ≡ 0 ∷ [] → IsFirst bodies → HasTables 1 types bodies
tables_first types bodies one is = record {
  long = ap length one;
  none = ap (λ l. get_or l 0 0) one;
  summaries = is.summaries;
  slots = is.slots;
  starts = is.starts;
  blocks = let e : length bodies.blocks.items ≡ 0 = ap length is.blocks in omega arith;
}

-- one inode more
module _ (n : ℕ) (types types' : List ℕ) (old new : Bodies) (type count : ℕ) (at : ℕ → ℕ) (summary : Summary) (was : HasTables n types old) (some : 1 ≤ n) (pushed : types' ≡ types ++ type ∷ [])
    (next : IsNext old new count at summary) where
  pub tables_more : HasTables (n + 1) types' new
  tables_more = record {
    long = ap length pushed ∙ length_push types type ∙ ap (λ m. m + 1) was.long;
    none = let long = was.long in ap (λ l. get_or l 0 0) pushed ∙ get_or_append_left types (type ∷ []) 0 0 (omega arith) ∙ was.none;
    summaries = ap length next.summaries ∙ length_push old.summaries.items summary ∙ ap (λ m. m + 1) was.summaries;
    slots = ap length next.slots ∙ length_push old.slots.items count ∙ ap (λ m. m + 1) was.slots;
    starts = next.starts ∙ ap (λ m. m + 1) was.starts;
    blocks = next.few;
  }

  module _ (image : Image) where
    -- a directory that was there
    body_before : (i : ℕ) → i < n → HasBody image old i → HasBody image new i
    body_before i lt has =
        let long = was.slots in let wide = was.starts in let longer = next.longer in
        let start : start_kept new i ≡ start_kept old i = next.starts_before i (omega arith) in
        record {
          slots = ap (λ l. get_or l i 0) next.slots ∙ get_or_append_left old.slots.items (count ∷ []) 0 i (omega arith) ∙ has.slots;
          within = λ kept. let within = has.within (λ e. kept (start ∙ e)) in omega arith;
          blocks = λ kept k below.
              let within = has.within (λ e. kept (start ∙ e)) in
              ap (λ s. get_or new.blocks.items (s + k) 0) start ∙ next.blocks_before (start_kept old i + k) (omega arith) ∙ has.blocks (λ e. kept (start ∙ e)) k below;
        }

    -- this one, if it is a directory
    module _ (here : is_directory ((frame image).head n) ≡ true → (count ≡ slots_in_size ((frame image).head n).size) × ((k : ℕ) → k < 138 → at k ≡ (frame image).address n (Body k))) where
      body_here : is_directory ((frame image).head n) ≡ true → HasBody image new n
      body_here dir =
          let long = was.slots in let wide = was.starts in
          let kept = (here dir).0 in
          record {
            slots = ap (λ l. get_or l n 0) next.slots ∙ get_or_push old.slots.items count 0 n (omega arith) ∙ kept;
            within = λ there. let within = next.within (λ e. there (ap (start_kept new) (sym wide) ∙ e)) in
                subst (λ m. start_kept new m + (slots_in_size ((frame image).head n).size + 31) / 32 ≤ length new.blocks.items) wide (subst (λ m. start_kept new (length old.starts.items) + (m + 31) / 32 ≤ length new.blocks.items) kept within);
            blocks = λ there k below.
                let few : k < 138 = omega arith in
                ap (λ m. block_kept new m k) (sym wide) ∙ next.here (λ e. there (ap (start_kept new) (sym wide) ∙ e)) k (omega arith) ∙ (here dir).1 k few;
          }

      pub bodies_more : ((((frame image).head n).is_used) ≡ true → summary ≡ summary_at (frame image) n) → AreBodies image old n → AreBodies image new (n + 1)
      bodies_more sums had = record {
        each = λ i lt dir. ⊎_elim
            (λ (before : i < n). body_before i before (had.each i before dir))
            (λ (ge : n ≤ i). let same : i ≡ n = omega arith in subst (λ j. HasBody image new j) (sym same) (body_here (subst (λ j. is_directory ((frame image).head j) ≡ true) same dir)))
            (cases_lt i n);
        summed = summaries_more (frame image) old.summaries.items new.summaries.items summary n was.summaries next.summaries sums had.summed;
      }

-- what is kept of a directory
pub kept_here : (f : Frame) (i : ℕ) (inode : Inode) → head_of inode ≡ f.head i → is_directory (f.head i) ≡ true → slots_kept inode ≡ slots_in_size (f.head i).size
kept_here f i inode is dir =
    let size : inode.size ≡ (f.head i).size = ap (λ (h : Head). h.size) is in
    let type-is : (inode.mode / 4096 == 4) ≡ true = ap is_directory is ∙ dir in
    ap (λ b. cond b (slots_in_size inode.size) 0) type-is ∙ ap slots_in_size size
