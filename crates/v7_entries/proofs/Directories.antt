-- The slots of a directory, sector by sector.
use Rattle.std.proofs.Common.{◌≡◌, ◌≢◌, ℕ, ◌+◌, ◌-◌, ◌*◌, ◌/◌, ◌%◌, ◌<◌, ◌≤◌, min, Bool, true, false, cond, List, [], length, map, drop, get_or, Option, Some, None, refl, sym, ap, subst, ◌∙◌, arith, ⊎_elim, ltb}
use Rattle.std.proofs.lemmas.Bool.{cases_lt, cases_Bool}
use Rattle.std.proofs.lemmas.List.FromFn.{get_or-map-range_with_len, length-map-range_with_len}
use Rattle.std.specs.List.{position, range_with_len}
use Rattle.std.specs.Option.{is_some}
use Rattle.v7_layout.specs.declared.inode.Inode.{Inode}
use Rattle.v7_layout.specs.Numbers.{part}
use Rattle.files_model.specs.Files.{Slot, sectors_of}
use Rattle.files_model.specs.Names.{number_at, number_of}
use Rattle.stable.specs.Store.{Image}
use Rattle.v7_map.specs.Image.{sector_at, inode_at}
use Rattle.v7_map.specs.Frame.{Body, frame, head_of, is_directory, address_of, slot_of, slot_in, slots_of}
use Rattle.v7_read.specs.Places.{ArePlaces}
use Rattle.v7_map.specs.Damage.{place_at}
use Rattle.v7_map.specs.Weak.{IsWeak}
use Rattle.v7_map.proofs.AnyFrame.{frame-IsFrame}
use Rattle.v7_map.proofs.PlaceIndex.{place_body}
use Rattle.v7_map.proofs.Members.{any_in, any_is}
use Rattle.v7_map.proofs.SlotLists.{In-get_or, in_drop}
use Rattle.v7_dir.specs.Slots.{slot_in as slot_of_sector}
use Rattle.v7_dir.proofs.Firsts.{first_in, none_in}
use Rattle.v7_entries.specs.Bodies.{HasBody, slots_at, block_at, body_at}
use Rattle.v7_entries.specs.Found.{any_entry}
use Rattle.v7_entries.specs.Hits.{IsHit, HitsIn, HasUsed}
use Rattle.v7_entries.specs.declared.sector.Hit.{Hit}

-- where a volume can be mended each sector of a directory stands
pub weak_body : (image : Image) (d : ℕ) → IsWeak (frame image) → is_directory ((frame image).head d) ≡ true → HasBody image (inode_at image d)
unfolding frame
weak_body image d weak dir =
    let used = (frame-IsFrame image).directories d dir in
    let good = weak.good d used in
    record {
      directory = dir;
      short = good.length;
      some = λ k lt. weak.needed d k dir lt;
      within = λ k lt. let at = weak.data_block d (Body k) (weak.needed d k dir lt) in let high = at.1 in let within = weak.sizes.within in omega arith;
    }

pub frame_slots : (image : Image) (d : ℕ) → slots_at image (inode_at image d) ≡ (frame image).slots d
unfolding frame
frame_slots image d = refl

-- the block of a sector of a body, by the places
pub body_is : (image : Image) (n : Inode) (places : List ℕ) → ArePlaces image n places → (k : ℕ) → k < 138 → body_at places k ≡ block_at image n k
body_is image n places are k lt = let at = place_body k lt in are.each (cond (ltb k 10) k (k + 1)) at.0 ∙ ap (address_of image (head_of n)) at.1

some_is : (s : Slot) → is_some s ≡ true → (e : ℕ × List ℕ) × (s ≡ Some e)
some_is None used = absurd (cc)
some_is (Some e) used = (e, refl)

module _ (image : Image) (n : Inode) (has : HasBody image n) where
  abbrev slot : ℕ → Slot
  slot = slot_in image (head_of n)

  abbrev count : ℕ
  count = n.size / 16

  pub slots_are : slots_at image n ≡ map slot (range_with_len 0 count)
  unfolding slots_of
  slots_are = ap (λ b. cond b (map slot (range_with_len 0 count)) []) has.directory

  -- slot j of sector s of the body
  pub slot_is : (s j : ℕ) → j < 32 → slot_of_sector (sector_at image (block_at image n s)) j ≡ slot (32 * s + j)
  slot_is s j lt =
      let at : s ≡ (32 * s + j) / 32 = omega (arith, lt) in
      let inside : j ≡ (32 * s + j) % 32 = omega (arith, lt) in
      λ z. slot_of (part (sector_at image (block_at image n (at z))) (16 * inside z) 16)

  module _ (p : Slot → Bool) (s few : ℕ) (is_few : few ≡ min (count - 32 * s) 32) (so_far : (k : ℕ) → k < 32 * s → k < count → p (slot k) ≡ false) where
    -- none of its slots passes
    pub none_more : HitsIn p (sector_at image (block_at image n s)) few None → (k : ℕ) → k < 32 * (s + 1) → k < count → p (slot k) ≡ false
    none_more none k lt within = ⊎_elim
        (λ (old : k < 32 * s). so_far k old within)
        (λ (new : 32 * s ≤ k).
        let at : 32 * s + (k - 32 * s) ≡ k = omega arith in
        sym (ap p (slot_is s (k - 32 * s) (omega arith) ∙ ap slot at)) ∙ none (k - 32 * s) (omega arith))
        (cases_lt k (32 * s))

    module _ (hit : Hit) (is : IsHit p (sector_at image (block_at image n s)) few hit) where
      below : hit.index < 32
      below = let w = is.within in omega arith

      within : 32 * s + hit.index < count
      within = let w = is.within in omega arith

      before : (k : ℕ) → k < 32 * s + hit.index → p (slot k) ≡ false
      before k lt = ⊎_elim
          (λ (old : k < 32 * s). let w = within in so_far k old (omega arith))
          (λ (new : 32 * s ≤ k).
          let b = below in
          let at : 32 * s + (k - 32 * s) ≡ k = omega arith in
          sym (ap p (slot_is s (k - 32 * s) (omega arith) ∙ ap slot at)) ∙ is.before (k - 32 * s) (omega arith))
          (cases_lt k (32 * s))

      -- one of its slots is the first that passes
      pub first_at : position p (slots_at image n) ≡ Some (32 * s + hit.index)
      first_at = ap (position p) slots_are
          ∙ sym (first_in p slot count (32 * s + hit.index) within before (sym (ap p (slot_is s hit.index below)) ∙ is.here))

      pub number_there : hit.ino ≡ number_at (slots_at image n) (32 * s + hit.index)
      number_there =
          is.number ∙ ap number_of (slot_is s hit.index below
          ∙ sym (ap (λ l. get_or l (32 * s + hit.index) None) slots_are ∙ get_or-map-range_with_len slot 0 count (32 * s + hit.index) (32 * s + hit.index) None within (omega arith)))

      pub sector_there : block_at image n s ≡ block_at image n ((32 * s + hit.index) / 32)
      sector_there = let b = below in let at : s ≡ (32 * s + hit.index) / 32 = omega arith in ap (block_at image n) at

  -- no slot passes
  pub no_first : (p : Slot → Bool) (s : ℕ) → count ≤ 32 * s → ((k : ℕ) → k < 32 * s → k < count → p (slot k) ≡ false) → position p (slots_at image n) ≡ None
  no_first p s past none = ap (position p) slots_are ∙ sym (none_in p slot count (λ k lt. none k (omega arith) lt))

  pub slot_read : (k : ℕ) → k < count → get_or (slots_at image n) k None ≡ slot k
  slot_read k lt = ap (λ l. get_or l k None) slots_are ∙ get_or-map-range_with_len slot 0 count k k None lt (omega arith)

  -- a slot from the third on isn't empty
  pub any_true : (k : ℕ) → 2 ≤ k → k < count → is_some (slot k) ≡ true → any_entry image n ≡ true
  any_true k low lt used =
      let e = some_is (slot k) used in
      any_in is_some (Some e.0) (drop 2 (slots_at image n)) (In-get_or (slots_at image n) 2 k e.0 low (slot_read k lt ∙ e.1)) refl

  -- each of them is empty
  pub any_false : ((k : ℕ) → 2 ≤ k → k < count → is_some (slot k) ≡ false) → any_entry image n ≡ false
  any_false none = ⊎_elim
      (λ (some : any_entry image n ≡ true).
      let x = any_is is_some (drop 2 (slots_at image n)) some in
      let at = in_drop x.0 2 (slots_at image n) x.1 in
      let long : length (slots_at image n) ≡ count = ap length slots_are ∙ length-map-range_with_len slot 0 count in
      let below = at.2 in
      let lt : at.0 < count = omega (arith, long, below) in
      let empty : false ≡ true = sym (none at.0 at.1 lt) ∙ ap is_some (sym (slot_read at.0 lt) ∙ at.3) ∙ x.2 in absurd (cc))
      (λ (none' : any_entry image n ≡ false). none')
      (cases_Bool (any_entry image n))

  module _ (s few : ℕ) (is_few : few ≡ min (count - 32 * s) 32) where
    pub used_there : HasUsed (sector_at image (block_at image n s)) (2 - 32 * s) few true → any_entry image n ≡ true
    used_there used =
        let low = used.1 in
        let lt = used.2 in
        any_true (32 * s + used.0) (omega arith) (omega arith) (sym (ap is_some (slot_is s used.0 (omega arith))) ∙ used.3)

    pub unused_more : ((k : ℕ) → 2 ≤ k → k < 32 * s → k < count → is_some (slot k) ≡ false) → HasUsed (sector_at image (block_at image n s)) (2 - 32 * s) few false
        → (k : ℕ) → 2 ≤ k → k < 32 * (s + 1) → k < count → is_some (slot k) ≡ false
    unused_more so_far none k low lt within = ⊎_elim
        (λ (old : k < 32 * s). so_far k low old within)
        (λ (new : 32 * s ≤ k).
        let at : 32 * s + (k - 32 * s) ≡ k = omega arith in
        sym (ap is_some (slot_is s (k - 32 * s) (omega arith) ∙ ap slot at)) ∙ none (k - 32 * s) (omega arith) (omega arith))
        (cases_lt k (32 * s))

  -- a sector of slots stands in the image
  pub stands : (s : ℕ) → 32 * s < count → (s < 138) × (block_at image n s ≢ 0) × (block_at image n s < length image)
  stands s lt = let short = has.short in (omega arith, has.some s (omega arith), has.within s (omega arith))

-- what is known of a sector that was read, where a store with this image now has so many sectors
pub at_sector : (P : List ℕ → Type 0) (image now : Image) (n : Inode) (places : List ℕ) (s block sectors : ℕ) → HasBody image n → ArePlaces image n places → 32 * s < n.size / 16
    → block ≡ body_at places s → now ≡ image → sectors ≡ length image → (block ≢ 0 → block < sectors → P (sector_at now block)) → P (sector_at image (block_at image n s))
at_sector P image now n places s block sectors has are lt is same long read =
    let there = stands image n has s lt in
    let at : block ≡ block_at image n s = is ∙ body_is image n places are s there.0 in
    let some : block ≢ 0 = λ zero. there.1 (sym at ∙ zero) in
    let within : block < sectors = let w = there.2 in omega (arith, at, long, w) in
    subst P (λ z. sector_at (same z) (at z)) (read some within)

-- what isn't found
pub none_of : {X : Type 0} (o : Option X) → ((x : X) → o ≡ Some x → ⊥) → o ≡ None
none_of None never = refl
none_of (Some x) never = absurd (never x refl)
