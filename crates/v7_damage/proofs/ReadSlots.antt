-- The slots of a directory are those that the frame has.
use Rattle.std.proofs.Common.{◌≡◌, ◌≢◌, ℕ, zero, suc, ◌+◌, ◌*◌, ◌/◌, ◌%◌, ◌<◌, ◌≤◌, cond, leb, true, List, [], ◌∷◌, map, get_or, length, sym, ap, subst, refl, ◌∙◌, arith}
use Rattle.std.specs.List.{range_with_len}
use Rattle.std.proofs.lemmas.List.FromFn.{length-map-range_with_len}
use Rattle.stable.specs.Store.{Image}
use Rattle.v7_layout.specs.Numbers.{part}
use Rattle.v7_layout.specs.Records.{slot_of_bytes}
use Rattle.std.proofs.lemmas.Bool.{le-leb}
use Rattle.v7_map.proofs.AnyFrame.{frame-IsFrame}
use Rattle.v7_map.proofs.Walks.{and_both}
use Rattle.v7_map.specs.Image.{sector_at, inode_at, inodes_before, is_inode, isize_of}
use Rattle.v7_map.specs.Damage.{place_at}
use Rattle.v7_map.specs.Frame.{Body, address_of, head_of, frame, slot_of, slot_in, slots_of}
use Rattle.v7_layout.specs.declared.inode.Inode.{Inode}
use Rattle.v7_damage.specs.declared.bodies.Bodies.{Bodies}
use Rattle.v7_damage.specs.Slots.{seen_slot}
use Rattle.v7_damage.specs.Stored.{place_of_body, slot_in_body, body_slots}
use Rattle.v7_damage.specs.Tables.{AreSectors, CanRead, block_by, count_kept, slots_in_size, start_kept}
use Rattle.v7_damage.specs.declared.bodies.Sectors.{Sectors}
use Rattle.v7_damage.specs.declared.bodies.Sectors.TheVariants.{InTable, Read}
use Rattle.v7_damage.proofs.BodyPlaces.{place-body}

map_fused : {A B : Type 0} (f : A → B) (g : ℕ → A) (h : ℕ → B) (a n : ℕ) → ((k : ℕ) → k < a + n → f (g k) ≡ h k) → map f (map g (range_with_len a n)) ≡ map h (range_with_len a n)
map_fused f g h a zero same = refl
map_fused f g h a (suc n) same = let rest = map_fused f g h (a + 1) n (λ k lt. same k (omega arith)) in let here = same a (omega arith) in λ z. here z ∷ rest z

-- a slot is seen as its bytes say
seen-bytes : (bytes : List ℕ) → seen_slot (slot_of_bytes bytes) ≡ slot_of bytes
unfolding slot_of
seen-bytes bytes = refl

module _ (image : Image) (bodies : Bodies) (i : ℕ) (can : CanRead image bodies i) where
  count-is : count_kept bodies i ≡ ((frame image).head i).size / 16
  count-is = let few = can.size in can.has.slots ∙ (let e : slots_in_size ((frame image).head i).size ≡ ((frame image).head i).size / 16 = omega arith in e)

  slots-are : (frame image).slots i ≡ map (slot_in image (head_of (inode_at image i))) (range_with_len 0 ((inode_at image i).size / 16))
  unfolding frame slots_of
  slots-are = ap (λ b. cond b (map (slot_in image (head_of (inode_at image i))) (range_with_len 0 ((inode_at image i).size / 16))) []) can.dir

  slots-long : length ((frame image).slots i) ≡ count_kept bodies i
  unfolding frame
  slots-long = ap length slots-are ∙ length-map-range_with_len (slot_in image (head_of (inode_at image i))) 0 ((inode_at image i).size / 16) ∙ sym count-is

  slots-few : length ((frame image).slots i) ≤ 4416
  slots-few = let long = slots-long in let count = count-is in let few = can.size in omega arith

  pub is_there : is_inode image i ≡ true
  unfolding frame
  is_there =
      let r = (frame-IsFrame image).numbers i ((frame-IsFrame image).directories i can.dir) in
      and_both (leb 1 i) (leb i (inodes_before (isize_of image))) (le-leb 1 i r.0) (le-leb i _ r.1)

  -- the sectors stand where the table says
  pub in_table : (start : ℕ) → start ≡ start_kept bodies i → start ≢ 4294967295 → AreSectors (frame image) bodies (InTable start) i
  in_table start is kept = record {
    few = slots-few;
    each = λ k below. let same = can.has.slots in let long = slots-long in
        ap (λ s. get_or bodies.blocks.items (s + k) 0) is ∙ can.has.blocks (λ e. kept (is ∙ e)) k (omega arith);
  }

  -- they stand at the places of the inode
  pub at_places : (n : Inode) (places : List ℕ) → n ≡ inode_at image i → ((k : ℕ) → k < 140 → get_or places k 0 ≡ address_of image (head_of n) (place_at k)) → AreSectors (frame image) bodies (Read places) i
  unfolding frame
  at_places n places is blocks = record {
    few = slots-few;
    each = λ k below.
        let long = slots-long in let same = can.has.slots in
        let few : k < 138 = omega arith in
        let p = place-body k few in
        blocks (place_of_body k) p.0 ∙ (λ z. address_of image (head_of (is z)) (p.1 z));
  }

  module _ (sectors : Sectors) (stand : AreSectors (frame image) bodies sectors i) where
    block-is : (k : ℕ) → 32 * k < count_kept bodies i → block_by bodies sectors k ≡ (frame image).address i (Body k)
    block-is k below = let long = slots-long in stand.each k (omega arith)

    pub near : (k : ℕ) → 32 * k < count_kept bodies i → (k < 138) × (block_by bodies sectors k < length image)
    near k below = let count = count-is in let few = can.size in (omega arith, subst (λ b. b < length image) (sym (block-is k below)) (can.stand k (omega arith)))

    each : (k : ℕ) → k < count_kept bodies i → seen_slot (slot_in_body image (block_by bodies sectors) k) ≡ slot_in image (head_of (inode_at image i)) k
    unfolding frame
    each k lt =
        seen-bytes (part (sector_at image (block_by bodies sectors (k / 32))) (16 * (k % 32)) 16)
        ∙ ap (λ a. slot_of (part (sector_at image a) (16 * (k % 32)) 16)) (block-is (k / 32) (omega arith))

    pub slots_seen : map seen_slot (body_slots image (block_by bodies sectors) (count_kept bodies i)) ≡ (frame image).slots i
    unfolding body_slots frame
    slots_seen =
        map_fused seen_slot (slot_in_body image (block_by bodies sectors)) (slot_in image (head_of (inode_at image i))) 0 (count_kept bodies i) (λ k lt. each k (omega arith))
        ∙ ap (λ m. map (slot_in image (head_of (inode_at image i))) (range_with_len 0 m)) count-is ∙ sym slots-are
