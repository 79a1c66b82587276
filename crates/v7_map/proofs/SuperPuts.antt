-- A put of the super-block that keeps the numbers of the volume: where things are stays, and what the image stands for.
use Rattle.std.proofs.Common.{◌≡◌, ◌≢◌, ℕ, ◌-◌, ◌*◌, ◌<◌, cond, not, ◌==◌, ◌&&◌, List, [], length, set, ap, sym, ◌∙◌, arith, ⊎_elim, eqb, leb, length-set, get_or-set_other, get_or-set_same, Some, None, subst, refl}
use Rattle.std.proofs.lemmas.Bool.{cases_eq}
use Rattle.std.specs.FinMap.{empty}
use Rattle.v7_layout.specs.declared.super_block.Super.{Super}
use Rattle.v7_layout.specs.Numbers.{part, field}
use Rattle.v7_layout.specs.Records.{inode_of, super_of}
use Rattle.files_model.specs.Files.{clipped}
use Rattle.files_model.proofs.Maps.{tabulated_same}
use Rattle.stable.specs.Store.{Image}
use Rattle.v7_map.specs.Image.{sector_at, isize_of, fsize_of, mark_of, inode_at, is_inode, inode_sector, inode_offset, is_read_only}
use Rattle.v7_map.specs.Frame.{Place, Body, head_of, is_directory, address_of, slots_of, frame}
use Rattle.v7_map.specs.Tree.{tree}
use Rattle.v7_map.specs.Weak.{IsWeak}
use Rattle.v7_map.specs.View.{view, files_of, body_of, body_at, held}
use Rattle.v7_map.proofs.Frames.{same_places, same_slots_of}
use Rattle.v7_map.proofs.Ranges.{address-inside}

-- two super-blocks have the same sizes and mark, and make a volume read-only alike
pub record SameNumbers (old new : Super) : Type 0 where
  pub isize : new.s_isize ≡ old.s_isize
  pub fsize : new.s_fsize ≡ old.s_fsize
  pub mark : new.mark ≡ old.mark
  pub read_only : new.s_ronly ≡ old.s_ronly

module _ (old : Image) (bytes : List ℕ) (weak : IsWeak (frame old)) (same : SameNumbers (super_of (sector_at old 1)) (super_of bytes)) where
  new : Image
  new = set old 1 bytes

  inside : 1 < length old
  unfolding frame
  inside = let low = weak.sizes.low in let above = weak.sizes.above in let within = weak.sizes.within in omega arith

  here : sector_at new 1 ≡ bytes
  unfolding new
  here = get_or-set_same old 1 bytes [] inside

  other : (s : ℕ) → s ≢ 1 → sector_at new s ≡ sector_at old s
  unfolding new
  other s ne = get_or-set_other old 1 s bytes [] ne

  isize : isize_of new ≡ isize_of old
  unfolding super_of
  isize = ap (λ b. field b 0 2) here ∙ same.isize

  fsize : fsize_of new ≡ fsize_of old
  unfolding super_of
  fsize = ap (λ b. field b 2 4) here ∙ same.fsize

  mark : mark_of new ≡ mark_of old
  unfolding super_of
  mark = ap (λ b. field b 440 4) here ∙ same.mark

  read_only : is_read_only (sector_at new 1) ≡ is_read_only (sector_at old 1)
  unfolding super_of
  read_only = ap is_read_only here ∙ ap (λ n. not (n == 0)) same.read_only

  inodes_same : (j : ℕ) → inode_at new j ≡ inode_at old j
  unfolding inode_at
  inodes_same j =
      (λ z. cond (leb 1 j && leb j ((isize z - 2) * 8)) (inode_of (part (sector_at new (inode_sector j)) (inode_offset j) 64)) (inode_of []))
      ∙ ap (λ b. cond (is_inode old j) (inode_of (part b (inode_offset j) 64)) (inode_of [])) (other (inode_sector j) (λ e. omega (arith, e)))

  block : (j : ℕ) (p : Place) → (frame old).address j p ≢ 0 → sector_at new ((frame old).address j p) ≡ sector_at old ((frame old).address j p)
  block j p nz = let a = address-inside old weak j p nz in let low = a.0 in other ((frame old).address j p) (λ e. omega (arith, low, e))

  address_same : (j : ℕ) (p : Place) → (frame new).address j p ≡ (frame old).address j p
  unfolding frame
  address_same j p = ap (λ m. address_of new (head_of m) p) (inodes_same j) ∙ same_places old new (head_of (inode_at old j)) (λ q _ nz. block j q nz) p

  slots_same : (j : ℕ) → (frame new).slots j ≡ (frame old).slots j
  unfolding frame
  slots_same j = ap (λ m. slots_of new (head_of m)) (inodes_same j) ∙ same_slots_of old new (head_of (inode_at old j)) (same_places old new (head_of (inode_at old j)) (λ q _ nz. block j q nz))
      (λ dir k lt. block j (Body k) (weak.needed j k dir lt))

  new_frame : frame new ≡ frame old
  unfolding frame new
  new_frame z = record {
    sectors = length-set old 1 bytes z;
    mark = mark z;
    isize = isize z;
    fsize = fsize z;
    head = λ j. head_of (inodes_same j z);
    address = λ j p. address_same j p z;
    slots = λ j. slots_same j z;
  }

  same_body : (j : ℕ) → body_at new (frame old) j ≡ body_at old (frame old) j
  unfolding body_of
  same_body j = ap (cond (is_directory ((frame old).head j)) empty) (tabulated_same _ _ _ (λ q lt. ⊎_elim
      (λ (z : (frame old).address j (Body q) ≡ 0). subst (λ b. held new ((frame old).head j).size q b ≡ held old ((frame old).head j).size q b) (sym z) refl)
      (λ (nz : (frame old).address j (Body q) ≢ 0). ap (λ s. cond (eqb ((frame old).address j (Body q)) 0) None (Some (clipped ((frame old).head j).size q s))) (block j (Body q) nz))
      (cases_eq ((frame old).address j (Body q)) 0)))

  new_view : view new ≡ view old
  unfolding view
  new_view =
      (λ z. files_of (tree (new_frame z)) ((new_frame z).fsize - (new_frame z).isize) (λ j. inodes_same j z) (body_at new (new_frame z)) (read_only z))
      ∙ (λ z. files_of (tree (frame old)) ((frame old).fsize - (frame old).isize) (inode_at old) (λ j. same_body j z) (is_read_only (sector_at old 1)))

  pub super-frame : frame (set old 1 bytes) ≡ frame old
  unfolding new
  super-frame = new_frame

  pub super-view : view (set old 1 bytes) ≡ view old
  unfolding new
  super-view = new_view
