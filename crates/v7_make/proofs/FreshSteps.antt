-- The sectors of a new volume, one after the other.
use Rattle.std.proofs.Common.{◌≡◌, ◌≢◌, ℕ, ◌+◌, ◌-◌, ◌*◌, ◌%◌, ◌<◌, ◌≤◌, true, false, cond, not, ◌==◌, List, [], ◌∷◌, length, set, replicate, refl, sym, ap, subst, ◌∙◌, arith, ⊎_elim, leb, length-set, get_or-set_same, get_or-set_other, Some, None}
use Rattle.std.proofs.lemmas.Bool.{cases_eq, cases_Bool, leb-true}
use Rattle.std.specs.List.{take_while}
use Rattle.v7_layout.specs.declared.super_block.Super.{Super}
use Rattle.v7_layout.specs.Numbers.{part, field}
use Rattle.v7_layout.specs.Records.{inode_of, slot_of_bytes, super_of}
use Rattle.stable.specs.Store.{Image, name_in}
use Rattle.v7_map.specs.Image.{sector_at, isize_of, fsize_of, mark_of, is_inode, inodes_before, inode_at, inode_sector, inode_offset, is_read_only}
use Rattle.v7_map.specs.Frame.{frame, slot_of}
use Rattle.v7_map.specs.Weak.{HasSizes}
use Rattle.v7_map.proofs.Data.{inode_below}
use Rattle.v7_map.proofs.Frames.{and_left}
use Rattle.v7_map.proofs.Walks.{and_both}
use Rattle.v7_make.specs.Made.{root_inode, FreshInodes, FreshTo, IsNewSuper, IsFresh, IsPut}

pub fresh_step : (block now s : ℕ) (mid new : Image) (bytes : List ℕ) → s < length mid → FreshTo block now s mid → FreshInodes s block now bytes → new ≡ set mid s bytes → FreshTo block now (s + 1) new
fresh_step block now s mid new bytes in' so_far here is q low high = ⊎_elim
    (λ (e : q ≡ s). subst (λ r. FreshInodes r block now (sector_at new r)) (sym e)
    (subst (FreshInodes s block now) (sym (ap (λ (x : Image). sector_at x s) is ∙ get_or-set_same mid s bytes [] in')) here))
    (λ (ne : q ≢ s). subst (FreshInodes q block now) (sym (ap (λ (x : Image). sector_at x q) is ∙ get_or-set_other mid s q bytes [] ne)) (so_far q low (omega (arith, high, ne))))
    (cases_eq q s)

pub fresh_end : (block now s : ℕ) (image : Image) → block ≤ s → FreshTo block now s image → FreshTo block now block image
fresh_end block now s image le all q low high = all q low (omega (arith, le, high))

-- an inode of zeros is one of no bytes
zero_inode : inode_of (replicate 64 0) ≡ inode_of []
unfolding inode_of field part
zero_inode = refl

dot_slot : (bytes : List ℕ) → slot_of_bytes bytes ≡ record { ino = 2; name = 46 ∷ replicate 13 0 } → slot_of bytes ≡ Some (2, 46 ∷ [])
unfolding slot_of
dot_slot bytes is = (λ z. let s = is z in cond (s.ino == 0) None (Some (s.ino, take_while (λ b. not (b == 0)) s.name)))

dots_slot : (bytes : List ℕ) → slot_of_bytes bytes ≡ record { ino = 2; name = 46 ∷ 46 ∷ replicate 12 0 } → slot_of bytes ≡ Some (2, 46 ∷ 46 ∷ [])
unfolding slot_of
dots_slot bytes is = (λ z. let s = is z in cond (s.ino == 0) None (Some (s.ino, take_while (λ b. not (b == 0)) s.name)))

module _ (image : Image) (blocks isize now : ℕ) (pack : List ℕ) (low : 3 ≤ isize) (high : isize ≤ 8193) (above : isize < blocks) (most : blocks ≤ 1048576) (place : blocks ≤ length image)
    (inodes : FreshTo isize now isize image) (super : IsNewSuper blocks isize pack now 1 0 0 (super_of (sector_at image 1)))
    (dot : slot_of_bytes (part (sector_at image isize) 0 16) ≡ record { ino = 2; name = 46 ∷ replicate 13 0 }) (dots : slot_of_bytes (part (sector_at image isize) 16 16) ≡ record { ino = 2; name = 46 ∷ 46 ∷ replicate 12 0 }) where
  isize_is : isize_of image ≡ isize
  unfolding super_of
  isize_is = ap (λ (s : Super). s.s_isize) super

  fsize_is : fsize_of image ≡ blocks
  unfolding super_of
  fsize_is = ap (λ (s : Super). s.s_fsize) super

  mark_is : mark_of image ≡ 1
  unfolding super_of
  mark_is = ap (λ (s : Super). s.mark) super

  writable : is_read_only (sector_at image 1) ≡ false
  unfolding super_of
  writable = ap (λ (s : Super). not (s.s_ronly == 0)) super

  sizes : HasSizes (frame image)
  unfolding frame
  sizes = record {
    mark = mark_is;
    low = subst (λ n. 3 ≤ n) (sym isize_is) low;
    high = subst (λ n. n ≤ 8193) (sym isize_is) high;
    above = subst (λ n. n < fsize_of image) (sym isize_is) (subst (λ n. isize < n) (sym fsize_is) above);
    within = subst (λ n. n ≤ length image) (sym fsize_is) place;
    not_huge = subst (λ n. n ≤ 1048576) (sym fsize_is) most;
  }

  inode_is : (i : ℕ) → is_inode image i ≡ true → inode_at image i ≡ inode_of (part (sector_at image (inode_sector i)) (64 * ((i - 1) % 8)) 64)
  unfolding inode_at
  inode_is i in' = ap (λ b. cond b (inode_of (part (sector_at image (inode_sector i)) (inode_offset i) 64)) (inode_of [])) in'

  inode_none : (i : ℕ) → is_inode image i ≡ false → inode_at image i ≡ inode_of []
  unfolding inode_at
  inode_none i out = ap (λ b. cond b (inode_of (part (sector_at image (inode_sector i)) (inode_offset i) 64)) (inode_of [])) out

  zeros_at : (i : ℕ) → i ≢ 2 → is_inode image i ≡ true → inode_at image i ≡ inode_of (replicate 64 0)
  zeros_at i ne in' =
      let one : 1 ≤ i = leb-true 1 i (and_left (leb 1 i) _ in') in
      let below : inode_sector i < isize = subst (λ n. inode_sector i < n) isize_is (inode_below (isize_of image) i in') in
      inode_is i in' ∙ ap inode_of ((inodes (inode_sector i) (omega arith) below).others ((i - 1) % 8) (omega arith) (λ both. let a = both.0 in let b = both.1 in ne (omega (arith, a, b, one))))

  two_in : is_inode image 2 ≡ true
  two_in = let e = isize_is in and_both (leb 1 2) (leb 2 (inodes_before (isize_of image))) refl (leb_two (isize_of image) (omega (arith, e, low)))
    where
      leb_two : (n : ℕ) → 3 ≤ n → leb 2 (inodes_before n) ≡ true
      leb_two n le = grind arith

  root_at : inode_at image 2 ≡ root_inode (isize_of image) now
  root_at = inode_is 2 two_in ∙ (inodes 2 (omega arith) (omega (arith, low))).root refl ∙ ap (λ b. root_inode b now) (sym isize_is)

  pub is_fresh : IsFresh image now
  is_fresh = record {
    sizes = sizes;
    writable = writable;
    root = root_at;
    empty = λ i ne. ⊎_elim (λ (in' : is_inode image i ≡ true). zeros_at i ne in' ∙ zero_inode) (λ (out : is_inode image i ≡ false). inode_none i out) (cases_Bool (is_inode image i));
    self = dot_slot (part (sector_at image (isize_of image)) 0 16) (ap (λ s. slot_of_bytes (part (sector_at image s) 0 16)) isize_is ∙ dot);
    up = dots_slot (part (sector_at image (isize_of image)) 16 16) (ap (λ s. slot_of_bytes (part (sector_at image s) 16 16)) isize_is ∙ dots);
  }

pub put_is : (mid new : Image) (blocks isize now : ℕ) (pack first bytes : List ℕ) → 3 ≤ isize → isize ≤ 8193 → isize < blocks → blocks ≤ 1048576 → blocks ≤ length mid → FreshTo isize now isize mid
    → IsNewSuper blocks isize pack now 1 0 0 (super_of bytes) → slot_of_bytes (part first 0 16) ≡ record { ino = 2; name = 46 ∷ replicate 13 0 } → slot_of_bytes (part first 16 16) ≡ record { ino = 2; name = 46 ∷ 46 ∷ replicate 12 0 }
    → new ≡ set (set mid isize first) 1 bytes → IsPut new blocks isize pack now
put_is mid new blocks isize now pack first bytes low high above most place inodes super dot dots is =
    let long : length new ≡ length mid = ap length is ∙ length-set (set mid isize first) 1 bytes ∙ length-set mid isize first in
    let inside : isize < length mid = omega (arith, above, place) in
    let long' = length-set mid isize first in
    let at_one : sector_at new 1 ≡ bytes = ap (λ (x : Image). sector_at x 1) is ∙ get_or-set_same (set mid isize first) 1 bytes [] (omega (arith, inside, long', low)) in
    let at_block : sector_at new isize ≡ first = ap (λ (x : Image). sector_at x isize) is ∙ get_or-set_other (set mid isize first) 1 isize bytes [] (λ e. omega (arith, e, low)) ∙ get_or-set_same mid isize first [] inside in
    let sup : IsNewSuper blocks isize pack now 1 0 0 (super_of (sector_at new 1)) = subst (λ b. IsNewSuper blocks isize pack now 1 0 0 (super_of b)) (sym at_one) super in
    record {
      fresh = is_fresh new blocks isize now pack low high above most (omega (arith, place, long))
          (λ s from to. subst (FreshInodes s isize now) (sym (ap (λ (x : Image). sector_at x s) is ∙ get_or-set_other (set mid isize first) 1 s bytes [] (λ e. omega (arith, e, from)) ∙ get_or-set_other mid isize s first [] (λ e. omega (arith, e, to)))) (inodes s from to))
          sup (ap (λ b. slot_of_bytes (part b 0 16)) at_block ∙ dot) (ap (λ b. slot_of_bytes (part b 16 16)) at_block ∙ dots);
      super = sup;
    }

-- the name that the new super-block has
pub named : (size isize now : ℕ) (pack bytes : List ℕ) → IsNewSuper size isize pack now 1 0 0 (super_of bytes) → name_in bytes ≡ pack
unfolding super_of part
named size isize now pack bytes is = ap (λ (s : Super). s.s_fpack) is
