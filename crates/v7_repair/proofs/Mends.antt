-- What is known of a volume is enough to mend it, and what is seen of it then.
use Rattle.std.proofs.Common.{◌≡◌, ℕ, ◌-◌, ◌*◌, ◌<◌, ◌≤◌, Bool, true, false, ◌==◌, ◌&&◌, leb, ltb, List, length, get_or, refl, sym, ap, subst, ◌∙◌, arith, ⊎_elim}
use Rattle.std.proofs.lemmas.Bool.{cases_lt, leb-true, ltb-true}
use Rattle.std.proofs.lemmas.List.{get_or_past}
use Rattle.index_sets.specs.Free.{is_free}
use Rattle.files_model.specs.declared.attributes.Kind.TheVariants.{Regular, Directory, Link}
use Rattle.files_model.specs.Space.{usage, free}
use Rattle.stable.specs.Store.{Image}
use Rattle.v7_layout.specs.Records.{super_of}
use Rattle.v7_map.specs.Image.{sector_at, is_inode, isize_of, inodes_before}
use Rattle.v7_map.specs.Frame.{frame}
use Rattle.v7_map.specs.Damage.{has_sizes}
use Rattle.v7_map.specs.Tree.{tree}
use Rattle.v7_map.specs.Weak.{IsWeak}
use Rattle.v7_map.proofs.AnyFrame.{frame-IsFrame}
use Rattle.v7_map.proofs.Frames.{and_left, and_right}
use Rattle.v7_map.proofs.Undamaged.{weak_without_damage}
use Rattle.v7_map.proofs.Weakness.{no_damage_when_weak}
use Rattle.v7_damage.specs.declared.tested.Undamaged.{Undamaged}
use Rattle.v7_damage.specs.Undamaged.{HasEntries, IsUndamaged}
use Rattle.v7_damage.proofs.Supers.{numbers_read}
use Rattle.v7_inspect.specs.declared.seen.Seen.{Seen}
use Rattle.v7_inspect.specs.declared.judged.Judged.{Judged}
use Rattle.v7_inspect.specs.Judged.{IsJudged}
use Rattle.v7_inspect.specs.SeenNumbers.{IsSeen, nodes_of}
use Rattle.v7_make.specs.Chains.{FitStore}
use Rattle.v7_mend.specs.Changes.{Differ, MayChange}
use Rattle.v7_mend.specs.Repairs.{Repairs, CanMend, IsMended}
use Rattle.v7_repair.specs.Free.{AreLeft, HasRoom}
use Rattle.v7_repair.specs.Leaves.{IsRepaired}
use Rattle.v7_repair.specs.Runs.{repair_puts}
use Rattle.v7_sets.specs.declared.sets.Sets.{Sets}
use Rattle.v7_repair.specs.declared.mended.Mended.{Mended}
use Rattle.v7_repair.proofs.Left.{sets_are}

inode_numbers : (image : Image) (i : ℕ) → is_inode image i ≡ true → (1 ≤ i) × (i ≤ inodes_before (isize_of image))
inode_numbers image i e = (leb-true 1 i (and_left _ _ e), leb-true i (inodes_before (isize_of image)) (and_right _ _ e))

all_inodes : (image : Image) → (tree (frame image)).inodes ≡ inodes_before (isize_of image)
unfolding frame
all_inodes image = refl

ends_at : (image : Image) → (frame image).fsize ≡ (super_of (sector_at image 1)).s_fsize
unfolding frame super_of
ends_at image = refl

size_parts : (mark isize fsize sectors : ℕ) → has_sizes mark isize fsize sectors ≡ true → (3 ≤ isize) × (isize ≤ 8193) × (isize < fsize) × (fsize ≤ sectors)
size_parts mark isize fsize sectors e =
    let last : Bool = leb fsize sectors && leb fsize 1048576 in
    let low = and_right (mark == 1) (leb 3 isize && (leb isize 8193 && (ltb isize fsize && last))) e in
    let high = and_right (leb 3 isize) (leb isize 8193 && (ltb isize fsize && last)) low in
    let above = and_right (leb isize 8193) (ltb isize fsize && last) high in
    let within = and_right (ltb isize fsize) last above in (
      leb-true 3 isize (and_left (leb 3 isize) (leb isize 8193 && (ltb isize fsize && last)) low),
      leb-true isize 8193 (and_left (leb isize 8193) (ltb isize fsize && last) high),
      ltb-true isize fsize (and_left (ltb isize fsize) last above),
      leb-true fsize sectors (and_left (leb fsize sectors) (leb fsize 1048576) within),
    )

-- the numbers of a super-block
module _ (known : Undamaged) (sectors : ℕ) (entries : HasEntries sectors known) where
  parts : (3 ≤ known.super_block.s_isize) × (known.super_block.s_isize ≤ 8193) × (known.super_block.s_isize < known.super_block.s_fsize) × (known.super_block.s_fsize ≤ sectors)
  parts = size_parts known.super_block.mark known.super_block.s_isize known.super_block.s_fsize sectors entries.sizes

  pub few_puts : 9 * (known.super_block.s_isize - 2) ≤ repair_puts
  few_puts = let high = parts.1 in omega (arith, high)

  pub fits_store : (sets : Sets) → HasRoom known sets → FitStore sectors sets.blocks sets.inodes
  fits_store sets room = record {
    two = (let low = parts.0 in let above = parts.2 in let within = parts.3 in omega (arith, low, above, within));
    within = λ b e. ⊎_elim
        (λ (lt : b < length sets.blocks). let long = room.blocks in let within = parts.3 in omega (arith, lt, long, within))
        (λ (ge : length sets.blocks ≤ b). absurd (none (is_free sets.blocks b) e (get_or_past sets.blocks b false ge)))
        (cases_lt b (length sets.blocks));
    numbers = (let long = room.inodes in let all = entries.all in let high = parts.1 in omega (arith, long, all, high));
  }
    where
      none : (b : Bool) → b ≡ true → b ≡ false → ⊥
      none true t f = absurd (cc)
      none false t f = absurd (cc)

pub can_mend : (image : Image) (known : Undamaged) (counts : List ℕ) → IsUndamaged image known → length known.counts.items ≡ length known.types.items → counts ≡ known.counts.items → CanMend image known.super_block.s_isize counts
can_mend image known counts is long same = record {
  weak = weak_without_damage (frame image) (frame-IsFrame image) is.undamaged;
  ends = sym (numbers_read image known.super_block _ is.super_is refl).starts;
  links = λ i in'. (
      let range = inode_numbers image i in' in
      let low = range.0 in
      let high = range.1 in
      let all = all_inodes image in
      let count = is.count in
      ap (λ (x : List ℕ). get_or x i 0) same ∙ is.counts_are i low (omega (arith, high, all, count, long))
      );
}

-- what is seen of the files stays, and there is nothing to mend
seen_after : (old new : Image) (seen : Seen) → Repairs old new → sector_at new 1 ≡ sector_at old 1 → IsSeen old seen → IsSeen new (record seen { strong = true })
seen_after old new seen r super is = record {
  undamaged = no_damage_when_weak (frame new) (frame-IsFrame new) r.strong.weak;
  strong_only = λ e. r.strong;
  strong_always = λ e. refl;
  clean_is = is.clean_is ∙ ap (λ b. (super_of b).s_fmod == 0) (sym super);
  files_are = is.files_are ∙ ap (nodes_of Regular) (sym r.view);
  directories_are = is.directories_are ∙ ap (nodes_of Directory) (sym r.view);
  links_are = is.links_are ∙ ap (nodes_of Link) (sym r.view);
  used_is = is.used_is ∙ ap usage (sym r.view);
  free_is = is.free_is ∙ ap free (sym r.view);
}

pub is_repaired : (old new : Image) (known : Undamaged) (judged : Judged) (counts : List ℕ) (seen : Seen) (mended : Mended) → IsUndamaged old known → IsJudged old judged → length judged.needed ≡ known.super_block.s_fsize
    → AreLeft old judged.needed mended.sets → HasRoom known mended.sets → IsSeen old seen → mended.repaired.seen ≡ record seen { strong = true }
    → IsMended old new counts → Differ (MayChange old) old new mended.repaired.changed → sector_at new 1 ≡ sector_at old 1 → IsRepaired old new mended
is_repaired old new known judged counts seen mended is judges long left room sees after fixed differ super =
    let weak : IsWeak (frame old) = weak_without_damage (frame old) (frame-IsFrame old) is.undamaged in
    let end : known.super_block.s_fsize ≡ (frame old).fsize = ap (λ s. s.s_fsize) is.super_is ∙ sym (ends_at old) in
    record {
      weak = weak;
      repairs = fixed.repairs;
      super = super;
      changed = differ;
      needed = fixed.needed;
      seen = subst (λ (x : Seen). IsSeen new x) (sym after) (seen_after old new seen fixed.repairs super sees);
      sets = sets_are old new weak fixed.repairs super judged.needed judges.needed_are (long ∙ end) mended.sets left (room.blocks ∙ end) (room.inodes ∙ is.count);
    }
