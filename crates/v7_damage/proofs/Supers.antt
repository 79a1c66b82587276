-- The test of the super-block, and what its numbers say.
use Rattle.std.proofs.Common.{◌≡◌, ◌==◌, ℕ, ◌<◌, ◌≤◌, leb, ltb, Bool, true, false, List, [], ◌∷◌, length, sym, ap, ◌∙◌, arith, ⊎_elim, Some, None}
use Rattle.std.specs.Prelude.{replicate}
use Rattle.std.proofs.lemmas.Bool.{cases_Bool, leb-true, ltb-true}
use Rattle.v7_map.proofs.Frames.{and_left, and_right}
use Rattle.stable.specs.Store.{Image}
use Rattle.v7_layout.specs.declared.super_block.Super.{Super}
use Rattle.v7_layout.specs.Records.{super_of}
use Rattle.v7_map.specs.Image.{sector_at, inode_sector, inodes_before}
use Rattle.v7_map.specs.Frame.{Frame, frame}
use Rattle.v7_map.specs.Tree.{tree}
use Rattle.v7_map.specs.Damage.{Test, Sizes, passes, has_sizes}
use Rattle.v7_map.proofs.SuperBlock.{sizes-super, sizes-passed}
use Rattle.v7_damage.specs.declared.damage.Damage.TheVariants as kind
use Rattle.v7_damage.specs.declared.damage.RepairFault.{RepairFault}
use Rattle.v7_damage.specs.declared.damage.RepairFault.TheVariants.{Damaged, Failed, NoMemory}
use Rattle.v7_damage.specs.Marks.{AreSeen, is_among, mark_at}
use Rattle.v7_damage.specs.Tests.{first_failing, told, IsFaultTold, HasNumbers}
use Rattle.v7_damage.proofs.Failing.{fails_here, passes_on, none_fails}
use Rattle.v7_damage.proofs.WalkSteps.{no-marks}

pub sizes_short : (image : Image) → length image < 2 → passes (frame image) Sizes ≡ false
unfolding frame
sizes_short image short = ⊎_elim
    (λ (yes : passes (frame image) Sizes ≡ true). let h = sizes-passed (frame image) yes in let low = h.low in let above = h.above in let within = h.within in absurd (omega arith))
    (λ (no : passes (frame image) Sizes ≡ false). no)
    (cases_Bool (passes (frame image) Sizes))

pub sizes_fail : (f : Frame) → passes f Sizes ≡ false → told f (first_failing f (Sizes ∷ [])) ≡ Some (1, kind.Sizes)
sizes_fail f e = ap (told f) (fails_here f Sizes [] e)

pub sizes_hold : (f : Frame) → passes f Sizes ≡ true → first_failing f (Sizes ∷ []) ≡ None
sizes_hold f e = passes_on f Sizes [] e ∙ none_fails f

pub sizes_read : (image : Image) (s : Super) (bytes : List ℕ) (sectors : ℕ) (b : Bool) → s ≡ super_of bytes → bytes ≡ sector_at image 1 → sectors ≡ length image → b ≡ has_sizes s.mark s.s_isize s.s_fsize sectors
    → passes (frame image) Sizes ≡ b
sizes_read image s bytes sectors b read from count is =
    let s' : s ≡ super_of (sector_at image 1) = read ∙ ap super_of from in
    sizes-super image ∙ sym (is ∙ (λ z. has_sizes (s' z).mark (s' z).s_isize (s' z).s_fsize (count z)))

pub numbers_read : (image : Image) (s : Super) (inodes : ℕ) → s ≡ super_of (sector_at image 1) → inodes ≡ inodes_before s.s_isize → HasNumbers image s.s_isize s.s_fsize inodes
unfolding super_of
numbers_read image s inodes is count = record {
  starts = sym (ap (λ (x : Super). x.s_isize) is);
  ends = sym (ap (λ (x : Super). x.s_fsize) is);
  count = count;
}

pub inodes_read : (image : Image) (isize fsize inodes : ℕ) → HasNumbers image isize fsize inodes → inodes ≡ (tree (frame image)).inodes
unfolding frame
inodes_read image isize fsize inodes has = has.count ∙ sym (ap inodes_before has.starts)

pub seen_start : (marks : List Bool) (n : ℕ) → marks ≡ replicate n false → AreSeen marks []
unfolding is_among
seen_start marks n are = record { each = λ b some lt. ap (λ m. mark_at m b) are ∙ no-marks n b }

pub told_same : (f : Frame) (ts all : List Test) (e : RepairFault) → first_failing f all ≡ first_failing f ts → IsFaultTold f ts e → IsFaultTold f all e
told_same f ts all (Damaged sector which) same is = ap (told f) same ∙ is
told_same f ts all Failed same is = tt
told_same f ts all NoMemory same is = tt

-- each inode stands in a sector of the store
pub sector_stands : (mark isize fsize sectors inodes i : ℕ) → has_sizes mark isize fsize sectors ≡ true → inodes ≡ inodes_before isize → i ≤ inodes → inode_sector i < sectors
sector_stands mark isize fsize sectors inodes i sizes is le =
    let a = and_right (mark == 1) _ sizes in
    let low = leb-true 3 isize (and_left (leb 3 isize) _ a) in
    let b = and_right (leb isize 8193) _ (and_right (leb 3 isize) _ a) in
    let above = ltb-true isize fsize (and_left (ltb isize fsize) _ b) in
    let within = leb-true fsize sectors (and_left (leb fsize sectors) _ (and_right (ltb isize fsize) _ b)) in
    omega arith
