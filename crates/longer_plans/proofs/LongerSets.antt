-- What is free once a directory has new blocks, where the other blocks and the used inodes stay.
use Rattle.std.proofs.Common.{◌≡◌, ◌≢◌, ℕ, ◌+◌, Bool, false, List, [], ◌∷◌, length, set, refl, sym, ap, ◌∙◌, length-set}
use Rattle.stable.specs.Puts.{put_all}
use Rattle.stable.specs.Store.{Image}
use Rattle.v7_layout.specs.Numbers.{field}
use Rattle.v7_map.specs.Image.{inodes_before}
use Rattle.v7_map.specs.Frame.{Place, frame}
use Rattle.v7_map.specs.View.{view}
use Rattle.v7_map.specs.Weak.{IsWeak}
use Rattle.v7_plans.specs.Quiet.{AllMuted}
use Rattle.v7_sets.specs.Sets.{AreSetsOf}
use Rattle.v7_strokes.proofs.SetsAfter.{numbers-stay, sets-of, halves-of}
use Rattle.name_plans.specs.Taken.{taken, AreNewBlocks}
use Rattle.name_plans.proofs.CreatingSets.{blocks-of-directory}

length-taken : (blocks : List ℕ) (free : List Bool) → length (taken blocks free) ≡ length free
length-taken [] free = refl
length-taken (a ∷ rest) free = length-taken rest (set free a false) ∙ length-set free a false

-- puts that don't show leave the super-block's numbers
pub muted-sizes : (q : ℕ) (puts : List (ℕ × List ℕ)) (old : Image) → AllMuted q puts old → ((frame (put_all puts old)).isize ≡ (frame old).isize) × ((frame (put_all puts old)).fsize ≡ (frame old).fsize)
unfolding frame
muted-sizes q [] old h = (refl, refl)
muted-sizes q (put ∷ puts) old h = let r = muted-sizes q puts (set old put.0 put.1) h.1 in
    (r.0 ∙ ap (λ b. field b 0 2) h.0.same_first, r.1 ∙ ap (λ b. field b 2 4) h.0.same_first)

-- Directory p has its blocks at these places, all others stay, the same inodes are used, with the same generations.
pub record GetsBlocks (old new : Image) (p : ℕ) (target : Place → ℕ) : Type 0 where
  pub isize : (frame new).isize ≡ (frame old).isize
  pub fsize : (frame new).fsize ≡ (frame old).fsize
  pub others : (j : ℕ) → j ≢ p → (r : Place) → (frame new).address j r ≡ (frame old).address j r
  pub own : (r : Place) → (frame new).address p r ≡ target r
  pub kept : (r : Place) → (frame old).address p r ≢ 0 → target r ≡ (frame old).address p r
  pub used : (j : ℕ) → ((frame new).head j).is_used ≡ ((frame old).head j).is_used
  pub generations : (view new).generations ≡ (view old).generations

pub longer-sets : (old new : Image) (p : ℕ) (target : Place → ℕ) → IsWeak (frame old) → GetsBlocks old new p target → (added : List ℕ) → AreNewBlocks (frame old) p target added
    → (blocks inodes : List Bool) → AreSetsOf old blocks inodes → AreSetsOf new (taken added blocks) inodes
longer-sets old new p target weak x added fresh blocks inodes sets =
    let h = halves-of (frame old) (view old).generations blocks inodes sets in
    sets-of (frame new) (view new).generations (taken added blocks) inodes
    (length-taken added blocks ∙ sets.blocks_room ∙ sym x.fsize)
    (sets.inodes_room ∙ ap (λ q. inodes_before q + 1) (sym x.isize))
    (blocks-of-directory (frame old) (frame new) p target weak x.isize x.fsize x.others x.own x.kept added fresh blocks h.0)
    (numbers-stay (frame old) (frame new) (view old).generations (view new).generations inodes (record { isize = x.isize; used = x.used; same = x.generations }) h.1)
