-- What is free stays, where blocks and used inodes stay.
use Rattle.std.proofs.Common.{◌≡◌, ℕ, ◌+◌, ◌<◌, ◌≤◌, Bool, List, sym, ap, subst, ◌∙◌}
use Rattle.stable.specs.Store.{Image}
use Rattle.v7_map.specs.Image.{inodes_before}
use Rattle.v7_map.specs.Frame.{Frame, Place, frame}
use Rattle.v7_map.specs.View.{view}
use Rattle.v7_sets.specs.Sets.{AreSetsOf}
use Rattle.v7_strokes.specs.FreeSets.{HoldsBlocks}
use Rattle.v7_strokes.proofs.SetsAfter.{numbers-stay, sets-of, halves-of}

pub blocks-stay : (f g : Frame) (blocks : List Bool) → g.isize ≡ f.isize → g.fsize ≡ f.fsize → ((j : ℕ) (p : Place) → g.address j p ≡ f.address j p) → HoldsBlocks f blocks → HoldsBlocks g blocks
blocks-stay f g blocks isize fsize address holds = record {
  free = λ b h. let was = holds.free b h in record {
    low = subst (λ n. n ≤ b) (sym isize) was.low;
    high = subst (λ n. b < n) (sym fsize) was.high;
    nowhere = λ j p e. was.nowhere j p (sym (address j p) ∙ e);
  };
  each = λ b free. holds.each b (record {
    low = subst (λ n. n ≤ b) isize free.low;
    high = subst (λ n. b < n) fsize free.high;
    nowhere = λ j p e. free.nowhere j p (address j p ∙ e);
  });
}

-- the same blocks stand where they stood, the same inodes are used, with the same generations
pub sets-stay : (old new : Image) (blocks inodes : List Bool) → ((frame new).isize ≡ (frame old).isize) × ((frame new).fsize ≡ (frame old).fsize) → ((j : ℕ) (p : Place) → (frame new).address j p ≡ (frame old).address j p)
    → ((j : ℕ) → ((frame new).head j).is_used ≡ ((frame old).head j).is_used) → (view new).generations ≡ (view old).generations → AreSetsOf old blocks inodes → AreSetsOf new blocks inodes
sets-stay old new blocks inodes sizes address used generations sets =
    let h = halves-of (frame old) (view old).generations blocks inodes sets in
    sets-of (frame new) (view new).generations blocks inodes
    (sets.blocks_room ∙ sym sizes.1)
    (sets.inodes_room ∙ ap (λ q. inodes_before q + 1) (sym sizes.0))
    (blocks-stay (frame old) (frame new) blocks sizes.0 sizes.1 address h.0)
    (numbers-stay (frame old) (frame new) (view old).generations (view new).generations inodes (record { isize = sizes.0; used = used; same = generations }) h.1)
