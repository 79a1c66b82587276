-- A put of a data block that stands at no place: where things are stays, and what the image stands for.
use Rattle.std.proofs.Common.{◌≡◌, ◌≢◌, ℕ, ◌-◌, ◌≤◌, cond, List, [], set, ap, ◌∙◌, arith, eqb, length-set, get_or-set_other, Some, None}
use Rattle.std.specs.FinMap.{empty}
use Rattle.files_model.specs.Files.{clipped}
use Rattle.files_model.proofs.Maps.{tabulated_same}
use Rattle.v7_map.specs.Image.{sector_at, isize_of, inode_at, is_read_only}
use Rattle.stable.specs.Store.{Image}
use Rattle.v7_map.specs.Frame.{Place, Body, head_of, is_directory, frame}
use Rattle.v7_map.specs.Tree.{tree}
use Rattle.v7_map.specs.Weak.{IsWeak}
use Rattle.v7_map.specs.View.{view, files_of, body_of, body_at}
use Rattle.v7_map.proofs.Frames.{KeepsFrame, same_frame}
use Rattle.v7_map.proofs.Data.{same_inode}

module _ (old : Image) (a : ℕ) (bytes : List ℕ) (weak : IsWeak (frame old)) (above : isize_of old ≤ a) (unheld : (j : ℕ) (p : Place) → (frame old).address j p ≢ a) where
  new : Image
  new = set old a bytes

  other : (s : ℕ) → s ≢ a → sector_at new s ≡ sector_at old s
  unfolding new
  other s ne = get_or-set_other old a s bytes [] ne

  first : sector_at new 1 ≡ sector_at old 1
  unfolding frame
  first = let low = weak.sizes.low in other 1 (λ e. omega arith)

  inodes_same : (j : ℕ) → inode_at new j ≡ inode_at old j
  inodes_same j = same_inode old new first (λ s _ lt. other s (λ e. omega arith)) j

  keeps : KeepsFrame old new
  unfolding new
  keeps = record {
    length = length-set old a bytes;
    first = first;
    heads = λ j. ap head_of (inodes_same j);
    maps = λ j p _ nonzero. other ((frame old).address j p) (unheld j p);
    directories = λ j k _ lt. other ((frame old).address j (Body k)) (unheld j (Body k));
  }

  pub unheld-frame : frame (set old a bytes) ≡ frame old
  unfolding new
  unheld-frame = same_frame old new keeps

  same_body : (j : ℕ) → body_at new (frame old) j ≡ body_at old (frame old) j
  unfolding body_of
  same_body j = ap (cond (is_directory ((frame old).head j)) empty) (tabulated_same _ _ _ (λ q lt.
      ap (λ s. cond (eqb ((frame old).address j (Body q)) 0) None (Some (clipped ((frame old).head j).size q s))) (other ((frame old).address j (Body q)) (unheld j (Body q)))))

  pub unheld-view : view (set old a bytes) ≡ view old
  unfolding view new
  unheld-view =
      (λ z. files_of (tree (unheld-frame z)) ((unheld-frame z).fsize - (unheld-frame z).isize) (λ j. inodes_same j z) (body_at new (unheld-frame z)) (is_read_only (first z)))
      ∙ (λ z. files_of (tree (frame old)) ((frame old).fsize - (frame old).isize) (inode_at old) (λ j. same_body j z) (is_read_only (sector_at old 1)))
