-- What puts past the super-block leave.
use Rattle.std.proofs.Common.{◌≡◌, ℕ, ◌≤◌, true, leb, ◌&&◌, List, ◌∙◌, arith}
use Rattle.std.proofs.lemmas.Bool.{le-leb}
use Rattle.std.specs.List.{AllByRecursion}
use Rattle.v7_layout.specs.Numbers.{field}
use Rattle.stable.specs.Puts.{put_all}
use Rattle.stable.specs.Store.{Image}
use Rattle.v7_map.specs.Frame.{frame}
use Rattle.v7_map.specs.Image.{is_inode, isize_of, inodes_before}
use Rattle.v7_map.proofs.Puts.{put_all-below}

-- an inode stays one of the volume's
pub still : (image : Image) (puts : List (ℕ × List ℕ)) (i : ℕ) → AllByRecursion (λ (p : ℕ × List ℕ). 2 ≤ p.0) puts → is_inode image i ≡ true → is_inode (put_all puts image) i ≡ true
still image puts i past inside = (λ z. leb 1 i && leb i (inodes_before (field (put_all-below puts image 2 1 past (omega arith) z) 0 2))) ∙ inside

pub is_number : (image : Image) (j : ℕ) → 1 ≤ j → j ≤ inodes_before (frame image).isize → is_inode image j ≡ true
unfolding frame
is_number image j low high = (λ z. le-leb 1 j low z && le-leb j (inodes_before (isize_of image)) high z)
