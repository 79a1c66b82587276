-- What a view and a frame have from the super-block.
use Rattle.std.proofs.Common.{◌≡◌, Bool, true, false, not, ◌&&◌, ◌==◌, length, refl, leb, ltb, eq-eqb}
use Rattle.std.proofs.lemmas.Bool.{leb-true, ltb-true, eqb-true, le-leb, lt-ltb}
use Rattle.v7_layout.specs.Records.{super_of}
use Rattle.stable.specs.Store.{Image}
use Rattle.v7_map.specs.Image.{sector_at}
use Rattle.v7_map.specs.Frame.{Frame, frame}
use Rattle.v7_map.specs.Weak.{HasSizes}
use Rattle.v7_map.specs.Damage.{Sizes, passes, has_sizes}
use Rattle.v7_map.specs.View.{view, files_of}
use Rattle.v7_map.proofs.Frames.{and_left, and_right}

-- a volume is read-only where `s_ronly` isn't 0
pub view-read_only : (image : Image) → (view image).read_only ≡ not ((super_of (sector_at image 1)).s_ronly == 0)
unfolding view files_of super_of
view-read_only image = refl

-- the test of the super-block reads its numbers
pub sizes-super : (image : Image) → passes (frame image) Sizes ≡ has_sizes (super_of (sector_at image 1)).mark (super_of (sector_at image 1)).s_isize (super_of (sector_at image 1)).s_fsize (length image)
unfolding frame super_of
sizes-super image = refl

both : (a b : Bool) → a ≡ true → b ≡ true → (a && b) ≡ true
both true b e h = h
both false b e h = absurd (cc)

-- the test passes where the numbers are those of a volume
pub sizes-passed : (f : Frame) → passes f Sizes ≡ true → HasSizes f
sizes-passed f e =
    let low = and_right (f.mark == 1) _ e in
    let high = and_right (leb 3 f.isize) _ low in
    let above = and_right (leb f.isize 8193) _ high in
    let within = and_right (ltb f.isize f.fsize) _ above in
    record {
      mark = eqb-true f.mark 1 (and_left _ _ e);
      low = leb-true 3 f.isize (and_left _ _ low);
      high = leb-true f.isize 8193 (and_left _ _ high);
      above = ltb-true f.isize f.fsize (and_left _ _ above);
      within = leb-true f.fsize f.sectors (and_left _ _ within);
      not_huge = leb-true f.fsize 1048576 (and_right _ _ within);
    }

pub sizes-pass : (f : Frame) → HasSizes f → passes f Sizes ≡ true
sizes-pass f h =
    both _ _ (eq-eqb f.mark 1 h.mark) (both _ _ (le-leb 3 f.isize h.low) (both _ _ (le-leb f.isize 8193 h.high)
    (both _ _ (lt-ltb f.isize f.fsize h.above) (both _ _ (le-leb f.fsize f.sectors h.within) (le-leb f.fsize 1048576 h.not_huge)))))
