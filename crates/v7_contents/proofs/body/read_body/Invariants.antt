use Rattle.std.proofs.Common.{◌≡◌, ◌-◌, ◌*◌, ◌<◌, ℕ, get_or, min, take, drop}
use Rattle.std.specs.Prelude.{vec_len}
use Rattle.stable.specs.Looked.{Looked}
use Rattle.v7_map.specs.Image.{IsImage}
use Rattle.v7_map.specs.Stored.{sector_in, stored_content}
use Rattle.v7_contents.proofs.body.read_body.Given as goal

abbrev pub invariant-loop-index : goal.invariant-loop-index
invariant-loop-index g l =
    let S = g.S.Stable in
    record {
      read : S.tells → IsImage (S.image l.fn.store) → ((k : ℕ) → k < 138 → get_or l.places.body k 0 ≡ sector_in (S.image l.fn.store) l.inode k) → l.bytes.items ≡ take (min (512 * l.index) l.end - l.offset) (drop l.offset (stored_content (S.image l.fn.store) l.inode));
      long : vec_len l.bytes ≡ min (512 * l.index) l.end - l.offset;
      looked : Looked S l.fn.store l.store;
    }
