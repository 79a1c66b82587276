-- A CREATE is planned, or refused.
use Rattle.std.proofs.Common.{◌≡◌, ℕ, Bool, false, if◌then◌else◌, List, [], Some, None, ap, ◌∙◌}
use Rattle.std.specs.List.{position}
use Rattle.files_model.specs.declared.attributes.Attr.{Attr}
use Rattle.files_model.specs.declared.attributes.FileId.{FileId}
use Rattle.files_model.specs.declared.attributes.Sattr.{Sattr}
use Rattle.files_model.specs.declared.reply.Stat.TheVariants as stat
use Rattle.files_model.specs.Answers.{at_live, unless, first_of, attr_of}
use Rattle.files_model.specs.Files.{Node}
use Rattle.files_model.specs.NameRows.{create_row, create_at, create_tests}
use Rattle.files_model.specs.Names.{has_name}
use Rattle.stable.specs.Store.{Image}
use Rattle.v7_map.specs.Frame.{frame}
use Rattle.v7_map.specs.Stored.{is_standing}
use Rattle.v7_map.specs.View.{view, node_at}
use Rattle.v7_map.specs.Weak.{IsStrong}
use Rattle.v7_map.proofs.Standing.{live-standing}
use Rattle.v7_sets.specs.Sets.{AreSetsOf}
use Rattle.plan_name.specs.Creations.{RefusesCreation, IsFreeIn}
use Rattle.plan_name.specs.Judging.{IsTold}

pub creation-stale : (image : Image) (dir : FileId) (name : List ℕ) (wanted : Sattr) → IsStrong (frame image) → is_standing image dir ≡ false → RefusesCreation image dir name wanted stat.Stale
unfolding create_row
creation-stale image dir name wanted strong stale cred now =
    ap (λ o. at_live (view image) o (λ d. unless (view image) (first_of (create_tests (view image) d name wanted)) (create_at (view image) dir.ino d name wanted cred now (position (has_name name) d.slots))))
    (live-standing image strong dir ∙ ap (λ b. if b then Some (node_at image dir.ino) else None) stale)

-- what is told of a directory in which the name is free
pub told-free : (image : Image) (dir : FileId) (name : List ℕ) (wanted : Sattr) (at_end : Bool) (d : Node) (attr : Attr) (blocks inodes : List Bool) → IsStrong (frame image) → AreSetsOf image blocks inodes
    → IsFreeIn image dir name wanted at_end d → attr ≡ attr_of dir.ino d → IsTold image dir.ino d attr at_end blocks inodes
told-free image dir name wanted at_end d attr blocks inodes strong are f e = record { strong = strong; sets = are; at = f.at; kind = f.kind; is = e; end = f.end }
