-- What is found of the directories and of the old name of a RENAME, by the records of an image with nothing to mend.
use Rattle.std.proofs.Common.{◌≡◌, ◌≢◌, ℕ, ◌/◌, true, cond, not, List, [], ◌∷◌, ◌++◌, Option, Some, None, refl, sym, ap, ◌∙◌, arith}
use Rattle.std.specs.List.{position}
use Rattle.files_model.specs.declared.credential.Cred.{Cred}
use Rattle.files_model.specs.declared.reply.Reply.TheVariants as reply
use Rattle.files_model.specs.declared.reply.Stat.{Stat}
use Rattle.files_model.specs.declared.reply.Stat.TheVariants as stat
use Rattle.files_model.specs.Answers.{first_of}
use Rattle.files_model.specs.declared.attributes.FileId.{FileId}
use Rattle.files_model.specs.declared.attributes.Kind.{Kind}
use Rattle.files_model.specs.Files.{Node, live}
use Rattle.files_model.specs.Names.{has_name, name_tests}
use Rattle.files_model.specs.Permission.{is_directory}
use Rattle.name_places.specs.Places.{IsTakenBy, IsNamePlace}
use Rattle.name_places.specs.declared.place.NamePlace.{NamePlace}
use Rattle.name_places.specs.declared.place.NamePlace.TheVariants as place
use Rattle.name_plans.proofs.CreatingAccepted.{first_none}
use Rattle.name_plans.proofs.CreatingInPlace.{not_no}
use Rattle.plan_name.proofs.FoundDirectory.{found-live, found-attr, found-read_only}
use Rattle.stable.specs.Store.{Image}
use Rattle.v7_entries.specs.declared.named.NamedSlot.{NamedSlot}
use Rattle.v7_layout.specs.declared.inode.Inode.{Inode}
use Rattle.v7_map.specs.Frame.{frame}
use Rattle.v7_map.specs.Image.{inode_at}
use Rattle.v7_map.specs.Stored.{stored_attr}
use Rattle.v7_map.specs.View.{view, node_at, kind_of}
use Rattle.v7_map.specs.Weak.{IsStrong}
use Rattle.v7_map.proofs.Standing.{node-is}
use Rattle.rename_puts.proofs.Numbers.{node-positive}
use Rattle.plan_rename.specs.Found.{AreFound, FindsOld, call_of}
use Rattle.plan_rename.specs.Renames.{Answers}
use Rattle.plan_rename.specs.declared.judging.Ends.{Ends}
use Rattle.plan_rename.specs.declared.judging.OldName.{OldName}
use Rattle.plan_rename.proofs.Row.{row-refused, row-absent}

-- a name that no slot has
pub not-taken : (image : Image) (dir : FileId) (name : List ℕ) (d : Node) (p : NamePlace) → ((slot : NamedSlot) → p ≡ place.Taken slot → ⊥) → IsNamePlace image dir name d p → position (has_name name) d.slots ≡ None
not-taken image dir name d (place.Taken slot) never x = absurd (never slot refl)
not-taken image dir name d (place.Empty spot) never x = x.absent
not-taken image dir name d place.End never x = x.absent

-- what has a name has a number
pub taken-some : (image : Image) (p : ℕ) (name : List ℕ) (d : Node) (slot : NamedSlot) → IsStrong (frame image) → IsTakenBy image p name d slot → slot.ino ≢ 0
taken-some image p name d slot strong t e =
    let low = node-positive image slot.ino (node_at image slot.ino) strong (node-is image strong slot.ino t.inode ∙ ap (λ b. cond b (Some (node_at image slot.ino)) None) t.used) in absurd (omega arith)

module _ (image : Image) (ends : Ends) (name new_name : List ℕ) (strong : IsStrong (frame image)) (found : AreFound image ends) where
  live_from : live (view image) ends.from ≡ Some (node_at image ends.from.ino)
  live_from = found-live image ends.from ends.from_found strong found.from

  live_to : live (view image) ends.to ≡ Some (node_at image ends.to.ino)
  live_to = found-live image ends.to ends.to_found strong found.to

  -- the tests before a name is looked up, by what is found
  abbrev pub found_tests : Option Stat
  found_tests = first_of ((ends.from_found.read_only, stat.Rofs) ∷ (not (is_directory (kind_of (ends.from_found.inode.mode / 4096))), stat.Notdir) ∷ (not (is_directory (kind_of (ends.to_found.inode.mode / 4096))), stat.Notdir) ∷ name_tests name ++ name_tests new_name)

  tests : first_of (((view image).read_only, stat.Rofs) ∷ (not (is_directory (node_at image ends.from.ino).kind), stat.Notdir) ∷ (not (is_directory (node_at image ends.to.ino).kind), stat.Notdir) ∷ name_tests name ++ name_tests new_name) ≡ found_tests
  tests = (λ z. first_of ((found-read_only image ends.from ends.from_found strong found.from z, stat.Rofs) ∷ (not (is_directory (kind_of ((sym found.from.inode z).mode / 4096))), stat.Notdir)
      ∷ (not (is_directory (kind_of ((sym found.to.inode z).mode / 4096))), stat.Notdir) ∷ name_tests name ++ name_tests new_name))

  -- by the kinds that a function was told
  pub found-by : (a b : Kind) (o : Option Stat) → a ≡ kind_of (ends.from_found.inode.mode / 4096) → b ≡ kind_of (ends.to_found.inode.mode / 4096)
      → o ≡ first_of ((ends.from_found.read_only, stat.Rofs) ∷ (not (is_directory a), stat.Notdir) ∷ (not (is_directory b), stat.Notdir) ∷ name_tests name ++ name_tests new_name) → found_tests ≡ o
  found-by a b o is_a is_b e = (λ z. first_of ((ends.from_found.read_only, stat.Rofs) ∷ (not (is_directory (sym is_a z)), stat.Notdir) ∷ (not (is_directory (sym is_b z)), stat.Notdir) ∷ name_tests name ++ name_tests new_name)) ∙ sym e

  pub found-refused : (cred : Cred) (now : ℕ) (status : Stat) → found_tests ≡ Some status → Answers image (call_of ends name new_name cred) now (reply.Refused status)
  found-refused cred now status e = row-refused (view image) ends.from ends.to name new_name cred now (node_at image ends.from.ino) (node_at image ends.to.ino) live_from live_to status (tests ∙ e)

  module _ (passed : found_tests ≡ None) where
    -- both are directories
    pub found-kinds : (is_directory (node_at image ends.from.ino).kind ≡ true) × (is_directory (node_at image ends.to.ino).kind ≡ true)
    found-kinds =
        let a = first_none (view image).read_only stat.Rofs ((not (is_directory (node_at image ends.from.ino).kind), stat.Notdir) ∷ (not (is_directory (node_at image ends.to.ino).kind), stat.Notdir) ∷ name_tests name ++ name_tests new_name) (tests ∙ passed) in
        let b = first_none (not (is_directory (node_at image ends.from.ino).kind)) stat.Notdir ((not (is_directory (node_at image ends.to.ino).kind), stat.Notdir) ∷ name_tests name ++ name_tests new_name) a.1 in
        let e = first_none (not (is_directory (node_at image ends.to.ino).kind)) stat.Notdir (name_tests name ++ name_tests new_name) b.1 in
        (not_no (is_directory (node_at image ends.from.ino).kind) b.0, not_no (is_directory (node_at image ends.to.ino).kind) e.0)

    pub found-absent : (cred : Cred) (now : ℕ) → position (has_name name) (node_at image ends.from.ino).slots ≡ None → Answers image (call_of ends name new_name cred) now (reply.Refused stat.Noent)
    found-absent cred now e = row-absent (view image) ends.from ends.to name new_name cred now (node_at image ends.from.ino) (node_at image ends.to.ino) live_from live_to (tests ∙ passed) e

    pub found-old : (slot : NamedSlot) (inode : Inode) → IsTakenBy image ends.from.ino name (node_at image ends.from.ino) slot → inode ≡ inode_at image slot.ino → FindsOld image ends name new_name (record { slot = slot; inode = inode })
    found-old slot inode taken is = record {
      live_from = live_from;
      live_to = live_to;
      tests = tests ∙ passed;
      slot = taken;
      inode = is;
      from_attr = ap (stored_attr ends.from.ino) found.from.inode ∙ sym (found-attr image ends.from ends.from_found strong found.from);
      to_attr = ap (stored_attr ends.to.ino) found.to.inode ∙ sym (found-attr image ends.to ends.to_found strong found.to);
      to_inode = found.to.inode;
    }

    pub found-live_from : live (view image) ends.from ≡ Some (node_at image ends.from.ino)
    found-live_from = live_from

    pub found-live_to : live (view image) ends.to ≡ Some (node_at image ends.to.ino)
    found-live_to = live_to
