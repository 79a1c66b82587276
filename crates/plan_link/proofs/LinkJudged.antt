-- What a LINK of files that stand comes to, by the records of an image with nothing to mend.
use Rattle.std.proofs.Common.{◌≡◌, ℕ, ◌/◌, ◌<◌, ◌≤◌, Bool, true, false, cond, not, ◌==◌, ◌||◌, List, [], ◌∷◌, length, slice_index_or, Option, Some, None, refl, sym, ap, ◌∙◌, arith, ltb}
use Rattle.std.proofs.lemmas.List.Folds.{list_any_at}
use Rattle.std.specs.List.{position, list_any}
use Rattle.files_model.specs.declared.attributes.Attr.{Attr}
use Rattle.files_model.specs.declared.attributes.FileId.{FileId}
use Rattle.files_model.specs.declared.reply.Stat.{Stat}
use Rattle.files_model.specs.declared.reply.Stat.TheVariants as stat
use Rattle.files_model.specs.Answers.{first_of}
use Rattle.files_model.specs.Names.{name_tests, has_name, is_bad, is_dots, most_name}
use Rattle.files_model.specs.Permission.{is_directory}
use Rattle.stable.specs.Store.{Image}
use Rattle.v7_entries.specs.declared.named.NamedSlot.{NamedSlot}
use Rattle.v7_map.specs.Frame.{frame}
use Rattle.v7_map.specs.Stored.{stored_attr, is_standing}
use Rattle.v7_map.specs.View.{view, node_at, kind_of}
use Rattle.v7_map.specs.Weak.{IsStrong}
use Rattle.v7_map.proofs.Standing.{live-standing}
use Rattle.v7_read.specs.Found.{IsFile}
use Rattle.name_places.specs.Places.{IsTakenBy, IsFreeAt, IsFreeAtEnd}
use Rattle.name_plans.proofs.CreatingAccepted.{first_none}
use Rattle.name_plans.proofs.CreatingInPlace.{not_no}
use Rattle.plan_name.specs.declared.making.Spot.{Spot}
use Rattle.plan_name.proofs.FoundDirectory.{found-live, found-read_only}
use Rattle.plan_link.specs.Judging.{RefusesLink, MayLink, LinksAtSpot, LinksPastSlots}
use Rattle.plan_link.specs.declared.judging.Ends.{Ends}
use Rattle.plan_link.proofs.LinkRow.{stale-file, stale-directory, refused-first, refused-taken}

clash : {b : Bool} → b ≡ true → b ≡ false → ⊥
clash {b = b} x y = cc

or_no : (a b : Bool) → (a || b) ≡ false → (a ≡ false) × (b ≡ false)
or_no true b e = absurd (cc)
or_no false b e = (refl, e)

not_less : (x y : ℕ) → ltb x y ≡ false → y ≤ x
not_less x y e = grind arith

-- a slot can have a name that passes
pub fits-name : (a b c : Bool) (name : List ℕ) → None ≡ first_of ((a, stat.Rofs) ∷ (b, stat.Isdir) ∷ (c, stat.Notdir) ∷ name_tests name)
    → (length name ≤ 14) × ((k d : ℕ) → k < length name → slice_index_or name k d ≡ 0 → ⊥)
fits-name a b c name h =
    let t1 = first_none a stat.Rofs ((b, stat.Isdir) ∷ (c, stat.Notdir) ∷ name_tests name) (sym h) in
    let t2 = first_none b stat.Isdir ((c, stat.Notdir) ∷ name_tests name) t1.1 in
    let t3 = first_none c stat.Notdir (name_tests name) t2.1 in
    let t4 = first_none (is_bad name || is_dots name) stat.Acces ((ltb most_name (length name), stat.Nametoolong) ∷ []) t3.1 in
    let t5 = first_none (ltb most_name (length name)) stat.Nametoolong [] t4.1 in
    let bad = (or_no (is_bad name) (is_dots name) t4.0).0 in
    let none = (or_no (length name == 0) (list_any (λ b. (b == 0) || (b == 47)) name) bad).1 in
    (not_less 14 (length name) t5.0, λ k d lt e. clash (list_any_at (λ b. (b == 0) || (b == 47)) name k d lt (ap (λ b. (b == 0) || (b == 47)) e)) none)

pub ends-stale_file : (image : Image) (file dir : FileId) → IsStrong (frame image) → is_standing image file ≡ false → (name : List ℕ) → RefusesLink image file dir name stat.Stale
ends-stale_file image file dir strong none name cred now = stale-file (view image) file dir name cred now (live-standing image strong file ∙ ap (λ b. cond b (Some (node_at image file.ino)) None) none)

pub ends-stale_directory : (image : Image) (file dir : FileId) → IsStrong (frame image) → is_standing image dir ≡ false → (name : List ℕ) → RefusesLink image file dir name stat.Stale
ends-stale_directory image file dir strong none name cred now = stale-directory (view image) file dir name cred now (live-standing image strong dir ∙ ap (λ b. cond b (Some (node_at image dir.ino)) None) none)

module _ (image : Image) (file dir : FileId) (name : List ℕ) (ends : Ends) (strong : IsStrong (frame image)) (at_file : IsFile image file ends.node) (at : IsFile image dir ends.directory) where
  stored_tests : first_of (((view image).read_only, stat.Rofs) ∷ (is_directory (node_at image file.ino).kind, stat.Isdir) ∷ (not (is_directory (node_at image dir.ino).kind), stat.Notdir) ∷ name_tests name)
      ≡ first_of ((ends.directory.read_only, stat.Rofs) ∷ (is_directory (kind_of (ends.node.inode.mode / 4096)), stat.Isdir) ∷ (not (is_directory (kind_of (ends.directory.inode.mode / 4096))), stat.Notdir) ∷ name_tests name)
  stored_tests = λ z. first_of ((found-read_only image dir ends.directory strong at z, stat.Rofs) ∷ (is_directory (kind_of ((sym at_file.inode z).mode / 4096)), stat.Isdir)
      ∷ (not (is_directory (kind_of ((sym at.inode z).mode / 4096))), stat.Notdir) ∷ name_tests name)

  -- what is tested of the attributes
  pub judged-tests : (one other : Attr) → one ≡ stored_attr file.ino ends.node.inode → other ≡ stored_attr dir.ino ends.directory.inode → (o : Option Stat)
      → o ≡ first_of ((ends.directory.read_only, stat.Rofs) ∷ (is_directory one.kind, stat.Isdir) ∷ (not (is_directory other.kind), stat.Notdir) ∷ name_tests name)
      → first_of (((view image).read_only, stat.Rofs) ∷ (is_directory (node_at image file.ino).kind, stat.Isdir) ∷ (not (is_directory (node_at image dir.ino).kind), stat.Notdir) ∷ name_tests name) ≡ o
  judged-tests one other a b o r = stored_tests ∙ sym (r ∙ (λ z. first_of ((ends.directory.read_only, stat.Rofs) ∷ (is_directory (a z).kind, stat.Isdir) ∷ (not (is_directory (b z).kind), stat.Notdir) ∷ name_tests name)))

  pub judged-refused : (status : Stat)
      → first_of (((view image).read_only, stat.Rofs) ∷ (is_directory (node_at image file.ino).kind, stat.Isdir) ∷ (not (is_directory (node_at image dir.ino).kind), stat.Notdir) ∷ name_tests name) ≡ Some status
      → RefusesLink image file dir name status
  judged-refused status e cred now =
      refused-first (view image) file dir name cred now (node_at image file.ino) (node_at image dir.ino) (found-live image file ends.node strong at_file) (found-live image dir ends.directory strong at) status e

  module _ (passed : first_of (((view image).read_only, stat.Rofs) ∷ (is_directory (node_at image file.ino).kind, stat.Isdir) ∷ (not (is_directory (node_at image dir.ino).kind), stat.Notdir) ∷ name_tests name) ≡ None) where
    pub judged-kind : is_directory (node_at image dir.ino).kind ≡ true
    judged-kind =
        let a = first_none (view image).read_only stat.Rofs ((is_directory (node_at image file.ino).kind, stat.Isdir) ∷ (not (is_directory (node_at image dir.ino).kind), stat.Notdir) ∷ name_tests name) passed in
        let b = first_none (is_directory (node_at image file.ino).kind) stat.Isdir ((not (is_directory (node_at image dir.ino).kind), stat.Notdir) ∷ name_tests name) a.1 in
        let c = first_none (not (is_directory (node_at image dir.ino).kind)) stat.Notdir (name_tests name) b.1 in not_no (is_directory (node_at image dir.ino).kind) c.0

    may : position (has_name name) (node_at image dir.ino).slots ≡ None → MayLink image file dir name (node_at image file.ino) (node_at image dir.ino)
    may absent = record { live_file = found-live image file ends.node strong at_file; live = found-live image dir ends.directory strong at; tests = passed; absent = absent }

    pub judged-taken : (slot : NamedSlot) → IsTakenBy image dir.ino name (node_at image dir.ino) slot → RefusesLink image file dir name stat.Exist
    judged-taken slot taken cred now =
        refused-taken (view image) file dir name cred now (node_at image file.ino) (node_at image dir.ino) (found-live image file ends.node strong at_file) (found-live image dir ends.directory strong at) passed slot.slot taken.first

    pub judged-spot : (spot : Spot) → IsFreeAt image dir name (node_at image dir.ino) spot → LinksAtSpot image file dir name (record { directory = dir; index = spot.index; sector = spot.sector })
    judged-spot spot free = record { may = may free.absent; place = free.place; inside = free.inside; sector = free.sector }

    pub judged-end : IsFreeAtEnd name (node_at image dir.ino) → LinksPastSlots image file dir name
    judged-end free = record { may = may free.absent; full = free.full }
