-- The refusals by attributes are those of the row.
use Rattle.std.proofs.Common.{◌≡◌, ℕ, ◌+◌, ◌-◌, ◌/◌, ◌%◌, Bool, true, false, cond, not, ◌&&◌, ◌||◌, ◌==◌, List, [], ◌∷◌, ◌++◌, length, Option, Some, None, is_some, is_none, refl, sym, ap, ◌∙◌, arith, ltb}
use Rattle.std.specs.FinMap.{get}
use Rattle.files_model.specs.declared.attributes.Attr.{Attr}
use Rattle.files_model.specs.declared.attributes.Kind.{Kind}
use Rattle.files_model.specs.declared.credential.Cred.{Cred}
use Rattle.files_model.specs.declared.permission.Want.TheVariants as want
use Rattle.files_model.specs.declared.reply.Stat.{Stat}
use Rattle.files_model.specs.declared.reply.Stat.TheVariants as stat
use Rattle.files_model.specs.Answers.{attr_of, first_of}
use Rattle.files_model.specs.Files.{Node, Files, live}
use Rattle.files_model.specs.NameRows.{rename_tests, renamed_in, standing_at, is_directory_at}
use Rattle.files_model.specs.Names.{number_at, place_for, name_tests}
use Rattle.files_model.specs.Permission.{allows, is_directory}
use Rattle.files_model.specs.Space.{size_limit, node_usage, usage}
use Rattle.index_sets.specs.Free.{count_free}
use Rattle.name_places.specs.Places.{IsTakenBy}
use Rattle.stable.specs.Store.{Image}
use Rattle.v7_entries.specs.declared.named.NamedSlot.{NamedSlot}
use Rattle.v7_map.specs.Frame.{frame}
use Rattle.v7_map.specs.Image.{inode_at}
use Rattle.v7_map.specs.Stored.{stored_attr}
use Rattle.v7_map.specs.View.{view, node_at, kind_of}
use Rattle.v7_map.specs.Weak.{IsStrong}
use Rattle.v7_map.proofs.Nodes.{live-node}
use Rattle.v7_map.proofs.Standing.{attr_of-stored, node-is}
use Rattle.v7_sets.specs.Sets.{AreSetsOf}
use Rattle.v7_space.proofs.Space.{free_blocks-counted}
use Rattle.v7_strokes.proofs.Directories.{StandsDir, stands-dir}
use Rattle.name_plans.proofs.CreatingAccepted.{first_none}
use Rattle.name_plans.proofs.CreatingInPlace.{not_no}
use Rattle.plan_name.specs.Growth.{added_blocks}
use Rattle.plan_name.proofs.DirectoryUsage.{entry-added, entry-size}
use Rattle.plan_rename.specs.Found.{FindsOld, told_of}
use Rattle.plan_rename.specs.Refusals.{told_tests, is_directory_kind, longer_size, blocks_needed}
use Rattle.plan_rename.specs.declared.judging.Ends.{Ends}
use Rattle.plan_rename.specs.declared.judging.OldName.{OldName}

flip : (X : Type 0) (b : Bool) (x y : X) → cond (not b) x y ≡ cond b y x
flip X true x y = refl
flip X false x y = refl

-- a test that holds of nothing where b holds
skipped : (a b c d e : Bool) (f x y : Bool) → first_of ((a, stat.Exist) ∷ (b, stat.Perm) ∷ (c, stat.Isdir) ∷ (d, stat.Acces) ∷ (e, stat.Acces) ∷ cond f [] ((x, stat.Fbig) ∷ (y, stat.Nospc) ∷ []))
    ≡ first_of ((a, stat.Exist) ∷ (b, stat.Perm) ∷ (c, stat.Isdir) ∷ (d, stat.Acces) ∷ (e, stat.Acces) ∷ (not f && x, stat.Fbig) ∷ (not f && y, stat.Nospc) ∷ [])
skipped a b c d e true x y = refl
skipped a b c d e false x y = refl

nothing : (a : ℕ) → 0 ≡ a - a
nothing a = omega arith

module _ (image : Image) (ends : Ends) (name new_name : List ℕ) (old : OldName) (blocks inodes : List Bool) (strong : IsStrong (frame image)) (are : AreSetsOf image blocks inodes)
    (x : FindsOld image ends name new_name old) (cred : Cred) (now : ℕ) where
  abbrev p : Node
  p = node_at image ends.from.ino

  abbrev q : Node
  q = node_at image ends.to.ino

  abbrev i : ℕ
  i = old.slot.ino

  abbrev n : Node
  n = node_at image old.slot.ino

  node_attr : stored_attr i old.inode ≡ attr_of i n
  node_attr = ap (stored_attr i) x.inode ∙ sym (attr_of-stored image strong i x.slot.used)

  counted : count_free blocks ≡ (view image).blocks - usage (view image)
  counted = free_blocks-counted image blocks inodes strong are

  pub told-kinds : (is_directory p.kind ≡ true) × (is_directory q.kind ≡ true)
  told-kinds =
      let a = first_none (view image).read_only stat.Rofs ((not (is_directory p.kind), stat.Notdir) ∷ (not (is_directory q.kind), stat.Notdir) ∷ name_tests name ++ name_tests new_name) x.tests in
      let b = first_none (not (is_directory p.kind)) stat.Notdir ((not (is_directory q.kind), stat.Notdir) ∷ name_tests name ++ name_tests new_name) a.1 in
      let e = first_none (not (is_directory q.kind)) stat.Notdir (name_tests name ++ name_tests new_name) b.1 in (not_no (is_directory p.kind) b.0, not_no (is_directory q.kind) e.0)

  s : StandsDir image ends.to.ino q
  s = stands-dir image ends.to.ino q strong.weak (live-node (view image) ends.to q x.live_to) told-kinds.1

  module _ (o : Option ℕ) (standing : Option Kind) (at_end : Bool) (some : is_some standing ≡ is_some o) (none : is_none standing ≡ is_none o) (kind : is_directory_kind standing ≡ is_directory_at (standing_at (view image) q o))
      (long : longer_size q.size at_end ≡ (renamed_in q None o now).size) (more : blocks_needed q.size at_end ≡ node_usage (renamed_in q (Some (i, new_name)) o now) - node_usage q) where
    row : first_of (told_tests (told_of ends old standing at_end) (count_free blocks) cred) ≡ first_of (rename_tests (view image) ends.from p ends.to q o new_name i n cred now)
    row = (λ z. first_of ((is_directory (node_attr z).kind && some z, stat.Exist) ∷ (is_directory (node_attr z).kind && not (ends.from.ino == ends.to.ino), stat.Perm) ∷ (kind z, stat.Isdir)
        ∷ (not (allows cred (x.from_attr z) want.Write && allows cred (x.from_attr z) want.Search), stat.Acces) ∷ (not (allows cred (x.to_attr z) want.Write && allows cred (x.to_attr z) want.Search), stat.Acces)
        ∷ cond ((ends.from.ino == ends.to.ino) && none z) [] ((ltb size_limit (longer_size (x.to_attr z).size at_end), stat.Fbig) ∷ (((node_attr z).nlink == 65535) || ltb (counted z) (blocks_needed (x.to_attr z).size at_end), stat.Nospc) ∷ [])))
        ∙ (λ z. first_of ((is_directory n.kind && is_some o, stat.Exist) ∷ (is_directory n.kind && not (ends.from.ino == ends.to.ino), stat.Perm) ∷ (is_directory_at (standing_at (view image) q o), stat.Isdir)
        ∷ (not (allows cred (attr_of ends.from.ino p) want.Write && allows cred (attr_of ends.from.ino p) want.Search), stat.Acces) ∷ (not (allows cred (attr_of ends.to.ino q) want.Write && allows cred (attr_of ends.to.ino q) want.Search), stat.Acces)
        ∷ cond ((ends.from.ino == ends.to.ino) && is_none o) [] ((ltb size_limit (long z), stat.Fbig) ∷ ((n.nlink == 65535) || ltb ((view image).blocks - usage (view image)) (more z), stat.Nospc) ∷ [])))
        ∙ skipped (is_directory n.kind && is_some o) (is_directory n.kind && not (ends.from.ino == ends.to.ino)) (is_directory_at (standing_at (view image) q o))
        (not (allows cred (attr_of ends.from.ino p) want.Write && allows cred (attr_of ends.from.ino p) want.Search)) (not (allows cred (attr_of ends.to.ino q) want.Write && allows cred (attr_of ends.to.ino q) want.Search))
        ((ends.from.ino == ends.to.ino) && is_none o) (ltb size_limit (renamed_in q None o now).size)
        ((n.nlink == 65535) || ltb ((view image).blocks - usage (view image)) (node_usage (renamed_in q (Some (i, new_name)) o now) - node_usage q))

  -- the new name is free
  pub told-free : (at_end : Bool) → at_end ≡ not (ltb (place_for q.slots) (length q.slots)) → first_of (told_tests (told_of ends old None at_end) (count_free blocks) cred) ≡ first_of (rename_tests (view image) ends.from p ends.to q None new_name i n cred now)
  told-free at_end e = row None None at_end refl refl refl
      ((λ z. cond (e z) (q.size + 16) q.size) ∙ flip ℕ (ltb (place_for q.slots) (length q.slots)) (q.size + 16) q.size ∙ sym (entry-size q None now))
      ((λ z. cond (e z) (added_blocks q.size) 0) ∙ flip ℕ (ltb (place_for q.slots) (length q.slots)) (added_blocks q.size) 0 ∙ sym (entry-added q (Some (i, new_name)) now told-kinds.1 s.even))

  -- the new name stands
  pub told-standing : (slot : NamedSlot) (kind : Kind) → IsTakenBy image ends.to.ino new_name q slot → kind ≡ kind_of ((inode_at image slot.ino).mode / 4096)
      → first_of (told_tests (told_of ends old (Some kind) false) (count_free blocks) cred) ≡ first_of (rename_tests (view image) ends.from p ends.to q (Some slot.slot) new_name i n cred now)
  told-standing slot kind t e = row (Some slot.slot) (Some kind) false refl refl
      (ap is_directory e ∙ ap (λ (a : Attr). is_directory a.kind) (sym (attr_of-stored image strong slot.ino t.used))
      ∙ ap is_directory_at (sym (ap (get (view image).nodes) t.number ∙ node-is image strong slot.ino t.inode ∙ ap (λ b. cond b (Some (node_at image slot.ino)) None) t.used)))
      refl (nothing (node_usage q))
