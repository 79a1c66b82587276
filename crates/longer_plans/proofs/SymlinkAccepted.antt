-- What the step of an accepted SYMLINK is, and what is known of its nodes.
use Rattle.std.proofs.Common.{◌≡◌, ℕ, ◌+◌, ◌-◌, ◌≤◌, not, ◌||◌, List, [], ◌∷◌, length, Some, is_some, refl, sym, ap, subst, ◌∙◌, arith, ltb}
use Rattle.files_model.specs.declared.attributes.FileId.{FileId}
use Rattle.files_model.specs.declared.attributes.Sattr.{Sattr}
use Rattle.files_model.specs.declared.credential.Cred.{Cred}
use Rattle.files_model.specs.declared.call.Call.TheVariants as call
use Rattle.files_model.specs.declared.reply.Reply.{Reply}
use Rattle.files_model.specs.declared.reply.Reply.TheVariants as reply
use Rattle.files_model.specs.declared.reply.Stat.TheVariants as stat
use Rattle.files_model.specs.Answers.{at_live, unless, first_of}
use Rattle.files_model.specs.Files.{Node, Files}
use Rattle.files_model.specs.NameRows.{symlink_row, at_free_name, at_usable, place_tests, entry_tests, new_link}
use Rattle.files_model.specs.Names.{name_tests, is_bad, is_dots, most_name, lowest_usable, with_entry, made_at}
use Rattle.files_model.specs.Permission.{is_directory}
use Rattle.files_model.specs.Space.{free, node_usage}
use Rattle.files_model.specs.Step.{step}
use Rattle.stable.specs.Store.{Image}
use Rattle.v7_map.specs.Frame.{frame}
use Rattle.v7_map.specs.View.{view}
use Rattle.v7_map.specs.Weak.{IsStrong}
use Rattle.v7_map.proofs.Nodes.{live-node}
use Rattle.v7_strokes.proofs.Views.{view-inodes}
use Rattle.name_plans.specs.Making.{IsMaking}
use Rattle.name_plans.proofs.CreatingAccepted.{first_none, usable-facts}
use Rattle.name_plans.proofs.CreatingInPlace.{not_no, good-name}
use Rattle.longer_plans.specs.SymlinkPuts.{IsSymlink}

pub symlink-step : (files : Files) (dir : FileId) (name text : List ℕ) (wanted : Sattr) (cred : Cred) (now : ℕ) (d : Node) (i : ℕ) → IsSymlink files dir name text wanted cred now d i
    → step files (call.Symlink dir name text wanted) cred now ≡ (reply.Done, made_at files i (new_link wanted cred text now) dir.ino (with_entry d (Some (i, name)) now))
unfolding symlink_row
symlink-step files dir name text wanted cred now d i c =
    ap (λ o. at_live files o row) c.live
    ∙ (λ z. unless files (c.tests z) (unless files (first_of ((is_some (c.absent z), stat.Exist) ∷ [])) (unless files (c.entry z) (at_usable files (c.usable z) (made d)))))
    ∙ (λ z. unless files (c.room z) (reply.Done, made_at files i (new_link wanted cred text now) dir.ino (with_entry d (Some (i, name)) now)))
  where
    made : Node → ℕ → Reply × Files
    made e j = unless files (first_of ((ltb (free files) (node_usage (new_link wanted cred text now) + (node_usage (with_entry e (Some (j, name)) now) - node_usage e)), stat.Nospc) ∷ []))
        (reply.Done, made_at files j (new_link wanted cred text now) dir.ino (with_entry e (Some (j, name)) now))

    row : Node → Reply × Files
    row e = unless files (first_of (place_tests files e name)) (at_free_name files e name (unless files (first_of (entry_tests dir.ino e cred 0)) (at_usable files (lowest_usable files) (made e))))

pub symlink-making : (image : Image) (dir : FileId) (name text : List ℕ) (wanted : Sattr) (cred : Cred) (now : ℕ) (d : Node) (i : ℕ) → IsStrong (frame image) → IsSymlink (view image) dir name text wanted cred now d i
    → IsMaking (view image) (call.Symlink dir name text wanted, cred) now dir.ino name d i (new_link wanted cred text now)
symlink-making image dir name text wanted cred now d i strong c =
    let a = first_none (view image).read_only stat.Rofs ((not (is_directory d.kind), stat.Notdir) ∷ name_tests name) c.tests in
    let b = first_none (not (is_directory d.kind)) stat.Notdir (name_tests name) a.1 in
    let e = first_none (is_bad name || is_dots name) stat.Acces ((ltb most_name (length name), stat.Nametoolong) ∷ []) b.1 in
    let u = usable-facts (view image) i c.usable in let low = u.2 in let high = u.3 in
    let least : 8 ≤ (view image).inodes = subst (λ n. 8 ≤ n) (sym (view-inodes image)) (let s = strong.weak.sizes.low in omega arith) in record {
      makes = refl;
      at = live-node (view image) dir d c.live;
      kind = not_no (is_directory d.kind) b.0;
      good_name = good-name name e.0;
      absent = u.0;
      low = low;
      within = omega arith;
      after = ap (λ r. r.1) (symlink-step (view image) dir name text wanted cred now d i c);
    }
