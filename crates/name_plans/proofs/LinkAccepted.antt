-- What the step of an accepted LINK is, and what is known of its nodes.
use Rattle.std.proofs.Common.{◌≡◌, ◌≢◌, ℕ, ◌+◌, ◌<◌, ◌≤◌, Bool, true, false, not, ◌||◌, List, [], ◌∷◌, ◌++◌, length, Some, None, is_some, refl, ap, ◌∙◌, arith, ltb, leb}
use Rattle.std.specs.FinMap.{get}
use Rattle.files_model.specs.declared.attributes.FileId.{FileId}
use Rattle.files_model.specs.declared.credential.Cred.{Cred}
use Rattle.files_model.specs.declared.call.Call.TheVariants as call
use Rattle.files_model.specs.declared.reply.Reply.{Reply}
use Rattle.files_model.specs.declared.reply.Reply.TheVariants as reply
use Rattle.files_model.specs.declared.reply.Stat.TheVariants as stat
use Rattle.files_model.specs.Answers.{at_live, unless, first_of, with_node}
use Rattle.files_model.specs.Files.{Node, Files}
use Rattle.files_model.specs.NameRows.{link_row, at_free_name, entry_tests, is_full_for, most_links}
use Rattle.files_model.specs.Names.{name_tests, is_bad, is_dots, most_name, with_entry, may_change}
use Rattle.files_model.specs.Permission.{is_directory}
use Rattle.files_model.specs.Space.{size_limit}
use Rattle.files_model.specs.Step.{step}
use Rattle.files_model.specs.Torn.{Asked, is_write, after_calls}
use Rattle.stable.specs.Store.{Image}
use Rattle.v7_map.specs.Frame.{frame}
use Rattle.v7_map.specs.View.{view}
use Rattle.v7_map.specs.Weak.{IsStrong}
use Rattle.v7_map.proofs.Nodes.{live-node}
use Rattle.v7_strokes.specs.Changes.{changed}
use Rattle.name_plans.specs.Linking.{IsLink}
use Rattle.name_plans.proofs.CreatingAccepted.{first_none}
use Rattle.name_plans.proofs.CreatingInPlace.{not_no, good-name}

pub link-step : (files : Files) (file dir : FileId) (name : List ℕ) (cred : Cred) (now : ℕ) (n d : Node) → IsLink files file dir name cred now n d
    → step files (call.Link file dir name) cred now ≡ (reply.Done, changed files file.ino (Some (record n { nlink = n.nlink + 1; ctime = now })) dir.ino (with_entry d (Some (file.ino, name)) now))
unfolding link_row
link-step files file dir name cred now n d c =
    (λ z. at_live files (c.live_file z) (λ m. at_live files (c.live z) (λ e. row m e)))
    ∙ (λ z. unless files (c.tests z) (unless files (first_of ((is_some (c.absent z), stat.Exist) ∷ [])) (unless files (c.room z) answer)))
  where
    answer : Reply × Files
    answer = (reply.Done, with_node (with_node files file.ino (record n { nlink = n.nlink + 1; ctime = now })) dir.ino (with_entry d (Some (file.ino, name)) now))

    row : Node → Node → Reply × Files
    row m e = unless files (first_of ((files.read_only, stat.Rofs) ∷ (is_directory m.kind, stat.Isdir) ∷ (not (is_directory e.kind), stat.Notdir) ∷ name_tests name))
        (at_free_name files e name
        (unless files (first_of (entry_tests dir.ino e cred 0 ++ (leb most_links m.nlink || is_full_for files e (with_entry e (Some (file.ino, name)) now), stat.Nospc) ∷ []))
        (reply.Done, with_node (with_node files file.ino (record m { nlink = m.nlink + 1; ctime = now })) dir.ino (with_entry e (Some (file.ino, name)) now))))

-- The call gives node i, which is no directory, one name more, by a new entry of directory p.
pub record IsLinking (files : Files) (asked : Asked) (now p : ℕ) (name : List ℕ) (d : Node) (i : ℕ) (n : Node) : Type 0 where
  pub no_write : is_write asked.0 ≡ false
  pub at : get files.nodes p ≡ Some d
  pub at_file : get files.nodes i ≡ Some n
  pub kind : is_directory d.kind ≡ true
  pub file : is_directory n.kind ≡ false
  pub good_name : name ≢ []
  pub bound : n.nlink + 1 ≤ 65535
  pub after : after_calls files (asked ∷ []) now ≡ changed files i (Some (record n { nlink = n.nlink + 1; ctime = now })) p (with_entry d (Some (i, name)) now)

or_no : (a b : Bool) → (a || b) ≡ false → (a ≡ false) × (b ≡ false)
or_no true b e = absurd (cc)
or_no false b e = (refl, e)

few : (n : ℕ) → leb 32767 n ≡ false → n < 32767
few n h = grind arith

pub link-linking : (image : Image) (file dir : FileId) (name : List ℕ) (cred : Cred) (now : ℕ) (n d : Node) → IsStrong (frame image) → IsLink (view image) file dir name cred now n d
    → IsLinking (view image) (call.Link file dir name, cred) now dir.ino name d file.ino n
link-linking image file dir name cred now n d strong c =
    let a = first_none (view image).read_only stat.Rofs ((is_directory n.kind, stat.Isdir) ∷ (not (is_directory d.kind), stat.Notdir) ∷ name_tests name) c.tests in
    let b = first_none (is_directory n.kind) stat.Isdir ((not (is_directory d.kind), stat.Notdir) ∷ name_tests name) a.1 in
    let e = first_none (not (is_directory d.kind)) stat.Notdir (name_tests name) b.1 in
    let g = first_none (is_bad name || is_dots name) stat.Acces ((ltb most_name (length name), stat.Nametoolong) ∷ []) e.1 in
    let x = first_none (not (may_change cred dir.ino d)) stat.Acces ((ltb size_limit 0 || ltb size_limit (with_entry d None 0).size, stat.Fbig) ∷ (leb most_links n.nlink || is_full_for (view image) d (with_entry d (Some (file.ino, name)) now), stat.Nospc) ∷ []) c.room in
    let y = first_none (ltb size_limit 0 || ltb size_limit (with_entry d None 0).size) stat.Fbig ((leb most_links n.nlink || is_full_for (view image) d (with_entry d (Some (file.ino, name)) now), stat.Nospc) ∷ []) x.1 in
    let z = first_none (leb most_links n.nlink || is_full_for (view image) d (with_entry d (Some (file.ino, name)) now)) stat.Nospc [] y.1 in
    let l : n.nlink < 32767 = few n.nlink (or_no (leb most_links n.nlink) (is_full_for (view image) d (with_entry d (Some (file.ino, name)) now)) z.0).0 in record {
      no_write = refl;
      at = live-node (view image) dir d c.live;
      at_file = live-node (view image) file n c.live_file;
      kind = not_no (is_directory d.kind) e.0;
      file = b.0;
      good_name = good-name name g.0;
      bound = omega arith;
      after = ap (λ r. r.1) (link-step (view image) file dir name cred now n d c);
    }
