-- What the step of an accepted MKDIR is, and what is known of its nodes.
use Rattle.std.proofs.Common.{◌≡◌, ◌≢◌, ℕ, ◌+◌, ◌-◌, ◌<◌, ◌≤◌, Bool, true, false, not, ◌||◌, List, [], ◌∷◌, length, Some, None, is_some, refl, sym, ap, subst, ◌∙◌, arith, ltb, leb, unwrap_or}
use Rattle.std.specs.FinMap.{get}
use Rattle.files_model.specs.declared.attributes.FileId.{FileId}
use Rattle.files_model.specs.declared.attributes.Sattr.{Sattr}
use Rattle.files_model.specs.declared.credential.Cred.{Cred}
use Rattle.files_model.specs.declared.call.Call.TheVariants as call
use Rattle.files_model.specs.declared.reply.Reply.{Reply}
use Rattle.files_model.specs.declared.reply.Reply.TheVariants as reply
use Rattle.files_model.specs.declared.reply.Stat.TheVariants as stat
use Rattle.files_model.specs.Answers.{at_live, unless, first_of, attr_of}
use Rattle.files_model.specs.Files.{Node, Files}
use Rattle.files_model.specs.NameRows.{mkdir_row, at_free_name, at_usable, place_tests, entry_tests, most_links, new_directory}
use Rattle.files_model.specs.Names.{name_tests, is_bad, is_dots, most_name, lowest_usable, with_entry, made_at}
use Rattle.files_model.specs.Permission.{is_directory}
use Rattle.files_model.specs.Space.{free, node_usage}
use Rattle.files_model.specs.Step.{step}
use Rattle.files_model.specs.Torn.{Asked, after_calls, makes_node}
use Rattle.stable.specs.Store.{Image}
use Rattle.v7_map.specs.Frame.{frame}
use Rattle.v7_map.specs.View.{view}
use Rattle.v7_map.specs.Weak.{IsStrong}
use Rattle.v7_map.proofs.Nodes.{live-node}
use Rattle.v7_strokes.proofs.Views.{view-inodes}
use Rattle.name_plans.specs.MakingDirectory.{IsMkdir}
use Rattle.name_plans.proofs.CreatingAccepted.{first_none, usable-facts}
use Rattle.name_plans.proofs.CreatingInPlace.{not_no, good-name}

pub mkdir-step : (files : Files) (dir : FileId) (name : List ℕ) (wanted : Sattr) (cred : Cred) (now : ℕ) (d : Node) (i : ℕ) → IsMkdir files dir name wanted cred now d i
    → step files (call.Mkdir dir name wanted) cred now ≡ (
      reply.Handle (record { ino = i; generation = unwrap_or (get files.generations i) 0 + 1 }) (attr_of i (new_directory wanted cred i dir.ino now)),
      made_at files i (new_directory wanted cred i dir.ino now) dir.ino (record (with_entry d (Some (i, name)) now) { nlink = d.nlink + 1 }),
    )
unfolding mkdir_row
mkdir-step files dir name wanted cred now d i c =
    ap (λ o. at_live files o row) c.live
    ∙ (λ z. unless files (c.tests z) (unless files (first_of ((is_some (c.absent z), stat.Exist) ∷ [])) (unless files (c.entry z) (at_usable files (c.usable z) (made d)))))
    ∙ (λ z. unless files (c.room z) (
      reply.Handle (record { ino = i; generation = unwrap_or (get files.generations i) 0 + 1 }) (attr_of i (new_directory wanted cred i dir.ino now)),
      made_at files i (new_directory wanted cred i dir.ino now) dir.ino (record (with_entry d (Some (i, name)) now) { nlink = d.nlink + 1 }),
    ))
  where
    made : Node → ℕ → Reply × Files
    made e j = unless files (first_of ((leb most_links e.nlink || ltb (free files) (node_usage (new_directory wanted cred j dir.ino now) + (node_usage (with_entry e (Some (j, name)) now) - node_usage e)), stat.Nospc) ∷ [])) (
      reply.Handle (record { ino = j; generation = unwrap_or (get files.generations j) 0 + 1 }) (attr_of j (new_directory wanted cred j dir.ino now)),
      made_at files j (new_directory wanted cred j dir.ino now) dir.ino (record (with_entry e (Some (j, name)) now) { nlink = e.nlink + 1 }),
    )

    row : Node → Reply × Files
    row e = unless files (first_of (place_tests files e name)) (at_free_name files e name (unless files (first_of (entry_tests dir.ino e cred 0)) (at_usable files (lowest_usable files) (made e))))

-- The call makes directory m at i-number i, which had no node, by a new entry of directory p.
pub record IsMakingDirectory (files : Files) (asked : Asked) (now p : ℕ) (name : List ℕ) (d : Node) (i : ℕ) (m : Node) : Type 0 where
  pub makes : makes_node asked.0 ≡ true
  pub at : get files.nodes p ≡ Some d
  pub kind : is_directory d.kind ≡ true
  pub good_name : name ≢ []
  pub absent : get files.nodes i ≡ None
  pub low : 3 ≤ i
  pub within : i < files.inodes + 1
  pub bound : d.nlink + 1 ≤ 65535
  pub after : after_calls files (asked ∷ []) now ≡ made_at files i m p (record (with_entry d (Some (i, name)) now) { nlink = d.nlink + 1 })

or_no : (a b : Bool) → (a || b) ≡ false → (a ≡ false) × (b ≡ false)
or_no true b e = absurd (cc)
or_no false b e = (refl, e)

few : (n : ℕ) → leb 32767 n ≡ false → n < 32767
few n h = grind arith

pub mkdir-making : (image : Image) (dir : FileId) (name : List ℕ) (wanted : Sattr) (cred : Cred) (now : ℕ) (d : Node) (i : ℕ) → IsStrong (frame image) → IsMkdir (view image) dir name wanted cred now d i
    → IsMakingDirectory (view image) (call.Mkdir dir name wanted, cred) now dir.ino name d i (new_directory wanted cred i dir.ino now)
mkdir-making image dir name wanted cred now d i strong c =
    let a = first_none (view image).read_only stat.Rofs ((not (is_directory d.kind), stat.Notdir) ∷ name_tests name) c.tests in
    let b = first_none (not (is_directory d.kind)) stat.Notdir (name_tests name) a.1 in
    let e = first_none (is_bad name || is_dots name) stat.Acces ((ltb most_name (length name), stat.Nametoolong) ∷ []) b.1 in
    let full : Bool = ltb (free (view image)) (node_usage (new_directory wanted cred i dir.ino now) + (node_usage (with_entry d (Some (i, name)) now) - node_usage d)) in
    let z = first_none (leb most_links d.nlink || full) stat.Nospc [] c.room in
    let l : d.nlink < 32767 = few d.nlink (or_no (leb most_links d.nlink) full z.0).0 in
    let u = usable-facts (view image) i c.usable in let low = u.2 in let high = u.3 in
    let least : 8 ≤ (view image).inodes = subst (λ n. 8 ≤ n) (sym (view-inodes image)) (let s = strong.weak.sizes.low in omega arith) in record {
      makes = refl;
      at = live-node (view image) dir d c.live;
      kind = not_no (is_directory d.kind) b.0;
      good_name = good-name name e.0;
      absent = u.0;
      low = low;
      within = omega arith;
      bound = omega arith;
      after = ap (λ r. r.1) (mkdir-step (view image) dir name wanted cred now d i c);
    }
