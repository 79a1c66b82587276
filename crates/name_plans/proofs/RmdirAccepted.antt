-- What the step of an accepted RMDIR is, and what is known of its slot and nodes.
use Rattle.std.proofs.Common.{◌≡◌, ◌≢◌, ℕ, zero, suc, ◌-◌, ◌<◌, ◌≤◌, Bool, true, false, not, ◌||◌, List, [], ◌∷◌, length, get_or, set, drop, Some, None, is_some, refl, sym, ap, ◌∙◌, arith, ltb}
use Rattle.std.specs.FinMap.{get, insert, remove}
use Rattle.std.specs.List.{position, list_any}
use Rattle.files_model.specs.declared.attributes.FileId.{FileId}
use Rattle.files_model.specs.declared.credential.Cred.{Cred}
use Rattle.files_model.specs.declared.call.Call.TheVariants as call
use Rattle.files_model.specs.declared.reply.Reply.{Reply}
use Rattle.files_model.specs.declared.reply.Reply.TheVariants as reply
use Rattle.files_model.specs.declared.reply.Stat.TheVariants as stat
use Rattle.files_model.specs.Answers.{at_live, unless, first_of}
use Rattle.files_model.specs.Files.{Node, Files, Slot}
use Rattle.files_model.specs.NameRows.{rmdir_row, place_tests, has_entries}
use Rattle.files_model.specs.Names.{at_node, at_slot, without_entry, name_tests, is_bad, is_dots, most_name, has_name, number_at, may_change}
use Rattle.files_model.specs.Permission.{is_directory}
use Rattle.files_model.specs.Step.{step}
use Rattle.files_model.specs.Torn.{Asked, is_write, after_calls}
use Rattle.stable.specs.Store.{Image}
use Rattle.v7_map.specs.Frame.{frame}
use Rattle.v7_map.specs.Frame as frames
use Rattle.v7_map.specs.Tree.{tree}
use Rattle.v7_map.specs.View.{view}
use Rattle.v7_map.specs.Weak.{IsStrong, slot_at}
use Rattle.v7_map.proofs.Nodes.{live-node, view-node}
use Rattle.v7_strokes.specs.Changes.{changed}
use Rattle.v7_strokes.proofs.Directories.{stands-dir, node-directory}
use Rattle.name_plans.specs.RemovingDirectory.{IsRmdir}
use Rattle.name_plans.proofs.CreatingAccepted.{first_none}
use Rattle.name_plans.proofs.CreatingInPlace.{not_no}
use Rattle.name_plans.proofs.NamedSlots.{named-slot, named-past}

pub rmdir-step : (files : Files) (dir : FileId) (name : List ℕ) (cred : Cred) (now : ℕ) (d : Node) (k i : ℕ) (n : Node) → IsRmdir files dir name cred d k i n
    → step files (call.Rmdir dir name) cred now ≡ (reply.Done, changed files i None dir.ino (record (without_entry d k now) { nlink = d.nlink - 1 }))
unfolding rmdir_row
rmdir-step files dir name cred now d k i n c =
    ap (λ o. at_live files o (λ e. unless files (first_of (place_tests files e name)) (at_slot files (position (has_name name) e.slots) (λ l. at_node files (get files.nodes (number_at e.slots l)) (answer e l (number_at e.slots l)))))) c.live
    ∙ (λ z. unless files (c.tests z) (at_slot files (c.slot z) (λ l. at_node files (get files.nodes (number_at d.slots l)) (answer d l (number_at d.slots l)))))
    ∙ (λ z. at_node files (get files.nodes (c.number z)) (answer d k (c.number z)))
    ∙ (λ z. at_node files (c.node z) (answer d k i))
    ∙ (λ z. unless files (c.loss z) (reply.Done, record files { nodes = insert (remove files.nodes i) dir.ino (record (without_entry d k now) { nlink = d.nlink - 1 }) }))
  where
    answer : Node → ℕ → ℕ → Node → Reply × Files
    answer e l j x = unless files (first_of ((not (is_directory x.kind), stat.Notdir) ∷ (has_entries x, stat.Notempty) ∷ (not (may_change cred dir.ino e), stat.Acces) ∷ []))
        (reply.Done, record files { nodes = insert (remove files.nodes j) dir.ino (record (without_entry e l now) { nlink = e.nlink - 1 }) })

-- The call takes away directory i, which is empty, and slot k of directory p that names it.
pub record IsTaking (files : Files) (asked : Asked) (now p : ℕ) (name : List ℕ) (d : Node) (k i : ℕ) (n : Node) : Type 0 where
  pub no_write : is_write asked.0 ≡ false
  pub at : get files.nodes p ≡ Some d
  pub kind : is_directory d.kind ≡ true
  pub at_node : get files.nodes i ≡ Some n
  pub node_kind : is_directory n.kind ≡ true
  pub slot : get_or d.slots k None ≡ Some (i, name)
  pub inside : k < length d.slots
  pub past : 2 ≤ k
  pub apart : i ≢ p
  pub no_root : i ≢ 2
  pub empty : (l : ℕ) → 2 ≤ l → get_or n.slots l None ≡ None
  pub after : after_calls files (asked ∷ []) now ≡ changed files i None p (record d { nlink = d.nlink - 1; slots = set d.slots k None; mtime = now; ctime = now })

or_no : (a b : Bool) → (a || b) ≡ false → (a ≡ false) × (b ≡ false)
or_no true b e = absurd (cc)
or_no false b e = (refl, e)

none_past : (m : ℕ) (xs : List Slot) (l : ℕ) → list_any is_some (drop m xs) ≡ false → m ≤ l → get_or xs l None ≡ None
none_past m [] l e le = refl
none_past zero (None ∷ xs) zero e le = refl
none_past zero (Some x ∷ xs) zero e le = absurd (cc)
none_past zero (x ∷ xs) (suc l) e le = none_past zero xs l (or_no (is_some x) (list_any is_some xs) e).1 (omega arith)
none_past (suc m) (x ∷ xs) zero e le = absurd (omega arith)
none_past (suc m) (x ∷ xs) (suc l) e le = none_past m xs l e (omega arith)

pub rmdir-taking : (image : Image) (dir : FileId) (name : List ℕ) (cred : Cred) (now : ℕ) (d : Node) (k i : ℕ) (n : Node) → IsStrong (frame image) → IsRmdir (view image) dir name cred d k i n
    → IsTaking (view image) (call.Rmdir dir name, cred) now dir.ino name d k i n
rmdir-taking image dir name cred now d k i n strong c =
    let a = first_none (view image).read_only stat.Rofs ((not (is_directory d.kind), stat.Notdir) ∷ name_tests name) c.tests in
    let b = first_none (not (is_directory d.kind)) stat.Notdir (name_tests name) a.1 in
    let e = first_none (is_bad name || is_dots name) stat.Acces ((ltb most_name (length name), stat.Nametoolong) ∷ []) b.1 in
    let f = first_none (not (is_directory n.kind)) stat.Notdir ((has_entries n, stat.Notempty) ∷ (not (may_change cred dir.ino d), stat.Acces) ∷ []) c.loss in
    let h = first_none (has_entries n) stat.Notempty ((not (may_change cred dir.ino d), stat.Acces) ∷ []) f.1 in
    let at_d = live-node (view image) dir d c.live in
    let kind = not_no (is_directory d.kind) b.0 in
    let node_kind = not_no (is_directory n.kind) f.0 in
    let s = stands-dir image dir.ino d strong.weak at_d kind in
    let slot = named-slot d.slots name k i c.slot c.number in
    let past = named-past image dir.ino d name k i strong.weak s slot.1 e.0 in
    let in_tree : slot_at (tree (frame image)) dir.ino k ≡ Some (i, name) = ap (λ x. get_or x k None) s.slots ∙ slot.1 in
    let dir_i : frames.is_directory ((frame image).head i) ≡ true = node-directory image i n (view-node image i n c.node) ∙ node_kind in
    record {
      no_write = refl;
      at = at_d;
      kind = kind;
      at_node = c.node;
      node_kind = node_kind;
      slot = slot.1;
      inside = slot.0;
      past = past;
      apart = λ z. none_some (i, name) (sym (none_past 2 n.slots k h.0 past) ∙ ap (λ (m : Node). get_or m.slots k None) (some_is n d (sym c.node ∙ ap (get (view image).nodes) z ∙ at_d)) ∙ slot.1);
      no_root = (strong.weak.names.one_slot dir.ino dir.ino k k i name name s.walked s.walked past past dir_i in_tree in_tree).0;
      empty = λ l le. none_past 2 n.slots l h.0 le;
      after = ap (λ r. r.1) (rmdir-step (view image) dir name cred now d k i n c);
    }
  where
    some_is : (x y : Node) → Some x ≡ Some y → x ≡ y
    some_is x y e = cc

    none_some : (e : ℕ × List ℕ) → ◌≡◌ {A = Slot} None (Some e) → ⊥
    none_some e h = cc
