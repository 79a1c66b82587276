-- What the step of an accepted RENAME inside one directory is, where the new name is free, and what is known of its slot and nodes.
use Rattle.std.proofs.Common.{◌≡◌, ◌≢◌, ℕ, ◌+◌, ◌<◌, ◌≤◌, true, false, not, ◌&&◌, ◌||◌, ◌==◌, if◌then◌else◌, List, [], ◌∷◌, ◌++◌, length, get_or, set, Option, Some, None, refl, sym, ap, ◌∙◌, arith, ltb, eq-eqb, unwrap_or}
use Rattle.std.proofs.lemmas.Bool.{ne_eqb}
use Rattle.std.specs.FinMap.{get}
use Rattle.std.specs.List.{position}
use Rattle.std.specs.Option.{option_map}
use Rattle.files_model.specs.declared.attributes.FileId.{FileId}
use Rattle.files_model.specs.declared.credential.Cred.{Cred}
use Rattle.files_model.specs.declared.call.Call.TheVariants as call
use Rattle.files_model.specs.declared.reply.Stat.TheVariants as stat
use Rattle.files_model.specs.declared.reply.Reply.{Reply}
use Rattle.files_model.specs.declared.reply.Reply.TheVariants as reply
use Rattle.files_model.specs.Answers.{at_live, unless, first_of, with_node}
use Rattle.files_model.specs.Files.{Node, Files}
use Rattle.files_model.specs.NameRows.{rename_row, rename_tests, moved_files, replaced_in, emptied_in, renamed_in}
use Rattle.files_model.specs.Names.{at_slot, at_node, at_name, name_tests, is_bad, is_dots, most_name, has_name, number_at}
use Rattle.files_model.specs.Permission.{is_directory}
use Rattle.files_model.specs.Step.{step}
use Rattle.files_model.specs.Torn.{Asked, is_write, after_calls}
use Rattle.stable.specs.Store.{Image}
use Rattle.v7_map.specs.Frame.{Frame, IsFrame, frame}
use Rattle.v7_map.specs.Tree.{Walked, root, named, tree, is_walked}
use Rattle.v7_map.specs.View.{view}
use Rattle.v7_map.specs.Weak.{IsWeak, IsStrong, slot_at}
use Rattle.v7_map.proofs.AnyFrame.{frame-IsFrame}
use Rattle.v7_map.proofs.Children.{Descends, top, down, walked_descends, has_slot-at}
use Rattle.v7_map.proofs.Named.{names_is}
use Rattle.v7_map.proofs.Nodes.{live-node, view-node}
use Rattle.v7_map.proofs.Used.{named_used}
use Rattle.v7_map.proofs.Walks.{walked_reached, reached_walked}
use Rattle.v7_strokes.proofs.Directories.{stands-dir}
use Rattle.v7_strokes.proofs.Names.{slot_of_any}
use Rattle.v7_strokes.proofs.SlotStep.{used-number}
use Rattle.name_plans.specs.Naming.{IsNaming}
use Rattle.name_plans.proofs.CreatingAccepted.{first_none}
use Rattle.name_plans.proofs.CreatingInPlace.{not_no, good-name}
use Rattle.name_plans.proofs.NamedSlots.{named-slot, named-past}

naming-step : (files : Files) (from to : FileId) (name new_name : List ℕ) (cred : Cred) (now i k : ℕ) (n d : Node) → IsNaming files from to name new_name cred now i k n d → i ≢ 0
    → step files (call.Rename from name to new_name) cred now ≡ (reply.Done, with_node files from.ino (record d { slots = set d.slots k (Some (i, new_name)); mtime = now; ctime = now }))
unfolding rename_row
naming-step files from to name new_name cred now i k n d c nz =
    (λ z. at_live files (c.live_from z) (λ p. at_live files (c.live_to z) (λ q. row p q)))
    ∙ (λ z. unless files (c.tests z) (at_slot files (c.slot z) (λ l. at_node files (get files.nodes (number_at d.slots l)) (answer d d l (number_at d.slots l)))))
    ∙ (λ z. at_node files (get files.nodes (c.number z)) (answer d d k (c.number z)))
    ∙ (λ z. at_node files (c.node z) (answer d d k i))
    ∙ (λ z. moved (c.absent z))
    ∙ ap (λ b. if b then (reply.Done, files) else unless files (first_of (rename_tests files from d to d None new_name i n cred now)) (reply.Done, moved_files files from d k to d None new_name i now)) (ne_eqb 0 i (λ e. nz (sym e)))
    ∙ (λ z. unless files (c.allowed z) (reply.Done, moved_files files from d k to d None new_name i now))
    ∙ ap (λ f. (reply.Done, f)) (ap (λ b. if b && true then with_node files from.ino (record d { slots = set d.slots k (Some (i, new_name)); mtime = now; ctime = now }) else two) (eq-eqb from.ino to.ino c.one_directory))
  where
    two : Files
    two = replaced_in (emptied_in (with_node files to.ino (renamed_in d (Some (i, new_name)) None now)) from.ino k now) (option_map (number_at d.slots) None) now

    answer : Node → Node → ℕ → ℕ → Node → Reply × Files
    answer p q l j x =
        if unwrap_or (option_map (number_at q.slots) (position (has_name new_name) q.slots)) 0 == j then (reply.Done, files)
        else unless files (first_of (rename_tests files from p to q (position (has_name new_name) q.slots) new_name j x cred now))
        (reply.Done, moved_files files from p l to q (position (has_name new_name) q.slots) new_name j now)

    row : Node → Node → Reply × Files
    row p q = unless files (first_of ((files.read_only, stat.Rofs) ∷ (not (is_directory p.kind), stat.Notdir) ∷ (not (is_directory q.kind), stat.Notdir) ∷ name_tests name ++ name_tests new_name))
        (at_name files p name (answer p q))

    moved : Option ℕ → Reply × Files
    moved o = if unwrap_or (option_map (number_at d.slots) o) 0 == i then (reply.Done, files)
        else unless files (first_of (rename_tests files from d to d o new_name i n cred now)) (reply.Done, moved_files files from d k to d o new_name i now)

-- ---- a directory that is walked doesn't name itself past its first two slots

module _ (f : Frame) (weak : IsWeak f) (is : IsFrame f) (p k : ℕ) (name : List ℕ) (walked : is_walked (tree f) p ≡ true) (past : 2 ≤ k) (dir : (tree f).is_dir p ≡ true) (at : slot_at (tree f) p k ≡ Some (p, name)) where
  numbers : (j : ℕ) → (tree f).is_dir j ≡ true → (1 ≤ j) × (j < 1 + (tree f).inodes)
  numbers j h = let r = is.numbers j (is.directories j h) in let high = r.1 in (r.0, omega arith)

  walks : {j : ℕ} → Descends (tree f) j → Walked (tree f) j
  walks top = root weak.root
  walks (down {d = e} {i = j} from by dj) = let r = slot_of_any ((tree f).slots e) 2 j by in let s = names_is j (slot_at (tree f) e r.0) r.2 in
      named (walks from) (has_slot-at (tree f) e 0 j r.0 s.0 (omega arith) s.1) dj

  not_own : {j : ℕ} → Descends (tree f) j → j ≡ p → ⊥
  not_own top e = (weak.names.one_slot p p k k p name name walked walked past past dir at at).0 (sym e)
  not_own (down {d = e} {i = j} from by dj) eq =
      let r = slot_of_any ((tree f).slots e) 2 j by in let s = names_is j (slot_at (tree f) e r.0) r.2 in
      let same = weak.names.one_slot p e k r.0 p name s.0 walked (reached_walked (tree f) numbers (walks from)) past r.1 dir at (s.1 ∙ (λ z. Some (eq z, s.0))) in
      not_own from (sym same.1)

  own-never : ⊥
  own-never = not_own (walked_descends f weak is (walked_reached (tree f) p walked)) refl

-- The call gives slot k of directory p, which names node i, another name.
pub record IsNamed (files : Files) (asked : Asked) (now p : ℕ) (name new_name : List ℕ) (d : Node) (k i : ℕ) (n : Node) : Type 0 where
  pub no_write : is_write asked.0 ≡ false
  pub at : get files.nodes p ≡ Some d
  pub kind : is_directory d.kind ≡ true
  pub at_node : get files.nodes i ≡ Some n
  pub apart : i ≢ p
  pub slot : get_or d.slots k None ≡ Some (i, name)
  pub inside : k < length d.slots
  pub past : 2 ≤ k
  pub good_name : new_name ≢ []
  pub after : after_calls files (asked ∷ []) now ≡ with_node files p (record d { slots = set d.slots k (Some (i, new_name)); mtime = now; ctime = now })

pub rename-named : (image : Image) (from to : FileId) (name new_name : List ℕ) (cred : Cred) (now i k : ℕ) (n d : Node) → IsStrong (frame image) → IsNaming (view image) from to name new_name cred now i k n d
    → IsNamed (view image) (call.Rename from name to new_name, cred) now from.ino name new_name d k i n
rename-named image from to name new_name cred now i k n d strong c =
    let a = first_none (view image).read_only stat.Rofs ((not (is_directory d.kind), stat.Notdir) ∷ (not (is_directory d.kind), stat.Notdir) ∷ name_tests name ++ name_tests new_name) c.tests in
    let b = first_none (not (is_directory d.kind)) stat.Notdir ((not (is_directory d.kind), stat.Notdir) ∷ name_tests name ++ name_tests new_name) a.1 in
    let e = first_none (not (is_directory d.kind)) stat.Notdir (name_tests name ++ name_tests new_name) b.1 in
    let g = first_none (is_bad name || is_dots name) stat.Acces ((ltb most_name (length name), stat.Nametoolong) ∷ name_tests new_name) e.1 in
    let h = first_none (ltb most_name (length name)) stat.Nametoolong (name_tests new_name) g.1 in
    let m = first_none (is_bad new_name || is_dots new_name) stat.Acces ((ltb most_name (length new_name), stat.Nametoolong) ∷ []) h.1 in
    let at = live-node (view image) from d c.live_from in
    let kind = not_no (is_directory d.kind) b.0 in
    let s = stands-dir image from.ino d strong.weak at kind in
    let slot = named-slot d.slots name k i c.slot c.number in
    let past = named-past image from.ino d name k i strong.weak s slot.1 g.0 in
    let u = used-number image i (named_used (frame image) strong.weak (frame-IsFrame image).directories i (view-node image i n c.node).named) in let low = u.0 in
    let in_tree : slot_at (tree (frame image)) from.ino k ≡ Some (i, name) = ap (λ x. get_or x k None) s.slots ∙ slot.1 in record {
      no_write = refl;
      at = at;
      kind = kind;
      at_node = c.node;
      apart = λ z. own-never (frame image) strong.weak (frame-IsFrame image) from.ino k name s.walked past s.dir (in_tree ∙ (λ y. Some (z y, name)));
      slot = slot.1;
      inside = slot.0;
      past = past;
      good_name = good-name new_name m.0;
      after = ap (λ r. r.1) (naming-step (view image) from to name new_name cred now i k n d c (λ z. omega arith));
    }
