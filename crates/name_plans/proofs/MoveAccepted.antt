-- What the step of an accepted RENAME into another directory is, and what is known of its slots and nodes.
use Rattle.std.proofs.Common.{◌≡◌, ◌≢◌, ℕ, ◌+◌, ◌<◌, ◌≤◌, Bool, true, false, cond, not, ◌&&◌, ◌||◌, ◌==◌, if◌then◌else◌, List, [], ◌∷◌, ◌++◌, length, get_or, set, Option, Some, None, refl, sym, ap, subst, ◌∙◌, arith, ltb, eq-eqb, unwrap_or}
use Rattle.std.proofs.lemmas.Bool.{ne_eqb, le-ltb}
use Rattle.std.specs.FinMap.{get}
use Rattle.std.specs.List.{position}
use Rattle.std.specs.Option.{option_map}
use Rattle.files_model.specs.declared.attributes.FileId.{FileId}
use Rattle.files_model.specs.declared.credential.Cred.{Cred}
use Rattle.files_model.specs.declared.call.Call.TheVariants as call
use Rattle.files_model.specs.declared.reply.Stat.TheVariants as stat
use Rattle.files_model.specs.declared.reply.Reply.{Reply}
use Rattle.files_model.specs.declared.reply.Reply.TheVariants as reply
use Rattle.files_model.specs.Answers.{at_live, unless, first_of, with_node}
use Rattle.files_model.specs.Files.{Node, Files}
use Rattle.files_model.specs.NameRows.{rename_row, rename_tests, renamed_in, moved_files, emptied_in, emptied_at, is_full_for}
use Rattle.files_model.specs.Names.{at_slot, at_node, at_name, name_tests, is_bad, is_dots, most_name, has_name, number_at, with_entry, without_entry, may_change, place_for}
use Rattle.files_model.specs.Permission.{is_directory}
use Rattle.files_model.specs.Space.{size_limit}
use Rattle.files_model.specs.Step.{step}
use Rattle.files_model.specs.Torn.{after_calls}
use Rattle.files_model.proofs.Maps.{get-insert_other}
use Rattle.stable.specs.Store.{Image}
use Rattle.v7_map.specs.Frame.{frame}
use Rattle.v7_map.specs.View.{view}
use Rattle.v7_map.specs.Weak.{IsStrong}
use Rattle.v7_map.proofs.AnyFrame.{frame-IsFrame}
use Rattle.v7_map.proofs.Nodes.{live-node, view-node}
use Rattle.v7_map.proofs.Used.{named_used}
use Rattle.v7_strokes.proofs.Directories.{stands-dir, place-past, place-empty}
use Rattle.v7_strokes.proofs.SlotStep.{used-number}
use Rattle.name_plans.specs.Moving.{IsMoving}
use Rattle.name_plans.proofs.CreatingAccepted.{first_none}
use Rattle.name_plans.proofs.CreatingInPlace.{not_no, good-name, lt_ltb}
use Rattle.name_plans.proofs.NamedSlots.{named-slot, named-past}

pub rename-step : (files : Files) (from to : FileId) (name new_name : List ℕ) (cred : Cred) (now i k : ℕ) (n dp dq : Node) → IsMoving files from to name new_name cred now i k n dp dq → i ≢ 0 → get files.nodes from.ino ≡ Some dp
    → step files (call.Rename from name to new_name) cred now ≡ (reply.Done, with_node (with_node files to.ino (with_entry dq (Some (i, new_name)) now)) from.ino (without_entry dp k now))
unfolding rename_row
rename-step files from to name new_name cred now i k n dp dq c nz at =
    (λ z. at_live files (c.live_from z) (λ p. at_live files (c.live_to z) (λ q. row p q)))
    ∙ (λ z. unless files (c.tests z) (at_slot files (c.slot z) (λ l. at_node files (get files.nodes (number_at dp.slots l)) (answer dp dq l (number_at dp.slots l)))))
    ∙ (λ z. at_node files (get files.nodes (c.number z)) (answer dp dq k (c.number z)))
    ∙ (λ z. at_node files (c.node z) (answer dp dq k i))
    ∙ (λ z. moved (c.absent z))
    ∙ ap (λ b. if b then (reply.Done, files) else unless files (first_of (rename_tests files from dp to dq None new_name i n cred now)) (reply.Done, moved_files files from dp k to dq None new_name i now)) (ne_eqb 0 i (λ e. nz (sym e)))
    ∙ (λ z. unless files (c.allowed z) (reply.Done, moved_files files from dp k to dq None new_name i now))
    ∙ ap (λ f. (reply.Done, f)) (ap (λ b. if b && true then with_node files from.ino (record dp { slots = set dp.slots k (Some (i, new_name)); mtime = now; ctime = now }) else two) (ne_eqb from.ino to.ino (λ e. c.apart (sym e)))
    ∙ ap (emptied_at (with_node files to.ino (with_entry dq (Some (i, new_name)) now)) from.ino k now) (get-insert_other files.nodes to.ino (with_entry dq (Some (i, new_name)) now) from.ino (λ e. c.apart (sym e)) ∙ at))
  where
    two : Files
    two = emptied_in (with_node files to.ino (with_entry dq (Some (i, new_name)) now)) from.ino k now

    answer : Node → Node → ℕ → ℕ → Node → Reply × Files
    answer p q l j x =
        if unwrap_or (option_map (number_at q.slots) (position (has_name new_name) q.slots)) 0 == j then (reply.Done, files)
        else unless files (first_of (rename_tests files from p to q (position (has_name new_name) q.slots) new_name j x cred now))
        (reply.Done, moved_files files from p l to q (position (has_name new_name) q.slots) new_name j now)

    row : Node → Node → Reply × Files
    row p q = unless files (first_of ((files.read_only, stat.Rofs) ∷ (not (is_directory p.kind), stat.Notdir) ∷ (not (is_directory q.kind), stat.Notdir) ∷ name_tests name ++ name_tests new_name))
        (at_name files p name (answer p q))

    moved : Option ℕ → Reply × Files
    moved o = if unwrap_or (option_map (number_at dq.slots) o) 0 == i then (reply.Done, files)
        else unless files (first_of (rename_tests files from dp to dq o new_name i n cred now)) (reply.Done, moved_files files from dp k to dq o new_name i now)

-- Slot k of the one directory, which names file i, is emptied, and empty slot l of the other one names it.
pub record IsMove (files : Files) (from to : FileId) (name new_name : List ℕ) (cred : Cred) (now i k l : ℕ) (n dp dq : Node) : Type 0 where
  pub at_from : get files.nodes from.ino ≡ Some dp
  pub at_to : get files.nodes to.ino ≡ Some dq
  pub at_file : get files.nodes i ≡ Some n
  pub from_kind : is_directory dp.kind ≡ true
  pub to_kind : is_directory dq.kind ≡ true
  pub file : is_directory n.kind ≡ false
  pub apart : to.ino ≢ from.ino
  pub old_slot : get_or dp.slots k None ≡ Some (i, name)
  pub old_inside : k < length dp.slots
  pub old_past : 2 ≤ k
  pub new_slot : get_or dq.slots l None ≡ None
  pub new_inside : l < length dq.slots
  pub new_past : 2 ≤ l
  pub good_name : new_name ≢ []
  pub bound : n.nlink + 1 ≤ 65535
  pub after : after_calls files ((call.Rename from name to new_name, cred) ∷ []) now
      ≡ with_node (with_node files to.ino (record dq { slots = set dq.slots l (Some (i, new_name)); mtime = now; ctime = now })) from.ino (record dp { slots = set dp.slots k None; mtime = now; ctime = now })

-- a directory with one slot more at its end
abbrev pub longer_by : Node → ℕ → List ℕ → ℕ → Node
longer_by d i name now = record d { slots = d.slots ++ Some (i, name) ∷ []; size = d.size + 16; mtime = now; ctime = now }

-- Slot k of the one directory, which names file i, is emptied, and the other one, which gets longer, names it at its end.
pub record IsMoveAtEnd (files : Files) (from to : FileId) (name new_name : List ℕ) (cred : Cred) (now i k : ℕ) (n dp dq : Node) : Type 0 where
  pub at_from : get files.nodes from.ino ≡ Some dp
  pub at_to : get files.nodes to.ino ≡ Some dq
  pub at_file : get files.nodes i ≡ Some n
  pub from_kind : is_directory dp.kind ≡ true
  pub to_kind : is_directory dq.kind ≡ true
  pub file : is_directory n.kind ≡ false
  pub apart : to.ino ≢ from.ino
  pub old_slot : get_or dp.slots k None ≡ Some (i, name)
  pub old_inside : k < length dp.slots
  pub old_past : 2 ≤ k
  pub good_name : new_name ≢ []
  pub bound : n.nlink + 1 ≤ 65535
  pub after : after_calls files ((call.Rename from name to new_name, cred) ∷ []) now
      ≡ with_node (with_node files to.ino (longer_by dq i new_name now)) from.ino (record dp { slots = set dp.slots k None; mtime = now; ctime = now })

clash : {b : Bool} → b ≡ true → b ≡ false → ⊥
clash {b = b} x y = cc

or_no : (a b : Bool) → (a || b) ≡ false → (a ≡ false) × (b ≡ false)
or_no true b e = absurd (cc)
or_no false b e = (refl, e)

and_second : (a b : Bool) → (a && b) ≡ false → b ≡ true → a ≡ false
and_second true b e t = absurd (clash t e)
and_second false b e t = refl

module _ (image : Image) (from to : FileId) (name new_name : List ℕ) (cred : Cred) (now i k : ℕ) (n dp dq : Node) (strong : IsStrong (frame image)) (c : IsMoving (view image) from to name new_name cred now i k n dp dq) where
  good : (not (is_directory dp.kind) ≡ false) × (not (is_directory dq.kind) ≡ false) × ((is_bad name || is_dots name) ≡ false) × ((is_bad new_name || is_dots new_name) ≡ false)
  good =
      let a = first_none (view image).read_only stat.Rofs ((not (is_directory dp.kind), stat.Notdir) ∷ (not (is_directory dq.kind), stat.Notdir) ∷ name_tests name ++ name_tests new_name) c.tests in
      let b = first_none (not (is_directory dp.kind)) stat.Notdir ((not (is_directory dq.kind), stat.Notdir) ∷ name_tests name ++ name_tests new_name) a.1 in
      let e = first_none (not (is_directory dq.kind)) stat.Notdir (name_tests name ++ name_tests new_name) b.1 in
      let g = first_none (is_bad name || is_dots name) stat.Acces ((ltb most_name (length name), stat.Nametoolong) ∷ name_tests new_name) e.1 in
      let h = first_none (ltb most_name (length name)) stat.Nametoolong (name_tests new_name) g.1 in
      let m = first_none (is_bad new_name || is_dots new_name) stat.Acces ((ltb most_name (length new_name), stat.Nametoolong) ∷ []) h.1 in (b.0, e.0, g.0, m.0)

  passed : (a b c d e f g : Bool) → first_of ((a, stat.Exist) ∷ (b, stat.Perm) ∷ (c, stat.Isdir) ∷ (d, stat.Acces) ∷ (e, stat.Acces) ∷ (f, stat.Fbig) ∷ (g, stat.Nospc) ∷ []) ≡ None → (b ≡ false) × (g ≡ false)
  passed a b c d e f g h =
      let t1 = first_none a stat.Exist ((b, stat.Perm) ∷ (c, stat.Isdir) ∷ (d, stat.Acces) ∷ (e, stat.Acces) ∷ (f, stat.Fbig) ∷ (g, stat.Nospc) ∷ []) h in
      let t2 = first_none b stat.Perm ((c, stat.Isdir) ∷ (d, stat.Acces) ∷ (e, stat.Acces) ∷ (f, stat.Fbig) ∷ (g, stat.Nospc) ∷ []) t1.1 in
      let t3 = first_none c stat.Isdir ((d, stat.Acces) ∷ (e, stat.Acces) ∷ (f, stat.Fbig) ∷ (g, stat.Nospc) ∷ []) t2.1 in
      let t4 = first_none d stat.Acces ((e, stat.Acces) ∷ (f, stat.Fbig) ∷ (g, stat.Nospc) ∷ []) t3.1 in
      let t5 = first_none e stat.Acces ((f, stat.Fbig) ∷ (g, stat.Nospc) ∷ []) t4.1 in
      let t6 = first_none f stat.Fbig ((g, stat.Nospc) ∷ []) t5.1 in
      (t2.0, (first_none g stat.Nospc [] t6.1).0)

  other : (from.ino == to.ino) ≡ false
  other = ne_eqb from.ino to.ino (λ e. c.apart (sym e))

  answers : ((is_directory n.kind && not (from.ino == to.ino)) ≡ false) × ((not ((from.ino == to.ino) && true) && ((n.nlink == 65535) || is_full_for (view image) dq (renamed_in dq (Some (i, new_name)) None now))) ≡ false)
  answers = passed (is_directory n.kind && false) (is_directory n.kind && not (from.ino == to.ino)) false (not (may_change cred from.ino dp)) (not (may_change cred to.ino dq))
      (not ((from.ino == to.ino) && true) && ltb size_limit (renamed_in dq None None now).size)
      (not ((from.ino == to.ino) && true) && ((n.nlink == 65535) || is_full_for (view image) dq (renamed_in dq (Some (i, new_name)) None now))) c.allowed

  file : is_directory n.kind ≡ false
  file = and_second (is_directory n.kind) (not (from.ino == to.ino)) answers.0 (ap not other)

  bound : n.nlink + 1 ≤ 65535
  bound =
      let full : ((n.nlink == 65535) || is_full_for (view image) dq (renamed_in dq (Some (i, new_name)) None now)) ≡ false =
      ap (λ b. not (b && true) && ((n.nlink == 65535) || is_full_for (view image) dq (renamed_in dq (Some (i, new_name)) None now))) (sym other) ∙ answers.1 in
      let more : n.nlink ≢ 65535 = λ z. clash (eq-eqb n.nlink 65535 z) (or_no (n.nlink == 65535) (is_full_for (view image) dq (renamed_in dq (Some (i, new_name)) None now)) full).0 in
      let most : n.nlink ≤ 65535 = subst (λ z. z ≤ 65535) (ap (λ (m : Node). m.nlink) (view-node image i n c.node).is) (strong.weak.names.linked i) in omega arith

  at_p : get (view image).nodes from.ino ≡ Some dp
  at_p = live-node (view image) from dp c.live_from

  at_q : get (view image).nodes to.ino ≡ Some dq
  at_q = live-node (view image) to dq c.live_to

  kind_p : is_directory dp.kind ≡ true
  kind_p = not_no (is_directory dp.kind) good.0

  kind_q : is_directory dq.kind ≡ true
  kind_q = not_no (is_directory dq.kind) good.1

  old : (k < length dp.slots) × (get_or dp.slots k None ≡ Some (i, name))
  old = named-slot dp.slots name k i c.slot c.number

  old_past : 2 ≤ k
  old_past = named-past image from.ino dp name k i strong.weak (stands-dir image from.ino dp strong.weak at_p kind_p) old.1 good.2

  nz : i ≢ 0
  nz e = let u = used-number image i (named_used (frame image) strong.weak (frame-IsFrame image).directories i (view-node image i n c.node).named) in let low = u.0 in absurd (omega arith)

  empty_slot : place_for dq.slots < length dq.slots → get_or dq.slots (place_for dq.slots) None ≡ None
  empty_slot inside = let s = stands-dir image to.ino dq strong.weak at_q kind_q in ap (λ x. get_or x (place_for dq.slots) None) (sym s.slots) ∙ place-empty image to.ino dq strong.weak s inside

  pub rename-move : place_for dq.slots < length dq.slots → IsMove (view image) from to name new_name cred now i k (place_for dq.slots) n dp dq
  unfolding with_entry
  rename-move inside = record {
    at_from = at_p;
    at_to = at_q;
    at_file = c.node;
    from_kind = kind_p;
    to_kind = kind_q;
    file = file;
    apart = c.apart;
    old_slot = old.1;
    old_inside = old.0;
    old_past = old_past;
    new_slot = empty_slot inside;
    new_inside = inside;
    new_past = place-past image to.ino dq strong.weak (stands-dir image to.ino dq strong.weak at_q kind_q);
    good_name = good-name new_name good.3;
    bound = bound;
    after = ap (λ r. r.1) (rename-step (view image) from to name new_name cred now i k n dp dq c nz at_p)
        ∙ ap (λ t. with_node (with_node (view image) to.ino (cond t (record dq { slots = set dq.slots (place_for dq.slots) (Some (i, new_name)); mtime = now; ctime = now }) (record dq { slots = dq.slots ++ Some (i, new_name) ∷ []; size = dq.size + 16; mtime = now; ctime = now }))) from.ino (without_entry dp k now))
        (lt_ltb (place_for dq.slots) (length dq.slots) inside);
  }

  pub rename-move_at_end : length dq.slots ≤ place_for dq.slots → IsMoveAtEnd (view image) from to name new_name cred now i k n dp dq
  unfolding with_entry
  rename-move_at_end full = record {
    at_from = at_p;
    at_to = at_q;
    at_file = c.node;
    from_kind = kind_p;
    to_kind = kind_q;
    file = file;
    apart = c.apart;
    old_slot = old.1;
    old_inside = old.0;
    old_past = old_past;
    good_name = good-name new_name good.3;
    bound = bound;
    after = ap (λ r. r.1) (rename-step (view image) from to name new_name cred now i k n dp dq c nz at_p)
        ∙ ap (λ t. with_node (with_node (view image) to.ino (cond t (record dq { slots = set dq.slots (place_for dq.slots) (Some (i, new_name)); mtime = now; ctime = now }) (record dq { slots = dq.slots ++ Some (i, new_name) ∷ []; size = dq.size + 16; mtime = now; ctime = now }))) from.ino (without_entry dp k now))
        (le-ltb (place_for dq.slots) (length dq.slots) full);
  }
