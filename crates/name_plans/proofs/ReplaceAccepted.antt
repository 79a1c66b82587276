-- What the step of an accepted RENAME onto a name that stands is, and what is known of its slots and nodes.
use Rattle.std.proofs.Common.{◌≡◌, ◌≢◌, ℕ, ◌+◌, ◌<◌, ◌≤◌, Bool, true, false, not, ◌&&◌, ◌||◌, ◌==◌, if◌then◌else◌, List, [], ◌∷◌, ◌++◌, length, get_or, set, Option, Some, None, refl, sym, ap, subst, ◌∙◌, arith, ltb, eq-eqb, unwrap_or}
use Rattle.std.proofs.lemmas.Bool.{ne_eqb}
use Rattle.std.specs.FinMap.{get}
use Rattle.std.specs.List.{position}
use Rattle.std.specs.Option.{option_map}
use Rattle.files_model.specs.declared.attributes.FileId.{FileId}
use Rattle.files_model.specs.declared.attributes.Kind.{Kind}
use Rattle.files_model.specs.declared.attributes.Kind.TheVariants.{Regular, Directory, Link}
use Rattle.files_model.specs.declared.credential.Cred.{Cred}
use Rattle.files_model.specs.declared.call.Call.TheVariants as call
use Rattle.files_model.specs.declared.reply.Stat.TheVariants as stat
use Rattle.files_model.specs.declared.reply.Reply.{Reply}
use Rattle.files_model.specs.declared.reply.Reply.TheVariants as reply
use Rattle.files_model.specs.Answers.{at_live, unless, first_of, with_node}
use Rattle.files_model.specs.Files.{Node, Files, live}
use Rattle.files_model.specs.NameRows.{rename_row, less_link, rename_tests, renamed_in, moved_files, replaced_in, replaced_at, emptied_in, emptied_at, is_full_for, is_directory_at}
use Rattle.files_model.specs.Names.{at_slot, at_node, at_name, name_tests, is_bad, is_dots, most_name, has_name, number_at, without_entry, may_change}
use Rattle.files_model.specs.Permission.{is_directory}
use Rattle.files_model.specs.Space.{size_limit}
use Rattle.files_model.specs.Step.{step}
use Rattle.files_model.specs.Torn.{after_calls}
use Rattle.files_model.proofs.Maps.{get-insert_other}
use Rattle.stable.specs.Store.{Image}
use Rattle.v7_map.specs.Frame.{frame}
use Rattle.v7_map.specs.View.{view}
use Rattle.v7_map.specs.Weak.{IsStrong}
use Rattle.v7_map.proofs.Nodes.{live-node, view-node}
use Rattle.v7_strokes.proofs.Directories.{stands-dir}
use Rattle.name_plans.specs.Replacement.{IsReplacement}
use Rattle.name_plans.proofs.CreatingAccepted.{first_none}
use Rattle.name_plans.proofs.CreatingInPlace.{not_no}
use Rattle.name_plans.proofs.NamedSlots.{named-slot, named-past}

pub no_kind : (kind : Kind) → is_directory kind ≡ false → kind ≢ Directory
no_kind Regular e z = cc
no_kind Directory e z = cc
no_kind Link e z = cc

-- Slot k of the one directory, which names file i, is emptied; slot l of the other one, or of the same, names i in place of file r, which loses that name.
pub record IsReplacing (files : Files) (from to : FileId) (name new_name : List ℕ) (cred : Cred) (now i r k l : ℕ) (n w dp dq : Node) : Type 0 where
  pub at_from : get files.nodes from.ino ≡ Some dp
  pub at_to : get files.nodes to.ino ≡ Some dq
  pub at_file : get files.nodes i ≡ Some n
  pub at_replaced : get files.nodes r ≡ Some w
  pub from_kind : is_directory dp.kind ≡ true
  pub to_kind : is_directory dq.kind ≡ true
  pub file : is_directory n.kind ≡ false
  pub replaced_file : is_directory w.kind ≡ false
  pub differ : r ≢ i
  pub old_slot : get_or dp.slots k None ≡ Some (i, name)
  pub old_inside : k < length dp.slots
  pub old_past : 2 ≤ k
  pub new_slot : get_or dq.slots l None ≡ Some (r, new_name)
  pub new_inside : l < length dq.slots
  pub new_past : 2 ≤ l
  pub bound : n.nlink + 1 ≤ 65535
  pub after : after_calls files ((call.Rename from name to new_name, cred) ∷ []) now
      ≡ less_link (emptied_in (with_node files to.ino (record dq { slots = set dq.slots l (Some (i, new_name)); mtime = now; ctime = now })) from.ino k now) r w now

and_no : (b : Bool) → (b && false) ≡ false
and_no true = refl
and_no false = refl

or_no : (a b : Bool) → (a || b) ≡ false → (a ≡ false) × (b ≡ false)
or_no true b e = absurd (cc)
or_no false b e = (refl, e)

and_fst : (a b : Bool) → (a && b) ≡ false → b ≡ true → a ≡ false
and_fst true b e t = absurd (cc)
and_fst false b e t = refl

-- what the tests of a RENAME say that passed
passed : (a b c d e f g : Bool) → first_of ((a, stat.Exist) ∷ (b, stat.Perm) ∷ (c, stat.Isdir) ∷ (d, stat.Acces) ∷ (e, stat.Acces) ∷ (f, stat.Fbig) ∷ (g, stat.Nospc) ∷ []) ≡ None → (a ≡ false) × (c ≡ false) × (g ≡ false)
passed a b c d e f g h =
    let t1 = first_none a stat.Exist ((b, stat.Perm) ∷ (c, stat.Isdir) ∷ (d, stat.Acces) ∷ (e, stat.Acces) ∷ (f, stat.Fbig) ∷ (g, stat.Nospc) ∷ []) h in
    let t2 = first_none b stat.Perm ((c, stat.Isdir) ∷ (d, stat.Acces) ∷ (e, stat.Acces) ∷ (f, stat.Fbig) ∷ (g, stat.Nospc) ∷ []) t1.1 in
    let t3 = first_none c stat.Isdir ((d, stat.Acces) ∷ (e, stat.Acces) ∷ (f, stat.Fbig) ∷ (g, stat.Nospc) ∷ []) t2.1 in
    let t4 = first_none d stat.Acces ((e, stat.Acces) ∷ (f, stat.Fbig) ∷ (g, stat.Nospc) ∷ []) t3.1 in
    let t5 = first_none e stat.Acces ((f, stat.Fbig) ∷ (g, stat.Nospc) ∷ []) t4.1 in
    let t6 = first_none f stat.Fbig ((g, stat.Nospc) ∷ []) t5.1 in
    (t1.0, t3.0, (first_none g stat.Nospc [] t6.1).0)

emptied-other : (files : Files) (p k now : ℕ) (o : Option Node) (r : ℕ) → r ≢ p → get (emptied_at files p k now o).nodes r ≡ get files.nodes r
emptied-other files p k now None r ne = refl
emptied-other files p k now (Some d) r ne = get-insert_other files.nodes p (without_entry d k now) r ne

pub replace-step : (files : Files) (from to : FileId) (name new_name : List ℕ) (cred : Cred) (now : ℕ) (dp dq : Node) (k i : ℕ) (n : Node) (l r : ℕ) (w : Node) → live files from ≡ Some dp → live files to ≡ Some dq
    → first_of ((files.read_only, stat.Rofs) ∷ (not (is_directory dp.kind), stat.Notdir) ∷ (not (is_directory dq.kind), stat.Notdir) ∷ name_tests name ++ name_tests new_name) ≡ None
    → position (has_name name) dp.slots ≡ Some k → number_at dp.slots k ≡ i → get files.nodes i ≡ Some n
    → position (has_name new_name) dq.slots ≡ Some l → number_at dq.slots l ≡ r → get files.nodes r ≡ Some w → r ≢ i → r ≢ from.ino → r ≢ to.ino
    → first_of (rename_tests files from dp to dq (Some l) new_name i n cred now) ≡ None
    → step files (call.Rename from name to new_name) cred now
    ≡ (reply.Done, less_link (emptied_in (with_node files to.ino (record dq { slots = set dq.slots l (Some (i, new_name)); mtime = now; ctime = now })) from.ino k now) r w now)
unfolding rename_row
replace-step files from to name new_name cred now dp dq k i n l r w is_p is_q tests slot number node standing target at_r differ r_p r_q allowed =
    (λ z. at_live files (is_p z) (λ p. at_live files (is_q z) (λ q. row p q)))
    ∙ (λ z. unless files (tests z) (at_slot files (slot z) (λ m. at_node files (get files.nodes (number_at dp.slots m)) (answer dp dq m (number_at dp.slots m)))))
    ∙ (λ z. at_node files (get files.nodes (number z)) (answer dp dq k (number z)))
    ∙ (λ z. at_node files (node z) (answer dp dq k i))
    ∙ (λ z. moved (standing z))
    ∙ (λ z. if target z == i then (reply.Done, files) else unless files (first_of (rename_tests files from dp to dq (Some l) new_name i n cred now)) (reply.Done, moved_files files from dp k to dq (Some l) new_name i now))
    ∙ ap (λ b. if b then (reply.Done, files) else unless files (first_of (rename_tests files from dp to dq (Some l) new_name i n cred now)) (reply.Done, moved_files files from dp k to dq (Some l) new_name i now)) (ne_eqb r i differ)
    ∙ (λ z. unless files (allowed z) (reply.Done, moved_files files from dp k to dq (Some l) new_name i now))
    ∙ ap (λ f. (reply.Done, f)) (ap (λ b. if b then with_node files from.ino (record dp { slots = set dp.slots k (Some (i, new_name)); mtime = now; ctime = now }) else replaced_in two (Some (number_at dq.slots l)) now) (and_no (from.ino == to.ino))
    ∙ (λ z. replaced_in two (Some (target z)) now)
    ∙ ap (replaced_at two r now) (emptied-other one from.ino k now (get one.nodes from.ino) r r_p ∙ get-insert_other files.nodes to.ino (record dq { slots = set dq.slots l (Some (i, new_name)); mtime = now; ctime = now }) r r_q ∙ at_r))
  where
    one : Files
    one = with_node files to.ino (record dq { slots = set dq.slots l (Some (i, new_name)); mtime = now; ctime = now })

    two : Files
    two = emptied_in (with_node files to.ino (record dq { slots = set dq.slots l (Some (i, new_name)); mtime = now; ctime = now })) from.ino k now

    answer : Node → Node → ℕ → ℕ → Node → Reply × Files
    answer p q m j x =
        if unwrap_or (option_map (number_at q.slots) (position (has_name new_name) q.slots)) 0 == j then (reply.Done, files)
        else unless files (first_of (rename_tests files from p to q (position (has_name new_name) q.slots) new_name j x cred now))
        (reply.Done, moved_files files from p m to q (position (has_name new_name) q.slots) new_name j now)

    row : Node → Node → Reply × Files
    row p q = unless files (first_of ((files.read_only, stat.Rofs) ∷ (not (is_directory p.kind), stat.Notdir) ∷ (not (is_directory q.kind), stat.Notdir) ∷ name_tests name ++ name_tests new_name))
        (at_name files p name (answer p q))

    moved : Option ℕ → Reply × Files
    moved o = if unwrap_or (option_map (number_at dq.slots) o) 0 == i then (reply.Done, files)
        else unless files (first_of (rename_tests files from dp to dq o new_name i n cred now)) (reply.Done, moved_files files from dp k to dq o new_name i now)

pub rename-replacing : (image : Image) (from to : FileId) (name new_name : List ℕ) (cred : Cred) (now i r k l : ℕ) (n w dp dq : Node) → IsStrong (frame image) → IsReplacement (view image) from to name new_name cred now i r k l n w dp dq
    → IsReplacing (view image) from to name new_name cred now i r k l n w dp dq
rename-replacing image from to name new_name cred now i r k l n w dp dq strong c =
    let a = first_none (view image).read_only stat.Rofs ((not (is_directory dp.kind), stat.Notdir) ∷ (not (is_directory dq.kind), stat.Notdir) ∷ name_tests name ++ name_tests new_name) c.tests in
    let b = first_none (not (is_directory dp.kind)) stat.Notdir ((not (is_directory dq.kind), stat.Notdir) ∷ name_tests name ++ name_tests new_name) a.1 in
    let e = first_none (not (is_directory dq.kind)) stat.Notdir (name_tests name ++ name_tests new_name) b.1 in
    let g = first_none (is_bad name || is_dots name) stat.Acces ((ltb most_name (length name), stat.Nametoolong) ∷ name_tests new_name) e.1 in
    let h = first_none (ltb most_name (length name)) stat.Nametoolong (name_tests new_name) g.1 in
    let m = first_none (is_bad new_name || is_dots new_name) stat.Acces ((ltb most_name (length new_name), stat.Nametoolong) ∷ []) h.1 in
    let x = passed (is_directory n.kind && true) (is_directory n.kind && not (from.ino == to.ino)) (is_directory_at (get (view image).nodes (number_at dq.slots l))) (not (may_change cred from.ino dp)) (not (may_change cred to.ino dq))
    (not ((from.ino == to.ino) && false) && ltb size_limit (renamed_in dq None (Some l) now).size)
    (not ((from.ino == to.ino) && false) && ((n.nlink == 65535) || is_full_for (view image) dq (renamed_in dq (Some (i, new_name)) (Some l) now))) c.allowed in
    let full : ((n.nlink == 65535) || is_full_for (view image) dq (renamed_in dq (Some (i, new_name)) (Some l) now)) ≡ false =
    ap (λ b. not b && ((n.nlink == 65535) || is_full_for (view image) dq (renamed_in dq (Some (i, new_name)) (Some l) now))) (sym (and_no (from.ino == to.ino))) ∙ x.2 in
    let more : n.nlink ≢ 65535 = λ z. clash (eq-eqb n.nlink 65535 z) (or_no (n.nlink == 65535) (is_full_for (view image) dq (renamed_in dq (Some (i, new_name)) (Some l) now)) full).0 in
    let most : n.nlink ≤ 65535 = subst (λ z. z ≤ 65535) (ap (λ (m : Node). m.nlink) (view-node image i n c.node).is) (strong.weak.names.linked i) in
    let at_p = live-node (view image) from dp c.live_from in
    let at_q = live-node (view image) to dq c.live_to in
    let kind_p = not_no (is_directory dp.kind) b.0 in
    let kind_q = not_no (is_directory dq.kind) e.0 in
    let file_r : is_directory w.kind ≡ false = ap is_directory_at (sym c.replaced ∙ ap (get (view image).nodes) (sym c.target)) ∙ x.1 in
    let old = named-slot dp.slots name k i c.slot c.number in
    let new = named-slot dq.slots new_name l r c.standing c.target in
    record {
      at_from = at_p;
      at_to = at_q;
      at_file = c.node;
      at_replaced = c.replaced;
      from_kind = kind_p;
      to_kind = kind_q;
      file = and_fst (is_directory n.kind) true x.0 refl;
      replaced_file = file_r;
      differ = c.differ;
      old_slot = old.1;
      old_inside = old.0;
      old_past = named-past image from.ino dp name k i strong.weak (stands-dir image from.ino dp strong.weak at_p kind_p) old.1 g.0;
      new_slot = new.1;
      new_inside = new.0;
      new_past = named-past image to.ino dq new_name l r strong.weak (stands-dir image to.ino dq strong.weak at_q kind_q) new.1 m.0;
      bound = omega arith;
      after = ap (λ z. z.1) (replace-step (view image) from to name new_name cred now dp dq k i n l r w c.live_from c.live_to c.tests c.slot c.number c.node c.standing c.target c.replaced c.differ
          (λ z. other_kind w dp file_r kind_p (sym c.replaced ∙ ap (get (view image).nodes) z ∙ at_p)) (λ z. other_kind w dq file_r kind_q (sym c.replaced ∙ ap (get (view image).nodes) z ∙ at_q)) c.allowed);
    }
  where
    clash : {b : Bool} → b ≡ true → b ≡ false → ⊥
    clash {b = b} x y = cc

    some_is : (x y : Node) → Some x ≡ Some y → x ≡ y
    some_is x y e = cc

    other_kind : (w d : Node) → is_directory w.kind ≡ false → is_directory d.kind ≡ true → Some w ≡ Some d → ⊥
    other_kind w d f t e = clash t (ap (λ (m : Node). is_directory m.kind) (sym (some_is w d e)) ∙ f)
