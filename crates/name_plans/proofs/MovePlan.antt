-- RENAME from one directory into another, as a plan.
use Rattle.stable.specs.Puts.{put_all}
use Rattle.v7_sets.specs.Sets.{AreSetsOf}
use Rattle.name_plans.proofs.StayingSets.{sets-stay}
use Rattle.std.proofs.Common.{◌≡◌, ◌≢◌, ℕ, ◌+◌, ◌/◌, ◌<◌, ◌≤◌, Bool, true, false, cond, List, [], ◌∷◌, length, get_or, set, refl, sym, ap, subst, ◌∙◌, arith, inl, inr, ⊎_elim, Option, Some, None, ltb, eq-eqb, length-set}
use Rattle.std.proofs.lemmas.Bool.{cases_eq, ne_eqb, eqb-true}
use Rattle.std.specs.FinMap.{get}
use Rattle.v7_layout.specs.declared.inode.Inode.{Inode}
use Rattle.files_model.specs.declared.attributes.FileId.{FileId}
use Rattle.files_model.specs.declared.credential.Cred.{Cred}
use Rattle.files_model.specs.Files.{Node, Files}
use Rattle.files_model.specs.Answers.{with_node}
use Rattle.files_model.specs.Torn.{Asked, Torn, after_calls}
use Rattle.stable.specs.Store.{Image}
use Rattle.v7_map.specs.Image.{sector_at, inode_at, inode_sector}
use Rattle.v7_map.specs.Frame.{Head, is_directory, frame, Frame}
use Rattle.v7_map.specs.Tree.{tree, is_walked, is_named, links, is_slot_of}
use Rattle.v7_map.specs.View.{view}
use Rattle.v7_map.specs.Weak.{IsWeak, IsStrong, slot_at}
use Rattle.v7_map.specs.Plan.{PutsInode}
use Rattle.v7_strokes.specs.Inodes.{timed_inode}
use Rattle.v7_map.specs.Plans.{IsPlanOf}
use Rattle.v7_map.proofs.Nodes.{StandsAs, view-node}
use Rattle.v7_map.proofs.Ranges.{inode_sector-inside}
use Rattle.v7_map.proofs.Walks.{or_right}
use Rattle.v7_strokes.proofs.Times.{frame_after_times, view_after_times}
use Rattle.name_plans.proofs.MoveAccepted.{IsMove}
use Rattle.name_plans.proofs.ReplaceAccepted.{no_kind}
use Rattle.v7_strokes.specs.Slots.{PutsSlot, PutsEntry}
use Rattle.v7_strokes.specs.Entries.{entry_sector}
use Rattle.v7_map.proofs.Children.{has_slot-at}
use Rattle.v7_strokes.proofs.Aside.{positive, slot-links}
use Rattle.v7_strokes.proofs.Names.{some_slot, none_slot}
use Rattle.v7_strokes.proofs.Directories.{StandsDir, stands-dir, node-directory}
use Rattle.v7_map.proofs.Named.{tree-numbers}
use Rattle.v7_plans.proofs.Local.{strong_for, strong_of}
use Rattle.v7_strokes.specs.Changes.{changed}
use Rattle.v7_strokes.proofs.Changed.{changed-there, changed-other, changed-first}
use Rattle.name_plans.proofs.RenameTorn.{third-here, third-second, third-first, third-other, third-middle, renamed-torn}
use Rattle.v7_strokes.proofs.Slots.{plain-alike}
use Rattle.v7_strokes.specs.Left.{one}
use Rattle.v7_strokes.proofs.SlotStep.{step-weak, step-strong, step-links, step-heads, step-change, step-is_walked, entry-inside, step-sizes, step-addresses}
use Rattle.v7_strokes.proofs.TornCalls.{IsAfter, same, times, torn-after, insert_again, insert_twice}
use Rattle.v7_strokes.proofs.Views.{view-slot}
use Rattle.files_model.specs.declared.call.Call.TheVariants as call

clash : {b : Bool} → b ≡ true → b ≡ false → ⊥
clash {b = b} x y = cc

module _ (image : Image) (from to : FileId) (name new_name : List ℕ) (cred : Cred) (now i k l : ℕ) (n dp dq : Node) (strong : IsStrong (frame image)) (c : IsMove (view image) from to name new_name cred now i k l n dp dq)
    (b1 : List ℕ) (p1 : PutsSlot (sector_at image (entry_sector image to.ino l)) l b1 (Some (i, new_name))) where
  s_p : StandsDir image from.ino dp
  s_p = stands-dir image from.ino dp strong.weak c.at_from c.from_kind

  s_q : StandsDir image to.ino dq
  s_q = stands-dir image to.ino dq strong.weak c.at_to c.to_kind

  s_i : StandsAs image i n
  s_i = view-node image i n c.at_file

  file : is_directory ((frame image).head i) ≡ false
  file = node-directory image i n s_i ∙ c.file

  i_p : i ≢ from.ino
  i_p e = clash s_p.dir (subst (λ z. is_directory ((frame image).head z) ≡ false) e file)

  i_q : i ≢ to.ino
  i_q e = clash s_q.dir (subst (λ z. is_directory ((frame image).head z) ≡ false) e file)

  old_slot : slot_at (tree (frame image)) from.ino k ≡ Some (i, name)
  old_slot = ap (λ x. get_or x k None) s_p.slots ∙ c.old_slot

  new_slot : slot_at (tree (frame image)) to.ino l ≡ None
  new_slot = ap (λ x. get_or x l None) s_q.slots ∙ c.new_slot

  used : ((frame image).head i).is_used ≡ true
  used = (strong.weak.names.used from.ino k i name s_p.walked old_slot).0

  all_links : links (tree (frame image)) i ≡ n.nlink
  all_links = ap (λ (m : Node). m.nlink) s_i.is

  first : Image
  first = set image (entry_sector image to.ino l) b1

  pub move-first : PutsEntry image to.ino l (entry_sector image to.ino l) b1 (Some (i, new_name))
  move-first = record {
    walked = s_q.walked;
    inside = let size = s_q.size in let long = s_q.long in let in' = c.new_inside in omega arith;
    is = refl;
    puts = p1;
    past = c.new_past;
    alike = plain-alike (tree (frame image)) (slot_at (tree (frame image)) to.ino l) (Some (i, new_name)) (λ j other e. absurd (none_slot j other (sym new_slot ∙ e))) (λ j other e. subst (λ z. is_directory ((frame image).head z) ≡ false) (some_slot i j new_name other e).0 file);
    used = λ j other e. let r = some_slot i j new_name other e in (subst (λ z. ((frame image).head z).is_used ≡ true) r.0 used, subst (λ z. z ≢ []) r.1 c.good_name);
    bound = λ j e _. let s : i ≡ j = eqb-true i j e in let h : links (tree (frame image)) j ≡ n.nlink = ap (links (tree (frame image))) (sym s) ∙ all_links in let b = c.bound in omega arith;
  }

  only_new : (j : ℕ) → j ≢ i → is_slot_of j (slot_at (tree (frame image)) to.ino l) ≡ is_slot_of j (Some (i, new_name))
  only_new j ne = ap (is_slot_of j) new_slot ∙ sym (ne_eqb i j (λ e. ne (sym e)))

  weak_first : IsWeak (frame first)
  unfolding first
  weak_first = step-weak image to.ino l (entry_sector image to.ino l) b1 (Some (i, new_name)) strong.weak move-first

  links_first : links (tree (frame first)) i ≡ n.nlink + 1
  unfolding first
  links_first =
      let r = step-links image to.ino l (entry_sector image to.ino l) b1 (Some (i, new_name)) strong.weak move-first i in
      let before : ◌≡◌ {A = ℕ} (one (is_slot_of i (slot_at (tree (frame image)) to.ino l))) 0 = ap (λ s. one (is_slot_of i s)) new_slot in
      let after : ◌≡◌ {A = ℕ} (one (is_slot_of i (Some (i, new_name)))) 1 = ap one (eq-eqb i i refl) in
      let a = all_links in omega arith

  named_first : is_named (tree (frame first)) i ≡ true
  named_first = or_right (is_walked (tree (frame first)) i) (ltb 0 (links (tree (frame first)) i)) (positive (links (tree (frame first)) i) (let l = links_first in omega arith))

  linked : Node
  linked = record n { nlink = n.nlink + 1 }

  slotted : Node
  slotted = record dq { slots = set dq.slots l (Some (i, new_name)) }

  view_first : view first ≡ changed (view image) i (Some linked) to.ino slotted
  unfolding first linked slotted
  view_first = view-slot image to.ino l (entry_sector image to.ino l) b1 (Some (i, new_name)) strong.weak move-first i only_new (λ e. i_q (sym e)) dq c.at_to s_i.within
      ∙ (λ z. changed (view image) i (cond (named_first z) (Some (record (s_i.is z) { nlink = links_first z })) None) to.ino (record dq { slots = set dq.slots l (Some (i, new_name)) }))

  -- the call, as three nodes
  after : after_calls (view image) ((call.Rename from name to new_name, cred) ∷ []) now
      ≡ with_node (changed (view image) i (Some n) to.ino (record dq { slots = set dq.slots l (Some (i, new_name)); mtime = now; ctime = now })) from.ino (record dp { slots = set dp.slots k None; mtime = now; ctime = now })
  after = c.after ∙ (λ z. with_node (with_node (record (view image) { nodes = sym (insert_again (view image).nodes i n c.at_file) z }) to.ino (record dq { slots = set dq.slots l (Some (i, new_name)); mtime = now; ctime = now })) from.ino (record dp { slots = set dp.slots k None; mtime = now; ctime = now }))

  torn_first : Torn (view image) ((call.Rename from name to new_name, cred) ∷ []) now (view first)
  unfolding linked slotted
  torn_first = renamed-torn (view image) from to name new_name cred now i k l n dp dq c.at_from c.at_to c.at_file (no_kind n.kind c.file) c.apart i_p i_q c.old_inside c.old_slot (view first) after view_first

  -- ---- the old slot

  module _ (b2 : List ℕ) (p2 : PutsSlot (sector_at (set image (entry_sector image to.ino l) b1) (entry_sector (set image (entry_sector image to.ino l) b1) from.ino k)) k b2 None) where
    second : Image
    second = set first (entry_sector first from.ino k) b2

    heads_first : (j : ℕ) → (frame first).head j ≡ (frame image).head j
    unfolding first
    heads_first = step-heads image to.ino l (entry_sector image to.ino l) b1 (Some (i, new_name)) strong.weak move-first

    slot_first : slot_at (tree (frame first)) from.ino k ≡ Some (i, name)
    unfolding first
    slot_first = ap (λ s. get_or s k None) ((step-change image to.ino l (entry_sector image to.ino l) b1 (Some (i, new_name)) strong.weak move-first).others from.ino (λ e. c.apart (sym e))) ∙ old_slot

    pub move-second : PutsEntry (set image (entry_sector image to.ino l) b1) from.ino k (entry_sector (set image (entry_sector image to.ino l) b1) from.ino k) b2 None
    unfolding first
    move-second = record {
      walked = step-is_walked image to.ino l (entry_sector image to.ino l) b1 (Some (i, new_name)) strong.weak move-first from.ino ∙ s_p.walked;
      inside = subst (λ (h : Head). k < h.size / 16) (sym (heads_first from.ino)) (let size = s_p.size in let long = s_p.long in let in' = c.old_inside in omega arith);
      is = refl;
      puts = p2;
      past = c.old_past;
      alike = plain-alike (tree (frame first)) (slot_at (tree (frame first)) from.ino k) None (λ j other e. subst (λ z. is_directory ((frame first).head z) ≡ false) (some_slot i j name other (sym slot_first ∙ e)).0 (ap is_directory (heads_first i) ∙ file)) (λ j other e. absurd (cc));
      used = λ j other e. absurd (cc);
      bound = λ j e _. absurd (cc);
    }

    only_old : (j : ℕ) → j ≢ i → is_slot_of j (slot_at (tree (frame first)) from.ino k) ≡ is_slot_of j None
    only_old j ne = ap (is_slot_of j) slot_first ∙ ne_eqb i j (λ e. ne (sym e))

    links_second : links (tree (frame second)) i ≡ n.nlink
    unfolding second first
    links_second =
        let r = step-links first from.ino k (entry_sector first from.ino k) b2 None weak_first move-second i in
        let before : ◌≡◌ {A = ℕ} (one (is_slot_of i (slot_at (tree (frame first)) from.ino k))) 1 = ap (λ s. one (is_slot_of i s)) slot_first ∙ ap one (eq-eqb i i refl) in
        let after' : ◌≡◌ {A = ℕ} (one (is_slot_of i None)) 0 = refl in
        let a = links_first in omega arith

    some_links : 1 ≤ n.nlink
    some_links = let r = links_old in r
      where
        links_old : 1 ≤ n.nlink
        links_old = subst (λ m. 1 ≤ m) all_links (slot-links (tree (frame image)) (tree-numbers image) from.ino i s_p.walked (has_slot-at (tree (frame image)) from.ino 0 i k name (omega arith) old_slot))

    named_second : is_named (tree (frame second)) i ≡ true
    named_second = or_right (is_walked (tree (frame second)) i) (ltb 0 (links (tree (frame second)) i)) (positive (links (tree (frame second)) i) (let l = links_second in let s = some_links in omega arith))

    strong_second : IsStrong (frame second)
    unfolding second first
    strong_second = strong_of i (frame second)
        (step-strong first from.ino k (entry_sector first from.ino k) b2 None weak_first move-second (λ j. j ≢ i)
        (step-strong image to.ino l (entry_sector image to.ino l) b1 (Some (i, new_name)) strong.weak move-first (λ j. j ≢ i) (strong_for (λ j. j ≢ i) (frame image) strong) only_new) only_old)
        (λ u. (ap (λ (h : Head). h.nlink) (step-heads first from.ino k (entry_sector first from.ino k) b2 None weak_first move-second i ∙ heads_first i) ∙ strong.counted i used ∙ all_links ∙ sym links_second, named_second))

    emptied : Node
    emptied = record dp { slots = set dp.slots k None }

    at_p_first : get (view first).nodes from.ino ≡ Some dp
    at_p_first = ap (λ (f : Files). get f.nodes from.ino) view_first ∙ changed-other (view image) i (Some linked) to.ino slotted from.ino (λ e. i_p (sym e)) (λ e. c.apart (sym e)) ∙ c.at_from

    at_i_first : StandsAs first i linked
    at_i_first = view-node first i linked (ap (λ (f : Files). get f.nodes i) view_first ∙ changed-there (view image) i (Some linked) to.ino slotted i_q)

    view_second : view second ≡ with_node (changed (view image) i (Some n) to.ino slotted) from.ino emptied
    unfolding second first emptied linked
    view_second =
        view-slot first from.ino k (entry_sector first from.ino k) b2 None weak_first move-second i only_old (λ e. i_p (sym e)) dp at_p_first at_i_first.within
        ∙ (λ z. changed (view first) i (cond (named_second z) (Some (record (at_i_first.is z) { nlink = links_second z })) None) from.ino (record dp { slots = set dp.slots k None }))
        ∙ ap (λ f. with_node (with_node f i n) from.ino (record dp { slots = set dp.slots k None })) view_first
        ∙ ap (λ f. with_node f from.ino (record dp { slots = set dp.slots k None })) (changed-first (view image) i (Some linked) to.ino slotted i_q n)

    -- ---- the times

    asked : Asked
    asked = (call.Rename from name to new_name, cred)

    timed : Node
    timed = record slotted { mtime = now; ctime = now }

    left : Node
    left = record emptied { mtime = now; ctime = now }

    three : Node → Node → Files
    three y z = with_node (changed (view image) i (Some n) to.ino y) from.ino z

    after' : after_calls (view image) (asked ∷ []) now ≡ three timed left
    unfolding asked timed left three slotted emptied
    after' = after

    at_q : (m : Image) (y z : Node) → view m ≡ three y z → get (view m).nodes to.ino ≡ Some y
    unfolding three
    at_q m y z e = ap (λ (f : Files). get f.nodes to.ino) e ∙ third-second (view image) i (Some n) to.ino y from.ino z c.apart

    at_p : (m : Image) (y z : Node) → view m ≡ three y z → get (view m).nodes from.ino ≡ Some z
    unfolding three
    at_p m y z e = ap (λ (f : Files). get f.nodes from.ino) e ∙ third-here (view image) i (Some n) to.ino y from.ino z

    times_q : (m : Image) (y z : Node) (b : List ℕ) → IsStrong (frame m) → view m ≡ three y z → PutsInode m to.ino b (timed_inode (inode_at m to.ino) now)
        → IsStrong (frame (set m (inode_sector to.ino) b)) × (view (set m (inode_sector to.ino) b) ≡ three (record y { mtime = now; ctime = now }) z)
    unfolding three
    times_q m y z b s e puts = (
      subst IsStrong (sym (frame_after_times m to.ino y s.weak (at_q m y z e) b now puts)) s,
      view_after_times m to.ino y s.weak (at_q m y z e) b now puts ∙ ap (λ f. with_node f to.ino (record y { mtime = now; ctime = now })) e
          ∙ third-middle (view image) i (Some n) to.ino y from.ino z c.apart (record y { mtime = now; ctime = now }),
    )

    times_p : (m : Image) (y z : Node) (b : List ℕ) → IsStrong (frame m) → view m ≡ three y z → PutsInode m from.ino b (timed_inode (inode_at m from.ino) now)
        → IsStrong (frame (set m (inode_sector from.ino) b)) × (view (set m (inode_sector from.ino) b) ≡ three y (record z { mtime = now; ctime = now }))
    unfolding three
    times_p m y z b s e puts = (
      subst IsStrong (sym (frame_after_times m from.ino z s.weak (at_p m y z e) b now puts)) s,
      view_after_times m from.ino z s.weak (at_p m y z e) b now puts ∙ ap (λ f. with_node f from.ino (record z { mtime = now; ctime = now })) e
          ∙ (λ w. record (changed (view image) i (Some n) to.ino y) { nodes = insert_twice (changed (view image) i (Some n) to.ino y).nodes from.ino z (record z { mtime = now; ctime = now }) w }),
    )

    torn_three : (m : Image) (y z : Node) → view m ≡ three y z → IsAfter (Some dq) (Some timed) (Some y) → IsAfter (Some dp) (Some left) (Some z) → Torn (view image) (asked ∷ []) now (view m)
    unfolding three asked
    torn_three m y z e hy hz = torn-after (view image) asked now (view m) refl
        (λ j. ⊎_elim
        (λ (h : j ≡ from.ino). moved (ap (get (view image).nodes) h ∙ c.at_from) (ap (get (after_calls (view image) (asked ∷ []) now).nodes) h ∙ ap (λ (f : Files). get f.nodes from.ino) after' ∙ third-here (view image) i (Some n) to.ino timed from.ino left)
        (ap (get (view m).nodes) h ∙ at_p m y z e) hz)
        (λ (np : j ≢ from.ino). ⊎_elim
        (λ (h : j ≡ to.ino). moved (ap (get (view image).nodes) h ∙ c.at_to) (ap (get (after_calls (view image) (asked ∷ []) now).nodes) h ∙ ap (λ (f : Files). get f.nodes to.ino) after' ∙ third-second (view image) i (Some n) to.ino timed from.ino left c.apart)
        (ap (get (view m).nodes) h ∙ at_q m y z e) hy)
        (λ (nq : j ≢ to.ino). ⊎_elim
        (λ (h : j ≡ i). moved refl (ap (get (after_calls (view image) (asked ∷ []) now).nodes) h ∙ ap (λ (f : Files). get f.nodes i) after' ∙ third-first (view image) i (Some n) to.ino timed from.ino left i_p i_q)
        (ap (get (view m).nodes) h ∙ ap (λ (f : Files). get f.nodes i) e ∙ third-first (view image) i (Some n) to.ino y from.ino z i_p i_q) (same refl))
        (λ (ni : j ≢ i). moved refl (ap (λ (f : Files). get f.nodes j) after' ∙ third-other (view image) i (Some n) to.ino timed from.ino left j ni nq np)
        (ap (λ (f : Files). get f.nodes j) e ∙ third-other (view image) i (Some n) to.ino y from.ino z j ni nq np) (same refl))
        (cases_eq j i))
        (cases_eq j to.ino))
        (cases_eq j from.ino))
        ((λ w. record (e w) { nodes = (view m).nodes }) ∙ (λ w. record (sym after' w) { nodes = (view m).nodes }))
      where
        moved : {o a t o' a' t' : Option Node} → o ≡ o' → a ≡ a' → t ≡ t' → IsAfter o' a' t' → IsAfter o a t
        moved {o = o} {a = a} {t = t} {o' = o'} {a' = a'} {t' = t'} f g h x = subst (λ v. IsAfter v a t) (sym f) (subst (λ v. IsAfter o' v t) (sym g) (subst (λ v. IsAfter o' a' v) (sym h) x))

    q_after : IsAfter (Some dq) (Some timed) (Some slotted)
    unfolding timed slotted
    q_after = times dq (record dq { slots = set dq.slots l (Some (i, new_name)); mtime = now; ctime = now }) refl refl refl

    p_after : IsAfter (Some dp) (Some left) (Some emptied)
    unfolding left emptied
    p_after = times dp (record dp { slots = set dp.slots k None; mtime = now; ctime = now }) refl refl refl

    second_view : view second ≡ three slotted emptied
    unfolding three
    second_view = view_second

    lengths : (length first ≡ length image) × (length second ≡ length image)
    unfolding second first
    lengths = (length-set image (entry_sector image to.ino l) b1, length-set first (entry_sector first from.ino k) b2 ∙ length-set image (entry_sector image to.ino l) b1)

    first_inside : (3 ≤ entry_sector image to.ino l) × (entry_sector image to.ino l < length image)
    first_inside = entry-inside image to.ino l (entry_sector image to.ino l) b1 (Some (i, new_name)) strong.weak move-first

    second_inside : (3 ≤ entry_sector first from.ino k) × (entry_sector first from.ino k < length image)
    unfolding first
    second_inside = let r = entry-inside first from.ino k (entry_sector first from.ino k) b2 None weak_first move-second in (r.0, subst (λ m. entry_sector first from.ino k < m) lengths.0 r.1)

    in_image : (m : Image) (j : ℕ) (b : List ℕ) (v : Inode) → IsWeak (frame m) → length m ≡ length image → PutsInode m j b v → inode_sector j < length image
    in_image m j b v w e puts = subst (λ x. inode_sector j < x) e (inode_sector-inside m w j puts.inside).2

    -- blocks and used inodes stay through the slots and the times
    sets_after : (m : Image) (y z : Node) → frame m ≡ frame second → view m ≡ three y z → (blocks inodes : List Bool) → AreSetsOf image blocks inodes → AreSetsOf m blocks inodes
    unfolding three second first
    sets_after m y z same_frame e blocks inodes sets =
        let u = step-sizes image to.ino l (entry_sector image to.ino l) b1 (Some (i, new_name)) strong.weak move-first in
        let v = step-sizes first from.ino k (entry_sector first from.ino k) b2 None weak_first move-second in
        sets-stay image m blocks inodes
        (ap (λ (f : Frame). f.isize) same_frame ∙ v.0 ∙ u.0, ap (λ (f : Frame). f.fsize) same_frame ∙ v.1 ∙ u.1)
        (λ j q. ap (λ (f : Frame). f.address j q) same_frame ∙ step-addresses first from.ino k (entry_sector first from.ino k) b2 None weak_first move-second j q
        ∙ step-addresses image to.ino l (entry_sector image to.ino l) b1 (Some (i, new_name)) strong.weak move-first j q)
        (λ j. ap (λ (f : Frame). (f.head j).is_used) same_frame ∙ ap (λ (h : Head). h.is_used) (step-heads first from.ino k (entry_sector first from.ino k) b2 None weak_first move-second j ∙ heads_first j))
        (ap (λ (f : Files). f.generations) e) sets

    -- the directory of the old name has the lower number
    module _ (b3 b4 : List ℕ)
        (p3 : PutsInode (set (set image (entry_sector image to.ino l) b1) (entry_sector (set image (entry_sector image to.ino l) b1) from.ino k) b2) from.ino b3
        (timed_inode (inode_at (set (set image (entry_sector image to.ino l) b1) (entry_sector (set image (entry_sector image to.ino l) b1) from.ino k) b2) from.ino) now))
        (p4 : PutsInode (set (set (set image (entry_sector image to.ino l) b1) (entry_sector (set image (entry_sector image to.ino l) b1) from.ino k) b2) (inode_sector from.ino) b3) to.ino b4
        (timed_inode (inode_at (set (set (set image (entry_sector image to.ino l) b1) (entry_sector (set image (entry_sector image to.ino l) b1) from.ino k) b2) (inode_sector from.ino) b3) to.ino) now)) where
      third : Image
      third = set second (inode_sector from.ino) b3

      at_third : IsStrong (frame third) × (view third ≡ three slotted left)
      unfolding third second first left
      at_third = times_p second slotted emptied b3 strong_second second_view p3

      at_fourth : IsStrong (frame (set third (inode_sector to.ino) b4)) × (view (set third (inode_sector to.ino) b4) ≡ three timed left)
      unfolding third second first timed
      at_fourth = times_q third slotted left b4 at_third.0 at_third.1 p4

      pub move-old_first : IsPlanOf image ((call.Rename from name to new_name, cred) ∷ []) now
          ((entry_sector image to.ino l, b1) ∷ (entry_sector (set image (entry_sector image to.ino l) b1) from.ino k, b2) ∷ (inode_sector from.ino, b3) ∷ (inode_sector to.ino, b4) ∷ [])
      unfolding third second first asked
      move-old_first =
          let low1 : 3 ≤ entry_sector image to.ino l = first_inside.0 in
          let low2 : 3 ≤ entry_sector first from.ino k = second_inside.0 in record {
            past = (omega arith, (omega arith, (omega arith, (omega arith, tt))));
            inside = (first_inside.1, (second_inside.1, (in_image second from.ino b3 _ strong_second.weak lengths.1 p3, (in_image third to.ino b4 _ at_third.0.weak (length-set second (inode_sector from.ino) b3 ∙ lengths.1) p4, tt))));
            whole = (p1.long, (p2.long, (p3.long, (p4.long, tt))));
            prefixes = (
              record { weak = strong.weak; torn = inl refl },
              (
                record { weak = weak_first; torn = torn_first },
                (
                  record { weak = strong_second.weak; torn = torn_three second slotted emptied second_view q_after p_after },
                  (
                    record { weak = at_third.0.weak; torn = torn_three third slotted left at_third.1 q_after (same refl) },
                    record { weak = at_fourth.0.weak; torn = inr (inl (at_fourth.1 ∙ sym after')) },
                  ),
                ),
              ),
            );
            strong = at_fourth.0;
            after = at_fourth.1 ∙ sym after';
          }

      pub move-old_sets : (blocks inodes : List Bool) → AreSetsOf image blocks inodes → AreSetsOf (put_all ((entry_sector image to.ino l, b1) ∷ (entry_sector (set image (entry_sector image to.ino l) b1) from.ino k, b2) ∷ (inode_sector from.ino, b3) ∷ (inode_sector to.ino, b4) ∷ []) image) blocks inodes
      unfolding third second first
      move-old_sets = sets_after (set third (inode_sector to.ino) b4) timed left
          (frame_after_times third to.ino slotted at_third.0.weak (at_q third slotted left at_third.1) b4 now p4 ∙ frame_after_times second from.ino emptied strong_second.weak (at_p second slotted emptied second_view) b3 now p3) at_fourth.1

    -- the directory of the new name has the lower number
    module _ (b3 b4 : List ℕ)
        (p3 : PutsInode (set (set image (entry_sector image to.ino l) b1) (entry_sector (set image (entry_sector image to.ino l) b1) from.ino k) b2) to.ino b3
        (timed_inode (inode_at (set (set image (entry_sector image to.ino l) b1) (entry_sector (set image (entry_sector image to.ino l) b1) from.ino k) b2) to.ino) now))
        (p4 : PutsInode (set (set (set image (entry_sector image to.ino l) b1) (entry_sector (set image (entry_sector image to.ino l) b1) from.ino k) b2) (inode_sector to.ino) b3) from.ino b4
        (timed_inode (inode_at (set (set (set image (entry_sector image to.ino l) b1) (entry_sector (set image (entry_sector image to.ino l) b1) from.ino k) b2) (inode_sector to.ino) b3) from.ino) now)) where
      mid : Image
      mid = set second (inode_sector to.ino) b3

      at_mid : IsStrong (frame mid) × (view mid ≡ three timed emptied)
      unfolding mid second first timed
      at_mid = times_q second slotted emptied b3 strong_second second_view p3

      at_last : IsStrong (frame (set mid (inode_sector from.ino) b4)) × (view (set mid (inode_sector from.ino) b4) ≡ three timed left)
      unfolding mid second first left
      at_last = times_p mid timed emptied b4 at_mid.0 at_mid.1 p4

      pub move-new_first : IsPlanOf image ((call.Rename from name to new_name, cred) ∷ []) now
          ((entry_sector image to.ino l, b1) ∷ (entry_sector (set image (entry_sector image to.ino l) b1) from.ino k, b2) ∷ (inode_sector to.ino, b3) ∷ (inode_sector from.ino, b4) ∷ [])
      unfolding mid second first asked
      move-new_first =
          let low1 : 3 ≤ entry_sector image to.ino l = first_inside.0 in
          let low2 : 3 ≤ entry_sector first from.ino k = second_inside.0 in record {
            past = (omega arith, (omega arith, (omega arith, (omega arith, tt))));
            inside = (first_inside.1, (second_inside.1, (in_image second to.ino b3 _ strong_second.weak lengths.1 p3, (in_image mid from.ino b4 _ at_mid.0.weak (length-set second (inode_sector to.ino) b3 ∙ lengths.1) p4, tt))));
            whole = (p1.long, (p2.long, (p3.long, (p4.long, tt))));
            prefixes = (
              record { weak = strong.weak; torn = inl refl },
              (
                record { weak = weak_first; torn = torn_first },
                (
                  record { weak = strong_second.weak; torn = torn_three second slotted emptied second_view q_after p_after },
                  (
                    record { weak = at_mid.0.weak; torn = torn_three mid timed emptied at_mid.1 (same refl) p_after },
                    record { weak = at_last.0.weak; torn = inr (inl (at_last.1 ∙ sym after')) },
                  ),
                ),
              ),
            );
            strong = at_last.0;
            after = at_last.1 ∙ sym after';
          }

      pub move-new_sets : (blocks inodes : List Bool) → AreSetsOf image blocks inodes
          → AreSetsOf (put_all ((entry_sector image to.ino l, b1) ∷ (entry_sector (set image (entry_sector image to.ino l) b1) from.ino k, b2) ∷ (inode_sector to.ino, b3) ∷ (inode_sector from.ino, b4) ∷ []) image) blocks inodes
      unfolding mid second first
      move-new_sets = sets_after (set mid (inode_sector from.ino) b4) timed left
          (frame_after_times mid from.ino emptied at_mid.0.weak (at_p mid timed emptied at_mid.1) b4 now p4 ∙ frame_after_times second to.ino slotted strong_second.weak (at_q second slotted emptied second_view) b3 now p3) at_last.1
