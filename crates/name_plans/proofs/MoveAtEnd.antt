-- RENAME into another directory that gets longer: puts that don't show yet, that directory's inode, the old slot, the other directory's times.
use Rattle.std.proofs.Common.{◌≡◌, ◌≢◌, ℕ, ◌+◌, ◌<◌, ◌≤◌, Bool, true, false, cond, List, [], ◌∷◌, ◌++◌, length, get_or, set, slice_set, refl, sym, ap, subst, ◌∙◌, arith, inl, inr, ⊎_elim, Option, Some, None, ltb, eq-eqb, length-set, get_or-set_same}
use Rattle.std.proofs.lemmas.Bool.{cases_eq, ne_eqb}
use Rattle.std.proofs.lemmas.List.{set-set, set-get_or}
use Rattle.std.proofs.lemmas.Option.{slice_get-get_or}
use Rattle.std.specs.FinMap.{get}
use Rattle.v7_layout.specs.declared.inode.Inode.{Inode}
use Rattle.files_model.specs.declared.attributes.FileId.{FileId}
use Rattle.files_model.specs.declared.credential.Cred.{Cred}
use Rattle.files_model.specs.Files.{Node, Files}
use Rattle.files_model.specs.Answers.{with_node}
use Rattle.files_model.specs.Torn.{IsTornNode, with_times, after_calls}
use Rattle.files_model.proofs.Maps.{get-insert_same, get-insert_other}
use Rattle.stable.specs.Store.{Image}
use Rattle.stable.specs.Puts.{put_all}
use Rattle.v7_map.specs.Image.{inode_at, inode_sector}
use Rattle.v7_map.specs.Frame.{Head, is_directory, frame}
use Rattle.v7_map.specs.Tree.{tree, is_walked, is_named, links, is_slot_of}
use Rattle.v7_map.specs.View.{view, node_at}
use Rattle.v7_map.specs.Weak.{IsWeak, IsStrong, slot_at}
use Rattle.v7_map.specs.Plans.{IsTornImage, IsPlanOf}
use Rattle.v7_map.proofs.Children.{has_slot-at}
use Rattle.v7_map.proofs.Nodes.{StandsAs, view-node}
use Rattle.v7_map.proofs.Prefixes.{prefix-append, prefix-last, put_all-append}
use Rattle.v7_map.proofs.Puts.{length-put_all, all_append}
use Rattle.v7_map.proofs.Ranges.{inode_sector-inside}
use Rattle.v7_map.proofs.Walks.{or_right}
use Rattle.v7_strokes.proofs.Times.{frame_after_times, view_after_times}
use Rattle.name_plans.proofs.MoveAccepted.{IsMoveAtEnd, longer_by}
use Rattle.name_plans.specs.Moving.{MovesAtEnd}
use Rattle.name_plans.proofs.ReplaceAccepted.{no_kind}
use Rattle.v7_strokes.specs.Slots.{PutsEntry}
use Rattle.v7_strokes.specs.Entries.{entry_sector}
use Rattle.v7_strokes.proofs.Aside.{positive, slot-links}
use Rattle.v7_strokes.proofs.Names.{some_slot}
use Rattle.v7_strokes.proofs.Directories.{StandsDir, stands-dir, node-directory}
use Rattle.v7_map.proofs.Named.{tree-numbers}
use Rattle.v7_strokes.proofs.GrowStep.{grow-weak, grow-strong, grow-links, grow-view, grow-node, grow-heads}
use Rattle.v7_plans.proofs.Local.{IsStrongFor, IsStrongBut, strong_for, strong_of}
use Rattle.v7_strokes.proofs.Exempt.{strong_but}
use Rattle.v7_plans.proofs.Muting.{muted-tree, muted-heads, muted-view, muted-weak, muted-strong, muted-prefixes, muted-past, muted-inside, muted-whole}
use Rattle.v7_strokes.specs.Changes.{changed}
use Rattle.v7_strokes.proofs.Changed.{changed-there, changed-other, changed-first, changed-here}
use Rattle.name_plans.proofs.RenameTorn.{third-here, third-second, third-first, third-other}
use Rattle.v7_strokes.proofs.Slots.{plain-alike}
use Rattle.v7_strokes.specs.Left.{one}
use Rattle.v7_strokes.proofs.SlotStep.{step-strong, step-links, step-heads, entry-inside}
use Rattle.v7_strokes.proofs.TornCalls.{IsAfter, same, times, torn-after, insert_again, insert_twice}
use Rattle.v7_strokes.proofs.Views.{view-slot}
use Rattle.files_model.specs.declared.call.Call.TheVariants as call

clash : {b : Bool} → b ≡ true → b ≡ false → ⊥
clash {b = b} x y = cc

torn_same : (o a b t : Option Node) → t ≡ a → b ≡ a → IsTornNode o a b t
torn_same o a b t e f = subst (λ z. IsTornNode o a z t) (sym f) (by o a e)
  where
    by : (o a : Option Node) → t ≡ a → IsTornNode o a a t
    by None None e = e
    by None (Some n) e = e
    by (Some m) None e = e
    by (Some m) (Some n) e = inr e

torn_old : (o a b t : Option Node) (m n r : Node) → o ≡ Some m → a ≡ Some n → b ≡ Some r → t ≡ Some (with_times r m) → IsTornNode o a b t
torn_old o a b t m n r om an br e = subst (λ z. IsTornNode z a b t) (sym om) (subst (λ z. IsTornNode (Some m) z b t) (sym an) (subst (λ z. IsTornNode (Some m) (Some n) z t) (sym br) (inl e)))

module _ (image : Image) (from to : FileId) (name new_name : List ℕ) (cred : Cred) (now i k : ℕ) (n dp dq : Node) (g : Inode) (b1 b2 b3 : List ℕ) (inner : List (ℕ × List ℕ)) (strong : IsStrong (frame image))
    (c : IsMoveAtEnd (view image) from to name new_name cred now i k n dp dq) (x : MovesAtEnd image now from.ino to.ino new_name dq k i g b1 b2 b3 inner) where
  s_p : StandsDir image from.ino dp
  s_p = stands-dir image from.ino dp strong.weak c.at_from c.from_kind

  s_q : StandsDir image to.ino dq
  s_q = stands-dir image to.ino dq strong.weak c.at_to c.to_kind

  s_i : StandsAs image i n
  s_i = view-node image i n c.at_file

  file : is_directory ((frame image).head i) ≡ false
  file = node-directory image i n s_i ∙ c.file

  i_p : i ≢ from.ino
  i_p e = clash s_p.dir (subst (λ z. is_directory ((frame image).head z) ≡ false) e file)

  i_q : i ≢ to.ino
  i_q e = clash s_q.dir (subst (λ z. is_directory ((frame image).head z) ≡ false) e file)

  old_slot : slot_at (tree (frame image)) from.ino k ≡ Some (i, name)
  old_slot = ap (λ x. get_or x k None) s_p.slots ∙ c.old_slot

  used : ((frame image).head i).is_used ≡ true
  used = (strong.weak.names.used from.ino k i name s_p.walked old_slot).0

  all_links : links (tree (frame image)) i ≡ n.nlink
  all_links = ap (λ (m : Node). m.nlink) s_i.is

  some_links : 1 ≤ n.nlink
  some_links = subst (λ m. 1 ≤ m) all_links (slot-links (tree (frame image)) (tree-numbers image) from.ino i s_p.walked (has_slot-at (tree (frame image)) from.ino 0 i k name (omega arith) old_slot))

  mid : Image
  mid = put_all inner image

  first : Image
  first = set mid (inode_sector to.ino) b1

  view_mid : view mid ≡ view image
  unfolding mid
  view_mid = muted-view to.ino inner image x.muted

  weak_mid : IsWeak (frame mid)
  unfolding mid
  weak_mid = muted-weak to.ino inner image x.muted strong.weak

  strong_mid : IsStrongBut (λ j. j ≢ i) to.ino (frame mid)
  unfolding mid
  strong_mid = muted-strong (λ j. j ≢ i) to.ino inner image x.muted (strong_but (λ j. j ≢ i) to.ino (frame image) (strong_for (λ j. j ≢ i) (frame image) strong))

  only : (j : ℕ) → j ≢ i → is_slot_of j (Some (i, new_name)) ≡ false
  only j ne = ne_eqb i j (λ e. ne (sym e))

  links_first : links (tree (frame first)) i ≡ n.nlink + 1
  unfolding first mid
  links_first =
      let r = grow-links mid to.ino (length dq.slots) g b1 (Some (i, new_name)) weak_mid x.directory x.grows i in
      let before : links (tree (frame mid)) i ≡ n.nlink = ap (λ t. links t i) (muted-tree to.ino inner image x.muted) ∙ all_links in
      let o : ◌≡◌ {A = ℕ} (one (is_slot_of i (Some (i, new_name)))) 1 = ap one (eq-eqb i i refl) in omega arith

  named_first : is_named (tree (frame first)) i ≡ true
  named_first = or_right (is_walked (tree (frame first)) i) (ltb 0 (links (tree (frame first)) i)) (positive (links (tree (frame first)) i) (let l = links_first in omega arith))

  weak_first : IsWeak (frame first)
  unfolding first mid
  weak_first = grow-weak mid to.ino (length dq.slots) g b1 (Some (i, new_name)) weak_mid x.directory x.grows

  sound_first : IsStrongFor (λ j. j ≢ i) (frame first)
  unfolding first mid
  sound_first = grow-strong mid to.ino (length dq.slots) g b1 (Some (i, new_name)) weak_mid x.directory x.grows (λ j. j ≢ i) only strong_mid

  heads_first : (j : ℕ) → j ≢ to.ino → (frame first).head j ≡ (frame image).head j
  unfolding first mid
  heads_first j ne = grow-heads mid to.ino (length dq.slots) g b1 (Some (i, new_name)) weak_mid x.directory x.grows j ne ∙ muted-heads to.ino inner image x.muted j

  at_mid : get (view mid).nodes to.ino ≡ Some dq
  at_mid = ap (λ (f : Files). get f.nodes to.ino) view_mid ∙ c.at_to

  s_mid : StandsAs mid i n
  s_mid = view-node mid i n (ap (λ (f : Files). get f.nodes i) view_mid ∙ c.at_file)

  fields : (inode_at mid to.ino).uid ≡ dq.uid × (inode_at mid to.ino).gid ≡ dq.gid × (inode_at mid to.ino).atime ≡ dq.atime × (inode_at mid to.ino).size ≡ dq.size
  fields = let s = view-node mid to.ino dq at_mid in
      (ap (λ (x : Node). x.uid) s.is, ap (λ (x : Node). x.gid) s.is, ap (λ (x : Node). x.atime) s.is, ap (λ (x : Node). x.size) s.is)

  head_size : ((frame mid).head to.ino).size ≡ dq.size
  unfolding frame
  head_size = fields.3

  long : g.size ≡ dq.size + 16
  unfolding mid
  long = x.grows.longer ∙ ap (λ s. s + 16) head_size

  linked : Node
  linked = record n { nlink = n.nlink + 1 }

  grown : Node
  grown = longer_by dq i new_name now

  view_first : view first ≡ changed (view image) i (Some linked) to.ino grown
  unfolding first grown mid linked
  view_first =
      grow-view mid to.ino (length dq.slots) g b1 (Some (i, new_name)) weak_mid x.directory x.grows i only (λ e. i_q (sym e)) dq at_mid s_mid.within
      ∙ (λ z. changed (view mid) i ((grow-node mid to.ino (length dq.slots) g b1 (Some (i, new_name)) weak_mid x.directory x.grows i only (λ e. i_q (sym e)) dq at_mid ∙ here) z) to.ino
      (record dq { uid = (ap (λ (y : Inode). y.uid) x.times ∙ fields.0) z; gid = (ap (λ (y : Inode). y.gid) x.times ∙ fields.1) z; size = long z; atime = (ap (λ (y : Inode). y.atime) x.times ∙ fields.2) z; mtime = (ap (λ (y : Inode). y.mtime) x.times) z; ctime = (ap (λ (y : Inode). y.ctime) x.times) z; slots = dq.slots ++ Some (i, new_name) ∷ [] }))
      ∙ ap (λ f. changed f i (Some (record n { nlink = n.nlink + 1 })) to.ino (longer_by dq i new_name now)) view_mid
    where
      here : cond (is_named (tree (frame first)) i) (Some (record (node_at mid i) { nlink = links (tree (frame first)) i })) None ≡ Some linked
      here = (λ z. cond (named_first z) (Some (record (s_mid.is z) { nlink = links_first z })) None)

  -- ---- the files after the call, and with both names

  left : Node
  left = record dp { slots = set dp.slots k None; mtime = now; ctime = now }

  emptied : Node
  emptied = record dp { slots = set dp.slots k None }

  abbrev A : Files
  A = after_calls (view image) ((call.Rename from name to new_name, cred) ∷ []) now

  after : A ≡ with_node (changed (view image) i (Some n) to.ino grown) from.ino left
  unfolding left grown
  after = c.after ∙ (λ z. with_node (with_node (record (view image) { nodes = sym (insert_again (view image).nodes i n c.at_file) z }) to.ino (longer_by dq i new_name now)) from.ino (record dp { slots = set dp.slots k None; mtime = now; ctime = now }))

  A_p : get A.nodes from.ino ≡ Some left
  A_p = ap (λ (f : Files). get f.nodes from.ino) after ∙ third-here (view image) i (Some n) to.ino grown from.ino left

  A_q : get A.nodes to.ino ≡ Some grown
  A_q = ap (λ (f : Files). get f.nodes to.ino) after ∙ third-second (view image) i (Some n) to.ino grown from.ino left c.apart

  A_i : get A.nodes i ≡ Some n
  A_i = ap (λ (f : Files). get f.nodes i) after ∙ third-first (view image) i (Some n) to.ino grown from.ino left i_p i_q

  A_other : (j : ℕ) → j ≢ i → j ≢ to.ino → j ≢ from.ino → get A.nodes j ≡ get (view image).nodes j
  A_other j ni nq np = ap (λ (f : Files). get f.nodes j) after ∙ third-other (view image) i (Some n) to.ino grown from.ino left j ni nq np

  cases : (P : ℕ → Type 0) → P i → P from.ino → P to.ino → ((j : ℕ) → j ≢ i → j ≢ from.ino → j ≢ to.ino → P j) → (j : ℕ) → P j
  cases P at_i at_p at_q other j = ⊎_elim
      (λ (e : j ≡ i). subst P (sym e) at_i)
      (λ (ni : j ≢ i). ⊎_elim
      (λ (e : j ≡ from.ino). subst P (sym e) at_p)
      (λ (np : j ≢ from.ino). ⊎_elim
      (λ (e : j ≡ to.ino). subst P (sym e) at_q)
      (λ (nq : j ≢ to.ino). other j ni np nq)
      (cases_eq j to.ino))
      (cases_eq j from.ino))
      (cases_eq j i)

  restored : Node
  restored = record left { slots = slice_set left.slots k (Some (i, name)) }

  base : Files
  base = with_node (with_node A from.ino restored) i linked

  base_i : get base.nodes i ≡ Some linked
  unfolding base
  base_i = get-insert_same (with_node A from.ino restored).nodes i linked

  base_p : get base.nodes from.ino ≡ Some restored
  unfolding base
  base_p = get-insert_other (with_node A from.ino restored).nodes i linked from.ino (λ e. i_p (sym e)) ∙ get-insert_same A.nodes from.ino restored

  base_other : (j : ℕ) → j ≢ i → j ≢ from.ino → get base.nodes j ≡ get A.nodes j
  unfolding base
  base_other j ni np = get-insert_other (with_node A from.ino restored).nodes i linked j ni ∙ get-insert_other A.nodes from.ino restored j np

  slots_back : slice_set (set dp.slots k None) k (Some (i, name)) ≡ dp.slots
  slots_back = set-set dp.slots k None (Some (i, name)) ∙ ap (set dp.slots k) (sym c.old_slot) ∙ set-get_or dp.slots k None

  first_i : get (view first).nodes i ≡ Some linked
  first_i = ap (λ (f : Files). get f.nodes i) view_first ∙ changed-there (view image) i (Some linked) to.ino grown i_q

  first_p : get (view first).nodes from.ino ≡ Some dp
  first_p = ap (λ (f : Files). get f.nodes from.ino) view_first ∙ changed-other (view image) i (Some linked) to.ino grown from.ino (λ e. i_p (sym e)) (λ e. c.apart (sym e)) ∙ c.at_from

  first_q : get (view first).nodes to.ino ≡ Some grown
  first_q = ap (λ (f : Files). get f.nodes to.ino) view_first ∙ changed-here (view image) i (Some linked) to.ino grown

  both_names : (j : ℕ) → IsTornNode (get (view image).nodes j) (get A.nodes j) (get base.nodes j) (get (view first).nodes j)
  unfolding linked restored left
  both_names = cases (λ j. IsTornNode (get (view image).nodes j) (get A.nodes j) (get base.nodes j) (get (view first).nodes j))
      (torn_old _ _ _ _ n n linked c.at_file A_i base_i first_i)
      (torn_old _ _ _ _ dp left restored c.at_from A_p base_p (first_p ∙ (λ z. Some (record dp { slots = sym slots_back z }))))
      (torn_same (get (view image).nodes to.ino) (get A.nodes to.ino) (get base.nodes to.ino) (get (view first).nodes to.ino) (first_q ∙ sym A_q) (base_other to.ino (λ e. i_q (sym e)) c.apart))
      (λ j ni np nq. torn_same (get (view image).nodes j) (get A.nodes j) (get base.nodes j) (get (view first).nodes j)
      (ap (λ (f : Files). get f.nodes j) view_first ∙ changed-other (view image) i (Some linked) to.ino grown j ni nq ∙ sym (A_other j ni nq np)) (base_other j ni np))

  torn_first : IsTornImage (view image) ((call.Rename from name to new_name, cred) ∷ []) now first
  unfolding left base linked restored
  torn_first = record {
    weak = weak_first;
    torn = inr (inr (inr (inr (inl (record {
      asked = (call.Rename from name to new_name, cred);
      one = refl;
      from = from;
      name = name;
      to = to;
      new_name = new_name;
      kind = refl;
      slot = k;
      moved = i;
      directory = dp;
      directory_is = c.at_from;
      slot_is = slice_get-get_or dp.slots k None c.old_inside ∙ ap Some c.old_slot;
      left = left;
      left_is = A_p;
      emptied = slice_get-get_or (set dp.slots k None) k None (subst (λ m. k < m) (sym (length-set dp.slots k None)) c.old_inside) ∙ ap Some (get_or-set_same dp.slots k None None c.old_inside);
      node = n;
      node_is = A_i;
      no_directory = no_kind n.kind c.file;
      times = record { nodes = both_names; rest = (λ z. record (view_first z) { nodes = (view first).nodes }) ∙ (λ z. record (sym after z) { nodes = (view first).nodes }) };
    })))));
  }

  -- ---- the old slot

  a2 : ℕ
  a2 = entry_sector first from.ino k

  second : Image
  second = set first a2 b2

  s_first : StandsDir first from.ino dp
  s_first = stands-dir first from.ino dp weak_first first_p c.from_kind

  slot_first : slot_at (tree (frame first)) from.ino k ≡ Some (i, name)
  slot_first = ap (λ x. get_or x k None) s_first.slots ∙ c.old_slot

  move-entry : PutsEntry first from.ino k (entry_sector first from.ino k) b2 None
  unfolding first mid
  move-entry = record {
    walked = s_first.walked;
    inside = let size = s_first.size in let long = s_first.long in let in' = c.old_inside in omega arith;
    is = refl;
    puts = x.old;
    past = c.old_past;
    alike = plain-alike (tree (frame first)) (slot_at (tree (frame first)) from.ino k) None
        (λ j other e. subst (λ z. is_directory ((frame first).head z) ≡ false) (some_slot i j name other (sym slot_first ∙ e)).0 (ap is_directory (heads_first i i_q) ∙ file)) (λ j other e. absurd (cc));
    used = λ j other e. absurd (cc);
    bound = λ j e _. absurd (cc);
  }

  only_old : (j : ℕ) → j ≢ i → is_slot_of j (slot_at (tree (frame first)) from.ino k) ≡ is_slot_of j None
  only_old j ne = ap (is_slot_of j) slot_first ∙ ne_eqb i j (λ e. ne (sym e))

  links_second : links (tree (frame second)) i ≡ n.nlink
  unfolding second a2
  links_second =
      let r = step-links first from.ino k (entry_sector first from.ino k) b2 None weak_first move-entry i in
      let before : ◌≡◌ {A = ℕ} (one (is_slot_of i (slot_at (tree (frame first)) from.ino k))) 1 = ap (λ s. one (is_slot_of i s)) slot_first ∙ ap one (eq-eqb i i refl) in
      let after' : ◌≡◌ {A = ℕ} (one (is_slot_of i None)) 0 = refl in
      let a = links_first in omega arith

  named_second : is_named (tree (frame second)) i ≡ true
  named_second = or_right (is_walked (tree (frame second)) i) (ltb 0 (links (tree (frame second)) i)) (positive (links (tree (frame second)) i) (let l = links_second in let s = some_links in omega arith))

  strong_second : IsStrong (frame second)
  unfolding second a2
  strong_second = strong_of i (frame second) (step-strong first from.ino k (entry_sector first from.ino k) b2 None weak_first move-entry (λ j. j ≢ i) sound_first only_old)
      (λ u. (ap (λ (h : Head). h.nlink) (step-heads first from.ino k (entry_sector first from.ino k) b2 None weak_first move-entry i ∙ heads_first i i_q) ∙ strong.counted i used ∙ all_links ∙ sym links_second, named_second))

  s_linked : StandsAs first i linked
  s_linked = view-node first i linked first_i

  view_second : view second ≡ with_node (changed (view image) i (Some n) to.ino grown) from.ino emptied
  unfolding second a2 emptied linked
  view_second =
      view-slot first from.ino k (entry_sector first from.ino k) b2 None weak_first move-entry i only_old (λ e. i_p (sym e)) dp first_p s_linked.within
      ∙ (λ z. changed (view first) i (cond (named_second z) (Some (record (s_linked.is z) { nlink = links_second z })) None) from.ino (record dp { slots = set dp.slots k None }))
      ∙ ap (λ f. with_node (with_node f i n) from.ino (record dp { slots = set dp.slots k None })) view_first
      ∙ ap (λ f. with_node f from.ino (record dp { slots = set dp.slots k None })) (changed-first (view image) i (Some linked) to.ino grown i_q n)

  torn_second : IsTornImage (view image) ((call.Rename from name to new_name, cred) ∷ []) now second
  unfolding emptied left
  torn_second = record {
    weak = strong_second.weak;
    torn = torn-after (view image) (call.Rename from name to new_name, cred) now (view second) refl
        (cases (λ j. IsAfter (get (view image).nodes j) (get A.nodes j) (get (view second).nodes j))
        (same (ap (λ (f : Files). get f.nodes i) view_second ∙ third-first (view image) i (Some n) to.ino grown from.ino emptied i_p i_q ∙ sym A_i))
        (times dp left c.at_from A_p (ap (λ (f : Files). get f.nodes from.ino) view_second ∙ third-here (view image) i (Some n) to.ino grown from.ino emptied))
        (same (ap (λ (f : Files). get f.nodes to.ino) view_second ∙ third-second (view image) i (Some n) to.ino grown from.ino emptied c.apart ∙ sym A_q))
        (λ j ni np nq. same (ap (λ (f : Files). get f.nodes j) view_second ∙ third-other (view image) i (Some n) to.ino grown from.ino emptied j ni nq np ∙ sym (A_other j ni nq np))))
        ((λ z. record (view_second z) { nodes = (view second).nodes }) ∙ (λ z. record (sym after z) { nodes = (view second).nodes }));
  }

  -- ---- the times of the other directory

  third : Image
  third = set second (inode_sector from.ino) b3

  second_p : get (view second).nodes from.ino ≡ Some emptied
  second_p = ap (λ (f : Files). get f.nodes from.ino) view_second ∙ third-here (view image) i (Some n) to.ino grown from.ino emptied

  strong_third : IsStrong (frame third)
  unfolding third second a2 first mid
  strong_third = subst IsStrong (sym (frame_after_times second from.ino emptied strong_second.weak second_p b3 now x.last)) strong_second

  view_third : view third ≡ A
  unfolding third second a2 first mid left emptied
  view_third = view_after_times second from.ino emptied strong_second.weak second_p b3 now x.last
      ∙ ap (λ f. with_node f from.ino left) view_second
      ∙ (λ w. record (changed (view image) i (Some n) to.ino grown) { nodes = insert_twice (changed (view image) i (Some n) to.ino grown).nodes from.ino emptied left w })
      ∙ sym after

  lengths : (length mid ≡ length image) × (length first ≡ length image) × (length second ≡ length image)
  unfolding second first mid
  lengths = (length-put_all inner image, length-set mid (inode_sector to.ino) b1 ∙ length-put_all inner image, length-set first a2 b2 ∙ length-set mid (inode_sector to.ino) b1 ∙ length-put_all inner image)

  second_inside : (3 ≤ a2) × (a2 < length image)
  unfolding a2
  second_inside = let s = entry-inside first from.ino k (entry_sector first from.ino k) b2 None weak_first move-entry in (s.0, subst (λ m. entry_sector first from.ino k < m) lengths.1 s.1)

  first_inside : inode_sector to.ino < length image
  unfolding mid
  first_inside = subst (λ m. inode_sector to.ino < m) lengths.0 (inode_sector-inside mid weak_mid to.ino x.directory.inside).2

  last_inside : inode_sector from.ino < length image
  unfolding second a2 first mid
  last_inside = subst (λ m. inode_sector from.ino < m) lengths.2 (inode_sector-inside second strong_second.weak from.ino x.last.inside).2

  rest : List (ℕ × List ℕ)
  rest = (inode_sector to.ino, b1) ∷ (a2, b2) ∷ (inode_sector from.ino, b3) ∷ []

  torn_image : IsTornImage (view image) ((call.Rename from name to new_name, cred) ∷ []) now image
  torn_image = record { weak = strong.weak; torn = inl refl }

  pub move-growing : IsPlanOf image ((call.Rename from name to new_name, cred) ∷ []) now
      (inner ++ (inode_sector to.ino, b1) ∷ (entry_sector (set (put_all inner image) (inode_sector to.ino) b1) from.ino k, b2) ∷ (inode_sector from.ino, b3) ∷ [])
  unfolding third second a2 first mid rest
  move-growing =
      let low2 : 3 ≤ a2 = second_inside.0 in record {
        past = all_append (λ (put : ℕ × List ℕ). 2 ≤ put.0) inner rest (muted-past to.ino inner image x.muted) (omega arith, (omega arith, (omega arith, tt)));
        inside = all_append (λ (put : ℕ × List ℕ). put.0 < length image) inner rest (muted-inside to.ino (length image) inner image refl x.muted) (first_inside, (second_inside.1, (last_inside, tt)));
        whole = all_append (λ (put : ℕ × List ℕ). length put.1 ≡ 512) inner rest (muted-whole to.ino inner image x.muted) (x.directory.long, (x.old.long, (x.last.long, tt)));
        prefixes = prefix-append (IsTornImage (view image) ((call.Rename from name to new_name, cred) ∷ []) now) inner rest image
            (muted-prefixes to.ino (view image) ((call.Rename from name to new_name, cred) ∷ []) now inner image x.muted torn_image) (
              prefix-last (IsTornImage (view image) ((call.Rename from name to new_name, cred) ∷ []) now) inner image (muted-prefixes to.ino (view image) ((call.Rename from name to new_name, cred) ∷ []) now inner image x.muted torn_image),
              (torn_first, (torn_second, record { weak = strong_third.weak; torn = inr (inl view_third) })),
            );
        strong = subst (λ i. IsStrong (frame i)) (sym (put_all-append inner rest image)) strong_third;
        after = ap view (put_all-append inner rest image) ∙ view_third;
      }
