-- RENAME onto a name that stands, as a plan: the new slot, the old slot, the inodes in any order.
use Rattle.std.proofs.Common.{◌≡◌, ◌≢◌, ◌⊎◌, ℕ, ◌+◌, ◌-◌, ◌<◌, ◌≤◌, Bool, true, false, cond, ◌||◌, ◌==◌, if◌then◌else◌, List, [], ◌∷◌, ◌++◌, length, get_or, set, slice_set, refl, sym, ap, subst, ◌∙◌, arith, inl, inr, ⊎_elim, Option, Some, None, ltb, eqb, eq-eqb, length-set, get_or-set_same, get_or-set_other}
use Rattle.std.proofs.lemmas.Bool.{cases_eq, cases_Bool, ne_eqb, eqb-true}
use Rattle.std.proofs.lemmas.List.{set-set, set-get_or}
use Rattle.std.proofs.lemmas.Option.{slice_get-get_or}
use Rattle.std.specs.FinMap.{get, remove}
use Rattle.std.specs.List.{AllByRecursion, list_any}
use Rattle.files_model.specs.declared.attributes.FileId.{FileId}
use Rattle.files_model.specs.declared.credential.Cred.{Cred}
use Rattle.files_model.specs.declared.call.Call.TheVariants as call
use Rattle.files_model.specs.Files.{Node, Files}
use Rattle.files_model.specs.Permission as permission
use Rattle.files_model.specs.Answers.{with_node}
use Rattle.files_model.specs.NameRows.{less_link, emptied_at}
use Rattle.files_model.specs.Torn.{Asked, Torn, IsTornNode, with_times, after_calls}
use Rattle.files_model.proofs.Maps.{get-insert_same, get-insert_other}
use Rattle.stable.specs.Puts.{put_all}
use Rattle.stable.specs.Store.{Image}
use Rattle.v7_map.specs.Image.{sector_at}
use Rattle.v7_map.specs.Frame.{Head, is_directory, frame}
use Rattle.v7_map.specs.Tree.{tree, is_walked, is_named, links, is_slot_of}
use Rattle.v7_map.specs.View.{view, node_at}
use Rattle.v7_map.specs.Weak.{IsWeak, IsStrong, slot_at}
use Rattle.v7_map.specs.Plans.{IsPlanOf}
use Rattle.v7_map.proofs.Children.{has_slot-at}
use Rattle.v7_map.proofs.Nodes.{StandsAs, view-node}
use Rattle.v7_map.proofs.Walks.{or_right}
use Rattle.v7_map.proofs.Named.{tree-numbers}
use Rattle.v7_plans.proofs.Local.{IsStrongFor, strong_for}
use Rattle.v7_strokes.specs.Entries.{entry_sector, inode_put, put_entry}
use Rattle.v7_strokes.specs.Freed.{IsFreed}
use Rattle.v7_strokes.specs.Last.{inode_puts}
use Rattle.v7_strokes.specs.Left.{one}
use Rattle.v7_strokes.specs.Slots.{PutsSlot, PutsEntry}
use Rattle.v7_strokes.proofs.Aside.{positive, slot-links}
use Rattle.v7_strokes.proofs.Directories.{StandsDir, stands-dir, node-directory}
use Rattle.v7_strokes.proofs.Exempt.{strong_change}
use Rattle.v7_strokes.proofs.Finishing.{IsTimed, Stage, Unsettled, Finish, finish-cons, finish-unsettled}
use Rattle.v7_strokes.proofs.Loser.{IsLosing, kept_of, lost_of}
use Rattle.v7_strokes.proofs.Nodewise.{slot-node_other, slot-node_counted, slot-node_dir, slot-rest}
use Rattle.v7_strokes.proofs.Names.{some_slot}
use Rattle.v7_strokes.proofs.Slots.{plain-alike}
use Rattle.v7_strokes.proofs.SlotStep.{step-sizes, step-addresses, step-weak, step-strong, step-links, step-links_other, step-heads, step-is_walked, entry-inside, walked-dir, used-number}
use Rattle.v7_strokes.proofs.TornCalls.{IsAfter, same, times}
use Rattle.v7_strokes.proofs.Views.{same-within, get-put_same, get-put_other}
use Rattle.name_plans.specs.Replacement.{Finishes}
use Rattle.name_plans.proofs.ReplaceAccepted.{IsReplacing, no_kind}

clash : {b : Bool} → b ≡ true → b ≡ false → ⊥
clash {b = b} x y = cc

-- ---- what a lost name leaves

pub less-here : (files : Files) (r : ℕ) (w : Node) (now : ℕ) → get (less_link files r w now).nodes r ≡ lost_of w now
less-here files r w now = elim (eqb w.nlink 1) as (λ t. get (if t then record files { nodes = remove files.nodes r } else with_node files r (record w { nlink = w.nlink - 1; ctime = now })).nodes r ≡ (if t then None else Some (record w { nlink = w.nlink - 1; ctime = now }))) [
  | true ↦ gone files r
  | false ↦ get-insert_same files.nodes r (record w { nlink = w.nlink - 1; ctime = now })
]
  where
    gone : (files : Files) (r : ℕ) → get (remove files.nodes r) r ≡ None
    gone files r = get-put_same files.nodes r None

pub less-other : (files : Files) (r : ℕ) (w : Node) (now j : ℕ) → j ≢ r → get (less_link files r w now).nodes j ≡ get files.nodes j
less-other files r w now j ne = elim (eqb w.nlink 1) as (λ t. get (if t then record files { nodes = remove files.nodes r } else with_node files r (record w { nlink = w.nlink - 1; ctime = now })).nodes j ≡ get files.nodes j) [
  | true ↦ get-put_other files.nodes r None j ne
  | false ↦ get-insert_other files.nodes r (record w { nlink = w.nlink - 1; ctime = now }) j ne
]

pub less-rest : (files : Files) (r : ℕ) (w : Node) (now : ℕ) → less_link files r w now ≡ record files { nodes = (less_link files r w now).nodes }
less-rest files r w now = elim (eqb w.nlink 1) as (λ t. (if t then record files { nodes = remove files.nodes r } else with_node files r (record w { nlink = w.nlink - 1; ctime = now }))
    ≡ record files { nodes = (if t then record files { nodes = remove files.nodes r } else with_node files r (record w { nlink = w.nlink - 1; ctime = now })).nodes }) [
      | true ↦ refl
      | false ↦ refl
    ]

-- ---- torn nodes

torn_same : (o a b t : Option Node) → t ≡ a → b ≡ a → IsTornNode o a b t
torn_same o a b t e f = subst (λ z. IsTornNode o a z t) (sym f) (by o a e)
  where
    by : (o a : Option Node) → t ≡ a → IsTornNode o a a t
    by None None e = e
    by None (Some n) e = e
    by (Some m) None e = e
    by (Some m) (Some n) e = inr e

torn_old : (o a b t : Option Node) (m n r : Node) → o ≡ Some m → a ≡ Some n → b ≡ Some r → t ≡ Some (with_times r m) → IsTornNode o a b t
torn_old o a b t m n r om an br e = subst (λ z. IsTornNode z a b t) (sym om) (subst (λ z. IsTornNode (Some m) z b t) (sym an) (subst (λ z. IsTornNode (Some m) (Some n) z t) (sym br) (inl e)))

-- the replaced node before its inode is put
torn_lost : (w : Node) (now : ℕ) (o a b t : Option Node) → o ≡ Some w → a ≡ lost_of w now → b ≡ lost_of w now → t ≡ kept_of w → IsTornNode o a b t
torn_lost w now o a b t ow al bl tk = subst (λ z. IsTornNode z a b t) (sym ow) (subst (λ z. IsTornNode (Some w) z b t) (sym al) (subst (λ z. IsTornNode (Some w) (lost_of w now) z t) (sym bl) (subst (λ z. IsTornNode (Some w) (lost_of w now) (lost_of w now) z) (sym tk)
    (elim (eqb w.nlink 1) as (λ e. IsTornNode (Some w) (if e then None else Some (record w { nlink = w.nlink - 1; ctime = now })) (if e then None else Some (record w { nlink = w.nlink - 1; ctime = now })) (if e then None else Some (record w { nlink = w.nlink - 1 }))) [
      | true ↦ refl
      | false ↦ inl refl
    ]))))

after_lost : (w : Node) (now : ℕ) (o a t : Option Node) → o ≡ Some w → a ≡ lost_of w now → t ≡ kept_of w → IsAfter o a t
after_lost w now o a t ow al tk = subst (λ z. IsAfter o z t) (sym al) (subst (λ z. IsAfter o (lost_of w now) z) (sym tk)
    (elim (eqb w.nlink 1) as (λ e. IsAfter o (if e then None else Some (record w { nlink = w.nlink - 1; ctime = now })) (if e then None else Some (record w { nlink = w.nlink - 1 }))) [
      | true ↦ same refl
      | false ↦ times w (record w { nlink = w.nlink - 1; ctime = now }) ow refl refl
    ]))

module _ (image : Image) (from to : FileId) (name new_name : List ℕ) (cred : Cred) (now i r k l : ℕ) (n w dp dq : Node) (strong : IsStrong (frame image)) (c : IsReplacing (view image) from to name new_name cred now i r k l n w dp dq)
    (b1 : List ℕ) (p1 : PutsSlot (sector_at image (entry_sector image to.ino l)) l b1 (Some (i, new_name))) where
  s_p : StandsDir image from.ino dp
  s_p = stands-dir image from.ino dp strong.weak c.at_from c.from_kind

  s_q : StandsDir image to.ino dq
  s_q = stands-dir image to.ino dq strong.weak c.at_to c.to_kind

  s_i : StandsAs image i n
  s_i = view-node image i n c.at_file

  s_r : StandsAs image r w
  s_r = view-node image r w c.at_replaced

  file_i : is_directory ((frame image).head i) ≡ false
  file_i = node-directory image i n s_i ∙ c.file

  file_r : is_directory ((frame image).head r) ≡ false
  file_r = node-directory image r w s_r ∙ c.replaced_file

  no_dir : (j d : ℕ) → is_directory ((frame image).head j) ≡ false → is_directory ((frame image).head d) ≡ true → j ≢ d
  no_dir j d f t e = clash t (subst (λ z. is_directory ((frame image).head z) ≡ false) e f)

  i_p : i ≢ from.ino
  i_p = no_dir i from.ino file_i s_p.dir

  i_q : i ≢ to.ino
  i_q = no_dir i to.ino file_i s_q.dir

  r_p : r ≢ from.ino
  r_p = no_dir r from.ino file_r s_p.dir

  r_q : r ≢ to.ino
  r_q = no_dir r to.ino file_r s_q.dir

  old_slot : slot_at (tree (frame image)) from.ino k ≡ Some (i, name)
  old_slot = ap (λ x. get_or x k None) s_p.slots ∙ c.old_slot

  new_slot : slot_at (tree (frame image)) to.ino l ≡ Some (r, new_name)
  new_slot = ap (λ x. get_or x l None) s_q.slots ∙ c.new_slot

  used_i : ((frame image).head i).is_used ≡ true
  used_i = (strong.weak.names.used from.ino k i name s_p.walked old_slot).0

  used_r : (((frame image).head r).is_used ≡ true) × (new_name ≢ [])
  used_r = strong.weak.names.used to.ino l r new_name s_q.walked new_slot

  all_i : links (tree (frame image)) i ≡ n.nlink
  all_i = ap (λ (m : Node). m.nlink) s_i.is

  all_r : links (tree (frame image)) r ≡ w.nlink
  all_r = ap (λ (m : Node). m.nlink) s_r.is

  low : 3 ≤ r
  low = let u = used-number image r used_r.0 in let positive = u.0 in ⊎_elim
      (λ (one' : r ≡ 1). absurd (clash used_r.0 (subst (λ z. ((frame image).head z).is_used ≡ false) (sym one') strong.weak.first)))
      (λ (n1 : r ≢ 1). ⊎_elim
      (λ (two : r ≡ 2). absurd (clash (subst (λ z. is_directory ((frame image).head z) ≡ true) (sym two) strong.weak.root) file_r))
      (λ (n2 : r ≢ 2). omega arith) (cases_eq r 2)) (cases_eq r 1)

  a1 : ℕ
  a1 = entry_sector image to.ino l

  first : Image
  first = set image a1 b1

  pub replace-first : PutsEntry image to.ino l (entry_sector image to.ino l) b1 (Some (i, new_name))
  replace-first = record {
    walked = s_q.walked;
    inside = let size = s_q.size in let long = s_q.long in let in' = c.new_inside in omega arith;
    is = refl;
    puts = p1;
    past = c.new_past;
    alike = plain-alike (tree (frame image)) (slot_at (tree (frame image)) to.ino l) (Some (i, new_name))
        (λ j other e. subst (λ z. is_directory ((frame image).head z) ≡ false) (some_slot r j new_name other (sym new_slot ∙ e)).0 file_r)
        (λ j other e. subst (λ z. is_directory ((frame image).head z) ≡ false) (some_slot i j new_name other e).0 file_i);
    used = λ j other e. let s = some_slot i j new_name other e in (subst (λ z. ((frame image).head z).is_used ≡ true) s.0 used_i, subst (λ z. z ≢ []) s.1 used_r.1);
    bound = λ j e _. let s : i ≡ j = eqb-true i j e in let h : links (tree (frame image)) j ≡ n.nlink = ap (links (tree (frame image))) (sym s) ∙ all_i in let b = c.bound in omega arith;
  }

  -- the slot names neither of others before or after
  only_first : (j : ℕ) → j ≢ i → j ≢ r → is_slot_of j (slot_at (tree (frame image)) to.ino l) ≡ is_slot_of j (Some (i, new_name))
  only_first j ni nr = ap (is_slot_of j) new_slot ∙ ne_eqb r j (λ e. nr (sym e)) ∙ sym (ne_eqb i j (λ e. ni (sym e)))

  weak_first : IsWeak (frame first)
  unfolding first a1
  weak_first = step-weak image to.ino l (entry_sector image to.ino l) b1 (Some (i, new_name)) strong.weak replace-first

  links_i : links (tree (frame first)) i ≡ n.nlink + 1
  unfolding first a1
  links_i =
      let x = step-links image to.ino l (entry_sector image to.ino l) b1 (Some (i, new_name)) strong.weak replace-first i in
      let before : ◌≡◌ {A = ℕ} (one (is_slot_of i (slot_at (tree (frame image)) to.ino l))) 0 = ap (λ s. one (is_slot_of i s)) new_slot ∙ ap one (ne_eqb r i c.differ) in
      let after : ◌≡◌ {A = ℕ} (one (is_slot_of i (Some (i, new_name)))) 1 = ap one (eq-eqb i i refl) in
      let a = all_i in omega arith

  links_r : links (tree (frame first)) r + 1 ≡ w.nlink
  unfolding first a1
  links_r =
      let x = step-links image to.ino l (entry_sector image to.ino l) b1 (Some (i, new_name)) strong.weak replace-first r in
      let before : ◌≡◌ {A = ℕ} (one (is_slot_of r (slot_at (tree (frame image)) to.ino l))) 1 = ap (λ s. one (is_slot_of r s)) new_slot ∙ ap one (eq-eqb r r refl) in
      let after : ◌≡◌ {A = ℕ} (one (is_slot_of r (Some (i, new_name)))) 0 = ap one (ne_eqb i r (λ e. c.differ (sym e))) in
      let a = all_r in omega arith

  heads_first : (j : ℕ) → (frame first).head j ≡ (frame image).head j
  unfolding first a1
  heads_first = step-heads image to.ino l (entry_sector image to.ino l) b1 (Some (i, new_name)) strong.weak replace-first

  unwalked : is_walked (tree (frame first)) r ≡ false
  unfolding first a1
  unwalked = step-is_walked image to.ino l (entry_sector image to.ino l) b1 (Some (i, new_name)) strong.weak replace-first r ∙ ⊎_elim
      (λ (h : is_walked (tree (frame image)) r ≡ true). absurd (clash (walked-dir image r h) file_r))
      (λ (f : is_walked (tree (frame image)) r ≡ false). f)
      (cases_Bool (is_walked (tree (frame image)) r))

  linked : Node
  linked = record n { nlink = n.nlink + 1 }

  slotted : Node
  slotted = record dq { slots = set dq.slots l (Some (i, new_name)) }

  named_i : is_named (tree (frame first)) i ≡ true
  named_i = or_right (is_walked (tree (frame first)) i) (ltb 0 (links (tree (frame first)) i)) (positive (links (tree (frame first)) i) (let l = links_i in omega arith))

  first_i : get (view first).nodes i ≡ Some linked
  unfolding first a1 linked
  first_i = slot-node_counted image to.ino l (entry_sector image to.ino l) b1 (Some (i, new_name)) strong.weak replace-first i i_q s_i.within
      ∙ (λ z. cond (named_i z) (Some (record (s_i.is z) { nlink = links_i z })) None)

  -- the replaced node, if a name still leads to it
  seen_first : cond (is_named (tree (frame first)) r) (Some (record (node_at image r) { nlink = links (tree (frame first)) r })) None ≡ kept_of w
  seen_first =
      let less : links (tree (frame first)) r ≡ w.nlink - 1 = let l = links_r in omega arith in
      (λ z. cond (unwalked z || ltb 0 (links (tree (frame first)) r)) (Some (record (s_r.is z) { nlink = less z })) None)
      ∙ elim (eqb w.nlink 1) as (λ t. eqb w.nlink 1 ≡ t → cond (ltb 0 (links (tree (frame first)) r)) (Some (record w { nlink = w.nlink - 1 })) None ≡ cond t None (Some (record w { nlink = w.nlink - 1 }))) [
        | true ↦ λ e. let last : w.nlink ≡ 1 = eqb-true w.nlink 1 e in let none : links (tree (frame first)) r ≡ 0 = omega arith in ap (λ m. cond (ltb 0 m) (Some (record w { nlink = w.nlink - 1 })) None) none
        | false ↦ λ e. let more : w.nlink ≢ 1 = λ z. clash (eq-eqb w.nlink 1 z) e in let l = links_r in let some : 1 ≤ links (tree (frame first)) r = omega arith in ap (λ t. cond t (Some (record w { nlink = w.nlink - 1 })) None) (positive (links (tree (frame first)) r) (omega arith))
      ] refl

  first_r : get (view first).nodes r ≡ kept_of w
  unfolding first a1
  first_r = slot-node_counted image to.ino l (entry_sector image to.ino l) b1 (Some (i, new_name)) strong.weak replace-first r r_q s_r.within ∙ seen_first

  first_q : get (view first).nodes to.ino ≡ Some slotted
  unfolding first a1 slotted
  first_q = slot-node_dir image to.ino l (entry_sector image to.ino l) b1 (Some (i, new_name)) strong.weak replace-first dq c.at_to (only_first to.ino (λ e. i_q (sym e)) (λ e. r_q (sym e)))

  first_other : (j : ℕ) → j ≢ to.ino → j ≢ i → j ≢ r → get (view first).nodes j ≡ get (view image).nodes j
  unfolding first a1
  first_other j nq ni nr = slot-node_other image to.ino l (entry_sector image to.ino l) b1 (Some (i, new_name)) strong.weak replace-first j nq (only_first j ni nr)

  first_rest : view first ≡ record (view image) { nodes = (view first).nodes }
  unfolding first a1
  first_rest = slot-rest image to.ino l (entry_sector image to.ino l) b1 (Some (i, new_name)) strong.weak replace-first

  sound_first : IsStrongFor (λ j. (j ≢ i) × (j ≢ r)) (frame first)
  unfolding first a1
  sound_first = step-strong image to.ino l (entry_sector image to.ino l) b1 (Some (i, new_name)) strong.weak replace-first (λ j. (j ≢ i) × (j ≢ r)) (strong_for (λ j. (j ≢ i) × (j ≢ r)) (frame image) strong) (λ j ne. only_first j ne.0 ne.1)

  -- ---- the files after the call, and the directory of the old name

  abbrev asked : Asked
  asked = (call.Rename from name to new_name, cred)

  abbrev A : Files
  A = after_calls (view image) ((call.Rename from name to new_name, cred) ∷ []) now

  timed : Node
  timed = record slotted { mtime = now; ctime = now }

  left_of : Node → Node
  left_of D = record D { slots = set D.slots k None; mtime = now; ctime = now }

  -- the directory of the old name as it is after the new slot, which may be its own
  record FromDir (D : Node) : Type 0 where
    at : get (view first).nodes from.ino ≡ Some D
    kind : permission.is_directory D.kind ≡ true
    slot : get_or D.slots k None ≡ Some (i, name)
    inside : k < length D.slots
    mtime : D.mtime ≡ dp.mtime
    ctime : D.ctime ≡ dp.ctime
    after : A ≡ less_link (with_node (with_node (view image) to.ino timed) from.ino (left_of D)) r w now

  two_dirs : from.ino ≢ to.ino → FromDir dp
  unfolding timed slotted left_of
  two_dirs ne = record {
    at = first_other from.ino ne (λ e. i_p (sym e)) (λ e. r_p (sym e)) ∙ c.at_from;
    kind = c.from_kind;
    slot = c.old_slot;
    inside = c.old_inside;
    mtime = refl;
    ctime = refl;
    after = c.after ∙ ap (λ o. less_link (emptied_at (with_node (view image) to.ino (record dq { slots = set dq.slots l (Some (i, new_name)); mtime = now; ctime = now })) from.ino k now o) r w now)
        (get-insert_other (view image).nodes to.ino (record dq { slots = set dq.slots l (Some (i, new_name)); mtime = now; ctime = now }) from.ino ne ∙ c.at_from);
  }

  one_dir : from.ino ≡ to.ino → FromDir slotted
  unfolding timed slotted left_of
  one_dir e = record {
    at = ap (get (view first).nodes) e ∙ first_q;
    kind = c.to_kind;
    slot = get_or-set_other dq.slots l k (Some (i, new_name)) None apart ∙ ap (λ (d : Node). get_or d.slots k None) (sym dirs) ∙ c.old_slot;
    inside = subst (λ m. k < m) (sym (length-set dq.slots l (Some (i, new_name)))) (subst (λ (d : Node). k < length d.slots) dirs c.old_inside);
    mtime = ap (λ (d : Node). d.mtime) (sym dirs);
    ctime = ap (λ (d : Node). d.ctime) (sym dirs);
    after = c.after ∙ ap (λ o. less_link (emptied_at (with_node (view image) to.ino (record dq { slots = set dq.slots l (Some (i, new_name)); mtime = now; ctime = now })) from.ino k now o) r w now)
        (ap (get (with_node (view image) to.ino (record dq { slots = set dq.slots l (Some (i, new_name)); mtime = now; ctime = now })).nodes) e
        ∙ get-insert_same (view image).nodes to.ino (record dq { slots = set dq.slots l (Some (i, new_name)); mtime = now; ctime = now }));
  }
    where
      some_is : (x y : Node) → Some x ≡ Some y → x ≡ y
      some_is x y e = cc

      dirs : dp ≡ dq
      dirs = some_is dp dq (sym c.at_from ∙ ap (get (view image).nodes) e ∙ c.at_to)

      apart : k ≢ l
      apart z = c.differ (some_slot r i new_name name (sym c.new_slot ∙ ap (get_or dq.slots l) refl ∙ ap (λ m. get_or dq.slots m None) (sym z) ∙ ap (λ (d : Node). get_or d.slots k None) (sym dirs) ∙ c.old_slot)).0

  from_dir : (D : Node) × FromDir D
  from_dir = ⊎_elim (λ (e : from.ino ≡ to.ino). (slotted, one_dir e)) (λ (ne : from.ino ≢ to.ino). (dp, two_dirs ne)) (cases_eq from.ino to.ino)

  D : Node
  D = from_dir.0

  F : FromDir D
  unfolding D
  F = from_dir.1

  left : Node
  left = record D { slots = set D.slots k None; mtime = now; ctime = now }

  emptied : Node
  emptied = record D { slots = set D.slots k None }

  both : Files
  both = with_node (with_node (view image) to.ino timed) from.ino left

  after' : A ≡ less_link both r w now
  unfolding both left left_of
  after' = F.after

  A_p : get A.nodes from.ino ≡ Some left
  unfolding both
  A_p = ap (λ (f : Files). get f.nodes from.ino) after' ∙ less-other both r w now from.ino (λ e. r_p (sym e)) ∙ get-insert_same (with_node (view image) to.ino timed).nodes from.ino left

  A_q : to.ino ≢ from.ino → get A.nodes to.ino ≡ Some timed
  unfolding both
  A_q ne = ap (λ (f : Files). get f.nodes to.ino) after' ∙ less-other both r w now to.ino (λ e. r_q (sym e)) ∙ get-insert_other (with_node (view image) to.ino timed).nodes from.ino left to.ino ne ∙ get-insert_same (view image).nodes to.ino timed

  A_r : get A.nodes r ≡ lost_of w now
  A_r = ap (λ (f : Files). get f.nodes r) after' ∙ less-here both r w now

  A_other : (j : ℕ) → j ≢ from.ino → j ≢ to.ino → j ≢ r → get A.nodes j ≡ get (view image).nodes j
  unfolding both
  A_other j np nq nr = ap (λ (f : Files). get f.nodes j) after' ∙ less-other both r w now j nr ∙ get-insert_other (with_node (view image) to.ino timed).nodes from.ino left j np ∙ get-insert_other (view image).nodes to.ino timed j nq

  A_i : get A.nodes i ≡ Some n
  A_i = A_other i i_p i_q (λ e. c.differ (sym e)) ∙ c.at_file

  A_rest : A ≡ record (view image) { nodes = A.nodes }
  unfolding both
  A_rest = after' ∙ less-rest both r w now ∙ (λ z. record (view image) { nodes = (sym after' z).nodes })

  -- a property of every node, one after the other
  cases : (P : ℕ → Type 0) → P i → P r → P from.ino → (to.ino ≢ from.ino → P to.ino) → ((j : ℕ) → j ≢ i → j ≢ r → j ≢ from.ino → j ≢ to.ino → P j) → (j : ℕ) → P j
  cases P at_i at_r at_p at_q other j = ⊎_elim
      (λ (e : j ≡ i). subst P (sym e) at_i)
      (λ (ni : j ≢ i). ⊎_elim
      (λ (e : j ≡ r). subst P (sym e) at_r)
      (λ (nr : j ≢ r). ⊎_elim
      (λ (e : j ≡ from.ino). subst P (sym e) at_p)
      (λ (np : j ≢ from.ino). ⊎_elim
      (λ (e : j ≡ to.ino). subst P (sym e) (at_q (λ z. np (e ∙ z))))
      (λ (nq : j ≢ to.ino). other j ni nr np nq)
      (cases_eq j to.ino))
      (cases_eq j from.ino))
      (cases_eq j r))
      (cases_eq j i)

  -- ---- both slots name the file

  restored : Node
  restored = record left { slots = slice_set left.slots k (Some (i, name)) }

  base : Files
  base = with_node (with_node A from.ino restored) i linked

  base_i : get base.nodes i ≡ Some linked
  unfolding base
  base_i = get-insert_same (with_node A from.ino restored).nodes i linked

  base_p : get base.nodes from.ino ≡ Some restored
  unfolding base
  base_p = get-insert_other (with_node A from.ino restored).nodes i linked from.ino (λ e. i_p (sym e)) ∙ get-insert_same A.nodes from.ino restored

  base_other : (j : ℕ) → j ≢ i → j ≢ from.ino → get base.nodes j ≡ get A.nodes j
  unfolding base
  base_other j ni np = get-insert_other (with_node A from.ino restored).nodes i linked j ni ∙ get-insert_other A.nodes from.ino restored j np

  slots_back : slice_set (set D.slots k None) k (Some (i, name)) ≡ D.slots
  slots_back = set-set D.slots k None (Some (i, name)) ∙ ap (set D.slots k) (sym F.slot) ∙ set-get_or D.slots k None

  both_names : (j : ℕ) → IsTornNode (get (view image).nodes j) (get A.nodes j) (get base.nodes j) (get (view first).nodes j)
  unfolding linked restored timed slotted left
  both_names = cases (λ j. IsTornNode (get (view image).nodes j) (get A.nodes j) (get base.nodes j) (get (view first).nodes j))
      (torn_old _ _ _ _ n n linked c.at_file A_i base_i first_i)
      (torn_lost w now _ _ _ _ c.at_replaced A_r (base_other r c.differ r_p ∙ A_r) first_r)
      (torn_old _ _ _ _ dp left restored c.at_from A_p base_p (F.at ∙ (λ z. Some (record D { slots = sym slots_back z; mtime = F.mtime z; ctime = F.ctime z }))))
      (λ ne. torn_old _ _ _ _ dq timed timed c.at_to (A_q ne) (base_other to.ino (λ e. i_q (sym e)) ne ∙ A_q ne) first_q)
      (λ j ni nr np nq. torn_same (get (view image).nodes j) (get A.nodes j) (get base.nodes j) (get (view first).nodes j) (first_other j nq ni nr ∙ sym (A_other j np nq nr)) (base_other j ni np))

  torn_first : Torn (view image) ((call.Rename from name to new_name, cred) ∷ []) now (view first)
  unfolding left base linked restored
  torn_first = inr (inr (inr (inr (inl (record {
    asked = asked;
    one = refl;
    from = from;
    name = name;
    to = to;
    new_name = new_name;
    kind = refl;
    slot = k;
    moved = i;
    directory = dp;
    directory_is = c.at_from;
    slot_is = slice_get-get_or dp.slots k None c.old_inside ∙ ap Some c.old_slot;
    left = left;
    left_is = A_p;
    emptied = slice_get-get_or (set D.slots k None) k None (subst (λ m. k < m) (sym (length-set D.slots k None)) F.inside) ∙ ap Some (get_or-set_same D.slots k None None F.inside);
    node = n;
    node_is = A_i;
    no_directory = no_kind n.kind c.file;
    times = record { nodes = both_names; rest = first_rest ∙ (λ z. record (sym A_rest z) { nodes = (view first).nodes }) };
  })))))

  -- ---- the old slot

  module _ (b2 : List ℕ) (p2 : PutsSlot (sector_at (put_entry image to.ino l b1) (entry_sector (put_entry image to.ino l b1) from.ino k)) k b2 None) where
    a2 : ℕ
    a2 = entry_sector first from.ino k

    second : Image
    second = set first a2 b2

    s_first : StandsDir first from.ino D
    s_first = stands-dir first from.ino D weak_first F.at F.kind

    slot_first : slot_at (tree (frame first)) from.ino k ≡ Some (i, name)
    slot_first = ap (λ x. get_or x k None) s_first.slots ∙ F.slot

    replace-second : PutsEntry first from.ino k (entry_sector first from.ino k) b2 None
    unfolding first a1
    replace-second = record {
      walked = s_first.walked;
      inside = let size = s_first.size in let long = s_first.long in let in' = F.inside in omega arith;
      is = refl;
      puts = p2;
      past = c.old_past;
      alike = plain-alike (tree (frame first)) (slot_at (tree (frame first)) from.ino k) None
          (λ j other e. subst (λ z. is_directory ((frame first).head z) ≡ false) (some_slot i j name other (sym slot_first ∙ e)).0 (ap is_directory (heads_first i) ∙ file_i)) (λ j other e. absurd (cc));
      used = λ j other e. absurd (cc);
      bound = λ j e _. absurd (cc);
    }

    only_second : (j : ℕ) → j ≢ i → is_slot_of j (slot_at (tree (frame first)) from.ino k) ≡ is_slot_of j None
    only_second j ne = ap (is_slot_of j) slot_first ∙ ne_eqb i j (λ e. ne (sym e))

    weak_second : IsWeak (frame second)
    unfolding second a2
    weak_second = step-weak first from.ino k (entry_sector first from.ino k) b2 None weak_first replace-second

    links_second : links (tree (frame second)) i ≡ n.nlink
    unfolding second a2
    links_second =
        let x = step-links first from.ino k (entry_sector first from.ino k) b2 None weak_first replace-second i in
        let before : ◌≡◌ {A = ℕ} (one (is_slot_of i (slot_at (tree (frame first)) from.ino k))) 1 = ap (λ s. one (is_slot_of i s)) slot_first ∙ ap one (eq-eqb i i refl) in
        let after'' : ◌≡◌ {A = ℕ} (one (is_slot_of i None)) 0 = refl in
        let a = links_i in omega arith

    links_second_r : links (tree (frame second)) r + 1 ≡ w.nlink
    unfolding second a2
    links_second_r = ap (λ m. m + 1) (step-links_other first from.ino k (entry_sector first from.ino k) b2 None weak_first replace-second r (only_second r c.differ)) ∙ links_r

    some_links : 1 ≤ n.nlink
    some_links = subst (λ m. 1 ≤ m) all_i (slot-links (tree (frame image)) (tree-numbers image) from.ino i s_p.walked (has_slot-at (tree (frame image)) from.ino 0 i k name (omega arith) old_slot))

    named_second : is_named (tree (frame second)) i ≡ true
    named_second = or_right (is_walked (tree (frame second)) i) (ltb 0 (links (tree (frame second)) i)) (positive (links (tree (frame second)) i) (let l = links_second in let s = some_links in omega arith))

    heads_second : (j : ℕ) → (frame second).head j ≡ (frame image).head j
    unfolding second a2
    heads_second j = step-heads first from.ino k (entry_sector first from.ino k) b2 None weak_first replace-second j ∙ heads_first j

    sound_second : IsStrongFor (λ j. j ≢ r) (frame second)
    unfolding second a2
    sound_second = strong_change (λ j. (j ≢ i) × (j ≢ r)) (λ j. j ≢ r) (frame second)
        (step-strong first from.ino k (entry_sector first from.ino k) b2 None weak_first replace-second (λ j. (j ≢ i) × (j ≢ r)) sound_first (λ j ne. only_second j ne.0))
        (λ j nr. ⊎_elim
        (λ (e : j ≡ i). inr (λ u. (
          ap (λ z. ((frame second).head z).nlink) e ∙ ap (λ (h : Head). h.nlink) (heads_second i) ∙ strong.counted i used_i ∙ all_i ∙ sym links_second ∙ ap (links (tree (frame second))) (sym e),
          ap (is_named (tree (frame second))) e ∙ named_second,
        )))
        (λ (ne : j ≢ i). inl (ne, nr))
        (cases_eq j i))

    s_linked : StandsAs first i linked
    s_linked = view-node first i linked first_i

    second_i : get (view second).nodes i ≡ Some n
    unfolding second a2 linked
    second_i = slot-node_counted first from.ino k (entry_sector first from.ino k) b2 None weak_first replace-second i i_p s_linked.within
        ∙ (λ z. cond (named_second z) (Some (record (s_linked.is z) { nlink = links_second z })) None)

    second_p : get (view second).nodes from.ino ≡ Some emptied
    unfolding second a2 emptied
    second_p = slot-node_dir first from.ino k (entry_sector first from.ino k) b2 None weak_first replace-second D F.at (only_second from.ino (λ e. i_p (sym e)))

    second_other : (j : ℕ) → j ≢ from.ino → j ≢ i → get (view second).nodes j ≡ get (view first).nodes j
    unfolding second a2
    second_other j np ni = slot-node_other first from.ino k (entry_sector first from.ino k) b2 None weak_first replace-second j np (only_second j ni)

    second_rest : view second ≡ record (view first) { nodes = (view second).nodes }
    unfolding second a2
    second_rest = slot-rest first from.ino k (entry_sector first from.ino k) b2 None weak_first replace-second

    unwalked_second : is_walked (tree (frame second)) r ≡ false
    unfolding second a2
    unwalked_second = step-is_walked first from.ino k (entry_sector first from.ino k) b2 None weak_first replace-second r ∙ unwalked

    second_r : get (view second).nodes r ≡ kept_of w
    second_r = second_other r r_p c.differ ∙ first_r

    within_r : r < (tree (frame second)).inodes + 1
    within_r = same-within image second r (ap (λ (f : Files). f.inodes) (second_rest ∙ (λ z. record (first_rest z) { nodes = (view second).nodes }))) s_r.within

    losing : IsLosing second r w
    losing = record {
      sound = sound_second;
      fewer = links_second_r;
      unwalked = unwalked_second;
      stored = ap (λ (h : Head). h.nlink) (heads_second r) ∙ strong.counted r used_r.0 ∙ all_r;
      used = ap (λ (h : Head). h.is_used) (heads_second r) ∙ used_r.0;
      low = low;
      within = within_r;
      node = second_r;
    }

    blocks_second : IsFreed false r (frame image) (frame second)
    unfolding second a2 first a1
    blocks_second =
        let x = step-sizes image to.ino l (entry_sector image to.ino l) b1 (Some (i, new_name)) strong.weak replace-first in
        let y = step-sizes first from.ino k (entry_sector first from.ino k) b2 None weak_first replace-second in
        record {
          isize = y.0 ∙ x.0;
          fsize = y.1 ∙ x.1;
          others = λ j ne p. step-addresses first from.ino k (entry_sector first from.ino k) b2 None weak_first replace-second j p ∙ step-addresses image to.ino l (entry_sector image to.ino l) b1 (Some (i, new_name)) strong.weak replace-first j p;
          own = λ p. step-addresses first from.ino k (entry_sector first from.ino k) b2 None weak_first replace-second r p ∙ step-addresses image to.ino l (entry_sector image to.ino l) b1 (Some (i, new_name)) strong.weak replace-first r p;
        }

    lengths : (length first ≡ length image) × (length second ≡ length image)
    unfolding second first
    lengths = (length-set image a1 b1, length-set first a2 b2 ∙ length-set image a1 b1)

    -- the directories to come are the two, and each is among them
    module _ (before behind : List ℕ) (bs cs : List (List ℕ)) (b : List ℕ)
        (x : Finishes (put_entry (put_entry image to.ino l b1) from.ino k b2) now from.ino to.ino r w before behind bs cs b) where
      none_of : (d j : ℕ) (ds : List ℕ) → list_any (λ e. e == d) ds ≡ true → list_any (λ e. e == j) ds ≡ false → j ≢ d
      none_of d j ds has hasn't e = clash has (subst (λ z. list_any (λ v. v == z) ds ≡ false) e hasn't)

      stage : Stage image asked now r w refl A_r (λ j. j ≡ r) second (before ++ behind)
      unfolding timed slotted left emptied
      stage = record {
        nodes = cases (λ j. IsAfter (get (view image).nodes j) (get A.nodes j) (get (view second).nodes j))
            (same (second_i ∙ sym A_i))
            (after_lost w now _ _ _ c.at_replaced A_r second_r)
            (times dp left c.at_from A_p (second_p ∙ (λ z. Some (record emptied { mtime = F.mtime z; ctime = F.ctime z }))))
            (λ ne. times dq timed c.at_to (A_q ne) (second_other to.ino ne (λ e. i_q (sym e)) ∙ first_q))
            (λ j ni nr np nq. same (second_other j np ni ∙ first_other j nq ni nr ∙ sym (A_other j np nq nr)));
        exact = λ j nr h.
            let np = none_of from.ino j (before ++ behind) x.has_from h in
            let nq = none_of to.ino j (before ++ behind) x.has_to h in ⊎_elim
            (λ (e : j ≡ i). ap (get (view second).nodes) e ∙ second_i ∙ sym A_i ∙ ap (get A.nodes) (sym e))
            (λ (ni : j ≢ i). second_other j np ni ∙ first_other j nq ni nr ∙ sym (A_other j np nq nr))
            (cases_eq j i);
        rest = second_rest ∙ (λ z. record (first_rest z) { nodes = (view second).nodes }) ∙ (λ z. record (sym A_rest z) { nodes = (view second).nodes });
        long = lengths.1;
      }

      unsettled : Unsettled image asked now r w refl A_r second (before ++ behind)
      unsettled = record { losing = losing; stage = stage; blocks = blocks_second }

      timed_at : (d : ℕ) → (d ≡ from.ino) ⊎ (d ≡ to.ino) → (z : Node) × IsTimed A now d z
      unfolding left timed
      timed_at d (inl e) = (left, record { at = ap (get A.nodes) e ∙ A_p; mtime = refl; ctime = refl })
      timed_at d (inr e) = ⊎_elim
          (λ (same' : to.ino ≡ from.ino). (left, record { at = ap (get A.nodes) (e ∙ same') ∙ A_p; mtime = refl; ctime = refl }))
          (λ (ne : to.ino ≢ from.ino). (timed, record { at = ap (get A.nodes) e ∙ A_q ne; mtime = refl; ctime = refl }))
          (cases_eq to.ino from.ino)

      all_timed : (ds : List ℕ) → AllByRecursion (λ d. (d ≡ from.ino) ⊎ (d ≡ to.ino)) ds → AllByRecursion (λ d. (z : Node) × IsTimed A now d z) ds
      all_timed [] h = tt
      all_timed (d ∷ ds) h = (timed_at d h.0, all_timed ds h.1)

      all_apart : (ds : List ℕ) → AllByRecursion (λ d. (d ≡ from.ino) ⊎ (d ≡ to.ino)) ds → AllByRecursion (λ d. r ≢ d) ds
      all_apart [] h = tt
      all_apart (d ∷ ds) h = ((λ e. ⊎_elim (λ (s : d ≡ from.ino). r_p (e ∙ s)) (λ (s : d ≡ to.ino). r_q (e ∙ s)) h.0), all_apart ds h.1)

      finish : Finish image asked now r w refl A_r second (inode_puts before bs ++ inode_put r b ∷ inode_puts behind cs)
      unfolding second a2 first a1
      finish = finish-unsettled image asked now r w refl A_r before behind bs cs b second (all_timed before x.only_before) (all_apart before x.only_before) (all_timed behind x.only_after) unsettled x.first x.node x.last

      first_inside : (3 ≤ a1) × (a1 < length image)
      unfolding a1
      first_inside = entry-inside image to.ino l (entry_sector image to.ino l) b1 (Some (i, new_name)) strong.weak replace-first

      second_inside : (3 ≤ a2) × (a2 < length image)
      unfolding a2
      second_inside = let s = entry-inside first from.ino k (entry_sector first from.ino k) b2 None weak_first replace-second in (s.0, subst (λ m. entry_sector first from.ino k < m) lengths.0 s.1)

      whole : Finish image asked now r w refl A_r image ((a1, b1) ∷ (a2, b2) ∷ (inode_puts before bs ++ inode_put r b ∷ inode_puts behind cs))
      unfolding second first
      whole =
          let l1 : 3 ≤ a1 = first_inside.0 in
          let l2 : 3 ≤ a2 = second_inside.0 in
          finish-cons image asked now r w refl A_r image a1 b1 ((a2, b2) ∷ (inode_puts before bs ++ inode_put r b ∷ inode_puts behind cs)) (record { weak = strong.weak; torn = inl refl }) (omega arith) first_inside.1 p1.long
          (finish-cons image asked now r w refl A_r first a2 b2 (inode_puts before bs ++ inode_put r b ∷ inode_puts behind cs) (record { weak = weak_first; torn = torn_first }) (omega arith) second_inside.1 p2.long finish)

      pub replace-plan : IsPlanOf image ((call.Rename from name to new_name, cred) ∷ []) now
          ((entry_sector image to.ino l, b1) ∷ (entry_sector (put_entry image to.ino l b1) from.ino k, b2) ∷ (inode_puts before bs ++ inode_put r b ∷ inode_puts behind cs))
      unfolding a1 a2 first
      replace-plan = record { past = whole.past; inside = whole.inside; whole = whole.whole; prefixes = whole.prefixes; strong = whole.strong; after = whole.after }

      pub replace-blocks : IsFreed (w.nlink == 1) r (frame image)
          (frame (put_all ((entry_sector image to.ino l, b1) ∷ (entry_sector (put_entry image to.ino l b1) from.ino k, b2) ∷ (inode_puts before bs ++ inode_put r b ∷ inode_puts behind cs)) image))
      unfolding a1 a2 first
      replace-blocks = whole.blocks
