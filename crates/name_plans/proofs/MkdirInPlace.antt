-- MKDIR into an empty slot, once the new directory's sector is put: the new inode, the slot, the parent's links and times.
use Rattle.std.proofs.Common.{◌≡◌, ◌≢◌, ℕ, ◌+◌, ◌/◌, ◌<◌, ◌≤◌, true, cond, List, [], ◌∷◌, ◌++◌, length, get_or, set, refl, sym, ap, subst, ◌∙◌, arith, inl, inr, ⊎_elim, Option, Some, None, unwrap_or, length-set}
use Rattle.std.proofs.lemmas.Bool.{cases_eq}
use Rattle.std.specs.FinMap.{get, insert}
use Rattle.v7_layout.specs.declared.inode.Inode.{Inode}
use Rattle.files_model.specs.Answers.{with_node}
use Rattle.files_model.specs.Files.{Node, Files}
use Rattle.files_model.specs.Names.{made_at, place_for, with_entry}
use Rattle.files_model.specs.Torn.{Asked, Torn, after_calls}
use Rattle.files_model.proofs.Maps.{get-insert_same, get-insert_other}
use Rattle.stable.specs.Puts.{put_all}
use Rattle.stable.specs.Store.{Image}
use Rattle.v7_map.specs.Image.{inode_at, inode_sector}
use Rattle.v7_map.specs.Frame.{Head, Place, Body, head_of, is_directory, frame}
use Rattle.v7_map.specs.Tree.{tree, is_named, links}
use Rattle.v7_map.specs.View.{view}
use Rattle.v7_map.specs.Weak.{IsWeak, IsStrong}
use Rattle.v7_map.specs.Plan.{PutsInode}
use Rattle.v7_map.specs.Plans.{IsPlanOf}
use Rattle.v7_map.proofs.AnyFrame.{frame-IsFrame}
use Rattle.v7_map.proofs.Nodes.{view-node}
use Rattle.v7_map.proofs.Ranges.{inode_sector-inside, address-inside}
use Rattle.v7_plans.specs.Setting.{put_inode}
use Rattle.v7_plans.proofs.Local.{IsStrongFor, strong_of, each}
use Rattle.v7_strokes.specs.Changes.{changed}
use Rattle.v7_strokes.specs.Entries.{entry_sector}
use Rattle.v7_strokes.specs.Inodes.{parent_inode}
use Rattle.v7_strokes.specs.NewNodes.{IsNewDirectory}
use Rattle.v7_strokes.specs.Slots.{PutsDirectory}
use Rattle.v7_strokes.proofs.AttrPut.{attr-strong, attr-tree, attr-head, attr-heads, attr-view, attr-sizes, attr-addresses}
use Rattle.v7_strokes.proofs.DirStep.{dir-weak, dir-strong, dir-links_here, dir-links_parent, dir-head, dir-named, dir-view, dir-sizes, dir-address}
use Rattle.v7_strokes.proofs.Directories.{StandsDir, place-past, place-empty}
use Rattle.v7_strokes.proofs.Exempt.{strong_change}
use Rattle.v7_strokes.proofs.TornCalls.{same, times, torn-after, insert_twice}
use Rattle.v7_strokes.proofs.Views.{same-within}
use Rattle.name_plans.specs.CreatingPuts.{in_place_puts}
use Rattle.name_plans.specs.MakingDirectory.{EntersInPlace}
use Rattle.name_plans.proofs.CreatingInPlace.{no_write, lt_ltb}
use Rattle.name_plans.proofs.MkdirAccepted.{IsMakingDirectory}
use Rattle.name_plans.proofs.MkdirFirst.{mkdir-dir, mkdir-within, mkdir-apart, mkdir-weak, mkdir-strong, mkdir-view, mkdir-head, mkdir-named, mkdir-slots, mkdir-parent_head, mkdir-parent_walked, mkdir-parent_slots, mkdir-parent_links, mkdir-node, mkdir-torn}

module _ (image : Image) (asked : Asked) (now p : ℕ) (name : List ℕ) (d : Node) (i : ℕ) (m : Node) (n : Inode) (b1 b2 b3 : List ℕ) (strong : IsStrong (frame image)) (c : IsMakingDirectory (view image) asked now p name d i m)
    (is : IsNewDirectory image p i n m) (raised : n.generation ≡ unwrap_or (get (view image).generations i) 0 + 1) (p1 : PutsInode image i b1 n) (x : EntersInPlace image now p name d i b1 b2 b3) where
  k : ℕ
  k = place_for d.slots

  s_d : StandsDir image p d
  s_d = mkdir-dir image asked now p name d i m strong c

  within : i < (tree (frame image)).inodes + 1
  within = mkdir-within image asked now p name d i m strong c

  apart : i ≢ p
  apart = mkdir-apart image asked now p name d i m strong c

  first : Image
  first = set image (inode_sector i) b1

  weak_first : IsWeak (frame first)
  unfolding first
  weak_first = mkdir-weak image asked now p name d i m strong c n is raised b1 p1

  view_first : view first ≡ record (view image) { generations = insert (view image).generations i (unwrap_or (get (view image).generations i) 0 + 1) }
  unfolding first
  view_first = mkdir-view image asked now p name d i m strong c n is raised b1 p1

  head_first : (frame first).head i ≡ head_of n
  unfolding first
  head_first = mkdir-head image asked now p name d i m strong c n is raised b1 p1

  heads_p : (frame first).head p ≡ (frame image).head p
  unfolding first
  heads_p = mkdir-parent_head image asked now p name d i m strong c n is raised b1 p1

  links_p : links (tree (frame first)) p ≡ d.nlink
  unfolding first
  links_p = mkdir-parent_links image asked now p name d i m strong c n is raised b1 p1

  made : Node
  made = record d { nlink = d.nlink + 1; slots = set d.slots k (Some (i, name)); mtime = now; ctime = now }

  after : after_calls (view image) (asked ∷ []) now ≡ record (view image) { nodes = insert (insert (view image).nodes i m) p made; generations = insert (view image).generations i (unwrap_or (get (view image).generations i) 0 + 1) }
  unfolding made k with_entry
  after = c.after ∙ ap (λ t. made_at (view image) i m p
      (record (cond t (record d { slots = set d.slots (place_for d.slots) (Some (i, name)); mtime = now; ctime = now }) (record d { slots = d.slots ++ Some (i, name) ∷ []; size = d.size + 16; mtime = now; ctime = now })) { nlink = d.nlink + 1 }))
      (lt_ltb (place_for d.slots) (length d.slots) x.inside)

  torn_first : Torn (view image) (asked ∷ []) now (view first)
  unfolding first
  torn_first = mkdir-torn image asked now p name d i m strong c n is raised b1 p1

  entry : PutsDirectory first p k i name b2
  unfolding first k
  entry = record {
    walked = mkdir-parent_walked image asked now p name d i m strong c n is raised b1 p1;
    inside = subst (λ (h : Head). place_for d.slots < h.size / 16) (sym heads_p) (let size = s_d.size in let long = s_d.long in let in' = x.inside in omega arith);
    puts = x.entry;
    past = place-past image p d strong.weak s_d;
    empty = ap (λ y. get_or y (place_for d.slots) None) (mkdir-parent_slots image asked now p name d i m strong c n is raised b1 p1) ∙ place-empty image p d strong.weak s_d x.inside;
    dir = ap is_directory head_first ∙ is.dir;
    apart = apart;
    no_root = λ e. let low = c.low in absurd (omega arith);
    unnamed = mkdir-named image asked now p name d i m strong c n is raised b1 p1;
    dot = ap (λ y. get_or y 0 None) (mkdir-slots image asked now p name d i m strong c n is raised b1 p1) ∙ is.dot;
    dots = ap (λ y. get_or y 1 None) (mkdir-slots image asked now p name d i m strong c n is raised b1 p1) ∙ is.dots;
    nothing = λ l le. ap (λ y. get_or y l None) (mkdir-slots image asked now p name d i m strong c n is raised b1 p1) ∙ is.nothing l le;
    good_name = c.good_name;
    bound = let b = c.bound in let l = links_p in omega arith;
  }

  second : Image
  second = set first (entry_sector first p k) b2

  weak_second : IsWeak (frame second)
  unfolding second first
  weak_second = dir-weak first p k i name b2 weak_first entry

  at_first : get (view first).nodes p ≡ Some d
  at_first = ap (λ (f : Files). get f.nodes p) view_first ∙ c.at

  within_first : i < (tree (frame first)).inodes + 1
  within_first = same-within image first i (ap (λ (f : Files). f.inodes) view_first) within

  slotted : Node
  slotted = record d { nlink = d.nlink + 1; slots = set d.slots k (Some (i, name)) }

  view_second : view second ≡ record (view image) { nodes = insert (insert (view image).nodes i m) p slotted; generations = insert (view image).generations i (unwrap_or (get (view image).generations i) 0 + 1) }
  unfolding second first slotted
  view_second = dir-view first p k i name b2 weak_first entry d at_first within_first
      ∙ (λ z. changed (view_first z) i (Some (mkdir-node image asked now p name d i m strong c n is raised b1 p1 z)) p (record d { nlink = d.nlink + 1; slots = set d.slots k (Some (i, name)) }))

  strong_second : IsStrongFor (λ j. j ≢ p) (frame second)
  unfolding second first
  strong_second = strong_change (λ j. (j ≢ i) × (j ≢ p)) (λ j. j ≢ p) (frame second)
      (dir-strong first p k i name b2 weak_first entry (λ j. (j ≢ i) × (j ≢ p)) (λ j l. l)
      (mkdir-strong image asked now p name d i m strong c n is raised b1 p1 (λ j. (j ≢ i) × (j ≢ p)) (λ j l. l.0)))
      (λ j np. ⊎_elim
      (λ (e : j ≡ i). inr (λ u. subst (λ z. (((frame second).head z).nlink ≡ links (tree (frame second)) z) × (is_named (tree (frame second)) z ≡ true)) (sym e)
      (ap (λ (h : Head). h.nlink) (dir-head first p k i name b2 weak_first entry i ∙ head_first) ∙ is.two_links ∙ sym (dir-links_here first p k i name b2 weak_first entry), dir-named first p k i name b2 weak_first entry)))
      (λ (ne : j ≢ i). inl (ne, np))
      (cases_eq j i))

  at_second : get (view second).nodes p ≡ Some slotted
  at_second = ap (λ (f : Files). get f.nodes p) view_second ∙ get-insert_same (insert (view image).nodes i m) p slotted

  torn_second : Torn (view image) (asked ∷ []) now (view second)
  unfolding slotted made
  torn_second = torn-after (view image) asked now (view second) (no_write asked c.makes)
      (λ j. ⊎_elim
      (λ (e : j ≡ p). times d (record d { nlink = d.nlink + 1; slots = set d.slots k (Some (i, name)); mtime = now; ctime = now }) (ap (get (view image).nodes) e ∙ c.at)
      (ap (get (after_calls (view image) (asked ∷ []) now).nodes) e ∙ ap (λ (f : Files). get f.nodes p) after ∙ get-insert_same (insert (view image).nodes i m) p made)
      (nlink_free (ap (get (view second).nodes) e ∙ at_second)))
      (λ (ne : j ≢ p). same (ap (λ (f : Files). get f.nodes j) view_second ∙ get-insert_other (insert (view image).nodes i m) p slotted j ne
      ∙ sym (get-insert_other (insert (view image).nodes i m) p made j ne) ∙ sym (ap (λ (f : Files). get f.nodes j) after)))
      (cases_eq j p))
      ((λ z. record (view_second z) { nodes = (view second).nodes }) ∙ (λ z. record (sym after z) { nodes = (view second).nodes }))
    where
      nlink_free : {o : Option Node} → o ≡ Some slotted → o ≡ Some slotted
      nlink_free e = e

  -- ---- the parent

  third : Image
  third = set second (inode_sector p) b3

  g : Inode
  g = parent_inode (inode_at second p) now

  heads_second : (frame second).head p ≡ (frame image).head p
  unfolding second first
  heads_second = dir-head first p k i name b2 weak_first entry p ∙ heads_p

  used_p : ((frame second).head p).is_used ≡ true
  used_p = ap (λ (h : Head). h.is_used) heads_second ∙ (frame-IsFrame image).directories p s_d.dir

  alike : head_of g ≡ record ((frame second).head p) { nlink = g.nlink }
  unfolding g frame
  alike = refl

  p3' : PutsInode second p b3 g
  unfolding second first g k
  p3' = x.parent

  same_tree : tree (frame third) ≡ tree (frame second)
  unfolding third
  same_tree = attr-tree second p b3 g weak_second p3' used_p alike

  links_parent : links (tree (frame second)) p ≡ d.nlink + 1
  unfolding second first
  links_parent = dir-links_parent first p k i name b2 weak_first entry ∙ ap (λ n. n + 1) links_p

  stored : (inode_at second p).nlink ≡ d.nlink
  unfolding frame
  stored = ap (λ (h : Head). h.nlink) heads_second ∙ strong.counted p ((frame-IsFrame image).directories p s_d.dir) ∙ ap (λ (x : Node). x.nlink) s_d.stands.is

  named_p : is_named (tree (frame second)) p ≡ true
  named_p = (view-node second p slotted at_second).named

  strong_third : IsStrong (frame third)
  unfolding third g
  strong_third = strong_of p (frame third) (attr-strong second p b3 g weak_second p3' used_p alike (λ j. j ≢ p) (λ j ne. ne) strong_second)
      (λ u. (ap (λ (h : Head). h.nlink) (attr-head second p b3 g weak_second p3' used_p alike) ∙ ap (λ n. n + 1) stored ∙ sym links_parent ∙ ap (λ t. links t p) (sym same_tree), ap (λ t. is_named t p) same_tree ∙ named_p))

  view_third : view third ≡ after_calls (view image) (asked ∷ []) now
  unfolding third g made slotted
  view_third =
      let s = view-node second p slotted at_second in
      attr-view second p b3 g weak_second p3' used_p alike refl s.named s.within
      ∙ ap (λ (x : Node). with_node (view second) p (record x { mtime = now; ctime = now })) s.is
      ∙ ap (λ f. with_node f p (record d { nlink = d.nlink + 1; slots = set d.slots k (Some (i, name)); mtime = now; ctime = now })) view_second
      ∙ (λ z. record (view image) { nodes = insert_twice (insert (view image).nodes i m) p slotted made z; generations = insert (view image).generations i (unwrap_or (get (view image).generations i) 0 + 1) })
      ∙ sym after

  entry_inside : (3 ≤ entry_sector first p k) × (entry_sector first p k < length image)
  unfolding first
  entry_inside =
      let in' = entry.inside in
      let w = entry.walked in
      let dir' : is_directory ((frame first).head p) ≡ true = ap is_directory heads_p ∙ s_d.dir in
      let nz = weak_first.needed p (k / 32) dir' (omega arith) in
      let r = address-inside first weak_first p (Body (k / 32)) nz in
      (r.0, subst (λ l. entry_sector first p k < l) (length-set image (inode_sector i) b1) r.2)

  pub mkdir-plan : IsPlanOf image (asked ∷ []) now (in_place_puts image p d i b1 b2 b3)
  unfolding third second first k
  mkdir-plan =
      let low : 3 ≤ entry_sector first p k = entry_inside.0 in
      let l2 : length second ≡ length image = length-set first (entry_sector first p k) b2 ∙ length-set image (inode_sector i) b1 in record {
        past = (omega arith, (omega arith, (omega arith, tt)));
        inside = ((inode_sector-inside image strong.weak i p1.inside).2, (entry_inside.1, (subst (λ l. inode_sector p < l) l2 (inode_sector-inside second weak_second p x.parent.inside).2, tt)));
        whole = (p1.long, (x.entry.long, (x.parent.long, tt)));
        prefixes = (
          record { weak = strong.weak; torn = inl refl },
          (
            record { weak = weak_first; torn = torn_first },
            (
              record { weak = weak_second; torn = torn_second },
              record { weak = strong_third.weak; torn = inr (inl view_third) },
            ),
          ),
        );
        strong = strong_third;
        after = view_third;
      }

  -- ---- what the puts after the inode leave

  pub mkdir-sizes : ((frame (put_all (in_place_puts image p d i b1 b2 b3) image)).isize ≡ (frame (put_inode image i b1)).isize) × ((frame (put_all (in_place_puts image p d i b1 b2 b3) image)).fsize ≡ (frame (put_inode image i b1)).fsize)
  unfolding third second first k
  mkdir-sizes = let a = attr-sizes second p b3 g weak_second p3' used_p alike in let b = dir-sizes first p k i name b2 weak_first entry in (a.0 ∙ b.0, a.1 ∙ b.1)

  pub mkdir-addresses : (j : ℕ) (q : Place) → (frame (put_all (in_place_puts image p d i b1 b2 b3) image)).address j q ≡ (frame (put_inode image i b1)).address j q
  unfolding third second first k
  mkdir-addresses j q = attr-addresses second p b3 g weak_second p3' used_p alike j q ∙ dir-address first p k i name b2 weak_first entry j q

  pub mkdir-uses : (j : ℕ) → ((frame (put_all (in_place_puts image p d i b1 b2 b3) image)).head j).is_used ≡ ((frame (put_inode image i b1)).head j).is_used
  unfolding third second first k
  mkdir-uses j = each p (λ j. ((frame third).head j).is_used ≡ ((frame second).head j).is_used)
      (ap (λ (h : Head). h.is_used) (attr-head second p b3 g weak_second p3' used_p alike ∙ alike))
      (λ j ne. ap (λ (h : Head). h.is_used) (attr-heads second p b3 g weak_second p3' used_p alike j ne)) j
      ∙ ap (λ (h : Head). h.is_used) (dir-head first p k i name b2 weak_first entry j)
