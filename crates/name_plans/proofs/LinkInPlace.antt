-- LINK into an empty slot, as a plan: the node's inode, the slot, the directory's times.
use Rattle.std.proofs.Common.{◌≡◌, ◌≢◌, ℕ, ◌+◌, ◌/◌, ◌<◌, ◌≤◌, Bool, true, false, cond, List, [], ◌∷◌, ◌++◌, length, set, refl, sym, ap, subst, ◌∙◌, arith, inl, inr, Some, None, ltb, eq-eqb, length-set}
use Rattle.std.proofs.lemmas.Bool.{ne_eqb, eqb-true}
use Rattle.std.specs.FinMap.{get, insert}
use Rattle.files_model.specs.Answers.{with_node}
use Rattle.files_model.specs.Files.{Node, Files}
use Rattle.files_model.specs.Names.{place_for, with_entry}
use Rattle.files_model.specs.Torn.{Asked, Torn, after_calls}
use Rattle.files_model.proofs.Maps.{get-insert_same, get-insert_other}
use Rattle.stable.specs.Puts.{put_all}
use Rattle.stable.specs.Store.{Image}
use Rattle.v7_map.specs.Image.{inode_sector}
use Rattle.v7_map.specs.Frame.{Frame, Head, is_directory, frame}
use Rattle.v7_map.specs.Tree.{tree, is_walked, is_named, links, is_slot_of}
use Rattle.v7_map.specs.View.{view}
use Rattle.v7_map.specs.Weak.{IsWeak, IsStrong, slot_at}
use Rattle.v7_map.specs.Plans.{IsPlanOf}
use Rattle.v7_map.proofs.Nodes.{StandsAs, view-node}
use Rattle.v7_map.proofs.Ranges.{inode_sector-inside}
use Rattle.v7_map.proofs.Walks.{or_right}
use Rattle.v7_plans.proofs.Local.{strong_of}
use Rattle.v7_sets.specs.Sets.{AreSetsOf}
use Rattle.v7_strokes.specs.Changes.{changed}
use Rattle.v7_strokes.specs.Entries.{entry_sector}
use Rattle.v7_strokes.specs.Left.{one}
use Rattle.v7_strokes.specs.Slots.{PutsEntry}
use Rattle.v7_strokes.proofs.Aside.{positive}
use Rattle.v7_strokes.proofs.Changed.{changed-here, changed-again, torn-two}
use Rattle.v7_strokes.proofs.Directories.{StandsDir, place-past, place-empty}
use Rattle.v7_strokes.proofs.Names.{some_slot, none_slot}
use Rattle.v7_strokes.proofs.Slots.{plain-alike}
use Rattle.v7_strokes.proofs.SlotStep.{step-strong, step-links, step-heads, step-sizes, step-addresses, entry-inside}
use Rattle.v7_strokes.proofs.Times.{frame_after_times, view_after_times}
use Rattle.v7_strokes.proofs.TornCalls.{same, times, insert_twice}
use Rattle.v7_strokes.proofs.Views.{view-slot}
use Rattle.name_plans.specs.CreatingPuts.{in_place_puts}
use Rattle.name_plans.specs.Linking.{LinksInPlace}
use Rattle.name_plans.proofs.CreatingInPlace.{lt_ltb}
use Rattle.name_plans.proofs.LinkAccepted.{IsLinking}
use Rattle.name_plans.proofs.LinkFirst.{link-dir, link-file, link-apart, link-used, link-links, link-weak, link-strong, link-tree, link-head, link-heads, link-uses, link-sizes, link-addresses, link-view, link-torn}
use Rattle.name_plans.proofs.StayingSets.{sets-stay}

module _ (image : Image) (asked : Asked) (now p : ℕ) (name : List ℕ) (d : Node) (i : ℕ) (n : Node) (b1 b2 b3 : List ℕ) (strong : IsStrong (frame image)) (c : IsLinking (view image) asked now p name d i n)
    (x : LinksInPlace image now p name d i b1 b2 b3) where
  k : ℕ
  k = place_for d.slots

  first : Image
  first = set image (inode_sector i) b1

  s_d : StandsDir image p d
  s_d = link-dir image asked now p name d i n strong c

  apart : i ≢ p
  apart = link-apart image asked now p name d i n strong c

  weak_first : IsWeak (frame first)
  unfolding first
  weak_first = link-weak image asked now p name d i n strong c b1 x.node

  tree_first : tree (frame first) ≡ tree (frame image)
  unfolding first
  tree_first = link-tree image asked now p name d i n strong c b1 x.node

  head_first : (frame first).head i ≡ record ((frame image).head i) { nlink = n.nlink + 1 }
  unfolding first
  head_first = link-head image asked now p name d i n strong c b1 x.node

  touched : Node
  touched = record n { ctime = now }

  linked : Node
  linked = record n { nlink = n.nlink + 1; ctime = now }

  view_first : view first ≡ with_node (view image) i touched
  unfolding first touched
  view_first = link-view image asked now p name d i n strong c b1 x.node

  timed : Node
  timed = record d { slots = set d.slots k (Some (i, name)); mtime = now; ctime = now }

  after : after_calls (view image) (asked ∷ []) now ≡ changed (view image) i (Some linked) p timed
  unfolding linked timed k with_entry
  after = c.after ∙ ap (λ t. changed (view image) i (Some (record n { nlink = n.nlink + 1; ctime = now })) p
      (cond t (record d { slots = set d.slots (place_for d.slots) (Some (i, name)); mtime = now; ctime = now }) (record d { slots = d.slots ++ Some (i, name) ∷ []; size = d.size + 16; mtime = now; ctime = now })))
      (lt_ltb (place_for d.slots) (length d.slots) x.inside)

  slot_first : slot_at (tree (frame first)) p k ≡ None
  unfolding k
  slot_first = ap (λ t. slot_at t p (place_for d.slots)) tree_first ∙ place-empty image p d strong.weak s_d x.inside

  a : ℕ
  a = entry_sector first p k

  second : Image
  second = set first a b2

  entry : PutsEntry first p k a b2 (Some (i, name))
  unfolding first k a
  entry = record {
    walked = ap (λ t. is_walked t p) tree_first ∙ s_d.walked;
    inside = subst (λ (h : Head). place_for d.slots < h.size / 16) (sym (link-heads image asked now p name d i n strong c b1 x.node p (λ e. apart (sym e)))) (let size = s_d.size in let long = s_d.long in let in' = x.inside in omega arith);
    is = refl;
    puts = x.entry;
    past = place-past image p d strong.weak s_d;
    alike = plain-alike (tree (frame first)) (slot_at (tree (frame first)) p (place_for d.slots)) (Some (i, name)) (λ j other e. absurd (none_slot j other (sym slot_first ∙ e)))
        (λ j other e. subst (λ z. is_directory ((frame first).head z) ≡ false) (some_slot i j name other e).0 (ap is_directory head_first ∙ link-file image asked now p name d i n strong c));
    used = λ j other e. let r = some_slot i j name other e in
        (subst (λ z. ((frame first).head z).is_used ≡ true) r.0 (ap (λ (h : Head). h.is_used) head_first ∙ link-used image asked now p name d i n strong c), subst (λ z. z ≢ []) r.1 c.good_name);
    bound = λ j e _. let s : i ≡ j = eqb-true i j e in let h : links (tree (frame first)) j ≡ n.nlink = ap (λ t. links t j) tree_first ∙ ap (links (tree (frame image))) (sym s) ∙ link-links image asked now p name d i n strong c in let b = c.bound in omega arith;
  }

  only : (j : ℕ) → j ≢ i → is_slot_of j (slot_at (tree (frame first)) p k) ≡ is_slot_of j (Some (i, name))
  only j ne = ap (is_slot_of j) slot_first ∙ sym (ne_eqb i j (λ e. ne (sym e)))

  links_second : links (tree (frame second)) i ≡ n.nlink + 1
  unfolding second
  links_second =
      let r = step-links first p k a b2 (Some (i, name)) weak_first entry i in
      let before : ◌≡◌ {A = ℕ} (one (is_slot_of i (slot_at (tree (frame first)) p k))) 0 = ap (λ s. one (is_slot_of i s)) slot_first in
      let after' : ◌≡◌ {A = ℕ} (one (is_slot_of i (Some (i, name)))) 1 = ap one (eq-eqb i i refl) in
      let l : links (tree (frame first)) i ≡ n.nlink = ap (λ t. links t i) tree_first ∙ link-links image asked now p name d i n strong c in omega arith

  named_second : is_named (tree (frame second)) i ≡ true
  named_second = or_right (is_walked (tree (frame second)) i) (ltb 0 (links (tree (frame second)) i)) (positive (links (tree (frame second)) i) (let l = links_second in omega arith))

  strong_second : IsStrong (frame second)
  unfolding second first
  strong_second = strong_of i (frame second)
      (step-strong first p k a b2 (Some (i, name)) weak_first entry (λ j. j ≢ i) (link-strong image asked now p name d i n strong c b1 x.node) only)
      (λ u. (ap (λ (h : Head). h.nlink) (step-heads first p k a b2 (Some (i, name)) weak_first entry i ∙ head_first) ∙ sym links_second, named_second))

  slotted : Node
  slotted = record d { slots = set d.slots k (Some (i, name)) }

  at_d_first : get (view first).nodes p ≡ Some d
  at_d_first = ap (λ (f : Files). get f.nodes p) view_first ∙ get-insert_other (view image).nodes i touched p (λ e. apart (sym e)) ∙ c.at

  at_i_first : StandsAs first i touched
  at_i_first = view-node first i touched (ap (λ (f : Files). get f.nodes i) view_first ∙ get-insert_same (view image).nodes i touched)

  view_second : view second ≡ changed (view image) i (Some linked) p slotted
  unfolding second slotted linked touched
  view_second =
      view-slot first p k a b2 (Some (i, name)) weak_first entry i only (λ e. apart (sym e)) d at_d_first at_i_first.within
      ∙ (λ z. changed (view first) i (cond (named_second z) (Some (record (at_i_first.is z) { nlink = links_second z })) None) p (record d { slots = set d.slots k (Some (i, name)) }))
      ∙ ap (λ f. changed f i (Some (record n { nlink = n.nlink + 1; ctime = now })) p (record d { slots = set d.slots k (Some (i, name)) })) view_first
      ∙ (λ z. record (view image) { nodes = insert (insert_twice (view image).nodes i (record n { ctime = now }) (record n { nlink = n.nlink + 1; ctime = now }) z) p (record d { slots = set d.slots k (Some (i, name)) }) })

  at_second : get (view second).nodes p ≡ Some slotted
  at_second = ap (λ (f : Files). get f.nodes p) view_second ∙ changed-here (view image) i (Some linked) p slotted

  third : Image
  third = set second (inode_sector p) b3

  frame_third : frame third ≡ frame second
  unfolding third second first k a
  frame_third = frame_after_times second p slotted strong_second.weak at_second b3 now x.times

  strong_third : IsStrong (frame third)
  strong_third = subst IsStrong (sym frame_third) strong_second

  view_third : view third ≡ changed (view image) i (Some linked) p timed
  unfolding third second first k a timed slotted
  view_third = view_after_times second p slotted strong_second.weak at_second b3 now x.times
      ∙ ap (λ f. with_node f p timed) view_second ∙ changed-again (view image) i (Some linked) p slotted timed

  torn_second : Torn (view image) (asked ∷ []) now (view second)
  unfolding slotted timed
  torn_second = torn-two (view image) asked now i (Some linked) (Some linked) p (record d { slots = set d.slots k (Some (i, name)) }) timed (view second) c.no_write apart after view_second (same refl)
      (times d (record d { slots = set d.slots k (Some (i, name)); mtime = now; ctime = now }) c.at refl refl)

  pub link-plan : IsPlanOf image (asked ∷ []) now (in_place_puts image p d i b1 b2 b3)
  unfolding third second first k a
  link-plan =
      let e = entry-inside first p k a b2 (Some (i, name)) weak_first entry in
      let low : 3 ≤ a = e.0 in
      let l1 : length first ≡ length image = length-set image (inode_sector i) b1 in
      let l2 : length second ≡ length image = length-set first a b2 ∙ l1 in record {
        past = (omega arith, (omega arith, (omega arith, tt)));
        inside = ((inode_sector-inside image strong.weak i x.node.inside).2, (subst (λ m. a < m) l1 e.1, (subst (λ m. inode_sector p < m) l2 (inode_sector-inside second strong_second.weak p x.times.inside).2, tt)));
        whole = (x.node.long, (x.entry.long, (x.times.long, tt)));
        prefixes = (
          record { weak = strong.weak; torn = inl refl },
          (
            record { weak = weak_first; torn = link-torn image asked now p name d i n strong c b1 x.node },
            (
              record { weak = strong_second.weak; torn = torn_second },
              record { weak = strong_third.weak; torn = inr (inl (view_third ∙ sym after)) },
            ),
          ),
        );
        strong = strong_third;
        after = view_third ∙ sym after;
      }

  pub link-sets : (blocks inodes : List Bool) → AreSetsOf image blocks inodes → AreSetsOf (put_all (in_place_puts image p d i b1 b2 b3) image) blocks inodes
  unfolding third second first k a
  link-sets blocks inodes sets =
      let s1 = link-sizes image asked now p name d i n strong c b1 x.node in
      let s2 = step-sizes first p k a b2 (Some (i, name)) weak_first entry in
      sets-stay image third blocks inodes
      (ap (λ (f : Frame). f.isize) frame_third ∙ s2.0 ∙ s1.0, ap (λ (f : Frame). f.fsize) frame_third ∙ s2.1 ∙ s1.1)
      (λ j q. ap (λ (f : Frame). f.address j q) frame_third ∙ step-addresses first p k a b2 (Some (i, name)) weak_first entry j q ∙ link-addresses image asked now p name d i n strong c b1 x.node j q)
      (λ j. ap (λ (f : Frame). (f.head j).is_used) frame_third ∙ ap (λ (h : Head). h.is_used) (step-heads first p k a b2 (Some (i, name)) weak_first entry j) ∙ link-uses image asked now p name d i n strong c b1 x.node j)
      (ap (λ (f : Files). f.generations) view_third) sets
