-- RENAME inside one directory to a name that is free, as a plan: the slot, the directory's times.
use Rattle.stable.specs.Puts.{put_all}
use Rattle.v7_sets.specs.Sets.{AreSetsOf}
use Rattle.name_plans.proofs.StayingSets.{sets-stay}
use Rattle.std.proofs.Common.{◌≡◌, ◌≢◌, ℕ, ◌<◌, ◌≤◌, Bool, true, false, cond, ◌||◌, List, [], ◌∷◌, length, get_or, set, refl, sym, ap, subst, ◌∙◌, arith, inl, inr, Some, None, ltb, length-set}
use Rattle.std.specs.FinMap.{get}
use Rattle.files_model.specs.Files.{Node, Files}
use Rattle.files_model.specs.Answers.{with_node}
use Rattle.files_model.specs.Torn.{Asked, Torn, after_calls}
use Rattle.stable.specs.Store.{Image}
use Rattle.v7_map.specs.Image.{sector_at, inode_at, inode_sector}
use Rattle.v7_map.specs.Frame.{Head, frame, Frame}
use Rattle.v7_map.specs.Tree.{tree, is_named, links, is_slot_of}
use Rattle.v7_map.specs.View.{view, node_at}
use Rattle.v7_map.specs.Weak.{IsWeak, IsStrong, slot_at}
use Rattle.v7_map.specs.Plan.{PutsInode}
use Rattle.v7_strokes.specs.Inodes.{timed_inode}
use Rattle.v7_map.specs.Plans.{IsPlanOf}
use Rattle.v7_map.proofs.Nodes.{StandsAs, view-node}
use Rattle.v7_map.proofs.Ranges.{inode_sector-inside}
use Rattle.v7_strokes.proofs.Times.{frame_after_times, view_after_times}
use Rattle.name_plans.specs.Naming.{naming_puts}
use Rattle.name_plans.proofs.NameAccepted.{IsNamed}
use Rattle.v7_strokes.specs.Slots.{PutsSlot, PutsEntry}
use Rattle.v7_strokes.specs.Entries.{entry_sector}
use Rattle.v7_strokes.proofs.Names.{some_slot}
use Rattle.v7_strokes.proofs.Directories.{StandsDir, stands-dir}
use Rattle.v7_plans.proofs.Local.{strong_for, strong_of}
use Rattle.v7_strokes.specs.Changes.{changed}
use Rattle.v7_strokes.proofs.Changed.{changed-here, changed-again, torn-two}
use Rattle.v7_strokes.proofs.SlotStep.{step-weak, step-strong, step-heads, step-links_other, step-is_walked, entry-inside, step-sizes, step-addresses}
use Rattle.v7_strokes.proofs.TornCalls.{same, times, insert_again}
use Rattle.v7_strokes.proofs.Views.{view-slot}

module _ (image : Image) (asked : Asked) (now p : ℕ) (name new_name : List ℕ) (d : Node) (k i : ℕ) (n : Node) (strong : IsStrong (frame image)) (c : IsNamed (view image) asked now p name new_name d k i n)
    (b1 : List ℕ) (p1 : PutsSlot (sector_at image (entry_sector image p k)) k b1 (Some (i, new_name))) where
  s_d : StandsDir image p d
  s_d = stands-dir image p d strong.weak c.at c.kind

  s_i : StandsAs image i n
  s_i = view-node image i n c.at_node

  slot : slot_at (tree (frame image)) p k ≡ Some (i, name)
  slot = ap (λ x. get_or x k None) s_d.slots ∙ c.slot

  used : ((frame image).head i).is_used ≡ true
  used = (strong.weak.names.used p k i name s_d.walked slot).0

  same_number : (j : ℕ) → is_slot_of j (slot_at (tree (frame image)) p k) ≡ is_slot_of j (Some (i, new_name))
  same_number j = ap (is_slot_of j) slot

  pub name-entry : PutsEntry image p k (entry_sector image p k) b1 (Some (i, new_name))
  name-entry = record {
    walked = s_d.walked;
    inside = let size = s_d.size in let long = s_d.long in let in' = c.inside in omega arith;
    is = refl;
    puts = p1;
    past = c.past;
    alike = λ j dir. same_number j;
    used = λ j other e. let r = some_slot i j new_name other e in (subst (λ z. ((frame image).head z).is_used ≡ true) r.0 used, subst (λ z. z ≢ []) r.1 c.good_name);
    bound = λ j e h. absurd (clash e (sym (same_number j) ∙ h));
  }
    where
      clash : {b : Bool} → b ≡ true → b ≡ false → ⊥
      clash {b = b} x y = cc

  first : Image
  first = set image (entry_sector image p k) b1

  weak_first : IsWeak (frame first)
  unfolding first
  weak_first = step-weak image p k (entry_sector image p k) b1 (Some (i, new_name)) strong.weak name-entry

  links_first : links (tree (frame first)) i ≡ links (tree (frame image)) i
  unfolding first
  links_first = step-links_other image p k (entry_sector image p k) b1 (Some (i, new_name)) strong.weak name-entry i (same_number i)

  named_first : is_named (tree (frame first)) i ≡ true
  unfolding first
  named_first = (λ z. step-is_walked image p k (entry_sector image p k) b1 (Some (i, new_name)) strong.weak name-entry i z || ltb 0 (links_first z)) ∙ s_i.named

  strong_first : IsStrong (frame first)
  unfolding first
  strong_first = strong_of i (frame first) (step-strong image p k (entry_sector image p k) b1 (Some (i, new_name)) strong.weak name-entry (λ j. j ≢ i) (strong_for (λ j. j ≢ i) (frame image) strong) (λ j ne. same_number j))
      (λ u. (ap (λ (h : Head). h.nlink) (step-heads image p k (entry_sector image p k) b1 (Some (i, new_name)) strong.weak name-entry i) ∙ strong.counted i used ∙ sym links_first, named_first))

  slotted : Node
  slotted = record d { slots = set d.slots k (Some (i, new_name)) }

  timed : Node
  timed = record d { slots = set d.slots k (Some (i, new_name)); mtime = now; ctime = now }

  view_first : view first ≡ changed (view image) i (Some n) p slotted
  unfolding first slotted
  view_first = view-slot image p k (entry_sector image p k) b1 (Some (i, new_name)) strong.weak name-entry i (λ j ne. same_number j) (λ e. c.apart (sym e)) d c.at s_i.within
      ∙ (λ z. changed (view image) i (cond (named_first z) (Some (record (node_at image i) { nlink = links_first z })) None) p (record d { slots = set d.slots k (Some (i, new_name)) }))
      ∙ ap (λ (m : Node). changed (view image) i (Some m) p (record d { slots = set d.slots k (Some (i, new_name)) })) s_i.is

  after : after_calls (view image) (asked ∷ []) now ≡ changed (view image) i (Some n) p timed
  unfolding timed
  after = c.after ∙ (λ z. with_node (record (view image) { nodes = sym (insert_again (view image).nodes i n c.at_node) z }) p (record d { slots = set d.slots k (Some (i, new_name)); mtime = now; ctime = now }))

  at_first : get (view first).nodes p ≡ Some slotted
  at_first = ap (λ (f : Files). get f.nodes p) view_first ∙ changed-here (view image) i (Some n) p slotted

  torn_first : Torn (view image) (asked ∷ []) now (view first)
  unfolding slotted timed
  torn_first = torn-two (view image) asked now i (Some n) (Some n) p (record d { slots = set d.slots k (Some (i, new_name)) }) timed (view first) c.no_write c.apart after view_first (same refl)
      (times d (record d { slots = set d.slots k (Some (i, new_name)); mtime = now; ctime = now }) c.at refl refl)

  module _ (b2 : List ℕ) (p2 : PutsInode (set image (entry_sector image p k) b1) p b2 (timed_inode (inode_at (set image (entry_sector image p k) b1) p) now)) where
    second : Image
    second = set first (inode_sector p) b2

    strong_second : IsStrong (frame second)
    unfolding second first
    strong_second = subst IsStrong (sym (frame_after_times first p slotted strong_first.weak at_first b2 now p2)) strong_first

    view_second : view second ≡ changed (view image) i (Some n) p timed
    unfolding second first timed slotted
    view_second = view_after_times first p slotted strong_first.weak at_first b2 now p2 ∙ ap (λ f. with_node f p timed) view_first ∙ changed-again (view image) i (Some n) p slotted timed

    pub name-plan : IsPlanOf image (asked ∷ []) now (naming_puts image p k b1 b2)
    unfolding second first
    name-plan =
        let e = entry-inside image p k (entry_sector image p k) b1 (Some (i, new_name)) strong.weak name-entry in
        let low : 3 ≤ entry_sector image p k = e.0 in
        let l1 : length first ≡ length image = length-set image (entry_sector image p k) b1 in record {
          past = (omega arith, (omega arith, tt));
          inside = (e.1, (subst (λ m. inode_sector p < m) l1 (inode_sector-inside first weak_first p p2.inside).2, tt));
          whole = (p1.long, (p2.long, tt));
          prefixes = (
            record { weak = strong.weak; torn = inl refl },
            (
              record { weak = weak_first; torn = torn_first },
              record { weak = strong_second.weak; torn = inr (inl (view_second ∙ sym after)) },
            ),
          );
          strong = strong_second;
          after = view_second ∙ sym after;
        }

    pub name-sets : (blocks inodes : List Bool) → AreSetsOf image blocks inodes → AreSetsOf (put_all (naming_puts image p k b1 b2) image) blocks inodes
    unfolding second first
    name-sets blocks inodes sets =
        let same_frame : frame second ≡ frame first = frame_after_times first p slotted strong_first.weak at_first b2 now p2 in
        let s = step-sizes image p k (entry_sector image p k) b1 (Some (i, new_name)) strong.weak name-entry in
        sets-stay image second blocks inodes
        (ap (λ (f : Frame). f.isize) same_frame ∙ s.0, ap (λ (f : Frame). f.fsize) same_frame ∙ s.1)
        (λ j q. ap (λ (f : Frame). f.address j q) same_frame ∙ step-addresses image p k (entry_sector image p k) b1 (Some (i, new_name)) strong.weak name-entry j q)
        (λ j. ap (λ (f : Frame). (f.head j).is_used) same_frame ∙ ap (λ (h : Head). h.is_used) (step-heads image p k (entry_sector image p k) b1 (Some (i, new_name)) strong.weak name-entry j))
        (ap (λ (f : Files). f.generations) view_second) sets
