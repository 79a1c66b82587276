-- The strokes of a removal, one after the other, are its plan.
use Rattle.std.proofs.Common.{◌≡◌, ℕ, ◌<◌, ◌≤◌, true, if◌then◌else◌, List, [], ◌∷◌, refl, set, sym, ap, subst, ◌∙◌, arith, None}
use Rattle.v7_layout.specs.declared.inode.Inode.{Inode}
use Rattle.files_model.specs.declared.attributes.FileId.{FileId}
use Rattle.files_model.specs.declared.credential.Cred.{Cred}
use Rattle.files_model.specs.declared.call.Call.TheVariants as call
use Rattle.files_model.specs.Files.{Node}
use Rattle.stable.specs.Puts.{put_all, with_put}
use Rattle.stable.specs.Store.{Image}
use Rattle.v7_map.specs.Image.{sector_at, is_inode, inode_at, inode_sector}
use Rattle.v7_map.specs.Frame.{frame}
use Rattle.v7_map.specs.View.{view}
use Rattle.v7_map.specs.Weak.{IsStrong}
use Rattle.v7_map.specs.Plan.{PutsInode}
use Rattle.v7_map.proofs.AnyFrame.{frame-IsFrame}
use Rattle.v7_sets.specs.Given.{given}
use Rattle.v7_sets.specs.Sets.{AreSetsOf}
use Rattle.v7_strokes.specs.Entries.{entry_sector}
use Rattle.v7_strokes.specs.Inodes.{timed_inode, loser_inode, ended_inode, unlinked_inode}
use Rattle.v7_strokes.specs.Merged.{merged}
use Rattle.v7_strokes.specs.Slots.{PutsSlot}
use Rattle.v7_strokes.proofs.Merging.{merged-all, merged-plan, merged-with, length-with_put}
use Rattle.name_plans.specs.Removed.{frees_number, number_given}
use Rattle.name_plans.specs.Removing.{TakesName, removing_puts}
use Rattle.name_plans.proofs.RemovingAccepted.{removal-dir, removal-slot}
use Rattle.name_plans.proofs.RemovingPlan.{removal-plan, removal-past_list}
use Rattle.name_plans.proofs.RemovingSets.{removal-sets}
use Rattle.plan_name.specs.Creating.{CanBePut}
use Rattle.plan_name.specs.Removals.{Takes, IsPlannedRemoval, TakenWithin}
use Rattle.plan_name.proofs.Fitting.{all-with_put}
use Rattle.plan_name.specs.declared.removing_puts.Taking.{Taking}
use Rattle.plan_name.proofs.Past.{still, is_number}

-- a slot, and two puts that each take the place of the last one where it is of the same sector
module _ (image : Image) (e : ℕ) (b1 : List ℕ) (x y : ℕ × List ℕ) (im1 im2 : Image) (e1 : im1 ≡ image) (e2 : im2 ≡ im1) (plan1 plan2 plan3 : List (ℕ × List ℕ))
    (l1 : plan1 ≡ (e, b1) ∷ []) (l2 : plan2 ≡ with_put plan1 x) (l3 : plan3 ≡ with_put plan2 y) where
  after_slot : put_all plan1 im1 ≡ set image e b1
  after_slot = (λ z. put_all (l1 z) (e1 z))

  two : plan2 ≡ merged ((e, b1) ∷ x ∷ [])
  two = l2 ∙ ap (λ q. with_put q x) l1 ∙ sym (merged-with ((e, b1) ∷ []) x)

  after_two : put_all plan2 im2 ≡ set (set image e b1) x.0 x.1
  after_two = (λ z. put_all (two z) ((e2 ∙ e1) z)) ∙ merged-all ((e, b1) ∷ x ∷ []) image

  three : plan3 ≡ merged ((e, b1) ∷ x ∷ y ∷ [])
  three = l3 ∙ ap (λ q. with_put q y) two ∙ sym (merged-with ((e, b1) ∷ x ∷ []) y)

module _ (image : Image) (dir : FileId) (name : List ℕ) (cred : Cred) (now : ℕ) (d n : Node) (t : Taking) (strong : IsStrong (frame image)) (x : Takes image dir name cred d n t) where
  at_dir : is_inode image dir.ino ≡ true
  at_dir = let r = (frame-IsFrame image).numbers dir.ino ((frame-IsFrame image).directories dir.ino (removal-dir image dir name cred now d t.index t.node n strong x.removal).dir) in is_number image dir.ino r.0 r.1

  pub removed-number : is_inode image t.node ≡ true
  removed-number = let r = (frame-IsFrame image).numbers t.node (strong.weak.names.used dir.ino t.index t.node name (removal-dir image dir name cred now d t.index t.node n strong x.removal).walked (removal-slot image dir name cred now d t.index t.node n strong x.removal)).0 in is_number image t.node r.0 r.1

  -- a plan of these puts, merged
  planned : (before after : List ℕ) (b1 : List ℕ) (bs cs : List (List ℕ)) (b : List ℕ) → TakesName image now dir.ino t.index t.node n before after b1 bs cs b
      → IsPlannedRemoval image dir name cred now n t (merged (removing_puts image dir.ino t.index t.node before after b1 bs cs b))
  planned before after b1 bs cs b takes = record {
    plan = merged-plan image ((call.Remove dir name, cred) ∷ []) now (removing_puts image dir.ino t.index t.node before after b1 bs cs b)
        (removal-plan image dir name cred now d t.index t.node n strong x.removal before after b1 bs cs b takes);
    sets = λ freed are blocks inodes sets. subst (λ z. AreSetsOf z (given freed blocks) (number_given (frees_number (view image) t.node n) t.node inodes))
        (sym (merged-all (removing_puts image dir.ino t.index t.node before after b1 bs cs b) image))
        (removal-sets image dir name cred now d t.index t.node n before after b1 bs cs b strong x.removal takes freed are blocks inodes sets);
  }

  module _ (b1 b2 b3 : List ℕ) (im1 im2 : Image) (e1 : im1 ≡ image) (e2 : im2 ≡ im1) (plan1 plan2 plan3 : List (ℕ × List ℕ)) (l1 : plan1 ≡ (t.sector, b1) ∷ [])
      (slot : PutsSlot (sector_at image t.sector) t.index b1 None) where
    slot' : PutsSlot (sector_at image (entry_sector image dir.ino t.index)) t.index b1 None
    slot' = subst (λ a. PutsSlot (sector_at image a) t.index b1 None) x.sector slot

    past : 2 ≤ entry_sector image dir.ino t.index
    past = removal-past_list image dir name cred now d t.index t.node n strong x.removal b1 slot'

    l1' : plan1 ≡ (entry_sector image dir.ino t.index, b1) ∷ []
    l1' = l1 ∙ ap (λ a. (a, b1) ∷ []) x.sector

    abbrev loser : Image → Inode
    loser at = if t.last then ended_inode (inode_at at t.node).generation else unlinked_inode (inode_at at t.node) now

    lost : (at : Image) (b : List ℕ) → PutsInode at t.node b (loser at) → PutsInode at t.node b (loser_inode n (inode_at at t.node) now)
    lost at b h = subst (λ l. PutsInode at t.node b (if l then ended_inode (inode_at at t.node).generation else unlinked_inode (inode_at at t.node) now)) x.last h

    module _ (l2 : plan2 ≡ with_put plan1 (inode_sector t.directory, b2)) (times : is_inode (put_all plan1 im1) t.directory ≡ true → PutsInode (put_all plan1 im1) t.directory b2 (timed_inode (inode_at (put_all plan1 im1) t.directory) now))
        (l3 : plan3 ≡ with_put plan2 (inode_sector t.node, b3)) (node : is_inode (put_all plan2 im2) t.node ≡ true → PutsInode (put_all plan2 im2) t.node b3 (loser (put_all plan2 im2))) where
      l2' : plan2 ≡ with_put plan1 (inode_sector dir.ino, b2)
      l2' = l2 ∙ ap (λ q. with_put plan1 (inode_sector q, b2)) x.directory

      first : Image
      first = set image (entry_sector image dir.ino t.index) b1

      times' : PutsInode (set image (entry_sector image dir.ino t.index) b1) dir.ino b2 (timed_inode (inode_at (set image (entry_sector image dir.ino t.index) b1) dir.ino) now)
      times' = subst (λ q. is_inode q dir.ino ≡ true → PutsInode q dir.ino b2 (timed_inode (inode_at q dir.ino) now))
          (after_slot image (entry_sector image dir.ino t.index) b1 (inode_sector dir.ino, b2) (inode_sector t.node, b3) im1 im2 e1 e2 plan1 plan2 plan3 l1' l2' l3)
          (subst (λ j. is_inode (put_all plan1 im1) j ≡ true → PutsInode (put_all plan1 im1) j b2 (timed_inode (inode_at (put_all plan1 im1) j) now)) x.directory times)
          (still image ((entry_sector image dir.ino t.index, b1) ∷ []) dir.ino (past, tt) at_dir)

      node' : PutsInode (set (set image (entry_sector image dir.ino t.index) b1) (inode_sector dir.ino) b2) t.node b3 (loser_inode n (inode_at (set (set image (entry_sector image dir.ino t.index) b1) (inode_sector dir.ino) b2) t.node) now)
      node' = lost (set (set image (entry_sector image dir.ino t.index) b1) (inode_sector dir.ino) b2) b3
          (subst (λ q. is_inode q t.node ≡ true → PutsInode q t.node b3 (loser q))
          (after_two image (entry_sector image dir.ino t.index) b1 (inode_sector dir.ino, b2) (inode_sector t.node, b3) im1 im2 e1 e2 plan1 plan2 plan3 l1' l2' l3) node
          (still image ((entry_sector image dir.ino t.index, b1) ∷ (inode_sector dir.ino, b2) ∷ []) t.node (past, (omega arith, tt)) removed-number))

      pub built-directory_first : IsPlannedRemoval image dir name cred now n t plan3
      built-directory_first = subst (IsPlannedRemoval image dir name cred now n t)
          (sym (three image (entry_sector image dir.ino t.index) b1 (inode_sector dir.ino, b2) (inode_sector t.node, b3) im1 im2 e1 e2 plan1 plan2 plan3 l1' l2' l3))
          (planned (dir.ino ∷ []) [] b1 (b2 ∷ []) [] b3 (record { entry = slot'; one = refl; first = (times', tt); node = node'; last = tt }))

    module _ (l2 : plan2 ≡ with_put plan1 (inode_sector t.node, b2)) (node : is_inode (put_all plan1 im1) t.node ≡ true → PutsInode (put_all plan1 im1) t.node b2 (loser (put_all plan1 im1)))
        (l3 : plan3 ≡ with_put plan2 (inode_sector t.directory, b3)) (times : is_inode (put_all plan2 im2) t.directory ≡ true → PutsInode (put_all plan2 im2) t.directory b3 (timed_inode (inode_at (put_all plan2 im2) t.directory) now)) where
      l3n : plan3 ≡ with_put plan2 (inode_sector dir.ino, b3)
      l3n = l3 ∙ ap (λ q. with_put plan2 (inode_sector q, b3)) x.directory

      node_n : PutsInode (set image (entry_sector image dir.ino t.index) b1) t.node b2 (loser_inode n (inode_at (set image (entry_sector image dir.ino t.index) b1) t.node) now)
      node_n = lost (set image (entry_sector image dir.ino t.index) b1) b2
          (subst (λ q. is_inode q t.node ≡ true → PutsInode q t.node b2 (loser q))
          (after_slot image (entry_sector image dir.ino t.index) b1 (inode_sector t.node, b2) (inode_sector dir.ino, b3) im1 im2 e1 e2 plan1 plan2 plan3 l1' l2 l3n) node
          (still image ((entry_sector image dir.ino t.index, b1) ∷ []) t.node (past, tt) removed-number))

      times_n : PutsInode (set (set image (entry_sector image dir.ino t.index) b1) (inode_sector t.node) b2) dir.ino b3 (timed_inode (inode_at (set (set image (entry_sector image dir.ino t.index) b1) (inode_sector t.node) b2) dir.ino) now)
      times_n = subst (λ q. is_inode q dir.ino ≡ true → PutsInode q dir.ino b3 (timed_inode (inode_at q dir.ino) now))
          (after_two image (entry_sector image dir.ino t.index) b1 (inode_sector t.node, b2) (inode_sector dir.ino, b3) im1 im2 e1 e2 plan1 plan2 plan3 l1' l2 l3n)
          (subst (λ j. is_inode (put_all plan2 im2) j ≡ true → PutsInode (put_all plan2 im2) j b3 (timed_inode (inode_at (put_all plan2 im2) j) now)) x.directory times)
          (still image ((entry_sector image dir.ino t.index, b1) ∷ (inode_sector t.node, b2) ∷ []) dir.ino (past, (omega arith, tt)) at_dir)

      pub built-node_first : IsPlannedRemoval image dir name cred now n t plan3
      built-node_first = subst (IsPlannedRemoval image dir name cred now n t)
          (sym (three image (entry_sector image dir.ino t.index) b1 (inode_sector t.node, b2) (inode_sector dir.ino, b3) im1 im2 e1 e2 plan1 plan2 plan3 l1' l2 l3n))
          (planned [] (dir.ino ∷ []) b1 [] (b3 ∷ []) b2 (record { entry = slot'; one = refl; first = tt; node = node_n; last = (times_n, tt) }))

-- the puts can be put
pub fits-removal : (sectors : ℕ) (t : Taking) → TakenWithin sectors t → (b1 : List ℕ) (x y : ℕ × List ℕ) → 2 ≤ x.0 → x.0 < sectors → 2 ≤ y.0 → y.0 < sectors → CanBePut sectors 3 (with_put (with_put ((t.sector, b1) ∷ []) x) y)
fits-removal sectors t within b1 x y px sx py sy =
    let one = length-with_put ((t.sector, b1) ∷ []) x in let two = length-with_put (with_put ((t.sector, b1) ∷ []) x) y in record {
      few = omega arith;
      stand = all-with_put (λ (p : ℕ × List ℕ). p.0 < sectors) (with_put ((t.sector, b1) ∷ []) x) y (all-with_put (λ (p : ℕ × List ℕ). p.0 < sectors) ((t.sector, b1) ∷ []) x (within.slot, tt) sx) sy;
      past = all-with_put (λ (p : ℕ × List ℕ). 2 ≤ p.0) (with_put ((t.sector, b1) ∷ []) x) y (all-with_put (λ (p : ℕ × List ℕ). 2 ≤ p.0) ((t.sector, b1) ∷ []) x (within.past, tt) px) py;
    }
