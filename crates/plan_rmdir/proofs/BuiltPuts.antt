-- The strokes of an RMDIR, one after the other, are its plan.
use Rattle.std.proofs.Common.{◌≡◌, ℕ, ◌<◌, ◌≤◌, true, List, [], ◌∷◌, set, sym, ap, subst, ◌∙◌, arith, None}
use Rattle.files_model.specs.declared.attributes.FileId.{FileId}
use Rattle.files_model.specs.declared.credential.Cred.{Cred}
use Rattle.files_model.specs.declared.call.Call.TheVariants as call
use Rattle.files_model.specs.Files.{Node}
use Rattle.stable.specs.Puts.{put_all, with_put}
use Rattle.stable.specs.Store.{Image}
use Rattle.v7_map.specs.Image.{sector_at, is_inode, inode_at, inode_sector}
use Rattle.v7_map.specs.Frame.{frame}
use Rattle.v7_map.specs.View.{view}
use Rattle.v7_map.specs.Weak.{IsStrong}
use Rattle.v7_map.specs.Plan.{PutsInode}
use Rattle.v7_map.specs.Plans.{IsPlanOf}
use Rattle.v7_map.proofs.AnyFrame.{frame-IsFrame}
use Rattle.v7_strokes.specs.Entries.{entry_sector}
use Rattle.v7_strokes.specs.Freed.{IsFreed}
use Rattle.v7_strokes.specs.Inodes.{ended_inode, left_inode}
use Rattle.v7_strokes.specs.Merged.{merged}
use Rattle.v7_strokes.specs.Slots.{PutsSlot}
use Rattle.v7_strokes.proofs.Directories.{stands-dir}
use Rattle.v7_strokes.proofs.Merging.{merged-all, merged-plan, merged-with, length-with_put}
use Rattle.name_plans.proofs.RmdirAccepted.{IsTaking, rmdir-taking}
use Rattle.name_plans.proofs.RmdirPlan.{rmdir-parent_first, rmdir-parent_first_freed, rmdir-own_first, rmdir-own_first_freed}
use Rattle.plan_name.specs.Creating.{CanBePut}
use Rattle.plan_name.proofs.Fitting.{all-with_put}
use Rattle.plan_name.proofs.Past.{still, is_number}
use Rattle.plan_rmdir.specs.Leaving.{Leaves, IsPlannedRmdir, LeavingWithin}
use Rattle.plan_rmdir.specs.declared.puts.Leaving.{Leaving}

-- a slot, and two puts that each take the place of the last one where it is of the same sector
module _ (image : Image) (e : ℕ) (b1 : List ℕ) (x y : ℕ × List ℕ) (im1 im2 : Image) (e1 : im1 ≡ image) (e2 : im2 ≡ im1) (plan1 plan2 plan3 : List (ℕ × List ℕ))
    (l1 : plan1 ≡ (e, b1) ∷ []) (l2 : plan2 ≡ with_put plan1 x) (l3 : plan3 ≡ with_put plan2 y) where
  after_slot : put_all plan1 im1 ≡ set image e b1
  after_slot = (λ z. put_all (l1 z) (e1 z))

  two : plan2 ≡ merged ((e, b1) ∷ x ∷ [])
  two = l2 ∙ ap (λ q. with_put q x) l1 ∙ sym (merged-with ((e, b1) ∷ []) x)

  after_two : put_all plan2 im2 ≡ set (set image e b1) x.0 x.1
  after_two = (λ z. put_all (two z) ((e2 ∙ e1) z)) ∙ merged-all ((e, b1) ∷ x ∷ []) image

  three : plan3 ≡ merged ((e, b1) ∷ x ∷ y ∷ [])
  three = l3 ∙ ap (λ q. with_put q y) two ∙ sym (merged-with ((e, b1) ∷ x ∷ []) y)

module _ (image : Image) (dir : FileId) (name : List ℕ) (cred : Cred) (now : ℕ) (d n : Node) (t : Leaving) (strong : IsStrong (frame image)) (x : Leaves image dir name cred d n t) where
  taking : IsTaking (view image) (call.Rmdir dir name, cred) now dir.ino name d t.index t.directory n
  taking = rmdir-taking image dir name cred now d t.index t.directory n strong x.rmdir

  at_dir : is_inode image dir.ino ≡ true
  at_dir =
      let s = stands-dir image dir.ino d strong.weak taking.at taking.kind in
      let r = (frame-IsFrame image).numbers dir.ino ((frame-IsFrame image).directories dir.ino s.dir) in is_number image dir.ino r.0 r.1

  pub leaving-number : is_inode image t.directory ≡ true
  leaving-number =
      let s = stands-dir image t.directory n strong.weak taking.at_node taking.node_kind in
      let r = (frame-IsFrame image).numbers t.directory ((frame-IsFrame image).directories t.directory s.dir) in is_number image t.directory r.0 r.1

  -- a plan of these puts, merged
  planned : (puts : List (ℕ × List ℕ)) → IsPlanOf image ((call.Rmdir dir name, cred) ∷ []) now puts → IsFreed true t.directory (frame image) (frame (put_all puts image)) → IsPlannedRmdir image dir name cred now t (merged puts)
  planned puts plan freed = record {
    plan = merged-plan image ((call.Rmdir dir name, cred) ∷ []) now puts plan;
    freed = subst (λ z. IsFreed true t.directory (frame image) (frame z)) (sym (merged-all puts image)) freed;
  }

  module _ (b1 b2 b3 : List ℕ) (im1 im2 : Image) (e1 : im1 ≡ image) (e2 : im2 ≡ im1) (plan1 plan2 plan3 : List (ℕ × List ℕ)) (past : 2 ≤ t.sector) (l1 : plan1 ≡ (t.sector, b1) ∷ [])
      (slot : PutsSlot (sector_at image t.sector) t.index b1 None) where
    slot' : PutsSlot (sector_at image (entry_sector image dir.ino t.index)) t.index b1 None
    slot' = subst (λ a. PutsSlot (sector_at image a) t.index b1 None) x.sector slot

    past' : 2 ≤ entry_sector image dir.ino t.index
    past' = subst (λ a. 2 ≤ a) x.sector past

    l1' : plan1 ≡ (entry_sector image dir.ino t.index, b1) ∷ []
    l1' = l1 ∙ ap (λ a. (a, b1) ∷ []) x.sector

    module _ (l2 : plan2 ≡ with_put plan1 (inode_sector t.parent, b2)) (left : is_inode (put_all plan1 im1) t.parent ≡ true → PutsInode (put_all plan1 im1) t.parent b2 (left_inode (inode_at (put_all plan1 im1) t.parent) now))
        (l3 : plan3 ≡ with_put plan2 (inode_sector t.directory, b3)) (own : is_inode (put_all plan2 im2) t.directory ≡ true → PutsInode (put_all plan2 im2) t.directory b3 (ended_inode (inode_at (put_all plan2 im2) t.directory).generation)) where
      l2' : plan2 ≡ with_put plan1 (inode_sector dir.ino, b2)
      l2' = l2 ∙ ap (λ q. with_put plan1 (inode_sector q, b2)) x.parent

      left' : PutsInode (set image (entry_sector image dir.ino t.index) b1) dir.ino b2 (left_inode (inode_at (set image (entry_sector image dir.ino t.index) b1) dir.ino) now)
      left' = subst (λ q. is_inode q dir.ino ≡ true → PutsInode q dir.ino b2 (left_inode (inode_at q dir.ino) now))
          (after_slot image (entry_sector image dir.ino t.index) b1 (inode_sector dir.ino, b2) (inode_sector t.directory, b3) im1 im2 e1 e2 plan1 plan2 plan3 l1' l2' l3)
          (subst (λ j. is_inode (put_all plan1 im1) j ≡ true → PutsInode (put_all plan1 im1) j b2 (left_inode (inode_at (put_all plan1 im1) j) now)) x.parent left)
          (still image ((entry_sector image dir.ino t.index, b1) ∷ []) dir.ino (past', tt) at_dir)

      own' : PutsInode (set (set image (entry_sector image dir.ino t.index) b1) (inode_sector dir.ino) b2) t.directory b3 (ended_inode (inode_at (set (set image (entry_sector image dir.ino t.index) b1) (inode_sector dir.ino) b2) t.directory).generation)
      own' = subst (λ q. is_inode q t.directory ≡ true → PutsInode q t.directory b3 (ended_inode (inode_at q t.directory).generation))
          (after_two image (entry_sector image dir.ino t.index) b1 (inode_sector dir.ino, b2) (inode_sector t.directory, b3) im1 im2 e1 e2 plan1 plan2 plan3 l1' l2' l3) own
          (still image ((entry_sector image dir.ino t.index, b1) ∷ (inode_sector dir.ino, b2) ∷ []) t.directory (past', (omega arith, tt)) leaving-number)

      pub built-parent_first : IsPlannedRmdir image dir name cred now t plan3
      built-parent_first = subst (IsPlannedRmdir image dir name cred now t)
          (sym (three image (entry_sector image dir.ino t.index) b1 (inode_sector dir.ino, b2) (inode_sector t.directory, b3) im1 im2 e1 e2 plan1 plan2 plan3 l1' l2' l3))
          (planned ((entry_sector image dir.ino t.index, b1) ∷ (inode_sector dir.ino, b2) ∷ (inode_sector t.directory, b3) ∷ [])
          (rmdir-parent_first image (call.Rmdir dir name, cred) now dir.ino name d t.index t.directory n strong taking b1 slot' b2 b3 left' own')
          (rmdir-parent_first_freed image (call.Rmdir dir name, cred) now dir.ino name d t.index t.directory n strong taking b1 slot' b2 b3 left' own'))

    module _ (l2 : plan2 ≡ with_put plan1 (inode_sector t.directory, b2)) (own : is_inode (put_all plan1 im1) t.directory ≡ true → PutsInode (put_all plan1 im1) t.directory b2 (ended_inode (inode_at (put_all plan1 im1) t.directory).generation))
        (l3 : plan3 ≡ with_put plan2 (inode_sector t.parent, b3)) (left : is_inode (put_all plan2 im2) t.parent ≡ true → PutsInode (put_all plan2 im2) t.parent b3 (left_inode (inode_at (put_all plan2 im2) t.parent) now)) where
      l3n : plan3 ≡ with_put plan2 (inode_sector dir.ino, b3)
      l3n = l3 ∙ ap (λ q. with_put plan2 (inode_sector q, b3)) x.parent

      own_n : PutsInode (set image (entry_sector image dir.ino t.index) b1) t.directory b2 (ended_inode (inode_at (set image (entry_sector image dir.ino t.index) b1) t.directory).generation)
      own_n = subst (λ q. is_inode q t.directory ≡ true → PutsInode q t.directory b2 (ended_inode (inode_at q t.directory).generation))
          (after_slot image (entry_sector image dir.ino t.index) b1 (inode_sector t.directory, b2) (inode_sector dir.ino, b3) im1 im2 e1 e2 plan1 plan2 plan3 l1' l2 l3n) own
          (still image ((entry_sector image dir.ino t.index, b1) ∷ []) t.directory (past', tt) leaving-number)

      left_n : PutsInode (set (set image (entry_sector image dir.ino t.index) b1) (inode_sector t.directory) b2) dir.ino b3 (left_inode (inode_at (set (set image (entry_sector image dir.ino t.index) b1) (inode_sector t.directory) b2) dir.ino) now)
      left_n = subst (λ q. is_inode q dir.ino ≡ true → PutsInode q dir.ino b3 (left_inode (inode_at q dir.ino) now))
          (after_two image (entry_sector image dir.ino t.index) b1 (inode_sector t.directory, b2) (inode_sector dir.ino, b3) im1 im2 e1 e2 plan1 plan2 plan3 l1' l2 l3n)
          (subst (λ j. is_inode (put_all plan2 im2) j ≡ true → PutsInode (put_all plan2 im2) j b3 (left_inode (inode_at (put_all plan2 im2) j) now)) x.parent left)
          (still image ((entry_sector image dir.ino t.index, b1) ∷ (inode_sector t.directory, b2) ∷ []) dir.ino (past', (omega arith, tt)) at_dir)

      pub built-own_first : IsPlannedRmdir image dir name cred now t plan3
      built-own_first = subst (IsPlannedRmdir image dir name cred now t)
          (sym (three image (entry_sector image dir.ino t.index) b1 (inode_sector t.directory, b2) (inode_sector dir.ino, b3) im1 im2 e1 e2 plan1 plan2 plan3 l1' l2 l3n))
          (planned ((entry_sector image dir.ino t.index, b1) ∷ (inode_sector t.directory, b2) ∷ (inode_sector dir.ino, b3) ∷ [])
          (rmdir-own_first image (call.Rmdir dir name, cred) now dir.ino name d t.index t.directory n strong taking b1 slot' b2 b3 own_n left_n)
          (rmdir-own_first_freed image (call.Rmdir dir name, cred) now dir.ino name d t.index t.directory n strong taking b1 slot' b2 b3 own_n left_n))

-- the puts can be put
pub fits-leaving : (sectors : ℕ) (t : Leaving) → LeavingWithin sectors t → (b1 : List ℕ) (x y : ℕ × List ℕ) → 2 ≤ x.0 → x.0 < sectors → 2 ≤ y.0 → y.0 < sectors → CanBePut sectors 3 (with_put (with_put ((t.sector, b1) ∷ []) x) y)
fits-leaving sectors t within b1 x y px sx py sy =
    let one = length-with_put ((t.sector, b1) ∷ []) x in let two' = length-with_put (with_put ((t.sector, b1) ∷ []) x) y in record {
      few = omega arith;
      stand = all-with_put (λ (p : ℕ × List ℕ). p.0 < sectors) (with_put ((t.sector, b1) ∷ []) x) y (all-with_put (λ (p : ℕ × List ℕ). p.0 < sectors) ((t.sector, b1) ∷ []) x (within.slot, tt) sx) sy;
      past = all-with_put (λ (p : ℕ × List ℕ). 2 ≤ p.0) (with_put ((t.sector, b1) ∷ []) x) y (all-with_put (λ (p : ℕ × List ℕ). 2 ≤ p.0) ((t.sector, b1) ∷ []) x (within.past, tt) px) py;
    }
