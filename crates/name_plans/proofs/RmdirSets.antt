-- What is free after an RMDIR: the blocks of the directory, and its i-number.
use Rattle.std.proofs.Common.{◌≡◌, ℕ, ◌+◌, ◌-◌, ◌<◌, ◌≤◌, Bool, true, false, List, [], ◌∷◌, length, set, refl, sym, ap, ◌∙◌, arith, ltb, nat_lt, Some, None, unwrap_or, length-set}
use Rattle.std.specs.FinMap.{get}
use Rattle.files_model.specs.declared.attributes.FileId.{FileId}
use Rattle.files_model.specs.declared.credential.Cred.{Cred}
use Rattle.files_model.specs.declared.call.Call.TheVariants as call
use Rattle.files_model.specs.Files.{Node, Files}
use Rattle.stable.specs.Puts.{put_all}
use Rattle.stable.specs.Store.{Image}
use Rattle.v7_map.specs.Image.{inodes_before}
use Rattle.v7_map.specs.Frame.{frame}
use Rattle.v7_map.specs.View.{view}
use Rattle.v7_map.specs.Weak.{IsStrong}
use Rattle.v7_map.specs.Plans.{IsPlanOf}
use Rattle.v7_map.proofs.Nodes.{view-node}
use Rattle.v7_sets.specs.Given.{given}
use Rattle.v7_sets.specs.Sets.{IsFreeNumber, AreSetsOf}
use Rattle.v7_sets.proofs.Given.{length-given}
use Rattle.v7_strokes.specs.Changes.{changed}
use Rattle.v7_strokes.specs.Freed.{IsFreed}
use Rattle.v7_strokes.specs.FreeSets.{HoldsBlocks, HoldsNumbers}
use Rattle.v7_strokes.proofs.SetsAfter.{sets-of, halves-of}
use Rattle.name_plans.specs.Removed.{AreFreed, number_given}
use Rattle.name_plans.specs.RemovingDirectory.{IsRmdir}
use Rattle.name_plans.proofs.RemovingSets.{keeps-changed, blocks-after, number-comes, number-stays}
use Rattle.name_plans.proofs.RmdirAccepted.{IsTaking, rmdir-taking}
use Rattle.name_plans.proofs.RmdirPlan.{rmdir-low}

clash : {b : Bool} → b ≡ true → b ≡ false → ⊥
clash {b = b} x y = cc

below_of : (a b : ℕ) → ltb a b ≡ true → a < b
below_of a b e = grind arith

above_of : (a b : ℕ) → ltb a b ≡ false → a < b → ⊥
above_of a b e lt = grind arith

module _ (image : Image) (dir : FileId) (name : List ℕ) (cred : Cred) (now : ℕ) (d : Node) (k i : ℕ) (n : Node) (puts : List (ℕ × List ℕ)) (strong : IsStrong (frame image)) (c : IsRmdir (view image) dir name cred d k i n)
    (plan : IsPlanOf image ((call.Rmdir dir name, cred) ∷ []) now puts) (moved : IsFreed true i (frame image) (frame (put_all puts image))) (freed : List ℕ) (are : AreFreed true (frame image) i freed)
    (blocks inodes : List Bool) (sets : AreSetsOf image blocks inodes) where
  x : IsTaking (view image) (call.Rmdir dir name, cred) now dir.ino name d k i n
  x = rmdir-taking image dir name cred now d k i n strong c

  last : Image
  last = put_all puts image

  left : Node
  left = record d { nlink = d.nlink - 1; slots = set d.slots k None; mtime = now; ctime = now }

  files : view last ≡ changed (view image) i None dir.ino left
  unfolding last left
  files = plan.after ∙ x.after

  halves : HoldsBlocks (frame image) blocks × HoldsNumbers (frame image) (view image).generations inodes
  halves = halves-of (frame image) (view image).generations blocks inodes sets

  inside : i ≤ inodes_before (frame image).isize
  unfolding frame
  inside = let within = (view-node image i n c.node).within in omega arith

  strong_last : IsStrong (frame last)
  unfolding last
  strong_last = plan.strong

  isize : (frame last).isize ≡ (frame image).isize
  unfolding last
  isize = moved.isize

  numbers : (fresh : Bool) → nat_lt (unwrap_or (get (view image).generations i) 0) 4294967295 ≡ fresh → HoldsNumbers (frame last) (view last).generations (number_given fresh i inodes)
  numbers true f = number-comes image last i None n true strong strong_last isize (keeps-changed (view image) (view last) i dir.ino None left d files x.apart x.at) x.at_node (rmdir-low image (call.Rmdir dir name, cred) now dir.ino name d k i n strong x) inside (λ _. refl) (λ e. absurd (clash refl e)) inodes sets.inodes_room
      halves.1 refl (below_of (unwrap_or (get (view image).generations i) 0) 4294967295 f)
  numbers false f = number-stays image last i None n true strong strong_last isize (keeps-changed (view image) (view last) i dir.ino None left d files x.apart x.at) x.at_node (rmdir-low image (call.Rmdir dir name, cred) now dir.ino name d k i n strong x) inside (λ _. refl) (λ e. absurd (clash refl e)) inodes sets.inodes_room
      halves.1 (λ is. used_up is f)
    where
      used_up : IsFreeNumber (frame last) (view last).generations i → nat_lt (unwrap_or (get (view image).generations i) 0) 4294967295 ≡ false → ⊥
      used_up is f = elim (get (view image).generations i) as (λ o. get (view image).generations i ≡ o → nat_lt (unwrap_or o 0) 4294967295 ≡ false → ⊥) [
        | None ↦ λ e f. cc
        | Some g ↦ λ e f. let lt : g < 4294967295 = is.fresh g (ap (λ (f : Files). get f.generations i) files ∙ e) in above_of g 4294967295 f lt
      ] refl f

  long : (b : Bool) → length (number_given b i inodes) ≡ length inodes
  long true = length-set inodes i true
  long false = refl

  pub rmdir-sets : AreSetsOf (put_all puts image) (given freed blocks) (number_given (nat_lt (unwrap_or (get (view image).generations i) 0) 4294967295) i inodes)
  unfolding last
  rmdir-sets = sets-of (frame last) (view last).generations (given freed blocks) (number_given (nat_lt (unwrap_or (get (view image).generations i) 0) 4294967295) i inodes)
      (length-given freed blocks ∙ sets.blocks_room ∙ sym moved.fsize)
      (long (nat_lt (unwrap_or (get (view image).generations i) 0) 4294967295) ∙ sets.inodes_room ∙ ap (λ q. inodes_before q + 1) (sym moved.isize))
      (blocks-after true (frame image) (frame last) i freed blocks strong.weak sets.blocks_room moved are halves.0)
      (numbers (nat_lt (unwrap_or (get (view image).generations i) 0) 4294967295) refl)
