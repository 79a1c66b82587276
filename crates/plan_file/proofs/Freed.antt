-- What is free once a plan is put that changes one file alone.
use Rattle.std.proofs.Common.{◌≡◌, ◌≢◌, ℕ, ◌+◌, ◌≤◌, Bool, true, false, cond, ◌&&◌, ◌==◌, not, List, length, refl, sym, ap, subst, ◌∙◌, arith, ⊎_elim, leb, Some, None, is_some}
use Rattle.std.proofs.lemmas.Bool.{cases_eq, le-leb}
use Rattle.std.specs.FinMap.{get}
use Rattle.v7_layout.specs.Numbers.{field}
use Rattle.files_model.specs.declared.attributes.FileId.{FileId}
use Rattle.files_model.specs.Files.{Node, Files, live}
use Rattle.files_model.specs.Step.{with_node}
use Rattle.files_model.specs.Torn.{Asked, after_calls}
use Rattle.files_model.proofs.Batches.{live-node}
use Rattle.files_model.proofs.Maps.{get-insert_same, get-insert_other}
use Rattle.stable.specs.Puts.{put_all}
use Rattle.stable.specs.Store.{Image}
use Rattle.v7_map.specs.Frame.{frame}
use Rattle.v7_map.specs.Image.{sector_at, inode_at, is_inode, isize_of, fsize_of, inodes_before}
use Rattle.v7_map.specs.Plans.{IsPlanOf}
use Rattle.v7_map.specs.View.{view, node_at}
use Rattle.v7_map.specs.Weak.{IsStrong}
use Rattle.v7_map.proofs.Puts.{put_all-below}
use Rattle.v7_map.proofs.Standing.{node-is}
use Rattle.v7_map.proofs.Walks.{and_both}
use Rattle.v7_sets.specs.Sets.{IsFreeNumber, AreSetsOf}
use Rattle.plan_file.specs.Free.{AreFree, AreSpare}

pub free-of : (image : Image) (blocks inodes : List Bool) → AreSetsOf image blocks inodes → AreFree (frame image) blocks
free-of image blocks inodes are = record { free = are.free; each = are.all_free }

-- the free blocks of an image are ones that a store of its size can have
pub spare-of : (image : Image) (sectors : ℕ) (blocks inodes : List Bool) → IsStrong (frame image) → length image ≡ sectors → AreSetsOf image blocks inodes → AreSpare sectors blocks
unfolding frame
spare-of image sectors blocks inodes strong long are a h =
    let free = are.free a h in
    let low = free.low in let high = free.high in
    let three = strong.weak.sizes.low in let within = strong.weak.sizes.within in let huge = strong.weak.sizes.not_huge in (omega arith, omega arith)

-- an inode is used where there is a node
used-node : (image : Image) → IsStrong (frame image) → (i : ℕ) → is_inode image i ≡ true → ((frame image).head i).is_used ≡ is_some (get (view image).nodes i)
unfolding frame
used-node image strong i is = by_used (not ((inode_at image i).mode == 0)) ∙ sym (ap is_some (node-is image strong i is))
  where
    by_used : (t : Bool) → t ≡ is_some (cond t (Some (node_at image i)) None)
    by_used true = refl
    by_used false = refl

module _ (image : Image) (strong : IsStrong (frame image)) (file : FileId) (old : Node) (is : live (view image) file ≡ Some old) (calls : List Asked) (now : ℕ) (new : Node)
    (changed : after_calls (view image) calls now ≡ with_node (view image) file.ino new) (puts : List (ℕ × List ℕ)) (plan : IsPlanOf image calls now puts) where
  abbrev next : Image
  next = put_all puts image

  first : sector_at next 1 ≡ sector_at image 1
  first = put_all-below puts image 2 1 plan.past (omega arith)

  same_isize : isize_of next ≡ isize_of image
  same_isize = ap (λ b. field b 0 2) first

  same_fsize : fsize_of next ≡ fsize_of image
  same_fsize = ap (λ b. field b 2 4) first

  files_are : view next ≡ with_node (view image) file.ino new
  files_are = plan.after ∙ changed

  same_generations : (view next).generations ≡ (view image).generations
  same_generations = ap (λ (f : Files). f.generations) files_are

  same_node : (i : ℕ) → is_some (get (view next).nodes i) ≡ is_some (get (view image).nodes i)
  same_node i = ap (λ (f : Files). is_some (get f.nodes i)) files_are ∙ ⊎_elim
      (λ (e : i ≡ file.ino).
      ap (λ q. is_some (get (with_node (view image) file.ino new).nodes q)) e
      ∙ ap is_some (get-insert_same (view image).nodes file.ino new)
      ∙ sym (ap (λ q. is_some (get (view image).nodes q)) e ∙ ap is_some (live-node (view image) file old is)))
      (λ (ne : i ≢ file.ino). ap is_some (get-insert_other (view image).nodes file.ino new i ne))
      (cases_eq i file.ino)

  same_used : (i : ℕ) → 3 ≤ i → i ≤ inodes_before (isize_of image) → ((frame next).head i).is_used ≡ ((frame image).head i).is_used
  same_used i low high =
      let there : is_inode image i ≡ true = and_both (leb 1 i) _ (le-leb 1 i (omega arith)) (le-leb i (inodes_before (isize_of image)) high) in
      let still : is_inode next i ≡ true = ap (λ n. leb 1 i && leb i (inodes_before n)) same_isize ∙ there in
      used-node next plan.strong i still ∙ same_node i ∙ sym (used-node image strong i there)

  -- the free i-numbers stay
  number-stays : (i : ℕ) → IsFreeNumber (frame image) (view image).generations i → IsFreeNumber (frame next) (view next).generations i
  unfolding frame
  number-stays i free = record {
    past = free.past;
    within = let w = free.within in subst (λ n. i ≤ inodes_before n) (sym same_isize) w;
    unused = same_used i free.past free.within ∙ free.unused;
    fresh = λ g e. free.fresh g (ap (λ m. get m i) (sym same_generations) ∙ e);
  }

  number-was : (i : ℕ) → IsFreeNumber (frame next) (view next).generations i → IsFreeNumber (frame image) (view image).generations i
  unfolding frame
  number-was i free =
      let within : i ≤ inodes_before (isize_of image) = subst (λ n. i ≤ inodes_before n) same_isize free.within in record {
        past = free.past;
        within = within;
        unused = sym (same_used i free.past within) ∙ free.unused;
        fresh = λ g e. free.fresh g (ap (λ m. get m i) same_generations ∙ e);
      }

  -- so the sets are those of the image, once they have lost the new blocks
  pub sets-after : (blocks inodes left : List Bool) → AreSetsOf image blocks inodes → AreFree (frame next) left → length left ≡ length blocks → AreSetsOf next left inodes
  unfolding frame
  sets-after blocks inodes left are lost long = record {
    blocks_room = long ∙ are.blocks_room ∙ sym same_fsize;
    inodes_room = are.inodes_room ∙ ap (λ n. inodes_before n + 1) (sym same_isize);
    free = lost.free;
    all_free = lost.each;
    numbers = λ i h. number-stays i (are.numbers i h);
    all_numbers = λ i free. are.all_numbers i (number-was i free);
  }
