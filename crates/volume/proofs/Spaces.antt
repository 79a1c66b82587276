-- What a STATFS answers.
use Rattle.std.proofs.Common.{◌≡◌, ℕ, ◌+◌, ◌-◌, ◌/◌, Bool, true, false, cond, List, length, Option, Some, None, refl, sym, ap, ◌∙◌, arith}
use Rattle.files_model.specs.declared.attributes.FileId.{FileId}
use Rattle.files_model.specs.declared.credential.Cred.{Cred}
use Rattle.files_model.specs.declared.call.Call.TheVariants.{Statfs}
use Rattle.files_model.specs.declared.reply.Reply.{Reply}
use Rattle.files_model.specs.declared.reply.Reply.TheVariants as reply
use Rattle.files_model.specs.declared.reply.Stat.TheVariants as stat
use Rattle.files_model.specs.Answers.{at_live}
use Rattle.files_model.specs.Files.{Node}
use Rattle.files_model.specs.ReadingRows.{statfs_row}
use Rattle.files_model.specs.Space.{free}
use Rattle.files_model.specs.Step.{step}
use Rattle.index_sets.specs.Free.{count_free}
use Rattle.stable.specs.Store.{Image}
use Rattle.v7_map.specs.Frame.{frame}
use Rattle.v7_map.specs.Stored.{is_standing}
use Rattle.v7_map.specs.View.{view, files_of, node_at}
use Rattle.v7_map.specs.Weak.{IsStrong}
use Rattle.v7_read.specs.declared.found.Found.{Found}
use Rattle.v7_read.specs.Found.{Finds}
use Rattle.v7_map.proofs.Standing.{live-standing}
use Rattle.v7_sets.specs.Sets.{AreSetsOf}
use Rattle.v7_space.proofs.Space.{free_blocks-counted}

-- what is found stands
pub finds_stands : (image : Image) (file : FileId) (o : Option Found) (found : Found) → o ≡ Some found → Finds image file o → is_standing image file ≡ true
finds_stands image file None found so finds = absurd (cc)
finds_stands image file (Some other) found so finds = finds.stands

-- how many data blocks there are, by the room of the sets
pub blocks_by_room : (image : Image) (blocks inodes : List Bool) → IsStrong (frame image) → AreSetsOf image blocks inodes → length blocks - (2 + (length inodes - 1) / 8) ≡ (view image).blocks
unfolding view files_of
blocks_by_room image blocks inodes strong are =
    let low = strong.weak.sizes.low in
    let all = are.blocks_room in
    let numbers = are.inodes_room in
    omega (arith, low, all, numbers)

module _ (image : Image) (strong : IsStrong (frame image)) (file : FileId) (cred : Cred) (now : ℕ) where
  statfs-answer : (b : Bool) → is_standing image file ≡ b → (step (view image) (Statfs file) cred now).0 ≡ cond b (reply.Space (view image).blocks (free (view image))) (reply.Refused stat.Stale)
  unfolding statfs_row
  statfs-answer b is = ap row (live-standing image strong file ∙ ap (λ t. cond t (Some (node_at image file.ino)) None) is) ∙ by_case b
    where
      row : Option Node → Reply
      row o = (at_live (view image) o (λ n. (reply.Space (view image).blocks (free (view image)), view image))).0

      by_case : (b : Bool) → row (cond b (Some (node_at image file.ino)) None) ≡ cond b (reply.Space (view image).blocks (free (view image))) (reply.Refused stat.Stale)
      by_case true = refl
      by_case false = refl

  pub statfs_stale : is_standing image file ≡ false → reply.Refused stat.Stale ≡ (step (view image) (Statfs file) cred now).0
  statfs_stale stale = sym (statfs-answer false stale)

  pub statfs_found : is_standing image file ≡ true → (blocks inodes : List Bool) → AreSetsOf image blocks inodes → (all few : ℕ) → all ≡ length blocks - (2 + (length inodes - 1) / 8) → few ≡ count_free blocks
      → reply.Space all few ≡ (step (view image) (Statfs file) cred now).0
  statfs_found stands blocks inodes are all few all_is few_is =
      (λ z. reply.Space ((all_is ∙ blocks_by_room image blocks inodes strong are) z) ((few_is ∙ free_blocks-counted image blocks inodes strong are) z)) ∙ sym (statfs-answer true stands)
