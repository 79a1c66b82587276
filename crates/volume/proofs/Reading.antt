-- What reading calls answer, and the bytes that they read.
use Rattle.std.proofs.Common.{◌≡◌, ℕ, ◌+◌, ◌-◌, ◌*◌, ◌<◌, ◌≤◌, min, max, Bool, true, false, cond, ◌==◌, [], get_or, List, ◌++◌, length, take, drop, Option, Some, None, refl, sym, ap, ◌∙◌, arith, ⊎_elim, length-drop}
use Rattle.std.proofs.lemmas.Bool.{cases_lt}
use Rattle.std.proofs.lemmas.List.{drop-replicate, take_all}
use Rattle.files_model.specs.declared.attributes.FileId.{FileId}
use Rattle.files_model.specs.declared.credential.Cred.{Cred}
use Rattle.files_model.specs.declared.call.Call.TheVariants.{Getattr, Read}
use Rattle.files_model.specs.declared.reply.Reply.{Reply}
use Rattle.files_model.specs.declared.reply.Reply.TheVariants as reply
use Rattle.files_model.specs.declared.reply.Stat.{Stat}
use Rattle.files_model.specs.declared.reply.Stat.TheVariants as stat
use Rattle.files_model.specs.Files.{Files, Node, clipped, live}
use Rattle.files_model.specs.Step.{step, getattr_row, read_row, read_refusal, content, at_live, unless, attr_of, most_read, zeros}
use Rattle.files_model.proofs.Clips.{clipped_fixed}
use Rattle.plan_file.specs.Contents.{old_content}
use Rattle.plan_file.specs.Places.{ArePlaces}
use Rattle.plan_file.specs.declared.places.Places.{Places}
use Rattle.plan_file.proofs.Known.{at_body}
use Rattle.stable.specs.Store.{Image}
use Rattle.v7_layout.specs.declared.inode.Inode.{Inode}
use Rattle.v7_map.specs.Image.{IsImage, inode_at}
use Rattle.v7_map.specs.Frame.{frame}
use Rattle.v7_map.specs.Stored.{is_standing, sector_in, stored_attr, stored_sector, stored_content, read_refusal_by, read_bytes, answer_by}
use Rattle.v7_map.specs.View.{view}
use Rattle.v7_map.specs.Weak.{IsStrong}
use Rattle.v7_map.proofs.Frames.{and_left, and_right}
use Rattle.v7_map.proofs.SectorOf.{sector_in-address}
use Rattle.v7_map.proofs.Answers.{getattr-answer, read-answer}
use Rattle.v7_map.proofs.Contents.{take-more, content-part, length-content}
use Rattle.v7_read.specs.declared.found.Found.{Found}
use Rattle.v7_read.specs.Found.{IsFile}
use Rattle.volume.proofs.Applying.{IsRefusal}

-- ---- they change nothing

pub getattr-idle : (files : Files) (file : FileId) → (getattr_row files file).1 ≡ files
unfolding getattr_row
getattr-idle files file = at_node (live files file)
  where
    at_node : (o : Option Node) → (at_live files o (λ n. (reply.Attr (attr_of file.ino n), files))).1 ≡ files
    at_node None = refl
    at_node (Some n) = refl

pub read-idle : (files : Files) (file : FileId) (offset count : ℕ) (cred : Cred) → (read_row files file offset count cred).1 ≡ files
unfolding read_row
read-idle files file offset count cred = at_node (live files file)
  where
    judged : (n : Node) (o : Option Stat) → (unless files o (reply.Data (attr_of file.ino n) (take (min count most_read) (drop offset (content n))), files)).1 ≡ files
    judged n None = refl
    judged n (Some status) = refl

    at_node : (o : Option Node) → (at_live files o (λ n. unless files (read_refusal file n cred) (reply.Data (attr_of file.ino n) (take (min count most_read) (drop offset (content n))), files))).1 ≡ files
    at_node None = refl
    at_node (Some n) = judged n (read_refusal file n cred)

-- ---- what they answer

module _ (image : Image) (strong : IsStrong (frame image)) (file : FileId) (cred : Cred) (now : ℕ) where
  pub getattr_stale : is_standing image file ≡ false → IsRefusal image (Getattr file) cred now stat.Stale
  getattr_stale stale = record {
    answer = sym (getattr-answer image strong file cred now ∙ ap (λ b. cond b (reply.Attr (stored_attr file.ino (inode_at image file.ino))) (reply.Refused stat.Stale)) stale);
    same = getattr-idle (view image) file;
  }

  pub getattr_found : (found : Found) → IsFile image file found → reply.Attr (stored_attr file.ino found.inode) ≡ (step (view image) (Getattr file) cred now).0
  getattr_found found is =
      ap (λ (n : Inode). reply.Attr (stored_attr file.ino n)) is.inode
      ∙ sym (getattr-answer image strong file cred now ∙ ap (λ b. cond b (reply.Attr (stored_attr file.ino (inode_at image file.ino))) (reply.Refused stat.Stale)) is.stands)

  module _ (offset count : ℕ) where
    abbrev answer_with : Option Stat → Reply
    answer_with o = answer_by o (reply.Data (stored_attr file.ino (inode_at image file.ino)) (read_bytes image (inode_at image file.ino) offset count))

    pub read_stale : is_standing image file ≡ false → IsRefusal image (Read file offset count) cred now stat.Stale
    read_stale stale = record {
      answer = sym (read-answer image strong file offset count cred now ∙ ap (λ b. cond b (answer_with (read_refusal_by file.ino (inode_at image file.ino) cred)) (reply.Refused stat.Stale)) stale);
      same = read-idle (view image) file offset count cred;
    }

    module _ (found : Found) (is : IsFile image file found) where
      answers : (o : Option Stat) → read_refusal_by file.ino found.inode cred ≡ o → (step (view image) (Read file offset count) cred now).0 ≡ answer_with o
      answers o so =
          read-answer image strong file offset count cred now
          ∙ ap (λ b. cond b (answer_with (read_refusal_by file.ino (inode_at image file.ino) cred)) (reply.Refused stat.Stale)) is.stands
          ∙ ap (λ (n : Inode). answer_with (read_refusal_by file.ino n cred)) (sym is.inode) ∙ ap answer_with so

      pub read_refused : (status : Stat) → read_refusal_by file.ino found.inode cred ≡ Some status → IsRefusal image (Read file offset count) cred now status
      read_refused status so = record { answer = sym (answers (Some status) so); same = read-idle (view image) file offset count cred }

      pub read_found : read_refusal_by file.ino found.inode cred ≡ None → (bytes : List ℕ) → bytes ≡ read_bytes image found.inode offset count
          → reply.Data (stored_attr file.ino found.inode) bytes ≡ (step (view image) (Read file offset count) cred now).0
      read_found accepted bytes are =
          (λ z. reply.Data (stored_attr file.ino (is.inode z)) ((are ∙ ap (λ (n : Inode). read_bytes image n offset count) is.inode) z)) ∙ sym (answers None accepted)
