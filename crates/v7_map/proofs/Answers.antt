-- What a GETATTR and a READ answer, by the records of an image.
use Rattle.std.proofs.Common.{◌≡◌, ℕ, zero, suc, ◌+◌, ◌<◌, min, Bool, true, false, cond, not, ◌==◌, ◌/◌, List, [], ◌∷◌, ◌++◌, take, drop, refl, ap, ◌∙◌, arith, Option, Some, None}
use Rattle.std.specs.FinMap.{get}
use Rattle.std.specs.List.{range_with_len, flat_map}
use Rattle.std.specs.Option.{unwrap_or}
use Rattle.files_model.specs.declared.attributes.FileId.{FileId}
use Rattle.files_model.specs.declared.attributes.Kind.{Kind}
use Rattle.files_model.specs.declared.attributes.Kind.TheVariants.{Regular, Directory, Link}
use Rattle.files_model.specs.declared.credential.Cred.{Cred}
use Rattle.files_model.specs.declared.call.Call.TheVariants.{Getattr, Read}
use Rattle.files_model.specs.declared.permission.Want.TheVariants as want
use Rattle.files_model.specs.declared.reply.Reply.{Reply}
use Rattle.files_model.specs.declared.reply.Reply.TheVariants as reply
use Rattle.files_model.specs.declared.reply.Stat.{Stat}
use Rattle.files_model.specs.declared.reply.Stat.TheVariants as stat
use Rattle.files_model.specs.Files.{Node, live, sectors_of, clipped}
use Rattle.files_model.specs.Permission.{allows, is_directory, is_link}
use Rattle.files_model.specs.Step.{step, getattr_row, read_row, read_refusal, content, sector_of, zeros, most_read, at_live, unless, attr_of, first_of}
use Rattle.stable.specs.Store.{Image}
use Rattle.v7_map.specs.Image.{sector_at, inode_at, is_inode}
use Rattle.v7_map.specs.Frame.{frame}
use Rattle.v7_map.specs.Weak.{IsStrong}
use Rattle.v7_map.specs.View.{view, node_at, held, kind_of}
use Rattle.v7_map.specs.Stored.{is_standing, sector_in, stored_attr, stored_sector, stored_content, answer_by, getattr_answer, read_refusal_by, read_bytes, read_answer}
use Rattle.v7_map.proofs.Bodies.{view-sector}
use Rattle.v7_map.proofs.Frames.{and_left, and_right}
use Rattle.v7_map.proofs.Refusals.{read_refusal-stored}
use Rattle.v7_map.proofs.SectorOf.{sector_in-address}
use Rattle.v7_map.proofs.Standing.{live-standing, attr_of-stored, node-is}

sectors-same : (f g : ℕ → List ℕ) (a m : ℕ) → ((k : ℕ) → k < a + m → f k ≡ g k) → flat_map f (range_with_len a m) ≡ flat_map g (range_with_len a m)
sectors-same f g a zero h = refl
sectors-same f g a (suc m) h = λ z. h a (omega arith) z ++ sectors-same f g (a + 1) m (λ k lt. h k (omega arith)) z

zeros_or : (b : Bool) (x : List ℕ) → unwrap_or (cond b None (Some x)) zeros ≡ cond b zeros x
zeros_or true x = refl
zeros_or false x = refl

-- a READ that isn't refused is of a regular file
readable-regular : (kind : Kind) (allowed : Bool) → first_of ((is_directory kind, stat.Isdir) ∷ (is_link kind, stat.Nxio) ∷ (not allowed, stat.Acces) ∷ []) ≡ None → kind ≡ Regular
readable-regular Regular allowed e = refl
readable-regular Directory allowed e = absurd (cc)
readable-regular Link allowed e = absurd (cc)

module _ (image : Image) (strong : IsStrong (frame image)) where
  module _ (i : ℕ) (is : is_inode image i ≡ true) (used : not ((inode_at image i).mode == 0) ≡ true) (regular : kind_of ((inode_at image i).mode / 4096) ≡ Regular) where
    at : get (view image).nodes i ≡ Some (node_at image i)
    at = node-is image strong i is ∙ ap (λ b. cond b (Some (node_at image i)) None) used

    sector-stored : (k : ℕ) → k < sectors_of (inode_at image i).size → sector_of (node_at image i).sectors k ≡ stored_sector image (inode_at image i) k
    unfolding stored_sector
    sector-stored k below =
        ap (λ o. unwrap_or o zeros) (view-sector image i k (node_at image i) at regular below)
        ∙ ap (λ a. unwrap_or (held image (inode_at image i).size k a) zeros) (sector_in-address image strong.weak i used k)
        ∙ zeros_or (sector_in image (inode_at image i) k == 0) (clipped (inode_at image i).size k (sector_at image (sector_in image (inode_at image i) k)))

    -- the bytes of a regular file are those where its addresses say
    pub content-stored : content (node_at image i) ≡ stored_content image (inode_at image i)
    unfolding content stored_content
    content-stored = ap (take (inode_at image i).size)
        (sectors-same (sector_of (node_at image i).sectors) (stored_sector image (inode_at image i)) 0 (sectors_of (inode_at image i).size) (λ k lt. sector-stored k (omega arith)))

  module _ (file : FileId) where
    abbrev n : Node
    n = node_at image file.ino

    used : is_standing image file ≡ true → not ((inode_at image file.ino).mode == 0) ≡ true
    used stands = and_left _ _ (and_right _ _ stands)

    live_is : (b : Bool) → is_standing image file ≡ b → live (view image) file ≡ cond b (Some n) None
    live_is b e = live-standing image strong file ∙ ap (λ t. cond t (Some n) None) e

    -- GETATTR
    pub getattr-answer : (cred : Cred) (now : ℕ) → (step (view image) (Getattr file) cred now).0 ≡ getattr_answer image file
    unfolding getattr_row
    getattr-answer cred now = by_standing (is_standing image file) refl
      where
        row : Option Node → Reply
        row o = (at_live (view image) o (λ m. (reply.Attr (attr_of file.ino m), view image))).0

        by_standing : (b : Bool) → is_standing image file ≡ b → row (live (view image) file) ≡ cond b (reply.Attr (stored_attr file.ino (inode_at image file.ino))) (reply.Refused stat.Stale)
        by_standing true stands = ap row (live_is true stands) ∙ ap reply.Attr (attr_of-stored image strong file.ino (used stands))
        by_standing false stale = ap row (live_is false stale)

    -- READ
    module _ (offset count : ℕ) (cred : Cred) where
      answered : is_standing image file ≡ true → (o : Option Stat) → read_refusal file n cred ≡ o
          → (unless (view image) o (reply.Data (attr_of file.ino n) (take (min count most_read) (drop offset (content n))), view image)).0
          ≡ answer_by o (reply.Data (stored_attr file.ino (inode_at image file.ino)) (read_bytes image (inode_at image file.ino) offset count))
      answered stands (Some status) e = refl
      answered stands None e =
          let regular = readable-regular n.kind (allows cred (attr_of file.ino n) want.Read) e in
          let attr = attr_of-stored image strong file.ino (used stands) in
          let bytes = content-stored file.ino (and_left _ _ stands) (used stands) regular in
          λ z. reply.Data (attr z) (take (min count most_read) (drop offset (bytes z)))

      pub read-answer : (now : ℕ) → (step (view image) (Read file offset count) cred now).0 ≡ read_answer image file offset count cred
      unfolding read_row
      read-answer now = by_standing (is_standing image file) refl
        where
          row : Option Node → Reply
          row o = (at_live (view image) o (λ m. unless (view image) (read_refusal file m cred) (reply.Data (attr_of file.ino m) (take (min count most_read) (drop offset (content m))), view image))).0

          by_standing : (b : Bool) → is_standing image file ≡ b → row (live (view image) file)
              ≡ cond b (answer_by (read_refusal_by file.ino (inode_at image file.ino) cred) (reply.Data (stored_attr file.ino (inode_at image file.ino)) (read_bytes image (inode_at image file.ino) offset count))) (reply.Refused stat.Stale)
          by_standing true stands =
              ap row (live_is true stands) ∙ answered stands (read_refusal file n cred) refl
              ∙ ap (λ o. answer_by o (reply.Data (stored_attr file.ino (inode_at image file.ino)) (read_bytes image (inode_at image file.ino) offset count)))
              (read_refusal-stored image strong file.ino (and_left _ _ stands) (used stands) file.generation cred)
          by_standing false stale = ap row (live_is false stale)
