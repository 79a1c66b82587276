-- What a READLINK and a READDIR answer, by the records of an image.
use Rattle.std.proofs.Common.{◌≡◌, ℕ, zero, suc, ◌+◌, ◌/◌, ◌<◌, Bool, true, false, cond, not, ◌==◌, List, [], ◌∷◌, ◌++◌, take, refl, sym, ap, ◌∙◌, arith, Option, Some, None}
use Rattle.std.specs.FinMap.{get, empty}
use Rattle.std.specs.List.{range_with_len, flat_map}
use Rattle.std.specs.Option.{unwrap_or}
use Rattle.files_model.specs.declared.attributes.FileId.{FileId}
use Rattle.files_model.specs.declared.attributes.Attr.{Attr}
use Rattle.files_model.specs.declared.attributes.Kind.{Kind}
use Rattle.files_model.specs.declared.attributes.Kind.TheVariants.{Regular, Directory, Link}
use Rattle.files_model.specs.declared.credential.Cred.{Cred}
use Rattle.files_model.specs.declared.permission.Want.TheVariants as want
use Rattle.files_model.specs.declared.reply.Reply.{Reply}
use Rattle.files_model.specs.declared.reply.Reply.TheVariants as reply
use Rattle.files_model.specs.declared.reply.Stat.{Stat}
use Rattle.files_model.specs.declared.reply.Stat.TheVariants as stat
use Rattle.files_model.specs.Answers.{zeros, sector_of, at_live, unless, attr_of, first_of}
use Rattle.files_model.specs.FileRows.{content}
use Rattle.files_model.specs.Files.{Node, live, sectors_of, clipped, tabulated}
use Rattle.files_model.specs.Permission.{allows, is_directory, is_link}
use Rattle.files_model.specs.ReadingRows.{readlink_row, readdir_row}
use Rattle.files_model.proofs.Maps.{get-tabulated}
use Rattle.stable.specs.Store.{Image}
use Rattle.v7_map.specs.Image.{sector_at, inode_at}
use Rattle.v7_map.specs.Frame as frames
use Rattle.v7_map.specs.Frame.{Body, frame}
use Rattle.v7_map.specs.Weak.{IsStrong}
use Rattle.v7_map.specs.View.{view, node_at, body_of, held, kind_of}
use Rattle.v7_map.specs.Stored.{is_standing, sector_in, stored_sector, stored_content, answer_by}
use Rattle.v7_map.proofs.Frames.{and_left, and_right}
use Rattle.v7_map.proofs.SectorOf.{sector_in-address}
use Rattle.v7_map.proofs.Standing.{live-standing, attr_of-stored}
use Rattle.v7_entries.proofs.Lookups.{kind_directory, first_passed}
use Rattle.v7_entries.specs.Bodies.{slots_at}
use Rattle.v7_contents.specs.Answers.{readlink_refusal_by, readlink_answer, readdir_refusal_by, readdir_answer, entries_past, entries_reply}

sectors_same : (f g : ℕ → List ℕ) (a m : ℕ) → ((k : ℕ) → k < a + m → f k ≡ g k) → flat_map f (range_with_len a m) ≡ flat_map g (range_with_len a m)
sectors_same f g a zero h = refl
sectors_same f g a (suc m) h = λ z. h a (omega arith) z ++ sectors_same f g (a + 1) m (λ k lt. h k (omega arith)) z

zeros_or : (b : Bool) (x : List ℕ) → unwrap_or (cond b None (Some x)) zeros ≡ cond b zeros x
zeros_or true x = refl
zeros_or false x = refl

-- a link is no directory
link_only : (kind : Kind) → is_link kind ≡ true → is_directory kind ≡ false
link_only Regular e = refl
link_only Directory e = absurd (cc)
link_only Link e = refl

module _ (image : Image) (strong : IsStrong (frame image)) where
  -- the bytes of a file or link are those where its addresses say
  module _ (i : ℕ) (used : not ((inode_at image i).mode == 0) ≡ true) (file : frames.is_directory ((frame image).head i) ≡ false) where
    sector_stored : (k : ℕ) → k < sectors_of (inode_at image i).size → sector_of (node_at image i).sectors k ≡ stored_sector image (inode_at image i) k
    unfolding stored_sector body_of frame
    sector_stored k below =
        let n = inode_at image i in
        let table = λ (q : ℕ). held image n.size q ((frame image).address i (Body q)) in
        ap (λ b. unwrap_or (get (cond b empty (tabulated table (sectors_of n.size))) k) zeros) file
        ∙ ap (λ o. unwrap_or o zeros) (get-tabulated table (sectors_of n.size) k below)
        ∙ ap (λ a. unwrap_or (held image n.size k a) zeros) (sector_in-address image strong.weak i used k)
        ∙ zeros_or (sector_in image n k == 0) (clipped n.size k (sector_at image (sector_in image n k)))

    pub content_stored : content (node_at image i) ≡ stored_content image (inode_at image i)
    unfolding content stored_content
    content_stored = ap (take (inode_at image i).size)
        (sectors_same (sector_of (node_at image i).sectors) (stored_sector image (inode_at image i)) 0 (sectors_of (inode_at image i).size) (λ k lt. sector_stored k (omega arith)))

  module _ (file : FileId) where
    abbrev n : Node
    n = node_at image file.ino

    used : is_standing image file ≡ true → not ((inode_at image file.ino).mode == 0) ≡ true
    used stands = and_left _ _ (and_right _ _ stands)

    live_is : (b : Bool) → is_standing image file ≡ b → live (view image) file ≡ cond b (Some n) None
    live_is b e = live-standing image strong file ∙ ap (λ t. cond t (Some n) None) e

    -- READLINK
    linked : is_standing image file ≡ true → (o : Option Stat) → readlink_refusal_by (inode_at image file.ino) ≡ o
        → (unless (view image) o (reply.Text (content n), view image)).0 ≡ answer_by o (reply.Text (stored_content image (inode_at image file.ino)))
    unfolding frame
    linked stands (Some status) e = refl
    linked stands None e =
        let kind : Kind = kind_of ((inode_at image file.ino).mode / 4096) in
        let link = first_passed (is_link kind) stat.Nxio [] e in
        let no_directory : frames.is_directory ((frame image).head file.ino) ≡ false = sym (kind_directory ((inode_at image file.ino).mode / 4096)) ∙ link_only kind link in
        ap reply.Text (content_stored file.ino (used stands) no_directory)

    pub readlink-answer : (readlink_row (view image) file).0 ≡ readlink_answer image file
    unfolding readlink_row
    readlink-answer = by_standing (is_standing image file) refl
      where
        row : Option Node → Reply
        row o = (at_live (view image) o (λ m. unless (view image) (first_of ((not (is_link m.kind), stat.Nxio) ∷ [])) (reply.Text (content m), view image))).0

        by_standing : (b : Bool) → is_standing image file ≡ b → row (live (view image) file)
            ≡ cond b (answer_by (readlink_refusal_by (inode_at image file.ino)) (reply.Text (stored_content image (inode_at image file.ino)))) (reply.Refused stat.Stale)
        by_standing true stands = ap row (live_is true stands) ∙ linked stands (readlink_refusal_by (inode_at image file.ino)) refl
        by_standing false stale = ap row (live_is false stale)

    -- READDIR
    module _ (cookie count : ℕ) (cred : Cred) where
      abbrev listed : Reply
      listed = entries_reply (entries_past (slots_at image (inode_at image file.ino)) cookie) count

      abbrev refusal : Attr → Option Stat
      refusal a = first_of ((not (is_directory n.kind), stat.Notdir) ∷ (not (allows cred a want.Read), stat.Acces) ∷ [])

      judged : (o : Option Stat) → (unless (view image) o (listed, view image)).0 ≡ answer_by o listed
      judged None = refl
      judged (Some status) = refl

      row : Option Node → Reply
      row o = (at_live (view image) o (λ d. unless (view image) (first_of ((not (is_directory d.kind), stat.Notdir) ∷ (not (allows cred (attr_of file.ino d) want.Read), stat.Acces) ∷ []))
          (entries_reply (entries_past d.slots cookie) count, view image))).0

      row_there : row (Some n) ≡ (unless (view image) (refusal (attr_of file.ino n)) (listed, view image)).0
      unfolding frame row
      row_there = refl

      pub readdir-answer : (readdir_row (view image) file cookie count cred).0 ≡ readdir_answer image file cookie count cred
      unfolding readdir_row row
      readdir-answer = by_standing (is_standing image file) refl
        where
          by_standing : (b : Bool) → is_standing image file ≡ b → row (live (view image) file)
              ≡ cond b (answer_by (readdir_refusal_by file.ino (inode_at image file.ino) cred) listed) (reply.Refused stat.Stale)
          by_standing true stands =
              ap row (live_is true stands) ∙ row_there ∙ judged (refusal (attr_of file.ino n)) ∙ ap (λ a. answer_by (refusal a) listed) (attr_of-stored image strong file.ino (used stands))
          by_standing false stale = ap row (live_is false stale)
