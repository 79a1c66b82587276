-- What a READLINK and a READDIR answer, by what was found.
use Rattle.std.proofs.Common.{◌≡◌, ℕ, ◌/◌, ◌≤◌, Bool, true, false, cond, not, ◌==◌, List, [], ◌∷◌, length, Option, Some, None, refl, sym, ap, subst, ◌∙◌, arith, eqb}
use Rattle.std.proofs.lemmas.Bool.{eqb-true}
use Rattle.std.proofs.lemmas.List.{take_all}
use Rattle.files_model.specs.declared.attributes.FileId.{FileId}
use Rattle.files_model.specs.declared.attributes.Kind.TheVariants.{Regular, Directory, Link}
use Rattle.files_model.specs.declared.credential.Cred.{Cred}
use Rattle.files_model.specs.declared.permission.Want.TheVariants as want
use Rattle.files_model.specs.declared.reply.Reply.{Reply}
use Rattle.files_model.specs.declared.reply.Reply.TheVariants as reply
use Rattle.files_model.specs.declared.reply.Stat.{Stat}
use Rattle.files_model.specs.declared.reply.Stat.TheVariants as stat
use Rattle.files_model.specs.Permission.{allows, is_directory, is_link}
use Rattle.files_model.specs.ReadingRows.{readlink_row, readdir_row}
use Rattle.stable.specs.Store.{Image}
use Rattle.v7_layout.specs.declared.inode.Inode.{Inode}
use Rattle.v7_map.specs.Image.{IsImage, inode_at}
use Rattle.v7_map.specs.Frame as frames
use Rattle.v7_map.specs.Frame.{frame}
use Rattle.v7_read.specs.Found.{IsFile}
use Rattle.v7_map.specs.Stored.{is_standing, stored_attr, stored_content, read_bytes, answer_by}
use Rattle.v7_map.specs.View.{view, kind_of}
use Rattle.v7_map.specs.Weak.{IsStrong}
use Rattle.v7_read.specs.declared.found.Found.{Found}
use Rattle.v7_map.proofs.Contents.{length-content}
use Rattle.v7_map.proofs.Frames.{and_left, and_right}
use Rattle.v7_entries.proofs.Directories.{weak_body}
use Rattle.v7_entries.proofs.Lookups.{kind_directory, first_passed}
use Rattle.v7_entries.specs.Bodies.{HasBody, slots_at}
use Rattle.v7_contents.specs.Answers.{readlink_refusal_by, readdir_refusal_by, entries_past, entries_reply}
use Rattle.v7_contents.specs.Listings.{IsListing}
use Rattle.v7_contents.specs.declared.listing.Listing.{Listing}
use Rattle.v7_contents.proofs.Answered.{readlink-answer, readdir-answer}

-- a link's type
link_type : (type : ℕ) → is_link (kind_of type) ≡ true → type ≡ 10
link_type type = by_tests (type == 4) (type == 10) refl
  where
    by_tests : (a b : Bool) → (type == 10) ≡ b → is_link (cond a Directory (cond b Link Regular)) ≡ true → type ≡ 10
    by_tests true b ten link = absurd (cc)
    by_tests false true ten link = eqb-true type 10 ten
    by_tests false false ten link = absurd (cc)

module _ (image : Image) (strong : IsStrong (frame image)) (file : FileId) where
  -- ---- READLINK

  abbrev linked : Option Stat → Reply
  linked o = answer_by o (reply.Text (stored_content image (inode_at image file.ino)))

  pub readlink_stale : is_standing image file ≡ false → reply.Refused stat.Stale ≡ (readlink_row (view image) file).0
  readlink_stale stale = sym (readlink-answer image strong file ∙ ap (λ b. cond b (linked (readlink_refusal_by (inode_at image file.ino))) (reply.Refused stat.Stale)) stale)

  module _ (found : Found) (is : IsFile image file found) where
    links : (o : Option Stat) → readlink_refusal_by found.inode ≡ o → (readlink_row (view image) file).0 ≡ linked o
    links o so =
        readlink-answer image strong file ∙ ap (λ b. cond b (linked (readlink_refusal_by (inode_at image file.ino))) (reply.Refused stat.Stale)) is.stands
        ∙ ap linked (ap readlink_refusal_by (sym is.inode) ∙ so)

    pub readlink_refused : (status : Stat) → readlink_refusal_by found.inode ≡ Some status → reply.Refused status ≡ (readlink_row (view image) file).0
    readlink_refused status so = sym (links (Some status) so)

    short_link : readlink_refusal_by found.inode ≡ None → (inode_at image file.ino).size ≤ 1024
    unfolding frame
    short_link accepted =
        let used : not ((inode_at image file.ino).mode == 0) ≡ true = and_left _ _ (and_right _ _ is.stands) in
        let link : is_link (kind_of ((inode_at image file.ino).mode / 4096)) ≡ true =
        first_passed (is_link (kind_of ((inode_at image file.ino).mode / 4096))) stat.Nxio [] (ap readlink_refusal_by (sym is.inode) ∙ accepted) in
        (strong.weak.good file.ino used).link (link_type ((inode_at image file.ino).mode / 4096) link)

    -- at most 1,024 bytes of a link are all of it
    pub readlink_found : IsImage image → readlink_refusal_by found.inode ≡ None → (bytes : List ℕ) → bytes ≡ read_bytes image found.inode 0 1024 → reply.Text bytes ≡ (readlink_row (view image) file).0
    readlink_found whole accepted bytes are =
        let n = inode_at image file.ino in
        let few = short_link accepted in
        let long = length-content image n whole in
        let all : bytes ≡ stored_content image n = are ∙ ap (λ (m : Inode). read_bytes image m 0 1024) is.inode ∙ take_all 1024 (stored_content image n) (omega (arith, long, few)) in
        ap reply.Text all ∙ sym (links None accepted)

  -- ---- READDIR

  module _ (cookie count : ℕ) (cred : Cred) where
    abbrev listed : Option Stat → Reply
    listed o = answer_by o (entries_reply (entries_past (slots_at image (inode_at image file.ino)) cookie) count)

    pub readdir_stale : is_standing image file ≡ false → reply.Refused stat.Stale ≡ (readdir_row (view image) file cookie count cred).0
    readdir_stale stale =
        sym (readdir-answer image strong file cookie count cred ∙ ap (λ b. cond b (listed (readdir_refusal_by file.ino (inode_at image file.ino) cred)) (reply.Refused stat.Stale)) stale)

    module _ (found : Found) (is : IsFile image file found) where
      lists : (o : Option Stat) → readdir_refusal_by file.ino found.inode cred ≡ o → (readdir_row (view image) file cookie count cred).0 ≡ listed o
      lists o so =
          readdir-answer image strong file cookie count cred
          ∙ ap (λ b. cond b (listed (readdir_refusal_by file.ino (inode_at image file.ino) cred)) (reply.Refused stat.Stale)) is.stands
          ∙ ap listed (ap (λ (m : Inode). readdir_refusal_by file.ino m cred) (sym is.inode) ∙ so)

      pub readdir_refused : (status : Stat) → readdir_refusal_by file.ino found.inode cred ≡ Some status → reply.Refused status ≡ (readdir_row (view image) file cookie count cred).0
      readdir_refused status so = sym (lists (Some status) so)

      module _ (accepted : readdir_refusal_by file.ino found.inode cred ≡ None) where
        directory : frames.is_directory ((frame image).head file.ino) ≡ true
        unfolding frame
        directory =
            let type : ℕ = (inode_at image file.ino).mode / 4096 in
            sym (kind_directory type)
            ∙ first_passed (is_directory (kind_of type)) stat.Notdir ((not (allows cred (stored_attr file.ino (inode_at image file.ino)) want.Read), stat.Acces) ∷ []) (ap (λ (m : Inode). readdir_refusal_by file.ino m cred) (sym is.inode) ∙ accepted)

        pub listed_body : HasBody image found.inode
        listed_body = subst (HasBody image) (sym is.inode) (weak_body image file.ino strong.weak directory)

        pub readdir_found : (listing : Listing) → IsListing (entries_past (slots_at image found.inode) cookie) count listing → reply.Entries listing.list listing.end ≡ (readdir_row (view image) file cookie count cred).0
        readdir_found listing lists' =
            let left = λ (m : Inode). entries_past (slots_at image m) cookie in
            let end = lists'.end ∙ ap (λ l. eqb (length l) (length (left found.inode))) lists'.list in
            (λ z. reply.Entries (lists'.list z) (end z)) ∙ ap (λ (m : Inode). entries_reply (left m) count) is.inode ∙ sym (lists None accepted)
