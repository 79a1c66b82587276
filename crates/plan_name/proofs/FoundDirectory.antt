-- A directory that a handle finds, and what is found in its slots, by the records of an image with nothing to mend.
use Rattle.std.proofs.Common.{◌≡◌, ℕ, ◌/◌, ◌<◌, ◌≤◌, ◌≢◌, arith, Bool, true, false, cond, not, ◌==◌, List, ◌∷◌, Option, Some, None, refl, sym, ap, subst, ◌∙◌}
use Rattle.std.specs.FinMap.{get}
use Rattle.std.specs.List.{position}
use Rattle.files_model.specs.declared.attributes.FileId.{FileId}
use Rattle.files_model.specs.declared.reply.Stat.{Stat}
use Rattle.files_model.specs.declared.reply.Stat.TheVariants as stat
use Rattle.files_model.specs.Answers.{first_of, attr_of}
use Rattle.files_model.specs.Files.{Slot, live}
use Rattle.files_model.specs.Names.{has_name, number_at}
use Rattle.files_model.specs.Permission.{is_directory}
use Rattle.stable.specs.Store.{Image}
use Rattle.v7_read.specs.Found.{IsFile}
use Rattle.v7_map.specs.Frame as frames
use Rattle.v7_map.specs.Frame.{frame}
use Rattle.v7_map.specs.Image.{inode_at, is_inode}
use Rattle.v7_map.specs.Stored.{stored_attr}
use Rattle.v7_map.specs.View.{view, files_of, node_at, kind_of}
use Rattle.v7_map.specs.Weak.{IsStrong}
use Rattle.v7_read.specs.declared.found.Found.{Found}
use Rattle.v7_map.proofs.Frames.{and_left, and_right}
use Rattle.v7_map.proofs.Standing.{live-standing, attr_of-stored, node-is}
use Rattle.v7_strokes.specs.Entries.{entry_sector}
use Rattle.v7_dir.proofs.Firsts.{passes_at}
use Rattle.v7_entries.specs.Bodies.{HasBody, slots_at, block_at}
use Rattle.v7_entries.specs.Found.{IsNamedSlot}
use Rattle.v7_entries.specs.declared.named.NamedSlot.{NamedSlot}
use Rattle.v7_entries.proofs.Directories.{weak_body, slots_are}
use Rattle.v7_entries.proofs.Lookups.{kind_directory, first_passed, named_used, used_inode}

some_none : {status : Stat} → ◌≡◌ {A = Option Stat} (Some status) None → ⊥
some_none e = cc

-- what passes the first two tests is a directory
pub passed-directory : (a b : Bool) (rest : List (Bool × Stat)) → first_of ((a, stat.Rofs) ∷ (not b, stat.Notdir) ∷ rest) ≡ None → b ≡ true
passed-directory true b rest e = absurd (some_none e)
passed-directory false b rest e = first_passed b stat.Notdir rest e

module _ (image : Image) (dir : FileId) (found : Found) (strong : IsStrong (frame image)) (is : IsFile image dir found) where
  pub found-live : live (view image) dir ≡ Some (node_at image dir.ino)
  found-live = live-standing image strong dir ∙ ap (λ b. cond b (Some (node_at image dir.ino)) None) is.stands

  used : not ((inode_at image dir.ino).mode == 0) ≡ true
  used = and_left _ _ (and_right _ _ is.stands)

  pub found-node : get (view image).nodes dir.ino ≡ Some (node_at image dir.ino)
  found-node = node-is image strong dir.ino (and_left _ _ is.stands) ∙ ap (λ b. cond b (Some (node_at image dir.ino)) None) used

  pub found-attr : attr_of dir.ino (node_at image dir.ino) ≡ stored_attr dir.ino (inode_at image dir.ino)
  found-attr = attr_of-stored image strong dir.ino used

  pub found-read_only : (view image).read_only ≡ found.read_only
  unfolding view files_of
  found-read_only = sym is.read_only

  module _ (kind : is_directory (kind_of (found.inode.mode / 4096)) ≡ true) where
    pub found-directory : frames.is_directory ((frame image).head dir.ino) ≡ true
    unfolding frame
    found-directory = sym (kind_directory ((inode_at image dir.ino).mode / 4096)) ∙ (λ z. is_directory (kind_of ((sym is.inode z).mode / 4096))) ∙ kind

    pub found-body : HasBody image found.inode
    found-body = subst (HasBody image) (sym is.inode) (weak_body image dir.ino strong.weak found-directory)

    same_slots : slots_at image (inode_at image dir.ino) ≡ (node_at image dir.ino).slots
    unfolding frame
    same_slots = refl

    pub found-slots : slots_at image found.inode ≡ (node_at image dir.ino).slots
    found-slots = ap (slots_at image) is.inode ∙ same_slots

    -- the first slot that passes a test stands among the data blocks
    module _ (p : Slot → Bool) (k sector : ℕ) (first : position p (slots_at image found.inode) ≡ Some k) (at : sector ≡ block_at image found.inode (k / 32)) where
      pub found-first : position p (node_at image dir.ino).slots ≡ Some k
      found-first = ap (position p) (sym found-slots) ∙ first

      pub found-sector : sector ≡ entry_sector image dir.ino k
      unfolding frame
      found-sector = at ∙ ap (λ m. frames.address_of image (frames.head_of m) (frames.Body (k / 32))) is.inode

      pub found-past : 2 ≤ sector
      unfolding frame
      found-past =
          let has = weak_body image dir.ino strong.weak found-directory in
          let slots = slots_are image (inode_at image dir.ino) has in
          let passes = passes_at p (frames.slot_in image (frames.head_of (inode_at image dir.ino))) ((inode_at image dir.ino).size / 16) k
          (ap (position p) (sym slots) ∙ ap (λ m. position p (slots_at image m)) (sym is.inode) ∙ first) in
          let inside : k < (inode_at image dir.ino).size / 16 = passes.0 in
          let low = (strong.weak.data_block dir.ino (frames.Body (k / 32)) (stands_at (has.some (k / 32) (omega arith)))).0 in
          let least = strong.weak.sizes.low in
          let from : (frame image).isize ≤ sector = subst (λ a. (frame image).isize ≤ a) (sym found-sector) low in omega arith
        where
          stands_at : block_at image (inode_at image dir.ino) (k / 32) ≢ 0 → (frame image).address dir.ino (frames.Body (k / 32)) ≢ 0
          stands_at h = h

    -- the node of a name's first slot
    module _ (name : List ℕ) (entry : NamedSlot) (named : IsNamedSlot image found.inode name entry) where
      first_there : position (has_name name) (slots_at image (inode_at image dir.ino)) ≡ Some entry.slot
      first_there = ap (λ m. position (has_name name) (slots_at image m)) (sym is.inode) ∙ named.first

      number_there : number_at (slots_at image (inode_at image dir.ino)) entry.slot ≡ entry.ino
      number_there = ap (λ m. number_at (slots_at image m) entry.slot) (sym is.inode) ∙ sym named.number

      pub found-number : number_at (node_at image dir.ino).slots entry.slot ≡ entry.ino
      found-number = ap (λ l. number_at l entry.slot) (sym same_slots) ∙ number_there

      in_use : ((frame image).head entry.ino).is_used ≡ true
      in_use = ap (λ j. ((frame image).head j).is_used) (sym number_there) ∙ named_used image strong dir.ino found-directory name entry.slot first_there

      pub entry-inode : is_inode image entry.ino ≡ true
      entry-inode = used_inode image strong entry.ino in_use

      pub entry-used : not ((inode_at image entry.ino).mode == 0) ≡ true
      unfolding frame
      entry-used = in_use

      pub entry-node : get (view image).nodes (number_at (node_at image dir.ino).slots entry.slot) ≡ Some (node_at image entry.ino)
      entry-node = ap (λ j. get (view image).nodes j) found-number ∙ node-is image strong entry.ino entry-inode ∙ ap (λ b. cond b (Some (node_at image entry.ino)) None) entry-used
