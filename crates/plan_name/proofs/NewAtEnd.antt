-- What a CREATE comes to of a free name whose directory has no empty slot.
use Rattle.std.proofs.Common.{◌≡◌, ℕ, ◌+◌, ◌/◌, ◌≤◌, Bool, true, false, cond, not, ◌||◌, List, [], ◌∷◌, length, refl, sym, ap, subst, ◌∙◌, arith, ltb, Some, None, unwrap_or}
use Rattle.std.proofs.lemmas.Bool.{le-ltb}
use Rattle.std.specs.List.{position_or_len}
use Rattle.std.specs.Option.{is_none}
use Rattle.files_model.specs.declared.attributes.Attr.{Attr}
use Rattle.files_model.specs.declared.attributes.FileId.{FileId}
use Rattle.files_model.specs.declared.attributes.Sattr.{Sattr}
use Rattle.files_model.specs.declared.call.Call.TheVariants.{Create}
use Rattle.files_model.specs.declared.credential.Cred.{Cred}
use Rattle.files_model.specs.declared.reply.Stat.TheVariants as stat
use Rattle.files_model.specs.Answers.{attr_of}
use Rattle.files_model.specs.Files.{Node, Slot}
use Rattle.files_model.specs.NameRows.{is_full_for}
use Rattle.files_model.specs.Names.{place_for, with_entry, may_change}
use Rattle.files_model.specs.Space.{size_limit}
use Rattle.index_sets.specs.Free.{count_free}
use Rattle.stable.specs.Store.{Image}
use Rattle.v7_layout.specs.declared.inode.Inode.{Inode}
use Rattle.v7_map.specs.Frame.{frame}
use Rattle.v7_map.specs.Image.{inode_at}
use Rattle.v7_map.specs.Stored.{stored_attr}
use Rattle.v7_map.specs.View.{view}
use Rattle.v7_map.proofs.AnyFrame.{frame-IsFrame}
use Rattle.v7_map.proofs.Standing.{attr_of-stored}
use Rattle.v7_strokes.proofs.Directories.{StandsDir, stands-dir}
use Rattle.name_plans.proofs.CreatingAccepted.{first_none}
use Rattle.plan_name.specs.Created.{IsFreeName}
use Rattle.plan_name.specs.Creating.{FitsAtEnd}
use Rattle.plan_name.specs.Growth.{added_blocks}
use Rattle.plan_name.specs.Judging.{IsTold, MayBeMade}
use Rattle.plan_name.specs.LayingOut.{MayGrow, LaysLonger, new_list}
use Rattle.plan_name.specs.declared.laying_out.Laid.{Laid}
use Rattle.plan_name.proofs.DirectoryUsage.{entry-size}
use Rattle.plan_name.proofs.Judged.{full-is}
use Rattle.plan_name.proofs.NewInPlace.{new-may}

not_less : (x y : ℕ) → ltb x y ≡ false → y ≤ x
not_less x y e = grind arith

not_inside : (x y : ℕ) → true ≡ not (ltb x y) → y ≤ x
not_inside x y e = grind arith

or_second : (a b : Bool) → (a || b) ≡ false → b ≡ false
or_second true b e = absurd (cc)
or_second false b e = e

place_most : (xs : List Slot) → position_or_len is_none xs ≤ length xs
place_most [] = omega arith
place_most (None ∷ xs) = omega arith
place_most (Some x ∷ xs) = let r = place_most xs in omega arith

module _ (image : Image) (dir : FileId) (d : Node) (inode : Inode) (blocks inodes : List Bool)
    (told : IsTold image dir.ino d (attr_of dir.ino d) true blocks inodes) (is : inode ≡ inode_at image dir.ino) where
  stands : StandsDir image dir.ino d
  stands = stands-dir image dir.ino d told.strong.weak told.at told.kind

  stored : stored_attr dir.ino inode ≡ attr_of dir.ino d
  unfolding frame
  stored = ap (stored_attr dir.ino) is ∙ sym (attr_of-stored image told.strong dir.ino ((frame-IsFrame image).directories dir.ino stands.dir)) ∙ ap (attr_of dir.ino) stands.stands.is

  -- the inode tells the attributes
  pub told-by : (attr : Attr) → attr ≡ stored_attr dir.ino inode → IsTold image dir.ino d attr true blocks inodes
  told-by attr e = record { strong = told.strong; sets = told.sets; at = told.at; kind = told.kind; is = e ∙ stored; end = told.end }

  size_is : inode.size ≡ d.size
  unfolding frame
  size_is = ap (λ (n : Inode). n.size) is ∙ stands.size

  -- the slot is past all others
  past : length d.slots ≤ place_for d.slots
  past = not_inside (place_for d.slots) (length d.slots) told.end

  end : place_for d.slots ≡ length d.slots
  end = let low = past in let high = place_most d.slots in omega arith

  slot_is : inode.size / 16 ≡ length d.slots
  slot_is = ap (λ n. n / 16) size_is ∙ sym stands.long

  module _ (name : List ℕ) (wanted : Sattr) (cred : Cred) (now : ℕ) (free : IsFreeName (view image) dir name wanted d) (i : ℕ) (may : MayBeMade (view image) dir.ino d name (unwrap_or wanted.size 0) cred now i) where
    long : d.size + 16 ≤ size_limit
    long =
        let a = first_none (not (may_change cred dir.ino d)) stat.Acces ((ltb size_limit (unwrap_or wanted.size 0) || ltb size_limit (with_entry d None 0).size, stat.Fbig) ∷ []) may.entry in
        let b = first_none (ltb size_limit (unwrap_or wanted.size 0) || ltb size_limit (with_entry d None 0).size) stat.Fbig [] a.1 in
        let most = not_less size_limit (with_entry d None 0).size (or_second (ltb size_limit (unwrap_or wanted.size 0)) (ltb size_limit (with_entry d None 0).size) b.0) in
        let same : (with_entry d None 0).size ≡ d.size + 16 = entry-size d None 0 ∙ ap (λ t. cond t d.size (d.size + 16)) (le-ltb (place_for d.slots) (length d.slots) past) in
        subst (λ n. n ≤ size_limit) same most

    enough : added_blocks d.size ≤ count_free blocks
    enough =
        let full = first_none (is_full_for (view image) d (with_entry d (Some (i, name)) now)) stat.Nospc [] may.room in
        not_less (count_free blocks) (added_blocks d.size)
        (sym (full-is image dir.ino d (attr_of dir.ino d) true blocks inodes told name wanted cred now may.entry i (added_blocks d.size) refl) ∙ full.0)

    pub may-grow : MayGrow image dir.ino inode blocks inodes
    may-grow = record {
      strong = told.strong;
      sets = told.sets;
      is = is;
      dir = stands.dir;
      room = subst (λ n. n + 16 ≤ size_limit) (sym size_is) long;
      enough = subst (λ n. added_blocks n ≤ count_free blocks) (sym size_is) enough;
    }

    pub fits-end : (laid : Laid) (lays : LaysLonger image dir.ino (inode.size / 16) laid)
        → FitsAtEnd image (Create dir name wanted, cred) now dir.ino i (inode.size / 16) laid.sector laid.longer name wanted cred d lays.0 (new_list laid.new)
    fits-end laid lays = record {
      may = new-may image dir name wanted cred now d told.strong free i may (inode.size / 16) (slot_is ∙ sym end);
      end = slot_is;
      room = long;
      lays = lays.1;
    }
