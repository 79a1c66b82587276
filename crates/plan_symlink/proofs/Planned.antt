-- What a SYMLINK of a free name comes to.
use Rattle.std.proofs.Common.{◌≡◌, ℕ, zero, suc, ◌+◌, ◌/◌, ◌^◌, ◌<◌, ◌≤◌, Bool, true, false, cond, not, List, [], ◌∷◌, ◌++◌, length, set, refl, sym, ap, subst, ◌∙◌, arith, ltb, Option, Some, None, IfSome}
use Rattle.std.specs.List.{position_or_len}
use Rattle.std.specs.Option.{is_none}
use Rattle.files_model.specs.declared.attributes.Attr.{Attr}
use Rattle.files_model.specs.declared.attributes.FileId.{FileId}
use Rattle.files_model.specs.declared.attributes.Sattr.{Sattr}
use Rattle.files_model.specs.declared.call.Call.TheVariants.{Symlink}
use Rattle.files_model.specs.declared.credential.Cred.{Cred}
use Rattle.files_model.specs.declared.reply.Reply.{Reply}
use Rattle.files_model.specs.declared.reply.Reply.TheVariants as reply
use Rattle.files_model.specs.Answers.{attr_of}
use Rattle.files_model.specs.Files.{Node, Files, Slot}
use Rattle.files_model.specs.Names.{place_for}
use Rattle.files_model.specs.Space.{size_limit}
use Rattle.index_sets.specs.Free.{IsLowestFrom, count_free}
use Rattle.stable.specs.Puts.{put_all}
use Rattle.stable.specs.Store.{Image}
use Rattle.v7_layout.specs.declared.inode.Inode.{Inode}
use Rattle.v7_map.specs.Frame.{frame}
use Rattle.v7_map.specs.Image.{inode_at}
use Rattle.v7_map.specs.Stored.{stored_attr}
use Rattle.v7_map.specs.View.{view}
use Rattle.v7_map.specs.Weak.{IsStrong}
use Rattle.v7_sets.specs.Sets.{AreSetsOf}
use Rattle.v7_sets.specs.declared.sets.Sets.{Sets}
use Rattle.v7_strokes.proofs.Directories.{StandsDir, stands-dir}
use Rattle.name_plans.specs.Taken.{taken}
use Rattle.longer_plans.specs.SymlinkPuts.{IsSymlink}
use Rattle.longer_plans.proofs.SymlinkAccepted.{symlink-step}
use Rattle.plan_name.specs.Creating.{IsPlannedMaking}
use Rattle.plan_name.specs.Growth.{added_blocks}
use Rattle.plan_name.specs.Judging.{IsTold}
use Rattle.plan_name.specs.LayingOut.{AreLowest, LaysLonger, MayGrow, new_list}
use Rattle.plan_name.specs.Planned.{IsPlannedCall}
use Rattle.plan_name.specs.declared.laying_out.Laid.{Laid}
use Rattle.plan_name.specs.declared.planned.Planned.{Planned}
use Rattle.plan_name.proofs.PlannedCall.{sets-by}
use Rattle.plan_symlink.specs.Making.{AreOthers, IsNextAt}

-- ---- a new link is planned

pub link-planned : (image : Image) (dir : FileId) (name text : List ℕ) (wanted : Sattr) (cred : Cred) (now : ℕ) (d : Node) (i : ℕ) → IsSymlink (view image) dir name text wanted cred now d i
    → (left : Sets) (blocks inodes : List Bool) (new : List ℕ) (made : Planned) → AreSetsOf image blocks inodes → left.blocks ≡ taken new blocks → left.inodes ≡ set inodes i false
    → IsPlannedMaking image (Symlink dir name text wanted, cred) now i new made.plan.puts → made.reply ≡ reply.Done → made.freed.blocks.items ≡ [] → made.freed.inode ≡ None → IsPlannedCall image (Symlink dir name text wanted, cred) now left made
link-planned image dir name text wanted cred now d i c left blocks inodes new made are same_blocks same_inodes plan is none no_number = record {
  plan = plan.plan;
  answered = is ∙ sym (ap (λ (r : Reply × Files). r.0) (symlink-step (view image) dir name text wanted cred now d i c));
  sets = sets-by image (Symlink dir name text wanted, cred) now left made refl none no_number
      (subst (λ b. AreSetsOf (put_all made.plan.puts image) b left.inodes) (sym same_blocks) (subst (λ n. AreSetsOf (put_all made.plan.puts image) (taken new blocks) n) (sym same_inodes) (plan.sets blocks inodes are)));
}

-- a text of at most two sectors
pub short-text : (text : List ℕ) (sectors : ℕ) → sectors ≡ (length text + 511) / 512 → sectors ≤ 2 → length text ≤ 1024
short-text text sectors e few = omega arith

-- ---- at the end of its directory

not_inside : (x y : ℕ) → true ≡ not (ltb x y) → y ≤ x
not_inside x y e = grind arith

place_most : (xs : List Slot) → position_or_len is_none xs ≤ length xs
place_most [] = omega arith
place_most (None ∷ xs) = omega arith
place_most (Some x ∷ xs) = let r = place_most xs in omega arith

-- a block that a set has is small
small-if : (image : Image) (blocks inodes : List Bool) (from : ℕ) (o : Option ℕ) → IsStrong (frame image) → AreSetsOf image blocks inodes → IfSome o (λ a. IsLowestFrom blocks from (Some a)) → IfSome o (λ a. a + 1 < 2 ^ 32)
small-if image blocks inodes from None strong sets h = tt
small-if image blocks inodes from (Some a) strong sets h = let f = sets.free a h.1 in let high = f.high in let most = strong.weak.sizes.not_huge in omega arith

pub small-new : (image : Image) (blocks inodes : List Bool) (laid : Laid) → IsStrong (frame image) → AreSetsOf image blocks inodes → AreLowest blocks laid → IfSome laid.new.sector (λ a. a + 1 < 2 ^ 32) × IfSome laid.new.map (λ a. a + 1 < 2 ^ 32)
small-new image blocks inodes laid strong sets low = (small-if image blocks inodes 0 laid.new.sector strong sets low.sector, small-if image blocks inodes (laid.sector + 1) laid.new.map strong sets low.map)

module _ (image : Image) (dir : FileId) (d : Node) (inode : Inode) (blocks inodes : List Bool) (told : IsTold image dir.ino d (attr_of dir.ino d) true blocks inodes) (is : inode ≡ inode_at image dir.ino) where
  stands : StandsDir image dir.ino d
  stands = stands-dir image dir.ino d told.strong.weak told.at told.kind

  size_is : inode.size ≡ d.size
  unfolding frame
  size_is = ap (λ (n : Inode). n.size) is ∙ stands.size

  pub end-past : length d.slots ≤ place_for d.slots
  end-past = not_inside (place_for d.slots) (length d.slots) told.end

  end : place_for d.slots ≡ length d.slots
  end = let low = end-past in let high = place_most d.slots in omega arith

  slot_is : inode.size / 16 ≡ length d.slots
  slot_is = ap (λ n. n / 16) size_is ∙ sym stands.long

  pub end-grows : d.size + 16 ≤ size_limit → added_blocks inode.size ≤ count_free blocks → MayGrow image dir.ino inode blocks inodes
  end-grows room enough = record {
    strong = told.strong;
    sets = told.sets;
    is = is;
    dir = stands.dir;
    room = subst (λ n. n + 16 ≤ size_limit) (sym size_is) room;
    enough = enough;
  }

  pub end-next : (laid : Laid) (lays : LaysLonger image dir.ino (inode.size / 16) laid) (held : List ℕ) → AreOthers (new_list laid.new) held → IsNextAt image dir.ino (inode.size / 16) laid.sector laid.longer d lays.0 (new_list laid.new) held
  end-next laid lays held others = record { place = slot_is ∙ sym end; end = slot_is; lays = lays.1; others = others }

-- as many blocks as the directory takes besides are free, and past them as many as the text takes
pub end-enough : (attr_size size sectors free rest : ℕ) → attr_size ≡ size → sectors + added_blocks attr_size ≤ free → added_blocks size ≤ free
end-enough attr_size size sectors free rest e h = let a : added_blocks attr_size ≡ added_blocks size = ap added_blocks e in omega arith

pub end-rest : (attr_size size sectors free rest : ℕ) → attr_size ≡ size → sectors + added_blocks attr_size ≤ free → free ≤ rest + added_blocks size → sectors ≤ rest
end-rest attr_size size sectors free rest e h left = let a : added_blocks attr_size ≡ added_blocks size = ap added_blocks e in omega arith
