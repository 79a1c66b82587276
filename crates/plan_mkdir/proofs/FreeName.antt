-- What a MKDIR of a free name comes to, by what is judged of it.
use Rattle.std.proofs.Common.{◌≡◌, ℕ, ◌+◌, ◌-◌, ◌/◌, ◌<◌, ◌≤◌, Bool, true, false, cond, not, ◌||◌, List, [], ◌∷◌, length, set, refl, sym, ap, subst, ◌∙◌, arith, ltb, leb, Some, None, is_some}
use Rattle.std.proofs.lemmas.Bool.{le-ltb}
use Rattle.std.specs.List.{position_or_len}
use Rattle.std.specs.Option.{is_none}
use Rattle.files_model.specs.declared.attributes.Attr.{Attr}
use Rattle.files_model.specs.declared.attributes.FileId.{FileId}
use Rattle.files_model.specs.declared.attributes.Sattr.{Sattr}
use Rattle.files_model.specs.declared.call.Call.TheVariants.{Mkdir}
use Rattle.files_model.specs.declared.credential.Cred.{Cred}
use Rattle.files_model.specs.declared.reply.Stat.{Stat}
use Rattle.files_model.specs.declared.reply.Stat.TheVariants as stat
use Rattle.files_model.specs.declared.reply.Reply.{Reply}
use Rattle.files_model.specs.declared.reply.Reply.TheVariants as reply
use Rattle.files_model.specs.Answers.{first_of, unless, at_live, attr_of}
use Rattle.files_model.specs.Files.{Node, Files, Slot}
use Rattle.files_model.specs.NameRows.{mkdir_row, place_tests, at_free_name, most_links, new_directory}
use Rattle.files_model.specs.Names.{place_for, with_entry, may_change}
use Rattle.files_model.specs.Space.{size_limit}
use Rattle.files_model.specs.Step.{step}
use Rattle.index_sets.specs.Free.{count_free, IsLowestFrom}
use Rattle.plan_file.specs.Free.{AreSpare}
use Rattle.plan_file.proofs.Freed.{spare-of}
use Rattle.plan_file.proofs.Placing.{lowest-there}
use Rattle.stable.specs.Puts.{put_all}
use Rattle.stable.specs.Store.{Image}
use Rattle.v7_layout.specs.declared.inode.Inode.{Inode}
use Rattle.v7_map.specs.Frame.{frame}
use Rattle.v7_map.specs.Image.{inode_at, inodes_before}
use Rattle.v7_map.specs.View.{view}
use Rattle.v7_map.specs.Weak.{IsStrong}
use Rattle.v7_map.proofs.AnyFrame.{frame-IsFrame}
use Rattle.v7_sets.specs.Sets.{AreSetsOf}
use Rattle.v7_sets.specs.declared.sets.Sets.{Sets}
use Rattle.v7_strokes.proofs.Directories.{StandsDir, stands-dir}
use Rattle.v7_strokes.proofs.Views.{view-inodes}
use Rattle.name_plans.specs.MakingDirectory.{IsMkdir}
use Rattle.name_plans.specs.Taken.{taken}
use Rattle.name_plans.proofs.CreatingAccepted.{first_none, usable-facts}
use Rattle.name_plans.proofs.MkdirAccepted.{mkdir-step}
use Rattle.plan_name.specs.Created.{CanBeNumber}
use Rattle.plan_name.specs.Creating.{IsPlannedMaking, made_answer}
use Rattle.plan_name.specs.Growth.{added_blocks}
use Rattle.plan_name.specs.Judging.{IsTold}
use Rattle.plan_name.specs.LayingOut.{MayGrow}
use Rattle.plan_name.specs.Planned.{IsPlannedCall}
use Rattle.plan_name.specs.declared.planned.Planned.{Planned}
use Rattle.plan_name.proofs.DirectoryUsage.{entry-size}
use Rattle.plan_name.proofs.PlannedCall.{sets-by, unchanged-call}
use Rattle.plan_mkdir.specs.Free.{IsFreeName}
use Rattle.plan_mkdir.specs.Judging.{MayBeMade, mkdir_new, lacks_room}
use Rattle.plan_mkdir.proofs.JudgedNew.{room-is}

not_less : (x y : ℕ) → ltb x y ≡ false → y ≤ x
not_less x y e = grind arith

or_second : (a b : Bool) → (a || b) ≡ false → b ≡ false
or_second true b e = absurd (cc)
or_second false b e = e

module _ (image : Image) (dir : FileId) (name : List ℕ) (wanted : Sattr) (cred : Cred) (now : ℕ) (d : Node) (strong : IsStrong (frame image)) (free : IsFreeName (view image) dir name d) where
  -- the row is that of a new directory
  row : step (view image) (Mkdir dir name wanted) cred now ≡ mkdir_new (view image) dir.ino d name wanted cred now
  unfolding mkdir_row
  row =
      ap (λ o. at_live (view image) o (λ n. unless (view image) (first_of (place_tests (view image) n name)) (at_free_name (view image) n name (mkdir_new (view image) dir.ino n name wanted cred now)))) free.live
      ∙ (λ z. unless (view image) (free.tests z) (unless (view image) (first_of ((is_some (free.absent z), stat.Exist) ∷ [])) (mkdir_new (view image) dir.ino d name wanted cred now)))

  -- a refusal plans nothing
  pub free-refused : (status : Stat) (left : Sets) (made : Planned) → mkdir_new (view image) dir.ino d name wanted cred now ≡ (reply.Refused status, view image) → AreSetsOf image left.blocks left.inodes
      → made.plan ≡ record { puts = []; room = 0 } → made.reply ≡ reply.Refused status → made.freed.blocks.items ≡ [] → made.freed.inode ≡ None → IsPlannedCall image (Mkdir dir name wanted, cred) now left made
  free-refused status left made e are plan answer blocks number = unchanged-call image (Mkdir dir name wanted, cred) now left made (reply.Refused status) strong are (row ∙ e) plan answer blocks number

  module _ (i : ℕ) (may : MayBeMade (view image) dir.ino d name wanted cred now i) where
    pub free-making : IsMkdir (view image) dir name wanted cred now d i
    free-making = record { live = free.live; tests = free.tests; absent = free.absent; entry = may.entry; usable = may.usable; room = may.room }

    -- its number may stand
    pub free-number : (sectors : ℕ) → (frame image).sectors ≡ sectors → CanBeNumber sectors i
    free-number sectors e =
        let u = usable-facts (view image) i may.usable in let low = u.2 in let high = u.3 in let k = view-inodes image in
        let s = strong.weak.sizes.low in let h = strong.weak.sizes.high in let a = strong.weak.sizes.above in let b = strong.weak.sizes.within in
        let within : i ≤ inodes_before (frame image).isize = inside i (view image).inodes (inodes_before (frame image).isize) k high low in record {
          some = λ z. omega arith;
          short = omega arith;
          stands = omega arith;
        }
      where
        inside : (i n m : ℕ) → n ≡ m → i < 3 + (n - 2) → 3 ≤ i → i ≤ m
        inside i n m e high low = omega arith

    pub free-planned : (left : Sets) (blocks inodes : List Bool) (new : List ℕ) (made : Planned) → AreSetsOf image blocks inodes → left.blocks ≡ taken new blocks → left.inodes ≡ set inodes i false
        → IsPlannedMaking image (Mkdir dir name wanted, cred) now i new made.plan.puts → made.reply ≡ made_answer image i (new_directory wanted cred i dir.ino now) → made.freed.blocks.items ≡ [] → made.freed.inode ≡ None
        → IsPlannedCall image (Mkdir dir name wanted, cred) now left made
    free-planned left blocks inodes new made are same_blocks same_inodes plan is none no_number = record {
      plan = plan.plan;
      answered = is ∙ sym (ap (λ (r : Reply × Files). r.0) (mkdir-step (view image) dir name wanted cred now d i free-making));
      sets = sets-by image (Mkdir dir name wanted, cred) now left made refl none no_number
          (subst (λ b. AreSetsOf (put_all made.plan.puts image) b left.inodes) (sym same_blocks) (subst (λ n. AreSetsOf (put_all made.plan.puts image) (taken new blocks) n) (sym same_inodes) (plan.sets blocks inodes are)));
    }

-- the parent's number may stand
pub parent-number : (image : Image) (p : ℕ) (d : Node) → IsStrong (frame image) → StandsDir image p d → (sectors : ℕ) → (frame image).sectors ≡ sectors → CanBeNumber sectors p
parent-number image p d strong stands sectors e =
    let r = (frame-IsFrame image).numbers p ((frame-IsFrame image).directories p stands.dir) in let low = r.0 in let high = r.1 in
    let s = strong.weak.sizes.low in let h = strong.weak.sizes.high in let a = strong.weak.sizes.above in let b = strong.weak.sizes.within in record {
      some = λ z. omega arith;
      short = omega arith;
      stands = omega arith;
    }

-- where a store can have all, there is none only where none is free
pub none-left : (image : Image) (dir : FileId) (name : List ℕ) (wanted : Sattr) (cred : Cred) (now : ℕ) (d : Node) (i : ℕ) (blocks inodes : List Bool) → IsStrong (frame image) → AreSetsOf image blocks inodes → IsFreeName (view image) dir name d
    → StandsDir image dir.ino d → MayBeMade (view image) dir.ino d name wanted cred now i → (sectors from : ℕ) → (frame image).sectors ≡ sectors
    → (AreSpare sectors blocks → CanBeNumber sectors i → CanBeNumber sectors dir.ino → IsLowestFrom blocks from None) → IsLowestFrom blocks from None
unfolding frame
none-left image dir name wanted cred now d i blocks inodes strong are free stands may sectors from e h =
    h (spare-of image sectors blocks inodes strong e are) (free-number image dir name wanted cred now d strong free i may sectors e) (parent-number image dir.ino d strong stands sectors e)

-- ---- a parent with an empty slot

pub one-left : (image : Image) (p : ℕ) (d : Node) (attr : Attr) (blocks inodes : List Bool) → IsTold image p d attr false blocks inodes → (name : List ℕ) (wanted : Sattr) (cred : Cred) (now i : ℕ) → MayBeMade (view image) p d name wanted cred now i
    → IsLowestFrom blocks 0 None → ⊥
one-left image p d attr blocks inodes told name wanted cred now i may none =
    let full = first_none (lacks_room (view image) p d name wanted cred now i) stat.Nospc [] may.room in
    let enough : 1 ≤ count_free blocks = not_less (count_free blocks) 1 (or_second (leb most_links attr.nlink) (ltb (count_free blocks) 1) (sym (room-is image p d attr false blocks inodes told name wanted cred now i 1 refl) ∙ full.0)) in
    lowest-there blocks 0 (omega arith) none

-- ---- a parent that grows

not_inside : (x y : ℕ) → true ≡ not (ltb x y) → y ≤ x
not_inside x y e = grind arith

place_most : (xs : List Slot) → position_or_len is_none xs ≤ length xs
place_most [] = omega arith
place_most (None ∷ xs) = omega arith
place_most (Some x ∷ xs) = let r = place_most xs in omega arith

module _ (image : Image) (dir : FileId) (d : Node) (inode : Inode) (blocks inodes : List Bool)
    (told : IsTold image dir.ino d (attr_of dir.ino d) true blocks inodes) (is : inode ≡ inode_at image dir.ino) where
  stands : StandsDir image dir.ino d
  stands = stands-dir image dir.ino d told.strong.weak told.at told.kind

  size_is : inode.size ≡ d.size
  unfolding frame
  size_is = ap (λ (n : Inode). n.size) is ∙ stands.size

  past : length d.slots ≤ place_for d.slots
  past = not_inside (place_for d.slots) (length d.slots) told.end

  -- the slot is past all others
  pub end-place : inode.size / 16 ≡ place_for d.slots
  end-place = let low = past in let high = place_most d.slots in let long = stands.long in let s = size_is in omega arith

  pub end-index : inode.size / 16 ≡ length d.slots
  end-index = ap (λ n. n / 16) size_is ∙ sym stands.long

  module _ (name : List ℕ) (wanted : Sattr) (cred : Cred) (now i : ℕ) (may : MayBeMade (view image) dir.ino d name wanted cred now i) where
    pub end-room : d.size + 16 ≤ size_limit
    end-room =
        let a = first_none (not (may_change cred dir.ino d)) stat.Acces ((ltb size_limit 0 || ltb size_limit (with_entry d None 0).size, stat.Fbig) ∷ []) may.entry in
        let b = first_none (ltb size_limit 0 || ltb size_limit (with_entry d None 0).size) stat.Fbig [] a.1 in
        let most = not_less size_limit (with_entry d None 0).size (or_second (ltb size_limit 0) (ltb size_limit (with_entry d None 0).size) b.0) in
        let same : (with_entry d None 0).size ≡ d.size + 16 = entry-size d None 0 ∙ ap (λ t. cond t d.size (d.size + 16)) (le-ltb (place_for d.slots) (length d.slots) past) in
        subst (λ n. n ≤ size_limit) same most

    -- one block more than the parent takes is free
    pub end-enough : added_blocks inode.size + 1 ≤ count_free blocks
    end-enough =
        let full = first_none (lacks_room (view image) dir.ino d name wanted cred now i) stat.Nospc [] may.room in
        let enough = not_less (count_free blocks) (1 + added_blocks d.size) (or_second (leb most_links d.nlink) (ltb (count_free blocks) (1 + added_blocks d.size))
        (sym (room-is image dir.ino d (attr_of dir.ino d) true blocks inodes told name wanted cred now i (1 + added_blocks d.size) refl) ∙ full.0)) in
        subst (λ n. added_blocks n + 1 ≤ count_free blocks) (sym size_is) (omega arith)

    pub end-grow : MayGrow image dir.ino inode blocks inodes
    end-grow = record {
      strong = told.strong;
      sets = told.sets;
      is = is;
      dir = stands.dir;
      room = subst (λ n. n + 16 ≤ size_limit) (sym size_is) end-room;
      enough = let e = end-enough in omega arith;
    }
