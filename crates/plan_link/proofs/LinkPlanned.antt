-- A LINK of a free name is planned, or refused.
use Rattle.std.proofs.Common.{◌≡◌, ℕ, ◌+◌, ◌/◌, ◌<◌, ◌≤◌, Bool, true, false, not, ◌||◌, ◌==◌, List, [], ◌∷◌, ◌++◌, length, Option, Some, None, refl, sym, ap, subst, ◌∙◌, arith, ltb, leb}
use Rattle.std.proofs.lemmas.Bool.{le-ltb}
use Rattle.std.specs.List.{position_or_len}
use Rattle.std.specs.Option.{is_none}
use Rattle.files_model.specs.declared.attributes.Attr.{Attr}
use Rattle.files_model.specs.declared.attributes.FileId.{FileId}
use Rattle.files_model.specs.declared.call.Call.TheVariants as call
use Rattle.files_model.specs.declared.credential.Cred.{Cred}
use Rattle.files_model.specs.declared.reply.Reply.{Reply}
use Rattle.files_model.specs.declared.reply.Reply.TheVariants as reply
use Rattle.files_model.specs.declared.reply.Stat.{Stat}
use Rattle.files_model.specs.declared.reply.Stat.TheVariants as stat
use Rattle.files_model.specs.Answers.{first_of}
use Rattle.files_model.specs.Files.{Node, Files, Slot}
use Rattle.files_model.specs.NameRows.{entry_tests, is_full_for, most_links}
use Rattle.files_model.specs.Names.{name_tests, place_for, with_entry, may_change}
use Rattle.files_model.specs.Permission.{is_directory}
use Rattle.files_model.specs.Space.{size_limit}
use Rattle.index_sets.specs.Free.{is_free, count_free}
use Rattle.stable.specs.Puts.{put_all}
use Rattle.stable.specs.Store.{Image}
use Rattle.v7_layout.specs.declared.inode.Inode.{Inode}
use Rattle.v7_map.specs.Frame.{frame}
use Rattle.v7_map.specs.Image.{inode_at}
use Rattle.v7_map.specs.Stored.{stored_attr}
use Rattle.v7_map.specs.View.{view, node_at}
use Rattle.v7_map.specs.Weak.{IsStrong}
use Rattle.v7_map.proofs.AnyFrame.{frame-IsFrame}
use Rattle.v7_map.proofs.Frames.{and_left, and_right}
use Rattle.v7_read.specs.Found.{IsFile}
use Rattle.v7_sets.specs.Sets.{AreSetsOf}
use Rattle.v7_sets.specs.declared.sets.Sets.{Sets}
use Rattle.v7_strokes.proofs.Directories.{stands-dir}
use Rattle.longer_plans.proofs.LinkLonger.{link-room}
use Rattle.name_plans.specs.Linking.{IsLink}
use Rattle.name_plans.specs.Taken.{taken}
use Rattle.name_plans.proofs.CreatingAccepted.{first_none}
use Rattle.name_plans.proofs.CreatingInPlace.{not_no}
use Rattle.name_plans.proofs.CreatingSets.{taken-only}
use Rattle.name_plans.proofs.LinkAccepted.{link-step}
use Rattle.plan_name.specs.Created.{CanBeNumber}
use Rattle.plan_name.specs.Growth.{added_blocks}
use Rattle.plan_name.specs.Judging.{IsTold}
use Rattle.plan_name.specs.LayingOut.{MayGrow}
use Rattle.plan_name.specs.Planned.{IsPlannedCall, TakesFrom}
use Rattle.plan_name.specs.declared.planned.Planned.{Planned}
use Rattle.plan_name.proofs.FoundDirectory.{found-node, found-attr}
use Rattle.plan_name.proofs.PlannedCall.{sets-by, unchanged-call}
use Rattle.plan_link.specs.Judging.{MayLink}
use Rattle.plan_link.specs.Links.{IsPlannedLink}
use Rattle.plan_link.specs.declared.judging.Ends.{Ends}
use Rattle.plan_link.proofs.EntryJudged.{entry-full}
use Rattle.plan_link.proofs.LinkRow.{refused-room}

not_less : (x y : ℕ) → ltb x y ≡ false → y ≤ x
not_less x y e = grind arith

or_second : (a b : Bool) → (a || b) ≡ false → b ≡ false
or_second true b e = absurd (cc)
or_second false b e = e

lt_ltb : (x y : ℕ) → x < y → ltb x y ≡ true
lt_ltb x y lt = grind arith

-- an entry comes in a slot, or past all of them
pub link-inside : (d : Node) → place_for d.slots < length d.slots → false ≡ not (ltb (place_for d.slots) (length d.slots))
link-inside d lt = sym (ap not (lt_ltb (place_for d.slots) (length d.slots) lt))

pub link-past : (d : Node) → length d.slots ≤ place_for d.slots → true ≡ not (ltb (place_for d.slots) (length d.slots))
link-past d full = sym (ap not (le-ltb (place_for d.slots) (length d.slots) full))

-- new blocks are taken
pub blocks-taken_from : (old : Sets) (new : List ℕ) (blocks : List Bool) → blocks ≡ taken new old.blocks → TakesFrom old (record { blocks = blocks; inodes = old.inodes })
blocks-taken_from old new blocks a = record { blocks = λ k h. taken-only new old.blocks k (subst (λ (free : List Bool). is_free free k ≡ true) a h); numbers = refl }

module _ (image : Image) (file dir : FileId) (name : List ℕ) (cred : Cred) (now : ℕ) (ends : Ends) (strong : IsStrong (frame image)) (at_file : IsFile image file ends.node) (at : IsFile image dir ends.directory)
    (may : MayLink image file dir name (node_at image file.ino) (node_at image dir.ino)) where
  -- the file's number is one that a slot can have
  pub link-number : (sectors : ℕ) → (frame image).sectors ≡ sectors → CanBeNumber sectors file.ino
  unfolding frame
  link-number sectors e =
      let used : not ((inode_at image file.ino).mode == 0) ≡ true = and_left _ _ (and_right _ _ at_file.stands) in
      let r = (frame-IsFrame image).numbers file.ino used in
      let low = r.0 in let w = r.1 in let s = strong.weak.sizes.low in let h = strong.weak.sizes.high in let a = strong.weak.sizes.above in let b = strong.weak.sizes.within in record {
        some = λ z. omega arith;
        short = omega arith;
        stands = omega arith;
      }

  kind : is_directory (node_at image dir.ino).kind ≡ true
  kind =
      let a = first_none (view image).read_only stat.Rofs ((is_directory (node_at image file.ino).kind, stat.Isdir) ∷ (not (is_directory (node_at image dir.ino).kind), stat.Notdir) ∷ name_tests name) may.tests in
      let b = first_none (is_directory (node_at image file.ino).kind) stat.Isdir ((not (is_directory (node_at image dir.ino).kind), stat.Notdir) ∷ name_tests name) a.1 in
      let c = first_none (not (is_directory (node_at image dir.ino).kind)) stat.Notdir (name_tests name) b.1 in not_no (is_directory (node_at image dir.ino).kind) c.0

  stored : stored_attr dir.ino ends.directory.inode ≡ stored_attr dir.ino (inode_at image dir.ino)
  stored = ap (stored_attr dir.ino) at.inode

  size_is : ends.directory.inode.size ≡ (node_at image dir.ino).size
  size_is = ap (λ (a : Attr). a.size) (stored ∙ sym (found-attr image dir ends.directory strong at))

  links_is : ends.node.inode.nlink ≡ (node_at image file.ino).nlink
  links_is = ap (λ (m : Inode). m.nlink) at_file.inode ∙ ap (λ (a : Attr). a.nlink) (sym (found-attr image file ends.node strong at_file))

  module _ (blocks inodes : List Bool) (are : AreSetsOf image blocks inodes) where
    pub link-told : (at_end : Bool) → at_end ≡ not (ltb (place_for (node_at image dir.ino).slots) (length (node_at image dir.ino).slots)) → (attr : Attr) → attr ≡ stored_attr dir.ino ends.directory.inode
        → IsTold image dir.ino (node_at image dir.ino) attr at_end blocks inodes
    link-told at_end e attr is = record {
      strong = strong;
      sets = are;
      at = found-node image dir ends.directory strong at;
      kind = kind;
      is = is ∙ stored ∙ sym (found-attr image dir ends.directory strong at);
      end = e;
    }

    -- what is judged is what the step tests
    module _ (o : Option Stat) (judged : o ≡ first_of (entry_tests dir.ino (node_at image dir.ino) cred 0 ++ (
      leb most_links ends.node.inode.nlink
          || is_full_for (view image) (node_at image dir.ino) (with_entry (node_at image dir.ino) (Some (file.ino, name)) now),
      stat.Nospc,
    ) ∷ [])) where
      tests : first_of (entry_tests dir.ino (node_at image dir.ino) cred 0 ++ (
        leb most_links (node_at image file.ino).nlink
            || is_full_for (view image) (node_at image dir.ino) (with_entry (node_at image dir.ino) (Some (file.ino, name)) now),
        stat.Nospc,
      ) ∷ []) ≡ o
      tests = sym (judged ∙ ap (λ l. first_of (entry_tests dir.ino (node_at image dir.ino) cred 0 ++ (
        leb most_links l
            || is_full_for (view image) (node_at image dir.ino) (with_entry (node_at image dir.ino) (Some (file.ino, name)) now),
        stat.Nospc,
      ) ∷ [])) links_is)

      -- a refusal plans nothing
      pub link-refused : (status : Stat) → o ≡ Some status → (left : Sets) (made : Planned) → AreSetsOf image left.blocks left.inodes → made.plan ≡ record { puts = []; room = 0 } → made.reply ≡ reply.Refused status
          → made.freed.blocks.items ≡ [] → made.freed.inode ≡ None → IsPlannedCall image (call.Link file dir name, cred) now left made
      link-refused status e left made held plan answer none number = unchanged-call image (call.Link file dir name, cred) now left made (reply.Refused status) strong held
          (refused-room (view image) file dir name cred now (node_at image file.ino) (node_at image dir.ino) may.live_file may.live may.tests may.absent status (tests ∙ e)) plan answer none number

      pub link-accepted : o ≡ None → IsLink (view image) file dir name cred now (node_at image file.ino) (node_at image dir.ino)
      link-accepted e = record { live_file = may.live_file; live = may.live; tests = may.tests; absent = may.absent; room = tests ∙ e }

    module _ (link : IsLink (view image) file dir name cred now (node_at image file.ino) (node_at image dir.ino)) where
      pub link-planned : (left : Sets) (new : List ℕ) (made : Planned) → left.blocks ≡ taken new blocks → left.inodes ≡ inodes → IsPlannedLink image (call.Link file dir name, cred) now new made.plan.puts → made.reply ≡ reply.Done
          → made.freed.blocks.items ≡ [] → made.freed.inode ≡ None → IsPlannedCall image (call.Link file dir name, cred) now left made
      link-planned left new made same_blocks same_inodes plan is none number = record {
        plan = plan.plan;
        answered = is ∙ sym (ap (λ (r : Reply × Files). r.0) (link-step (view image) file dir name cred now (node_at image file.ino) (node_at image dir.ino) link));
        sets = sets-by image (call.Link file dir name, cred) now left made refl none number
            (subst (λ b. AreSetsOf (put_all made.plan.puts image) b left.inodes) (sym same_blocks) (subst (λ m. AreSetsOf (put_all made.plan.puts image) (taken new blocks) m) (sym same_inodes) (plan.sets blocks inodes are)));
      }

      module _ (full : length (node_at image dir.ino).slots ≤ place_for (node_at image dir.ino).slots) where
        enough : added_blocks ends.directory.inode.size ≤ count_free blocks
        enough =
            let x = first_none (not (may_change cred dir.ino (node_at image dir.ino))) stat.Acces ((ltb size_limit 0 || ltb size_limit (with_entry (node_at image dir.ino) None 0).size, stat.Fbig)
            ∷ (leb most_links (node_at image file.ino).nlink || is_full_for (view image) (node_at image dir.ino) (with_entry (node_at image dir.ino) (Some (file.ino, name)) now), stat.Nospc) ∷ []) link.room in
            let y = first_none (ltb size_limit 0 || ltb size_limit (with_entry (node_at image dir.ino) None 0).size) stat.Fbig
            ((leb most_links (node_at image file.ino).nlink || is_full_for (view image) (node_at image dir.ino) (with_entry (node_at image dir.ino) (Some (file.ino, name)) now), stat.Nospc) ∷ []) x.1 in
            let z = first_none (leb most_links (node_at image file.ino).nlink || is_full_for (view image) (node_at image dir.ino) (with_entry (node_at image dir.ino) (Some (file.ino, name)) now)) stat.Nospc [] y.1 in
            let f = or_second (leb most_links (node_at image file.ino).nlink) (is_full_for (view image) (node_at image dir.ino) (with_entry (node_at image dir.ino) (Some (file.ino, name)) now)) z.0 in
            not_less (count_free blocks) (added_blocks ends.directory.inode.size)
            (sym (entry-full image dir.ino (node_at image dir.ino) (stored_attr dir.ino ends.directory.inode) true blocks inodes (link-told true (link-past (node_at image dir.ino) full) (stored_attr dir.ino ends.directory.inode) refl) file.ino now name) ∙ f)

        pub link-grows : MayGrow image dir.ino ends.directory.inode blocks inodes
        link-grows = record {
          strong = strong;
          sets = are;
          is = at.inode;
          dir = (stands-dir image dir.ino (node_at image dir.ino) strong.weak (found-node image dir ends.directory strong at) kind).dir;
          room = subst (λ s. s + 16 ≤ size_limit) (sym size_is) (link-room (view image) file dir name cred now (node_at image file.ino) (node_at image dir.ino) link full);
          enough = enough;
        }

        pub link-index : ends.directory.inode.size / 16 ≡ length (node_at image dir.ino).slots
        link-index = ap (λ s. s / 16) size_is ∙ sym (stands-dir image dir.ino (node_at image dir.ino) strong.weak (found-node image dir ends.directory strong at) kind).long

        pub link-place : ends.directory.inode.size / 16 ≡ place_for (node_at image dir.ino).slots
        link-place = let i = link-index in let f = full in let most = place_most (node_at image dir.ino).slots in omega arith
          where
            place_most : (xs : List Slot) → position_or_len is_none xs ≤ length xs
            place_most [] = omega arith
            place_most (None ∷ xs) = omega arith
            place_most (Some x ∷ xs) = let r = place_most xs in omega arith
