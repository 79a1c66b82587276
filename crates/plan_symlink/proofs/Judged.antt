-- The judging of a new link is that of the step.
use Rattle.std.proofs.Common.{◌≡◌, ℕ, ◌+◌, ◌-◌, ◌<◌, ◌≤◌, Bool, true, false, cond, not, ◌&&◌, ◌||◌, List, [], ◌∷◌, length, Some, None, is_some, refl, sym, ap, ◌∙◌, arith, ltb}
use Rattle.std.proofs.lemmas.Bool.{le-ltb, lt-ltb}
use Rattle.std.specs.List.{position}
use Rattle.files_model.specs.declared.attributes.Attr.{Attr}
use Rattle.files_model.specs.declared.attributes.FileId.{FileId}
use Rattle.files_model.specs.declared.attributes.Sattr.{Sattr}
use Rattle.files_model.specs.declared.call.Call.TheVariants.{Symlink}
use Rattle.files_model.specs.declared.credential.Cred.{Cred}
use Rattle.files_model.specs.declared.permission.Want.TheVariants as want
use Rattle.files_model.specs.declared.reply.Stat.{Stat}
use Rattle.files_model.specs.declared.reply.Stat.TheVariants as stat
use Rattle.files_model.specs.declared.reply.Reply.{Reply}
use Rattle.files_model.specs.declared.reply.Reply.TheVariants as reply
use Rattle.files_model.specs.Answers.{at_live, first_of, unless}
use Rattle.files_model.specs.Files.{Node, Files, sectors_of}
use Rattle.files_model.specs.NameRows.{symlink_row, at_free_name, at_usable, place_tests, entry_tests, new_link}
use Rattle.files_model.specs.Names.{place_for, lowest_usable, with_entry, made_at, size_alone}
use Rattle.files_model.specs.Permission.{allows}
use Rattle.files_model.specs.Space.{size_limit, free, node_usage}
use Rattle.files_model.specs.Step.{step}
use Rattle.index_sets.specs.Free.{IsLowestFrom, count_free}
use Rattle.stable.specs.Store.{Image}
use Rattle.v7_map.specs.View.{view}
use Rattle.v7_space.proofs.Space.{free_blocks-counted}
use Rattle.v7_strokes.proofs.Directories.{StandsDir, stands-dir}
use Rattle.longer_plans.specs.SymlinkPuts.{IsSymlink}
use Rattle.plan_name.specs.Growth.{added_blocks}
use Rattle.plan_name.specs.Judging.{IsTold}
use Rattle.plan_name.proofs.DirectoryUsage.{entry-added}
use Rattle.plan_name.proofs.Judged.{told-entry}
use Rattle.plan_name.proofs.Usable.{lowest-is}
use Rattle.plan_symlink.specs.Judging.{IsFreeName}
use Rattle.plan_symlink.proofs.LinkUsage.{link-usage}

module _ (image : Image) (dir : FileId) (d : Node) (attr : Attr) (at_end : Bool) (blocks inodes : List Bool) (t : IsTold image dir.ino d attr at_end blocks inodes) (name text : List ℕ) (wanted : Sattr) (cred : Cred) (now : ℕ)
    (f : IsFreeName (view image) dir name d) where
  abbrev files : Files
  files = view image

  -- what the step does at an i-number
  made : ℕ → Reply × Files
  made i = unless files (first_of ((ltb (free files) (node_usage (new_link wanted cred text now) + (node_usage (with_entry d (Some (i, name)) now) - node_usage d)), stat.Nospc) ∷ []))
      (reply.Done, made_at files i (new_link wanted cred text now) dir.ino (with_entry d (Some (i, name)) now))

  row : step files (Symlink dir name text wanted) cred now ≡ unless files (first_of (entry_tests dir.ino d cred 0)) (at_usable files (lowest_usable files) made)
  unfolding symlink_row made
  row = ap (λ o. at_live files o of_node) f.live
      ∙ (λ z. unless files (f.tests z) (unless files (first_of ((is_some (f.absent z), stat.Exist) ∷ [])) (unless files (first_of (entry_tests dir.ino d cred 0)) (at_usable files (lowest_usable files) (at d)))))
    where
      at : Node → ℕ → Reply × Files
      at e j = unless files (first_of ((ltb (free files) (node_usage (new_link wanted cred text now) + (node_usage (with_entry e (Some (j, name)) now) - node_usage e)), stat.Nospc) ∷ []))
          (reply.Done, made_at files j (new_link wanted cred text now) dir.ino (with_entry e (Some (j, name)) now))

      of_node : Node → Reply × Files
      of_node e = unless files (first_of (place_tests files e name)) (at_free_name files e name (unless files (first_of (entry_tests dir.ino e cred 0)) (at_usable files (lowest_usable files) (at e))))

  pub link-entry : (longer : ℕ) → longer ≡ cond at_end (attr.size + 16) attr.size
      → first_of ((not (allows cred attr want.Write && allows cred attr want.Search), stat.Acces) ∷ (ltb size_limit 0 || ltb size_limit longer, stat.Fbig) ∷ []) ≡ first_of (entry_tests dir.ino d cred 0)
  link-entry longer e = told-entry image dir.ino d attr at_end blocks inodes t name (size_alone 0) cred now 0 longer refl e

  pub link-refused : (status : Stat) → first_of (entry_tests dir.ino d cred 0) ≡ Some status → step files (Symlink dir name text wanted) cred now ≡ (reply.Refused status, files)
  link-refused status e = row ∙ ap (λ o. unless files o (at_usable files (lowest_usable files) made)) e

  module _ (entry : first_of (entry_tests dir.ino d cred 0) ≡ None) where
    pub link-none : IsLowestFrom inodes 3 None → step files (Symlink dir name text wanted) cred now ≡ (reply.Refused stat.Nospc, files)
    link-none h = row ∙ ap (λ o. unless files o (at_usable files (lowest_usable files) made)) entry
        ∙ ap (λ o. at_usable files o made) (lowest-is image blocks inodes t.strong t.sets None h)

    stands : StandsDir image dir.ino d
    stands = stands-dir image dir.ino d t.strong.weak t.at t.kind

    flip : (b : Bool) (x y : ℕ) → cond (not b) x y ≡ cond b y x
    flip true x y = refl
    flip false x y = refl

    more : (i : ℕ) → node_usage (with_entry d (Some (i, name)) now) - node_usage d ≡ cond at_end (added_blocks attr.size) 0
    more i = entry-added d (Some (i, name)) now t.kind stands.even
        ∙ sym ((λ z. cond (t.end z) (added_blocks (t.is z).size) 0) ∙ flip (ltb (place_for d.slots) (length d.slots)) (added_blocks d.size) 0)

    module _ (short : length text ≤ 1024) (i needed : ℕ) (h : IsLowestFrom inodes 3 (Some i)) (e : needed ≡ sectors_of (length text) + cond at_end (added_blocks attr.size) 0) where
      full-is : ltb (free files) (node_usage (new_link wanted cred text now) + (node_usage (with_entry d (Some (i, name)) now) - node_usage d)) ≡ ltb (count_free blocks) needed
      full-is z = ltb (sym (free_blocks-counted image blocks inodes t.strong t.sets) z) (((λ y. link-usage wanted cred text now short y + more i y) ∙ sym e) z)

      pub link-full : count_free blocks < needed → step files (Symlink dir name text wanted) cred now ≡ (reply.Refused stat.Nospc, files)
      unfolding made
      link-full lt = row ∙ ap (λ o. unless files o (at_usable files (lowest_usable files) made)) entry
          ∙ ap (λ o. at_usable files o made) (lowest-is image blocks inodes t.strong t.sets (Some i) h)
          ∙ ap (λ b. unless files (first_of ((b, stat.Nospc) ∷ [])) (reply.Done, made_at files i (new_link wanted cred text now) dir.ino (with_entry d (Some (i, name)) now))) (full-is ∙ lt-ltb (count_free blocks) needed lt)

      pub link-made : needed ≤ count_free blocks → IsSymlink files dir name text wanted cred now d i
      link-made le = record {
        live = f.live;
        tests = f.tests;
        absent = f.absent;
        entry = entry;
        usable = lowest-is image blocks inodes t.strong t.sets (Some i) h;
        room = ap (λ b. first_of ((b, stat.Nospc) ∷ [])) (full-is ∙ le-ltb (count_free blocks) needed le);
      }
