-- The judging of a new directory is that of the step.
use Rattle.std.proofs.Common.{◌≡◌, ℕ, ◌+◌, ◌-◌, ◌/◌, ◌%◌, ◌==◌, ◌<◌, ◌≤◌, Bool, true, false, cond, not, ◌&&◌, ◌||◌, List, [], ◌∷◌, length, Some, None, refl, sym, ap, ◌∙◌, arith, ltb, leb, unwrap_or}
use Rattle.std.proofs.lemmas.Bool.{le-leb, le-ltb}
use Rattle.std.specs.FinMap.{get}
use Rattle.files_model.specs.declared.attributes.Attr.{Attr}
use Rattle.files_model.specs.declared.attributes.Sattr.{Sattr}
use Rattle.files_model.specs.declared.credential.Cred.{Cred}
use Rattle.files_model.specs.declared.permission.Want.TheVariants as want
use Rattle.files_model.specs.declared.reply.Stat.{Stat}
use Rattle.files_model.specs.declared.reply.Stat.TheVariants as stat
use Rattle.files_model.specs.declared.reply.Reply.{Reply}
use Rattle.files_model.specs.declared.reply.Reply.TheVariants as reply
use Rattle.files_model.specs.Answers.{first_of, attr_of, unless}
use Rattle.files_model.specs.Files.{Node, Files}
use Rattle.files_model.specs.NameRows.{entry_tests, at_usable, most_links, new_directory}
use Rattle.files_model.specs.Names.{place_for, lowest_usable, with_entry, made_at}
use Rattle.files_model.specs.Permission.{allows}
use Rattle.files_model.specs.Space.{size_limit, node_usage}
use Rattle.index_sets.specs.Free.{IsLowestFrom, count_free}
use Rattle.stable.specs.Store.{Image}
use Rattle.v7_map.specs.View.{view}
use Rattle.v7_space.proofs.Space.{free_blocks-counted}
use Rattle.v7_strokes.proofs.Directories.{StandsDir, stands-dir}
use Rattle.plan_name.specs.Growth.{added_blocks}
use Rattle.plan_name.specs.Judging.{IsTold}
use Rattle.plan_name.proofs.DirectoryUsage.{entry-added}
use Rattle.plan_name.proofs.Judged.{told-entry}
use Rattle.plan_name.proofs.Usable.{lowest-is}
use Rattle.plan_mkdir.specs.Judging.{MayBeMade, lacks_room, directory_made, mkdir_new}

lt_ltb : (a b : ℕ) → a < b → ltb a b ≡ true
lt_ltb a b lt = grind arith

lt_leb : (a b : ℕ) → b < a → leb a b ≡ false
lt_leb a b lt = grind arith

or_yes : (b : Bool) → (b || true) ≡ true
or_yes true = refl
or_yes false = refl

-- nothing is asked
abbrev pub nothing : Sattr
nothing = record { mode = None; uid = None; gid = None; size = None; atime = None; mtime = None }

-- a new directory takes one block
one-block : (wanted : Sattr) (cred : Cred) (i p now : ℕ) → node_usage (new_directory wanted cred i p now) ≡ 1
one-block wanted cred i p now = refl

module _ (image : Image) (p : ℕ) (d : Node) (attr : Attr) (at_end : Bool) (blocks inodes : List Bool) (t : IsTold image p d attr at_end blocks inodes) (name : List ℕ) (wanted : Sattr) (cred : Cred) (now : ℕ) where
  s : StandsDir image p d
  s = stands-dir image p d t.strong.weak t.at t.kind

  flip : (X : Type 0) (b : Bool) (x y : X) → cond (not b) x y ≡ cond b y x
  flip X true x y = refl
  flip X false x y = refl

  -- the first refusals are those of the step
  pub new-entry : (longer : ℕ) → longer ≡ cond at_end (attr.size + 16) attr.size
      → first_of ((not (allows cred attr want.Write && allows cred attr want.Search), stat.Acces) ∷ (ltb size_limit 0 || ltb size_limit longer, stat.Fbig) ∷ []) ≡ first_of (entry_tests p d cred 0)
  new-entry longer e = told-entry image p d attr at_end blocks inodes t name nothing cred now 0 longer refl e

  answer : ℕ → Reply × Files
  answer = directory_made (view image) p d name wanted cred now

  pub new-refused : (status : Stat) → first_of (entry_tests p d cred 0) ≡ Some status → mkdir_new (view image) p d name wanted cred now ≡ (reply.Refused status, view image)
  unfolding answer
  new-refused status e = ap (λ o. unless (view image) o (at_usable (view image) (lowest_usable (view image)) answer)) e

  links : attr.nlink ≡ d.nlink
  links = ap (λ (a : Attr). a.nlink) t.is

  more : (i : ℕ) → node_usage (with_entry d (Some (i, name)) now) - node_usage d ≡ cond at_end (added_blocks attr.size) 0
  more i = entry-added d (Some (i, name)) now t.kind s.even
      ∙ sym ((λ z. cond (t.end z) (added_blocks (t.is z).size) 0) ∙ flip ℕ (ltb (place_for d.slots) (length d.slots)) (added_blocks d.size) 0)

  -- what there is no room for
  pub room-is : (i needed : ℕ) → needed ≡ 1 + cond at_end (added_blocks attr.size) 0 → lacks_room (view image) p d name wanted cred now i ≡ (leb most_links attr.nlink || ltb (count_free blocks) needed)
  room-is i needed e = λ z. leb most_links (sym links z) || ltb (sym (free_blocks-counted image blocks inodes t.strong t.sets) z) (((λ y. one-block wanted cred i p now y + more i y) ∙ sym e) z)

  module _ (entry : first_of (entry_tests p d cred 0) ≡ None) where
    pub new-none : IsLowestFrom inodes 3 None → mkdir_new (view image) p d name wanted cred now ≡ (reply.Refused stat.Nospc, view image)
    unfolding answer
    new-none h = ap (λ o. unless (view image) o (at_usable (view image) (lowest_usable (view image)) answer)) entry
        ∙ ap (λ o. at_usable (view image) o answer) (lowest-is image blocks inodes t.strong t.sets None h)

    lacking : (i : ℕ) → IsLowestFrom inodes 3 (Some i) → lacks_room (view image) p d name wanted cred now i ≡ true → mkdir_new (view image) p d name wanted cred now ≡ (reply.Refused stat.Nospc, view image)
    unfolding answer
    lacking i h e = ap (λ o. unless (view image) o (at_usable (view image) (lowest_usable (view image)) answer)) entry
        ∙ ap (λ o. at_usable (view image) o answer) (lowest-is image blocks inodes t.strong t.sets (Some i) h)
        ∙ ap (λ b. unless (view image) (first_of ((b, stat.Nospc) ∷ [])) (
          reply.Handle (record { ino = i; generation = unwrap_or (get (view image).generations i) 0 + 1 }) (attr_of i (new_directory wanted cred i p now)),
          made_at (view image) i (new_directory wanted cred i p now) p (record (with_entry d (Some (i, name)) now) { nlink = d.nlink + 1 }),
        )) e

    pub new-most : (i : ℕ) → IsLowestFrom inodes 3 (Some i) → 32767 ≤ attr.nlink → mkdir_new (view image) p d name wanted cred now ≡ (reply.Refused stat.Nospc, view image)
    new-most i h le = lacking i h (room-is i (1 + cond at_end (added_blocks attr.size) 0) refl ∙ ap (λ b. b || ltb (count_free blocks) (1 + cond at_end (added_blocks attr.size) 0)) (le-leb most_links attr.nlink le))

    pub new-full : (i needed : ℕ) → IsLowestFrom inodes 3 (Some i) → needed ≡ 1 + cond at_end (added_blocks attr.size) 0 → count_free blocks < needed → mkdir_new (view image) p d name wanted cred now ≡ (reply.Refused stat.Nospc, view image)
    new-full i needed h e lt = lacking i h (room-is i needed e ∙ ap (λ b. leb most_links attr.nlink || b) (lt_ltb (count_free blocks) needed lt) ∙ or_yes (leb most_links attr.nlink))

    pub new-made : (i needed : ℕ) → IsLowestFrom inodes 3 (Some i) → attr.nlink < 32767 → needed ≡ 1 + cond at_end (added_blocks attr.size) 0 → needed ≤ count_free blocks → MayBeMade (view image) p d name wanted cred now i
    new-made i needed h few e le = record {
      entry = entry;
      usable = lowest-is image blocks inodes t.strong t.sets (Some i) h;
      room = ap (λ b. first_of ((b, stat.Nospc) ∷ [])) (room-is i needed e ∙ (λ z. lt_leb most_links attr.nlink few z || le-ltb (count_free blocks) needed le z));
    }

-- a parent takes at most two blocks
pub few-added : (size : ℕ) → added_blocks size ≤ 2
unfolding added_blocks
few-added size = most (size % 512 == 0) (size / 512 == 10)
  where
    most : (a b : Bool) → cond a (cond b 2 1) 0 ≤ 2
    most true true = omega arith
    most true false = omega arith
    most false b = omega arith
