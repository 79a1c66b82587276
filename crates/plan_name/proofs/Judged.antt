-- The judging of a new file is that of the step.
use Rattle.std.proofs.Common.{◌≡◌, ℕ, ◌+◌, ◌-◌, ◌<◌, ◌≤◌, Bool, true, false, cond, not, ◌&&◌, ◌||◌, List, [], ◌∷◌, length, Some, None, refl, sym, ap, ◌∙◌, arith, ltb, unwrap_or}
use Rattle.std.proofs.lemmas.Bool.{le-ltb}
use Rattle.std.specs.FinMap.{get}
use Rattle.files_model.specs.declared.attributes.Attr.{Attr}
use Rattle.files_model.specs.declared.attributes.Sattr.{Sattr}
use Rattle.files_model.specs.declared.credential.Cred.{Cred}
use Rattle.files_model.specs.declared.permission.Want.TheVariants as want
use Rattle.files_model.specs.declared.reply.Stat.{Stat}
use Rattle.files_model.specs.declared.reply.Stat.TheVariants as stat
use Rattle.files_model.specs.declared.reply.Reply.{Reply}
use Rattle.files_model.specs.declared.reply.Reply.TheVariants as reply
use Rattle.files_model.specs.Answers.{first_of, attr_of, unless}
use Rattle.files_model.specs.Files.{Node, Files}
use Rattle.files_model.specs.NameRows.{create_new, entry_tests, is_full_for, at_usable}
use Rattle.files_model.specs.Names.{place_for, lowest_usable, with_entry, made_at, new_file}
use Rattle.files_model.specs.Permission.{allows}
use Rattle.files_model.specs.Space.{size_limit, node_usage}
use Rattle.index_sets.specs.Free.{IsLowestFrom, count_free}
use Rattle.stable.specs.Store.{Image}
use Rattle.v7_map.specs.View.{view}
use Rattle.v7_space.proofs.Space.{free_blocks-counted}
use Rattle.v7_strokes.proofs.Directories.{StandsDir, stands-dir}
use Rattle.plan_name.specs.Growth.{added_blocks}
use Rattle.plan_name.specs.Judging.{IsTold, MayBeMade}
use Rattle.plan_name.proofs.DirectoryUsage.{entry-added, entry-size}
use Rattle.plan_name.proofs.Usable.{lowest-is}

lt_ltb : (a b : ℕ) → a < b → ltb a b ≡ true
lt_ltb a b lt = grind arith

module _ (image : Image) (p : ℕ) (d : Node) (attr : Attr) (at_end : Bool) (blocks inodes : List Bool) (t : IsTold image p d attr at_end blocks inodes) (name : List ℕ) (wanted : Sattr) (cred : Cred) (now : ℕ) where
  files : Files
  files = view image

  size : ℕ
  size = unwrap_or wanted.size 0

  s : StandsDir image p d
  s = stands-dir image p d t.strong.weak t.at t.kind

  flip : (X : Type 0) (b : Bool) (x y : X) → cond (not b) x y ≡ cond b y x
  flip X true x y = refl
  flip X false x y = refl

  pub told-size : attr.size ≤ 70656
  told-size = let e : attr.size ≡ d.size = ap (λ (a : Attr). a.size) t.is in let m = s.most in omega arith

  long : cond at_end (attr.size + 16) attr.size ≡ (with_entry d None 0).size
  long = (λ z. cond (t.end z) ((t.is z).size + 16) (t.is z).size) ∙ flip ℕ (ltb (place_for d.slots) (length d.slots)) (d.size + 16) d.size ∙ sym (entry-size d None 0)

  -- the first refusals are those of the step
  pub told-entry : (asked longer : ℕ) → asked ≡ unwrap_or wanted.size 0 → longer ≡ cond at_end (attr.size + 16) attr.size
      → first_of ((not (allows cred attr want.Write && allows cred attr want.Search), stat.Acces) ∷ (ltb size_limit asked || ltb size_limit longer, stat.Fbig) ∷ []) ≡ first_of (entry_tests p d cred (unwrap_or wanted.size 0))
  told-entry asked longer a e z = first_of ((not (allows cred (t.is z) want.Write && allows cred (t.is z) want.Search), stat.Acces) ∷ (ltb size_limit (a z) || ltb size_limit ((e ∙ long) z), stat.Fbig) ∷ [])

  pub told-refused : (status : Stat) → first_of (entry_tests p d cred (unwrap_or wanted.size 0)) ≡ Some status → create_new (view image) p d name wanted cred now ≡ (reply.Refused status, view image)
  told-refused status e = ap (λ o. unless (view image) o rest) e
    where
      rest : Reply × Files
      rest = at_usable (view image) (lowest_usable (view image)) (λ i.
          unless (view image) (first_of ((is_full_for (view image) d (with_entry d (Some (i, name)) now), stat.Nospc) ∷ [])) (
            reply.Handle (record { ino = i; generation = unwrap_or (get (view image).generations i) 0 + 1 }) (attr_of i (new_file wanted cred now)),
            made_at (view image) i (new_file wanted cred now) p (with_entry d (Some (i, name)) now),
          ))

  module _ (entry : first_of (entry_tests p d cred (unwrap_or wanted.size 0)) ≡ None) where
    made : ℕ → Reply × Files
    made i = (
      reply.Handle (record { ino = i; generation = unwrap_or (get (view image).generations i) 0 + 1 }) (attr_of i (new_file wanted cred now)),
      made_at (view image) i (new_file wanted cred now) p (with_entry d (Some (i, name)) now),
    )

    answer : ℕ → Reply × Files
    answer i = unless (view image) (first_of ((is_full_for (view image) d (with_entry d (Some (i, name)) now), stat.Nospc) ∷ [])) (made i)

    pub told-none : IsLowestFrom inodes 3 None → create_new (view image) p d name wanted cred now ≡ (reply.Refused stat.Nospc, view image)
    unfolding answer made
    told-none h = ap (λ o. unless (view image) o (at_usable (view image) (lowest_usable (view image)) answer)) entry
        ∙ ap (λ o. at_usable (view image) o answer) (lowest-is image blocks inodes t.strong t.sets None h)

    more : (i : ℕ) → node_usage (with_entry d (Some (i, name)) now) - node_usage d ≡ cond at_end (added_blocks attr.size) 0
    more i = entry-added d (Some (i, name)) now t.kind s.even
        ∙ sym ((λ z. cond (t.end z) (added_blocks (t.is z).size) 0) ∙ flip ℕ (ltb (place_for d.slots) (length d.slots)) (added_blocks d.size) 0)

    pub full-is : (i needed : ℕ) → needed ≡ cond at_end (added_blocks attr.size) 0 → is_full_for (view image) d (with_entry d (Some (i, name)) now) ≡ ltb (count_free blocks) needed
    full-is i needed e z = ltb (sym (free_blocks-counted image blocks inodes t.strong t.sets) z) ((more i ∙ sym e) z)

    pub told-full : (i needed : ℕ) → IsLowestFrom inodes 3 (Some i) → needed ≡ cond at_end (added_blocks attr.size) 0 → count_free blocks < needed → create_new (view image) p d name wanted cred now ≡ (reply.Refused stat.Nospc, view image)
    unfolding answer made
    told-full i needed h e lt = ap (λ o. unless (view image) o (at_usable (view image) (lowest_usable (view image)) answer)) entry
        ∙ ap (λ o. at_usable (view image) o answer) (lowest-is image blocks inodes t.strong t.sets (Some i) h)
        ∙ ap (λ b. unless (view image) (first_of ((b, stat.Nospc) ∷ [])) (made i)) (full-is i needed e ∙ lt_ltb (count_free blocks) needed lt)

    pub told-made : (i needed : ℕ) → IsLowestFrom inodes 3 (Some i) → needed ≡ cond at_end (added_blocks attr.size) 0 → needed ≤ count_free blocks → MayBeMade (view image) p d name (unwrap_or wanted.size 0) cred now i
    told-made i needed h e le = record {
      entry = entry;
      usable = lowest-is image blocks inodes t.strong t.sets (Some i) h;
      room = ap (λ b. first_of ((b, stat.Nospc) ∷ [])) (full-is i needed e ∙ le-ltb (count_free blocks) needed le);
    }
