-- The refusal of a new entry for a node is that of the step.
use Rattle.std.proofs.Common.{◌≡◌, ℕ, ◌+◌, ◌-◌, ◌<◌, Bool, true, false, cond, not, ◌&&◌, ◌||◌, List, [], ◌∷◌, ◌++◌, length, Option, Some, None, refl, sym, ap, ◌∙◌, arith, ltb, leb}
use Rattle.files_model.specs.declared.attributes.Attr.{Attr}
use Rattle.files_model.specs.declared.credential.Cred.{Cred}
use Rattle.files_model.specs.declared.permission.Want.TheVariants as want
use Rattle.files_model.specs.declared.reply.Stat.{Stat}
use Rattle.files_model.specs.declared.reply.Stat.TheVariants as stat
use Rattle.files_model.specs.Answers.{first_of}
use Rattle.files_model.specs.Files.{Node}
use Rattle.files_model.specs.NameRows.{entry_tests, is_full_for, most_links}
use Rattle.files_model.specs.Names.{place_for, with_entry}
use Rattle.files_model.specs.Permission.{allows}
use Rattle.files_model.specs.Space.{size_limit, node_usage}
use Rattle.index_sets.specs.Free.{count_free}
use Rattle.stable.specs.Store.{Image}
use Rattle.v7_map.specs.View.{view}
use Rattle.v7_space.proofs.Space.{free_blocks-counted}
use Rattle.v7_strokes.proofs.Directories.{StandsDir, stands-dir}
use Rattle.plan_name.specs.Growth.{added_blocks}
use Rattle.plan_name.specs.Judging.{IsTold}
use Rattle.plan_name.proofs.DirectoryUsage.{entry-added, entry-size}

flip : (X : Type 0) (b : Bool) (x y : X) → cond (not b) x y ≡ cond b y x
flip X true x y = refl
flip X false x y = refl

module _ (image : Image) (p : ℕ) (d : Node) (attr : Attr) (at_end : Bool) (blocks inodes : List Bool) (t : IsTold image p d attr at_end blocks inodes) where
  s : StandsDir image p d
  s = stands-dir image p d t.strong.weak t.at t.kind

  pub entry-small : attr.size + 16 < 4294967296
  entry-small = let e : attr.size ≡ d.size = ap (λ (a : Attr). a.size) t.is in let m = s.most in omega arith

  long : cond at_end (attr.size + 16) attr.size ≡ (with_entry d None 0).size
  long = (λ z. cond (t.end z) ((t.is z).size + 16) (t.is z).size) ∙ flip ℕ (ltb (place_for d.slots) (length d.slots)) (d.size + 16) d.size ∙ sym (entry-size d None 0)

  module _ (i now : ℕ) (name : List ℕ) where
    more : node_usage (with_entry d (Some (i, name)) now) - node_usage d ≡ cond at_end (added_blocks attr.size) 0
    more = entry-added d (Some (i, name)) now t.kind s.even
        ∙ sym ((λ z. cond (t.end z) (added_blocks (t.is z).size) 0) ∙ flip ℕ (ltb (place_for d.slots) (length d.slots)) (added_blocks d.size) 0)

    pub entry-full : is_full_for (view image) d (with_entry d (Some (i, name)) now) ≡ ltb (count_free blocks) (cond at_end (added_blocks attr.size) 0)
    entry-full = (λ z. ltb (sym (free_blocks-counted image blocks inodes t.strong t.sets) z) (more z))

    pub entry-judged : (cred : Cred) (links size needed free : ℕ) (o : Option Stat) → size ≡ cond at_end (attr.size + 16) attr.size → needed ≡ cond at_end (added_blocks attr.size) 0 → free ≡ count_free blocks
        → o ≡ first_of ((not (allows cred attr want.Write && allows cred attr want.Search), stat.Acces) ∷ (ltb size_limit 0 || ltb size_limit size, stat.Fbig) ∷ (leb most_links links || ltb free needed, stat.Nospc) ∷ [])
        → o ≡ first_of (entry_tests p d cred 0 ++ (leb most_links links || is_full_for (view image) d (with_entry d (Some (i, name)) now), stat.Nospc) ∷ [])
    entry-judged cred links size needed free o a b c e = e
        ∙ (λ z. first_of ((not (allows cred (t.is z) want.Write && allows cred (t.is z) want.Search), stat.Acces) ∷ (ltb size_limit 0 || ltb size_limit ((a ∙ long) z), stat.Fbig)
        ∷ (leb most_links links || ((λ y. ltb (c y) (b y)) ∙ sym entry-full) z, stat.Nospc) ∷ []))
