-- A new link: what is known of it once its call is accepted.
use Rattle.std.proofs.Common.{◌≡◌, ℕ, ◌+◌, ◌-◌, ◌^◌, ◌<◌, ◌≤◌, Bool, true, false, cond, not, ◌||◌, List, [], ◌∷◌, length, refl, sym, ap, subst, ◌∙◌, arith, ltb, Some, None, unwrap_or}
use Rattle.std.proofs.lemmas.Bool.{le-ltb}
use Rattle.std.specs.FinMap.{get}
use Rattle.files_model.specs.declared.attributes.FileId.{FileId}
use Rattle.files_model.specs.declared.attributes.Sattr.{Sattr}
use Rattle.files_model.specs.declared.call.Call.TheVariants.{Symlink}
use Rattle.files_model.specs.declared.credential.Cred.{Cred}
use Rattle.files_model.specs.declared.reply.Stat.TheVariants as stat
use Rattle.files_model.specs.Files.{Node}
use Rattle.files_model.specs.NameRows.{new_link, entry_tests}
use Rattle.files_model.specs.Names.{place_for, with_entry, may_change}
use Rattle.files_model.specs.Space.{size_limit}
use Rattle.stable.specs.Store.{Image}
use Rattle.v7_layout.specs.declared.inode.Inode.{Inode}
use Rattle.v7_map.specs.Frame.{frame}
use Rattle.v7_map.specs.Image.{is_inode, inode_at, inodes_before}
use Rattle.v7_map.specs.View.{view}
use Rattle.v7_map.specs.Weak.{IsStrong}
use Rattle.v7_strokes.specs.Over.{slot_from}
use Rattle.v7_strokes.proofs.Views.{view-generation, view-inodes}
use Rattle.name_plans.specs.Making.{IsMaking}
use Rattle.name_plans.proofs.CreatingAccepted.{first_none, usable-facts}
use Rattle.longer_plans.specs.SymlinkPuts.{IsSymlink, held_inode}
use Rattle.longer_plans.proofs.SymlinkAccepted.{symlink-making}
use Rattle.plan_name.specs.Created.{CanBeNumber}
use Rattle.plan_name.specs.declared.creating_puts.Entry.{Entry}
use Rattle.plan_name.proofs.DirectoryUsage.{entry-size}
use Rattle.plan_name.proofs.Past.{is_number}
use Rattle.plan_symlink.specs.Making.{MayLink, MakesLink}

not_less : (x y : ℕ) → ltb x y ≡ false → y ≤ x
not_less x y e = grind arith

or_second : (a b : Bool) → (a || b) ≡ false → b ≡ false
or_second true b e = absurd (cc)
or_second false b e = e

module _ (image : Image) (dir : FileId) (name text : List ℕ) (wanted : Sattr) (cred : Cred) (now : ℕ) (d : Node) (i : ℕ) (strong : IsStrong (frame image)) (c : IsSymlink (view image) dir name text wanted cred now d i) where
  making : IsMaking (view image) (Symlink dir name text wanted, cred) now dir.ino name d i (new_link wanted cred text now)
  making = symlink-making image dir name text wanted cred now d i strong c

  within : i ≤ inodes_before (frame image).isize
  unfolding frame
  within = let w = making.within in let e = view-inodes image in omega arith

  pub link-number : (sectors : ℕ) → (frame image).sectors ≡ sectors → CanBeNumber sectors i
  link-number sectors e = let low = making.low in let w = within in let s = strong.weak.sizes.low in let h = strong.weak.sizes.high in let a = strong.weak.sizes.above in let b = strong.weak.sizes.within in record {
    some = λ z. omega arith;
    short = omega arith;
    stands = omega arith;
  }

  pub link-inode : is_inode image i ≡ true
  link-inode = let low = making.low in let w = within in is_number image i (omega arith) (omega arith)

  same : unwrap_or (get (view image).generations i) 0 ≡ (inode_at image i).generation
  same = ap (λ o. unwrap_or o 0) (view-generation image i (let low = making.low in λ z. omega arith) (let w = making.within in let e = view-inodes image in omega arith))

  pub link-fresh : (inode_at image i).generation < 2 ^ 32 - 1
  link-fresh = let u = usable-facts (view image) i c.usable in let fresh = u.1 in let e = same in omega arith

  -- the inode is that of the new link, and the entry names it
  pub link-makes : (held : List ℕ) (n : Inode) (entry : Entry) → MayLink image dir name text wanted cred now d i held → n ≡ held_inode (new_link wanted cred text now) ((inode_at image i).generation + 1) held
      → entry.directory ≡ dir.ino → entry.index ≡ place_for d.slots → slot_from entry.slot ≡ Some (i, name) → MakesLink image dir name text wanted cred now d i held n entry
  link-makes held n entry may is same_p same_k slot = record {
    may = may;
    inode_is = is ∙ ap (λ g. held_inode (new_link wanted cred text now) (g + 1) held) (sym same);
    directory = same_p;
    place = same_k;
    slot = slot;
  }

  -- a directory that gets longer stays below the limit
  pub link-room : length d.slots ≤ place_for d.slots → d.size + 16 ≤ size_limit
  link-room past =
      let a = first_none (not (may_change cred dir.ino d)) stat.Acces ((ltb size_limit 0 || ltb size_limit (with_entry d None 0).size, stat.Fbig) ∷ []) c.entry in
      let b = first_none (ltb size_limit 0 || ltb size_limit (with_entry d None 0).size) stat.Fbig [] a.1 in
      let most = not_less size_limit (with_entry d None 0).size (or_second (ltb size_limit 0) (ltb size_limit (with_entry d None 0).size) b.0) in
      let long : (with_entry d None 0).size ≡ d.size + 16 = entry-size d None 0 ∙ ap (λ t. cond t d.size (d.size + 16)) (le-ltb (place_for d.slots) (length d.slots) past) in
      subst (λ n. n ≤ size_limit) long most

-- a slot that comes at the end is past all others
pub link-past : (index : ℕ) (d : Node) → index ≡ length d.slots → index ≡ place_for d.slots → length d.slots ≤ place_for d.slots
link-past index d end place = omega arith
