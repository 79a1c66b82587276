-- SYMLINK as a plan: the sectors of its text, which stand nowhere yet, and then a creation.
use Rattle.std.proofs.Common.{◌≡◌, ℕ, ◌+◌, ◌<◌, List, [], ◌∷◌, ◌++◌, length, get_or, refl, sym, ap, subst, ◌∙◌, arith, unwrap_or}
use Rattle.std.specs.FinMap.{get}
use Rattle.std.specs.List.{AllByRecursion}
use Rattle.files_model.specs.declared.attributes.FileId.{FileId}
use Rattle.files_model.specs.declared.attributes.Sattr.{Sattr}
use Rattle.files_model.specs.declared.credential.Cred.{Cred}
use Rattle.files_model.specs.declared.call.Call.TheVariants as call
use Rattle.files_model.specs.Files.{Node, Files}
use Rattle.files_model.specs.NameRows.{new_link}
use Rattle.stable.specs.Puts.{put_all}
use Rattle.stable.specs.Store.{Image}
use Rattle.v7_layout.specs.declared.inode.Inode.{Inode}
use Rattle.v7_map.specs.Frame.{Place, head_of, address_of, frame}
use Rattle.v7_map.specs.Plan.{PutsInode}
use Rattle.v7_map.specs.Plans.{IsPlanOf}
use Rattle.v7_map.specs.View.{view}
use Rattle.v7_map.specs.Weak.{IsStrong}
use Rattle.v7_plans.specs.Quiet.{AllQuiet}
use Rattle.v7_plans.proofs.Quieting.{quiet-plan, quiet-view, quiet-frame}
use Rattle.v7_sets.specs.Sets.{IsFreeBlock}
use Rattle.v7_strokes.specs.Inodes.{made_inode}
use Rattle.v7_strokes.specs.NewNodes.{IsNewFile}
use Rattle.name_plans.specs.CreatingPuts.{MakesInPlace, MakesLonger, in_place_puts, longer_puts}
use Rattle.name_plans.specs.Making.{IsMaking}
use Rattle.name_plans.specs.Taken.{AreNewBlocks}
use Rattle.name_plans.proofs.CreatingInPlace.{create-plan}
use Rattle.name_plans.proofs.CreatingLonger.{longer-plan}
use Rattle.longer_plans.specs.SymlinkPuts.{IsSymlink, PutsText, TakesSlot, AddsSlot, text_sector, text_puts, held_inode}
use Rattle.longer_plans.proofs.FreePuts.{free-all_quiet, text-free, text-there}
use Rattle.longer_plans.proofs.HeldNode.{all-at, held-is_new, held-blocks}
use Rattle.longer_plans.proofs.SymlinkAccepted.{symlink-making}

module _ (image : Image) (dir : FileId) (name text : List ℕ) (wanted : Sattr) (cred : Cred) (now : ℕ) (d : Node) (i : ℕ) (held b1 : List ℕ) (strong : IsStrong (frame image)) (c : IsSymlink (view image) dir name text wanted cred now d i)
    (x : PutsText image i (new_link wanted cred text now) text held b1) where
  unfoldable pub text-inode : Inode
  text-inode = held_inode (new_link wanted cred text now) (unwrap_or (get (view image).generations i) 0 + 1) held

  pub text-quiet : AllQuiet (text_puts text 0 held) image
  text-quiet = free-all_quiet (text_puts text 0 held) image strong.weak (text-free (frame image) text 0 held x.blocks_are.free)

  pub text-frame : frame (put_all (text_puts text 0 held) image) ≡ frame image
  text-frame = quiet-frame (text_puts text 0 held) image text-quiet

  pub text-view : view (put_all (text_puts text 0 held) image) ≡ view image
  text-view = quiet-view (text_puts text 0 held) image text-quiet

  pub text-strong : IsStrong (frame (put_all (text_puts text 0 held) image))
  text-strong = subst IsStrong (sym text-frame) strong

  pub text-making : IsMaking (view (put_all (text_puts text 0 held) image)) (call.Symlink dir name text wanted, cred) now dir.ino name d i (new_link wanted cred text now)
  text-making = subst (λ f. IsMaking f (call.Symlink dir name text wanted, cred) now dir.ino name d i (new_link wanted cred text now)) (sym text-view) (symlink-making image dir name text wanted cred now d i strong c)

  inside : (k : ℕ) → k < length held → get_or held k 0 < length image
  unfolding frame
  inside k lt = let f = all-at (λ a. IsFreeBlock (frame image) a) held x.blocks_are.free k lt in let high = f.high in let within = strong.weak.sizes.within in omega arith

  free_there : AllByRecursion (λ a. IsFreeBlock (frame (put_all (text_puts text 0 held) image)) a) held
  free_there = subst (λ f. AllByRecursion (λ a. IsFreeBlock f a) held) (sym text-frame) x.blocks_are.free

  low_bits : 511 < 4096
  low_bits = omega arith

  pub text-new : IsNewFile (put_all (text_puts text 0 held) image) i text-inode (new_link wanted cred text now)
  unfolding text-inode
  text-new = held-is_new (put_all (text_puts text 0 held) image) i (unwrap_or (get (view image).generations i) 0 + 1) (new_link wanted cred text now) text held text-strong.weak refl low_bits refl refl refl refl
      x.blocks_are.short x.blocks_are.each free_there x.blocks_are.apart (λ k lt. text-there text 0 held image inside x.blocks_are.apart k lt ∙ ap (text_sector text) (let e : 0 + k ≡ k = omega arith in e))

  pub text-blocks : AreNewBlocks (frame (put_all (text_puts text 0 held) image)) i (address_of (put_all (text_puts text 0 held) image) (head_of text-inode)) held
  unfolding text-inode
  text-blocks = held-blocks (put_all (text_puts text 0 held) image) i (unwrap_or (get (view image).generations i) 0 + 1) (new_link wanted cred text now) text held text-strong.weak refl low_bits refl refl refl refl
      x.blocks_are.short x.blocks_are.each free_there x.blocks_are.apart (λ k lt. text-there text 0 held image inside x.blocks_are.apart k lt ∙ ap (text_sector text) (let e : 0 + k ≡ k = omega arith in e))

  pub text-raised : text-inode.generation ≡ unwrap_or (get (view (put_all (text_puts text 0 held) image)).generations i) 0 + 1
  unfolding text-inode held_inode made_inode
  text-raised = ap (λ (f : Files). unwrap_or (get f.generations i) 0 + 1) (sym text-view)

  pub text-puts : PutsInode (put_all (text_puts text 0 held) image) i b1 text-inode
  unfolding text-inode
  text-puts = x.inode

  pub text-in_place : (b2 b3 : List ℕ) → TakesSlot (put_all (text_puts text 0 held) image) now dir.ino name d i b1 b2 b3
      → MakesInPlace (put_all (text_puts text 0 held) image) (call.Symlink dir name text wanted, cred) now dir.ino name d i (new_link wanted cred text now) text-inode b1 b2 b3
  text-in_place b2 b3 y = record { making = text-making; new = text-new; raised = text-raised; inside = y.inside; inode = text-puts; entry = y.entry; times = y.times }

  pub text-longer : (target : Place → ℕ) (b2 : List ℕ) (maps : List (ℕ × List ℕ)) (direct : List ℕ) (single : ℕ) (b3 : List ℕ) → AddsSlot (put_all (text_puts text 0 held) image) now dir.ino name d i target b1 b2 maps direct single b3
      → MakesLonger (put_all (text_puts text 0 held) image) (call.Symlink dir name text wanted, cred) now dir.ino name d i (new_link wanted cred text now) text-inode target b1 b2 maps direct single b3
  text-longer target b2 maps direct single b3 y = record { making = text-making; new = text-new; raised = text-raised; full = y.full; room = y.room; inode = text-puts; longer = y.longer; directory = y.directory }

  pub symlink-plan : (b2 b3 : List ℕ) → TakesSlot (put_all (text_puts text 0 held) image) now dir.ino name d i b1 b2 b3
      → IsPlanOf image ((call.Symlink dir name text wanted, cred) ∷ []) now (text_puts text 0 held ++ in_place_puts (put_all (text_puts text 0 held) image) dir.ino d i b1 b2 b3)
  symlink-plan b2 b3 y = quiet-plan image ((call.Symlink dir name text wanted, cred) ∷ []) now (text_puts text 0 held) (in_place_puts (put_all (text_puts text 0 held) image) dir.ino d i b1 b2 b3) text-quiet strong.weak
      (create-plan (put_all (text_puts text 0 held) image) (call.Symlink dir name text wanted, cred) now dir.ino name d i (new_link wanted cred text now) text-strong text-making text-inode text-new text-raised b1 text-puts y.inside b2 b3 y.entry y.times)

  pub symlink-growing : (target : Place → ℕ) (b2 : List ℕ) (maps : List (ℕ × List ℕ)) (direct : List ℕ) (single : ℕ) (b3 : List ℕ) → AddsSlot (put_all (text_puts text 0 held) image) now dir.ino name d i target b1 b2 maps direct single b3
      → IsPlanOf image ((call.Symlink dir name text wanted, cred) ∷ []) now (text_puts text 0 held ++ longer_puts dir.ino d i target b1 b2 maps b3)
  symlink-growing target b2 maps direct single b3 y = quiet-plan image ((call.Symlink dir name text wanted, cred) ∷ []) now (text_puts text 0 held) (longer_puts dir.ino d i target b1 b2 maps b3) text-quiet strong.weak
      (longer-plan (put_all (text_puts text 0 held) image) (call.Symlink dir name text wanted, cred) now dir.ino name d i (new_link wanted cred text now) text-inode target b1 b2 maps direct single b3 text-strong (text-longer target b2 maps direct single b3 y))
