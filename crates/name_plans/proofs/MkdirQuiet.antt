-- MKDIR with the put of the new directory's sector, which stands nowhere yet, before all others.
use Rattle.std.proofs.Common.{◌≡◌, ℕ, ◌+◌, ◌<◌, ◌%◌, List, [], ◌∷◌, ◌++◌, set, refl, sym, ap, subst, ◌∙◌, arith, unwrap_or, get_or-set_same}
use Rattle.std.specs.FinMap.{get}
use Rattle.files_model.specs.declared.attributes.FileId.{FileId}
use Rattle.files_model.specs.declared.attributes.Sattr.{Sattr}
use Rattle.files_model.specs.declared.credential.Cred.{Cred}
use Rattle.files_model.specs.declared.call.Call.TheVariants as call
use Rattle.files_model.specs.Files.{Node, Files}
use Rattle.files_model.specs.NameRows.{new_directory}
use Rattle.stable.specs.Store.{Image}
use Rattle.v7_layout.specs.Numbers.{part}
use Rattle.v7_layout.specs.declared.inode.Inode.{Inode}
use Rattle.v7_map.specs.Image.{sector_at}
use Rattle.v7_map.specs.Frame.{slot_of, frame}
use Rattle.v7_map.specs.View.{view}
use Rattle.v7_map.specs.Weak.{IsStrong}
use Rattle.v7_map.specs.Plan.{PutsInode}
use Rattle.v7_map.specs.Plans.{IsPlanOf}
use Rattle.v7_plans.specs.Quiet.{IsQuiet}
use Rattle.v7_plans.proofs.Quieting.{quiet-plan, quiet-view}
use Rattle.v7_sets.specs.Sets.{IsFreeBlock}
use Rattle.v7_strokes.specs.Entries.{inode_put}
use Rattle.v7_strokes.specs.Inodes.{made_inode, placed_inode}
use Rattle.v7_strokes.specs.NewNodes.{IsNewDirectory}
use Rattle.v7_strokes.proofs.FreeQuiet.{free-quiet}
use Rattle.v7_strokes.proofs.NewBody.{new-directory}
use Rattle.name_plans.specs.CreatingPuts.{in_place_puts}
use Rattle.name_plans.specs.MakingDirectory.{IsMkdir, PutsDots, EntersInPlace, EntersAtEnd}
use Rattle.name_plans.proofs.MkdirAccepted.{IsMakingDirectory, mkdir-making}
use Rattle.name_plans.proofs.MkdirInPlace.{mkdir-plan}
use Rattle.name_plans.proofs.MkdirAtEnd.{mkdir-growing}

module _ (image : Image) (dir : FileId) (name : List ℕ) (wanted : Sattr) (cred : Cred) (now : ℕ) (d : Node) (i a : ℕ) (b0 b1 : List ℕ) (strong : IsStrong (frame image)) (c : IsMkdir (view image) dir name wanted cred now d i)
    (x : PutsDots image dir.ino i (new_directory wanted cred i dir.ino now) a b0 b1) where
  m : Node
  m = new_directory wanted cred i dir.ino now

  unfoldable pub dots-inode : Inode
  dots-inode = placed_inode (new_directory wanted cred i dir.ino now) (unwrap_or (get (view image).generations i) 0 + 1) a

  quiet : IsQuiet image (a, b0)
  quiet = free-quiet image a b0 strong.weak x.free x.dots.long

  pub dots-frame : frame (set image a b0) ≡ frame image
  dots-frame = quiet.same_frame

  pub dots-view : view (set image a b0) ≡ view image
  dots-view = quiet-view ((a, b0) ∷ []) image (quiet, tt)

  pub dots-strong : IsStrong (frame (set image a b0))
  dots-strong = subst IsStrong (sym dots-frame) strong

  pub dots-making : IsMakingDirectory (view (set image a b0)) (call.Mkdir dir name wanted, cred) now dir.ino name d i (new_directory wanted cred i dir.ino now)
  dots-making = subst (λ f. IsMakingDirectory f (call.Mkdir dir name wanted, cred) now dir.ino name d i (new_directory wanted cred i dir.ino now)) (sym dots-view) (mkdir-making image dir name wanted cred now d i strong c)

  there : sector_at (set image a b0) a ≡ b0
  unfolding frame
  there = let high = x.free.high in let within = strong.weak.sizes.within in get_or-set_same image a b0 [] (omega arith)

  low_bits : (k : ℕ) → k % 4096 < 4096
  low_bits k = omega arith

  pub dots-new : IsNewDirectory (set image a b0) dir.ino i dots-inode (new_directory wanted cred i dir.ino now)
  unfolding dots-inode
  dots-new = new-directory (set image a b0) i dir.ino a (unwrap_or (get (view image).generations i) 0 + 1) (new_directory wanted cred i dir.ino now) dots-strong.weak (subst (λ f. IsFreeBlock f a) (sym dots-frame) x.free)
      refl (low_bits (unwrap_or wanted.mode 511)) refl refl refl refl
      (ap (λ s. slot_of (part s 0 16)) there ∙ x.dots.self) (ap (λ s. slot_of (part s 16 16)) there ∙ x.dots.up)

  pub dots-raised : dots-inode.generation ≡ unwrap_or (get (view (set image a b0)).generations i) 0 + 1
  unfolding dots-inode placed_inode made_inode
  dots-raised = ap (λ (f : Files). unwrap_or (get f.generations i) 0 + 1) (sym dots-view)

  pub dots-puts : PutsInode (set image a b0) i b1 dots-inode
  unfolding dots-inode
  dots-puts = x.inode

  pub dots-in_place : (b2 b3 : List ℕ) → EntersInPlace (set image a b0) now dir.ino name d i b1 b2 b3 → IsPlanOf image ((call.Mkdir dir name wanted, cred) ∷ []) now ((a, b0) ∷ in_place_puts (set image a b0) dir.ino d i b1 b2 b3)
  dots-in_place b2 b3 y = quiet-plan image ((call.Mkdir dir name wanted, cred) ∷ []) now ((a, b0) ∷ []) (in_place_puts (set image a b0) dir.ino d i b1 b2 b3) (quiet, tt) strong.weak
      (mkdir-plan (set image a b0) (call.Mkdir dir name wanted, cred) now dir.ino name d i (new_directory wanted cred i dir.ino now) dots-inode b1 b2 b3 dots-strong dots-making dots-new dots-raised dots-puts y)

  pub dots-at_end : (g : Inode) (b3 : List ℕ) (inner : List (ℕ × List ℕ)) → EntersAtEnd (set image a b0) now dir.ino name d i g b1 b3 inner → IsPlanOf image ((call.Mkdir dir name wanted, cred) ∷ []) now ((a, b0) ∷ inode_put i b1 ∷ (inner ++ inode_put dir.ino b3 ∷ []))
  dots-at_end g b3 inner y = quiet-plan image ((call.Mkdir dir name wanted, cred) ∷ []) now ((a, b0) ∷ []) (inode_put i b1 ∷ (inner ++ inode_put dir.ino b3 ∷ [])) (quiet, tt) strong.weak
      (mkdir-growing (set image a b0) (call.Mkdir dir name wanted, cred) now dir.ino name d i (new_directory wanted cred i dir.ino now) dots-inode g b1 b3 inner dots-strong dots-making dots-new dots-raised dots-puts y)
