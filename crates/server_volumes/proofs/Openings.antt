-- The opening of a volume on a store.
use Rattle.std.proofs.Common.{arith, ◌≡◌, ◌≢◌, inl, inr, ◌∙◌, ℕ, ◌+◌, ◌<◌, ◌==◌, cond, Some, None, List, [], refl, sym, ap}
use Rattle.std.specs.FinMap.{get}
use Rattle.files_model.specs.Files.{Files}
use Rattle.files_model.proofs.Maps.{get-tabulated}
use Rattle.stable.specs.Counts.{Rose}
use Rattle.stable.specs.States.{StaysOrFails}
use Rattle.stable.specs.Store.{Image}
use Rattle.stable.specs.declared.state.State.{State}
use Rattle.stable.specs.declared.state.State.TheVariants.{Up}
use Rattle.stable.specs.declared.store.Stable.{Ghosts}
use Rattle.v7_map.specs.Frame.{Frame, frame}
use Rattle.v7_map.specs.Image.{inode_at}
use Rattle.v7_map.specs.Tree.{tree}
use Rattle.v7_map.specs.View.{view, files_of}
use Rattle.v7_map.specs.Weak.{IsWeak}
use Rattle.v7_damage.specs.declared.damage.RepairFault.{RepairFault}
use Rattle.v7_damage.specs.declared.damage.RepairFault.TheVariants as repair
use Rattle.volume.specs.Keeps.{MayOpen}
use Rattle.volume.specs.Opens.{Refuses, name_in, root_in}
use Rattle.nfs_worker.specs.Account.{Grew}
use Rattle.server_volumes.specs.Opens.{IsRefusedAs}

-- the opening keeps the volume's name
pub name_stays : (old new : Image) → MayOpen old new → name_in new ≡ name_in old
name_stays old new (inl same) = ap (λ (i : Image). name_in i) same
name_stays old new (inr keeps) = keeps.name

-- ---- the root

generation_in : (image : Image) → 2 < (tree (frame image)).inodes + 1 → get (view image).generations 2 ≡ Some (inode_at image 2).generation
unfolding view files_of
generation_in image high = get-tabulated (λ i. cond (i == 0) None (Some (inode_at image i).generation)) ((tree (frame image)).inodes + 1) 2 high

has_root : (f : Frame) → IsWeak f → 2 < (tree f).inodes + 1
has_root f weak = let low = weak.sizes.low in omega (arith, low)

same_inside : (m n : ℕ) → Some m ≡ Some n → m ≡ n
same_inside m n is = cc

-- the opening keeps the volume's root
pub root_stays : (old new : Image) → IsWeak (frame old) → MayOpen old new → root_in new ≡ root_in old
root_stays old new weak (inl same) = ap (λ (i : Image). root_in i) same
root_stays old new weak (inr keeps) =
    let before = generation_in old (has_root (frame old) weak) in
    let after = generation_in new (has_root (frame new) keeps.files.weak) in
    ap (λ (n : ℕ). record { ino = 2; generation = n }) (same_inside _ _ (sym after ∙ ap (λ (f : Files). get f.generations 2) keeps.files.view ∙ before))

-- ---- the store's state

-- a store that wasn't UP has the state that it had
pub state_stays : (was now opened : State) (before after : ℕ) → StaysOrFails was now before after → opened ≡ now → was ≢ Up → opened ≡ was
state_stays was now opened before after (inl same) is not = is ∙ same
state_stays was now opened before after (inr failed) is not = absurd (not failed.0)

module _ {V : Type 0} (s : Ghosts V) where
  -- an opening that was refused
  pub refused_as : (store store' : V) (fault : RepairFault) → (s.tells → Refuses (s.image store) fault (s.image store')) → (fault ≡ repair.Failed → Rose (s.faults store) (s.faults store')) → Grew s store store' [] → IsRefusedAs s store store' fault
  refused_as store store' (repair.Damaged sector which) refuses failed grows = record { damage = λ told. (refuses told).0; same = λ told not. (refuses told).1; failed = failed; grows = grows }
  refused_as store store' repair.Failed refuses failed grows = record { damage = λ told. tt; same = λ told not. absurd (not refl); failed = failed; grows = grows }
  refused_as store store' repair.NoMemory refuses failed grows = record { damage = λ told. tt; same = λ told not. refuses told; failed = failed; grows = grows }
