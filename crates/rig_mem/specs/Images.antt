-- The images of a rig in memory: what its contract as a rig rests on.
use Rattle.std.proofs.Common.{◌≡◌, inl, inr, ◌≤◌, ◌-◌, ℕ, zero, suc, List, [], ◌∷◌, reverse, refl, arith, subst, sym}
use Rattle.rig.specs.Devices.{Devices, HasShape, sizes_of}
use Rattle.rig_mem.specs.Histories.{LeftSince, undone}
use Rattle.rig_mem.specs.Rigs.{mem_contents, mem_moment, mem_left_since}
use Rattle.rig_mem.specs.declared.change.Change.{Change}
use Rattle.rig_mem.specs.declared.mem_rig.MemRig.{MemRig}

-- what is there now is one of them
pub is_left : (n : ℕ) (changes : List Change) (now : Devices) → LeftSince n changes now now
is_left zero changes now = refl
is_left (suc n) [] now = refl
is_left (suc n) (change ∷ changes) now = inl refl

-- more changes leave more
pub more_left : (n m : ℕ) (changes : List Change) (now d : Devices) → n ≤ m → LeftSince n changes now d → LeftSince m changes now d
more_left zero m changes now d le left = subst (λ (x : Devices). LeftSince m changes now x) (sym left) (is_left m changes now)
more_left (suc n) zero changes now d le left = absurd (omega arith)
more_left (suc n) (suc m) [] now d le left = left
more_left (suc n) (suc m) (change ∷ changes) now d le (inl here) = inl here
more_left (suc n) (suc m) (change ∷ changes) now d le (inr (inl cut)) = inr (inl cut)
more_left (suc n) (suc m) (change ∷ changes) now d le (inr (inr left)) = inr (inr (more_left n m changes (undone change now) d (omega arith) left))

-- what is there now is an image since each moment
pub mem_counts_now : (m : MemRig) (t : ℕ) → mem_left_since m t (mem_contents m)
mem_counts_now m t = (is_left (mem_moment m - t) (reverse m.history.changes.items) (mem_contents m), m.shape)

-- since this moment there is no other
pub mem_only_now : (m : MemRig) (d : Devices) → mem_left_since m (mem_moment m) d → d ≡ mem_contents m
mem_only_now m d left =
    let none : mem_moment m - mem_moment m ≡ 0 = omega arith in
    subst (λ (n : ℕ). LeftSince n (reverse m.history.changes.items) (mem_contents m) d) none left.0

-- an image since a moment is one since each earlier moment
pub mem_wider : (m : MemRig) (t u : ℕ) (d : Devices) → t ≤ u → mem_left_since m u d → mem_left_since m t d
mem_wider m t u d le left = (more_left (mem_moment m - u) (mem_moment m - t) (reverse m.history.changes.items) (mem_contents m) d (omega arith) left.0, left.1)

-- each image is whole
pub mem_shape : (m : MemRig) (t : ℕ) (d : Devices) → mem_left_since m t d → HasShape (sizes_of m.disk.items m.words.items m.buffers.items) d
mem_shape m t d left = left.1
