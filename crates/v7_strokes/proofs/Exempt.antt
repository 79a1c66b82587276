-- Strong for some inodes alone: what keeps it, and how these become fewer or more.
use Rattle.std.proofs.Common.{◌≡◌, ◌⊎◌, ℕ, ◌+◌, ◌<◌, ◌≤◌, true, ◌==◌, ◌||◌, List, sym, ◌∙◌, ⊎_elim, ltb}
use Rattle.std.specs.List.{list_any}
use Rattle.files_model.specs.Files.{Slot}
use Rattle.v7_map.specs.Frame.{Frame}
use Rattle.v7_map.specs.Tree.{tree, is_walked, is_named, links, is_slot_of}
use Rattle.v7_map.specs.Weak.{IsWeak, IsTree, slot_at}
use Rattle.v7_plans.specs.Placed.{IsMine}
use Rattle.v7_strokes.specs.Slots.{SlotChange}
use Rattle.v7_sets.specs.Sets.{IsFreeBlock}
use Rattle.v7_strokes.proofs.Slots.{change-walked, change-links_other}
use Rattle.v7_plans.proofs.Local.{IsStrongFor, IsStrongBut}

pub free-mine : (f : Frame) (i a : ℕ) → IsFreeBlock f a → IsMine f i a
free-mine f i a free = record { low = free.low; high = free.high; others = λ j ne p. free.nowhere j p }

-- it is so for fewer, and for those more that count their links and have one, or are free
pub strong_change : (K L : ℕ → Type 0) (f : Frame) → IsStrongFor K f
    → ((j : ℕ) → L j → (K j) ⊎ ((f.head j).is_used ≡ true → ((f.head j).nlink ≡ links (tree f) j) × (is_named (tree f) j ≡ true))) → IsStrongFor L f
strong_change K L f s h = record {
  weak = s.weak;
  counted = λ j l u. ⊎_elim (λ (k : K j). s.counted j k u) (λ (x : (f.head j).is_used ≡ true → ((f.head j).nlink ≡ links (tree f) j) × (is_named (tree f) j ≡ true)). (x u).0) (h j l);
  named = λ j l u. ⊎_elim (λ (k : K j). s.named j k u) (λ (x : (f.head j).is_used ≡ true → ((f.head j).nlink ≡ links (tree f) j) × (is_named (tree f) j ≡ true)). (x u).1) (h j l);
  none_past = s.none_past;
  single_needed = s.single_needed;
}

-- the same, but for where the sectors of inode p stand

pub strong_but : (K : ℕ → Type 0) (p : ℕ) (f : Frame) → IsStrongFor K f → IsStrongBut K p f
strong_but K p f s = record { weak = s.weak; counted = s.counted; named = s.named; none_past = λ j k _. s.none_past j k; single_needed = λ j _. s.single_needed j }

-- and so does a change of a slot for all that it doesn't name before or after
pub strong_for_slots : (d k : ℕ) (K : ℕ → Type 0) (f : Frame) (slots : ℕ → List Slot) → IsStrongFor K f → IsWeak (record f { slots = slots }) → SlotChange (tree f) (tree (record f { slots = slots })) d k
    → (1 ≤ d) × (d < 1 + (tree f).inodes) → is_walked (tree f) d ≡ true
    → ((j : ℕ) → K j → is_slot_of j (slot_at (tree f) d k) ≡ is_slot_of j (slot_at (tree (record f { slots = slots })) d k)) → IsStrongFor K (record f { slots = slots })
strong_for_slots d k K f slots s weak c at w only = record {
  weak = weak;
  counted = λ j l u. s.counted j l u ∙ sym (change-links_other (tree f) (tree (record f { slots = slots })) d k c j at.0 at.1 w (only j l));
  named = λ j l u. (λ z. list_any (λ q. q == j) (change-walked (tree f) (tree (record f { slots = slots })) d k c z)
      || ltb 0 (change-links_other (tree f) (tree (record f { slots = slots })) d k c j at.0 at.1 w (only j l) z)) ∙ s.named j l u;
  none_past = s.none_past;
  single_needed = s.single_needed;
}

-- slots alone change
pub weak_slots : (f : Frame) (slots : ℕ → List Slot) → IsWeak f → IsTree (record f { slots = slots }) (tree (record f { slots = slots })) → IsWeak (record f { slots = slots })
weak_slots f slots weak names = record {
  sizes = let s = weak.sizes in record { mark = s.mark; low = s.low; high = s.high; above = s.above; within = s.within; not_huge = s.not_huge };
  first = weak.first;
  root = weak.root;
  good = weak.good;
  data_block = weak.data_block;
  needed = weak.needed;
  no_double = weak.no_double;
  unshared = weak.unshared;
  names = names;
}
