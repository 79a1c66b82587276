-- The put of a slot that names no directory before or after: what it does to Weak, Strong and the counts.
use Rattle.std.proofs.Common.{◌≡◌, ◌≢◌, ℕ, ◌+◌, ◌/◌, ◌<◌, ◌≤◌, true, false, ◌==◌, List, length, set, sym, ap, subst, ◌∙◌, arith, ⊎_elim}
use Rattle.std.proofs.lemmas.Bool.{cases_Bool}
use Rattle.std.specs.List.{list_any}
use Rattle.files_model.specs.Files.{Slot, sectors_of}
use Rattle.stable.specs.Store.{Image}
use Rattle.v7_map.specs.Frame.{Frame, Place, Body, is_directory, frame}
use Rattle.v7_map.specs.Tree.{tree, is_walked, links, walked, is_slot_of}
use Rattle.v7_map.specs.Weak.{IsWeak, IsTree, slot_at}
use Rattle.v7_map.proofs.AnyFrame.{frame-IsFrame}
use Rattle.v7_map.proofs.Ranges.{address-inside}
use Rattle.v7_map.proofs.Used.{walked_is_dir}
use Rattle.v7_map.proofs.Walks.{walked_reached}
use Rattle.v7_strokes.specs.Slots.{SlotChange, PutsEntry}
use Rattle.v7_strokes.proofs.Slots.{change-walked, change-links, change-IsTree}
use Rattle.v7_strokes.proofs.SlotPut.{slot-frame, slot-change, slot-here}
use Rattle.v7_plans.proofs.Local.{IsStrongFor}
use Rattle.v7_strokes.proofs.Exempt.{weak_slots, strong_for_slots}
use Rattle.v7_strokes.specs.Left.{one}

pub walked-dir : (image : Image) (d : ℕ) → is_walked (tree (frame image)) d ≡ true → is_directory ((frame image).head d) ≡ true
walked-dir image d w = walked_is_dir {t = tree (frame image)} (walked_reached (tree (frame image)) d w)

pub used-number : (image : Image) (d : ℕ) → ((frame image).head d).is_used ≡ true → (1 ≤ d) × (d < 1 + (tree (frame image)).inodes)
used-number image d u = let r = (frame-IsFrame image).numbers d u in let high = r.1 in (r.0, omega arith)

pub walked-number : (image : Image) (d : ℕ) → is_walked (tree (frame image)) d ≡ true → (1 ≤ d) × (d < 1 + (tree (frame image)).inodes)
walked-number image d w = used-number image d ((frame-IsFrame image).directories d (walked-dir image d w))

pub entry-below : (old : Image) (d k a : ℕ) (bytes : List ℕ) (s : Slot) → PutsEntry old d k a bytes s → k / 32 < sectors_of ((frame old).head d).size
entry-below old d k a bytes s x = let i = x.inside in omega arith

module _ (old : Image) (d k a : ℕ) (bytes : List ℕ) (s : Slot) (weak : IsWeak (frame old)) (x : PutsEntry old d k a bytes s) where
  dir : is_directory ((frame old).head d) ≡ true
  dir = walked-dir old d x.walked

  at : (1 ≤ d) × (d < 1 + (tree (frame old)).inodes)
  at = walked-number old d x.walked

  held : (frame old).address d (Body (k / 32)) ≢ 0
  held = let i = x.inside in weak.needed d (k / 32) dir (omega arith)

  -- the sector that is put stands in the image
  pub entry-inside : (3 ≤ a) × (a < length old)
  entry-inside = let r = address-inside old weak d (Body (k / 32)) held in (subst (λ z. 3 ≤ z) x.is r.0, subst (λ z. z < length old) x.is r.2)

  next : Frame
  next = record (frame old) { slots = (frame (set old a bytes)).slots }

  same : frame (set old a bytes) ≡ next
  unfolding next
  same = slot-frame old d k a bytes s weak dir (entry-below old d k a bytes s x) x.is x.puts

  change : SlotChange (tree (frame old)) (tree next) d k
  unfolding next
  change = slot-change old d k a bytes s weak dir (entry-below old d k a bytes s x) x.is x.puts x.inside x.past x.alike

  slot : slot_at (tree next) d k ≡ s
  unfolding next
  slot = slot-here old d k a bytes s weak dir (entry-below old d k a bytes s x) x.is x.puts x.inside

  counts : (j : ℕ) → links (tree next) j + one (is_slot_of j (slot_at (tree (frame old)) d k)) ≡ links (tree (frame old)) j + one (is_slot_of j s)
  unfolding next
  counts j = change-links (tree (frame old)) (tree next) d k change j at.0 at.1 x.walked ∙ ap (λ z. links (tree (frame old)) j + one (is_slot_of j z)) slot

  linked : (j : ℕ) → links (tree next) j ≤ 65535
  linked j = ⊎_elim
      (λ (e : is_slot_of j s ≡ true). ⊎_elim
      (λ (h : is_slot_of j (slot_at (tree (frame old)) d k) ≡ true).
      let c = counts j in let b = weak.names.linked j in let o : ◌≡◌ {A = ℕ} (one (is_slot_of j s)) 1 = ap one e in let q : ◌≡◌ {A = ℕ} (one (is_slot_of j (slot_at (tree (frame old)) d k))) 1 = ap one h in omega arith)
      (λ (h : is_slot_of j (slot_at (tree (frame old)) d k) ≡ false).
      let c = counts j in let b = x.bound j e h in let o : ◌≡◌ {A = ℕ} (one (is_slot_of j s)) 1 = ap one e in omega arith)
      (cases_Bool (is_slot_of j (slot_at (tree (frame old)) d k))))
      (λ (e : is_slot_of j s ≡ false). let c = counts j in let b = weak.names.linked j in let o : ◌≡◌ {A = ℕ} (one (is_slot_of j s)) 0 = ap one e in omega arith)
      (cases_Bool (is_slot_of j s))

  names : IsTree next (tree next)
  unfolding next
  names = change-IsTree (tree (frame old)) (tree next) d k change (frame old) next weak.names (λ j u. u) (λ j name e. x.used j name (sym slot ∙ e)) linked

  weak_next : IsWeak next
  unfolding next
  weak_next = weak_slots (frame old) (frame (set old a bytes)).slots weak names

  pub step-weak : IsWeak (frame (set old a bytes))
  step-weak = subst IsWeak (sym same) weak_next

  strong_next : (K : ℕ → Type 0) → IsStrongFor K (frame old) → ((j : ℕ) → K j → is_slot_of j (slot_at (tree (frame old)) d k) ≡ is_slot_of j s) → IsStrongFor K next
  unfolding next
  strong_next K strong only = strong_for_slots d k K (frame old) (frame (set old a bytes)).slots strong weak_next change at x.walked (λ j l. only j l ∙ ap (is_slot_of j) (sym slot))

  pub step-strong : (K : ℕ → Type 0) → IsStrongFor K (frame old) → ((j : ℕ) → K j → is_slot_of j (slot_at (tree (frame old)) d k) ≡ is_slot_of j s) → IsStrongFor K (frame (set old a bytes))
  step-strong K strong only = subst (IsStrongFor K) (sym same) (strong_next K strong only)

  pub step-walked : walked (tree (frame (set old a bytes))) ≡ walked (tree (frame old))
  unfolding next
  step-walked = ap (λ f. walked (tree f)) same ∙ change-walked (tree (frame old)) (tree next) d k change

  pub step-is_walked : (j : ℕ) → is_walked (tree (frame (set old a bytes))) j ≡ is_walked (tree (frame old)) j
  step-is_walked j z = list_any (λ q. q == j) (step-walked z)

  pub step-links : (j : ℕ) → links (tree (frame (set old a bytes))) j + one (is_slot_of j (slot_at (tree (frame old)) d k)) ≡ links (tree (frame old)) j + one (is_slot_of j s)
  step-links j = ap (λ f. links (tree f) j + one (is_slot_of j (slot_at (tree (frame old)) d k))) same ∙ counts j

  pub step-links_other : (j : ℕ) → is_slot_of j (slot_at (tree (frame old)) d k) ≡ is_slot_of j s → links (tree (frame (set old a bytes))) j ≡ links (tree (frame old)) j
  step-links_other j e = let c = step-links j in let o : ◌≡◌ {A = ℕ} (one (is_slot_of j (slot_at (tree (frame old)) d k))) (one (is_slot_of j s)) = ap one e in omega arith

  pub step-change : SlotChange (tree (frame old)) (tree (frame (set old a bytes))) d k
  unfolding next
  step-change = subst (λ f. SlotChange (tree (frame old)) (tree f) d k) (sym same) change

  pub step-slot : slot_at (tree (frame (set old a bytes))) d k ≡ s
  step-slot = ap (λ f. slot_at (tree f) d k) same ∙ slot

  pub step-heads : (j : ℕ) → (frame (set old a bytes)).head j ≡ (frame old).head j
  unfolding next
  step-heads j = ap (λ (f : Frame). f.head j) same

  pub step-sizes : ((frame (set old a bytes)).isize ≡ (frame old).isize) × ((frame (set old a bytes)).fsize ≡ (frame old).fsize)
  unfolding next
  step-sizes = (ap (λ (f : Frame). f.isize) same, ap (λ (f : Frame). f.fsize) same)

  pub step-addresses : (j : ℕ) (p : Place) → (frame (set old a bytes)).address j p ≡ (frame old).address j p
  unfolding next
  step-addresses j p = ap (λ (f : Frame). f.address j p) same
