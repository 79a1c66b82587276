-- The view after one slot of a directory changed, node by node, whatever numbers the slot named before and names now.
use Rattle.std.proofs.Common.{◌≡◌, ◌≢◌, ℕ, ◌+◌, ◌-◌, ◌<◌, ◌≤◌, cond, ◌||◌, ◌==◌, if◌then◌else◌, List, set, sym, ap, subst, ◌∙◌, arith, ⊎_elim, ltb, Option, Some, None}
use Rattle.std.proofs.lemmas.Bool.{cases_lt}
use Rattle.std.specs.FinMap.{get}
use Rattle.files_model.specs.Files.{Node, Files, Slot, tabulated}
use Rattle.files_model.proofs.Maps.{get-tabulated, get-tabulated_above}
use Rattle.stable.specs.Store.{Image}
use Rattle.v7_map.specs.Image.{sector_at, inode_at, is_read_only}
use Rattle.v7_map.specs.Frame.{frame}
use Rattle.v7_map.specs.Tree.{tree, is_named, links, is_slot_of}
use Rattle.v7_map.specs.Weak.{IsWeak, slot_at}
use Rattle.v7_map.specs.View.{view, files_of, node_of, node_at, body_at}
use Rattle.v7_map.proofs.Nodes.{view-node}
use Rattle.v7_strokes.specs.Slots.{SlotChange, PutsEntry}
use Rattle.v7_strokes.proofs.SlotPut.{slot-frame, slot-view, slot-length}
use Rattle.v7_strokes.proofs.SlotStep.{entry-below, step-change, step-slot, step-links_other, step-is_walked, walked-dir, walked-number}
use Rattle.v7_strokes.proofs.Views.{view-get, view-get_above, set_is}

module _ (old : Image) (d k a : ℕ) (bytes : List ℕ) (s : Slot) (weak : IsWeak (frame old)) (x : PutsEntry old d k a bytes s) where
  new : Image
  new = set old a bytes

  change : SlotChange (tree (frame old)) (tree (frame new)) d k
  unfolding new
  change = step-change old d k a bytes s weak x

  links_same : (j : ℕ) → is_slot_of j (slot_at (tree (frame old)) d k) ≡ is_slot_of j s → links (tree (frame new)) j ≡ links (tree (frame old)) j
  unfolding new
  links_same j e = step-links_other old d k a bytes s weak x j e

  named_same : (j : ℕ) → is_slot_of j (slot_at (tree (frame old)) d k) ≡ is_slot_of j s → is_named (tree (frame new)) j ≡ is_named (tree (frame old)) j
  unfolding new
  named_same j e z = step-is_walked old d k a bytes s weak x j z || ltb 0 (links_same j e z)

  the_view : view new ≡ files_of (tree (frame new)) ((frame old).fsize - (frame old).isize) (inode_at old) (body_at old (frame old)) (is_read_only (sector_at old 1))
  unfolding new
  the_view = slot-view old d k a bytes s weak (walked-dir old d x.walked) (entry-below old d k a bytes s x) x.is x.puts
      ∙ ap (λ f. files_of (tree f) ((frame old).fsize - (frame old).isize) (inode_at old) (body_at old (frame old)) (is_read_only (sector_at old 1))) (sym (slot-frame old d k a bytes s weak (walked-dir old d x.walked) (entry-below old d k a bytes s x) x.is x.puts))

  after_if : ℕ → Option Node
  after_if j = cond (is_named (tree (frame new)) j) (Some (node_of (tree (frame new)) j (inode_at old j) (body_at old (frame old) j))) None

  get_new : (j : ℕ) → j < (tree (frame old)).inodes + 1 → get (view new).nodes j ≡ after_if j
  unfolding after_if files_of
  get_new j lt = ap (λ f. get f.nodes j) the_view ∙ get-tabulated after_if ((tree (frame new)).inodes + 1) j (subst (λ n. j < n + 1) (sym change.inodes) lt)

  get_new_above : (j : ℕ) → (tree (frame old)).inodes + 1 ≤ j → get (view new).nodes j ≡ None
  unfolding after_if files_of
  get_new_above j ge = ap (λ f. get f.nodes j) the_view ∙ get-tabulated_above after_if ((tree (frame new)).inodes + 1) j (subst (λ n. n + 1 ≤ j) (sym change.inodes) ge)

  -- what the slot names as often as before
  pub slot-node_other : (j : ℕ) → j ≢ d → is_slot_of j (slot_at (tree (frame old)) d k) ≡ is_slot_of j s → get (view (set old a bytes)).nodes j ≡ get (view old).nodes j
  unfolding new after_if
  slot-node_other j nd e = ⊎_elim
      (λ (lt : j < (tree (frame old)).inodes + 1). get_new j lt
      ∙ (λ z. cond (named_same j e z) (Some (record (node_at old j) { nlink = links_same j e z; slots = change.others j nd z })) None)
      ∙ sym (view-get old j lt))
      (λ (ge : (tree (frame old)).inodes + 1 ≤ j). get_new_above j ge ∙ sym (view-get_above old j ge))
      (cases_lt j ((tree (frame old)).inodes + 1))

  -- and what it doesn't
  pub slot-node_counted : (j : ℕ) → j ≢ d → j < (tree (frame old)).inodes + 1
      → get (view (set old a bytes)).nodes j ≡ cond (is_named (tree (frame (set old a bytes))) j) (Some (record (node_at old j) { nlink = links (tree (frame (set old a bytes))) j })) None
  unfolding new after_if
  slot-node_counted j nd within = get_new j within ∙ (λ z. cond (is_named (tree (frame new)) j) (Some (record (node_at old j) { nlink = links (tree (frame new)) j; slots = change.others j nd z })) None)

  same_slots : (n : Node) → get (view old).nodes d ≡ Some n → (tree (frame new)).slots d ≡ set n.slots k s
  unfolding new
  same_slots n at =
      let sd = view-node old d n at in
      let slots : (tree (frame old)).slots d ≡ n.slots = ap (λ (m : Node). m.slots) sd.is in
      let lengths = slot-length old d k a bytes s weak (walked-dir old d x.walked) (entry-below old d k a bytes s x) x.is x.puts in
      set_is ((tree (frame old)).slots d) ((tree (frame new)).slots d) k s (subst (λ z. k < z) (sym lengths.1) x.inside) (lengths.0 ∙ sym lengths.1) change.rest (step-slot old d k a bytes s weak x) ∙ ap (λ x. set x k s) slots

  -- the directory has the new slots
  pub slot-node_dir : (n : Node) → get (view old).nodes d ≡ Some n → is_slot_of d (slot_at (tree (frame old)) d k) ≡ is_slot_of d s → get (view (set old a bytes)).nodes d ≡ Some (record n { slots = set n.slots k s })
  unfolding after_if new
  slot-node_dir n at e =
      let sd = view-node old d n at in
      let lt : d < (tree (frame old)).inodes + 1 = let h = walked-number old d x.walked in let high = h.1 in omega arith in
      get_new d lt
      ∙ (λ z. cond ((named_same d e ∙ sd.named) z) (Some (record (node_at old d) { nlink = links_same d e z; slots = (tree (frame new)).slots d })) None)
      ∙ ap (λ (m : Node). Some (record m { slots = (tree (frame new)).slots d })) sd.is ∙ (λ z. Some (record n { slots = same_slots n at z }))

  the_generations : (view new).generations ≡ (view old).generations
  unfolding view files_of
  the_generations = ap (λ (f : Files). f.generations) the_view ∙ (λ z. tabulated (λ j. if j == 0 then None else Some (inode_at old j).generation) (change.inodes z + 1))

  pub slot-rest : view (set old a bytes) ≡ record (view old) { nodes = (view (set old a bytes)).nodes }
  unfolding view files_of new
  slot-rest = let inodes : (view new).inodes ≡ (view old).inodes = ap (λ (f : Files). f.inodes) the_view ∙ change.inodes in
      let blocks : (view new).blocks ≡ (view old).blocks = ap (λ (f : Files). f.blocks) the_view in
      let read_only : (view new).read_only ≡ (view old).read_only = ap (λ (f : Files). f.read_only) the_view in
      λ z. record { nodes = (view new).nodes; generations = the_generations z; inodes = inodes z; blocks = blocks z; read_only = read_only z }
