-- Views, node by node; and the files after one slot of a directory changed.
use Rattle.std.proofs.Common.{◌≡◌, ◌≢◌, ℕ, suc, ◌+◌, ◌-◌, ◌<◌, ◌≤◌, cond, ◌||◌, ◌==◌, if◌then◌else◌, List, [], ◌∷◌, length, get_or, set, refl, sym, ap, subst, ◌∙◌, arith, ⊎_elim, eq-eqb, ltb, Option, Some, None, length-set, get_or-set_other, get_or-set_same, nat_cmp}
use Rattle.std.proofs.lemmas.Bool.{cases_eq, cases_lt, ne_eqb}
use Rattle.std.proofs.lemmas.Cmp.{nat_cmp_total}
use Rattle.std.specs.Cmp.{unsigned_tied}
use Rattle.std.specs.FinMap.{FinMap, get, insert, get-remove}
use Rattle.files_model.specs.Files.{Node, Files, Slot, tabulated}
use Rattle.files_model.proofs.Maps.{same_maps, get-insert_same, get-insert_other, get-tabulated, get-tabulated_above}
use Rattle.stable.specs.Store.{Image}
use Rattle.v7_map.specs.Image.{sector_at, inode_at, is_read_only}
use Rattle.v7_map.specs.Frame.{frame}
use Rattle.v7_map.specs.Tree.{Tree, tree, is_named, links, is_slot_of}
use Rattle.v7_map.specs.Weak.{IsWeak, slot_at}
use Rattle.v7_map.specs.View.{view, files_of, node_of, node_at, body_at}
use Rattle.v7_map.proofs.Nodes.{view-node}
use Rattle.v7_strokes.specs.Slots.{SlotChange, PutsEntry}
use Rattle.v7_strokes.proofs.SlotPut.{slot-frame, slot-view, slot-length}
use Rattle.v7_strokes.proofs.SlotStep.{entry-below, step-change, step-slot, step-links_other, step-is_walked, walked-dir, walked-number}
use Rattle.v7_strokes.specs.Changes.{node_if, put_option}

pub view-get : (image : Image) (j : ℕ) → j < (tree (frame image)).inodes + 1 → get (view image).nodes j ≡ node_if image j
unfolding view files_of
view-get image j lt = get-tabulated (node_if image) ((tree (frame image)).inodes + 1) j lt

pub view-get_above : (image : Image) (j : ℕ) → (tree (frame image)).inodes + 1 ≤ j → get (view image).nodes j ≡ None
unfolding view files_of
view-get_above image j ge = get-tabulated_above (node_if image) ((tree (frame image)).inodes + 1) j ge

pub view-inodes : (image : Image) → (view image).inodes ≡ (tree (frame image)).inodes
unfolding view files_of
view-inodes image = refl

pub view-generation : (image : Image) (i : ℕ) → i ≢ 0 → i < (tree (frame image)).inodes + 1 → get (view image).generations i ≡ Some (inode_at image i).generation
unfolding view files_of
view-generation image i nz lt = get-tabulated (λ j. if j == 0 then None else Some (inode_at image j).generation) ((tree (frame image)).inodes + 1) i lt
    ∙ ap (λ b. if b then None else Some (inode_at image i).generation) (ne_eqb i 0 nz)

-- the view says how many inodes there are
pub same-within : (old new : Image) (i : ℕ) → (view new).inodes ≡ (view old).inodes → i < (tree (frame old)).inodes + 1 → i < (tree (frame new)).inodes + 1
same-within old new i same lt = let e : (tree (frame new)).inodes ≡ (tree (frame old)).inodes = sym (view-inodes new) ∙ same ∙ view-inodes old in subst (λ n. i < n + 1) (sym e) lt

module _ {X : Type 0} where
  pub get-put_same : (m : FinMap nat_cmp X) (k : ℕ) (o : Option X) → get (put_option m k o) k ≡ o
  get-put_same m k None = get-remove nat_cmp_total m k k ∙ ap (λ b. cond b None (get m k)) (unsigned_tied k k ∙ eq-eqb k k refl)
  get-put_same m k (Some x) = get-insert_same m k x

  pub get-put_other : (m : FinMap nat_cmp X) (k : ℕ) (o : Option X) (q : ℕ) → q ≢ k → get (put_option m k o) q ≡ get m q
  get-put_other m k None q ne = get-remove nat_cmp_total m k q ∙ ap (λ b. cond b None (get m q)) (unsigned_tied q k ∙ ne_eqb q k ne)
  get-put_other m k (Some x) q ne = get-insert_other m k x q ne

pub same_list : (xs ys : List Slot) → length xs ≡ length ys → ((l : ℕ) → get_or xs l None ≡ get_or ys l None) → xs ≡ ys
same_list [] [] long h = refl
same_list [] (y ∷ ys) long h = absurd (omega arith)
same_list (x ∷ xs) [] long h = absurd (omega arith)
same_list (x ∷ xs) (y ∷ ys) long h = λ z. h 0 z ∷ same_list xs ys (omega arith) (λ l. h (suc l)) z

-- a slot set, slot by slot
pub set_is : (xs ys : List Slot) (k : ℕ) (s : Slot) → k < length xs → length ys ≡ length xs → ((l : ℕ) → l ≢ k → get_or ys l None ≡ get_or xs l None) → get_or ys k None ≡ s → ys ≡ set xs k s
set_is xs ys k s lt long rest here = same_list ys (set xs k s) (long ∙ sym (length-set xs k s)) (λ l. ⊎_elim
    (λ (e : l ≡ k). subst (λ z. get_or ys z None ≡ get_or (set xs k s) z None) (sym e) (here ∙ sym (get_or-set_same xs k s None lt)))
    (λ (ne : l ≢ k). rest l ne ∙ sym (get_or-set_other xs k l s None ne))
    (cases_eq l k))

module _ (old : Image) (d k a : ℕ) (bytes : List ℕ) (s : Slot) (weak : IsWeak (frame old)) (x : PutsEntry old d k a bytes s)
    (i : ℕ) (only : (j : ℕ) → j ≢ i → is_slot_of j (slot_at (tree (frame old)) d k) ≡ is_slot_of j s)
    (apart : d ≢ i) (n : Node) (is_dir_node : get (view old).nodes d ≡ Some n) where
  new : Image
  new = set old a bytes

  change : SlotChange (tree (frame old)) (tree (frame new)) d k
  unfolding new
  change = step-change old d k a bytes s weak x

  links_same : (j : ℕ) → j ≢ i → links (tree (frame new)) j ≡ links (tree (frame old)) j
  unfolding new
  links_same j ne = step-links_other old d k a bytes s weak x j (only j ne)

  named_same : (j : ℕ) → j ≢ i → is_named (tree (frame new)) j ≡ is_named (tree (frame old)) j
  unfolding new
  named_same j ne z = step-is_walked old d k a bytes s weak x j z || ltb 0 (links_same j ne z)

  -- inodes and bodies are the same, so of a node only links and slots change
  the_view : view new ≡ files_of (tree (frame new)) ((frame old).fsize - (frame old).isize) (inode_at old) (body_at old (frame old)) (is_read_only (sector_at old 1))
  unfolding new
  the_view = slot-view old d k a bytes s weak (walked-dir old d x.walked) (entry-below old d k a bytes s x) x.is x.puts
      ∙ ap (λ f. files_of (tree f) ((frame old).fsize - (frame old).isize) (inode_at old) (body_at old (frame old)) (is_read_only (sector_at old 1))) (sym (slot-frame old d k a bytes s weak (walked-dir old d x.walked) (entry-below old d k a bytes s x) x.is x.puts))

  abbrev u : Tree
  u = tree (frame (set old a bytes))

  after_if : ℕ → Option Node
  after_if j = cond (is_named (tree (frame new)) j) (Some (node_of (tree (frame new)) j (inode_at old j) (body_at old (frame old) j))) None

  get_new : (j : ℕ) → j < (tree (frame old)).inodes + 1 → get (view new).nodes j ≡ after_if j
  unfolding after_if files_of
  get_new j lt = ap (λ f. get f.nodes j) the_view ∙ get-tabulated after_if ((tree (frame new)).inodes + 1) j (subst (λ n. j < n + 1) (sym change.inodes) lt)

  get_new_above : (j : ℕ) → (tree (frame old)).inodes + 1 ≤ j → get (view new).nodes j ≡ None
  unfolding after_if files_of
  get_new_above j ge = ap (λ f. get f.nodes j) the_view ∙ get-tabulated_above after_if ((tree (frame new)).inodes + 1) j (subst (λ n. n + 1 ≤ j) (sym change.inodes) ge)

  -- the nodes apart from the directory and inode i
  node_other : (j : ℕ) → j ≢ i → j ≢ d → get (view new).nodes j ≡ get (view old).nodes j
  unfolding after_if
  node_other j ne nd = ⊎_elim
      (λ (lt : j < (tree (frame old)).inodes + 1). get_new j lt
      ∙ (λ z. cond (named_same j ne z) (Some (record (node_at old j) { nlink = links_same j ne z; slots = change.others j nd z })) None)
      ∙ sym (view-get old j lt))
      (λ (ge : (tree (frame old)).inodes + 1 ≤ j). get_new_above j ge ∙ sym (view-get_above old j ge))
      (cases_lt j ((tree (frame old)).inodes + 1))

  same_slots : u.slots d ≡ set n.slots k s
  unfolding new
  same_slots =
      let sd = view-node old d n is_dir_node in
      let slots : (tree (frame old)).slots d ≡ n.slots = ap (λ (m : Node). m.slots) sd.is in
      let lengths = slot-length old d k a bytes s weak (walked-dir old d x.walked) (entry-below old d k a bytes s x) x.is x.puts in
      set_is ((tree (frame old)).slots d) ((tree (frame new)).slots d) k s (subst (λ z. k < z) (sym lengths.1) x.inside) (lengths.0 ∙ sym lengths.1) change.rest (step-slot old d k a bytes s weak x) ∙ ap (λ x. set x k s) slots

  -- the directory has the new slots
  node_dir : get (view new).nodes d ≡ Some (record n { slots = set n.slots k s })
  unfolding after_if new
  node_dir =
      let sd = view-node old d n is_dir_node in
      let lt : d < (tree (frame old)).inodes + 1 = let h = walked-number old d x.walked in let high = h.1 in omega arith in
      get_new d lt
      ∙ (λ z. cond ((named_same d apart ∙ sd.named) z) (Some (record (node_at old d) { nlink = links_same d apart z; slots = u.slots d })) None)
      ∙ ap (λ (m : Node). Some (record m { slots = u.slots d })) sd.is ∙ (λ z. Some (record n { slots = same_slots z }))

  the_generations : (view new).generations ≡ (view old).generations
  unfolding view files_of
  the_generations = ap (λ (f : Files). f.generations) the_view ∙ (λ z. tabulated (λ j. if j == 0 then None else Some (inode_at old j).generation) (change.inodes z + 1))

  rest_same : view new ≡ record (view old) { nodes = (view new).nodes }
  unfolding view files_of
  rest_same = let inodes : (view new).inodes ≡ (view old).inodes = ap (λ (f : Files). f.inodes) the_view ∙ change.inodes in
      let blocks : (view new).blocks ≡ (view old).blocks = ap (λ (f : Files). f.blocks) the_view in
      let read_only : (view new).read_only ≡ (view old).read_only = ap (λ (f : Files). f.read_only) the_view in
      λ z. record { nodes = (view new).nodes; generations = the_generations z; inodes = inodes z; blocks = blocks z; read_only = read_only z }

  -- inode i as it is now
  abbrev here_if : Option Node
  here_if = cond (is_named (tree (frame (set old a bytes))) i) (Some (record (node_at old i) { nlink = links (tree (frame (set old a bytes))) i })) None

  pub view-slot : i < (tree (frame old)).inodes + 1 → view (set old a bytes) ≡ record (view old) {
    nodes = insert (put_option (view old).nodes i (cond (is_named (tree (frame (set old a bytes))) i) (Some (record (node_at old i) { nlink = links (tree (frame (set old a bytes))) i })) None)) d (record n { slots = set n.slots k s });
  }
  unfolding new after_if
  view-slot within = rest_same ∙ (λ z. record (view old) { nodes = nodes z })
    where
      nodes : (view new).nodes ≡ insert (put_option (view old).nodes i here_if) d (record n { slots = set n.slots k s })
      nodes = same_maps (view new).nodes (insert (put_option (view old).nodes i here_if) d (record n { slots = set n.slots k s })) (λ q. ⊎_elim
          (λ (e : q ≡ d). subst (λ z. get (view new).nodes z ≡ get (insert (put_option (view old).nodes i here_if) d (record n { slots = set n.slots k s })) z) (sym e)
          (node_dir ∙ sym (get-insert_same (put_option (view old).nodes i here_if) d (record n { slots = set n.slots k s }))))
          (λ (nd : q ≢ d). ⊎_elim
          (λ (e : q ≡ i). subst (λ z. get (view new).nodes z ≡ get (insert (put_option (view old).nodes i here_if) d (record n { slots = set n.slots k s })) z) (sym e)
          (here ∙ sym (get-insert_other (put_option (view old).nodes i here_if) d (record n { slots = set n.slots k s }) i (λ z. apart (sym z)) ∙ get-put_same (view old).nodes i here_if)))
          (λ (ni : q ≢ i). node_other q ni nd
          ∙ sym (get-insert_other (put_option (view old).nodes i here_if) d (record n { slots = set n.slots k s }) q nd ∙ get-put_other (view old).nodes i here_if q ni))
          (cases_eq q i))
          (cases_eq q d))
        where
          here : get (view new).nodes i ≡ here_if
          here = get_new i within ∙ (λ z. cond (is_named (tree (frame new)) i) (Some (record (node_at old i) { nlink = links (tree (frame new)) i; slots = change.others i (λ q. apart (sym q)) z })) None)
