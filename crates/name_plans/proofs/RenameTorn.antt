-- RENAME of a file from one directory into an empty slot of another: the new slot, the old slot, the two directories' times.
use Rattle.std.proofs.Common.{◌≡◌, ◌≢◌, ℕ, ◌+◌, ◌<◌, List, [], ◌∷◌, length, get_or, set, slice_set, refl, sym, ap, subst, ◌∙◌, inl, inr, ⊎_elim, Option, Some, None, length-set, get_or-set_same}
use Rattle.std.proofs.lemmas.Bool.{cases_eq}
use Rattle.std.proofs.lemmas.List.{set-set, set-get_or}
use Rattle.std.proofs.lemmas.Option.{slice_get-get_or}
use Rattle.std.specs.FinMap.{get, insert}
use Rattle.files_model.specs.declared.attributes.FileId.{FileId}
use Rattle.files_model.specs.declared.attributes.Kind.TheVariants.{Directory}
use Rattle.files_model.specs.declared.credential.Cred.{Cred}
use Rattle.files_model.specs.Files.{Node, Files}
use Rattle.files_model.specs.Answers.{with_node}
use Rattle.files_model.specs.Torn.{Asked, Torn, IsTornNode, with_times, after_calls}
use Rattle.files_model.proofs.Maps.{same_maps, get-insert_same, get-insert_other}
use Rattle.v7_strokes.specs.Changes.{changed}
use Rattle.v7_strokes.proofs.Changed.{changed-here, changed-there, changed-other}
use Rattle.files_model.specs.declared.call.Call.TheVariants as call

-- ---- three nodes changed

module _ (files : Files) (i : ℕ) (x : Option Node) (q : ℕ) (y : Node) (p : ℕ) (z : Node) where
  pub third-here : get (with_node (changed files i x q y) p z).nodes p ≡ Some z
  third-here = get-insert_same (changed files i x q y).nodes p z

  pub third-second : q ≢ p → get (with_node (changed files i x q y) p z).nodes q ≡ Some y
  third-second ne = get-insert_other (changed files i x q y).nodes p z q ne ∙ changed-here files i x q y

  pub third-first : i ≢ p → i ≢ q → get (with_node (changed files i x q y) p z).nodes i ≡ x
  third-first np nq = get-insert_other (changed files i x q y).nodes p z i np ∙ changed-there files i x q y nq

  pub third-other : (j : ℕ) → j ≢ i → j ≢ q → j ≢ p → get (with_node (changed files i x q y) p z).nodes j ≡ get files.nodes j
  third-other j ni nq np = get-insert_other (changed files i x q y).nodes p z j np ∙ changed-other files i x q y j ni nq

  -- the second one changes again
  pub third-middle : q ≢ p → (w : Node) → with_node (with_node (changed files i x q y) p z) q w ≡ with_node (changed files i x q w) p z
  third-middle apart w v = record files {
    nodes = same_maps (insert (insert (changed files i x q y).nodes p z) q w) (insert (changed files i x q w).nodes p z) (λ r. ⊎_elim
        (λ (e : r ≡ q). subst (λ s. get (insert (insert (changed files i x q y).nodes p z) q w) s ≡ get (insert (changed files i x q w).nodes p z) s) (sym e)
        (get-insert_same (insert (changed files i x q y).nodes p z) q w ∙ sym (get-insert_other (changed files i x q w).nodes p z q apart ∙ changed-here files i x q w)))
        (λ (ne : r ≢ q). get-insert_other (insert (changed files i x q y).nodes p z) q w r ne ∙ ⊎_elim
        (λ (s : r ≡ p). subst (λ t. get (insert (changed files i x q y).nodes p z) t ≡ get (insert (changed files i x q w).nodes p z) t) (sym s) (get-insert_same (changed files i x q y).nodes p z ∙ sym (get-insert_same (changed files i x q w).nodes p z)))
        (λ (np : r ≢ p). get-insert_other (changed files i x q y).nodes p z r np ∙ get-insert_other _ q y r ne ∙ sym (get-insert_other (changed files i x q w).nodes p z r np ∙ get-insert_other _ q w r ne))
        (cases_eq r p))
        (cases_eq r q)) v;
  }

torn_same : (o a b t : Option Node) → t ≡ a → b ≡ a → IsTornNode o a b t
torn_same o a b t e f = subst (λ z. IsTornNode o a z t) (sym f) (by o a e)
  where
    by : (o a : Option Node) → t ≡ a → IsTornNode o a a t
    by None None e = e
    by None (Some n) e = e
    by (Some m) None e = e
    by (Some m) (Some n) e = inr e

torn_old : (o a b t : Option Node) (m n r : Node) → o ≡ Some m → a ≡ Some n → b ≡ Some r → t ≡ Some (with_times r m) → IsTornNode o a b t
torn_old o a b t m n r om an br e = subst (λ z. IsTornNode z a b t) (sym om) (subst (λ z. IsTornNode (Some m) z b t) (sym an) (subst (λ z. IsTornNode (Some m) (Some n) z t) (sym br) (inl e)))

-- both slots name the file
module _ (files : Files) (from to : FileId) (name new_name : List ℕ) (cred : Cred) (now i k l : ℕ) (n dp dq : Node)
    (at_p : get files.nodes from.ino ≡ Some dp) (at_q : get files.nodes to.ino ≡ Some dq) (at_i : get files.nodes i ≡ Some n) (file : n.kind ≢ Directory)
    (apart : to.ino ≢ from.ino) (i_p : i ≢ from.ino) (i_q : i ≢ to.ino) (inside : k < length dp.slots) (slot : get_or dp.slots k None ≡ Some (i, name)) where
  slotted : Node
  slotted = record dq { slots = set dq.slots l (Some (i, new_name)) }

  emptied : Node
  emptied = record dp { slots = set dp.slots k None; mtime = now; ctime = now }

  asked : Asked
  asked = (call.Rename from name to new_name, cred)

  module _ (torn : Files) (after : after_calls files ((call.Rename from name to new_name, cred) ∷ []) now
      ≡ with_node (changed files i (Some n) to.ino (record dq { slots = set dq.slots l (Some (i, new_name)); mtime = now; ctime = now })) from.ino (record dp { slots = set dp.slots k None; mtime = now; ctime = now }))
      (is : torn ≡ changed files i (Some (record n { nlink = n.nlink + 1 })) to.ino (record dq { slots = set dq.slots l (Some (i, new_name)) })) where
    A : Files
    A = after_calls files ((call.Rename from name to new_name, cred) ∷ []) now

    left : Node
    left = record dp { slots = set dp.slots k None; mtime = now; ctime = now }

    linked : Node
    linked = record n { nlink = n.nlink + 1 }

    restored : Node
    restored = record left { slots = slice_set left.slots k (Some (i, name)) }

    base : Files
    base = with_node (with_node A from.ino restored) i linked

    timed : Node
    timed = record slotted { mtime = now; ctime = now }

    after' : A ≡ with_node (changed files i (Some n) to.ino timed) from.ino left
    unfolding A timed slotted left
    after' = after

    is' : torn ≡ changed files i (Some linked) to.ino slotted
    unfolding linked slotted
    is' = is

    A_p : get A.nodes from.ino ≡ Some left
    A_p = ap (λ (f : Files). get f.nodes from.ino) after' ∙ third-here files i (Some n) to.ino timed from.ino left

    A_q : get A.nodes to.ino ≡ Some timed
    A_q = ap (λ (f : Files). get f.nodes to.ino) after' ∙ third-second files i (Some n) to.ino timed from.ino left apart

    A_i : get A.nodes i ≡ Some n
    A_i = ap (λ (f : Files). get f.nodes i) after' ∙ third-first files i (Some n) to.ino timed from.ino left i_p i_q

    base_i : get base.nodes i ≡ Some linked
    unfolding base
    base_i = get-insert_same (with_node A from.ino restored).nodes i linked

    base_p : get base.nodes from.ino ≡ Some restored
    unfolding base
    base_p = get-insert_other (with_node A from.ino restored).nodes i linked from.ino (λ e. i_p (sym e)) ∙ get-insert_same A.nodes from.ino restored

    base_other : (j : ℕ) → j ≢ i → j ≢ from.ino → get base.nodes j ≡ get A.nodes j
    unfolding base
    base_other j ni np = get-insert_other (with_node A from.ino restored).nodes i linked j ni ∙ get-insert_other A.nodes from.ino restored j np

    slots_back : slice_set (set dp.slots k None) k (Some (i, name)) ≡ dp.slots
    slots_back = set-set dp.slots k None (Some (i, name)) ∙ ap (set dp.slots k) (sym slot) ∙ set-get_or dp.slots k None

    nodes : (j : ℕ) → IsTornNode (get files.nodes j) (get A.nodes j) (get base.nodes j) (get torn.nodes j)
    unfolding linked restored timed slotted left
    nodes j = ⊎_elim
        (λ (e : j ≡ i). subst (λ z. IsTornNode (get files.nodes z) (get A.nodes z) (get base.nodes z) (get torn.nodes z)) (sym e) at_file)
        (λ (ni : j ≢ i). ⊎_elim
        (λ (e : j ≡ from.ino). subst (λ z. IsTornNode (get files.nodes z) (get A.nodes z) (get base.nodes z) (get torn.nodes z)) (sym e) at_from)
        (λ (np : j ≢ from.ino). ⊎_elim
        (λ (e : j ≡ to.ino). subst (λ z. IsTornNode (get files.nodes z) (get A.nodes z) (get base.nodes z) (get torn.nodes z)) (sym e) at_to)
        (λ (nq : j ≢ to.ino). torn_same (get files.nodes j) (get A.nodes j) (get base.nodes j) (get torn.nodes j)
        (ap (λ (f : Files). get f.nodes j) is' ∙ changed-other files i (Some linked) to.ino slotted j ni nq ∙ sym (ap (λ (f : Files). get f.nodes j) after' ∙ third-other files i (Some n) to.ino timed from.ino left j ni nq np)) (base_other j ni np))
        (cases_eq j to.ino))
        (cases_eq j from.ino))
        (cases_eq j i)
      where
        at_file : IsTornNode (get files.nodes i) (get A.nodes i) (get base.nodes i) (get torn.nodes i)
        at_file = torn_old _ _ _ _ n n linked at_i A_i base_i (ap (λ (f : Files). get f.nodes i) is' ∙ changed-there files i (Some linked) to.ino slotted i_q)

        at_from : IsTornNode (get files.nodes from.ino) (get A.nodes from.ino) (get base.nodes from.ino) (get torn.nodes from.ino)
        at_from = torn_old _ _ _ _ dp left restored at_p A_p base_p
            (ap (λ (f : Files). get f.nodes from.ino) is' ∙ changed-other files i (Some linked) to.ino slotted from.ino (λ e. i_p (sym e)) (λ e. apart (sym e)) ∙ at_p ∙ (λ z. Some (record dp { slots = sym slots_back z })))

        at_to : IsTornNode (get files.nodes to.ino) (get A.nodes to.ino) (get base.nodes to.ino) (get torn.nodes to.ino)
        at_to = torn_old _ _ _ _ dq timed timed at_q A_q (base_other to.ino (λ e. i_q (sym e)) apart ∙ A_q)
            (ap (λ (f : Files). get f.nodes to.ino) is' ∙ changed-here files i (Some linked) to.ino slotted)

    pub renamed-torn : Torn files ((call.Rename from name to new_name, cred) ∷ []) now torn
    unfolding asked A left base linked restored
    renamed-torn = inr (inr (inr (inr (inl (record {
      asked = asked;
      one = refl;
      from = from;
      name = name;
      to = to;
      new_name = new_name;
      kind = refl;
      slot = k;
      moved = i;
      directory = dp;
      directory_is = at_p;
      slot_is = slice_get-get_or dp.slots k None inside ∙ ap Some slot;
      left = left;
      left_is = A_p;
      emptied = slice_get-get_or (set dp.slots k None) k None (subst (λ m. k < m) (sym (length-set dp.slots k None)) inside) ∙ ap Some (get_or-set_same dp.slots k None None inside);
      node = n;
      node_is = A_i;
      no_directory = file;
      times = record { nodes = nodes; rest = (λ z. record (is' z) { nodes = torn.nodes }) ∙ (λ z. record (sym after' z) { nodes = torn.nodes }) };
    })))))
