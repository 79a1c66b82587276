-- What is free after a RENAME onto a name that stands: the blocks of a node that ended, and its i-number.
use Rattle.std.proofs.Common.{◌≡◌, ◌≢◌, ℕ, ◌≤◌, Bool, true, false, ◌==◌, List, [], ◌∷◌, set, refl, sym, ap, subst, ◌∙◌, arith, ⊎_elim, Option, Some, None}
use Rattle.std.proofs.lemmas.Bool.{cases_eq}
use Rattle.std.specs.FinMap.{get}
use Rattle.files_model.specs.declared.attributes.FileId.{FileId}
use Rattle.files_model.specs.declared.credential.Cred.{Cred}
use Rattle.files_model.specs.declared.call.Call.TheVariants as call
use Rattle.files_model.specs.Answers.{with_node}
use Rattle.files_model.specs.Files.{Node, Files}
use Rattle.files_model.specs.NameRows.{less_link, emptied_at, emptied_in}
use Rattle.files_model.specs.Torn.{after_calls}
use Rattle.files_model.specs.Names.{without_entry}
use Rattle.files_model.proofs.Maps.{get-insert_same, get-insert_other}
use Rattle.stable.specs.Puts.{put_all}
use Rattle.stable.specs.Store.{Image}
use Rattle.v7_map.specs.Frame.{is_directory, frame}
use Rattle.v7_map.specs.View.{view}
use Rattle.v7_map.specs.Weak.{IsStrong}
use Rattle.v7_map.specs.Plans.{IsPlanOf}
use Rattle.v7_map.proofs.AnyFrame.{frame-IsFrame}
use Rattle.v7_map.proofs.Nodes.{view-node}
use Rattle.v7_map.proofs.Used.{named_used}
use Rattle.v7_sets.specs.Given.{given}
use Rattle.v7_sets.specs.Sets.{AreSetsOf}
use Rattle.v7_strokes.specs.Freed.{IsFreed}
use Rattle.v7_strokes.proofs.Directories.{node-directory}
use Rattle.v7_strokes.proofs.Loser.{lost_of}
use Rattle.v7_strokes.proofs.SlotStep.{used-number}
use Rattle.name_plans.specs.Removed.{AreFreed, frees_number, number_given}
use Rattle.name_plans.specs.Replacement.{IsReplacement}
use Rattle.name_plans.proofs.RemovingSets.{KeepsNodes, lost-sets}
use Rattle.name_plans.proofs.ReplaceAccepted.{IsReplacing, rename-replacing}
use Rattle.name_plans.proofs.ReplacePlan.{less-here, less-other, less-rest}

clash : {b : Bool} → b ≡ true → b ≡ false → ⊥
clash {b = b} x y = cc

no_some : (o : Option Node) (m : Node) → o ≡ Some m → o ≡ None → ⊥
no_some o m e f = none_some m (sym f ∙ e)
  where
    none_some : (m : Node) → ◌≡◌ {A = Option Node} None (Some m) → ⊥
    none_some m e = cc

-- a node that is no directory isn't the root
low_file : (image : Image) (r : ℕ) (w : Node) → IsStrong (frame image) → get (view image).nodes r ≡ Some w → is_directory ((frame image).head r) ≡ false → 3 ≤ r
low_file image r w strong at file =
    let used = named_used (frame image) strong.weak (frame-IsFrame image).directories r (view-node image r w at).named in
    let u = used-number image r used in let positive = u.0 in ⊎_elim
    (λ (one' : r ≡ 1). absurd (clash used (subst (λ z. ((frame image).head z).is_used ≡ false) (sym one') strong.weak.first)))
    (λ (n1 : r ≢ 1). ⊎_elim
    (λ (two : r ≡ 2). absurd (clash (subst (λ z. is_directory ((frame image).head z) ≡ true) (sym two) strong.weak.root) file))
    (λ (n2 : r ≢ 2). omega arith) (cases_eq r 2)) (cases_eq r 1)

-- a node that stands is set again
with-gone : (files : Files) (p : ℕ) (x d : Node) (j : ℕ) → get files.nodes p ≡ Some d → get files.nodes j ≡ None → get (with_node files p x).nodes j ≡ None
with-gone files p x d j at h = get-insert_other files.nodes p x j (λ e. no_some (get files.nodes j) d (ap (get files.nodes) e ∙ at) h) ∙ h

with-came : (files : Files) (p : ℕ) (x : Node) (j : ℕ) → get (with_node files p x).nodes j ≡ None → get files.nodes j ≡ None
with-came files p x j h = ⊎_elim
    (λ (e : j ≡ p). absurd (no_some (get (with_node files p x).nodes j) x (ap (get (with_node files p x).nodes) e ∙ get-insert_same files.nodes p x) h))
    (λ (ne : j ≢ p). sym (get-insert_other files.nodes p x j ne) ∙ h)
    (cases_eq j p)

emptied-gone : (files : Files) (p k now : ℕ) (o : Option Node) (j : ℕ) → get files.nodes p ≡ o → get files.nodes j ≡ None → get (emptied_at files p k now o).nodes j ≡ None
emptied-gone files p k now None j at h = h
emptied-gone files p k now (Some d) j at h = with-gone files p (without_entry d k now) d j at h

emptied-came : (files : Files) (p k now : ℕ) (o : Option Node) (j : ℕ) → get (emptied_at files p k now o).nodes j ≡ None → get files.nodes j ≡ None
emptied-came files p k now None j h = h
emptied-came files p k now (Some d) j h = with-came files p (without_entry d k now) j h

emptied-generations : (files : Files) (p k now : ℕ) (o : Option Node) → (emptied_at files p k now o).generations ≡ files.generations
emptied-generations files p k now None = refl
emptied-generations files p k now (Some d) = refl

replaced-keeps : (files new : Files) (from to : FileId) (name new_name : List ℕ) (cred : Cred) (now i r k l : ℕ) (n w dp dq : Node) → IsReplacing files from to name new_name cred now i r k l n w dp dq
    → new ≡ after_calls files ((call.Rename from name to new_name, cred) ∷ []) now → KeepsNodes files new r (lost_of w now)
replaced-keeps files new from to name new_name cred now i r k l n w dp dq c is = record {
  generations = ap (λ (f : Files). f.generations) (all ∙ less-rest two r w now) ∙ emptied-generations one from.ino k now (get one.nodes from.ino);
  here = ap (λ (f : Files). get f.nodes r) all ∙ less-here two r w now;
  gone = λ j nr h. ap (λ (f : Files). get f.nodes j) all ∙ less-other two r w now j nr
      ∙ emptied-gone one from.ino k now (get one.nodes from.ino) j refl (with-gone files to.ino renamed dq j c.at_to h);
  came = λ j nr h. with-came files to.ino renamed j (emptied-came one from.ino k now (get one.nodes from.ino) j (sym (less-other two r w now j nr) ∙ ap (λ (f : Files). get f.nodes j) (sym all) ∙ h));
}
  where
    renamed : Node
    renamed = record dq { slots = set dq.slots l (Some (i, new_name)); mtime = now; ctime = now }

    one : Files
    one = with_node files to.ino (record dq { slots = set dq.slots l (Some (i, new_name)); mtime = now; ctime = now })

    two : Files
    two = emptied_in (with_node files to.ino (record dq { slots = set dq.slots l (Some (i, new_name)); mtime = now; ctime = now })) from.ino k now

    all : new ≡ less_link two r w now
    all = is ∙ c.after

pub replace-sets : (image : Image) (from to : FileId) (name new_name : List ℕ) (cred : Cred) (now i r k l : ℕ) (n w dp dq : Node) (puts : List (ℕ × List ℕ)) → IsStrong (frame image) → IsReplacement (view image) from to name new_name cred now i r k l n w dp dq
    → IsPlanOf image ((call.Rename from name to new_name, cred) ∷ []) now puts → IsFreed (w.nlink == 1) r (frame image) (frame (put_all puts image))
    → (freed : List ℕ) → AreFreed (w.nlink == 1) (frame image) r freed → (blocks inodes : List Bool) → AreSetsOf image blocks inodes
    → AreSetsOf (put_all puts image) (given freed blocks) (number_given (frees_number (view image) r w) r inodes)
replace-sets image from to name new_name cred now i r k l n w dp dq puts strong x plan moved freed are blocks inodes sets =
    let c = rename-replacing image from to name new_name cred now i r k l n w dp dq strong x in
    lost-sets image (put_all puts image) now r w strong plan.strong moved (replaced-keeps (view image) (view (put_all puts image)) from to name new_name cred now i r k l n w dp dq c plan.after)
    c.at_replaced (low_file image r w strong c.at_replaced (node-directory image r w (view-node image r w c.at_replaced) ∙ c.replaced_file)) freed are blocks inodes sets
