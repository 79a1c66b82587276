-- REMOVE as a plan: the slot, then the directory's times and the node's inode, in either order.
use Rattle.std.proofs.Common.{◌≡◌, ◌≢◌, ℕ, ◌+◌, ◌-◌, ◌/◌, ◌<◌, ◌≤◌, Bool, true, false, cond, ◌||◌, ◌==◌, if◌then◌else◌, List, [], ◌∷◌, ◌++◌, length, set, refl, sym, ap, subst, ◌∙◌, arith, inl, ⊎_elim, eqb, eq-eqb, ltb, Option, Some, None, length-set}
use Rattle.std.proofs.lemmas.Bool.{cases_eq, cases_Bool, ne_eqb, eqb-true}
use Rattle.std.specs.List.{AllByRecursion}
use Rattle.std.specs.FinMap.{get}
use Rattle.files_model.specs.declared.attributes.FileId.{FileId}
use Rattle.files_model.specs.declared.credential.Cred.{Cred}
use Rattle.files_model.specs.declared.call.Call.TheVariants as call
use Rattle.files_model.specs.Files.{Node, Files}
use Rattle.files_model.specs.Torn.{after_calls}
use Rattle.stable.specs.Puts.{put_all}
use Rattle.stable.specs.Store.{Image}
use Rattle.v7_map.specs.Image.{sector_at}
use Rattle.v7_map.specs.Frame.{Body, is_directory, frame}
use Rattle.v7_map.specs.Tree.{tree, is_walked, is_named, links, is_slot_of}
use Rattle.v7_map.specs.View.{view, node_at}
use Rattle.v7_map.specs.Weak.{IsStrong, slot_at}
use Rattle.v7_map.specs.Plans.{IsPlanOf}
use Rattle.v7_map.proofs.Nodes.{StandsAs, view-node}
use Rattle.v7_plans.proofs.Local.{strong_for}
use Rattle.v7_strokes.specs.Changes.{changed}
use Rattle.v7_strokes.specs.Entries.{inode_put}
use Rattle.v7_strokes.specs.Freed.{IsFreed}
use Rattle.v7_strokes.specs.Last.{inode_puts}
use Rattle.v7_strokes.specs.Left.{one}
use Rattle.v7_strokes.specs.Slots.{PutsSlot, PutsEntry}
use Rattle.v7_strokes.proofs.Aside.{positive}
use Rattle.v7_strokes.proofs.Changed.{changed-here, changed-there, changed-other}
use Rattle.v7_strokes.proofs.Directories.{StandsDir, node-directory}
use Rattle.v7_strokes.proofs.Finishing.{IsTimed, Stage, Unsettled, Finish, finish-cons, finish-unsettled}
use Rattle.v7_strokes.proofs.Loser.{IsLosing, lost_of, kept_of}
use Rattle.v7_strokes.proofs.Names.{some_slot}
use Rattle.v7_strokes.proofs.Slots.{plain-alike}
use Rattle.v7_strokes.proofs.SlotStep.{step-sizes, step-addresses, step-strong, step-links, step-heads, step-is_walked, entry-inside, walked-dir, used-number}
use Rattle.v7_strokes.proofs.TornCalls.{IsAfter, same, times}
use Rattle.v7_strokes.proofs.Views.{view-slot, same-within}
use Rattle.name_plans.specs.Removing.{IsRemoval, TakesName, removing_puts}
use Rattle.name_plans.proofs.RemovingAccepted.{removal-at, removal-dir, removal-file, removal-inside, removal-slot, removal-past, removal-changed}

clash : {b : Bool} → b ≡ true → b ≡ false → ⊥
clash {b = b} x y = cc

all_first : {X : Type 0} (P : X → Type 0) (xs ys : List X) → AllByRecursion P (xs ++ ys) → AllByRecursion P xs
all_first P [] ys h = tt
all_first P (x ∷ xs) ys h = (h.0, all_first P xs ys h.1)

all_second : {X : Type 0} (P : X → Type 0) (xs ys : List X) → AllByRecursion P (xs ++ ys) → AllByRecursion P ys
all_second P [] ys h = h
all_second P (x ∷ xs) ys h = all_second P xs ys h.1

module _ (image : Image) (dir : FileId) (name : List ℕ) (cred : Cred) (now : ℕ) (d : Node) (k i : ℕ) (n : Node) (strong : IsStrong (frame image)) (c : IsRemoval (view image) dir name cred d k i n) where
  stands : StandsAs image i n
  stands = view-node image i n c.node

  file : is_directory ((frame image).head i) ≡ false
  file = node-directory image i n stands ∙ removal-file image dir name cred now d k i n strong c

  at_dir : StandsDir image dir.ino d
  at_dir = removal-dir image dir name cred now d k i n strong c

  slot : slot_at (tree (frame image)) dir.ino k ≡ Some (i, name)
  slot = removal-slot image dir name cred now d k i n strong c

  used : ((frame image).head i).is_used ≡ true
  used = (strong.weak.names.used dir.ino k i name at_dir.walked slot).0

  pub removal-apart : i ≢ dir.ino
  removal-apart e = clash at_dir.dir (subst (λ z. is_directory ((frame image).head z) ≡ false) e file)

  pub removal-low : 3 ≤ i
  removal-low = let r = used-number image i used in let positive' = r.0 in ⊎_elim
      (λ (one' : i ≡ 1). absurd (clash used (subst (λ z. ((frame image).head z).is_used ≡ false) (sym one') strong.weak.first)))
      (λ (n1 : i ≢ 1). ⊎_elim
      (λ (two : i ≡ 2). absurd (clash (subst (λ z. is_directory ((frame image).head z) ≡ true) (sym two) strong.weak.root) file))
      (λ (n2 : i ≢ 2). omega arith) (cases_eq i 2)) (cases_eq i 1)

  counted : ((frame image).head i).nlink ≡ n.nlink
  counted = strong.counted i used ∙ ap (λ (m : Node). m.nlink) stands.is

  -- ---- the slot

  module _ (b1 : List ℕ) (p1 : PutsSlot (sector_at image ((frame image).address dir.ino (Body (k / 32)))) k b1 None) where
    a : ℕ
    a = (frame image).address dir.ino (Body (k / 32))

    first : Image
    first = set image a b1

    slotted : Node
    slotted = record d { slots = set d.slots k None }

    entry : PutsEntry image dir.ino k ((frame image).address dir.ino (Body (k / 32))) b1 None
    entry = record {
      walked = at_dir.walked;
      inside = let r = removal-inside image dir name cred now d k i n strong c in let size = at_dir.size in let long = at_dir.long in omega arith;
      is = refl;
      puts = p1;
      past = removal-past image dir name cred now d k i n strong c;
      alike = plain-alike (tree (frame image)) (slot_at (tree (frame image)) dir.ino k) None (λ j other e. subst (λ z. is_directory ((frame image).head z) ≡ false) (some_slot i j name other (sym slot ∙ e)).0 file) (λ j other e. absurd (cc));
      used = λ j other e. absurd (cc);
      bound = λ j e _. absurd (cc);
    }

    only : (j : ℕ) → j ≢ i → is_slot_of j (slot_at (tree (frame image)) dir.ino k) ≡ is_slot_of j None
    only j ne = ap (is_slot_of j) slot ∙ ne_eqb i j (λ e. ne (sym e))

    links_first : links (tree (frame first)) i + 1 ≡ n.nlink
    unfolding first a
    links_first =
        let r = step-links image dir.ino k a b1 None strong.weak entry i in
        let before : ◌≡◌ {A = ℕ} (one (is_slot_of i (slot_at (tree (frame image)) dir.ino k))) 1 = ap (λ s. one (is_slot_of i s)) slot ∙ ap one (eq-eqb i i refl) in
        let after : ◌≡◌ {A = ℕ} (one (is_slot_of i None)) 0 = refl in
        let all : links (tree (frame image)) i ≡ n.nlink = ap (λ (m : Node). m.nlink) stands.is in omega arith

    unwalked : is_walked (tree (frame first)) i ≡ false
    unfolding first a
    unwalked = step-is_walked image dir.ino k a b1 None strong.weak entry i ∙ ⊎_elim
        (λ (w : is_walked (tree (frame image)) i ≡ true). absurd (clash (walked-dir image i w) file))
        (λ (f : is_walked (tree (frame image)) i ≡ false). f)
        (cases_Bool (is_walked (tree (frame image)) i))

    -- the node, if a name still leads to it
    seen : cond (is_named (tree (frame first)) i) (Some (record (node_at image i) { nlink = links (tree (frame first)) i })) None ≡ kept_of n
    seen =
        let less : links (tree (frame first)) i ≡ n.nlink - 1 = let l = links_first in omega arith in
        (λ z. cond (unwalked z || ltb 0 (links (tree (frame first)) i)) (Some (record (stands.is z) { nlink = less z })) None)
        ∙ elim (eqb n.nlink 1) as (λ t. eqb n.nlink 1 ≡ t → cond (ltb 0 (links (tree (frame first)) i)) (Some (record n { nlink = n.nlink - 1 })) None ≡ cond t None (Some (record n { nlink = n.nlink - 1 }))) [
          | true ↦ λ e. let last : n.nlink ≡ 1 = eqb-true n.nlink 1 e in let none : links (tree (frame first)) i ≡ 0 = omega arith in ap (λ m. cond (ltb 0 m) (Some (record n { nlink = n.nlink - 1 })) None) none
          | false ↦ λ e. let more : n.nlink ≢ 1 = λ z. clash (eq-eqb n.nlink 1 z) e in let l = links_first in let some : 1 ≤ links (tree (frame first)) i = omega arith in ap (λ t. cond t (Some (record n { nlink = n.nlink - 1 })) None) (positive (links (tree (frame first)) i) some)
        ] refl

    files : view first ≡ changed (view image) i (kept_of n) dir.ino slotted
    unfolding first a slotted
    files = view-slot image dir.ino k a b1 None strong.weak entry i only (λ e. removal-apart (sym e)) d (removal-at image dir name cred now d k i n strong c) stands.within
        ∙ ap (λ x. changed (view image) i x dir.ino (record d { slots = set d.slots k None })) seen

    blocks : IsFreed false i (frame image) (frame first)
    unfolding first a
    blocks = let sizes = step-sizes image dir.ino k a b1 None strong.weak entry in record {
      isize = sizes.0;
      fsize = sizes.1;
      others = λ j ne p. step-addresses image dir.ino k a b1 None strong.weak entry j p;
      own = λ p. step-addresses image dir.ino k a b1 None strong.weak entry i p;
    }

    losing : IsLosing first i n
    unfolding first a
    losing = record {
      sound = step-strong image dir.ino k a b1 None strong.weak entry (λ j. j ≢ i) (strong_for (λ j. j ≢ i) (frame image) strong) only;
      fewer = links_first;
      unwalked = unwalked;
      stored = ap (λ h. h.nlink) (step-heads image dir.ino k a b1 None strong.weak entry i) ∙ counted;
      used = ap (λ h. h.is_used) (step-heads image dir.ino k a b1 None strong.weak entry i) ∙ used;
      low = removal-low;
      within = same-within image first i (ap (λ (f : Files). f.inodes) files) stands.within;
      node = ap (λ (f : Files). get f.nodes i) files ∙ changed-there (view image) i (kept_of n) dir.ino slotted removal-apart;
    }

    -- ---- the whole

    timed : Node
    timed = record d { slots = set d.slots k None; mtime = now; ctime = now }

    after : after_calls (view image) ((call.Remove dir name, cred) ∷ []) now ≡ changed (view image) i (lost_of n now) dir.ino timed
    unfolding timed
    after = removal-changed image dir name cred now d k i n strong c

    lost_after : get (after_calls (view image) ((call.Remove dir name, cred) ∷ []) now).nodes i ≡ lost_of n now
    lost_after = ap (λ (f : Files). get f.nodes i) after ∙ changed-there (view image) i (lost_of n now) dir.ino timed removal-apart

    dir_after : get (after_calls (view image) ((call.Remove dir name, cred) ∷ []) now).nodes dir.ino ≡ Some timed
    dir_after = ap (λ (f : Files). get f.nodes dir.ino) after ∙ changed-here (view image) i (lost_of n now) dir.ino timed

    -- the node is that after the call, but for its times
    kept_after : IsAfter (get (view image).nodes i) (lost_of n now) (kept_of n)
    kept_after = elim (eqb n.nlink 1) as (λ t. IsAfter (get (view image).nodes i) (if t then None else Some (record n { nlink = n.nlink - 1; ctime = now })) (if t then None else Some (record n { nlink = n.nlink - 1 }))) [
      | true ↦ same refl
      | false ↦ times n (record n { nlink = n.nlink - 1; ctime = now }) c.node refl refl
    ]

    slotted_after : IsAfter (get (view image).nodes dir.ino) (Some timed) (Some slotted)
    unfolding timed slotted
    slotted_after = times d (record d { slots = set d.slots k None; mtime = now; ctime = now }) (removal-at image dir name cred now d k i n strong c) refl refl

    is_after : {o x y z w : Option Node} → x ≡ y → z ≡ w → IsAfter o y w → IsAfter o x z
    is_after {o = o} {y = y} {z = z} e f h = subst (λ v. IsAfter o v z) (sym e) (subst (IsAfter o y) (sym f) h)

    others : (j : ℕ) → j ≢ i → j ≢ dir.ino → get (view first).nodes j ≡ get (after_calls (view image) ((call.Remove dir name, cred) ∷ []) now).nodes j
    others j ni np = ap (λ (f : Files). get f.nodes j) files ∙ changed-other (view image) i (kept_of n) dir.ino slotted j ni np ∙ sym (ap (λ (f : Files). get f.nodes j) after ∙ changed-other (view image) i (lost_of n now) dir.ino timed j ni np)

    nodes : (j : ℕ) → IsAfter (get (view image).nodes j) (get (after_calls (view image) ((call.Remove dir name, cred) ∷ []) now).nodes j) (get (view first).nodes j)
    nodes j = ⊎_elim
        (λ (e : j ≡ i). subst (λ j. IsAfter (get (view image).nodes j) (get (after_calls (view image) ((call.Remove dir name, cred) ∷ []) now).nodes j) (get (view first).nodes j)) (sym e)
        (is_after lost_after (ap (λ (f : Files). get f.nodes i) files ∙ changed-there (view image) i (kept_of n) dir.ino slotted removal-apart) kept_after))
        (λ (ni : j ≢ i). ⊎_elim
        (λ (e : j ≡ dir.ino). subst (λ j. IsAfter (get (view image).nodes j) (get (after_calls (view image) ((call.Remove dir name, cred) ∷ []) now).nodes j) (get (view first).nodes j)) (sym e)
        (is_after dir_after (ap (λ (f : Files). get f.nodes dir.ino) files ∙ changed-here (view image) i (kept_of n) dir.ino slotted) slotted_after))
        (λ (np : j ≢ dir.ino). same (others j ni np))
        (cases_eq j dir.ino))
        (cases_eq j i)

    stage : Stage image (call.Remove dir name, cred) now i n refl lost_after (λ j. j ≡ i) first (dir.ino ∷ [])
    unfolding first
    stage = record {
      nodes = nodes;
      exact = λ j tight h. others j tight (λ e. clash (ap (λ b. b || false) (eq-eqb dir.ino j (sym e))) h);
      rest = (λ v. record (files v) { nodes = (view first).nodes }) ∙ (λ v. record (sym after v) { nodes = (view first).nodes });
      long = length-set image a b1;
    }

    unsettled : Unsettled image (call.Remove dir name, cred) now i n refl lost_after first (dir.ino ∷ [])
    unsettled = record { losing = losing; stage = stage; blocks = blocks }

    all_timed : AllByRecursion (λ d. (z : Node) × IsTimed (after_calls (view image) ((call.Remove dir name, cred) ∷ []) now) now d z) (dir.ino ∷ [])
    unfolding timed
    all_timed = ((timed, record { at = dir_after; mtime = refl; ctime = refl }), tt)

    all_apart : AllByRecursion (λ d. i ≢ d) (dir.ino ∷ [])
    all_apart = (removal-apart, tt)

    inside : (3 ≤ a) × (a < length image)
    unfolding a
    inside = entry-inside image dir.ino k ((frame image).address dir.ino (Body (k / 32))) b1 None strong.weak entry

    pub removal-past_list : 2 ≤ (frame image).address dir.ino (Body (k / 32))
    unfolding a
    removal-past_list = let r = inside in let low' : 3 ≤ a = r.0 in omega arith

  module _ (before after : List ℕ) (b1 : List ℕ) (bs cs : List (List ℕ)) (b : List ℕ) (x : TakesName image now dir.ino k i n before after b1 bs cs b) where
    finish : Finish image (call.Remove dir name, cred) now i n refl (lost_after b1 x.entry) image (removing_puts image dir.ino k i before after b1 bs cs b)
    unfolding inside a first
    finish = finish-cons image (call.Remove dir name, cred) now i n refl (lost_after b1 x.entry) image ((frame image).address dir.ino (Body (k / 32))) b1 (inode_puts before bs ++ inode_put i b ∷ inode_puts after cs)
        (record { weak = strong.weak; torn = inl refl }) (removal-past_list b1 x.entry) (inside b1 x.entry).1 x.entry.long
        (finish-unsettled image (call.Remove dir name, cred) now i n refl (lost_after b1 x.entry) before after bs cs b (first b1 x.entry)
        (all_first (λ d. (z : Node) × IsTimed (after_calls (view image) ((call.Remove dir name, cred) ∷ []) now) now d z) before after (subst (AllByRecursion (λ d. (z : Node) × IsTimed (after_calls (view image) ((call.Remove dir name, cred) ∷ []) now) now d z)) (sym x.one) (all_timed b1 x.entry)))
        (all_first (λ d. i ≢ d) before after (subst (AllByRecursion (λ d. i ≢ d)) (sym x.one) (all_apart b1 x.entry)))
        (all_second (λ d. (z : Node) × IsTimed (after_calls (view image) ((call.Remove dir name, cred) ∷ []) now) now d z) before after (subst (AllByRecursion (λ d. (z : Node) × IsTimed (after_calls (view image) ((call.Remove dir name, cred) ∷ []) now) now d z)) (sym x.one) (all_timed b1 x.entry)))
        (subst (Unsettled image (call.Remove dir name, cred) now i n refl (lost_after b1 x.entry) (first b1 x.entry)) (sym x.one) (unsettled b1 x.entry))
        x.first x.node x.last)

    pub removal-plan : IsPlanOf image ((call.Remove dir name, cred) ∷ []) now (removing_puts image dir.ino k i before after b1 bs cs b)
    removal-plan = record {
      past = finish.past;
      inside = finish.inside;
      whole = finish.whole;
      prefixes = finish.prefixes;
      strong = finish.strong;
      after = finish.after;
    }

    pub removal-freed : IsFreed (n.nlink == 1) i (frame image) (frame (put_all (removing_puts image dir.ino k i before after b1 bs cs b) image))
    removal-freed = finish.blocks
