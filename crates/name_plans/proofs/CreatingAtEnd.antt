-- CREATE of a new file whose entry makes the directory longer: the new inode, quiet puts of the new slot's sector (and of a new block of addresses), the directory's inode.
use Rattle.std.proofs.Common.{◌≡◌, ◌≢◌, ℕ, ◌+◌, ◌<◌, ◌≤◌, true, false, cond, List, [], ◌∷◌, ◌++◌, length, set, refl, sym, ap, subst, ◌∙◌, arith, inl, inr, eq-eqb, ltb, Some, None, unwrap_or, length-set}
use Rattle.std.proofs.lemmas.Bool.{ne_eqb, le-ltb}
use Rattle.std.specs.FinMap.{get, insert}
use Rattle.v7_layout.specs.declared.inode.Inode.{Inode}
use Rattle.files_model.specs.Files.{Node, Files}
use Rattle.files_model.specs.Names.{made_at, place_for, with_entry}
use Rattle.files_model.specs.Torn.{Asked, after_calls}
use Rattle.stable.specs.Store.{Image}
use Rattle.stable.specs.Puts.{put_all}
use Rattle.v7_map.specs.Image.{inode_at, inode_sector}
use Rattle.v7_map.specs.Frame.{Head, head_of, frame}
use Rattle.v7_map.specs.Tree.{tree, is_walked, is_named, links, is_slot_of}
use Rattle.v7_map.specs.View.{view, node_of, node_at}
use Rattle.v7_map.specs.Weak.{IsWeak, IsStrong}
use Rattle.v7_map.specs.Plan.{PutsInode}
use Rattle.v7_map.specs.Plans.{IsTornImage, IsPlanOf}
use Rattle.v7_map.proofs.Nodes.{view-node}
use Rattle.v7_map.proofs.Prefixes.{prefix-append, prefix-last, put_all-append}
use Rattle.v7_map.proofs.Puts.{length-put_all, all_append}
use Rattle.v7_map.proofs.Ranges.{inode_sector-inside}
use Rattle.v7_map.proofs.Walks.{or_right}
use Rattle.name_plans.specs.Making.{IsMaking}
use Rattle.v7_strokes.specs.NewNodes.{IsNewFile}
use Rattle.v7_plans.specs.Quiet.{AllMuted}
use Rattle.v7_strokes.specs.Slots.{GrowsBy}
use Rattle.v7_strokes.proofs.Creation.{new-view, new-strong, new-head, new-links, new-node}
use Rattle.name_plans.proofs.CreatingInPlace.{making-dir, making-within, first-weak, first-torn}
use Rattle.v7_strokes.proofs.Directories.{StandsDir}
use Rattle.v7_strokes.proofs.GrowStep.{grow-weak, grow-strong, grow-links, grow-view, grow-node, grow-heads}
use Rattle.v7_plans.proofs.Local.{IsStrongBut, strong_of}
use Rattle.v7_strokes.proofs.Exempt.{strong_but}
use Rattle.v7_plans.proofs.Muting.{muted-tree, muted-heads, muted-view, muted-weak, muted-strong, muted-inodes, muted-bodies, muted-prefixes, muted-past, muted-inside, muted-whole}
use Rattle.v7_strokes.specs.Changes.{changed}
use Rattle.v7_strokes.specs.Left.{one}
use Rattle.v7_strokes.proofs.Views.{same-within}

module _ (image : Image) (asked : Asked) (now p : ℕ) (name : List ℕ) (d : Node) (i : ℕ) (m : Node) (strong : IsStrong (frame image)) (c : IsMaking (view image) asked now p name d i m)
    (n : Inode) (is : IsNewFile image i n m) (raised : n.generation ≡ unwrap_or (get (view image).generations i) 0 + 1) (b1 : List ℕ) (p1 : PutsInode image i b1 n)
    (inner : List (ℕ × List ℕ)) (muted : AllMuted p inner (set image (inode_sector i) b1)) (full : length d.slots ≤ place_for d.slots) (g : Inode) (b3 : List ℕ)
    (grows : GrowsBy (put_all inner (set image (inode_sector i) b1)) p (length d.slots) g (Some (i, name)))
    (times : g ≡ record (inode_at (put_all inner (set image (inode_sector i) b1)) p) { size = g.size; direct = g.direct; single = g.single; mtime = now; ctime = now })
    (p3 : PutsInode (put_all inner (set image (inode_sector i) b1)) p b3 g) where
  first : Image
  first = set image (inode_sector i) b1

  mid : Image
  mid = put_all inner first

  last : Image
  last = set mid (inode_sector p) b3

  number : (get (view image).nodes i ≡ None) × (3 ≤ i) × (i < (tree (frame image)).inodes + 1)
  number = (c.absent, c.low, making-within image asked now p name d i m strong c)

  at_dir : StandsDir image p d
  at_dir = making-dir image asked now p name d i m strong c

  tree_mid : tree (frame mid) ≡ tree (frame first)
  unfolding mid first
  tree_mid = muted-tree p inner (set image (inode_sector i) b1) muted

  view_mid : view mid ≡ view first
  unfolding mid first
  view_mid = muted-view p inner (set image (inode_sector i) b1) muted

  weak_first : IsWeak (frame first)
  unfolding first
  weak_first = first-weak image asked now p name d i m strong c n is raised b1 p1

  weak_mid : IsWeak (frame mid)
  unfolding mid first
  weak_mid = muted-weak p inner (set image (inode_sector i) b1) muted weak_first

  strong_mid : IsStrongBut (λ j. j ≢ i) p (frame mid)
  unfolding mid first
  strong_mid = muted-strong (λ j. j ≢ i) p inner (set image (inode_sector i) b1) muted
      (strong_but (λ j. j ≢ i) p (frame (set image (inode_sector i) b1)) (new-strong image i n m b1 strong number.0 number.2 number.1 is p1))

  only : (j : ℕ) → j ≢ i → is_slot_of j (Some (i, name)) ≡ false
  only j ne = ne_eqb i j (λ e. ne (sym e))

  apart : p ≢ i
  apart e = absurd (none_some d (sym (subst (λ z. get (view image).nodes z ≡ Some d) e (c.at)) ∙ number.0))
    where
      none_some : (x : Node) → Some x ≡ None → ⊥
      none_some x h = cc

  links_last : links (tree (frame last)) i ≡ 1
  unfolding last mid first
  links_last =
      let r = grow-links mid p (length d.slots) g b3 (Some (i, name)) weak_mid p3 grows i in
      let none : links (tree (frame mid)) i ≡ 0 = ap (λ t. links t i) tree_mid ∙ new-links image i n m b1 strong number.0 number.2 number.1 is p1 in
      let o : ◌≡◌ {A = ℕ} (one (is_slot_of i (Some (i, name)))) 1 = ap one (eq-eqb i i refl) in omega arith

  named_last : is_named (tree (frame last)) i ≡ true
  named_last = or_right (is_walked (tree (frame last)) i) (ltb 0 (links (tree (frame last)) i)) (ap (ltb 0) links_last)

  head_last : (frame last).head i ≡ head_of n
  unfolding last mid first
  head_last = grow-heads mid p (length d.slots) g b3 (Some (i, name)) weak_mid p3 grows i (λ e. apart (sym e)) ∙ muted-heads p inner (set image (inode_sector i) b1) muted i ∙ new-head image i n m b1 strong number.0 number.2 number.1 is p1

  strong_last : IsStrong (frame last)
  unfolding last mid first
  strong_last = strong_of i (frame last) (grow-strong mid p (length d.slots) g b3 (Some (i, name)) weak_mid p3 grows (λ j. j ≢ i) only strong_mid)
      (λ u. (ap (λ (h : Head). h.nlink) head_last ∙ is.one_link ∙ sym links_last, named_last))

  at_mid : get (view mid).nodes p ≡ Some d
  unfolding first
  at_mid = ap (λ (f : Files). get f.nodes p) (view_mid ∙ new-view image i n m b1 strong number.0 number.2 number.1 is p1) ∙ c.at

  within_mid : i < (tree (frame mid)).inodes + 1
  unfolding first
  within_mid = same-within image mid i (ap (λ (f : Files). f.inodes) (view_mid ∙ new-view image i n m b1 strong number.0 number.2 number.1 is p1)) number.2

  node_mid : node_at mid i ≡ record m { nlink = links (tree (frame mid)) i }
  unfolding mid first
  node_mid = (λ z. node_of (tree_mid z) i (muted-inodes p inner (set image (inode_sector i) b1) muted i z) (muted-bodies p inner (set image (inode_sector i) b1) muted i z))
      ∙ new-node image i n m b1 strong number.0 number.2 number.1 is p1 ∙ (λ z. record m { nlink = links (sym tree_mid z) i })

  grown : Node
  grown = record d { size = d.size + 16; mtime = now; ctime = now; slots = d.slots ++ Some (i, name) ∷ [] }

  -- the directory's other fields are those of its inode
  stored : (inode_at mid p).uid ≡ d.uid × (inode_at mid p).gid ≡ d.gid × (inode_at mid p).atime ≡ d.atime × (inode_at mid p).size ≡ d.size
  stored = let s = view-node mid p d at_mid in
      (ap (λ (x : Node). x.uid) s.is, ap (λ (x : Node). x.gid) s.is, ap (λ (x : Node). x.atime) s.is, ap (λ (x : Node). x.size) s.is)

  head_size : ((frame mid).head p).size ≡ d.size
  unfolding frame
  head_size = stored.3

  long : g.size ≡ d.size + 16
  unfolding mid first
  long = grows.longer ∙ ap (λ s. s + 16) head_size

  view_last : view last ≡ changed (view mid) i (Some m) p grown
  unfolding last grown mid first
  view_last =
      grow-view mid p (length d.slots) g b3 (Some (i, name)) weak_mid p3 grows i only apart d at_mid within_mid
      ∙ (λ z. changed (view mid) i ((grow-node mid p (length d.slots) g b3 (Some (i, name)) weak_mid p3 grows i only apart d at_mid ∙ here) z) p
      (record d { uid = (ap (λ (x : Inode). x.uid) times ∙ stored.0) z; gid = (ap (λ (x : Inode). x.gid) times ∙ stored.1) z; size = long z; atime = (ap (λ (x : Inode). x.atime) times ∙ stored.2) z; mtime = (ap (λ (x : Inode). x.mtime) times) z; ctime = (ap (λ (x : Inode). x.ctime) times) z; slots = d.slots ++ Some (i, name) ∷ [] }))
    where
      here : cond (is_named (tree (frame last)) i) (Some (record (node_at mid i) { nlink = links (tree (frame last)) i })) None ≡ Some m
      here = (λ z. cond (named_last z) (Some (record (node_mid z) { nlink = links_last z })) None) ∙ (λ z. Some (record m { nlink = sym is.link z }))

  entered : with_entry d (Some (i, name)) now ≡ grown
  unfolding with_entry grown
  entered = ap (λ b. cond b (record d { slots = set d.slots (place_for d.slots) (Some (i, name)); mtime = now; ctime = now }) (record d { slots = d.slots ++ Some (i, name) ∷ []; size = d.size + 16; mtime = now; ctime = now })) (le-ltb (place_for d.slots) (length d.slots) full)

  after : after_calls (view image) (asked ∷ []) now ≡ made_at (view image) i m p grown
  after = c.after ∙ ap (made_at (view image) i m p) entered

  view_after : view last ≡ after_calls (view image) (asked ∷ []) now
  unfolding first
  view_after = view_last
      ∙ ap (λ f. changed f i (Some m) p grown) (view_mid ∙ new-view image i n m b1 strong number.0 number.2 number.1 is p1)
      ∙ (λ z. record (view image) { nodes = insert (insert (view image).nodes i m) p grown; generations = insert (view image).generations i (raised z) })
      ∙ sym after

  torn_first : IsTornImage (view image) (asked ∷ []) now first
  unfolding first
  torn_first = record { weak = weak_first; torn = first-torn image asked now p name d i m strong c n is raised b1 p1 }

  weak_last : IsWeak (frame last)
  unfolding last mid first
  weak_last = grow-weak mid p (length d.slots) g b3 (Some (i, name)) weak_mid p3 grows

  length_first : length first ≡ length image
  unfolding first
  length_first = length-set image (inode_sector i) b1

  last_inside : inode_sector p < length image
  unfolding mid first
  last_inside = let r = inode_sector-inside mid weak_mid p p3.inside in subst (λ z. inode_sector p < z) (length-put_all inner first ∙ length_first) r.2

  pub create-growing : IsPlanOf image (asked ∷ []) now ((inode_sector i, b1) ∷ (inner ++ (inode_sector p, b3) ∷ []))
  unfolding last mid first
  create-growing = record {
    past = (omega arith, all_append (λ (put : ℕ × List ℕ). 2 ≤ put.0) inner ((inode_sector p, b3) ∷ []) (muted-past p inner first muted) (omega arith, tt));
    inside = ((inode_sector-inside image strong.weak i p1.inside).2, all_append (λ (put : ℕ × List ℕ). put.0 < length image) inner ((inode_sector p, b3) ∷ []) (muted-inside p (length image) inner first length_first muted) (last_inside, tt));
    whole = (p1.long, all_append (λ (put : ℕ × List ℕ). length put.1 ≡ 512) inner ((inode_sector p, b3) ∷ []) (muted-whole p inner first muted) (p3.long, tt));
    prefixes = (
      record { weak = strong.weak; torn = inl refl },
      prefix-append (IsTornImage (view image) (asked ∷ []) now) inner ((inode_sector p, b3) ∷ []) first
          (muted-prefixes p (view image) (asked ∷ []) now inner first muted torn_first) (
            prefix-last (IsTornImage (view image) (asked ∷ []) now) inner first (muted-prefixes p (view image) (asked ∷ []) now inner first muted torn_first),
            record { weak = weak_last; torn = inr (inl view_after) },
          ),
    );
    strong = subst (λ i. IsStrong (frame i)) (sym (put_all-append inner ((inode_sector p, b3) ∷ []) first)) strong_last;
    after = ap view (put_all-append inner ((inode_sector p, b3) ∷ []) first) ∙ view_after;
  }
