-- LINK whose name makes the directory longer: the node's inode, puts that don't show yet, the directory's inode.
use Rattle.std.proofs.Common.{◌≡◌, ◌≢◌, ℕ, ◌+◌, ◌<◌, ◌≤◌, true, false, cond, List, [], ◌∷◌, ◌++◌, length, set, refl, sym, ap, subst, ◌∙◌, arith, inl, inr, Some, None, ltb, eq-eqb, length-set}
use Rattle.std.proofs.lemmas.Bool.{ne_eqb, le-ltb}
use Rattle.std.specs.FinMap.{get, insert}
use Rattle.v7_layout.specs.declared.inode.Inode.{Inode}
use Rattle.files_model.specs.Answers.{with_node}
use Rattle.files_model.specs.Files.{Node, Files}
use Rattle.files_model.specs.Names.{place_for, with_entry}
use Rattle.files_model.specs.Torn.{Asked, after_calls}
use Rattle.files_model.proofs.Maps.{get-insert_same, get-insert_other}
use Rattle.stable.specs.Store.{Image}
use Rattle.stable.specs.Puts.{put_all}
use Rattle.v7_map.specs.Image.{inode_at, inode_sector}
use Rattle.v7_map.specs.Frame.{Head, frame}
use Rattle.v7_map.specs.Tree.{tree, is_walked, is_named, links, is_slot_of}
use Rattle.v7_map.specs.View.{view, node_at}
use Rattle.v7_map.specs.Weak.{IsWeak, IsStrong}
use Rattle.v7_map.specs.Plans.{IsTornImage, IsPlanOf}
use Rattle.v7_map.proofs.Nodes.{StandsAs, view-node}
use Rattle.v7_map.proofs.Prefixes.{prefix-append, prefix-last, put_all-append}
use Rattle.v7_map.proofs.Puts.{length-put_all, all_append}
use Rattle.v7_map.proofs.Ranges.{inode_sector-inside}
use Rattle.v7_map.proofs.Walks.{or_right}
use Rattle.v7_plans.proofs.Local.{IsStrongBut, strong_of}
use Rattle.v7_plans.proofs.Muting.{muted-tree, muted-heads, muted-view, muted-weak, muted-strong, muted-prefixes, muted-past, muted-inside, muted-whole}
use Rattle.v7_strokes.specs.Changes.{changed}
use Rattle.v7_strokes.specs.Left.{one}
use Rattle.v7_strokes.proofs.Aside.{positive}
use Rattle.v7_strokes.proofs.Directories.{StandsDir}
use Rattle.v7_strokes.proofs.Exempt.{strong_but}
use Rattle.v7_strokes.proofs.GrowStep.{grow-strong, grow-links, grow-view, grow-node, grow-heads}
use Rattle.v7_strokes.proofs.TornCalls.{insert_twice}
use Rattle.name_plans.specs.Linking.{LinksAtEnd}
use Rattle.name_plans.proofs.LinkAccepted.{IsLinking}
use Rattle.name_plans.proofs.LinkFirst.{link-dir, link-apart, link-links, link-weak, link-strong, link-tree, link-head, link-view, link-torn}

module _ (image : Image) (asked : Asked) (now p : ℕ) (name : List ℕ) (d : Node) (i : ℕ) (n : Node) (g : Inode) (b1 b3 : List ℕ) (inner : List (ℕ × List ℕ)) (strong : IsStrong (frame image))
    (c : IsLinking (view image) asked now p name d i n) (x : LinksAtEnd image now p name d i g b1 b3 inner) where
  s_d : StandsDir image p d
  s_d = link-dir image asked now p name d i n strong c

  apart : i ≢ p
  apart = link-apart image asked now p name d i n strong c

  first : Image
  first = set image (inode_sector i) b1

  weak_first : IsWeak (frame first)
  unfolding first
  weak_first = link-weak image asked now p name d i n strong c b1 x.node

  tree_first : tree (frame first) ≡ tree (frame image)
  unfolding first
  tree_first = link-tree image asked now p name d i n strong c b1 x.node

  head_first : (frame first).head i ≡ record ((frame image).head i) { nlink = n.nlink + 1 }
  unfolding first
  head_first = link-head image asked now p name d i n strong c b1 x.node

  touched : Node
  touched = record n { ctime = now }

  linked : Node
  linked = record n { nlink = n.nlink + 1; ctime = now }

  view_first : view first ≡ with_node (view image) i touched
  unfolding first touched
  view_first = link-view image asked now p name d i n strong c b1 x.node

  grown : Node
  grown = record d { size = d.size + 16; mtime = now; ctime = now; slots = d.slots ++ Some (i, name) ∷ [] }

  after : after_calls (view image) (asked ∷ []) now ≡ changed (view image) i (Some linked) p grown
  unfolding linked grown with_entry
  after = c.after ∙ ap (λ t. changed (view image) i (Some (record n { nlink = n.nlink + 1; ctime = now })) p
      (cond t (record d { slots = set d.slots (place_for d.slots) (Some (i, name)); mtime = now; ctime = now }) (record d { slots = d.slots ++ Some (i, name) ∷ []; size = d.size + 16; mtime = now; ctime = now })))
      (le-ltb (place_for d.slots) (length d.slots) x.full)

  torn_first : IsTornImage (view image) (asked ∷ []) now first
  unfolding first
  torn_first = record { weak = link-weak image asked now p name d i n strong c b1 x.node; torn = link-torn image asked now p name d i n strong c b1 x.node }

  -- ---- the directory, once what it needs is put

  mid : Image
  mid = put_all inner first

  last : Image
  last = set mid (inode_sector p) b3

  tree_mid : tree (frame mid) ≡ tree (frame image)
  unfolding mid first
  tree_mid = muted-tree p inner (set image (inode_sector i) b1) x.muted ∙ tree_first

  view_mid : view mid ≡ with_node (view image) i touched
  unfolding mid first
  view_mid = muted-view p inner (set image (inode_sector i) b1) x.muted ∙ view_first

  weak_mid : IsWeak (frame mid)
  unfolding mid first
  weak_mid = muted-weak p inner (set image (inode_sector i) b1) x.muted weak_first

  strong_mid : IsStrongBut (λ j. j ≢ i) p (frame mid)
  unfolding mid first
  strong_mid = muted-strong (λ j. j ≢ i) p inner (set image (inode_sector i) b1) x.muted
      (strong_but (λ j. j ≢ i) p (frame (set image (inode_sector i) b1)) (link-strong image asked now p name d i n strong c b1 x.node))

  only : (j : ℕ) → j ≢ i → is_slot_of j (Some (i, name)) ≡ false
  only j ne = ne_eqb i j (λ e. ne (sym e))

  links_last : links (tree (frame last)) i ≡ n.nlink + 1
  unfolding last mid first
  links_last =
      let r = grow-links mid p (length d.slots) g b3 (Some (i, name)) weak_mid x.directory x.grows i in
      let before : links (tree (frame mid)) i ≡ n.nlink = ap (λ t. links t i) tree_mid ∙ link-links image asked now p name d i n strong c in
      let o : ◌≡◌ {A = ℕ} (one (is_slot_of i (Some (i, name)))) 1 = ap one (eq-eqb i i refl) in omega arith

  named_last : is_named (tree (frame last)) i ≡ true
  named_last = or_right (is_walked (tree (frame last)) i) (ltb 0 (links (tree (frame last)) i)) (positive (links (tree (frame last)) i) (let l = links_last in omega arith))

  head_last : (frame last).head i ≡ record ((frame image).head i) { nlink = n.nlink + 1 }
  unfolding last mid first
  head_last = grow-heads mid p (length d.slots) g b3 (Some (i, name)) weak_mid x.directory x.grows i apart ∙ muted-heads p inner (set image (inode_sector i) b1) x.muted i ∙ head_first

  strong_last : IsStrong (frame last)
  unfolding last mid first
  strong_last = strong_of i (frame last) (grow-strong mid p (length d.slots) g b3 (Some (i, name)) weak_mid x.directory x.grows (λ j. j ≢ i) only strong_mid)
      (λ u. (ap (λ (h : Head). h.nlink) head_last ∙ sym links_last, named_last))

  at_mid : get (view mid).nodes p ≡ Some d
  at_mid = ap (λ (f : Files). get f.nodes p) view_mid ∙ get-insert_other (view image).nodes i touched p (λ e. apart (sym e)) ∙ c.at

  s_mid : StandsAs mid i touched
  s_mid = view-node mid i touched (ap (λ (f : Files). get f.nodes i) view_mid ∙ get-insert_same (view image).nodes i touched)

  -- the directory's other fields are those of its inode
  fields : (inode_at mid p).uid ≡ d.uid × (inode_at mid p).gid ≡ d.gid × (inode_at mid p).atime ≡ d.atime × (inode_at mid p).size ≡ d.size
  fields = let s = view-node mid p d at_mid in
      (ap (λ (x : Node). x.uid) s.is, ap (λ (x : Node). x.gid) s.is, ap (λ (x : Node). x.atime) s.is, ap (λ (x : Node). x.size) s.is)

  head_size : ((frame mid).head p).size ≡ d.size
  unfolding frame
  head_size = fields.3

  long : g.size ≡ d.size + 16
  unfolding mid first
  long = x.grows.longer ∙ ap (λ s. s + 16) head_size

  view_last : view last ≡ changed (view mid) i (Some linked) p grown
  unfolding last grown mid first linked touched
  view_last =
      grow-view mid p (length d.slots) g b3 (Some (i, name)) weak_mid x.directory x.grows i only (λ e. apart (sym e)) d at_mid s_mid.within
      ∙ (λ z. changed (view mid) i ((grow-node mid p (length d.slots) g b3 (Some (i, name)) weak_mid x.directory x.grows i only (λ e. apart (sym e)) d at_mid ∙ here) z) p
      (record d { uid = (ap (λ (y : Inode). y.uid) x.times ∙ fields.0) z; gid = (ap (λ (y : Inode). y.gid) x.times ∙ fields.1) z; size = long z; atime = (ap (λ (y : Inode). y.atime) x.times ∙ fields.2) z; mtime = (ap (λ (y : Inode). y.mtime) x.times) z; ctime = (ap (λ (y : Inode). y.ctime) x.times) z; slots = d.slots ++ Some (i, name) ∷ [] }))
    where
      here : cond (is_named (tree (frame last)) i) (Some (record (node_at mid i) { nlink = links (tree (frame last)) i })) None ≡ Some linked
      here = (λ z. cond (named_last z) (Some (record (s_mid.is z) { nlink = links_last z })) None)

  view_after : view last ≡ after_calls (view image) (asked ∷ []) now
  unfolding linked touched
  view_after = view_last
      ∙ ap (λ f. changed f i (Some (record n { nlink = n.nlink + 1; ctime = now })) p grown) view_mid
      ∙ (λ z. record (view image) { nodes = insert (insert_twice (view image).nodes i (record n { ctime = now }) (record n { nlink = n.nlink + 1; ctime = now }) z) p grown })
      ∙ sym after

  length_first : length first ≡ length image
  unfolding first
  length_first = length-set image (inode_sector i) b1

  last_inside : inode_sector p < length image
  unfolding mid first
  last_inside = let r = inode_sector-inside mid weak_mid p x.directory.inside in subst (λ z. inode_sector p < z) (length-put_all inner first ∙ length_first) r.2

  pub link-growing : IsPlanOf image (asked ∷ []) now ((inode_sector i, b1) ∷ (inner ++ (inode_sector p, b3) ∷ []))
  unfolding last mid first
  link-growing = record {
    past = (omega arith, all_append (λ (put : ℕ × List ℕ). 2 ≤ put.0) inner ((inode_sector p, b3) ∷ []) (muted-past p inner first x.muted) (omega arith, tt));
    inside = ((inode_sector-inside image strong.weak i x.node.inside).2, all_append (λ (put : ℕ × List ℕ). put.0 < length image) inner ((inode_sector p, b3) ∷ []) (muted-inside p (length image) inner first length_first x.muted) (last_inside, tt));
    whole = (x.node.long, all_append (λ (put : ℕ × List ℕ). length put.1 ≡ 512) inner ((inode_sector p, b3) ∷ []) (muted-whole p inner first x.muted) (x.directory.long, tt));
    prefixes = (
      record { weak = strong.weak; torn = inl refl },
      prefix-append (IsTornImage (view image) (asked ∷ []) now) inner ((inode_sector p, b3) ∷ []) first
          (muted-prefixes p (view image) (asked ∷ []) now inner first x.muted torn_first) (
            prefix-last (IsTornImage (view image) (asked ∷ []) now) inner first (muted-prefixes p (view image) (asked ∷ []) now inner first x.muted torn_first),
            record { weak = strong_last.weak; torn = inr (inl view_after) },
          ),
    );
    strong = subst (λ i. IsStrong (frame i)) (sym (put_all-append inner ((inode_sector p, b3) ∷ []) first)) strong_last;
    after = ap view (put_all-append inner ((inode_sector p, b3) ∷ []) first) ∙ view_after;
  }
