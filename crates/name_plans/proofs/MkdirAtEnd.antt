-- MKDIR whose name makes the parent longer, once the new directory's sector is put: the new inode, puts that don't show yet, the parent's inode.
use Rattle.std.proofs.Common.{◌≡◌, ◌≢◌, ℕ, ◌+◌, ◌/◌, ◌%◌, ◌<◌, ◌≤◌, cond, List, [], ◌∷◌, ◌++◌, length, get_or, set, refl, sym, ap, subst, ◌∙◌, arith, inl, inr, Some, None, unwrap_or, length-set}
use Rattle.std.proofs.lemmas.Bool.{le-ltb}
use Rattle.std.specs.FinMap.{get, insert}
use Rattle.v7_layout.specs.declared.inode.Inode.{Inode}
use Rattle.files_model.specs.Files.{Node, Files, sectors_of}
use Rattle.files_model.specs.Names.{made_at, place_for, with_entry}
use Rattle.files_model.specs.Torn.{Asked, after_calls}
use Rattle.stable.specs.Store.{Image}
use Rattle.stable.specs.Puts.{put_all}
use Rattle.v7_map.specs.Image.{inode_at, inode_sector}
use Rattle.v7_map.specs.Frame.{Head, head_of, is_directory, frame}
use Rattle.v7_map.specs.Tree.{tree, is_walked, is_named, links}
use Rattle.v7_map.specs.View.{view, node_of, node_at}
use Rattle.v7_map.specs.Weak.{IsWeak, IsStrong, slot_at}
use Rattle.v7_map.specs.Plan.{PutsInode}
use Rattle.v7_map.specs.Plans.{IsTornImage, IsPlanOf}
use Rattle.v7_map.proofs.Nodes.{view-node}
use Rattle.v7_map.proofs.Prefixes.{prefix-append, prefix-last, put_all-append}
use Rattle.v7_map.proofs.Puts.{length-put_all, all_append}
use Rattle.v7_map.proofs.Ranges.{inode_sector-inside}
use Rattle.v7_plans.proofs.Local.{IsStrongBut, strong_of}
use Rattle.v7_plans.proofs.Muting.{muted-tree, muted-heads, muted-view, muted-weak, muted-strong, muted-inodes, muted-bodies, muted-prefixes, muted-past, muted-inside, muted-whole}
use Rattle.v7_strokes.specs.Changes.{changed}
use Rattle.v7_strokes.specs.NewNodes.{IsNewDirectory}
use Rattle.v7_strokes.specs.Slots.{GrowsDirectory}
use Rattle.v7_strokes.proofs.Directories.{StandsDir}
use Rattle.v7_strokes.proofs.Exempt.{strong_but}
use Rattle.v7_strokes.proofs.GrowDirectory.{longer-links_here, longer-named, longer-heads, longer-strong, longer-view}
use Rattle.v7_strokes.proofs.Views.{same-within}
use Rattle.name_plans.specs.MakingDirectory.{EntersAtEnd}
use Rattle.name_plans.proofs.MkdirAccepted.{IsMakingDirectory}
use Rattle.name_plans.proofs.MkdirFirst.{mkdir-dir, mkdir-within, mkdir-apart, mkdir-weak, mkdir-strong, mkdir-view, mkdir-head, mkdir-named, mkdir-slots, mkdir-parent_head, mkdir-parent_walked, mkdir-parent_links, mkdir-node, mkdir-torn}

module _ (image : Image) (asked : Asked) (now p : ℕ) (name : List ℕ) (d : Node) (i : ℕ) (m : Node) (n g : Inode) (b1 b3 : List ℕ) (inner : List (ℕ × List ℕ)) (strong : IsStrong (frame image)) (c : IsMakingDirectory (view image) asked now p name d i m)
    (is : IsNewDirectory image p i n m) (raised : n.generation ≡ unwrap_or (get (view image).generations i) 0 + 1) (p1 : PutsInode image i b1 n) (x : EntersAtEnd image now p name d i g b1 b3 inner) where
  s_d : StandsDir image p d
  s_d = mkdir-dir image asked now p name d i m strong c

  within : i < (tree (frame image)).inodes + 1
  within = mkdir-within image asked now p name d i m strong c

  apart : i ≢ p
  apart = mkdir-apart image asked now p name d i m strong c

  first : Image
  first = set image (inode_sector i) b1

  mid : Image
  mid = put_all inner first

  last : Image
  last = set mid (inode_sector p) b3

  weak_first : IsWeak (frame first)
  unfolding first
  weak_first = mkdir-weak image asked now p name d i m strong c n is raised b1 p1

  view_first : view first ≡ record (view image) { generations = insert (view image).generations i (unwrap_or (get (view image).generations i) 0 + 1) }
  unfolding first
  view_first = mkdir-view image asked now p name d i m strong c n is raised b1 p1

  head_first : (frame first).head i ≡ head_of n
  unfolding first
  head_first = mkdir-head image asked now p name d i m strong c n is raised b1 p1

  heads_p : (frame first).head p ≡ (frame image).head p
  unfolding first
  heads_p = mkdir-parent_head image asked now p name d i m strong c n is raised b1 p1

  links_p : links (tree (frame first)) p ≡ d.nlink
  unfolding first
  links_p = mkdir-parent_links image asked now p name d i m strong c n is raised b1 p1

  node_first : record (node_at first i) { nlink = 2 } ≡ m
  unfolding first
  node_first = mkdir-node image asked now p name d i m strong c n is raised b1 p1

  made : Node
  made = record d { nlink = d.nlink + 1; size = d.size + 16; mtime = now; ctime = now; slots = d.slots ++ Some (i, name) ∷ [] }

  after : after_calls (view image) (asked ∷ []) now ≡ record (view image) { nodes = insert (insert (view image).nodes i m) p made; generations = insert (view image).generations i (unwrap_or (get (view image).generations i) 0 + 1) }
  unfolding made with_entry
  after = c.after ∙ ap (λ t. made_at (view image) i m p
      (record (cond t (record d { slots = set d.slots (place_for d.slots) (Some (i, name)); mtime = now; ctime = now }) (record d { slots = d.slots ++ Some (i, name) ∷ []; size = d.size + 16; mtime = now; ctime = now })) { nlink = d.nlink + 1 }))
      (le-ltb (place_for d.slots) (length d.slots) x.full)

  torn_first : IsTornImage (view image) (asked ∷ []) now first
  unfolding first
  torn_first = record { weak = mkdir-weak image asked now p name d i m strong c n is raised b1 p1; torn = mkdir-torn image asked now p name d i m strong c n is raised b1 p1 }

  tree_mid : tree (frame mid) ≡ tree (frame first)
  unfolding mid first
  tree_mid = muted-tree p inner (set image (inode_sector i) b1) x.muted

  heads_mid : (j : ℕ) → (frame mid).head j ≡ (frame first).head j
  unfolding mid first
  heads_mid = muted-heads p inner (set image (inode_sector i) b1) x.muted

  view_mid : view mid ≡ view first
  unfolding mid first
  view_mid = muted-view p inner (set image (inode_sector i) b1) x.muted

  weak_mid : IsWeak (frame mid)
  unfolding mid first
  weak_mid = muted-weak p inner (set image (inode_sector i) b1) x.muted weak_first

  strong_mid : IsStrongBut (λ j. j ≢ i) p (frame mid)
  unfolding mid first
  strong_mid = muted-strong (λ j. j ≢ i) p inner (set image (inode_sector i) b1) x.muted
      (strong_but (λ j. j ≢ i) p (frame (set image (inode_sector i) b1)) (mkdir-strong image asked now p name d i m strong c n is raised b1 p1 (λ j. j ≢ i) (λ j l. l)))

  size_mid : ((frame mid).head p).size ≡ d.size
  size_mid = ap (λ (h : Head). h.size) (heads_mid p ∙ heads_p) ∙ s_d.size

  grows : GrowsDirectory mid p (length d.slots) i name g
  unfolding mid first
  grows = record {
    walked = ap (λ t. is_walked t p) tree_mid ∙ mkdir-parent_walked image asked now p name d i m strong c n is raised b1 p1;
    end = s_d.long ∙ ap (λ s. s / 16) (sym size_mid);
    even = subst (λ s. s % 16 ≡ 0) (sym size_mid) s_d.even;
    longer = x.longer ∙ ap (λ s. s + 16) (sym size_mid);
    mode = ap (λ (y : Inode). y.mode) x.times;
    nlink = ap (λ (y : Inode). y.nlink) x.times;
    generation = ap (λ (y : Inode). y.generation) x.times;
    placed = x.placed;
    kept = λ l lt. x.kept l (subst (λ s. l < sectors_of s) size_mid lt);
    content = x.content;
    dir = ap is_directory (heads_mid i ∙ head_first) ∙ is.dir;
    apart = apart;
    no_root = λ e. let low = c.low in absurd (omega arith);
    unnamed = ap (λ t. is_named t i) tree_mid ∙ mkdir-named image asked now p name d i m strong c n is raised b1 p1;
    dot = ap (λ t. slot_at t i 0) tree_mid ∙ ap (λ x. get_or x 0 None) (mkdir-slots image asked now p name d i m strong c n is raised b1 p1) ∙ is.dot;
    dots = ap (λ t. slot_at t i 1) tree_mid ∙ ap (λ x. get_or x 1 None) (mkdir-slots image asked now p name d i m strong c n is raised b1 p1) ∙ is.dots;
    nothing = λ l le. ap (λ t. slot_at t i l) tree_mid ∙ ap (λ x. get_or x l None) (mkdir-slots image asked now p name d i m strong c n is raised b1 p1) ∙ is.nothing l le;
    good_name = c.good_name;
    bound = subst (λ l. l + 1 ≤ 65535) (sym (ap (λ t. links t p) tree_mid ∙ links_p)) c.bound;
  }

  directory : PutsInode mid p b3 g
  unfolding mid first
  directory = x.directory

  strong_last : IsStrong (frame last)
  unfolding last
  strong_last = strong_of i (frame last) (longer-strong mid p (length d.slots) i name g b3 weak_mid directory grows strong_mid)
      (λ u. (
        ap (λ (h : Head). h.nlink) (longer-heads mid p (length d.slots) i name g b3 weak_mid directory grows i apart ∙ heads_mid i ∙ head_first) ∙ is.two_links ∙ sym (longer-links_here mid p (length d.slots) i name g b3 weak_mid directory grows),
        longer-named mid p (length d.slots) i name g b3 weak_mid directory grows,
      ))

  at_mid : get (view mid).nodes p ≡ Some d
  at_mid = ap (λ (f : Files). get f.nodes p) (view_mid ∙ view_first) ∙ c.at

  within_mid : i < (tree (frame mid)).inodes + 1
  within_mid = same-within image mid i (ap (λ (f : Files). f.inodes) (view_mid ∙ view_first)) within

  node_mid : record (node_at mid i) { nlink = 2 } ≡ m
  unfolding mid first
  node_mid = (λ z. record (node_of (tree_mid z) i (muted-inodes p inner (set image (inode_sector i) b1) x.muted i z) (muted-bodies p inner (set image (inode_sector i) b1) x.muted i z)) { nlink = 2 }) ∙ node_first

  fields : (inode_at mid p).uid ≡ d.uid × (inode_at mid p).gid ≡ d.gid × (inode_at mid p).atime ≡ d.atime
  fields = let s = view-node mid p d at_mid in (ap (λ (x : Node). x.uid) s.is, ap (λ (x : Node). x.gid) s.is, ap (λ (x : Node). x.atime) s.is)

  view_last : view last ≡ after_calls (view image) (asked ∷ []) now
  unfolding last made mid first
  view_last =
      longer-view mid p (length d.slots) i name g b3 weak_mid directory grows d at_mid within_mid
      ∙ (λ z. changed (view mid) i (Some (node_mid z)) p
      (record d { nlink = d.nlink + 1; uid = (ap (λ (y : Inode). y.uid) x.times ∙ fields.0) z; gid = (ap (λ (y : Inode). y.gid) x.times ∙ fields.1) z; size = x.longer z; atime = (ap (λ (y : Inode). y.atime) x.times ∙ fields.2) z; mtime = (ap (λ (y : Inode). y.mtime) x.times) z; ctime = (ap (λ (y : Inode). y.ctime) x.times) z; slots = d.slots ++ Some (i, name) ∷ [] }))
      ∙ ap (λ f. changed f i (Some m) p (record d { nlink = d.nlink + 1; size = d.size + 16; mtime = now; ctime = now; slots = d.slots ++ Some (i, name) ∷ [] })) (view_mid ∙ view_first)
      ∙ sym after

  length_first : length first ≡ length image
  unfolding first
  length_first = length-set image (inode_sector i) b1

  last_inside : inode_sector p < length image
  unfolding mid first
  last_inside = let r = inode_sector-inside mid weak_mid p x.directory.inside in subst (λ z. inode_sector p < z) (length-put_all inner first ∙ length_first) r.2

  pub mkdir-growing : IsPlanOf image (asked ∷ []) now ((inode_sector i, b1) ∷ (inner ++ (inode_sector p, b3) ∷ []))
  unfolding last mid first
  mkdir-growing = record {
    past = (omega arith, all_append (λ (put : ℕ × List ℕ). 2 ≤ put.0) inner ((inode_sector p, b3) ∷ []) (muted-past p inner first x.muted) (omega arith, tt));
    inside = ((inode_sector-inside image strong.weak i p1.inside).2, all_append (λ (put : ℕ × List ℕ). put.0 < length image) inner ((inode_sector p, b3) ∷ []) (muted-inside p (length image) inner first length_first x.muted) (last_inside, tt));
    whole = (p1.long, all_append (λ (put : ℕ × List ℕ). length put.1 ≡ 512) inner ((inode_sector p, b3) ∷ []) (muted-whole p inner first x.muted) (x.directory.long, tt));
    prefixes = (
      record { weak = strong.weak; torn = inl refl },
      prefix-append (IsTornImage (view image) (asked ∷ []) now) inner ((inode_sector p, b3) ∷ []) first
          (muted-prefixes p (view image) (asked ∷ []) now inner first x.muted torn_first) (
            prefix-last (IsTornImage (view image) (asked ∷ []) now) inner first (muted-prefixes p (view image) (asked ∷ []) now inner first x.muted torn_first),
            record { weak = strong_last.weak; torn = inr (inl view_last) },
          ),
    );
    strong = subst (λ i. IsStrong (frame i)) (sym (put_all-append inner ((inode_sector p, b3) ∷ []) first)) strong_last;
    after = ap view (put_all-append inner ((inode_sector p, b3) ∷ []) first) ∙ view_last;
  }
