-- RMDIR as a plan: the slot, then the parent's links and times and the directory's inode, in either order.
use Rattle.std.proofs.Common.{◌≡◌, ◌≢◌, ℕ, ◌+◌, ◌-◌, ◌/◌, ◌<◌, ◌≤◌, Bool, true, false, List, [], ◌∷◌, length, get_or, set, refl, sym, ap, subst, ◌∙◌, arith, inl, inr, ⊎_elim, Some, None, length-set}
use Rattle.std.proofs.lemmas.Bool.{cases_eq}
use Rattle.std.specs.FinMap.{get}
use Rattle.v7_layout.specs.declared.inode.Inode.{Inode}
use Rattle.files_model.specs.Files.{Node, Files}
use Rattle.files_model.specs.Answers.{with_node}
use Rattle.files_model.specs.Torn.{Asked, Torn, after_calls}
use Rattle.stable.specs.Store.{Image}
use Rattle.v7_map.specs.Image.{sector_at, inode_at, inode_sector}
use Rattle.v7_map.specs.Frame.{Frame, Head, Place, Body, head_of, frame}
use Rattle.v7_map.specs.Tree.{tree, is_named, links}
use Rattle.v7_map.specs.View.{view}
use Rattle.v7_map.specs.Weak.{IsWeak, IsStrong}
use Rattle.v7_map.specs.Plan.{PutsInode}
use Rattle.v7_map.specs.Plans.{IsPlanOf}
use Rattle.v7_map.proofs.AnyFrame.{frame-IsFrame}
use Rattle.v7_map.proofs.Nodes.{view-node}
use Rattle.v7_map.proofs.Ranges.{inode_sector-inside, address-inside}
use Rattle.v7_plans.proofs.Local.{IsStrongFor, strong_for, strong_of}
use Rattle.v7_strokes.proofs.Exempt.{strong_change}
use Rattle.v7_strokes.specs.Changes.{changed}
use Rattle.v7_strokes.specs.Entries.{entry_sector}
use Rattle.v7_strokes.specs.Freed.{IsFreed}
use Rattle.v7_strokes.specs.Inodes.{ended_inode, left_inode}
use Rattle.v7_strokes.specs.Slots.{PutsSlot, TakesDirectory}
use Rattle.v7_strokes.proofs.AttrPut.{attr-weak, attr-strong, attr-tree, attr-head, attr-heads, attr-view, attr-sizes, attr-addresses}
use Rattle.v7_strokes.proofs.Changed.{changed-here, changed-again, torn-two}
use Rattle.v7_strokes.proofs.Directories.{StandsDir, stands-dir}
use Rattle.v7_strokes.proofs.DirTaken.{gone-weak, gone-strong, gone-links_parent, gone-unnamed, gone-head, gone-view, gone-sizes, gone-address}
use Rattle.v7_strokes.proofs.Ended.{ended-placed, ended_none}
use Rattle.v7_strokes.proofs.SlotStep.{used-number}
use Rattle.v7_strokes.proofs.TornCalls.{IsAfter, same, times, insert_again}
use Rattle.v7_strokes.proofs.Unnamed.{unnamed-weak, unnamed-strong, unnamed-view, unnamed-head, unnamed-heads, unnamed-links, unnamed-sizes, unnamed-address, unnamed-addresses}
use Rattle.v7_strokes.proofs.Views.{same-within, view-generation}
use Rattle.name_plans.proofs.RmdirAccepted.{IsTaking}

clash : {b : Bool} → b ≡ true → b ≡ false → ⊥
clash {b = b} x y = cc

-- blocks stand where they stood
abbrev Stays : Frame → Frame → Type 0
Stays f g = (g.isize ≡ f.isize) × (g.fsize ≡ f.fsize) × ((j : ℕ) (p : Place) → g.address j p ≡ f.address j p)

stays-freed : (i : ℕ) (f g h : Frame) → Stays f g → IsFreed true i g h → IsFreed true i f h
stays-freed i f g h x y = record { isize = y.isize ∙ x.0; fsize = y.fsize ∙ x.1; others = λ j ne p. y.others j ne p ∙ x.2 j p; own = y.own }

freed-stays : (i : ℕ) (f g h : Frame) → IsFreed true i f g → Stays g h → IsFreed true i f h
freed-stays i f g h x y = record { isize = y.0 ∙ x.isize; fsize = y.1 ∙ x.fsize; others = λ j ne p. y.2 j p ∙ x.others j ne p; own = λ p. y.2 i p ∙ x.own p }

pub rmdir-low : (image : Image) (asked : Asked) (now p : ℕ) (name : List ℕ) (d : Node) (k i : ℕ) (n : Node) → IsStrong (frame image) → IsTaking (view image) asked now p name d k i n → 3 ≤ i
rmdir-low image asked now p name d k i n strong c =
    let s = stands-dir image i n strong.weak c.at_node c.node_kind in
    let used = (frame-IsFrame image).directories i s.dir in
    let r = used-number image i used in let positive = r.0 in let two = c.no_root in ⊎_elim
    (λ (one' : i ≡ 1). absurd (clash used (subst (λ z. ((frame image).head z).is_used ≡ false) (sym one') strong.weak.first)))
    (λ (n1 : i ≢ 1). omega arith) (cases_eq i 1)

module _ (image : Image) (asked : Asked) (now p : ℕ) (name : List ℕ) (d : Node) (k i : ℕ) (n : Node) (strong : IsStrong (frame image)) (c : IsTaking (view image) asked now p name d k i n)
    (b1 : List ℕ) (p1 : PutsSlot (sector_at image (entry_sector image p k)) k b1 None) where
  s_d : StandsDir image p d
  s_d = stands-dir image p d strong.weak c.at c.kind

  s_i : StandsDir image i n
  s_i = stands-dir image i n strong.weak c.at_node c.node_kind

  used : ((frame image).head i).is_used ≡ true
  used = (frame-IsFrame image).directories i s_i.dir

  low : 3 ≤ i
  low = rmdir-low image asked now p name d k i n strong c

  pub rmdir-entry : TakesDirectory image p k i name b1
  rmdir-entry = record {
    walked = s_d.walked;
    inside = let size = s_d.size in let long = s_d.long in let in' = c.inside in omega arith;
    puts = p1;
    past = c.past;
    slot = ap (λ x. get_or x k None) s_d.slots ∙ c.slot;
    dir = s_i.dir;
    apart = c.apart;
    no_root = c.no_root;
    nothing = λ l le. ap (λ x. get_or x l None) s_i.slots ∙ c.empty l le;
  }

  first : Image
  first = set image (entry_sector image p k) b1

  lessened : Node
  lessened = record d { nlink = d.nlink - 1; slots = set d.slots k None }

  timed : Node
  timed = record d { nlink = d.nlink - 1; slots = set d.slots k None; mtime = now; ctime = now }

  after : after_calls (view image) (asked ∷ []) now ≡ changed (view image) i None p timed
  unfolding timed
  after = c.after

  weak_first : IsWeak (frame first)
  unfolding first
  weak_first = gone-weak image p k i name b1 strong.weak rmdir-entry

  strong_first : IsStrongFor (λ j. (j ≢ i) × (j ≢ p)) (frame first)
  unfolding first
  strong_first = gone-strong image p k i name b1 strong.weak rmdir-entry (λ j. (j ≢ i) × (j ≢ p)) (λ j l. l) (strong_for (λ j. (j ≢ i) × (j ≢ p)) (frame image) strong)

  view_first : view first ≡ changed (view image) i None p lessened
  unfolding first lessened
  view_first = gone-view image p k i name b1 strong.weak rmdir-entry d c.at s_i.stands.within

  unnamed_first : is_named (tree (frame first)) i ≡ false
  unfolding first
  unnamed_first = gone-unnamed image p k i name b1 strong.weak rmdir-entry

  heads_first : (j : ℕ) → (frame first).head j ≡ (frame image).head j
  unfolding first
  heads_first = gone-head image p k i name b1 strong.weak rmdir-entry

  links_first : links (tree (frame first)) p + 1 ≡ d.nlink
  unfolding first
  links_first = gone-links_parent image p k i name b1 strong.weak rmdir-entry ∙ ap (λ (x : Node). x.nlink) s_d.stands.is

  stored_p : ((frame image).head p).nlink ≡ d.nlink
  stored_p = strong.counted p ((frame-IsFrame image).directories p s_d.dir) ∙ ap (λ (x : Node). x.nlink) s_d.stands.is

  stays_first : Stays (frame image) (frame first)
  unfolding first
  stays_first = let s = gone-sizes image p k i name b1 strong.weak rmdir-entry in (s.0, s.1, gone-address image p k i name b1 strong.weak rmdir-entry)

  at_changed : (m : Image) (y : Node) → view m ≡ changed (view image) i None p y → get (view m).nodes p ≡ Some y
  at_changed m y e = ap (λ (f : Files). get f.nodes p) e ∙ changed-here (view image) i None p y

  within_changed : (m : Image) (y : Node) → view m ≡ changed (view image) i None p y → i < (tree (frame m)).inodes + 1
  within_changed m y e = same-within image m i (ap (λ (f : Files). f.inodes) e) s_i.stands.within

  -- ---- the parent's inode

  module _ (mid : Image) (b : List ℕ) (weak : IsWeak (frame mid)) (files : view mid ≡ changed (view image) i None p lessened) (link : links (tree (frame mid)) p + 1 ≡ d.nlink) (head : (frame mid).head p ≡ (frame image).head p)
      (puts : PutsInode mid p b (left_inode (inode_at mid p) now)) where
    used_p : ((frame mid).head p).is_used ≡ true
    used_p = ap (λ (h : Head). h.is_used) head ∙ (frame-IsFrame image).directories p s_d.dir

    stored : (inode_at mid p).nlink ≡ d.nlink
    unfolding frame
    stored = ap (λ (h : Head). h.nlink) head ∙ stored_p

    alike : head_of (left_inode (inode_at mid p) now) ≡ record ((frame mid).head p) { nlink = (inode_at mid p).nlink - 1 }
    unfolding frame
    alike = refl

    parent_weak : IsWeak (frame (set mid (inode_sector p) b))
    parent_weak = attr-weak mid p b (left_inode (inode_at mid p) now) weak puts used_p alike

    parent_tree : tree (frame (set mid (inode_sector p) b)) ≡ tree (frame mid)
    parent_tree = attr-tree mid p b (left_inode (inode_at mid p) now) weak puts used_p alike

    parent_heads : (j : ℕ) → j ≢ p → (frame (set mid (inode_sector p) b)).head j ≡ (frame mid).head j
    parent_heads = attr-heads mid p b (left_inode (inode_at mid p) now) weak puts used_p alike

    parent_stays : Stays (frame mid) (frame (set mid (inode_sector p) b))
    parent_stays = let s = attr-sizes mid p b (left_inode (inode_at mid p) now) weak puts used_p alike in (s.0, s.1, attr-addresses mid p b (left_inode (inode_at mid p) now) weak puts used_p alike)

    parent_strong : (K : ℕ → Type 0) → ((j : ℕ) → K j → j ≢ p) → IsStrongFor K (frame mid) → IsStrongFor K (frame (set mid (inode_sector p) b))
    parent_strong K others s = attr-strong mid p b (left_inode (inode_at mid p) now) weak puts used_p alike K others s

    parent_counts : (((frame (set mid (inode_sector p) b)).head p).nlink ≡ links (tree (frame (set mid (inode_sector p) b))) p) × (is_named (tree (frame (set mid (inode_sector p) b))) p ≡ true)
    parent_counts = (
      ap (λ (h : Head). h.nlink) (attr-head mid p b (left_inode (inode_at mid p) now) weak puts used_p alike) ∙ (let e : (inode_at mid p).nlink - 1 ≡ links (tree (frame mid)) p = let s = stored in omega arith in e) ∙ ap (λ t. links t p) (sym parent_tree),
      ap (λ t. is_named t p) parent_tree ∙ (view-node mid p lessened (at_changed mid lessened files)).named,
    )

    parent_view : view (set mid (inode_sector p) b) ≡ changed (view image) i None p timed
    unfolding lessened timed
    parent_view =
        let s = view-node mid p (record d { nlink = d.nlink - 1; slots = set d.slots k None }) (at_changed mid (record d { nlink = d.nlink - 1; slots = set d.slots k None }) files) in
        attr-view mid p b (left_inode (inode_at mid p) now) weak puts used_p alike refl s.named s.within
        ∙ ap (λ (x : Node). with_node (view mid) p (record x { mtime = now; ctime = now })) s.is
        ∙ ap (λ f. with_node f p (record d { nlink = d.nlink - 1; slots = set d.slots k None; mtime = now; ctime = now })) files
        ∙ changed-again (view image) i None p (record d { nlink = d.nlink - 1; slots = set d.slots k None }) (record d { nlink = d.nlink - 1; slots = set d.slots k None; mtime = now; ctime = now })

  -- ---- the directory's own inode

  module _ (mid : Image) (y : Node) (b : List ℕ) (weak : IsWeak (frame mid)) (files : view mid ≡ changed (view image) i None p y) (unnamed : is_named (tree (frame mid)) i ≡ false)
      (puts : PutsInode mid i b (ended_inode (inode_at mid i).generation)) where
    n' : Inode
    n' = ended_inode (inode_at mid i).generation

    end_weak : IsWeak (frame (set mid (inode_sector i) b))
    end_weak = unnamed-weak mid i b (ended_inode (inode_at mid i).generation) weak puts (ended-placed mid i (inode_at mid i).generation) low unnamed

    end_strong : (K : ℕ → Type 0) → ((j : ℕ) → K j → j ≢ i) → IsStrongFor K (frame mid) → IsStrongFor K (frame (set mid (inode_sector i) b))
    end_strong K others s = unnamed-strong mid i b (ended_inode (inode_at mid i).generation) weak puts (ended-placed mid i (inode_at mid i).generation) low unnamed K others s

    end_free : ((frame (set mid (inode_sector i) b)).head i).is_used ≡ false
    unfolding ended_inode
    end_free = ap (λ (h : Head). h.is_used) (unnamed-head mid i b (ended_inode (inode_at mid i).generation) weak puts (ended-placed mid i (inode_at mid i).generation) low unnamed)

    end_freed : IsFreed true i (frame mid) (frame (set mid (inode_sector i) b))
    end_freed = let s = unnamed-sizes mid i b (ended_inode (inode_at mid i).generation) weak puts (ended-placed mid i (inode_at mid i).generation) low unnamed in record {
      isize = s.0;
      fsize = s.1;
      others = λ j ne q. unnamed-addresses mid i b (ended_inode (inode_at mid i).generation) weak puts (ended-placed mid i (inode_at mid i).generation) low unnamed j ne q;
      own = λ q. unnamed-address mid i b (ended_inode (inode_at mid i).generation) weak puts (ended-placed mid i (inode_at mid i).generation) low unnamed q ∙ ended_none mid (inode_at mid i).generation q;
    }

    end_links : (j : ℕ) → links (tree (frame (set mid (inode_sector i) b))) j ≡ links (tree (frame mid)) j
    end_links = unnamed-links mid i b (ended_inode (inode_at mid i).generation) weak puts (ended-placed mid i (inode_at mid i).generation) low unnamed

    end_heads : (j : ℕ) → j ≢ i → (frame (set mid (inode_sector i) b)).head j ≡ (frame mid).head j
    end_heads = unnamed-heads mid i b (ended_inode (inode_at mid i).generation) weak puts (ended-placed mid i (inode_at mid i).generation) low unnamed

    end_view : view (set mid (inode_sector i) b) ≡ changed (view image) i None p y
    unfolding ended_inode
    end_view =
        let within = within_changed mid y files in
        unnamed-view mid i b (ended_inode (inode_at mid i).generation) weak puts (ended-placed mid i (inode_at mid i).generation) low unnamed within
        ∙ (λ z. record (view mid) { generations = insert_again (view mid).generations i (inode_at mid i).generation (view-generation mid i (λ q. let l : 3 ≤ i = low in absurd (omega arith)) within) z })
        ∙ files

  -- ---- torn

  torn_at : (m : Image) (y : Node) → view m ≡ changed (view image) i None p y → IsAfter (get (view image).nodes p) (Some timed) (Some y) → Torn (view image) (asked ∷ []) now (view m)
  torn_at m y e h = torn-two (view image) asked now i None None p y timed (view m) c.no_write c.apart after e (same refl) h

  lessened_after : IsAfter (get (view image).nodes p) (Some timed) (Some lessened)
  unfolding timed lessened
  lessened_after = times d (record d { nlink = d.nlink - 1; slots = set d.slots k None; mtime = now; ctime = now }) c.at refl refl

  entry_inside : (3 ≤ entry_sector image p k) × (entry_sector image p k < length image)
  entry_inside = let size = s_d.size in let long = s_d.long in let in' = c.inside in
      let r = address-inside image strong.weak p (Body (k / 32)) (strong.weak.needed p (k / 32) s_d.dir (omega arith)) in (r.0, r.2)

  length_first : length first ≡ length image
  unfolding first
  length_first = length-set image (entry_sector image p k) b1

  stands_in : (m : Image) (j : ℕ) (b : List ℕ) (v : Inode) → IsWeak (frame m) → length m ≡ length image → PutsInode m j b v → inode_sector j < length image
  stands_in m j b v w e puts = subst (λ x. inode_sector j < x) e (inode_sector-inside m w j puts.inside).2

  -- the parent's inode comes first
  module _ (b2 b3 : List ℕ) (p2 : PutsInode (set image (entry_sector image p k) b1) p b2 (left_inode (inode_at (set image (entry_sector image p k) b1) p) now))
      (p3 : PutsInode (set (set image (entry_sector image p k) b1) (inode_sector p) b2) i b3 (ended_inode (inode_at (set (set image (entry_sector image p k) b1) (inode_sector p) b2) i).generation)) where
    second : Image
    second = set first (inode_sector p) b2

    weak_second : IsWeak (frame second)
    unfolding second first
    weak_second = parent_weak first b2 weak_first view_first links_first (heads_first p) p2

    view_second : view second ≡ changed (view image) i None p timed
    unfolding second first
    view_second = parent_view first b2 weak_first view_first links_first (heads_first p) p2

    strong_second : IsStrongFor (λ j. j ≢ i) (frame second)
    unfolding second first
    strong_second = strong_change (λ j. (j ≢ i) × (j ≢ p)) (λ j. j ≢ i) (frame second)
        (parent_strong first b2 weak_first view_first links_first (heads_first p) p2 (λ j. (j ≢ i) × (j ≢ p)) (λ j l. l.1) strong_first)
        (λ j ni. ⊎_elim
        (λ (e : j ≡ p). inr (λ u. subst (λ z. (((frame second).head z).nlink ≡ links (tree (frame second)) z) × (is_named (tree (frame second)) z ≡ true)) (sym e) (parent_counts first b2 weak_first view_first links_first (heads_first p) p2)))
        (λ (ne : j ≢ p). inl (ni, ne))
        (cases_eq j p))

    unnamed_second : is_named (tree (frame second)) i ≡ false
    unfolding second first
    unnamed_second = ap (λ t. is_named t i) (parent_tree first b2 weak_first view_first links_first (heads_first p) p2) ∙ unnamed_first

    third : Image
    third = set second (inode_sector i) b3

    strong_third : IsStrong (frame third)
    unfolding third second first
    strong_third = strong_of i (frame third) (end_strong second timed b3 weak_second view_second unnamed_second p3 (λ j. j ≢ i) (λ j ne. ne) strong_second)
        (λ u. absurd (clash u (end_free second timed b3 weak_second view_second unnamed_second p3)))

    view_third : view third ≡ changed (view image) i None p timed
    unfolding third second first
    view_third = end_view second timed b3 weak_second view_second unnamed_second p3

    pub rmdir-parent_first_freed : IsFreed true i (frame image) (frame (set (set (set image (entry_sector image p k) b1) (inode_sector p) b2) (inode_sector i) b3))
    unfolding second first
    rmdir-parent_first_freed = stays-freed i (frame image) (frame first) (frame (set (set first (inode_sector p) b2) (inode_sector i) b3)) stays_first
        (stays-freed i (frame first) (frame second) (frame (set second (inode_sector i) b3)) (parent_stays first b2 weak_first view_first links_first (heads_first p) p2)
        (end_freed second timed b3 weak_second view_second unnamed_second p3))

    pub rmdir-parent_first : IsPlanOf image (asked ∷ []) now ((entry_sector image p k, b1) ∷ (inode_sector p, b2) ∷ (inode_sector i, b3) ∷ [])
    unfolding third second first
    rmdir-parent_first =
        let low' : 3 ≤ entry_sector image p k = entry_inside.0 in record {
          past = (omega arith, (omega arith, (omega arith, tt)));
          inside = (entry_inside.1, (stands_in first p b2 _ weak_first length_first p2, (stands_in second i b3 _ weak_second (length-set first (inode_sector p) b2 ∙ length_first) p3, tt)));
          whole = (p1.long, (p2.long, (p3.long, tt)));
          prefixes = (
            record { weak = strong.weak; torn = inl refl },
            (
              record { weak = weak_first; torn = torn_at first lessened view_first lessened_after },
              (
                record { weak = weak_second; torn = torn_at second timed view_second (same refl) },
                record { weak = strong_third.weak; torn = torn_at third timed view_third (same refl) },
              ),
            ),
          );
          strong = strong_third;
          after = view_third ∙ sym after;
        }

  -- the directory's own inode comes first
  module _ (b2 b3 : List ℕ) (p2 : PutsInode (set image (entry_sector image p k) b1) i b2 (ended_inode (inode_at (set image (entry_sector image p k) b1) i).generation))
      (p3 : PutsInode (set (set image (entry_sector image p k) b1) (inode_sector i) b2) p b3 (left_inode (inode_at (set (set image (entry_sector image p k) b1) (inode_sector i) b2) p) now)) where
    mid : Image
    mid = set first (inode_sector i) b2

    weak_mid : IsWeak (frame mid)
    unfolding mid first
    weak_mid = end_weak first lessened b2 weak_first view_first unnamed_first p2

    view_mid : view mid ≡ changed (view image) i None p lessened
    unfolding mid first
    view_mid = end_view first lessened b2 weak_first view_first unnamed_first p2

    strong_mid : IsStrongFor (λ j. j ≢ p) (frame mid)
    unfolding mid first
    strong_mid = strong_change (λ j. (j ≢ i) × (j ≢ p)) (λ j. j ≢ p) (frame mid)
        (end_strong first lessened b2 weak_first view_first unnamed_first p2 (λ j. (j ≢ i) × (j ≢ p)) (λ j l. l.0) strong_first)
        (λ j np. ⊎_elim
        (λ (e : j ≡ i). inr (λ u. absurd (clash (subst (λ z. ((frame mid).head z).is_used ≡ true) e u) (end_free first lessened b2 weak_first view_first unnamed_first p2))))
        (λ (ne : j ≢ i). inl (ne, np))
        (cases_eq j i))

    links_mid : links (tree (frame mid)) p + 1 ≡ d.nlink
    unfolding mid first
    links_mid = ap (λ m. m + 1) (end_links first lessened b2 weak_first view_first unnamed_first p2 p) ∙ links_first

    head_mid : (frame mid).head p ≡ (frame image).head p
    unfolding mid first
    head_mid = end_heads first lessened b2 weak_first view_first unnamed_first p2 p (λ e. c.apart (sym e)) ∙ heads_first p

    last : Image
    last = set mid (inode_sector p) b3

    strong_last : IsStrong (frame last)
    unfolding last mid first
    strong_last = strong_of p (frame last) (parent_strong mid b3 weak_mid view_mid links_mid head_mid p3 (λ j. j ≢ p) (λ j ne. ne) strong_mid)
        (λ u. parent_counts mid b3 weak_mid view_mid links_mid head_mid p3)

    view_last : view last ≡ changed (view image) i None p timed
    unfolding last mid first
    view_last = parent_view mid b3 weak_mid view_mid links_mid head_mid p3

    pub rmdir-own_first_freed : IsFreed true i (frame image) (frame (set (set (set image (entry_sector image p k) b1) (inode_sector i) b2) (inode_sector p) b3))
    unfolding mid first
    rmdir-own_first_freed = stays-freed i (frame image) (frame first) (frame (set (set first (inode_sector i) b2) (inode_sector p) b3)) stays_first
        (freed-stays i (frame first) (frame mid) (frame (set mid (inode_sector p) b3)) (end_freed first lessened b2 weak_first view_first unnamed_first p2)
        (parent_stays mid b3 weak_mid view_mid links_mid head_mid p3))

    pub rmdir-own_first : IsPlanOf image (asked ∷ []) now ((entry_sector image p k, b1) ∷ (inode_sector i, b2) ∷ (inode_sector p, b3) ∷ [])
    unfolding last mid first
    rmdir-own_first =
        let low' : 3 ≤ entry_sector image p k = entry_inside.0 in record {
          past = (omega arith, (omega arith, (omega arith, tt)));
          inside = (entry_inside.1, (stands_in first i b2 _ weak_first length_first p2, (stands_in mid p b3 _ weak_mid (length-set first (inode_sector i) b2 ∙ length_first) p3, tt)));
          whole = (p1.long, (p2.long, (p3.long, tt)));
          prefixes = (
            record { weak = strong.weak; torn = inl refl },
            (
              record { weak = weak_first; torn = torn_at first lessened view_first lessened_after },
              (
                record { weak = weak_mid; torn = torn_at mid lessened view_mid lessened_after },
                record { weak = strong_last.weak; torn = torn_at last timed view_last (same refl) },
              ),
            ),
          );
          strong = strong_last;
          after = view_last ∙ sym after;
        }
