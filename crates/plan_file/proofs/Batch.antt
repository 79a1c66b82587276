-- The plan of a batch of writes to one file.
use Rattle.std.proofs.Common.{◌≡◌, ◌≢◌, ℕ, suc, ◌+◌, ◌*◌, ◌/◌, ◌%◌, ◌<◌, ◌≤◌, Bool, true, false, cond, not, ◌&&◌, ◌||◌, ◌==◌, List, [], ◌∷◌, ◌++◌, map, length, get_or, set, refl, sym, ap, subst, ◌∙◌, arith, inl, inr, ⊎_elim, eqb, eq-eqb, ltb, leb, Option, Some, None, is_some, length-append}
use Rattle.std.proofs.lemmas.Bool.{cases_eq, cases_lt, cases_Bool, eqb-true, ne_eqb, lt-ltb}
use Rattle.std.proofs.lemmas.List.Sums.{length-filter}
use Rattle.std.specs.List.{range_with_len, list_any, count_by}
use Rattle.std.specs.FinMap.{get}
use Rattle.files_model.specs.declared.attributes.FileId.{FileId}
use Rattle.files_model.specs.declared.attributes.Kind.TheVariants.{Regular}
use Rattle.files_model.specs.Files.{Node, Files, sectors_of, IsBody, live}
use Rattle.files_model.specs.Space.{size_limit, is_held}
use Rattle.files_model.specs.Step.{touched, with_node, sector_of, written, write_refusal}
use Rattle.files_model.specs.Permission.{is_directory}
use Rattle.files_model.specs.Torn.{after_calls}
use Rattle.files_model.specs.declared.call.WriteItem.{WriteItem}
use Rattle.files_model.specs.Batch.{touches, cost_of, one_if, is_cut, maps_more, calls_of, node_after, accepted_of, touched_by, IsRewrite}
use Rattle.files_model.specs.Among.{is_among}
use Rattle.files_model.proofs.Maps.{get-insert_same}
use Rattle.files_model.proofs.Batches.{after_batch, batch-writes, live-node, node_after-IsRewrite}
use Rattle.stable.specs.Store.{Image}
use Rattle.v7_map.specs.Image.{isize_of, inode_at, inode_sector, IsImage}
use Rattle.v7_map.specs.Frame.{Frame, Place, Body, Single, frame}
use Rattle.v7_map.specs.Weak.{IsStrong}
use Rattle.v7_map.specs.View.{view, held}
use Rattle.stable.specs.Puts.{put_all, EachPrefix}
use Rattle.plan_file.specs.Rewrite.{body_puts, changed_by, filled_by, IsLayout, IsFill, MapPut, same, put, moved_inode, IsModeOf, entries}
use Rattle.v7_map.specs.Plans.{IsTornImage, IsPlanOf}
use Rattle.v7_sets.specs.Sets.{IsFreeBlock}
use Rattle.v7_map.specs.Plan.{PutsInode}
use Rattle.v7_map.proofs.Bodies.{view-IsBody, view-sector}
use Rattle.v7_map.proofs.Nodes.{StandsAs, view-node, is_file, size_of}
use Rattle.v7_map.proofs.Data.{inode_below}
use Rattle.v7_map.proofs.Walks.{among, among-filter, filter-among, among-range, or_cases, any_at, and_both}
use Rattle.v7_map.proofs.Frames.{and_left, and_right}
use Rattle.v7_map.proofs.Prefixes.{prefix-weaker, prefix-append, put_all-append, prefix-last}
use Rattle.v7_map.proofs.Puts.{all_append}
use Rattle.plan_file.proofs.Rewrites.{IsTornFile, rewrite-prefixes, rewrite-strong, rewrite-view, rewrite-free, rewrite-inside, rewrite-past, rewrite-whole}
use Rattle.v7_map.proofs.Used.{named_used}
use Rattle.v7_map.proofs.AnyFrame.{frame-IsFrame}
use Rattle.v7_map.specs.Frame as frames

-- ---- which sectors

touched_any : (ws : List WriteItem) (k : ℕ) → is_among k (touched_by ws) ≡ list_any (touches k) ws
touched_any [] k = refl
touched_any (w ∷ ws) k = both (touched w.offset (length w.bytes)) ∙ ap (λ b. touches k w || b) (touched_any ws k)
  where
    assoc : (a b c : Bool) → (a || (b || c)) ≡ ((a || b) || c)
    assoc true b c = refl
    assoc false b c = refl

    both : (xs : List ℕ) → is_among k (xs ++ touched_by ws) ≡ (is_among k xs || is_among k (touched_by ws))
    both [] = refl
    both (x ∷ xs) = ap (λ b. eqb x k || b) (both xs) ∙ assoc (eqb x k) (is_among k xs) (is_among k (touched_by ws))

pub changed-IsRewrite : (old new : Node) (ws : List WriteItem) → IsRewrite old new (touched_by ws) → IsRewrite old new (changed_by ws)
unfolding changed_by among
changed-IsRewrite old new ws re = record {
  same = re.same;
  grows = re.grows;
  within = re.within;
  body = re.body;
  kept = λ k e. re.kept k (⊎_elim
      (λ (yes : is_among k (touched_by ws) ≡ true). let at : is_among k (changed_by ws) ≡ true = filter-among (λ q. list_any (touches q) ws) (range_with_len 0 138) k (among-range k 0 138 (omega arith) (in_range k yes)) (sym (touched_any ws k) ∙ yes) in absurd (cc))
      (λ (out : is_among k (touched_by ws) ≡ false). out)
      (cases_Bool (is_among k (touched_by ws))));
  held = λ k e. re.held k (touched_any ws k ∙ among-filter (λ q. list_any (touches q) ws) (range_with_len 0 138) k e);
}
  where
    in_range : (k : ℕ) → is_among k (touched_by ws) ≡ true → k < 0 + 138
    in_range k e = by_some (get new.sectors k) refl (re.held k e)
      where
        by_some : (o : Option (List ℕ)) → get new.sectors k ≡ o → is_some o ≡ true → k < 0 + 138
        by_some None e h = absurd (cc)
        by_some (Some b) e h = let lt : k < sectors_of new.size = re.body.below k b e in let w = re.within in omega arith

pub held_regular : (n : Node) (k : ℕ) → n.kind ≡ Regular → is_held n k ≡ is_some (get n.sectors k)
held_regular n k e = ap (λ q. cond (is_directory q) (ltb k (sectors_of n.size)) (is_some (get n.sectors k))) e

pub filled-IsFill : (old new : Node) (ks : List ℕ) → old.kind ≡ Regular → IsBody old.size old.sectors → IsFill old new ks (filled_by old new ks)
filled-IsFill old new ks regular body = elim test as (λ b. test ≡ b → IsFill old new ks (cond b (old.size / 512 ∷ []) [])) [
  | true ↦ λ t. record {
    held = λ k e. let here : old.size / 512 ≡ k = eqb-true (old.size / 512) k (⊎_elim (λ (h : eqb (old.size / 512) k ≡ true). h) (λ (h : false ≡ true). absurd (cc)) (or_cases (eqb (old.size / 512) k) false e)) in
        subst (λ z. is_some (get old.sectors z) ≡ true) here (sym (held_regular old (old.size / 512) regular) ∙ and_right _ _ (and_right _ _ (and_left _ _ t)));
    all = λ k h out lt cut. let here : old.size / 512 ≡ k = at k h cut in ap (λ b. b || false) (eq-eqb (old.size / 512) k here);
  }
  | false ↦ λ t. record {
    held = λ k e. absurd (cc);
    all = λ k h out lt cut.
        let here : old.size / 512 ≡ k = at k h cut in
        let held : is_held old (old.size / 512) ≡ true = held_regular old (old.size / 512) regular ∙ ap (λ z. is_some (get old.sectors z)) here ∙ h in
        let part : not (old.size % 512 == 0) ≡ true = ap not (ne_eqb (old.size % 512) 0 (parted k h cut)) in
        let cuts : is_cut old new ≡ true = and_both (ltb old.size new.size) _ (lt-ltb old.size new.size lt) (and_both (not (old.size % 512 == 0)) _ part held) in
        let yes : test ≡ true = and_both (is_cut old new) _ cuts (ap not (ap (λ z. is_among z ks) here ∙ out)) in absurd (cc);
  }
] refl
  where
    test : Bool
    test = is_cut old new && not (is_among (old.size / 512) ks)

    low : (k : ℕ) → is_some (get old.sectors k) ≡ true → k < sectors_of old.size
    low k h = elim (get old.sectors k) as (λ o. get old.sectors k ≡ o → is_some o ≡ true → k < sectors_of old.size) [ None ↦ λ e h. absurd (cc) | Some b ↦ λ e h. body.below k b e ] refl h

    at : (k : ℕ) → is_some (get old.sectors k) ≡ true → old.size < 512 * (k + 1) → old.size / 512 ≡ k
    at k h cut = let lt : k < sectors_of old.size = low k h in omega arith

    parted : (k : ℕ) → is_some (get old.sectors k) ≡ true → old.size < 512 * (k + 1) → old.size % 512 ≢ 0
    parted k h cut z = let lt : k < sectors_of old.size = low k h in omega arith

leb_of : (a b : ℕ) → a ≤ b → leb a b ≡ true
leb_of a b h = grind arith

length_keyed : (c : ℕ → List ℕ) (ks : List ℕ) → length {A = ℕ × List ℕ} (map (λ k. (k, c k)) ks) ≡ length ks
length_keyed c [] = refl
length_keyed c (k ∷ ks) = ap suc (length_keyed c ks)

length_puts : (target : Place → ℕ) (es : List (ℕ × List ℕ)) → length (body_puts target es) ≡ length es
length_puts target [] = refl
length_puts target (e ∷ es) = ap suc (length_puts target es)

touched_count : List WriteItem → ℕ
touched_count a = count_by (λ k. list_any (touches k) a) (range_with_len 0 138)

changed-count : (a : List WriteItem) → length (changed_by a) ≡ touched_count a
unfolding changed_by touched_count
changed-count a = length-filter (λ k. list_any (touches k) a) (range_with_len 0 138)

cost-is : (old new : Node) (a : List WriteItem) → a ≢ [] → cost_of old new a ≡ touched_count a + one_if (is_cut old new) + one_if (maps_more old new) + 1
unfolding touched_count
cost-is old new [] some = absurd (some refl)
cost-is old new (w ∷ ws) some = refl

abbrev mode_in : Node → ℕ
mode_in m = m.mode

-- a write keeps the mode
mode_stays : (files : Files) (file : FileId) (n : Node) (ws : List WriteItem) (now : ℕ) → n.mode ≡ (node_after files file n ws now).mode
unfolding written
mode_stays files file n [] now = refl
mode_stays files file n (w ∷ ws) now = elim (write_refusal files file n w.cred w.offset w.bytes now) as (λ r. n.mode ≡ mode_in (elim r [
  | None ↦ node_after (with_node files file.ino (written n w.offset w.bytes now)) file (written n w.offset w.bytes now) ws now
  | Some stat ↦ node_after files file n ws now
])) [
  | None ↦ mode_stays (with_node files file.ino (written n w.offset w.bytes now)) file (written n w.offset w.bytes now) ws now
  | Some stat ↦ mode_stays files file n ws now
]

-- ---- the batch

module _ (image : Image) (file : FileId) (old : Node) (ws : List WriteItem) (now : ℕ) (target : Place → ℕ)
    (strong : IsStrong (frame image)) (whole : IsImage image) (is : live (view image) file ≡ Some old) (regular : old.kind ≡ Regular) where
  abbrev pub new : Node
  new = node_after (view image) file old ws now

  abbrev pub ks : List ℕ
  ks = changed_by (accepted_of (view image) file old ws now)

  abbrev pub zs : List ℕ
  zs = filled_by old (node_after (view image) file old ws now) (changed_by (accepted_of (view image) file old ws now))

  module _ (lay : IsLayout (frame image) file.ino ks target) (maps : List (ℕ × List ℕ)) (map_put : MapPut (frame image) file.ino target maps)
      (direct : List ℕ) (directs : (k : ℕ) → k < 10 → get_or direct k 0 ≡ target (Body k)) (inode_bytes : List ℕ)
      (puts : PutsInode image file.ino inode_bytes (moved_inode (inode_at image file.ino) new (inode_at image file.ino).mode direct (target Single))) where
    abbrev pub before : List (ℕ × List ℕ)
    before = body_puts target (entries old new zs ks) ++ maps

    abbrev pub plan : List (ℕ × List ℕ)
    plan = before ++ (inode_sector file.ino, inode_bytes) ∷ []

    at : get (view image).nodes file.ino ≡ Some old
    at = live-node (view image) file old is

    s : StandsAs image file.ino old
    s = view-node image file.ino old at

    body : IsBody old.size old.sectors
    body = view-IsBody image file.ino old whole strong.weak at

    used : ((frame image).head file.ino).is_used ≡ true
    used = named_used (frame image) strong.weak (frame-IsFrame image).directories file.ino s.named

    low : old.size ≤ size_limit
    low = let g = strong.weak.good file.ino used in let l : ((frame image).head file.ino).size ≤ size_limit = g.length in let e = size_of image file.ino old s in omega arith

    re : IsRewrite old new ks
    re = changed-IsRewrite old new (accepted_of (view image) file old ws now) (node_after-IsRewrite (view image) file old ws now body low)

    fill : IsFill old new ks zs
    fill = filled-IsFill old new ks regular body

    not_first : file.ino ≢ 1
    not_first e = let first = strong.weak.first in let u : ((frame image).head 1).is_used ≡ true = subst (λ z. ((frame image).head z).is_used ≡ true) e used in cc

    not_root : file.ino ≢ 2
    not_root e = let root = strong.weak.root in let f : frames.is_directory ((frame image).head 2) ≡ false = subst (λ z. frames.is_directory ((frame image).head z) ≡ false) e (is_file image file.ino old s regular) in cc

    is_mode : IsModeOf (inode_at image file.ino) new (inode_at image file.ino).mode
    is_mode = record { type = refl; bits = ap (λ (m : Node). m.mode) s.is ∙ mode_stays (view image) file old ws now }

    after : after_calls (view image) (calls_of file ws) now ≡ with_node (view image) file.ino new
    after = (after_batch (view image) file old ws now is).0

    to_torn : (image' : Image) → IsTornFile image file.ino old new.sectors image' → IsTornImage (view image) (calls_of file ws) now image'
    to_torn image' t = record {
      weak = t.weak;
      torn = inr (inr (inl (record {
        file = file;
        writes = batch-writes file ws;
        old = old;
        old_is = is;
        new = new;
        new_is = ap (λ (f : Files). get f.nodes file.ino) after ∙ get-insert_same (view image).nodes file.ino new;
        sectors = t.sectors;
        body = t.body;
        torn_is = t.is;
      })));
    }

    last_strong : IsStrong (frame (set (put_all before image) (inode_sector file.ino) inode_bytes))
    last_strong = rewrite-strong image file.ino old new ks zs target strong whole at regular re lay fill used not_first not_root maps map_put (inode_at image file.ino).mode is_mode direct directs inode_bytes puts

    last_view : view (set (put_all before image) (inode_sector file.ino) inode_bytes) ≡ with_node (view image) file.ino new
    last_view = rewrite-view image file.ino old new ks zs target strong whole at regular re lay fill used not_first not_root maps map_put (inode_at image file.ino).mode is_mode direct directs inode_bytes puts

    last_is : put_all plan image ≡ set (put_all before image) (inode_sector file.ino) inode_bytes
    last_is = put_all-append before ((inode_sector file.ino, inode_bytes) ∷ []) image

    prefixes_before : EachPrefix (IsTornImage (view image) (calls_of file ws) now) before image
    prefixes_before = prefix-weaker (IsTornFile image file.ino old new.sectors) (IsTornImage (view image) (calls_of file ws) now) to_torn before image
        (rewrite-prefixes image file.ino old new ks zs target strong whole at regular re lay fill used not_first not_root maps map_put (inode_at image file.ino).mode is_mode direct directs inode_bytes puts)

    inode_inside : inode_sector file.ino < length image
    unfolding frame
    inode_inside = let b = inode_below (isize_of image) file.ino puts.inside in let a = strong.weak.sizes.above in let w = strong.weak.sizes.within in omega arith

    pub batch-IsPlanOf : IsPlanOf image (calls_of file ws) now plan
    batch-IsPlanOf = record {
      past = all_append (λ (p : ℕ × List ℕ). 2 ≤ p.0) before ((inode_sector file.ino, inode_bytes) ∷ [])
          (rewrite-past image file.ino old new ks zs target strong whole at regular re lay fill used not_first not_root maps map_put (inode_at image file.ino).mode is_mode direct directs inode_bytes puts) (omega arith, tt);
      whole = all_append (λ (p : ℕ × List ℕ). length p.1 ≡ 512) before ((inode_sector file.ino, inode_bytes) ∷ [])
          (rewrite-whole image file.ino old new ks zs target strong whole at regular re lay fill used not_first not_root maps map_put (inode_at image file.ino).mode is_mode direct directs inode_bytes puts) (puts.long, tt);
      inside = all_append (λ (p : ℕ × List ℕ). p.0 < length image) before ((inode_sector file.ino, inode_bytes) ∷ [])
          (rewrite-inside image file.ino old new ks zs target strong whole at regular re lay fill used not_first not_root maps map_put (inode_at image file.ino).mode is_mode direct directs inode_bytes puts) (inode_inside, tt);
      prefixes = prefix-append (IsTornImage (view image) (calls_of file ws) now) before ((inode_sector file.ino, inode_bytes) ∷ []) image prefixes_before (
        prefix-last (IsTornImage (view image) (calls_of file ws) now) before image prefixes_before,
        record { weak = last_strong.weak; torn = inr (inl (last_view ∙ sym after)) },
      );
      strong = subst (λ m. IsStrong (frame m)) (sym last_is) last_strong;
      after = ap view last_is ∙ last_view ∙ sym after;
    }

    -- the blocks that stand nowhere afterwards: those before but for the added ones
    pub batch-free : (a : ℕ) → (IsFreeBlock (frame (put_all plan image)) a → IsFreeBlock (frame image) a × ((p : Place) → target p ≢ a))
        × (IsFreeBlock (frame image) a → ((p : Place) → target p ≢ a) → IsFreeBlock (frame (put_all plan image)) a)
    batch-free a = subst (λ m. (IsFreeBlock (frame m) a → IsFreeBlock (frame image) a × ((p : Place) → target p ≢ a)) × (IsFreeBlock (frame image) a → ((p : Place) → target p ≢ a) → IsFreeBlock (frame m) a)) (sym last_is)
        (rewrite-free image file.ino old new ks zs target strong whole at regular re lay fill used not_first not_root maps map_put (inode_at image file.ino).mode is_mode direct directs inode_bytes puts a)

    -- how many puts there are
    old_none : (k : ℕ) → (frame image).address file.ino (Body k) ≡ 0 → is_some (get old.sectors k) ≡ false
    old_none k z = ⊎_elim
        (λ (lt : k < sectors_of old.size). ap is_some (view-sector image file.ino k old at regular lt ∙ ap (λ a. held image old.size k a) z))
        (λ (ge : sectors_of old.size ≤ k). elim (get old.sectors k) as (λ o. get old.sectors k ≡ o → is_some o ≡ false) [ None ↦ λ e. refl | Some b ↦ λ e. let lt : k < sectors_of old.size = body.below k b e in absurd (omega arith) ] refl)
        (cases_lt k (sectors_of old.size))

    new_regular : new.kind ≡ Regular
    new_regular = ap (λ (m : Node). m.kind) re.same ∙ regular

    length_maps : (maps : List (ℕ × List ℕ)) → MapPut (frame image) file.ino target maps → length maps ≤ one_if (list_any (λ k. leb 10 k && not (is_held old k) && is_held new k) (range_with_len 0 (sectors_of new.size)))
    unfolding among
    length_maps maps (same of_single stay) = omega arith
    length_maps maps (put bytes changed long_map high differs nonzero lists) =
        let fresh : (frame image).address file.ino (Body changed) ≡ 0 = ⊎_elim (λ (z : (frame image).address file.ino (Body changed) ≡ 0). z) (λ (nz : (frame image).address file.ino (Body changed) ≢ 0). absurd (differs (lay.kept (Body changed) nz))) (cases_eq ((frame image).address file.ino (Body changed)) 0) in
        let added : is_among changed ks ≡ true = lay.added changed fresh (λ z. differs (z ∙ sym fresh)) in
        let some : is_some (get new.sectors changed) ≡ true = re.held changed added in
        let test : (leb 10 changed && not (is_held old changed) && is_held new changed) ≡ true = both (leb 10 changed) (not (is_held old changed)) (is_held new changed) (leb_of 10 changed high)
        (ap not (held_regular old changed regular ∙ old_none changed fresh)) (held_regular new changed new_regular ∙ some) in
        let any : list_any (λ k. leb 10 k && not (is_held old k) && is_held new k) (range_with_len 0 (sectors_of new.size)) ≡ true =
        any_at (λ k. leb 10 k && not (is_held old k) && is_held new k) (range_with_len 0 (sectors_of new.size)) changed (among-range changed 0 (sectors_of new.size) (omega arith) (below_new changed some)) test in
        subst (λ b. 1 ≤ one_if b) (sym any) (omega arith)
      where
        both : (a b c : Bool) → a ≡ true → b ≡ true → c ≡ true → (a && b && c) ≡ true
        both true true c e f g = g
        both true false c e f g = absurd (cc)
        both false b c e f g = absurd (cc)

        below_new : (k : ℕ) → is_some (get new.sectors k) ≡ true → k < 0 + sectors_of new.size
        below_new k h = elim (get new.sectors k) as (λ o. get new.sectors k ≡ o → is_some o ≡ true → k < 0 + sectors_of new.size) [ None ↦ λ e h. absurd (cc) | Some b ↦ λ e h. let lt : k < sectors_of new.size = re.body.below k b e in omega arith ] refl h

    pub batch-cost : accepted_of (view image) file old ws now ≢ [] → length plan ≤ cost_of old new (accepted_of (view image) file old ws now)
    batch-cost some =
        let a : List WriteItem = accepted_of (view image) file old ws now in
        let m = length_maps maps map_put in
        let k = length_changed a in
        let z = length_filled (is_cut old new) (not (is_among (old.size / 512) ks)) in
        let c = cost_is a some in
        let n1 : length plan ≡ length before + 1 = length-append before ((inode_sector file.ino, inode_bytes) ∷ []) in
        let n2 : length before ≡ length (body_puts target (entries old new zs ks)) + length maps = length-append (body_puts target (entries old new zs ks)) maps in
        let n3 : length (body_puts target (entries old new zs ks)) ≡ length (entries old new zs ks) = length_puts target (entries old new zs ks) in
        let n4 : length (entries old new zs ks) ≡ length zs + length ks = length-append (map (λ k. (k, sector_of old.sectors k)) zs) (map (λ k. (k, sector_of new.sectors k)) ks) ∙ (λ q. length_keyed (λ k. sector_of old.sectors k) zs q + length_keyed (λ k. sector_of new.sectors k) ks q) in
        omega arith
      where
        length_changed : (a : List WriteItem) → length (changed_by a) ≡ touched_count a
        length_changed a = changed-count a

        length_filled : (b c : Bool) → length (cond (b && c) (old.size / 512 ∷ []) []) ≤ one_if b
        length_filled true true = omega arith
        length_filled true false = omega arith
        length_filled false c = omega arith

        cost_is : (a : List WriteItem) → a ≢ [] → cost_of old new a ≡ touched_count a + one_if (is_cut old new) + one_if (maps_more old new) + 1
        cost_is a some = cost-is old new a some
