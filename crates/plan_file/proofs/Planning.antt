-- The plan of a batch, by what was read and laid out.
use Rattle.std.proofs.Common.{◌≡◌, ◌≢◌, ◌⊎◌, ℕ, ◌+◌, ◌/◌, ◌%◌, ◌<◌, ◌≤◌, min, Bool, true, false, cond, not, ◌&&◌, ◌||◌, ◌==◌, List, [], ◌∷◌, ◌++◌, map, length, take, drop, get_or, replicate, refl, sym, ap, subst, ◌∙◌, arith, inl, inr, ⊎_elim, eqb, eq-eqb, ltb, Option, Some, None, is_some}
use Rattle.std.proofs.lemmas.Bool.{cases_eq, cases_lt, cases_Bool, lt-ltb}
use Rattle.std.proofs.lemmas.List.{map-append}
use Rattle.std.specs.List.{range_with_len, list_any}
use Rattle.std.specs.FinMap.{get}
use Rattle.v7_layout.specs.declared.inode.Inode.{Inode}
use Rattle.files_model.specs.declared.attributes.Attr.{Attr}
use Rattle.files_model.specs.declared.attributes.FileId.{FileId}
use Rattle.files_model.specs.declared.attributes.Kind.TheVariants.{Regular}
use Rattle.files_model.specs.declared.call.WriteItem.{WriteItem}
use Rattle.files_model.specs.declared.reply.Reply.{Reply}
use Rattle.files_model.specs.Among.{is_among}
use Rattle.files_model.specs.Batch.{calls_of, node_after, accepted_of, answers, replies_of, cost, cost_of, touches, is_cut, IsRewrite}
use Rattle.files_model.specs.Files.{Node, Files, sectors_of, live}
use Rattle.files_model.specs.Space.{is_held, size_limit}
use Rattle.files_model.specs.declared.call.Call.TheVariants.{Write}
use Rattle.files_model.specs.declared.reply.Reply.TheVariants as reply
use Rattle.files_model.specs.declared.reply.Stat.TheVariants as stat
use Rattle.files_model.specs.Step.{sector_of, is_refused, with_node, step, write_row, at_live, unless, write_refusal, attr_of, written}
use Rattle.files_model.specs.Torn.{after_calls}
use Rattle.files_model.proofs.Batches.{after_batch, node_after-IsRewrite}
use Rattle.stable.specs.Puts.{put_all}
use Rattle.stable.specs.Store.{Image}
use Rattle.v7_map.specs.Image.{IsImage, sector_at, inode_at, inode_sector, inode_offset}
use Rattle.v7_map.specs.Frame.{Place, Body, Single, Double, frame}
use Rattle.v7_sets.specs.Sets.{IsFreeBlock, AreSetsOf}
use Rattle.v7_sets.specs.declared.sets.Sets.{Sets}
use Rattle.plan_file.specs.Free.{AreFree}
use Rattle.v7_map.specs.Plan.{PutsInode}
use Rattle.v7_map.specs.Plans.{IsPlanOf}
use Rattle.v7_map.specs.View.{view, node_at}
use Rattle.v7_map.specs.Weak.{IsStrong}
use Rattle.v7_map.proofs.AnyFrame.{frame-IsFrame}
use Rattle.files_model.proofs.Batches.{with_node_same}
use Rattle.v7_map.proofs.Frames.{and_left, and_right}
use Rattle.v7_map.proofs.Ranges.{inode_sector-inside}
use Rattle.v7_map.proofs.Splices.{PutsInode-bytes}
use Rattle.v7_map.proofs.Standing.{live-standing}
use Rattle.v7_map.specs.Stored.{is_standing}
use Rattle.v7_map.proofs.Walks.{among, among-filter, filter-among, among-range}
use Rattle.plan_file.specs.declared.draft.Draft.{Draft}
use Rattle.v7_read.specs.declared.found.Found.{Found}
use Rattle.plan_file.specs.declared.places.Places.{Places}
use Rattle.plan_file.specs.Accepted.{kept_of, spliced_by}
use Rattle.plan_file.specs.Contents.{old_content, content_put, content_puts, cuts, cut_puts, MapPuts, none, one}
use Rattle.plan_file.specs.Draft.{drafts_after, draft_replies, IsDraftOf}
use Rattle.v7_read.specs.Found.{IsFile}
use Rattle.plan_file.specs.Free.{count_from}
use Rattle.index_sets.specs.Free.{is_free}
use Rattle.plan_file.specs.Grown.{grown_inode}
use Rattle.plan_file.specs.Layout.{is_new, AreLaidOut, placed_at}
use Rattle.plan_file.specs.Places.{ArePlaces}
use Rattle.plan_file.specs.Planned.{AreBatchPuts, IsPlanned}
use Rattle.plan_file.specs.Rewrite.{IsLayout, MapPut, same, put, moved_inode, body_puts, entries, changed_by, filled_by}
use Rattle.plan_file.specs.Started.{IsFirst, AreAllTaken}
use Rattle.plan_file.proofs.Accepting.{kept-accepted, none-accepted, some-accepted, content-all, owner-stays, accepted-regular}
use Rattle.plan_file.proofs.Batch.{batch-IsPlanOf, batch-cost, batch-free, changed-IsRewrite, held_regular}
use Rattle.plan_file.proofs.Known.{inode_is, live_is, at_node, body, writable, read_only-is, old_none, old_is, block_held, at_single, at_body, draft, room}
use Rattle.plan_file.proofs.Freed.{free-of, sets-after}
use Rattle.plan_file.proofs.Layouts.{laid-IsLayout, single-same}
use Rattle.plan_file.proofs.Usage.{batch-decided}

less_of : (a b : ℕ) → ltb a b ≡ true → a < b
less_of a b h = grind arith

step-stale : (files : Files) (file : FileId) (w : WriteItem) (now : ℕ) → live files file ≡ None → step files (Write file w.offset w.bytes) w.cred now ≡ (reply.Refused stat.Stale, files)
unfolding write_row
step-stale files file w now none' z = at_live files (none' z) (λ m. unless files (write_refusal files file m w.cred w.offset w.bytes now) (reply.Attr (attr_of file.ino (written m w.offset w.bytes now)), with_node files file.ino (written m w.offset w.bytes now)))

-- the same puts, one by one
maps_to : (target : Place → ℕ) (F : ℕ → ℕ × List ℕ) (c : ℕ → List ℕ) (ks : List ℕ) → ((k : ℕ) → is_among k ks ≡ true → F k ≡ (target (Body k), c k)) → map F ks ≡ body_puts target (map (λ k. (k, c k)) ks)
maps_to target F c [] h = refl
maps_to target F c (x ∷ xs) h = λ z. h x (left (eqb x x) (is_among x xs) (eq-eqb x x refl)) z ∷ maps_to target F c xs (λ k e. h k (right (eqb x k) (is_among k xs) e)) z
  where
    left : (a b : Bool) → a ≡ true → (a || b) ≡ true
    left true b e = refl
    left false b e = absurd (cc)

    right : (a b : Bool) → b ≡ true → (a || b) ≡ true
    right true b e = refl
    right false b e = e

module _ (image : Image) (strong : IsStrong (frame image)) (whole : IsImage image) (file : FileId) (found : Found) (is : IsFile image file found)
    (places : Places) (sectors : ℕ) (s_is : sectors ≡ min (length image) 1048576) (at : ArePlaces image sectors found.inode places)
    (blocks inodes : List Bool) (are : AreSetsOf image blocks inodes) (d : Draft) (first : IsFirst file.ino found.inode places (count_from blocks 0) d)
    (ws : List WriteItem) (now : ℕ) (rs : List Reply) (rs_is : rs ≡ draft_replies found.read_only d ws now) where
  abbrev before : Node
  before = node_at image file.ino

  abbrev after : Node
  after = node_after (view image) file before ws now

  abbrev acc : List WriteItem
  acc = accepted_of (view image) file before ws now

  abbrev e : Draft
  e = drafts_after found.read_only d ws now

  live_before : live (view image) file ≡ Some before
  live_before = live_is image strong whole file found is

  decided : (draft_replies found.read_only d ws now ≡ answers (view image) file before ws now) × IsDraftOf file.ino after e
  decided =
      let r = batch-decided (view image) file before d ws now (writable image strong whole file found is) (draft image strong whole file found is places sectors s_is at blocks inodes are d first) (room image strong whole file found is places sectors s_is at blocks inodes are d first) in
      let ro : (view image).read_only ≡ found.read_only = sym (read_only-is image strong whole file found is) in
      subst (λ (b : Bool). (draft_replies b d ws now ≡ answers (view image) file before ws now) × IsDraftOf file.ino after (drafts_after b d ws now)) ro r

  answers_are : rs ≡ answers (view image) file before ws now
  answers_are = rs_is ∙ decided.0

  pub plan-answered : rs ≡ replies_of (view image) (calls_of file ws) now
  plan-answered = answers_are ∙ sym (after_batch (view image) file before ws now live_before).1

  -- all are refused
  pub nothing-planned : list_any (λ r. not (is_refused r)) rs ≡ false → IsPlanOf image (calls_of file ws) now []
  nothing-planned none' =
      let stays' : after ≡ before = none-accepted (view image) file before ws now (ap (list_any (λ r. not (is_refused r))) (sym answers_are) ∙ none') in
      let same' : after_calls (view image) (calls_of file ws) now ≡ view image = (after_batch (view image) file before ws now live_before).0 ∙ ap (with_node (view image) file.ino) stays' ∙ with_node_same (view image) file.ino before (at_node image strong whole file found is) in
      record { past = tt; inside = tt; whole = tt; prefixes = record { weak = strong.weak; torn = inl refl }; strong = strong; after = sym same' }

  -- some are accepted
  module _ (some : list_any (λ r. not (is_refused r)) rs ≡ true) (target : Places) (laid : AreLaidOut blocks places e.held e.mapped target) (puts : List (ℕ × List ℕ)) (plan : AreBatchPuts image file.ino found places target e.attr (kept_of ws rs) puts) where
    acc_some : acc ≢ []
    acc_some = some-accepted (view image) file before ws now (ap (list_any (λ r. not (is_refused r))) (sym answers_are) ∙ some)

    regular : before.kind ≡ Regular
    regular = accepted-regular (view image) file before ws now acc_some

    kept_is : kept_of ws rs ≡ acc
    kept_is = ap (kept_of ws) answers_are ∙ kept-accepted (view image) file before ws now

    abbrev ks : List ℕ
    ks = changed_by (accepted_of (view image) file before ws now)

    abbrev zs : List ℕ
    zs = filled_by before (node_after (view image) file before ws now) ks

    low : before.size ≤ size_limit
    low = (writable image strong whole file found is).size

    re : IsRewrite before after ks
    re = changed-IsRewrite before after acc (node_after-IsRewrite (view image) file before ws now (body image strong whole file found is) low)

    after_regular : after.kind ≡ Regular
    after_regular = ap (λ (m : Node). m.kind) re.same ∙ regular

    known : IsDraftOf file.ino after e
    known = decided.1

    lay : IsLayout (frame image) file.ino ks (placed_at target)
    lay = laid-IsLayout (frame image) file.ino strong (frame-IsFrame image) before after ks places target blocks e.held e.mapped
        (at_body image strong whole file found is places sectors s_is at) (at_single image strong whole file found is places sectors s_is at) laid (free-of image blocks inodes are) re after_regular
        (known.held after_regular) (known.mapped after_regular) (old_none image strong whole file found is regular)

    place : (k : ℕ) → k < 138 → placed_at target (Body k) ≡ get_or target.body k 0
    place k lt = ap (λ t. cond t (get_or target.body k 0) 0) (lt-ltb k 138 lt)

    below : (k : ℕ) → is_among k ks ≡ true → k < 138
    below k in' = by_some (get after.sectors k) refl (re.held k in')
      where
        by_some : (o : Option (List ℕ)) → get after.sectors k ≡ o → is_some o ≡ true → k < 138
        by_some None q h = absurd (cc)
        by_some (Some b) q h = let lt : k < sectors_of after.size = re.body.below k b q in let w = re.within in omega arith

    size_is : found.inode.size ≡ before.size
    size_is = ap (λ (m : Inode). m.size) is.inode

    -- the content of a sector before the batch
    content_before : (k : ℕ) → k < 138 → old_content image found.inode.size k (get_or places.body k 0) ≡ sector_of before.sectors k
    content_before k lt = (λ z. old_content image (size_is z) k (at_body image strong whole file found is places sectors s_is at k lt z)) ∙ old_is image strong whole file found is regular k

    data_is : content_puts image found.inode.size places.body target.body acc (range_with_len 0 138) ≡ body_puts (placed_at target) (map (λ k. (k, sector_of after.sectors k)) ks)
    unfolding content_puts changed_by
    data_is = maps_to (placed_at target) (content_put image found.inode.size places.body target.body acc) (λ k. sector_of after.sectors k) ks (λ k in'.
        let lt = below k in' in
        λ z. (sym (place k lt) z, (ap (spliced_by acc k) (content_before k lt) ∙ sym (content-all (view image) file before ws now (body image strong whole file found is) low k)) z))

    -- the old last sector
    same_cut : cuts found.inode.size e.attr.size places.body acc ≡ (is_cut before after && not (is_among (before.size / 512) ks))
    unfolding changed_by among
    same_cut =
        (λ z. cuts (size_is z) (sym (ap (λ (a : Attr). a.size) known.attr) z) places.body acc)
        ∙ by_growth (ltb before.size after.size) refl
      where
        q : ℕ
        q = before.size / 512

        by_growth : (t : Bool) → ltb before.size after.size ≡ t
            → (t && (not (before.size % 512 == 0) && (not (get_or places.body (before.size / 512) 0 == 0) && not (list_any (touches (before.size / 512)) acc)))) ≡ ((t && (not (before.size % 512 == 0) && is_held before (before.size / 512))) && not (is_among (before.size / 512) ks))
        by_growth false g = refl
        by_growth true g =
            let grows : before.size < after.size = less_of before.size after.size g in
            let w = re.within in
            let lt : before.size / 512 < 138 = omega arith in
            let b : not (get_or places.body (before.size / 512) 0 == 0) ≡ is_held before (before.size / 512) = ap (λ a. not (a == 0)) (at_body image strong whole file found is places sectors s_is at (before.size / 512) lt) ∙ block_held image strong whole file found is regular (before.size / 512) ∙ sym (held_regular before (before.size / 512) regular) in
            let t : list_any (touches (before.size / 512)) acc ≡ is_among (before.size / 512) ks = touched_among (before.size / 512) lt (list_any (touches (before.size / 512)) acc) refl in
            (λ z. not (before.size % 512 == 0) && (b z && not (t z))) ∙ assoc (not (before.size % 512 == 0)) (is_held before (before.size / 512)) (not (is_among (before.size / 512) ks))
          where
            assoc : (a b c : Bool) → (a && (b && c)) ≡ ((a && b) && c)
            assoc true b c = refl
            assoc false b c = refl

            touched_among : (k : ℕ) → k < 138 → (t : Bool) → list_any (touches k) acc ≡ t → t ≡ is_among k ks
            touched_among k lt true h = sym (filter-among (λ j. list_any (touches j) acc) (range_with_len 0 138) k (among-range k 0 138 (omega arith) (omega arith)) h)
            touched_among k lt false h = ⊎_elim
                (λ (in' : is_among k ks ≡ true). let yes' : list_any (touches k) acc ≡ true = among-filter (λ j. list_any (touches j) acc) (range_with_len 0 138) k in' in absurd (cc))
                (λ (out : is_among k ks ≡ false). sym out)
                (cases_Bool (is_among k ks))

    cut_is : cut_puts image found.inode.size e.attr.size places.body acc ≡ body_puts (placed_at target) (map (λ k. (k, sector_of before.sectors k)) zs)
    unfolding cut_puts
    cut_is =
        ap (λ t. cond t ((get_or places.body (found.inode.size / 512) 0, old_content image found.inode.size (found.inode.size / 512) (get_or places.body (found.inode.size / 512) 0)) ∷ []) []) same_cut
        ∙ by_test (is_cut before after && not (is_among (before.size / 512) ks)) refl
      where
        by_test : (t : Bool) → (is_cut before after && not (is_among (before.size / 512) ks)) ≡ t
            → cond t ((get_or places.body (found.inode.size / 512) 0, old_content image found.inode.size (found.inode.size / 512) (get_or places.body (found.inode.size / 512) 0)) ∷ []) []
            ≡ body_puts (placed_at target) (map (λ k. (k, sector_of before.sectors k)) (cond t (before.size / 512 ∷ []) []))
        by_test false g = refl
        by_test true g =
            let cut' : is_cut before after ≡ true = and_left (is_cut before after) (not (is_among (before.size / 512) ks)) g in
            let grows : before.size < after.size = less_of before.size after.size (and_left (ltb before.size after.size) _ cut') in
            let held' : is_held before (before.size / 512) ≡ true = and_right _ _ (and_right (ltb before.size after.size) _ cut') in
            let w = re.within in
            let lt : before.size / 512 < 138 = omega arith in
            let there : (frame image).address file.ino (Body (before.size / 512)) ≢ 0 = λ z. absurd (clash (is_some (get before.sectors (before.size / 512))) (sym (held_regular before (before.size / 512) regular) ∙ held') (old_none image strong whole file found is regular (before.size / 512) z)) in
            let to : get_or places.body (before.size / 512) 0 ≡ placed_at target (Body (before.size / 512)) = at_body image strong whole file found is places sectors s_is at (before.size / 512) lt ∙ sym (lay.kept (Body (before.size / 512)) there) in
            (λ z. (get_or places.body (size_is z / 512) 0, old_content image (size_is z) (size_is z / 512) (get_or places.body (size_is z / 512) 0)) ∷ [])
            ∙ (λ z. (to z, (content_at (before.size / 512) lt) z) ∷ [])
          where
            clash : (t : Bool) → t ≡ true → t ≡ false → ⊥
            clash true x y = cc
            clash false x y = cc

            content_at : (k : ℕ) → k < 138 → old_content image before.size k (get_or places.body k 0) ≡ sector_of before.sectors k
            content_at k lt = (λ z. old_content image (sym size_is z) k (get_or places.body k 0)) ∙ content_before k lt

    -- the block of addresses
    map_put : MapPut (frame image) file.ino (placed_at target) plan.maps
    map_put = by_puts plan.maps plan.map_puts
      where
        past_zero : (k : ℕ) → 138 ≤ k → (frame image).address file.ino (Body k) ≡ 0
        past_zero k ge = ⊎_elim (λ (z : (frame image).address file.ino (Body k) ≡ 0). z) (λ (nz : (frame image).address file.ino (Body k) ≢ 0). let lt : k < 138 = ((frame-IsFrame image).places file.ino (Body k) nz).1 in absurd (omega arith)) (cases_eq ((frame image).address file.ino (Body k)) 0)

        by_puts : (maps : List (ℕ × List ℕ)) → MapPuts places target maps → MapPut (frame image) file.ino (placed_at target) maps
        by_puts maps (none unchanged) = same
            (single-same (frame image) file.ino strong (frame-IsFrame image) before after ks places target blocks e.held e.mapped
            (at_body image strong whole file found is places sectors s_is at) (at_single image strong whole file found is places sectors s_is at) laid (free-of image blocks inodes are) re after_regular
            (known.held after_regular) (known.mapped after_regular) (old_none image strong whole file found is regular) unchanged)
            (λ k ge. ⊎_elim
            (λ (lt : k < 138). place k lt ∙ unchanged k ge lt ∙ at_body image strong whole file found is places sectors s_is at k lt)
            (λ (out : 138 ≤ k). lay.past k out ∙ sym (past_zero k out))
            (cases_lt k 138))
        by_puts maps (one bytes changed long ge lt differs reads) =
            let moved : placed_at target (Body changed) ≢ (frame image).address file.ino (Body changed) = λ z. differs (sym (place changed lt) ∙ z ∙ sym (at_body image strong whole file found is places sectors s_is at changed lt)) in
            let fresh : (frame image).address file.ino (Body changed) ≡ 0 = ⊎_elim (λ (z : (frame image).address file.ino (Body changed) ≡ 0). z) (λ (nz : (frame image).address file.ino (Body changed) ≢ 0). absurd (moved (lay.kept (Body changed) nz))) (cases_eq ((frame image).address file.ino (Body changed)) 0) in
            put bytes changed long ge moved (lay.mapped changed ge (λ z. moved (z ∙ sym fresh))) (λ k g l. reads k g l ∙ sym (place k l))

    -- the inode
    inode_same : grown_inode found.inode e.attr plan.direct target.single ≡ moved_inode (inode_at image file.ino) after (inode_at image file.ino).mode plan.direct target.single
    inode_same =
        let owner = owner-stays (view image) file before ws now in
        (λ z. grown_inode (is.inode z) (sym known.attr z) plan.direct target.single)
        ∙ (λ z. record (inode_at image file.ino) { uid = sym owner.0 z; gid = sym owner.1 z; size = after.size; direct = plan.direct; single = target.single; atime = sym owner.2 z; mtime = after.mtime; ctime = after.ctime })

    inode_put : PutsInode image file.ino plan.last (moved_inode (inode_at image file.ino) after (inode_at image file.ino).mode plan.direct (placed_at target Single))
    inode_put =
        let r = plan.replaces in
        let inside = inode_is image strong whole file found is in
        let sector_long : length (sector_at image (inode_sector file.ino)) ≡ 512 = whole (inode_sector file.ino) [] (inode_sector-inside image strong.weak file.ino inside).2 in
        let bytes = PutsInode-bytes image file.ino r.bytes (moved_inode (inode_at image file.ino) after (inode_at image file.ino).mode plan.direct target.single) inside sector_long r.long (r.reads ∙ inode_same) in
        let is_last = r.is ∙ ap (λ s. take (inode_offset file.ino) s ++ r.bytes ++ drop (inode_offset file.ino + length r.bytes) s) is.sector in
        subst (λ b. PutsInode image file.ino b (moved_inode (inode_at image file.ino) after (inode_at image file.ino).mode plan.direct target.single)) (sym is_last) bytes

    directs : (k : ℕ) → k < 10 → get_or plan.direct k 0 ≡ placed_at target (Body k)
    directs k lt = plan.are_direct k lt ∙ sym (place k (omega arith))

    -- the puts are those of the batch
    puts_are : puts ≡ body_puts (placed_at target) (entries before after zs ks) ++ plan.maps ++ (inode_sector file.ino, plan.last) ∷ []
    puts_are =
        plan.is
        ∙ ap (λ a. cut_puts image found.inode.size e.attr.size places.body a ++ content_puts image found.inode.size places.body target.body a (range_with_len 0 138) ++ plan.maps ++ (inode_sector file.ino, plan.last) ∷ []) kept_is
        ∙ (λ z. cut_is z ++ data_is z ++ plan.maps ++ (inode_sector file.ino, plan.last) ∷ [])
        ∙ ap (λ l. l ++ plan.maps ++ (inode_sector file.ino, plan.last) ∷ []) (sym (map-append (λ (p : ℕ × List ℕ). (placed_at target (Body p.0), p.1)) (map (λ k. (k, sector_of before.sectors k)) zs) (map (λ k. (k, sector_of after.sectors k)) ks)))

    pub batch-planned : IsPlanOf image (calls_of file ws) now puts
    batch-planned = subst (λ ps. IsPlanOf image (calls_of file ws) now ps) (sym puts_are)
        (batch-IsPlanOf image file before ws now (placed_at target) strong whole live_before regular lay plan.maps map_put plan.direct directs plan.last inode_put)

    pub batch-cheap : length puts ≤ cost (view image) file ws now
    batch-cheap =
        let c = batch-cost image file before ws now (placed_at target) strong whole live_before regular lay plan.maps map_put plan.direct directs plan.last inode_put acc_some in
        let l = ap length puts_are in
        let same' : cost (view image) file ws now ≡ cost_of before after acc = ap (λ o. elim o [ None ↦ 0 | Some old ↦ cost_of old (node_after (view image) file old ws now) (accepted_of (view image) file old ws now) ]) live_before in
        omega arith

    -- the set loses the new blocks
    pub batch-lost : (left : List Bool) → AreAllTaken blocks places e.held e.mapped target left → AreFree (frame (put_all puts image)) left
    batch-lost left taken = subst (λ ps. AreFree (frame (put_all ps image)) left) (sym puts_are) (record {
      free = λ a h. let l = taken.lost a h in (spare a).1 (are.free a l.0) (λ p q. not_placed a h p q);
      each = λ a free'. let r = (spare a).0 free' in
          taken.kept a (are.all_free a r.0) (λ k lt new' q. r.1 (Body k) (place k lt ∙ q)) (λ _ _ q. r.1 Single q);
    })
      where
        spare : (a : ℕ) → (IsFreeBlock (frame (put_all (body_puts (placed_at target) (entries before after zs ks) ++ plan.maps ++ (inode_sector file.ino, plan.last) ∷ []) image)) a → IsFreeBlock (frame image) a × ((p : Place) → placed_at target p ≢ a))
            × (IsFreeBlock (frame image) a → ((p : Place) → placed_at target p ≢ a) → IsFreeBlock (frame (put_all (body_puts (placed_at target) (entries before after zs ks) ++ plan.maps ++ (inode_sector file.ino, plan.last) ∷ []) image)) a)
        spare a = batch-free image file before ws now (placed_at target) strong whole live_before regular lay plan.maps map_put plan.direct directs plan.last inode_put a

        not_placed : (a : ℕ) → is_free left a ≡ true → (p : Place) → placed_at target p ≢ a
        not_placed a h p q =
            let l = taken.lost a h in
            let free' = are.free a l.0 in
            let three = strong.weak.sizes.low in
            let low' = free'.low in
            let nz : placed_at target p ≢ 0 = λ z. let w : a ≡ 0 = sym q ∙ z in absurd (omega arith) in
            ⊎_elim
            (λ (s : (frame image).address file.ino p ≢ 0). free'.nowhere file.ino p (sym (lay.kept p s) ∙ q))
            (λ (s : (frame image).address file.ino p ≡ 0). new_place a l.1 l.2 p s nz q)
            (swap (cases_eq ((frame image).address file.ino p) 0))
          where
            swap : {A B : Type 0} → A ⊎ B → B ⊎ A
            swap (inl x) = inr x
            swap (inr x) = inl x

            new_place : (a : ℕ) → ((k : ℕ) → k < 138 → is_new places.body e.held k ≡ true → get_or target.body k 0 ≢ a) → (places.single ≡ 0 → e.mapped ≡ true → target.single ≢ a) → (p : Place) → (frame image).address file.ino p ≡ 0 → placed_at target p ≢ 0 → placed_at target p ≡ a → ⊥
            new_place a bodies single (Body k) s nz q = ⊎_elim
                (λ (lt : k < 138). ⊎_elim
                (λ (n : is_new places.body e.held k ≡ true). bodies k lt n (sym (place k lt) ∙ q))
                (λ (n : is_new places.body e.held k ≡ false). nz (place k lt ∙ laid.body.old k n ∙ at_body image strong whole file found is places sectors s_is at k lt ∙ s))
                (cases_Bool (is_new places.body e.held k)))
                (λ (ge : 138 ≤ k). nz (lay.past k ge))
                (cases_lt k 138)
            new_place a bodies single Single s nz q = ⊎_elim
                (λ (m : e.mapped ≡ true). single (at_single image strong whole file found is places sectors s_is at ∙ s) m q)
                (λ (m : e.mapped ≡ false). nz (laid.single_none m ∙ at_single image strong whole file found is places sectors s_is at ∙ s))
                (cases_Bool e.mapped)
            new_place a bodies single Double s nz q = absurd (nz refl)

-- what a batch comes to of which all are refused
pub none-done : (image : Image) (strong : IsStrong (frame image)) (whole : IsImage image) (file : FileId) (found : Found) (is : IsFile image file found)
    (places : Places) (sectors : ℕ) (s_is : sectors ≡ min (length image) 1048576) (at : ArePlaces image sectors found.inode places)
    (blocks inodes : List Bool) (are : AreSetsOf image blocks inodes) (d : Draft) (first : IsFirst file.ino found.inode places (count_from blocks 0) d)
    (ws : List WriteItem) (now : ℕ) (rs : List Reply) (rs_is : rs ≡ draft_replies found.read_only d ws now) → list_any (λ r. not (is_refused r)) rs ≡ false → IsPlanned image file ws now (record { blocks = blocks; inodes = inodes }) [] rs
none-done image strong whole file found is places sectors s_is at blocks inodes are d first ws now rs rs_is all = record {
  plan = nothing-planned image strong whole file found is places sectors s_is at blocks inodes are d first ws now rs rs_is all;
  answered = plan-answered image strong whole file found is places sectors s_is at blocks inodes are d first ws now rs rs_is;
  cheap = omega arith;
  sets = are;
}

-- and one of which some are accepted
pub batch-done : (image : Image) (strong : IsStrong (frame image)) (whole : IsImage image) (file : FileId) (found : Found) (is : IsFile image file found)
    (places : Places) (sectors : ℕ) (s_is : sectors ≡ min (length image) 1048576) (at : ArePlaces image sectors found.inode places)
    (blocks inodes : List Bool) (are : AreSetsOf image blocks inodes) (d : Draft) (first : IsFirst file.ino found.inode places (count_from blocks 0) d)
    (ws : List WriteItem) (now : ℕ) (rs : List Reply) (rs_is : rs ≡ draft_replies found.read_only d ws now)
    (last : Draft) → last ≡ drafts_after found.read_only d ws now → (shown : List Reply) → shown ≡ rs → list_any (λ r. not (is_refused r)) rs ≡ true
    → (target : Places) → AreLaidOut blocks places last.held last.mapped target → (image' : Image) → image' ≡ image → (puts : List (ℕ × List ℕ)) → AreBatchPuts image' file.ino found places target last.attr (kept_of ws shown) puts
    → (left : List Bool) → AreAllTaken blocks places last.held last.mapped target left → IsPlanned image file ws now (record { blocks = left; inodes = inodes }) puts rs
batch-done image strong whole file found is places sectors s_is at blocks inodes are d first ws now rs rs_is last last_is shown shown_is some target laid image' image_is puts plan left taken =
    let e : Draft = drafts_after found.read_only d ws now in
    let laid' : AreLaidOut blocks places e.held e.mapped target = subst (λ (x : Draft). AreLaidOut blocks places x.held x.mapped target) last_is laid in
    let taken' : AreAllTaken blocks places e.held e.mapped target left = subst (λ (x : Draft). AreAllTaken blocks places x.held x.mapped target left) last_is taken in
    let plan1 : AreBatchPuts image file.ino found places target last.attr (kept_of ws shown) puts = subst (λ (x : Image). AreBatchPuts x file.ino found places target last.attr (kept_of ws shown) puts) image_is plan in
    let plan2 : AreBatchPuts image file.ino found places target last.attr (kept_of ws rs) puts = subst (λ (x : List Reply). AreBatchPuts image file.ino found places target last.attr (kept_of ws x) puts) shown_is plan1 in
    let plan3 : AreBatchPuts image file.ino found places target e.attr (kept_of ws rs) puts = subst (λ (x : Draft). AreBatchPuts image file.ino found places target x.attr (kept_of ws rs) puts) last_is plan2 in
    let planned : IsPlanOf image (calls_of file ws) now puts = batch-planned image strong whole file found is places sectors s_is at blocks inodes are d first ws now rs rs_is some target laid' puts plan3 in
    record {
      plan = planned;
      answered = plan-answered image strong whole file found is places sectors s_is at blocks inodes are d first ws now rs rs_is;
      cheap = batch-cheap image strong whole file found is places sectors s_is at blocks inodes are d first ws now rs rs_is some target laid' puts plan3;
      sets = sets-after image strong file (node_at image file.ino) (live_is image strong whole file found is) (calls_of file ws) now (node_after (view image) file (node_at image file.ino) ws now) (after_batch (view image) file (node_at image file.ino) ws now (live_is image strong whole file found is)).0 puts planned blocks inodes left are
          (batch-lost image strong whole file found is places sectors s_is at blocks inodes are d first ws now rs rs_is some target laid' puts plan3 left taken') taken'.long;
    }

-- a stale handle
pub stale-planned : (image : Image) (file : FileId) (ws : List WriteItem) (now : ℕ) → IsStrong (frame image) → is_standing image file ≡ false
    → (after_calls (view image) (calls_of file ws) now ≡ view image) × (replies_of (view image) (calls_of file ws) now ≡ replicate (length ws) (reply.Refused stat.Stale))
stale-planned image file ws now strong stale = each ws
  where
    none' : live (view image) file ≡ None
    none' = live-standing image strong file ∙ ap (λ b. cond b (Some (node_at image file.ino)) None) stale

    one-stale : (w : WriteItem) → step (view image) (Write file w.offset w.bytes) w.cred now ≡ (reply.Refused stat.Stale, view image)
    one-stale w = step-stale (view image) file w now none'

    each : (ws : List WriteItem) → (after_calls (view image) (calls_of file ws) now ≡ view image) × (replies_of (view image) (calls_of file ws) now ≡ replicate (length ws) (reply.Refused stat.Stale))
    each [] = (refl, refl)
    each (w ∷ ws) = let r = each ws in (
      ap (λ p. after_calls p.1 (calls_of file ws) now) (one-stale w) ∙ r.0,
      ap (λ p. p.0 ∷ replies_of p.1 (calls_of file ws) now) (one-stale w) ∙ ap (λ l. reply.Refused stat.Stale ∷ l) r.1,
    )

pub stale-IsPlanOf : (image : Image) (file : FileId) (ws : List WriteItem) (now : ℕ) → IsStrong (frame image) → is_standing image file ≡ false → IsPlanOf image (calls_of file ws) now []
stale-IsPlanOf image file ws now strong stale = let s = stale-planned image file ws now strong stale in
    record { past = tt; inside = tt; whole = tt; prefixes = record { weak = strong.weak; torn = inl refl }; strong = strong; after = sym s.0 }

pub stale-done : (image : Image) (file : FileId) (ws : List WriteItem) (now : ℕ) (left : Sets) → IsStrong (frame image) → AreSetsOf image left.blocks left.inodes → is_standing image file ≡ false → (rs : List Reply) → rs ≡ replicate (length ws) (reply.Refused stat.Stale)
    → IsPlanned image file ws now left [] rs
stale-done image file ws now left strong are stale rs rs_is = record {
  plan = stale-IsPlanOf image file ws now strong stale;
  answered = rs_is ∙ sym (stale-planned image file ws now strong stale).1;
  cheap = omega arith;
  sets = are;
}
