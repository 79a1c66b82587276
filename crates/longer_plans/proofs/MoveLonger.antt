-- RENAME into another directory that gets longer, by the blocks where that directory's are to stand.
use Rattle.std.proofs.Common.{◌≡◌, ◌≢◌, ℕ, ◌+◌, ◌/◌, ◌%◌, ◌<◌, ◌≤◌, Bool, true, false, cond, not, ◌&&◌, ◌||◌, ◌==◌, List, [], ◌∷◌, ◌++◌, length, get_or, set, refl, sym, ap, subst, ◌∙◌, arith, ⊎_elim, ltb, Some, None}
use Rattle.std.proofs.lemmas.Bool.{cases_eq, ne_eqb, le-ltb}
use Rattle.std.specs.FinMap.{get}
use Rattle.files_model.specs.declared.attributes.FileId.{FileId}
use Rattle.files_model.specs.declared.credential.Cred.{Cred}
use Rattle.files_model.specs.declared.call.Call.TheVariants as call
use Rattle.files_model.specs.declared.reply.Stat.TheVariants as stat
use Rattle.files_model.specs.Answers.{first_of}
use Rattle.files_model.specs.Files.{Node, Files, sectors_of}
use Rattle.files_model.specs.NameRows.{is_full_for, renamed_in}
use Rattle.files_model.specs.Names.{place_for, with_entry, may_change}
use Rattle.files_model.specs.Permission as permission
use Rattle.files_model.specs.Space.{size_limit}
use Rattle.stable.specs.Puts.{put_all}
use Rattle.stable.specs.Store.{Image}
use Rattle.v7_map.specs.Image.{inode_at}
use Rattle.v7_map.specs.Frame.{Frame, Head, Place, Body, is_directory, frame}
use Rattle.v7_map.specs.Tree.{tree, links, is_slot_of}
use Rattle.v7_map.specs.View.{view}
use Rattle.v7_map.specs.Weak.{IsWeak, IsStrong, slot_at}
use Rattle.v7_map.specs.Plan.{PutsInode}
use Rattle.v7_map.specs.Plans.{IsPlanOf}
use Rattle.v7_map.proofs.Inodes.{inode-frame}
use Rattle.v7_map.proofs.Nodes.{StandsAs, view-node}
use Rattle.v7_map.proofs.Prefixes.{put_all-append}
use Rattle.v7_plans.specs.Quiet.{AllMuted}
use Rattle.v7_plans.specs.Setting.{put_inode}
use Rattle.v7_plans.proofs.Muting.{muted-addresses, muted-heads, muted-view, muted-weak}
use Rattle.v7_sets.specs.Sets.{AreSetsOf}
use Rattle.v7_strokes.specs.Entries.{entry_sector, inode_put, put_entry}
use Rattle.v7_strokes.specs.Inodes.{longer_inode, timed_inode}
use Rattle.v7_strokes.specs.Slots.{Appends, GrowsBy, PutsEntry}
use Rattle.v7_strokes.proofs.Changed.{changed-other}
use Rattle.v7_strokes.proofs.Directories.{StandsDir, stands-dir, node-directory}
use Rattle.v7_strokes.proofs.GrowStep.{grow-weak, grow-view, grow-address, grow-addresses, grow-head, grow-heads, grow-sizes}
use Rattle.v7_strokes.proofs.Names.{some_slot}
use Rattle.v7_strokes.proofs.Slots.{plain-alike}
use Rattle.v7_strokes.proofs.SlotStep.{step-weak, step-heads, step-sizes, step-addresses}
use Rattle.name_plans.specs.Moving.{IsMoving}
use Rattle.name_plans.specs.Taken.{taken, AreNewBlocks}
use Rattle.name_plans.proofs.CreatingAccepted.{first_none}
use Rattle.name_plans.proofs.Lengthening.{longer-muted, longer-grown, longer-at}
use Rattle.name_plans.proofs.MoveAccepted.{IsMoveAtEnd}
use Rattle.name_plans.proofs.MoveAtEnd.{move-growing}
use Rattle.longer_plans.specs.LongerMoves.{MovesLonger, grown_image, moving_longer_puts}
use Rattle.longer_plans.proofs.LongerSets.{muted-sizes, longer-sets}

clash : {b : Bool} → b ≡ true → b ≡ false → ⊥
clash {b = b} x y = cc

not_less : (x y : ℕ) → ltb x y ≡ false → y ≤ x
not_less x y e = grind arith

-- a directory that passes the tests has room for the slot
pub move-room : (files : Files) (from to : FileId) (name new_name : List ℕ) (cred : Cred) (now i k : ℕ) (n dp dq : Node) → IsMoving files from to name new_name cred now i k n dp dq → length dq.slots ≤ place_for dq.slots → dq.size + 16 ≤ size_limit
unfolding with_entry
move-room files from to name new_name cred now i k n dp dq c full =
    let other : (from.ino == to.ino) ≡ false = ne_eqb from.ino to.ino (λ e. c.apart (sym e)) in
    let fits = passed (permission.is_directory n.kind && false) (permission.is_directory n.kind && not (from.ino == to.ino)) false (not (may_change cred from.ino dp)) (not (may_change cred to.ino dq))
    (not ((from.ino == to.ino) && true) && ltb size_limit (renamed_in dq None None now).size)
    (not ((from.ino == to.ino) && true) && ((n.nlink == 65535) || is_full_for files dq (renamed_in dq (Some (i, new_name)) None now))) c.allowed in
    let most : ltb size_limit (renamed_in dq None None now).size ≡ false = ap (λ b. not (b && true) && ltb size_limit (renamed_in dq None None now).size) (sym other) ∙ fits in
    let same : (renamed_in dq None None now).size ≡ dq.size + 16 = ap (λ t. (cond t (record dq { slots = set dq.slots (place_for dq.slots) None; mtime = now; ctime = now }) (record dq { slots = dq.slots ++ None ∷ []; size = dq.size + 16; mtime = now; ctime = now })).size) (le-ltb (place_for dq.slots) (length dq.slots) full) in
    subst (λ s. s ≤ size_limit) same (not_less size_limit (renamed_in dq None None now).size most)
  where
    passed : (a b c d e f g : Bool) → first_of ((a, stat.Exist) ∷ (b, stat.Perm) ∷ (c, stat.Isdir) ∷ (d, stat.Acces) ∷ (e, stat.Acces) ∷ (f, stat.Fbig) ∷ (g, stat.Nospc) ∷ []) ≡ None → f ≡ false
    passed a b c d e f g h =
        let t1 = first_none a stat.Exist ((b, stat.Perm) ∷ (c, stat.Isdir) ∷ (d, stat.Acces) ∷ (e, stat.Acces) ∷ (f, stat.Fbig) ∷ (g, stat.Nospc) ∷ []) h in
        let t2 = first_none b stat.Perm ((c, stat.Isdir) ∷ (d, stat.Acces) ∷ (e, stat.Acces) ∷ (f, stat.Fbig) ∷ (g, stat.Nospc) ∷ []) t1.1 in
        let t3 = first_none c stat.Isdir ((d, stat.Acces) ∷ (e, stat.Acces) ∷ (f, stat.Fbig) ∷ (g, stat.Nospc) ∷ []) t2.1 in
        let t4 = first_none d stat.Acces ((e, stat.Acces) ∷ (f, stat.Fbig) ∷ (g, stat.Nospc) ∷ []) t3.1 in
        let t5 = first_none e stat.Acces ((f, stat.Fbig) ∷ (g, stat.Nospc) ∷ []) t4.1 in
        (first_none f stat.Fbig ((g, stat.Nospc) ∷ []) t5.1).0

module _ (image : Image) (from to : FileId) (name new_name : List ℕ) (cred : Cred) (now i k : ℕ) (n dp dq : Node) (target : Place → ℕ) (b : List ℕ) (maps : List (ℕ × List ℕ)) (direct : List ℕ) (single : ℕ) (b1 b2 b3 : List ℕ)
    (strong : IsStrong (frame image)) (c : IsMoveAtEnd (view image) from to name new_name cred now i k n dp dq) (room : dq.size + 16 ≤ size_limit)
    (x : MovesLonger image now from.ino to.ino new_name dq k i target b maps direct single b1 b2 b3) where
  s_p : StandsDir image from.ino dp
  s_p = stands-dir image from.ino dp strong.weak c.at_from c.from_kind

  s_q : StandsDir image to.ino dq
  s_q = stands-dir image to.ino dq strong.weak c.at_to c.to_kind

  s_i : StandsAs image i n
  s_i = view-node image i n c.at_file

  file : is_directory ((frame image).head i) ≡ false
  file = node-directory image i n s_i ∙ c.file

  i_p : i ≢ from.ino
  i_p e = clash s_p.dir (subst (λ z. is_directory ((frame image).head z) ≡ false) e file)

  i_q : i ≢ to.ino
  i_q e = clash s_q.dir (subst (λ z. is_directory ((frame image).head z) ≡ false) e file)

  old_slot : slot_at (tree (frame image)) from.ino k ≡ Some (i, name)
  old_slot = ap (λ x. get_or x k None) s_p.slots ∙ c.old_slot

  used : ((frame image).head i).is_used ≡ true
  used = (strong.weak.names.used from.ino k i name s_p.walked old_slot).0

  few : links (tree (frame image)) i + 1 ≤ 65535
  few = subst (λ l. l + 1 ≤ 65535) (sym (ap (λ (m : Node). m.nlink) s_i.is)) c.bound

  bound : (j : ℕ) → is_slot_of j (Some (i, new_name)) ≡ true → links (tree (frame image)) j + 1 ≤ 65535
  bound j e = ⊎_elim (λ (same : j ≡ i). subst (λ z. links (tree (frame image)) z + 1 ≤ 65535) (sym same) few)
      (λ (ne : j ≢ i). absurd (clash e (ne_eqb i j (λ z. ne (sym z))))) (cases_eq j i)

  none : (l : ℕ) → sectors_of ((frame image).head to.ino).size ≤ l → (frame image).address to.ino (Body l) ≡ 0
  none l le = strong.none_past to.ino l le

  appends : Appends image to.ino (length dq.slots) (Some (i, new_name))
  appends =
      let long = s_q.long in let even = s_q.even in let z = s_q.size in record {
        weak = strong.weak;
        walked = s_q.walked;
        end = s_q.long ∙ ap (λ q. q / 16) (sym s_q.size);
        even = ap (λ q. q % 16) s_q.size ∙ s_q.even;
        within = subst (λ q. q + 16 ≤ size_limit) (sym s_q.size) room;
        none_past = λ l lt. none l (omega arith);
        plain = λ j other e. subst (λ q. is_directory ((frame image).head q) ≡ false) (some_slot i j new_name other e).0 file;
        used = λ j other e. let r = some_slot i j new_name other e in (subst (λ q. ((frame image).head q).is_used ≡ true) r.0 used, subst (λ q. q ≢ []) r.1 c.good_name);
        bound = bound;
      }

  inner : List (ℕ × List ℕ)
  inner = (target (Body (length dq.slots / 32)), b) ∷ maps

  mid : Image
  mid = grown_image image dq target b maps

  muted : AllMuted to.ino inner image
  unfolding inner
  muted = longer-muted image to.ino (length dq.slots) now (Some (i, new_name)) target b maps direct single appends none x.longer

  grown : GrowsBy mid to.ino (length dq.slots) (longer_inode (inode_at mid to.ino) direct single now) (Some (i, new_name))
  unfolding mid
  grown = longer-grown image to.ino (length dq.slots) now (Some (i, new_name)) target b maps direct single appends none x.longer

  pub move-longer : IsPlanOf image ((call.Rename from name to new_name, cred) ∷ []) now (moving_longer_puts image from.ino to.ino k dq target b maps b1 b2 b3)
  unfolding mid inner
  move-longer = move-growing image from to name new_name cred now i k n dp dq (longer_inode (inode_at (grown_image image dq target b maps) to.ino) direct single now) b1 b2 b3 ((target (Body (length dq.slots / 32)), b) ∷ maps) strong c
      (record { full = x.full; muted = muted; grows = grown; times = refl; directory = x.directory; old = x.old; last = x.last })

  -- ---- where blocks stand afterwards

  weak_mid : IsWeak (frame mid)
  unfolding mid inner
  weak_mid = muted-weak to.ino inner image muted strong.weak

  puts_q : PutsInode mid to.ino b1 (longer_inode (inode_at mid to.ino) direct single now)
  unfolding mid
  puts_q = x.directory

  first : Image
  first = put_inode mid to.ino b1

  weak_first : IsWeak (frame first)
  unfolding first
  weak_first = grow-weak mid to.ino (length dq.slots) (longer_inode (inode_at mid to.ino) direct single now) b1 (Some (i, new_name)) weak_mid puts_q grown

  view_mid : view mid ≡ view image
  unfolding mid inner
  view_mid = muted-view to.ino inner image muted

  s_mid : StandsAs mid i n
  s_mid = view-node mid i n (ap (λ (f : Files). get f.nodes i) view_mid ∙ c.at_file)

  at_mid : get (view mid).nodes to.ino ≡ Some dq
  at_mid = ap (λ (f : Files). get f.nodes to.ino) view_mid ∙ c.at_to

  only : (j : ℕ) → j ≢ i → is_slot_of j (Some (i, new_name)) ≡ false
  only j ne = ne_eqb i j (λ e. ne (sym e))

  first_p : get (view first).nodes from.ino ≡ Some dp
  unfolding first
  first_p = ap (λ (f : Files). get f.nodes from.ino) (grow-view mid to.ino (length dq.slots) (longer_inode (inode_at mid to.ino) direct single now) b1 (Some (i, new_name)) weak_mid puts_q grown i only (λ e. i_q (sym e)) dq at_mid s_mid.within)
      ∙ changed-other (view mid) i _ to.ino _ from.ino (λ e. i_p (sym e)) (λ e. c.apart (sym e)) ∙ ap (λ (f : Files). get f.nodes from.ino) view_mid ∙ c.at_from

  s_first : StandsDir first from.ino dp
  s_first = stands-dir first from.ino dp weak_first first_p c.from_kind

  slot_first : slot_at (tree (frame first)) from.ino k ≡ Some (i, name)
  slot_first = ap (λ x. get_or x k None) s_first.slots ∙ c.old_slot

  heads_first : (j : ℕ) → j ≢ to.ino → (frame first).head j ≡ (frame image).head j
  unfolding first mid inner
  heads_first j ne = grow-heads mid to.ino (length dq.slots) (longer_inode (inode_at mid to.ino) direct single now) b1 (Some (i, new_name)) weak_mid puts_q grown j ne ∙ muted-heads to.ino inner image muted j

  entry : PutsEntry first from.ino k (entry_sector first from.ino k) b2 None
  unfolding first mid
  entry = record {
    walked = s_first.walked;
    inside = let size = s_first.size in let long = s_first.long in let in' = c.old_inside in omega arith;
    is = refl;
    puts = x.old;
    past = c.old_past;
    alike = plain-alike (tree (frame first)) (slot_at (tree (frame first)) from.ino k) None
        (λ j other e. subst (λ z. is_directory ((frame first).head z) ≡ false) (some_slot i j name other (sym slot_first ∙ e)).0 (ap is_directory (heads_first i i_q) ∙ file)) (λ j other e. absurd (cc));
    used = λ j other e. absurd (cc);
    bound = λ j e _. absurd (cc);
  }

  second : Image
  second = put_entry first from.ino k b2

  weak_second : IsWeak (frame second)
  unfolding second
  weak_second = step-weak first from.ino k (entry_sector first from.ino k) b2 None weak_first entry

  last : Image
  last = put_inode second from.ino b3

  frame_last : frame last ≡ frame second
  unfolding last second first mid
  frame_last = inode-frame second from.ino b3 _ weak_second x.last refl

  all : put_all (moving_longer_puts image from.ino to.ino k dq target b maps b1 b2 b3) image ≡ last
  unfolding last second first mid
  all = put_all-append ((target (Body (length dq.slots / 32)), b) ∷ maps) (inode_put to.ino b1 ∷ (entry_sector (put_inode (grown_image image dq target b maps) to.ino b1) from.ino k, b2) ∷ inode_put from.ino b3 ∷ []) image

  address_last : (j : ℕ) (r : Place) → (frame last).address j r ≡ (frame first).address j r
  unfolding second
  address_last j r = ap (λ (f : Frame). f.address j r) frame_last ∙ step-addresses first from.ino k (entry_sector first from.ino k) b2 None weak_first entry j r

  own : (r : Place) → (frame last).address to.ino r ≡ target r
  unfolding first mid
  own r = address_last to.ino r ∙ grow-address mid to.ino (length dq.slots) (longer_inode (inode_at mid to.ino) direct single now) b1 (Some (i, new_name)) weak_mid puts_q grown r
      ∙ longer-at image to.ino (length dq.slots) now (Some (i, new_name)) target b maps direct single appends none x.longer r

  others : (j : ℕ) → j ≢ to.ino → (r : Place) → (frame last).address j r ≡ (frame image).address j r
  unfolding first mid inner
  others j ne r = address_last j r ∙ grow-addresses mid to.ino (length dq.slots) (longer_inode (inode_at mid to.ino) direct single now) b1 (Some (i, new_name)) weak_mid puts_q grown j ne r
      ∙ muted-addresses to.ino inner image muted j ne r

  used_first : (j : ℕ) → ((frame first).head j).is_used ≡ ((frame image).head j).is_used
  unfolding first mid inner frame
  used_first j = ⊎_elim
      (λ (e : j ≡ to.ino). subst (λ q. ((frame first).head q).is_used ≡ ((frame image).head q).is_used) (sym e)
      (ap (λ (h : Head). h.is_used) (grow-head mid to.ino (length dq.slots) (longer_inode (inode_at mid to.ino) direct single now) b1 (Some (i, new_name)) weak_mid puts_q grown)
      ∙ ap (λ (h : Head). h.is_used) (muted-heads to.ino inner image muted to.ino)))
      (λ (ne : j ≢ to.ino). ap (λ (h : Head). h.is_used) (heads_first j ne))
      (cases_eq j to.ino)

  used_last : (j : ℕ) → ((frame last).head j).is_used ≡ ((frame image).head j).is_used
  unfolding second
  used_last j = ap (λ (f : Frame). (f.head j).is_used) frame_last ∙ ap (λ (h : Head). h.is_used) (step-heads first from.ino k (entry_sector first from.ino k) b2 None weak_first entry j) ∙ used_first j

  sizes : ((frame last).isize ≡ (frame image).isize) × ((frame last).fsize ≡ (frame image).fsize)
  unfolding second first mid inner
  sizes = let r = grow-sizes mid to.ino (length dq.slots) (longer_inode (inode_at mid to.ino) direct single now) b1 (Some (i, new_name)) weak_mid puts_q grown in
      let e = muted-sizes to.ino inner image muted in let t = step-sizes first from.ino k (entry_sector first from.ino k) b2 None weak_first entry in
      (ap (λ (f : Frame). f.isize) frame_last ∙ t.0 ∙ r.0 ∙ e.0, ap (λ (f : Frame). f.fsize) frame_last ∙ t.1 ∙ r.1 ∙ e.1)

  generations : (view last).generations ≡ (view image).generations
  generations = ap (λ (f : Files). f.generations) (ap view (sym all) ∙ move-longer.after ∙ c.after)

  pub move-own : (r : Place) → (frame (put_all (moving_longer_puts image from.ino to.ino k dq target b maps b1 b2 b3) image)).address to.ino r ≡ target r
  move-own = subst (λ m. (r : Place) → (frame m).address to.ino r ≡ target r) (sym all) own

  pub move-others : (j : ℕ) → j ≢ to.ino → (r : Place) → (frame (put_all (moving_longer_puts image from.ino to.ino k dq target b maps b1 b2 b3) image)).address j r ≡ (frame image).address j r
  move-others = subst (λ m. (j : ℕ) → j ≢ to.ino → (r : Place) → (frame m).address j r ≡ (frame image).address j r) (sym all) others

  pub move-taken : (new : List ℕ) → AreNewBlocks (frame image) to.ino target new → (blocks inodes : List Bool) → AreSetsOf image blocks inodes
      → AreSetsOf (put_all (moving_longer_puts image from.ino to.ino k dq target b maps b1 b2 b3) image) (taken new blocks) inodes
  move-taken new fresh blocks inodes sets = subst (λ m. AreSetsOf m (taken new blocks) inodes) (sym all) (longer-sets image last to.ino target strong.weak (record {
    isize = sizes.0;
    fsize = sizes.1;
    others = others;
    own = own;
    kept = x.longer.lays.kept;
    used = used_last;
    generations = generations;
  }) new fresh blocks inodes sets)
