-- What the room of a RENAME into another directory is, and where the blocks of other directories stand once that one is longer.
use Rattle.std.proofs.Common.{◌≡◌, ◌≢◌, ℕ, ◌+◌, ◌/◌, ◌%◌, ◌≤◌, Bool, true, false, cond, not, ◌&&◌, ◌||◌, ◌==◌, List, [], ◌∷◌, ◌++◌, length, get_or, set, refl, sym, ap, subst, ◌∙◌, arith, ⊎_elim, ltb, Some, None}
use Rattle.std.proofs.lemmas.Bool.{cases_eq, ne_eqb, le-ltb}
use Rattle.std.specs.FinMap.{get}
use Rattle.files_model.specs.declared.attributes.FileId.{FileId}
use Rattle.files_model.specs.declared.call.Call.TheVariants as call
use Rattle.files_model.specs.declared.credential.Cred.{Cred}
use Rattle.files_model.specs.declared.reply.Stat.TheVariants as stat
use Rattle.files_model.specs.Answers.{with_node}
use Rattle.files_model.specs.Files.{Node, Files, sectors_of}
use Rattle.files_model.specs.NameRows.{is_full_for, renamed_in}
use Rattle.files_model.specs.Names.{place_for, with_entry, may_change}
use Rattle.files_model.specs.Permission as permission
use Rattle.files_model.specs.Space.{size_limit}
use Rattle.stable.specs.Puts.{put_all}
use Rattle.stable.specs.Store.{Image}
use Rattle.v7_layout.specs.declared.inode.Inode.{Inode}
use Rattle.v7_map.specs.Frame.{Frame, Head, Place, Body, is_directory, frame}
use Rattle.v7_map.specs.Image.{inode_at}
use Rattle.v7_map.specs.Plan.{PutsInode}
use Rattle.v7_map.specs.Plans.{IsPlanOf}
use Rattle.v7_map.specs.Tree.{tree, links, is_slot_of}
use Rattle.v7_map.specs.View.{view}
use Rattle.v7_map.specs.Weak.{IsWeak, IsStrong, slot_at}
use Rattle.v7_map.proofs.Inodes.{inode-frame}
use Rattle.v7_map.proofs.Nodes.{StandsAs, view-node}
use Rattle.v7_map.proofs.Prefixes.{put_all-append}
use Rattle.v7_plans.specs.Quiet.{AllMuted}
use Rattle.v7_plans.specs.Setting.{put_inode}
use Rattle.v7_plans.proofs.Muting.{muted-addresses, muted-heads, muted-view, muted-weak}
use Rattle.v7_sets.specs.Sets.{AreSetsOf}
use Rattle.v7_strokes.specs.Entries.{entry_sector, inode_put, put_entry}
use Rattle.v7_strokes.specs.Inodes.{longer_inode, timed_inode}
use Rattle.v7_strokes.specs.Slots.{Appends, GrowsBy, PutsEntry}
use Rattle.v7_strokes.proofs.Changed.{changed-other}
use Rattle.v7_strokes.proofs.Directories.{StandsDir, stands-dir, node-directory}
use Rattle.v7_strokes.proofs.GrowStep.{grow-address, grow-addresses, grow-head, grow-heads, grow-sizes, grow-view, grow-weak}
use Rattle.v7_strokes.proofs.Names.{some_slot}
use Rattle.v7_strokes.proofs.Slots.{plain-alike}
use Rattle.v7_strokes.proofs.SlotStep.{step-addresses, step-heads, step-sizes, step-weak}
use Rattle.name_plans.specs.Lengthening.{PutsLonger}
use Rattle.name_plans.specs.Moving.{IsMoving, MovesAtEnd}
use Rattle.name_plans.specs.Taken.{taken, AreNewBlocks}
use Rattle.name_plans.proofs.CreatingAccepted.{first_none}
use Rattle.name_plans.proofs.Lengthening.{longer-muted, longer-grown, longer-at}
use Rattle.name_plans.proofs.MoveAccepted.{IsMoveAtEnd}
use Rattle.name_plans.proofs.MoveAtEnd.{move-growing}
use Rattle.longer_plans.proofs.LongerSets.{muted-sizes, longer-sets}

clash : {b : Bool} → b ≡ true → b ≡ false → ⊥
clash {b = b} x y = cc

not_less : (x y : ℕ) → ltb x y ≡ false → y ≤ x
not_less x y e = grind arith

and_second : (a b : Bool) → (a && b) ≡ false → a ≡ true → b ≡ false
and_second true b e t = e
and_second false b e t = absurd (clash t refl)

or_second : (a b : Bool) → (a || b) ≡ false → b ≡ false
or_second true b e = absurd (cc)
or_second false b e = e

-- ---- the room of an accepted RENAME into another directory

module _ (files : Files) (from to : FileId) (name new_name : List ℕ) (cred : Cred) (now i k : ℕ) (n dp dq : Node) (c : IsMoving files from to name new_name cred now i k n dp dq) where
  abbrev long : Bool
  long = ltb size_limit (renamed_in dq None None now).size

  abbrev full_for : Bool
  full_for = (n.nlink == 65535) || is_full_for files dq (renamed_in dq (Some (i, new_name)) None now)

  other : not ((from.ino == to.ino) && true) ≡ true
  other = ap (λ b. not (b && true)) (ne_eqb from.ino to.ino (λ e. c.apart (sym e)))

  passed : (long ≡ false) × (full_for ≡ false)
  passed =
      let t1 = first_none (permission.is_directory n.kind && false) stat.Exist ((permission.is_directory n.kind && not (from.ino == to.ino), stat.Perm) ∷ (false, stat.Isdir) ∷ (not (may_change cred from.ino dp), stat.Acces) ∷ (not (may_change cred to.ino dq), stat.Acces)
      ∷ (not ((from.ino == to.ino) && true) && long, stat.Fbig) ∷ (not ((from.ino == to.ino) && true) && full_for, stat.Nospc) ∷ []) c.allowed in
      let t2 = first_none (permission.is_directory n.kind && not (from.ino == to.ino)) stat.Perm ((false, stat.Isdir) ∷ (not (may_change cred from.ino dp), stat.Acces) ∷ (not (may_change cred to.ino dq), stat.Acces)
      ∷ (not ((from.ino == to.ino) && true) && long, stat.Fbig) ∷ (not ((from.ino == to.ino) && true) && full_for, stat.Nospc) ∷ []) t1.1 in
      let t4 = first_none (not (may_change cred from.ino dp)) stat.Acces ((not (may_change cred to.ino dq), stat.Acces)
      ∷ (not ((from.ino == to.ino) && true) && long, stat.Fbig) ∷ (not ((from.ino == to.ino) && true) && full_for, stat.Nospc) ∷ []) t2.1 in
      let t5 = first_none (not (may_change cred to.ino dq)) stat.Acces ((not ((from.ino == to.ino) && true) && long, stat.Fbig) ∷ (not ((from.ino == to.ino) && true) && full_for, stat.Nospc) ∷ []) t4.1 in
      let t6 = first_none (not ((from.ino == to.ino) && true) && long) stat.Fbig ((not ((from.ino == to.ino) && true) && full_for, stat.Nospc) ∷ []) t5.1 in
      let t7 = first_none (not ((from.ino == to.ino) && true) && full_for) stat.Nospc [] t6.1 in
      (and_second (not ((from.ino == to.ino) && true)) long t6.0 other, and_second (not ((from.ino == to.ino) && true)) full_for t7.0 other)

  -- enough blocks are free
  pub grown-enough : is_full_for files dq (renamed_in dq (Some (i, new_name)) None now) ≡ false
  grown-enough = or_second (n.nlink == 65535) (is_full_for files dq (renamed_in dq (Some (i, new_name)) None now)) passed.1

module _ (image : Image) (from to : FileId) (name new_name : List ℕ) (cred : Cred) (now i k : ℕ) (n dp dq : Node) (target : Place → ℕ) (b1 : List ℕ) (maps : List (ℕ × List ℕ)) (direct : List ℕ) (single : ℕ)
    (strong : IsStrong (frame image)) (c : IsMoveAtEnd (view image) from to name new_name cred now i k n dp dq) (room : dq.size + 16 ≤ size_limit) (lay : PutsLonger image to.ino (length dq.slots) (Some (i, new_name)) target b1 maps direct single) where
  s_p : StandsDir image from.ino dp
  s_p = stands-dir image from.ino dp strong.weak c.at_from c.from_kind

  s_q : StandsDir image to.ino dq
  s_q = stands-dir image to.ino dq strong.weak c.at_to c.to_kind

  s_i : StandsAs image i n
  s_i = view-node image i n c.at_file

  plain_i : is_directory ((frame image).head i) ≡ false
  plain_i = node-directory image i n s_i ∙ c.file

  old_slot : slot_at (tree (frame image)) from.ino k ≡ Some (i, name)
  old_slot = ap (λ l. get_or l k None) s_p.slots ∙ c.old_slot

  used_i : ((frame image).head i).is_used ≡ true
  used_i = (strong.weak.names.used from.ino k i name s_p.walked old_slot).0

  few : links (tree (frame image)) i + 1 ≤ 65535
  few = subst (λ l. l + 1 ≤ 65535) (sym (ap (λ (m : Node). m.nlink) s_i.is)) c.bound

  bound : (j : ℕ) → is_slot_of j (Some (i, new_name)) ≡ true → links (tree (frame image)) j + 1 ≤ 65535
  bound j e = ⊎_elim (λ (same : j ≡ i). subst (λ z. links (tree (frame image)) z + 1 ≤ 65535) (sym same) few)
      (λ (ne : j ≢ i). absurd (clash e (ne_eqb i j (λ z. ne (sym z))))) (cases_eq j i)

  none : (l : ℕ) → sectors_of ((frame image).head to.ino).size ≤ l → (frame image).address to.ino (Body l) ≡ 0
  none l le = strong.none_past to.ino l le

  appends : Appends image to.ino (length dq.slots) (Some (i, new_name))
  appends =
      let long = s_q.long in let even = s_q.even in let z = s_q.size in record {
        weak = strong.weak;
        walked = s_q.walked;
        end = s_q.long ∙ ap (λ q. q / 16) (sym s_q.size);
        even = ap (λ q. q % 16) s_q.size ∙ s_q.even;
        within = subst (λ q. q + 16 ≤ size_limit) (sym s_q.size) room;
        none_past = λ l lt. none l (omega arith);
        plain = λ j other e. subst (λ q. is_directory ((frame image).head q) ≡ false) (some_slot i j new_name other e).0 plain_i;
        used = λ j other e. let r = some_slot i j new_name other e in (subst (λ q. ((frame image).head q).is_used ≡ true) r.0 used_i, subst (λ q. q ≢ []) r.1 c.good_name);
        bound = bound;
      }

  abbrev inner : List (ℕ × List ℕ)
  inner = (target (Body (length dq.slots / 32)), b1) ∷ maps

  abbrev mid : Image
  mid = put_all ((target (Body (length dq.slots / 32)), b1) ∷ maps) image

  abbrev g : Inode
  g = longer_inode (inode_at (put_all ((target (Body (length dq.slots / 32)), b1) ∷ maps) image) to.ino) direct single now

  muted : AllMuted to.ino inner image
  muted = longer-muted image to.ino (length dq.slots) now (Some (i, new_name)) target b1 maps direct single appends none lay

  grown : GrowsBy mid to.ino (length dq.slots) g (Some (i, new_name))
  grown = longer-grown image to.ino (length dq.slots) now (Some (i, new_name)) target b1 maps direct single appends none lay

  weak_mid : IsWeak (frame mid)
  weak_mid = muted-weak to.ino inner image muted strong.weak

  -- where the blocks of other directories stand once that one is longer
  pub grown-stays : (b2 : List ℕ) → PutsInode mid to.ino b2 g → (j : ℕ) → j ≢ to.ino → (r : Place) → (frame (put_inode (put_all ((target (Body (length dq.slots / 32)), b1) ∷ maps) image) to.ino b2)).address j r ≡ (frame image).address j r
  grown-stays b2 puts j ne r = grow-addresses mid to.ino (length dq.slots) g b2 (Some (i, new_name)) weak_mid puts grown j ne r ∙ muted-addresses to.ino inner image muted j ne r
