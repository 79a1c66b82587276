-- A name that moves to the end of another directory, in the form of its law.
use Rattle.std.proofs.Common.{◌≡◌, ◌≢◌, ℕ, ◌+◌, ◌/◌, ◌^◌, ◌<◌, ◌≤◌, ◌==◌, true, cond, List, [], ◌∷◌, ◌++◌, length, append_assoc, set, Option, Some, None, IfSome, refl, sym, ap, subst, ◌∙◌, arith, ⊎_elim}
use Rattle.std.proofs.lemmas.Bool.{cases_eq, ne_eqb}
use Rattle.std.specs.List.{AllByRecursion}
use Rattle.files_model.specs.Answers.{zeros}
use Rattle.files_model.specs.Space.{size_limit}
use Rattle.longer_plans.specs.LongerMoves.{MovesLonger, grown_image, moving_longer_puts}
use Rattle.longer_plans.proofs.MoveLonger.{move-room, move-longer, move-taken}
use Rattle.name_plans.specs.Lengthening.{MapPuts, same, changed, PutsLonger}
use Rattle.name_plans.proofs.MoveAccepted.{IsMoveAtEnd, rename-move_at_end}
use Rattle.plan_name.specs.Creating.{CanBePut, MapWithin, map_puts}
use Rattle.plan_name.specs.declared.creating_puts.Listing.{Listing}
use Rattle.plan_name.specs.declared.creating_puts.Longer.{Longer}
use Rattle.plan_name.proofs.Past.{still}
use Rattle.stable.specs.Puts.{put_all, with_put}
use Rattle.stable.specs.Store.{Image}
use Rattle.v7_layout.specs.declared.inode.Inode.{Inode}
use Rattle.v7_map.specs.Frame.{Place, Body, Single, frame}
use Rattle.v7_map.specs.Image.{sector_at, is_inode, inode_at, inode_sector, isize_of}
use Rattle.v7_map.specs.Plan.{PutsInode}
use Rattle.v7_map.specs.View.{view}
use Rattle.v7_map.specs.Weak.{IsStrong}
use Rattle.v7_map.proofs.Data.{same_inode}
use Rattle.v7_map.proofs.Nodes.{live-node}
use Rattle.v7_map.proofs.Puts.{all_append, put_all-below}
use Rattle.v7_map.proofs.Prefixes.{put_all-append}
use Rattle.v7_plans.specs.Setting.{put_inode}
use Rattle.v7_strokes.specs.Entries.{entry_sector, inode_put, put_entry}
use Rattle.v7_strokes.specs.Inodes.{longer_inode, timed_inode}
use Rattle.v7_strokes.specs.Merged.{merged}
use Rattle.v7_strokes.specs.Over.{slot_from}
use Rattle.v7_strokes.specs.Slots.{PutsSlot}
use Rattle.v7_strokes.specs.Targets.{IsTarget}
use Rattle.v7_strokes.proofs.Directories.{stands-dir}
use Rattle.v7_strokes.proofs.Merging.{merged-all, merged-plan, merged-with}
use Rattle.v7_sets.specs.Sets.{AreSetsOf}
use Rattle.name_plans.specs.Taken.{taken}
use Rattle.rename_puts.specs.Renamed.{Renaming, asked_of, LengthensName, IsPlannedLonger}
use Rattle.rename_puts.specs.declared.slots.Moved.{Moved}
use Rattle.rename_puts.specs.Slots.{MovedWithin}
use Rattle.rename_puts.proofs.Grown.{grown-stays}
use Rattle.rename_puts.proofs.Numbers.{live-number}
use Rattle.rename_puts.proofs.Steps.{one-more}

-- a block of addresses that is put stands in another sector than the slot
listed-merged : (a : ℕ) (bytes : List ℕ) (o : Option Listing) → AllByRecursion (λ (p : ℕ × List ℕ). a ≢ p.0) (map_puts o) → (a, bytes) ∷ map_puts o ≡ merged ((a, bytes) ∷ map_puts o)
listed-merged a bytes None h = refl
listed-merged a bytes (Some l) h = sym (ap (λ t. cond t ((l.block, l.bytes) ∷ []) ((a, bytes) ∷ (l.block, l.bytes) ∷ [])) (ne_eqb a l.block h.0))

module _ (image : Image) (call : Renaming) (now : ℕ) (moved : Moved) (longer : Longer) (target : Place → ℕ) (new : List ℕ) (strong : IsStrong (frame image)) (x : LengthensName image call now moved longer target new)
    (b1 b2 b3 b4 : List ℕ) (im1 im2 im3 : Image) (e1 : im1 ≡ image) (e2 : im2 ≡ image) (e3 : im3 ≡ image) (plan1 plan2 plan3 plan4 plan5 : List (ℕ × List ℕ)) (l1 : plan1 ≡ (moved.new.sector, b1) ∷ [])
    (slot : PutsSlot (cond longer.fresh zeros (sector_at image moved.new.sector)) moved.new.index b1 (slot_from moved.slot)) (l2 : plan2 ≡ plan1 ++ map_puts longer.map)
    (l3 : plan3 ≡ with_put plan2 (inode_sector moved.new.directory, b2))
    (grow : is_inode (put_all plan2 im1) moved.new.directory ≡ true → (inode_at (put_all plan2 im1) moved.new.directory).size + 16 < 2 ^ 32
    → PutsInode (put_all plan2 im1) moved.new.directory b2 (longer_inode (inode_at (put_all plan2 im1) moved.new.directory) longer.blocks.direct longer.blocks.single now))
    (l4 : plan4 ≡ with_put plan3 (moved.old.sector, b3)) (old : PutsSlot (sector_at (put_all plan3 im2) moved.old.sector) moved.old.index b3 None)
    (l5 : plan5 ≡ with_put plan4 (inode_sector moved.old.directory, b4))
    (times : is_inode (put_all plan4 im3) moved.old.directory ≡ true → PutsInode (put_all plan4 im3) moved.old.directory b4 (timed_inode (inode_at (put_all plan4 im3) moved.old.directory) now))
    (past : 2 ≤ moved.old.sector) where
  abbrev p : ℕ
  p = call.from.ino

  abbrev q : ℕ
  q = call.to.ino

  abbrev k : ℕ
  k = moved.old.index

  abbrev m : ℕ
  m = length x.new_node.slots

  c : IsMoveAtEnd (view image) call.from call.to call.name call.new_name call.cred now x.number k x.node x.old_node x.new_node
  c = rename-move_at_end image call.from call.to call.name call.new_name call.cred now x.number k x.node x.old_node x.new_node strong x.moving x.full

  room : x.new_node.size + 16 ≤ size_limit
  room = move-room (view image) call.from call.to call.name call.new_name call.cred now x.number k x.node x.old_node x.new_node x.moving x.full

  sector_is : moved.new.sector ≡ target (Body (m / 32))
  sector_is = x.lays.sector ∙ ap (λ l. target (Body (l / 32))) x.place

  lays : IsTarget (frame image) q (m / 32) target
  lays = subst (λ l. IsTarget (frame image) q (l / 32) target) x.place x.lays.lays

  map : MapPuts (frame image) q (m / 32) target (map_puts longer.map)
  map = subst (λ l. MapPuts (frame image) q (l / 32) target (map_puts longer.map)) x.place x.lays.map

  fresh_is : longer.fresh ≡ ((frame image).address q (Body (m / 32)) == 0)
  fresh_is = x.lays.is_fresh ∙ ap (λ l. (frame image).address q (Body (l / 32)) == 0) x.place

  puts_longer : PutsLonger image q m (Some (x.number, call.new_name)) target b1 (map_puts longer.map) longer.blocks.direct longer.blocks.single
  puts_longer = record {
    lays = lays;
    slot = subst (λ a. PutsSlot (cond ((frame image).address q (Body (m / 32)) == 0) zeros (sector_at image a)) m b1 (Some (x.number, call.new_name))) sector_is
        (subst (λ t. PutsSlot (cond t zeros (sector_at image moved.new.sector)) m b1 (Some (x.number, call.new_name))) fresh_is
        (subst (λ l. PutsSlot (cond longer.fresh zeros (sector_at image moved.new.sector)) l b1 (Some (x.number, call.new_name))) x.place
        (subst (PutsSlot (cond longer.fresh zeros (sector_at image moved.new.sector)) moved.new.index b1) x.holds slot)));
    map = map;
    own = x.lays.own;
    through = x.lays.through;
  }

  abbrev hidden : List (ℕ × List ℕ)
  hidden = (target (Body (m / 32)), b1) ∷ map_puts longer.map

  abbrev mid : Image
  mid = grown_image image x.new_node target b1 (map_puts longer.map)

  -- ---- the sectors of these puts

  target_low : (r : Place) → target r ≢ 0 → (frame image).isize ≤ target r
  target_low r nz = ⊎_elim
      (λ (z : (frame image).address q r ≡ 0). (lays.fresh r z nz).low)
      (λ (h : (frame image).address q r ≢ 0). subst (λ a. (frame image).isize ≤ a) (sym (lays.kept r h)) (strong.weak.data_block q r h).0)
      (cases_eq ((frame image).address q r) 0)

  hidden_low : AllByRecursion (λ (r : ℕ × List ℕ). (frame image).isize ≤ r.0) hidden
  hidden_low = (target_low (Body (m / 32)) lays.held, by_map map)
    where
      by_map : MapPuts (frame image) q (m / 32) target (map_puts longer.map) → AllByRecursion (λ (r : ℕ × List ℕ). (frame image).isize ≤ r.0) (map_puts longer.map)
      by_map (same reached through is) = subst (AllByRecursion (λ (r : ℕ × List ℕ). (frame image).isize ≤ r.0)) (sym is) tt
      by_map (changed bytes ten new_sector some long each is) = subst (AllByRecursion (λ (r : ℕ × List ℕ). (frame image).isize ≤ r.0)) (sym is) (target_low Single some, tt)

  map_apart : MapPuts (frame image) q (m / 32) target (map_puts longer.map) → AllByRecursion (λ (r : ℕ × List ℕ). target (Body (m / 32)) ≢ r.0) (map_puts longer.map)
  map_apart (same reached through is) = subst (AllByRecursion (λ (r : ℕ × List ℕ). target (Body (m / 32)) ≢ r.0)) (sym is) tt
  map_apart (changed bytes ten new_sector some long each is) = subst (AllByRecursion (λ (r : ℕ × List ℕ). target (Body (m / 32)) ≢ r.0)) (sym is) ((λ e. other (lays.apart (Body (m / 32)) Single lays.held e)), tt)
    where
      other : Body (m / 32) ≡ Single → ⊥
      other e = cc

  hidden_past : AllByRecursion (λ (r : ℕ × List ℕ). 2 ≤ r.0) hidden
  hidden_past = weaker hidden hidden_low
    where
      weaker : (puts : List (ℕ × List ℕ)) → AllByRecursion (λ (r : ℕ × List ℕ). (frame image).isize ≤ r.0) puts → AllByRecursion (λ (r : ℕ × List ℕ). 2 ≤ r.0) puts
      weaker [] h = tt
      weaker (r ∷ puts) h = ((let least = strong.weak.sizes.low in let low = h.0 in omega arith), weaker puts h.1)

  all2 : plan2 ≡ hidden
  all2 = l2 ∙ ap (λ z. z ++ map_puts longer.map) l1 ∙ ap (λ a. (a, b1) ∷ map_puts longer.map) sector_is

  merged2 : plan2 ≡ merged hidden
  merged2 = all2 ∙ listed-merged (target (Body (m / 32))) b1 longer.map (map_apart map)

  same2 : put_all plan2 im1 ≡ mid
  same2 = (λ z. put_all (all2 z) (e1 z))

  -- ---- the inode of the directory that gets longer

  below : (s : ℕ) → s < isize_of image → sector_at mid s ≡ sector_at image s
  unfolding frame
  below s lt = put_all-below hidden image (frame image).isize s hidden_low lt

  inode_mid : inode_at mid q ≡ inode_at image q
  unfolding frame
  inode_mid = same_inode image mid (below 1 (let least = strong.weak.sizes.low in omega arith)) (λ s _ lt. below s lt) q

  number_mid : is_inode mid q ≡ true
  number_mid = still image hidden q hidden_past (live-number image call.to x.new_node strong x.moving.live_to)

  size_mid : (inode_at mid q).size + 16 < 2 ^ 32
  unfolding frame
  size_mid = let s = (stands-dir image q x.new_node strong.weak (live-node (view image) call.to x.new_node x.moving.live_to) c.to_kind).size in
      let e : (inode_at mid q).size ≡ x.new_node.size = ap (λ (v : Inode). v.size) inode_mid ∙ s in let r = room in omega arith

  directory : PutsInode mid q b2 (longer_inode (inode_at mid q) longer.blocks.direct longer.blocks.single now)
  directory = subst (λ j. is_inode mid j ≡ true → (inode_at mid j).size + 16 < 2 ^ 32 → PutsInode mid j b2 (longer_inode (inode_at mid j) longer.blocks.direct longer.blocks.single now)) x.new_directory
      (subst (λ y. is_inode y moved.new.directory ≡ true → (inode_at y moved.new.directory).size + 16 < 2 ^ 32
      → PutsInode y moved.new.directory b2 (longer_inode (inode_at y moved.new.directory) longer.blocks.direct longer.blocks.single now)) same2 grow) number_mid size_mid

  abbrev grown : Image
  grown = put_inode (grown_image image x.new_node target b1 (map_puts longer.map)) q b2

  -- ---- the old slot, and the times of its directory

  old_there : moved.old.sector ≡ entry_sector grown p k
  old_there = x.old_sector ∙ sym (grown-stays image call.from call.to call.name call.new_name call.cred now x.number k x.node x.old_node x.new_node target b1 (map_puts longer.map) longer.blocks.direct longer.blocks.single strong c room puts_longer
      b2 directory p (λ e. x.moving.apart (sym e)) (Body (k / 32)))

  merged3 : plan3 ≡ merged (hidden ++ inode_put q b2 ∷ [])
  merged3 = l3 ∙ (λ z. with_put (merged2 z) (inode_sector (x.new_directory z), b2)) ∙ sym (merged-with hidden (inode_put q b2))

  same3 : put_all plan3 im2 ≡ grown
  same3 = (λ z. put_all (merged3 z) (e2 z)) ∙ merged-all (hidden ++ inode_put q b2 ∷ []) image ∙ put_all-append hidden (inode_put q b2 ∷ []) image

  merged4 : plan4 ≡ merged ((hidden ++ inode_put q b2 ∷ []) ++ (entry_sector grown p k, b3) ∷ [])
  merged4 = l4 ∙ (λ z. with_put (merged3 z) (old_there z, b3)) ∙ sym (merged-with (hidden ++ inode_put q b2 ∷ []) (entry_sector grown p k, b3))

  old_slot : PutsSlot (sector_at grown (entry_sector grown p k)) k b3 None
  old_slot = subst (λ a. PutsSlot (sector_at grown a) k b3 None) old_there (subst (λ y. PutsSlot (sector_at y moved.old.sector) k b3 None) same3 old)

  abbrev four : List (ℕ × List ℕ)
  four = (hidden ++ inode_put q b2 ∷ []) ++ (entry_sector grown p k, b3) ∷ []

  after4 : put_all four image ≡ put_entry grown p k b3
  after4 = put_all-append (hidden ++ inode_put q b2 ∷ []) ((entry_sector grown p k, b3) ∷ []) image ∙ ap (λ y. set y (entry_sector grown p k) b3) (put_all-append hidden (inode_put q b2 ∷ []) image)

  same4 : put_all plan4 im3 ≡ put_entry grown p k b3
  same4 = (λ z. put_all (merged4 z) (e3 z)) ∙ merged-all four image ∙ after4

  past4 : AllByRecursion (λ (r : ℕ × List ℕ). 2 ≤ r.0) four
  past4 = all_append (λ (r : ℕ × List ℕ). 2 ≤ r.0) (hidden ++ inode_put q b2 ∷ []) ((entry_sector grown p k, b3) ∷ []) (all_append (λ (r : ℕ × List ℕ). 2 ≤ r.0) hidden (inode_put q b2 ∷ []) hidden_past (omega arith, tt))
      (subst (λ a. 2 ≤ a) old_there past, tt)

  number4 : is_inode (put_entry grown p k b3) p ≡ true
  number4 = subst (λ y. is_inode y p ≡ true) after4 (still image four p past4 (live-number image call.from x.old_node strong x.moving.live_from))

  last : PutsInode (put_entry grown p k b3) p b4 (timed_inode (inode_at (put_entry grown p k b3) p) now)
  last = subst (λ j. is_inode (put_entry grown p k b3) j ≡ true → PutsInode (put_entry grown p k b3) j b4 (timed_inode (inode_at (put_entry grown p k b3) j) now)) x.old_directory
      (subst (λ y. is_inode y moved.old.directory ≡ true → PutsInode y moved.old.directory b4 (timed_inode (inode_at y moved.old.directory) now)) same4 times) number4

  moves : MovesLonger image now p q call.new_name x.new_node k x.number target b1 (map_puts longer.map) longer.blocks.direct longer.blocks.single b2 b3 b4
  moves = record { full = x.full; longer = puts_longer; directory = directory; old = old_slot; last = last }

  abbrev whole : List (ℕ × List ℕ)
  whole = moving_longer_puts image p q k x.new_node target b1 (map_puts longer.map) b2 b3 b4

  merged5 : plan5 ≡ merged whole
  merged5 = l5 ∙ (λ z. with_put (merged4 z) (inode_sector (x.old_directory z), b4)) ∙ sym (merged-with four (inode_put p b4))
      ∙ ap merged (append_assoc (hidden ++ inode_put q b2 ∷ []) ((entry_sector grown p k, b3) ∷ []) (inode_put p b4 ∷ []) ∙ append_assoc hidden (inode_put q b2 ∷ []) ((entry_sector grown p k, b3) ∷ inode_put p b4 ∷ []))

  pub built-longer : IsPlannedLonger image (asked_of call) now new plan5
  built-longer = subst (IsPlannedLonger image (asked_of call) now new) (sym merged5) (record {
    plan = merged-plan image (asked_of call ∷ []) now whole
        (move-longer image call.from call.to call.name call.new_name call.cred now x.number k x.node x.old_node x.new_node target b1 (map_puts longer.map) longer.blocks.direct longer.blocks.single b2 b3 b4 strong c room moves);
    sets = λ blocks inodes sets. subst (λ y. AreSetsOf y (taken new blocks) inodes) (sym (merged-all whole image))
        (move-taken image call.from call.to call.name call.new_name call.cred now x.number k x.node x.old_node x.new_node target b1 (map_puts longer.map) longer.blocks.direct longer.blocks.single b2 b3 b4 strong c room moves
        new x.lays.fresh blocks inodes sets);
  })

-- the puts can be put
first-two : (sectors a : ℕ) (bytes : List ℕ) (o : Option Listing) → 2 ≤ a → a < sectors → IfSome o (λ l. (2 ≤ l.block) × (l.block < sectors)) → CanBePut sectors 2 ((a, bytes) ∷ map_puts o)
first-two sectors a bytes None past stands h = record { few = omega arith; stand = (stands, tt); past = (past, tt) }
first-two sectors a bytes (Some l) past stands h = record { few = omega arith; stand = (stands, (h.1, tt)); past = (past, (h.0, tt)) }

pub fits-longer : (sectors : ℕ) (moved : Moved) (longer : Longer) → MovedWithin sectors moved → MapWithin sectors longer → (b1 b2 b3 b4 : List ℕ)
    → CanBePut sectors 5 (with_put (with_put (with_put ((moved.new.sector, b1) ∷ map_puts longer.map) (inode_sector moved.new.directory, b2)) (moved.old.sector, b3)) (inode_sector moved.old.directory, b4))
fits-longer sectors moved longer within map b1 b2 b3 b4 =
    let two = first-two sectors moved.new.sector b1 longer.map within.new.past within.new.slot map in
    let three = one-more sectors 2 ((moved.new.sector, b1) ∷ map_puts longer.map) (inode_sector moved.new.directory, b2) two (omega arith) within.new.directory in
    let four = one-more sectors 3 (with_put ((moved.new.sector, b1) ∷ map_puts longer.map) (inode_sector moved.new.directory, b2)) (moved.old.sector, b3) three within.old.past within.old.slot in
    one-more sectors 4 (with_put (with_put ((moved.new.sector, b1) ∷ map_puts longer.map) (inode_sector moved.new.directory, b2)) (moved.old.sector, b3)) (inode_sector moved.old.directory, b4) four (omega arith) within.old.directory
