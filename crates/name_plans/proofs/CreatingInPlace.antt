-- CREATE of a new file whose entry takes an empty slot, as a plan.
use Rattle.std.proofs.Common.{◌≡◌, ◌≢◌, ℕ, ◌+◌, ◌/◌, ◌<◌, ◌≤◌, Bool, true, false, cond, not, ◌||◌, List, [], ◌∷◌, ◌++◌, length, set, refl, sym, ap, subst, ◌∙◌, arith, inl, inr, ⊎_elim, ltb, Some, None, unwrap_or, length-set}
use Rattle.std.proofs.lemmas.Bool.{cases_eq}
use Rattle.std.specs.FinMap.{get, insert}
use Rattle.v7_layout.specs.declared.inode.Inode.{Inode}
use Rattle.files_model.specs.declared.attributes.FileId.{FileId}
use Rattle.files_model.specs.declared.attributes.Sattr.{Sattr}
use Rattle.files_model.specs.declared.credential.Cred.{Cred}
use Rattle.files_model.specs.declared.call.Call.TheVariants as call
use Rattle.files_model.specs.declared.reply.Stat.TheVariants as stat
use Rattle.files_model.specs.Files.{Node, Files}
use Rattle.files_model.specs.Permission as permission
use Rattle.files_model.specs.Answers.{with_node}
use Rattle.files_model.specs.Names.{made_at, place_for, with_entry, new_file, is_bad, is_dots, name_tests, most_name}
use Rattle.files_model.specs.NameRows.{has_other_type}
use Rattle.files_model.specs.Torn.{Asked, Torn, after_calls, is_write, makes_node}
use Rattle.files_model.proofs.Maps.{get-insert_same, get-insert_other}
use Rattle.stable.specs.Store.{Image}
use Rattle.v7_map.specs.Image.{sector_at, inode_at, inode_sector}
use Rattle.v7_map.specs.Frame.{Body, frame}
use Rattle.v7_map.specs.Tree.{tree}
use Rattle.v7_map.specs.View.{view}
use Rattle.v7_map.specs.Weak.{IsWeak, IsStrong, slot_at}
use Rattle.v7_map.specs.Plan.{PutsInode}
use Rattle.v7_map.specs.Plans.{IsPlanOf}
use Rattle.v7_map.proofs.Nodes.{live-node}
use Rattle.v7_map.proofs.Ranges.{inode_sector-inside}
use Rattle.v7_strokes.proofs.Times.{frame_after_times, view_after_times}
use Rattle.name_plans.specs.Making.{IsCreation, IsMaking}
use Rattle.v7_strokes.specs.Inodes.{timed_inode}
use Rattle.v7_strokes.specs.NewNodes.{IsNewFile}
use Rattle.v7_strokes.specs.Slots.{PutsSlot}
use Rattle.name_plans.proofs.CreatingAccepted.{first_none, creation-step, usable-facts}
use Rattle.v7_strokes.proofs.Creation.{new-weak, new-view, create-entry, create-strong, create-view}
use Rattle.v7_strokes.proofs.Directories.{StandsDir, stands-dir, place-past, place-empty}
use Rattle.v7_strokes.proofs.SlotStep.{entry-inside}
use Rattle.v7_strokes.proofs.TornCalls.{IsAfter, same, times, torn-after, torn-creation, insert_twice}
use Rattle.v7_strokes.proofs.Views.{view-inodes}

pub not_no : (b : Bool) → not b ≡ false → b ≡ true
not_no true e = refl
not_no false e = absurd (cc)

or_no : (a b : Bool) → (a || b) ≡ false → (a ≡ false) × (b ≡ false)
or_no true b e = absurd (cc)
or_no false b e = (refl, e)

pub lt_ltb : (x y : ℕ) → x < y → ltb x y ≡ true
lt_ltb x y lt = grind arith

-- a good name isn't empty
pub good-name : (name : List ℕ) → (is_bad name || is_dots name) ≡ false → name ≢ []
good-name [] e z = cc
good-name (x ∷ xs) e z = cc

-- a call that makes a node is no write
pub no_write : (asked : Asked) → makes_node asked.0 ≡ true → is_write asked.0 ≡ false
no_write (call.Create dir name wanted, cred) e = refl
no_write (call.Symlink dir name text wanted, cred) e = refl
no_write (call.Mkdir dir name wanted, cred) e = refl
no_write (call.Getattr file, cred) e = refl
no_write (call.Setattr file wanted, cred) e = refl
no_write (call.Lookup dir name, cred) e = refl
no_write (call.Readlink file, cred) e = refl
no_write (call.Read file offset count, cred) e = refl
no_write (call.Write file offset bytes, cred) e = absurd (cc)
no_write (call.Remove dir name, cred) e = refl
no_write (call.Rename from name to new_name, cred) e = refl
no_write (call.Link file dir name, cred) e = refl
no_write (call.Rmdir dir name, cred) e = refl
no_write (call.Readdir dir cookie count, cred) e = refl
no_write (call.Statfs file, cred) e = refl

module _ (image : Image) (dir : FileId) (name : List ℕ) (wanted : Sattr) (cred : Cred) (now : ℕ) (d : Node) (i : ℕ) (strong : IsStrong (frame image)) (c : IsCreation (view image) dir name wanted cred now d i) where
  tests : (not (permission.is_directory d.kind) ≡ false) × ((is_bad name || is_dots name) ≡ false)
  tests =
      let a = first_none (view image).read_only stat.Rofs ((not (permission.is_directory d.kind), stat.Notdir) ∷ name_tests name ++ (has_other_type wanted.mode, stat.Perm) ∷ []) c.tests in
      let b = first_none (not (permission.is_directory d.kind)) stat.Notdir (name_tests name ++ (has_other_type wanted.mode, stat.Perm) ∷ []) a.1 in
      let n = first_none (is_bad name || is_dots name) stat.Acces ((ltb most_name (length name), stat.Nametoolong) ∷ (has_other_type wanted.mode, stat.Perm) ∷ []) b.1 in
      (b.0, n.0)

  -- an accepted CREATE of a new file makes a node
  pub creation-making : IsMaking (view image) (call.Create dir name wanted, cred) now dir.ino name d i (new_file wanted cred now)
  creation-making =
      let u = usable-facts (view image) i c.usable in let low = u.2 in let high = u.3 in
      let least : 8 ≤ (view image).inodes = subst (λ n. 8 ≤ n) (sym (view-inodes image)) (let s = strong.weak.sizes.low in omega arith) in
      record {
        makes = refl;
        at = live-node (view image) dir d c.live;
        kind = not_no (permission.is_directory d.kind) tests.0;
        good_name = good-name name tests.1;
        absent = u.0;
        low = low;
        within = omega arith;
        after = ap (λ r. r.1) (creation-step (view image) dir name wanted cred now d i c);
      }

module _ (image : Image) (asked : Asked) (now p : ℕ) (name : List ℕ) (d : Node) (i : ℕ) (m : Node) (strong : IsStrong (frame image)) (c : IsMaking (view image) asked now p name d i m) where
  pub making-dir : StandsDir image p d
  making-dir = stands-dir image p d strong.weak c.at c.kind

  pub making-within : i < (tree (frame image)).inodes + 1
  making-within = subst (λ n. i < n + 1) (view-inodes image) c.within

  module _ (n : Inode) (is : IsNewFile image i n m) (raised : n.generation ≡ unwrap_or (get (view image).generations i) 0 + 1) (b1 : List ℕ) (p1 : PutsInode image i b1 n) where
    pub first-weak : IsWeak (frame (set image (inode_sector i) b1))
    first-weak = new-weak image i n m b1 strong c.absent making-within c.low is p1

    -- the generation is raised, and nothing else has changed
    pub first-torn : Torn (view image) (asked ∷ []) now (view (set image (inode_sector i) b1))
    first-torn = torn-creation (view image) asked now (view (set image (inode_sector i) b1)) c.makes
        (new-view image i n m b1 strong c.absent making-within c.low is p1
        ∙ (λ z. record (view image) { generations = insert (view image).generations i (raised z) })
        ∙ (λ z. record (view image) { generations = (sym c.after z).generations }))

    module _ (inside : place_for d.slots < length d.slots) (b2 b3 : List ℕ)
        (p2 : PutsSlot (sector_at (set image (inode_sector i) b1) ((frame (set image (inode_sector i) b1)).address p (Body (place_for d.slots / 32)))) (place_for d.slots) b2 (Some (i, name)))
        (p3 : PutsInode (set (set image (inode_sector i) b1) ((frame (set image (inode_sector i) b1)).address p (Body (place_for d.slots / 32))) b2) p b3
        (timed_inode (inode_at (set (set image (inode_sector i) b1) ((frame (set image (inode_sector i) b1)).address p (Body (place_for d.slots / 32))) b2) p) now)) where
      first : Image
      first = set image (inode_sector i) b1

      a : ℕ
      a = (frame first).address p (Body (place_for d.slots / 32))

      second : Image
      second = set first a b2

      third : Image
      third = set second (inode_sector p) b3

      made : Node
      made = m

      past : 2 ≤ place_for d.slots
      past = place-past image p d strong.weak making-dir

      vacant : slot_at (tree (frame image)) p (place_for d.slots) ≡ None
      vacant = place-empty image p d strong.weak making-dir inside

      slotted : Node
      slotted = record d { slots = set d.slots (place_for d.slots) (Some (i, name)) }

      strong_second : IsStrong (frame second)
      unfolding second first a
      strong_second = create-strong image i n m b1 strong c.absent making-within c.low is p1 p d making-dir c.at name c.good_name (place_for d.slots) past vacant inside b2 p2

      view_second : view second ≡ made_at (view image) i made p slotted
      unfolding second first a made slotted
      view_second = create-view image i n m b1 strong c.absent making-within c.low is p1 p d making-dir c.at name c.good_name (place_for d.slots) past vacant inside b2 p2
          ∙ (λ z. record (view image) { nodes = insert (insert (view image).nodes i m) p (record d { slots = set d.slots (place_for d.slots) (Some (i, name)) }); generations = insert (view image).generations i (raised z) })

      entered : with_entry d (Some (i, name)) now ≡ record slotted { mtime = now; ctime = now }
      unfolding with_entry slotted
      entered = ap (λ b. cond b (record d { slots = set d.slots (place_for d.slots) (Some (i, name)); mtime = now; ctime = now }) (record d { slots = d.slots ++ Some (i, name) ∷ []; size = d.size + 16; mtime = now; ctime = now })) (lt_ltb (place_for d.slots) (length d.slots) inside)

      after : after_calls (view image) (asked ∷ []) now ≡ made_at (view image) i made p (record slotted { mtime = now; ctime = now })
      unfolding made
      after = c.after ∙ ap (made_at (view image) i m p) entered

      at_second : get (view second).nodes p ≡ Some slotted
      at_second = ap (λ (f : Files). get f.nodes p) view_second ∙ get-insert_same (insert (view image).nodes i made) p slotted

      torn_second : Torn (view image) (asked ∷ []) now (view second)
      unfolding slotted
      torn_second = torn-after (view image) asked now (view second) (no_write asked c.makes)
          (λ j. ⊎_elim
          (λ (e : j ≡ p). subst (λ q. IsAfter (get (view image).nodes q) (get (after_calls (view image) (asked ∷ []) now).nodes q) (get (view second).nodes q)) (sym e)
          (times d (record slotted { mtime = now; ctime = now }) c.at
          (ap (λ (f : Files). get f.nodes p) after ∙ get-insert_same (insert (view image).nodes i made) p (record slotted { mtime = now; ctime = now }))
          at_second))
          (λ (ne : j ≢ p). same (ap (λ (f : Files). get f.nodes j) view_second ∙ get-insert_other (insert (view image).nodes i made) p slotted j ne
          ∙ sym (get-insert_other (insert (view image).nodes i made) p (record slotted { mtime = now; ctime = now }) j ne) ∙ sym (ap (λ (f : Files). get f.nodes j) after)))
          (cases_eq j p))
          ((λ z. record (view_second z) { nodes = (view second).nodes }) ∙ (λ z. record (sym after z) { nodes = (view second).nodes }))

      frame_third : frame third ≡ frame second
      unfolding third second first a
      frame_third = frame_after_times second p slotted strong_second.weak at_second b3 now p3

      view_third : view third ≡ after_calls (view image) (asked ∷ []) now
      unfolding third second first a
      view_third = view_after_times second p slotted strong_second.weak at_second b3 now p3
          ∙ ap (λ f. with_node f p (record slotted { mtime = now; ctime = now })) view_second
          ∙ (λ z. record (made_at (view image) i made p slotted) { nodes = insert_twice (insert (view image).nodes i made) p slotted (record slotted { mtime = now; ctime = now }) z })
          ∙ sym after

      strong_third : IsStrong (frame third)
      strong_third = subst IsStrong (sym frame_third) strong_second

      weak_first : IsWeak (frame first)
      unfolding first
      weak_first = first-weak

      within_a : (3 ≤ a) × (a < length image)
      unfolding a first
      within_a =
          let r = entry-inside first p (place_for d.slots) a b2 (Some (i, name)) weak_first (create-entry image i n m b1 strong c.absent making-within c.low is p1 p d making-dir c.at name c.good_name (place_for d.slots) past vacant inside b2 p2) in
          (r.0, subst (λ z. a < z) (length-set image (inode_sector i) b1) r.1)

      last_inside : inode_sector p < length image
      unfolding second first a
      last_inside = let r = inode_sector-inside second strong_second.weak p p3.inside in
          let e : length second ≡ length image = length-set first a b2 ∙ length-set image (inode_sector i) b1 in subst (λ z. inode_sector p < z) e r.2

      pub create-plan : IsPlanOf image (asked ∷ []) now ((inode_sector i, b1) ∷ ((frame (set image (inode_sector i) b1)).address p (Body (place_for d.slots / 32)), b2) ∷ (inode_sector p, b3) ∷ [])
      unfolding third second first a
      create-plan = record {
        past = (omega arith, (let r = within_a in let low : 3 ≤ a = r.0 in omega arith, (omega arith, tt)));
        inside = ((inode_sector-inside image strong.weak i p1.inside).2, (within_a.1, (last_inside, tt)));
        whole = (p1.long, (p2.long, (p3.long, tt)));
        prefixes = (
          record { weak = strong.weak; torn = inl refl },
          (
            record { weak = first-weak; torn = first-torn },
            (
              record { weak = strong_second.weak; torn = torn_second },
              record { weak = strong_third.weak; torn = inr (inl view_third) },
            ),
          ),
        );
        strong = strong_third;
        after = view_third;
      }

      -- the times change the frame no more
      pub create-frame : frame (set (set (set image (inode_sector i) b1) ((frame (set image (inode_sector i) b1)).address p (Body (place_for d.slots / 32))) b2) (inode_sector p) b3)
          ≡ frame (set (set image (inode_sector i) b1) ((frame (set image (inode_sector i) b1)).address p (Body (place_for d.slots / 32))) b2)
      unfolding third second first a
      create-frame = frame_third
