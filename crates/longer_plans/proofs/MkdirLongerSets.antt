-- What is free after a MKDIR whose parent got longer: its block, its i-number and the parent's new blocks are taken.
use Rattle.std.proofs.Common.{◌≡◌, ◌≢◌, ◌⊎◌, ℕ, zero, suc, ◌+◌, ◌-◌, ◌/◌, ◌<◌, ◌≤◌, Bool, true, false, ◌||◌, ◌==◌, List, [], ◌∷◌, length, get_or, set, replicate, refl, sym, ap, subst, ◌∙◌, arith, inl, inr, ⊎_elim, eq-eqb, unwrap_or, length-set}
use Rattle.std.proofs.lemmas.Bool.{cases_eq, cases_lt, ne_eqb}
use Rattle.std.specs.FinMap.{get, insert}
use Rattle.files_model.specs.declared.attributes.FileId.{FileId}
use Rattle.files_model.specs.declared.attributes.Sattr.{Sattr}
use Rattle.files_model.specs.declared.credential.Cred.{Cred}
use Rattle.files_model.specs.declared.call.Call.TheVariants as call
use Rattle.files_model.specs.Among.{is_among}
use Rattle.files_model.specs.Files.{Node, Files}
use Rattle.files_model.specs.NameRows.{new_directory}
use Rattle.files_model.specs.Torn.{after_calls}
use Rattle.stable.specs.Puts.{put_all}
use Rattle.stable.specs.Store.{Image}
use Rattle.v7_layout.specs.declared.inode.Inode.{Inode}
use Rattle.v7_map.specs.Image.{inode_at, inodes_before}
use Rattle.v7_map.specs.Frame.{Frame, Head, Place, Body, Single, Double, head_of, address_of, listed, frame}
use Rattle.v7_map.specs.Tree.{tree, is_named}
use Rattle.v7_map.specs.View.{view}
use Rattle.v7_map.specs.Weak.{IsWeak, IsStrong}
use Rattle.v7_map.specs.Plan.{PutsInode}
use Rattle.v7_map.specs.Plans.{IsPlanOf}
use Rattle.v7_map.proofs.AnyFrame.{frame-IsFrame}
use Rattle.v7_map.proofs.Prefixes.{put_all-append}
use Rattle.v7_plans.specs.Setting.{put_inode}
use Rattle.v7_sets.specs.Sets.{AreSetsOf}
use Rattle.v7_strokes.specs.Entries.{inode_put}
use Rattle.v7_strokes.specs.FreeSets.{HoldsBlocks, HoldsNumbers}
use Rattle.v7_strokes.specs.Inodes.{made_inode, placed_inode}
use Rattle.v7_strokes.specs.NewNodes.{IsNewDirectory}
use Rattle.v7_strokes.proofs.Absent.{absent-free}
use Rattle.v7_strokes.proofs.NewBody.{zeros_at}
use Rattle.v7_strokes.proofs.Numbers.{unnamed-numbers}
use Rattle.v7_strokes.proofs.SetsAfter.{number-taken, numbers-stay, sets-of, halves-of}
use Rattle.v7_strokes.proofs.Unnamed.{unnamed-sizes, unnamed-head, unnamed-address, unnamed-addresses, unnamed-view}
use Rattle.name_plans.specs.CreatingPuts.{longer_image, longer_puts}
use Rattle.name_plans.specs.MakingDirectory.{IsMkdir, PutsDots}
use Rattle.name_plans.specs.Taken.{taken, AreNewBlocks}
use Rattle.name_plans.proofs.CreatingSets.{blocks-of-directory}
use Rattle.name_plans.proofs.Lengthening.{place-direct, place-listed, place-past, place-single, place-double}
use Rattle.name_plans.proofs.MkdirAccepted.{IsMakingDirectory}
use Rattle.name_plans.proofs.MkdirFirst.{mkdir-within, mkdir-unnamed, mkdir-apart}
use Rattle.name_plans.proofs.MkdirQuiet.{dots-inode, dots-frame, dots-view, dots-strong, dots-making, dots-new, dots-raised, dots-puts, dots-at_end}
use Rattle.longer_plans.specs.LongerParent.{EntersLonger, longer_parent}
use Rattle.longer_plans.proofs.MkdirLonger.{enters-at_end, parent-weak, parent-own, parent-others, parent-used, parent-sizes}

clash : {b : Bool} → b ≡ true → b ≡ false → ⊥
clash {b = b} x y = cc

length-taken : (blocks : List ℕ) (free : List Bool) → length (taken blocks free) ≡ length free
length-taken [] free = refl
length-taken (a ∷ rest) free = length-taken rest (set free a false) ∙ length-set free a false

-- the one block of a new directory's inode
module _ (image : Image) (h : Head) (a : ℕ) (used : h.is_used ≡ true) (direct : h.direct ≡ a ∷ replicate 9 0) (single : h.single ≡ 0) (double : h.double ≡ 0) where
  pub own-first : address_of image h (Body 0) ≡ a
  own-first = place-direct image h used 0 (omega arith) ∙ ap (λ l. get_or l 0 0) direct

  pub own-is : (q : Place) → (address_of image h q ≡ a) ⊎ (address_of image h q ≡ 0)
  own-is (Body zero) = inl own-first
  own-is (Body (suc l)) = ⊎_elim
      (λ (lt : suc l < 10). inr (place-direct image h used (suc l) lt ∙ ap (λ x. get_or x (suc l) 0) direct ∙ zeros_at 9 l))
      (λ (ge : 10 ≤ suc l). inr (⊎_elim
      (λ (lt : suc l < 138). place-listed image h used (suc l) ge lt ∙ ap (λ s. listed image s (suc l - 10)) single)
      (λ (past : 138 ≤ suc l). place-past image h used (suc l) past)
      (cases_lt (suc l) 138)))
      (cases_lt (suc l) 10)
  own-is Single = inr (place-single image h used ∙ single)
  own-is Double = inr (place-double image h used ∙ double)

module _ (image : Image) (dir : FileId) (name : List ℕ) (wanted : Sattr) (cred : Cred) (now : ℕ) (d : Node) (i a : ℕ) (target : Place → ℕ) (b0 b1 b2 : List ℕ) (maps : List (ℕ × List ℕ)) (direct : List ℕ) (single : ℕ) (b3 : List ℕ)
    (strong : IsStrong (frame image)) (c : IsMkdir (view image) dir name wanted cred now d i) (x : PutsDots image dir.ino i (new_directory wanted cred i dir.ino now) a b0 b1)
    (y : EntersLonger (set image a b0) now dir.ino name d i target b1 b2 maps direct single b3) where
  n : Inode
  n = dots-inode image dir name wanted cred now d i a b0 b1 strong c x

  zeroth : Image
  zeroth = set image a b0

  first : Image
  first = put_inode zeroth i b1

  mid : Image
  mid = longer_image zeroth d i target b1 b2 maps

  last : Image
  last = put_inode mid dir.ino b3

  facts : IsMakingDirectory (view zeroth) (call.Mkdir dir name wanted, cred) now dir.ino name d i (new_directory wanted cred i dir.ino now)
  unfolding zeroth
  facts = dots-making image dir name wanted cred now d i a b0 b1 strong c x

  new_dir : IsNewDirectory zeroth dir.ino i n (new_directory wanted cred i dir.ino now)
  unfolding zeroth n
  new_dir = dots-new image dir name wanted cred now d i a b0 b1 strong c x

  puts : PutsInode zeroth i b1 n
  unfolding zeroth n
  puts = dots-puts image dir name wanted cred now d i a b0 b1 strong c x

  raised : n.generation ≡ unwrap_or (get (view zeroth).generations i) 0 + 1
  unfolding zeroth n
  raised = dots-raised image dir name wanted cred now d i a b0 b1 strong c x

  sound : IsStrong (frame zeroth)
  unfolding zeroth
  sound = dots-strong image dir name wanted cred now d i a b0 b1 strong c x

  enters : EntersLonger zeroth now dir.ino name d i target b1 b2 maps direct single b3
  unfolding zeroth
  enters = y

  pub mkdir-longer : IsPlanOf image ((call.Mkdir dir name wanted, cred) ∷ []) now ((a, b0) ∷ longer_puts dir.ino d i target b1 b2 maps b3)
  unfolding zeroth mid
  mkdir-longer = dots-at_end image dir name wanted cred now d i a b0 b1 strong c x (longer_parent (inode_at mid dir.ino) direct single now) b3 ((target (Body (length d.slots / 32)), b2) ∷ maps)
      (enters-at_end zeroth (call.Mkdir dir name wanted, cred) now dir.ino name d i (new_directory wanted cred i dir.ino now) n target b1 b2 maps direct single b3 sound facts new_dir raised puts enters)

  -- ---- the inode

  within : i < (tree (frame zeroth)).inodes + 1
  within = mkdir-within zeroth (call.Mkdir dir name wanted, cred) now dir.ino name d i (new_directory wanted cred i dir.ino now) sound facts

  unnamed : is_named (tree (frame zeroth)) i ≡ false
  unnamed = mkdir-unnamed zeroth (call.Mkdir dir name wanted, cred) now dir.ino name d i (new_directory wanted cred i dir.ino now) sound facts

  sizes : ((frame first).isize ≡ (frame zeroth).isize) × ((frame first).fsize ≡ (frame zeroth).fsize)
  unfolding first
  sizes = unnamed-sizes zeroth i b1 n sound.weak puts new_dir.placed facts.low unnamed

  fields : ((head_of n).direct ≡ a ∷ replicate 9 0) × ((head_of n).single ≡ 0) × ((head_of n).double ≡ 0)
  unfolding n dots-inode placed_inode made_inode
  fields = (refl, refl, refl)

  one_block : (q : Place) → (address_of zeroth (head_of n) q ≡ a) ⊎ (address_of zeroth (head_of n) q ≡ 0)
  one_block q = own-is zeroth (head_of n) a new_dir.used fields.0 fields.1 fields.2 q

  first_block : address_of zeroth (head_of n) (Body 0) ≡ a
  first_block = own-first zeroth (head_of n) a new_dir.used fields.0 fields.1 fields.2

  -- ---- its block is none of the parent's

  stands_there : (frame first).address i (Body 0) ≡ a
  unfolding first
  stands_there = unnamed-address zeroth i b1 n sound.weak puts new_dir.placed facts.low unnamed (Body 0) ∙ first_block

  weak_first : IsWeak (frame first)
  unfolding first
  weak_first = parent-weak zeroth (call.Mkdir dir name wanted, cred) now dir.ino name d i (new_directory wanted cred i dir.ino now) n target b1 b2 maps direct single b3 sound facts new_dir raised puts enters

  some_block : a ≢ 0
  some_block e = let low = x.free.low in let l = strong.weak.sizes.low in absurd (omega arith)

  pub mkdir-apart_blocks : (r : Place) → target r ≢ a
  unfolding first
  mkdir-apart_blocks r e = ⊎_elim
      (λ (z : (frame first).address dir.ino r ≡ 0). (enters.longer.lays.fresh r z (λ t. some_block (sym e ∙ t))).nowhere i (Body 0) (stands_there ∙ sym e))
      (λ (nz : (frame first).address dir.ino r ≢ 0). let same = sym (enters.longer.lays.kept r nz) ∙ e ∙ sym stands_there in
      mkdir-apart zeroth (call.Mkdir dir name wanted, cred) now dir.ino name d i (new_directory wanted cred i dir.ino now) sound facts (sym (weak_first.unshared dir.ino i r (Body 0) nz same).0))
      (cases_eq ((frame first).address dir.ino r) 0)

  -- ---- what is free

  module _ (new : List ℕ) (fresh : AreNewBlocks (frame (put_inode (set image a b0) i b1)) dir.ino target new) (blocks inodes : List Bool) (sets : AreSetsOf image blocks inodes) where
    halves : HoldsBlocks (frame zeroth) blocks × HoldsNumbers (frame zeroth) (view zeroth).generations inodes
    unfolding zeroth
    halves =
        let f = dots-frame image dir name wanted cred now d i a b0 b1 strong c x in
        let v = dots-view image dir name wanted cred now d i a b0 b1 strong c x in
        let h = halves-of (frame image) (view image).generations blocks inodes sets in
        (subst (λ g. HoldsBlocks g blocks) (sym f) h.0, subst (λ g. HoldsNumbers g (view (set image a b0)).generations inodes) (sym f) (subst (λ (w : Files). HoldsNumbers (frame image) w.generations inodes) (sym v) h.1))

    had_none : (r : Place) → (frame zeroth).address i r ≢ 0 → ⊥
    had_none r nz = clash ((frame-IsFrame zeroth).places i r nz).0 (absent-free zeroth i sound facts.absent within)

    alone : (b : ℕ) → is_among b (a ∷ []) ≡ (a == b)
    alone b = or_none (a == b)
      where
        or_none : (t : Bool) → (t || false) ≡ t
        or_none true = refl
        or_none false = refl

    blocks_first : HoldsBlocks (frame first) (set blocks a false)
    unfolding first
    blocks_first = blocks-of-directory (frame zeroth) (frame (put_inode zeroth i b1)) i (λ q. address_of zeroth (head_of n) q) sound.weak sizes.0 sizes.1
        (λ j ne r. unnamed-addresses zeroth i b1 n sound.weak puts new_dir.placed facts.low unnamed j ne r)
        (λ r. unnamed-address zeroth i b1 n sound.weak puts new_dir.placed facts.low unnamed r)
        (λ r nz. absurd (had_none r nz)) (a ∷ [])
        (record {
          each = λ q free nz. ⊎_elim (λ (e : address_of zeroth (head_of n) q ≡ a). alone (address_of zeroth (head_of n) q) ∙ eq-eqb a (address_of zeroth (head_of n) q) (sym e)) (λ (z : address_of zeroth (head_of n) q ≡ 0). absurd (nz z)) (one_block q);
          only = λ b away. alone b ∙ ne_eqb a b (λ e. away (Body 0) (first_block ∙ e));
        }) blocks halves.0

    numbers_first : HoldsNumbers (frame first) (view first).generations (set inodes i false)
    unfolding first
    numbers_first = number-taken zeroth (put_inode zeroth i b1) i n inodes (unnamed-numbers zeroth i b1 n sound.weak puts new_dir.placed facts.low unnamed within) halves.1
        (λ f. clash (ap (λ (h : Head). h.is_used) (unnamed-head zeroth i b1 n sound.weak puts new_dir.placed facts.low unnamed) ∙ new_dir.used) f.unused)

    all : put_all (longer_puts dir.ino d i target b1 b2 maps b3) zeroth ≡ last
    unfolding last mid
    all = put_all-append ((target (Body (length d.slots / 32)), b2) ∷ maps) (inode_put dir.ino b3 ∷ []) (put_inode zeroth i b1)

    at_last : view (put_all (longer_puts dir.ino d i target b1 b2 maps b3) zeroth) ≡ after_calls (view image) ((call.Mkdir dir name wanted, cred) ∷ []) now
    unfolding zeroth
    at_last = mkdir-longer.after

    after : view last ≡ after_calls (view image) ((call.Mkdir dir name wanted, cred) ∷ []) now
    after = ap view (sym all) ∙ at_last

    same_view : view zeroth ≡ view image
    unfolding zeroth
    same_view = dots-view image dir name wanted cred now d i a b0 b1 strong c x

    generations : (view last).generations ≡ (view first).generations
    unfolding first
    generations =
        ap (λ (f : Files). f.generations) (after ∙ ap (λ f. after_calls f ((call.Mkdir dir name wanted, cred) ∷ []) now) (sym same_view) ∙ facts.after)
        ∙ (λ z. insert (view zeroth).generations i (sym raised z))
        ∙ ap (λ (f : Files). f.generations) (sym (unnamed-view zeroth i b1 n sound.weak puts new_dir.placed facts.low unnamed within))

    sizes_last : ((frame last).isize ≡ (frame first).isize) × ((frame last).fsize ≡ (frame first).fsize)
    unfolding last mid first
    sizes_last = parent-sizes zeroth (call.Mkdir dir name wanted, cred) now dir.ino name d i (new_directory wanted cred i dir.ino now) n target b1 b2 maps direct single b3 sound facts new_dir raised puts enters

    same_sizes : ((frame zeroth).isize ≡ (frame image).isize) × ((frame zeroth).fsize ≡ (frame image).fsize)
    unfolding zeroth
    same_sizes = let f = dots-frame image dir name wanted cred now d i a b0 b1 strong c x in (ap (λ (g : Frame). g.isize) f, ap (λ (g : Frame). g.fsize) f)

    fresh_first : AreNewBlocks (frame first) dir.ino target new
    unfolding first zeroth
    fresh_first = fresh

    blocks_last : HoldsBlocks (frame last) (taken new (set blocks a false))
    unfolding last mid first
    blocks_last = blocks-of-directory (frame first) (frame last) dir.ino target weak_first sizes_last.0 sizes_last.1
        (parent-others zeroth (call.Mkdir dir name wanted, cred) now dir.ino name d i (new_directory wanted cred i dir.ino now) n target b1 b2 maps direct single b3 sound facts new_dir raised puts enters)
        (parent-own zeroth (call.Mkdir dir name wanted, cred) now dir.ino name d i (new_directory wanted cred i dir.ino now) n target b1 b2 maps direct single b3 sound facts new_dir raised puts enters)
        enters.longer.lays.kept new fresh_first (set blocks a false) blocks_first

    used_last : (j : ℕ) → ((frame last).head j).is_used ≡ ((frame first).head j).is_used
    unfolding last mid first
    used_last = parent-used zeroth (call.Mkdir dir name wanted, cred) now dir.ino name d i (new_directory wanted cred i dir.ino now) n target b1 b2 maps direct single b3 sound facts new_dir raised puts enters

    pub mkdir-longer_sets : AreSetsOf (put_all ((a, b0) ∷ longer_puts dir.ino d i target b1 b2 maps b3) image) (taken (a ∷ new) blocks) (set inodes i false)
    unfolding zeroth
    mkdir-longer_sets = subst (λ z. AreSetsOf z (taken new (set blocks a false)) (set inodes i false)) (sym all) (sets-of (frame last) (view last).generations (taken new (set blocks a false)) (set inodes i false)
        (length-taken new (set blocks a false) ∙ length-set blocks a false ∙ sets.blocks_room ∙ sym (sizes_last.1 ∙ sizes.1 ∙ same_sizes.1))
        (length-set inodes i false ∙ sets.inodes_room ∙ ap (λ q. inodes_before q + 1) (sym (sizes_last.0 ∙ sizes.0 ∙ same_sizes.0)))
        blocks_last
        (numbers-stay (frame first) (frame last) (view first).generations (view last).generations (set inodes i false) (record {
          isize = sizes_last.0;
          used = used_last;
          same = generations;
        }) numbers_first))
