-- What is free after a creation: the new i-number is taken, and so are the new blocks of its directory.
use Rattle.std.proofs.Common.{◌≡◌, ◌≢◌, ℕ, ◌+◌, ◌/◌, ◌<◌, ◌≤◌, Bool, true, false, ◌==◌, ◌||◌, List, [], ◌∷◌, length, set, refl, sym, ap, subst, ◌∙◌, arith, ⊎_elim, Some, unwrap_or, length-set, get_or-set_other, get_or-set_same, eq-eqb}
use Rattle.std.proofs.lemmas.Bool.{cases_eq, cases_lt, cases_Bool, ne_eqb}
use Rattle.std.proofs.lemmas.List.{get_or_past}
use Rattle.std.specs.FinMap.{get, insert}
use Rattle.files_model.specs.Among.{is_among}
use Rattle.files_model.specs.Files.{Node, Files}
use Rattle.files_model.specs.Names.{place_for}
use Rattle.files_model.specs.Torn.{Asked, after_calls}
use Rattle.index_sets.specs.Free.{is_free}
use Rattle.stable.specs.Puts.{put_all}
use Rattle.stable.specs.Store.{Image}
use Rattle.v7_layout.specs.declared.inode.Inode.{Inode}
use Rattle.v7_map.specs.Image.{inodes_before}
use Rattle.v7_map.specs.Frame.{Frame, Head, Place, Body, frame}
use Rattle.v7_map.specs.Tree.{tree, is_named}
use Rattle.v7_map.specs.View.{view}
use Rattle.v7_map.specs.Weak.{IsWeak, IsStrong}
use Rattle.v7_map.specs.Plan.{PutsInode}
use Rattle.v7_map.proofs.AnyFrame.{frame-IsFrame}
use Rattle.v7_plans.specs.Setting.{put_inode}
use Rattle.v7_sets.specs.Sets.{AreSetsOf}
use Rattle.v7_strokes.specs.FreeSets.{HoldsBlocks, HoldsNumbers}
use Rattle.v7_strokes.specs.NewNodes.{IsNewFile}
use Rattle.v7_strokes.proofs.Absent.{absent-unnamed, absent-free}
use Rattle.v7_strokes.proofs.Numbers.{unnamed-numbers}
use Rattle.v7_strokes.proofs.SetsAfter.{blocks-taken, number-taken, numbers-stay, sets-of, halves-of}
use Rattle.v7_strokes.proofs.Unnamed.{unnamed-weak, unnamed-sizes, unnamed-head, unnamed-address, unnamed-addresses, unnamed-view}
use Rattle.name_plans.specs.Making.{IsMaking}
use Rattle.name_plans.specs.Taken.{taken, AreNewBlocks, HasNoBlocks}
use Rattle.v7_map.proofs.Prefixes.{put_all-append}
use Rattle.v7_strokes.specs.Entries.{entry_sector, inode_put}
use Rattle.v7_strokes.proofs.Creation.{new-weak, create-entry}
use Rattle.v7_strokes.proofs.Directories.{place-past, place-empty}
use Rattle.v7_strokes.proofs.SlotStep.{step-sizes, step-heads, step-addresses}
use Rattle.name_plans.specs.CreatingPuts.{MakesInPlace, MakesLonger, in_place_puts, longer_puts, longer_image}
use Rattle.name_plans.proofs.CreatingInPlace.{making-dir, making-within, create-plan, create-frame}
use Rattle.name_plans.proofs.CreatingLonger.{longer-plan, longer-own, longer-others, longer-used, longer-sizes}

clash : {b : Bool} → b ≡ true → b ≡ false → ⊥
clash {b = b} x y = cc

-- ---- sets without some

taken-other : (blocks : List ℕ) (free : List Bool) (b : ℕ) → is_among b blocks ≡ false → is_free (taken blocks free) b ≡ is_free free b
taken-other [] free b h = refl
taken-other (a ∷ rest) free b h = let r = or_no (a == b) (is_among b rest) h in
    taken-other rest (set free a false) b r.1 ∙ get_or-set_other free a b false false (λ e. clash (eq-eqb a b (sym e)) r.0)
  where
    or_no : (u v : Bool) → (u || v) ≡ false → (u ≡ false) × (v ≡ false)
    or_no true v e = absurd (cc)
    or_no false v e = (refl, e)

taken-stays : (blocks : List ℕ) (free : List Bool) (b : ℕ) → is_free free b ≡ false → is_free (taken blocks free) b ≡ false
taken-stays [] free b h = h
taken-stays (a ∷ rest) free b h = taken-stays rest (set free a false) b (⊎_elim
    (λ (e : b ≡ a). subst (λ q. is_free (set free a false) q ≡ false) (sym e) (gone free a))
    (λ (ne : b ≢ a). get_or-set_other free a b false false ne ∙ h)
    (cases_eq b a))
  where
    gone : (free : List Bool) (a : ℕ) → is_free (set free a false) a ≡ false
    gone free a = ⊎_elim (λ (lt : a < length free). get_or-set_same free a false false lt) (λ (ge : length free ≤ a). get_or_past (set free a false) a false (let e = length-set free a false in omega arith)) (cases_lt a (length free))

taken-gone : (blocks : List ℕ) (free : List Bool) (b : ℕ) → is_among b blocks ≡ true → is_free (taken blocks free) b ≡ false
taken-gone [] free b h = absurd (cc)
taken-gone (a ∷ rest) free b h = ⊎_elim
    (λ (e : b ≡ a). taken-stays rest (set free a false) b (subst (λ q. is_free (set free a false) q ≡ false) (sym e) (gone free a)))
    (λ (ne : b ≢ a). taken-gone rest (set free a false) b ((λ z. sym (ne_eqb a b (λ e. ne (sym e))) z || is_among b rest) ∙ h))
    (cases_eq b a)
  where
    gone : (free : List Bool) (a : ℕ) → is_free (set free a false) a ≡ false
    gone free a = ⊎_elim (λ (lt : a < length free). get_or-set_same free a false false lt) (λ (ge : length free ≤ a). get_or_past (set free a false) a false (let e = length-set free a false in omega arith)) (cases_lt a (length free))

length-taken : (blocks : List ℕ) (free : List Bool) → length (taken blocks free) ≡ length free
length-taken [] free = refl
length-taken (a ∷ rest) free = length-taken rest (set free a false) ∙ length-set free a false

pub taken-only : (blocks : List ℕ) (free : List Bool) (b : ℕ) → is_free (taken blocks free) b ≡ true → is_free free b ≡ true
taken-only blocks free b h = ⊎_elim (λ (t : is_free free b ≡ true). t) (λ (no' : is_free free b ≡ false). absurd (clash h (taken-stays blocks free b no'))) (cases_Bool (is_free free b))

-- ---- blocks

module _ (f g : Frame) (p : ℕ) (target : Place → ℕ) (weak : IsWeak f) (isize : g.isize ≡ f.isize) (fsize : g.fsize ≡ f.fsize) (others : (j : ℕ) → j ≢ p → (r : Place) → g.address j r ≡ f.address j r)
    (own : (r : Place) → g.address p r ≡ target r) (kept : (r : Place) → f.address p r ≢ 0 → target r ≡ f.address p r) (new : List ℕ) (fresh : AreNewBlocks f p target new) (old : List Bool) (holds : HoldsBlocks f old) where
  pub blocks-of-directory : HoldsBlocks g (taken new old)
  blocks-of-directory = blocks-taken f g p old (taken new old) weak (record { isize = isize; fsize = fsize; others = others; own = λ r nz. own r ∙ kept r nz }) holds (record {
    taken = λ r nz. ⊎_elim
        (λ (z : f.address p r ≡ 0). subst (λ a. is_free (taken new old) a ≡ false) (sym (own r)) (taken-gone new old (target r) (fresh.each r z (λ e. nz (own r ∙ e)))))
        (λ (h : f.address p r ≢ 0). subst (λ a. is_free (taken new old) a ≡ false) (sym (own r ∙ kept r h)) (taken-stays new old (f.address p r) (⊎_elim
        (λ (t : is_free old (f.address p r) ≡ true). absurd ((holds.free (f.address p r) t).nowhere p r refl))
        (λ (no' : is_free old (f.address p r) ≡ false). no')
        (cases_Bool (is_free old (f.address p r))))))
        (cases_eq (f.address p r) 0);
    kept = λ b h away. taken-other new old b (fresh.only b (λ r e. away r (own r ∙ e))) ∙ h;
    only = λ b h. taken-only new old b h;
  })

-- ---- the new inode

module _ (image : Image) (asked : Asked) (now p : ℕ) (name : List ℕ) (d : Node) (i : ℕ) (m : Node) (n : Inode) (b1 : List ℕ)
    (strong : IsStrong (frame image)) (c : IsMaking (view image) asked now p name d i m) (is : IsNewFile image i n m) (raised : n.generation ≡ unwrap_or (get (view image).generations i) 0 + 1)
    (puts : PutsInode image i b1 n) (bare : HasNoBlocks image n) (blocks inodes : List Bool) (sets : AreSetsOf image blocks inodes) where
  first : Image
  first = put_inode image i b1

  within : i < (tree (frame image)).inodes + 1
  within = making-within image asked now p name d i m strong c

  unnamed : is_named (tree (frame image)) i ≡ false
  unnamed = absent-unnamed image i strong c.absent within

  free_i : ((frame image).head i).is_used ≡ false
  free_i = absent-free image i strong c.absent within

  sizes : ((frame first).isize ≡ (frame image).isize) × ((frame first).fsize ≡ (frame image).fsize)
  unfolding first
  sizes = unnamed-sizes image i b1 n strong.weak puts is.placed c.low unnamed

  had_none : (r : Place) → (frame image).address i r ≢ 0 → ⊥
  had_none r nz = clash ((frame-IsFrame image).places i r nz).0 free_i

  blocks_first : HoldsBlocks (frame first) blocks
  unfolding first
  blocks_first = let h = (halves-of (frame image) (view image).generations blocks inodes sets).0 in
      blocks-taken (frame image) (frame (put_inode image i b1)) i blocks blocks strong.weak
      (record { isize = sizes.0; fsize = sizes.1; others = λ j ne r. unnamed-addresses image i b1 n strong.weak puts is.placed c.low unnamed j ne r; own = λ r nz. absurd (had_none r nz) }) h
      (record {
        taken = λ r nz. absurd (nz (unnamed-address image i b1 n strong.weak puts is.placed c.low unnamed r ∙ bare r));
        kept = λ b t away. t;
        only = λ b t. t;
      })

  numbers_first : HoldsNumbers (frame first) (view first).generations (set inodes i false)
  unfolding first
  numbers_first = number-taken image (put_inode image i b1) i n inodes (unnamed-numbers image i b1 n strong.weak puts is.placed c.low unnamed within) (halves-of (frame image) (view image).generations blocks inodes sets).1
      (λ f. clash (ap (λ (h : Head). h.is_used) (unnamed-head image i b1 n strong.weak puts is.placed c.low unnamed) ∙ is.used) f.unused)

  -- the puts after it, which are of its directory
  module _ (last : Image) (target : Place → ℕ) (new : List ℕ) (isize : (frame last).isize ≡ (frame (put_inode image i b1)).isize) (fsize : (frame last).fsize ≡ (frame (put_inode image i b1)).fsize)
      (others : (j : ℕ) → j ≢ p → (r : Place) → (frame last).address j r ≡ (frame (put_inode image i b1)).address j r) (own : (r : Place) → (frame last).address p r ≡ target r)
      (kept : (r : Place) → (frame (put_inode image i b1)).address p r ≢ 0 → target r ≡ (frame (put_inode image i b1)).address p r) (fresh : AreNewBlocks (frame (put_inode image i b1)) p target new)
      (used : (j : ℕ) → ((frame last).head j).is_used ≡ ((frame (put_inode image i b1)).head j).is_used) (after : view last ≡ after_calls (view image) (asked ∷ []) now) where
    weak_first : IsWeak (frame first)
    unfolding first
    weak_first = unnamed-weak image i b1 n strong.weak puts is.placed c.low unnamed

    generations : (view last).generations ≡ (view first).generations
    unfolding first
    generations = ap (λ (f : Files). f.generations) (after ∙ c.after)
        ∙ (λ z. insert (view image).generations i (sym raised z))
        ∙ ap (λ (f : Files). f.generations) (sym (unnamed-view image i b1 n strong.weak puts is.placed c.low unnamed within))

    pub sets-after : AreSetsOf last (taken new blocks) (set inodes i false)
    unfolding first
    sets-after = sets-of (frame last) (view last).generations (taken new blocks) (set inodes i false)
        (length-taken new blocks ∙ sets.blocks_room ∙ sym (fsize ∙ sizes.1))
        (length-set inodes i false ∙ sets.inodes_room ∙ ap (λ q. inodes_before q + 1) (sym (isize ∙ sizes.0)))
        (blocks-of-directory (frame (put_inode image i b1)) (frame last) p target weak_first isize fsize others own kept new fresh blocks blocks_first)
        (numbers-stay (frame (put_inode image i b1)) (frame last) (view (put_inode image i b1)).generations (view last).generations (set inodes i false) (record { isize = isize; used = used; same = generations }) numbers_first)

-- ---- in place

module _ (image : Image) (asked : Asked) (now p : ℕ) (name : List ℕ) (d : Node) (i : ℕ) (m : Node) (n : Inode) (b1 b2 b3 : List ℕ) (strong : IsStrong (frame image)) (x : MakesInPlace image asked now p name d i m n b1 b2 b3)
    (bare : HasNoBlocks image n) (blocks inodes : List Bool) (sets : AreSetsOf image blocks inodes) where
  pub in_place-sets : AreSetsOf (put_all (in_place_puts image p d i b1 b2 b3) image) blocks (set inodes i false)
  in_place-sets =
      let s = making-dir image asked now p name d i m strong x.making in
      let within' = making-within image asked now p name d i m strong x.making in
      let first' : Image = put_inode image i b1 in
      let a : ℕ = entry_sector first' p (place_for d.slots) in
      let weak = new-weak image i n m b1 strong x.making.absent within' x.making.low x.new x.inode in
      let entry = create-entry image i n m b1 strong x.making.absent within' x.making.low x.new x.inode p d s x.making.at name x.making.good_name (place_for d.slots)
      (place-past image p d strong.weak s) (place-empty image p d strong.weak s x.inside) x.inside b2 x.entry in
      let same = create-frame image asked now p name d i m strong x.making n x.new x.raised b1 x.inode x.inside b2 b3 x.entry x.times in
      let sizes' = step-sizes first' p (place_for d.slots) a b2 (Some (i, name)) weak entry in
      sets-after image asked now p name d i m n b1 strong x.making x.new x.raised x.inode bare blocks inodes sets
      (put_all (in_place_puts image p d i b1 b2 b3) image) (λ r. (frame first').address p r) []
      (ap (λ (f : Frame). f.isize) same ∙ sizes'.0) (ap (λ (f : Frame). f.fsize) same ∙ sizes'.1)
      (λ j ne r. ap (λ (f : Frame). f.address j r) same ∙ step-addresses first' p (place_for d.slots) a b2 (Some (i, name)) weak entry j r)
      (λ r. ap (λ (f : Frame). f.address p r) same ∙ step-addresses first' p (place_for d.slots) a b2 (Some (i, name)) weak entry p r)
      (λ r nz. refl)
      (record { each = λ r z nz. absurd (nz z); only = λ b h. refl })
      (λ j. ap (λ (f : Frame). (f.head j).is_used) same ∙ ap (λ (h : Head). h.is_used) (step-heads first' p (place_for d.slots) a b2 (Some (i, name)) weak entry j))
      (create-plan image asked now p name d i m strong x.making n x.new x.raised b1 x.inode x.inside b2 b3 x.entry x.times).after

-- ---- at the end

module _ (image : Image) (asked : Asked) (now p : ℕ) (name : List ℕ) (d : Node) (i : ℕ) (m : Node) (n : Inode) (target : Place → ℕ) (b1 b2 : List ℕ) (maps : List (ℕ × List ℕ)) (direct : List ℕ) (single : ℕ) (b3 : List ℕ)
    (strong : IsStrong (frame image)) (x : MakesLonger image asked now p name d i m n target b1 b2 maps direct single b3) (bare : HasNoBlocks image n) (new : List ℕ) (fresh : AreNewBlocks (frame (put_inode image i b1)) p target new)
    (blocks inodes : List Bool) (sets : AreSetsOf image blocks inodes) where
  pub longer-sets : AreSetsOf (put_all (longer_puts p d i target b1 b2 maps b3) image) (taken new blocks) (set inodes i false)
  longer-sets =
      let all : put_all (longer_puts p d i target b1 b2 maps b3) image ≡ put_inode (longer_image image d i target b1 b2 maps) p b3 = put_all-append ((target (Body (length d.slots / 32)), b2) ∷ maps) (inode_put p b3 ∷ []) (put_inode image i b1) in
      subst (λ z. AreSetsOf z (taken new blocks) (set inodes i false)) (sym all)
      (sets-after image asked now p name d i m n b1 strong x.making x.new x.raised x.inode bare blocks inodes sets
      (put_inode (longer_image image d i target b1 b2 maps) p b3) target new
      (longer-sizes image asked now p name d i m n target b1 b2 maps direct single b3 strong x).0 (longer-sizes image asked now p name d i m n target b1 b2 maps direct single b3 strong x).1
      (longer-others image asked now p name d i m n target b1 b2 maps direct single b3 strong x)
      (longer-own image asked now p name d i m n target b1 b2 maps direct single b3 strong x)
      x.longer.lays.kept fresh
      (longer-used image asked now p name d i m n target b1 b2 maps direct single b3 strong x)
      (ap view (sym all) ∙ (longer-plan image asked now p name d i m n target b1 b2 maps direct single b3 strong x).after))
