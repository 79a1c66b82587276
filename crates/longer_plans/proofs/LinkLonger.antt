-- LINK whose name makes the directory longer, by the blocks where the directory's are to stand.
use Rattle.std.proofs.Common.{◌≡◌, ◌≢◌, ℕ, ◌+◌, ◌/◌, ◌%◌, ◌≤◌, Bool, true, false, cond, not, ◌||◌, List, [], ◌∷◌, ◌++◌, length, set, refl, sym, ap, subst, ◌∙◌, arith, ⊎_elim, ltb, leb, Some, None}
use Rattle.std.proofs.lemmas.Bool.{cases_eq, ne_eqb, le-ltb}
use Rattle.files_model.specs.declared.attributes.FileId.{FileId}
use Rattle.files_model.specs.declared.credential.Cred.{Cred}
use Rattle.files_model.specs.declared.reply.Stat.TheVariants as stat
use Rattle.files_model.specs.Files.{Node, Files, sectors_of}
use Rattle.files_model.specs.NameRows.{is_full_for, most_links}
use Rattle.files_model.specs.Names.{place_for, with_entry, may_change}
use Rattle.files_model.specs.Space.{size_limit}
use Rattle.files_model.specs.Torn.{Asked}
use Rattle.stable.specs.Puts.{put_all}
use Rattle.stable.specs.Store.{Image}
use Rattle.v7_map.specs.Image.{inode_at}
use Rattle.v7_map.specs.Frame.{Head, Place, Body, is_directory, frame}
use Rattle.v7_map.specs.Tree.{tree, is_walked, links, is_slot_of}
use Rattle.v7_map.specs.View.{view}
use Rattle.v7_map.specs.Weak.{IsWeak, IsStrong}
use Rattle.v7_map.specs.Plan.{PutsInode}
use Rattle.v7_map.specs.Plans.{IsPlanOf}
use Rattle.v7_map.proofs.Prefixes.{put_all-append}
use Rattle.v7_plans.specs.Quiet.{AllMuted}
use Rattle.v7_plans.specs.Setting.{put_inode}
use Rattle.v7_plans.proofs.Muting.{muted-addresses, muted-heads, muted-weak}
use Rattle.v7_sets.specs.Sets.{AreSetsOf}
use Rattle.v7_strokes.specs.Entries.{inode_put}
use Rattle.v7_strokes.specs.Inodes.{longer_inode}
use Rattle.v7_strokes.specs.Slots.{Appends, GrowsBy}
use Rattle.v7_strokes.proofs.Directories.{StandsDir}
use Rattle.v7_strokes.proofs.GrowStep.{grow-address, grow-addresses, grow-head, grow-heads, grow-sizes}
use Rattle.v7_strokes.proofs.Names.{some_slot}
use Rattle.name_plans.specs.CreatingPuts.{longer_image, longer_puts}
use Rattle.name_plans.specs.Linking.{IsLink}
use Rattle.name_plans.specs.Taken.{taken, AreNewBlocks}
use Rattle.name_plans.proofs.CreatingAccepted.{first_none}
use Rattle.name_plans.proofs.Lengthening.{longer-muted, longer-grown, longer-at}
use Rattle.name_plans.proofs.LinkAccepted.{IsLinking}
use Rattle.name_plans.proofs.LinkAtEnd.{link-growing}
use Rattle.name_plans.proofs.LinkFirst.{link-dir, link-file, link-apart, link-used, link-links, link-weak, link-strong, link-tree, link-head, link-heads, link-uses, link-sizes, link-addresses}
use Rattle.longer_plans.specs.LongerLinks.{LinksLonger}
use Rattle.longer_plans.proofs.LongerSets.{muted-sizes, longer-sets}

clash : {b : Bool} → b ≡ true → b ≡ false → ⊥
clash {b = b} x y = cc

or_second : (a b : Bool) → (a || b) ≡ false → b ≡ false
or_second true b e = absurd (cc)
or_second false b e = e

not_less : (x y : ℕ) → ltb x y ≡ false → y ≤ x
not_less x y e = grind arith

-- an accepted LINK at the end of its directory has room for the slot
pub link-room : (files : Files) (file dir : FileId) (name : List ℕ) (cred : Cred) (now : ℕ) (n d : Node) → IsLink files file dir name cred now n d → length d.slots ≤ place_for d.slots → d.size + 16 ≤ size_limit
unfolding with_entry
link-room files file dir name cred now n d c full =
    let x = first_none (not (may_change cred dir.ino d)) stat.Acces ((ltb size_limit 0 || ltb size_limit (with_entry d None 0).size, stat.Fbig) ∷ (leb most_links n.nlink || is_full_for files d (with_entry d (Some (file.ino, name)) now), stat.Nospc) ∷ []) c.room in
    let y = first_none (ltb size_limit 0 || ltb size_limit (with_entry d None 0).size) stat.Fbig ((leb most_links n.nlink || is_full_for files d (with_entry d (Some (file.ino, name)) now), stat.Nospc) ∷ []) x.1 in
    let most = not_less size_limit (with_entry d None 0).size (or_second (ltb size_limit 0) (ltb size_limit (with_entry d None 0).size) y.0) in
    let same : (with_entry d None 0).size ≡ d.size + 16 = ap (λ t. (cond t (record d { slots = set d.slots (place_for d.slots) None; mtime = 0; ctime = 0 }) (record d { slots = d.slots ++ None ∷ []; size = d.size + 16; mtime = 0; ctime = 0 })).size) (le-ltb (place_for d.slots) (length d.slots) full) in
    subst (λ s. s ≤ size_limit) same most

module _ (image : Image) (asked : Asked) (now p : ℕ) (name : List ℕ) (d : Node) (i : ℕ) (n : Node) (target : Place → ℕ) (b1 b2 : List ℕ) (maps : List (ℕ × List ℕ)) (direct : List ℕ) (single : ℕ) (b3 : List ℕ)
    (strong : IsStrong (frame image)) (c : IsLinking (view image) asked now p name d i n) (room : d.size + 16 ≤ size_limit) (x : LinksLonger image now p name d i target b1 b2 maps direct single b3) where
  first : Image
  first = put_inode image i b1

  mid : Image
  mid = longer_image image d i target b1 b2 maps

  s : StandsDir image p d
  s = link-dir image asked now p name d i n strong c

  apart : p ≢ i
  apart e = link-apart image asked now p name d i n strong c (sym e)

  weak_first : IsWeak (frame first)
  unfolding first
  weak_first = link-weak image asked now p name d i n strong c b1 x.node

  tree_first : tree (frame first) ≡ tree (frame image)
  unfolding first
  tree_first = link-tree image asked now p name d i n strong c b1 x.node

  size_p : ((frame first).head p).size ≡ d.size
  unfolding first
  size_p = ap (λ (h : Head). h.size) (link-heads image asked now p name d i n strong c b1 x.node p apart) ∙ s.size

  plain_i : is_directory ((frame first).head i) ≡ false
  unfolding first
  plain_i = ap is_directory (link-head image asked now p name d i n strong c b1 x.node) ∙ link-file image asked now p name d i n strong c

  used_i : ((frame first).head i).is_used ≡ true
  unfolding first
  used_i = link-uses image asked now p name d i n strong c b1 x.node i ∙ link-used image asked now p name d i n strong c

  few : links (tree (frame first)) i + 1 ≤ 65535
  few = subst (λ l. l + 1 ≤ 65535) (sym (ap (λ t. links t i) tree_first ∙ link-links image asked now p name d i n strong c)) c.bound

  bound : (j : ℕ) → is_slot_of j (Some (i, name)) ≡ true → links (tree (frame first)) j + 1 ≤ 65535
  bound j e = ⊎_elim (λ (same : j ≡ i). subst (λ z. links (tree (frame first)) z + 1 ≤ 65535) (sym same) few)
      (λ (ne : j ≢ i). absurd (clash e (ne_eqb i j (λ z. ne (sym z))))) (cases_eq j i)

  none : (l : ℕ) → sectors_of ((frame first).head p).size ≤ l → (frame first).address p (Body l) ≡ 0
  unfolding first
  none l le = (link-strong image asked now p name d i n strong c b1 x.node).none_past p l le

  appends : Appends first p (length d.slots) (Some (i, name))
  appends =
      let long = s.long in let even = s.even in let z = size_p in record {
        weak = weak_first;
        walked = ap (λ t. is_walked t p) tree_first ∙ s.walked;
        end = s.long ∙ ap (λ q. q / 16) (sym size_p);
        even = ap (λ q. q % 16) size_p ∙ s.even;
        within = subst (λ q. q + 16 ≤ size_limit) (sym size_p) room;
        none_past = λ l lt. none l (omega arith);
        plain = λ j other e. subst (λ q. is_directory ((frame first).head q) ≡ false) (some_slot i j name other e).0 plain_i;
        used = λ j other e. let r = some_slot i j name other e in (subst (λ q. ((frame first).head q).is_used ≡ true) r.0 used_i, subst (λ q. q ≢ []) r.1 c.good_name);
        bound = bound;
      }

  inner : List (ℕ × List ℕ)
  inner = (target (Body (length d.slots / 32)), b2) ∷ maps

  muted : AllMuted p inner first
  unfolding inner first
  muted = longer-muted (put_inode image i b1) p (length d.slots) now (Some (i, name)) target b2 maps direct single appends none x.longer

  grown : GrowsBy mid p (length d.slots) (longer_inode (inode_at mid p) direct single now) (Some (i, name))
  unfolding mid first
  grown = longer-grown (put_inode image i b1) p (length d.slots) now (Some (i, name)) target b2 maps direct single appends none x.longer

  pub link-longer : IsPlanOf image (asked ∷ []) now (longer_puts p d i target b1 b2 maps b3)
  unfolding mid inner first
  link-longer = link-growing image asked now p name d i n (longer_inode (inode_at (longer_image image d i target b1 b2 maps) p) direct single now) b1 b3 ((target (Body (length d.slots / 32)), b2) ∷ maps) strong c
      (record { full = x.full; node = x.node; muted = muted; grows = grown; times = refl; directory = x.directory })

  -- ---- where blocks stand afterwards

  weak_mid : IsWeak (frame mid)
  unfolding mid inner first
  weak_mid = muted-weak p inner first muted weak_first

  last : Image
  last = put_inode mid p b3

  puts_p : PutsInode mid p b3 (longer_inode (inode_at mid p) direct single now)
  unfolding mid
  puts_p = x.directory

  all : put_all (longer_puts p d i target b1 b2 maps b3) image ≡ last
  unfolding last mid
  all = put_all-append ((target (Body (length d.slots / 32)), b2) ∷ maps) (inode_put p b3 ∷ []) (put_inode image i b1)

  own : (r : Place) → (frame last).address p r ≡ target r
  unfolding last mid first
  own r = grow-address mid p (length d.slots) (longer_inode (inode_at mid p) direct single now) b3 (Some (i, name)) weak_mid puts_p grown r
      ∙ longer-at (put_inode image i b1) p (length d.slots) now (Some (i, name)) target b2 maps direct single appends none x.longer r

  others : (j : ℕ) → j ≢ p → (r : Place) → (frame last).address j r ≡ (frame image).address j r
  unfolding last mid first inner
  others j ne r = grow-addresses mid p (length d.slots) (longer_inode (inode_at mid p) direct single now) b3 (Some (i, name)) weak_mid puts_p grown j ne r
      ∙ muted-addresses p inner first muted j ne r ∙ link-addresses image asked now p name d i n strong c b1 x.node j r

  heads : (j : ℕ) → ((frame last).head j).is_used ≡ ((frame first).head j).is_used
  unfolding last mid first inner frame
  heads j = ⊎_elim
      (λ (e : j ≡ p). subst (λ q. ((frame last).head q).is_used ≡ ((frame first).head q).is_used) (sym e)
      (ap (λ (h : Head). h.is_used) (grow-head mid p (length d.slots) (longer_inode (inode_at mid p) direct single now) b3 (Some (i, name)) weak_mid puts_p grown)
      ∙ ap (λ (h : Head). h.is_used) (muted-heads p inner first muted p)))
      (λ (ne : j ≢ p). ap (λ (h : Head). h.is_used) (grow-heads mid p (length d.slots) (longer_inode (inode_at mid p) direct single now) b3 (Some (i, name)) weak_mid puts_p grown j ne ∙ muted-heads p inner first muted j))
      (cases_eq j p)

  sizes : ((frame last).isize ≡ (frame image).isize) × ((frame last).fsize ≡ (frame image).fsize)
  unfolding last mid first inner
  sizes = let r = grow-sizes mid p (length d.slots) (longer_inode (inode_at mid p) direct single now) b3 (Some (i, name)) weak_mid puts_p grown in
      let e = muted-sizes p inner first muted in let l = link-sizes image asked now p name d i n strong c b1 x.node in (r.0 ∙ e.0 ∙ l.0, r.1 ∙ e.1 ∙ l.1)

  kept : (r : Place) → (frame image).address p r ≢ 0 → target r ≡ (frame image).address p r
  kept r nz = let same = link-addresses image asked now p name d i n strong c b1 x.node p r in x.longer.lays.kept r (λ z. nz (sym same ∙ z)) ∙ same

  generations : (view last).generations ≡ (view image).generations
  generations = ap (λ (f : Files). f.generations) (ap view (sym all) ∙ link-longer.after ∙ c.after)

  pub link-own : (r : Place) → (frame (put_all (longer_puts p d i target b1 b2 maps b3) image)).address p r ≡ target r
  link-own = subst (λ m. (r : Place) → (frame m).address p r ≡ target r) (sym all) own

  pub link-others : (j : ℕ) → j ≢ p → (r : Place) → (frame (put_all (longer_puts p d i target b1 b2 maps b3) image)).address j r ≡ (frame image).address j r
  link-others = subst (λ m. (j : ℕ) → j ≢ p → (r : Place) → (frame m).address j r ≡ (frame image).address j r) (sym all) others

  pub link-taken : (new : List ℕ) → AreNewBlocks (frame image) p target new → (blocks inodes : List Bool) → AreSetsOf image blocks inodes
      → AreSetsOf (put_all (longer_puts p d i target b1 b2 maps b3) image) (taken new blocks) inodes
  unfolding first
  link-taken new fresh blocks inodes sets = subst (λ m. AreSetsOf m (taken new blocks) inodes) (sym all) (longer-sets image last p target strong.weak (record {
    isize = sizes.0;
    fsize = sizes.1;
    others = others;
    own = own;
    kept = kept;
    used = λ j. heads j ∙ link-uses image asked now p name d i n strong c b1 x.node j;
    generations = generations;
  }) new fresh blocks inodes sets)
