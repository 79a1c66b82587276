-- A directory gets longer by one slot: in its last sector, in a new one, or in one whose address stands in its block of addresses already.
use Rattle.std.proofs.Common.{◌≡◌, ◌≢◌, ℕ, ◌+◌, ◌-◌, ◌*◌, ◌/◌, ◌%◌, ◌<◌, ◌≤◌, true, not, ◌==◌, List, length, set, refl, sym, ap, subst, ◌∙◌, arith, ⊎_elim}
use Rattle.std.proofs.lemmas.Bool.{eqb-true, cases_eq, cases_lt}
use Rattle.std.specs.List.{range_with_len, list_any}
use Rattle.v7_layout.specs.declared.inode.Inode.{Inode}
use Rattle.v7_layout.specs.Numbers.{part, field}
use Rattle.files_model.specs.Files.{Slot, sectors_of}
use Rattle.stable.specs.Store.{Image}
use Rattle.v7_map.specs.Image.{sector_at, inode_at}
use Rattle.v7_map.specs.Frame.{Frame, Place, Body, Single, Double, head_of, is_directory, address_of, slot_of, frame}
use Rattle.v7_map.specs.Tree.{tree, is_walked}
use Rattle.v7_map.specs.Weak.{IsWeak, IsGood}
use Rattle.v7_map.proofs.AnyFrame.{frame-IsFrame}
use Rattle.v7_map.proofs.Ranges.{address-inside}
use Rattle.v7_plans.specs.Placed.{IsMine, IsPlaced}
use Rattle.v7_plans.specs.Quiet.{IsQuiet, IsMuted}
use Rattle.v7_plans.proofs.Local.{held-mine}
use Rattle.v7_strokes.specs.Inodes.{longer_inode}
use Rattle.v7_strokes.specs.Slots.{PutsSlot, Appends, GrowsBy}
use Rattle.v7_strokes.specs.Targets.{IsTarget}
use Rattle.v7_strokes.proofs.DirMap.{map-inside, map-weak, map-first, map-tree, map-head, map-address_other, map-inodes, map-bodies}
use Rattle.v7_strokes.proofs.Exempt.{free-mine}
use Rattle.v7_strokes.proofs.SlotPut.{past-frame, past-first, past-inodes, past-bodies}
use Rattle.v7_strokes.proofs.SlotStep.{walked-dir}

-- a slot past the size, in the last sector, doesn't show
pub end-quiet : (image : Image) (d k : ℕ) (bytes : List ℕ) (s : Slot) → IsWeak (frame image) → is_walked (tree (frame image)) d ≡ true
    → k ≡ ((frame image).head d).size / 16 → k / 32 < sectors_of ((frame image).head d).size → PutsSlot (sector_at image ((frame image).address d (Body (k / 32)))) k bytes s
    → IsQuiet image ((frame image).address d (Body (k / 32)), bytes)
end-quiet image d k bytes s weak w end below puts =
    let dir = walked-dir image d w in
    let a : ℕ = (frame image).address d (Body (k / 32)) in
    let r = address-inside image weak d (Body (k / 32)) (weak.needed d (k / 32) dir below) in
    let low : 3 ≤ (frame image).address d (Body (k / 32)) = r.0 in record {
      past = omega arith;
      inside = r.2;
      whole = puts.long;
      same_frame = past-frame image d k ((frame image).address d (Body (k / 32))) bytes s weak dir below refl puts (omega arith);
      same_first = past-first image d k ((frame image).address d (Body (k / 32))) bytes s weak dir below refl puts (omega arith);
      same_inodes = past-inodes image d k ((frame image).address d (Body (k / 32))) bytes s weak dir below refl puts (omega arith);
      same_bodies = past-bodies image d k ((frame image).address d (Body (k / 32))) bytes s weak dir below refl puts (omega arith);
    }

-- the put of the block of addresses
pub map-muted : (image : Image) (p a : ℕ) (bytes : List ℕ) (weak : IsWeak (frame image)) (dir : is_directory ((frame image).head p) ≡ true)
    → ((k : ℕ) → 10 ≤ k → k < 138 → k < sectors_of ((frame image).head p).size → field bytes (4 * (k - 10)) 4 ≡ (frame image).address p (Body k))
    → (frame image).address p Single ≡ a → a ≢ 0 → length bytes ≡ 512
    → ((r : Place) → (frame (set image a bytes)).address p r ≢ 0 → IsMine (frame image) p ((frame (set image a bytes)).address p r))
    → ((q r : Place) → (frame (set image a bytes)).address p q ≢ 0 → (frame (set image a bytes)).address p q ≡ (frame (set image a bytes)).address p r → q ≡ r)
    → (frame (set image a bytes)).address p Double ≡ 0 → IsMuted p image (a, bytes)
map-muted image p a bytes weak dir stays is there long mine apart double =
    let used = (frame-IsFrame image).directories p dir in
    let stays' = λ (_ : is_directory ((frame image).head p) ≡ true). stays in
    let r = map-inside image p a bytes weak used stays' is there in
    let low : 3 ≤ a = r.0 in record {
      past = omega arith;
      inside = r.1;
      whole = long;
      weak = map-weak image p a bytes weak used stays' is there (λ q. (frame (set image a bytes)).address p q) (λ q. refl) mine apart double;
      same_first = map-first image p a bytes weak used stays' is there;
      same_tree = map-tree image p a bytes weak used stays' is there;
      same_heads = map-head image p a bytes weak used stays' is there;
      same_addresses = map-address_other image p a bytes weak used stays' is there;
      same_inodes = map-inodes image p a bytes weak used stays' is there;
      same_bodies = map-bodies image p a bytes weak used stays' is there dir;
    }

-- where sector q stands already, nothing is new
pub standing-target : (f : Frame) (d q : ℕ) → IsWeak f → f.address d (Body q) ≢ 0
    → (f.address d Single ≢ 0 → list_any (λ l. not (f.address d (Body l) == 0)) (range_with_len 10 128) ≡ true) → IsTarget f d q (f.address d)
standing-target f d q weak held single = record {
  kept = λ p nz. refl;
  fresh = λ p z nz. absurd (nz z);
  apart = λ p r nz same. (weak.unshared d d p r nz same).1;
  held = held;
  added = λ l z nz. absurd (nz z);
  map_needed = single;
  double = weak.no_double d;
}

module _ (image : Image) (d k now : ℕ) (s : Slot) (direct : List ℕ) (single : ℕ) (target : Place → ℕ) (x : Appends image d k s)
    (lay : IsTarget (frame image) d (k / 32) target) (at : (p : Place) → address_of image (head_of (longer_inode (inode_at image d) direct single now)) p ≡ target p) where
  n : Inode
  n = longer_inode (inode_at image d) direct single now

  dir : is_directory ((frame image).head d) ≡ true
  dir = walked-dir image d x.walked

  sectors_more : sectors_of (((frame image).head d).size + 16) ≡ k / 32 + 1
  sectors_more = let end = x.end in let even = x.even in omega arith

  good : IsGood (head_of n)
  unfolding n frame
  good = let g = x.weak.good d ((frame-IsFrame image).directories d dir) in let r = g.directory (eqb-true ((frame image).head d).type 4 dir) in record {
    kind = g.kind;
    length = x.within;
    link = λ e. absurd (not_both ((inode_at image d).mode / 4096) (eqb-true ((inode_at image d).mode / 4096) 4 dir) e);
    directory = λ e. (let low = r.0 in omega arith, let even = x.even in omega arith);
  }
    where
      not_both : (t : ℕ) → t ≡ 4 → t ≡ 10 → ⊥
      not_both t a b = omega arith

  mine : (p : Place) → target p ≢ 0 → IsMine (frame image) d (target p)
  mine p nz = ⊎_elim
      (λ (z : (frame image).address d p ≡ 0). free-mine (frame image) d (target p) (lay.fresh p z nz))
      (λ (h : (frame image).address d p ≢ 0). subst (IsMine (frame image) d) (sym (lay.kept p h)) (held-mine (frame image) d p x.weak h))
      (cases_eq ((frame image).address d p) 0)

  needed : (l : ℕ) → l < k / 32 + 1 → target (Body l) ≢ 0
  needed l lt z = ⊎_elim
      (λ (low : l < k / 32). let h = x.weak.needed d l dir (let end = x.end in omega arith) in h (sym (lay.kept (Body l) h) ∙ z))
      (λ (ge : k / 32 ≤ l). let e : l ≡ k / 32 = omega arith in lay.held (subst (λ m. target (Body m) ≡ 0) e z))
      (cases_lt l (k / 32))

  past : (l : ℕ) → k / 32 + 1 ≤ l → target (Body l) ≡ 0
  past l le = ⊎_elim
      (λ (z : target (Body l) ≡ 0). z)
      (λ (nz : target (Body l) ≢ 0). let e = lay.added l (x.none_past l (omega arith)) nz in absurd (omega arith))
      (cases_eq (target (Body l)) 0)

  placed : IsPlaced image d (head_of n)
  unfolding n frame
  placed = record {
    good = λ u. good;
    mine = λ p nz. subst (IsMine (frame image) d) (sym (at p)) (mine p (λ z. nz (at p ∙ z)));
    needed = λ l dir' lt z. needed l (subst (λ m. l < m) sectors_more lt) (sym (at (Body l)) ∙ z);
    apart = λ p q nz same. lay.apart p q (λ z. nz (at p ∙ z)) (sym (at p) ∙ same ∙ at q);
    no_double = at Double ∙ lay.double;
    past = λ l le. at (Body l) ∙ past l (subst (λ m. m ≤ l) sectors_more le);
    single = λ nz. (λ z. list_any (λ l. not (at (Body l) z == 0)) (range_with_len 10 128)) ∙ lay.map_needed (λ z. nz (at Single ∙ z));
  }

  pub longer-grows : slot_of (part (sector_at image (target (Body (k / 32)))) (16 * (k % 32)) 16) ≡ s → GrowsBy image d k (longer_inode (inode_at image d) direct single now) s
  unfolding n frame
  longer-grows content = record {
    walked = x.walked;
    end = x.end;
    even = x.even;
    longer = refl;
    mode = refl;
    nlink = refl;
    generation = refl;
    placed = placed;
    kept = λ l lt. at (Body l) ∙ lay.kept (Body l) (x.weak.needed d l dir lt);
    content = ap (λ b. slot_of (part (sector_at image b) (16 * (k % 32)) 16)) (at (Body (k / 32))) ∙ content;
    new_plain = x.plain;
    used = x.used;
    bound = x.bound;
  }
