-- A directory that the view has, and its slots.
use Rattle.std.proofs.Common.{◌≡◌, ◌≢◌, ℕ, suc, ◌+◌, ◌/◌, ◌%◌, ◌<◌, ◌≤◌, Bool, true, false, cond, ◌==◌, List, [], ◌∷◌, map, length, get_or, refl, sym, ap, subst, ◌∙◌, arith, ⊎_elim, ltb, eqb, Some, None}
use Rattle.std.proofs.lemmas.Bool.{cases_eq, cases_lt, eqb-true}
use Rattle.std.proofs.lemmas.List.FromFn.{length-map-range_with_len}
use Rattle.std.specs.List.{range_with_len, position_or_len}
use Rattle.std.specs.Option.{is_none}
use Rattle.std.specs.FinMap.{get}
use Rattle.files_model.specs.declared.attributes.Kind.TheVariants.{Regular, Directory, Link}
use Rattle.files_model.specs.Files.{Node, Slot}
use Rattle.files_model.specs.Space.{size_limit}
use Rattle.files_model.specs.Permission as permission
use Rattle.stable.specs.Store.{Image}
use Rattle.v7_map.specs.Image.{inode_at}
use Rattle.v7_map.specs.Frame.{is_directory, slots_of, slot_in, head_of, frame}
use Rattle.v7_map.specs.Tree.{tree, named, is_walked, is_named, links}
use Rattle.v7_map.specs.View.{view, kind_of}
use Rattle.v7_map.specs.Weak.{IsWeak, HasDots, slot_at, parent}
use Rattle.v7_map.proofs.AnyFrame.{frame-IsFrame}
use Rattle.v7_map.proofs.Named.{named_walked}
use Rattle.v7_map.proofs.Nodes.{StandsAs, view-node}
use Rattle.v7_strokes.proofs.Names.{none_slot}
use Rattle.v7_map.proofs.Walks.{walked_reached, reached_walked, or_cases}
use Rattle.v7_map.proofs.Children.{has_slot-at}

-- a directory's kind
directory_kind : (type : ℕ) → permission.is_directory (kind_of type) ≡ (type == 4)
directory_kind type = by_test (eqb type 4) (eqb type 10)
  where
    by_test : (a b : Bool) → permission.is_directory (cond a Directory (cond b Link Regular)) ≡ a
    by_test true b = refl
    by_test false true = refl
    by_test false false = refl

-- what the view says of a node's kind
pub node-directory : (image : Image) (i : ℕ) (n : Node) → StandsAs image i n → is_directory ((frame image).head i) ≡ permission.is_directory n.kind
unfolding frame
node-directory image i n s = sym (directory_kind ((inode_at image i).mode / 4096)) ∙ ap (λ (m : Node). permission.is_directory m.kind) s.is

pub slots-length : (image : Image) (d : ℕ) → is_directory ((frame image).head d) ≡ true → length ((tree (frame image)).slots d) ≡ ((frame image).head d).size / 16
unfolding frame slots_of
slots-length image d dir = ap (λ b. length (cond b (map (slot_in image (head_of (inode_at image d))) (range_with_len 0 ((inode_at image d).size / 16))) [])) dir
    ∙ length-map-range_with_len (slot_in image (head_of (inode_at image d))) 0 ((inode_at image d).size / 16)

-- what is known of a directory that the view has
pub record StandsDir (image : Image) (p : ℕ) (d : Node) : Type 0 where
  pub stands : StandsAs image p d
  pub dir : is_directory ((frame image).head p) ≡ true
  pub walked : is_walked (tree (frame image)) p ≡ true
  pub size : ((frame image).head p).size ≡ d.size
  pub slots : (tree (frame image)).slots p ≡ d.slots
  pub long : length d.slots ≡ d.size / 16
  pub even : d.size % 16 ≡ 0
  pub least : 32 ≤ d.size
  pub most : d.size ≤ size_limit

pub stands-dir : (image : Image) (p : ℕ) (d : Node) → IsWeak (frame image) → get (view image).nodes p ≡ Some d → permission.is_directory d.kind ≡ true → StandsDir image p d
unfolding frame
stands-dir image p d weak at kind =
    let s = view-node image p d at in
    let dir : is_directory ((frame image).head p) ≡ true = sym (directory_kind ((inode_at image p).mode / 4096)) ∙ ap (λ (m : Node). permission.is_directory m.kind) s.is ∙ kind in
    let size : ((frame image).head p).size ≡ d.size = ap (λ (m : Node). m.size) s.is in
    let slots : (tree (frame image)).slots p ≡ d.slots = ap (λ (m : Node). m.slots) s.is in
    let good = weak.good p ((frame-IsFrame image).directories p dir) in
    let sizes = good.directory (eqb-true ((frame image).head p).type 4 dir) in
    record {
      stands = s;
      dir = dir;
      walked = named_walked image p dir s.named;
      size = size;
      slots = slots;
      long = ap length (sym slots) ∙ slots-length image p dir ∙ ap (λ n. n / 16) size;
      even = subst (λ n. n % 16 ≡ 0) size sizes.1;
      least = subst (λ n. 32 ≤ n) size sizes.0;
      most = subst (λ n. n ≤ size_limit) size good.length;
    }

-- the first empty slot of a list, or its end
place_empty : (xs : List Slot) → position_or_len is_none xs < length xs → get_or xs (position_or_len is_none xs) None ≡ None
place_empty [] lt = absurd (omega arith)
place_empty (None ∷ xs) lt = refl
place_empty (Some x ∷ xs) lt = let e : suc (position_or_len is_none xs) ≡ position_or_len is_none (Some x ∷ xs) = omega arith in
    subst (λ m. get_or (Some x ∷ xs) m None ≡ None) e (place_empty xs (omega arith))

place_most : (xs : List Slot) → position_or_len is_none xs ≤ length xs
place_most [] = omega arith
place_most (None ∷ xs) = omega arith
place_most (Some x ∷ xs) = let r = place_most xs in omega arith

-- the first empty slot of a directory, or its end, is past its first two slots
module _ (image : Image) (p : ℕ) (d : Node) (weak : IsWeak (frame image)) (s : StandsDir image p d) where
  dots : HasDots (tree (frame image)) p
  dots = weak.names.dots p s.walked

  at_slot : (k : ℕ) → get_or d.slots k None ≡ slot_at (tree (frame image)) p k
  at_slot k = ap (λ l. get_or l k None) (sym s.slots)

  pub place-past : 2 ≤ position_or_len is_none d.slots
  place-past = let long = s.long in let least = s.least in ⊎_elim
      (λ (lt : position_or_len is_none d.slots < length d.slots). let e = place_empty d.slots lt in ⊎_elim
      (λ (zero' : position_or_len is_none d.slots ≡ 0). absurd (none_slot p (46 ∷ []) (sym e ∙ ap (λ k. get_or d.slots k None) zero' ∙ at_slot 0 ∙ dots.self)))
      (λ (nz : position_or_len is_none d.slots ≢ 0). ⊎_elim
      (λ (one' : position_or_len is_none d.slots ≡ 1). absurd (none_slot (parent (tree (frame image)) p) (46 ∷ 46 ∷ []) (sym e ∙ ap (λ k. get_or d.slots k None) one' ∙ at_slot 1 ∙ dots.up)))
      (λ (no' : position_or_len is_none d.slots ≢ 1). omega arith)
      (cases_eq (position_or_len is_none d.slots) 1))
      (cases_eq (position_or_len is_none d.slots) 0))
      (λ (ge : length d.slots ≤ position_or_len is_none d.slots). omega arith)
      (cases_lt (position_or_len is_none d.slots) (length d.slots))

  pub place-empty : position_or_len is_none d.slots < length d.slots → slot_at (tree (frame image)) p (position_or_len is_none d.slots) ≡ None
  place-empty lt = sym (at_slot (position_or_len is_none d.slots)) ∙ place_empty d.slots lt

  pub place-end : length d.slots ≤ position_or_len is_none d.slots → position_or_len is_none d.slots ≡ length d.slots
  place-end ge = let m = place_most d.slots in omega arith
