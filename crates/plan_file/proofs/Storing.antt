-- The inode of a file after a SETATTR.
use Rattle.std.proofs.Common.{◌≡◌, ℕ, ◌+◌, ◌*◌, ◌/◌, ◌%◌, ◌<◌, ◌≤◌, Bool, true, false, not, ◌||◌, List, refl, sym, ap, ◌∙◌, arith, eqb, Option, Some, None}
use Rattle.std.proofs.lemmas.Bool.{eqb-true, ne_eqb}
use Rattle.std.specs.Option.{unwrap_or, option_map}
use Rattle.v7_layout.specs.declared.inode.Inode.{Inode}
use Rattle.files_model.specs.Attributes.{set_node, set_attr}
use Rattle.files_model.specs.declared.attributes.Attr.{Attr}
use Rattle.files_model.specs.declared.attributes.Sattr.{Sattr}
use Rattle.files_model.specs.Files.{Node}
use Rattle.files_model.specs.Step.{attr_of}
use Rattle.stable.specs.Store.{Image}
use Rattle.v7_map.specs.Frame.{Place, Body, Single, Double, head_of, address_of, frame}
use Rattle.v7_map.specs.Image.{inode_at}
use Rattle.v7_map.specs.Weak.{IsStrong}
use Rattle.v7_plans.specs.Resizing.{StoresNode}
use Rattle.plan_file.specs.Grown.{stored_inode}

-- the attributes of the node afterwards
pub set-attr : (i : ℕ) (n : Node) (wanted : Sattr) (now : ℕ) → attr_of i (set_node n wanted now) ≡ set_attr (attr_of i n) wanted now
unfolding set_node
set-attr i n wanted now = by_size wanted.size
  where
    by_size : (o : Option ℕ) → attr_of i (set_node n (record wanted { size = o }) now) ≡ set_attr (attr_of i n) (record wanted { size = o }) now
    by_size None = refl
    by_size (Some size) = refl

-- its mode has twelve bits
pub set-mode : (attr : Attr) (wanted : Sattr) (now : ℕ) → attr.mode < 4096 → (set_attr attr wanted now).mode < 4096
set-mode attr wanted now low = by_mode wanted.mode
  where
    by_mode : (o : Option ℕ) → unwrap_or (option_map (λ mode. mode % 4096) o) attr.mode < 4096
    by_mode None = low
    by_mode (Some mode) = omega arith

-- a used inode has one of three types
used_mode : (mode : ℕ) → (eqb (mode / 4096) 4 || (eqb (mode / 4096) 8 || eqb (mode / 4096) 10)) ≡ true → 4096 ≤ mode
used_mode mode = by_kind (eqb (mode / 4096) 4) (eqb (mode / 4096) 8) (eqb (mode / 4096) 10) refl refl refl
  where
    by_kind : (a b c : Bool) → eqb (mode / 4096) 4 ≡ a → eqb (mode / 4096) 8 ≡ b → eqb (mode / 4096) 10 ≡ c → (a || (b || c)) ≡ true → 4096 ≤ mode
    by_kind true b c x y w e = let q = eqb-true (mode / 4096) 4 x in omega arith
    by_kind false true c x y w e = let q = eqb-true (mode / 4096) 8 y in omega arith
    by_kind false false true x y w e = let q = eqb-true (mode / 4096) 10 w in omega arith
    by_kind false false false x y w e = absurd (cc)

module _ (image : Image) (i : ℕ) (n m : Node) (direct : List ℕ) (single : ℕ) (small : m.mode < 4096) where
  abbrev v : Inode
  v = stored_inode (inode_at image i) (attr_of i m) direct single

  pub stored-node : StoresNode image i m v
  stored-node = record { is = refl; type = omega arith; bits = omega arith }

  module _ (strong : IsStrong (frame image)) (used : ((frame image).head i).is_used ≡ true) where
    pub stored-used : (head_of v).is_used ≡ true
    unfolding frame
    stored-used = let big : 4096 ≤ (inode_at image i).mode = used_mode (inode_at image i).mode (strong.weak.good i used).kind in
        ap not (ne_eqb ((inode_at image i).mode / 4096 * 4096 + m.mode) 0 (λ z. omega arith))

    -- with the same blocks, places are the same
    pub same-places : direct ≡ (inode_at image i).direct → single ≡ (inode_at image i).single → (p : Place) → address_of image (head_of v) p ≡ (frame image).address i p
    unfolding frame address_of
    same-places d s (Body k) z = address_of image (record (head_of (inode_at image i)) { is_used = (stored-used ∙ sym used) z; direct = d z; single = s z }) (Body k)
    same-places d s Single z = address_of image (record (head_of (inode_at image i)) { is_used = (stored-used ∙ sym used) z; direct = d z; single = s z }) Single
    same-places d s Double z = address_of image (record (head_of (inode_at image i)) { is_used = (stored-used ∙ sym used) z; direct = d z; single = s z }) Double
