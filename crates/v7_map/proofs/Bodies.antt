-- The bodies of a view are bodies.
use Rattle.std.proofs.Common.{◌≡◌, ◌≢◌, ℕ, ◌<◌, ◌≤◌, Bool, true, false, cond, List, [], length, refl, sym, ap, subst, ◌∙◌, arith, ⊎_elim, eqb, Option, Some, None}
use Rattle.std.proofs.lemmas.Bool.{cases_lt, ne_eqb}
use Rattle.std.specs.FinMap.{get, empty, get-empty}
use Rattle.std.specs.Ordering.{nat_cmp}
use Rattle.files_model.specs.declared.attributes.Kind.TheVariants.{Regular}
use Rattle.files_model.specs.Files.{Node, sectors_of, clipped, tabulated, IsBody}
use Rattle.files_model.proofs.Maps.{get-tabulated, get-tabulated_above}
use Rattle.files_model.proofs.Clips.{clipped_twice, length-clipped}
use Rattle.stable.specs.Store.{Image}
use Rattle.v7_map.specs.Image.{sector_at, IsImage}
use Rattle.v7_map.specs.Frame.{Frame, Body, is_directory, frame}
use Rattle.v7_map.specs.Weak.{IsWeak}
use Rattle.v7_map.specs.View.{view, body_of, body_at, held}
use Rattle.v7_map.proofs.Nodes.{view-node, is_file, size_of}

-- what is held, and where from
held_is : (image : Image) (size k a : ℕ) (bytes : List ℕ) → held image size k a ≡ Some bytes → (a ≢ 0) × (clipped size k (sector_at image a) ≡ bytes)
held_is image size k a bytes e = by_test (eqb a 0) refl e
  where
    by_test : (b : Bool) → eqb a 0 ≡ b → cond b None (Some (clipped size k (sector_at image a))) ≡ Some bytes → (a ≢ 0) × (clipped size k (sector_at image a) ≡ bytes)
    by_test true t e = absurd (cc)
    by_test false t e = ((λ z. let yes : eqb 0 0 ≡ false = subst (λ q. eqb q 0 ≡ false) z t in cc), cc)

-- a held sector of a body of this size
body_has : (image : Image) (f : Frame) (i k : ℕ) (bytes : List ℕ) → get (body_at image f i) k ≡ Some bytes
    → (k < sectors_of (f.head i).size) × (f.address i (Body k) ≢ 0) × (clipped (f.head i).size k (sector_at image (f.address i (Body k))) ≡ bytes)
unfolding body_of
body_has image f i k bytes = by_test (is_directory (f.head i))
  where
    table : ℕ → Option (List ℕ)
    table q = held image (f.head i).size q (f.address i (Body q))

    by_test : (b : Bool) → get (cond b empty (tabulated table (sectors_of (f.head i).size))) k ≡ Some bytes
        → (k < sectors_of (f.head i).size) × (f.address i (Body k) ≢ 0) × (clipped (f.head i).size k (sector_at image (f.address i (Body k))) ≡ bytes)
    by_test true e = let no : None ≡ Some bytes = sym (get-empty nat_cmp k) ∙ e in absurd (cc)
    by_test false e = ⊎_elim
        (λ (lt : k < sectors_of (f.head i).size). let h = held_is image (f.head i).size k (f.address i (Body k)) bytes (sym (get-tabulated table (sectors_of (f.head i).size) k lt) ∙ e) in (lt, h.0, h.1))
        (λ (ge : sectors_of (f.head i).size ≤ k). let no : None ≡ Some bytes = sym (get-tabulated_above table (sectors_of (f.head i).size) k ge) ∙ e in absurd (cc))
        (cases_lt k (sectors_of (f.head i).size))

pub view-IsBody : (image : Image) (i : ℕ) (n : Node) → IsImage image → IsWeak (frame image) → get (view image).nodes i ≡ Some n → IsBody n.size n.sectors
unfolding frame
view-IsBody image i n whole weak at =
    let s = view-node image i n at in
    let size : ((frame image).head i).size ≡ n.size = size_of image i n s in
    let sectors : body_at image (frame image) i ≡ n.sectors = ap (λ (m : Node). m.sectors) s.is in
    let has = λ (k : ℕ) (bytes : List ℕ) (e : get n.sectors k ≡ Some bytes). body_has image (frame image) i k bytes (ap (λ z. get z k) sectors ∙ e) in
    let within = weak.sizes.within in
    let long = λ (k : ℕ) (nonzero : (frame image).address i (Body k) ≢ 0). let d = weak.data_block i (Body k) nonzero in let in' : (frame image).address i (Body k) < length image = omega arith in whole ((frame image).address i (Body k)) [] in' in
    record {
      below = λ k bytes e. subst (λ z. k < sectors_of z) size (has k bytes e).0;
      long = λ k bytes e. let h = has k bytes e in ap length (sym h.2) ∙ length-clipped _ k _ (long k h.1);
      zeros = λ k bytes e. let h = has k bytes e in subst (λ z. clipped n.size k z ≡ z) h.2 (subst (λ z. clipped n.size k (clipped z k (sector_at image ((frame image).address i (Body k)))) ≡ clipped z k (sector_at image ((frame image).address i (Body k)))) (sym size) (clipped_twice n.size k _ (long k h.1)));
    }

-- a block that stands there is held
pub view-held : (image : Image) (i k : ℕ) (n : Node) → get (view image).nodes i ≡ Some n → n.kind ≡ Regular → k < sectors_of n.size → (frame image).address i (Body k) ≢ 0
    → (b : List ℕ) × (get n.sectors k ≡ Some b)
unfolding body_of
view-held image i k n at regular below nonzero =
    let s = view-node image i n at in
    let f : Frame = frame image in
    let size : (f.head i).size ≡ n.size = size_of image i n s in
    let sectors : body_at image f i ≡ n.sectors = ap (λ (m : Node). m.sectors) s.is in
    let table = λ (q : ℕ). held image (f.head i).size q (f.address i (Body q)) in
    let b : List ℕ = clipped (f.head i).size k (sector_at image (f.address i (Body k))) in
    let file : is_directory (f.head i) ≡ false = is_file image i n s regular in
    let there : get (body_at image f i) k ≡ Some b =
    ap (λ t. get (cond t empty (tabulated table (sectors_of (f.head i).size))) k) file
    ∙ get-tabulated table (sectors_of (f.head i).size) k (subst (λ z. k < sectors_of z) (sym size) below)
    ∙ ap (λ t. cond t None (Some b)) (ne_eqb (f.address i (Body k)) 0 nonzero) in
    (b, ap (λ z. get z k) (sym sectors) ∙ there)

-- what the view has of each sector of a regular file
pub view-sector : (image : Image) (i k : ℕ) (n : Node) → get (view image).nodes i ≡ Some n → n.kind ≡ Regular → k < sectors_of n.size → get n.sectors k ≡ held image n.size k ((frame image).address i (Body k))
unfolding body_of
view-sector image i k n at regular below =
    let s = view-node image i n at in
    let f : Frame = frame image in
    let size : (f.head i).size ≡ n.size = size_of image i n s in
    let sectors : body_at image f i ≡ n.sectors = ap (λ (m : Node). m.sectors) s.is in
    let table = λ (q : ℕ). held image (f.head i).size q (f.address i (Body q)) in
    let file : is_directory (f.head i) ≡ false = is_file image i n s regular in
    ap (λ z. get z k) (sym sectors)
    ∙ ap (λ t. get (cond t empty (tabulated table (sectors_of (f.head i).size))) k) file
    ∙ get-tabulated table (sectors_of (f.head i).size) k (subst (λ z. k < sectors_of z) (sym size) below)
    ∙ ap (λ z. held image z k (f.address i (Body k))) size

-- a sector that is held has a block
pub view-block : (image : Image) (i k : ℕ) (n : Node) (b : List ℕ) → get (view image).nodes i ≡ Some n → get n.sectors k ≡ Some b → (frame image).address i (Body k) ≢ 0
view-block image i k n b at e =
    let s = view-node image i n at in
    let sectors : body_at image (frame image) i ≡ n.sectors = ap (λ (m : Node). m.sectors) s.is in
    (body_has image (frame image) i k b (ap (λ z. get z k) sectors ∙ e)).1
