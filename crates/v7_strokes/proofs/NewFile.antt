-- The inode of a new regular file without sectors.
use Rattle.std.proofs.Common.{◌≡◌, ℕ, zero, suc, ◌+◌, ◌-◌, ◌*◌, ◌/◌, ◌%◌, ◌<◌, ◌≤◌, Bool, true, false, cond, not, ◌||◌, ◌==◌, List, [], replicate, get_or, refl, sym, ap, ◌∙◌, arith, ⊎_elim, ltb, None}
use Rattle.std.proofs.lemmas.Bool.{cases_lt, ne_eqb, le-ltb}
use Rattle.std.specs.FinMap.{empty}
use Rattle.v7_layout.specs.declared.inode.Inode.{Inode}
use Rattle.files_model.specs.declared.attributes.Kind.TheVariants.{Regular}
use Rattle.files_model.specs.Files.{Node, sectors_of, tabulated}
use Rattle.files_model.specs.Space.{size_limit}
use Rattle.files_model.proofs.Maps.{tabulated_same}
use Rattle.stable.specs.Store.{Image}
use Rattle.v7_map.specs.Frame.{Head, Place, Body, Single, Double, head_of, is_directory, address_of, place_of, listed, frame, body_places}
use Rattle.v7_map.specs.Tree.{tree, links}
use Rattle.v7_map.specs.View.{body_of, held, kind_of}
use Rattle.v7_map.specs.Weak.{IsGood}
use Rattle.v7_strokes.specs.Inodes.{made_inode, type_of}
use Rattle.v7_strokes.specs.NewNodes.{IsNewFile}
use Rattle.v7_strokes.proofs.Unnamed.{placed-none}

all_none : (n : ℕ) → tabulated {X = List ℕ} (λ k. None) n ≡ empty
unfolding tabulated
all_none zero = refl
all_none (suc n) = all_none n

zeros_at : (n k : ℕ) → ◌≡◌ {A = ℕ} (get_or (replicate n 0) k 0) 0
zeros_at zero k = refl
zeros_at (suc n) zero = refl
zeros_at (suc n) (suc k) = zeros_at n k

module _ (image : Image) (i generation : ℕ) (m : Node) (regular : m.kind ≡ Regular) (mode : m.mode < 4096) (one : m.nlink ≡ 1) (size : m.size ≤ size_limit) (sectors : m.sectors ≡ empty) (slots : m.slots ≡ []) where
  n : Inode
  n = made_inode m generation

  h : Head
  h = head_of (made_inode m generation)

  the_mode : (made_inode m generation).mode ≡ 32768 + m.mode
  unfolding made_inode
  the_mode = ap (λ k. 4096 * type_of k + m.mode) regular

  type : h.type ≡ 8
  unfolding h
  type = ap (λ x. x / 4096) the_mode ∙ (let e : (32768 + m.mode) / 4096 ≡ 8 = omega arith in e)

  used : h.is_used ≡ true
  unfolding h
  used = ap (λ x. not (x == 0)) the_mode ∙ ap not (ne_eqb (32768 + m.mode) 0 (λ e. omega arith))

  file : is_directory h ≡ false
  file = ap (λ t. t == 4) type

  none_in : (o : Head) → o.direct ≡ replicate 10 0 → o.single ≡ 0 → o.double ≡ 0 → (p : Place) → place_of image o p ≡ 0
  none_in o d s e (Body k) = ⊎_elim
      (λ (lt : k < 10). ap (λ b. cond b (get_or o.direct k 0) (cond (ltb k body_places) (listed image o.single (k - 10)) 0)) (below k 10 lt) ∙ ap (λ l. get_or l k 0) d ∙ zeros_at 10 k)
      (λ (ge : 10 ≤ k). ap (λ b. cond b (get_or o.direct k 0) (cond (ltb k body_places) (listed image o.single (k - 10)) 0)) (le-ltb k 10 ge) ∙ ap (λ a. cond (ltb k body_places) (listed image a (k - 10)) 0) s ∙ both (ltb k body_places))
      (cases_lt k 10)
    where
      both : (b : Bool) → ◌≡◌ {A = ℕ} (cond b 0 0) 0
      both true = refl
      both false = refl

      below : (a b : ℕ) → a < b → ltb a b ≡ true
      below a b lt = grind arith
  none_in o d s e Single = s
  none_in o d s e Double = e

  none : (p : Place) → address_of image h p ≡ 0
  unfolding address_of h made_inode
  none p = ap (λ b. cond b (place_of image h p) 0) used ∙ none_in h refl refl refl p

  good : IsGood h
  unfolding h made_inode
  good = record {
    kind = (λ z. (type z == 4) || ((type z == 8) || (type z == 10)));
    length = size;
    link = λ e. absurd (eight_ten type e);
    directory = λ e. absurd (eight_four type e);
  }
    where
      eight_ten : {t : ℕ} → t ≡ 8 → t ≡ 10 → ⊥
      eight_ten a b = omega arith

      eight_four : {t : ℕ} → t ≡ 8 → t ≡ 4 → ⊥
      eight_four a b = omega arith

  no_body : body_of image h (address_of image h) ≡ empty
  unfolding body_of
  no_body = ap (λ b. cond b empty (tabulated (λ k. held image h.size k (address_of image h (Body k))) (sectors_of h.size))) file
      ∙ tabulated_same (λ k. held image h.size k (address_of image h (Body k))) (λ k. None) (sectors_of h.size) (λ k lt. ap (held image h.size k) (none (Body k))) ∙ all_none (sectors_of h.size)

  pub made-is_new : IsNewFile image i (made_inode m generation) m
  unfolding h made_inode
  made-is_new = record {
    placed = placed-none image i h (λ u. good) file none;
    used = used;
    file = file;
    one_link = one;
    is = λ z. record (record m { nlink = links (tree (frame image)) i; slots = (tree (frame image)).slots i }) {
      kind = ((ap kind_of type) ∙ sym regular) z;
      mode = ((ap (λ x. x % 4096) the_mode) ∙ (let e : (32768 + m.mode) % 4096 ≡ m.mode = omega arith in e)) z;
      sectors = (no_body ∙ sym sectors) z;
    };
    link = one;
    no_slots = slots;
  }

  -- it has no blocks
  pub made-bare : (p : Place) → address_of image (head_of (made_inode m generation)) p ≡ 0
  unfolding h
  made-bare = none
