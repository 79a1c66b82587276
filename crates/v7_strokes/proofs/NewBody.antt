-- The inode of a new directory whose first sector was put into a free block.
use Rattle.std.proofs.Common.{◌≡◌, ◌≢◌, ◌⊎◌, ℕ, zero, suc, ◌+◌, ◌-◌, ◌*◌, ◌/◌, ◌%◌, ◌<◌, ◌≤◌, Bool, true, false, cond, not, ◌||◌, ◌==◌, List, [], ◌∷◌, get_or, replicate, map, length, refl, sym, ap, subst, ◌∙◌, arith, inl, inr, ⊎_elim, ltb, Some, None}
use Rattle.std.proofs.lemmas.Bool.{cases_lt, ne_eqb, le-ltb}
use Rattle.std.specs.List.{range_with_len}
use Rattle.std.specs.FinMap.{empty}
use Rattle.v7_layout.specs.Numbers.{part}
use Rattle.files_model.specs.declared.attributes.Kind.TheVariants.{Directory}
use Rattle.files_model.specs.Files.{Node, Slot}
use Rattle.stable.specs.Store.{Image}
use Rattle.v7_map.specs.Image.{sector_at}
use Rattle.v7_map.specs.Frame.{Head, Place, Body, Single, Double, head_of, is_directory, address_of, place_of, listed, body_places, slots_of, slot_in, slot_of, frame}
use Rattle.v7_sets.specs.Sets.{IsFreeBlock}
use Rattle.v7_map.specs.View.{kind_of}
use Rattle.v7_map.specs.Weak.{IsWeak, IsGood}
use Rattle.v7_strokes.specs.Inodes.{made_inode, type_of}
use Rattle.v7_strokes.specs.NewNodes.{IsNewDirectory}
use Rattle.v7_strokes.specs.Inodes.{placed_inode}
use Rattle.v7_plans.specs.Placed.{IsMine, IsPlaced}
use Rattle.v7_strokes.proofs.GrowStep.{no_body}
use Rattle.v7_strokes.proofs.Exempt.{free-mine}

pub zeros_at : (n k : ℕ) → ◌≡◌ {A = ℕ} (get_or (replicate n 0) k 0) 0
zeros_at zero k = refl
zeros_at (suc n) zero = refl
zeros_at (suc n) (suc k) = zeros_at n k

module _ (image : Image) (i p a generation : ℕ) (m : Node) (weak : IsWeak (frame image)) (free : IsFreeBlock (frame image) a) (kind : m.kind ≡ Directory) (mode : m.mode < 4096) (two : m.nlink ≡ 2) (size : m.size ≡ 32) (sectors : m.sectors ≡ empty)
    (slots : m.slots ≡ Some (i, 46 ∷ []) ∷ Some (p, 46 ∷ 46 ∷ []) ∷ [])
    (first : slot_of (part (sector_at image a) 0 16) ≡ Some (i, 46 ∷ [])) (second : slot_of (part (sector_at image a) 16 16) ≡ Some (p, 46 ∷ 46 ∷ [])) where
  h : Head
  h = head_of (placed_inode m generation a)

  the_mode : (placed_inode m generation a).mode ≡ 16384 + m.mode
  unfolding placed_inode made_inode
  the_mode = ap (λ k. 4096 * type_of k + m.mode) kind

  type : h.type ≡ 4
  unfolding h
  type = ap (λ x. x / 4096) the_mode ∙ (let e : (16384 + m.mode) / 4096 ≡ 4 = omega arith in e)

  used : h.is_used ≡ true
  unfolding h
  used = ap (λ x. not (x == 0)) the_mode ∙ ap not (ne_eqb (16384 + m.mode) 0 (λ e. omega arith))

  dir : is_directory h ≡ true
  dir = ap (λ t. t == 4) type

  long : h.size ≡ 32
  unfolding h placed_inode made_inode
  long = size

  a_is : a ≢ 0
  a_is e = let l = free.low in let s = weak.sizes.low in omega arith

  place : (o : Head) → o.direct ≡ a ∷ replicate 9 0 → o.single ≡ 0 → o.double ≡ 0 → (q : Place) → ((q ≡ Body 0) × (place_of image o q ≡ a)) ⊎ (place_of image o q ≡ 0)
  place o d s e (Body zero) = inl (refl, ap (λ l. get_or l 0 0) d)
  place o d s e (Body (suc k)) = inr (⊎_elim
      (λ (lt : suc k < 10). ap (λ b. cond b (get_or o.direct (suc k) 0) (cond (ltb (suc k) body_places) (listed image o.single (suc k - 10)) 0)) (below (suc k) 10 lt) ∙ ap (λ l. get_or l (suc k) 0) d ∙ zeros_at 9 k)
      (λ (ge : 10 ≤ suc k). ap (λ b. cond b (get_or o.direct (suc k) 0) (cond (ltb (suc k) body_places) (listed image o.single (suc k - 10)) 0)) (le-ltb (suc k) 10 ge) ∙ ap (λ a. cond (ltb (suc k) body_places) (listed image a (suc k - 10)) 0) s ∙ both (ltb (suc k) body_places))
      (cases_lt (suc k) 10))
    where
      both : (b : Bool) → ◌≡◌ {A = ℕ} (cond b 0 0) 0
      both true = refl
      both false = refl

      below : (a b : ℕ) → a < b → ltb a b ≡ true
      below a b lt = grind arith
  place o d s e Single = inr s
  place o d s e Double = inr e

  address : (q : Place) → ((q ≡ Body 0) × (address_of image h q ≡ a)) ⊎ (address_of image h q ≡ 0)
  unfolding address_of h placed_inode made_inode
  address q = ⊎_elim
      (λ (x : (q ≡ Body 0) × (place_of image h q ≡ a)). inl (x.0, ap (λ b. cond b (place_of image h q) 0) used ∙ x.1))
      (λ (x : place_of image h q ≡ 0). inr (ap (λ b. cond b (place_of image h q) 0) used ∙ x))
      (place h refl refl refl q)

  at_zero : address_of image h (Body 0) ≡ a
  unfolding address_of h placed_inode made_inode
  at_zero = ap (λ b. cond b (place_of image h (Body 0)) 0) used

  held_is : (q : Place) → address_of image h q ≢ 0 → (q ≡ Body 0) × (address_of image h q ≡ a)
  held_is q nz = ⊎_elim (λ (x : (q ≡ Body 0) × (address_of image h q ≡ a)). x) (λ (z : address_of image h q ≡ 0). absurd (nz z)) (address q)

  not_held : (q : Place) → (q ≡ Body 0 → ⊥) → address_of image h q ≡ 0
  not_held q ne = ⊎_elim (λ (x : (q ≡ Body 0) × (address_of image h q ≡ a)). absurd (ne x.0)) (λ (z : address_of image h q ≡ 0). z) (address q)

  good : IsGood h
  good = record {
    kind = (λ z. (type z == 4) || ((type z == 8) || (type z == 10)));
    length = let l = long in omega arith;
    link = λ e. let t = type in absurd (omega arith);
    directory = λ e. let l = long in (omega arith, omega arith);
  }

  abbrev number_of_place : Place → ℕ
  number_of_place (Body k) = k
  number_of_place Single = 1
  number_of_place Double = 1

  pub new-placed : IsPlaced image i (head_of (placed_inode m generation a))
  unfolding h
  new-placed = record {
    good = λ u. good;
    mine = λ q nz. subst (IsMine (frame image) i) (sym (held_is q nz).1) (free-mine (frame image) i a free);
    needed = λ k d lt z. let l = long in let zero' : k ≡ 0 = omega arith in a_is (sym at_zero ∙ ap (λ j. address_of image h (Body j)) (sym zero') ∙ z);
    apart = λ q r nz same. (held_is q nz).0 ∙ sym (held_is r (λ z. nz (same ∙ z))).0;
    no_double = not_held Double (λ e. cc);
    past = λ k le. not_held (Body k) (λ e. let l = long in let zero' : k ≡ 0 = ap number_of_place e in absurd (omega arith));
    single = λ nz. absurd (nz (not_held Single (λ e. cc)));
  }

  the_slots : slots_of image h ≡ Some (i, 46 ∷ []) ∷ Some (p, 46 ∷ 46 ∷ []) ∷ []
  unfolding slots_of
  the_slots = ap (λ b. cond b (map (slot_in image h) (range_with_len 0 (h.size / 16))) []) dir ∙ ap (λ s. map (slot_in image h) (range_with_len 0 (s / 16))) long
      ∙ (λ z. (ap (λ b. slot_of (part (sector_at image b) 0 16)) at_zero ∙ first) z ∷ (ap (λ b. slot_of (part (sector_at image b) 16 16)) at_zero ∙ second) z ∷ [])

  nothing : (xs : List Slot) → length xs ≡ 2 → (l : ℕ) → 2 ≤ l → get_or xs l None ≡ None
  nothing [] e l le = absurd (omega arith)
  nothing (x ∷ []) e l le = absurd (omega arith)
  nothing (x ∷ y ∷ []) e zero le = absurd (omega arith)
  nothing (x ∷ y ∷ []) e (suc zero) le = absurd (omega arith)
  nothing (x ∷ y ∷ []) e (suc (suc l)) le = refl
  nothing (x ∷ y ∷ z ∷ zs) e l le = absurd (omega arith)

  pub new-directory : IsNewDirectory image p i (placed_inode m generation a) m
  unfolding h placed_inode made_inode
  new-directory = record {
    placed = new-placed;
    used = used;
    dir = dir;
    two_links = two;
    dot = ap (λ x. get_or x 0 None) the_slots;
    dots = ap (λ x. get_or x 1 None) the_slots;
    nothing = λ l le. nothing (slots_of image h) (ap length the_slots) l le;
    is = λ z. record m {
      kind = ((ap kind_of type) ∙ sym kind) z;
      mode = ((ap (λ x. x % 4096) the_mode) ∙ (let e : (16384 + m.mode) % 4096 ≡ m.mode = omega arith in e)) z;
      nlink = sym two z;
      sectors = (no_body image h (address_of image h) dir ∙ sym sectors) z;
      slots = (the_slots ∙ sym slots) z;
    };
  }
