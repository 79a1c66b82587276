-- Places that are laid out are a layout.
use Rattle.std.proofs.Common.{◌≡◌, ◌≢◌, ◌⊎◌, ℕ, ◌<◌, ◌≤◌, Bool, true, false, cond, not, ◌&&◌, ◌==◌, List, get_or, refl, sym, ap, ◌∙◌, arith, inl, inr, ⊎_elim, eq-eqb, leb, Some, None, is_some}
use Rattle.std.proofs.lemmas.Bool.{cases_eq, cases_lt, cases_Bool, ne_eqb, eqb-true, lt-ltb, le-ltb, le-leb, leb-true}
use Rattle.std.specs.List.{range_with_len, list_any}
use Rattle.std.specs.FinMap.{get}
use Rattle.files_model.specs.declared.attributes.Kind.TheVariants.{Regular}
use Rattle.files_model.specs.Among.{is_among}
use Rattle.files_model.specs.Batch.{IsRewrite}
use Rattle.files_model.specs.Files.{Node, sectors_of}
use Rattle.files_model.specs.Space.{is_held}
use Rattle.v7_map.specs.Frame.{Frame, Place, Body, Single, Double, IsFrame}
use Rattle.plan_file.specs.Free.{AreFree}
use Rattle.v7_map.specs.Weak.{IsStrong}
use Rattle.v7_map.proofs.Frames.{and_left, and_right}
use Rattle.v7_space.proofs.Space.{among-within}
use Rattle.v7_map.proofs.Walks.{among, any_found, any_at, among-range, and_both}
use Rattle.plan_file.specs.declared.places.Places.{Places}
use Rattle.plan_file.specs.Draft.{holds}
use Rattle.index_sets.specs.Free.{is_free}
use Rattle.plan_file.specs.Layout.{is_new, AreLaidOut, placed_at}
use Rattle.plan_file.specs.Rewrite.{IsLayout}
use Rattle.plan_file.proofs.Batch.{held_regular}

module _ (f : Frame) (i : ℕ) (strong : IsStrong f) (is_frame : IsFrame f) (old new : Node) (ks : List ℕ) (places target : Places) (set' held : List Bool) (mapped : Bool)
    (at_body : (k : ℕ) → k < 138 → get_or places.body k 0 ≡ f.address i (Body k)) (at_single : places.single ≡ f.address i Single)
    (laid : AreLaidOut set' places held mapped target) (are : AreFree f set') (re : IsRewrite old new ks) (regular : new.kind ≡ Regular)
    (held_is : (k : ℕ) → k < 138 → holds held k ≡ is_some (get new.sectors k))
    (mapped_is : mapped ≡ list_any (λ k. leb 10 k && is_held new k) (range_with_len 0 (sectors_of new.size)))
    (old_none : (k : ℕ) → f.address i (Body k) ≡ 0 → is_some (get old.sectors k) ≡ false) where
  place_is : (k : ℕ) → k < 138 → placed_at target (Body k) ≡ get_or target.body k 0
  place_is k lt = ap (λ t. cond t (get_or target.body k 0) 0) (lt-ltb k 138 lt)

  pub layout-past : (k : ℕ) → 138 ≤ k → placed_at target (Body k) ≡ 0
  layout-past k ge = ap (λ t. cond t (get_or target.body k 0) 0) (le-ltb k 138 ge)

  within : (k : ℕ) → placed_at target (Body k) ≢ 0 → k < 138
  within k nz = ⊎_elim (λ (lt : k < 138). lt) (λ (ge : 138 ≤ k). absurd (nz (layout-past k ge))) (cases_lt k 138)

  new_below : (k : ℕ) → is_some (get new.sectors k) ≡ true → k < 138
  new_below k h = elim (get new.sectors k) as (λ o. get new.sectors k ≡ o → is_some o ≡ true → k < 138) [ None ↦ λ e h. absurd (cc) | Some b ↦ λ e h. let lt : k < sectors_of new.size = re.body.below k b e in let w = re.within in omega arith ] refl h

  -- what is new has no block, and is held
  new_no_block : (k : ℕ) → k < 138 → is_new places.body held k ≡ true → f.address i (Body k) ≡ 0
  new_no_block k lt e = sym (at_body k lt) ∙ eqb-true (get_or places.body k 0) 0 (and_right (holds held k) (get_or places.body k 0 == 0) e)

  is_new-of : (k : ℕ) → k < 138 → f.address i (Body k) ≡ 0 → is_some (get new.sectors k) ≡ true → is_new places.body held k ≡ true
  is_new-of k lt z some = and_both (holds held k) _ (held_is k lt ∙ some) (eq-eqb (get_or places.body k 0) 0 (at_body k lt ∙ z))

  stays : (k : ℕ) → k < 138 → f.address i (Body k) ≢ 0 → placed_at target (Body k) ≡ f.address i (Body k)
  stays k lt nz = place_is k lt ∙ laid.body.old k (⊎_elim (λ (h : is_new places.body held k ≡ true). absurd (nz (new_no_block k lt h))) (λ (h : is_new places.body held k ≡ false). h) (cases_Bool (is_new places.body held k))) ∙ at_body k lt

  from_new : (k : ℕ) → k < 138 → is_new places.body held k ≡ true → is_free set' (placed_at target (Body k)) ≡ true
  from_new k lt e = ap (is_free set') (place_is k lt) ∙ laid.body.there k lt e

  nonzero : (a : ℕ) → is_free set' a ≡ true → a ≢ 0
  nonzero a h z = let low = (are.free a h).low in let three = strong.weak.sizes.low in omega arith

  -- whatever is in the layout stays or was free
  from_where : (p : Place) → placed_at target p ≢ 0 → ((f.address i p ≢ 0) × (placed_at target p ≡ f.address i p)) ⊎ ((f.address i p ≡ 0) × (is_free set' (placed_at target p) ≡ true))
  from_where (Body k) nz = let lt = within k nz in ⊎_elim
      (λ (h : is_new places.body held k ≡ true). inr (new_no_block k lt h, from_new k lt h))
      (λ (h : is_new places.body held k ≡ false). let same : placed_at target (Body k) ≡ f.address i (Body k) = place_is k lt ∙ laid.body.old k h ∙ at_body k lt in inl ((λ z. nz (same ∙ z)), same))
      (cases_Bool (is_new places.body held k))
  from_where Single nz = ⊎_elim
      (λ (z : f.address i Single ≡ 0). ⊎_elim
      (λ (m : mapped ≡ true). inr (z, (laid.single_new (at_single ∙ z) m).0))
      (λ (m : mapped ≡ false). absurd (nz (laid.single_none m ∙ at_single ∙ z)))
      (cases_Bool mapped))
      (λ (h : f.address i Single ≢ 0). inl (h, laid.single_old (λ z. h (sym at_single ∙ z)) ∙ at_single))
      (cases_eq (f.address i Single) 0)
  from_where Double nz = absurd (nz refl)

  -- a new block of a sector
  new_of : (k : ℕ) → f.address i (Body k) ≡ 0 → placed_at target (Body k) ≢ 0 → (k < 138) × (is_new places.body held k ≡ true)
  new_of k z nz = let lt = within k nz in (lt, ⊎_elim (λ (h : is_new places.body held k ≡ true). h) (λ (h : is_new places.body held k ≡ false). absurd (nz (place_is k lt ∙ laid.body.old k h ∙ at_body k lt ∙ z))) (cases_Bool (is_new places.body held k)))

  mapped_new : f.address i Single ≡ 0 → target.single ≢ 0 → mapped ≡ true
  mapped_new z nz = ⊎_elim (λ (m : mapped ≡ true). m) (λ (m : mapped ≡ false). absurd (nz (laid.single_none m ∙ at_single ∙ z))) (cases_Bool mapped)

  both_bodies : (k l : ℕ) → f.address i (Body k) ≡ 0 → f.address i (Body l) ≡ 0 → placed_at target (Body k) ≢ 0 → placed_at target (Body k) ≡ placed_at target (Body l) → k ≡ l
  both_bodies k l z y nz e =
      let a = new_of k z nz in let b = new_of l y (λ q. nz (e ∙ q)) in
      let same : get_or target.body k 0 ≡ get_or target.body l 0 = sym (place_is k a.0) ∙ e ∙ place_is l b.0 in
      ⊎_elim
      (λ (lt : k < l). let r = laid.body.rise k l lt b.0 a.1 b.1 in absurd (omega arith))
      (λ (ge : l ≤ k). ⊎_elim (λ (q : k ≡ l). q) (λ (ne : k ≢ l). let r = laid.body.rise l k (omega arith) a.0 b.1 a.1 in absurd (omega arith)) (cases_eq k l))
      (cases_lt k l)

  body_single : (k : ℕ) → f.address i (Body k) ≡ 0 → f.address i Single ≡ 0 → placed_at target (Body k) ≢ 0 → placed_at target (Body k) ≡ target.single → ⊥
  body_single k z y nz e =
      let a = new_of k z nz in
      let m = mapped_new y (λ q. nz (e ∙ q)) in
      let low = laid.body.low k a.0 a.1 in
      let s = laid.single_new (at_single ∙ y) m in
      let from : laid.from ≤ target.single = s.1 in
      let same : get_or target.body k 0 ≡ target.single = sym (place_is k a.0) ∙ e in omega arith

  both_new : (p q : Place) → f.address i p ≡ 0 → f.address i q ≡ 0 → placed_at target p ≢ 0 → placed_at target p ≡ placed_at target q → p ≡ q
  both_new (Body k) (Body l) z y nz e = ap Body (both_bodies k l z y nz e)
  both_new (Body k) Single z y nz e = absurd (body_single k z y nz e)
  both_new (Body k) Double z y nz e = absurd (nz e)
  both_new Single (Body l) z y nz e = absurd (body_single l y z (λ q. nz (e ∙ q)) (sym e))
  both_new Single Single z y nz e = refl
  both_new Single Double z y nz e = absurd (nz e)
  both_new Double q z y nz e = absurd (nz refl)

  all_apart : (p q : Place) → placed_at target p ≢ 0 → placed_at target p ≡ placed_at target q → p ≡ q
  all_apart p q nz e =
      ⊎_elim
      (λ (a : (f.address i p ≢ 0) × (placed_at target p ≡ f.address i p)). ⊎_elim
      (λ (b : (f.address i q ≢ 0) × (placed_at target q ≡ f.address i q)). (strong.weak.unshared i i p q a.0 (sym a.1 ∙ e ∙ b.1)).1)
      (λ (b : (f.address i q ≡ 0) × (is_free set' (placed_at target q) ≡ true)). absurd ((are.free (placed_at target q) b.1).nowhere i p (sym a.1 ∙ e)))
      (from_where q (λ z. nz (e ∙ z))))
      (λ (a : (f.address i p ≡ 0) × (is_free set' (placed_at target p) ≡ true)). ⊎_elim
      (λ (b : (f.address i q ≢ 0) × (placed_at target q ≡ f.address i q)). absurd ((are.free (placed_at target p) a.1).nowhere i q (sym b.1 ∙ sym e)))
      (λ (b : (f.address i q ≡ 0) × (is_free set' (placed_at target q) ≡ true)). both_new p q a.0 b.0 nz e)
      (from_where q (λ z. nz (e ∙ z))))
      (from_where p nz)

  -- sector k is held afterwards exactly where it has a block
  there : (k : ℕ) → is_some (get new.sectors k) ≡ true → placed_at target (Body k) ≢ 0
  there k some = let lt = new_below k some in ⊎_elim
      (λ (z : f.address i (Body k) ≡ 0) q. nonzero (placed_at target (Body k)) (from_new k lt (is_new-of k lt z some)) q)
      (λ (h : f.address i (Body k) ≢ 0) q. h (sym (stays k lt h) ∙ q))
      (cases_eq (f.address i (Body k)) 0)

  -- a block of addresses stands where it is needed
  single_there : mapped ≡ true → target.single ≢ 0
  single_there m = ⊎_elim
      (λ (z : f.address i Single ≡ 0) q. nonzero target.single (laid.single_new (at_single ∙ z) m).0 q)
      (λ (h : f.address i Single ≢ 0) q. h (sym (laid.single_old (λ z. h (sym at_single ∙ z)) ∙ at_single) ∙ q))
      (cases_eq (f.address i Single) 0)

  mapped_by : (k : ℕ) → 10 ≤ k → is_some (get new.sectors k) ≡ true → mapped ≡ true
  unfolding among
  mapped_by k ge some =
      let below = elim (get new.sectors k) as (λ o. get new.sectors k ≡ o → is_some o ≡ true → k < sectors_of new.size) [ None ↦ λ e h. absurd (cc) | Some b ↦ λ e h. re.body.below k b e ] refl some in
      mapped_is ∙ any_at (λ k. leb 10 k && is_held new k) (range_with_len 0 (sectors_of new.size)) k (among-range k 0 (sectors_of new.size) (omega arith) (omega arith)) (and_both (leb 10 k) _ (le-leb 10 k ge) (held_regular new k regular ∙ some))

  pub laid-IsLayout : IsLayout f i ks (placed_at target)
  unfolding among
  laid-IsLayout = record {
    kept = λ p. by_place p;
    fresh = λ p z nz. ⊎_elim (λ (a : (f.address i p ≢ 0) × (placed_at target p ≡ f.address i p)). absurd (a.0 z)) (λ (a : (f.address i p ≡ 0) × (is_free set' (placed_at target p) ≡ true)). are.free (placed_at target p) a.1) (from_where p nz);
    apart = all_apart;
    held = λ k e. there k (re.held k e);
    added = λ k z nz. let a = new_of k z nz in ⊎_elim
        (λ (h : is_among k ks ≡ true). h)
        (λ (h : is_among k ks ≡ false).
        let some : is_some (get new.sectors k) ≡ true = sym (held_is k a.0) ∙ and_left (holds held k) (get_or places.body k 0 == 0) a.1 in
        let none : is_some (get new.sectors k) ≡ false = ap is_some (re.kept k h) ∙ old_none k z in absurd (cc))
        (cases_Bool (is_among k ks));
    past = layout-past;
    mapped = λ k ge nz. ⊎_elim
        (λ (z : f.address i (Body k) ≡ 0). let a = new_of k z nz in single_there (mapped_by k ge (sym (held_is k a.0) ∙ and_left (holds held k) (get_or places.body k 0 == 0) a.1)))
        (λ (h : f.address i (Body k) ≢ 0) q. ⊎_elim
        (λ (y : f.address i Single ≡ 0). h (is_frame.through i k ge y))
        (λ (s : f.address i Single ≢ 0). s (sym (laid.single_old (λ z. s (sym at_single ∙ z)) ∙ at_single) ∙ q))
        (cases_eq (f.address i Single) 0))
        (cases_eq (f.address i (Body k)) 0);
    map_needed = λ nz. ⊎_elim
        (λ (z : f.address i Single ≡ 0). by_mapped (mapped_new z nz))
        (λ (h : f.address i Single ≢ 0).
        let r = any_found (λ k. not (f.address i (Body k) == 0)) (range_with_len 10 128) (strong.single_needed i h) in
        let w = among-within r.0 10 128 r.1 in
        let has_block : f.address i (Body r.0) ≢ 0 = λ z. clash (f.address i (Body r.0) == 0) (eq-eqb _ 0 z) r.2 in
        at r.0 r.1 (λ z. has_block (sym (stays r.0 w.1 has_block) ∙ z)))
        (cases_eq (f.address i Single) 0);
    double = refl;
  }
    where
      clash : (t : Bool) → t ≡ true → not t ≡ true → ⊥
      clash true x y = cc
      clash false x y = cc

      at : (k : ℕ) → is_among k (range_with_len 10 128) ≡ true → placed_at target (Body k) ≢ 0 → list_any (λ k. not (placed_at target (Body k) == 0)) (range_with_len 10 128) ≡ true
      at k in' nz = any_at (λ k. not (placed_at target (Body k) == 0)) (range_with_len 10 128) k in' (ap not (ne_eqb (placed_at target (Body k)) 0 nz))

      by_mapped : mapped ≡ true → list_any (λ k. not (placed_at target (Body k) == 0)) (range_with_len 10 128) ≡ true
      by_mapped m =
          let r = any_found (λ k. leb 10 k && is_held new k) (range_with_len 0 (sectors_of new.size)) (sym mapped_is ∙ m) in
          let ge : 10 ≤ r.0 = leb-true 10 r.0 (and_left (leb 10 r.0) _ r.2) in
          let some : is_some (get new.sectors r.0) ≡ true = sym (held_regular new r.0 regular) ∙ and_right (leb 10 r.0) (is_held new r.0) r.2 in
          let lt = new_below r.0 some in
          at r.0 (among-range r.0 10 128 ge (omega arith)) (there r.0 some)

      by_place : (p : Place) → f.address i p ≢ 0 → placed_at target p ≡ f.address i p
      by_place (Body k) nz = stays k (is_frame.places i (Body k) nz).1 nz
      by_place Single nz = laid.single_old (λ z. nz (sym at_single ∙ z)) ∙ at_single
      by_place Double nz = absurd (nz (strong.weak.no_double i))

  -- where no address past the tenth changes, the block of addresses stays too
  pub single-same : ((k : ℕ) → 10 ≤ k → k < 138 → get_or target.body k 0 ≡ get_or places.body k 0) → target.single ≡ f.address i Single
  single-same same = ⊎_elim
      (λ (z : f.address i Single ≡ 0). ⊎_elim
      (λ (m : mapped ≡ true).
      let r = any_found (λ k. leb 10 k && is_held new k) (range_with_len 0 (sectors_of new.size)) (sym mapped_is ∙ m) in
      let ge : 10 ≤ r.0 = leb-true 10 r.0 (and_left (leb 10 r.0) _ r.2) in
      let some : is_some (get new.sectors r.0) ≡ true = sym (held_regular new r.0 regular) ∙ and_right (leb 10 r.0) (is_held new r.0) r.2 in
      let lt = new_below r.0 some in
      absurd (there r.0 some (place_is r.0 lt ∙ same r.0 ge lt ∙ at_body r.0 lt ∙ is_frame.through i r.0 ge z)))
      (λ (m : mapped ≡ false). laid.single_none m ∙ at_single)
      (cases_Bool mapped))
      (λ (h : f.address i Single ≢ 0). laid.single_old (λ z. h (sym at_single ∙ z)) ∙ at_single)
      (cases_eq (f.address i Single) 0)
