-- The blocks at the places of an inode, and what is free once a node ended.
use Rattle.std.proofs.Common.{◌≡◌, ◌≢◌, ℕ, ◌+◌, Bool, true, false, ◌||◌, ◌==◌, List, [], ◌∷◌, ◌++◌, get_or, refl, sym, ap, subst, ◌∙◌, arith, ⊎_elim, eqb, eq-eqb}
use Rattle.std.proofs.lemmas.Bool.{cases_eq, eqb-true}
use Rattle.std.proofs.lemmas.List.Folds.{list_any-append}
use Rattle.files_model.specs.Among.{is_among}
use Rattle.stable.specs.Store.{Image}
use Rattle.v7_layout.specs.declared.inode.Inode.{Inode}
use Rattle.v7_map.specs.Damage.{place_at}
use Rattle.v7_map.specs.Frame.{Place, head_of, address_of, frame}
use Rattle.v7_map.specs.Image.{inode_at}
use Rattle.v7_read.specs.Places.{ArePlaces}
use Rattle.v7_map.specs.Weak.{IsStrong}
use Rattle.v7_map.proofs.AnyFrame.{frame-IsFrame}
use Rattle.v7_map.proofs.PlaceIndex.{index_of, index_found}
use Rattle.v7_map.proofs.Walks.{or_cases}
use Rattle.name_plans.specs.Removed.{AreFreed}
use Rattle.plan_name.specs.Freeing.{AreBlocksOf, Frees}

or_true : (t : Bool) → (t || true) ≡ true
or_true true = refl
or_true false = refl

module _ (places : List ℕ) where
  pub blocks-none : AreBlocksOf places 0 []
  blocks-none = record { each = λ n lt nz. absurd (omega arith); only = λ b h. absurd (cc) }

  module _ (i : ℕ) (bs : List ℕ) (x : AreBlocksOf places i bs) where
    pub blocks-same : get_or places i 0 ≡ 0 → AreBlocksOf places (i + 1) bs
    blocks-same zero' = record {
      each = λ n lt nz. ⊎_elim
          (λ (e : n ≡ i). absurd (nz (ap (λ q. get_or places q 0) e ∙ zero')))
          (λ (ne : n ≢ i). x.each n (omega arith) nz)
          (cases_eq n i);
      only = λ b h. let r = x.only b h in let lt = r.1 in (r.0, omega arith, r.2, r.3);
    }

    pub blocks-more : get_or places i 0 ≢ 0 → (more : List ℕ) → more ≡ bs ++ get_or places i 0 ∷ [] → AreBlocksOf places (i + 1) more
    blocks-more some more is = record {
      each = λ n lt nz. split (get_or places n 0) ∙ ⊎_elim
          (λ (e : n ≡ i). ap (λ t. is_among (get_or places n 0) bs || (t || false)) (eq-eqb (get_or places i 0) (get_or places n 0) (ap (λ q. get_or places q 0) (sym e))) ∙ or_true (is_among (get_or places n 0) bs))
          (λ (ne : n ≢ i). ap (λ t. t || (eqb (get_or places i 0) (get_or places n 0) || false)) (x.each n (omega arith) nz))
          (cases_eq n i);
      only = λ b h. ⊎_elim
          (λ (old : is_among b bs ≡ true). let r = x.only b old in let lt = r.1 in (r.0, omega arith, r.2, r.3))
          (λ (new : (eqb (get_or places i 0) b || false) ≡ true). (i, omega arith, some, eqb-true (get_or places i 0) b (sym (or_no (eqb (get_or places i 0) b)) ∙ new)))
          (or_cases (is_among b bs) (eqb (get_or places i 0) b || false) (sym (split b) ∙ h));
    }
      where
        split : (a : ℕ) → is_among a more ≡ (is_among a bs || (eqb (get_or places i 0) a || false))
        split a = ap (is_among a) is ∙ list_any-append (λ q. q == a) bs (get_or places i 0 ∷ [])

        or_no : (t : Bool) → (t || false) ≡ t
        or_no true = refl
        or_no false = refl

-- ---- of an inode

pub frees-all : (image : Image) (inode : Inode) (places blocks : List ℕ) → ArePlaces image inode places → AreBlocksOf places 139 blocks → Frees image inode true blocks
frees-all image inode places blocks are x = record {
  each = λ _ n lt nz. subst (λ a. is_among a blocks ≡ true) (are.each n (omega arith)) (x.each n lt (λ z. nz (sym (are.each n (omega arith)) ∙ z)));
  only = λ b h. let r = x.only b h in let lt = r.1 in let same = are.each r.0 (omega arith) in (refl, (r.0, lt, (λ z. r.2 (same ∙ z)), sym same ∙ r.3));
}

pub frees-none : (image : Image) (inode : Inode) → Frees image inode false []
frees-none image inode = record { each = λ e. absurd (cc); only = λ b h. absurd (cc) }

-- of an inode of a volume with nothing to mend these are all its blocks
pub freed-of : (image : Image) (i : ℕ) (ended : Bool) (blocks : List ℕ) → IsStrong (frame image) → Frees image (inode_at image i) ended blocks → AreFreed ended (frame image) i blocks
unfolding frame
freed-of image i ended blocks strong x = record {
  each = λ e p nz. each e p nz;
  only = λ b h. let r = x.only b h in (r.0, (place_at r.1.0, r.1.2, r.1.3));
}
  where
    each : ended ≡ true → (p : Place) → address_of image (head_of (inode_at image i)) p ≢ 0 → is_among (address_of image (head_of (inode_at image i)) p) blocks ≡ true
    each e p nz =
        let can = ((frame-IsFrame image).places i p nz).1 in
        let at = index_found p can in
        ⊎_elim
        (λ (d : index_of p ≡ 139). absurd (nz (ap (address_of image (head_of (inode_at image i))) (sym at.1 ∙ ap place_at d) ∙ strong.weak.no_double i)))
        (λ (nd : index_of p ≢ 139). let lt = at.0 in
        subst (λ q. is_among (address_of image (head_of (inode_at image i)) q) blocks ≡ true) at.1
        (x.each e (index_of p) (omega arith) (λ z. nz (ap (address_of image (head_of (inode_at image i))) (sym at.1) ∙ z))))
        (cases_eq (index_of p) 139)
